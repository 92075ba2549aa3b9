-- What the program makes ready before it writes (manual, section 3.6).
use Rattle.std.specs.Prelude.{◌≡◌, List, ℕ, ◌≤◌, eqb, length, take, pos}
use Rattle.sheet.specs.Choice.{pick}
use Rattle.sheet.specs.Answers.{Refusal, Number}
use Rattle.sheet.specs.Number.{field_at}
use Rattle.sheet.specs.Writing.{sheet_text}
use Rattle.sheet.specs.Wrote.{Wrote}
use Rattle.listing.specs.Listing.{refusal_names, refusal_text}
use Rattle.formulas.specs.Answer.{answer_of}
use Rattle.formulas.specs.declared.InputBlock.{InputBlock}

-- what is printed for a formula: the sheet of its schedule, or its refusal
unfoldable pub printed : InputBlock → List ℕ → List ℕ
printed b formula =
    pick (eqb (answer_of b formula).refusal.number 0) (sheet_text (answer_of b formula).schedule) (refusal_text (answer_of b formula).refusal)

-- `taken` was taken into room for so many bytes, and whatever the formula is of which it is the beginning, all of it that there is room for: what is
-- printed for that formula, be it longer, stands at the start of the text, up to `end`, and every byte behind it is as it was.
pub record Printed (b : InputBlock) (room : ℕ) (taken before after : List ℕ) (end : ℕ) : Type 0 where
  pub within : end ≤ length after
  pub prints : (formula : List ℕ) → take room formula ≡ taken → Wrote before after 0 end (printed b formula)

-- The numbers of a refusal can be read back from a text: it starts with the names, and the number and the place stand behind them, each as a field of a sheet.
pub record ReadsBack (r : Refusal) (text : List ℕ) : Type 0 where
  pub named : take (length refusal_names) text ≡ refusal_names
  pub middle : ℕ
  pub number : field_at text (length refusal_names) 32 ≡ Number (pos r.number) middle
  pub place : field_at text middle 10 ≡ Number (pos r.place) (length text)
