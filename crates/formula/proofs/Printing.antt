-- What the program makes ready, by how the reading of the formula ended: the text fits, and it is that of the whole formula.
use mathlib.Core.Path.{◌≡◌, sym, ap, ◌∙◌}
use mathlib.Core.List.{List}
use Prim.Native.Nat.{ℕ, ◌≤◌, ◌<◌}
use native.Mathlib.Nat.{zero-add}
use native.Mathlib.Omega.{arith}
use borrow.Author.Tests.{eq-eqb, ne_eqb}
use lib.ListN.{length, take}
use Rattle.std.specs.Prelude.{◌≢◌, Ok, Err}
use Rattle.sheet.specs.Causes.{accepted}
use Rattle.sheet.specs.Writing.{test_of, sheet_text, Written}
use Rattle.sheet.specs.Wrote.{Wrote}
use Rattle.sheet.specs.Answers.{Refusal, ReadAnswer, WriteAnswer}
use Rattle.sheet.specs.Results.{refusal_of, read_answer}
use Rattle.sheet.specs.declared.Schedule.{Schedule}
use Rattle.sheet.specs.declared.causes.Refused.{Refused}
use Rattle.sheet.proofs.Results.{read_zero, read_some}
use Rattle.sheet.proofs.SheetLength.{sheet_short}
use Rattle.std.proofs.Math.Seq.{length-sets}
use Rattle.sheet.proofs.SheetWrite.{take_sets, write_done}
use Rattle.listing.specs.Listing.{refusal_text}
use Rattle.listing.specs.Listed.{text_room}
use Rattle.listing.proofs.TextFits.{refusal_fits}
use Rattle.formulas.specs.Answer.{answer_of}
use Rattle.formulas.specs.declared.InputBlock.{InputBlock}
use Rattle.formulas.proofs.BeginningTells.{beginning_tells}
use Rattle.formulas.proofs.AnswerSize.{answer_small}
use Rattle.formula.specs.Printed.{printed, Printed, ReadsBack}
use Rattle.formula.proofs.Legible.{reads_back}

refused_text : (b : InputBlock) (l : List ℕ) → ((answer_of b l).refusal.number ≡ 0 → ⊥) → printed b l ≡ refusal_text (answer_of b l).refusal
unfolding printed
refused_text b l e = rw (ne_eqb _ 0 e)

accepted_text : (b : InputBlock) (l : List ℕ) → (answer_of b l).refusal.number ≡ 0 → printed b l ≡ sheet_text (answer_of b l).schedule
unfolding printed
accepted_text b l e = rw (eq-eqb _ 0 e)

-- the bytes that are written are those that the text begins with
pub front : {end : ℕ} {before after xs : List ℕ} → Wrote before after 0 end xs → end ≤ length after → take end after ≡ xs
front {end} {before} {after} {xs} w within =
    let at : end ≡ length xs = omega (arith, w.ends) in
    let long : length xs ≤ length before = omega (arith, w.ends, within, ap length w.is, length-sets before 0 xs) in
    ap (λ (n : ℕ). take n after) at ∙ ap (take (length xs)) w.is ∙ take_sets xs before long

-- the bytes that were taken say all of the formula
whole_text : (b : InputBlock) (room : ℕ) (taken : List ℕ) → 200 < room → (formula : List ℕ) → take room formula ≡ taken → printed b taken ≡ printed b formula
unfolding printed
whole_text b room taken enough formula e =
    let q : answer_of b taken ≡ answer_of b formula = ap (answer_of b) (sym e) ∙ beginning_tells b formula room enough in
    rw q

-- a schedule that passes was written, whatever the room, if there is enough
wrote_sheet : (c : Schedule) (before after : List ℕ) (w : WriteAnswer) → (test_of c).number ≡ 0 → length (sheet_text c) ≤ length before
    → Written c before after w → Wrote before after 0 w.length (sheet_text c)
wrote_sheet c before after w passes room h =
    let d = write_done c before passes room in
    record {
      ends = ap (λ (a : WriteAnswer). a.length) (h.answers ∙ sym d.0) ∙ sym (zero-add (length (sheet_text c)));
      is = h.leaves ∙ sym d.1;
    }

module _ (b : InputBlock) (room : ℕ) (taken : List ℕ) (before after : List ℕ) (enough : 200 < room) (kept : length after ≡ length before)
    (fits : text_room ≤ length before) where
  -- what was written is printed, if it is the text of the bytes that were taken
  shown : (end : ℕ) (t : List ℕ) → printed b taken ≡ t → length t ≤ text_room → Wrote before after 0 end t → Printed b room taken before after end
  shown end t e short w =
      record { within = omega (arith, w.ends, short, kept, fits); prints = λ formula q. rw (sym (whole_text b room taken enough formula q), e) w }

  pub refusal_shown : (r : Refused) (end : ℕ) → read_answer (Err r) ≡ answer_of b taken → Wrote before after 0 end (refusal_text (refusal_of r))
      → Printed b room taken before after end
  refusal_shown r end e w =
      let is : refusal_of r ≡ (answer_of b taken).refusal = ap (λ (a : ReadAnswer). a.refusal) e in
      shown end (refusal_text (refusal_of r)) (refused_text b taken (read_some r e) ∙ ap refusal_text (sym is)) (refusal_fits (refusal_of r)) w

  pub sheet_shown : (c : Schedule) (w : WriteAnswer) → read_answer (Ok c) ≡ answer_of b taken → test_of c ≡ accepted → Written c before after w
      → Printed b room taken before after w.length
  sheet_shown c w e passing h =
      let d = read_zero c e in
      let z : (answer_of b taken).refusal.number ≡ 0 = ap (λ (r : Refusal). r.number) d.0 in
      let h' : Written (answer_of b taken).schedule before after w = rw d.1 h in
      let told : test_of (answer_of b taken).schedule ≡ accepted = rw d.1 passing in
      let passes = ap (λ (r : Refusal). r.number) told in
      let short = sheet_short (answer_of b taken).schedule passes in
      let long : length (sheet_text (answer_of b taken).schedule) ≤ text_room = omega (arith, short) in
      shown w.length (sheet_text (answer_of b taken).schedule) (accepted_text b taken z) long
      (wrote_sheet (answer_of b taken).schedule before after w passes (omega (arith, long, fits)) h')

-- a refusal that is printed can be read back
pub legible : (b : InputBlock) (formula : List ℕ) → (answer_of b formula).refusal.number ≢ 0 → ReadsBack (answer_of b formula).refusal (printed b formula)
legible b formula e = rw (refused_text b formula e) (reads_back (answer_of b formula).refusal (answer_small b formula))
