-- The numbers of a refusal can be read back from its text.
use Rattle.std.proofs.Common.{◌≡◌, ap, ◌∙◌, ℕ, ◌+◌, ◌<◌, List, [], ◌∷◌, ◌++◌, length, drop, append_assoc, length-append, arith, pos}
use lib.Seq.{take-append_seam, drop-append_seam}
use Rattle.sheet.specs.Answers.{Refusal, Number}
use Rattle.sheet.specs.Number.{field_at}
use Rattle.sheet.specs.Text.{numeral, line}
use Rattle.sheet.proofs.Numeral.{field_complete}
use Rattle.listing.specs.Listing.{refusal_names, refusal_text}
use Rattle.formulas.proofs.AnswerSize.{Small}
use Rattle.formula.specs.Printed.{ReadsBack}

-- two numbers behind some names
module _ (names : List ℕ) (n p : ℕ) (n_short : n < 10000000000) (p_short : p < 10000000000) where
  abbrev number : List ℕ
  number = numeral (pos n)

  abbrev behind : List ℕ
  behind = numeral (pos p) ++ (10 ∷ [])

  abbrev text : List ℕ
  text = names ++ (number ++ (32 ∷ behind))

  abbrev middle : ℕ
  middle = length names + length number + 1

  first_back : field_at text (length names) 32 ≡ Number (pos n) middle
  first_back = field_complete text (length names) 32 (pos n) behind n_short (omega arith) (drop-append_seam names (number ++ (32 ∷ behind)))

  second_there : drop middle text ≡ behind
  second_there =
      let before : List ℕ = names ++ (number ++ (32 ∷ [])) in
      let split : before ++ behind ≡ text = append_assoc names (number ++ (32 ∷ [])) behind ∙ ap (λ (l : List ℕ). names ++ l) (append_assoc number (32 ∷ []) behind) in
      let at : middle ≡ length before = omega (arith, length-append names (number ++ (32 ∷ [])), length-append number (32 ∷ [])) in
      rw (at, ← split) (drop-append_seam before behind)

  second_back : field_at text middle 10 ≡ Number (pos p) (length text)
  second_back =
      let place : List ℕ = numeral (pos p) in
      let all : middle + length place + 1 ≡ length text =
      omega (arith, length-append names (number ++ (32 ∷ behind)), length-append number (32 ∷ behind), length-append place (10 ∷ [])) in
      rw (← all) (field_complete text middle 10 (pos p) [] p_short (omega arith) second_there)

pub reads_back : (r : Refusal) → Small r → ReadsBack r (refusal_text r)
unfolding refusal_text line
reads_back r small =
    let n_short : r.number < 10000000000 = omega (arith, small.number_small) in
    let p_short : r.place < 10000000000 = omega (arith, small.place_small) in
    record {
      named = take-append_seam refusal_names (numeral (pos r.number) ++ (32 ∷ (numeral (pos r.place) ++ (10 ∷ []))));
      middle = middle refusal_names r.number r.place n_short p_short;
      number = first_back refusal_names r.number r.place n_short p_short;
      place = second_back refusal_names r.number r.place n_short p_short;
    }
