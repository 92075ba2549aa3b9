-- What a text is called: a formula of at most 200 bytes, or the first place where it is none.
use mathlib.Core.Path.{◌≡◌, refl, sym, ap, ◌∙◌}
use mathlib.Core.List.{List, [], ◌∷◌, ◌++◌, append_assoc}
use Prim.Native.Nat.{ℕ, suc, ◌+◌, ◌≤◌, ◌<◌}
use native.Mathlib.Numerals.{add-one}
use native.Mathlib.Omega.{arith}
use borrow.Author.Tests.{ltb-true, ltb-false, le-ltb}
use lib.Dec.{ltb}
use lib.ListN.{length, take, drop, length-append, take-append-drop}
use lib.Seq.{take-append_seam, take-append-add, length-take-le}
use Rattle.sheet.proofs.Choice.{pick_elim}
use Rattle.formulas.specs.Limits.{max_text}
use Rattle.formulas.specs.Grammar.{Tree, Formula}
use Rattle.formulas.specs.Reading.{Open, State, wanting, counting, holding, Outcome, no_formula, tree, broken, next, token_of, ended, ending, reading, start, too_long, formula_of}
use Rattle.formulas.specs.Claims.{Begins, FirstWrong, wrong_byte, stops_short, goes_on}
use Rattle.formulas.proofs.Complete.{formula_read}
use Rattle.formulas.proofs.Sound.{Reached, Ends, at_end, at_byte, reading_ends, read_sound}
use Rattle.formulas.proofs.Begun.{reached_begins, broken_begins_none, no_formula_is}

abbrev pub Judged : ℕ → List ℕ → Outcome → Type 0
Judged inputs s (no_formula place) = FirstWrong inputs s place
Judged inputs s (tree t) = (length s ≤ max_text) × Formula inputs s t

-- ---- a reading that ends with the text tells the place behind it

abbrev Tells : ℕ → Outcome → Type 0
Tells place (no_formula p) = p ≡ place
Tells place (tree t) = Unit {0}

ended_tells : (place : ℕ) (sum : Tree → Tree) (around : List Open) (p : Tree) → Tells place (ended place sum around p)
ended_tells place sum [] p = tt
ended_tells place sum (o ∷ around) p = refl

ending_tells : (place : ℕ) (s : State) → Tells place (ending place s)
ending_tells place (wanting o around) = refl
ending_tells place (counting o around v) = ended_tells place o.sum around _
ending_tells place (holding sum around p) = ended_tells place sum around p

module _ (inputs : ℕ) (some : 0 < inputs) (s : List ℕ) where
  -- ---- a byte breaks the reading

  breaks : {st : State} (u : List ℕ) (b : ℕ) (rest : List ℕ) → s ≡ u ++ (b ∷ rest) → length u < max_text → Reached inputs 1 u st → next st (token_of inputs b) ≡ broken
      → FirstWrong inputs s (1 + length u)
  breaks u b rest e l r q =
      let inside : length u < length (u ++ (b ∷ rest)) = omega (arith, length-append u (b ∷ rest)) in
      let place : 1 + length u ≡ suc (length u) = omega arith in
      let more : take (suc (length u)) (u ++ (b ∷ rest)) ≡ u ++ (b ∷ []) = rw (← add-one (length u)) (take-append-add u (b ∷ rest) 1) in
      rw (e, place) (wrong_byte inside l (rw (take-append_seam u (b ∷ rest)) (reached_begins some r)) (rw more (broken_begins_none b r q)))

  -- ---- the text has at most 200 bytes

  judged_at_end : (o : Outcome) → length s ≤ max_text → Begins inputs s → reading inputs 1 start s ≡ o → Tells (1 + length s) o → Judged inputs s o
  judged_at_end (no_formula p) l h e q = let k : p ≡ suc (length s) = omega arith in rw k (stops_short l h (λ t. no_formula_is e))
  judged_at_end (tree t) l h e q = (l, read_sound inputs 1 s t e)

  judged_short : {o : Outcome} → length s ≤ max_text → reading inputs 1 start s ≡ o → Ends inputs 1 s o → Judged inputs s o
  judged_short l e (at_end {st = st} r) = judged_at_end _ l (reached_begins some r) e (ending_tells (1 + length s) st)
  judged_short l e (at_byte u b rest d r q) = breaks u b rest d (omega (arith, ap length d, length-append u (b ∷ rest))) r q

  -- ---- the text has more

  long_at_end : (o : Outcome) → max_text < length s → Begins inputs (take max_text s) → Tells (1 + length (take max_text s)) o → Judged inputs s (too_long o)
  long_at_end (no_formula p) l h q = let k : p ≡ suc max_text = omega (arith, length-take-le max_text s (omega arith)) in rw k (goes_on l h)
  long_at_end (tree t) l h q = goes_on l h

  judged_long : {o : Outcome} → max_text < length s → Ends inputs 1 (take max_text s) o → Judged inputs s (too_long o)
  judged_long l (at_end {st = st} r) = let place = 1 + length (take max_text s) in long_at_end (ending place st) l (reached_begins some r) (ending_tells place st)
  judged_long l (at_byte u b rest d r q) =
      breaks u b (rest ++ drop max_text s)
      (sym (take-append-drop max_text s) ∙ rw d (append_assoc u (b ∷ rest) (drop max_text s)))
      (omega (arith, ap length d, length-append u (b ∷ rest), length-take-le max_text s (omega arith))) r q

  pub judged : Judged inputs s (formula_of inputs s)
  unfolding formula_of
  judged =
      pick_elim (Judged inputs s) (ltb max_text (length s)) _ _
      (λ l. judged_long (ltb-true max_text (length s) l) (reading_ends inputs 1 (take max_text s)))
      (λ l. judged_short (ltb-false max_text (length s) l) refl (reading_ends inputs 1 s))

pub formula_judged : (inputs : ℕ) (s : List ℕ) (t : Tree) → length s ≤ max_text → Formula inputs s t → formula_of inputs s ≡ tree t
unfolding formula_of
formula_judged inputs s t l f = rw (le-ltb max_text (length s) l) (formula_read inputs s t f)
