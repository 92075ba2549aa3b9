-- More than 200 bytes of a text tell all: it is no formula, whatever follows them.
use mathlib.Core.Path.{◌≡◌, refl, ◌∙◌}
use mathlib.Core.List.{List}
use Prim.Native.Nat.{ℕ, ◌<◌}
use native.Mathlib.Decide.{dec_le}
use native.Mathlib.Omega.{arith}
use borrow.Author.Tests.{lt-ltb}
use lib.ListN.{length, take, length-take}
use lib.Seq.{take_all, take-take}
use Rattle.sheet.specs.Lines.{natural}
use Rattle.formulas.specs.Limits.{max_text}
use Rattle.formulas.specs.Reading.{Outcome, no_formula, tree, reading, start, too_long, formula_of}
use Rattle.formulas.specs.Answer.{text_answer, answer_of}
use Rattle.formulas.specs.declared.InputBlock.{InputBlock}

-- a text over 200 bytes
long : (inputs : ℕ) (s : List ℕ) → max_text < length s → formula_of inputs s ≡ too_long (reading inputs 1 start (take max_text s))
unfolding formula_of
long inputs s h = simp (lt-ltb max_text (length s) h)

-- what is too long has no tree, so its literals and steps are not looked at
text_apart : (block : InputBlock) (s u : List ℕ) (o : Outcome) → text_answer block s (too_long o) ≡ text_answer block u (too_long o)
text_apart block s u (no_formula place) = refl
text_apart block s u (tree t) = refl

cut_long : (block : InputBlock) (s : List ℕ) (n : ℕ) → max_text < n → max_text < length s → answer_of block (take n s) ≡ answer_of block s
unfolding answer_of
cut_long block s n g h =
    let inputs : ℕ = natural block.inputs in
    let e : formula_of inputs (take n s) ≡ too_long (reading inputs 1 start (take max_text s)) =
    long inputs (take n s) (omega (arith, length-take n s)) ∙ rw (take-take max_text n s (omega arith)) in
    rw (e, long inputs s h, text_apart block (take n s) s (reading inputs 1 start (take max_text s)))

pub beginning_tells : (block : InputBlock) (s : List ℕ) (n : ℕ) → max_text < n → answer_of block (take n s) ≡ answer_of block s
beginning_tells block s n g = elim (dec_le (length s) max_text) [ yes h ↦ rw (take_all n s (omega arith)) | no h ↦ cut_long block s n g (omega arith) ]
