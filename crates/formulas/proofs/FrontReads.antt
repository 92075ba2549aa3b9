-- Only the first 200 bytes of a text are read: what they tell of the whole.
use mathlib.Core.Path.{◌≡◌, refl, sym, ap, subst, ◌∙◌}
use mathlib.Core.Bool.{false}
use mathlib.Core.List.{List, []}
use Prim.Native.Nat.{ℕ, suc, ◌≤◌, ◌<◌, min}
use native.Mathlib.Decide.{dec_le, dec_lt}
use native.Mathlib.Nat.{add-zero}
use native.Mathlib.Omega.{arith}
use borrow.Author.Tests.{lt-ltb, le-ltb}
use lib.ListN.{length, take}
use lib.Seq.{take_all, length-take-le}
use Rattle.formulas.specs.Limits.{max_text, max_nesting}
use Rattle.formulas.specs.Reading.{no_formula, tree, reading, start, fresh, too_long, formula_of}
use Rattle.formulas.specs.Answer.{first_beyond}
use Rattle.capacity.specs.Limits.{max_inputs}
use Rattle.formulas.specs.Built.{place_of, no_steps, Breaks, PartRight, RightWhole}
use Rattle.formulas.specs.declared.steps.Steps.{Steps}
use Rattle.formulas.specs.declared.builder.Part.{Part}
use Rattle.formulas.proofs.Sound.{read_sound}
use Rattle.formulas.proofs.LiteralsWithin.{literals_within}
use Rattle.formulas.proofs.OperandReads.{byte_behind, read_whole, seen_whole}

module _ (inputs : ℕ) (s : List ℕ) where
  abbrev pub front : List ℕ
  front = take max_text s

  pub front_taken : take (min (length s) max_text) s ≡ front
  front_taken = elim (dec_le (length s) max_text) [
    | yes h ↦ take_all (min (length s) max_text) s (omega arith) ∙ sym (take_all max_text s h)
    | no h ↦ let e : min (length s) max_text ≡ max_text = omega arith in rw e
  ]

  front_length : length front ≡ min (length s) max_text
  front_length = rw (sym front_taken) (length-take-le (min (length s) max_text) s (omega arith))

  short : length s ≤ max_text → formula_of inputs s ≡ reading inputs 1 start front
  unfolding formula_of
  short h = rw (take_all max_text s h) (simp (le-ltb max_text (length s) h))

  long : max_text < length s → formula_of inputs s ≡ too_long (reading inputs 1 start front)
  unfolding formula_of
  long h = simp (lt-ltb max_text (length s) h)

  broken_front : (place : ℕ) → reading inputs 1 start front ≡ no_formula place → formula_of inputs s ≡ no_formula place
  broken_front place e = elim (dec_le (length s) max_text) [ yes h ↦ short h ∙ e | no h ↦ long (omega arith) ∙ ap too_long e ]

  -- the reading breaks
  pub whole_breaks : (place : ℕ) → Breaks front inputs 2 max_nesting 0 place → formula_of inputs s ≡ no_formula place
  whole_breaks place b = broken_front place (b fresh [] refl)

  module _ (few : inputs ≤ max_inputs) (after : Steps) (p : Part) (r : PartRight front inputs 2 max_nesting 0 (no_steps inputs few) after p) where
    is_tree : length front ≤ p.next → reading inputs 1 start front ≡ tree r.right.t
    is_tree h = read_whole front inputs few after p r.right r.stops h

    -- a byte stands behind the formula, or a 201st
    pub whole_behind : p.next < length s → formula_of inputs s ≡ no_formula (suc p.next)
    whole_behind l = elim (dec_lt p.next (length front)) [
      | yes h ↦ broken_front (suc p.next) (byte_behind front inputs few after p r.right r.stops h)
      | no h ↦
          let cut = front_length in
          let n : max_text < length s = omega arith in
          let f : suc p.next ≡ suc max_text = omega (arith, r.right.within) in
          rw f (long n ∙ ap too_long (is_tree (omega arith)))
    ]

    -- the whole text
    pub whole_right : length s ≤ p.next → RightWhole s inputs after
    whole_right l =
        let w = r.right in
        let cut = front_length in
        let n : length s ≤ max_text = omega (arith, w.within) in
        let h : length front ≤ p.next = omega arith in
        let f : front ≡ s = take_all max_text s n in
        let formula = read_sound inputs 1 s w.t (subst (λ (u : List ℕ). reading inputs 1 start u ≡ tree w.t) f (is_tree h)) in
        record {
          t = w.t;
          is = short n ∙ is_tree h;
          same_inputs = w.same_inputs;
          counted = omega (arith, w.counted);
          left = λ k. rw (sym (add-zero inputs)) (w.left ((literals_within inputs s w.t formula).0 k));
          told = seen_whole front inputs few after p w r.stops h ∙ ap (λ (u : List ℕ). place_of (first_beyond 1 false u)) f;
        }
