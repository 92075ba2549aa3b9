-- The numbers of a call as inputs.
use Rattle.std.proofs.Common.{◌≡◌, refl, sym, ap₂, ◌∙◌, ℕ, zero, suc, ◌+◌, ◌*◌, ◌/◌, ◌%◌, ◌≤◌, ◌<◌, List, [], ◌∷◌, ◌++◌, length, get_or, set, ℤ, pos, arith, length-append, length-set}
use Rattle.std.specs.Prelude.{Ok, Err}
use native.Mathlib.Decide.{dec_lt, ℕ_discrete}
use lib.Seq.{get_or-append_seam, get_or-set_same, get_or-set_other}
use lib.ListN.{get_or-append, get_or-eq_default}
use borrow.Author.Tests.{eq-eqb, ne_eqb}
use Rattle.capacity.specs.Limits.{max_inputs}
use Rattle.sheet.specs.Lines.{zero_end}
use Rattle.sheet.specs.Same.{up_to}
use Rattle.formula.specs.Words.{Holds, ends_given, block_of, inputs_of}
use Rattle.formula.specs.declared.call.WrongCall.TheVariants.{NoSquares, NoHighEnd}

-- ---- one number more

get_or-past : (zs : List ℤ) (z : ℤ) (k : ℕ) → length zs < k → get_or (zs ++ (z ∷ [])) k (pos 0) ≡ get_or zs k (pos 0)
get_or-past zs z k h =
    get_or-eq_default (zs ++ (z ∷ [])) (pos 0) (omega (arith, length-append zs (z ∷ []))) ∙ sym (get_or-eq_default zs (pos 0) (omega arith))

-- it is kept where there is room
pub holds_kept : (first : List ℤ) (zs : List ℤ) (z : ℤ) → Holds first (length zs) zs → length zs < length first
    → Holds (set first (length zs) z) (length zs + 1) (zs ++ (z ∷ []))
holds_kept first zs z h room = record {
  counted = sym (length-append zs (z ∷ []));
  is = λ k l. elim (ℕ_discrete k (length zs)) [
    | yes e ↦ rw e (get_or-set_same first (length zs) z (pos 0) room ∙ sym (get_or-append_seam zs z [] (pos 0)))
    | no n ↦ elim (dec_lt k (length zs)) [
      | yes b ↦ get_or-set_other first (length zs) k z (pos 0) n ∙ h.is k (omega arith) ∙ sym (get_or-append zs (z ∷ []) (pos 0) k b)
      | no b ↦ get_or-set_other first (length zs) k z (pos 0) n ∙ h.is k (omega (arith, l, length-set first (length zs) z)) ∙ sym (get_or-past zs z k (omega (arith, n, b)))
    ]
  ];
}

-- it is only counted where there is none
pub holds_counted : (first : List ℤ) (zs : List ℤ) (z : ℤ) → Holds first (length zs) zs → length first ≤ length zs
    → Holds first (length zs + 1) (zs ++ (z ∷ []))
holds_counted first zs z h full = record {
  counted = sym (length-append zs (z ∷ []));
  is = λ k l. h.is k l ∙ sym (get_or-append zs (z ∷ []) (pos 0) k (omega arith));
}

-- ---- inputs

pub no_squares : (all : List ℤ) → length all ≡ 0 → Err NoSquares ≡ inputs_of all
unfolding inputs_of
no_squares all e = rw (eq-eqb (length all) 0 e)

pub no_high_end : (all : List ℤ) → (length all ≡ 0 → ⊥) → length all % 2 ≡ 0 → Err (NoHighEnd (length all + 1)) ≡ inputs_of all
unfolding inputs_of
no_high_end all n e = rw (ne_eqb (length all) 0 n, eq-eqb (length all % 2) 0 e)

pub some_inputs : (all : List ℤ) → (length all ≡ 0 → ⊥) → (length all % 2 ≡ 0 → ⊥) → Ok (block_of all) ≡ inputs_of all
unfolding inputs_of
some_inputs all n e = rw (ne_eqb (length all) 0 n, ne_eqb (length all % 2) 0 e)

-- the entries of two lists that are the same up to their count
up_to_alike : {A : Type 0} (room n : ℕ) (f g : ℕ → A) (z : A) → ((k : ℕ) → k < n → f k ≡ g k) → up_to room n f z ≡ up_to room n g z
unfolding up_to
up_to_alike room zero f g z h = refl
up_to_alike zero (suc n) f g z h = refl
up_to_alike (suc room) (suc n) f g z h =
    ap₂ (λ a l. a ∷ l) (h 0 (omega arith)) (up_to_alike room n (λ i. f (suc i)) (λ i. g (suc i)) z (λ k l. h (suc k) (omega arith)))

pub block_is : (first all : List ℤ) (count : ℕ) → Holds first count all → 2 * max_inputs < length first
    → record { inputs = pos (count / 2); squares = get_or first 0 (pos 0); ends = up_to max_inputs max_inputs (ends_given first) zero_end } ≡ block_of all
unfolding block_of
block_is first all count h room =
    let ends : up_to max_inputs max_inputs (ends_given first) zero_end ≡ up_to max_inputs max_inputs (ends_given all) zero_end =
    up_to_alike max_inputs max_inputs (ends_given first) (ends_given all) zero_end
    (λ k l.
    let low = h.is (2 * k + 1) (omega arith) in
    let high = h.is (2 * k + 2) (omega arith) in
    rw (low, high)) in
    rw (ends, h.is 0 (omega arith), h.counted)
