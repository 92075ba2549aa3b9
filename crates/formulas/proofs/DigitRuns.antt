-- Runs of digits in a formula: what one byte more does to a literal, where it ends, and what is beyond the limits in front of it.
use mathlib.Core.Path.{◌≡◌, refl}
use mathlib.Core.Bool.{Bool, true, false}
use mathlib.Core.List.{List, [], ◌∷◌}
use Prim.Native.Nat.{ℕ, suc, ◌+◌, ◌*◌, ◌≤◌, ◌<◌}
use native.Mathlib.Numerals.{add-one}
use native.Mathlib.Omega.{arith}
use borrow.Author.Tests.{lt-ltb, le-ltb}
use lib.Dec.{ltb}
use lib.ListN.{length, drop, get_or, drop_of_length-le}
use lib.Seq.{drop-cons, drop-drop}
use Rattle.std.specs.Prelude.{Some, None}
use Rattle.sheet.specs.Choice.{pick}
use Rattle.sheet.specs.Limits.{end_limit}
use Rattle.sheet.specs.Number.{digit_of}
use Rattle.sheet.specs.Results.{as_digit}
use Rattle.sheet.proofs.Choice.{pick_elim}
use Rattle.sheet.proofs.Digits.{digit_some, digit_none}
use Rattle.formulas.specs.Answer.{front_value, first_beyond}
use Rattle.formulas.specs.Built.{capped, literal_of, digits_from}
use Rattle.sheet.specs.declared.Found.{Found}
use Rattle.formulas.proofs.Numerals.{capped_digit}

pub capped_small : (v : ℕ) → capped v ≤ end_limit + 1
capped_small v = omega arith

module _ (s : List ℕ) (i v : ℕ) where
  pub digits_more : i < length s → digit_of (get_or s i 0) < 10
      → digits_from v i (drop i s) ≡ digits_from (capped (v * 10 + digit_of (get_or s i 0))) (i + 1) (drop (i + 1) s)
  unfolding digits_from
  digits_more h d = rw (add-one i, drop-cons s i 0) (simp (lt-ltb _ _ d))

  pub digits_other : i < length s → 10 ≤ digit_of (get_or s i 0) → digits_from v i (drop i s) ≡ literal_of v i
  unfolding digits_from
  digits_other h d = rw (drop-cons s i 0) (simp (le-ltb _ _ d))

  -- the same, of what `digit` answers of the byte
  pub digits_some : (d : ℕ) → i < length s → Some d ≡ as_digit (digit_of (get_or s i 0)) → digits_from v i (drop i s) ≡ digits_from (capped (v * 10 + d)) (i + 1) (drop (i + 1) s)
  digits_some d h e = let told = digit_some (get_or s i 0) d e in rw told.0 at (digits_more h (rw told.0 told.1))

  pub digits_none : i < length s → None ≡ as_digit (digit_of (get_or s i 0)) → digits_from v i (drop i s) ≡ literal_of v i
  digits_none h e = digits_other h (digit_none (get_or s i 0) e)

  pub digits_end : length s ≤ i → digits_from v i (drop i s) ≡ literal_of v i
  unfolding digits_from
  digits_end h = rw (drop_of_length-le s h)

-- a literal ends within the text
pub digits_within : (v p : ℕ) (bs : List ℕ) → (p ≤ (digits_from v p bs).next) × ((digits_from v p bs).next ≤ p + length bs)
unfolding digits_from
digits_within v p [] = (omega arith, omega arith)
digits_within v p (b ∷ bs) =
    pick_elim (λ (l : Found ℕ). (p ≤ l.next) × (l.next ≤ p + suc (length bs))) (ltb (digit_of b) 10) _ _
    (λ e. let w = digits_within (capped (v * 10 + digit_of b)) (suc p) bs in (omega arith, omega arith))
    (λ e. (omega arith, omega arith))

pub digits_small : (v p : ℕ) (bs : List ℕ) → v ≤ end_limit + 1 → (digits_from v p bs).value ≤ end_limit + 1
unfolding digits_from
digits_small v p [] h = h
digits_small v p (b ∷ bs) h =
    pick_elim (λ (l : Found ℕ). l.value ≤ end_limit + 1) (ltb (digit_of b) 10) _ _
    (λ e. digits_small (capped (v * 10 + digit_of b)) (suc p) bs (capped_small (v * 10 + digit_of b)))
    (λ e. h)

-- its value is that of the digits in front, or capped
pub digits_value : (v p : ℕ) (bs : List ℕ) → (digits_from (capped v) p bs).value ≡ capped (front_value v bs)
unfolding digits_from front_value
digits_value v p [] = refl
digits_value v p (b ∷ bs) =
    go (ltb (digit_of b) 10) (rw (capped_digit v (digit_of b)) (digits_value (v * 10 + digit_of b) (suc p) bs))
  where
    go : (d : Bool) → (digits_from (capped (capped v * 10 + digit_of b)) (suc p) bs).value ≡ capped (front_value (v * 10 + digit_of b) bs)
        → (pick d (digits_from (capped (capped v * 10 + digit_of b)) (suc p) bs) (literal_of (capped v) p)).value ≡ capped (pick d (front_value (v * 10 + digit_of b) bs) v)
    go true ih = ih
    go false ih = refl

beyond_capped : (v : ℕ) → end_limit < capped v → end_limit < v
beyond_capped v h = omega arith

within_capped : (v : ℕ) → capped v ≤ end_limit → v ≤ end_limit
within_capped v h = omega arith

pub drop_next : (s : List ℕ) (p b : ℕ) (bs : List ℕ) → drop p s ≡ b ∷ bs → drop (suc p) s ≡ bs
drop_next s p b bs e = rw (← add-one p, ← drop-drop 1 p s, e)

-- behind a digit nothing is looked for before the literal's end
skipped : (s bs : List ℕ) (v p : ℕ) → drop p s ≡ bs
    → first_beyond (suc p) true bs ≡ first_beyond (suc (digits_from v p bs).next) false (drop (digits_from v p bs).next s)
unfolding digits_from first_beyond
skipped s [] v p e = rw e
skipped s (b ∷ bs) v p e = go (ltb (digit_of b) 10) refl (skipped s bs (capped (v * 10 + digit_of b)) (suc p) (drop_next s p b bs e))
  where
    go : (d : Bool) → ltb (digit_of b) 10 ≡ d
        → first_beyond (suc (suc p)) true bs ≡ first_beyond (suc (digits_from (capped (v * 10 + digit_of b)) (suc p) bs).next) false (drop (digits_from (capped (v * 10 + digit_of b)) (suc p) bs).next s)
        → pick d (first_beyond (suc (suc p)) true bs) (first_beyond (suc (suc p)) false bs)
        ≡ first_beyond (suc (pick d (digits_from (capped (v * 10 + digit_of b)) (suc p) bs) (literal_of v p)).next) false (drop (pick d (digits_from (capped (v * 10 + digit_of b)) (suc p) bs) (literal_of v p)).next s)
    go true f ih = ih
    go false f ih = rw e (simp f)

module _ (s : List ℕ) (i : ℕ) (h : i < length s) where
  pub beyond_here : digit_of (get_or s i 0) < 10 → end_limit < (digits_from 0 i (drop i s)).value → first_beyond (suc i) false (drop i s) ≡ suc i
  unfolding first_beyond
  beyond_here d b =
      let e = drop-cons s i 0 h in
      let f : end_limit < front_value 0 (get_or s i 0 ∷ drop (suc i) s) = rw e at (beyond_capped (front_value 0 (drop i s)) (rw (digits_value 0 i (drop i s)) at b)) in
      rw e (simp (lt-ltb _ _ d, lt-ltb _ _ f))

  pub beyond_behind : digit_of (get_or s i 0) < 10 → (digits_from 0 i (drop i s)).value ≤ end_limit
      → first_beyond (suc i) false (drop i s) ≡ first_beyond (suc (digits_from 0 i (drop i s)).next) false (drop (digits_from 0 i (drop i s)).next s)
  unfolding first_beyond
  beyond_behind d b =
      let e = drop-cons s i 0 h in
      let f : front_value 0 (get_or s i 0 ∷ drop (suc i) s) ≤ end_limit = rw e at (within_capped (front_value 0 (drop i s)) (rw (digits_value 0 i (drop i s)) at b)) in
      let t = skipped s (drop (suc i) s) (capped (0 * 10 + digit_of (get_or s i 0))) (suc i) refl in
      let g : digits_from 0 i (drop i s) ≡ digits_from (capped (0 * 10 + digit_of (get_or s i 0))) (suc i) (drop (suc i) s) = rw (add-one i) at (digits_more s i 0 h d) in
      rw g (rw e (simp (lt-ltb _ _ d, le-ltb _ _ f) t))

  pub beyond_other : 10 ≤ digit_of (get_or s i 0) → first_beyond (suc i) false (drop i s) ≡ first_beyond (suc (suc i)) false (drop (suc i) s)
  unfolding first_beyond
  beyond_other d = rw (drop-cons s i 0 h) (simp (le-ltb _ _ d))
