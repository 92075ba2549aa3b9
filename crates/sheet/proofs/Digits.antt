-- Runs of digits: what one byte more does to a run, and where a run ends.
use mathlib.Core.Path.{◌≡◌, sym}
use mathlib.Core.List.{List, [], ◌∷◌}
use Prim.Native.Nat.{ℕ, suc, ◌+◌, ◌-◌, ◌*◌, ◌≤◌, ◌<◌}
use native.Mathlib.Numerals.{add-one}
use native.Mathlib.Omega.{arith}
use native.Mathlib.Decide.{dec_lt}
use borrow.Author.Tests.{lt-ltb, le-ltb, ltb-true, ltb-false}
use lib.Dec.{ltb}
use lib.ListN.{length, take, drop, length-drop, get_or, drop_of_length-le, get_or-eq_default}
use lib.Seq.{drop-cons, take-length, get_or-drop}
use Rattle.std.specs.Prelude.{Option, Some, None}
use Rattle.sheet.specs.Results.{as_digit}
use Rattle.sheet.specs.declared.number.Found.{Found}
use Rattle.sheet.specs.Number.{run, digit_of, run_of}
use Rattle.sheet.proofs.Choice.{pick_elim}

module _ (s : List ℕ) (i v : ℕ) where
  pub run_more : i < length s → digit_of (get_or s i 0) < 10 → v < 1000000000
      → run v i (drop i s) ≡ run (v * 10 + digit_of (get_or s i 0)) (i + 1) (drop (i + 1) s)
  unfolding run
  run_more h d b = rw (add-one, drop-cons s i 0) (simp (lt-ltb _ _ d, lt-ltb _ _ b))

  pub run_full : i < length s → digit_of (get_or s i 0) < 10 → 1000000000 ≤ v → run v i (drop i s) ≡ run_of v i
  unfolding run
  run_full h d b = rw (drop-cons s i 0) (simp (lt-ltb _ _ d, le-ltb _ _ b))

  pub run_other : i < length s → 10 ≤ digit_of (get_or s i 0) → run v i (drop i s) ≡ run_of v i
  unfolding run
  run_other h d = rw (drop-cons s i 0) (simp (le-ltb _ _ d))

  pub run_end : length s ≤ i → run v i (drop i s) ≡ run_of v i
  unfolding run
  run_end h = rw (drop_of_length-le s h)

-- a run's value and end
pub record Within (a p n : ℕ) (r : Found ℕ) : Type 0 where
  pub small : r.value < 10000000000
  pub from : p ≤ r.next
  pub upto : r.next ≤ p + n

pub run_within : (a p : ℕ) (bs : List ℕ) → a < 10000000000 → Within a p (length bs) (run a p bs)
unfolding run
run_within a p [] h = record { small = h; from = omega arith; upto = omega arith }
run_within a p (b ∷ bs) h =
    let stop : Within a p (length (b ∷ bs)) (run_of a p) = record { small = h; from = omega arith; upto = omega arith } in
    pick_elim (Within a p (suc (length bs))) (ltb (digit_of b) 10) _ _
    (λ d. pick_elim (Within a p (suc (length bs))) (ltb a 1000000000) _ _
    (λ f. let w = run_within (a * 10 + digit_of b) (suc p) bs (omega (arith, ltb-true (digit_of b) 10 d, ltb-true a 1000000000 f)) in
    record { small = w.small; from = omega arith; upto = omega arith })
    (λ f. stop))
    (λ d. stop)

-- a byte that is not 0 stands before the end
pub inside : (s : List ℕ) (i b : ℕ) → get_or s i 0 ≡ suc b → i < length s
inside s i b e = go (dec_lt i (length s))
  where
    go : Dec (i < length s) → i < length s
    go (yes h) = h
    go (no h) = absurd (omega (arith, get_or-eq_default s 0 {n = i} (omega arith)))

-- the bytes from a position on, as the code cuts them out
pub rest_whole : (s : List ℕ) (at : ℕ) → take (length s - at) (drop at s) ≡ drop at s
rest_whole s at = rw (← length-drop at s) (take-length (drop at s))

pub rest_at : (s : List ℕ) (at i : ℕ) → get_or (take (length s - at) (drop at s)) i 0 ≡ get_or s (at + i) 0
rest_at s at i = rw (rest_whole s at) (get_or-drop at s i 0)

pub rest_length : (s : List ℕ) (at : ℕ) → length (take (length s - at) (drop at s)) ≡ length s - at
rest_length s at = rw (rest_whole s at) (length-drop at s)

some_one : (x y : ℕ) → Some x ≡ Some y → x ≡ y
some_one x y e = cc

none_some : (x : ℕ) → None ≡ Some x → ⊥
none_some x e = cc

-- what `digit` answers of a byte
pub digit_some : (b d : ℕ) → Some d ≡ as_digit (digit_of b) → (digit_of b ≡ d) × (d < 10)
digit_some b d =
    pick_elim (λ (o : Option ℕ). Some d ≡ o → (digit_of b ≡ d) × (d < 10)) (ltb (digit_of b) 10) _ _
    (λ h e. let same : d ≡ digit_of b = some_one d (digit_of b) e in (sym same, omega (arith, ltb-true (digit_of b) 10 h)))
    (λ h e. absurd (none_some d (sym e)))

pub digit_none : (b : ℕ) → None ≡ as_digit (digit_of b) → 10 ≤ digit_of b
digit_none b =
    pick_elim (λ (o : Option ℕ). None ≡ o → 10 ≤ digit_of b) (ltb (digit_of b) 10) _ _
    (λ h e. absurd (none_some (digit_of b) e))
    (λ h e. ltb-false (digit_of b) 10 h)
