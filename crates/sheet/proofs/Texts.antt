-- Texts one behind the other: one more, the length of fewer, the room that each has where all have theirs, and their equality one by one.
use mathlib.Core.Path.{◌≡◌, refl, ap, ap₂, ◌∙◌}
use mathlib.Core.List.{List, ◌++◌, append_assoc, append-nil}
use Prim.Native.Nat.{ℕ, zero, suc, ◌+◌, ◌*◌, ◌≤◌, ◌<◌}
use native.Mathlib.Nat.{add-zero, add-suc, suc-add}
use native.Mathlib.Numerals.{add-one}
use native.Mathlib.Omega.{arith}
use lib.ListN.{length, length-append}
use Rattle.sheet.specs.Text.{texts}

module _ (f : ℕ → List ℕ) where
  pub texts_more : (k n : ℕ) → texts (k + 1) n f ≡ texts k n f ++ f (n + k)
  unfolding texts
  texts_more k n = rw add-one (go k n)
    where
      go : (k n : ℕ) → texts (suc k) n f ≡ texts k n f ++ f (n + k)
      go zero n = rw (add-zero, append-nil)
      go (suc k) n = ap (λ (l : List ℕ). f n ++ l) (go k (suc n)) ∙ rw (append_assoc, add-suc, suc-add)

  texts_longer : (k m n : ℕ) → k ≤ m → length (texts k n f) ≤ length (texts m n f)
  unfolding texts
  texts_longer zero m n h = omega arith
  texts_longer (suc k) zero n h = absurd (omega arith)
  texts_longer (suc k) (suc m) n h =
      rw (length-append (f n) (texts k (suc n) f), length-append (f n) (texts m (suc n) f)) (omega (arith, texts_longer k m (suc n) (omega arith)))

  -- text `n + i` has its room where the first `count` from `n` on have theirs
  pub texts_room : (count n i : ℕ) → i < count → length (texts i n f) + length (f (n + i)) ≤ length (texts count n f)
  texts_room count n i h =
      omega (arith, ap length (texts_more i n), length-append (texts i n f) (f (n + i)), texts_longer (i + 1) count n (omega arith))

  -- none of them longer than `w`
  pub texts_width : (w k n : ℕ) → ((i : ℕ) → n ≤ i → i < n + k → length (f i) ≤ w) → length (texts k n f) ≤ w * k
  unfolding texts
  texts_width w zero n h = omega arith
  texts_width w (suc k) n h =
      rw (length-append (f n) (texts k (suc n) f))
      (omega (arith, h n (omega arith) (omega arith), texts_width w k (suc n) (λ i a b. h i (omega arith) (omega arith))))

-- texts that agree one by one agree all together
pub texts_cong : {f g : ℕ → List ℕ} (k n : ℕ) → ((i : ℕ) → n ≤ i → i < n + k → f i ≡ g i) → texts k n f ≡ texts k n g
unfolding texts
texts_cong zero n h = refl
texts_cong (suc k) n h = ap₂ (λ a b. a ++ b) (h n (omega arith) (omega arith)) (texts_cong k (suc n) (λ i l m. h i (omega arith) (omega arith)))
