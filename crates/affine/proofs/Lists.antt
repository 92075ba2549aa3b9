-- Laws of choices, and of lists by index: what a tabulated list holds. By induction on its length.
use mathlib.Core.Path.{◌≡◌, refl, ap, ap₂}
use mathlib.Core.Bool.{Bool, true, false}
use mathlib.Core.List.{List, [], ◌∷◌, map}
use mathlib.Core.Logic.{◌≢◌}
use Prim.Native.Nat.{ℕ, zero, suc, ◌<◌}
use native.Mathlib.Nat.{le_of_suc-le-suc, not-suc-le-zero}
use native.Mathlib.Omega.{arith}
use lib.IntN.{ℤ, pos}
use lib.ListN.{length, get_or, set, replicate}
use Rattle.affine.specs.Lists.{pick, at, tabulate}

-- what holds of both sides of a choice, each under its test, holds of the choice
pub pick_elim : {A : Type 0} (P : A → Type 0) (b : Bool) (x y : A) → (b ≡ true → P x) → (b ≡ false → P y) → P (pick b x y)
pick_elim P true x y f g = f refl
pick_elim P false x y f g = g refl

pub length_tabulate : {A : Type 0} (n : ℕ) (f : ℕ → A) → length (tabulate n f) ≡ n
unfolding tabulate
length_tabulate zero f = refl
length_tabulate (suc n) f = ap suc (length_tabulate n (λ i. f (suc i)))

pub get_or_tabulate : {A : Type 0} (n : ℕ) (f : ℕ → A) (d : A) (i : ℕ) → i < n → get_or (tabulate n f) i d ≡ f i
unfolding tabulate
get_or_tabulate zero f d i h = absurd (not-suc-le-zero h)
get_or_tabulate (suc n) f d zero h = refl
get_or_tabulate (suc n) f d (suc i) h = get_or_tabulate n (λ i. f (suc i)) d i (le_of_suc-le-suc h)

pub at_tabulate : (n : ℕ) (f : ℕ → ℤ) (i : ℕ) → i < n → at (tabulate n f) i ≡ f i
at_tabulate n f i h = get_or_tabulate n f (pos 0) i h

-- what holds of each f i, and of 0, holds of the number at any index
pub at_tabulate_zero : (n : ℕ) (f : ℕ → ℤ) (i : ℕ) → (i < n → f i ≡ pos 0) → at (tabulate n f) i ≡ pos 0
unfolding tabulate
at_tabulate_zero zero f i h = refl
at_tabulate_zero (suc n) f zero h = h (omega arith)
at_tabulate_zero (suc n) f (suc i) h = at_tabulate_zero n (λ i. f (suc i)) i (λ l. h (omega arith))

pub at_tabulate_all : (P : ℤ → Type 0) (n : ℕ) (f : ℕ → ℤ) → P (pos 0) → ((i : ℕ) → P (f i)) → (i : ℕ) → P (at (tabulate n f) i)
unfolding tabulate
at_tabulate_all P zero f z h i = z
at_tabulate_all P (suc n) f z h zero = h 0
at_tabulate_all P (suc n) f z h (suc i) = at_tabulate_all P n (λ i. f (suc i)) z (λ i. h (suc i)) i

pub tabulate_cong : {A : Type 0} (n : ℕ) {f g : ℕ → A} → ((i : ℕ) → i < n → f i ≡ g i) → tabulate n f ≡ tabulate n g
unfolding tabulate
tabulate_cong zero h = refl
tabulate_cong (suc n) h = ap₂ (λ x xs. x ∷ xs) (h 0 (omega arith)) (tabulate_cong n (λ i l. h (suc i) (omega arith)))

pub map_tabulate : {A B : Type 0} (g : A → B) (n : ℕ) (f : ℕ → A) → map g (tabulate n f) ≡ tabulate n (λ i. g (f i))
unfolding tabulate
map_tabulate g zero f = refl
map_tabulate g (suc n) f = ap (λ xs. g (f 0) ∷ xs) (map_tabulate g n (λ i. f (suc i)))

-- a list is what its elements tabulate
pub tabulate_at : (xs : List ℤ) (n : ℕ) → length xs ≡ n → tabulate n (at xs) ≡ xs
unfolding tabulate
tabulate_at [] zero h = refl
tabulate_at [] (suc n) h = absurd (omega arith)
tabulate_at (x ∷ xs) zero h = absurd (omega arith)
tabulate_at (x ∷ xs) (suc n) h = ap (λ ys. x ∷ ys) (tabulate_at xs n (omega arith))

pub replicate_tabulate : {A : Type 0} (n : ℕ) (a : A) → replicate n a ≡ tabulate n (λ i. a)
unfolding tabulate
replicate_tabulate zero a = refl
replicate_tabulate (suc n) a = ap (λ xs. a ∷ xs) (replicate_tabulate n a)

-- one element changed: a list tabulated by a function that differs only there
pub set_tabulate : {A : Type 0} (n : ℕ) (f g : ℕ → A) (k : ℕ) (v : A) → k < n → v ≡ g k → ((i : ℕ) → i < n → i ≢ k → f i ≡ g i)
    → set (tabulate n f) k v ≡ tabulate n g
unfolding tabulate
set_tabulate zero f g k v h e others = absurd (not-suc-le-zero h)
set_tabulate (suc n) f g zero v h e others = ap₂ (λ x xs. x ∷ xs) e (tabulate_cong n (λ i l. others (suc i) (omega arith) (omega arith)))
set_tabulate (suc n) f g (suc k) v h e others =
    ap₂ (λ x xs. x ∷ xs) (others 0 (omega arith) (omega arith))
    (set_tabulate n (λ i. f (suc i)) (λ i. g (suc i)) k v (le_of_suc-le-suc h) e (λ i l d. others (suc i) (omega arith) (omega arith)))
