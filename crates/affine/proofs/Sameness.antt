-- Two rows are called the same exactly when they are equal: the test of two lists is true exactly for equal lists.
use mathlib.Core.Path.{◌≡◌, refl, sym, ap, ap₂, ◌∙◌}
use mathlib.Core.Logic.{◌↔◌}
use mathlib.Core.Bool.{Bool, true, false}
use mathlib.Core.List.{List, [], ◌∷◌, ◌++◌}
use lib.IntN.{ℤ}
use lib.ListN.{take, drop}
use lib.Seq.{take_at, drop_at}
use Rattle.affine.specs.declared.Row.{Row}
use Rattle.affine.specs.Limits.{symbols}
use Rattle.affine.specs.Lists.{pick, equal}
use Rattle.affine.specs.Row.{numbers, agree, same}
use Rattle.affine.proofs.Comparison.{equal_same, equal_true}
use Rattle.affine.proofs.Form.{Shaped}

agree_sound : (xs ys : List ℤ) → agree xs ys ≡ true → xs ≡ ys
unfolding agree
agree_sound [] [] e = refl
agree_sound [] (y ∷ ys) e = cc
agree_sound (x ∷ xs) [] e = cc
agree_sound (x ∷ xs) (y ∷ ys) e = by_test (equal x y) refl e (λ h. agree_sound xs ys h)
  where
    by_test : (t : Bool) → equal x y ≡ t → pick t (agree xs ys) false ≡ true → (agree xs ys ≡ true → xs ≡ ys) → x ∷ xs ≡ y ∷ ys
    by_test true q e h = ap₂ (λ z zs. z ∷ zs) (equal_true x y q) (h e)
    by_test false q e h = cc

agree_refl : (xs : List ℤ) → agree xs xs ≡ true
unfolding agree
agree_refl [] = refl
agree_refl (x ∷ xs) = rw (equal_same x) (agree_refl xs)

numbers_injective : (x y : Row) → Shaped x → Shaped y → numbers x ≡ numbers y → x ≡ y
numbers_injective x y sx sy e =
    λ i. record { centre = centre i; linear = linear i; pair = pair i }
  where
    centre : x.centre ≡ y.centre
    centre = cc

    rest : x.linear ++ x.pair ≡ y.linear ++ y.pair
    rest = cc

    linear : x.linear ≡ y.linear
    linear = sym (take_at x.linear x.pair symbols sx.linear) ∙ ap (λ l. take symbols l) rest ∙ take_at y.linear y.pair symbols sy.linear

    pair : x.pair ≡ y.pair
    pair = sym (drop_at x.linear x.pair symbols sx.linear) ∙ ap (λ l. drop symbols l) rest ∙ drop_at y.linear y.pair symbols sy.linear

pub same_is_equal : (x y : Row) → Shaped x → Shaped y → same x y ≡ true → x ≡ y
same_is_equal x y sx sy e = numbers_injective x y sx sy (agree_sound (numbers x) (numbers y) e)

-- "exactly when all their numbers agree"
pub same_exactly : (x y : Row) → (same x y ≡ true) ↔ (numbers x ≡ numbers y)
same_exactly x y = (agree_sound (numbers x) (numbers y), λ e. rw e (agree_refl (numbers y)))
