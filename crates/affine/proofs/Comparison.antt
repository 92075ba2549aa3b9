-- The comparison of two lists of numbers, of one length: all of them agree, pair by pair, where the definition says so.
use mathlib.Core.Path.{◌≡◌, refl, ap, subst}
use mathlib.Core.Bool.{Bool, true, false, ◌&&◌}
use mathlib.Core.List.{List, [], ◌∷◌}
use lib.IntN.{ℤ, pos, negsuc}
use borrow.Author.Tests.{eq-eqb}
use Rattle.std.specs.Ordering.{int_eq}
use Rattle.std.specs.List.{list_all, zip}
use lib.ListN.{length}
use native.Mathlib.Omega.{arith}
use Rattle.std.proofs.lemmas.Bool.{eqb-true, false≢true}
use Rattle.std.proofs.lemmas.Bool.Decides.{Decides-int_eq, same_from_decides}
use Rattle.affine.specs.Lists.{equal, pick}
use Rattle.affine.specs.Row.{agree}

pub equal_same : (x : ℤ) → equal x x ≡ true
equal_same (pos n) = eq-eqb n n refl
equal_same (negsuc n) = eq-eqb n n refl

pub equal_true : (x y : ℤ) → equal x y ≡ true → x ≡ y
equal_true (pos m) (pos n) e = ap pos (eqb-true m n e)
equal_true (pos m) (negsuc n) e = absurd (false≢true e)
equal_true (negsuc m) (pos n) e = absurd (false≢true e)
equal_true (negsuc m) (negsuc n) e = ap negsuc (eqb-true m n e)

equal_is : (x y : ℤ) → int_eq x y ≡ equal x y
equal_is x y =
    same_from_decides (int_eq x y) (equal x y) (Decides-int_eq x y)
    (equal_true x y, λ e. subst (λ z. equal x z ≡ true) e (equal_same x))

both_are : (a b : Bool) → (a && b) ≡ pick a b false
both_are true b = refl
both_are false b = refl

pub all_agree : (xs ys : List ℤ) → length xs ≡ length ys → list_all (λ p. int_eq p.0 p.1) (zip xs ys) ≡ agree xs ys
unfolding agree
all_agree [] [] e = refl
all_agree [] (y ∷ ys) e = absurd (omega arith)
all_agree (x ∷ xs) [] e = absurd (omega arith)
all_agree (x ∷ xs) (y ∷ ys) e = rw (equal_is x y, all_agree xs ys (omega arith)) (both_are (equal x y) (agree xs ys))
