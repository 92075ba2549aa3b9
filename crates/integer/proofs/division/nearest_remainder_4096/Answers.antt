-- `nearest_remainder_4096` meets its contract: the library's remainder is what the quotient rounded down leaves, 0 to 4095.
use mathlib.Core.Path.{◌≡◌, sym, ap, ◌∙◌}
use native.Mathlib.Omega.{arith}
use lib.IntN.{pos, nat_abs}
use mir.Syntax.{w64}
use mir.Val.{to_z, of_z}
use mir.ValLaws.{to_z-of_z}
use Rattle.std.specs.Int.{int_rem_euclid}
use Rattle.integer.proofs.Floor.{remainder_by, euclid_leaves}
use Rattle.integer.proofs.Machine.{back}
use Rattle.integer.proofs.NearestLaws.{is_nearest, nearest_unique, none_left_less, nat_abs_nearest_remainder, nearest_left}
use Rattle.integer.proofs.division.nearest_remainder_4096.Goals as goal

pub returns-clause-value : goal.returns-clause-value
returns-clause-value c =
    let a = c.args.a in
    let is_low : to_z w64 (of_z w64 c.rem_euclid-low.result) ≡ pos (remainder_by a 4096) =
    back c.rem_euclid-low.type_inv ∙ c.rem_euclid-low.ensures.value ∙ ap (λ z. int_rem_euclid z (pos 4096)) (to_z-of_z w64 _ c.ranges.a) ∙ euclid_leaves a 4096
    in
    (rw is_low at c.min.ensures) ∙ sym (nearest_left a 4096 (omega arith))

pub returns-clause-only : goal.returns-clause-only
returns-clause-only c = λ q r n. returns-clause-value c ∙ ap nat_abs (sym (nearest_unique c.args.a 4096 q r (omega arith) n).1)

pub returns-clause-none_nearer : goal.returns-clause-none_nearer
returns-clause-none_nearer c = λ p. rw (returns-clause-value c) (none_left_less (is_nearest c.args.a 4096 (omega arith)) p (omega arith))

pub returns-clause-at_most : goal.returns-clause-at_most
returns-clause-at_most c = rw (returns-clause-value c) (omega (arith, nat_abs_nearest_remainder c.args.a 4096 (omega arith)))
