-- `steps::input` meets its contract: the row has one coefficient, so its absolute value is the radius.
use Rattle.std.proofs.Common.{arith, ap, ap₂, refl, sym, ◌≡◌, ◌∙◌, ◌+◌, ◌≤◌, ◌<◌, ◌+ℤ◌, ◌-ℤ◌, ℕ, ℤ, pos, nat_abs, to_z, of_z, w64}
use borrow.Author.Tests.{le-leb, lt-leb}
use mir.Val.{SFits}
use mir.ValLaws.{to_z-of_z}
use Rattle.affine.specs.declared.Row.{Row}
use Rattle.integer.specs.Floor.{floor_quotient}
use Rattle.integer.proofs.Machine.{back_as, operation_fits, operation_gives}
use Rattle.affine.specs.Limits.{symbols, span_limit}
use Rattle.affine.specs.Answer.{Accepted}
use Rattle.affine.specs.Row.{span, radius}
use Rattle.affine.specs.Steps.{constant_row, with_own, input_centre, input_row}
use Rattle.affine.proofs.InputRow.{sum_fits, centre_fits, own_fits, both_within, radius_input, span_input}
use Rattle.affine.proofs.steps.input.Goals as goal

-- the numbers as the machine has them: from the quotient q that the code finds
module _ (low high : ℤ) (hl : nat_abs low ≤ span_limit) (hh : nat_abs high ≤ span_limit) (fl : SFits w64 low) (fh : SFits w64 high) where
  sum_is : to_z w64 (of_z w64 (to_z w64 (of_z w64 low) +ℤ to_z w64 (of_z w64 high))) ≡ low +ℤ high
  sum_is = operation_gives ◌+ℤ◌ fl fh (sum_fits low high hl hh)

  module _ {q : ℤ} (e : q ≡ floor_quotient (to_z w64 (of_z w64 (to_z w64 (of_z w64 low) +ℤ to_z w64 (of_z w64 high)))) (pos 2)) where
    quotient_is : q ≡ input_centre low high
    quotient_is = e ∙ ap (λ z. floor_quotient z (pos 2)) sum_is

    centre_is : to_z w64 (of_z w64 q) ≡ input_centre low high
    centre_is = back_as quotient_is (centre_fits low high hl hh)

    own_machine_fits : SFits w64 (to_z w64 (of_z w64 high) -ℤ to_z w64 (of_z w64 q))
    own_machine_fits = rw quotient_is (operation_fits ◌-ℤ◌ fh (centre_fits low high hl hh) (own_fits low high hl hh))

    own_is : to_z w64 (of_z w64 (to_z w64 (of_z w64 high) -ℤ to_z w64 (of_z w64 q))) ≡ high -ℤ input_centre low high
    own_is = rw quotient_is (operation_gives ◌-ℤ◌ fh (centre_fits low high hl hh) (own_fits low high hl hh))

pub floor_quotient-centre-requires : goal.floor_quotient-centre-requires
floor_quotient-centre-requires c =
    let a = c.args in
    let (few, hl, hh) = c.requires in
    ((λ e. let z : ◌≡◌ {A = ℕ} 2 0 = ap nat_abs e in omega arith), rw (sum_is a.low a.high hl hh c.ranges.low c.ranges.high) (centre_fits a.low a.high hl hh))

pub overflow_sub-v : goal.overflow_sub-v
overflow_sub-v c =
    let (few, hl, hh) = c.requires in
    own_machine_fits c.args.low c.args.high hl hh c.ranges.low c.ranges.high c.floor_quotient-centre.ensures.value

-- what the code finds of an input with these ends: its centre m, its own coefficient v, and their absolute values n and r
module _ (own : ℕ) (low high : ℤ) (few : own < symbols) {m v : ℤ} {n r : ℕ}
    (em : m ≡ input_centre low high) (ev : v ≡ high -ℤ input_centre low high) (en : n ≡ nat_abs m) (er : r ≡ nat_abs v) where
  radius_is : r ≡ radius (input_row own low high)
  radius_is = er ∙ ap nat_abs ev ∙ sym (radius_input own low high few)

  span_is : n + r ≡ span (input_row own low high)
  span_is = ap₂ ◌+◌ (en ∙ ap nat_abs em) (er ∙ ap nat_abs ev) ∙ sym (span_input own low high few)

pub overflow_add-unsigned_abs : goal.overflow_add-unsigned_abs
overflow_add-unsigned_abs c =
    let a = c.args in
    let (few, hl, hh) = c.requires in
    let em = centre_is a.low a.high hl hh c.ranges.low c.ranges.high c.floor_quotient-centre.ensures.value in
    let ev = own_is a.low a.high hl hh c.ranges.low c.ranges.high c.floor_quotient-centre.ensures.value in
    let s = span_is a.own a.low a.high few em ev c.unsigned_abs.ensures.value c.unsigned_abs-radius.ensures.value in
    record { fits = omega (arith, s, span_input a.own a.low a.high few, both_within a.low a.high hl hh) }

pub returns-then-unsigned_abs-radius-gt-SPAN_LIMIT : goal.returns-then-unsigned_abs-radius-gt-SPAN_LIMIT
returns-then-unsigned_abs-radius-gt-SPAN_LIMIT c =
    let a = c.args in
    let (few, hl, hh) = c.requires in
    let em = centre_is a.low a.high hl hh c.ranges.low c.ranges.high c.floor_quotient-centre.ensures.value in
    let ev = own_is a.low a.high hl hh c.ranges.low c.ranges.high c.floor_quotient-centre.ensures.value in
    let s = span_is a.own a.low a.high few em ev c.unsigned_abs.ensures.value c.unsigned_abs-radius.ensures.value in
    rw (lt-leb (span (input_row a.own a.low a.high)) span_limit (rw s at c.if-unsigned_abs-radius-gt-SPAN_LIMIT.true)) refl

pub returns : goal.returns
returns c =
    let a = c.args in
    let (few, hl, hh) = c.requires in
    let em = centre_is a.low a.high hl hh c.ranges.low c.ranges.high c.floor_quotient-centre.ensures.value in
    let ev = own_is a.low a.high hl hh c.ranges.low c.ranges.high c.floor_quotient-centre.ensures.value in
    let s = span_is a.own a.low a.high few em ev c.unsigned_abs.ensures.value c.unsigned_abs-radius.ensures.value in
    let w : Row = with_own a.own (to_z w64 (of_z w64 (to_z w64 (of_z w64 a.high) -ℤ to_z w64 (of_z w64 c.floor_quotient-centre.result)))) c.constant_row-row.result in
    let row : w ≡ input_row a.own a.low a.high = ap₂ (with_own a.own) ev (c.constant_row-row.ensures ∙ ap constant_row em) in
    let r = radius_is a.own a.low a.high few em ev c.unsigned_abs.ensures.value c.unsigned_abs-radius.ensures.value in
    rw (le-leb (span (input_row a.own a.low a.high)) span_limit (rw s at c.if-unsigned_abs-radius-gt-SPAN_LIMIT.false))
    (λ i. record { status = Accepted; row = row i; radius = r i; range = record { low = to_z-of_z w64 a.low c.ranges.low i; high = to_z-of_z w64 a.high c.ranges.high i } })
