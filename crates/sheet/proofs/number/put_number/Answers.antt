-- a minus where v is below 0, then the digits of the absolute value, all of them
use Rattle.std.proofs.Common.{ℕ, ◌^◌, ◌<◌, ℤ, ap, length, w64, arith}
use Rattle.std.proofs.lemmas.Int.{ints}
use lib.IntN.{nat_abs}
use mir.Val.{SFits}
use mir.ValLaws.{to_z-of_z}
use Rattle.sheet.specs.Text.{most_digits, decimal, numeral}
use Rattle.sheet.specs.Wrote.{Wrote}
use Rattle.sheet.proofs.Written.{wrote_then}
use Rattle.sheet.proofs.Decimal.{numeral_below, numeral_above}
use Rattle.sheet.proofs.Numeral.{number_there}
use Rattle.sheet.proofs.number.put_number.Goals as goal

pub put_byte-p-requires : goal.put_byte-p-requires
put_byte-p-requires c = omega (arith, ap length (numeral_below c.args.v c.ranges.v c.if-v-lt0.true))

pub put_digits-requires : goal.put_digits-requires
put_digits-requires c =
    let n = rw (to_z-of_z w64 c.args.v c.ranges.v) at c.unsigned_abs-size.ensures.value in
    omega (arith, ap length (numeral_below c.args.v c.ranges.v c.if-v-lt0.true), ap (λ (m : ℕ). length (decimal most_digits m)) n, c.put_byte-p.ensures.ends, c.put_byte-p.auto.out)

pub put_digits-requires-else-v-lt0 : goal.put_digits-requires-else-v-lt0
put_digits-requires-else-v-lt0 c =
    let n = rw (to_z-of_z w64 c.args.v c.ranges.v) at c.unsigned_abs-size.ensures.value in
    omega (arith, ap length (numeral_above c.args.v c.ranges.v c.if-v-lt0.false), ap (λ (m : ℕ). length (decimal most_digits m)) n)

-- with all its digits
whole : (z : ℤ) → SFits w64 z → nat_abs z < 10 ^ most_digits
whole z f = omega (arith, ints, f)

pub returns-then-v-lt0 : goal.returns-then-v-lt0
returns-then-v-lt0 c =
    let n = rw (to_z-of_z w64 c.args.v c.ranges.v) at c.unsigned_abs-size.ensures.value in
    let w : Wrote c.args.out.now c.put_digits.new.out c.args.at c.put_digits.result (numeral c.args.v) =
    rw (numeral_below c.args.v c.ranges.v c.if-v-lt0.true, ← n) (wrote_then c.put_byte-p.ensures c.put_digits.ensures) in
    record { written = w; whole = number_there c.args.v w c.requires (whole c.args.v c.ranges.v) }

pub returns-else-v-lt0 : goal.returns-else-v-lt0
returns-else-v-lt0 c =
    let n = rw (to_z-of_z w64 c.args.v c.ranges.v) at c.unsigned_abs-size.ensures.value in
    let w : Wrote c.args.out.now c.put_digits-else-v-lt0.new.out c.args.at c.put_digits-else-v-lt0.result (numeral c.args.v) =
    rw (numeral_above c.args.v c.ranges.v c.if-v-lt0.false, ← n) c.put_digits-else-v-lt0.ensures in
    record { written = w; whole = number_there c.args.v w c.requires (whole c.args.v c.ranges.v) }
