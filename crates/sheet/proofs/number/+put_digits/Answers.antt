-- `put_digits` writes the digits before the last by itself, then the last: the equations of `decimal`.
use Rattle.std.proofs.Common.{◌+◌, ◌-◌, ◌/◌, ◌%◌, ◌≡◌, [], ◌∷◌, length, refl, ap, arith, length-append}
use Rattle.sheet.specs.Text.{decimal}
use Rattle.sheet.proofs.Written.{sets_snoc}
use Rattle.sheet.proofs.Decimal.{decimal_one, decimal_more, decimal_length}
use Rattle.sheet.proofs.number.+put_digits.Goals as goal

pub bounds-out-at : goal.bounds-out-at
bounds-out-at t c = omega (arith, ap length (decimal_one c.args.k c.args.v c.if-k-eq0.false c.if-v-lt10.true))

pub put_digits-p-requires : goal.put_digits-p-requires
put_digits-p-requires t c =
    let n = decimal_length c.args.k c.args.v c.if-k-eq0.false c.if-v-lt10.false in
    (omega arith, omega arith)

pub bounds-out-p : goal.bounds-out-p
bounds-out-p t c =
    let f = c.put_digits-p in
    omega (arith, decimal_length c.args.k c.args.v c.if-k-eq0.false c.if-v-lt10.false, f.ensures.ends, f.auto.out)

pub overflow_add-result-else-v-lt10 : goal.overflow_add-result-else-v-lt10
overflow_add-result-else-v-lt10 t c =
    let f = c.put_digits-p in
    record { fits = omega (arith, decimal_length c.args.k c.args.v c.if-k-eq0.false c.if-v-lt10.false, f.ensures.ends, f.auto.out) }

pub returns-then-k-eq0 : goal.returns-then-k-eq0
unfolding decimal
returns-then-k-eq0 t c = let n : c.args.k ≡ 0 = c.if-k-eq0.true in rw n (record { ends = omega arith; is = refl })

pub returns-then-v-lt10 : goal.returns-then-v-lt10
returns-then-v-lt10 t c =
    rw (decimal_one c.args.k c.args.v c.if-k-eq0.false c.if-v-lt10.true) (record { ends = refl; is = refl })

pub returns-else-v-lt10 : goal.returns-else-v-lt10
returns-else-v-lt10 t c =
    let a = c.args in
    let f = c.put_digits-p in
    rw (decimal_more a.k a.v c.if-k-eq0.false c.if-v-lt10.false)
    (record {
      ends = rw (length-append (decimal (a.k - 1) (a.v / 10)) ((a.v % 10 + 48) ∷ [])) (omega (arith, f.ensures.ends));
      is = rw (f.ensures.is, f.ensures.ends) (sets_snoc (decimal (a.k - 1) (a.v / 10)) a.out.now a.at (a.v % 10 + 48));
    })
