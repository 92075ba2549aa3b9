-- How large the numbers of a product get: each product of two numbers of the operands is used once, so that all totals and the dropped
-- part together are at most span times span.
use mathlib.Core.Path.{◌≡◌, refl}
use mathlib.Core.Bool.{Bool, true, false}
use mathlib.Core.List.{List}
use Prim.Native.Nat.{ℕ, zero, suc, ◌+◌, ◌-◌, ◌*◌, ◌≤◌, ◌<◌}
use native.Mathlib.Nat.{le_refl, le_trans, mul_comm, mul-add, add-mul, mul-le-mul}
use native.Mathlib.Omega.{arith}
use borrow.Author.Tests.{ltb-true, lt-ltb, eq-eqb, ne_eqb}
use lib.Dec.{eqb, ltb}
use lib.IntN.{ℤ, pos, nat_abs, ◌+ℤ◌, ◌*ℤ◌}
use lib.ListN.{take}
use lib.Seq.{get_or-take}
use mir.Syntax.{w64}
use mir.Val.{SFits, to_z, of_z}
use mir.ValLaws.{to_z-of_z}
use Rattle.integer.proofs.Machine.{operation_gives}
use Rattle.integer.proofs.Absolute.{nat_abs_add, nat_abs_mul, nat_abs_add_within, nat_abs_mul_within, fits_within}
use Rattle.integer.specs.Sum.{sum_abs}
use Rattle.integer.proofs.Sum.{sum_abs_append, sum_abs_take}
use Rattle.affine.specs.Lists.{pick, at, tabulate}
use Rattle.affine.specs.declared.Row.{Row}
use Rattle.affine.specs.Limits.{symbols, pairs, paired, span_limit}
use Rattle.affine.specs.PairOrder.{over_pairs, first_of, second_of, in_use}
use Rattle.affine.specs.Row.{span, radius}
use Rattle.affine.specs.Product.{meeting, crosswise, linear_total, linear_totals, pair_total, pair_totals, squared_radius, dropped}
use Rattle.affine.proofs.Lists.{pick_elim, at_tabulate}
use Rattle.affine.proofs.PairSymbols.{tabulate_pairs, second_below}
use Rattle.affine.proofs.RowSize.{span_is_sum, element_within, centre_within, linear_at_within, pair_at_within}
use Rattle.affine.proofs.SumLaws.{sum_abs_tabulate_at, sum_abs_tabulate_within}

-- two products and their sum, of first factors that are at most m and second factors at most n
pub record TwoProducts (m n : ℕ) (a b c d : ℤ) : Type 0 where
  pub first : nat_abs (a *ℤ b) ≤ m * n
  pub both : nat_abs (a *ℤ b +ℤ c *ℤ d) ≤ 2 * (m * n)

pub two_products : (m n : ℕ) (a b c d : ℤ) → nat_abs a ≤ m → nat_abs b ≤ n → nat_abs c ≤ m → nat_abs d ≤ n → TwoProducts m n a b c d
two_products m n a b c d ha hb hc hd =
    let p = nat_abs_mul_within a b ha hb in
    let q = nat_abs_mul_within c d hc hd in
    record { first = p; both = omega (arith, nat_abs_add_within (a *ℤ b) (c *ℤ d) p q) }

-- as the machine multiplies numbers within the span limit, and adds two products
pub product_given : (a b : ℤ) → nat_abs a ≤ span_limit → nat_abs b ≤ span_limit
    → to_z w64 (of_z w64 (to_z w64 (of_z w64 a) *ℤ to_z w64 (of_z w64 b))) ≡ a *ℤ b
product_given a b ha hb =
    operation_gives ◌*ℤ◌ (fits_within a span_limit ha (omega arith)) (fits_within b span_limit hb (omega arith))
    (fits_within (a *ℤ b) (span_limit * span_limit) (nat_abs_mul_within a b ha hb) (omega arith))

pub two_products_fit : (a b c d : ℤ) → nat_abs a ≤ span_limit → nat_abs b ≤ span_limit → nat_abs c ≤ span_limit → nat_abs d ≤ span_limit
    → SFits w64 (a *ℤ b +ℤ c *ℤ d)
two_products_fit a b c d ha hb hc hd =
    fits_within (a *ℤ b +ℤ c *ℤ d) (2 * (span_limit * span_limit))
    (two_products span_limit span_limit a b c d ha hb hc hd).both (omega arith)

pub two_products_given : (a b c d : ℤ) → nat_abs a ≤ span_limit → nat_abs b ≤ span_limit → nat_abs c ≤ span_limit → nat_abs d ≤ span_limit
    → to_z w64 (of_z w64 (a *ℤ b +ℤ c *ℤ d)) ≡ a *ℤ b +ℤ c *ℤ d
two_products_given a b c d ha hb hc hd = to_z-of_z w64 _ (two_products_fit a b c d ha hb hc hd)

pub mul_within : (a b m n : ℕ) → a ≤ m → b ≤ n → a * b ≤ m * n
mul_within a b m n h k = mul-le-mul h k

-- the first alone, or both
one_or_both_within : {m n : ℕ} {a b c d : ℤ} (one : Bool) → TwoProducts m n a b c d
    → nat_abs (pick one (a *ℤ b) (a *ℤ b +ℤ c *ℤ d)) ≤ 2 * (m * n)
one_or_both_within true w = omega (arith, w.first)
one_or_both_within false w = w.both

pub meeting_within : {m n : ℕ} (a b : List ℤ) → ((i : ℕ) → nat_abs (at a i) ≤ m) → ((i : ℕ) → nat_abs (at b i) ≤ n)
    → (i j : ℕ) → nat_abs (meeting a b i j) ≤ 2 * (m * n)
meeting_within {m} {n} a b ha hb i j =
    one_or_both_within (eqb i j) (two_products m n (at a i) (at b j) (at a j) (at b i) (ha i) (hb j) (ha j) (hb i))

-- one symbol more: its product with itself, those with the others, and the rest
square_of_sums : (a u b v : ℕ) {x y z : ℕ} → x ≤ a * b → y ≤ a * v + b * u → z ≤ u * v → x + (y + z) ≤ (a + u) * (b + v)
square_of_sums a u b v h k l = rw (add-mul, mul-add a b v, mul-add u b v, mul_comm u b) (omega arith)

-- the products that meet in the pairs of n symbols: all products of two sums, each once
meeting_sum : (n : ℕ) (f : ℕ → ℕ → ℤ) (u v : ℕ → ℤ) → ((i : ℕ) → nat_abs (f i i) ≤ nat_abs (u i) * nat_abs (v i))
    → ((i j : ℕ) → i < j → nat_abs (f i j) ≤ nat_abs (u i) * nat_abs (v j) + nat_abs (v i) * nat_abs (u j))
    → sum_abs (over_pairs n f) ≤ sum_abs (tabulate n u) * sum_abs (tabulate n v)
unfolding tabulate over_pairs
meeting_sum zero f u v same other = omega arith
meeting_sum (suc n) f u v same other =
    let first = same 0 in
    let row =
    sum_abs_tabulate_within n (λ j. f 0 (suc j)) (λ j. v (suc j)) (λ j. u (suc j)) (nat_abs (u 0)) (nat_abs (v 0)) (λ j. other 0 (suc j) (omega arith)) in
    let rest =
    meeting_sum n (λ i j. f (suc i) (suc j)) (λ i. u (suc i)) (λ i. v (suc i)) (λ i. same (suc i)) (λ i j l. other (suc i) (suc j) (omega arith)) in
    rw (sum_abs_append (tabulate n (λ j. f 0 (suc j)))) (square_of_sums (nat_abs (u 0)) (sum_abs (tabulate n (λ i. u (suc i)))) (nat_abs (v 0)) (sum_abs (tabulate n (λ i. v (suc i)))) first row rest)

-- ---- the totals of two rows
-- the products that meet in the pairs in use: at most the linear absolutes of the first "squares" symbols, multiplied
module _ (squares : ℕ) (a b : List ℤ) where
  abbrev used : ℕ → ℕ → ℤ
  used i j = pick (ltb j squares) (meeting a b i j) (pos 0)

  used_same : (i : ℕ) → nat_abs (used i i) ≤ nat_abs (at (take squares a) i) * nat_abs (at (take squares b) i)
  used_same i =
      pick_elim (λ z. nat_abs z ≤ nat_abs (at (take squares a) i) * nat_abs (at (take squares b) i)) (ltb i squares) (meeting a b i i) (pos 0)
      (λ e.
      let l = ltb-true i squares e in
      rw (eq-eqb i i refl, get_or-take squares a i (pos 0) l, get_or-take squares b i (pos 0) l, ← nat_abs_mul) (omega arith))
      (λ e. omega arith)

  used_other : (i j : ℕ) → i < j
      → nat_abs (used i j) ≤ nat_abs (at (take squares a) i) * nat_abs (at (take squares b) j) + nat_abs (at (take squares b) i) * nat_abs (at (take squares a) j)
  used_other i j h =
      pick_elim (λ z. nat_abs z ≤ nat_abs (at (take squares a) i) * nat_abs (at (take squares b) j) + nat_abs (at (take squares b) i) * nat_abs (at (take squares a) j))
      (ltb j squares) (meeting a b i j) (pos 0)
      (λ e.
      let l = ltb-true j squares e in
      let k : i < squares = omega arith in
      rw (ne_eqb i j (λ q. omega arith), get_or-take squares a i (pos 0) k, get_or-take squares b i (pos 0) k, get_or-take squares a j (pos 0) l, get_or-take squares b j (pos 0) l)
      (nat_abs_add_within (at a i *ℤ at b j) (at a j *ℤ at b i) (rw nat_abs_mul (omega arith)) (rw (nat_abs_mul, mul_comm (nat_abs (at b i))) (omega arith))))
      (λ e. omega arith)

  used_within : sum_abs (over_pairs paired used) ≤ sum_abs (take squares a) * sum_abs (take squares b)
  used_within =
      le_trans (meeting_sum paired used (at (take squares a)) (at (take squares b)) used_same used_other)
      (mul-le-mul (sum_abs_tabulate_at paired (take squares a)) (sum_abs_tabulate_at paired (take squares b)))

crosswise_within : (n : ℕ) (c d : ℤ) (a b : List ℤ)
    → sum_abs (tabulate n (λ i. crosswise c (at b i) d (at a i))) ≤ nat_abs c * sum_abs b + nat_abs d * sum_abs a
crosswise_within n c d a b =
    let s =
    sum_abs_tabulate_within n (λ i. crosswise c (at b i) d (at a i)) (at b) (at a) (nat_abs c) (nat_abs d)
    (λ i. nat_abs_add_within (c *ℤ at b i) (d *ℤ at a i) (rw nat_abs_mul (omega arith)) (rw nat_abs_mul (omega arith))) in
    let second = mul-le-mul (le_refl (nat_abs c)) (sum_abs_tabulate_at n b) in
    let first = mul-le-mul (le_refl (nat_abs d)) (sum_abs_tabulate_at n a) in
    omega arith

product_of_sums : (c l p d m q : ℕ) {s t a b : ℕ} → s ≤ c * m + d * l → t ≤ c * q + d * p + a * b → a ≤ l → b ≤ m
    → c * d + s + t + ((l + p) * (m + q) - a * b) ≤ (c + (l + p)) * (d + (m + q))
product_of_sums c l p d m q {s} {t} {a} {b} hs ht ha hb =
    let ha' : a ≤ l + p = omega arith in
    let hb' : b ≤ m + q = omega arith in
    let k : a * b ≤ (l + p) * (m + q) = mul-le-mul ha' hb' in
    rw (add-mul c (l + p) (d + (m + q)), mul-add c d (m + q), mul-add c m q, mul-add (l + p) d (m + q), mul_comm (l + p) d, mul-add d l p) (omega arith)

-- a total, or 0 where the pair is not in use
either_within : (t : Bool) (z m : ℤ) → nat_abs (pick t (z +ℤ m) (pos 0)) ≤ 1 * nat_abs z + 1 * nat_abs (pick t m (pos 0))
either_within true z m = omega (arith, nat_abs_add z m)
either_within false z m = omega arith

module _ (x y : Row) where
  linear_totals_within : sum_abs (linear_totals x y) ≤ nat_abs x.centre * sum_abs y.linear + nat_abs y.centre * sum_abs x.linear
  unfolding linear_totals
  linear_totals_within = crosswise_within symbols x.centre y.centre x.linear y.linear

module _ (squares : ℕ) (x y : Row) where
  pair_totals_within : sum_abs (pair_totals squares x y)
      ≤ nat_abs x.centre * sum_abs y.pair + nat_abs y.centre * sum_abs x.pair + squared_radius squares x * squared_radius squares y
  unfolding pair_totals squared_radius
  pair_totals_within =
      let crossed : ℕ → ℤ = λ k. crosswise x.centre (at y.pair k) y.centre (at x.pair k) in
      let met : ℕ → ℤ = λ k. used squares x.linear y.linear (first_of k) (second_of k) in
      let s : sum_abs (pair_totals squares x y) ≤ 1 * sum_abs (tabulate pairs crossed) + 1 * sum_abs (tabulate pairs met) =
      sum_abs_tabulate_within pairs _ crossed met 1 1
      (λ k. either_within (in_use squares k) (crossed k) (meeting x.linear y.linear (first_of k) (second_of k))) in
      let c : sum_abs (tabulate pairs crossed) ≤ nat_abs x.centre * sum_abs y.pair + nat_abs y.centre * sum_abs x.pair =
      crosswise_within pairs x.centre y.centre x.pair y.pair in
      let m : sum_abs (tabulate pairs met) ≤ sum_abs (take squares x.linear) * sum_abs (take squares y.linear) =
      rw (tabulate_pairs (used squares x.linear y.linear)) (used_within squares x.linear y.linear) in
      omega arith

  -- the sum of all absolute totals and the dropped part
  pub totals_within_spans : nat_abs (x.centre *ℤ y.centre) + sum_abs (linear_totals x y) + sum_abs (pair_totals squares x y) + dropped squares x y ≤ span x * span y
  unfolding radius squared_radius dropped
  totals_within_spans =
      rw (span_is_sum x, span_is_sum y, nat_abs_mul)
      (product_of_sums (nat_abs x.centre) (sum_abs x.linear) (sum_abs x.pair) (nat_abs y.centre) (sum_abs y.linear) (sum_abs y.pair)
      (linear_totals_within x y) pair_totals_within (sum_abs_take squares x.linear) (sum_abs_take squares y.linear))

  pub totals_within : {n : ℕ} → span x ≤ n → span y ≤ n
      → nat_abs (x.centre *ℤ y.centre) + sum_abs (linear_totals x y) + sum_abs (pair_totals squares x y) + dropped squares x y ≤ n * n
  totals_within hx hy = le_trans totals_within_spans (mul-le-mul hx hy)

  pub centre_product_within : {n : ℕ} → span x ≤ n → span y ≤ n → nat_abs (x.centre *ℤ y.centre) ≤ n * n
  centre_product_within hx hy = nat_abs_mul_within x.centre y.centre (centre_within x hx) (centre_within y hy)

-- a total of two rows within the span limit fits
pub pair_total_fits : (x y : Row) → span x ≤ span_limit → span y ≤ span_limit → (k : ℕ) → SFits w64 (pair_total x y k)
pair_total_fits x y hx hy k =
    let w =
    two_products span_limit span_limit x.centre (at y.pair k) y.centre (at x.pair k)
    (centre_within x hx) (pair_at_within y hy k) (centre_within y hy) (pair_at_within x hx k) in
    let m = meeting_within x.linear y.linear (linear_at_within x hx) (linear_at_within y hy) (first_of k) (second_of k) in
    fits_within (pair_total x y k) (4 * (span_limit * span_limit))
    (nat_abs_add_within (crosswise x.centre (at y.pair k) y.centre (at x.pair k)) (meeting x.linear y.linear (first_of k) (second_of k)) w.both m) (omega arith)

pub centre_product_fits : (x y : Row) → span x ≤ span_limit → span y ≤ span_limit → SFits w64 (x.centre *ℤ y.centre)
centre_product_fits x y hx hy = fits_within (x.centre *ℤ y.centre) (span_limit * span_limit) (centre_product_within 0 x y hx hy) (omega arith)

-- no total alone is above the product of the spans
module _ (x y : Row) {n : ℕ} (hx : span x ≤ n) (hy : span y ≤ n) where
  pub linear_total_within : (i : ℕ) → i < symbols → nat_abs (linear_total x y i) ≤ n * n
  unfolding linear_totals
  linear_total_within i h =
      let all : sum_abs (linear_totals x y) ≤ n * n = omega (arith, totals_within 0 x y hx hy) in
      rw (← (at_tabulate symbols (linear_total x y) i h)) (element_within (linear_totals x y) all i)

  pub pair_total_within : (k : ℕ) → k < pairs → nat_abs (pair_total x y k) ≤ n * n
  unfolding pair_totals
  pair_total_within k h =
      let all : sum_abs (pair_totals paired x y) ≤ n * n = omega (arith, totals_within paired x y hx hy) in
      let e = rw (lt-ltb (second_of k) paired (second_below k)) at (at_tabulate pairs (λ k. pick (in_use paired k) (pair_total x y k) (pos 0)) k h) in
      rw (← e) (element_within (pair_totals paired x y) all k)
