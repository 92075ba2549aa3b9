-- Every row that an operation makes has a row's numbers, no coefficient at a pair that is not in use, and its own coefficient, which is not
-- negative, at its own symbol alone.
use mathlib.Core.Path.{◌≡◌, refl, ap, ap₂, ◌∙◌}
use Prim.Native.Nat.{ℕ, zero, suc, ◌<◌}
use native.Mathlib.Omega.{arith}
use lib.IntN.{ℤ, pos, ◌-ℤ◌}
use lib.Signed.{◌≤ℤ◌}
use lib.ListN.{length, replicate, length-set, length-map}
use lib.Seq.{get_or-set_same}
use Rattle.integer.proofs.Linear.{lin_ℤ, ◌⊴◌, ◌⇒◌, so}
use Rattle.integer.proofs.Ring.{con, ◌⊕◌, ◌⊖◌, ◌⊗◌}
use Rattle.affine.specs.declared.Row.{Row}
use Rattle.affine.specs.Limits.{symbols, pairs}
use Rattle.affine.specs.Lists.{at}
use Rattle.affine.specs.Steps.{constant_row, with_own, input_row, input_centre, zip_rows, map_row}
use Rattle.affine.specs.Product.{linear_totals, pair_totals, totals, product_rounding, product_own, product_row}
use Rattle.affine.specs.Reciprocal.{candidate, reciprocal_own, reciprocal_row}
use Rattle.affine.specs.Root.{unit_root, root_slope, root_candidate, root_own, root_row}
use Rattle.affine.proofs.Lists.{length_tabulate, at_tabulate}
use Rattle.affine.proofs.Form.{Shaped, UsesOnly}
use Rattle.affine.proofs.Rounding.{quotient_zero}
use Rattle.affine.proofs.Support.{FreeOf, NoPairOf, at_map, at_replicate, totals_free, map_free, candidate_free, root_candidate_free}
use Rattle.affine.proofs.RootCandidate.{root_slope_zero}
use Rattle.affine.proofs.Enclosure.{candidate_shaped, candidate_uses}
use Rattle.affine.proofs.InputRow.{centre_below_middle}

-- ---- a row's numbers
pub length-replicate : (n : ℕ) → length (replicate n (pos 0)) ≡ n
length-replicate zero = refl
length-replicate (suc n) = ap suc (length-replicate n)

pub constant_shaped : (v : ℤ) → Shaped (constant_row v)
constant_shaped v = record { linear = length-replicate symbols; pair = length-replicate pairs }

pub with_own_shaped : (own : ℕ) (v : ℤ) (r : Row) → Shaped r → Shaped (with_own own v r)
with_own_shaped own v r h = record { linear = length-set r.linear own v ∙ h.linear; pair = h.pair }

pub zip_shaped : (f : ℤ → ℤ → ℤ) (x y : Row) → Shaped (zip_rows f x y)
zip_shaped f x y = record { linear = length_tabulate symbols _; pair = length_tabulate pairs _ }

totals_shaped : (squares : ℕ) (x y : Row) → Shaped (totals squares x y)
unfolding linear_totals pair_totals
totals_shaped squares x y = record { linear = length_tabulate symbols _; pair = length_tabulate pairs _ }

map_shaped : (f : ℤ → ℤ) (r : Row) → Shaped r → Shaped (map_row f r)
map_shaped f r h = record { linear = length-map r.linear f ∙ h.linear; pair = length-map r.pair f ∙ h.pair }

pub input_shaped : (own : ℕ) (low high : ℤ) → Shaped (input_row own low high)
input_shaped own low high = with_own_shaped own _ (constant_row (input_centre low high)) (constant_shaped _)

pub product_shaped : (squares own : ℕ) (x y : Row) → Shaped (product_row squares own x y)
unfolding product_row
product_shaped squares own x y = with_own_shaped own _ (map_row product_rounding.quotient (totals squares x y)) (map_shaped _ (totals squares x y) (totals_shaped squares x y))

pub reciprocal_shaped : (squares own : ℕ) (x : Row) (a : ℕ) → Shaped (reciprocal_row squares own x a)
unfolding reciprocal_row
reciprocal_shaped squares own x a = with_own_shaped own _ (candidate squares x) (candidate_shaped squares x)

pub root_candidate_shaped : (x : Row) → Shaped (root_candidate x)
root_candidate_shaped x = record { linear = length_tabulate symbols _; pair = length_tabulate pairs _ }

pub root_shaped : (squares own : ℕ) (x : Row) (least : ℤ) → Shaped (root_row squares own x least)
unfolding root_row
root_shaped squares own x least = with_own_shaped own _ (root_candidate x) (root_candidate_shaped x)

-- ---- pairs not in use
pub constant_uses : (squares : ℕ) (v : ℤ) → UsesOnly squares (constant_row v)
constant_uses squares v = record { unused = λ k h e. at_replicate pairs k }

pub input_uses : (squares own : ℕ) (low high : ℤ) → UsesOnly squares (input_row own low high)
input_uses squares own low high = record { unused = λ k h e. at_replicate pairs k }

pub zip_uses : (squares : ℕ) (f : ℤ → ℤ → ℤ) → f (pos 0) (pos 0) ≡ pos 0 → (x y : Row) → UsesOnly squares x → UsesOnly squares y → UsesOnly squares (zip_rows f x y)
zip_uses squares f z x y hx hy = record { unused = λ k h e. at_tabulate pairs _ k h ∙ ap₂ f (hx.unused k h e) (hy.unused k h e) ∙ z }

totals_uses : (squares : ℕ) (x y : Row) → UsesOnly squares (totals squares x y)
unfolding pair_totals
totals_uses squares x y = record { unused = λ k h e. at_tabulate pairs _ k h ∙ rw e }

pub product_uses : (squares own : ℕ) (x y : Row) → UsesOnly squares (product_row squares own x y)
unfolding product_row
product_uses squares own x y =
    record { unused = λ k h e. at_map product_rounding.quotient quotient_zero (pair_totals squares x y) k ((totals_uses squares x y).unused k h e) }

pub reciprocal_uses : (squares own : ℕ) (x : Row) (a : ℕ) → UsesOnly squares (reciprocal_row squares own x a)
unfolding reciprocal_row
reciprocal_uses squares own x a = record { unused = (candidate_uses squares x).unused }

pub root_candidate_uses : (squares : ℕ) (x : Row) → UsesOnly squares x → UsesOnly squares (root_candidate x)
root_candidate_uses squares x h =
    record { unused = λ k l e. at_tabulate pairs _ k l ∙ ap (root_slope (unit_root x.centre)) (h.unused k l e) ∙ root_slope_zero (unit_root x.centre) }

pub root_uses : (squares own : ℕ) (x : Row) (least : ℤ) → UsesOnly squares x → UsesOnly squares (root_row squares own x least)
unfolding root_row
root_uses squares own x least h = record { unused = (root_candidate_uses squares x h).unused }

-- ---- the own coefficient
at_with_own : (own : ℕ) (v : ℤ) (r : Row) → Shaped r → own < symbols → at (with_own own v r).linear own ≡ v
at_with_own own v r s h = get_or-set_same r.linear own v (pos 0) (rw s.linear h)

pub input_own : (own : ℕ) (low high : ℤ) → own < symbols → at (input_row own low high).linear own ≡ high -ℤ input_centre low high
input_own own low high h = at_with_own own _ (constant_row (input_centre low high)) (constant_shaped _) h

pub input_own_nonneg : (low high : ℤ) → low ≤ℤ high → pos 0 ≤ℤ (high -ℤ input_centre low high)
input_own_nonneg low high h =
    lin_ℤ 3 (λ l h c. l ⊴ h ⇒ con (pos 2) ⊗ c ⊴ l ⊕ h ⇒ so (con (pos 0) ⊴ h ⊖ c)) low high (input_centre low high) (omega arith) h (centre_below_middle low high)

pub product_own_lem : (squares own : ℕ) (x y : Row) → own < symbols → at (product_row squares own x y).linear own ≡ pos (product_own squares x y)
unfolding product_row
product_own_lem squares own x y h =
    at_with_own own _ (map_row product_rounding.quotient (totals squares x y)) (map_shaped _ (totals squares x y) (totals_shaped squares x y)) h

pub reciprocal_own_lem : (squares own : ℕ) (x : Row) (a : ℕ) → own < symbols → at (reciprocal_row squares own x a).linear own ≡ pos (reciprocal_own squares x a)
unfolding reciprocal_row
reciprocal_own_lem squares own x a h = at_with_own own _ (candidate squares x) (candidate_shaped squares x) h

pub root_own_lem : (squares own : ℕ) (x : Row) (least : ℤ) → own < symbols → at (root_row squares own x least).linear own ≡ pos (root_own squares x least)
unfolding root_row
root_own_lem squares own x least h = at_with_own own _ (root_candidate x) (root_candidate_shaped x) h

pub free_no_pair : (n : ℕ) (r : Row) → FreeOf n r → NoPairOf n r
free_no_pair n r h = record { pair = h.pair }

pub input_no_pair : (n own : ℕ) (low high : ℤ) → NoPairOf n (input_row own low high)
input_no_pair n own low high = record { pair = λ k h p. at_replicate pairs k }

pub product_no_pair : (n squares own : ℕ) (x y : Row) → FreeOf n x → FreeOf n y → NoPairOf n (product_row squares own x y)
unfolding product_row
product_no_pair n squares own x y hx hy =
    record { pair = (map_free n product_rounding.quotient quotient_zero (totals squares x y) (totals_free n squares x y hx hy)).pair }

pub reciprocal_no_pair : (n squares own : ℕ) (x : Row) (a : ℕ) → FreeOf n x → NoPairOf n (reciprocal_row squares own x a)
unfolding reciprocal_row
reciprocal_no_pair n squares own x a h = record { pair = (candidate_free n squares x h).pair }

pub root_no_pair : (n squares own : ℕ) (x : Row) (least : ℤ) → FreeOf n x → NoPairOf n (root_row squares own x least)
unfolding root_row
root_no_pair n squares own x least h = record { pair = (root_candidate_free n x h).pair }
