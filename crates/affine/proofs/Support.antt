-- On which symbols a row depends. A symbol that stands in neither operand stands in no result but at its own row, and a form's value does not
-- change with a symbol on which its row does not depend.
use mathlib.Core.Path.{◌≡◌, refl, ap, ap₂, ◌∙◌}
use mathlib.Core.Logic.{◌≢◌, ◌⊎◌, inl, inr}
use mathlib.Core.Bool.{Bool, true, false}
use mathlib.Core.List.{List, [], ◌∷◌, map}
use Prim.Native.Nat.{ℕ, zero, suc, ◌<◌}
use native.Mathlib.Decide.{ℕ_discrete}
use lib.Dec.{eqb}
use lib.IntN.{ℤ, pos, neg_ℤ, ◌+ℤ◌, ◌*ℤ◌, *ℤ-zero, zero-*ℤ}
use lib.ListN.{replicate}
use lib.Seq.{get_or-set_other}
use Rattle.integer.specs.Floor.{floor_quotient}
use Rattle.integer.proofs.Floor.{zero_quotient}
use Rattle.integer.proofs.Ring.{CommutativeRing, ◌⊕◌, ◌≐◌, ring}
use Rattle.affine.specs.declared.Row.{Row}
use Rattle.affine.specs.Limits.{symbols, pairs}
use Rattle.affine.specs.Lists.{pick, at}
use Rattle.affine.specs.PairOrder.{first_of, second_of, in_use}
use Rattle.affine.specs.Steps.{constant_row, with_own, input_row, input_centre, zip_rows, map_row}
use Rattle.affine.specs.Product.{meeting, linear_totals, pair_totals, totals, product_rounding, product_row}
use Rattle.affine.specs.Reciprocal.{slope, candidate_linear, candidate_pair, candidate, reciprocal_row}
use Rattle.integer.proofs.Sum.{dot_same, dot_change}
use Rattle.affine.specs.Root.{unit_root, root_slope, root_candidate, root_row}
use Rattle.affine.proofs.Lists.{at_tabulate_zero}
use Rattle.affine.proofs.Rounding.{quotient_zero}
use Rattle.affine.proofs.Candidate.{slope_zero}
use Rattle.affine.proofs.RootCandidate.{root_slope_zero}
use Rattle.affine.proofs.Form.{Shaped, pair_value, units}

-- a pair that holds symbol n
abbrev pub Holds : ℕ → ℕ → Type 0
Holds n k = (first_of k ≡ n) ⊎ (second_of k ≡ n)

-- no coefficient of the row is that of symbol n, or of a pair that holds it
pub record FreeOf (n : ℕ) (r : Row) : Type 0 where
  pub linear : at r.linear n ≡ pos 0
  pub pair : (k : ℕ) → k < pairs → Holds n k → at r.pair k ≡ pos 0

-- no pair that holds symbol n has a coefficient
pub record NoPairOf (n : ℕ) (r : Row) : Type 0 where
  pub pair : (k : ℕ) → k < pairs → Holds n k → at r.pair k ≡ pos 0

pub at_map : (f : ℤ → ℤ) → f (pos 0) ≡ pos 0 → (xs : List ℤ) (i : ℕ) → at xs i ≡ pos 0 → at (map f xs) i ≡ pos 0
at_map f h [] i e = refl
at_map f h (x ∷ xs) zero e = ap f e ∙ h
at_map f h (x ∷ xs) (suc i) e = at_map f h xs i e

pub at_replicate : (n i : ℕ) → at (replicate n (pos 0)) i ≡ pos 0
at_replicate zero i = refl
at_replicate (suc n) zero = refl
at_replicate (suc n) (suc i) = at_replicate n i

pub constant_free : (n : ℕ) (v : ℤ) → FreeOf n (constant_row v)
constant_free n v = record { linear = at_replicate symbols n; pair = λ k h p. at_replicate pairs k }

pub with_own_free : (n own : ℕ) (v : ℤ) (r : Row) → n ≢ own → FreeOf n r → FreeOf n (with_own own v r)
with_own_free n own v r d f = record { linear = get_or-set_other r.linear own n v (pos 0) d ∙ f.linear; pair = f.pair }

pub input_free : (n own : ℕ) (low high : ℤ) → n ≢ own → FreeOf n (input_row own low high)
input_free n own low high d = with_own_free n own _ (constant_row (input_centre low high)) d (constant_free n _)

pub map_free : (n : ℕ) (f : ℤ → ℤ) → f (pos 0) ≡ pos 0 → (r : Row) → FreeOf n r → FreeOf n (map_row f r)
map_free n f z r h = record { linear = at_map f z r.linear n h.linear; pair = λ k l p. at_map f z r.pair k (h.pair k l p) }

pub zip_free : (n : ℕ) (f : ℤ → ℤ → ℤ) → f (pos 0) (pos 0) ≡ pos 0 → (x y : Row) → FreeOf n x → FreeOf n y → FreeOf n (zip_rows f x y)
zip_free n f z x y hx hy =
    record {
      linear = at_tabulate_zero symbols _ n (λ l. rw (hx.linear, hy.linear) z);
      pair = λ k l p. at_tabulate_zero pairs _ k (λ m. rw (hx.pair k l p, hy.pair k l p) z);
    }

-- both products that meet in a pair have a coefficient of each of its symbols
meeting_zero : (a b : List ℤ) (n i j : ℕ) → at a n ≡ pos 0 → at b n ≡ pos 0 → (i ≡ n) ⊎ (j ≡ n) → meeting a b i j ≡ pos 0
meeting_zero a b n i j ha hb (inl e) =
    let p : at a i ≡ pos 0 = ap (at a) e ∙ ha in
    let q : at b i ≡ pos 0 = ap (at b) e ∙ hb in
    rw (p, q) (go (eqb i j))
  where
    go : (t : Bool) → pick t (pos 0 *ℤ at b j) (pos 0 *ℤ at b j +ℤ at a j *ℤ pos 0) ≡ pos 0
    go true = zero-*ℤ (at b j)
    go false = simp (zero-*ℤ, *ℤ-zero)
meeting_zero a b n i j ha hb (inr e) =
    let p : at a j ≡ pos 0 = ap (at a) e ∙ ha in
    let q : at b j ≡ pos 0 = ap (at b) e ∙ hb in
    rw (p, q) (go (eqb i j))
  where
    go : (t : Bool) → pick t (at a i *ℤ pos 0) (at a i *ℤ pos 0 +ℤ pos 0 *ℤ at b i) ≡ pos 0
    go true = *ℤ-zero (at a i)
    go false = simp (zero-*ℤ, *ℤ-zero)

pick_zero : (t : Bool) (z : ℤ) → z ≡ pos 0 → pick t z (pos 0) ≡ pos 0
pick_zero true z e = e
pick_zero false z e = refl

pub totals_free : (n squares : ℕ) (x y : Row) → FreeOf n x → FreeOf n y → FreeOf n (totals squares x y)
unfolding linear_totals pair_totals
totals_free n squares x y hx hy =
    record {
      linear = at_tabulate_zero symbols _ n (λ l. rw (hx.linear, hy.linear) (simp *ℤ-zero));
      pair = λ k l p. at_tabulate_zero pairs _ k
          (λ m. pick_zero (in_use squares k) _
          (rw (hx.pair k l p, hy.pair k l p, meeting_zero x.linear y.linear n (first_of k) (second_of k) hx.linear hy.linear p) (simp *ℤ-zero)));
    }

pub product_free : (n squares own : ℕ) (x y : Row) → n ≢ own → FreeOf n x → FreeOf n y → FreeOf n (product_row squares own x y)
unfolding product_row
product_free n squares own x y d hx hy =
    with_own_free n own _ (map_row product_rounding.quotient (totals squares x y)) d
    (map_free n product_rounding.quotient quotient_zero (totals squares x y) (totals_free n squares x y hx hy))

pub candidate_linear_zero : (x : Row) (n : ℕ) → at x.linear n ≡ pos 0 → at (candidate_linear x) n ≡ pos 0
unfolding candidate_linear
candidate_linear_zero x n h = at_tabulate_zero symbols _ n (λ l. ap (slope x.centre) h ∙ slope_zero x.centre)

pub candidate_free : (n squares : ℕ) (x : Row) → FreeOf n x → FreeOf n (candidate squares x)
unfolding candidate_pair
candidate_free n squares x h =
    record {
      linear = candidate_linear_zero x n h.linear;
      pair = λ k l p. at_tabulate_zero pairs _ k
          (λ m. pick_zero (in_use squares k) _
          (ap₂ (λ a b. a +ℤ b) (ap (slope x.centre) (h.pair k l p) ∙ slope_zero x.centre)
          (ap (λ z. floor_quotient (neg_ℤ z) x.centre) (meeting_zero (candidate_linear x) x.linear n (first_of k) (second_of k) (candidate_linear_zero x n h.linear) h.linear p) ∙ zero_quotient x.centre)));
    }

pub reciprocal_free : (n squares own : ℕ) (x : Row) (a : ℕ) → n ≢ own → FreeOf n x → FreeOf n (reciprocal_row squares own x a)
unfolding reciprocal_row
reciprocal_free n squares own x a d h = with_own_free n own _ (candidate squares x) d (candidate_free n squares x h)

pub root_candidate_free : (n : ℕ) (x : Row) → FreeOf n x → FreeOf n (root_candidate x)
root_candidate_free n x h =
    let z = unit_root x.centre in
    record {
      linear = at_tabulate_zero symbols _ n (λ l. ap (root_slope z) h.linear ∙ root_slope_zero z);
      pair = λ k l p. at_tabulate_zero pairs _ k (λ m. ap (root_slope z) (h.pair k l p) ∙ root_slope_zero z);
    }

pub root_free : (n squares own : ℕ) (x : Row) (least : ℤ) → n ≢ own → FreeOf n x → FreeOf n (root_row squares own x least)
unfolding root_row
root_free n squares own x least d h = with_own_free n own _ (root_candidate x) d (root_candidate_free n x h)

-- ---- values
module _ (𝓡 : CommutativeRing) where
  open 𝓡 use {Carrier as C, eq as ◌~◌, add as ◌⊹◌, mul as ◌·◌, minus, whole, eq_refl as rfl, eq_sym as sy, eq_trans as ◌⨟◌, add_cong, mul_cong}

  infix 4 ◌~◌
  infixr 3 ◌⨟◌
  infixl 6 ◌⊹◌
  infixl 7 ◌·◌
  module _ (r : Row) (u w : ℕ → C) where
    free_linear : (k : ℕ) → FreeOf k r ⊎ (u k ~ w k) → (at r.linear k ≡ pos 0) ⊎ (u k ~ w k)
    free_linear k (inl f) = inl f.linear
    free_linear k (inr e) = inr e

    free_pair : (k : ℕ) → k < pairs → FreeOf (first_of k) r ⊎ (u (first_of k) ~ w (first_of k)) → FreeOf (second_of k) r ⊎ (u (second_of k) ~ w (second_of k))
        → (at r.pair k ≡ pos 0) ⊎ (pair_value 𝓡 u k ~ pair_value 𝓡 w k)
    free_pair k l (inl f) g = inl (f.pair k l (inl refl))
    free_pair k l (inr e) (inl f) = inl (f.pair k l (inr refl))
    free_pair k l (inr e) (inr f) = inr (mul_cong e f)

  -- symbols on which a row does not depend may have any value
  pub units_same : (r : Row) → Shaped r → {u w : ℕ → C} → ((n : ℕ) → FreeOf n r ⊎ (u n ~ w n)) → units 𝓡 r u ~ units 𝓡 r w
  units_same r shape {u} {w} h =
      add_cong (rfl _) (add_cong (dot_same 𝓡 r.linear (λ k l. free_linear r u w k (h k))) (dot_same 𝓡 r.pair (λ k l. free_pair r u w k (rw shape.pair at l) (h (first_of k)) (h (second_of k)))))

  -- a row depends on its own symbol by the own coefficient alone
  pub units_own : (r : Row) → Shaped r → (own : ℕ) → NoPairOf own r → {u w : ℕ → C} → ((n : ℕ) → n ≢ own → FreeOf n r ⊎ (u n ~ w n))
      → units 𝓡 r u ~ units 𝓡 r w ⊹ whole (at r.linear own) · (u own ⊹ minus (w own))
  units_own r shape own alone {u} {w} h =
      add_cong (rfl _)
      (add_cong (dot_change 𝓡 r.linear own (λ k d. free_linear r u w k (h k d)))
      (dot_same 𝓡 r.pair (λ k l. pair k (rw shape.pair at l) (ℕ_discrete (first_of k) own) (ℕ_discrete (second_of k) own))))
      ⨟ ring 𝓡 4 (λ c L D P. c ⊕ ((L ⊕ D) ⊕ P) ≐ (c ⊕ (L ⊕ P)) ⊕ D) tt _ _ _ _
    where
      pair : (k : ℕ) → k < pairs → Dec (first_of k ≡ own) → Dec (second_of k ≡ own) → (at r.pair k ≡ pos 0) ⊎ (pair_value 𝓡 u k ~ pair_value 𝓡 w k)
      pair k l (yes e) b = inl (alone.pair k l (inl e))
      pair k l (no d) (yes e) = inl (alone.pair k l (inr e))
      pair k l (no d) (no e) = free_pair r u w k l (h (first_of k) d) (h (second_of k) e)
