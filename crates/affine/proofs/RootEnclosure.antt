-- A root's row encloses the exact root. Whole numbers r with r² ≤ 4096 X < (r + 1)² stand for the exact root of X units, so that no root but that of
-- whole numbers is asked for: the candidate's form Z is not below 0, its square differs from 4096 X by at most the error bound, and r + Z is at
-- least the root of 4096 times the low end. All in units, over any ordered ring.
use mathlib.Core.Path.{◌≡◌, sym, ap, subst}
use mathlib.Core.Bool.{false}
use mathlib.Core.List.{List, [], ◌∷◌}
use Prim.Native.Nat.{ℕ, suc, ◌*◌, ◌≤◌, ◌<◌}
use native.Mathlib.Omega.{arith}
use lib.IntN.{ℤ, pos, negsuc, ◌+ℤ◌, ◌*ℤ◌}
use lib.ListN.{length}
use Rattle.integer.specs.Floor.{ceiling_quotient}
use Rattle.integer.proofs.Ring.{CommutativeRing, con, ◌⊕◌, ◌⊖◌, ◌⊗◌, neg, ◌≐◌, ring}
use Rattle.integer.proofs.IntegerRing.{neg_ℤ_is_product}
use Rattle.integer.proofs.Certificate.{OrderedRing, certify, hyp, eqn, nat, ◌⊞◌, ◌⊠◌, ◌≼◌, ◌≋◌, ◌⊢◌}
use Rattle.integer.proofs.Order.{pos-≤ℤ}
use Rattle.integer.proofs.Machine.{≥ℤ_of_test}
use Rattle.integer.proofs.Bound.{Bound, bound_add, bound_cong, bound_minus, le_cong, le_trans, whole_nonneg, whole_le, cancel_le}
use Rattle.integer.proofs.Sum.{dot, dot_path}
use Rattle.affine.specs.declared.Row.{Row}
use Rattle.affine.specs.Limits.{symbols, paired, pairs, unit}
use Rattle.affine.specs.Lists.{at, tabulate}
use Rattle.affine.specs.Product.{linear_totals, pair_totals, totals}
use Rattle.affine.specs.Root.{unit_root, root_candidate, missed, linear_misses, misses, square_error, root_own, root_row, starts_below_zero}
use Rattle.affine.proofs.Lists.{tabulate_cong, tabulate_at}
use Rattle.affine.proofs.Dot.{dot_tabulate_add, dot_tabulate_scale}
use Rattle.affine.proofs.Form.{Shaped, UsesOnly, pair_value, units}
use Rattle.affine.proofs.FormBounds.{UnitSymbols, units_within_span}
use Rattle.affine.proofs.RangeLaws.{low_holds_value}
use Rattle.affine.proofs.SquareError.{pair_missed}
use Rattle.affine.proofs.Enclosure.{units_with_own, ceiling_enough, product_near_totals}
use Rattle.affine.proofs.WellFormed.{root_candidate_shaped, root_candidate_uses}

-- ---- what the totals miss, as a form
module _ (𝓡 : CommutativeRing) where
  open 𝓡 use {Carrier as C, eq as ◌~◌, add as ◌⊹◌, mul as ◌·◌, minus, whole, eq_refl as rfl, eq_trans as ◌⨟◌, add_cong, mul_cong, whole_add, whole_mul}

  infix 4 ◌~◌
  infixr 3 ◌⨟◌
  infixl 6 ◌⊹◌
  infixl 7 ◌·◌
  less : (v t : ℤ) → missed v t ≡ pos unit *ℤ v +ℤ negsuc 0 *ℤ t
  less v t = ap (λ z. pos unit *ℤ v +ℤ z) (neg_ℤ_is_product t)

  missed_dot : (n : ℕ) (a : List ℤ) (t : ℕ → ℤ) (w : ℕ → C) → length a ≡ n
      → dot 𝓡 (tabulate n (λ i. missed (at a i) (t i))) w ~ whole (pos unit) · dot 𝓡 a w ⊹ whole (negsuc 0) · dot 𝓡 (tabulate n t) w
  missed_dot n a t w h =
      dot_path 𝓡 w (tabulate_cong n (λ i l. less (at a i) (t i)))
      ⨟ dot_tabulate_add 𝓡 n (λ i. pos unit *ℤ at a i) (λ i. negsuc 0 *ℤ t i) w
      ⨟ add_cong (dot_tabulate_scale 𝓡 n (pos unit) (at a) w ⨟ mul_cong (rfl _) (dot_path 𝓡 w (tabulate_at a n h))) (dot_tabulate_scale 𝓡 n (negsuc 0) t w)

  misses_units : (squares : ℕ) (x z : Row) → Shaped x → UsesOnly squares x → (ε : ℕ → C)
      → units 𝓡 (misses squares x z) ε ~ whole (pos unit) · units 𝓡 x ε ⊹ minus (units 𝓡 (totals squares z z) ε)
  unfolding linear_misses linear_totals pair_totals
  misses_units squares x z sx ux ε =
      add_cong centre
      (add_cong (missed_dot symbols x.linear _ ε sx.linear)
      (dot_path 𝓡 (pair_value 𝓡 ε) (pair_missed squares x z ux) ⨟ missed_dot pairs x.pair _ (pair_value 𝓡 ε) sx.pair))
      ⨟ ring 𝓡 7 (λ u c t L S P Q. (u ⊗ c ⊕ con (negsuc 0) ⊗ t) ⊕ ((u ⊗ L ⊕ con (negsuc 0) ⊗ S) ⊕ (u ⊗ P ⊕ con (negsuc 0) ⊗ Q)) ≐ u ⊗ (c ⊕ (L ⊕ P)) ⊖ (t ⊕ (S ⊕ Q))) tt _ _ _ _ _ _ _
    where
      centre : whole (missed x.centre (z.centre *ℤ z.centre)) ~ whole (pos unit) · whole x.centre ⊹ whole (negsuc 0) · whole (z.centre *ℤ z.centre)
      centre =
          subst (λ y. whole y ~ whole (pos unit) · whole x.centre ⊹ whole (negsuc 0) · whole (z.centre *ℤ z.centre)) (sym (less x.centre (z.centre *ℤ z.centre)))
          (whole_add _ _ ⨟ add_cong (whole_mul _ _) (whole_mul _ _))

module _ (𝓞 : OrderedRing) where
  open 𝓞.ring use {Carrier as C, eq as ◌~◌, add as ◌⊹◌, mul as ◌·◌, minus, whole, eq_refl as rfl, eq_sym as sy, eq_trans as ◌⨟◌, add_cong, mul_cong, whole_add, whole_mul}
  open 𝓞 use {le}

  infix 4 ◌~◌
  infixr 3 ◌⨟◌
  infixl 6 ◌⊹◌
  infixl 7 ◌·◌
  -- 4096 times a form less the square of another
  square_near : (ε : ℕ → C) → UnitSymbols 𝓞 ε → (squares : ℕ) → squares ≤ paired → (x z : Row) → Shaped x → Shaped z → UsesOnly squares x → UsesOnly squares z
      → Bound 𝓞 (whole (pos unit) · units 𝓞.ring x ε ⊹ minus (units 𝓞.ring z ε · units 𝓞.ring z ε)) (whole (pos (square_error squares x z)))
  unfolding square_error
  square_near ε unital squares few x z sx sz ux uz =
      bound_cong 𝓞
      (certify 𝓞 4 (λ m u t p. (m ≋ u ⊖ t) ∷ [] ⊢ (m ⊕ neg (p ⊖ t) ≋ u ⊖ p)) 0 (eqn (con (pos 1)) 0) tt _ _ _ _ (misses_units 𝓞.ring squares x z sx ux ε))
      (sy (whole_add _ _))
      (bound_add 𝓞 (units_within_span 𝓞 ε unital (misses squares x z)) (bound_minus 𝓞 (product_near_totals 𝓞 ε unital squares few z z sz sz uz uz)))

  -- r² ≤ Q ≤ (r + 1)², |Q - Z²| ≤ B ≤ s o, s ≤ r and 0 ≤ Z: then r and Z differ by at most o + 1
  root_near : {Q Z B r s o : C} → le (r · r) Q → le Q ((r ⊹ whole (pos 1)) · (r ⊹ whole (pos 1))) → Bound 𝓞 (Q ⊹ minus (Z · Z)) B → le B (s · o)
      → le (whole (pos 1)) s → le s r → le (whole (pos 0)) o → le (whole (pos 0)) Z → Bound 𝓞 (r ⊹ minus Z) (o ⊹ whole (pos 1))
  root_near {Q} {Z} {B} {r} {s} {o} below above b fits some least o0 z0 =
      record {
        low =
            certify 𝓞 3 (λ r Z o. (Z ⊖ r ⊖ con (pos 1) ≼ o) ∷ [] ⊢ (neg (o ⊕ con (pos 1)) ≼ r ⊖ Z)) 0 (hyp 0) tt r Z o
            (cancel_le 𝓞 {x = r ⊹ whole (pos 1) ⊹ Z}
            (certify 𝓞 3 (λ r Z s. (con (pos 1) ≼ s) ∷ (s ≼ r) ∷ (con (pos 0) ≼ Z) ∷ [] ⊢ (con (pos 1) ≼ r ⊕ con (pos 1) ⊕ Z)) 0 (hyp 0 ⊞ hyp 1 ⊞ hyp 2 ⊞ nat 1) tt r Z s some least z0)
            (certify 𝓞 6 (λ Q Z B r s o. (Q ≼ (r ⊕ con (pos 1)) ⊗ (r ⊕ con (pos 1))) ∷ (neg B ≼ Q ⊖ Z ⊗ Z) ∷ (B ≼ s ⊗ o) ∷ (s ≼ r) ∷ (con (pos 0) ≼ o) ∷ (con (pos 0) ≼ Z) ∷ []
            ⊢ ((r ⊕ con (pos 1) ⊕ Z) ⊗ (Z ⊖ r ⊖ con (pos 1)) ≼ (r ⊕ con (pos 1) ⊕ Z) ⊗ o)) 0
            (hyp 0 ⊞ hyp 1 ⊞ hyp 2 ⊞ hyp 3 ⊠ hyp 4 ⊞ hyp 5 ⊠ hyp 4 ⊞ hyp 4) tt Q Z B r s o above b.low fits least o0 z0));
        high =
            certify 𝓞 3 (λ r Z o. (r ⊖ Z ≼ o) ∷ [] ⊢ (r ⊖ Z ≼ o ⊕ con (pos 1))) 0 (hyp 0 ⊞ nat 1) tt r Z o
            (cancel_le 𝓞 {x = r ⊹ Z}
            (certify 𝓞 3 (λ r Z s. (con (pos 1) ≼ s) ∷ (s ≼ r) ∷ (con (pos 0) ≼ Z) ∷ [] ⊢ (con (pos 1) ≼ r ⊕ Z)) 0 (hyp 0 ⊞ hyp 1 ⊞ hyp 2) tt r Z s some least z0)
            (certify 𝓞 6 (λ Q Z B r s o. (r ⊗ r ≼ Q) ∷ (Q ⊖ Z ⊗ Z ≼ B) ∷ (B ≼ s ⊗ o) ∷ (s ≼ r) ∷ (con (pos 0) ≼ o) ∷ (con (pos 0) ≼ Z) ∷ []
            ⊢ ((r ⊕ Z) ⊗ (r ⊖ Z) ≼ (r ⊕ Z) ⊗ o)) 0
            (hyp 0 ⊞ hyp 1 ⊞ hyp 2 ⊞ hyp 3 ⊠ hyp 4 ⊞ hyp 5 ⊠ hyp 4) tt Q Z B r s o below b.high fits least o0 z0));
      }

  -- root: r is the exact root, in units, of the form's value
  pub root_encloses : (ε : ℕ → C) → UnitSymbols 𝓞 ε → (squares : ℕ) → squares ≤ paired → (x : Row) → Shaped x → UsesOnly squares x
      → starts_below_zero (root_candidate x) ≡ false → (least : ℤ) → 0 < unit_root least → (own : ℕ) → ε own ~ whole (pos 0)
      → (r : ℕ) → unit_root least ≤ r → le (whole (pos (r * r))) (whole (pos unit) · units 𝓞.ring x ε) → le (whole (pos unit) · units 𝓞.ring x ε) (whole (pos (suc r * suc r)))
      → Bound 𝓞 (whole (pos r) ⊹ minus (units 𝓞.ring (root_row squares own x least) ε)) (whole (pos (root_own squares x least)))
  unfolding root_row root_own
  root_encloses ε unital squares few x sx ux starts least some own off r above_least below above =
      bound_cong 𝓞
      (add_cong (rfl _) (certify 𝓞 2 (λ a b. (a ≋ b) ∷ [] ⊢ (neg b ≋ neg a)) 0 (eqn (con (pos 1)) 0) tt _ _ (units_with_own 𝓞 own _ (root_candidate x) ε off)))
      (sy (whole_add (pos (ceiling_quotient (square_error squares x (root_candidate x)) (unit_root least))) (pos 1)))
      (root_near
      (le_cong 𝓞 (whole_mul (pos r) (pos r)) (rfl _) below)
      (le_cong 𝓞 (rfl _) square_next above)
      (square_near ε unital squares few x (root_candidate x) sx (root_candidate_shaped x) ux (root_candidate_uses squares x ux))
      (ceiling_enough 𝓞 (square_error squares x (root_candidate x)) (unit_root least) some)
      (whole_le 𝓞 (pos-≤ℤ some))
      (whole_le 𝓞 (pos-≤ℤ above_least))
      (whole_nonneg 𝓞 _)
      (le_trans 𝓞 (whole_le 𝓞 (≥ℤ_of_test starts)) (low_holds_value 𝓞 ε unital (root_candidate x) (root_candidate_shaped x))))
    where
      square_next : whole (pos (suc r * suc r)) ~ (whole (pos r) ⊹ whole (pos 1)) · (whole (pos r) ⊹ whole (pos 1))
      square_next = whole_mul (pos (suc r)) (pos (suc r)) ⨟ mul_cong next next
        where
          next : whole (pos (suc r)) ~ whole (pos r) ⊹ whole (pos 1)
          next = subst (λ k. whole (pos k) ~ whole (pos r) ⊹ whole (pos 1)) (omega arith) (whole_add (pos r) (pos 1))
