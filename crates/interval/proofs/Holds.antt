-- What a range holds, over any ordered ring and in units: the plain range of a sum, a difference, a product or a reciprocal holds what values in the
-- operands give, that of a root the whole-number root, and an overlap what both ranges hold.
use mathlib.Core.Path.{◌≡◌, refl, sym, ap, subst}
use mathlib.Core.Logic.{◌≢◌, ◌⊎◌, inl, inr, ⊎_elim}
use mathlib.Core.Bool.{false}
use mathlib.Core.List.{[], ◌∷◌}
use Prim.Native.Nat.{ℕ, ◌<◌}
use native.Mathlib.Omega.{arith}
use lib.IntN.{ℤ, pos, negsuc, neg_ℤ, nat_abs, ◌*ℤ◌}
use lib.Signed.{le_z, ◌≤ℤ◌, ◌<ℤ◌}
use Rattle.integer.specs.Fraction.{Fraction}
use Rattle.integer.specs.Floor.{floor_quotient, floor_remainder, rounded_up}
use Rattle.integer.proofs.Ring.{var, con, ◌⊕◌, ◌⊖◌, ◌⊗◌, neg, ◌≐◌, ring}
use Rattle.integer.proofs.Certificate.{OrderedRing, certify, hyp, eqn, nat, ◌⊞◌, ◌⊠◌, ◌≼◌, ◌≋◌, ◌⊢◌}
use Rattle.integer.proofs.Linear.{lin_ℤ, ◌⊴◌, ◌⊲◌, ◌⇒◌, so}
use Rattle.integer.proofs.Order.{pos-≤ℤ, pos-<ℤ, ≤ℤ_trans, ≤ℤ_of-≡, ≤ℤ_of-<ℤ, <ℤ_or-≥ℤ}
use Rattle.integer.proofs.Fraction.{ordered_fractions, ≤ℤ_of_whole}
use Rattle.integer.proofs.Bound.{le_refl, le_trans, le_cong, cancel_le, whole_minus, whole_nonneg, whole_le}
use Rattle.integer.proofs.Floor.{floor_divides, remainder_nonneg}
use Rattle.integer.proofs.Machine.{≤ℤ_of_test, >ℤ_of_test}
use Rattle.affine.specs.declared.Range.{Range}
use Rattle.affine.specs.Limits.{unit, unit_squared}
use Rattle.affine.specs.Reciprocal.{zero_in_range, distance}
use Rattle.affine.proofs.Lists.{pick_elim}
use Rattle.affine.proofs.Distance.{distance_is_end}
use Rattle.interval.specs.Interval.{lesser, greater, exactly, sum, difference, least_product, greatest_product, product, reciprocal, overlap}

-- ---- the lesser and the greater of two numbers
pub lesser_left : (a b : ℤ) → lesser a b ≤ℤ a
lesser_left a b = pick_elim (λ z. z ≤ℤ a) (le_z a b) a b (λ e. ≤ℤ_of-≡ refl) (λ e. ≤ℤ_of-<ℤ (>ℤ_of_test e))

pub lesser_right : (a b : ℤ) → lesser a b ≤ℤ b
lesser_right a b = pick_elim (λ z. z ≤ℤ b) (le_z a b) a b (λ e. ≤ℤ_of_test e) (λ e. ≤ℤ_of-≡ refl)

pub greater_left : (a b : ℤ) → a ≤ℤ greater a b
greater_left a b = pick_elim (λ z. a ≤ℤ z) (le_z a b) b a (λ e. ≤ℤ_of_test e) (λ e. ≤ℤ_of-≡ refl)

pub greater_right : (a b : ℤ) → b ≤ℤ greater a b
greater_right a b = pick_elim (λ z. b ≤ℤ z) (le_z a b) b a (λ e. ≤ℤ_of-≡ refl) (λ e. ≤ℤ_of-<ℤ (>ℤ_of_test e))

-- the least and the greatest of four
lesser_of_four : (a b c d : ℤ) → let m = lesser (lesser a b) (lesser c d) in (m ≤ℤ a) × (m ≤ℤ b) × (m ≤ℤ c) × (m ≤ℤ d)
lesser_of_four a b c d =
    let l = lesser_left (lesser a b) (lesser c d) in
    let r = lesser_right (lesser a b) (lesser c d) in
    (≤ℤ_trans l (lesser_left a b), ≤ℤ_trans l (lesser_right a b), ≤ℤ_trans r (lesser_left c d), ≤ℤ_trans r (lesser_right c d))

greater_of_four : (a b c d : ℤ) → let m = greater (greater a b) (greater c d) in (a ≤ℤ m) × (b ≤ℤ m) × (c ≤ℤ m) × (d ≤ℤ m)
greater_of_four a b c d =
    let l = greater_left (greater a b) (greater c d) in
    let r = greater_right (greater a b) (greater c d) in
    (≤ℤ_trans (greater_left a b) l, ≤ℤ_trans (greater_right a b) l, ≤ℤ_trans (greater_left c d) r, ≤ℤ_trans (greater_right c d) r)

pub lesser_of : (P : ℤ → Type 0) (a b : ℤ) → P a → P b → P (lesser a b)
lesser_of P a b p q = pick_elim P (le_z a b) a b (λ e. p) (λ e. q)

pub greater_of : (P : ℤ → Type 0) (a b : ℤ) → P a → P b → P (greater a b)
greater_of P a b p q = pick_elim P (le_z a b) b a (λ e. q) (λ e. p)

-- ---- a range on one side of 0
abbrev pub OneSide : Range → Type 0
OneSide x = ((pos 1 ≤ℤ x.low) × (pos 1 ≤ℤ x.high)) ⊎ ((x.low ≤ℤ negsuc 0) × (x.high ≤ℤ negsuc 0))

pub one_side : (x : Range) → zero_in_range x ≡ false → x.low ≤ℤ x.high → OneSide x
one_side x apart ordered = by_side (distance_is_end x apart)
  where
    below_zero : {n : ℕ} → 0 < n → neg_ℤ (pos n) ≤ℤ negsuc 0
    below_zero {n} h = lin_ℤ 1 (λ n. con (pos 0) ⊲ n ⇒ so (neg n ⊴ con (negsuc 0))) (pos n) (omega arith) (pos-<ℤ h)

    by_side : (0 < distance x) × ((pos (distance x) ≡ x.low) ⊎ (neg_ℤ (pos (distance x)) ≡ x.high)) → OneSide x
    by_side (h, inl e) = let l = subst (λ z. pos 1 ≤ℤ z) e (pos-≤ℤ h) in inl (l, ≤ℤ_trans l ordered)
    by_side (h, inr e) = let l = subst (λ z. z ≤ℤ negsuc 0) e (below_zero h) in inr (≤ℤ_trans ordered l, l)

pub not_zero : {z : ℤ} → (pos 1 ≤ℤ z) ⊎ (z ≤ℤ negsuc 0) → z ≢ pos 0
not_zero {z} (inl h) e = (subst (λ y. pos 1 ≤ℤ y) e h).le
not_zero {z} (inr h) e = (subst (λ y. y ≤ℤ negsuc 0) e h).le

module _ (𝓞 : OrderedRing) where
  open 𝓞.ring use {Carrier as C, eq as ◌~◌, add as ◌⊹◌, mul as ◌·◌, minus, whole, eq_refl as rfl, eq_sym as sy, eq_trans as ◌⨟◌, add_cong, mul_cong, whole_add, whole_mul}
  open 𝓞 use {le, antisymmetric}

  infix 4 ◌~◌
  infixr 3 ◌⨟◌
  infixl 6 ◌⊹◌
  infixl 7 ◌·◌
  -- a value that lies in a range
  pub record Lies (X : C) (range : Range) : Type 0 where
    pub from : le (whole range.low) X
    pub to : le X (whole range.high)

  pub lies_cong : {X Y : C} {range : Range} → X ~ Y → Lies X range → Lies Y range
  lies_cong e l = record { from = le_cong 𝓞 (rfl _) e l.from; to = le_cong 𝓞 e (rfl _) l.to }

  -- ---- constants, sums, differences and overlaps
  pub exactly_holds : (v : ℤ) → Lies (whole v) (exactly v)
  exactly_holds v = record { from = le_refl 𝓞 _; to = le_refl 𝓞 _ }

  module _ {X Y : C} {x y : Range} (hx : Lies X x) (hy : Lies Y y) where
    pub sum_holds : Lies (X ⊹ Y) (sum x y)
    sum_holds =
        record {
          from = certify 𝓞 5 (λ X Y a c s. (a ≼ X) ∷ (c ≼ Y) ∷ (s ≋ a ⊕ c) ∷ [] ⊢ (s ≼ X ⊕ Y)) 0 (hyp 0 ⊞ hyp 1 ⊞ eqn (con (negsuc 0)) 2) tt
              X Y _ _ _ hx.from hy.from (whole_add x.low y.low);
          to = certify 𝓞 5 (λ X Y b d s. (X ≼ b) ∷ (Y ≼ d) ∷ (s ≋ b ⊕ d) ∷ [] ⊢ (X ⊕ Y ≼ s)) 0 (hyp 0 ⊞ hyp 1 ⊞ eqn (con (pos 1)) 2) tt
              X Y _ _ _ hx.to hy.to (whole_add x.high y.high);
        }

    pub difference_holds : Lies (X ⊹ minus Y) (difference x y)
    difference_holds =
        record {
          from = certify 𝓞 6 (λ X Y a d n s. (a ≼ X) ∷ (Y ≼ d) ∷ (s ≋ a ⊕ n) ∷ (n ≋ neg d) ∷ [] ⊢ (s ≼ X ⊖ Y)) 0
              (hyp 0 ⊞ hyp 1 ⊞ eqn (con (negsuc 0)) 2 ⊞ eqn (con (negsuc 0)) 3) tt
              X Y _ _ _ _ hx.from hy.to (whole_add x.low (neg_ℤ y.high)) (whole_minus 𝓞 y.high);
          to = certify 𝓞 6 (λ X Y b c n s. (X ≼ b) ∷ (c ≼ Y) ∷ (s ≋ b ⊕ n) ∷ (n ≋ neg c) ∷ [] ⊢ (X ⊖ Y ≼ s)) 0
              (hyp 0 ⊞ hyp 1 ⊞ eqn (con (pos 1)) 2 ⊞ eqn (con (pos 1)) 3) tt
              X Y _ _ _ _ hx.to hy.from (whole_add x.high (neg_ℤ y.low)) (whole_minus 𝓞 y.low);
        }

  pub overlap_holds : {X : C} {x y : Range} → Lies X x → Lies X y → Lies X (overlap x y)
  overlap_holds {X} {x} {y} hx hy =
      record {
        from = greater_of (λ z. le (whole z) X) x.low y.low hx.from hy.from;
        to = lesser_of (λ z. le X (whole z)) x.high y.high hx.to hy.to;
      }

  -- what is divided, from quotient and remainder, which lies on the divisor's side
  divided : (a d : ℤ) → d ≢ pos 0 → whole (floor_quotient a d) · whole d ⊹ whole (floor_remainder a d) ~ whole a
  divided a d n =
      sy (add_cong (whole_mul (floor_quotient a d) d) (rfl _))
      ⨟ sy (whole_add (floor_quotient a d *ℤ d) (floor_remainder a d))
      ⨟ subst (λ z. whole z ~ whole a) (sym (floor_divides a d n).total) (rfl _)

  side : (a d : ℤ) → d ≢ pos 0 → le (whole (pos 0)) (whole (floor_remainder a d) · whole d)
  side a d n = le_cong 𝓞 (rfl _) (whole_mul (floor_remainder a d) d) (whole_le 𝓞 (floor_divides a d n).side)

  -- ---- products: a bound of X times both ends is one of X times what lies between them
  apart_ends : (l h : ℤ) → l <ℤ h → le (whole (pos 1)) (whole h ⊹ minus (whole l))
  apart_ends l h k =
      certify 𝓞 3 (λ l h m. (m ≋ l ⊕ con (pos 1)) ∷ (m ≼ h) ∷ [] ⊢ (con (pos 1) ≼ h ⊖ l)) 0 (hyp 1 ⊞ eqn (con (pos 1)) 0) tt _ _ _
      (whole_add l (pos 1)) (whole_le 𝓞 (lin_ℤ 2 (λ l h. l ⊲ h ⇒ so (l ⊕ con (pos 1) ⊴ h)) l h (omega arith) k))

  between : {m : C} (X Y : C) (l h : ℤ) → le (whole l) Y → le Y (whole h) → le m (X · whole l) → le m (X · whole h) → le m (X · Y)
  between {m} X Y l h from to at_low at_high = ⊎_elim wide narrow (<ℤ_or-≥ℤ l h)
    where
      wide : l <ℤ h → le m (X · Y)
      wide k =
          cancel_le 𝓞 (apart_ends l h k)
          (certify 𝓞 5 (λ X Y m l h. (l ≼ Y) ∷ (Y ≼ h) ∷ (m ≼ X ⊗ l) ∷ (m ≼ X ⊗ h) ∷ [] ⊢ ((h ⊖ l) ⊗ m ≼ (h ⊖ l) ⊗ (X ⊗ Y))) 0 (hyp 1 ⊠ hyp 2 ⊞ hyp 0 ⊠ hyp 3) tt
          X Y m _ _ from to at_low at_high)

      narrow : h ≤ℤ l → le m (X · Y)
      narrow k = le_cong 𝓞 (rfl _) (mul_cong (rfl X) (antisymmetric from (le_trans 𝓞 to (whole_le 𝓞 k)))) at_low

  -- the same from above
  between_above : {m : C} (X Y : C) (l h : ℤ) → le (whole l) Y → le Y (whole h) → le (X · whole l) m → le (X · whole h) m → le (X · Y) m
  between_above {m} X Y l h from to at_low at_high =
      certify 𝓞 3 (λ X Y m. (neg m ≼ neg X ⊗ Y) ∷ [] ⊢ (X ⊗ Y ≼ m)) 0 (hyp 0) tt X Y m (between {m = minus m} (minus X) Y l h from to (turned at_low) (turned at_high))
    where
      turned : {Z : C} → le (X · Z) m → le (minus m) (minus X · Z)
      turned {Z} k = certify 𝓞 3 (λ X Z m. (X ⊗ Z ≼ m) ∷ [] ⊢ (neg m ≼ neg X ⊗ Z)) 0 (hyp 0) tt X Z m k

  -- so a bound of the four products of ends is one of the product
  module _ {X Y : C} {x y : Range} (hx : Lies X x) (hy : Lies Y y) where
    corners : (P : C → Type 0) → ((W Z : C) → W ~ Z → P W → P Z)
        → ((W Z : C) (l h : ℤ) → le (whole l) Z → le Z (whole h) → P (W · whole l) → P (W · whole h) → P (W · Z))
        → P (whole (x.low *ℤ y.low)) → P (whole (x.low *ℤ y.high)) → P (whole (x.high *ℤ y.low)) → P (whole (x.high *ℤ y.high)) → P (X · Y)
    corners P cong bends ll lh hl hh = bends X Y y.low y.high hy.from hy.to (along y.low ll hl) (along y.high lh hh)
      where
        along : (c : ℤ) → P (whole (x.low *ℤ c)) → P (whole (x.high *ℤ c)) → P (X · whole c)
        along c p q =
            cong _ _ (ring 𝓞.ring 2 (λ c X. c ⊗ X ≐ X ⊗ c) tt _ X)
            (bends (whole c) X x.low x.high hx.from hx.to (cong _ _ (turned x.low) p) (cong _ _ (turned x.high) q))
          where
            turned : (a : ℤ) → whole (a *ℤ c) ~ whole c · whole a
            turned a = whole_mul a c ⨟ ring 𝓞.ring 2 (λ a c. a ⊗ c ≐ c ⊗ a) tt (whole a) (whole c)

    least_below : le (whole (least_product x y)) (X · Y)
    unfolding least_product
    least_below =
        let m = lesser_of_four (x.low *ℤ y.low) (x.low *ℤ y.high) (x.high *ℤ y.low) (x.high *ℤ y.high) in
        corners (le (whole (least_product x y))) (λ W Z e. le_cong 𝓞 (rfl _) e) between (whole_le 𝓞 m.0) (whole_le 𝓞 m.1) (whole_le 𝓞 m.2) (whole_le 𝓞 m.3)

    greatest_above : le (X · Y) (whole (greatest_product x y))
    unfolding greatest_product
    greatest_above =
        let m = greater_of_four (x.low *ℤ y.low) (x.low *ℤ y.high) (x.high *ℤ y.low) (x.high *ℤ y.high) in
        corners (λ z. le z (whole (greatest_product x y))) (λ W Z e. le_cong 𝓞 e (rfl _)) between_above (whole_le 𝓞 m.0) (whole_le 𝓞 m.1) (whole_le 𝓞 m.2) (whole_le 𝓞 m.3)

    -- the product in units: 4096 times it is X times Y
    pub product_holds : {Z : C} → whole (pos unit) · Z ~ X · Y → Lies Z (product x y)
    product_holds {Z} e =
        record {
          from =
              cancel_le 𝓞 one_le_unit
              (certify 𝓞 6 (λ u Z p t q r. (u ⊗ Z ≋ p) ∷ (t ≼ p) ∷ (q ⊗ u ⊕ r ≋ t) ∷ (con (pos 0) ≼ r) ∷ [] ⊢ (u ⊗ q ≼ u ⊗ Z)) 0
              (eqn (con (pos 1)) 0 ⊞ hyp 1 ⊞ eqn (con (negsuc 0)) 2 ⊞ hyp 3) tt
              _ Z _ _ _ _ e least_below (divided (least_product x y) (pos unit) unit_some) (remains (least_product x y)));
          to =
              cancel_le 𝓞 one_le_unit
              (certify 𝓞 8 (λ u Z p t n m q r. (u ⊗ Z ≋ p) ∷ (p ≼ t) ∷ (q ⊗ u ⊕ r ≋ m) ∷ (con (pos 0) ≼ r) ∷ (m ≋ neg t) ∷ (n ≋ neg q) ∷ [] ⊢ (u ⊗ Z ≼ u ⊗ n)) 0
              (eqn (con (negsuc 0)) 0 ⊞ hyp 1 ⊞ eqn (con (negsuc 0)) 2 ⊞ hyp 3 ⊞ eqn (con (negsuc 0)) 4 ⊞ eqn (var 0) 5) tt
              _ Z _ _ _ _ _ _ e greatest_above (divided (neg_ℤ (greatest_product x y)) (pos unit) unit_some) (remains (neg_ℤ (greatest_product x y)))
              (whole_minus 𝓞 (greatest_product x y)) (whole_minus 𝓞 (floor_quotient (neg_ℤ (greatest_product x y)) (pos unit))));
        }
      where
        one_le_unit : le (whole (pos 1)) (whole (pos unit))
        one_le_unit = whole_le 𝓞 (pos-≤ℤ (omega arith))

        unit_some : pos unit ≢ pos 0
        unit_some e = let z = ap nat_abs e in omega arith

        remains : (t : ℤ) → le (whole (pos 0)) (whole (floor_remainder t (pos unit)))
        remains t = whole_le 𝓞 (remainder_nonneg t unit (omega arith))

  -- ---- a reciprocal W of X, in units: X and an end E lie on one side of 0, at least 1 from it
  module _ {W X : C} (inverse : W · X ~ whole (pos unit_squared)) where
    Beside : C → Type 0
    Beside E = (le (whole (pos 1)) X × le (whole (pos 1)) E) ⊎ (le X (whole (negsuc 0)) × le E (whole (negsuc 0)))

    -- no square of them is below 1, and no product of them below 0
    record Sided (E : C) : Type 0 where
      square : le (whole (pos 1)) (X · X)
      end_square : le (whole (pos 1)) (E · E)
      product : le (whole (pos 0)) (X · E)

    sided : {E : C} → Beside E → Sided E
    unfolding Beside
    sided {E} (inl (p, q)) =
        record {
          square = certify 𝓞 1 (λ X. (con (pos 1) ≼ X) ∷ [] ⊢ (con (pos 1) ≼ X ⊗ X)) 0 (hyp 0 ⊠ hyp 0 ⊞ nat 2 ⊠ hyp 0) tt X p;
          end_square = certify 𝓞 1 (λ X. (con (pos 1) ≼ X) ∷ [] ⊢ (con (pos 1) ≼ X ⊗ X)) 0 (hyp 0 ⊠ hyp 0 ⊞ nat 2 ⊠ hyp 0) tt E q;
          product = certify 𝓞 2 (λ X E. (con (pos 1) ≼ X) ∷ (con (pos 1) ≼ E) ∷ [] ⊢ (con (pos 0) ≼ X ⊗ E)) 0 ((hyp 0 ⊞ nat 1) ⊠ (hyp 1 ⊞ nat 1)) tt X E p q;
        }
    sided {E} (inr (p, q)) =
        record {
          square = certify 𝓞 1 (λ X. (X ≼ con (negsuc 0)) ∷ [] ⊢ (con (pos 1) ≼ X ⊗ X)) 0 (hyp 0 ⊠ hyp 0 ⊞ nat 2 ⊠ hyp 0) tt X p;
          end_square = certify 𝓞 1 (λ X. (X ≼ con (negsuc 0)) ∷ [] ⊢ (con (pos 1) ≼ X ⊗ X)) 0 (hyp 0 ⊠ hyp 0 ⊞ nat 2 ⊠ hyp 0) tt E q;
          product = certify 𝓞 2 (λ X E. (X ≼ con (negsuc 0)) ∷ (E ≼ con (negsuc 0)) ∷ [] ⊢ (con (pos 0) ≼ X ⊗ E)) 0 ((hyp 0 ⊞ nat 1) ⊠ (hyp 1 ⊞ nat 1)) tt X E p q;
        }

    -- so W lies on that side too
    inverse_beside : {E : C} → Sided E → le (whole (pos 0)) (W · E)
    inverse_beside {E} s =
        cancel_le 𝓞 s.square
        (certify 𝓞 4 (λ W X E N. (W ⊗ X ≋ N) ∷ (con (pos 0) ≼ X ⊗ E) ∷ (con (pos 0) ≼ N) ∷ [] ⊢ (X ⊗ X ⊗ con (pos 0) ≼ X ⊗ X ⊗ (W ⊗ E))) 0
        (hyp 1 ⊠ hyp 2 ⊞ eqn (var 1 ⊗ var 2) 0) tt W X E _ inverse s.product (whole_nonneg 𝓞 unit_squared))

    -- N over an end that X does not pass, rounded down, is not above W ..
    down_below : (e : ℤ) → e ≢ pos 0 → Sided (whole e) → le X (whole e) → le (whole (floor_quotient (pos unit_squared) e)) W
    down_below e n s h =
        cancel_le 𝓞 s.end_square
        (certify 𝓞 6 (λ W X E N q r. (W ⊗ X ≋ N) ∷ (q ⊗ E ⊕ r ≋ N) ∷ (con (pos 0) ≼ r ⊗ E) ∷ (con (pos 0) ≼ W ⊗ E) ∷ (X ≼ E) ∷ [] ⊢ (E ⊗ E ⊗ q ≼ E ⊗ E ⊗ W)) 0
        (hyp 3 ⊠ hyp 4 ⊞ hyp 2 ⊞ eqn (var 2) 0 ⊞ eqn (neg (var 2)) 1) tt
        W X _ _ _ _ inverse (divided (pos unit_squared) e n) (side (pos unit_squared) e n) (inverse_beside s) h)

    -- .. and over one that does not pass X, rounded up, not below it
    up_above : (e : ℤ) → e ≢ pos 0 → Sided (whole e) → le (whole e) X → le W (whole (rounded_up (pos unit_squared) e))
    up_above e n s h =
        cancel_le 𝓞 s.end_square
        (certify 𝓞 8 (λ W X E N m u q r. (W ⊗ X ≋ N) ∷ (q ⊗ E ⊕ r ≋ m) ∷ (con (pos 0) ≼ r ⊗ E) ∷ (con (pos 0) ≼ W ⊗ E) ∷ (E ≼ X) ∷ (m ≋ neg N) ∷ (u ≋ neg q) ∷ []
        ⊢ (E ⊗ E ⊗ W ≼ E ⊗ E ⊗ u)) 0
        (hyp 3 ⊠ hyp 4 ⊞ hyp 2 ⊞ eqn (neg (var 2)) 0 ⊞ eqn (neg (var 2)) 1 ⊞ eqn (neg (var 2)) 5 ⊞ eqn (var 2 ⊗ var 2) 6) tt
        W X _ _ _ _ _ _ inverse (divided (neg_ℤ (pos unit_squared)) e n) (side (neg_ℤ (pos unit_squared)) e n) (inverse_beside s) h
        (whole_minus 𝓞 (pos unit_squared)) (whole_minus 𝓞 (floor_quotient (neg_ℤ (pos unit_squared)) e)))

    pub reciprocal_holds : {x : Range} → OneSide x → Lies X x → Lies W (reciprocal x)
    unfolding Beside
    reciprocal_holds {x} (inl (low, high)) l =
        let value : le (whole (pos 1)) X = le_trans 𝓞 (whole_le 𝓞 low) l.from in
        record {
          from = down_below x.high (not_zero (inl high)) (sided (inl (value, whole_le 𝓞 high))) l.to;
          to = up_above x.low (not_zero (inl low)) (sided (inl (value, whole_le 𝓞 low))) l.from;
        }
    reciprocal_holds {x} (inr (low, high)) l =
        let value : le X (whole (negsuc 0)) = le_trans 𝓞 l.to (whole_le 𝓞 high) in
        record {
          from = down_below x.high (not_zero (inr high)) (sided (inr (value, whole_le 𝓞 high))) l.to;
          to = up_above x.low (not_zero (inr low)) (sided (inr (value, whole_le 𝓞 low))) l.from;
        }

-- a range that holds a fraction is not empty
pub not_empty : {X : Fraction} {x : Range} → Lies ordered_fractions X x → x.low ≤ℤ x.high
not_empty {X} {x} l = ≤ℤ_of_whole x.low x.high (le_trans ordered_fractions l.from l.to)
