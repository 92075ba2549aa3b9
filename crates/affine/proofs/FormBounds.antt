-- Bounds of a form's value where every symbol lies from -1 to 1: by the span, by the range, and the products that no total holds by the
-- dropped part. Over any ordered ring.
use mathlib.Core.Path.{◌≡◌, sym, ap, ◌∙◌, subst}
use mathlib.Core.List.{◌++◌}
use Prim.Native.Nat.{ℕ, ◌+◌, ◌*◌, ◌-◌}
use native.Mathlib.Nat.{add-mul, mul-add}
use native.Mathlib.Omega.{arith}
use lib.IntN.{pos, nat_abs}
use lib.ListN.{length, take, drop, take-append-drop}
use Rattle.integer.specs.Sum.{sum_abs}
use Rattle.integer.proofs.Ring.{con, ◌⊕◌, ◌⊖◌, ◌⊗◌, ◌≐◌, ring}
use Rattle.integer.proofs.Certificate.{OrderedRing}
use Rattle.integer.proofs.Bound.{Bound, bound_add, bound_mul, bound_cong, bound_whole}
use Rattle.affine.specs.declared.Row.{Row}
use Rattle.affine.specs.PairOrder.{first_of, second_of}
use Rattle.affine.specs.Row.{numbers, span, radius}
use Rattle.affine.specs.Product.{squared_radius, dropped}
use Rattle.integer.proofs.Sum.{sum_abs_append, dot, dot_path, dot_append, dot_within}
use Rattle.affine.proofs.Form.{pair_value, noise, units, squared_noise}

module _ (𝓞 : OrderedRing) where
  open 𝓞.ring use {Carrier as C, eq as ◌~◌, add as ◌⊹◌, mul as ◌·◌, minus, whole, eq_refl as rfl, eq_sym as sy, eq_trans as ◌⨟◌, add_cong, mul_cong, whole_add, whole_mul}
  open 𝓞 use {le}

  infix 4 ◌~◌
  infixr 3 ◌⨟◌
  infixl 6 ◌⊹◌
  infixl 7 ◌·◌
  -- every symbol lies from -1 to 1
  abbrev pub UnitSymbols : (ℕ → C) → Type 0
  UnitSymbols ε = (i : ℕ) → Bound 𝓞 (ε i) (whole (pos 1))

  module _ (ε : ℕ → C) (unit : UnitSymbols ε) where
    pub pair_value_within : UnitSymbols (pair_value 𝓞.ring ε)
    pair_value_within k = bound_cong 𝓞 (rfl _) (ring 𝓞.ring 0 (con (pos 1) ⊗ con (pos 1) ≐ con (pos 1)) tt) (bound_mul 𝓞 (unit (first_of k)) (unit (second_of k)))

    -- |form| ≤ span
    pub units_within_span : (r : Row) → Bound 𝓞 (units 𝓞.ring r ε) (whole (pos (span r)))
    unfolding span
    units_within_span r =
        bound_cong 𝓞 (rfl _) (sy (split ⨟ add_cong (rfl _) parts))
        (bound_add 𝓞 (bound_whole 𝓞 r.centre) (bound_add 𝓞 (dot_within 𝓞 r.linear ε unit) (dot_within 𝓞 r.pair (pair_value 𝓞.ring ε) pair_value_within)))
      where
        split : whole (pos (sum_abs (numbers r))) ~ whole (pos (nat_abs r.centre)) ⊹ whole (pos (sum_abs (r.linear ++ r.pair)))
        split = whole_add (pos (nat_abs r.centre)) (pos (sum_abs (r.linear ++ r.pair)))

        parts : whole (pos (sum_abs (r.linear ++ r.pair))) ~ whole (pos (sum_abs r.linear)) ⊹ whole (pos (sum_abs r.pair))
        parts = subst (λ n. whole (pos n) ~ whole (pos (sum_abs r.linear)) ⊹ whole (pos (sum_abs r.pair))) (sym (sum_abs_append r.linear r.pair)) (whole_add _ _)

    -- a row's noise, the squared symbols' first
    rest : ℕ → Row → C
    rest squares r = dot 𝓞.ring (drop squares r.linear) (λ i. ε (length (take squares r.linear) + i)) ⊹ dot 𝓞.ring r.pair (pair_value 𝓞.ring ε)

    rest_radius : ℕ → Row → ℕ
    rest_radius squares r = sum_abs (drop squares r.linear) + sum_abs r.pair

    noise_parts : (squares : ℕ) (r : Row) → noise 𝓞.ring r ε ~ squared_noise 𝓞.ring squares r ε ⊹ rest squares r
    unfolding rest
    noise_parts squares r =
        add_cong (dot_path 𝓞.ring ε (sym (take-append-drop squares r.linear)) ⨟ dot_append 𝓞.ring (take squares r.linear) (drop squares r.linear) ε) (rfl _)
        ⨟ ring 𝓞.ring 3 (λ a b c. (a ⊕ b) ⊕ c ≐ a ⊕ (b ⊕ c)) tt _ _ _

    radius_parts : (squares : ℕ) (r : Row) → radius r ≡ squared_radius squares r + rest_radius squares r
    unfolding radius squared_radius rest_radius
    radius_parts squares r =
        let e : sum_abs r.linear ≡ sum_abs (take squares r.linear) + sum_abs (drop squares r.linear) =
        ap sum_abs (sym (take-append-drop squares r.linear)) ∙ sum_abs_append (take squares r.linear) (drop squares r.linear) in
        omega arith

    squared_noise_within : (squares : ℕ) (r : Row) → Bound 𝓞 (squared_noise 𝓞.ring squares r ε) (whole (pos (squared_radius squares r)))
    unfolding squared_radius
    squared_noise_within squares r = dot_within 𝓞 (take squares r.linear) ε unit

    rest_within : (squares : ℕ) (r : Row) → Bound 𝓞 (rest squares r) (whole (pos (rest_radius squares r)))
    unfolding rest rest_radius
    rest_within squares r =
        bound_cong 𝓞 (rfl _) (sy (whole_add _ _))
        (bound_add 𝓞 (dot_within 𝓞 (drop squares r.linear) _ (λ i. unit _)) (dot_within 𝓞 r.pair (pair_value 𝓞.ring ε) pair_value_within))

    -- "less (linear absolutes of the first "squares" symbols ..)": what is left of the product of two sums
    dropped_parts : (a b c d : ℕ) → (a + b) * (c + d) - a * c ≡ a * d + (b * c + b * d)
    dropped_parts a b c d =
        let e : (a + b) * (c + d) ≡ a * (c + d) + b * (c + d) = add-mul a b (c + d) in
        let f : a * (c + d) ≡ a * c + a * d = mul-add a c d in
        let g : b * (c + d) ≡ b * c + b * d = mul-add b c d in
        omega arith

    -- |products that no total holds| ≤ dropped part
    pub lost_within_dropped : (squares : ℕ) (x y : Row)
        → Bound 𝓞 (noise 𝓞.ring x ε · noise 𝓞.ring y ε ⊹ minus (squared_noise 𝓞.ring squares x ε · squared_noise 𝓞.ring squares y ε)) (whole (pos (dropped squares x y)))
    unfolding dropped
    lost_within_dropped squares x y =
        bound_cong 𝓞
        (ring 𝓞.ring 4 (λ A D B E. A ⊗ E ⊕ (D ⊗ B ⊕ D ⊗ E) ≐ (A ⊕ D) ⊗ (B ⊕ E) ⊖ A ⊗ B) tt _ _ _ _
        ⨟ add_cong (mul_cong (sy (noise_parts squares x)) (sy (noise_parts squares y))) (rfl _))
        (sy radii)
        (bound_add 𝓞 (bound_mul 𝓞 (squared_noise_within squares x) (rest_within squares y))
        (bound_add 𝓞 (bound_mul 𝓞 (rest_within squares x) (squared_noise_within squares y)) (bound_mul 𝓞 (rest_within squares x) (rest_within squares y))))
      where
        a : ℕ
        a = squared_radius squares x

        b : ℕ
        b = rest_radius squares x

        c : ℕ
        c = squared_radius squares y

        d : ℕ
        d = rest_radius squares y

        sums : radius x * radius y - squared_radius squares x * squared_radius squares y ≡ a * d + (b * c + b * d)
        sums = rw (radius_parts squares x, radius_parts squares y) (dropped_parts a b c d)

        radii : whole (pos (radius x * radius y - squared_radius squares x * squared_radius squares y))
            ~ whole (pos a) · whole (pos d) ⊹ (whole (pos b) · whole (pos c) ⊹ whole (pos b) · whole (pos d))
        radii =
            subst (λ n. whole (pos n) ~ whole (pos a) · whole (pos d) ⊹ (whole (pos b) · whole (pos c) ⊹ whole (pos b) · whole (pos d))) (sym sums)
            (whole_add (pos (a * d)) (pos (b * c + b * d)) ⨟ add_cong (whole_mul (pos a) (pos d)) (whole_add (pos (b * c)) (pos (b * d)) ⨟ add_cong (whole_mul (pos b) (pos c)) (whole_mul (pos b) (pos d))))
