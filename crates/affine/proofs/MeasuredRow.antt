-- What was measured of a row: where it is told, the row is within the span, and its radius and the range of its form are told.
use mathlib.Core.Path.{◌≡◌, refl, ap}
use mathlib.Core.Bool.{Bool, true, false}
use Prim.Native.Nat.{◌≤◌}
use borrow.Author.Tests.{leb-true}
use Rattle.std.specs.Prelude.{Option, Some, None}
use Rattle.affine.specs.declared.Row.{Row}
use Rattle.affine.specs.declared.form_range.Size.{Size}
use Rattle.affine.specs.Limits.{span_limit}
use Rattle.affine.specs.Lists.{pick}
use Rattle.affine.specs.Row.{span, radius, within_span, form_range}
use Rattle.affine.specs.Measured.{measured}

module _ (r : Row) {s : Size} (e : Some s ≡ measured r) where
  pub measured_inside : within_span r ≡ true
  measured_inside = by_test (within_span r) e
    where
      by_test : (t : Bool) → Some s ≡ pick t (Some (record { radius = radius r; range = form_range r })) None → t ≡ true
      by_test true h = refl
      by_test false h = absurd (cc)

  size_is : s ≡ record { radius = radius r; range = form_range r }
  size_is = by_test (within_span r) e
    where
      or_none : Option Size → Size
      or_none (Some q) = q
      or_none None = s

      by_test : (t : Bool) → Some s ≡ pick t (Some (record { radius = radius r; range = form_range r })) None → s ≡ record { radius = radius r; range = form_range r }
      by_test true h = ap or_none h
      by_test false h = absurd (cc)

  pub measured_radius : s.radius ≡ radius r
  measured_radius = ap (λ (q : Size). q.radius) size_is

  pub measured_range : s.range ≡ form_range r
  measured_range = ap (λ (q : Size). q.range) size_is

  pub measured_within : span r ≤ span_limit
  measured_within = leb-true (span r) span_limit measured_inside
