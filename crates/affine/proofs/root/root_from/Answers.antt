-- `root_from` meets its contract: the candidate's span is tested, then its range, and then what the own coefficient covers is bounded.
use Rattle.std.proofs.Common.{rules, Some, arith, refl, ap, ap₂, sym, ◌≡◌, ◌∙◌, ◌+◌, ◌^◌, ◌≤◌, ◌<◌, ◌≤ℤ◌, ℕ, ℤ, pos, to_z, of_z, w64}
use mir.ValLaws.{to_z-of_z}
use lib.Signed.{lt_z}
use Rattle.integer.specs.Floor.{ceiling_quotient}
use Rattle.integer.proofs.Floor.{ceiling_at_most}
use Rattle.integer.proofs.Order.{≤ℤ_trans}
use Rattle.affine.specs.declared.Row.{Row}
use Rattle.affine.specs.declared.Range.{Range}
use Rattle.affine.specs.Limits.{span_limit}
use Rattle.affine.specs.Row.{span, low, form_range, NoneFrom}
use Rattle.affine.specs.Measured.{measured}
use Rattle.affine.specs.Steps.{with_own, checked}
use Rattle.affine.specs.Root.{unit_root, root_candidate, square_error, root_own, root_row, starts_below_zero}
use Rattle.affine.proofs.MeasuredRow.{measured_radius, measured_range, measured_inside, measured_within}
use Rattle.affine.proofs.RowSize.{centre_within}
use Rattle.affine.proofs.SpanSize.{span_as}
use Rattle.affine.proofs.RootCandidate.{least_within, unit_root_some, root_candidate_none, span_root_candidate}
use Rattle.affine.proofs.SquareError.{square_error_within}
use Rattle.affine.proofs.root.root_from.Goals as goal

candidate_none : (x : Row) {own : ℕ} {z : Row} → NoneFrom own x.linear → z ≡ root_candidate x → NoneFrom own z.linear
candidate_none x {own} none e = rw e (root_candidate_none x own none)

pub measure-requires : goal.measure-requires
measure-requires c =
    let some = ≤ℤ_trans c.requires.least.0 c.requires.least.1 in
    record {
      none = (omega (arith, c.args.symbols.owned), candidate_none c.args.x.now c.requires.none.0 c.root_candidate-z.ensures);
      small = span_as c.root_candidate-z.ensures (span_root_candidate c.args.x.now some c.requires.none.1);
    }

-- ---- the candidate's range, as the code reads its low end
low_is : (x m : Row) (range : Range) → m ≡ root_candidate x → range ≡ form_range m → {l : ℤ} → l ≡ range.low
    → lt_z l (pos 0) ≡ starts_below_zero (root_candidate x)
low_is x m range em er e = ap (λ z. lt_z z (pos 0)) (e ∙ ap (λ (r : Range). r.low) er ∙ ap low em)

pub returns-then-size-lt0 : goal.returns-then-size-lt0
returns-then-size-lt0 c =
    let m = c.root_candidate-z.result in
    let e : Some c.in_ok-size.size ≡ measured c.root_candidate-z.result = search rules in
    let inside = (rw c.root_candidate-z.ensures at (measured_inside m e)) in
    let read : to_z w64 (of_z w64 c.in_ok-size.size.range.low) ≡ c.in_ok-size.size.range.low = search rules in
    let below = sym (low_is c.args.x.now m c.in_ok-size.size.range c.root_candidate-z.ensures (measured_range m e) read) ∙ c.if-size-lt0.true in
    rw (inside, below) refl

-- ---- the candidate z that was made, the bound n, the divisor d and the quotient q
module _ (s own : ℕ) (x : Row) (least : ℤ) {m z : Row} {n d q : ℕ} (em : m ≡ root_candidate x) (ez : z ≡ m)
    (en : n ≡ square_error s x z) (ed : d ≡ unit_root least) (eq : q ≡ ceiling_quotient n d) where
  own_small : span x ≤ span_limit → span z ≤ span_limit → pos 1 ≤ℤ least → span z + (q + 1) < 2 ^ 63
  own_small hx hz some =
      let apart : 0 < d = rw ed (unit_root_some some) in
      omega (arith, hz, eq, en, ceiling_at_most n d apart, square_error_within s x z hx hz)

  row_is : with_own own (pos (q + 1)) z ≡ root_row s own x least
  unfolding root_own root_row
  row_is = ap₂ (λ v z. with_own own (pos (v + 1)) z) (eq ∙ ap₂ ceiling_quotient (en ∙ ap (square_error s x) (ez ∙ em)) ed) (ez ∙ em)

pub square_error-bound-requires-clause-none : goal.square_error-bound-requires-clause-none
square_error-bound-requires-clause-none c =
    (c.requires.none.0, candidate_none c.args.x.now c.requires.none.0 c.root_candidate-z.ensures)

pub square_error-bound-requires-clause-within : goal.square_error-bound-requires-clause-within
square_error-bound-requires-clause-within c =
    let m = c.root_candidate-z.result in
    let e : Some c.in_ok-size.size ≡ measured c.root_candidate-z.result = search rules in
    (c.requires.none.1, measured_within m e, measured_radius m e)

-- ---- what it is divided by
pub unit_root-requires : goal.unit_root-requires
unit_root-requires c =
    let some = c.requires.least.0 in
    rw (to_z-of_z w64 c.args.least c.ranges.least) (some, least_within some c.requires.least.1 (centre_within c.args.x.now c.requires.none.1))

pub ceiling_quotient-own-requires : goal.ceiling_quotient-own-requires
ceiling_quotient-own-requires c = rw (c.unit_root.ensures, to_z-of_z w64 c.args.least c.ranges.least) (unit_root_some c.requires.least.0)

pub overflow_add-own : goal.overflow_add-own
overflow_add-own c =
    let y = c.args.symbols in
    let m = c.root_candidate-z.result in
    let e : Some c.in_ok-size.size ≡ measured c.root_candidate-z.result = search rules in
    let d = (rw (to_z-of_z w64 c.args.least c.ranges.least) at c.unit_root.ensures) in
    let small = own_small y.squares y.own c.args.x.now c.args.least c.root_candidate-z.ensures refl c.square_error-bound.ensures d c.ceiling_quotient-own.ensures.value
    c.requires.none.1 (measured_within m e) c.requires.least.0 in
    record { fits = omega (arith, small) }

pub check_with_own-requires : goal.check_with_own-requires
check_with_own-requires c =
    let y = c.args.symbols in
    let m = c.root_candidate-z.result in
    let e : Some c.in_ok-size.size ≡ measured c.root_candidate-z.result = search rules in
    let d = (rw (to_z-of_z w64 c.args.least c.ranges.least) at c.unit_root.ensures) in
    record {
      none = (y.owned, candidate_none c.args.x.now c.requires.none.0 c.root_candidate-z.ensures);
      small =
          omega (
            arith,
            own_small y.squares y.own c.args.x.now c.args.least c.root_candidate-z.ensures refl c.square_error-bound.ensures d c.ceiling_quotient-own.ensures.value
                c.requires.none.1 (measured_within m e) c.requires.least.0,
          );
    }

pub returns : goal.returns
returns c =
    let y = c.args.symbols in
    let m = c.root_candidate-z.result in
    let e : Some c.in_ok-size.size ≡ measured c.root_candidate-z.result = search rules in
    let inside = (rw c.root_candidate-z.ensures at (measured_inside m e)) in
    let read : to_z w64 (of_z w64 c.in_ok-size.size.range.low) ≡ c.in_ok-size.size.range.low = search rules in
    let not_below = sym (low_is c.args.x.now m c.in_ok-size.size.range c.root_candidate-z.ensures (measured_range m e) read) ∙ c.if-size-lt0.false in
    let d = (rw (to_z-of_z w64 c.args.least c.ranges.least) at c.unit_root.ensures) in
    rw (inside, not_below)
    (c.check_with_own.ensures.answer
    ∙ ap checked (row_is y.squares y.own c.args.x.now c.args.least c.root_candidate-z.ensures refl c.square_error-bound.ensures d c.ceiling_quotient-own.ensures.value))
