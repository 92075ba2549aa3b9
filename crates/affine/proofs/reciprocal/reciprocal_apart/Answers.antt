-- `reciprocal_apart` meets its contract: the candidate's span is tested first, and then bounds what the own coefficient covers.
use Rattle.std.proofs.Common.{rules, Some, arith, refl, ap, ap₂, ◌≡◌, ◌∙◌, ◌+◌, ◌^◌, ◌≤◌, ◌<◌, ℕ, pos}
use Rattle.integer.specs.Floor.{ceiling_quotient}
use Rattle.integer.proofs.Floor.{ceiling_at_most}
use Rattle.affine.specs.declared.Row.{Row}
use Rattle.affine.specs.Limits.{span_limit}
use Rattle.affine.specs.Row.{span, NoneFrom}
use Rattle.affine.specs.Measured.{measured}
use Rattle.affine.specs.Steps.{with_own, checked}
use Rattle.affine.specs.Reciprocal.{candidate, error_bound, reciprocal_own, reciprocal_row}
use Rattle.affine.proofs.MeasuredRow.{measured_radius, measured_inside, measured_within}
use Rattle.affine.proofs.SpanSize.{span_as}
use Rattle.affine.proofs.Candidate.{span_candidate}
use Rattle.affine.proofs.Support.{candidate_linear_zero}
use Rattle.affine.proofs.ErrorBound.{error_bound_within}
use Rattle.affine.proofs.reciprocal.reciprocal_apart.Goals as goal

candidate_none : (s : ℕ) (x : Row) {own : ℕ} {z : Row} → NoneFrom own x.linear → z ≡ candidate s x → NoneFrom own z.linear
candidate_none s x none e = rw e (λ i l. candidate_linear_zero x i (none i l))

pub measure-requires : goal.measure-requires
measure-requires c =
    let x = c.args.x.now in
    let (some, outweighs) = c.requires.outweighs in
    record {
      none = (omega (arith, c.args.symbols.owned), candidate_none c.args.symbols.squares c.args.x.now.row c.requires.none.0 c.candidate-z.ensures);
      small = span_as c.candidate-z.ensures (span_candidate c.args.symbols.squares x.row some outweighs x.within);
    }

-- the candidate z that was made, the bound n and the own coefficient v
module _ (s own : ℕ) (x : Row) {m z : Row} (a : ℕ) {n v : ℕ} (em : m ≡ candidate s x) (ez : z ≡ m)
    (en : n ≡ error_bound s x z) (ev : v ≡ ceiling_quotient n a) where
  own_small : span x ≤ span_limit → span z ≤ span_limit → 0 < a → span z + v < 2 ^ 63
  own_small hx hz apart = omega (arith, hz, ev, en, ceiling_at_most n a apart, error_bound_within s x z hx hz)

  row_is : with_own own (pos v) z ≡ reciprocal_row s own x a
  unfolding reciprocal_own reciprocal_row
  row_is = ap₂ (λ v z. with_own own (pos v) z) (ev ∙ ap (λ n. ceiling_quotient n a) (en ∙ ap (error_bound s x) (ez ∙ em))) (ez ∙ em)

pub error_bound-bound-requires-clause-none : goal.error_bound-bound-requires-clause-none
error_bound-bound-requires-clause-none c =
    (c.requires.none.0, candidate_none c.args.symbols.squares c.args.x.now.row c.requires.none.0 c.candidate-z.ensures)

pub error_bound-bound-requires-clause-within : goal.error_bound-bound-requires-clause-within
error_bound-bound-requires-clause-within c =
    let told : Some c.in_ok-size.size ≡ measured c.candidate-z.result = search rules in
    (measured_within c.candidate-z.result told, measured_radius c.candidate-z.result told)

pub check_with_own-requires : goal.check_with_own-requires
check_with_own-requires c =
    let x = c.args.x.now in
    let y = c.args.symbols in
    let told : Some c.in_ok-size.size ≡ measured c.candidate-z.result = search rules in
    record {
      none = (y.owned, candidate_none c.args.symbols.squares c.args.x.now.row c.requires.none.0 c.candidate-z.ensures);
      small =
          own_small y.squares y.own x.row c.args.distance c.candidate-z.ensures refl c.error_bound-bound.ensures c.ceiling_quotient.ensures.value x.within
          (measured_within c.candidate-z.result told) c.requires.none.1;
    }

pub returns : goal.returns
returns c =
    let x = c.args.x.now.row in
    let y = c.args.symbols in
    let told : Some c.in_ok-size.size ≡ measured c.candidate-z.result = search rules in
    let inside = (rw c.candidate-z.ensures at (measured_inside c.candidate-z.result told)) in
    rw inside
    (c.check_with_own.ensures.answer
    ∙ ap checked (row_is y.squares y.own x c.args.distance c.candidate-z.ensures refl c.error_bound-bound.ensures c.ceiling_quotient.ensures.value))
