-- Row after row: the next row's range is the overlap of its own one, which the table still holds, and the plain one of its step.
use mathlib.Core.Path.{◌≡◌, sym, ap, ap₂, ◌∙◌, subst}
use mathlib.Core.List.{List}
use Prim.Native.Nat.{ℕ, ◌-◌, ◌*◌, ◌≤◌, ◌<◌}
use native.Mathlib.Omega.{arith}
use borrow.Author.Rules.{rules}
use lib.IntN.{ℤ, nat_abs}
use lib.ListN.{length}
use mir.Syntax.{w64}
use mir.Val.{SFits, to_z, of_z}
use Rattle.interval.specs.Interval.{overlap}
use Rattle.sheet.specs.declared.Schedule.{Schedule}
use Rattle.sheet.specs.Lines.{natural, step_at}
use Rattle.sheet.proofs.Passed.{Passed}
use Rattle.evaluation.specs.Table.{range_width, range_at, ranges_in, ranges_after}
use Rattle.evaluation.specs.Work.{row_count, worked}
use Rattle.evaluation.specs.Ranges.{own_ranges, plain_step, PlainOperands}
use Rattle.evaluation.proofs.FieldBits.{cast_natural}
use Rattle.evaluation.proofs.WorkLaws.{begun_of}
use Rattle.evaluation.proofs.AnsweredRanges.{told_up_to, plain_at}
use Rattle.evaluation.proofs.Narrowed.{OwnHeld, none_narrowed, all_narrowed, length_so_far, own_held, plain_of_input, plain_of_step, operands, narrowed_on}
use Rattle.evaluation.proofs.answered.narrow.Goals as goal
use Rattle.evaluation.proofs.answered.narrow.Goals.{then-i-inputs, else-i-inputs}

-- the second table as it is lent
held : {s : Schedule} {rows : ℕ} {lent : List ℤ} → Passed s × (rows ≤ row_count s) × ((worked s rows).refusal.number ≡ 0)
    → (range_width * rows ≤ length lent) × (ranges_in lent rows ≡ own_ranges s (worked s rows).rows) → OwnHeld s rows lent
held {s} {rows} {lent} p r = record { pass = p.0; begun = begun_of s rows p.1 p.2; room = r.0; own = r.1 }

-- the inputs as the code reads them
inputs_read : {s : Schedule} → Passed s → SFits w64 s.inputs → nat_abs (to_z w64 (of_z w64 s.inputs)) ≡ natural s.inputs
inputs_read p f = (cast_natural p.counts.inputs_in f).is

pub loop-i-init : goal.loop-i-init
loop-i-init c = none_narrowed c.args.c c.args.ranges.now

pub get_range-own-requires : goal.get_range-own-requires
get_range-own-requires c =
    let k = held c.requires.passed c.requires.rows_in_bounds in
    omega (arith, length_so_far k (omega arith) c.loop-i.invariant, k.room, c.loop-i-test.true)

pub plain_range-plain-requires : goal.plain_range-plain-requires
plain_range-plain-requires c =
    let s = c.args.c in
    let l = c.loop-i in
    let fits : SFits w64 s.inputs = search rules in
    let inputs = inputs_read c.requires.passed.0 fits in
    subst (λ m. PlainOperands l.ranges (step_at s (l.i - m))) (sym inputs)
    (operands (held c.requires.passed c.requires.rows_in_bounds) (omega arith) l.invariant c.loop-i-test.true (subst (λ m. m ≤ l.i) inputs c.if-i-inputs.false))

pub loop-i-preserved : goal.loop-i-preserved
loop-i-preserved c =
    let s = c.args.c in
    let l = c.loop-i in
    let k = held c.requires.passed c.requires.rows_in_bounds in
    let fits : SFits w64 s.inputs = search rules in
    let inputs = inputs_read c.requires.passed.0 fits in
    let before : l.i ≤ c.args.rows = omega (arith, c.loop-i-test.true) in
    let plain : c.if-i-inputs.plain ≡ plain_at s l.i =
    elim c.if-i-inputs.branch [
      | then-i-inputs w ↦
          w.plain-is ∙ c.get_range-own.ensures ∙ plain_of_input k before l.invariant c.loop-i-test.true (subst (λ m. l.i < m) inputs w.if-i-inputs.true)
      | else-i-inputs w ↦
          w.plain-is ∙ w.plain_range-plain.ensures
          ∙ ap (λ m. let t = step_at s (l.i - m) in plain_step t (range_at l.ranges (natural t.first - 1)) (range_at l.ranges (natural t.second - 1))) inputs
          ∙ plain_of_step k before l.invariant c.loop-i-test.true (subst (λ m. m ≤ l.i) inputs w.if-i-inputs.false)
    ] in
    narrowed_on k before l.invariant c.loop-i-test.true
    (c.overlap.ensures ∙ ap₂ overlap (c.get_range-own.ensures ∙ own_held k before l.invariant c.loop-i-test.true) plain) c.put_range.ensures

pub returns : goal.returns
returns c =
    let s = c.args.c in
    let all : c.loop-i.i ≡ c.args.rows = omega (arith, c.loop-i-test.false) in
    c.loop-i.invariant ∙ ap (λ m. ranges_after (told_up_to s m) c.args.ranges.now) all ∙ all_narrowed (held c.requires.passed c.requires.rows_in_bounds)
