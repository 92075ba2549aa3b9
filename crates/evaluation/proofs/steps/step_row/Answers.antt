-- Each operation's answer is what the definition makes of the step by its code, from the rows and ranges read.
use mathlib.Core.Path.{◌≡◌, sym, subst}
use Prim.Native.Nat.{ℕ}
use native.Mathlib.Omega.{arith}
use borrow.Author.Rules.{rules}
use mir.Syntax.{w64}
use mir.Val.{SFits}
use mir.ValLaws.{to_z-of_z}
use Rattle.evaluation.specs.Table.{RowsWithin, RangesOf, Operands}
use Rattle.evaluation.specs.Work.{binary_answer, unary_answer}
use Rattle.evaluation.proofs.StepAnswers.{read_span, read_none, read_centred, both_none, two_rows, only_earlier, one_row, no_row}
use Rattle.evaluation.proofs.steps.step_row.Goals as goal

-- what holds of as many rows as are before the step's holds up to its own symbol
at_own : (P : ℕ → Type 0) {own count : ℕ} → own ≡ count → P count → P own
at_own P e h = subst P (sym e) h

pub returns-in-Constant : goal.returns-in-Constant
returns-in-Constant c =
    let e = c.args.earlier.now in
    let s = c.args.symbols in
    let fits : SFits w64 c.in-Constant.value = search rules in
    no_row c.in-Constant.ensures s.squares s.own e.table.now e.ranges.now (rw (to_z-of_z w64 _ fits) at c.constant.ensures)

pub multiply-requires : goal.multiply-requires
multiply-requires c =
    let e = c.args.earlier.now in
    both_none c.requires.step_passed c.in-Product.ensures (omega arith) (omega arith) (at_own (Operands e.table.now e.radii.now) c.requires.next e.summed) c.operand.ensures c.operand-in-Product.ensures

pub add-requires-clause-none : goal.add-requires-clause-none
add-requires-clause-none c =
    let e = c.args.earlier.now in
    both_none c.requires.step_passed c.in-Sum.ensures (omega arith) (omega arith) (at_own (Operands e.table.now e.radii.now) c.requires.next e.summed) c.row.ensures c.row-in-Sum.ensures

pub subtract-requires-clause-none : goal.subtract-requires-clause-none
subtract-requires-clause-none c =
    let e = c.args.earlier.now in
    both_none c.requires.step_passed c.in-Difference.ensures (omega arith) (omega arith) (at_own (Operands e.table.now e.radii.now) c.requires.next e.summed) c.row-in-Difference.ensures c.row-in-Difference-2.ensures

pub returns-in-Product : goal.returns-in-Product
unfolding binary_answer
returns-in-Product c =
    let e = c.args.earlier.now in
    let s = c.args.symbols in
    let h = c.in-Product.ensures in
    two_rows c.requires.step_passed h (omega arith) (omega arith) s.squares e.table.now e.ranges.now c.operand.ensures c.operand-in-Product.ensures
    (rw h.by_code c.multiply.ensures.value)

pub returns-in-Sum : goal.returns-in-Sum
unfolding binary_answer
returns-in-Sum c =
    let e = c.args.earlier.now in
    let h = c.in-Sum.ensures in
    two_rows c.requires.step_passed h (omega arith) (omega arith) c.args.symbols.squares e.table.now e.ranges.now c.row.ensures c.row-in-Sum.ensures
    (rw h.by_code c.add.ensures)

pub returns-in-Difference : goal.returns-in-Difference
unfolding binary_answer
returns-in-Difference c =
    let e = c.args.earlier.now in
    let h = c.in-Difference.ensures in
    two_rows c.requires.step_passed h (omega arith) (omega arith) c.args.symbols.squares e.table.now e.ranges.now c.row-in-Difference.ensures c.row-in-Difference-2.ensures
    (rw h.by_code c.subtract.ensures)

pub invert-requires : goal.invert-requires
invert-requires c =
    let e = c.args.earlier.now in
    let h = c.in-Reciprocal.ensures in
    let held = at_own (Operands e.table.now e.radii.now) c.requires.next e.summed in
    let ranged = at_own (RangesOf e.table.now e.ranges.now) c.requires.next e.ranged in
    let before = only_earlier c.requires.step_passed h (omega arith) in
    (read_none held before c.operand-in-Reciprocal.ensures, (read_centred ranged before c.operand-in-Reciprocal.ensures c.range.ensures).outweighs)

pub returns-in-Reciprocal : goal.returns-in-Reciprocal
unfolding unary_answer
returns-in-Reciprocal c =
    let e = c.args.earlier.now in
    let h = c.in-Reciprocal.ensures in
    one_row c.requires.step_passed h (omega arith) c.args.symbols.squares e.table.now e.ranges.now c.operand-in-Reciprocal.ensures c.range.ensures
    (rw h.by_code c.invert.ensures)

pub take_root-requires : goal.take_root-requires
take_root-requires c =
    let e = c.args.earlier.now in
    let h = c.in-Root.ensures in
    let within = at_own (RowsWithin e.table.now) c.requires.next e.within in
    let held = at_own (Operands e.table.now e.radii.now) c.requires.next e.summed in
    let ranged = at_own (RangesOf e.table.now e.ranges.now) c.requires.next e.ranged in
    let before = only_earlier c.requires.step_passed h (omega arith) in
    let x = c.row-in-Root.ensures in
    (read_span within before x, read_none held before x, (read_centred ranged before x c.range-in-Root.ensures).low_below)

pub returns-in-Root : goal.returns-in-Root
unfolding unary_answer
returns-in-Root c =
    let e = c.args.earlier.now in
    let h = c.in-Root.ensures in
    one_row c.requires.step_passed h (omega arith) c.args.symbols.squares e.table.now e.ranges.now c.row-in-Root.ensures c.range-in-Root.ensures
    (rw h.by_code c.take_root.ensures)
