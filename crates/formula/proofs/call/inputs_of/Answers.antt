-- numbers of which there are none, or an even count, are no inputs; others are read into their places
use Rattle.std.proofs.Common.{◌≡◌, refl, sym, ap, add-one, set, ◌∙◌, ℕ, ◌+◌, ◌*◌, ◌/◌, List, length, get_or, arith, rules, pos, w64}
use Rattle.std.proofs.lemmas.Int.{to_z-of_z, to_z_pos}
use mir.Val.{SFits}
use Rattle.capacity.specs.Limits.{max_inputs}
use Rattle.std.specs.Prelude.{Ok}
use Rattle.sheet.specs.declared.End.{End}
use Rattle.formulas.specs.declared.InputBlock.{InputBlock}
use Rattle.sheet.specs.Lines.{zero_end}
use Rattle.sheet.specs.Same.{up_to}
use Rattle.sheet.proofs.Trimmed.{set_up_to}
use Rattle.formula.specs.Words.{ends_given}
use Rattle.formula.proofs.NumberLaws.{no_squares, no_high_end, some_inputs, block_is}
use Rattle.formula.proofs.call.inputs_of.Goals as goal

pub returns-then-numbers-eq0 : goal.returns-then-numbers-eq0
returns-then-numbers-eq0 c = λ all h. no_squares all (sym h.counted ∙ c.if-numbers-eq0.true)

pub returns-then-numbers-eq0-2 : goal.returns-then-numbers-eq0-2
returns-then-numbers-eq0-2 c =
    λ all h. rw h.counted (no_high_end all (rw h.counted at c.if-numbers-eq0.false) (rw h.counted at c.if-numbers-eq0-2.true))

pub loop-i-init : goal.loop-i-init
unfolding up_to
loop-i-init c = refl

pub loop-i-preserved : goal.loop-i-preserved
loop-i-preserved c =
    let first = c.args.numbers.now.first in
    let i : ℕ = c.loop-i.i in
    let low : SFits w64 (get_or first (2 * i + 1) (pos 0)) = search rules in
    let high : SFits w64 (get_or first (2 * i + 2) (pos 0)) = search rules in
    rw (to_z-of_z w64 _ low, to_z-of_z w64 _ high, add-one i)
    (ap (λ (l : List End). set l i (ends_given first i)) c.loop-i.invariant ∙ set_up_to max_inputs i (ends_given first) zero_end (omega arith))

pub returns : goal.returns
returns c =
    λ all h.
    let first = c.args.numbers.now.first in
    let squares : SFits w64 (get_or first 0 (pos 0)) = search rules in
    rw (to_z-of_z w64 _ squares, to_z_pos w64 (c.args.numbers.now.count / 2) (omega arith))
    (let end : c.loop-i.i ≡ max_inputs = omega arith in
    let done : c.loop-i.ends ≡ up_to max_inputs max_inputs (ends_given first) zero_end = rw end at c.loop-i.invariant in
    let long : length first ≡ 17 = search rules in
    let some = some_inputs all (rw h.counted at c.if-numbers-eq0.false) (rw h.counted at c.if-numbers-eq0-2.false) in
    rw done (ap (λ (b : InputBlock). Ok b) (block_is first all c.args.numbers.now.count h (omega (arith, long))) ∙ some))
