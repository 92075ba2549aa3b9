-- `schedule_of` takes the steps where a schedule has room for them.
use mathlib.Core.Path.{ap, ◌∙◌}
use Prim.Native.Nat.{ℕ, ◌≤◌}
use native.Mathlib.Omega.{arith}
use borrow.Author.Rules.{rules}
use mir.Syntax.{w64}
use mir.Val.{SFits}
use mir.ValLaws.{to_z-of_z, to_z_pos}
use lib.IntN.{pos}
use lib.ListN.{get_or}
use Rattle.capacity.specs.Limits.{max_steps}
use Rattle.sheet.specs.Lines.{zero_step}
use Rattle.sheet.specs.Same.{up_to}
use Rattle.formulas.specs.Steps.{step_count, steps_of, ends_within, schedule_of}
use Rattle.formulas.proofs.StepLaws.{length_steps}
use Rattle.formulas.proofs.BuiltSteps.{put_held}
use Rattle.formulas.proofs.answers.schedule_of.Goals as goal

pub returns : goal.returns
unfolding schedule_of
returns c = λ t n m.
    let a = c.args in
    let inputs = a.steps.now.inputs in
    let fits : SFits w64 a.block.inputs × SFits w64 a.block.squares = (search rules, search rules) in
    let few : step_count t ≤ max_steps = omega (arith, n, c.requires.1) in
    let long = length_steps inputs t in
    let held = m ∙ put_held max_steps (steps_of inputs t) zero_step (omega (arith, long, few)) in
    ◌∙◌ {b = record {
      inputs = a.block.inputs;
      squares = a.block.squares;
      steps = pos (step_count t);
      ends = ends_within inputs a.block.ends;
      step = up_to max_steps (step_count t) (λ j. get_or (steps_of inputs t) j zero_step) zero_step;
    }}
    (λ i. record {
      inputs = to_z-of_z w64 a.block.inputs fits.0 i;
      squares = to_z-of_z w64 a.block.squares fits.1 i;
      steps = (to_z_pos w64 a.steps.now.count (omega (arith, n, few)) ∙ ap pos n) i;
      ends = c.ends_within.ensures i;
      step = (held ∙ ap (λ (k : ℕ). up_to max_steps k (λ j. get_or (steps_of inputs t) j zero_step) zero_step) long) i;
    })
    (ap (λ (k : ℕ). record {
      inputs = a.block.inputs;
      squares = a.block.squares;
      steps = pos (step_count t);
      ends = ends_within k a.block.ends;
      step = up_to max_steps (step_count t) (λ j. get_or (steps_of k t) j zero_step) zero_step;
    }) c.requires.0)
