-- the counts, then the block of the ends, then that of the steps
use Rattle.std.proofs.Common.{ℕ, ◌+◌, sym, ◌∙◌, get_or, refl, Bool, arith}
use Rattle.std.proofs.lemmas.Result.{err_from_is_err_and}
use Rattle.sheet.specs.Lines.{natural, zero_end, zero_step}
use Rattle.sheet.specs.Tests.{ends_pass, step_passes}
use Rattle.sheet.specs.Results.{tested}
use Rattle.sheet.specs.declared.causes.Cause.TheVariants.{CountWrong, EndWrong, StepWrong}
use Rattle.sheet.proofs.Results.{ensured, not_ensured}
use Rattle.sheet.proofs.Blocks.{ends_fault, step_fault}
use Rattle.sheet.proofs.SheetTold.{counts_wrong, limits, ends_wrong, steps_tested, block_passes, block_fails, block_tested}
use Rattle.sheet.proofs.test.Goals as goal

pub returns-in_err-ensure : goal.returns-in_err-ensure
returns-in_err-ensure c =
    let r = c.in_err-ensure.field-0.0 in
    let f = not_ensured c.counts_pass.result r CountWrong 2 c.in_err-ensure.ensures in
    let p = err_from_is_err_and c.from_residual.result c.from_residual.ensures.1 in
    rw (p.1, p.2, f.1) (counts_wrong c.args.schedule (sym c.counts_pass.ensures ∙ f.0))

pub test_block-requires-clause-room : goal.test_block-requires-clause-room
test_block-requires-clause-room c = omega (arith, (limits c.args.schedule (sym c.counts_pass.ensures ∙ ensured c.counts_pass.result CountWrong 2 c.in_ok-ensure.ensures)).0, c.input_count-inputs.ensures)

pub test_block-requires-clause-callable : goal.test_block-requires-clause-callable
test_block-requires-clause-callable c n h =
    omega (arith, (limits c.args.schedule (sym c.counts_pass.ensures ∙ ensured c.counts_pass.result CountWrong 2 c.in_ok-ensure.ensures)).0, c.input_count-inputs.ensures)

pub returns-in_err-test_block : goal.returns-in_err-test_block
returns-in_err-test_block c =
    let s = c.args.schedule in
    let r = c.in_err-test_block.field-0.0 in
    let f = rw c.input_count-inputs.ensures at c.in_err-test_block.ensures.first_fails in
    let p = err_from_is_err_and c.from_residual-in_err-test_block.result c.from_residual-in_err-test_block.ensures.1 in
    rw (p.1, p.2)
    (ends_wrong s (sym c.counts_pass.ensures ∙ ensured c.counts_pass.result CountWrong 2 c.in_ok-ensure.ensures) r
    (block_fails s 4 (natural s.inputs) 3 EndWrong refl (λ k. ends_pass (get_or s.ends k zero_end).low (get_or s.ends k zero_end).high) (λ k h. ends_fault s (natural s.inputs) k refl h) r f))

pub test_block-requires-2-clause-room : goal.test_block-requires-2-clause-room
test_block-requires-2-clause-room c =
    let l = limits c.args.schedule (sym c.counts_pass.ensures ∙ ensured c.counts_pass.result CountWrong 2 c.in_ok-ensure.ensures) in
    omega (arith, l.0, l.1, c.input_count-inputs.ensures, c.step_count-steps.ensures)

pub test_block-requires-2-clause-callable : goal.test_block-requires-2-clause-callable
test_block-requires-2-clause-callable c n h =
    let l = limits c.args.schedule (sym c.counts_pass.ensures ∙ ensured c.counts_pass.result CountWrong 2 c.in_ok-ensure.ensures) in
    (omega (arith, l.1, c.step_count-steps.ensures), omega (arith, l.0, c.input_count-inputs.ensures))

pub returns : goal.returns
returns c =
    let s = c.args.schedule in
    let n = c.input_count-inputs.ensures in
    let m = c.step_count-steps.ensures in
    let ends = rw n at c.in_ok-test_block.ensures.none_fails in
    let pass = rw (n, m) at c.test_block-2.ensures.none_fails in
    let fail = rw (n, m) at c.test_block-2.ensures.first_fails in
    let p : ℕ → Bool = λ k. step_passes (natural s.inputs + k) (get_or s.step k zero_step).code (get_or s.step k zero_step).first (get_or s.step k zero_step).second (get_or s.step k zero_step).value in
    steps_tested s (sym c.counts_pass.ensures ∙ ensured c.counts_pass.result CountWrong 2 c.in_ok-ensure.ensures)
    (block_passes s 4 (natural s.inputs) 3 EndWrong refl (λ k. ends_pass (get_or s.ends k zero_end).low (get_or s.ends k zero_end).high) (λ k h. ends_fault s (natural s.inputs) k refl h) ends)
    (tested c.test_block-2.result)
    (block_tested s (5 + natural s.inputs) (natural s.steps) 4 StepWrong refl p (λ k h. step_fault s (natural s.inputs) k refl) c.test_block-2.result pass fail)
