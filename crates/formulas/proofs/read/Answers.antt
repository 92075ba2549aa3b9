-- What follows of the answer.
use Rattle.formulas.proofs.CallClaims.{schedule, wrong_inputs, wrong_byte, literal_beyond, steps_beyond}
use Rattle.formulas.proofs.read.Goals as goal

pub returns-clause-schedule : goal.returns-clause-schedule
returns-clause-schedule c = schedule c.args.block c.args.text.now c.answer.result c.answer.ensures

pub returns-clause-wrong_inputs : goal.returns-clause-wrong_inputs
returns-clause-wrong_inputs c = wrong_inputs c.args.block c.args.text.now c.answer.result c.answer.ensures

pub returns-clause-wrong_byte : goal.returns-clause-wrong_byte
returns-clause-wrong_byte c = wrong_byte c.args.block c.args.text.now c.answer.result c.answer.ensures

pub returns-clause-literal_beyond : goal.returns-clause-literal_beyond
returns-clause-literal_beyond c = literal_beyond c.args.block c.args.text.now c.answer.result c.answer.ensures

pub returns-clause-steps_beyond : goal.returns-clause-steps_beyond
returns-clause-steps_beyond c = steps_beyond c.args.block c.args.text.now c.answer.result c.answer.ensures
