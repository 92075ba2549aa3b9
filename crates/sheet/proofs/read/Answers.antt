-- The answer, and what follows of it.
use Rattle.std.proofs.Common.{◌≡◌, rules}
use Rattle.sheet.specs.Reading.{read_of}
use Rattle.sheet.specs.Results.{read_answer}
use Rattle.sheet.proofs.CallClaims.{reads_each, tells_first, only_first}
use Rattle.sheet.proofs.read.Goals as goal

pub returns-in_err-ensure-clause-reads_each : goal.returns-in_err-ensure-clause-reads_each
unfolding read_of
returns-in_err-ensure-clause-reads_each c =
    let e : read_answer c.from_residual.result ≡ read_of c.args.bytes.now = search rules in
    reads_each c.args.bytes.now c.from_residual.result e

pub returns-clause-reads_each : goal.returns-clause-reads_each
unfolding read_of
returns-clause-reads_each c =
    let e : read_answer c.read_sheet.result ≡ read_of c.args.bytes.now = search rules in
    reads_each c.args.bytes.now c.read_sheet.result e

pub returns-clause-tells_first_fault : goal.returns-clause-tells_first_fault
unfolding read_of
returns-clause-tells_first_fault c =
    let e : read_answer c.read_sheet.result ≡ read_of c.args.bytes.now = search rules in
    tells_first c.args.bytes.now c.read_sheet.result e

pub returns-in_err-ensure-clause-tells_no_other_fault : goal.returns-in_err-ensure-clause-tells_no_other_fault
unfolding read_of
returns-in_err-ensure-clause-tells_no_other_fault c =
    let e : read_answer c.from_residual.result ≡ read_of c.args.bytes.now = search rules in
    only_first c.args.bytes.now c.from_residual.result e

pub returns-clause-tells_no_other_fault : goal.returns-clause-tells_no_other_fault
unfolding read_of
returns-clause-tells_no_other_fault c =
    let e : read_answer c.read_sheet.result ≡ read_of c.args.bytes.now = search rules in
    only_first c.args.bytes.now c.read_sheet.result e
