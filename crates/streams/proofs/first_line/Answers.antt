use Rattle.std.proofs.Common.{sym, take_all, arith}
use Rattle.std.proofs.lemmas.Str.Pattern.{split_once_first}
use Rattle.streams.proofs.first_line.Goals as goal

pub returns-in-Some : goal.returns-in-Some
returns-in-Some c = (rw c.in-Some.is at (split_once_first 10 c.args.text.now c.split_once.result c.split_once.ensures.cases (omega arith))).1

pub returns-in-None : goal.returns-in-None
returns-in-None c =
    let whole = rw c.in-None.is at (split_once_first 10 c.args.text.now c.split_once.result c.split_once.ensures.cases (omega arith)) in
    sym (take_all _ c.args.text.now (omega (arith, whole)))
