-- the bytes that are written are those that are printed
use Rattle.std.proofs.Common.{subst, List, ℕ}
use Rattle.std.specs.Prelude.{OnOk, OnErr}
use Rattle.std.specs.Io.KnownBytes.{Appends}
use Rattle.streams.specs.Count.{AppendsBeginning}
use Rattle.formula.proofs.Printing.{front}
use Rattle.formula.proofs.print_to.Goals as goal

pub returns-clause-whole : goal.returns-clause-whole
returns-clause-whole g c =
    λ formula e.
    let is = front (c.put_text-length.ensures.prints formula e) c.put_text-length.ensures.within in
    subst (λ (bs : List ℕ). OnOk c.write_all.result (Appends (g.W.Write.contents c.args.writer.now) (g.W.Write.contents c.write_all.new.writer) bs)) is c.write_all.ensures.whole

pub returns-clause-beginning : goal.returns-clause-beginning
returns-clause-beginning g c =
    λ formula e.
    let is = front (c.put_text-length.ensures.prints formula e) c.put_text-length.ensures.within in
    subst (λ (bs : List ℕ). OnErr c.write_all.result (AppendsBeginning (g.W.Write.contents c.args.writer.now) (g.W.Write.contents c.write_all.new.writer) bs)) is c.write_all.ensures.beginning
