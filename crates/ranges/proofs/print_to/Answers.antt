-- the bytes that are written are those that are printed
use Rattle.std.proofs.Common.{◌≡◌, subst, List, ℕ, length, take, arith, ◌≤◌, rules}
use Rattle.std.specs.Prelude.{OnOk, OnErr}
use Rattle.std.specs.Io.KnownBytes.{Appends}
use Rattle.streams.specs.Count.{AppendsBeginning}
use Rattle.sheet.specs.Wrote.{Wrote}
use Rattle.listing.proofs.Truthful.{bytes_written}
use Rattle.ranges.proofs.print_to.Goals as goal

front : {before after : List ℕ} {end : ℕ} {text : List ℕ} → Wrote before after 0 end text → end ≤ length after → length after ≡ length before → take end after ≡ text
front w within kept = bytes_written w (omega (arith, w.ends, within, kept))

pub returns-clause-printed : goal.returns-clause-printed
returns-clause-printed g c =
    λ input b.
    let is = front (c.list-length.ensures.wrote input b) c.list-length.ensures.within (search rules) in
    subst (λ (bs : List ℕ). OnOk c.write_all.result (Appends (g.W.Write.contents c.args.writer.now) (g.W.Write.contents c.write_all.new.writer) bs)) is c.write_all.ensures.whole

pub returns-clause-failed : goal.returns-clause-failed
returns-clause-failed g c =
    λ input b.
    let is = front (c.list-length.ensures.wrote input b) c.list-length.ensures.within (search rules) in
    subst (λ (bs : List ℕ). OnErr c.write_all.result (AppendsBeginning (g.W.Write.contents c.args.writer.now) (g.W.Write.contents c.write_all.new.writer) bs)) is c.write_all.ensures.beginning
