-- `list` meets its contract: the tables are long enough, the text has room, and what was read says all of the input.
use mathlib.Core.Path.{sym, ap, ◌∙◌}
use Prim.Native.Nat.{◌≤◌}
use native.Mathlib.Omega.{arith}
use borrow.Author.Rules.{rules}
use lib.ListN.{length}
use Rattle.sheet.specs.Reading.{read_of}
use Rattle.listing.specs.Listed.{text_room}
use Rattle.listing.proofs.BeginningTells.{read_of_beginning}
use Rattle.ranges.proofs.Shown.{within, wrote, prints_truth}
use Rattle.ranges.proofs.list.Goals as goal

pub returns-clause-within : goal.returns-clause-within
returns-clause-within c =
    let room : text_room ≤ length c.args.text.now = search rules in omega (arith, room, c.unwrap_or.ensures, within c.list.result c.list.ensures.fits, c.list.auto.text)

pub returns-clause-wrote : goal.returns-clause-wrote
returns-clause-wrote c =
    λ input b.
    let room : text_room ≤ length c.args.text.now = search rules in rw c.unwrap_or.ensures (wrote c.list.result room (c.list.ensures.beginning input b))

pub returns-clause-truthful : goal.returns-clause-truthful
returns-clause-truthful c =
    λ input b.
    let room : text_room ≤ length c.args.text.now = search rules in
    let e = ap read_of (sym b.2) ∙ read_of_beginning b.0 b.1 input in
    prints_truth c.args.read.now input c.list.result room e (c.list.ensures.beginning input b) c.list.ensures.listing c.list.ensures.truthful c.list.ensures.legible
