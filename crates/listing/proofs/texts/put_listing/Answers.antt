-- The names of the columns, and then the rows.
use native.Mathlib.Omega.{arith}
use Rattle.sheet.proofs.Written.{wrote_then}
use Rattle.listing.specs.Listing.{listing}
use Rattle.listing.proofs.TextFits.{rows_short}
use Rattle.listing.proofs.texts.put_listing.Goals as goal

pub put_rows-requires : goal.put_rows-requires
put_rows-requires c =
    let s = c.args.rows.now in
    omega (arith, c.put_bytes-at.ensures.ends, c.put_bytes-at.auto.out, rows_short s.table.now s.ranges.now s.count s.held.few, s.held.few, c.requires)

pub returns : goal.returns
unfolding listing
returns c = wrote_then c.put_bytes-at.ensures c.put_rows.ensures
