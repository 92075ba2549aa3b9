-- Five pieces one behind the other: the names, the number, a space, the place and the line's end. There is room for either number at either position.
use mathlib.Core.List.{append_assoc}
use native.Mathlib.Omega.{arith}
use lib.IntN.{pos}
use Rattle.sheet.specs.Text.{line}
use Rattle.sheet.proofs.Decimal.{numeral_short}
use Rattle.sheet.proofs.Written.{wrote_then}
use Rattle.listing.specs.Listing.{refusal_text}
use Rattle.listing.proofs.texts.put_refusal.Goals as goal

pub put_count-at-requires : goal.put_count-at-requires
put_count-at-requires c =
    omega (arith, c.put_bytes-at.ensures.ends, c.put_bytes-at.auto.out, numeral_short (pos c.args.number), numeral_short (pos c.args.place), c.requires)

pub put_bytes-at-requires-2 : goal.put_bytes-at-requires-2
put_bytes-at-requires-2 c =
    omega (
      arith,
      c.put_bytes-at.ensures.ends,
      c.put_bytes-at.auto.out,
      c.put_count-at.ensures.written.ends,
      c.put_count-at.auto.out,
      numeral_short (pos c.args.number),
      numeral_short (pos c.args.place),
      c.requires,
    )

pub put_count-at-requires-2 : goal.put_count-at-requires-2
put_count-at-requires-2 c =
    omega (
      arith,
      c.put_bytes-at.ensures.ends,
      c.put_bytes-at.auto.out,
      c.put_count-at.ensures.written.ends,
      c.put_count-at.auto.out,
      c.put_bytes-at-2.ensures.ends,
      c.put_bytes-at-2.auto.out,
      numeral_short (pos c.args.number),
      numeral_short (pos c.args.place),
      c.requires,
    )

pub put_bytes-requires : goal.put_bytes-requires
put_bytes-requires c =
    omega (
      arith,
      c.put_bytes-at.ensures.ends,
      c.put_bytes-at.auto.out,
      c.put_count-at.ensures.written.ends,
      c.put_count-at.auto.out,
      c.put_bytes-at-2.ensures.ends,
      c.put_bytes-at-2.auto.out,
      c.put_count-at-2.ensures.written.ends,
      c.put_count-at-2.auto.out,
      numeral_short (pos c.args.number),
      numeral_short (pos c.args.place),
      c.requires,
    )

pub returns : goal.returns
unfolding refusal_text line
returns c =
    let w = wrote_then (wrote_then (wrote_then (wrote_then c.put_bytes-at.ensures c.put_count-at.ensures.written) c.put_bytes-at-2.ensures) c.put_count-at-2.ensures.written) c.put_bytes.ensures in
    simp append_assoc at w
