-- `zip_rows` meets its contract: no number of either row is above the span limit, and f makes each of the new one.
use Rattle.std.proofs.Common.{rules, ℕ, ◌∙◌}
use Rattle.integer.proofs.Machine.{back}
use Rattle.affine.specs.Lists.{at}
use Rattle.affine.proofs.RowSize.{centre_within, linear_at_within, pair_at_within}
use Rattle.affine.proofs.RowRead.{read_centre}
use Rattle.affine.proofs.Zipped.{zipped}
use Rattle.affine.proofs.steps.zip_rows.Goals as goal

pub f-requires : goal.f-requires
f-requires g c =
    let x = c.args.x.now in
    let y = c.args.y.now in
    let (hx, hy) = c.requires.within in
    let p = c.requires.callable x.centre y.centre (centre_within x hx) (centre_within y hy) in
    rw (read_centre x hx, read_centre y hy) p

pub each-requires : goal.each-requires
each-requires g c =
    let x = c.args.x.now in
    let y = c.args.y.now in
    let (hx, hy) = c.requires.within in
    let p = λ (i : ℕ). c.requires.callable (at x.linear i) (at y.linear i) (linear_at_within x hx i) (linear_at_within y hy i) in
    search (rules, p)

pub each-requires-2 : goal.each-requires-2
each-requires-2 g c =
    let x = c.args.x.now in
    let y = c.args.y.now in
    let (hx, hy) = c.requires.within in
    let p = λ (i : ℕ). c.requires.callable (at x.pair i) (at y.pair i) (pair_at_within x hx i) (pair_at_within y hy i) in
    search (rules, p)

pub returns : goal.returns
returns g c =
    let x = c.args.x.now in
    let y = c.args.y.now in
    let (hx, hy) = c.requires.within in
    record {
      zipped = λ op h.
          zipped op x y _ (back c.f.type_inv ∙ h x.centre y.centre c.f.result (rw (read_centre x hx, read_centre y hy) at c.f.ensures))
          c.each.ensures.long
          (λ i l. let p = c.each.ensures.given i l in h (at x.linear i) (at y.linear i) (at c.each.result i) (search (rules, p)))
          c.each-2.ensures.long
          (λ k l. let p = c.each-2.ensures.given k l in h (at x.pair k) (at y.pair k) (at c.each-2.result k) (search (rules, p)));
    }
