-- `candidate_curve` meets its contract: the sum of its two parts does not wrap.
use borrow.Author.Rules.{rules}
use Rattle.affine.proofs.CandidateSize.{curve_fits}
use Rattle.affine.proofs.reciprocal.candidate_curve.Goals as goal

pub returns : goal.returns
returns c =
    let a = c.args in
    let (hc, hp, some, hm) = c.requires in
    let f = curve_fits a.c a.p a.met hp hm in
    search rules
