-- `pair_curve` meets its contract: the candidate's linear coefficients are at most N, so that the products that meet do not wrap.
use Rattle.std.proofs.Common.{arith, ◌≡◌, ◌∙◌, to_z, of_z, w64}
use Rattle.integer.proofs.Machine.{back}
use Rattle.affine.specs.PairOrder.{first_of, second_of}
use Rattle.affine.specs.Product.{meeting}
use Rattle.affine.specs.Reciprocal.{candidate_linear}
use Rattle.affine.proofs.RowSize.{centre_within, linear_at_within, pair_at_within}
use Rattle.affine.proofs.RowRead.{read_centre, read_pair}
use Rattle.affine.proofs.PairSymbols.{first_below, second_below}
use Rattle.affine.proofs.Candidate.{candidate_linear_within, candidate_meeting_within}
use Rattle.affine.proofs.reciprocal.pair_curve.Goals as goal

pub meeting_at-requires-clause-i_lt_symbols : goal.meeting_at-requires-clause-i_lt_symbols
meeting_at-requires-clause-i_lt_symbols c =
    let p = c.args.p in
    (omega (arith, p.first_told, first_below p.index), omega (arith, p.second_told, second_below p.index))

pub meeting_at-requires-clause-by_index : goal.meeting_at-requires-clause-by_index
meeting_at-requires-clause-by_index c =
    let x = c.args.x.now in
    let (within, some, outweighs) = c.requires.outweighs in
    (λ n. rw c.requires.candidate (omega (arith, candidate_linear_within x some outweighs n)), linear_at_within x within)

met_is : (c : goal.After-meeting_at)
    → let x = c.args.x.now in
    to_z w64 (of_z w64 c.meeting_at.result) ≡ meeting (candidate_linear x) x.linear (first_of c.args.p.index) (second_of c.args.p.index)
met_is c =
    let p = c.args.p in
    rw (← p.first_told, ← p.second_told, ← c.requires.candidate) (back c.meeting_at.type_inv ∙ c.meeting_at.ensures)

pub candidate_curve-requires : goal.candidate_curve-requires
candidate_curve-requires c =
    let x = c.args.x.now in
    let k = c.args.p.index in
    let (within, some, outweighs) = c.requires.outweighs in
    rw (read_centre x within, read_pair x within k, met_is c)
    (centre_within x within, pair_at_within x within k, some, candidate_meeting_within x some outweighs within (first_of k) (second_of k))
