-- What is claimed of the roots of a sheet's rows, besides demand 3.
use Rattle.std.specs.Prelude.{◌≡◌, false, ℕ, ◌<◌}
use Rattle.affine.specs.declared.Row.{Row}
use Rattle.affine.specs.Steps.{zip_rows}
use Rattle.affine.specs.Product.{totals}
use Rattle.affine.specs.Root.{root_candidate, missed, misses, below_one, starts_below_zero}
use Rattle.sheet.specs.declared.Schedule.{Schedule}
use Rattle.sheet.specs.Lines.{natural}
use Rattle.sheet.specs.Writing.{test_of}
use Rattle.evaluation.specs.Ranges.{row_of, own_range}
use Rattle.evaluation.specs.Work.{worked}

-- Cause 12: "low below 1, or the candidate's own range starts below 0." No sheet meets the second half: where the low end of a row's own range is at
-- least 1, the candidate for its root does not start below 0. `proofs/RootStarts.antt` proves it of every schedule that passes the tests 3, 4 and 5, as
-- far as its rows are worked, and each of these rows.
abbrev pub CandidatesStartFromZero : Type 0
CandidatesStartFromZero =
    (c : Schedule) → (test_of c).number ≡ 0 → (n : ℕ) → (worked c n).refusal.number ≡ 0 → (i : ℕ) → i < n
    → let x = row_of (worked c n).rows i in below_one (own_range c i x) ≡ false → starts_below_zero (root_candidate x) ≡ false

-- "4096 × operand less candidate times candidate": `misses` counts the pairs in use. Of the rows of a sheet these are all numbers, so that B is formed
-- number by number from 4096 times the operand and the totals. `proofs/RootMisses.antt` proves it of every schedule, as far as its rows are worked, each of
-- these rows, and any candidate.
abbrev pub MissesEveryNumber : Type 0
MissesEveryNumber =
    (c : Schedule) (n : ℕ) → (worked c n).refusal.number ≡ 0 → (i : ℕ) → i < n → (z : Row)
    → let x = row_of (worked c n).rows i in misses (natural c.squares) x z ≡ zip_rows missed x (totals (natural c.squares) z z)
