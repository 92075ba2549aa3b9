-- The worked examples P1 to P13, R1 to R7 of roots and N1 to N5 of products to the nearest (manual, section 5.13): a sheet with one input each, and what
-- its evaluation gives one of the rows.
use Rattle.std.specs.Prelude.{◌≡◌, List, [], ◌∷◌, ◌++◌, ℕ, ◌-◌, ◌*◌, eqb, ℤ, pos, neg_ℤ, length, get_or, replicate}
use Rattle.affine.specs.declared.Row.{Row}
use Rattle.affine.specs.declared.Range.{Range}
use Rattle.affine.specs.Lists.{pick, at}
use Rattle.affine.specs.Steps.{ends_range}
use Rattle.capacity.specs.Limits.{max_inputs, max_steps}
use Rattle.sheet.specs.declared.Schedule.{Schedule}
use Rattle.sheet.specs.declared.Step.{Step}
use Rattle.sheet.specs.declared.End.{End}
use Rattle.sheet.specs.Lines.{zero_end, zero_step}
use Rattle.evaluation.specs.Table.{row_width, range_width, range_numbers}
use Rattle.evaluation.specs.Work.{Worked, row_count, evaluated}
use Rattle.evaluation.specs.Ranges.{row_of, own_ranges, answered_ranges}
use Rattle.evaluation.specs.Values.{own_of}

abbrev pub minus : ℕ → ℤ
minus n = neg_ℤ (pos n)

-- ---- sheets: so many squares, the ends of the one input, and steps; zeros behind them
abbrev pub ends : ℤ → ℤ → End
ends low high = record { low = low; high = high }

abbrev pub step : ℕ → ℕ → ℕ → ℤ → Step
step code first second value = record { code = pos code; first = pos first; second = pos second; value = value }

abbrev pub sheet : ℕ → End → List Step → Schedule
sheet squares e steps =
    record {
      inputs = pos 1;
      squares = pos squares;
      steps = pos (length steps);
      ends = e ∷ replicate (max_inputs - 1) zero_end;
      step = steps ++ replicate (max_steps - length steps) zero_step;
    }

abbrev pub still : End
still = ends (pos 0) (pos 0)

-- an input from 1 to 2
abbrev pub wide : End
wide = ends (pos 4096) (pos 8192)

-- a sheet has one step at least: behind the input of this one a constant 0
abbrev pub input_alone : End → Schedule
input_alone e = sheet 0 e (step 1 0 0 (pos 0) ∷ [])

abbrev pub product_of : ℤ → ℤ → Schedule
product_of v w = sheet 0 still (step 1 0 0 v ∷ step 1 0 0 w ∷ step 4 2 3 (pos 0) ∷ [])

abbrev pub reciprocal_of : ℤ → Schedule
reciprocal_of v = sheet 0 still (step 1 0 0 v ∷ step 5 2 0 (pos 0) ∷ [])

abbrev pub root_of : ℤ → Schedule
root_of v = sheet 0 still (step 1 0 0 v ∷ step 6 2 0 (pos 0) ∷ [])

-- of the input
abbrev pub square : ℕ → End → Schedule
square squares e = sheet squares e (step 4 1 1 (pos 0) ∷ [])

abbrev pub inverse : ℕ → End → Schedule
inverse squares e = sheet squares e (step 5 1 0 (pos 0) ∷ [])

abbrev pub rooted : ℕ → End → Schedule
rooted squares e = sheet squares e (step 6 1 0 (pos 0) ∷ [])

abbrev pub root_of_square : End → Schedule
root_of_square e = sheet 1 e (step 4 1 1 (pos 0) ∷ step 6 2 0 (pos 0) ∷ [])

-- ---- what is shown of the row with index i: its centre, its coefficients of symbol 1, of pair (1,1) and its own, its own range, and the answered one; of
-- a sheet that is refused number and place
abbrev pub row_shown : Schedule → List Row → ℕ → List ℤ
row_shown c rows i =
    let range_of = λ (ranges : List Range). range_numbers (get_or ranges i (ends_range (pos 0) (pos 0))) in
    (row_of rows i).centre ∷ at (row_of rows i).linear 0 ∷ at (row_of rows i).pair 0 ∷ own_of rows i ∷ range_of (own_ranges c rows) ++ range_of (answered_ranges c rows)

abbrev pub work_shown : Schedule → Worked → ℕ → List ℤ
work_shown c w i = pick (eqb w.refusal.number 0) (row_shown c w.rows i) (pos w.refusal.number ∷ pos w.refusal.place ∷ [])

-- into tables of zeros, just long enough
unfoldable pub shown : Schedule → ℕ → List ℤ
shown c i = work_shown c (evaluated c (replicate (row_width * row_count c) (pos 0)) (replicate (range_width * row_count c) (pos 0))) i

-- the three tables of examples, each by the names that the manual has
pub record Examples : Type 0 where
  pub p1 : shown (input_alone (ends (pos 0) (pos 1))) 0 ≡ (pos 0 ∷ pos 1 ∷ pos 0 ∷ pos 1 ∷ pos 0 ∷ pos 1 ∷ pos 0 ∷ pos 1 ∷ [])
  pub p2 : shown (input_alone (ends (minus 1) (pos 0))) 0 ≡ (minus 1 ∷ pos 1 ∷ pos 0 ∷ pos 1 ∷ minus 1 ∷ pos 0 ∷ minus 1 ∷ pos 0 ∷ [])
  pub p3 : shown (product_of (pos 1) (pos 1)) 3 ≡ (pos 0 ∷ pos 0 ∷ pos 0 ∷ pos 1 ∷ minus 1 ∷ pos 1 ∷ pos 0 ∷ pos 1 ∷ [])
  pub p4 : shown (product_of (minus 1) (pos 1)) 3 ≡ (pos 0 ∷ pos 0 ∷ pos 0 ∷ pos 1 ∷ minus 1 ∷ pos 1 ∷ minus 1 ∷ pos 0 ∷ [])
  pub p5 : shown (reciprocal_of (pos 8192)) 2 ≡ (pos 2048 ∷ pos 0 ∷ pos 0 ∷ pos 0 ∷ pos 2048 ∷ pos 2048 ∷ pos 2048 ∷ pos 2048 ∷ [])
  pub p6 : shown (reciprocal_of (pos 12288)) 2 ≡ (pos 1365 ∷ pos 0 ∷ pos 0 ∷ pos 1 ∷ pos 1364 ∷ pos 1366 ∷ pos 1365 ∷ pos 1366 ∷ [])
  pub p7 : shown (reciprocal_of (minus 12288)) 2 ≡ (minus 1366 ∷ pos 0 ∷ pos 0 ∷ pos 1 ∷ minus 1367 ∷ minus 1365 ∷ minus 1366 ∷ minus 1365 ∷ [])
  pub p8 : shown (square 1 wide) 1 ≡ (pos 9216 ∷ pos 6144 ∷ pos 1024 ∷ pos 0 ∷ pos 3072 ∷ pos 16384 ∷ pos 4096 ∷ pos 16384 ∷ [])
  pub p9 : shown (square 0 wide) 1 ≡ (pos 9216 ∷ pos 6144 ∷ pos 0 ∷ pos 1024 ∷ pos 2048 ∷ pos 16384 ∷ pos 4096 ∷ pos 16384 ∷ [])
  pub p10 : shown (inverse 1 wide) 1 ≡ (pos 2730 ∷ minus 911 ∷ pos 303 ∷ pos 155 ∷ pos 1664 ∷ pos 4099 ∷ pos 2048 ∷ pos 4096 ∷ [])
  pub p11 : shown (inverse 0 wide) 1 ≡ (pos 2730 ∷ minus 911 ∷ pos 0 ∷ pos 458 ∷ pos 1361 ∷ pos 4099 ∷ pos 2048 ∷ pos 4096 ∷ [])
  pub p12_first : shown (inverse 0 (ends (pos 1) (pos 2))) 1 ≡ (pos 16777216 ∷ minus 16777216 ∷ pos 0 ∷ pos 16777216 ∷ minus 16777216 ∷ pos 50331648 ∷ pos 8388608 ∷ pos 16777216 ∷ [])
  pub p12_second : shown (inverse 0 (ends (pos 1) (pos 3))) 1 ≡ (pos 8388608 ∷ minus 4194304 ∷ pos 0 ∷ pos 4194304 ∷ pos 0 ∷ pos 16777216 ∷ pos 5592405 ∷ pos 16777216 ∷ [])
  pub p13_first : shown (product_of (pos 268435456) (pos 16384)) 3 ≡ (pos 1073741824 ∷ pos 0 ∷ pos 0 ∷ pos 0 ∷ pos 1073741824 ∷ pos 1073741824 ∷ pos 1073741824 ∷ pos 1073741824 ∷ [])
  pub p13_second : shown (product_of (pos 268435456) (pos 16385)) 3 ≡ (pos 6 ∷ pos 4 ∷ [])

pub record RootExamples : Type 0 where
  pub r1 : shown (root_of (pos 4096)) 2 ≡ (pos 4096 ∷ pos 0 ∷ pos 0 ∷ pos 1 ∷ pos 4095 ∷ pos 4097 ∷ pos 4096 ∷ pos 4096 ∷ [])
  pub r2 : shown (root_of (pos 2)) 2 ≡ (pos 90 ∷ pos 0 ∷ pos 0 ∷ pos 3 ∷ pos 87 ∷ pos 93 ∷ pos 90 ∷ pos 90 ∷ [])
  pub r3 : shown (rooted 1 wide) 1 ≡ (pos 5016 ∷ pos 836 ∷ pos 0 ∷ pos 174 ∷ pos 4006 ∷ pos 6026 ∷ pos 4096 ∷ pos 5792 ∷ [])
  pub r4 : shown (rooted 0 wide) 1 ≡ (pos 5016 ∷ pos 836 ∷ pos 0 ∷ pos 174 ∷ pos 4006 ∷ pos 6026 ∷ pos 4096 ∷ pos 5792 ∷ [])
  pub r5 : shown (rooted 0 (ends (pos 0) (pos 5))) 1 ≡ (pos 12 ∷ pos 2 ∷ [])
  pub r6 : shown (rooted 0 (ends (pos 1) (pos 3))) 1 ≡ (pos 90 ∷ pos 22 ∷ pos 0 ∷ pos 13 ∷ pos 55 ∷ pos 125 ∷ pos 64 ∷ pos 110 ∷ [])
  pub r7 : shown (root_of_square wide) 2 ≡ (pos 6144 ∷ pos 2048 ∷ pos 341 ∷ pos 1609 ∷ pos 2487 ∷ pos 10142 ∷ pos 4096 ∷ pos 8192 ∷ [])

pub record NearestExamples : Type 0 where
  pub n1 : shown (product_of (pos 2047) (pos 1)) 3 ≡ (pos 0 ∷ pos 0 ∷ pos 0 ∷ pos 1 ∷ minus 1 ∷ pos 1 ∷ pos 0 ∷ pos 1 ∷ [])
  pub n2 : shown (product_of (pos 2048) (pos 1)) 3 ≡ (pos 1 ∷ pos 0 ∷ pos 0 ∷ pos 1 ∷ pos 0 ∷ pos 2 ∷ pos 0 ∷ pos 1 ∷ [])
  pub n3 : shown (product_of (minus 2048) (pos 1)) 3 ≡ (pos 0 ∷ pos 0 ∷ pos 0 ∷ pos 1 ∷ minus 1 ∷ pos 1 ∷ minus 1 ∷ pos 0 ∷ [])
  pub n4 : shown (product_of (minus 2049) (pos 1)) 3 ≡ (minus 1 ∷ pos 0 ∷ pos 0 ∷ pos 1 ∷ minus 2 ∷ pos 0 ∷ minus 1 ∷ pos 0 ∷ [])
  pub n5 : shown (square 1 (ends (pos 0) (pos 64))) 1 ≡ (pos 0 ∷ pos 1 ∷ pos 0 ∷ pos 1 ∷ minus 2 ∷ pos 2 ∷ pos 0 ∷ pos 1 ∷ [])

abbrev pub ExamplesHold : Type 0
ExamplesHold = Examples × (RootExamples × NearestExamples)
