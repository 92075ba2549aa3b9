-- The test of a schedule in blocks: its counts, the ends of its inputs, its steps.
use mathlib.Core.Path.{◌≡◌, refl}
use mathlib.Core.Bool.{Bool, true, false}
use Prim.Native.Nat.{ℕ, zero, suc, ◌+◌, ◌<◌}
use native.Mathlib.Nat.{zero-add, add-zero, add-suc, suc-add}
use native.Mathlib.Omega.{arith}
use lib.Dec.{eqb}
use Rattle.sheet.specs.Choice.{pick}
use Rattle.sheet.specs.Causes.{refusal, accepted, count_wrong, end_wrong, step_wrong}
use Rattle.sheet.specs.Lines.{natural, line_of, lines_left, numbers, ends_at, step_at}
use Rattle.sheet.specs.Tests.{fault, counts_pass, ends_pass, step_passes}
use Rattle.sheet.specs.Writing.{fault_at, test_lines, test_of}
use Rattle.sheet.specs.declared.Schedule.{Schedule}
use Rattle.sheet.specs.Answers.{Refusal}
use Rattle.sheet.proofs.LineKinds.{is_step_names, ends_line_is, step_line_is}

-- several lines in two blocks: the second counts where the first has no fault
test_split : (m n k : ℕ) (c : Schedule) → test_lines (m + n) k c ≡ pick (eqb (test_lines m k c).number 0) (test_lines n (k + m) c) (test_lines m k c)
unfolding test_lines
test_split zero n k c = rw (zero-add, add-zero)
test_split (suc m) n k c = rw (suc-add, add-suc, ← suc-add) (step (eqb (fault_at c k) 0) refl (test_split m n (suc k) c))
  where
    step : (b : Bool) → eqb (fault_at c k) 0 ≡ b
        → test_lines (m + n) (suc k) c ≡ pick (eqb (test_lines m (suc k) c).number 0) (test_lines n (suc k + m) c) (test_lines m (suc k) c)
        → pick b (test_lines (m + n) (suc k) c) (refusal (fault_at c k) k)
        ≡ pick (eqb (pick b (test_lines m (suc k) c) (refusal (fault_at c k) k)).number 0) (test_lines n (suc k + m) c) (pick b (test_lines m (suc k) c) (refusal (fault_at c k) k))
    step true e t = t
    step false e t = rw e

module _ (c : Schedule) where
  -- lines 1 and 2
  counts_test : test_lines 2 1 c ≡ pick (counts_pass c.inputs c.squares c.steps) accepted (refusal count_wrong 2)
  unfolding test_lines fault_at line_of fault numbers
  counts_test = go (counts_pass c.inputs c.squares c.steps)
    where
      go : (b : Bool) → pick (eqb (pick b 0 count_wrong) 0) accepted (refusal (pick b 0 count_wrong) 2) ≡ pick b accepted (refusal count_wrong 2)
      go true = refl
      go false = refl

  -- the lines of names over the ends and over the steps have no fault
  third_test : (k : ℕ) → test_lines (suc k) 3 c ≡ test_lines k 4 c
  unfolding test_lines fault_at line_of fault numbers
  third_test k = refl

  names_test : (k : ℕ) → test_lines (suc k) (4 + natural c.inputs) c ≡ test_lines k (5 + natural c.inputs) c
  unfolding test_lines fault_at fault numbers
  names_test k =
      let n : suc (4 + natural c.inputs) ≡ 5 + natural c.inputs = omega arith in
      rw (is_step_names (natural c.inputs) (4 + natural c.inputs) (omega arith), n)

  -- the whole test, as `test` makes it
  pub test_blocks : test_of c
      ≡ pick (counts_pass c.inputs c.squares c.steps)
      (pick (eqb (test_lines (natural c.inputs) 4 c).number 0) (test_lines (natural c.steps) (5 + natural c.inputs) c) (test_lines (natural c.inputs) 4 c))
      (refusal count_wrong 2)
  unfolding test_of
  test_blocks =
      let n : lines_left c ≡ suc (natural c.inputs + suc (natural c.steps)) = omega arith in
      rw (counts_test, n, third_test, test_split, names_test) (go (counts_pass c.inputs c.squares c.steps) _)
    where
      go : (b : Bool) (r : Refusal) → pick (eqb (pick b accepted (refusal count_wrong 2)).number 0) r (pick b accepted (refusal count_wrong 2)) ≡ pick b r (refusal count_wrong 2)
      go true r = refl
      go false r = refl

  -- the fault of an input's ends, and of a step
  module _ (inputs i : ℕ) (e : inputs ≡ natural c.inputs) where
    pub ends_fault : i < inputs → fault_at c (4 + i) ≡ pick (ends_pass (ends_at c i).low (ends_at c i).high) 0 end_wrong
    unfolding fault_at fault numbers
    ends_fault h = rw (ends_line_is (natural c.inputs) i (omega arith))

    pub step_fault : fault_at c (5 + inputs + i) ≡ pick (step_passes (inputs + i) (step_at c i).code (step_at c i).first (step_at c i).second (step_at c i).value) 0 step_wrong
    unfolding fault_at fault numbers
    step_fault = rw (e, step_line_is (natural c.inputs) i)
