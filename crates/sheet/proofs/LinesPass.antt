-- A schedule whose counts, ends and steps all pass is accepted by the test of 3, 4 and 5, and the other way round; where its steps pass, 5 is not told.
use mathlib.Core.Path.{◌≡◌, refl, ap}
use mathlib.Core.Bool.{true}
use Prim.Native.Nat.{ℕ, zero, suc, ◌+◌, ◌-◌, ◌≤◌, ◌<◌}
use native.Mathlib.Omega.{arith}
use lib.Dec.{eqb}
use Rattle.sheet.specs.Causes.{accepted}
use Rattle.sheet.specs.Lines.{natural, line_of, lines_left, numbers, ends_at, step_at}
use Rattle.sheet.specs.Tests.{fault, counts_pass, ends_pass, step_passes}
use Rattle.sheet.specs.Writing.{fault_at, test_lines, test_of}
use Rattle.sheet.specs.declared.Schedule.{Schedule}
use Rattle.sheet.specs.declared.Step.{Step}
use Rattle.sheet.specs.Answers.{Refusal}
use Rattle.sheet.specs.declared.Line.{Line}
use Rattle.sheet.proofs.Choice.{pick_elim}
use Rattle.sheet.proofs.LineKinds.{Kind, end_names, end_line, step_names, step_line, kind, ends_line_is, step_line_is}
use Rattle.sheet.proofs.Passed.{test_zero, test_accepts, both_pass, no_fault}

pub record LinesPass (c : Schedule) : Type 0 where
  pub counts : counts_pass c.inputs c.squares c.steps ≡ true
  pub ends : (i : ℕ) → i < natural c.inputs → ends_pass (ends_at c i).low (ends_at c i).high ≡ true
  pub steps : (j : ℕ) → j < natural c.steps
      → step_passes (natural c.inputs + j) (step_at c j).code (step_at c j).first (step_at c j).second (step_at c j).value ≡ true

module _ (c : Schedule) (pass : LinesPass c) where
  names_or_counts : (m : ℕ) → 1 ≤ m → m < 3 → fault_at c m ≡ 0
  unfolding fault_at line_of fault numbers
  names_or_counts zero a b = absurd (omega arith)
  names_or_counts (suc zero) a b = refl
  names_or_counts (suc (suc zero)) a b = rw pass.counts
  names_or_counts (suc (suc (suc m))) a b = absurd (omega arith)

  later_line : {m : ℕ} {l : Line} → m < 3 + lines_left c → Kind (natural c.inputs) m l → fault l (numbers c l) ≡ 0
  unfolding fault numbers
  later_line b (end_names e) = refl
  later_line {m} b (end_line g l) = rw (pass.ends (m - 4) l)
  later_line b (step_names e) = refl
  later_line {m} b (step_line g) =
      let j : ℕ = m - 5 - natural c.inputs in
      let earlier : natural c.inputs + j ≡ m - 5 = omega arith in
      let t : Step = step_at c j in
      let p : step_passes (m - 5) t.code t.first t.second t.value ≡ true = rw earlier at (pass.steps j (omega arith)) in
      rw p

  pub lines_accepted : test_of c ≡ accepted
  unfolding test_of fault_at
  lines_accepted =
      rw (test_accepts 2 1 c names_or_counts)
      (test_accepts (lines_left c) 3 c (λ m a b. later_line b (kind (natural c.inputs) m a)))

pub accepted_lines : (c : Schedule) → test_of c ≡ accepted → LinesPass c
unfolding fault_at line_of fault numbers
accepted_lines c e =
    let runs = both_pass c (ap (λ (r : Refusal). r.number) e) in
    let later = test_zero (lines_left c) 3 c runs.1 in
    let n : ℕ = natural c.inputs in
    record {
      counts = no_fault (counts_pass c.inputs c.squares c.steps) 2 (test_zero 2 1 c runs.0 2 (omega arith) (omega arith));
      ends = λ i h. no_fault (ends_pass (ends_at c i).low (ends_at c i).high) 3 (rw (ends_line_is n i h) at (later (4 + i) (omega arith) (omega arith)));
      steps = λ j h. let t : Step = step_at c j in
          no_fault (step_passes (n + j) t.code t.first t.second t.value) 4 (rw (step_line_is n j) at (later (5 + n + j) (omega arith) (omega arith)));
    }

-- ---- a schedule whose steps pass is refused by 3 or 4 alone
-- no cause above 4, and none below 3
abbrev pub OfInputs : ℕ → Type 0
OfInputs n = (n ≤ 4) × ((n ≡ 0 → ⊥) → 3 ≤ n)

none_of_inputs : OfInputs 0
none_of_inputs = (omega arith, λ h. absurd (h refl))

lines_of_inputs : (k n : ℕ) (c : Schedule) → ((m : ℕ) → n ≤ m → m < n + k → OfInputs (fault_at c m)) → OfInputs (test_lines k n c).number
unfolding test_lines
lines_of_inputs zero n c f = none_of_inputs
lines_of_inputs (suc k) n c f =
    pick_elim (λ (r : Refusal). OfInputs r.number) (eqb (fault_at c n) 0) _ _
    (λ e. lines_of_inputs k (suc n) c (λ m a b. f m (omega arith) (omega arith)))
    (λ e. f n (omega arith) (omega arith))

module _ (c : Schedule)
    (steps : (j : ℕ) → j < natural c.steps
    → step_passes (natural c.inputs + j) (step_at c j).code (step_at c j).first (step_at c j).second (step_at c j).value ≡ true) where
  first_of_inputs : (m : ℕ) → 1 ≤ m → m < 3 → OfInputs (fault_at c m)
  unfolding fault_at line_of fault
  first_of_inputs zero a b = absurd (omega arith)
  first_of_inputs (suc zero) a b = none_of_inputs
  first_of_inputs (suc (suc zero)) a b = pick_elim OfInputs (counts_pass _ _ _) 0 3 (λ e. none_of_inputs) (λ e. (omega arith, λ h. omega arith))
  first_of_inputs (suc (suc (suc m))) a b = absurd (omega arith)

  later_of_inputs : {m : ℕ} {l : Line} → m < 3 + lines_left c → Kind (natural c.inputs) m l → OfInputs (fault l (numbers c l))
  unfolding fault numbers
  later_of_inputs b (end_names e) = none_of_inputs
  later_of_inputs b (end_line g l) = pick_elim OfInputs (ends_pass _ _) 0 4 (λ e. none_of_inputs) (λ e. (omega arith, λ h. omega arith))
  later_of_inputs b (step_names e) = none_of_inputs
  later_of_inputs {m} b (step_line g) =
      let j : ℕ = m - 5 - natural c.inputs in
      let earlier : natural c.inputs + j ≡ m - 5 = omega arith in
      let t : Step = step_at c j in
      let p : step_passes (m - 5) t.code t.first t.second t.value ≡ true = rw earlier at (steps j (omega arith)) in
      rw p none_of_inputs

  pub refused_of_inputs : OfInputs (test_of c).number
  unfolding test_of fault_at
  refused_of_inputs =
      pick_elim (λ (r : Refusal). OfInputs r.number) (eqb (test_lines 2 1 c).number 0) _ _
      (λ e. lines_of_inputs (lines_left c) 3 c (λ m a b. later_of_inputs b (kind (natural c.inputs) m a)))
      (λ e. lines_of_inputs 2 1 c first_of_inputs)
