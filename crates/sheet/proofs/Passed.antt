-- What a schedule that passes 3, 4 and 5 holds, line by line and then as one record (`passed`), which evaluation cites.
use mathlib.Core.Path.{◌≡◌, refl}
use mathlib.Core.Bool.{Bool, true, false}
use mathlib.Core.List.{[], ◌∷◌}
use Prim.Native.Nat.{ℕ, zero, suc, ◌+◌, ◌-◌, ◌≤◌, ◌<◌}
use native.Mathlib.Omega.{arith}
use native.Mathlib.Decide.{ℕ_discrete, dec_le}
use borrow.Author.Tests.{eq-eqb, eqb-true, eqb-false}
use lib.Dec.{eqb}
use lib.IntN.{ℤ, pos, negsuc, nat_abs}
use Rattle.sheet.specs.Choice.{pick}
use Rattle.capacity.specs.Limits.{max_inputs, max_steps}
use Rattle.sheet.specs.Limits.{last_binary, last_code}
use Rattle.sheet.specs.Causes.{accepted}
use Rattle.sheet.specs.Lines.{natural, line_of, line_at, lines_left, numbers, ends_at, step_at}
pub use Rattle.sheet.specs.Passed.{Passed}
use Rattle.sheet.specs.Tests.{fault, counts_pass, ends_pass, step_passes}
use Rattle.sheet.specs.Writing.{fault_at, test_lines, test_of}
use Rattle.sheet.specs.declared.Schedule.{Schedule}
use Rattle.sheet.specs.Answers.{Refusal}
use Rattle.sheet.specs.declared.Line.{Line}
use Rattle.sheet.specs.declared.Line.TheVariants.{CountLine, EndLine, StepLine}
use Rattle.sheet.proofs.Choice.{pick_elim}
use Rattle.sheet.proofs.FieldLine.{TenDigits, none, one}
use Rattle.sheet.proofs.LineKinds.{Kind, end_names, end_line, step_names, step_line, kind, Shape, Room, ends_line_is, step_line_is}
use Rattle.sheet.proofs.SheetRead.{Within}
use Rattle.sheet.proofs.Passing.{Natural, CountsPassed, counts_passed, EndsPassed, ends_passed, StepPassed, step_passed}

-- a run of lines passes exactly if each line does
pub test_zero : (k n : ℕ) (c : Schedule) → (test_lines k n c).number ≡ 0 → (m : ℕ) → n ≤ m → m < n + k → fault_at c m ≡ 0
unfolding test_lines
test_zero zero n c = λ z m a b. absurd (omega arith)
test_zero (suc k) n c =
    pick_elim (λ (r : Refusal). r.number ≡ 0 → (m : ℕ) → n ≤ m → m < n + suc k → fault_at c m ≡ 0) (eqb (fault_at c n) 0) _ _
    (λ e z m a b. elim (ℕ_discrete m n) [ yes i ↦ rw i (eqb-true (fault_at c n) 0 e) | no i ↦ test_zero k (suc n) c z m (omega (arith, i)) (omega arith) ])
    (λ e z. absurd (eqb-false (fault_at c n) 0 e z))

pub test_accepts : (k n : ℕ) (c : Schedule) → ((m : ℕ) → n ≤ m → m < n + k → fault_at c m ≡ 0) → test_lines k n c ≡ accepted
unfolding test_lines
test_accepts zero n c f = refl
test_accepts (suc k) n c f = simp (eq-eqb (fault_at c n) 0 (f n (omega arith) (omega arith))) (test_accepts k (suc n) c (λ m a b. f m (omega arith) (omega arith)))

-- the test of a line of each kind
pub no_fault : (b : Bool) (n : ℕ) → pick b 0 (suc n) ≡ 0 → b ≡ true
no_fault true n e = refl
no_fault false n e = absurd (omega arith)

pub counts_line : (c : Schedule) → fault CountLine (numbers c CountLine) ≡ 0 → CountsPassed c.inputs c.squares c.steps
unfolding fault numbers
counts_line c e = counts_passed c.inputs c.squares c.steps (no_fault (counts_pass c.inputs c.squares c.steps) 2 e)

pub ends_line : (c : Schedule) (i : ℕ) → fault (EndLine i) (numbers c (EndLine i)) ≡ 0 → EndsPassed (ends_at c i).low (ends_at c i).high
unfolding fault numbers
ends_line c i e = ends_passed (ends_at c i).low (ends_at c i).high (no_fault (ends_pass (ends_at c i).low (ends_at c i).high) 3 e)

pub step_line_passed : (c : Schedule) (i r : ℕ) → fault (StepLine i r) (numbers c (StepLine i r)) ≡ 0
    → StepPassed r (step_at c i).code (step_at c i).first (step_at c i).second (step_at c i).value
unfolding fault numbers
step_line_passed c i r e =
    let t = step_at c i in
    step_passed r t.code t.first t.second t.value (no_fault (step_passes r t.code t.first t.second t.value) 4 e)

-- line 2 and the counts
pub second_line : (c : Schedule) → fault_at c 2 ≡ 0 → CountsPassed c.inputs c.squares c.steps
unfolding fault_at line_of
second_line c e = counts_line c e

pub counts_first : (c : Schedule) → (test_lines 2 1 c).number ≡ 0 → CountsPassed c.inputs c.squares c.steps
counts_first c e = second_line c (test_zero 2 1 c e 2 (omega arith) (omega arith))

pub lines_left_small : (c : Schedule) → CountsPassed c.inputs c.squares c.steps → lines_left c ≤ max_inputs + max_steps + 2
lines_left_small c p = omega (arith, p.inputs_in.to, p.steps_in.to)

-- every line that the counts ask for has its place
room_of : {inputs steps n : ℕ} {l : Line} → inputs ≤ max_inputs → steps ≤ max_steps → n < inputs + steps + 5 → Kind inputs n l → Room l
room_of a b h (end_names e) = tt
room_of a b h (end_line g l) = omega arith
room_of a b h (step_names e) = tt
room_of a b h (step_line g) = omega arith

pub rooms_counted : (c : Schedule) → CountsPassed c.inputs c.squares c.steps → (m : ℕ) → 3 ≤ m → m < 3 + lines_left c → Room (line_at c m)
rooms_counted c p m a b = room_of p.inputs_in.to p.steps_in.to (omega arith) (kind (natural c.inputs) m a)

pub within_counts : (c : Schedule) → Shape c → CountsPassed c.inputs c.squares c.steps → Within c (3 + lines_left c)
within_counts c h p = record { shape = h; rooms = rooms_counted c p }

-- every number of a passing line has ten digits at the most
small : (a b : ℕ) (z : ℤ) → Natural a b z → b < 10000000000 → nat_abs z < 10000000000
small a b (pos n) h g = omega (arith, h.to)
small a b (negsuc n) h g = absurd (let e = h.is in let y : ◌≡◌ {A = ℕ} 0 1 = cc in omega arith)

zero_small : (z : ℤ) → z ≡ pos 0 → nat_abs z < 10000000000
zero_small z e = rw e (omega arith)

ten_steps : (r : ℕ) (code first second value : ℤ) → StepPassed r code first second value → r < 10000000000 → TenDigits (code ∷ first ∷ second ∷ value ∷ [])
ten_steps r code first second value p h =
    let k : ℕ = natural code in
    let v : nat_abs value < 10000000000 = elim (dec_le k 1) [ yes a ↦ omega (arith, p.value_in a) | no a ↦ zero_small value (p.value_zero (omega arith)) ] in
    let f : nat_abs first < 10000000000 = elim (dec_le k 1) [ yes a ↦ zero_small first (p.first_zero a) | no a ↦ small 1 r first (p.first_row (omega arith)) h ] in
    let s : nat_abs second < 10000000000 =
    elim (dec_le k 1) [
      | yes a ↦ zero_small second (p.second_zero a)
      | no a ↦ elim (dec_le k last_binary) [ yes b ↦ small 1 r second (p.second_row (omega arith) b) h | no b ↦ zero_small second (p.second_zero_last (omega arith)) ]
    ] in
    one (small 1 last_code code p.code_in (omega arith)) (one f (one s (one v none)))

pub ten_digits : (c : Schedule) (n : ℕ) (l : Line) → Kind (natural c.inputs) n l → n < 10000000000 → fault l (numbers c l) ≡ 0 → TenDigits (numbers c l)
unfolding numbers
ten_digits c n l (end_names e) h g = none
ten_digits c n l (end_line a b) h g =
    let p = ends_line c (n - 4) g in
    let low : nat_abs (ends_at c (n - 4)).low < 10000000000 = omega (arith, p.low_in) in
    let high : nat_abs (ends_at c (n - 4)).high < 10000000000 = omega (arith, p.high_in) in
    one low (one high none)
ten_digits c n l (step_names e) h g = none
ten_digits c n l (step_line a) h g =
    let i : ℕ = n - 5 - natural c.inputs in
    let t = step_at c i in
    ten_steps (n - 5) t.code t.first t.second t.value (step_line_passed c i (n - 5) g) (omega arith)

pub ten_digits_counts : (c : Schedule) → CountsPassed c.inputs c.squares c.steps → TenDigits (numbers c CountLine)
unfolding numbers
ten_digits_counts c p =
    one (small 1 max_inputs c.inputs p.inputs_in (omega arith))
    (one (small 0 (natural c.inputs) c.squares p.squares_in (omega (arith, p.inputs_in.to)))
    (one (small 1 max_steps c.steps p.steps_in (omega arith)) none))

-- both runs of lines pass
pub both_pass : (c : Schedule) → (test_of c).number ≡ 0 → ((test_lines 2 1 c).number ≡ 0) × ((test_lines (lines_left c) 3 c).number ≡ 0)
unfolding test_of
both_pass c =
    pick_elim (λ (r : Refusal). r.number ≡ 0 → ((test_lines 2 1 c).number ≡ 0) × ((test_lines (lines_left c) 3 c).number ≡ 0)) (eqb (test_lines 2 1 c).number 0) _ _
    (λ e z. (eqb-true (test_lines 2 1 c).number 0 e, z))
    (λ e z. absurd (eqb-false (test_lines 2 1 c).number 0 e z))

pub passed : (c : Schedule) → (test_of c).number ≡ 0 → Passed c
unfolding fault_at
passed c z =
    let t = both_pass c z in
    let f = test_zero (lines_left c) 3 c t.1 in
    let n : ℕ = natural c.inputs in
    record {
      counts = counts_first c t.0;
      ends = λ i h. ends_line c i (rw (ends_line_is n i h) at (f (4 + i) (omega arith) (omega arith)));
      steps = λ j h. step_line_passed c j (n + j) (rw (step_line_is n j) at (f (5 + n + j) (omega arith) (omega arith)));
    }

-- a test that tells no number tells no place
pub test_accepted : (c : Schedule) → (test_of c).number ≡ 0 → test_of c ≡ accepted
unfolding test_of
test_accepted c z =
    let t = both_pass c z in
    simp (eq-eqb (test_lines 2 1 c).number 0 t.0) (test_accepts (lines_left c) 3 c (test_zero (lines_left c) 3 c t.1))
