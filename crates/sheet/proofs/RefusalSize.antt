-- The numbers of a refusal are small: no cause is above 12, and no place is beyond the lines of the longest sheet and one more.
use mathlib.Core.Path.{◌≡◌}
use mathlib.Core.List.{List}
use Prim.Native.Nat.{ℕ, zero, suc, ◌+◌, ◌≤◌}
use native.Mathlib.Omega.{arith}
use native.Mathlib.Decide.{ℕ_discrete}
use borrow.Author.Tests.{eqb-true}
use lib.Dec.{eqb, ltb}
use lib.IntN.{ℤ}
use lib.ListN.{length, drop}
use Rattle.capacity.specs.Limits.{max_inputs, max_steps}
use Rattle.sheet.specs.Limits.{max_bytes}
use Rattle.sheet.specs.Lines.{zero_schedule, lines_left, line_at, names, width, numbers}
use Rattle.sheet.specs.Tests.{fault, counts_pass, ends_pass, step_passes}
use Rattle.sheet.specs.Reading.{starts, fields_at, read_as, read_line, read_lines, read_sheet, read_of}
use Rattle.sheet.specs.Writing.{fault_at, test_lines, test_of}
use Rattle.sheet.specs.declared.Line.{Line}
use Rattle.sheet.specs.declared.Line.TheVariants.{CountNames, CountLine, EndNames, EndLine, StepNames, StepLine}
use Rattle.sheet.specs.Answers.{Refusal, ReadAnswer, Part}
use Rattle.sheet.specs.declared.Schedule.{Schedule}
use Rattle.sheet.proofs.Choice.{pick_elim}
use Rattle.sheet.proofs.CountsRead.{first_sound}
use Rattle.sheet.proofs.LineRead.{first_part, second_part, sheet_first, sheet_second, sheet_ends, sheet_goes_on}
use Rattle.sheet.proofs.Passed.{counts_first, lines_left_small}

-- the greatest number of a cause that reading or evaluating tells
abbrev pub last_cause : ℕ
last_cause = 12

-- a cause, and a place at `most`
pub record Small (most : ℕ) (r : Refusal) : Type 0 where
  pub number_small : r.number ≤ last_cause
  pub place_small : r.place ≤ most

-- one line more than the longest sheet has
abbrev pub last_place : ℕ
last_place = max_inputs + max_steps + 5

weaker : {m n : ℕ} {r : Refusal} → m ≤ n → Small m r → Small n r
weaker h s = record { number_small = s.number_small; place_small = omega (arith, s.place_small) }

fault_small : (l : Line) (v : List ℤ) → fault l v ≤ 5
unfolding fault
fault_small CountNames v = omega arith
fault_small CountLine v = pick_elim (λ (n : ℕ). n ≤ 5) (counts_pass _ _ _) 0 3 (λ e. omega arith) (λ e. omega arith)
fault_small EndNames v = omega arith
fault_small (EndLine i) v = pick_elim (λ (n : ℕ). n ≤ 5) (ends_pass _ _) 0 4 (λ e. omega arith) (λ e. omega arith)
fault_small StepNames v = omega arith
fault_small (StepLine i r) v = pick_elim (λ (n : ℕ). n ≤ 5) (step_passes _ _ _ _ _) 0 5 (λ e. omega arith) (λ e. omega arith)

-- ---- reading
module _ (l : Line) (n : ℕ) (c : Schedule) (s : List ℕ) (at : ℕ) where
  line_small : Small n (read_as l n c s at).refusal
  unfolding read_as
  line_small =
      let f = fields_at s at (width l) in
      let small : Part → Type 0 = λ p. Small n p.refusal in
      pick_elim small (eqb (width l) 0) _ _
      (λ e. pick_elim small (starts (drop at s) (names l)) _ _
      (λ e. record { number_small = omega arith; place_small = omega arith })
      (λ e. record { number_small = omega arith; place_small = omega arith }))
      (λ e. pick_elim small f.ok _ _
      (λ e. pick_elim small (eqb (fault l f.values) 0) _ _
      (λ e. record { number_small = omega arith; place_small = omega arith })
      (λ e. record { number_small = omega (arith, fault_small l f.values); place_small = omega arith }))
      (λ e. record { number_small = omega arith; place_small = omega arith }))

lines_small : (k n : ℕ) (c : Schedule) (s : List ℕ) (at : ℕ) → Small (n + k) (read_lines k n c s at).refusal
unfolding read_lines
lines_small zero n c s at = record { number_small = omega arith; place_small = omega arith }
lines_small (suc k) n c s at =
    let p = read_line n c s at in
    pick_elim (λ (q : Part). Small (n + suc k) q.refusal) (eqb p.refusal.number 0) _ _
    (λ e. weaker (omega arith) (lines_small k (suc n) p.schedule s p.next))
    (λ e. weaker (omega arith) (line_small (line_at c n) n c s at))

sheet_small : (s : List ℕ) → Small last_place (read_sheet s).refusal
sheet_small s = go (ℕ_discrete (first_part s).refusal.number 0) (ℕ_discrete (second_part s).refusal.number 0) (ℕ_discrete (second_part s).next (length s))
  where
    c : Schedule
    c = (first_part s).schedule

    few : (first_part s).refusal.number ≡ 0 → lines_left c ≤ max_inputs + max_steps + 2
    few a = lines_left_small c (first_sound s 0 (omega arith) a).counts

    go : Dec ((first_part s).refusal.number ≡ 0) → Dec ((second_part s).refusal.number ≡ 0) → Dec ((second_part s).next ≡ length s) → Small last_place (read_sheet s).refusal
    go (no a) b d = rw (sheet_first s a) (weaker (omega arith) (lines_small 2 1 zero_schedule s 0))
    go (yes a) (no b) d = rw (sheet_second s a b) (weaker (omega (arith, few a)) (lines_small (lines_left c) 3 c s (first_part s).next))
    go (yes a) (yes b) (yes d) = rw (sheet_ends s a b d) (record { number_small = omega arith; place_small = omega arith })
    go (yes a) (yes b) (no d) = rw (sheet_goes_on s a b d) (record { number_small = omega arith; place_small = omega (arith, few a) })

pub read_small : (s : List ℕ) → Small last_place (read_of s).refusal
unfolding read_of
read_small s =
    pick_elim (λ (a : ReadAnswer). Small last_place a.refusal) (ltb max_bytes (length s)) _ _
    (λ e. record { number_small = omega arith; place_small = omega arith })
    (λ e. sheet_small s)

-- ---- the test of a schedule
test_lines_small : (k n : ℕ) (c : Schedule) → Small (n + k) (test_lines k n c)
unfolding test_lines fault_at
test_lines_small zero n c = record { number_small = omega arith; place_small = omega arith }
test_lines_small (suc k) n c =
    pick_elim (λ (r : Refusal). Small (n + suc k) r) (eqb (fault_at c n) 0) _ _
    (λ e. weaker (omega arith) (test_lines_small k (suc n) c))
    (λ e. record { number_small = omega (arith, fault_small (line_at c n) (numbers c (line_at c n))); place_small = omega arith })

pub test_small : (c : Schedule) → Small last_place (test_of c)
unfolding test_of
test_small c =
    pick_elim (λ (r : Refusal). Small last_place r) (eqb (test_lines 2 1 c).number 0) _ _
    (λ e. weaker (omega (arith, lines_left_small c (counts_first c (eqb-true _ _ e)))) (test_lines_small (lines_left c) 3 c))
    (λ e. weaker (omega arith) (test_lines_small 2 1 c))
