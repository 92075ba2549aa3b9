-- No sheet of a schedule that passes is longer than the longest one, so each has room in the bytes that a sheet may have: each kind of line has a greatest
-- width, summed over the lines.
use mathlib.Core.Path.{◌≡◌, refl, sym}
use mathlib.Core.List.{[], ◌∷◌, ◌++◌, append_assoc, append-nil}
use Prim.Native.Nat.{ℕ, zero, suc, ◌+◌, ◌-◌, ◌*◌, ◌^◌, ◌≤◌, ◌<◌}
use native.Mathlib.Omega.{arith}
use native.Mathlib.Decide.{dec_le}
use borrow.Author.Tests.{le-leb, lt-leb}
use lib.Dec.{leb}
use lib.ListN.{length, length-append, replicate}
use Rattle.sheet.specs.Choice.{pick}
use lib.IntN.{ℤ, pos, negsuc, neg_ℤ, nat_abs}
use Rattle.capacity.specs.Limits.{max_inputs, max_steps}
use Rattle.sheet.specs.Limits.{max_bytes, end_limit, last_binary, last_code}
use Rattle.sheet.specs.Text.{most_digits, numeral, decimal, line, texts}
use Rattle.sheet.specs.Lines.{natural, line_of, line_at, lines_left, line_text, numbers, ends_at, step_at}
use Rattle.sheet.specs.Tests.{counts_pass, ends_pass, step_passes, fault}
use Rattle.sheet.specs.Writing.{fault_at, text_at, lines_text, sheet_text, test_lines, test_of}
use Rattle.sheet.specs.LongestSheet.{longest_sheet, LongestSheet}
use Rattle.sheet.specs.declared.Schedule.{Schedule}
use Rattle.sheet.specs.declared.Line.{Line}
use Rattle.sheet.proofs.Decimal.{decimal_width, numeral_width}
use Rattle.sheet.proofs.LineKinds.{Kind, end_names, end_line, step_names, step_line, kind}
use Rattle.sheet.proofs.Passing.{Natural, CountsPassed, StepPassed}
use Rattle.sheet.proofs.Passed.{passed, both_pass, test_zero, ends_line, step_line_passed}

-- a natural number below 10 ^ d has d digits at the most
natural_width : (d a b : ℕ) (z : ℤ) → Natural a b z → b < 10 ^ suc d → length (numeral z) ≤ suc d
unfolding numeral
natural_width d a b (pos n) h g = decimal_width most_digits d n (omega (arith, h.to))
natural_width d a b (negsuc n) h g = absurd (let e = h.is in let y : ◌≡◌ {A = ℕ} 0 1 = cc in omega arith)

zero_width : (z : ℤ) → z ≡ pos 0 → length (numeral z) ≤ 1
unfolding numeral decimal
zero_width z e = rw e (omega arith)

limited_width : (z : ℤ) → nat_abs z ≤ end_limit → length (numeral z) ≤ 10
limited_width z h = numeral_width 8 z (omega arith)

-- the length of a line of each width
two_wide : (a b : ℤ) → length (line (a ∷ b ∷ [])) ≡ length (numeral a) + length (numeral b) + 2
unfolding line
two_wide a b = simp length-append (omega arith)

three_wide : (a b c : ℤ) → length (line (a ∷ b ∷ c ∷ [])) ≡ length (numeral a) + length (numeral b) + length (numeral c) + 3
unfolding line
three_wide a b c = simp length-append (omega arith)

four_wide : (a b c d : ℤ) → length (line (a ∷ b ∷ c ∷ d ∷ [])) ≡ length (numeral a) + length (numeral b) + length (numeral c) + length (numeral d) + 4
unfolding line
four_wide a b c d = simp length-append (omega arith)

-- a line of a step: its code's digit and four bytes between and behind, with two zeros and a constant of ten bytes, or with two rows of two digits and a zero
step_wide : (r : ℕ) (code first second value : ℤ) → StepPassed r code first second value → r < 100 → length (line (code ∷ first ∷ second ∷ value ∷ [])) ≤ 17
step_wide r code first second value p h =
    let long = four_wide code first second value in
    let digit = natural_width 0 1 last_code code p.code_in (omega arith) in
    elim (dec_le (natural code) 1) [
      | yes a ↦ omega (arith, long, digit, zero_width first (p.first_zero a), zero_width second (p.second_zero a), limited_width value (p.value_in a))
      | no a ↦
          let s : length (numeral second) ≤ 2 =
          elim (dec_le (natural code) last_binary) [
            | yes b ↦ natural_width 1 1 r second (p.second_row (omega arith) b) (omega arith)
            | no b ↦ omega (arith, zero_width second (p.second_zero_last (omega arith)))
          ] in
          omega (arith, long, digit, natural_width 1 1 r first (p.first_row (omega arith)) (omega arith), s, zero_width value (p.value_zero (omega arith)))
    ]

-- what the lines from `n` on, behind the names of the ends, may have beyond 17 bytes each: 5 for each line of ends, 7 for the names of the steps
extra : ℕ → ℕ → ℕ
extra inputs n = 5 * (inputs + 4 - n) + pick (leb n (inputs + 4)) 7 0

module _ (inputs n : ℕ) where
  extra_ends : n < inputs + 4 → extra inputs (suc n) + 5 ≡ extra inputs n
  unfolding extra
  extra_ends h = simp (le-leb n (inputs + 4) (omega arith), le-leb (suc n) (inputs + 4) h) (omega arith)

  extra_names : n ≡ inputs + 4 → extra inputs (suc n) + 7 ≡ extra inputs n
  unfolding extra
  extra_names e = simp (le-leb n (inputs + 4) (omega arith), lt-leb (suc n) (inputs + 4) (omega arith)) (omega arith)

  extra_steps : inputs + 4 < n → extra inputs n ≡ 0
  unfolding extra
  extra_steps h = simp (lt-leb n (inputs + 4) h) (omega arith)

extra_first : (inputs : ℕ) → extra inputs 4 ≡ 5 * inputs + 7
unfolding extra
extra_first inputs = simp (le-leb 4 (inputs + 4) (omega arith)) (omega arith)

line_wide : (c : Schedule) (n : ℕ) (l : Line) → Kind (natural c.inputs) n l → 4 ≤ n → n < 105 → fault l (numbers c l) ≡ 0
    → length (line_text l (numbers c l)) + extra (natural c.inputs) (suc n) ≤ 17 + extra (natural c.inputs) n
unfolding line_text numbers
line_wide c n l (end_names e) m h g = absurd (omega arith)
line_wide c n l (end_line a b) m h g =
    let p = ends_line c (n - 4) g in
    let t = ends_at c (n - 4) in
    omega (arith, two_wide t.low t.high, limited_width t.low p.low_in, limited_width t.high p.high_in, extra_ends (natural c.inputs) n (omega arith))
line_wide c n l (step_names e) m h g = omega (arith, extra_names (natural c.inputs) n e)
line_wide c n l (step_line a) m h g =
    let i : ℕ = n - 5 - natural c.inputs in
    let t = step_at c i in
    omega (arith, step_wide (n - 5) t.code t.first t.second t.value (step_line_passed c i (n - 5) g) (omega arith), extra_steps (natural c.inputs) n (omega arith), extra_steps (natural c.inputs) (suc n) (omega arith))

lines_wide : (k n : ℕ) (c : Schedule) → 4 ≤ n → n + k ≤ 105 → ((m : ℕ) → n ≤ m → m < n + k → fault_at c m ≡ 0)
    → length (lines_text k n c) ≤ 17 * k + extra (natural c.inputs) n
unfolding texts text_at fault_at
lines_wide zero n c g h f = omega arith
lines_wide (suc k) n c g h f =
    rw (length-append (line_text (line_at c n) (numbers c (line_at c n))) (lines_text k (suc n) c))
    (omega (
      arith,
      line_wide c n (line_at c n) (kind (natural c.inputs) n (omega arith)) g (omega arith) (f n (omega arith) (omega arith)),
      lines_wide k (suc n) c (omega arith) (omega arith) (λ m a b. f m (omega arith) (omega arith)),
    ))

-- the first two lines
first_wide : (c : Schedule) → CountsPassed c.inputs c.squares c.steps → length (lines_text 2 1 c) ≤ 28
unfolding texts text_at line_of line_text numbers
first_wide c p =
    simp length-append
    (omega (
      arith,
      three_wide c.inputs c.squares c.steps,
      natural_width 0 1 max_inputs c.inputs p.inputs_in (omega arith),
      natural_width 0 0 (natural c.inputs) c.squares p.squares_in (omega (arith, p.inputs_in.to)),
      natural_width 1 1 max_steps c.steps p.steps_in (omega arith),
    ))

-- a sheet's text begins with its first two lines
pub sheet_split : (c : Schedule) → sheet_text c ≡ lines_text 2 1 c ++ lines_text (lines_left c) 3 c
unfolding sheet_text texts
sheet_split c =
    let n : lines_left c + 2 ≡ suc (suc (lines_left c)) = omega arith in
    rw (n, append-nil (text_at c 2)) (sym (append_assoc (text_at c 1) (text_at c 2) (lines_text (lines_left c) 3 c)))

-- the third line, and those behind it
third_split : (k : ℕ) (c : Schedule) → length (lines_text (suc k) 3 c) ≡ 9 + length (lines_text k 4 c)
unfolding texts text_at line_of line_text
third_split k c = omega arith

sheet_within : (c : Schedule) → (test_of c).number ≡ 0 → length (sheet_text c) ≤ longest_sheet
sheet_within c z =
    let t = both_pass c z in
    let p = (passed c z).counts in
    let i = p.inputs_in.to in
    let s = p.steps_in.to in
    let k : ℕ = natural c.inputs + natural c.steps + 1 in
    let n : lines_left c ≡ suc k = omega arith in
    let rest = lines_wide k 4 c (omega arith) (omega arith) (λ m a b. test_zero (lines_left c) 3 c t.1 m (omega arith) (omega arith)) in
    rw (sheet_split c, length-append (lines_text 2 1 c) (lines_text (lines_left c) 3 c), n, third_split k c)
    (omega (arith, first_wide c p, rest, extra_first (natural c.inputs)))

pub sheet_short : (c : Schedule) → (test_of c).number ≡ 0 → length (sheet_text c) ≤ max_bytes
sheet_short c z = omega (arith, sheet_within c z)

-- as many inputs and steps as there may be, with the longest ends and constants
longest : Schedule
longest =
    let least : ℤ = neg_ℤ (pos end_limit) in
    record {
      inputs = pos max_inputs;
      squares = pos 0;
      steps = pos max_steps;
      ends = replicate max_inputs (record { low = least; high = least });
      step = replicate max_steps (record { code = pos 1; first = pos 0; second = pos 0; value = least });
    }

pub longest_sheet_is : LongestSheet
unfolding longest sheet_text texts text_at line_of line_text numbers line numeral decimal test_of test_lines fault_at fault counts_pass ends_pass step_passes
longest_sheet_is =
    record {
      none_longer = sheet_within;
      longest = longest;
      longest_passes = refl;
      as_long = refl;
      has_room = omega arith;
    }
