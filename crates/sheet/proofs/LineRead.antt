-- One line and several lines of a sheet: an equation for each way through the reader's code, and where the next line starts.
use mathlib.Core.Path.{◌≡◌, refl, ap, ◌∙◌}
use mathlib.Core.Bool.{true, false}
use mathlib.Core.List.{List}
use Prim.Native.Nat.{ℕ, zero, suc, ◌+◌, ◌≤◌}
use native.Mathlib.Nat.{add-zero}
use native.Mathlib.Omega.{arith}
use native.Mathlib.Decide.{ℕ_discrete}
use borrow.Author.Tests.{eq-eqb, eqb-true, ne_eqb, eqb-false}
use lib.Dec.{eqb}
use lib.ListN.{length, drop, length-drop, length-append}
use Rattle.sheet.specs.Causes.{line_broken}
use Rattle.sheet.specs.Lines.{zero_schedule, line_at, lines_left, names, width, store}
use Rattle.sheet.specs.Tests.{fault}
use Rattle.sheet.specs.Reading.{fields_at, starts, part_read, part_refused, values_read, and_then, read_as, read_line, read_lines, read_sheet}
use Rattle.sheet.specs.declared.Schedule.{Schedule}
use Rattle.sheet.specs.declared.Line.{Line}
use Rattle.sheet.specs.declared.Line.TheVariants.{CountNames, CountLine, EndNames, EndLine, StepNames, StepLine}
use Rattle.sheet.specs.Answers.{Fields, Part}
use Rattle.sheet.proofs.Choice.{pick_elim}
use Rattle.sheet.proofs.Prefix.{starts_sound}
use Rattle.sheet.proofs.FieldLine.{fields_at_within}

-- a line of numbers
module _ (n : ℕ) (l : Line) (c : Schedule) (f : Fields) where
  pub values_read_lem : f.ok ≡ true → fault l f.values ≡ 0 → values_read n l c f ≡ part_read f.next (store c l f.values)
  values_read_lem o e = simp (o, eq-eqb (fault l f.values) 0 e)

-- a line of either sort
module _ (l : Line) (n : ℕ) (c : Schedule) (s : List ℕ) (at : ℕ) where
  pub names_read : width l ≡ 0 → starts (drop at s) (names l) ≡ true → read_as l n c s at ≡ part_read (at + length (names l)) c
  unfolding read_as
  names_read w e = simp (eq-eqb (width l) 0 w, e)

  pub names_broken : width l ≡ 0 → starts (drop at s) (names l) ≡ false → read_as l n c s at ≡ part_refused (line_broken n)
  unfolding read_as
  names_broken w e = simp (eq-eqb (width l) 0 w, e)

  pub values_are : (width l ≡ 0 → ⊥) → read_as l n c s at ≡ values_read n l c (fields_at s at (width l))
  unfolding read_as
  values_are w = simp (ne_eqb (width l) 0 w)

-- names that stand at a position end within the bytes
pub starts_within : (s : List ℕ) (at : ℕ) (t : List ℕ) → at ≤ length s → starts (drop at s) t ≡ true → at + length t ≤ length s
starts_within s at t h e =
    omega (arith, ap length (starts_sound (drop at s) t e), length-append t (drop (length t) (drop at s)), length-drop at s)

-- what holds of a part that was not refused
pub record PartRead (s : List ℕ) (p : Part) : Type 0 where
  pub whole : p ≡ part_read p.next p.schedule
  pub upto : p.next ≤ length s

pub line_read : (l : Line) (n : ℕ) (c : Schedule) (s : List ℕ) (at : ℕ) → at ≤ length s → (read_as l n c s at).refusal.number ≡ 0 → PartRead s (read_as l n c s at)
unfolding read_as
line_read l n c s at h =
    let f : Fields = fields_at s at (width l) in
    let P : Part → Type 0 = λ p. p.refusal.number ≡ 0 → PartRead s p in
    pick_elim P (eqb (width l) 0) _ _
    (λ w. pick_elim P (starts (drop at s) (names l)) _ _
    (λ e z. record { whole = refl; upto = starts_within s at (names l) h e })
    (λ e z. absurd (omega (arith, z))))
    (λ w. pick_elim P f.ok _ _
    (λ o. pick_elim P (eqb (fault l f.values) 0) _ _
    (λ e z. record { whole = refl; upto = fields_at_within s at (width l) h })
    (λ e z. absurd (eqb-false (fault l f.values) 0 e z)))
    (λ o z. absurd (omega (arith, z))))

-- one line of a run
module _ (k n : ℕ) (c : Schedule) (s : List ℕ) (at : ℕ) where
  pub run_more : (read_line n c s at).refusal.number ≡ 0 → read_lines (suc k) n c s at ≡ read_lines k (suc n) (read_line n c s at).schedule s (read_line n c s at).next
  unfolding read_lines
  run_more e = simp (eq-eqb (read_line n c s at).refusal.number 0 e)

  pub run_stop : ((read_line n c s at).refusal.number ≡ 0 → ⊥) → read_lines (suc k) n c s at ≡ read_line n c s at
  unfolding read_lines
  run_stop e = simp (ne_eqb (read_line n c s at).refusal.number 0 e)

pub run_none : (n : ℕ) (c : Schedule) (s : List ℕ) (at : ℕ) → read_lines 0 n c s at ≡ part_read at c
unfolding read_lines
run_none n c s at = refl

-- a run is its first lines and then the others
pub lines_split : (j k n : ℕ) (c : Schedule) (s : List ℕ) (at : ℕ) → read_lines (j + k) n c s at ≡ and_then (read_lines j n c s at) (λ d a. read_lines k (n + j) d s a)
lines_split zero k n c s at = let m : 0 + k ≡ k = omega arith in rw (m, run_none n c s at, add-zero n)
lines_split (suc j) k n c s at =
    let q : Part = read_line n c s at in
    let m : suc j + k ≡ suc (j + k) = omega arith in
    let i : suc n + j ≡ n + suc j = omega arith in
    elim (ℕ_discrete q.refusal.number 0) [
      | yes z ↦ rw m (run_more (j + k) n c s at z ∙ lines_split j k (suc n) q.schedule s q.next ∙ rw (run_more j n c s at z, i))
      | no z ↦ rw m (run_stop (j + k) n c s at z ∙ rw (run_stop j n c s at z) (simp (ne_eqb q.refusal.number 0 z)))
    ]

-- lines that were read end within the bytes
pub lines_read : (k n : ℕ) (c : Schedule) (s : List ℕ) (at : ℕ) → at ≤ length s → (read_lines k n c s at).refusal.number ≡ 0 → PartRead s (read_lines k n c s at)
unfolding read_lines
lines_read zero n c s at h = λ z. record { whole = refl; upto = h }
lines_read (suc k) n c s at h =
    let q : Part = read_line n c s at in
    pick_elim (λ (p : Part). p.refusal.number ≡ 0 → PartRead s p) (eqb q.refusal.number 0) _ _
    (λ e. lines_read k (suc n) q.schedule s q.next (line_read (line_at c n) n c s at h (eqb-true q.refusal.number 0 e)).upto)
    (λ e z. absurd (eqb-false q.refusal.number 0 e z))

-- a line holds four numbers at the most
pub width_small : (l : Line) → width l ≤ 4
width_small CountNames = omega arith
width_small CountLine = omega arith
width_small EndNames = omega arith
width_small (EndLine i) = omega arith
width_small StepNames = omega arith
width_small (StepLine i r) = omega arith

-- the whole sheet, by the part that its first two lines make and the part that the others make
module _ (s : List ℕ) where
  abbrev pub first_part : Part
  first_part = read_lines 2 1 zero_schedule s 0

  abbrev pub second_part : Part
  second_part = read_lines (lines_left first_part.schedule) 3 first_part.schedule s first_part.next

  pub sheet_first : (first_part.refusal.number ≡ 0 → ⊥) → read_sheet s ≡ first_part
  unfolding read_sheet
  sheet_first e = simp (ne_eqb first_part.refusal.number 0 e)

  pub sheet_second : first_part.refusal.number ≡ 0 → (second_part.refusal.number ≡ 0 → ⊥) → read_sheet s ≡ second_part
  unfolding read_sheet
  sheet_second e f = simp (eq-eqb first_part.refusal.number 0 e, ne_eqb second_part.refusal.number 0 f)

  pub sheet_ends : first_part.refusal.number ≡ 0 → second_part.refusal.number ≡ 0 → second_part.next ≡ length s → read_sheet s ≡ part_read second_part.next second_part.schedule
  unfolding read_sheet
  sheet_ends e f g = simp (eq-eqb first_part.refusal.number 0 e, eq-eqb second_part.refusal.number 0 f, eq-eqb second_part.next (length s) g)

  pub sheet_goes_on : first_part.refusal.number ≡ 0 → second_part.refusal.number ≡ 0 → (second_part.next ≡ length s → ⊥)
      → read_sheet s ≡ part_refused (line_broken (lines_left first_part.schedule + 3))
  unfolding read_sheet
  sheet_goes_on e f g = simp (eq-eqb first_part.refusal.number 0 e, eq-eqb second_part.refusal.number 0 f, ne_eqb second_part.next (length s) g)
