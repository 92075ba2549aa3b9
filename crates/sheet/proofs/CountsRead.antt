-- The first two lines of a sheet, names and counts, there and back.
use mathlib.Core.Path.{◌≡◌, refl, sym, ap, ◌∙◌}
use mathlib.Core.List.{List, [], ◌++◌, append_assoc, append-nil}
use Prim.Native.Nat.{ℕ, ◌+◌, ◌≤◌}
use native.Mathlib.Omega.{arith}
use borrow.Author.Tests.{eqb-true, eqb-false}
use lib.Dec.{eqb}
use lib.ListN.{length, drop, length-append}
use lib.IntN.{ℤ}
use Rattle.sheet.specs.Lines.{zero_schedule, lines_left, line_of, line_text, names, numbers, store}
use Rattle.sheet.specs.Tests.{fault}
use Rattle.sheet.specs.Reading.{padded, part_read, read_as, read_lines}
use Rattle.sheet.specs.Text.{texts}
use Rattle.sheet.specs.Writing.{text_at, lines_text}
use Rattle.sheet.specs.declared.Schedule.{Schedule}
use Rattle.sheet.specs.declared.Line.TheVariants.{CountNames, CountLine}
use Rattle.sheet.specs.Answers.{Part}
use Rattle.sheet.proofs.Choice.{pick_elim}
use Rattle.sheet.proofs.FieldLine.{behind, none}
use Rattle.sheet.proofs.LineKinds.{SameCounts, Shape, shape_store, numbers_stored, names_store, names_fault, numbers_width}
use Rattle.sheet.proofs.TestedLines.{fault_padded}
use Rattle.sheet.proofs.SheetRead.{LineIs, line_sound, line_complete}
use Rattle.sheet.proofs.Passing.{CountsPassed}
use Rattle.sheet.proofs.Passed.{counts_line, ten_digits_counts}

-- the counts put into a schedule of zeros
abbrev pub counted : List ℤ → Schedule
counted xs = store zero_schedule CountLine (padded xs)

pub shape_zero : Shape zero_schedule
unfolding zero_schedule
shape_zero = record { ends_room = refl; step_room = refl }

pub record FirstAre (s : List ℕ) (at : ℕ) (p : Part) : Type 0 where
  pub xs : List ℤ
  pub count : length xs ≡ 3
  pub stored : p.schedule ≡ counted xs
  pub is : drop at s ≡ lines_text 2 1 p.schedule ++ drop p.next s
  pub upto : p.next ≤ length s
  pub passes : fault CountLine (numbers p.schedule CountLine) ≡ 0
  pub counts : CountsPassed p.schedule.inputs p.schedule.squares p.schedule.steps
  pub shape : Shape p.schedule

names_text : (xs : List ℤ) → line_text CountNames xs ≡ names CountNames
unfolding line_text
names_text xs = refl

-- the text of the first two lines
pub first_text : (c : Schedule) → lines_text 2 1 c ≡ names CountNames ++ line_text CountLine (numbers c CountLine)
unfolding texts text_at line_of line_text
first_text c = ap (λ (t : List ℕ). names CountNames ++ t) (append-nil _)

second_sound : (s : List ℕ) (at : ℕ) (d : Schedule) (next : ℕ) (p : Part) → d ≡ zero_schedule → drop at s ≡ names CountNames ++ drop next s
    → LineIs CountLine d s next p → FirstAre s at p
second_sound s at d next p e first r =
    let stored : p.schedule ≡ counted r.xs = r.stored ∙ rw e in
    let num : numbers p.schedule CountLine ≡ r.xs = rw stored (numbers_stored zero_schedule CountLine r.xs shape_zero tt r.count) in
    let passes : fault CountLine (numbers p.schedule CountLine) ≡ 0 = sym (fault_padded CountLine p.schedule) ∙ rw num r.passes in
    record {
      xs = r.xs;
      count = r.count;
      stored = stored;
      is = first ∙ rw (first_text p.schedule, num, append_assoc (names CountNames) (line_text CountLine r.xs) (drop p.next s)) (ap (λ (t : List ℕ). names CountNames ++ t) r.is);
      upto = r.upto;
      passes = passes;
      counts = counts_line p.schedule passes;
      shape = rw stored (shape_store zero_schedule CountLine (padded r.xs) shape_zero);
    }

pub first_sound : (s : List ℕ) (at : ℕ) → at ≤ length s → (read_lines 2 1 zero_schedule s at).refusal.number ≡ 0 → FirstAre s at (read_lines 2 1 zero_schedule s at)
unfolding read_lines line_of
first_sound s at h =
    let q : Part = read_as CountNames 1 zero_schedule s at in
    pick_elim (λ (p : Part). p.refusal.number ≡ 0 → FirstAre s at p) (eqb q.refusal.number 0) _ _
    (λ e.
    let r = line_sound CountNames 1 zero_schedule s at h (eqb-true q.refusal.number 0 e) in
    let d : Schedule = q.schedule in
    let u : Part = read_as CountLine 2 d s q.next in
    pick_elim (λ (p : Part). p.refusal.number ≡ 0 → FirstAre s at p) (eqb u.refusal.number 0) _ _
    (λ f z.
    let v = line_sound CountLine 2 d s q.next r.upto (eqb-true u.refusal.number 0 f) in
    second_sound s at d q.next (part_read u.next u.schedule) (r.stored ∙ names_store zero_schedule CountNames (padded r.xs) refl) (r.is ∙ rw (names_text r.xs)) (record { xs = v.xs; count = v.count; stored = v.stored; passes = v.passes; is = v.is; upto = v.upto }))
    (λ f z. absurd (eqb-false u.refusal.number 0 f z)))
    (λ e z. absurd (eqb-false q.refusal.number 0 e z))

pub first_complete : (w : Schedule) (s : List ℕ) (at : ℕ) (rest : List ℕ) → CountsPassed w.inputs w.squares w.steps → fault CountLine (numbers w CountLine) ≡ 0
    → drop at s ≡ lines_text 2 1 w ++ rest → read_lines 2 1 zero_schedule s at ≡ part_read (at + length (lines_text 2 1 w)) (counted (numbers w CountLine))
unfolding read_lines line_of
first_complete w s at rest p f e =
    let t : List ℕ = line_text CountLine (numbers w CountLine) in
    let e1 : drop at s ≡ names CountNames ++ (t ++ rest) = e ∙ rw (first_text w, append_assoc (names CountNames) t rest) in
    let e2 : drop (at + length (names CountNames)) s ≡ t ++ rest = behind s at (names CountNames) (t ++ rest) e1 in
    let a : read_as CountNames 1 zero_schedule s at ≡ part_read (at + length (names CountNames)) zero_schedule =
    line_complete CountNames 1 zero_schedule s at [] (t ++ rest) refl none (names_fault CountNames (padded []) refl) (e1 ∙ rw (names_text [])) ∙ rw (names_text [], names_store zero_schedule CountNames (padded []) refl) in
    let b : read_as CountLine 2 zero_schedule s (at + length (names CountNames)) ≡ part_read (at + length (names CountNames) + length t) (counted (numbers w CountLine)) =
    line_complete CountLine 2 zero_schedule s (at + length (names CountNames)) (numbers w CountLine) rest (numbers_width w CountLine) (ten_digits_counts w p) (fault_padded CountLine w ∙ f) e2 in
    let n : at + length (names CountNames) + length t ≡ at + length (lines_text 2 1 w) = rw (first_text w, length-append (names CountNames) t) (omega arith) in
    rw (a, b, n)

-- the counts decide the first two lines and how many follow
pub same_first : {c d : Schedule} → SameCounts d c → (lines_text 2 1 d ≡ lines_text 2 1 c) × (lines_left d ≡ lines_left c) × (numbers d CountLine ≡ numbers c CountLine)
unfolding numbers
same_first {c} {d} h =
    let n : numbers d CountLine ≡ numbers c CountLine = rw (h.inputs_same, h.squares_same, h.steps_same) in
    (first_text d ∙ rw n (sym (first_text c)), rw (h.inputs_same, h.steps_same), n)
