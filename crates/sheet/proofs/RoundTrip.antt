-- Reading accepts exactly the sheets of passing schedules, and reading and writing undo one another, in the words of `specs/RoundTrip.antt`.
use mathlib.Core.Path.{◌≡◌, sym, ap, ◌∙◌}
use mathlib.Core.List.{List, [], ◌++◌, append-nil}
use Prim.Native.Nat.{ℕ, ◌+◌, ◌≤◌}
use native.Mathlib.Omega.{arith}
use borrow.Author.Tests.{eq-eqb, eqb-true, eqb-false, ltb-false, le-ltb}
use lib.Dec.{eqb, ltb}
use lib.ListN.{length, drop, take, length-append, drop_of_length-le}
use Rattle.sheet.specs.Limits.{max_bytes}
use Rattle.sheet.specs.Causes.{accepted}
use Rattle.sheet.specs.Lines.{natural, line_of, line_at, lines_left, numbers}
use Rattle.sheet.specs.Tests.{fault}
use Rattle.sheet.specs.Reading.{part_read, read_lines, read_sheet, read_of, answer}
use Rattle.sheet.specs.Writing.{fault_at, test_lines, test_of, lines_text, sheet_text, write_of, Written}
use Rattle.sheet.specs.Same.{trimmed}
use Rattle.sheet.specs.RoundTrip.{SheetOf, WritesBack, ReadsAgain}
use Rattle.sheet.specs.declared.Schedule.{Schedule}
use Rattle.sheet.specs.Answers.{Refusal, ReadAnswer, WriteAnswer, Part}
use Rattle.sheet.specs.declared.Line.TheVariants.{CountLine}
use Rattle.sheet.proofs.Choice.{pick_elim}
use Rattle.sheet.proofs.FieldLine.{behind}
use Rattle.sheet.proofs.LineKinds.{kind}
use Rattle.sheet.proofs.LineRead.{first_part, second_part, sheet_ends}
use Rattle.sheet.proofs.SheetRead.{LinesAre, lines_sound, lines_complete, copied}
use Rattle.sheet.proofs.CountsRead.{first_sound, first_complete, same_first, counted}
use Rattle.sheet.proofs.Passed.{passed, both_pass, test_zero, test_accepts, test_accepted, within_counts, rooms_counted, lines_left_small, ten_digits}
use Rattle.sheet.proofs.SheetLength.{sheet_split, sheet_short}
use Rattle.sheet.proofs.SheetWrite.{write_done, take_sets}
use Rattle.sheet.proofs.Trimmed.{copied_trimmed, counted_same, same_trimmed, ends_beyond, steps_beyond_lem}

-- ---- 1. reading accepts exactly the texts of passing schedules

first_passes : (d : Schedule) → fault CountLine (numbers d CountLine) ≡ 0 → test_lines 2 1 d ≡ accepted
unfolding test_lines fault_at line_of fault
first_passes d e = simp (eq-eqb (fault CountLine (numbers d CountLine)) 0 e)

sheet_of_lem : (s : List ℕ) (c : Schedule) (next : ℕ) (p : Part) → drop 0 s ≡ lines_text 2 1 c ++ drop next s → fault CountLine (numbers c CountLine) ≡ 0
    → LinesAre (lines_left c) 3 c s next p → p.next ≡ length s → SheetOf s p.schedule
unfolding test_of
sheet_of_lem s c next p first passes r e =
    let d : Schedule = p.schedule in
    let (a, b, n) = same_first r.counts in
    let z : drop p.next s ≡ [] = drop_of_length-le s {i = p.next} (omega arith) in
    let t : test_lines 2 1 d ≡ accepted = first_passes d (rw n passes) in
    record {
      text = first ∙ rw (sheet_split d, a, b) (ap (λ (l : List ℕ). lines_text 2 1 c ++ l) (r.is ∙ rw (z, append-nil (lines_text (lines_left c) 3 d))));
      passes = rw (t, b) (test_accepts (lines_left c) 3 d r.passes);
    }

sheet_sound : (s : List ℕ) → (read_sheet s).refusal.number ≡ 0 → SheetOf s (read_sheet s).schedule
unfolding read_sheet
sheet_sound s =
    let p : Part = first_part s in
    let q : Part = second_part s in
    let P : Part → Type 0 = λ x. x.refusal.number ≡ 0 → SheetOf s x.schedule in
    pick_elim P (eqb p.refusal.number 0) _ _
    (λ a. pick_elim P (eqb q.refusal.number 0) _ _
    (λ b. pick_elim P (eqb q.next (length s)) _ _
    (λ e z.
    let f = first_sound s 0 (omega arith) (eqb-true p.refusal.number 0 a) in
    let r = lines_sound (lines_left p.schedule) 3 p.schedule s p.next (omega arith) (within_counts p.schedule f.shape f.counts) f.upto (eqb-true q.refusal.number 0 b) in
    sheet_of_lem s p.schedule p.next q f.is f.passes r (eqb-true q.next (length s) e))
    (λ e z. absurd (omega (arith, z))))
    (λ b z. absurd (eqb-false q.refusal.number 0 b z)))
    (λ a z. absurd (eqb-false p.refusal.number 0 a z))

-- what is accepted is the sheet of the schedule that was read
pub read_sound : (s : List ℕ) → (read_of s).refusal ≡ accepted → SheetOf s (read_of s).schedule
unfolding read_of
read_sound s =
    pick_elim (λ (r : ReadAnswer). r.refusal ≡ accepted → SheetOf s r.schedule) (ltb max_bytes (length s)) _ _
    (λ l e. absurd (let z : ◌≡◌ {A = ℕ} 1 0 = ap (λ (r : Refusal). r.number) e in omega arith))
    (λ l e. sheet_sound s (ap (λ (r : Refusal). r.number) e))

sheet_complete : (c : Schedule) → (test_of c).number ≡ 0 → read_sheet (sheet_text c) ≡ part_read (length (sheet_text c)) (trimmed c)
unfolding fault_at line_of
sheet_complete c z =
    let s : List ℕ = sheet_text c in
    let A : List ℕ = lines_text 2 1 c in
    let B : List ℕ = lines_text (lines_left c) 3 c in
    let p = (passed c z).counts in
    let t = both_pass c z in
    let f = test_zero (lines_left c) 3 c t.1 in
    let d : Schedule = counted (numbers c CountLine) in
    let h = counted_same c in
    let split : s ≡ A ++ B = sheet_split c in
    let small = lines_left_small c p in
    let first : first_part s ≡ part_read (0 + length A) d = first_complete c s 0 B p (test_zero 2 1 c t.0 2 (omega arith) (omega arith)) split in
    let rest : drop (0 + length A) s ≡ B ++ [] = behind s 0 A B split ∙ sym (append-nil B) in
    let lines : read_lines (lines_left c) 3 d s (0 + length A) ≡ part_read (0 + length A + length B) (copied (lines_left c) 3 c d) =
    lines_complete (lines_left c) 3 c d s (0 + length A) [] (omega arith) h (λ m a b. (f m a b, ten_digits c m (line_at c m) (kind (natural c.inputs) m a) (omega arith) (f m a b))) rest in
    let second : second_part s ≡ part_read (0 + length A + length B) (trimmed c) = rw (first, (same_first h).1) (lines ∙ rw (copied_trimmed c (rooms_counted c p))) in
    let long : 0 + length A + length B ≡ length s = omega (arith, ap length split, length-append A B) in
    sheet_ends s (ap (λ (q : Part). q.refusal.number) first) (ap (λ (q : Part). q.refusal.number) second) (ap (λ (q : Part). q.next) second ∙ long) ∙ rw (second, long)

-- the sheet of a schedule that passes is accepted, and read as that schedule with zeros beyond its counts
pub read_complete : (c : Schedule) → test_of c ≡ accepted → read_of (sheet_text c) ≡ record { refusal = accepted; schedule = trimmed c }
unfolding read_of
read_complete c e =
    let z : (test_of c).number ≡ 0 = ap (λ (r : Refusal). r.number) e in
    simp (le-ltb max_bytes (length (sheet_text c)) (sheet_short c z)) (ap answer (sheet_complete c z))

-- ---- 2. what was read is written back

pub writes_back : (s : List ℕ) (c : Schedule) → SheetOf s c → WritesBack s c
writes_back s c h lent room =
    let t = h.text in
    let w = write_done c lent (ap (λ (r : Refusal). r.number) h.passes) (omega (arith, ap length t)) in
    record { answers = rw (← t) at w.0; leaves = rw (← t) at w.1 }

-- ---- 3. what was written is read again

-- an accepted writing: the schedule passes, and its sheet has room
written : (c : Schedule) (room : ℕ) → (write_of c room).refusal ≡ accepted → ((test_of c).number ≡ 0) × (length (sheet_text c) ≤ room)
unfolding write_of
written c room =
    pick_elim P (eqb (test_of c).number 0) _ _
    (λ a. pick_elim P (ltb room (length (sheet_text c))) _ _
    (λ b e. absurd (let z : ◌≡◌ {A = ℕ} 8 0 = ap (λ (r : Refusal). r.number) e in omega arith))
    (λ b e. (eqb-true (test_of c).number 0 a, ltb-false room (length (sheet_text c)) b)))
    (λ a e. absurd (eqb-false (test_of c).number 0 a (ap (λ (r : Refusal). r.number) e)))
  where
    P : WriteAnswer → Type 0
    P w = w.refusal ≡ accepted → ((test_of c).number ≡ 0) × (length (sheet_text c) ≤ room)

-- the sheet of a schedule that passes reads as the same schedule
sheet_again : (c : Schedule) → (test_of c).number ≡ 0 → ReadsAgain c (sheet_text c)
sheet_again c z =
    let p = (passed c z).counts in
    let r = read_complete c (test_accepted c z) in
    record {
      is_read = rw r;
      same = rw r (same_trimmed c p.inputs_in.to p.steps_in.to);
      ends_zero = rw r (ends_beyond c);
      steps_zero = rw r (steps_beyond_lem c);
    }

-- and it stands in front of the bytes that an accepted writing left
pub write_then_read : (c : Schedule) (before after : List ℕ) (w : WriteAnswer) → Written c before after w → w.refusal ≡ accepted → ReadsAgain c (take w.length after)
write_then_read c before after w h e =
    let i = written c (length before) (ap (λ (a : WriteAnswer). a.refusal) (sym h.answers) ∙ e) in
    let d = write_done c before i.0 i.1 in
    let long : length (sheet_text c) ≡ w.length = ap (λ (a : WriteAnswer). a.length) (d.0 ∙ sym h.answers) in
    let bytes : take w.length after ≡ sheet_text c = rw (← long, h.leaves, ← d.1) (take_sets (sheet_text c) before i.1) in
    rw bytes (sheet_again c i.0)
