-- Why a refusal by 2 to 5 is the first fault of the sheet, and there is no other: the reader stops at the first line that it refuses, the lines before it are in order, and
-- lines in order are read.
use mathlib.Core.Path.{◌≡◌, refl, sym, ap, ap₂, ◌∙◌, subst}
use mathlib.Core.Bool.{Bool, true, false}
use mathlib.Core.List.{List, [], ◌++◌, append_assoc}
use Prim.Native.Nat.{ℕ, zero, suc, ◌+◌, ◌-◌, ◌≤◌, ◌<◌}
use native.Mathlib.Nat.{add-zero}
use native.Mathlib.Omega.{arith}
use native.Mathlib.Decide.{ℕ_discrete}
use borrow.Author.Tests.{eqb-true, ne_eqb, lt-ltb, le-ltb, ltb-true}
use lib.Dec.{eqb, ltb}
use lib.ListN.{length, drop, length-append, length-drop}
use Rattle.sheet.specs.Limits.{max_bytes}
use Rattle.sheet.specs.Causes.{refusal, sheet_too_long}
use Rattle.sheet.specs.Lines.{natural, zero_schedule, line_of, line_at, lines_left, line_text, names, width, numbers, store}
use Rattle.sheet.specs.Tests.{fault}
use Rattle.sheet.specs.Reading.{padded, fields_at, starts, values_read, part_read, read_as, read_line, read_lines, read_sheet, read_of}
use Rattle.sheet.specs.Text.{texts}
use Rattle.sheet.specs.Writing.{fault_at, text_at, lines_text}
use Rattle.sheet.specs.declared.Schedule.{Schedule}
use Rattle.sheet.specs.declared.Line.{Line}
use Rattle.sheet.specs.declared.Line.TheVariants.{CountNames, CountLine}
use Rattle.sheet.specs.FirstFault.{InOrder, start_of, LineFault, layout, meaning, FaultAt, in_line, line_more, FirstFault}
use Rattle.sheet.specs.Answers.{Refusal, ReadAnswer, Fields, Part}
use Rattle.sheet.proofs.Choice.{pick_elim}
use Rattle.sheet.proofs.Prefix.{starts_sound, starts_complete}
use Rattle.sheet.proofs.FieldLine.{fields_sound, fields_complete, none, behind}
use Rattle.sheet.proofs.LineKinds.{kind, names_fault, names_store, store_counts}
use Rattle.sheet.proofs.LineRead.{run_more, run_stop, run_none, lines_split, first_part, second_part, sheet_first, sheet_second, sheet_ends, sheet_goes_on}
use Rattle.sheet.proofs.SheetRead.{line_sound, line_complete, lines_complete, copied, lines_sound, Within}
use Rattle.sheet.proofs.CountsRead.{first_sound, first_complete, same_first, counted}
use Rattle.sheet.proofs.Passing.{CountsPassed}
use Rattle.sheet.proofs.Passed.{counts_line, lines_left_small, ten_digits, rooms_counted}
use Rattle.sheet.proofs.Trimmed.{counted_same}

-- a refused line tells its own number, and why
pub record LineRefused (l : Line) (n : ℕ) (s : List ℕ) (at : ℕ) (p : Part) : Type 0 where
  pub place : p.refusal.place ≡ n
  pub why : LineFault l s at p.refusal.number

clash : {X : Type 0} → ◌≡◌ {A = Bool} true false → X
clash e = absurd (let y : ◌≡◌ {A = ℕ} 0 1 = cc in omega arith)

line_refused : (l : Line) (n : ℕ) (c : Schedule) (s : List ℕ) (at : ℕ) → at ≤ length s → ((read_as l n c s at).refusal.number ≡ 0 → ⊥) → LineRefused l n s at (read_as l n c s at)
unfolding read_as line_text
line_refused l n c s at h =
    let f : Fields = fields_at s at (width l) in
    let P : Part → Type 0 = λ p. (p.refusal.number ≡ 0 → ⊥) → LineRefused l n s at p in
    pick_elim P (eqb (width l) 0) _ _
    (λ w. pick_elim P (starts (drop at s) (names l)) _ _
    (λ e z. absurd (z refl))
    (λ e z. record { place = refl; why = layout refl (λ t. clash (sym (rw t.stands (rw w (starts_complete (names l) t.rest))) ∙ e)) }))
    (λ w. pick_elim P f.ok _ _
    (λ o. pick_elim P (eqb (fault l f.values) 0) _ _
    (λ e z. absurd (z refl))
    (λ e z.
    let r = fields_sound s at (width l) h o in
    record { place = refl; why = meaning (record { numbers = r.xs; count = r.count; short = r.short; rest = drop f.next s; stands = rw w r.is }) (rw r.into) z }))
    (λ o z. record {
      place = refl;
      why = layout refl (λ t.
          let e = rw t.count at (fields_complete t.numbers s at t.rest t.short (rw w at t.stands)) in clash (sym (ap (λ (x : Fields). x.ok) e) ∙ o));
    }))

-- a refused run: the lines before the refused one are accepted
pub record RunRefused (k n : ℕ) (c : Schedule) (s : List ℕ) (at : ℕ) : Type 0 where
  pub j : ℕ
  pub among : j < k
  pub before : (read_lines j n c s at).refusal.number ≡ 0
  pub here : read_line (n + j) (read_lines j n c s at).schedule s (read_lines j n c s at).next ≡ read_lines k n c s at

lines_refused : (k n : ℕ) (c : Schedule) (s : List ℕ) (at : ℕ) → ((read_lines k n c s at).refusal.number ≡ 0 → ⊥) → RunRefused k n c s at
lines_refused zero n c s at z = absurd (z (rw (run_none n c s at)))
lines_refused (suc k) n c s at z = go (ℕ_discrete (read_line n c s at).refusal.number 0) (λ d a y. lines_refused k (suc n) d s a y)
  where
    go : Dec ((read_line n c s at).refusal.number ≡ 0) → ((d : Schedule) (a : ℕ) → ((read_lines k (suc n) d s a).refusal.number ≡ 0 → ⊥) → RunRefused k (suc n) d s a) → RunRefused (suc k) n c s at
    go (yes e) ih =
        let d : Schedule = (read_line n c s at).schedule in
        let a : ℕ = (read_line n c s at).next in
        let r = ih d a (λ y. z (rw (run_more k n c s at e) y)) in
        let m : n + suc r.j ≡ suc n + r.j = omega arith in
        record {
          j = suc r.j;
          among = omega (arith, r.among);
          before = rw (run_more r.j n c s at e) r.before;
          here = rw (run_more r.j n c s at e, run_more k n c s at e, m) r.here;
        }
    go (no e) ih = record {
      j = 0;
      among = omega arith;
      before = rw (run_none n c s at);
      here = rw (run_none n c s at, add-zero n) (sym (run_stop k n c s at e));
    }

-- behind an accepted run the reading goes on from there
lines_append : (j k n : ℕ) (c : Schedule) (s : List ℕ) (at a : ℕ) (d : Schedule) → read_lines j n c s at ≡ part_read a d → read_lines (j + k) n c s at ≡ read_lines k (n + j) d s a
lines_append j k n c s at a d e = lines_split j k n c s at ∙ rw e

-- a refused run tells one of its lines
line_place : (l : Line) (n : ℕ) (c : Schedule) (s : List ℕ) (at : ℕ) → ((read_as l n c s at).refusal.number ≡ 0 → ⊥) → (read_as l n c s at).refusal.place ≡ n
unfolding read_as
line_place l n c s at =
    let f : Fields = fields_at s at (width l) in
    let P : Part → Type 0 = λ p. (p.refusal.number ≡ 0 → ⊥) → p.refusal.place ≡ n in
    pick_elim P (eqb (width l) 0) _ _
    (λ w. pick_elim P (starts (drop at s) (names l)) _ _ (λ e z. absurd (z refl)) (λ e z. refl))
    (λ w. pick_elim P f.ok _ _
    (λ o. pick_elim P (eqb (fault l f.values) 0) _ _ (λ e z. absurd (z refl)) (λ e z. refl))
    (λ o z. refl))

lines_place : (k n : ℕ) (c : Schedule) (s : List ℕ) (at : ℕ) → ((read_lines k n c s at).refusal.number ≡ 0 → ⊥) → (n ≤ (read_lines k n c s at).refusal.place) × ((read_lines k n c s at).refusal.place < n + k)
lines_place k n c s at z =
    let r = lines_refused k n c s at z in
    let d : Schedule = (read_lines r.j n c s at).schedule in
    let a : ℕ = (read_lines r.j n c s at).next in
    let e : (read_lines k n c s at).refusal.place ≡ n + r.j =
    ap (λ (p : Part). p.refusal.place) (sym r.here) ∙ line_place (line_at d (n + r.j)) (n + r.j) d s a (λ y. z (ap (λ (p : Part). p.refusal.number) (sym r.here) ∙ y)) in
    (omega arith, omega (arith, r.among))

-- ---- lines in order are read

-- the lines of a text, split
text_split : (j k n : ℕ) (c : Schedule) → lines_text (j + k) n c ≡ lines_text j n c ++ lines_text k (n + j) c
unfolding texts
text_split zero k n c = let m : 0 + k ≡ k = omega arith in rw (m, add-zero n)
text_split (suc j) k n c =
    let m : suc j + k ≡ suc (j + k) = omega arith in
    let i : suc n + j ≡ n + suc j = omega arith in
    rw m (ap (λ (l : List ℕ). text_at c n ++ l) (text_split j k (suc n) c) ∙ rw (i, append_assoc))

-- one line in order: the names stand there
first_name : (s : List ℕ) → InOrder 1 s → (read_line 1 zero_schedule s 0).refusal.number ≡ 0
unfolding texts text_at line_of line_text
first_name s o =
    ap (λ (p : Part). p.refusal.number)
    (line_complete CountNames 1 zero_schedule s 0 [] o.rest refl none (names_fault CountNames (padded []) refl) o.begins)

-- two lines in order: the counts are read
module _ (s : List ℕ) (j : ℕ) (o : InOrder (j + 2) s) where
  abbrev W : Schedule
  W = o.schedule

  abbrev A : List ℕ
  A = lines_text 2 1 W

  order_split : s ≡ A ++ (lines_text j 3 W ++ o.rest)
  order_split =
      let m : j + 2 ≡ 2 + j = omega arith in
      o.begins ∙ rw (m, text_split 2 j 1 W, append_assoc A (lines_text j 3 W) o.rest)

  order_fault : fault CountLine (numbers W CountLine) ≡ 0
  unfolding fault_at line_of
  order_fault = o.passes 2 (omega arith) (omega arith)

  order_counts : CountsPassed W.inputs W.squares W.steps
  order_counts = counts_line W order_fault

  order_first : first_part s ≡ part_read (0 + length A) (counted (numbers W CountLine))
  order_first = first_complete W s 0 (lines_text j 3 W ++ o.rest) order_counts order_fault order_split

  order_left : lines_left (first_part s).schedule ≡ lines_left W
  order_left = let h = counted_same W in rw order_first (rw (h.inputs_same, h.steps_same))

  order_lines : read_lines j 3 (counted (numbers W CountLine)) s (0 + length A) ≡ part_read (0 + length A + length (lines_text j 3 W)) (copied j 3 W (counted (numbers W CountLine)))
  unfolding fault_at
  order_lines =
      let small = lines_left_small W order_counts in
      lines_complete j 3 W (counted (numbers W CountLine)) s (0 + length A) o.rest (omega arith) (counted_same W)
      (λ m a b. (o.passes m (omega arith) (omega arith), ten_digits W m (line_at W m) (kind (natural W.inputs) m a) (omega (arith, o.there)) (o.passes m (omega arith) (omega arith))))
      (behind s 0 A (lines_text j 3 W ++ o.rest) order_split)

  -- so a refusal among the lines that follow tells a later line
  abbrev D : Schedule
  D = copied j 3 W (counted (numbers W CountLine))

  abbrev B : ℕ
  B = 0 + length A + length (lines_text j 3 W)

  order_rest : (left : ℕ) → lines_left W ≡ j + left → second_part s ≡ read_lines left (3 + j) D s B
  order_rest left n = rw (order_left, order_first, n) (lines_append j left 3 (counted (numbers W CountLine)) s (0 + length A) B D order_lines)

  order_second : ((second_part s).refusal.number ≡ 0 → ⊥) → j + 3 ≤ (second_part s).refusal.place
  order_second z =
      let left : ℕ = lines_left W - j in
      let e : second_part s ≡ read_lines left (3 + j) D s B = order_rest left (omega (arith, o.there)) in
      rw e (omega (arith, (lines_place left (3 + j) D s B (λ y. z (rw e y))).0))

-- a refusal tells a later line than the lines in order
module _ (s : List ℕ) where
  abbrev R : Part
  R = read_sheet s

  later_first : (p : ℕ) → InOrder p s → ((first_part s).refusal.number ≡ 0 → ⊥) → p < (first_part s).refusal.place
  later_first zero o z = omega (arith, (lines_place 2 1 zero_schedule s 0 z).0)
  later_first (suc zero) o z =
      let e = run_more 1 1 zero_schedule s 0 (first_name s o) in
      rw e (omega (arith, (lines_place 1 2 (read_line 1 zero_schedule s 0).schedule s (read_line 1 zero_schedule s 0).next (λ y. z (rw e y))).0))
  later_first (suc (suc j)) o z =
      let m : suc (suc j) ≡ j + 2 = omega arith in
      absurd (z (ap (λ (q : Part). q.refusal.number) (order_first s j (rw m at o))))

  later_second : (p : ℕ) → InOrder p s → ((second_part s).refusal.number ≡ 0 → ⊥) → p < (second_part s).refusal.place
  later_second zero o z = omega (arith, (lines_place (lines_left (first_part s).schedule) 3 (first_part s).schedule s (first_part s).next z).0)
  later_second (suc zero) o z = omega (arith, (lines_place (lines_left (first_part s).schedule) 3 (first_part s).schedule s (first_part s).next z).0)
  later_second (suc (suc j)) o z = let m : suc (suc j) ≡ j + 2 = omega arith in omega (arith, order_second s j (rw m at o) z)

  later_end : (p : ℕ) → InOrder p s → p < lines_left (first_part s).schedule + 3
  later_end zero o = omega arith
  later_end (suc zero) o = omega arith
  later_end (suc (suc j)) o = let m : suc (suc j) ≡ j + 2 = omega arith in omega (arith, order_left s j (rw m at o), o.there)

  pub order_before : (p : ℕ) → InOrder p s → (R.refusal.number ≡ 0 → ⊥) → p < R.refusal.place
  order_before p o z = go (ℕ_discrete (first_part s).refusal.number 0) (ℕ_discrete (second_part s).refusal.number 0) (ℕ_discrete (second_part s).next (length s))
    where
      go : Dec ((first_part s).refusal.number ≡ 0) → Dec ((second_part s).refusal.number ≡ 0) → Dec ((second_part s).next ≡ length s) → p < R.refusal.place
      go (no a) b c = rw (sheet_first s a) (later_first p o a)
      go (yes a) (no b) c = rw (sheet_second s a b) (later_second p o b)
      go (yes a) (yes b) (yes c) = absurd (z (ap (λ (q : Part). q.refusal.number) (sheet_ends s a b c)))
      go (yes a) (yes b) (no c) = rw (sheet_goes_on s a b c) (later_end p o)

-- ---- the lines before a refused one are in order

-- what was read before line `m + 1`: the first `m` lines of the sheet of `c`, which pass, and the next line starts at `at`
record ReadSoFar (m : ℕ) (s : List ℕ) (c : Schedule) (at : ℕ) : Type 0 where
  is : s ≡ lines_text m 1 c ++ drop at s
  upto : at ≤ length s
  passes : (i : ℕ) → 1 ≤ i → i ≤ m → fault_at c i ≡ 0
  there : m ≤ lines_left c + 2

abbrev in_order : {m : ℕ} {s : List ℕ} {c : Schedule} {at : ℕ} → ReadSoFar m s c at → (k : ℕ) → k ≡ m → InOrder k s
in_order {m} {s} {c} {at} r k e =
    record { schedule = c; rest = drop at s; begins = rw e r.is; passes = λ i a b. r.passes i a (omega arith); there = omega (arith, r.there) }

-- the position is the length of what was read
at_length : {m : ℕ} {s : List ℕ} {c : Schedule} {at : ℕ} → ReadSoFar m s c at → at ≡ length (lines_text m 1 c)
at_length {m} {s} {c} {at} r = omega (arith, ap length r.is, length-append (lines_text m 1 c) (drop at s), length-drop at s, r.upto)

-- nothing, or the names alone, was read
read_none : (s : List ℕ) → ReadSoFar 0 s zero_schedule 0
unfolding texts
read_none s = record { is = refl; upto = omega arith; passes = λ i a b. absurd (omega arith); there = omega arith }

read_names : (s : List ℕ) → (read_line 1 zero_schedule s 0).refusal.number ≡ 0
    → ((read_line 1 zero_schedule s 0).schedule ≡ zero_schedule) × ReadSoFar 1 s zero_schedule (read_line 1 zero_schedule s 0).next
unfolding line_of texts text_at line_text fault_at fault
read_names s e =
    let r = line_sound CountNames 1 zero_schedule s 0 (omega arith) e in (
      r.stored ∙ names_store zero_schedule CountNames (padded r.xs) refl,
      record { is = r.is; upto = r.upto; passes = λ i a b. let k : i ≡ 1 = omega arith in rw k; there = omega arith },
    )

-- the counts and `j` lines more were read
read_lines_lem : (s : List ℕ) (j : ℕ) → (first_part s).refusal.number ≡ 0 → j ≤ lines_left (first_part s).schedule
    → (p : Part) → read_lines j 3 (first_part s).schedule s (first_part s).next ≡ p → p.refusal.number ≡ 0
    → (lines_left p.schedule ≡ lines_left (first_part s).schedule) × ReadSoFar (j + 2) s p.schedule p.next
unfolding fault_at line_of fault
read_lines_lem s j z h p e y =
    let c : Schedule = (first_part s).schedule in
    let f = first_sound s 0 (omega arith) z in
    let w : Within c (3 + j) = record { shape = f.shape; rooms = λ m a b. rooms_counted c f.counts m a (omega arith) } in
    let r = rw e at (lines_sound j 3 c s (first_part s).next (omega arith) w f.upto (rw e y)) in
    let d : Schedule = p.schedule in
    let (first, left, n) = same_first r.counts in
    let m : j + 2 ≡ 2 + j = omega arith in (
      left,
      record {
        is = f.is ∙ rw (m, text_split 2 j 1 d, first, append_assoc (lines_text 2 1 c) (lines_text j 3 d) (drop p.next s)) (ap (λ (l : List ℕ). lines_text 2 1 c ++ l) r.is);
        upto = r.upto;
        passes = λ i a b. elim (ℕ_discrete i 1) [
          | yes k ↦ rw k
          | no k ↦ elim (ℕ_discrete i 2) [ yes q ↦ rw (q, n) f.passes | no q ↦ r.passes i (omega (arith, k, q)) (omega arith) ]
        ];
        there = omega (arith, left);
      },
    )

-- ---- the refusal that is told

-- a line refused behind lines that were read
record Located (s : List ℕ) (r : Refusal) : Type 0 where
  before : InOrder (r.place - 1) s
  why : FaultAt before.schedule s r.place r.number

located : {m : ℕ} {s : List ℕ} {c : Schedule} {at : ℕ} → ReadSoFar m s c at → suc m ≤ lines_left c + 2 → (p : Part) → read_line (suc m) c s at ≡ p → (p.refusal.number ≡ 0 → ⊥) → Located s p.refusal
located {m} {s} {c} {at} r last p e z =
    let l : Line = line_at c (suc m) in
    let x = rw e at (line_refused l (suc m) c s at r.upto (λ y. z (rw e at y))) in
    let k : p.refusal.place - 1 ≡ m = omega (arith, x.place) in
    let w = rw (at_length r) at x.why in
    let v : LineFault (line_at c p.refusal.place) s (start_of c p.refusal.place) p.refusal.number = rw (k, x.place) w in
    record { before = in_order r (p.refusal.place - 1) k; why = in_line (omega (arith, x.place, last)) v }

-- the whole sheet, refused in one of its three stages
sheet_located : (s : List ℕ) → ((read_sheet s).refusal.number ≡ 0 → ⊥) → Located s (read_sheet s).refusal
sheet_located s z = go (ℕ_discrete (first_part s).refusal.number 0) (ℕ_discrete (second_part s).refusal.number 0) (ℕ_discrete (second_part s).next (length s)) (ℕ_discrete q.refusal.number 0)
  where
    q : Part
    q = read_line 1 zero_schedule s 0

    u : Part
    u = read_line 2 q.schedule s q.next

    c : Schedule
    c = (first_part s).schedule

    counts_refused : ((first_part s).refusal.number ≡ 0 → ⊥) → q.refusal.number ≡ 0 → Dec (u.refusal.number ≡ 0) → Located s (first_part s).refusal
    counts_refused a e (yes f) =
        absurd (a (ap (λ (p : Part). p.refusal.number) (run_more 1 1 zero_schedule s 0 e ∙ run_more 0 2 q.schedule s q.next f ∙ run_none 3 u.schedule s u.next)))
    counts_refused a e (no f) =
        let (k, r) = read_names s e in
        located r (omega arith) (first_part s) (sym (run_more 1 1 zero_schedule s 0 e ∙ run_stop 0 2 q.schedule s q.next f ∙ rw k)) a

    go : Dec ((first_part s).refusal.number ≡ 0) → Dec ((second_part s).refusal.number ≡ 0) → Dec ((second_part s).next ≡ length s) → Dec (q.refusal.number ≡ 0)
        → Located s (read_sheet s).refusal
    go (no a) b d (no e) = rw (sheet_first s a) (located (read_none s) (omega arith) (first_part s) (sym (run_stop 1 1 zero_schedule s 0 e)) a)
    go (no a) b d (yes e) = rw (sheet_first s a) (counts_refused a e (ℕ_discrete u.refusal.number 0))
    go (yes a) (no b) d e =
        let r = lines_refused (lines_left c) 3 c s (first_part s).next b in
        let p : Part = read_lines r.j 3 c s (first_part s).next in
        let (left, f) = read_lines_lem s r.j a (omega (arith, r.among)) p refl r.before in
        let n : suc (r.j + 2) ≡ 3 + r.j = omega arith in
        rw (sheet_second s a b) (located f (omega (arith, left, r.among)) (second_part s) (rw n r.here) b)
    go (yes a) (yes b) (yes d) e = absurd (z (ap (λ (p : Part). p.refusal.number) (sheet_ends s a b d)))
    go (yes a) (yes b) (no d) e =
        let (left, f) = read_lines_lem s (lines_left c) a (omega arith) (second_part s) refl b in
        let k : lines_left c + 3 - 1 ≡ lines_left c + 2 = omega arith in
        let short : length (lines_text (lines_left c + 3 - 1) 1 (second_part s).schedule) < length s = rw k (omega (arith, at_length f, d, f.upto)) in
        let place : lines_left c + 3 ≡ lines_left (second_part s).schedule + 3 = omega (arith, left) in
        rw (sheet_goes_on s a b d) (record { before = in_order f (lines_left c + 3 - 1) k; why = line_more place refl short })

-- a refusal by 2 to 5 is the first fault
pub first_fault : (s : List ℕ) (q p : ℕ) → (read_of s).refusal ≡ refusal q p → 2 ≤ q → FirstFault s (refusal q p)
unfolding read_of
first_fault s q p =
    pick_elim (λ (r : ReadAnswer). r.refusal ≡ refusal q p → 2 ≤ q → FirstFault s (refusal q p)) (ltb max_bytes (length s)) _ _
    (λ l e h. absurd (let i : 1 ≡ q = ap (λ (r : Refusal). r.number) e in omega arith))
    (λ l e h.
    let n : (read_sheet s).refusal.number ≡ q = ap (λ (r : Refusal). r.number) e in
    let i : (read_sheet s).refusal.place ≡ p = ap (λ (r : Refusal). r.place) e in
    let z : (read_sheet s).refusal.number ≡ 0 → ⊥ = λ y. omega arith in
    let t : Located s (refusal q p) = rw e at (sheet_located s z) in
    record { before = t.before; not_with_it = λ o. omega (arith, order_before s p o z); why = t.why })

-- the refusal by 1, place 0, is told of sheets above the limit alone: every other place is a text line
pub too_long_above : (s : List ℕ) → (read_of s).refusal ≡ sheet_too_long → max_bytes < length s
unfolding read_of
too_long_above s =
    pick_elim (λ (r : ReadAnswer). r.refusal ≡ sheet_too_long → max_bytes < length s) (ltb max_bytes (length s)) _ _
    (λ l e. ltb-true max_bytes (length s) l)
    (λ l e.
    let n : (read_sheet s).refusal.number ≡ 1 = ap (λ (r : Refusal). r.number) e in
    let i : (read_sheet s).refusal.place ≡ 0 = ap (λ (r : Refusal). r.place) e in
    absurd (omega (arith, i, order_before s 0 (in_order (read_none s) 0 refl) (λ y. omega arith))))

pub above_too_long : (s : List ℕ) → max_bytes < length s → (read_of s).refusal ≡ sheet_too_long
unfolding read_of
above_too_long s h = simp (lt-ltb max_bytes (length s) h)

-- ---- the other direction: a line that is faulty behind lines in order is refused, for its cause
why_some : {l : Line} {s : List ℕ} {at q : ℕ} → LineFault l s at q → q ≡ 0 → ⊥
why_some (layout e none_fits) z = omega (arith, e, z)
why_some (meaning t e z) y = z y

why_refused : (l : Line) (n : ℕ) (c : Schedule) (s : List ℕ) (at q : ℕ) → at ≤ length s → LineFault l s at q → (read_as l n c s at).refusal ≡ refusal q n
unfolding read_as line_text
why_refused l n c s at q h (layout e none_fits) =
    let f : Fields = fields_at s at (width l) in
    let P : Part → Type 0 = λ p. p.refusal ≡ refusal q n in
    pick_elim P (eqb (width l) 0) _ _
    (λ w. pick_elim P (starts (drop at s) (names l)) _ _
    (λ b. absurd (none_fits (record {
      numbers = [];
      count = sym (eqb-true (width l) 0 w);
      short = none;
      rest = drop (length (names l)) (drop at s);
      stands = rw w (starts_sound (drop at s) (names l) b);
    })))
    (λ b. rw e))
    (λ w. pick_elim P f.ok _ _
    (λ o. let r = fields_sound s at (width l) h o in absurd (none_fits (record { numbers = r.xs; count = r.count; short = r.short; rest = drop f.next s; stands = rw w r.is })))
    (λ o. rw e))
why_refused l n c s at q h (meaning t e z) =
    let P : Part → Type 0 = λ p. p.refusal ≡ refusal q n in
    pick_elim P (eqb (width l) 0) _ _
    (λ w. absurd (z (sym e ∙ names_fault l (padded t.numbers) (eqb-true (width l) 0 w))))
    (λ w.
    let f = rw t.count at (fields_complete t.numbers s at t.rest t.short (rw w at t.stands)) in
    subst (λ (f : Fields). (values_read n l c f).refusal ≡ refusal q n) (sym f) (rw e (simp (ne_eqb q 0 z))))

-- lines in order, counted anew
abbrev recounted : {k m : ℕ} {s : List ℕ} → InOrder k s → m ≡ k → InOrder m s
recounted {k} {m} {s} o e = record { schedule = o.schedule; rest = o.rest; begins = rw e o.begins; passes = λ i a b. o.passes i a (omega (arith, e)); there = omega (arith, o.there, e) }

copied_counts : (k n : ℕ) (w c : Schedule) → 3 ≤ n → (natural (copied k n w c).inputs) ≡ natural c.inputs
unfolding copied
copied_counts zero n w c g = refl
copied_counts (suc k) n w c g =
    copied_counts k (suc n) w (store c (line_at w n) (padded (numbers w (line_at w n)))) (omega arith)
    ∙ ap natural (store_counts (natural w.inputs) n g c (padded (numbers w (line_at w n)))).inputs_same

refused_number : {r : Refusal} {q n : ℕ} → r ≡ refusal q n → (q ≡ 0 → ⊥) → r.number ≡ 0 → ⊥
refused_number e z y = z (ap (λ (r : Refusal). r.number) (sym e) ∙ y)

module _ (s : List ℕ) (q : ℕ) where
  -- the names are broken
  names_told : LineFault CountNames s 0 q → (read_sheet s).refusal ≡ refusal q 1
  unfolding line_of
  names_told why =
      let e : (read_line 1 zero_schedule s 0).refusal ≡ refusal q 1 = why_refused CountNames 1 zero_schedule s 0 q (omega arith) why in
      let stop : first_part s ≡ read_line 1 zero_schedule s 0 = run_stop 1 1 zero_schedule s 0 (refused_number e (why_some why)) in
      let f : (first_part s).refusal ≡ refusal q 1 = rw stop e in
      ap (λ (p : Part). p.refusal) (sheet_first s (refused_number f (why_some why))) ∙ f

  -- the counts are faulty
  names_read_lem : InOrder 1 s → read_line 1 zero_schedule s 0 ≡ part_read 21 zero_schedule
  unfolding texts text_at line_of line_text
  names_read_lem o =
      line_complete CountNames 1 zero_schedule s 0 [] o.rest refl none (names_fault CountNames (padded []) refl) o.begins
      ∙ ap (part_read 21) (names_store zero_schedule CountNames (padded []) refl)

  counts_told : InOrder 1 s → LineFault CountLine s 21 q → 21 ≤ length s → (read_sheet s).refusal ≡ refusal q 2
  unfolding line_of
  counts_told o why h =
      let r = names_read_lem o in
      let e : (read_line 2 zero_schedule s 21).refusal ≡ refusal q 2 = why_refused CountLine 2 zero_schedule s 21 q h why in
      let more : first_part s ≡ read_lines 1 2 zero_schedule s 21 =
      run_more 1 1 zero_schedule s 0 (ap (λ (p : Part). p.refusal.number) r) ∙ ap (λ (p : Part). read_lines 1 2 p.schedule s p.next) r in
      let stop : first_part s ≡ read_line 2 zero_schedule s 21 = more ∙ run_stop 0 2 zero_schedule s 21 (refused_number e (why_some why)) in
      let f : (first_part s).refusal ≡ refusal q 2 = rw stop e in
      ap (λ (p : Part). p.refusal) (sheet_first s (refused_number f (why_some why))) ∙ f

  -- a line behind the counts is faulty, or bytes follow the last
  module _ (j : ℕ) (o : InOrder (j + 2) s) where
    abbrev V : Schedule
    V = o.schedule

    start_is : length (lines_text (j + 2) 1 V) ≡ B s j o
    start_is =
        let m : j + 2 ≡ 2 + j = omega arith in
        rw (m, text_split 2 j 1 V) (length-append (A s j o) (lines_text j 3 V) ∙ omega arith)

    start_within : B s j o ≤ length s
    start_within = omega (arith, start_is, ap length o.begins, length-append (lines_text (j + 2) 1 V) o.rest)

    first_accepted : (first_part s).refusal.number ≡ 0
    first_accepted = ap (λ (p : Part). p.refusal.number) (order_first s j o)

    line_told : j < lines_left V → LineFault (line_at V (3 + j)) s (B s j o) q → (read_sheet s).refusal ≡ refusal q (3 + j)
    line_told h why =
        let m : ℕ = lines_left V - suc j in
        let n : lines_left V ≡ j + suc m = omega (arith, h) in
        let d : Schedule = D s j o in
        let l : line_at d (3 + j) ≡ line_at V (3 + j) =
        ap (λ i. line_of i (3 + j)) (copied_counts j 3 V (counted (numbers V CountLine)) (omega arith) ∙ ap natural (counted_same V).inputs_same) in
        let e : (read_line (3 + j) d s (B s j o)).refusal ≡ refusal q (3 + j) =
        why_refused (line_at d (3 + j)) (3 + j) d s (B s j o) q start_within (subst (λ k. LineFault k s (B s j o) q) (sym l) why) in
        let stop : second_part s ≡ read_line (3 + j) d s (B s j o) = order_rest s j o (suc m) n ∙ run_stop m (3 + j) d s (B s j o) (refused_number e (why_some why)) in
        let f : (second_part s).refusal ≡ refusal q (3 + j) = rw stop e in
        ap (λ (p : Part). p.refusal) (sheet_second s first_accepted (refused_number f (why_some why))) ∙ f

    end_told : j ≡ lines_left V → length (lines_text (j + 2) 1 V) < length s → (read_sheet s).refusal ≡ refusal 2 (3 + j)
    end_told e h =
        let r : second_part s ≡ part_read (B s j o) (D s j o) = order_rest s j o 0 (omega (arith, e)) ∙ run_none (3 + j) (D s j o) s (B s j o) in
        let n : lines_left (first_part s).schedule + 3 ≡ 3 + j = omega (arith, order_left s j o, e) in
        ap (λ (p : Part). p.refusal)
        (sheet_goes_on s first_accepted (ap (λ (p : Part). p.refusal.number) r) (λ y. let z : B s j o ≡ length s = ap (λ (p : Part). p.next) (sym r) ∙ y in omega (arith, start_is, z, h)))
        ∙ ap (refusal 2) n

told : (s : List ℕ) (k : ℕ) (o : InOrder k s) (p q : ℕ) → p - 1 ≡ k → (InOrder p s → ⊥) → FaultAt o.schedule s p q → (read_sheet s).refusal ≡ refusal q p
unfolding line_of texts text_at line_text
told s zero o p q e not_with_it (in_line there why) = go (ℕ_discrete p 1)
  where
    go : Dec (p ≡ 1) → (read_sheet s).refusal ≡ refusal q p
    go (yes n) = names_told s q (subst (λ n. LineFault (line_at o.schedule n) s (start_of o.schedule n) q) n why) ∙ ap (refusal q) (sym n)
    go (no n) = absurd (not_with_it (recounted o (omega (arith, e, n))))
told s zero o p q e not_with_it (line_more n two h) = absurd (omega (arith, e, n))
told s (suc zero) o p q e not_with_it (in_line there why) =
    let n : p ≡ 2 = omega (arith, e) in
    counts_told s q o (subst (λ n. LineFault (line_at o.schedule n) s (start_of o.schedule n) q) n why)
    (omega (arith, ap length o.begins, length-append (lines_text 1 1 o.schedule) o.rest))
    ∙ ap (refusal q) (sym n)
told s (suc zero) o p q e not_with_it (line_more n two h) = absurd (omega (arith, e, n))
told s (suc (suc j)) o p q e not_with_it (in_line there why) =
    let n : p ≡ 3 + j = omega (arith, e) in
    let m : p - 1 ≡ j + 2 = omega (arith, e) in
    let u : InOrder (j + 2) s = recounted o (omega arith) in
    let at : length (lines_text (p - 1) 1 o.schedule) ≡ B s j u = ap (λ i. length (lines_text i 1 o.schedule)) m ∙ start_is s q j u in
    line_told s q j u (omega (arith, there, n)) (subst (λ n. LineFault (line_at o.schedule n) s (B s j u) q) n (subst (λ a. LineFault (line_at o.schedule p) s a q) at why))
    ∙ ap (refusal q) (sym n)
told s (suc (suc j)) o p q e not_with_it (line_more n two h) =
    let m : p - 1 ≡ j + 2 = omega (arith, e) in
    let k : p ≡ 3 + j = omega (arith, e) in
    let u : InOrder (j + 2) s = recounted o (omega arith) in
    end_told s q j u (omega (arith, n, k)) (subst (λ i. length (lines_text i 1 o.schedule) < length s) m h) ∙ ap₂ refusal (sym two) (sym k)

-- of a sheet that is not too long, no other first fault than the refusal that is told
pub first_fault_only : (s : List ℕ) (r : Refusal) → length s ≤ max_bytes → FirstFault s r → (read_of s).refusal ≡ r
unfolding read_of
first_fault_only s r h f = simp (le-ltb max_bytes (length s) h) (told s (r.place - 1) f.before r.place r.number refl f.not_with_it f.why)
