-- Lines of a sheet there and back: an accepted line is the text of the numbers stored, and the text of passing numbers is accepted;
-- the same of several lines from the third on, by induction over the lines.
use mathlib.Core.Path.{◌≡◌, refl, sym, ap, ◌∙◌}
use mathlib.Core.Bool.{true}
use mathlib.Core.List.{List, [], ◌++◌, append_assoc}
use Prim.Native.Nat.{ℕ, zero, suc, ◌+◌, ◌≤◌, ◌<◌}
use native.Mathlib.Nat.{add-zero}
use native.Mathlib.Omega.{arith}
use native.Mathlib.Decide.{ℕ_discrete}
use borrow.Author.Tests.{eqb-true, eqb-false}
use lib.Dec.{eqb}
use lib.ListN.{length, drop, length-append}
use lib.Seq.{drop-drop}
use lib.IntN.{ℤ}
use Rattle.sheet.specs.Text.{line, texts}
use Rattle.sheet.specs.Lines.{natural, line_at, line_text, names, width, numbers, store}
use Rattle.sheet.specs.Tests.{fault}
use Rattle.sheet.specs.Reading.{padded, fields_at, starts, part_read, read_as, read_lines}
use Rattle.sheet.specs.Writing.{fault_at, text_at, lines_text}
use Rattle.sheet.specs.declared.Schedule.{Schedule}
use Rattle.sheet.specs.declared.Line.{Line}
use Rattle.sheet.specs.Answers.{Fields, Part}
use Rattle.sheet.proofs.Choice.{pick_elim}
use Rattle.sheet.proofs.Prefix.{starts_sound, starts_complete}
use Rattle.sheet.proofs.FieldLine.{fields_sound, fields_complete, TenDigits, behind}
use Rattle.sheet.proofs.LineRead.{starts_within, names_read, values_are, values_read_lem}
use Rattle.sheet.proofs.LineKinds.{Shape, shape_store, Room, numbers_stored, SameCounts, store_counts, store_other, names_store, names_fault, numbers_width}
use Rattle.sheet.proofs.TestedLines.{fault_padded}

-- an accepted line of kind `l`: its numbers, which pass, are stored, and the bytes are its text
pub record LineIs (l : Line) (c : Schedule) (s : List ℕ) (at : ℕ) (p : Part) : Type 0 where
  pub xs : List ℤ
  pub count : length xs ≡ width l
  pub stored : p.schedule ≡ store c l (padded xs)
  pub passes : fault l (padded xs) ≡ 0
  pub is : drop at s ≡ line_text l xs ++ drop p.next s
  pub upto : p.next ≤ length s

pub line_sound : (l : Line) (n : ℕ) (c : Schedule) (s : List ℕ) (at : ℕ) → at ≤ length s → (read_as l n c s at).refusal.number ≡ 0 → LineIs l c s at (read_as l n c s at)
unfolding read_as line_text
line_sound l n c s at h =
    let f : Fields = fields_at s at (width l) in
    let P : Part → Type 0 = λ p. p.refusal.number ≡ 0 → LineIs l c s at p in
    pick_elim P (eqb (width l) 0) _ _
    (λ w. pick_elim P (starts (drop at s) (names l)) _ _
    (λ e z.
    let k = eqb-true (width l) 0 w in
    record {
      xs = [];
      count = sym k;
      stored = sym (names_store c l (padded []) k);
      passes = names_fault l (padded []) k;
      is = rw w (starts_sound (drop at s) (names l) e ∙ ap (λ (t : List ℕ). names l ++ t) (drop-drop (length (names l)) at s));
      upto = starts_within s at (names l) h e;
    })
    (λ e z. absurd (omega (arith, z))))
    (λ w. pick_elim P f.ok _ _
    (λ o. pick_elim P (eqb (fault l f.values) 0) _ _
    (λ e z.
    let r = fields_sound s at (width l) h o in
    record {
      xs = r.xs;
      count = r.count;
      stored = rw r.into;
      passes = rw r.into at (eqb-true (fault l f.values) 0 e);
      is = rw w r.is;
      upto = r.upto;
    })
    (λ e z. absurd (eqb-false (fault l f.values) 0 e z)))
    (λ o z. absurd (omega (arith, z))))

pub line_complete : (l : Line) (n : ℕ) (c : Schedule) (s : List ℕ) (at : ℕ) (xs : List ℤ) (rest : List ℕ)
    → length xs ≡ width l → TenDigits xs → fault l (padded xs) ≡ 0 → drop at s ≡ line_text l xs ++ rest
    → read_as l n c s at ≡ part_read (at + length (line_text l xs)) (store c l (padded xs))
unfolding line_text
line_complete l n c s at xs rest k d g =
    pick_elim (λ (t : List ℕ). drop at s ≡ t ++ rest → read_as l n c s at ≡ part_read (at + length t) (store c l (padded xs))) (eqb (width l) 0) (names l) (line xs)
    (λ w e.
    let z = eqb-true (width l) 0 w in
    names_read l n c s at z (rw e (starts_complete (names l) rest)) ∙ rw (names_store c l (padded xs) z))
    (λ w e.
    let f = rw k at (fields_complete xs s at rest d e) in
    values_are l n c s at (eqb-false (width l) 0 w)
    ∙ rw f (values_read_lem n l c (record { ok = true; next = at + length (line xs); values = padded xs }) refl g))

-- the lines from 3 to `last - 1` have their place in the room
pub record Within (c : Schedule) (last : ℕ) : Type 0 where
  pub shape : Shape c
  pub rooms : (m : ℕ) → 3 ≤ m → m < last → Room (line_at c m)

-- an accepted run of lines from line `n` on, read into `c`
pub record LinesAre (k n : ℕ) (c : Schedule) (s : List ℕ) (at : ℕ) (p : Part) : Type 0 where
  pub is : drop at s ≡ lines_text k n p.schedule ++ drop p.next s
  pub upto : p.next ≤ length s
  pub passes : (m : ℕ) → n ≤ m → m < n + k → fault_at p.schedule m ≡ 0
  pub counts : SameCounts p.schedule c
  pub kept : (m : ℕ) → 3 ≤ m → m < n → numbers p.schedule (line_at c m) ≡ numbers c (line_at c m)

same_line : {c d : Schedule} → SameCounts d c → (m : ℕ) → line_at d m ≡ line_at c m
same_line h m = rw h.inputs_same

-- one line in front of an accepted run
lines_joined : (k n : ℕ) (c : Schedule) (s : List ℕ) (at next : ℕ) (xs : List ℤ) (p : Part) → 3 ≤ n → Within c (n + suc k)
    → length xs ≡ width (line_at c n) → fault (line_at c n) (padded xs) ≡ 0 → drop at s ≡ line_text (line_at c n) xs ++ drop next s
    → LinesAre k (suc n) (store c (line_at c n) (padded xs)) s next p → LinesAre (suc k) n c s at p
unfolding texts text_at fault_at
lines_joined k n c s at next xs p g w count passes is r =
    let l : Line = line_at c n in
    let d : Schedule = p.schedule in
    let c' : Schedule = store c l (padded xs) in
    let t : SameCounts c' c = store_counts (natural c.inputs) n g c (padded xs) in
    let u : SameCounts d c = record {
      inputs_same = r.counts.inputs_same ∙ t.inputs_same;
      squares_same = r.counts.squares_same ∙ t.squares_same;
      steps_same = r.counts.steps_same ∙ t.steps_same;
    } in
    let held : (m : ℕ) → 3 ≤ m → m < suc n → numbers d (line_at c m) ≡ numbers c' (line_at c m) = λ m a b. rw (same_line t m) at (r.kept m a b) in
    let num : numbers d l ≡ xs = held n g (omega arith) ∙ numbers_stored c l xs w.shape (w.rooms n g (omega arith)) count in
    let ln : line_at d n ≡ l = same_line u n in
    let text : line_text (line_at d n) (numbers d (line_at d n)) ≡ line_text l xs = rw (ln, num) in
    let zero_fault : fault (line_at d n) (numbers d (line_at d n)) ≡ 0 = rw ln (sym (fault_padded l d) ∙ rw num passes) in
    record {
      is = is ∙ rw (text, append_assoc (line_text l xs) (lines_text k (suc n) d) (drop p.next s)) (ap (λ (y : List ℕ). line_text l xs ++ y) r.is);
      upto = r.upto;
      passes = λ m a b. elim (ℕ_discrete m n) [ yes e ↦ rw e zero_fault | no e ↦ r.passes m (omega (arith, e)) (omega arith) ];
      counts = u;
      kept = λ m a b. held m a (omega arith) ∙ store_other (natural c.inputs) n m a b c (padded xs);
    }

pub lines_sound : (k n : ℕ) (c : Schedule) (s : List ℕ) (at : ℕ) → 3 ≤ n → Within c (n + k) → at ≤ length s
    → (read_lines k n c s at).refusal.number ≡ 0 → LinesAre k n c s at (read_lines k n c s at)
unfolding read_lines texts
lines_sound zero n c s at g w h = λ z. record {
  is = refl;
  upto = h;
  passes = λ m a b. absurd (omega arith);
  counts = record { inputs_same = refl; squares_same = refl; steps_same = refl };
  kept = λ m a b. refl;
}
lines_sound (suc k) n c s at g w h =
    let l : Line = line_at c n in
    let q : Part = read_as l n c s at in
    pick_elim (λ (p : Part). p.refusal.number ≡ 0 → LinesAre (suc k) n c s at p) (eqb q.refusal.number 0) _ _
    (λ e.
    let r = line_sound l n c s at h (eqb-true q.refusal.number 0 e) in
    let c' : Schedule = store c l (padded r.xs) in
    let t : SameCounts c' c = store_counts (natural c.inputs) n g c (padded r.xs) in
    let w' : Within c' (suc n + k) = record { shape = shape_store c l (padded r.xs) w.shape; rooms = λ m a b. rw (same_line t m) (w.rooms m a (omega arith)) } in
    rw r.stored (λ z. lines_joined k n c s at q.next r.xs (read_lines k (suc n) c' s q.next) g w r.count r.passes r.is (lines_sound k (suc n) c' s q.next (omega arith) w' r.upto z)))
    (λ e z. absurd (eqb-false q.refusal.number 0 e z))

-- the schedule `c` with `k` lines of `w` from line `n` on put in their places
unfoldable pub copied : ℕ → ℕ → Schedule → Schedule → Schedule
copied zero n w c = c
copied (suc k) n w c = copied k (suc n) w (store c (line_at w n) (padded (numbers w (line_at w n))))

pub lines_complete : (k n : ℕ) (w c : Schedule) (s : List ℕ) (at : ℕ) (rest : List ℕ) → 3 ≤ n → SameCounts c w
    → ((m : ℕ) → n ≤ m → m < n + k → (fault_at w m ≡ 0) × TenDigits (numbers w (line_at w m)))
    → drop at s ≡ lines_text k n w ++ rest → read_lines k n c s at ≡ part_read (at + length (lines_text k n w)) (copied k n w c)
unfolding read_lines texts text_at fault_at copied
lines_complete zero n w c s at rest g t f e = rw add-zero
lines_complete (suc k) n w c s at rest g t f e =
    let l : Line = line_at w n in
    let xs : List ℤ = numbers w l in
    let c' : Schedule = store c l (padded xs) in
    let u : SameCounts c' c = store_counts (natural w.inputs) n g c (padded xs) in
    let v : SameCounts c' w = record { inputs_same = u.inputs_same ∙ t.inputs_same; squares_same = u.squares_same ∙ t.squares_same; steps_same = u.steps_same ∙ t.steps_same } in
    let e1 : drop at s ≡ line_text l xs ++ (lines_text k (suc n) w ++ rest) = e ∙ append_assoc (line_text l xs) (lines_text k (suc n) w) rest in
    let b = f n (omega arith) (omega arith) in
    let q : read_as l n c s at ≡ part_read (at + length (line_text l xs)) c' = line_complete l n c s at xs _ (numbers_width w l) b.1 (fault_padded l w ∙ b.0) e1 in
    let a : at + length (line_text l xs) + length (lines_text k (suc n) w) ≡ at + length (line_text l xs ++ lines_text k (suc n) w) = rw length-append (omega arith) in
    rw (same_line t n, q)
    (lines_complete k (suc n) w c' s (at + length (line_text l xs)) rest (omega arith) v (λ m i j. f m (omega arith) (omega arith)) (behind s at (line_text l xs) (lines_text k (suc n) w ++ rest) e1) ∙ rw a)
