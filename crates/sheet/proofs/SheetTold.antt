-- The whole sheet and the whole test, as `read`, `test` and `write` go through them.
use Rattle.std.proofs.Common.{◌≡◌, sym, ap, ◌∙◌, ℕ, zero, suc, ◌+◌, ◌-◌, Bool, true, false, OnOk, IfErr, ◌≤◌, ◌<◌, List, length, take, Result, Ok, Err, arith}
use borrow.Author.Tests.{eq-eqb, ne_eqb}
use lib.Seq.{sets}
use Rattle.capacity.specs.Limits.{max_inputs, max_steps}
use Rattle.sheet.specs.Answers.{Refusal, Part}
use Rattle.sheet.specs.Causes.{refusal, accepted, line_broken}
use Rattle.sheet.specs.Lines.{natural, zero_schedule, lines_left}
use Rattle.sheet.specs.Tests.{counts_pass}
use Rattle.sheet.specs.Choice.{pick}
use Rattle.sheet.specs.Reading.{part_refused, read_lines, read_sheet, answer}
use Rattle.sheet.specs.Writing.{fault_at, test_lines, test_of, sheet_text, Written}
use Rattle.sheet.specs.Wrote.{Wrote}
use Rattle.sheet.specs.Results.{number, refusal_of, tested, read_answer, write_answer, part}
use Rattle.sheet.specs.declared.Schedule.{Schedule}
use Rattle.sheet.specs.declared.causes.Cause.{Cause}
use Rattle.sheet.specs.declared.causes.Cause.TheVariants.{LineBroken, RoomTooShort}
use Rattle.sheet.specs.declared.causes.Refused.{Refused}
use Rattle.sheet.proofs.CountsRead.{first_sound}
use Rattle.sheet.proofs.LineRead.{first_part, second_part, sheet_first, sheet_second, sheet_ends, sheet_goes_on}
use Rattle.sheet.proofs.Blocks.{test_blocks}
use Rattle.sheet.proofs.Passing.{counts_passed}
use Rattle.sheet.proofs.Passed.{test_accepts, lines_left_small}
use Rattle.sheet.proofs.Results.{number_some}
use Rattle.sheet.proofs.SheetWrite.{write_refused, write_short, write_done, take_sets}

-- ---- reading: the first two lines, read into a schedule of zeros
module _ (s : List ℕ) (z d : Schedule) (e : z ≡ zero_schedule) where
  pub first_refused : (r : Refused) → part d (Err r) ≡ read_lines 2 1 z s 0 → read_answer (Err r) ≡ answer (read_sheet s)
  first_refused r h =
      let p : part d (Err r) ≡ first_part s = rw e at h in
      ap answer (p ∙ sym (sheet_first s (λ y. number_some r.cause (ap (λ (q : Part). q.refusal.number) p ∙ y))))

  -- and then the others
  module _ (at : ℕ) (h : part d (Ok at) ≡ read_lines 2 1 z s 0) where
    first_is : part d (Ok at) ≡ first_part s
    first_is = rw e at h

    first_zero : (first_part s).refusal.number ≡ 0
    first_zero = ap (λ (q : Part). q.refusal.number) (sym first_is)

    pub lines_few : lines_left d ≤ max_inputs + max_steps + 2
    lines_few = lines_left_small d (rw (← first_is) at (first_sound s 0 (omega arith) first_zero).counts)

    pub first_within : at ≤ length s
    first_within = rw (← first_is) at (first_sound s 0 (omega arith) first_zero).upto

    module _ (left : ℕ) (l : left ≡ lines_left d) (f : Schedule) where
      second_is : (p : Part) → p ≡ read_lines left 3 d s at → p ≡ second_part s
      second_is p g = (rw l at g) ∙ ap (λ (q : Part). read_lines (lines_left q.schedule) 3 q.schedule s q.next) first_is

      pub second_refused : (r : Refused) → part f (Err r) ≡ read_lines left 3 d s at → read_answer (Err r) ≡ answer (read_sheet s)
      second_refused r g =
          let p = second_is (part f (Err r)) g in
          ap answer (p ∙ sym (sheet_second s first_zero (λ y. number_some r.cause (ap (λ (q : Part). q.refusal.number) p ∙ y))))

      module _ (end : ℕ) (g : part f (Ok end) ≡ read_lines left 3 d s at) where
        second_zero : (second_part s).refusal.number ≡ 0
        second_zero = ap (λ (q : Part). q.refusal.number) (sym (second_is (part f (Ok end)) g))

        pub sheet_read : end ≡ length s → read_answer (Ok f) ≡ answer (read_sheet s)
        sheet_read y =
            let p = second_is (part f (Ok end)) g in
            ap answer (sym (sheet_ends s first_zero second_zero (ap (λ (q : Part). q.next) (sym p) ∙ y) ∙ sym (ap (λ (q : Part). part q.schedule (Ok q.next)) p)))

        pub sheet_longer : (end ≡ length s → ⊥) → read_answer (Err (record { cause = LineBroken; place = left + 3 })) ≡ answer (read_sheet s)
        sheet_longer y =
            let p = second_is (part f (Ok end)) g in
            let n : lines_left (first_part s).schedule ≡ left = ap (λ (q : Part). lines_left q.schedule) (sym first_is) ∙ sym l in
            let e : read_sheet s ≡ part_refused (line_broken (left + 3)) = rw n at (sheet_goes_on s first_zero second_zero (λ x. y (ap (λ (q : Part). q.next) p ∙ x))) in
            ap answer (sym e)

-- ---- the test of a schedule: the first faulty line of a block
test_fails : (i k n : ℕ) (c : Schedule) (q : ℕ) → i < k → ((j : ℕ) → j < i → fault_at c (n + j) ≡ 0) → fault_at c (n + i) ≡ suc q → test_lines k n c ≡ refusal (suc q) (n + i)
unfolding test_lines
test_fails i zero n c q h f e = absurd (omega arith)
test_fails zero (suc k) n c q h f e = let m : n + 0 ≡ n = omega arith in let g = rw m at e in rw (m, g) (simp (ne_eqb (suc q) 0 (λ y. omega arith)))
test_fails (suc i) (suc k) n c q h f e =
    let m : n + 0 ≡ n = omega arith in
    let s : n + suc i ≡ suc n + i = omega arith in
    let z = rw m at (f 0 (omega arith)) in
    rw (z, s) (test_fails i k (suc n) c q (omega arith) (λ j g. let t : n + suc j ≡ suc n + j = omega arith in rw t at (f (suc j) (omega arith))) (rw s at e))

-- what `test_block` answers of lines whose tests `p` tells
module _ (c : Schedule) (first count q : ℕ) (a : Cause) (e : number a ≡ suc q) (p : ℕ → Bool) (fault : (i : ℕ) → i < count → fault_at c (first + i) ≡ pick (p i) 0 (suc q)) where
  pub block_passes : ((i : ℕ) → i < count → true ≡ p i) → accepted ≡ test_lines count first c
  block_passes h =
      sym (test_accepts count first c (λ m f g.
      let n : first + (m - first) ≡ m = omega arith in
      let z : fault_at c (first + (m - first)) ≡ 0 = fault (m - first) (omega arith) ∙ (let y = h (m - first) (omega arith) in ap (λ (b : Bool). pick b 0 (suc q)) (sym y)) in
      rw n at z))

  pub block_fails : (r : Refused) → (i : ℕ) × (i < count) × (r ≡ record { cause = a; place = first + i }) × (false ≡ p i) × ((k : ℕ) → k < i → true ≡ p k) → refusal_of r ≡ test_lines count first c
  block_fails r (i, h, w, f, g) =
      rw (w, e) (sym (test_fails i count first c q h (λ j k. fault j (omega arith) ∙ rw (← g j k)) (fault i h ∙ rw (← f))))

  pub block_tested : (r : Result (Unit {0}) Refused) → OnOk r ((i : ℕ) → i < count → true ≡ p i)
      → IfErr r (λ r. (i : ℕ) × (i < count) × (r ≡ record { cause = a; place = first + i }) × (false ≡ p i) × ((k : ℕ) → k < i → true ≡ p k))
      → tested r ≡ test_lines count first c
  block_tested (Ok u) h f = block_passes h
  block_tested (Err r) h f = block_fails r f

-- the whole test by its blocks
module _ (c : Schedule) where
  pub counts_wrong : counts_pass c.inputs c.squares c.steps ≡ false → refusal 3 2 ≡ test_of c
  counts_wrong e = sym (test_blocks c ∙ rw e)

  module _ (e : counts_pass c.inputs c.squares c.steps ≡ true) where
    pub limits : (natural c.inputs ≤ max_inputs) × (natural c.steps ≤ max_steps)
    limits = let p = counts_passed c.inputs c.squares c.steps e in (p.inputs_in.to, p.steps_in.to)

    pub ends_wrong : (r : Refused) → refusal_of r ≡ test_lines (natural c.inputs) 4 c → refusal_of r ≡ test_of c
    ends_wrong r f =
        f ∙ sym (test_blocks c ∙ rw e (simp (ne_eqb (test_lines (natural c.inputs) 4 c).number 0 (λ y. number_some r.cause (ap (λ (q : Refusal). q.number) f ∙ y)))))

    pub steps_tested : accepted ≡ test_lines (natural c.inputs) 4 c → (r : Refusal) → r ≡ test_lines (natural c.steps) (5 + natural c.inputs) c → r ≡ test_of c
    steps_tested f r g = g ∙ sym (test_blocks c ∙ rw e (simp (eq-eqb (test_lines (natural c.inputs) 4 c).number 0 (ap (λ (q : Refusal). q.number) (sym f)))))

-- ---- writing
module _ (c : Schedule) (out : List ℕ) where
  pub not_passed : (r : Refused) → refusal_of r ≡ test_of c → Written c out out (write_answer (Err r))
  not_passed r e =
      let w = write_refused c out (λ y. number_some r.cause (ap (λ (q : Refusal). q.number) e ∙ y)) in
      record { answers = rw e w.0; leaves = w.1 }

  module _ (e : accepted ≡ test_of c) where
    pub passes : (test_of c).number ≡ 0
    passes = ap (λ (q : Refusal). q.number) (sym e)

    pub not_room : length out < length (sheet_text c) → Written c out out (write_answer (Err (record { cause = RoomTooShort; place = 0 })))
    not_room h = let w = write_short c out passes h in record { answers = w.0; leaves = w.1 }

    -- the sheet written aside, and its bytes copied
    pub written : (n : ℕ) (room aside after : List ℕ) → Wrote room aside 0 n (sheet_text c) → length (sheet_text c) ≤ length room → n ≤ length out → after ≡ sets out 0 (take n aside)
        → Written c out after (write_answer (Ok n))
    written n room aside after f h g a =
        let i : n ≡ length (sheet_text c) = omega (arith, f.ends) in
        let w = write_done c out passes (omega arith) in
        let k : take n aside ≡ sheet_text c = rw (i, f.is) (take_sets (sheet_text c) room h) in
        record { answers = rw i w.0; leaves = a ∙ rw k w.1 }
