-- Line after line, as `reader.rt` goes: each way through a line, one line more for its loop, the line that stops it, and the end.
use Rattle.std.proofs.Common.{◌≡◌, sym, ap, ◌∙◌, ℕ, suc, ◌+◌, ◌-◌, ◌<◌, ◌≤◌, ℤ, Bool, true, false, List, length, take, drop, Ok, Err, arith}
use Rattle.std.specs.List.{starts_with}
use lib.Dec.{eqb}
use borrow.Author.Tests.{eq-eqb, ne_eqb}
use Rattle.sheet.specs.Answers.{Fields, Part}
use Rattle.sheet.specs.Causes.{refusal, accepted}
use Rattle.sheet.specs.Lines.{line_at, names, width, store}
use Rattle.sheet.specs.Tests.{fault}
use Rattle.sheet.specs.Reading.{no_fields, fields_at, starts, part_read, part_refused, values_read, read_as, read_line, read_lines}
use Rattle.sheet.specs.Results.{refusal_of, part, fault_told}
use Rattle.sheet.specs.declared.Schedule.{Schedule}
use Rattle.sheet.specs.declared.Line.{Line}
use Rattle.sheet.specs.declared.causes.Refused.{Refused}
use Rattle.sheet.proofs.LineRead.{names_read, names_broken, values_are, line_read, run_more, run_stop, run_none}
use Rattle.sheet.proofs.Prefix.{starts_is}
use Rattle.sheet.proofs.Digits.{rest_whole}
use Rattle.sheet.proofs.Results.{number_some, told_none, told_some}

-- each way through the reading of a line of kind `l`
module _ (l : Line) (n : ℕ) (c : Schedule) (s : List ℕ) (at : ℕ) where
  module _ (t : List ℕ) (z : width l ≡ 0) (e : t ≡ names l) where
    begins : (b : Bool) → starts_with eqb (take (length s - at) (drop at s)) t ≡ b → starts (drop at s) (names l) ≡ b
    begins b h = starts_is (drop at s) (names l) ∙ (rw (rest_whole s at, e) at h)

    pub names_told : starts_with eqb (take (length s - at) (drop at s)) t ≡ true → part_read (at + length t) c ≡ read_as l n c s at
    names_told h = rw e (sym (names_read l n c s at z (begins true h)))

    pub names_missing : starts_with eqb (take (length s - at) (drop at s)) t ≡ false → part_refused (refusal 2 n) ≡ read_as l n c s at
    names_missing h = sym (names_broken l n c s at z (begins false h))

  module _ (w : 0 < width l) where
    values_told : read_as l n c s at ≡ values_read n l c (fields_at s at (width l))
    values_told = values_are l n c s at (λ y. omega arith)

    pub fields_missing : no_fields ≡ fields_at s at (width l) → part_refused (refusal 2 n) ≡ read_as l n c s at
    fields_missing e = sym (values_told ∙ rw (← e))

    module _ (next : ℕ) (v : List ℤ) (e : ◌≡◌ {A = Fields} (record { ok = true; next = next; values = v }) (fields_at s at (width l))) where
      pub values_wrong : (r : Refused) → refusal_of r ≡ fault_told (fault l v) n → part_refused (refusal_of r) ≡ read_as l n c s at
      values_wrong r f =
          let t = told_some r (fault l v) n f in
          sym (values_told ∙ rw (← e) (simp (ne_eqb (fault l v) 0 t.0) (ap part_refused (sym t.1))))

      pub values_stored : accepted ≡ fault_told (fault l v) n → (d : Schedule) → d ≡ store c l v → part_read next d ≡ read_as l n c s at
      values_stored f d g = rw g (sym (values_told ∙ rw (← e) (simp (eq-eqb (fault l v) 0 (told_none (fault l v) n f)))))

left : {m n : ℕ} → n < m → m - n ≡ suc (m - (n + 1))
left h = omega arith

-- line `n` of those before line `m`, read
module _ (m n : ℕ) (c d : Schedule) (s : List ℕ) (at : ℕ) where
  pub line_more : (next : ℕ) → n < m → part d (Ok next) ≡ read_line n c s at → read_lines (m - n) n c s at ≡ read_lines (m - (n + 1)) (n + 1) d s next
  line_more next h e =
      let i : suc n ≡ n + 1 = omega arith in
      rw (left h) (run_more (m - (n + 1)) n c s at (ap (λ (p : Part). p.refusal.number) (sym e)) ∙ rw (← i) (ap (λ (p : Part). read_lines (m - suc n) (suc n) p.schedule s p.next) (sym e)))

  pub line_stops : (r : Refused) → n < m → part d (Err r) ≡ read_line n c s at → read_lines (m - n) n c s at ≡ part d (Err r)
  line_stops r h e =
      rw (left h) (run_stop (m - (n + 1)) n c s at (λ z. number_some r.cause (ap (λ (p : Part). p.refusal.number) e ∙ z)) ∙ sym e)

  pub line_none : m ≤ n → read_lines (m - n) n c s at ≡ part c (Ok at)
  line_none h = let z : m - n ≡ 0 = omega arith in rw z (run_none n c s at)

-- where the next line starts
pub line_within : (n : ℕ) (c d : Schedule) (s : List ℕ) (at next : ℕ) → at ≤ length s → part d (Ok next) ≡ read_line n c s at → next ≤ length s
line_within n c d s at next h e = rw (← e) at (line_read (line_at c n) n c s at h (ap (λ (p : Part). p.refusal.number) (sym e))).upto
