-- Reading a sheet in the order of "Causes and what follows" (manual, section 6.3): "1; then text line by line, 2 before 3, 4 or 5 on a line".
-- `proofs/RoundTrip.antt` shows what is accepted.
use Rattle.std.specs.Prelude.{Bool, true, false, List, [], ◌∷◌, ℕ, zero, suc, ◌+◌, ltb, eqb, length, drop, set, replicate, ℤ, pos}
use Rattle.std.proofs.lemmas.List.Edits.{sets}
use Rattle.sheet.specs.Choice.{pick}
use Rattle.sheet.specs.Number.{field_at}
use Rattle.sheet.specs.Text.{end_byte}
use Rattle.sheet.specs.Limits.{max_bytes}
use Rattle.sheet.specs.Causes.{refusal, accepted, sheet_too_long, line_broken}
use Rattle.sheet.specs.Lines.{zero_schedule, line_at, lines_left, names, width, store}
use Rattle.sheet.specs.Tests.{fault}
use Rattle.sheet.specs.Answers.{Field, Number, Broken, Refusal, Fields, Part, ReadAnswer}
use Rattle.sheet.specs.declared.Schedule.{Schedule}
use Rattle.sheet.specs.declared.Line.{Line}

abbrev pub on_field : {A : Type 0} → Field → (ℤ → ℕ → A) → A → A
on_field (Number v n) f b = f v n
on_field Broken f b = b

-- A line holds four numbers at the most.
abbrev pub zeros : List ℤ
zeros = replicate 4 (pos 0)

-- The numbers of a line with zeros behind them.
abbrev pub padded : List ℤ → List ℤ
padded xs = sets zeros 0 xs

abbrev pub no_fields : Fields
no_fields = record { ok = false; next = 0; values = zeros }

-- `k` fields more from position `at` on, put into `v` from index `i` on.
unfoldable pub fields_from : ℕ → ℕ → List ℤ → List ℕ → ℕ → Fields
fields_from zero i v s at = record { ok = true; next = at; values = v }
fields_from (suc k) i v s at = on_field (field_at s at (end_byte k)) (λ x n. fields_from k (suc i) (set v i x) s n) no_fields

-- The line of `k` numbers at position `at`.
unfoldable pub fields_at : List ℕ → ℕ → ℕ → Fields
fields_at s at k = fields_from k 0 zeros s at

-- `s` begins with `t`.
unfoldable pub starts : List ℕ → List ℕ → Bool
starts s [] = true
starts [] (t ∷ ts) = false
starts (b ∷ bs) (t ∷ ts) = pick (eqb b t) (starts bs ts) false

-- A part of the sheet that was read: where the next line starts, and the schedule so far.
abbrev pub part_read : ℕ → Schedule → Part
part_read next c = record { refusal = accepted; next = next; schedule = c }

-- "Beside a refusal every other answer is 0, no, or a schedule of zeros."
abbrev pub part_refused : Refusal → Part
part_refused r = record { refusal = r; next = 0; schedule = zero_schedule }

-- A line of numbers, text line `n`: its whole layout first, then its meaning, then the numbers take their place.
abbrev pub values_read : ℕ → Line → Schedule → Fields → Part
values_read n l c f =
    pick f.ok
    (pick (eqb (fault l f.values) 0) (part_read f.next (store c l f.values)) (part_refused (refusal (fault l f.values) n)))
    (part_refused (line_broken n))

-- Text line `n`, which is a line of kind `l`, at position `at`.
unfoldable pub read_as : Line → ℕ → Schedule → List ℕ → ℕ → Part
read_as l n c s at =
    pick (eqb (width l) 0)
    (pick (starts (drop at s) (names l)) (part_read (at + length (names l)) c) (part_refused (line_broken n)))
    (values_read n l c (fields_at s at (width l)))

abbrev pub read_line : ℕ → Schedule → List ℕ → ℕ → Part
read_line n c s at = read_as (line_at c n) n c s at

-- Go on where a part was read, stop where it was refused.
abbrev pub and_then : Part → (Schedule → ℕ → Part) → Part
and_then p f = pick (eqb p.refusal.number 0) (f p.schedule p.next) p

-- `k` text lines from line `n` on.
unfoldable pub read_lines : ℕ → ℕ → Schedule → List ℕ → ℕ → Part
read_lines zero n c s at = part_read at c
read_lines (suc k) n c s at = and_then (read_line n c s at) (λ d next. read_lines k (suc n) d s next)

-- "bytes follow the last (a line more)": nothing stands behind the last line, or line `n` is one too many.
abbrev pub at_end : ℕ → List ℕ → Schedule → ℕ → Part
at_end n s c at = pick (eqb at (length s)) (part_read at c) (part_refused (line_broken n))

-- The names and the counts, then the lines that the counts ask for, then the end.
unfoldable pub read_sheet : List ℕ → Part
read_sheet s =
    and_then (read_lines 2 1 zero_schedule s 0)
    (λ c at. and_then (read_lines (lines_left c) 3 c s at) (λ d next. at_end (lines_left c + 3) s d next))

abbrev pub answer : Part → ReadAnswer
answer p = record { refusal = p.refusal; schedule = p.schedule }

-- What reading the bytes `s` answers.
unfoldable pub read_of : List ℕ → ReadAnswer
read_of s = pick (ltb max_bytes (length s)) (answer (part_refused sheet_too_long)) (answer (read_sheet s))
