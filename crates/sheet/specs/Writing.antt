-- The test of a handed schedule by 3, 4 and 5 "as its lines would stand", its sheet, and what writing it leaves.
use Rattle.std.specs.Prelude.{◌≡◌, List, ℕ, zero, suc, ◌+◌, ltb, eqb, length}
use Rattle.std.proofs.lemmas.List.Edits.{sets}
use Rattle.sheet.specs.Choice.{pick}
use Rattle.sheet.specs.Text.{texts}
use Rattle.sheet.specs.Causes.{refusal, accepted, bytes_too_short}
use Rattle.sheet.specs.Lines.{line_at, lines_left, numbers, line_text}
use Rattle.sheet.specs.Tests.{fault}
use Rattle.sheet.specs.declared.Schedule.{Schedule}
use Rattle.sheet.specs.Answers.{Refusal, WriteAnswer}

-- The fault of text line `n` of a schedule's sheet, or 0.
unfoldable pub fault_at : Schedule → ℕ → ℕ
fault_at c n = fault (line_at c n) (numbers c (line_at c n))

-- The first faulty line among `k` text lines from line `n` on.
unfoldable pub test_lines : ℕ → ℕ → Schedule → Refusal
test_lines zero n c = accepted
test_lines (suc k) n c = pick (eqb (fault_at c n) 0) (test_lines k (suc n) c) (refusal (fault_at c n) n)

-- "A schedule handed to the writer or to evaluation is tested by 3, 4, 5 as its lines would stand". What lies beyond the counts is on no line.
unfoldable pub test_of : Schedule → Refusal
test_of c = pick (eqb (test_lines 2 1 c).number 0) (test_lines (lines_left c) 3 c) (test_lines 2 1 c)

-- The text of line `n` of a schedule's sheet.
unfoldable pub text_at : Schedule → ℕ → List ℕ
text_at c n = line_text (line_at c n) (numbers c (line_at c n))

-- The text of `k` lines from line `n` on.
abbrev pub lines_text : ℕ → ℕ → Schedule → List ℕ
lines_text k n c = texts k n (text_at c)

-- The sheet of a schedule.
unfoldable pub sheet_text : Schedule → List ℕ
sheet_text c = lines_text (lines_left c + 2) 1 c

abbrev pub not_written : Refusal → WriteAnswer
not_written r = record { refusal = r; length = 0 }

-- What writing `c` into `room` lent bytes answers: 3, 4, 5, then 8; "the writer returns the sheet's length".
unfoldable pub write_of : Schedule → ℕ → WriteAnswer
write_of c room =
    pick (eqb (test_of c).number 0)
    (pick (ltb room (length (sheet_text c))) (not_written bytes_too_short) (record { refusal = accepted; length = length (sheet_text c) }))
    (not_written (test_of c))

-- What the lent bytes hold afterwards: the sheet in front, and every byte beyond it as it was; all as it was on a refusal.
unfoldable pub left_of : Schedule → List ℕ → List ℕ
left_of c out = pick (eqb (write_of c (length out)).refusal.number 0) (sets out 0 (sheet_text c)) out

-- What `write` leaves behind: its answer, and every lent byte afterwards.
pub record Written (c : Schedule) (before after : List ℕ) (w : WriteAnswer) : Type 0 where
  pub answers : w ≡ write_of c (length before)
  pub leaves : after ≡ left_of c before
