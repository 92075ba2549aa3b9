-- What `read` says of a refused sheet (manual, sections 6.1 and 6.3): the place of a refusal by 2 to 5 is the first faulty text line, and of this line the layout, 2, is looked
-- at before the meaning, 3, 4 or 5.
use Rattle.std.specs.Prelude.{◌≡◌, ◌≢◌, List, ◌++◌, ℕ, ◌+◌, ◌-◌, ◌≤◌, ◌<◌, length, drop, ℤ}
use Rattle.sheet.specs.Answers.{Refusal}
use Rattle.sheet.specs.Lines.{line_at, lines_left, line_text, width}
use Rattle.sheet.specs.Reading.{padded}
use Rattle.sheet.specs.Tests.{fault}
use Rattle.sheet.specs.Text.{TenDigits}
use Rattle.sheet.specs.Writing.{fault_at, lines_text}
use Rattle.sheet.specs.declared.Line.{Line}
use Rattle.sheet.specs.declared.Schedule.{Schedule}

-- At position `at` of `s` a line of kind `l` is laid out as it must be, byte 10 and all: its names, or as many numbers as it holds, of ten digits at the most.
pub record LaidOut (l : Line) (s : List ℕ) (at : ℕ) : Type 0 where
  pub numbers : List ℤ
  pub count : length numbers ≡ width l
  pub short : TenDigits numbers
  pub rest : List ℕ
  pub stands : drop at s ≡ line_text l numbers ++ rest

-- The first `n` text lines of `s` are in order: they are those of some schedule's sheet, which has so many, and none of them is faulty.
pub record InOrder (n : ℕ) (s : List ℕ) : Type 0 where
  pub schedule : Schedule
  pub rest : List ℕ
  pub begins : s ≡ lines_text n 1 schedule ++ rest
  pub passes : (m : ℕ) → 1 ≤ m → m ≤ n → fault_at schedule m ≡ 0
  pub there : n ≤ lines_left schedule + 2

-- Where text line `n` of the sheet of `c` starts: behind the lines before it.
abbrev pub start_of : Schedule → ℕ → ℕ
start_of c n = length (lines_text (n - 1) 1 c)

-- By which number a faulty line of kind `l` at position `at` is refused: 2 if no such line is laid out there, as where it is missing or ends without byte 10; else
-- the fault of the numbers that it holds.
pub data LineFault (l : Line) (s : List ℕ) (at number : ℕ) : Type 0 where
  layout : number ≡ 2 → (LaidOut l s at → ⊥) → LineFault l s at number
  meaning : (line : LaidOut l s at) → fault l (padded line.numbers) ≡ number → number ≢ 0 → LineFault l s at number

-- By which number text line `n` is refused, the lines before it being those of the sheet of `c`: it is a line of this sheet, and faulty; or that sheet has ended, and
-- the bytes that follow count as a line more.
pub data FaultAt (c : Schedule) (s : List ℕ) (n number : ℕ) : Type 0 where
  in_line : n ≤ lines_left c + 2 → LineFault (line_at c n) s (start_of c n) number → FaultAt c s n number
  line_more : n ≡ lines_left c + 3 → number ≡ 2 → start_of c n < length s → FaultAt c s n number

-- The first fault of `s` is `r`: the text lines before its place are in order, with the line there they are not, and its number is why. What kind of line stands there is
-- certain: lines 1 to 3 are alike in every sheet, and the counts on line 2 tell all others.
pub record FirstFault (s : List ℕ) (r : Refusal) : Type 0 where
  pub before : InOrder (r.place - 1) s
  pub not_with_it : InOrder r.place s → ⊥
  pub why : FaultAt before.schedule s r.place r.number
