-- The answer of `Answers.antt` that each result of the code stands for: "Where the answer is an enum, there is a definition that gives
-- this paper's number and values for each of its cases."
use Rattle.std.specs.Prelude.{◌≡◌, Bool, true, false, Option, Some, None, Result, Ok, Err, List, ◌∷◌, ◌++◌, ℕ, ℤ, eqb, ltb, decimal}
use Rattle.sheet.specs.Choice.{pick}
use Rattle.sheet.specs.Answers.{Refusal, ReadAnswer, WriteAnswer, Field, Number, Broken, Fields, Part}
use Rattle.sheet.specs.Causes.{refusal, accepted}
use Rattle.sheet.specs.Lines.{zero_schedule}
use Rattle.sheet.specs.Reading.{no_fields, part_read, part_refused}
use Rattle.sheet.specs.Writing.{not_written}
use Rattle.sheet.specs.declared.Schedule.{Schedule}
use Rattle.sheet.specs.declared.causes.Cause.{Cause}
use Rattle.sheet.specs.declared.causes.Cause.TheVariants.{SheetTooLong, LineBroken, CountWrong, EndWrong, StepWrong, SpanPassed, ZeroInRange, RoomTooShort, NoSuchRow, NoFormula, StepCount, NoRoot}
use Rattle.sheet.specs.declared.causes.Refused.{Refused}
use Rattle.sheet.specs.declared.number.Found.{Found}

-- The numbers of the table of "Causes and what follows" (manual, section 6).
abbrev pub number : Cause → ℕ
number SheetTooLong = 1
number LineBroken = 2
number CountWrong = 3
number EndWrong = 4
number StepWrong = 5
number SpanPassed = 6
number ZeroInRange = 7
number RoomTooShort = 8
number NoSuchRow = 9
number NoFormula = 10
number StepCount = 11
number NoRoot = 12

abbrev pub refusal_of : Refused → Refusal
refusal_of r = refusal (number r.cause) r.place

-- A refusal as it is printed: number, a blank, place.
abbrev pub refused_text : Refused → List ℕ
refused_text r = decimal (number r.cause) ++ (32 ∷ decimal r.place)

-- What a test answers: nothing where it passes, else the refusal for a cause at a place.
abbrev pub ensured : Bool → Cause → ℕ → Result (Unit {0}) Refused
ensured true cause place = Ok tt
ensured false cause place = Err (record { cause = cause; place = place })

-- "An accepted call has number 0 and place 0."
abbrev pub tested : Result (Unit {0}) Refused → Refusal
tested (Ok u) = accepted
tested (Err r) = refusal_of r

-- "Beside a refusal every other answer is 0, no, or a schedule of zeros."
abbrev pub read_answer : Result Schedule Refused → ReadAnswer
read_answer (Ok c) = record { refusal = accepted; schedule = c }
read_answer (Err r) = record { refusal = refusal_of r; schedule = zero_schedule }

abbrev pub write_answer : Result ℕ Refused → WriteAnswer
write_answer (Ok n) = record { refusal = accepted; length = n }
write_answer (Err r) = not_written (refusal_of r)

-- The digit below 10 that a number is.
abbrev pub as_digit : ℕ → Option ℕ
as_digit d = pick (ltb d 10) (Some d) None

abbrev pub field : Option (Found ℤ) → Field
field (Some n) = Number n.value n.next
field None = Broken

abbrev pub fields : Option (Found (List ℤ)) → Fields
fields (Some f) = record { ok = true; next = f.next; values = f.value }
fields None = no_fields

-- What the test of text line `n` answers, by the line's fault, or 0.
abbrev pub fault_told : ℕ → ℕ → Refusal
fault_told fault n = pick (eqb fault 0) accepted (refusal fault n)

-- One line or several, read into a schedule that is `c` afterwards, up to the position that is answered.
abbrev pub part : Schedule → Result ℕ Refused → Part
part c (Ok next) = part_read next c
part c (Err r) = part_refused (refusal_of r)

-- ---- the claims: an answer tells its result, so that a contract that gives the answer leaves one result
abbrev pub TestAnswersTell : Type 0
TestAnswersTell = (a b : Result (Unit {0}) Refused) → tested a ≡ tested b → a ≡ b

abbrev pub ReadAnswersTell : Type 0
ReadAnswersTell = (a b : Result Schedule Refused) → read_answer a ≡ read_answer b → a ≡ b

abbrev pub WriteAnswersTell : Type 0
WriteAnswersTell = (a b : Result ℕ Refused) → write_answer a ≡ write_answer b → a ≡ b
