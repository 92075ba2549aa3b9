-- What the answers of `specs/Results.antt` say of the results: each leaves one result, no cause has number 0, and what the callers of `read`, `test` and `write` need.
use Rattle.std.proofs.Common.{Bool, true, false, ◌≡◌, refl, sym, ap, ◌∙◌, ℕ, ◌<◌, Option, Some, None, Result, Ok, Err, ℤ, pos, arith}
use lib.Dec.{eqb}
use borrow.Author.Tests.{eq-eqb, ne_eqb}
use native.Mathlib.Decide.{ℕ_discrete}
use Rattle.sheet.specs.Choice.{pick}
use Rattle.sheet.specs.Answers.{Refusal, ReadAnswer, WriteAnswer, Field, Number, Broken}
use Rattle.sheet.specs.Causes.{refusal, accepted}
use Rattle.sheet.specs.Results as Spec
use Rattle.sheet.specs.Results.{number, refusal_of, tested, read_answer, write_answer, field, fault_told}
use Rattle.sheet.specs.declared.Schedule.{Schedule}
use Rattle.sheet.specs.declared.causes.Cause.{Cause}
use Rattle.sheet.specs.declared.causes.Cause.TheVariants.{SheetTooLong, LineBroken, CountWrong, EndWrong, StepWrong, SpanPassed, ZeroInRange, RoomTooShort, NoSuchRow, NoFormula, StepCount, NoRoot}
use Rattle.sheet.specs.declared.causes.Refused.{Refused}
use Rattle.sheet.specs.declared.number.Found.{Found}

-- the cause that has a number
unfoldable cause_of : ℕ → Cause
cause_of n =
    pick (eqb n 1) SheetTooLong
    (pick (eqb n 2) LineBroken
    (pick (eqb n 3) CountWrong
    (pick (eqb n 4) EndWrong
    (pick (eqb n 5) StepWrong
    (pick (eqb n 6) SpanPassed
    (pick (eqb n 7) ZeroInRange
    (pick (eqb n 8) RoomTooShort
    (pick (eqb n 9) NoSuchRow
    (pick (eqb n 10) NoFormula
    (pick (eqb n 11) StepCount NoRoot))))))))))

cause_back : (c : Cause) → cause_of (number c) ≡ c
unfolding cause_of
cause_back SheetTooLong = refl
cause_back LineBroken = refl
cause_back CountWrong = refl
cause_back EndWrong = refl
cause_back StepWrong = refl
cause_back SpanPassed = refl
cause_back ZeroInRange = refl
cause_back RoomTooShort = refl
cause_back NoSuchRow = refl
cause_back NoFormula = refl
cause_back StepCount = refl
cause_back NoRoot = refl

-- a number tells its cause, and no cause has number 0
pub number_one : (a b : Cause) → number a ≡ number b → a ≡ b
number_one a b e = sym (cause_back a) ∙ ap cause_of e ∙ cause_back b

pub number_above : (c : Cause) → 0 < number c
number_above SheetTooLong = omega arith
number_above LineBroken = omega arith
number_above CountWrong = omega arith
number_above EndWrong = omega arith
number_above StepWrong = omega arith
number_above SpanPassed = omega arith
number_above ZeroInRange = omega arith
number_above RoomTooShort = omega arith
number_above NoSuchRow = omega arith
number_above NoFormula = omega arith
number_above StepCount = omega arith
number_above NoRoot = omega arith

pub number_some : (c : Cause) → number c ≡ 0 → ⊥
number_some c e = omega (arith, number_above c)

-- a refusal tells its cause and its place
pub refusal_one : (a b : Refused) → refusal_of a ≡ refusal_of b → a ≡ b
refusal_one a b e =
    let c : a.cause ≡ b.cause = number_one a.cause b.cause (ap (λ (r : Refusal). r.number) e) in
    let p : a.place ≡ b.place = ap (λ (r : Refusal). r.place) e in
    rw (c, p)

-- a test that passes answers nothing, and one that does not its refusal
pub ensured : (p : Bool) {u : Unit {0}} (c : Cause) (n : ℕ) → Ok u ≡ Spec.ensured p c n → p ≡ true
ensured true c n e = refl
ensured false c n e = search e

pub not_ensured : (p : Bool) (r : Refused) (c : Cause) (n : ℕ) → Err r ≡ Spec.ensured p c n → (p ≡ false) × (r ≡ record { cause = c; place = n })
not_ensured true r c n e = search e
not_ensured false r c n e = (refl, search e)

-- an error is one
pub error_one : {T E : Type 0} (x y : E) → ◌≡◌ {A = Result T E} (Err x) (Err y) → x ≡ y
error_one x y e = search e

-- the test of a line, by its fault
pub told_none : (f n : ℕ) → accepted ≡ fault_told f n → f ≡ 0
told_none f n e = elim (ℕ_discrete f 0) [
  | yes z ↦ z
  | no z ↦ absurd (z (sym (ap (λ (r : Refusal). r.number) (simp (ne_eqb f 0 z) at e))))
]

pub told_some : (r : Refused) (f n : ℕ) → refusal_of r ≡ fault_told f n → (f ≡ 0 → ⊥) × (refusal_of r ≡ refusal f n)
told_some r f n e = elim (ℕ_discrete f 0) [
  | yes z ↦ absurd (number_some r.cause (ap (λ (q : Refusal). q.number) (simp (eq-eqb f 0 z) at e)))
  | no z ↦ (z, simp (ne_eqb f 0 z) at e)
]

-- an answer leaves one result
pub tested_one : (a b : Result (Unit {0}) Refused) → tested a ≡ tested b → a ≡ b
tested_one (Ok x) (Ok y) e = refl
tested_one (Ok x) (Err y) e = absurd (number_some y.cause (ap (λ (r : Refusal). r.number) (sym e)))
tested_one (Err x) (Ok y) e = absurd (number_some x.cause (ap (λ (r : Refusal). r.number) e))
tested_one (Err x) (Err y) e = ap (λ (r : Refused). Err r) (refusal_one x y e)

pub read_answer_one : (a b : Result Schedule Refused) → read_answer a ≡ read_answer b → a ≡ b
read_answer_one (Ok x) (Ok y) e = ap (λ (r : ReadAnswer). Ok r.schedule) e
read_answer_one (Ok x) (Err y) e = absurd (number_some y.cause (ap (λ (r : ReadAnswer). r.refusal.number) (sym e)))
read_answer_one (Err x) (Ok y) e = absurd (number_some x.cause (ap (λ (r : ReadAnswer). r.refusal.number) e))
read_answer_one (Err x) (Err y) e = ap (λ (r : Refused). Err r) (refusal_one x y (ap (λ (r : ReadAnswer). r.refusal) e))

pub write_answer_one : (a b : Result ℕ Refused) → write_answer a ≡ write_answer b → a ≡ b
write_answer_one (Ok x) (Ok y) e = ap (λ (r : WriteAnswer). Ok r.length) e
write_answer_one (Ok x) (Err y) e = absurd (number_some y.cause (ap (λ (r : WriteAnswer). r.refusal.number) (sym e)))
write_answer_one (Err x) (Ok y) e = absurd (number_some x.cause (ap (λ (r : WriteAnswer). r.refusal.number) e))
write_answer_one (Err x) (Err y) e = ap (λ (r : Refused). Err r) (refusal_one x y (ap (λ (r : WriteAnswer). r.refusal) e))

-- what a number is where a field was read
unfoldable value_in : Field → ℤ
value_in (Number v n) = v
value_in Broken = pos 0

unfoldable next_in : Field → ℕ
next_in (Number v n) = n
next_in Broken = 0

unfoldable is_number : Field → ℕ
is_number (Number v n) = 1
is_number Broken = 0

pub field_one : (a b : Option (Found ℤ)) → field a ≡ field b → a ≡ b
unfolding value_in next_in is_number
field_one None None e = refl
field_one None (Some y) e = absurd (let n : ◌≡◌ {A = ℕ} 0 1 = ap is_number e in omega arith)
field_one (Some x) None e = absurd (let n : ◌≡◌ {A = ℕ} 1 0 = ap is_number e in omega arith)
field_one (Some x) (Some y) e =
    let v : x.value ≡ y.value = ap value_in e in
    let n : x.next ≡ y.next = ap next_in e in
    rw (v, n)

-- what an answer says in the arm `Ok` and in the arm `Err`: its number is 0, or it is not
pub ok_zero : {a : Refusal} → accepted ≡ a → a.number ≡ 0
ok_zero e = ap (λ (r : Refusal). r.number) (sym e)

pub err_some : (r : Refused) {a : Refusal} → refusal_of r ≡ a → a.number ≡ 0 → ⊥
err_some r e z = number_some r.cause (ap (λ (q : Refusal). q.number) e ∙ z)

pub read_zero : (c : Schedule) {a : ReadAnswer} → read_answer (Ok c) ≡ a → (a.refusal ≡ accepted) × (a.schedule ≡ c)
read_zero c e = (ap (λ (r : ReadAnswer). r.refusal) (sym e), ap (λ (r : ReadAnswer). r.schedule) (sym e))

pub read_some : (r : Refused) {a : ReadAnswer} → read_answer (Err r) ≡ a → a.refusal.number ≡ 0 → ⊥
read_some r e z = number_some r.cause (ap (λ (q : ReadAnswer). q.refusal.number) e ∙ z)

pub write_zero : (n : ℕ) {a : WriteAnswer} → write_answer (Ok n) ≡ a → (a.refusal ≡ accepted) × (a.length ≡ n)
write_zero n e = (ap (λ (r : WriteAnswer). r.refusal) (sym e), ap (λ (r : WriteAnswer). r.length) (sym e))

pub write_some : (r : Refused) {a : WriteAnswer} → write_answer (Err r) ≡ a → a.refusal.number ≡ 0 → ⊥
write_some r e z = number_some r.cause (ap (λ (q : WriteAnswer). q.refusal.number) e ∙ z)
