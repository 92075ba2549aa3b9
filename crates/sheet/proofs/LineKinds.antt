-- The kinds of lines: which line is of which kind, and what storing one line's numbers does to the numbers of it and of the others.
use mathlib.Core.Path.{◌≡◌, refl, ap, ◌∙◌}
use mathlib.Core.List.{List, [], ◌∷◌}
use Prim.Native.Nat.{ℕ, ◌+◌, ◌-◌, ◌≤◌, ◌<◌}
use native.Mathlib.Omega.{arith}
use native.Mathlib.Decide.{dec_lt, ℕ_discrete}
use borrow.Author.Tests.{lt-ltb, le-ltb, lt-leb, eq-eqb, ne_eqb}
use lib.ListN.{length, take, length-set}
use lib.Seq.{get_or-set_same, get_or-set_other}
use lib.IntN.{ℤ}
use Rattle.capacity.specs.Limits.{max_inputs, max_steps}
use Rattle.sheet.specs.Text.{line}
use Rattle.sheet.specs.Lines.{line_of, names, width, numbers, line_text, store, ends_of, step_of, zero_end, zero_step, end_numbers, step_numbers}
use Rattle.sheet.specs.Tests.{fault}
use Rattle.sheet.specs.Reading.{padded}
use Rattle.sheet.specs.declared.End.{End}
use Rattle.sheet.specs.declared.Step.{Step}
use Rattle.sheet.specs.declared.Schedule.{Schedule}
use Rattle.sheet.specs.declared.Line.{Line}
use Rattle.sheet.specs.declared.Line.TheVariants.{CountNames, CountLine, EndNames, EndLine, StepNames, StepLine}

-- what line `n` from 3 on is
pub data Kind (inputs n : ℕ) : Line → Type 0 where
  end_names : n ≡ 3 → Kind inputs n EndNames
  end_line : 4 ≤ n → n - 4 < inputs → Kind inputs n (EndLine (n - 4))
  step_names : n ≡ inputs + 4 → Kind inputs n StepNames
  step_line : inputs + 5 ≤ n → Kind inputs n (StepLine (n - 5 - inputs) (n - 5))

module _ (inputs n : ℕ) where
  pub third_line : n ≡ 3 → line_of inputs n ≡ EndNames
  unfolding line_of
  third_line e = rw e

  pub is_end_line : 4 ≤ n → n - 4 < inputs → line_of inputs n ≡ EndLine (n - 4)
  unfolding line_of
  is_end_line h l = simp (lt-leb n 1 (omega arith), ne_eqb n 2 (λ e. omega arith), ne_eqb n 3 (λ e. omega arith), lt-ltb (n - 4) inputs l)

  pub is_step_names : n ≡ inputs + 4 → line_of inputs n ≡ StepNames
  unfolding line_of
  is_step_names e =
      simp (
        lt-leb n 1 (omega arith),
        ne_eqb n 2 (λ z. omega arith),
        ne_eqb n 3 (λ z. omega arith),
        le-ltb (n - 4) inputs (omega arith),
        eq-eqb (n - 4) inputs (omega arith),
      )

  pub is_step_line : inputs + 5 ≤ n → line_of inputs n ≡ StepLine (n - 5 - inputs) (n - 5)
  unfolding line_of
  is_step_line h =
      simp (
        lt-leb n 1 (omega arith),
        ne_eqb n 2 (λ z. omega arith),
        ne_eqb n 3 (λ z. omega arith),
        le-ltb (n - 4) inputs (omega arith),
        ne_eqb (n - 4) inputs (λ z. omega arith),
      )

  pub kind : 3 ≤ n → Kind inputs n (line_of inputs n)
  kind h = go (ℕ_discrete n 3) (dec_lt (n - 4) inputs) (ℕ_discrete n (inputs + 4))
    where
      go : Dec (n ≡ 3) → Dec (n - 4 < inputs) → Dec (n ≡ inputs + 4) → Kind inputs n (line_of inputs n)
      go (yes e) d f = rw (third_line e) (end_names e)
      go (no e) (yes l) f = let g : 4 ≤ n = omega (arith, e) in rw (is_end_line g l) (end_line g l)
      go (no e) (no l) (yes f) = rw (is_step_names f) (step_names f)
      go (no e) (no l) (no f) = let g : inputs + 5 ≤ n = omega (arith, e, l, f) in rw (is_step_line g) (step_line g)

-- the line of an input's ends, and that of a step
pub ends_line_is : (inputs i : ℕ) → i < inputs → line_of inputs (4 + i) ≡ EndLine i
ends_line_is inputs i h =
    let k : 4 + i - 4 ≡ i = omega arith in
    is_end_line inputs (4 + i) (omega arith) (omega arith) ∙ rw k

pub step_line_is : (inputs i : ℕ) → line_of inputs (5 + inputs + i) ≡ StepLine i (inputs + i)
step_line_is inputs i =
    let a : 5 + inputs + i - 5 - inputs ≡ i = omega arith in
    let b : 5 + inputs + i - 5 ≡ inputs + i = omega arith in
    is_step_line inputs (5 + inputs + i) (omega arith) ∙ rw (a, b)

-- a schedule's lists have the room that the limits name
pub record Shape (c : Schedule) : Type 0 where
  pub ends_room : length c.ends ≡ max_inputs
  pub step_room : length c.step ≡ max_steps

pub shape_store : (c : Schedule) (l : Line) (v : List ℤ) → Shape c → Shape (store c l v)
unfolding store
shape_store c CountNames v h = h
shape_store c CountLine v h = record { ends_room = h.ends_room; step_room = h.step_room }
shape_store c EndNames v h = h
shape_store c (EndLine i) v h = record { ends_room = length-set c.ends i (ends_of v) ∙ h.ends_room; step_room = h.step_room }
shape_store c StepNames v h = h
shape_store c (StepLine i r) v h = record { ends_room = h.ends_room; step_room = length-set c.step i (step_of v) ∙ h.step_room }

-- the line's place lies within that room
abbrev pub Room : Line → Type 0
Room CountNames = Unit {0}
Room CountLine = Unit {0}
Room EndNames = Unit {0}
Room (EndLine i) = i < max_inputs
Room StepNames = Unit {0}
Room (StepLine i r) = i < max_steps

-- the numbers of a line that was stored are those that were stored
pub numbers_stored : (c : Schedule) (l : Line) (xs : List ℤ) → Shape c → Room l → length xs ≡ width l → numbers (store c l (padded xs)) l ≡ xs
unfolding numbers store
numbers_stored c CountNames [] h r e = refl
numbers_stored c CountNames (x ∷ xs) h r e = absurd (omega arith)
numbers_stored c CountLine (x ∷ y ∷ z ∷ []) h r e = refl
numbers_stored c CountLine [] h r e = absurd (omega arith)
numbers_stored c CountLine (x ∷ []) h r e = absurd (omega arith)
numbers_stored c CountLine (x ∷ y ∷ []) h r e = absurd (omega arith)
numbers_stored c CountLine (x ∷ y ∷ z ∷ u ∷ xs) h r e = absurd (omega arith)
numbers_stored c EndNames [] h r e = refl
numbers_stored c EndNames (x ∷ xs) h r e = absurd (omega arith)
numbers_stored c (EndLine i) (x ∷ y ∷ []) h r e =
    let w : End = record { low = x; high = y } in
    ap end_numbers (get_or-set_same c.ends i w zero_end (omega (arith, h.ends_room)))
numbers_stored c (EndLine i) [] h r e = absurd (omega arith)
numbers_stored c (EndLine i) (x ∷ []) h r e = absurd (omega arith)
numbers_stored c (EndLine i) (x ∷ y ∷ z ∷ xs) h r e = absurd (omega arith)
numbers_stored c StepNames [] h r e = refl
numbers_stored c StepNames (x ∷ xs) h r e = absurd (omega arith)
numbers_stored c (StepLine i k) (x ∷ y ∷ z ∷ u ∷ []) h r e =
    let w : Step = record { code = x; first = y; second = z; value = u } in
    ap step_numbers (get_or-set_same c.step i w zero_step (omega (arith, h.step_room)))
numbers_stored c (StepLine i k) [] h r e = absurd (omega arith)
numbers_stored c (StepLine i k) (x ∷ []) h r e = absurd (omega arith)
numbers_stored c (StepLine i k) (x ∷ y ∷ []) h r e = absurd (omega arith)
numbers_stored c (StepLine i k) (x ∷ y ∷ z ∷ []) h r e = absurd (omega arith)
numbers_stored c (StepLine i k) (x ∷ y ∷ z ∷ u ∷ t ∷ xs) h r e = absurd (omega arith)

-- counts, and the numbers of an earlier line, stay as they are
pub record SameCounts (c d : Schedule) : Type 0 where
  pub inputs_same : c.inputs ≡ d.inputs
  pub squares_same : c.squares ≡ d.squares
  pub steps_same : c.steps ≡ d.steps

counts_kept : {inputs n : ℕ} {l : Line} → Kind inputs n l → (c : Schedule) (v : List ℤ) → SameCounts (store c l v) c
unfolding store
counts_kept (end_names e) c v = record { inputs_same = refl; squares_same = refl; steps_same = refl }
counts_kept (end_line h l) c v = record { inputs_same = refl; squares_same = refl; steps_same = refl }
counts_kept (step_names e) c v = record { inputs_same = refl; squares_same = refl; steps_same = refl }
counts_kept (step_line h) c v = record { inputs_same = refl; squares_same = refl; steps_same = refl }

pub store_counts : (inputs n : ℕ) → 3 ≤ n → (c : Schedule) (v : List ℤ) → SameCounts (store c (line_of inputs n) v) c
store_counts inputs n h = counts_kept (kind inputs n h)

other_kept : {inputs n m : ℕ} {l k : Line} → Kind inputs n l → Kind inputs m k → m < n → (c : Schedule) (v : List ℤ) → numbers (store c l v) k ≡ numbers c k
unfolding numbers store
other_kept (end_names e) k h c v = refl
other_kept (step_names e) k h c v = refl
other_kept (end_line a l) (end_names e) h c v = refl
other_kept {n = n} {m = m} (end_line a l) (end_line b k) h c v = ap end_numbers (get_or-set_other c.ends (n - 4) (m - 4) (ends_of v) zero_end (λ z. omega arith))
other_kept (end_line a l) (step_names e) h c v = refl
other_kept (end_line a l) (step_line b) h c v = refl
other_kept (step_line a) (end_names e) h c v = refl
other_kept (step_line a) (end_line b k) h c v = refl
other_kept (step_line a) (step_names e) h c v = refl
other_kept {inputs = inputs} {n = n} {m = m} (step_line a) (step_line b) h c v =
    ap step_numbers (get_or-set_other c.step (n - 5 - inputs) (m - 5 - inputs) (step_of v) zero_step (λ z. omega arith))

pub store_other : (inputs n m : ℕ) → 3 ≤ m → m < n → (c : Schedule) (v : List ℤ) → numbers (store c (line_of inputs n) v) (line_of inputs m) ≡ numbers c (line_of inputs m)
store_other inputs n m g h = other_kept (kind inputs n (omega arith)) (kind inputs m g) h

-- a line of names stores and tests nothing
pub names_store : (c : Schedule) (l : Line) (v : List ℤ) → width l ≡ 0 → store c l v ≡ c
unfolding store
names_store c CountNames v e = refl
names_store c CountLine v e = absurd (omega arith)
names_store c EndNames v e = refl
names_store c (EndLine i) v e = absurd (omega arith)
names_store c StepNames v e = refl
names_store c (StepLine i r) v e = absurd (omega arith)

pub names_fault : (l : Line) (v : List ℤ) → width l ≡ 0 → fault l v ≡ 0
unfolding fault
names_fault CountNames v e = refl
names_fault CountLine v e = absurd (omega arith)
names_fault EndNames v e = refl
names_fault (EndLine i) v e = absurd (omega arith)
names_fault StepNames v e = refl
names_fault (StepLine i r) v e = absurd (omega arith)

pub numbers_width : (c : Schedule) (l : Line) → length (numbers c l) ≡ width l
unfolding numbers
numbers_width c CountNames = refl
numbers_width c CountLine = refl
numbers_width c EndNames = refl
numbers_width c (EndLine i) = refl
numbers_width c StepNames = refl
numbers_width c (StepLine i r) = refl

-- the zeros behind a line's numbers are none of them
numbers_front : (c : Schedule) (l : Line) → take (width l) (padded (numbers c l)) ≡ numbers c l
unfolding numbers
numbers_front c CountNames = refl
numbers_front c CountLine = refl
numbers_front c EndNames = refl
numbers_front c (EndLine i) = refl
numbers_front c StepNames = refl
numbers_front c (StepLine i r) = refl

-- a line's text by its width, as `put_line` writes it
module _ (c : Schedule) (l : Line) where
  pub text_of_names : width l ≡ 0 → line_text l (numbers c l) ≡ names l
  unfolding line_text
  text_of_names e = rw e

  pub text_of_numbers : (width l ≡ 0 → ⊥) → line_text l (numbers c l) ≡ line (take (width l) (padded (numbers c l)))
  unfolding line_text
  text_of_numbers f = simp (ne_eqb (width l) 0 f, numbers_front c l)
