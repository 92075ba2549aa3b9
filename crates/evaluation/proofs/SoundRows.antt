-- Whatever an answer says, its row has as many numbers as a row has and lies within the span limit, for what is not checked is a row of zeros; it tells
-- the radius of its row, and a step's answer the range of its row's form.
use mathlib.Core.Path.{◌≡◌, refl}
use mathlib.Core.List.{List}
use Prim.Native.Nat.{ℕ, ◌-◌, ◌≤◌}
use native.Mathlib.Omega.{arith}
use borrow.Author.Tests.{leb-true}
use lib.Dec.{eqb, leb, ltb}
use lib.IntN.{ℤ, pos, ◌+ℤ◌, ◌-ℤ◌}
use lib.ListN.{length}
use Rattle.affine.specs.declared.Row.{Row}
use Rattle.affine.specs.declared.Range.{Range}
use Rattle.affine.specs.Answer.{Answer}
use Rattle.affine.specs.Answer.{Status}
use Rattle.affine.specs.Answer.{SpanPassed, ZeroInRange, NoRoot}
use Rattle.affine.specs.Limits.{span_limit}
use Rattle.affine.specs.Lists.{pick, tabulate, sum}
use Rattle.affine.specs.PairOrder.{over_pairs, firsts, seconds}
use Rattle.affine.specs.Row.{span, radius, within_span, pair_below, pair_above, pairs_below, pairs_above, low, high, form_range}
use Rattle.affine.specs.Steps.{constant_row, zip_rows, checked, checked_with, ends_range, input_row, refused, accepted as accepted_row}
use Rattle.affine.specs.Product.{product_row}
use Rattle.affine.specs.Reciprocal.{zero_in_range, distance, candidate, reciprocal_row, reciprocal_apart, reciprocal}
use Rattle.affine.specs.Root.{root_candidate, root_row, below_one, starts_below_zero, root_from, square_root}
use Rattle.affine.proofs.Lists.{pick_elim}
use Rattle.affine.proofs.Answers.{zeros_radius, answer_radius}
use Rattle.affine.proofs.Form.{Shaped}
use Rattle.affine.proofs.WellFormed.{constant_shaped, input_shaped, zip_shaped, product_shaped, reciprocal_shaped, root_shaped}
use Rattle.sheet.specs.declared.Step.{Step}
use Rattle.sheet.specs.declared.Schedule.{Schedule}
use Rattle.sheet.specs.Lines.{natural, ends_at, step_at}
use Rattle.sheet.specs.Limits.{last_binary}
use Rattle.evaluation.specs.Ranges.{row_of, named_range, operand_ranges}
use Rattle.evaluation.specs.Work.{named_row, binary_answer, unary_answer, step_answer, row_answer}

-- ---- how a step makes its row, which owns a symbol: what the row has, K, from what each operand has, J
pub record Kept (J K : Row → Type 0) (squares own : ℕ) : Type 0 where
  pub constant : (v : ℤ) → K (constant_row v)
  pub zip : (f : ℤ → ℤ → ℤ) → f (pos 0) (pos 0) ≡ pos 0 → (x y : Row) → J x → J y → K (zip_rows f x y)
  pub product : (x y : Row) → J x → J y → K (product_row squares own x y)
  pub reciprocal : (x : Row) (a : ℕ) → J x → K (reciprocal_row squares own x a)
  pub root : (x : Row) (least : ℤ) → J x → K (root_row squares own x least)

-- what holds of every checked row of that kind, and of every refusal, holds of a step's answer
module _ (P : Answer → Type 0) (J K : Row → Type 0) (of_checked : (r : Row) → K r → P (checked r)) (of_refused : (s : Status) → P (refused s)) where
  of_reciprocal : (squares own : ℕ) → Kept J K squares own → (x : Row) (range : Range) → J x → P (reciprocal squares own x range)
  of_reciprocal squares own kept x range hx =
      let r = reciprocal_row squares own x (distance range) in
      pick_elim P (zero_in_range range) (refused ZeroInRange) (reciprocal_apart squares own x (distance range))
      (λ e. of_refused ZeroInRange)
      (λ e. pick_elim P (within_span (candidate squares x)) (checked r) (refused SpanPassed)
      (λ e. of_checked r (kept.reciprocal x (distance range) hx)) (λ e. of_refused SpanPassed))

  of_root : (squares own : ℕ) → Kept J K squares own → (x : Row) (range : Range) → J x → P (square_root squares own x range)
  of_root squares own kept x range hx =
      let r = root_row squares own x range.low in
      pick_elim P (below_one range) (refused NoRoot) (root_from squares own x range.low)
      (λ e. of_refused NoRoot)
      (λ e. pick_elim P (within_span (root_candidate x)) (pick (starts_below_zero (root_candidate x)) (refused NoRoot) (checked r)) (refused SpanPassed)
      (λ e. pick_elim P (starts_below_zero (root_candidate x)) (refused NoRoot) (checked r) (λ e. of_refused NoRoot) (λ e. of_checked r (kept.root x range.low hx)))
      (λ e. of_refused SpanPassed))

  of_unary : (squares own : ℕ) → Kept J K squares own → (code : ℤ) (x : Row) (range : Range) → J x → P (unary_answer squares own code x range)
  unfolding unary_answer
  of_unary squares own kept code x range hx =
      pick_elim P (eqb (natural code) 5) _ _ (λ e. of_reciprocal squares own kept x range hx) (λ e. of_root squares own kept x range hx)

  of_binary : (squares own : ℕ) → Kept J K squares own → (code : ℤ) (x y : Row) → J x → J y → P (binary_answer squares own code x y)
  unfolding binary_answer
  of_binary squares own kept code x y hx hy =
      pick_elim P (eqb (natural code) 2) _ _
      (λ e. of_checked _ (kept.zip (λ a b. a +ℤ b) refl x y hx hy))
      (λ e. pick_elim P (eqb (natural code) 3) _ _ (λ e. of_checked _ (kept.zip (λ a b. a -ℤ b) refl x y hx hy)) (λ e. of_checked _ (kept.product x y hx hy)))

  pub of_step : (squares : ℕ) (rows : List Row) → Kept J K squares (length rows) → ((k : ℕ) → J (row_of rows k)) → (ranges : List Range) (t : Step)
      → P (step_answer squares rows ranges t)
  unfolding step_answer
  of_step squares rows kept operand ranges t =
      let first = operand (natural t.first - 1) in
      let second = operand (natural t.second - 1) in
      pick_elim P (eqb (natural t.code) 1) _ _
      (λ e. of_checked _ (kept.constant t.value))
      (λ e. pick_elim P (leb (natural t.code) last_binary) _ _
      (λ e. of_binary squares (length rows) kept t.code (named_row rows t.first) (named_row rows t.second) first second)
      (λ e. of_unary squares (length rows) kept t.code (named_row rows t.first) (named_range ranges t.first) first))

-- every row that a step makes has a row's numbers, whatever its operands are
abbrev Any : Row → Type 0
Any x = Unit {0}

shaped : (squares own : ℕ) → Kept Any Shaped squares own
shaped squares own =
    record {
      constant = constant_shaped;
      zip = λ f z x y hx hy. zip_shaped f x y;
      product = λ x y hx hy. product_shaped squares own x y;
      reciprocal = λ x a hx. reciprocal_shaped squares own x a;
      root = λ x least hx. root_shaped squares own x least;
    }

-- ---- the row of any answer
pub record Sound (r : Row) : Type 0 where
  pub shaped : Shaped r
  pub within : span r ≤ span_limit

zeros_sound : Sound (constant_row (pos 0))
unfolding span
zeros_sound = record { shaped = constant_shaped (pos 0); within = omega arith }

abbrev SoundAnswer : Answer → Type 0
SoundAnswer a = Sound a.row

checked_sound : (r : Row) (own : Range) → Shaped r → SoundAnswer (checked_with r own)
checked_sound r own s =
    pick_elim SoundAnswer (within_span r) (accepted_row r own) (refused SpanPassed) (λ e. record { shaped = s; within = leb-true (span r) span_limit e }) (λ e. zeros_sound)

pub row_sound : (c : Schedule) (rows : List Row) → Sound (row_answer c rows).row
unfolding row_answer
row_sound c rows =
    let n = length rows in
    let low = (ends_at c n).low in
    let high = (ends_at c n).high in
    pick_elim SoundAnswer (ltb n (natural c.inputs)) _ _
    (λ e. checked_sound (input_row n low high) (ends_range low high) (input_shaped n low high))
    (λ e. of_step SoundAnswer Any Shaped (λ r s. checked_sound r (form_range r) s) (λ s. zeros_sound)
    (natural c.squares) rows (shaped (natural c.squares) n) (λ k. tt) (operand_ranges c rows) (step_at c (n - natural c.inputs)))

-- ---- the range of a step's answer
abbrev TellsForm : Answer → Type 0
TellsForm a = a.range ≡ form_range a.row

refused_tells : (s : Status) → TellsForm (refused s)
unfolding low high pairs_below pairs_above pair_below pair_above tabulate sum over_pairs firsts seconds
refused_tells s = refl

pub step_tells : (squares : ℕ) (rows : List Row) (ranges : List Range) (t : Step) → TellsForm (step_answer squares rows ranges t)
step_tells squares rows =
    of_step TellsForm Any Shaped
    (λ r s. pick_elim TellsForm (within_span r) (accepted_row r (form_range r)) (refused SpanPassed) (λ e. refl) (λ e. refused_tells SpanPassed))
    refused_tells
    squares rows (shaped squares (length rows)) (λ k. tt)

-- ---- the radius of any answer is that of its row
abbrev TellsRadius : Answer → Type 0
TellsRadius a = a.radius ≡ radius a.row

pub row_radius : (c : Schedule) (rows : List Row) → TellsRadius (row_answer c rows)
unfolding row_answer
row_radius c rows =
    let n = length rows in
    let low = (ends_at c n).low in
    let high = (ends_at c n).high in
    pick_elim TellsRadius (ltb n (natural c.inputs)) _ _
    (λ e. answer_radius (input_row n low high) (ends_range low high))
    (λ e. of_step TellsRadius Any Shaped (λ r s. answer_radius r (form_range r)) (λ s. zeros_radius)
    (natural c.squares) rows (shaped (natural c.squares) n) (λ k. tt) (operand_ranges c rows) (step_at c (n - natural c.inputs)))
