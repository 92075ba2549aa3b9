-- When two schedules are the same ("The sheet": manual, section 2.7), and a schedule with zeros beyond its counts.
use Rattle.std.specs.Prelude.{◌≡◌, List, [], ◌∷◌, ℕ, zero, suc, ◌<◌, replicate}
use Rattle.capacity.specs.Limits.{max_inputs, max_steps}
use Rattle.sheet.specs.Lines.{natural, zero_end, zero_step, ends_at, step_at}
use Rattle.sheet.specs.declared.Schedule.{Schedule}

-- "Two schedules are the same if counts, ends and steps within the counts agree."
pub record Same (c d : Schedule) : Type 0 where
  pub inputs_same : c.inputs ≡ d.inputs
  pub squares_same : c.squares ≡ d.squares
  pub steps_same : c.steps ≡ d.steps
  pub ends_same : (i : ℕ) → i < natural c.inputs → ends_at c i ≡ ends_at d i
  pub step_same : (j : ℕ) → j < natural c.steps → step_at c j ≡ step_at d j

-- A list of `room` entries: the first `n` of `f`, then `z`.
unfoldable pub up_to : {A : Type 0} → ℕ → ℕ → (ℕ → A) → A → List A
up_to room zero f z = replicate room z
up_to zero (suc n) f z = []
up_to (suc room) (suc n) f z = f 0 ∷ up_to room n (λ i. f (suc i)) z

-- "What is read holds 0 beyond its counts."
unfoldable pub trimmed : Schedule → Schedule
trimmed c = record {
  inputs = c.inputs;
  squares = c.squares;
  steps = c.steps;
  ends = up_to max_inputs (natural c.inputs) (ends_at c) zero_end;
  step = up_to max_steps (natural c.steps) (step_at c) zero_step;
}
