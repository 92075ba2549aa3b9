-- Reading the lines of a schedule into zeros makes that schedule with zeros beyond its counts: line after line, the lists hold one entry more.
use mathlib.Core.Path.{◌≡◌, refl, sym, ap, ◌∙◌}
use mathlib.Core.List.{List, ◌∷◌}
use Prim.Native.Nat.{ℕ, zero, suc, ◌+◌, ◌-◌, ◌≤◌, ◌<◌}
use native.Mathlib.Nat.{add-zero}
use native.Mathlib.Omega.{arith}
use native.Mathlib.Decide.{dec_lt}
use lib.ListN.{get_or, set, replicate, length-replicate, get_or-replicate, get_or-eq_default}
use lib.IntN.{ℤ}
use Rattle.capacity.specs.Limits.{max_inputs, max_steps}
use Rattle.sheet.specs.Lines.{natural, zero_schedule, zero_end, zero_step, ends_at, step_at, line_at, lines_left, numbers, store}
use Rattle.sheet.specs.Reading.{padded}
use Rattle.sheet.specs.Same.{Same, up_to, trimmed}
use Rattle.sheet.specs.declared.End.{End}
use Rattle.sheet.specs.declared.Step.{Step}
use Rattle.sheet.specs.declared.Schedule.{Schedule}
use Rattle.sheet.specs.declared.Line.{Line}
use Rattle.sheet.specs.declared.Line.TheVariants.{CountLine}
use Rattle.sheet.proofs.LineKinds.{Kind, end_names, end_line, step_names, step_line, kind, Room, SameCounts}
use Rattle.sheet.proofs.SheetRead.{copied}
use Rattle.sheet.proofs.CountsRead.{counted}

-- one entry more
pub set_up_to : {A : Type 0} (room i : ℕ) (f : ℕ → A) (z : A) → i < room → set (up_to room i f z) i (f i) ≡ up_to room (suc i) f z
unfolding up_to
set_up_to zero i f z h = absurd (omega arith)
set_up_to (suc room) zero f z h = refl
set_up_to (suc room) (suc i) f z h = ap (λ l. f 0 ∷ l) (set_up_to room i (λ j. f (suc j)) z (omega arith))

pub up_to_within : {A : Type 0} (room n i : ℕ) (f : ℕ → A) (z : A) → n ≤ room → i < n → get_or (up_to room n f z) i z ≡ f i
unfolding up_to
up_to_within room zero i f z h g = absurd (omega arith)
up_to_within zero (suc n) i f z h g = absurd (omega arith)
up_to_within (suc room) (suc n) zero f z h g = refl
up_to_within (suc room) (suc n) (suc i) f z h g = up_to_within room n i (λ j. f (suc j)) z (omega arith) (omega arith)

pub up_to_beyond : {A : Type 0} (room n i : ℕ) (f : ℕ → A) (z : A) → n ≤ i → get_or (up_to room n f z) i z ≡ z
unfolding up_to
up_to_beyond room zero i f z h = elim (dec_lt i room) [ yes l ↦ get_or-replicate room i z z l | no l ↦ get_or-eq_default (replicate room z) z (rw length-replicate (omega arith)) ]
up_to_beyond zero (suc n) i f z h = refl
up_to_beyond (suc room) (suc n) zero f z h = absurd (omega arith)
up_to_beyond (suc room) (suc n) (suc i) f z h = up_to_beyond room n i (λ j. f (suc j)) z (omega arith)

-- how many ends and how many steps stand before line `n`, `k` being the number of inputs
ends_before : ℕ → ℕ → ℕ
ends_before k n = k - (k + 4 - n)

steps_before : ℕ → ℕ → ℕ
steps_before k n = n - 5 - k

module _ (k n : ℕ) where
  no_ends : n ≤ 4 → ends_before k n ≡ 0
  unfolding ends_before
  no_ends h = omega arith

  some_ends : 4 ≤ n → n - 4 ≤ k → ends_before k n ≡ n - 4
  unfolding ends_before
  some_ends g h = omega arith

  all_ends : k + 4 ≤ n → ends_before k n ≡ k
  unfolding ends_before
  all_ends h = omega arith

  no_steps : n ≤ k + 5 → steps_before k n ≡ 0
  unfolding steps_before
  no_steps h = omega arith

  some_steps : steps_before k n ≡ n - 5 - k
  unfolding steps_before
  some_steps = refl

  one_step_more : k + 5 ≤ n → steps_before k (suc n) ≡ suc (n - 5 - k)
  unfolding steps_before
  one_step_more h = omega arith

all_steps : (k t : ℕ) → steps_before k (3 + (k + t + 2)) ≡ t
unfolding steps_before
all_steps k t = omega arith

-- before line `n` was read, `c` holds the ends and steps of `w` on earlier lines, and zeros beyond them
record Held (n : ℕ) (w c : Schedule) : Type 0 where
  counts : SameCounts c w
  ends_held : c.ends ≡ up_to max_inputs (ends_before (natural w.inputs) n) (ends_at w) zero_end
  step_held : c.step ≡ up_to max_steps (steps_before (natural w.inputs) n) (step_at w) zero_step

held_more : (w c : Schedule) {n : ℕ} {l : Line} → Kind (natural w.inputs) n l → Room l → Held n w c → Held (suc n) w (store c l (padded (numbers w l)))
unfolding store numbers
held_more w c {n} (end_names e) r h =
    let k = natural w.inputs in
    let a : ends_before k (suc n) ≡ ends_before k n = no_ends k (suc n) (omega arith) ∙ sym (no_ends k n (omega arith)) in
    let b : steps_before k (suc n) ≡ steps_before k n = no_steps k (suc n) (omega arith) ∙ sym (no_steps k n (omega arith)) in
    record { counts = h.counts; ends_held = rw a h.ends_held; step_held = rw b h.step_held }
held_more w c {n} (end_line g l) r h =
    let k = natural w.inputs in
    let a : ends_before k (suc n) ≡ suc (n - 4) = some_ends k (suc n) (omega arith) (omega arith) ∙ omega arith in
    let b : steps_before k (suc n) ≡ steps_before k n = no_steps k (suc n) (omega arith) ∙ sym (no_steps k n (omega arith)) in
    record {
      counts = record { inputs_same = h.counts.inputs_same; squares_same = h.counts.squares_same; steps_same = h.counts.steps_same };
      ends_held = rw (a, h.ends_held, some_ends k n g (omega arith)) (set_up_to max_inputs (n - 4) (ends_at w) zero_end r);
      step_held = rw b h.step_held;
    }
held_more w c {n} (step_names e) r h =
    let k = natural w.inputs in
    let a : ends_before k (suc n) ≡ ends_before k n = all_ends k (suc n) (omega arith) ∙ sym (all_ends k n (omega arith)) in
    let b : steps_before k (suc n) ≡ steps_before k n = no_steps k (suc n) (omega arith) ∙ sym (no_steps k n (omega arith)) in
    record { counts = h.counts; ends_held = rw a h.ends_held; step_held = rw b h.step_held }
held_more w c {n} (step_line g) r h =
    let k = natural w.inputs in
    let a : ends_before k (suc n) ≡ ends_before k n = all_ends k (suc n) (omega arith) ∙ sym (all_ends k n (omega arith)) in
    record {
      counts = record { inputs_same = h.counts.inputs_same; squares_same = h.counts.squares_same; steps_same = h.counts.steps_same };
      ends_held = rw a h.ends_held;
      step_held = rw (one_step_more k n g, h.step_held, some_steps k n) (set_up_to max_steps (n - 5 - k) (step_at w) zero_step r);
    }

held_all : (k n : ℕ) (w c : Schedule) → 3 ≤ n → ((m : ℕ) → 3 ≤ m → m < n + k → Room (line_at w m)) → Held n w c → Held (n + k) w (copied k n w c)
unfolding copied
held_all zero n w c g r h = rw add-zero h
held_all (suc k) n w c g r h =
    let e : suc n + k ≡ n + suc k = omega arith in
    rw (← e) (held_all k (suc n) w (store c (line_at w n) (padded (numbers w (line_at w n)))) (omega arith) (λ m a b. r m a (omega arith))
    (held_more w c (kind (natural w.inputs) n g) (r n g (omega arith)) h))

held_first : (w : Schedule) → Held 3 w (counted (numbers w CountLine))
unfolding store numbers zero_schedule up_to
held_first w =
    let a = no_ends (natural w.inputs) 3 (omega arith) in
    let b = no_steps (natural w.inputs) 3 (omega arith) in
    record { counts = record { inputs_same = refl; squares_same = refl; steps_same = refl }; ends_held = rw a; step_held = rw b }

pub counted_same : (w : Schedule) → SameCounts (counted (numbers w CountLine)) w
counted_same w = (held_first w).counts

pub copied_trimmed : (w : Schedule) → ((m : ℕ) → 3 ≤ m → m < 3 + lines_left w → Room (line_at w m)) → copied (lines_left w) 3 w (counted (numbers w CountLine)) ≡ trimmed w
unfolding trimmed
copied_trimmed w r =
    let h = held_all (lines_left w) 3 w (counted (numbers w CountLine)) (omega arith) r (held_first w) in
    let k = natural w.inputs in
    let a = all_ends k (3 + lines_left w) (omega arith) in
    let b = all_steps k (natural w.steps) in
    whole (copied (lines_left w) 3 w (counted (numbers w CountLine))) h.counts.inputs_same h.counts.squares_same h.counts.steps_same (h.ends_held ∙ rw a) (h.step_held ∙ rw b)
  where
    whole : (c : Schedule) {i q t : ℤ} {x : List End} {y : List Step} → c.inputs ≡ i → c.squares ≡ q → c.steps ≡ t → c.ends ≡ x → c.step ≡ y
        → c ≡ record { inputs = i; squares = q; steps = t; ends = x; step = y }
    whole c a b d e f = λ j. record { inputs = a j; squares = b j; steps = d j; ends = e j; step = f j }

-- "the same schedule", and zeros beyond the counts
pub same_trimmed : (w : Schedule) → natural w.inputs ≤ max_inputs → natural w.steps ≤ max_steps → Same w (trimmed w)
unfolding trimmed
same_trimmed w a b = record {
  inputs_same = refl;
  squares_same = refl;
  steps_same = refl;
  ends_same = λ i h. sym (up_to_within max_inputs (natural w.inputs) i (ends_at w) zero_end a h);
  step_same = λ j h. sym (up_to_within max_steps (natural w.steps) j (step_at w) zero_step b h);
}

pub ends_beyond : (w : Schedule) (i : ℕ) → natural w.inputs ≤ i → ends_at (trimmed w) i ≡ zero_end
unfolding trimmed
ends_beyond w i h = up_to_beyond max_inputs (natural w.inputs) i (ends_at w) zero_end h

pub steps_beyond_lem : (w : Schedule) (j : ℕ) → natural w.steps ≤ j → step_at (trimmed w) j ≡ zero_step
unfolding trimmed
steps_beyond_lem w j h = up_to_beyond max_steps (natural w.steps) j (step_at w) zero_step h
