-- The schedule of an accepted formula passes the tests 3, 4 and 5.
use mathlib.Core.Path.{◌≡◌, refl, sym, ◌∙◌, subst}
use mathlib.Core.Bool.{true}
use mathlib.Core.List.{List, [], ◌∷◌}
use Prim.Native.Nat.{ℕ, suc, ◌+◌, ◌≤◌, ◌<◌}
use native.Mathlib.Omega.{arith}
use borrow.Author.Tests.{le-leb, lt-leb}
use lib.IntN.{ℤ, pos}
use lib.ListN.{get_or}
use Rattle.capacity.specs.Limits.{max_inputs, max_steps}
use Rattle.sheet.specs.Limits.{end_limit, last_binary, last_code}
use Rattle.sheet.specs.Causes.{accepted}
use Rattle.sheet.specs.Lines.{natural, zero_end, ends_at, step_at}
use Rattle.sheet.specs.Tests.{counts_pass, ends_pass, step_passes}
use Rattle.sheet.specs.Writing.{test_of}
use Rattle.sheet.specs.declared.End.{End}
use Rattle.sheet.specs.declared.Step.{Step}
use Rattle.sheet.proofs.Trimmed.{up_to_within}
use Rattle.formulas.specs.Grammar.{Tree, letter, literal, binary}
use Rattle.formulas.specs.Steps.{step_of, sign_steps, step_count, row_of, steps_of, LiteralsWithin, schedule_of}
use Rattle.formulas.specs.Answer.{sheet_of}
use Rattle.formulas.specs.Claims.{Accepted}
use Rattle.formulas.proofs.InputsPass.{few_inputs}
use Rattle.formulas.specs.declared.Sign.{Sign}
use Rattle.formulas.specs.declared.Sign.TheVariants.{Plus, Minus, Times, Over}
use Rattle.formulas.specs.declared.InputBlock.{InputBlock}
use Rattle.formulas.proofs.StepLaws.{length_steps, step_at_lem, LettersBelow, letters_below, RowIn, row_more, left_in, right_in, Each, each_none, each_one, each_both, each_steps}
use Rattle.sheet.proofs.LinesPass.{LinesPass, lines_accepted, accepted_lines}

-- ---- steps

-- a step behind m rows passes 5
abbrev Passes : ℕ → Step → Type 0
Passes m t = step_passes m t.code t.first t.second t.value ≡ true

constant_passes : (m v : ℕ) → v ≤ end_limit → Passes m (step_of 1 0 0 v)
unfolding step_passes
constant_passes m v h = le-leb v end_limit h

binary_passes : (m code a b : ℕ) → 2 ≤ code → code ≤ last_binary → RowIn a m → RowIn b m → Passes m (step_of code a b 0)
unfolding step_passes
binary_passes m code a b h l p q =
    simp (
      le-leb 1 code (omega arith),
      le-leb code last_code (omega arith),
      le-leb 2 code h,
      le-leb code last_binary l,
      lt-leb code 1 h,
      le-leb 1 a p.from,
      le-leb a m p.to,
      le-leb 1 b q.from,
      le-leb b m q.to,
    )

reciprocal_passes : (m a : ℕ) → RowIn a m → Passes m (step_of 5 a 0 0)
unfolding step_passes
reciprocal_passes m a p = simp (le-leb 1 a p.from, le-leb a m p.to)

sign_passes : (g : Sign) (m a b : ℕ) → RowIn a m → RowIn b m → Each Passes m (sign_steps g m a b)
sign_passes Plus m a b p q = each_one Passes m (step_of 2 a b 0) (binary_passes m 2 a b (omega arith) (omega arith) p q)
sign_passes Minus m a b p q = each_one Passes m (step_of 3 a b 0) (binary_passes m 3 a b (omega arith) (omega arith) p q)
sign_passes Times m a b p q = each_one Passes m (step_of 4 a b 0) (binary_passes m 4 a b (omega arith) (omega arith) p q)
sign_passes Over m a b p q =
    each_both Passes m 1 (step_of 5 b 0 0 ∷ []) (step_of 4 a (suc m) 0 ∷ []) refl
    (each_one Passes m (step_of 5 b 0 0) (reciprocal_passes m b q))
    (each_one Passes (m + 1) (step_of 4 a (suc m) 0)
    (binary_passes (m + 1) 4 a (suc m) (omega arith) (omega arith)
    (row_more p (omega arith)) (record { is = refl; from = omega arith; to = omega arith })))

steps_pass : (inputs m : ℕ) (t : Tree) → inputs ≤ m → LettersBelow inputs t → LiteralsWithin t → Each Passes m (steps_of m t)
unfolding steps_of LettersBelow LiteralsWithin
steps_pass inputs m (letter i) h below within = each_none Passes m
steps_pass inputs m (literal v) h below within = each_one Passes m (step_of 1 0 0 v) (constant_passes m v within)
steps_pass inputs m (binary g a b) h below within =
    let n : ℕ = m + step_count a in
    each_steps Passes g m a b (record {
      of_left = steps_pass inputs m a h below.0 within.0;
      of_right = steps_pass inputs n b (omega arith) below.1 within.1;
      of_sign = sign_passes g (n + step_count b) (row_of m a) (row_of n b) (left_in inputs m a b h below.0) (right_in inputs m a b h below.1);
    })

-- ---- counts

-- every count of steps within the limits passes as 1 does
counts_pass_lem : (inputs squares : ℤ) (n : ℕ) → 1 ≤ n → n ≤ max_steps → counts_pass inputs squares (pos n) ≡ counts_pass inputs squares (pos 1)
unfolding counts_pass
counts_pass_lem inputs squares n h l = simp (le-leb 1 n h, le-leb n max_steps l)

-- ---- the schedule

module _ (block : InputBlock) (s : List ℕ) (t : Tree) (a : Accepted block s t) where
  abbrev n : ℕ
  n = natural block.inputs

  tested : LinesPass (sheet_of block)
  tested = accepted_lines (sheet_of block) a.inputs_pass

  same_ends : (i : ℕ) → i < n → ends_at (sheet_of block) i ≡ ends_at (schedule_of block t) i
  unfolding schedule_of sheet_of
  same_ends i h = sym (up_to_within max_inputs n i (λ j. get_or block.ends j zero_end) zero_end (few_inputs block a.inputs_pass) h)

  each_passes : (j : ℕ) → j < step_count t → Passes (n + j) (step_at (schedule_of block t) j)
  each_passes j h =
      rw (step_at_lem block t j a.few_steps h)
      (steps_pass n n t (omega arith) (letters_below a.formula) a.literals j (omega (arith, length_steps n t)))

  pass : LinesPass (schedule_of block t)
  unfolding schedule_of sheet_of
  pass = record {
    counts = counts_pass_lem block.inputs block.squares (step_count t) a.some_step a.few_steps ∙ tested.counts;
    ends = λ i h. subst (λ (e : End). ends_pass e.low e.high ≡ true) (same_ends i h) (tested.ends i h);
    steps = each_passes;
  }

  pub schedule_passes : test_of (schedule_of block t) ≡ accepted
  schedule_passes = lines_accepted (schedule_of block t) pass
