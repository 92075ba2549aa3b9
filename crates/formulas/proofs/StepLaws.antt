-- The steps that are made from a formula: how many they are, which rows they name, and what holds of each of them.
use mathlib.Core.Path.{◌≡◌, refl, ap, sym, ◌∙◌, subst, subst₂}
use mathlib.Core.List.{List, [], ◌∷◌, ◌++◌}
use Prim.Native.Nat.{ℕ, zero, suc, ◌+◌, ◌-◌, ◌≤◌, ◌<◌}
use native.Mathlib.Nat.{add-zero}
use native.Mathlib.Omega.{arith}
use native.Mathlib.Decide.{dec_lt}
use lib.IntN.{pos}
use lib.ListN.{length, get_or, length-append, get_or-append}
use lib.Seq.{get_or-append-add}
use Rattle.sheet.specs.declared.Step.{Step}
use Rattle.capacity.specs.Limits.{max_steps}
use Rattle.sheet.specs.Lines.{natural, zero_step, step_at}
use Rattle.sheet.proofs.Passing.{Natural}
use Rattle.sheet.proofs.Trimmed.{up_to_within}
use Rattle.formulas.specs.Grammar.{Tree, letter, literal, binary, Text, letter_text, literal_text, brackets, alone, joined}
use Rattle.formulas.specs.Steps.{sign_steps, sign_count, step_count, row_of, steps_of, schedule_of}
use Rattle.formulas.specs.declared.Sign.{Sign}
use Rattle.formulas.specs.declared.Sign.TheVariants.{Plus, Minus, Times, Over}
use Rattle.formulas.specs.declared.InputBlock.{InputBlock}

-- ---- how many steps there are

pub length_sign : (g : Sign) (m a b : ℕ) → length (sign_steps g m a b) ≡ sign_count g
length_sign Plus m a b = refl
length_sign Minus m a b = refl
length_sign Times m a b = refl
length_sign Over m a b = refl

pub length_steps : (m : ℕ) (t : Tree) → length (steps_of m t) ≡ step_count t
unfolding steps_of step_count
length_steps m (letter i) = refl
length_steps m (literal v) = refl
length_steps m (binary g a b) =
    let n : ℕ = m + step_count a in
    let signs : List Step = sign_steps g (n + step_count b) (row_of m a) (row_of n b) in
    length-append (steps_of m a) (steps_of n b ++ signs)
    ∙ omega (arith, length-append (steps_of n b) signs, length_steps m a, length_steps n b, length_sign g (n + step_count b) (row_of m a) (row_of n b))

-- the schedule holds them
pub step_at_lem : (block : InputBlock) (t : Tree) (j : ℕ) → step_count t ≤ max_steps → j < step_count t
    → step_at (schedule_of block t) j ≡ get_or (steps_of (natural block.inputs) t) j zero_step
unfolding schedule_of
step_at_lem block t j few h = up_to_within max_steps (step_count t) j (λ i. get_or (steps_of (natural block.inputs) t) i zero_step) zero_step few h

-- ---- which rows they name

-- every letter is that of one of so many inputs
unfoldable pub LettersBelow : ℕ → Tree → Type 0
LettersBelow inputs (letter i) = i < inputs
LettersBelow inputs (literal v) = Unit {0}
LettersBelow inputs (binary g a b) = LettersBelow inputs a × LettersBelow inputs b

pub letters_below : {inputs r k : ℕ} {s : List ℕ} {t : Tree} → Text inputs r k s t → LettersBelow inputs t
unfolding LettersBelow
letters_below (letter_text h) = h
letters_below (literal_text n) = tt
letters_below (brackets d) = letters_below d
letters_below (alone d) = letters_below d
letters_below (joined g e d f) = (letters_below d, letters_below f)

some_sign_step : (g : Sign) → 1 ≤ sign_count g
some_sign_step Plus = omega arith
some_sign_step Minus = omega arith
some_sign_step Times = omega arith
some_sign_step Over = omega arith

-- a formula's row is one of those behind its steps
abbrev pub RowIn : ℕ → ℕ → Type 0
RowIn row rows = Natural 1 rows (pos row)

pub row_in : (inputs m : ℕ) (t : Tree) → inputs ≤ m → LettersBelow inputs t → RowIn (row_of m t) (m + step_count t)
unfolding LettersBelow step_count
row_in inputs m (letter i) h below = record { is = refl; from = omega arith; to = omega arith }
row_in inputs m (literal v) h below = record { is = refl; from = omega arith; to = omega arith }
row_in inputs m (binary g a b) h below = record { is = refl; from = omega (arith, some_sign_step g); to = omega arith }

-- the rows of a sign's two sides lie before its own steps
pub row_more : {row rows more : ℕ} → RowIn row rows → rows ≤ more → RowIn row more
row_more p h = record { is = refl; from = p.from; to = omega (arith, p.to) }

pub left_in : (inputs m : ℕ) (a b : Tree) → inputs ≤ m → LettersBelow inputs a → RowIn (row_of m a) (m + step_count a + step_count b)
left_in inputs m a b h below = row_more (row_in inputs m a h below) (omega arith)

pub right_in : (inputs m : ℕ) (a b : Tree) → inputs ≤ m → LettersBelow inputs b → RowIn (row_of (m + step_count a) b) (m + step_count a + step_count b)
right_in inputs m a b h below = row_in inputs (m + step_count a) b (omega arith) below

pub last_row : (m : ℕ) (t : Tree) → 0 < step_count t → row_of m t ≡ m + step_count t
unfolding step_count
last_row m (letter i) h = absurd (omega arith)
last_row m (literal v) h = refl
last_row m (binary g a b) h = refl

-- ---- what holds of each

module _ (P : ℕ → Step → Type 0) where
  -- each of the steps behind m rows has the property, which speaks of the rows before a step
  abbrev pub Each : ℕ → List Step → Type 0
  Each m xs = (j : ℕ) → j < length xs → P (m + j) (get_or xs j zero_step)

  pub each_none : (m : ℕ) → Each m []
  each_none m j h = absurd (omega arith)

  pub each_one : (m : ℕ) (t : Step) → P m t → Each m (t ∷ [])
  each_one m t p zero h = rw add-zero p
  each_one m t p (suc j) h = absurd (omega arith)

  pub each_first : (m : ℕ) (t : Step) (xs : List Step) → Each m (t ∷ xs) → P m t
  each_first m t xs f = subst (λ n. P n t) (add-zero m) (f 0 (omega arith))

  each_left : (m : ℕ) (xs ys : List Step) → Each m (xs ++ ys) → Each m xs
  each_left m xs ys f j h = subst (P (m + j)) (get_or-append xs ys zero_step j h) (f j (omega (arith, length-append xs ys)))

  pub each_behind : (m n : ℕ) (xs ys : List Step) → length xs ≡ n → Each m (xs ++ ys) → Each (m + n) ys
  each_behind m n xs ys e f j h =
      let i : m + (length xs + j) ≡ m + n + j = omega arith in
      subst₂ P i (get_or-append-add xs ys j zero_step) (f (length xs + j) (omega (arith, length-append xs ys)))

  pub each_both : (m n : ℕ) (xs ys : List Step) → length xs ≡ n → Each m xs → Each (m + n) ys → Each m (xs ++ ys)
  each_both m n xs ys e f g j h = go (dec_lt j (length xs))
    where
      go : Dec (j < length xs) → P (m + j) (get_or (xs ++ ys) j zero_step)
      go (yes l) = rw (get_or-append xs ys zero_step j l) (f j l)
      go (no l) =
          let k : ℕ = j - length xs in
          let at : length xs + k ≡ j = omega arith in
          let i : m + n + k ≡ m + j = omega arith in
          let here : get_or ys k zero_step ≡ get_or (xs ++ ys) j zero_step = sym (get_or-append-add xs ys k zero_step) ∙ ap (λ a. get_or (xs ++ ys) a zero_step) at in
          subst₂ P i here (g k (omega (arith, length-append xs ys)))

  -- the steps of a sign's two sides, and then its own
  pub record Parts (g : Sign) (m : ℕ) (a b : Tree) : Type 0 where
    pub of_left : Each m (steps_of m a)
    pub of_right : Each (m + step_count a) (steps_of (m + step_count a) b)
    pub of_sign : Each (m + step_count a + step_count b) (sign_steps g (m + step_count a + step_count b) (row_of m a) (row_of (m + step_count a) b))

  module _ (g : Sign) (m : ℕ) (a b : Tree) where
    abbrev n : ℕ
    n = m + step_count a

    abbrev signs : List Step
    signs = sign_steps g (n + step_count b) (row_of m a) (row_of n b)

    pub each_parts : Each m (steps_of m (binary g a b)) → Parts g m a b
    unfolding steps_of
    each_parts f =
        let right : Each n (steps_of n b ++ signs) = each_behind m (step_count a) (steps_of m a) (steps_of n b ++ signs) (length_steps m a) f in
        record {
          of_left = each_left m (steps_of m a) (steps_of n b ++ signs) f;
          of_right = each_left n (steps_of n b) signs right;
          of_sign = each_behind n (step_count b) (steps_of n b) signs (length_steps n b) right;
        }

    pub each_steps : Parts g m a b → Each m (steps_of m (binary g a b))
    unfolding steps_of
    each_steps p =
        each_both m (step_count a) (steps_of m a) (steps_of n b ++ signs) (length_steps m a) p.of_left
        (each_both n (step_count b) (steps_of n b) signs (length_steps n b) p.of_right p.of_sign)
