-- A sign behind a part and the part behind it: what the reading holds then, and how the steps are joined.
use mathlib.Core.Path.{◌≡◌, refl, sym, ap, ◌∙◌, subst}
use mathlib.Core.Logic.{inl, inr, ⊎_elim}
use mathlib.Core.Bool.{Bool, true, false}
use mathlib.Core.List.{List, ◌++◌}
use Prim.Native.Nat.{ℕ, zero, suc, ◌+◌, ◌-◌, ◌≤◌, ◌<◌}
use native.Mathlib.Numerals.{add-one}
use native.Mathlib.Decide.{dec_lt}
use native.Mathlib.Omega.{arith}
use lib.Dec.{eqb, leb}
use lib.ListN.{length, drop, get_or, get_or-eq_default}
use lib.Seq.{sets}
use borrow.Author.Tests.{eqb-true, leb-true}
use Rattle.std.specs.Prelude.{Option, Some, None}
use Rattle.std.specs.Bool.{then_some}
use Rattle.std.specs.Option.{option_or}
use Rattle.sheet.specs.Number.{digit_of}
use Rattle.sheet.specs.Choice.{pick}
use Rattle.sheet.specs.declared.Step.{Step}
use Rattle.sheet.proofs.Written.{sets_append}
use Rattle.formulas.specs.Limits.{max_nesting}
use Rattle.formulas.specs.Grammar.{Tree, binary, byte_of, rank_of}
use Rattle.formulas.specs.Reading.{Open, wanting, holding, open_by, next, reading, token_of}
use Rattle.formulas.specs.Steps.{sign_steps, sign_count, step_count, row_of, steps_of, LiteralsWithin}
use Rattle.formulas.specs.Built.{place_of, found, ranked, sign_within, with_steps, opened, Ends, Reaches, Right, Breaks}
use Rattle.formulas.specs.declared.Sign.{Sign}
use Rattle.formulas.specs.declared.Sign.TheVariants.{Plus, Minus, Times, Over}
use Rattle.formulas.specs.declared.Token.TheVariants.{Operator}
use Rattle.formulas.specs.declared.steps.Steps.{Steps}
use Rattle.formulas.specs.declared.builder.Part.{Part}
use Rattle.formulas.proofs.ByteTokens.{sign_no_digit, token_sign}
use Rattle.formulas.proofs.Positions.{open_product, open_sum, goes_on}
use Rattle.formulas.proofs.DigitRuns.{beyond_other}
use Rattle.formulas.proofs.StepLaws.{length_sign, length_steps}

-- ranks are 1 and 2
pub rank_some : (g : Sign) → rank_of g ≡ suc (rank_of g - 1)
rank_some Plus = refl
rank_some Minus = refl
rank_some Times = refl
rank_some Over = refl

rank_small : (g : Sign) → rank_of g ≤ 2
rank_small Plus = omega arith
rank_small Minus = omega arith
rank_small Times = omega arith
rank_small Over = omega arith

-- ---- the sign at a position

-- the byte of a sign of at most this rank
pub record TurnAt (rank b : ℕ) (g : Sign) : Type 0 where
  pub byte : b ≡ byte_of g
  pub below : rank_of g ≤ rank

ranked_some : (rank : ℕ) (h g : Sign) (l : Bool) → leb (rank_of h) rank ≡ l → then_some l h ≡ Some g → (h ≡ g) × (rank_of h ≤ rank)
ranked_some rank h g true e f = (cc, leb-true (rank_of h) rank e)
ranked_some rank h g false e f = cc

turn_of : (rank b : ℕ) (h g : Sign) → b ≡ byte_of h → ranked rank (Some h) ≡ Some g → TurnAt rank b g
turn_of rank b h g e f =
    let (i, l) = ranked_some rank h g (leb (rank_of h) rank) refl f in
    record { byte = e ∙ ap byte_of i; below = subst (λ (k : Sign). rank_of k ≤ rank) i l }

pub turn_at : (rank b : ℕ) (g : Sign) → sign_within rank b ≡ Some g → TurnAt rank b g
turn_at rank b g = go (eqb b 43) (eqb b 45) (eqb b 42) (eqb b 47) refl refl refl refl
  where
    go : (x y z w : Bool) → eqb b 43 ≡ x → eqb b 45 ≡ y → eqb b 42 ≡ z → eqb b 47 ≡ w
        → ranked rank (pick x (Some Plus) (pick y (Some Minus) (pick z (Some Times) (pick w (Some Over) None)))) ≡ Some g → TurnAt rank b g
    go true y z w ex ey ez ew e = turn_of rank b Plus g (eqb-true b 43 ex) e
    go false true z w ex ey ez ew e = turn_of rank b Minus g (eqb-true b 45 ey) e
    go false false true w ex ey ez ew e = turn_of rank b Times g (eqb-true b 42 ez) e
    go false false false true ex ey ez ew e = turn_of rank b Over g (eqb-true b 47 ew) e
    go false false false false ex ey ez ew e = cc

-- the sign of a product goes on with one
goes_on_with : (g : Sign) → rank_of g ≡ 1 → sign_within 1 (byte_of g) ≡ None → ⊥
goes_on_with Plus r e = absurd (omega arith)
goes_on_with Minus r e = absurd (omega arith)
goes_on_with Times r e = cc
goes_on_with Over r e = cc

-- ---- what the reading holds behind the part that follows a sign

-- the sign g behind the tree t, in state f p; then a part of the rank below with the tree u, in state f' p'
turn_ends : (rank q : ℕ) (g : Sign) (o : Open) (t u : Tree) (c : ℕ) (f f' : Tree → Tree) (p p' : Tree)
    → rank_of g ≡ suc q → rank_of g ≤ rank → sign_within q c ≡ None
    → Ends rank o t (byte_of g) f p → Ends q (open_by g f p) u c f' p' → Ends rank o (binary g t u) c f' p'
turn_ends zero q g o t u c f f' p p' r l n e h = absurd (omega arith)
turn_ends (suc zero) zero g o t u c f f' p p' r l n e h =
    let k = open_product g f p r in
    (h.0 ∙ ap (λ (x : Open). x.sum) k ∙ e.0, h.1 ∙ ap (λ (x : Open). x.product u) k ∙ ap (λ (x : Tree). binary g x u) e.1)
turn_ends (suc zero) (suc q) g o t u c f f' p p' r l n e h = absurd (omega arith)
turn_ends (suc (suc rank)) zero g o t u c f f' p p' r l n e h =
    let k = open_product g f p r in
    let alone : f ≡ (λ x. x) = ⊎_elim (λ z. z) (λ z. absurd (goes_on_with g r z)) e.1 in
    let same : f' ≡ (λ x. x) = h.0 ∙ ap (λ (x : Open). x.sum) k ∙ alone in
    let tree : p ≡ t = sym (ap (λ (x : Tree → Tree). x p) alone) ∙ e.0 in
    (ap (λ (x : Tree → Tree). x p') same ∙ h.1 ∙ ap (λ (x : Open). x.product u) k ∙ ap (λ (x : Tree). binary g x u) tree, inl same)
turn_ends (suc (suc rank)) (suc zero) g o t u c f f' p p' r l n e h =
    let k = open_sum g f p r in
    let sums : f' ≡ binary g (f p) = h.0 ∙ ap (λ (x : Open). x.sum) k in
    (ap (λ (x : Tree → Tree). x p') sums ∙ ap (λ (x : Tree). binary g (f p) x) h.1 ∙ ap (λ (x : Tree). binary g x u) e.0, inr n)
turn_ends (suc (suc rank)) (suc (suc q)) g o t u c f f' p p' r l n e h = absurd (omega (arith, rank_small g))

-- the part behind the sign begins with what the sign opens
turn_opens : (q : ℕ) (g : Sign) (f : Tree → Tree) (p : Tree) → rank_of g ≡ suc q → opened q (open_by g f p) ≡ open_by g f p
turn_opens zero g f p r = refl
turn_opens (suc zero) g f p r = let k = open_sum g f p r in rw k refl
turn_opens (suc (suc q)) g f p r = absurd (omega (arith, rank_small g))

-- ---- the steps of two parts and the sign between them

both_literals : (g : Sign) (a b : Tree) → LiteralsWithin (binary g a b) → LiteralsWithin a × LiteralsWithin b
unfolding LiteralsWithin
both_literals g a b l = l

pub sign_few : (g : Sign) → sign_count g ≤ 2
sign_few Plus = omega arith
sign_few Minus = omega arith
sign_few Times = omega arith
sign_few Over = omega arith

-- a byte that is no digit hides no literal
pub found_behind : (bytes : List ℕ) (b : Option ℕ) (p : ℕ) → p < length bytes → 10 ≤ digit_of (get_or bytes p 0) → found bytes b p ≡ found bytes b (p + 1)
found_behind bytes b p h d = rw (add-one p) (ap (λ (x : ℕ). option_or b (place_of x)) (beyond_other bytes p h d))

-- left, sign and right: what was read so far, the sign behind it, and the part behind the sign
module _ (bytes : List ℕ) (inputs rank nesting at : ℕ) (before now : Steps) (left : Part) (l : Right bytes inputs rank nesting at before now left)
    (g : Sign) (turn : TurnAt rank (get_or bytes left.next 0) g) (inside : left.next < length bytes) where
  abbrev q : ℕ
  q = rank_of g - 1

  -- the reading wants the part behind the sign
  record Wants (o : Open) (around : List Open) : Type 0 where
    f : Tree → Tree
    p : Tree
    ends : Ends rank o l.t (byte_of g) f p
    reads : reading inputs (suc at) (wanting (opened rank o) around) (drop at bytes)
        ≡ reading inputs (suc (left.next + 1)) (wanting (opened q (open_by g f p)) around) (drop (left.next + 1) bytes)

  wants : (o : Open) (around : List Open) → length around + nesting ≡ max_nesting → Wants o around
  wants o around d =
      let r = l.reaches o around d in
      let f = r.sum in
      let p = r.product in
      let k : token_of inputs (get_or bytes left.next 0) ≡ Operator g = ap (token_of inputs) turn.byte ∙ token_sign inputs g in
      let e = goes_on bytes inputs left.next (holding f around p) (wanting (open_by g f p) around) inside (ap (next (holding f around p)) k) in
      record {
        f = f;
        p = p;
        ends = subst (λ (b : ℕ). Ends rank o l.t b f p) turn.byte r.ends;
        reads = r.reads ∙ rw (add-one left.next, turn_opens q g f p (rank_some g)) e;
      }

  -- where that part breaks the reading, the whole does
  pub turn_breaks : (place : ℕ) → Breaks bytes inputs q nesting (left.next + 1) place → Breaks bytes inputs rank nesting at place
  turn_breaks place b o around d = let w = wants o around d in w.reads ∙ b (open_by g w.f w.p) around d

  module _ (middle : Steps) (right : Part) (r : Right bytes inputs q nesting (left.next + 1) now middle right)
      (stops : sign_within q (get_or bytes right.next 0) ≡ None) where
    turn_reaches : (o : Open) (around : List Open) → length around + nesting ≡ max_nesting → Reaches bytes inputs rank at (binary g l.t r.t) right.next o around
    turn_reaches o around d =
        let w = wants o around d in
        let v = r.reaches (open_by g w.f w.p) around d in
        record {
          sum = v.sum;
          product = v.product;
          ends = turn_ends rank q g o l.t r.t _ w.f v.sum w.p v.product (rank_some g) turn.below stops w.ends v.ends;
          reads = w.reads ∙ v.reads;
        }

    turn_seen : 10 ≤ digit_of (get_or bytes right.next 0) → found bytes before.beyond at ≡ found bytes middle.beyond right.next
    turn_seen d =
        let no_digit : 10 ≤ digit_of (get_or bytes left.next 0) = rw turn.byte (sign_no_digit g) in
        l.seen no_digit ∙ found_behind bytes now.beyond left.next inside no_digit ∙ r.seen d

    abbrev signs : List Step
    signs = sign_steps g (middle.inputs + middle.count) left.row right.row

    steps_joined : LiteralsWithin (binary g l.t r.t)
        → sets middle.step middle.count signs ≡ sets before.step before.count (steps_of (inputs + before.count) (binary g l.t r.t))
    unfolding steps_of
    steps_joined w =
        let parts = both_literals g l.t r.t w in
        let m : ℕ = inputs + before.count in
        let A = steps_of m l.t in
        let B = steps_of (m + step_count l.t) r.t in
        let C = sign_steps g (m + step_count l.t + step_count r.t) (row_of m l.t) (row_of (m + step_count l.t) r.t) in
        let first = length_steps m l.t in
        let second = length_steps (m + step_count l.t) r.t in
        let left_rows : inputs + now.count ≡ m + step_count l.t = omega (arith, l.counted) in
        let right_rows : middle.inputs + middle.count ≡ m + step_count l.t + step_count r.t = omega (arith, l.counted, r.counted, r.same_inputs) in
        let left_count : now.count ≡ before.count + length A = omega (arith, l.counted, first) in
        let right_count : middle.count ≡ before.count + length A + length B = omega (arith, l.counted, r.counted, first, second) in
        let middle_is : middle.step ≡ sets now.step (before.count + length A) B = r.left parts.1 ∙ rw (left_rows, left_count) in
        let row : right.row ≡ row_of (m + step_count l.t) r.t = r.row ∙ rw left_rows in
        rw (right_rows, right_count, row, l.row, middle_is, l.left parts.0)
        (sets_append B C (sets before.step before.count A) (before.count + length A) ∙ sets_append A (B ++ C) before.step before.count)

    pub turn_right : (after : Steps) (n : ℕ) → after ≡ with_steps middle signs → n ≡ after.inputs + after.count
        → Right bytes inputs rank nesting at before after (record { next = right.next; row = n })
    unfolding step_count
    turn_right after n put row =
        let same : after.inputs ≡ inputs = ap (λ (s : Steps). s.inputs) put ∙ r.same_inputs in
        let counted : after.count ≡ middle.count + sign_count g = ap (λ (s : Steps). s.count) put ∙ ap (λ (n : ℕ). middle.count + n) (length_sign g _ _ _) in
        let beyond : after.beyond ≡ middle.beyond = ap (λ (s : Steps). s.beyond) put in
        record {
          t = binary g l.t r.t;
          reaches = turn_reaches;
          row = omega (arith, counted, l.counted, r.counted);
          same_inputs = same;
          counted = omega (arith, counted, l.counted, r.counted);
          left = λ w. ap (λ (s : Steps). s.step) put ∙ steps_joined w;
          seen = λ d. turn_seen d ∙ ap (λ (b : Option ℕ). found bytes b right.next) (sym beyond);
          longer = omega (arith, l.longer, r.longer);
          within = r.within;
          few_steps = omega (arith, counted, l.few_steps, r.few_steps, sign_few g);
          few_rows = omega arith;
        }

-- ---- a part with no sign behind it

-- no sign has rank 0
pub no_rank : (b : ℕ) → sign_within 0 b ≡ None
no_rank b = go (eqb b 43) (eqb b 45) (eqb b 42) (eqb b 47)
  where
    go : (x y z w : Bool) → ranked 0 (pick x (Some Plus) (pick y (Some Minus) (pick z (Some Times) (pick w (Some Over) None)))) ≡ None
    go true y z w = refl
    go false true z w = refl
    go false false true w = refl
    go false false false true = refl
    go false false false false = refl

-- a sign is a byte within the text
pub sign_inside : (bytes : List ℕ) (rank p : ℕ) (g : Sign) → sign_within rank (get_or bytes p 0) ≡ Some g → p < length bytes
sign_inside bytes rank p g e = elim (dec_lt p (length bytes)) [
  | yes h ↦ h
  | no h ↦ absurd (let z : sign_within rank (get_or bytes p 0) ≡ None = ap (sign_within rank) (get_or-eq_default bytes 0 {n = p} (omega arith)) in cc)
]

-- an operand is a part of every rank
operand_ends : (rank : ℕ) (o : Open) (t : Tree) (b : ℕ) (f : Tree → Tree) (p : Tree) → Ends 0 (opened rank o) t b f p → Ends rank o t b f p
operand_ends zero o t b f p e = e
operand_ends (suc zero) o t b f p e = e
operand_ends (suc (suc rank)) o t b f p e = (ap (λ (x : Tree → Tree). x p) e.0 ∙ e.1, inl e.0)

pub operand_right : (rank : ℕ) {bytes : List ℕ} {inputs nesting at : ℕ} {before after : Steps} {p : Part}
    → Right bytes inputs 0 nesting at before after p → Right bytes inputs rank nesting at before after p
operand_right rank {p = p} r = record {
  t = r.t;
  reaches = λ o around d.
      let w = r.reaches (opened rank o) around d in
      record { sum = w.sum; product = w.product; ends = operand_ends rank o r.t _ w.sum w.product w.ends; reads = w.reads };
  row = r.row;
  same_inputs = r.same_inputs;
  counted = r.counted;
  left = r.left;
  seen = r.seen;
  longer = r.longer;
  within = r.within;
  few_steps = r.few_steps;
  few_rows = r.few_rows;
}

-- a break of an operand is one of every rank
pub operand_breaks : (rank : ℕ) (bytes : List ℕ) (inputs nesting at place : ℕ) → Breaks bytes inputs 0 nesting at place → Breaks bytes inputs rank nesting at place
operand_breaks rank bytes inputs nesting at place b o around d = b (opened rank o) around d
