-- `chain` and `operand` read what the grammar has: what was read so far, what a sign tells, what stands in brackets.
use mathlib.Core.Path.{◌≡◌, refl, sym, ap, subst, subst₂, ◌∙◌}
use mathlib.Core.Logic.{◌≢◌, ⊎_elim}
use mathlib.Core.List.{List}
use native.Mathlib.Omega.{arith}
use lib.ListN.{length, get_or}
use Prim.Native.Nat.{ℕ, suc, ◌+◌, ◌-◌}
use borrow.Author.Rules.{rules}
use Rattle.std.specs.Prelude.{Some}
use Rattle.std.proofs.lemmas.Result.{err_from_is_err_and}
use Rattle.formulas.specs.Reading.{token_of}
use Rattle.formulas.specs.Limits.{max_nesting}
use Rattle.formulas.specs.Built.{sign_within, Right, Breaks, PartRight}
use Rattle.formulas.specs.declared.Sign.{Sign}
use Rattle.formulas.specs.declared.Token.{Token}
use Rattle.formulas.specs.declared.Token.TheVariants.{Operator, Closing, Other}
use Rattle.formulas.proofs.Positions.{token_at, inside}
use Rattle.formulas.proofs.ByteTokens.{token_closing}
use Rattle.formulas.proofs.SignTurns.{turn_at, turn_breaks, turn_right, sign_inside, no_rank, operand_right}
use Rattle.formulas.proofs.OperandReads.{letter_few, Bad, no_operand, letter_right, literal_right, none_left, inner_breaks, not_closed, brackets_right}
use Rattle.formulas.proofs.builder.+chain_operand.Goals as goal

-- ---- `chain`

-- the sign that a turn begins at
sign_at : (rank : ℕ) (text : List ℕ) (at b : ℕ) {g : Sign} → Some g ≡ sign_within rank b → b ≡ get_or text at 0 → sign_within rank (get_or text at 0) ≡ Some g
sign_at rank text at b e f = sym (e ∙ ap (sign_within rank) f)

pub chain-loop-sign-init : goal.chain-loop-sign-init
chain-loop-sign-init t c = operand_right c.args.rank c.in_ok-left.ensures.right

pub chain-returns-in_err-right : goal.chain-returns-in_err-right
chain-returns-in_err-right t c =
    let a = c.args in
    let l = c.loop-sign in
    let s = sign_at a.rank a.text.now l.left.next c.byte.result c.in-Some.ensures c.byte.ensures in
    let w = c.in_err-right.field-0.0 in
    let p = err_from_is_err_and c.from_residual-in_err-right.result c.from_residual-in_err-right.ensures.1 in
    let b : Breaks a.text.now a.steps.now.inputs _ a.depth (l.left.next + 1) w.place =
    subst₂ (λ (i r : ℕ). Breaks a.text.now i (r - 1) a.depth (l.left.next + 1) w.place) l.invariant.same_inputs c.rank.ensures c.in_err-right.ensures in
    rw (p.1, p.2)
    (turn_breaks a.text.now a.steps.now.inputs a.rank a.depth a.at a.steps.now l.steps l.left l.invariant c.in-Some.sign (turn_at a.rank _ _ s)
    (sign_inside a.text.now a.rank l.left.next _ s) w.place b)

pub chain-loop-sign-preserved : goal.chain-loop-sign-preserved
chain-loop-sign-preserved t c =
    let a = c.args in
    let l = c.loop-sign in
    let s = sign_at a.rank a.text.now l.left.next c.byte.result c.in-Some.ensures c.byte.ensures in
    let middle = c.chain.new.steps in
    let right = c.in_ok-right.right in
    let p : PartRight a.text.now a.steps.now.inputs _ a.depth (l.left.next + 1) l.steps middle right =
    subst₂ (λ (i r : ℕ). PartRight a.text.now i (r - 1) a.depth (l.left.next + 1) l.steps middle right) l.invariant.same_inputs c.rank.ensures c.in_ok-right.ensures in
    turn_right a.text.now a.steps.now.inputs a.rank a.depth a.at a.steps.now l.steps l.left l.invariant c.in-Some.sign (turn_at a.rank _ _ s)
    (sign_inside a.text.now a.rank l.left.next _ s) middle right p.right p.stops c.push_sign.new.self c.last_row.result c.push_sign.ensures c.last_row.ensures

-- ---- `operand`: what its first byte tells

told : (text : List ℕ) (inputs at b : ℕ) {k : Token} → k ≡ token_of inputs b → b ≡ get_or text at 0 → token_at text inputs at ≡ k
told text inputs at b e f = sym (e ∙ ap (token_of inputs) f)

-- with one pair of brackets more to go than within them
at_depth : (depth : ℕ) → (depth ≢ 0) → (P : ℕ → Type 0) → P (suc (depth - 1)) → P depth
at_depth depth n P = let e : suc (depth - 1) ≡ depth = omega arith in subst P e

pub operand-constant-requires : goal.operand-constant-requires
operand-constant-requires t c =
    let a = c.args in
    (c.requires, inside a.text.now a.steps.now.inputs a.at (told a.text.now a.steps.now.inputs a.at c.byte.result c.in-Digit.ensures c.byte.ensures) tt)

pub operand-overflow_add-result-in-Letter : goal.operand-overflow_add-result-in-Letter
operand-overflow_add-result-in-Letter t c =
    let a = c.args in
    let f = letter_few a.steps.now.inputs _ _ (told a.text.now a.steps.now.inputs a.at c.byte.result c.in-Letter.ensures c.byte.ensures) in
    let s = c.args.steps.now.few_inputs in
    search rules

pub operand-returns-then-depth-eq0 : goal.operand-returns-then-depth-eq0
operand-returns-then-depth-eq0 t c =
    let a = c.args in
    let z : a.depth ≡ 0 = c.if-depth-eq0.true in
    subst (Breaks a.text.now a.steps.now.inputs 0 a.depth a.at) (sym c.wrong_at.ensures)
    (no_operand a.text.now a.steps.now.inputs a.depth a.at (told a.text.now a.steps.now.inputs a.at c.byte.result c.in-Opening.ensures c.byte.ensures)
    (λ o around e. none_left o around (subst (λ (n : ℕ). length around + n ≡ max_nesting) z e)))

pub operand-chain-requires : goal.operand-chain-requires
operand-chain-requires t c =
    let a = c.args in
    let s = c.requires in
    let h = inside a.text.now a.steps.now.inputs a.at (told a.text.now a.steps.now.inputs a.at c.byte.result c.in-Opening.ensures c.byte.ensures) tt in
    (omega (arith, c.if-depth-eq0.false), record { short = s.short; few_steps = omega (arith, s.few_steps); inside = omega (arith, h) })

pub operand-returns-in_err-inner-in-Opening : goal.operand-returns-in_err-inner-in-Opening
operand-returns-in_err-inner-in-Opening t c =
    let a = c.args in
    let o = told a.text.now a.steps.now.inputs a.at c.byte.result c.in-Opening.ensures c.byte.ensures in
    let w = c.in_err-inner-in-Opening.field-0.0 in
    let p = err_from_is_err_and c.from_residual.result c.from_residual.ensures.1 in
    rw (p.1, p.2)
    (at_depth a.depth c.if-depth-eq0.false (λ (n : ℕ). Breaks a.text.now a.steps.now.inputs 0 n a.at w.place)
    (inner_breaks a.text.now a.steps.now.inputs (a.depth - 1) a.at o (inside a.text.now a.steps.now.inputs a.at o tt) w.place c.in_err-inner-in-Opening.ensures))

pub operand-returns-then-byte-ne41 : goal.operand-returns-then-byte-ne41
operand-returns-then-byte-ne41 t c =
    let a = c.args in
    let o = told a.text.now a.steps.now.inputs a.at c.byte.result c.in-Opening.ensures c.byte.ensures in
    let r = c.in_ok-inner-in-Opening.ensures in
    subst (Breaks a.text.now a.steps.now.inputs 0 a.depth a.at) (sym c.wrong_at-then-byte-ne41.ensures)
    (at_depth a.depth c.if-depth-eq0.false (λ (n : ℕ). Breaks a.text.now a.steps.now.inputs 0 n a.at (suc c.in_ok-inner-in-Opening.inner.next))
    (not_closed a.text.now a.steps.now.inputs (a.depth - 1) a.at o (inside a.text.now a.steps.now.inputs a.at o tt) a.steps.now c.chain.new.steps
    c.in_ok-inner-in-Opening.inner r.right r.stops (λ e. c.if-byte-ne41.true (c.byte-in-Opening.ensures ∙ e))))

pub operand-returns-in-Digit : goal.operand-returns-in-Digit
operand-returns-in-Digit t c =
    let a = c.args in
    let d = told a.text.now a.steps.now.inputs a.at c.byte.result c.in-Digit.ensures c.byte.ensures in
    record {
      right =
          literal_right a.text.now a.steps.now.inputs a.depth a.at _ d (inside a.text.now a.steps.now.inputs a.at d tt) a.steps.now c.constant.new.steps c.constant.result refl
          c.constant.ensures;
      stops = no_rank (get_or a.text.now c.constant.result.next 0);
    }

pub operand-returns-in-Letter : goal.operand-returns-in-Letter
operand-returns-in-Letter t c =
    let a = c.args in
    let e = told a.text.now a.steps.now.inputs a.at c.byte.result c.in-Letter.ensures c.byte.ensures in
    record {
      right = letter_right a.text.now a.steps.now.inputs a.depth a.at _ e (inside a.text.now a.steps.now.inputs a.at e tt) a.steps.now refl;
      stops = no_rank (get_or a.text.now (a.at + 1) 0);
    }

pub operand-returns-else-byte-ne41 : goal.operand-returns-else-byte-ne41
operand-returns-else-byte-ne41 t c =
    let a = c.args in
    let o = told a.text.now a.steps.now.inputs a.at c.byte.result c.in-Opening.ensures c.byte.ensures in
    let p = c.in_ok-inner-in-Opening.inner in
    let r = c.in_ok-inner-in-Opening.ensures in
    let after = c.chain.new.steps in
    let closing : get_or a.text.now p.next 0 ≡ 41 = sym c.byte-in-Opening.ensures ∙ c.if-byte-ne41.false in
    let l = inside a.text.now a.steps.now.inputs p.next (ap (token_of a.steps.now.inputs) closing ∙ token_closing a.steps.now.inputs) tt in
    record {
      right =
          at_depth a.depth c.if-depth-eq0.false
          (λ (n : ℕ). Right a.text.now a.steps.now.inputs 0 n a.at a.steps.now after (record { next = p.next + 1; row = p.row }))
          (brackets_right a.text.now a.steps.now.inputs (a.depth - 1) a.at o (inside a.text.now a.steps.now.inputs a.at o tt) a.steps.now after p r.right r.stops closing l);
      stops = no_rank (get_or a.text.now (p.next + 1) 0);
    }

pub operand-returns-in-Operator : goal.operand-returns-in-Operator
operand-returns-in-Operator t c =
    let a = c.args in
    let no : (k : Token) → c.token_of.result ≡ k → Bad a.text.now a.steps.now.inputs a.depth a.at k → Breaks a.text.now a.steps.now.inputs 0 a.depth a.at (suc a.at) =
    λ k e b. no_operand a.text.now a.steps.now.inputs a.depth a.at (told a.text.now a.steps.now.inputs a.at c.byte.result (sym e ∙ c.token_of.ensures) c.byte.ensures) b in
    subst (Breaks a.text.now a.steps.now.inputs 0 a.depth a.at) (sym c.wrong_at-in-Operator.ensures)
    (⊎_elim (λ (g, e). no (Operator g) e (λ o around d. refl)) (⊎_elim (λ e. no Closing e (λ o around d. refl)) (λ e. no Other e (λ o around d. refl))) c.in-Operator.is)
