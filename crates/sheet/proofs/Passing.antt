-- What a passed test 3, 4 or 5 says of the numbers, in natural numbers: for the reader's bounds, for the sheet's length, and for evaluation.
use mathlib.Core.Path.{◌≡◌, refl, sym, ap, ◌∙◌}
use mathlib.Core.Bool.{Bool, true, false}
use Prim.Native.Nat.{ℕ, ◌-◌, ◌≤◌}
use native.Mathlib.Omega.{arith}
use borrow.Author.Tests.{leb-true, le-leb, lt-leb}
use lib.Dec.{leb}
use lib.Signed.{le_z}
use lib.IntN.{ℤ, pos, negsuc, nat_abs}
use Rattle.sheet.specs.Choice.{pick}
use Rattle.capacity.specs.Limits.{max_inputs, max_steps}
use Rattle.sheet.specs.Limits.{end_limit, last_binary, last_code}
use Rattle.sheet.specs.Lines.{natural}
pub use Rattle.sheet.specs.Passed.{Natural, CountsPassed, EndsPassed, StepPassed}
use Rattle.sheet.specs.Tests.{between, is_zero, within_limit, names_row, counts_pass, ends_pass, step_passes, row_passes, value_passes}

never : {X : Type 0} → ◌≡◌ {A = Bool} false true → X
never e = absurd (let y : ◌≡◌ {A = ℕ} 0 1 = cc in omega arith)

-- both of two tests
pub both : (a b : Bool) → pick a b false ≡ true → (a ≡ true) × (b ≡ true)
both true b e = (refl, e)
both false b e = never e

pub between_natural : (a b : ℕ) (z : ℤ) → between (pos a) z (pos b) ≡ true → Natural a b z
between_natural a b (pos n) e = let t = both (leb a n) (leb n b) e in record { is = refl; from = leb-true a n t.0; to = leb-true n b t.1 }
between_natural a b (negsuc n) e = never e

pub names_row_natural : (r : ℕ) (z : ℤ) → names_row r z ≡ true → Natural 1 r z
names_row_natural r (pos n) e = let t = both (leb 1 n) (leb n r) e in record { is = refl; from = leb-true 1 n t.0; to = leb-true n r t.1 }
names_row_natural r (negsuc n) e = never e

pub zero_is : (z : ℤ) → is_zero z ≡ true → z ≡ pos 0
zero_is z e = let n = between_natural 0 0 z e in n.is ∙ ap pos (omega (arith, n.to))

pub within_limit_lem : (z : ℤ) → within_limit z ≡ true → nat_abs z ≤ end_limit
within_limit_lem (pos n) e = leb-true n end_limit e
within_limit_lem (negsuc n) e = let t = both (leb n (end_limit - 1)) true e in omega (arith, leb-true n (end_limit - 1) t.0)

pub counts_passed : (inputs squares steps : ℤ) → counts_pass inputs squares steps ≡ true → CountsPassed inputs squares steps
unfolding counts_pass
counts_passed inputs squares steps e =
    let t = both (between (pos 1) inputs (pos max_inputs)) _ e in
    let u = both (between (pos 0) squares inputs) _ t.1 in
    let n = between_natural 1 max_inputs inputs t.0 in
    record {
      inputs_in = n;
      squares_in = between_natural 0 (natural inputs) squares (rw n.is at u.0);
      steps_in = between_natural 1 max_steps steps u.1;
    }

pub ends_passed : (low high : ℤ) → ends_pass low high ≡ true → EndsPassed low high
unfolding ends_pass
ends_passed low high e =
    let t = both (within_limit low) _ e in
    let u = both (within_limit high) _ t.1 in
    record { low_in = within_limit_lem low t.0; high_in = within_limit_lem high u.0; order = u.1 }

-- a field's test, by whether the field is used
row_used : (r : ℕ) (z : ℤ) (u : Bool) → row_passes u r z ≡ true → u ≡ true → Natural 1 r z
row_used r z true e q = names_row_natural r z e
row_used r z false e q = never q

row_unused : (r : ℕ) (z : ℤ) (u : Bool) → row_passes u r z ≡ true → u ≡ false → z ≡ pos 0
row_unused r z true e q = never (sym q)
row_unused r z false e q = zero_is z e

step_passed_natural : (earlier k : ℕ) (first second value : ℤ)
    → 1 ≤ k → k ≤ last_code
    → row_passes (leb 2 k) earlier first ≡ true
    → row_passes (pick (leb 2 k) (leb k last_binary) false) earlier second ≡ true
    → value_passes (leb k 1) value ≡ true
    → StepPassed earlier (pos k) first second value
step_passed_natural r k first second value a b p q v = record {
  code_in = record { is = refl; from = a; to = b };
  first_row = λ h. row_used r first (leb 2 k) p (le-leb 2 k h);
  first_zero = λ h. row_unused r first (leb 2 k) p (lt-leb 2 k (omega arith));
  second_row = λ h g. row_used r second (pick (leb 2 k) (leb k last_binary) false) q (simp (le-leb 2 k h) (le-leb k last_binary g));
  second_zero = λ h. row_unused r second (pick (leb 2 k) (leb k last_binary) false) q (simp (lt-leb 2 k (omega arith)));
  second_zero_last = λ h. row_unused r second (pick (leb 2 k) (leb k last_binary) false) q (simp (le-leb 2 k (omega arith), lt-leb k last_binary h));
  value_in = λ h. within_limit_lem value (rw (le-leb k 1 h) at v);
  value_zero = λ h. zero_is value (rw (lt-leb k 1 (omega arith)) at v);
}

pub step_passed : (earlier : ℕ) (code first second value : ℤ) → step_passes earlier code first second value ≡ true → StepPassed earlier code first second value
unfolding step_passes
step_passed r code first second value e =
    let t = both (between (pos 1) code (pos last_code)) _ e in
    let n = between_natural 1 last_code code t.0 in
    go code n e
  where
    go : (code : ℤ) → Natural 1 last_code code
        → pick (between (pos 1) code (pos last_code)) (pick (row_passes (le_z (pos 2) code) r first) (pick (row_passes (between (pos 2) code (pos last_binary)) r second) (value_passes (le_z code (pos 1)) value) false) false) false ≡ true
        → StepPassed r code first second value
    go (pos k) n e =
        let t = both (between (pos 1) (pos k) (pos last_code)) _ e in
        let u = both (row_passes (leb 2 k) r first) _ t.1 in
        let w = both (row_passes (pick (leb 2 k) (leb k last_binary) false) r second) _ u.1 in
        step_passed_natural r k first second value n.from n.to u.0 w.0 w.1
    go (negsuc k) n e = absurd (omega (arith, n.from))
