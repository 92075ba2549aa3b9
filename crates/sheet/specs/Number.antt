-- Reading a number field. `proofs/Numeral.antt` shows that exactly the numerals of `Text.antt` are accepted.
use Rattle.std.specs.Prelude.{Bool, true, false, List, [], ◌∷◌, ℕ, suc, ◌+◌, ◌-◌, ◌*◌, leb, ltb, eqb, get_or, drop, ℤ, pos, neg_ℤ}
use Rattle.sheet.specs.Choice.{pick}
use Rattle.sheet.specs.declared.number.Found.{Found}
use Rattle.sheet.specs.Answers.{Field, Number, Broken}

-- The digit that a byte stands for, or 10.
abbrev pub digit_of : ℕ → ℕ
digit_of b = pick (ltb b 48) 10 (pick (leb b 57) (b - 48) 10)

abbrev pub run_of : ℕ → ℕ → Found ℕ
run_of value next = record { value = value; next = next }

-- The digits from position `p` on, with `a` the value of those before them. It stops before a value of 11 digits.
unfoldable pub run : ℕ → ℕ → List ℕ → Found ℕ
run a p [] = run_of a p
run a p (b ∷ bs) =
    pick (ltb (digit_of b) 10)
    (pick (ltb a 1000000000) (run (a * 10 + digit_of b) (suc p) bs) (run_of a p))
    (run_of a p)

abbrev pub signed_of : Bool → ℕ → ℤ
signed_of true v = neg_ℤ (pos v)
signed_of false v = pos v

-- Digits from `q` to `e` of value `v`, the first byte `first`, the byte behind them `last`: a number ended by `t` if there
-- is a digit, `last` is `t`, and a leading 0 stands alone and with no minus.
unfoldable pub judged : Bool → ℕ → ℕ → ℕ → ℕ → ℕ → ℕ → Field
judged minus v q e first last t =
    pick (leb e q) Broken
    (pick (eqb last t)
    (pick (eqb first 48)
    (pick (eqb e (q + 1)) (pick minus Broken (Number (signed_of minus v) (e + 1))) Broken)
    (Number (signed_of minus v) (e + 1)))
    Broken)

unfoldable pub after_sign : List ℕ → Bool → ℕ → ℕ → Field
after_sign s minus q t =
    let r = run 0 q (drop q s) in
    judged minus r.value q r.next (get_or s q 0) (get_or s r.next 0) t

-- The number field at position `at` of `s`, ended by the byte `t`.
unfoldable pub field_at : List ℕ → ℕ → ℕ → Field
field_at s at t = pick (eqb (get_or s at 0) 45) (after_sign s true (at + 1) t) (after_sign s false at t)
