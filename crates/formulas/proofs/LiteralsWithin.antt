-- What is found byte by byte is the first literal of the grammar that is beyond the limits, and nothing is found exactly if the tree has none.
use mathlib.Core.Path.{◌≡◌, refl, ap, ap₂, ◌∙◌}
use mathlib.Core.Logic.{◌↔◌}
use mathlib.Core.Bool.{Bool, true, false, cond}
use mathlib.Core.List.{List, [], ◌∷◌, ◌++◌, append_assoc, append-nil}
use Prim.Native.Nat.{ℕ, suc, ◌+◌, ◌≤◌, ◌<◌}
use native.Mathlib.Nat.{add-suc}
use native.Mathlib.Numerals.{add-one}
use native.Mathlib.Omega.{arith}
use borrow.Author.Tests.{lt-ltb, le-ltb, ltb-true, ltb-false}
use lib.Dec.{ltb, lit≤}
use lib.ListN.{length, get_or}
use Rattle.std.specs.Prelude.{Some, find, All}
use Rattle.std.proofs.lemmas.List.Elements.{All-nil, All-cons, All-head, All-tail, All-append}
use Rattle.sheet.specs.Choice.{pick}
use Rattle.sheet.specs.Limits.{end_limit}
use Rattle.sheet.specs.Number.{digit_of}
use Rattle.sheet.proofs.Choice.{pick_elim}
use Rattle.formulas.specs.Grammar.{Tree, byte_of, Numeral, Text, letter_text, literal_text, brackets, alone, joined, Formula, Literal, literals_of}
use Rattle.formulas.specs.Steps.{LiteralsWithin}
use Rattle.formulas.specs.Answer.{front_value, first_beyond}
use Rattle.formulas.specs.Claims.{is_beyond}
use Rattle.formulas.proofs.Places.{end_joined, end_brackets}
use Rattle.formulas.proofs.ByteTokens.{digit_of_lem, letter_no_digit, sign_no_digit}
use Rattle.formulas.proofs.Numerals.{through_digits, numeral_front, front_value_lem}

-- ---- byte by byte

beyond_other : (place b : ℕ) (bs : List ℕ) → 10 ≤ digit_of b → first_beyond place false (b ∷ bs) ≡ first_beyond (suc place) false bs
unfolding first_beyond
beyond_other place b bs h = rw (le-ltb (digit_of b) 10 h)

-- the literal in front is the first that counts
beyond_front : (place : ℕ) (l : List ℕ) → digit_of (get_or l 0 0) < 10
    → first_beyond place false l ≡ pick (ltb end_limit (front_value 0 l)) place (first_beyond place true l)
unfolding first_beyond
beyond_front place [] h = absurd (omega arith)
beyond_front place (b ∷ bs) h = rw (lt-ltb (digit_of b) 10 h)

-- within a literal digits are passed over
beyond_inside : (place d : ℕ) (bs : List ℕ) → d < 10 → first_beyond place true ((48 + d) ∷ bs) ≡ first_beyond (suc place) true bs
unfolding first_beyond
beyond_inside place d bs h = rw (digit_of_lem d h, lt-ltb d 10 h)

beyond_passed : {s : List ℕ} {v : ℕ} → Numeral s v → (place : ℕ) (rest : List ℕ) → first_beyond place true (s ++ rest) ≡ first_beyond (place + length s) true rest
beyond_passed x place =
    through_digits (first_beyond place true) (λ n w. first_beyond (place + n) true) (λ d l g. rw add-one (beyond_inside place d l g))
    (λ n w d l z g. rw add-suc (beyond_inside (place + n) d l g)) x

-- behind it there is no difference
beyond_behind : (place : ℕ) (rest : List ℕ) → 10 ≤ digit_of (get_or rest 0 0) → first_beyond place true rest ≡ first_beyond place false rest
unfolding first_beyond
beyond_behind place [] h = refl
beyond_behind place (b ∷ bs) h = rw (le-ltb (digit_of b) 10 h)

beyond_numeral : {s : List ℕ} {v : ℕ} → Numeral s v → (place : ℕ) (rest : List ℕ) → 10 ≤ digit_of (get_or rest 0 0)
    → first_beyond place false (s ++ rest) ≡ pick (ltb end_limit v) place (first_beyond (place + length s) false rest)
beyond_numeral {s} x place rest h =
    beyond_front place (s ++ rest) (numeral_front x rest)
    ∙ ap₂ (λ (w z : ℕ). pick (ltb end_limit w) place z) (front_value_lem x rest h) (beyond_passed x place rest ∙ beyond_behind (place + length s) rest h)

-- ---- texts

-- the place of the first of these literals that is beyond the limits, or what is found behind them
beyond_in : List Literal → ℕ → ℕ
beyond_in [] z = z
beyond_in (l ∷ ls) z = pick (is_beyond l) l.place (beyond_in ls z)

beyond_in-append : (ls ms : List Literal) (z : ℕ) → beyond_in (ls ++ ms) z ≡ beyond_in ls (beyond_in ms z)
unfolding beyond_in
beyond_in-append [] ms z = refl
beyond_in-append (l ∷ ls) ms z = ap (pick (is_beyond l) l.place) (beyond_in-append ls ms z)

text_beyond : {inputs r k : ℕ} {s : List ℕ} {t : Tree} (x : Text inputs r k s t) (place : ℕ) (rest : List ℕ) → 10 ≤ digit_of (get_or rest 0 0)
    → first_beyond place false (s ++ rest) ≡ beyond_in (literals_of place x) (first_beyond (place + length s) false rest)
unfolding literals_of beyond_in
text_beyond (letter_text {i} h) place rest behind = rw (beyond_other place (97 + i) rest (letter_no_digit i), add-one) refl
text_beyond (literal_text x) place rest behind = beyond_numeral x place rest behind
text_beyond (brackets {s} x) place rest behind =
    rw (beyond_other place 40 ((s ++ (41 ∷ [])) ++ rest) (lit≤ tt), append_assoc s (41 ∷ []) rest, end_brackets place s)
    (rw (beyond_other (suc place + length s) 41 rest (lit≤ tt)) at (text_beyond x (suc place) (41 ∷ rest) (lit≤ tt)))
text_beyond (alone x) place rest behind = text_beyond x place rest behind
text_beyond (joined {s} {s'} g e x y) place rest behind =
    let other : 10 ≤ digit_of (byte_of g) = sign_no_digit g in
    rw (append_assoc s (byte_of g ∷ s') rest, end_joined place s (byte_of g) s', beyond_in-append (literals_of place x) (literals_of (suc (place + length s)) y))
    (rw (beyond_other (place + length s) (byte_of g) (s' ++ rest) other, text_beyond y (suc (place + length s)) rest behind) at (text_beyond x place (byte_of g ∷ (s' ++ rest)) other))

formula_beyond : {inputs : ℕ} {s : List ℕ} {t : Tree} (x : Formula inputs s t) → first_beyond 1 false s ≡ beyond_in (literals_of 1 x) 0
unfolding first_beyond
formula_beyond {s} x = rw append-nil at (text_beyond x 1 [] (lit≤ tt))

-- ---- nothing is found exactly if the tree has none

numeral_clear : (place v w : ℕ) → 0 < place → (pick (ltb end_limit v) place w ≡ 0) ↔ ((v ≤ end_limit) × (w ≡ 0))
numeral_clear place v w some =
    pick_elim (λ (z : ℕ). (z ≡ 0) ↔ ((v ≤ end_limit) × (w ≡ 0))) (ltb end_limit v) place w
    (λ e. (λ z. absurd (omega arith), λ h. absurd (omega (arith, ltb-true end_limit v e))))
    (λ e. (λ z. (ltb-false end_limit v e, z), λ h. h.1))

one_after_another : {X Y Z A B : Type 0} → X ↔ (A × Y) → Y ↔ (B × Z) → X ↔ ((A × B) × Z)
one_after_another x y =
    (λ h. let (a, u) = x.0 h in let (b, z) = y.0 u in ((a, b), z), λ h. x.1 (h.0.0, y.1 (h.0.1, h.1)))

clear : {inputs r k : ℕ} {s : List ℕ} {t : Tree} (x : Text inputs r k s t) (place z : ℕ) → 0 < place
    → (beyond_in (literals_of place x) z ≡ 0) ↔ (LiteralsWithin t × (z ≡ 0))
unfolding literals_of beyond_in LiteralsWithin
clear (letter_text h) place z some = (λ h. (tt, h), λ h. h.1)
clear (literal_text {v} x) place z some = numeral_clear place v z some
clear (brackets x) place z some = clear x (suc place) z (omega arith)
clear (alone x) place z some = clear x place z some
clear (joined {s} g e x y) place z some =
    let behind = literals_of (suc (place + length s)) y in
    rw (beyond_in-append (literals_of place x) behind z)
    (one_after_another (clear x place (beyond_in behind z) some) (clear y (suc (place + length s)) z (omega arith)))

pub literals_within : (inputs : ℕ) (s : List ℕ) (t : Tree) → Formula inputs s t → (first_beyond 1 false s ≡ 0) ↔ LiteralsWithin t
literals_within inputs s t x =
    let whole = clear x 1 0 (omega arith) in
    rw (formula_beyond x) (λ h. (whole.0 h).0, λ h. whole.1 (h, refl))

-- ---- what is found is the first beyond the limits

-- the first of these literals that is beyond the limits has this place
abbrev FirstAt : List Literal → ℕ → Type 0
FirstAt ls place = (v : ℕ) × (find is_beyond ls ≡ Some (record { place = place; value = v }))

-- a literal in front of others, by whether it is beyond the limits
front_first : (b : Bool) (l : Literal) (ls : List Literal) (n : ℕ) → n ≡ pick b l.place (beyond_in ls 0) → (n ≡ beyond_in ls 0 → FirstAt ls n)
    → (v : ℕ) × (cond b (Some l) (find is_beyond ls) ≡ Some (record { place = n; value = v }))
front_first true l ls n e f = (l.value, rw e refl)
front_first false l ls n e f = f e

first_at : (ls : List Literal) (n : ℕ) → n ≡ beyond_in ls 0 → (n ≡ 0 → ⊥) → FirstAt ls n
unfolding beyond_in
first_at [] n e h = absurd (h e)
first_at (l ∷ ls) n e h = front_first (is_beyond l) l ls n e (λ q. first_at ls n q h)

pub beyond_first : {inputs : ℕ} {s : List ℕ} {t : Tree} (x : Formula inputs s t) → (first_beyond 1 false s ≡ 0 → ⊥) → FirstAt (literals_of 1 x) (first_beyond 1 false s)
beyond_first {s} x h = first_at (literals_of 1 x) (first_beyond 1 false s) (formula_beyond x) h

abbrev HasPlace : Literal → Type 0
HasPlace l = 0 < l.place

placed : {inputs r k : ℕ} {s : List ℕ} {t : Tree} (x : Text inputs r k s t) (place : ℕ) → 0 < place → All HasPlace (literals_of place x)
unfolding literals_of
placed (letter_text h) place some = All-nil HasPlace
placed (literal_text {v} x) place some = All-cons HasPlace (record { place = place; value = v }) [] some (All-nil HasPlace)
placed (brackets x) place some = placed x (suc place) (omega arith)
placed (alone x) place some = placed x place some
placed (joined {s} g e x y) place some =
    All-append HasPlace (literals_of place x) (literals_of (suc (place + length s)) y) (placed x place some) (placed y (suc (place + length s)) (omega arith))

-- what is found first is one of them
front_found : (b : Bool) (f l : Literal) (ls : List Literal) → HasPlace f → (find is_beyond ls ≡ Some l → (beyond_in ls 0 ≡ l.place) × HasPlace l)
    → cond b (Some f) (find is_beyond ls) ≡ Some l → (pick b f.place (beyond_in ls 0) ≡ l.place) × HasPlace l
front_found true f l ls h behind e = let q : f ≡ l = cc in rw (← q) (refl, h)
front_found false f l ls h behind e = behind e

found_at : (ls : List Literal) (l : Literal) → All HasPlace ls → find is_beyond ls ≡ Some l → (beyond_in ls 0 ≡ l.place) × HasPlace l
unfolding beyond_in
found_at [] l h e = absurd cc
found_at (f ∷ ls) l h e = front_found (is_beyond f) f l ls (All-head HasPlace f ls h) (found_at ls l (All-tail HasPlace f ls h)) e

pub first_beyond_lem : {inputs : ℕ} {s : List ℕ} {t : Tree} (x : Formula inputs s t) (l : Literal) → find is_beyond (literals_of 1 x) ≡ Some l
    → (first_beyond 1 false s ≡ l.place) × HasPlace l
first_beyond_lem x l e =
    let f = found_at (literals_of 1 x) l (placed x 1 (omega arith)) e in
    (formula_beyond x ∙ f.0, f.1)
