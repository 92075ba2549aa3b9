-- The field reader accepts exactly the numerals: `field_complete` reads what is written, `field_sound` says that what was read is written so.
use mathlib.Core.Path.{◌≡◌, refl, sym, ap, ◌∙◌}
use mathlib.Core.Bool.{Bool, true, false}
use mathlib.Core.List.{List, [], ◌∷◌, ◌++◌, append_assoc}
use Prim.Native.Nat.{ℕ, zero, suc, ◌+◌, ◌-◌, ◌*◌, ◌/◌, ◌%◌, ◌^◌, ◌≤◌, ◌<◌}
use native.Mathlib.Nat.{pow-suc, add-zero}
use native.Mathlib.Numerals.{add-one}
use native.Mathlib.Omega.{arith}
use native.Mathlib.Decide.{dec_lt}
use Rattle.sheet.proofs.Decimal.{decimal_one, decimal_value}
use borrow.Author.Tests.{lt-ltb, le-ltb, le-leb, lt-leb, ltb-true, ltb-false, leb-false, eqb-true, eqb-false, eq-eqb, ne_eqb}
use lib.Dec.{ltb, leb, eqb}
use lib.IntN.{ℤ, pos, negsuc, nat_abs, neg_ℤ}
use lib.Seq.{drop-nil, get_or-drop, get_or-append_seam, drop-cons, drop-drop}
use lib.ListN.{length, take, drop, get_or, length-append}
use Rattle.std.specs.Str.Parse.{digits_value, signed_digits_value}
use Rattle.sheet.specs.Choice.{pick}
use Rattle.sheet.specs.Number.{digit_of, run, run_of, signed_of, judged, after_sign, field_at}
use Rattle.sheet.specs.declared.number.Found.{Found}
use Rattle.sheet.specs.Answers.{Field, Number, Broken}
use Rattle.sheet.specs.Text.{most_digits, decimal, numeral}
use Rattle.sheet.specs.Wrote.{Wrote}
use Rattle.sheet.proofs.Choice.{pick_elim}
use Rattle.sheet.proofs.Written.{wrote_there}
use Rattle.sheet.proofs.Digits.{run_within, inside}

digit_of_lem : (d : ℕ) → d < 10 → digit_of (d + 48) ≡ d
digit_of_lem d h = simp (le-ltb (d + 48) 48 (omega arith), le-leb (d + 48) 57 (omega arith)) (omega arith)

pub run_step : (a p d : ℕ) (bs : List ℕ) → a < 1000000000 → d < 10 → run a p ((d + 48) ∷ bs) ≡ run (a * 10 + d) (suc p) bs
unfolding run
run_step a p d bs h g = simp (digit_of_lem d g, lt-ltb d 10 g, lt-ltb a 1000000000 h)

pub run_stop : (a p t : ℕ) (bs : List ℕ) → 10 ≤ digit_of t → run a p (t ∷ bs) ≡ run_of a p
unfolding run
run_stop a p t bs h = simp (le-ltb (digit_of t) 10 h)

-- reading what was shown
pub run_decimal : (k n p : ℕ) (rest : List ℕ) → n < 10 ^ k → n < 10000000000 → run 0 p (decimal k n ++ rest) ≡ run n (p + length (decimal k n)) rest
unfolding decimal
run_decimal zero n p rest h g = let z : n ≡ 0 = omega arith in let y : p + 0 ≡ p = omega arith in rw (z, y)
run_decimal (suc k) n p rest h g =
    pick_elim (λ (l : List ℕ). run 0 p (l ++ rest) ≡ run n (p + length l) rest) (ltb n 10) ((n + 48) ∷ []) (decimal k (n / 10) ++ ((n % 10 + 48) ∷ []))
    (λ e. let b : n < 10 = ltb-true n 10 e in
    run_step 0 p n rest (omega arith) b ∙ (let x : 0 * 10 + n ≡ n = omega arith in let y : p + 1 ≡ suc p = omega arith in rw (x, y)))
    (λ e. let d : ℕ = n % 10 in let m : ℕ = n / 10 in
    let w : n < 10 ^ k * 10 = rw pow-suc at h in
    rw (append_assoc (decimal k m) ((d + 48) ∷ []) rest, length-append (decimal k m) ((d + 48) ∷ []))
    (run_decimal k m p ((d + 48) ∷ rest) (omega arith) (omega arith)
    ∙ run_step m (p + length (decimal k m)) d rest (omega arith) (omega arith)
    ∙ (let x : m * 10 + d ≡ n = omega arith in let y : p + (length (decimal k m) + 1) ≡ suc (p + length (decimal k m)) = omega arith in rw (x, y))))

-- a number's first digit: 0 only for 0 itself, alone
pub record Headed (l : List ℕ) (n : ℕ) : Type 0 where
  pub h : ℕ
  pub tl : List ℕ
  pub is : l ≡ (h + 48) ∷ tl
  pub small : h < 10
  pub lone : h ≡ 0 → (n ≡ 0) × (tl ≡ [])

pub headed : (k n : ℕ) → n < 10 ^ suc k → Headed (decimal (suc k) n) n
unfolding decimal
headed zero n g =
    pick_elim (λ (l : List ℕ). Headed l n) (ltb n 10) ((n + 48) ∷ []) _
    (λ e. record { h = n; tl = []; is = refl; small = ltb-true n 10 e; lone = λ z. (z, refl) })
    (λ e. absurd (omega (arith, ltb-false n 10 e)))
headed (suc k) n g =
    let w : n < 10 ^ suc k * 10 = rw pow-suc at g in
    let r = headed k (n / 10) (omega arith) in
    pick_elim (λ (l : List ℕ). Headed l n) (ltb n 10) ((n + 48) ∷ []) (decimal (suc k) (n / 10) ++ ((n % 10 + 48) ∷ []))
    (λ e. record { h = n; tl = []; is = refl; small = ltb-true n 10 e; lone = λ z. (z, refl) })
    (λ e. record {
      h = r.h;
      tl = r.tl ++ ((n % 10 + 48) ∷ []);
      is = ap (λ (l : List ℕ). l ++ ((n % 10 + 48) ∷ [])) r.is;
      small = r.small;
      lone = λ z. absurd (omega (arith, ltb-false n 10 e, (r.lone z).0));
    })

pub judged_ok : (minus : Bool) (v q e first last t : ℕ) → q < e → last ≡ t → (first ≡ 48 → (e ≡ q + 1) × (minus ≡ false)) → judged minus v q e first last t ≡ Number (signed_of minus v) (e + 1)
unfolding judged
judged_ok minus v q e first last t h1 h2 h3 =
    simp (lt-leb e q h1, eq-eqb last t h2)
    (pick_elim (λ (x : Field). x ≡ Number (signed_of minus v) (e + 1)) (eqb first 48) _ _
    (λ b. let f = h3 (eqb-true first 48 b) in simp (eq-eqb e (q + 1) f.0, f.1))
    (λ b. refl))

-- what an accepted run is
pub record Judged (minus : Bool) (v q e first last t : ℕ) (w : ℤ) (n : ℕ) : Type 0 where
  pub some : q < e
  pub ends : last ≡ t
  pub zero : first ≡ 48 → (e ≡ q + 1) × (minus ≡ false)
  pub value : w ≡ signed_of minus v
  pub next : n ≡ e + 1

clash : {X : Type 0} {w : ℤ} {n : ℕ} → Broken ≡ Number w n → X
clash p = absurd (let y : ◌≡◌ {A = ℕ} 0 1 = cc in omega arith)

pub judged_inv : (minus : Bool) (v q e first last t : ℕ) (w : ℤ) (n : ℕ) → judged minus v q e first last t ≡ Number w n → Judged minus v q e first last t w n
unfolding judged
judged_inv minus v q e first last t w n =
    pick_elim P (leb e q) _ _ (λ b. clash)
    (λ b1. pick_elim P (eqb last t) _ _
    (λ b2. pick_elim P (eqb first 48) _ _
    (λ b3. pick_elim P (eqb e (q + 1)) _ _
    (λ b4. pick_elim P minus _ _ (λ b. clash)
    (λ b5 p. record { some = leb-false e q b1; ends = eqb-true last t b2; zero = λ z. (eqb-true e (q + 1) b4, b5); value = cc; next = cc }))
    (λ b. clash))
    (λ b3 p. record { some = leb-false e q b1; ends = eqb-true last t b2; zero = λ z. absurd (eqb-false first 48 b3 z); value = cc; next = cc }))
    (λ b. clash))
  where
    P : Field → Type 0
    P x = x ≡ Number w n → Judged minus v q e first last t w n

-- what stands k places behind q
at_drop : (s : List ℕ) (q k : ℕ) (l : List ℕ) → drop q s ≡ l → get_or s (q + k) 0 ≡ get_or l k 0
at_drop s q k l e = rw (← get_or-drop q s k 0, e)

module _ (s : List ℕ) (minus : Bool) (q t n : ℕ) (rest : List ℕ) where
  pub after_sign_text : n < 10000000000 → 10 ≤ digit_of t → (n ≡ 0 → minus ≡ false) → drop q s ≡ decimal most_digits n ++ (t ∷ rest)
      → after_sign s minus q t ≡ Number (signed_of minus n) (q + length (decimal most_digits n) + 1)
  unfolding after_sign
  after_sign_text g d f e =
      let m : ℕ = length (decimal most_digits n) in
      let r = headed 19 n (omega arith) in
      let z : q + 0 ≡ q = omega arith in
      let long : length (decimal most_digits n) ≡ suc (length r.tl) = ap length r.is in
      let first : get_or s q 0 ≡ r.h + 48 = rw z at (at_drop s q 0 (decimal most_digits n ++ (t ∷ rest)) e) ∙ rw r.is in
      let last : get_or s (q + m) 0 ≡ t = at_drop s q m (decimal most_digits n ++ (t ∷ rest)) e ∙ get_or-append_seam (decimal most_digits n) t rest 0 in
      rw (e, run_decimal most_digits n q (t ∷ rest) (omega arith) g, run_stop n (q + m) t rest d)
      (judged_ok minus n q (q + m) (get_or s q 0) (get_or s (q + m) 0) t (omega arith) last
      (λ b. let y = r.lone (omega (arith, first)) in (omega (arith, ap length y.1), f y.0)))

pub field_complete : (s : List ℕ) (at t : ℕ) (v : ℤ) (rest : List ℕ) → nat_abs v < 10000000000 → 10 ≤ digit_of t → drop at s ≡ numeral v ++ (t ∷ rest)
    → field_at s at t ≡ Number v (at + length (numeral v) + 1)
unfolding field_at numeral
field_complete s at t (pos n) rest g d e =
    let r = headed 19 n (omega arith) in
    let z : at + 0 ≡ at = omega arith in
    let first : get_or s at 0 ≡ r.h + 48 = rw z at (at_drop s at 0 (decimal most_digits n ++ (t ∷ rest)) e) ∙ rw r.is in
    simp (ne_eqb (get_or s at 0) 45 (λ b. omega (arith, first, b))) (after_sign_text s false at t n rest g d (λ b. refl) e)
field_complete s at t (negsuc n) rest g d e =
    let z : at + 0 ≡ at = omega arith in
    let first : get_or s at 0 ≡ 45 = rw z at (at_drop s at 0 (45 ∷ (decimal most_digits (suc n) ++ (t ∷ rest))) e) in
    let e1 : drop (at + 1) s ≡ decimal most_digits (suc n) ++ (t ∷ rest) = sym (drop-drop 1 at s) ∙ ap (drop 1) e in
    simp (eq-eqb (get_or s at 0) 45 first) (after_sign_text s true (at + 1) t (suc n) rest g d (λ b. absurd (omega (arith, b))) e1 ∙ ap (Number (negsuc n)) (omega arith))

-- fuel that suffices is enough
decimal_fuel : (k n : ℕ) → n < 10 ^ suc k → decimal (suc k) n ≡ decimal (suc (suc k)) n
unfolding decimal
decimal_fuel zero n g = simp (lt-ltb n 10 (omega arith))
decimal_fuel (suc k) n g =
    let w : n < 10 ^ suc k * 10 = rw pow-suc at g in
    ap (λ (l : List ℕ). pick (ltb n 10) ((n + 48) ∷ []) (l ++ ((n % 10 + 48) ∷ []))) (decimal_fuel k (n / 10) (omega arith))

-- one digit more
decimal_snoc : (a d : ℕ) → 0 < a → a < 1000000000 → d < 10 → decimal most_digits (a * 10 + d) ≡ decimal most_digits a ++ ((d + 48) ∷ [])
unfolding decimal
decimal_snoc a d p h g =
    let x : (a * 10 + d) / 10 ≡ a = omega arith in
    let y : (a * 10 + d) % 10 ≡ d = omega arith in
    simp (le-ltb (a * 10 + d) 10 (omega arith), x, y) (ap (λ (l : List ℕ). l ++ ((d + 48) ∷ [])) (decimal_fuel 18 a (omega arith)))

undigit : (b : ℕ) → digit_of b < 10 → b ≡ digit_of b + 48
undigit b =
    pick_elim (λ (x : ℕ). x < 10 → b ≡ x + 48) (ltb b 48) 10 (pick (leb b 57) (b - 48) 10)
    (λ e h. absurd (omega arith))
    (λ e. pick_elim (λ (x : ℕ). x < 10 → b ≡ x + 48) (leb b 57) (b - 48) 10 (λ f h. omega (arith, ltb-false b 48 e)) (λ f h. absurd (omega arith)))

-- a run that has begun: what it read is its value's numeral
pub run_text : (a p : ℕ) (bs : List ℕ) → 0 < a → a < 10000000000 → decimal most_digits a ++ bs ≡ decimal most_digits (run a p bs).value ++ drop ((run a p bs).next - p) bs
unfolding run
run_text a p [] h g = rw (drop-nil (p - p))
run_text a p (b ∷ bs) h g =
    let x : p - p ≡ 0 = omega arith in
    let P : Found ℕ → Type 0 = λ r. decimal most_digits a ++ (b ∷ bs) ≡ decimal most_digits r.value ++ drop (r.next - p) (b ∷ bs) in
    let stop : decimal most_digits a ++ (b ∷ bs) ≡ decimal most_digits a ++ drop (p - p) (b ∷ bs) = rw x in
    pick_elim P (ltb (digit_of b) 10) _ _
    (λ e. pick_elim P (ltb a 1000000000) _ _ (λ f.
    let d : ℕ = digit_of b in
    let dl : d < 10 = ltb-true d 10 e in
    let al : a < 1000000000 = ltb-true a 1000000000 f in
    let w = run_within (a * 10 + d) (suc p) bs (omega arith) in
    let n : (run (a * 10 + d) (suc p) bs).next - p ≡ suc ((run (a * 10 + d) (suc p) bs).next - suc p) = omega (arith, w.from) in
    rw n
    (ap (λ (y : ℕ). decimal most_digits a ++ (y ∷ bs)) (undigit b dl) ∙ sym (append_assoc (decimal most_digits a) ((d + 48) ∷ []) bs)
    ∙ ap (λ (l : List ℕ). l ++ bs) (sym (decimal_snoc a d h al dl)) ∙ run_text (a * 10 + d) (suc p) bs (omega arith) (omega arith))) (λ f. stop))
    (λ e. stop)

-- a run that went nowhere has the value that it had
run_still : (a p : ℕ) (bs : List ℕ) → (run a p bs).next ≡ p → (run a p bs).value ≡ a
unfolding run
run_still a p [] = λ h. refl
run_still a p (b ∷ bs) =
    pick_elim (λ (r : Found ℕ). r.next ≡ p → r.value ≡ a) (ltb (digit_of b) 10) _ _
    (λ e. pick_elim (λ (r : Found ℕ). r.next ≡ p → r.value ≡ a) (ltb a 1000000000) _ _
    (λ f h. absurd (omega (arith, h, (run_within (a * 10 + digit_of b) (suc p) bs (omega (arith, ltb-true (digit_of b) 10 e, ltb-true a 1000000000 f))).from)))
    (λ f h. refl))
    (λ e h. refl)

-- a run from its first digit on, which is 0 only for 0 alone
pub run_first : (p : ℕ) (bs : List ℕ) → p < (run 0 p bs).next → (get_or bs 0 0 ≡ 48 → (run 0 p bs).next ≡ p + 1)
    → bs ≡ decimal most_digits (run 0 p bs).value ++ drop ((run 0 p bs).next - p) bs
unfolding run
run_first p [] = λ h z. absurd (omega arith)
run_first p (b ∷ bs) =
    pick_elim P (ltb (digit_of b) 10) _ _
    (λ e h z.
    let d : ℕ = digit_of b in
    let dl : d < 10 = ltb-true d 10 e in
    let y : 0 * 10 + d ≡ d = omega arith in
    let w = run_within (0 * 10 + d) (suc p) bs (omega arith) in
    let n : (run (0 * 10 + d) (suc p) bs).next - p ≡ suc ((run (0 * 10 + d) (suc p) bs).next - suc p) = omega (arith, w.from) in
    let R : Found ℕ = run (0 * 10 + d) (suc p) bs in
    let go : Dec (0 < d) → decimal most_digits (0 * 10 + d) ++ bs ≡ decimal most_digits R.value ++ drop (R.next - suc p) bs =
    elim [
      | yes l ↦ run_text (0 * 10 + d) (suc p) bs (omega arith) (omega arith)
      | no l ↦
          let q : R.next ≡ suc p = omega (arith, z (undigit b dl ∙ omega arith)) in
          let k : R.next - suc p ≡ 0 = omega arith in
          rw (run_still (0 * 10 + d) (suc p) bs q, k)
    ] in
    let one : decimal most_digits (0 * 10 + d) ≡ (d + 48) ∷ [] = rw y (decimal_one most_digits d (λ o. omega (arith, o)) dl) in
    rw n (ap (λ (x : ℕ). x ∷ bs) (undigit b dl) ∙ ap (λ (l : List ℕ). l ++ bs) (sym one) ∙ go (dec_lt 0 d)))
    (λ e h z. absurd (omega arith))
  where
    P : Found ℕ → Type 0
    P r = p < r.next → (b ≡ 48 → r.next ≡ p + 1) → b ∷ bs ≡ decimal most_digits r.value ++ drop (r.next - p) (b ∷ bs)

-- what an accepted field says of the numeral
pub record Stands (s : List ℕ) (at t : ℕ) (v : ℤ) (n : ℕ) : Type 0 where
  pub small : nat_abs v < 10000000000
  pub is : drop at s ≡ numeral v ++ (t ∷ drop n s)
  pub upto : n ≤ length s

module _ (s : List ℕ) (minus : Bool) (q t : ℕ) (w : ℤ) (n : ℕ) (t0 : 0 < t) (inn : q ≤ length s) where
  pub after_sign_inv : after_sign s minus q t ≡ Number w n
      → (v : ℕ) × (w ≡ signed_of minus v) × (v < 10000000000) × (drop q s ≡ decimal most_digits v ++ (t ∷ drop n s)) × (n ≤ length s) × (minus ≡ true → v ≡ 0 → ⊥)
  unfolding after_sign
  after_sign_inv p =
      let R : Found ℕ = run 0 q (drop q s) in
      let e : ℕ = R.next in
      let j = judged_inv minus R.value q e (get_or s q 0) (get_or s e 0) t w n p in
      let wi = run_within 0 q (drop q s) (omega arith) in
      let first : get_or (drop q s) 0 0 ≡ get_or s q 0 = get_or-drop q s 0 0 ∙ rw (add-zero q) in
      let f : drop q s ≡ decimal most_digits R.value ++ drop (e - q) (drop q s) = run_first q (drop q s) j.some (λ b. (j.zero (sym first ∙ b)).0) in
      let m : t ≡ suc (t - 1) = omega arith in
      let h : e < length s = inside s e (t - 1) (j.ends ∙ m) in
      let qe : q + (e - q) ≡ e = omega (arith, j.some) in
      let dd : drop (e - q) (drop q s) ≡ drop e s = drop-drop (e - q) q s ∙ ap (λ (k : ℕ). drop k s) qe in
      let se : suc e ≡ n = omega (arith, j.next) in
      let dc : drop e s ≡ t ∷ drop n s = drop-cons s e 0 h ∙ rw (j.ends, se) in
      let is : drop q s ≡ decimal most_digits R.value ++ (t ∷ drop n s) = f ∙ ap (λ (l : List ℕ). decimal most_digits R.value ++ l) (dd ∙ dc) in (
        R.value,
        j.value,
        wi.small,
        is,
        omega (arith, j.next),
        λ b z. let y : get_or s q 0 ≡ 48 = sym first ∙ ap (λ (l : List ℕ). get_or l 0 0) is ∙ rw (z, decimal_one most_digits 0 (λ o. omega (arith, o)) (omega arith)) in
            let k : minus ≡ false = (j.zero y).1 in absurd (let x : ◌≡◌ {A = ℕ} 0 1 = cc in omega arith),
      )

module _ (s : List ℕ) (at t : ℕ) (w : ℤ) (n : ℕ) where
  stands_minus : (v : ℕ) → w ≡ signed_of true v → v < 10000000000 → drop (at + 1) s ≡ decimal most_digits v ++ (t ∷ drop n s) → n ≤ length s → (v ≡ 0 → ⊥) → get_or s at 0 ≡ 45 → at < length s → Stands s at t w n
  unfolding numeral
  stands_minus zero a l d u z b h = absurd (z refl)
  stands_minus (suc k) a l d u z b h =
      rw a (record { small = l; is = drop-cons s at 0 h ∙ rw (b, ← add-one at, d); upto = u })

pub field_sound : (s : List ℕ) (at t : ℕ) (w : ℤ) (n : ℕ) → 0 < t → at ≤ length s → field_at s at t ≡ Number w n → Stands s at t w n
unfolding field_at numeral
field_sound s at t w n t0 inn =
    pick_elim (λ (x : Field). x ≡ Number w n → Stands s at t w n) (eqb (get_or s at 0) 45) _ _
    (λ e p.
    let b = eqb-true (get_or s at 0) 45 e in
    let h = inside s at 44 b in
    let (v, a, l, d, u, z) = after_sign_inv s true (at + 1) t w n t0 (omega arith) p in
    stands_minus s at t w n v a l d u (z refl) b h)
    (λ e p.
    let (v, a, l, d, u, z) = after_sign_inv s false at t w n t0 inn p in
    rw a (record { small = l; is = d; upto = u }))

-- a numeral tells its number, sign and all, where none of its digits is cut
unsigned_text : (d : ℕ) (ds : List ℕ) → signed_digits_value 10 ((d + 48) ∷ ds) ≡ pos (digits_value 10 ((d + 48) ∷ ds))
unsigned_text d ds = simp (ne_eqb (d + 48) 45 (λ e. omega (arith, e)), ne_eqb (d + 48) 43 (λ e. omega (arith, e)))

pub numeral_value : (z : ℤ) → nat_abs z < 10 ^ most_digits → signed_digits_value 10 (numeral z) ≡ z
unfolding numeral
numeral_value (pos n) h =
    let r = headed 19 n h in
    let e : signed_digits_value 10 (decimal most_digits n) ≡ pos (digits_value 10 (decimal most_digits n)) = rw r.is (unsigned_text r.h r.tl) in
    e ∙ ap pos (decimal_value most_digits n h)
numeral_value (negsuc n) h = ap (λ m. neg_ℤ (pos m)) (decimal_value most_digits (suc n) h)

-- so does what a numeral was written to
pub number_there : {before after : List ℕ} {at end : ℕ} (z : ℤ) → Wrote before after at end (numeral z) → at + length (numeral z) ≤ length before → nat_abs z < 10 ^ most_digits
    → signed_digits_value 10 (drop at (take end after)) ≡ z
number_there z w h small = ap (signed_digits_value 10) (wrote_there w h) ∙ numeral_value z small

pub count_there : {before after : List ℕ} {at end : ℕ} (n : ℕ) → Wrote before after at end (numeral (pos n)) → at + length (numeral (pos n)) ≤ length before → n < 10 ^ most_digits
    → digits_value 10 (drop at (take end after)) ≡ n
unfolding numeral
count_there n w h small = ap (digits_value 10) (wrote_there w h) ∙ decimal_value most_digits n small
