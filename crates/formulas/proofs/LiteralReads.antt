-- The literal at a position: how the reading gets behind it, and what it does to the first literal beyond the limits.
use mathlib.Core.Path.{◌≡◌, refl, sym, ap, ◌∙◌}
use mathlib.Core.Logic.{◌≢◌, inl, inr}
use mathlib.Core.Bool.{Bool, true, false}
use mathlib.Core.List.{List, [], ◌∷◌}
use Prim.Native.Nat.{ℕ, suc, ◌+◌, ◌*◌, ◌≤◌, ◌<◌}
use native.Mathlib.Numerals.{add-one}
use native.Mathlib.Decide.{ℕ_discrete, dec_lt}
use native.Mathlib.Omega.{arith}
use borrow.Author.Tests.{eq-eqb, ne_eqb, lt-ltb, le-ltb, ltb-true, ltb-false}
use lib.Dec.{eqb, ltb, lit≤}
use lib.ListN.{length, drop, get_or, length-drop}
use lib.Seq.{drop-cons}
use Rattle.sheet.specs.Choice.{pick}
use Rattle.sheet.specs.Limits.{end_limit}
use Rattle.sheet.specs.Number.{digit_of}
use Rattle.sheet.proofs.Choice.{pick_elim}
use Rattle.std.specs.Prelude.{Option, Some, None}
use Rattle.formulas.specs.Grammar.{literal}
use Rattle.formulas.specs.Reading.{Open, wanting, counting, holding, next, reading, token_of}
use Rattle.formulas.specs.Answer.{front_value}
use Rattle.formulas.specs.Built.{capped, literal_of, digits_from, literal_at, beyond_with, place_of, found}
use Rattle.formulas.specs.declared.Token.TheVariants.{Digit}
use Rattle.sheet.specs.declared.Found.{Found}
use Rattle.formulas.proofs.Positions.{first_byte, byte_inside, goes_on, literal_ends}
use Rattle.formulas.proofs.DigitRuns.{digits_more, digits_other, digits_end, digits_small, digits_value, digits_within, drop_next, beyond_here, beyond_behind}

digit_token : (inputs b : ℕ) → digit_of b < 10 → token_of inputs b ≡ Digit (digit_of b)
unfolding token_of
digit_token inputs b h = simp (lt-ltb (digit_of b) 10 h)

pub literal_small : (s : List ℕ) (at : ℕ) → (literal_at s at).value ≤ end_limit + 1
literal_small s at =
    pick_elim (λ (l : Found ℕ). l.value ≤ end_limit + 1) (eqb (digit_of (get_or s at 0)) 0) _ _ (λ z. omega arith) (λ z. digits_small 0 at (drop at s) (omega arith))

module _ (s : List ℕ) (inputs : ℕ) where
  -- one digit more behind a value that is not 0
  count_more : (p v b : ℕ) (bs : List ℕ) → drop p s ≡ b ∷ bs → digit_of b < 10 → 0 < v → (o : Open) (around : List Open)
      → reading inputs (suc p) (counting o around v) (drop p s) ≡ reading inputs (suc (suc p)) (counting o around (v * 10 + digit_of b)) (drop (suc p) s)
  count_more p v b bs e d h o around =
      let k : token_of inputs (get_or s p 0) ≡ Digit (digit_of b) = ap (token_of inputs) (first_byte s (b ∷ bs) p e) ∙ digit_token inputs b d in
      goes_on s inputs p (counting o around v) (counting o around (v * 10 + digit_of b)) (byte_inside s p b bs e)
      (ap (next (counting o around v)) k ∙ rw (ne_eqb v 0 (omega arith)))

  -- all digits from there on
  counts : (bs : List ℕ) (w v p : ℕ) → drop p s ≡ bs → 0 < v → (o : Open) (around : List Open)
      → reading inputs (suc p) (counting o around v) (drop p s) ≡ reading inputs (suc (digits_from w p bs).next) (counting o around (front_value v bs)) (drop (digits_from w p bs).next s)
  unfolding digits_from front_value
  counts [] w v p e h o around = refl
  counts (b ∷ bs) w v p e h o around =
      go (ltb (digit_of b) 10) refl (counts bs (capped (w * 10 + digit_of b)) (v * 10 + digit_of b) (suc p) (drop_next s p b bs e) (omega arith) o around)
    where
      more : Found ℕ
      more = digits_from (capped (w * 10 + digit_of b)) (suc p) bs

      go : (d : Bool) → ltb (digit_of b) 10 ≡ d
          → reading inputs (suc (suc p)) (counting o around (v * 10 + digit_of b)) (drop (suc p) s)
          ≡ reading inputs (suc more.next) (counting o around (front_value (v * 10 + digit_of b) bs)) (drop more.next s)
          → reading inputs (suc p) (counting o around v) (drop p s)
          ≡ reading inputs (suc (pick d more (literal_of w p)).next) (counting o around (pick d (front_value (v * 10 + digit_of b) bs) v)) (drop (pick d more (literal_of w p)).next s)
      go true f ih = count_more p v b bs e (ltb-true (digit_of b) 10 f) h o around ∙ ih
      go false f ih = refl

  -- behind them stands no digit
  stops : (bs : List ℕ) (w p : ℕ) → drop p s ≡ bs → 10 ≤ digit_of (get_or s (digits_from w p bs).next 0)
  unfolding digits_from
  stops [] w p e = rw (first_byte s [] p e) (lit≤ tt)
  stops (b ∷ bs) w p e = go (ltb (digit_of b) 10) refl (stops bs (capped (w * 10 + digit_of b)) (suc p) (drop_next s p b bs e))
    where
      more : Found ℕ
      more = digits_from (capped (w * 10 + digit_of b)) (suc p) bs

      go : (d : Bool) → ltb (digit_of b) 10 ≡ d → 10 ≤ digit_of (get_or s more.next 0) → 10 ≤ digit_of (get_or s (pick d more (literal_of w p)).next 0)
      go true f ih = ih
      go false f ih = rw (first_byte s (b ∷ bs) p e) (ltb-false (digit_of b) 10 f)

  module _ (at : ℕ) (inside : at < length s) (d : digit_of (get_or s at 0) < 10) where
    -- the first digit
    begins : (o : Open) (around : List Open)
        → reading inputs (suc at) (wanting o around) (drop at s) ≡ reading inputs (suc (suc at)) (counting o around (digit_of (get_or s at 0))) (drop (suc at) s)
    begins o around =
        goes_on s inputs at (wanting o around) (counting o around (digit_of (get_or s at 0))) inside (ap (next (wanting o around)) (digit_token inputs (get_or s at 0) d))

    -- how the reading gets behind the literal l, whose value is v
    pub record LiteralRead (l : Found ℕ) : Type 0 where
      pub v : ℕ
      pub is : l.value ≡ capped v
      pub reads : (o : Open) (around : List Open)
          → reading inputs (suc at) (wanting o around) (drop at s) ≡ reading inputs (suc l.next) (holding o.sum around (o.product (literal v))) (drop l.next s)
      pub longer : at < l.next
      pub within : l.next ≤ length s

    -- 0 alone
    zero_read : digit_of (get_or s at 0) ≡ 0 → LiteralRead (literal_of 0 (at + 1))
    zero_read z = record {
      v = 0;
      is = refl;
      reads = λ o around.
          rw (add-one at)
          (begins o around ∙ ap (λ (v : ℕ). reading inputs (suc (suc at)) (counting o around v) (drop (suc at) s)) z
          ∙ literal_ends inputs (suc (suc at)) o around 0 (drop (suc at) s) (inl refl));
      longer = omega arith;
      within = omega arith;
    }

    abbrev first : ℕ
    first = digit_of (get_or s at 0)

    abbrev behind : Found ℕ
    behind = digits_from (capped (0 * 10 + first)) (suc at) (drop (suc at) s)

    behind_is : digits_from 0 at (drop at s) ≡ behind
    behind_is = rw (add-one at) at (digits_more s at 0 inside d)

    front_is : front_value 0 (drop at s) ≡ front_value first (drop (suc at) s)
    unfolding front_value
    front_is = let e : 0 * 10 + first ≡ first = omega arith in rw (drop-cons s at 0 inside) (simp (lt-ltb first 10 d) (ap (λ (v : ℕ). front_value v (drop (suc at) s)) e))

    -- other digits
    more_read : first ≢ 0 → LiteralRead behind
    more_read n =
        let w = digits_within (capped (0 * 10 + first)) (suc at) (drop (suc at) s) in
        let no_more = stops (drop (suc at) s) (capped (0 * 10 + first)) (suc at) refl in
        let next_byte = first_byte s (drop behind.next s) behind.next refl in
        record {
          v = front_value first (drop (suc at) s);
          is = sym (ap (λ (l : Found ℕ). l.value) behind_is) ∙ digits_value 0 at (drop at s) ∙ ap capped front_is;
          reads = λ o around.
              begins o around ∙ counts (drop (suc at) s) (capped (0 * 10 + first)) first (suc at) refl (omega (arith, n)) o around
              ∙ literal_ends inputs (suc behind.next) o around (front_value first (drop (suc at) s)) (drop behind.next s) (inr (rw next_byte at no_more));
          longer = omega (arith, w.0);
          within = omega (arith, w.1, length-drop (suc at) s);
        }

    pub literal_read : LiteralRead (literal_at s at)
    literal_read = elim (ℕ_discrete first 0) [
      | yes z ↦ rw (eq-eqb first 0 z) (zero_read z)
      | no n ↦ rw (ne_eqb first 0 n, behind_is) (more_read n)
    ]

    -- where no digit follows, the literal is all digits from there on
    all_digits : 10 ≤ digit_of (get_or s (literal_at s at).next 0) → literal_at s at ≡ digits_from 0 at (drop at s)
    all_digits h = elim (ℕ_discrete first 0) [ yes z ↦ zero_alone z | no n ↦ rw (ne_eqb first 0 n) ]
      where
        zero_alone : first ≡ 0 → literal_at s at ≡ digits_from 0 at (drop at s)
        zero_alone z =
            let k : 10 ≤ digit_of (get_or s (at + 1) 0) = rw (eq-eqb first 0 z) at h in
            let c : capped (0 * 10 + first) ≡ 0 = rw z refl in
            rw (eq-eqb first 0 z, digits_more s at 0 inside d, c)
            (elim (dec_lt (at + 1) (length s)) [ yes l ↦ sym (digits_other s (at + 1) 0 l k) | no l ↦ sym (digits_end s (at + 1) 0 (omega arith)) ])

    -- what it does to the first literal beyond the limits
    pub literal_seen : (b : Option ℕ) → 10 ≤ digit_of (get_or s (literal_at s at).next 0)
        → found s b at ≡ found s (beyond_with b (literal_at s at).value at) (literal_at s at).next
    literal_seen (Some b) h = refl
    literal_seen None h = rw (all_digits h) (none (dec_lt end_limit l.value))
      where
        l : Found ℕ
        l = digits_from 0 at (drop at s)

        none : Dec (end_limit < l.value) → found s None at ≡ found s (beyond_with None l.value at) l.next
        none (yes g) = let some = ne_eqb (suc at) 0 (omega arith) in rw (lt-ltb end_limit l.value g, add-one at) (ap place_of (beyond_here s at inside d g) ∙ rw some)
        none (no g) = let w : l.value ≤ end_limit = omega arith in rw (le-ltb end_limit l.value w) (ap place_of (beyond_behind s at inside d w))
