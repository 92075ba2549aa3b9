-- An operand at a position: a letter, a literal, what stands in brackets, or none; and what may not follow a sum.
use mathlib.Core.Path.{◌≡◌, refl, sym, ap, ◌∙◌, subst}
use mathlib.Core.Logic.{◌≢◌}
use mathlib.Core.Bool.{false}
use mathlib.Core.List.{List, [], ◌∷◌}
use Prim.Native.Nat.{ℕ, suc, ◌+◌, ◌≤◌, ◌<◌}
use native.Mathlib.Nat.{add-zero}
use native.Mathlib.Numerals.{add-one}
use native.Mathlib.Omega.{arith}
use borrow.Author.Tests.{lt-ltb, le-ltb}
use lib.Dec.{lit≤}
use lib.ListN.{length, drop, get_or, drop_of_length-le, get_or-eq_default}
use lib.Seq.{sets}
use Rattle.std.specs.Prelude.{Option, Some, None}
use Rattle.sheet.specs.Number.{digit_of}
use Rattle.formulas.specs.Limits.{max_nesting}
use Rattle.formulas.specs.Grammar.{Tree, letter, literal, byte_of}
use Rattle.formulas.specs.Reading.{Open, fresh, wanting, holding, broken, after_holding, next, no_formula, tree, reading, start, token_of}
use Rattle.formulas.specs.Steps.{step_of, step_count, steps_of, LiteralsWithin}
use Rattle.formulas.specs.Answer.{first_beyond}
use Rattle.capacity.specs.Limits.{max_inputs}
use Rattle.formulas.specs.Built.{literal_at, place_of, found, sign_within, no_steps, Reaches, Right, Breaks, Constant}
use Rattle.formulas.specs.declared.Sign.{Sign}
use Rattle.formulas.specs.declared.Sign.TheVariants.{Plus, Minus, Times, Over}
use Rattle.formulas.specs.declared.Token.{Token}
use Rattle.formulas.specs.declared.Token.TheVariants.{Digit, Letter, Opening, Closing}
use Rattle.formulas.specs.declared.steps.Steps.{Steps}
use Rattle.formulas.specs.declared.builder.Part.{Part}
use Rattle.formulas.proofs.ByteTokens.{token_closing, digit_of_lem, letter_no_digit, TokenByte, digit_byte, letter_byte, operator_byte, opening_byte, closing_byte, other_byte, token_byte}
use Rattle.formulas.proofs.Positions.{token_at, goes_on, breaks_here, ends_here, wanting_breaks, holding_breaks}
use Rattle.formulas.proofs.LiteralReads.{literal_read, literal_seen}
use Rattle.formulas.proofs.SignTurns.{found_behind}

-- ---- which byte a token was

token_of_lem : {inputs b : ℕ} {k : Token} → token_of inputs b ≡ k → TokenByte inputs b k
token_of_lem {inputs} {b} e = subst (TokenByte inputs b) e (token_byte inputs b)

letter_below : {inputs b i : ℕ} → TokenByte inputs b (Letter i) → i < inputs
letter_below (letter_byte h) = h

letter_byte_is : {inputs b i : ℕ} → TokenByte inputs b (Letter i) → 10 ≤ digit_of b
letter_byte_is (letter_byte {i} h) = letter_no_digit i

opening_byte_is : {inputs b : ℕ} → TokenByte inputs b Opening → 10 ≤ digit_of b
opening_byte_is opening_byte = lit≤ tt

digit_byte_is : {inputs b d : ℕ} → TokenByte inputs b (Digit d) → digit_of b < 10
digit_byte_is (digit_byte {d} h) = rw (digit_of_lem d h) h

pub letter_few : (inputs b i : ℕ) → token_of inputs b ≡ Letter i → i < inputs
letter_few inputs b i e = letter_below (token_of_lem e)

-- a sign has a rank of at most 2
sign_ranked : (g : Sign) → sign_within 2 (byte_of g) ≢ None
sign_ranked Plus = λ e. cc
sign_ranked Minus = λ e. cc
sign_ranked Times = λ e. cc
sign_ranked Over = λ e. cc

-- behind a sum in brackets: what neither goes on with it nor closes them
not_closing : {inputs b : ℕ} {k : Token} (f : Tree → Tree) (around : List Open) (t : Tree) → TokenByte inputs b k → b ≢ 41 → sign_within 2 b ≡ None → after_holding f around t k ≡ broken
not_closing f around t (digit_byte h) n z = refl
not_closing f around t (letter_byte h) n z = refl
not_closing f around t (operator_byte g) n z = absurd (sign_ranked g z)
not_closing f around t opening_byte n z = refl
not_closing f around t closing_byte n z = absurd (n refl)
not_closing f around t other_byte n z = refl

-- behind a sum in no brackets: what does not go on with it
pub not_going : {inputs b : ℕ} {k : Token} (f : Tree → Tree) (t : Tree) → TokenByte inputs b k → sign_within 2 b ≡ None → after_holding f [] t k ≡ broken
not_going f t (digit_byte h) z = refl
not_going f t (letter_byte h) z = refl
not_going f t (operator_byte g) z = absurd (sign_ranked g z)
not_going f t opening_byte z = refl
not_going f t closing_byte z = refl
not_going f t other_byte z = refl

module _ (bytes : List ℕ) (inputs nesting at : ℕ) where
  -- ---- no operand

  abbrev pub Bad : Token → Type 0
  Bad k = (o : Open) (around : List Open) → length around + nesting ≡ max_nesting → next (wanting o around) k ≡ broken

  pub no_operand : {k : Token} → token_at bytes inputs at ≡ k → Bad k → Breaks bytes inputs 0 nesting at (suc at)
  no_operand e b o around d = wanting_breaks bytes inputs at o around (ap (next (wanting o around)) e ∙ b o around d)

  -- ---- a letter

  pub letter_right : (i : ℕ) → token_at bytes inputs at ≡ Letter i → at < length bytes → (before : Steps) → before.inputs ≡ inputs
      → Right bytes inputs 0 nesting at before before (record { next = at + 1; row = i + 1 })
  unfolding step_count steps_of
  letter_right i e h before n = record {
    t = letter i;
    reaches = λ o around d. record {
      sum = o.sum;
      product = o.product (letter i);
      ends = (refl, refl);
      reads = rw (add-one at) (goes_on bytes inputs at (wanting o around) (holding o.sum around (o.product (letter i))) h (ap (next (wanting o around)) e));
    };
    row = add-one i;
    same_inputs = n;
    counted = sym (add-zero before.count);
    left = λ _. refl;
    seen = λ _. found_behind bytes before.beyond at h (letter_byte_is (token_of_lem e));
    longer = omega arith;
    within = omega arith;
    few_steps = omega arith;
    few_rows = omega (arith, letter_few inputs (get_or bytes at 0) i e);
  }

  -- ---- a literal

  pub literal_right : (d : ℕ) → token_at bytes inputs at ≡ Digit d → at < length bytes → (before after : Steps) (p : Part) → before.inputs ≡ inputs
      → Constant bytes at before after p → Right bytes inputs 0 nesting at before after p
  unfolding step_count steps_of LiteralsWithin
  literal_right d e h before after p i c =
      let g = digit_byte_is (token_of_lem e) in
      let r = literal_read bytes inputs at h g in
      let n = c.ends in
      record {
        t = literal r.v;
        reaches = λ o around _. record { sum = o.sum; product = o.product (literal r.v); ends = (refl, refl); reads = rw n (r.reads o around) };
        row = omega (arith, c.row, i);
        same_inputs = c.same_inputs ∙ i;
        counted = c.counted;
        left = λ w.
            let v : (literal_at bytes at).value ≡ r.v = omega (arith, r.is, w) in
            c.left ∙ ap (λ (v : ℕ). sets before.step before.count (step_of 1 0 0 v ∷ [])) v;
        seen = λ z. rw (c.told, n) (literal_seen bytes inputs at h g before.beyond (rw n at z));
        longer = omega (arith, n, r.longer);
        within = omega (arith, n, r.within);
        few_steps = omega (arith, n, r.longer, c.counted);
        few_rows = omega (arith, c.row, c.counted, i);
      }

-- ---- brackets

-- with none left to open, a bracket breaks the reading
pub none_left : (o : Open) (around : List Open) → length around + 0 ≡ max_nesting → next (wanting o around) Opening ≡ broken
none_left o around d = rw (le-ltb (length around) max_nesting (omega arith))

module _ (bytes : List ℕ) (inputs k at : ℕ) (e : token_at bytes inputs at ≡ Opening) (h : at < length bytes) where
  deeper : (o : Open) (around : List Open) → length around + suc k ≡ max_nesting → length (o ∷ around) + k ≡ max_nesting
  deeper o around d = omega arith

  opens : (o : Open) (around : List Open) → length around + suc k ≡ max_nesting
      → reading inputs (suc at) (wanting o around) (drop at bytes) ≡ reading inputs (suc (at + 1)) (wanting fresh (o ∷ around)) (drop (at + 1) bytes)
  opens o around d =
      let few = lt-ltb (length around) max_nesting (omega arith) in
      rw (add-one at) (goes_on bytes inputs at (wanting o around) (wanting fresh (o ∷ around)) h (ap (next (wanting o around)) e ∙ rw few))

  -- what breaks the reading within the brackets breaks it here
  pub inner_breaks : (place : ℕ) → Breaks bytes inputs 2 k (at + 1) place → Breaks bytes inputs 0 (suc k) at place
  inner_breaks place b o around d = opens o around d ∙ b o (o ∷ around) (deeper o around d)

  module _ (before after : Steps) (p : Part) (r : Right bytes inputs 2 k (at + 1) before after p) (stops : sign_within 2 (get_or bytes p.next 0) ≡ None) where
    -- no closing bracket
    pub not_closed : get_or bytes p.next 0 ≢ 41 → Breaks bytes inputs 0 (suc k) at (suc p.next)
    not_closed n o around d =
        let w = r.reaches o (o ∷ around) (deeper o around d) in
        opens o around d ∙ w.reads
        ∙ holding_breaks bytes inputs p.next w.sum o around w.product (not_closing w.sum (o ∷ around) w.product (token_byte inputs (get_or bytes p.next 0)) n stops)

    -- the closing bracket
    pub brackets_right : get_or bytes p.next 0 ≡ 41 → p.next < length bytes
        → Right bytes inputs 0 (suc k) at before after (record { next = p.next + 1; row = p.row })
    brackets_right c l =
        let closing : token_at bytes inputs p.next ≡ Closing = ap (token_of inputs) c ∙ token_closing inputs in
        let no_digit : 10 ≤ digit_of (get_or bytes p.next 0) = rw c (lit≤ tt) in
        let no_bracket : 10 ≤ digit_of (get_or bytes at 0) = opening_byte_is (token_of_lem e) in
        record {
          t = r.t;
          reaches = λ o around d.
              let w = r.reaches o (o ∷ around) (deeper o around d) in
              record {
                sum = o.sum;
                product = o.product (w.sum w.product);
                ends = (refl, ap o.product w.ends.0);
                reads =
                    opens o around d ∙ w.reads
                    ∙ rw (add-one p.next) (goes_on bytes inputs p.next (holding w.sum (o ∷ around) w.product) (holding o.sum around (o.product (w.sum w.product))) l (ap (next (holding w.sum (o ∷ around) w.product)) closing));
              };
          row = r.row;
          same_inputs = r.same_inputs;
          counted = r.counted;
          left = r.left;
          seen = λ _. found_behind bytes before.beyond at h no_bracket ∙ r.seen no_digit ∙ found_behind bytes after.beyond p.next l no_digit;
          longer = omega (arith, r.longer);
          within = omega arith;
          few_steps = omega (arith, r.few_steps);
          few_rows = r.few_rows;
        }

-- ---- the whole text

module _ (bytes : List ℕ) (inputs : ℕ) (few : inputs ≤ max_inputs) (after : Steps) (p : Part) (r : Right bytes inputs 2 max_nesting 0 (no_steps inputs few) after p)
    (stops : sign_within 2 (get_or bytes p.next 0) ≡ None) where
  reached : Reaches bytes inputs 2 0 r.t p.next fresh []
  reached = r.reaches fresh [] refl

  -- a byte behind the sum
  pub byte_behind : p.next < length bytes → reading inputs 1 start bytes ≡ no_formula (suc p.next)
  byte_behind h =
      reached.reads
      ∙ breaks_here bytes inputs p.next (holding reached.sum [] reached.product) h
      (not_going reached.sum reached.product (token_byte inputs (get_or bytes p.next 0)) stops)

  module _ (h : length bytes ≤ p.next) where
    -- none
    pub read_whole : reading inputs 1 start bytes ≡ tree r.t
    read_whole = reached.reads ∙ ends_here bytes inputs p.next (suc p.next) (holding reached.sum [] reached.product) h ∙ ap tree reached.ends.0

    pub seen_whole : after.beyond ≡ place_of (first_beyond 1 false bytes)
    unfolding first_beyond
    seen_whole =
        let end = get_or-eq_default bytes 0 {n = p.next} h in
        let seen = r.seen (rw end (lit≤ tt)) in
        sym (seen ∙ none after.beyond)
      where
        none : (b : Option ℕ) → found bytes b p.next ≡ b
        none (Some b) = refl
        none None = rw (drop_of_length-le bytes h)
