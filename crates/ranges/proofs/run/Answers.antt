-- What was read is all of the input, or so many bytes of a longer one that no sheet has as many.
use Rattle.std.proofs.Common.{◌≡◌, sym, ap, ◌∙◌, ◌+◌, List, [], ◌++◌, ℕ, length, take, drop, length-append, arith, ◌≤◌, ◌<◌, length-take-le, take_all, rules}
use Rattle.std.specs.Prelude.{Option, Some, None, Result, Ok, Err, IfErr, IfSome}
use Rattle.std.proofs.lemmas.List.{drop_all}
use Rattle.streams.specs.Failure.{OnWrite}
use Rattle.streams.specs.declared.Failure.{Failure}
use Rattle.streams.specs.declared.Failure.TheVariants.{Read, Write}
use native.Mathlib.Decide.{dec_lt}
use Rattle.std.specs.Io.KnownBytes.{Consumes, IsAtEnd}
use Rattle.std.proofs.Math.Seq.{take-append_seam, drop-append_seam}
use Rattle.listing.specs.Listed.{BeginningOf}
use Rattle.ranges.specs.declared.TheConstants.{SHEET_ROOM}
use Rattle.ranges.proofs.run.Goals as goal

at_end : (room : ℕ) (input read ys : List ℕ) → input ≡ read ++ ys → ys ≡ [] → length read ≤ room → take room input ≡ read
at_end room input read ys c z h =
    let q : input ≡ read = c ∙ ap (λ (l : List ℕ). read ++ l) z ∙ search rules in
    ap (λ (l : List ℕ). take room l) q ∙ take_all room read h

told : (room : ℕ) (input : List ℕ) (left : Option (List ℕ)) (buf : List ℕ) (n : ℕ) → n ≤ length buf → length buf ≡ room → Consumes (Some input) left (take n buf)
    → (n < length buf → IsAtEnd left) → take room input ≡ take n buf
told room input None buf n le l c e = absurd c
told room input (Some ys) buf n le l c e =
    let long : length (take n buf) ≡ n = length-take-le n buf le in
    elim (dec_lt n (length buf)) [
      | yes h ↦ at_end room input (take n buf) ys c (e h) (omega (arith, long, le, l))
      | no h ↦
          let same : room ≡ length (take n buf) = omega (arith, long, le, l, h) in
          ap (λ (l : List ℕ). take room l) c ∙ ap (λ (k : ℕ). take k (take n buf ++ ys)) same ∙ take-append_seam (take n buf) ys
    ]

-- what the reader has left then
left_behind : (room : ℕ) (input : List ℕ) (left : Option (List ℕ)) (buf : List ℕ) (n : ℕ) → n ≤ length buf → length buf ≡ room → Consumes (Some input) left (take n buf)
    → (n < length buf → IsAtEnd left) → left ≡ Some (drop room input)
left_behind room input None buf n le l c e = absurd c
left_behind room input (Some ys) buf n le l c e =
    let long : length (take n buf) ≡ n = length-take-le n buf le in
    let split : length input ≡ length (take n buf) + length ys = ap length c ∙ length-append (take n buf) ys in
    elim (dec_lt n (length buf)) [
      | yes h ↦ ap (λ (k : List ℕ). Some k) (e h ∙ sym (drop_all room input (omega (arith, split, ap length (e h), long, l, h))))
      | no h ↦
          let same : room ≡ length (take n buf) = omega (arith, long, le, l, h) in
          ap (λ (k : List ℕ). Some k) (sym (ap (λ (k : List ℕ). drop room k) c ∙ ap (λ (k : ℕ). drop k (take n buf ++ ys)) same ∙ drop-append_seam (take n buf) ys))
    ]

-- of a known input
of_known : (known left : Option (List ℕ)) (buf : List ℕ) (n : ℕ) (P : List ℕ → Type 0) → n ≤ length buf → length buf ≡ SHEET_ROOM → Consumes known left (take n buf)
    → (n < length buf → IsAtEnd left) → ((input : List ℕ) → BeginningOf input (take n buf) → P input) → IfSome known P
of_known None left buf n P le l c e p = tt
of_known (Some input) left buf n P le l c e p = p input (SHEET_ROOM, omega arith, told SHEET_ROOM input left buf n le l c e)

pub returns-in-Ok-clause-printed : goal.returns-in-Ok-clause-printed
returns-in-Ok-clause-printed g c =
    let e = c.in-Ok.ensures in
    of_known _ _ c.read_input.new.buf c.in-Ok.n _ e.counts_in.0 (search rules) e.in_order.0 e.in_order.1 (λ input b. let p = c.print_to.ensures.printed input b in search rules)

pub returns-in-Ok-clause-truthful : goal.returns-in-Ok-clause-truthful
returns-in-Ok-clause-truthful g c =
    let e = c.in-Ok.ensures in
    of_known _ _ c.read_input.new.buf c.in-Ok.n _ e.counts_in.0 (search rules) e.in_order.0 e.in_order.1 (λ input b. let p = c.print_to.ensures.truthful input b in search rules)

pub returns-in-Ok-clause-write_failed : goal.returns-in-Ok-clause-write_failed
returns-in-Ok-clause-write_failed g c =
    let e = c.in-Ok.ensures in
    of_known _ _ c.read_input.new.buf c.in-Ok.n _ e.counts_in.0 (search rules) e.in_order.0 e.in_order.1 (λ input b. let p = c.print_to.ensures.failed input b in search rules)

known_left : (known left : Option (List ℕ)) (buf : List ℕ) (n : ℕ) (P : Type 0 → Type 0) → n ≤ length buf → length buf ≡ SHEET_ROOM → Consumes known left (take n buf)
    → (n < length buf → IsAtEnd left) → ((fact : Type 0) → fact → P fact) → IfSome known (λ input. P (left ≡ Some (drop SHEET_ROOM input)))
known_left None left buf n P le l c e p = tt
known_left (Some input) left buf n P le l c e p = p (left ≡ Some (drop SHEET_ROOM input)) (left_behind SHEET_ROOM input left buf n le l c e)

on_write : (answer : Result (Unit {0}) Failure) (fact : Type 0) → fact → IfErr answer (λ f. OnWrite f fact)
on_write (Ok u) fact h = tt
on_write (Err (Read e)) fact h = tt
on_write (Err (Write e)) fact h = h

pub returns-in-Ok-clause-read_all : goal.returns-in-Ok-clause-read_all
returns-in-Ok-clause-read_all g c =
    let e = c.in-Ok.ensures in
    known_left _ _ c.read_input.new.buf c.in-Ok.n (λ (fact : Type 0). IfErr c.map_err.result (λ f. OnWrite f fact)) e.counts_in.0 (search rules) e.in_order.0 e.in_order.1 (on_write c.map_err.result)
