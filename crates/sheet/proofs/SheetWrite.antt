-- What writing answers and leaves, an equation for each way through the writer's code.
use mathlib.Core.Path.{◌≡◌}
use mathlib.Core.List.{List}
use Prim.Native.Nat.{ℕ, ◌≤◌, ◌<◌, ◌+◌}
use borrow.Author.Tests.{lt-ltb, le-ltb, eq-eqb, ne_eqb}
use lib.ListN.{length, take, drop}
use lib.Seq.{sets, sets-eq, take-append_seam}
use native.Mathlib.Omega.{arith}
use Rattle.sheet.specs.Causes.{accepted, bytes_too_short}
use Rattle.sheet.specs.Writing.{test_of, sheet_text, not_written, write_of, left_of}
use Rattle.sheet.specs.declared.Schedule.{Schedule}

module _ (c : Schedule) (out : List ℕ) where
  pub write_refused : ((test_of c).number ≡ 0 → ⊥) → (not_written (test_of c) ≡ write_of c (length out)) × (out ≡ left_of c out)
  unfolding write_of left_of
  write_refused e = let f = ne_eqb (test_of c).number 0 e in (simp f, simp f)

  pub write_short : (test_of c).number ≡ 0 → length out < length (sheet_text c) → (not_written bytes_too_short ≡ write_of c (length out)) × (out ≡ left_of c out)
  unfolding write_of left_of
  write_short e h =
      let f = eq-eqb (test_of c).number 0 e in
      let g = lt-ltb (length out) (length (sheet_text c)) h in
      (simp (f, g), simp (f, g))

  pub write_done : (test_of c).number ≡ 0 → length (sheet_text c) ≤ length out
      → (record { refusal = accepted; length = length (sheet_text c) } ≡ write_of c (length out)) × (sets out 0 (sheet_text c) ≡ left_of c out)
  unfolding write_of left_of
  write_done e h =
      let f = eq-eqb (test_of c).number 0 e in
      let g = le-ltb (length out) (length (sheet_text c)) h in
      (simp (f, g), simp (f, g))

-- what was written from 0 on is there to be taken
pub take_sets : (xs l : List ℕ) → length xs ≤ length l → take (length xs) (sets l 0 xs) ≡ xs
take_sets xs l h = rw (sets-eq xs l 0 (omega arith)) (take-append_seam xs (drop (0 + length xs) l))
