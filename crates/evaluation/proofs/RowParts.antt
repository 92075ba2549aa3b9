-- The row that a table holds, number by number: where its centre and its coefficients stand; and its part, which is its numbers.
use mathlib.Core.Path.{◌≡◌, sym, ap, ap₂, ◌∙◌, subst}
use mathlib.Core.Logic.{◌↔◌}
use mathlib.Core.Bool.{true}
use mathlib.Core.List.{List, [], ◌∷◌, ◌++◌}
use Prim.Native.Nat.{ℕ, ◌+◌, ◌*◌, ◌≤◌}
use native.Mathlib.Omega.{arith}
use lib.IntN.{ℤ, pos}
use lib.ListN.{length, take, drop, length-drop, take-append-drop}
use lib.Seq.{take_all}
use Rattle.affine.specs.declared.Row.{Row}
use Rattle.affine.specs.Limits.{symbols, pairs}
use Rattle.affine.specs.Lists.{at}
use Rattle.affine.specs.Row.{numbers, agree, same}
use Rattle.affine.proofs.Sameness.{same_exactly}
use Rattle.evaluation.specs.Table.{row_width, row_part, row_of_numbers, row_at}
use Rattle.evaluation.proofs.PartLaws.{length_part, get_or_part, part_of_part}

-- a row with these numbers is the row that the table holds
pub row_read : (table : List ℤ) (i : ℕ) → row_width * i + row_width ≤ length table → (r : Row)
    → r.centre ≡ at table (row_width * i)
    → r.linear ≡ take symbols (drop (row_width * i + 1) table)
    → r.pair ≡ take pairs (drop (row_width * i + 1 + symbols) table)
    → r ≡ row_at table i
row_read table i room r centre linear pair = λ j. record { centre = centre_is j; linear = linear_is j; pair = pair_is j }
  where
    base : ℕ
    base = row_width * i

    centre_is : r.centre ≡ (row_at table i).centre
    centre_is = centre ∙ sym (let e : base + 0 ≡ base = omega arith in get_or_part table base row_width 0 (pos 0) (omega arith) ∙ ap (at table) e)

    linear_is : r.linear ≡ (row_at table i).linear
    linear_is = linear ∙ sym (part_of_part table base row_width room 1 symbols (omega arith))

    pair_is : r.pair ≡ (row_at table i).pair
    pair_is =
        let e : base + 1 + symbols ≡ base + (1 + symbols) = omega arith in
        pair ∙ ap (λ (n : ℕ). take pairs (drop n table)) e ∙ sym (part_of_part table base row_width room (1 + symbols) pairs (omega arith))

-- so many numbers are those of the row that they are
numbers_row_of_numbers : (ns : List ℤ) → length ns ≡ row_width → numbers (row_of_numbers ns) ≡ ns
numbers_row_of_numbers [] h = absurd (omega arith)
numbers_row_of_numbers (n ∷ ns) h =
    let long : length (drop symbols ns) ≡ pairs = length-drop symbols ns ∙ omega arith in
    ap (λ l. n ∷ (take symbols ns ++ l)) (take_all pairs (drop symbols ns) (omega arith)) ∙ ap (λ l. n ∷ l) (take-append-drop symbols ns)

pub numbers_row_at : (table : List ℤ) (i : ℕ) → row_width * i + row_width ≤ length table → numbers (row_at table i) ≡ row_part table i
numbers_row_at table i room = numbers_row_of_numbers (row_part table i) (length_part table (row_width * i) row_width room)

-- two rows that a table holds agree as their parts do
pub same_by_parts : (table : List ℤ) (i j : ℕ) → row_width * i + row_width ≤ length table → row_width * j + row_width ≤ length table
    → agree (row_part table i) (row_part table j) ≡ same (row_at table i) (row_at table j)
same_by_parts table i j room room' = sym (ap₂ agree (numbers_row_at table i room) (numbers_row_at table j room'))

-- they are called the same exactly where their numbers agree
pub same_by_numbers : (table : List ℤ) (i j : ℕ) → row_width * i + row_width ≤ length table → row_width * j + row_width ≤ length table
    → (same (row_at table i) (row_at table j) ≡ true) ↔ (row_part table i ≡ row_part table j)
same_by_numbers table i j room room' =
    subst (λ (xs : List ℤ). (same (row_at table i) (row_at table j) ≡ true) ↔ (xs ≡ row_part table j)) (numbers_row_at table i room)
    (subst (λ (ys : List ℤ). (same (row_at table i) (row_at table j) ≡ true) ↔ (numbers (row_at table i) ≡ ys)) (numbers_row_at table j room')
    (same_exactly (row_at table i) (row_at table j)))
