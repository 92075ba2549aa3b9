-- The front of a list over what filled its room, and steps put behind none: what a schedule holds.
use mathlib.Core.Path.{◌≡◌, refl, ap, ◌∙◌}
use mathlib.Core.List.{List, [], ◌∷◌, ◌++◌}
use Prim.Native.Nat.{ℕ, zero, suc, ◌≤◌}
use native.Mathlib.Nat.{zero-add}
use native.Mathlib.Omega.{arith}
use lib.ListN.{length, take, drop, get_or, replicate, length-replicate}
use lib.Seq.{sets, set_out, sets-eq, take_all}
use Rattle.sheet.specs.Same.{up_to}

pub front_held : {A : Type 0} (room n : ℕ) (xs : List A) (z : A) → n ≤ room → n ≤ length xs
    → take n xs ++ drop n (replicate room z) ≡ up_to room n (λ j. get_or xs j z) z
unfolding up_to
front_held room zero xs z h l = refl
front_held zero (suc n) xs z h l = absurd (omega arith)
front_held (suc room) (suc n) [] z h l = absurd (omega arith)
front_held (suc room) (suc n) (x ∷ xs) z h l = ap (λ k. x ∷ k) (front_held room n xs z (omega arith) (omega arith))

pub put_held : {A : Type 0} (room : ℕ) (xs : List A) (z : A) → length xs ≤ room
    → sets (replicate room z) 0 xs ≡ up_to room (length xs) (λ j. get_or xs j z) z
put_held room xs z h =
    let all : take (length xs) xs ≡ xs = take_all (length xs) xs (omega arith) in
    sets-eq xs (replicate room z) 0 (rw (zero-add, length-replicate) h) ∙ rw zero-add (rw all at (front_held room (length xs) xs z h (omega arith)))

-- stores behind the end change nothing
pub sets_out : {A : Type 0} (vs l : List A) (i : ℕ) → length l ≤ i → sets l i vs ≡ l
sets_out [] l i h = refl
sets_out (x ∷ xs) l i h = rw (set_out l i x h) (sets_out xs l (suc i) (omega arith))
