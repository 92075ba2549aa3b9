-- Parts of a list, `take n (drop from l)`: their length and elements, a part of a part, and a part copied out. The list has room.
use mathlib.Core.Path.{◌≡◌, sym, ap, ◌∙◌}
use mathlib.Core.List.{List, append-nil}
use Prim.Native.Nat.{ℕ, ◌+◌, ◌-◌, ◌≤◌, ◌<◌}
use native.Mathlib.Omega.{arith}
use lib.ListN.{length, get_or, take, drop, length-drop}
use lib.Seq.{length-take-le, take-length, take-take, take-add, drop_at, drop-length, drop-drop, get_or-take, get_or-drop, paste}

module _ {A : Type 0} (l : List A) (from n : ℕ) (room : from + n ≤ length l) where
  pub length_part : length (take n (drop from l)) ≡ n
  length_part = length-take-le n (drop from l) (rw (length-drop from l) (omega arith))

  pub part_of_part : (start m : ℕ) → start + m ≤ n → take m (drop start (take n (drop from l))) ≡ take m (drop (from + start) l)
  part_of_part start m h =
      let e : n ≡ start + (n - start) = omega arith in
      let k : length (take start (drop from l)) ≡ start = length-take-le start (drop from l) (rw (length-drop from l) (omega arith)) in
      let g : m ≤ n - start = omega arith in
      ap (λ (w : ℕ). take m (drop start (take w (drop from l)))) e
      ∙ ap (λ (r : List A). take m (drop start r)) (take-add start (n - start) (drop from l))
      ∙ ap (λ (r : List A). take m r) (drop_at (take start (drop from l)) (take (n - start) (drop start (drop from l))) start k)
      ∙ take-take m (n - start) (drop start (drop from l)) g
      ∙ ap (λ (r : List A). take m r) (drop-drop start from l)

pub get_or_part : {A : Type 0} (l : List A) (from n i : ℕ) (d : A) → i < n → get_or (take n (drop from l)) i d ≡ get_or l (from + i) d
get_or_part l from n i d h = get_or-take n (drop from l) i d h ∙ get_or-drop from l i d

-- a part of l copied over a list of its length
pub copied : {A : Type 0} (l d : List A) (start end : ℕ) → start + length d ≡ end → end ≤ length l
    → paste d 0 (take (end - start) (drop start l)) (length (take (end - start) (drop start l))) ≡ take (length d) (drop start l)
copied l d start end e h =
    let n : end - start ≡ length d = omega arith in
    let s = take (length d) (drop start l) in
    let k : length s ≡ length d = length_part l start (length d) (omega arith) in
    let z : 0 + length d ≡ length d = omega arith in
    rw (n, k, z, drop-length d, append-nil) (ap (λ (m : ℕ). take m s) (sym k) ∙ take-length s)
