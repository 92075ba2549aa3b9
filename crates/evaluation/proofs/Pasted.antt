-- Copies into a list, one after another, are one copy.
use mathlib.Core.Path.{◌≡◌, sym, ap, ◌∙◌}
use mathlib.Core.List.{List, [], ◌∷◌, ◌++◌, append_assoc}
use Prim.Native.Nat.{ℕ, suc, ◌+◌, ◌≤◌, ◌<◌}
use native.Mathlib.Nat.{add_assoc, le_refl}
use native.Mathlib.Numerals.{add-one}
use native.Mathlib.Omega.{arith}
use lib.ListN.{length, take, drop, set, length-append}
use lib.Seq.{paste, take-paste, drop-paste, take-length, drop-drop, set_split, append_snoc}

module _ {A : Type 0} where
  pub paste_join : (d : List A) (at : ℕ) (s s' : List A) → at + (length s + length s') ≤ length d
      → paste (paste d at s (length s)) (at + length s) s' (length s') ≡ paste d at (s ++ s') (length s + length s')
  paste_join d at s s' h =
      let room : at ≤ length d = omega arith in
      let all : length s ≤ length s = le_refl (length s) in
      let rest : drop (at + length s + length s') (paste d at s (length s)) ≡ drop (at + (length s + length s')) d =
      sym (drop-drop (length s') (at + length s) (paste d at s (length s)))
      ∙ ap (drop (length s')) (drop-paste d at s (length s) room all)
      ∙ drop-drop (length s') (at + length s) d
      ∙ ap (λ k. drop k d) (add_assoc at (length s) (length s')) in
      let both : take (length s + length s') (s ++ s') ≡ s ++ s' = rw (← length-append s s') (take-length (s ++ s')) in
      rw (take-paste d at s (length s) room all, rest, both, take-length s, take-length s')
      (ap (λ l. l ++ drop (at + (length s + length s')) d) (append_assoc (take at d) s s'))

  -- a store is a copy of one element
  set_paste : (d : List A) (at : ℕ) (a : A) → at < length d → set d at a ≡ paste d at (a ∷ []) 1
  set_paste d at a h =
      set_split d at a h ∙ sym (append_snoc (take at d) a (drop (suc at) d)) ∙ ap (λ k. take at d ++ (a ∷ []) ++ drop k d) (sym (add-one at))

  -- a store and two copies in a row, as the numbers of a row are put into a table
  pub three_pasted : (t : List A) (at : ℕ) (a : A) (l p x y : List A) (n m : ℕ) → length l ≡ n → length p ≡ m → at + (1 + n + m) ≤ length t
      → x ≡ paste (set t at a) (at + 1) l (length l) → y ≡ paste x (at + 1 + n) p (length p) → y ≡ paste t at (a ∷ (l ++ p)) (1 + n + m)
  three_pasted t at a l p x y n m el ep h ex ey =
      let here : at < length t = omega arith in
      let one_more : 1 + length l ≡ length (a ∷ l) = omega arith in
      let two : x ≡ paste t at (a ∷ l) (length (a ∷ l)) =
      ex ∙ ap (λ d. paste d (at + 1) l (length l)) (set_paste t at a here) ∙ paste_join t at (a ∷ []) l (omega arith) ∙ ap (paste t at (a ∷ l)) one_more in
      let after : at + 1 + n ≡ at + length (a ∷ l) = omega arith in
      let width : length (a ∷ l) + length p ≡ 1 + n + m = omega arith in
      ey
      ∙ ap (λ k. paste x k p (length p)) after
      ∙ ap (λ d. paste d (at + length (a ∷ l)) p (length p)) two
      ∙ paste_join t at (a ∷ l) p (omega arith)
      ∙ ap (paste t at (a ∷ (l ++ p))) width
