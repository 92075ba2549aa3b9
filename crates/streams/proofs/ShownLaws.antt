-- A word as a line shows it, by the bytes that were taken of it.
use Rattle.std.proofs.Common.{◌≡◌, refl, sym, ap, ◌∙◌, ℕ, ◌≤◌, ◌<◌, Bool, true, false, List, [], ◌∷◌, ◌++◌, length, take, map, arith, length-take}
use Rattle.std.specs.Prelude.{◌&&◌, leb, if◌then◌else◌, codes}
use Rattle.std.specs.List.{take-map}
use Rattle.std.specs.Str.{IsAscii}
use Rattle.std.proofs.lemmas.List.{take-take}
use Rattle.std.proofs.lemmas.Str.Ascii.{IsAscii-nil, IsAscii-cons}
use borrow.Author.Tests.{leb-true, le-leb, lt-leb}
use Rattle.streams.specs.Words.{Taken, shown_byte, shown_of}
use Rattle.streams.proofs.WordLaws.{whole_word}

below : (b : ℕ) (low high : Bool) → (high ≡ true → b < 128) → (if low && high then b else 63) < 128
below b true true h = h refl
below b true false h = omega arith
below b false high h = omega arith

pub shown_ascii : (bs : List ℕ) → IsAscii (map shown_byte bs)
shown_ascii [] = IsAscii-nil
shown_ascii (b ∷ bs) = IsAscii-cons (shown_byte b) (map shown_byte bs) (below b (leb 32 b) (leb b 126) (λ e. omega (arith, leb-true b 126 e))) (shown_ascii bs)

pub dots_ascii : IsAscii (codes "...")
dots_ascii = IsAscii-cons 46 (46 ∷ 46 ∷ []) (omega arith) (IsAscii-cons 46 (46 ∷ []) (omega arith) (IsAscii-cons 46 [] (omega arith) IsAscii-nil))

module _ (word room : List ℕ) (n : ℕ) (t : Taken word room n) (long : length room ≡ 41) where
  taken : take n room ≡ take 41 word
  taken = rw long at t.is

  pub shown_whole : n < 41 → map shown_byte (take n room) ≡ shown_of word
  shown_whole h =
      let e : word ≡ take n room = whole_word 41 word (take n room) (sym taken) (omega (arith, length-take n room, h)) in
      let few : length word ≤ 40 = omega (arith, ap length e, length-take n room, h) in
      rw (le-leb (length word) 40 few) (ap (map shown_byte) (sym e))

  pub shown_cut : 41 ≤ n → take 37 (map shown_byte (take n room)) ++ codes "..." ≡ shown_of word
  shown_cut h =
      let many : 40 < length word = omega (arith, ap length taken, length-take n room, length-take 41 word, long, t.within, h) in
      let front : take 37 (take n room) ≡ take 37 word = ap (take 37) taken ∙ take-take 37 41 word (omega arith) in
      let is : take 37 (map shown_byte (take n room)) ≡ take 37 (map shown_byte word) =
      take-map shown_byte 37 (take n room) ∙ ap (map shown_byte) front ∙ sym (take-map shown_byte 37 word) in
      rw (lt-leb (length word) 40 many) (ap (λ (l : List ℕ). l ++ codes "...") is)
