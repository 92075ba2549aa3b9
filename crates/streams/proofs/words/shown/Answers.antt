-- the bytes that are told are those of the word as it is shown
use Rattle.std.proofs.Common.{rules, ◌≡◌, refl, sym, ap, subst, ◌∙◌, ℕ, ◌≤◌, List, ◌++◌, length, take, map, arith, length-append, length-take-le}
use Rattle.std.proofs.lemmas.List.{length-map}
use Rattle.std.proofs.Math.Seq.{take-append-le}
use Rattle.std.specs.Prelude.{codes}
use Rattle.std.specs.Str.{IsAscii}
use Rattle.std.specs.List.{take-map}
use Rattle.std.proofs.lemmas.Slice.{take-put_mid}
use Rattle.std.proofs.lemmas.Str.{IsAscii-append}
use borrow.Rule.Slice.PartMut.{put_mid, post_of}
use Rattle.streams.specs.Words.{shown_byte}
use Rattle.streams.proofs.WordLaws.{given_word}
use Rattle.streams.proofs.ShownLaws.{shown_ascii, dots_ascii, shown_whole, shown_cut}
use Rattle.streams.proofs.words.shown.Goals as goal

pub returns-then-n-lt-SHOWN_ROOM-clause-shown : goal.returns-then-n-lt-SHOWN_ROOM-clause-shown
returns-then-n-lt-SHOWN_ROOM-clause-shown g c =
    λ all e.
    let n : ℕ = c.in-Some.n in
    let room : List ℕ = c.word.new.room in
    let (word, there, t) = given_word e c.args.i room n c.in-Some.ensures.gives in
    let long : length room ≡ 41 = search rules in
    let size : length (map shown_byte (take n room)) ≡ n = length-map (take n room) shown_byte ∙ length-take-le n room t.within in
    let bytes : take n (put_mid 0 n room (map shown_byte (take n room))) ≡ map shown_byte (take n room) =
    take-put_mid 0 n room (map shown_byte (take n room)) n (omega (arith, size)) (omega arith) in
    let told = c.ascii_text.ensures.ascii (rw (c.put_printable.ensures, bytes) (shown_ascii (take n room))) in
    rw there (told ∙ rw c.put_printable.ensures (bytes ∙ shown_whole word room n t long c.if-n-lt-SHOWN_ROOM.true))

pub returns-clause-shown : goal.returns-clause-shown
returns-clause-shown g c =
    λ all e.
    let n : ℕ = c.in-Some.n in
    let room : List ℕ = c.word.new.room in
    let (word, there, t) = given_word e c.args.i room n c.in-Some.ensures.gives in
    let long : length room ≡ 41 = search rules in
    let enough : 41 ≤ n = c.if-n-lt-SHOWN_ROOM.false in
    let p : List ℕ = map shown_byte (take n room) in
    let dots : List ℕ = codes "..." in
    let size : length p ≡ n = length-map (take n room) shown_byte ∙ length-take-le n room t.within in
    let front : take 37 (put_mid 0 n room p) ≡ take 37 p = take-append-le 37 p (post_of 0 n room) (omega (arith, size, enough)) in
    let bytes : take 40 (put_mid 37 3 (put_mid 0 n room p) dots) ≡ take 37 p ++ dots =
    take-put_mid 37 3 (put_mid 0 n room p) dots 40 refl (omega (arith, length-append p (post_of 0 n room), size, enough)) ∙ ap (λ (l : List ℕ). l ++ dots) front in
    let whole = bytes ∙ shown_cut word room n t long enough in
    let ascii : IsAscii (take 37 p ++ dots) = IsAscii-append (take 37 p) dots (subst IsAscii (sym (take-map shown_byte 37 (take n room))) (shown_ascii (take 37 (take n room)))) dots_ascii in
    let told = c.ascii_text-2.ensures.ascii (rw (c.copy_from_slice.ensures.after, c.put_printable.ensures, bytes) ascii) in
    rw there (told ∙ rw (c.copy_from_slice.ensures.after, c.put_printable.ensures) whole)
