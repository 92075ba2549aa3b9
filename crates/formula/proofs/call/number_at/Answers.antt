-- the number that the word there is
use Rattle.std.proofs.Common.{rules, ◌≡◌, sym, refl, w64, take, length}
use Rattle.std.proofs.lemmas.Int.{to_z-of_z}
use mir.Val.{SFits}
use Rattle.formula.specs.declared.call.TheConstants.{WORD_ROOM}
use Rattle.streams.proofs.WordLaws.{given_word}
use Rattle.formula.proofs.call.number_at.Goals as goal

pub returns-in-Some-number_of : goal.returns-in-Some-number_of
returns-in-Some-number_of g c =
    λ all e.
    let (word, there, t) = given_word e c.args.i c.word.new.room c.in-Some.n c.in-Some.ensures.gives in
    let fits : SFits w64 c.in-Some-number_of.number = search rules in
    let long : length c.word.new.room ≡ WORD_ROOM = search rules in
    let taken : take WORD_ROOM word ≡ take c.in-Some.n c.word.new.room = rw long at (sym t.is) in
    (word, there, rw (to_z-of_z w64 _ fits) ((c.in-Some-number_of.ensures word taken c.in-Some-number_of.number).0 refl))

pub returns-in-None : goal.returns-in-None
returns-in-None g c =
    λ all e.
    let (word, there, t) = given_word e c.args.i c.word.new.room c.in-Some.n c.in-Some.ensures.gives in
    let long : length c.word.new.room ≡ WORD_ROOM = search rules in
    let taken : take WORD_ROOM word ≡ take c.in-Some.n c.word.new.room = rw long at (sym t.is) in
    (word, there, λ z n. let q = (c.in-None.ensures word taken z).1 n in absurd cc, refl)
