-- a word of at most eleven bytes is set as a field of a sheet and read there
use Rattle.std.proofs.Common.{◌≡◌, ◌∙◌, ℕ, ◌+◌, ◌<◌, List, [], ◌∷◌, ◌++◌, length, drop, replicate, length-append, append_assoc, arith, w64, rules}
use Rattle.std.proofs.lemmas.Int.{to_z-of_z}
use mir.Val.{SFits}
use Rattle.std.proofs.lemmas.List.Edits.{sets-eq}
use Rattle.std.proofs.lemmas.List.Edits.{sets}
use Rattle.sheet.specs.Wrote.{Wrote}
use Rattle.sheet.proofs.Written.{sets_append}
use Rattle.formula.specs.declared.call.TheConstants.{WORD_ROOM}
use Rattle.streams.proofs.WordLaws.{whole_word}
use Rattle.formula.proofs.WordLaws.{long_word, none_read, some_read}
use Rattle.formula.proofs.call.number_of.Goals as goal

-- the bytes and byte 10 behind them, set into zeros
set_field : (taken zeros before line : List ℕ) (end last : ℕ) → Wrote zeros before 0 end taken → Wrote before line end last (10 ∷ []) → length taken < length zeros
    → line ≡ taken ++ (10 ∷ drop (length taken + 1) zeros)
set_field taken zeros before line end last w v h =
    let both : line ≡ sets zeros 0 (taken ++ (10 ∷ [])) = v.is ∙ rw (w.is, w.ends) (sets_append taken (10 ∷ []) zeros 0) in
    let long : length (taken ++ (10 ∷ [])) ≡ length taken + 1 = length-append taken (10 ∷ []) in
    let k : 0 + length (taken ++ (10 ∷ [])) ≡ length taken + 1 = omega (arith, long) in
    both ∙ sets-eq (taken ++ (10 ∷ [])) zeros 0 (omega (arith, long)) ∙ rw k (append_assoc taken (10 ∷ []) (drop (length taken + 1) zeros))

pub returns-then-n-ge-WORD_ROOM : goal.returns-then-n-ge-WORD_ROOM
returns-then-n-ge-WORD_ROOM c = λ word e z. (λ h. absurd cc, λ n. absurd (long_word word c.args.taken.now 12 e (search rules) z n))

pub returns-in_err-number : goal.returns-in_err-number
returns-in_err-number c =
    λ word e z.
    let small : length c.args.taken.now < WORD_ROOM = search rules in
    let is = whole_word WORD_ROOM word c.args.taken.now e small in
    let line = set_field c.args.taken.now (replicate WORD_ROOM 0) c.put_bytes-end.new.out c.put_bytes.new.out _ _ c.put_bytes-end.ensures c.put_bytes.ensures small in
    let none = none_read c.put_bytes.new.out c.args.taken.now _ line c.in_err-number.ensures z in
    rw (c.from_residual.ensures, is) (λ h. absurd cc, λ n. absurd (none n))

pub returns : goal.returns
returns c =
    λ word e z.
    let small : length c.args.taken.now < WORD_ROOM = search rules in
    let is = whole_word WORD_ROOM word c.args.taken.now e small in
    let line = set_field c.args.taken.now (replicate WORD_ROOM 0) c.put_bytes-end.new.out c.put_bytes.new.out _ _ c.put_bytes-end.ensures c.put_bytes.ensures small in
    let fits : SFits w64 c.in_ok-number.number.value = search rules in
    rw (c.then_some.ensures, is, to_z-of_z w64 _ fits) (some_read c.put_bytes.new.out c.args.taken.now _ line c.in_ok-number.number c.in_ok-number.ensures z)
