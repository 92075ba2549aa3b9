-- the words are numbers up to where the loop stands, and the first of them are kept
use Rattle.std.proofs.Common.{◌≡◌, refl, ◌∙◌, ◌+◌, ◌-◌, ◌^◌, add-one, [], ◌∷◌, ◌++◌, length, length-set, arith, rules, None, pos, w64}
use Rattle.std.specs.Prelude.{slice_get}
use Rattle.std.proofs.lemmas.List.{get_or-replicate}
use Rattle.std.proofs.lemmas.Option.{slice_get_past}
use Rattle.std.proofs.lemmas.Result.{err_from_is_err_and}
use Rattle.std.proofs.lemmas.Int.{to_z-of_z}
use mir.Val.{SFits}
use Rattle.formula.specs.declared.call.TheConstants.{NUMBERS_ROOM}
use Rattle.formula.specs.Words.{none, one_more}
use Rattle.formula.proofs.NumberLaws.{holds_kept, holds_counted}
use Rattle.formula.proofs.call.numbers_given.Goals as goal
use Rattle.formula.proofs.call.numbers_given.Goals.{then-count-lt-NUMBERS_ROOM, else-count-lt-NUMBERS_ROOM}

pub loop-i-init : goal.loop-i-init
loop-i-init g c = (refl, λ all e. ([], none, record { counted = refl; is = λ k l. get_or-replicate NUMBERS_ROOM k (pos 0) (pos 0) l }))

pub returns-in_err-number : goal.returns-in_err-number
returns-in_err-number g c =
    let p = err_from_is_err_and c.from_residual.result c.from_residual.ensures.1 in
    record {
      given = λ all e small.
          let (zs, read, held) = c.loop-i.invariant.1 all e in
          let (word, there, no_number, told) = c.in_err-number.ensures all e in
          rw (p.1, p.2) (record { place = c.loop-i.i; earlier = zs; before = read; word = word; there = there; no_number = no_number; told = told });
      few = rw p.1 tt;
    }

pub returns-in_default : goal.returns-in_default
returns-in_default g c =
    record {
      given = λ all e small.
          let (zs, read, held) = c.loop-i.invariant.1 all e in
          let last : slice_get all c.loop-i.i ≡ None = rw c.in_default.is at (c.in_ok-number.ensures all e) in
          (zs, record { behind = c.loop-i.i; read = read; last = last }, held);
      few = omega arith;
    }

pub loop-i-preserved : goal.loop-i-preserved
loop-i-preserved g c =
    let long = c.loop-i.invariant.0 in (
      elim c.if-count-lt-NUMBERS_ROOM.branch [
        | then-count-lt-NUMBERS_ROOM w ↦ rw w.first-is (length-set c.loop-i.first _ _ ∙ long)
        | else-count-lt-NUMBERS_ROOM w ↦ rw w.first-is long
      ],
      λ all e.
          let (zs, read, held) = c.loop-i.invariant.1 all e in
          let (word, there, number) = rw c.in-Some.is at (c.in_ok-number.ensures all e) in
          let count : c.loop-i.i - 2 ≡ length zs = held.counted in
          let more : c.loop-i.i + 1 - 2 ≡ length zs + 1 = omega (arith, count) in
          let fits : SFits w64 c.in-Some.number = search rules in
          let kept = rw count at held in (
            zs ++ (c.in-Some.number ∷ []),
            rw add-one (one_more read there number),
            rw more (elim c.if-count-lt-NUMBERS_ROOM.branch [
              | then-count-lt-NUMBERS_ROOM w ↦
                  rw (w.first-is, to_z-of_z w64 _ fits, count)
                  (holds_kept c.loop-i.first zs c.in-Some.number kept (omega (arith, count, long, w.if-count-lt-NUMBERS_ROOM.true)))
              | else-count-lt-NUMBERS_ROOM w ↦
                  rw w.first-is (holds_counted c.loop-i.first zs c.in-Some.number kept (omega (arith, count, long, w.if-count-lt-NUMBERS_ROOM.false)))
            ]),
          ),
    )

pub returns : goal.returns
returns g c =
    record {
      given = λ all e small.
          let (zs, read, held) = c.loop-i.invariant.1 all e in
          let end : c.loop-i.i ≡ 2 ^ 64 - 1 = omega arith in
          let last : slice_get all c.loop-i.i ≡ None = slice_get_past all c.loop-i.i (omega (arith, small)) in
          (zs, record { behind = c.loop-i.i; read = read; last = last }, rw end at held);
      few = omega arith;
    }
