-- no formula, numbers that are no inputs, or what is printed
use Rattle.std.proofs.Common.{◌≡◌, refl, sym, inl, inr, rules, length, take}
use Rattle.formula.specs.declared.TheConstants.{FORMULA_ROOM}
use Rattle.formula.specs.Call.{IsCall, no_formula, no_number, no_inputs}
use Rattle.streams.proofs.WordLaws.{given_word, given_none}
use Rattle.formula.specs.Printed.{printed}
use Rattle.formula.proofs.CallEnds.{prints, ended}
use Rattle.formula.proofs.run.Goals as goal

pub returns-in_default-clause-ended : goal.returns-in_default-clause-ended
returns-in_default-clause-ended g c = λ all e small. (no_formula (given_none e 1 c.word.new.room c.in_default.ensures.gives), refl)

pub returns-in-Err-clause-ended : goal.returns-in-Err-clause-ended
returns-in-Err-clause-ended g c =
    λ all e small.
    let (formula, there, t) = given_word e 1 c.word.new.room c.in-Some.n c.in-Some.ensures.gives in
    (elim (c.in-Err.ensures all e small) [ inl h ↦ no_number there h | inr h ↦ no_inputs there h ], refl)

pub returns-in-Ok-clause-ended : goal.returns-in-Ok-clause-ended
returns-in-Ok-clause-ended g c =
    λ all e small.
    let (formula, there, t) = given_word e 1 c.word.new.room c.in-Some.n c.in-Some.ensures.gives in
    let long : length c.word.new.room ≡ FORMULA_ROOM = search rules in
    let taken : take FORMULA_ROOM formula ≡ take c.in-Some.n c.word.new.room = rw long at (sym t.is) in
    let call : IsCall all formula c.in-Ok.block = record { first = there; inputs = c.in-Ok.ensures all e small } in
    ended all (printed c.in-Ok.block formula) _ _ (prints call) c.print_to.result c.map_err.result c.map_err.ensures.cases (c.print_to.ensures.whole formula taken) (c.print_to.ensures.beginning formula taken)
