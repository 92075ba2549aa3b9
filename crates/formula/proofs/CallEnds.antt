-- How a call ends, by how printing ended.
use Rattle.std.proofs.Common.{◌≡◌, refl, ℕ, List, Option}
use Rattle.std.specs.Prelude.{Result, Ok, Err, OnOk, OnErr, MatchResult, IsErrAnd}
use Rattle.std.specs.Io.KnownBytes.{Appends}
use Rattle.std.proofs.lemmas.Result.{err_from_is_err_and}
use Rattle.std.specs.declared.io.Error.{Error}
use Rattle.streams.specs.Count.{AppendsBeginning}
use Rattle.formulas.specs.declared.InputBlock.{InputBlock}
use Rattle.formula.specs.Printed.{printed}
use Rattle.formula.specs.Call.{IsCall, Prints, Ended}
use Rattle.formula.proofs.Printing.{legible}
use Rattle.formula.specs.declared.Failure.{Failure}
use Rattle.formula.specs.declared.Failure.TheVariants.{Write}

pub prints : {words : List (List ℕ)} {formula : List ℕ} {block : InputBlock} → IsCall words formula block → Prints words (printed block formula)
prints {formula = formula} {block} call = record { formula = formula; block = block; call = call; is = refl; legible = legible block formula }

pub ended : (words : List (List ℕ)) (text : List ℕ) (old new : Option (List ℕ)) → Prints words text → (wrote : Result (Unit {0}) Error) (result : Result (Unit {0}) Failure)
    → MatchResult wrote (λ u. result ≡ Ok u) (λ e. IsErrAnd result (λ f. f ≡ Write e)) → OnOk wrote (Appends old new text) → OnErr wrote (AppendsBeginning old new text)
    → Ended words old new result
ended words text old new prints (Ok u) result told whole beginning = rw told (text, prints, whole)
ended words text old new prints (Err e) result told whole beginning =
    let (f, is, q) = err_from_is_err_and result told in rw (is, q) (text, prints, beginning)
