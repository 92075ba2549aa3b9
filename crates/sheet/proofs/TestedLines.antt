-- The test of a line whose numbers have zeros behind them.
use mathlib.Core.Path.{◌≡◌, refl}
use Rattle.sheet.specs.Lines.{numbers}
use Rattle.sheet.specs.Tests.{fault}
use Rattle.sheet.specs.Reading.{padded}
use Rattle.sheet.specs.declared.Schedule.{Schedule}
use Rattle.sheet.specs.declared.Line.{Line}
use Rattle.sheet.specs.declared.Line.TheVariants.{CountNames, CountLine, EndNames, EndLine, StepNames, StepLine}

-- the zeros behind a line's numbers are on no test
pub fault_padded : (l : Line) (c : Schedule) → fault l (padded (numbers c l)) ≡ fault l (numbers c l)
unfolding fault numbers
fault_padded CountNames c = refl
fault_padded CountLine c = refl
fault_padded EndNames c = refl
fault_padded (EndLine i) c = refl
fault_padded StepNames c = refl
fault_padded (StepLine i r) c = refl
