use Rattle.sheet.proofs.Numeral.{field_complete}
use Rattle.sheet.proofs.claims.numerals_read_back.Goals as goal

pub returns : goal.returns
returns c = field_complete
