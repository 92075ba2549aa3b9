use Rattle.affine.proofs.Agreement.{products_agree}
use Rattle.affine.proofs.claims.products_agree.Goals as goal

pub returns : goal.returns
returns c = products_agree
