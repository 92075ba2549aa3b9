-- the digits that are written fall in number at each call
use Rattle.sheet.proofs.number.+put_digits.Given as goal

abbrev pub decreases-put_digits : goal.decreases-put_digits
decreases-put_digits l = l.k
