-- the number gets smaller with each digit
use Rattle.arj_base.proofs.seq.+put_digits.Given as goal

abbrev pub decreases-put_digits : goal.decreases-put_digits
decreases-put_digits l = l.n
