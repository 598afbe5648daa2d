use Rattle.arj_image.proofs.Kept.{grows}
use Rattle.arj_image.proofs.laws.lines_are_kept.Goals as goal

pub returns : goal.returns
returns c p f bare fits = grows p.stage p.image f bare fits
