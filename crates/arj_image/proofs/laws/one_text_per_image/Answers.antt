use Rattle.arj_image.proofs.Images.{image_once}
use Rattle.arj_image.proofs.Turns.{goes}
use Rattle.arj_image.proofs.laws.one_text_per_image.Goals as goal

pub returns-clause-read : goal.returns-clause-read
returns-clause-read c i form = goes i form

pub returns-clause-once : goal.returns-clause-once
returns-clause-once c i j hi hj e = image_once i j hi hj e
