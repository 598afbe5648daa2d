use Rattle.std.proofs.Common.{refl}
use Rattle.arj_part_tests.proofs.uses.listed_once.Goals as goal

pub returns : goal.returns
returns c p held other pend a b =
    (c.lists_are_determined.ensures p p held other pend pend (record { committed = λ u. refl; prepared = λ a. refl }) a b).0
