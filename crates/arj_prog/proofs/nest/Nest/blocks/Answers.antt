-- The innermost comes last in the vector.
use Rattle.std.proofs.Common.{◌∙◌, sym, ap}
use Rattle.arj_prog.specs.Nesting.{blocks_in}
use Rattle.arj_prog.proofs.Nests.{blocks_reverse}
use Rattle.arj_prog.proofs.nest.Nest.blocks.Goals as goal

pub returns : goal.returns
returns c =
    c.blocks_among.ensures ∙ (ap blocks_in c.as_slice.ensures.value ∙ (sym (blocks_reverse c.self.inside.frames.items) ∙ ap blocks_in c.self.view_is))
