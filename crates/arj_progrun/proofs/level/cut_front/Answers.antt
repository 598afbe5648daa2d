-- lists that are empty
use Rattle.std.proofs.Common.{◌∙◌}
use Rattle.arj_progrun.proofs.Stacks.{empty_popped}
use Rattle.arj_progrun.proofs.level.cut_front.Goals as goal

pub loop-list-preserved : goal.loop-list-preserved
loop-list-preserved c =
    empty_popped c.pop.new.self.items c.in-Some.list c.loop-list.rest.items c.in-Some.ensures.items c.in_default-split_first.ensures.cases
    ∙ c.loop-list.invariant
