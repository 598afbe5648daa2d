use Rattle.std.proofs.Common.{ap, sym, subst, ◌∙◌}
use Rattle.std.specs.Option.{option_copied}
use Rattle.arj_manager.specs.Index.{IsIndexed}
use Rattle.arj_manager.specs.Manager.{ended}
use Rattle.arj_manager.proofs.Upkeep.{ended_indexed, walk_ends}
use Rattle.arj_manager.proofs.manager.StateManager.end.Goals as goal

pub forget-requires : goal.forget-requires
forget-requires c =
    subst (IsIndexed c.self.inside.index)
    (sym (c.end_known.ensures.each ∙ walk_ends c.self.inside.index c.args.action (option_copied c.get.result) (sym c.get.ensures.value) c.args.end c.self.inside.objects.entries c.end_known.ensures.sorted c.self.invariant))
    (ended_indexed c.self.inside.index c.args.action c.args.end c.self.inside.objects.entries c.self.invariant)

pub returns : goal.returns
returns c =
    c.end_known.ensures.each
    ∙ (walk_ends c.self.inside.index c.args.action (option_copied c.get.result) (sym c.get.ensures.value) c.args.end c.self.inside.objects.entries c.end_known.ensures.sorted c.self.invariant
    ∙ ap (ended c.args.action c.args.end) c.self.view_is)
