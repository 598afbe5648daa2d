use Rattle.std.proofs.Common.{Some, ap, sym, ◌∙◌}
use Rattle.arj_manager.specs.Index.{any_answers}
use Rattle.arj_manager.proofs.Upkeep.{unknown_any, walk_any}
use Rattle.arj_manager.proofs.manager.StateManager.any.Goals as goal

pub returns-in_default : goal.returns-in_default
returns-in_default c =
    unknown_any c.self.inside.index c.args.action (sym c.in_default.ensures.value) c.args.question c.self.inside.objects.entries c.self.invariant ∙ ap (any_answers c.args.question c.args.action) c.self.view_is

pub returns : goal.returns
returns c =
    c.any.ensures.answer
    ∙ (walk_any c.self.inside.index c.args.action (Some c.in-Some.known.now) (sym c.in-Some.ensures.value) c.args.question c.self.inside.objects.entries c.any.ensures.sorted c.any.ensures.ordered c.self.invariant
    ∙ ap (any_answers c.args.question c.args.action) c.self.view_is)
