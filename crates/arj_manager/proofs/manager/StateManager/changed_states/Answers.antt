use Rattle.std.proofs.Common.{Some, ap, sym, ◌≡◌, ◌∙◌}
use Rattle.std.proofs.lemmas.Result.{IfOk-weaker}
use Rattle.arj_manager.specs.Index.{picked}
use Rattle.arj_manager.specs.Manager.{changed_in}
use Rattle.arj_manager.proofs.Upkeep.{unknown_states, walk_states}
use Rattle.arj_manager.proofs.manager.StateManager.changed_states.Goals as goal

pub returns-in_default : goal.returns-in_default
returns-in_default c =
    c.new.ensures ∙ (unknown_states c.self.inside.index c.args.top (sym c.in_default.ensures.value) c.self.inside.objects.entries c.self.invariant ∙ ap (changed_in c.args.top) c.self.view_is)

pub returns : goal.returns
returns c =
    IfOk-weaker c.changed_states.result (λ states. states ≡ changed_in c.args.top (picked c.in-Some.known.now.objects.keys c.self.inside.objects.entries)) (λ states. states ≡ changed_in c.args.top c.args.self.now)
    (λ states is.
    is ∙ (walk_states c.self.inside.index c.args.top (Some c.in-Some.known.now) (sym c.in-Some.ensures.value) c.self.inside.objects.entries c.changed_states.ensures.sorted c.changed_states.ensures.ordered c.self.invariant
    ∙ ap (changed_in c.args.top) c.self.view_is)) c.changed_states.ensures.states
