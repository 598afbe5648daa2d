use Rattle.std.proofs.Common.{ap, sym, ◌∙◌}
use Rattle.arj_manager.specs.Manager.{changed_in}
use Rattle.arj_manager.proofs.Upkeep.{none_picked}
use Rattle.arj_manager.proofs.walk.changed_states.Goals as goal

pub returns-then-len-eq0-clause-states : goal.returns-then-len-eq0-clause-states
returns-then-len-eq0-clause-states c =
    c.new-states.ensures ∙ ap (changed_in c.args.top) (sym (none_picked c.args.xs.now.keys c.args.objects.now.entries c.len.result c.len.ensures.len c.if-len-eq0.true))
