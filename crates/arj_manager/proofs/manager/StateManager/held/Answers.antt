use Rattle.std.proofs.Common.{subst}
use Rattle.std.proofs.lemmas.Result.{IfOk-weaker}
use Rattle.arj_lock.specs.Held.{AreListed}
use Rattle.arj_manager.specs.Manager.{tops_in}
use Rattle.arj_manager.proofs.Held.{listed_as}
use Rattle.arj_manager.proofs.manager.StateManager.held.Goals as goal

pub returns : goal.returns
returns c =
    IfOk-weaker c.in_order.result (AreListed c.as_slice.result.now) (AreListed (tops_in c.args.self.now))
    (λ list are.
    subst (λ m. AreListed (tops_in m) list) c.self.view_is
    (listed_as c.in_ok-tops.tops.items (tops_in c.self.inside.objects.entries) list c.in_ok-tops.ensures (subst (λ us. AreListed us list) c.as_slice.ensures.value are))) c.in_order.ensures
