use Rattle.std.proofs.Common.{sym, subst}
use Rattle.std.specs.BTreeMap.{is_at}
use Rattle.std.specs.Ordering.{nat_cmp}
use Rattle.arj_manager.specs.Index.{IsIndexed}
use Rattle.arj_manager.proofs.Upkeep.{removed_indexed}
use Rattle.arj_manager.proofs.manager.StateManager.deactivate.Goals as goal

pub invariant_of-self : goal.invariant_of-self
invariant_of-self c =
    subst (IsIndexed c.self.inside.index) (sym c.remove.ensures.entries) (removed_indexed c.self.inside.index (is_at (nat_cmp c.args.x)) c.self.inside.objects.entries c.self.invariant)
