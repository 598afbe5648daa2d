use Rattle.std.proofs.Common.{sym, subst}
use Rattle.arj_manager.specs.Index.{IsIndexed}
use Rattle.arj_manager.proofs.Upkeep.{activated_indexed}
use Rattle.arj_manager.proofs.manager.StateManager.activate.Goals as goal

pub invariant_of-self-2 : goal.invariant_of-self-2
invariant_of-self-2 c =
    subst (IsIndexed c.note_one.new.index) (sym c.in_ok-insert.ensures.entries)
    (activated_indexed c.self.inside.index c.note_one.new.index c.args.x c.args.binding c.args.state.now c.in_ok-copy.copy c.self.inside.objects.entries c.in_ok-copy.ensures.copy c.in_ok-note_one.ensures.here c.note_one.ensures.stays c.self.invariant)
