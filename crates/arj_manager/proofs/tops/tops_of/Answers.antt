use Rattle.std.proofs.Common.{subst, sym}
use Rattle.arj_lock.specs.Held.{AreTops}
use Rattle.arj_manager.specs.Manager.{tops_in}
use Rattle.arj_manager.proofs.Held.{none_left, one_more}
use Rattle.arj_manager.proofs.tops.tops_of.Goals as goal

pub loop-object-preserved : goal.loop-object-preserved
loop-object-preserved c = λ u.
    one_more (tops_in c.args.objects.now.entries) c.loop-object.tops.items c.extend_from_slice.new.self.items c.as_slice.result.now (c.in-Some.field-0-0.now, c.in-Some.object.now) c.loop-object.object-iterator c.next.new.self
    c.in-Some.ensures.steps c.in_ok-extend_from_slice.ensures.items (subst (λ held. AreTops c.in-Some.object.now.rows held) (sym c.as_slice.ensures) c.in_ok-held.ensures) u (c.loop-object.invariant u)

pub returns : goal.returns
returns c = λ u. none_left (tops_in c.args.objects.now.entries) c.loop-object.tops.items c.loop-object.object-iterator c.in-None.ensures.steps.0 u (c.loop-object.invariant u)
