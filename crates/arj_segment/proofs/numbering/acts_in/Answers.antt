use Rattle.std.proofs.Common.{◌<◌, [], arith, length, sym, subst}
use Rattle.arj_base.specs.Order.{uid_order}
use Rattle.arj_disk.specs.declared.slot.Slot.TheVariants.{Pending}
use Rattle.arj_segment.proofs.Picked.{Picks, pendings_once, pendings_ordered, picked_all, picks_next, picks_none}
use Rattle.arj_segment.proofs.numbering.acts_in.Goals as goal

pub loop-slot-init : goal.loop-slot-init
loop-slot-init c = subst (Picks (Pending c.args.role) uid_order []) (sym c.new-acts.ensures) (picks_none (Pending c.args.role) uid_order)

pub loop-slot-preserved : goal.loop-slot-preserved
loop-slot-preserved c =
    let within : c.loop-slot.slot-index < length c.args.names.now = omega arith in
    picks_next (Pending c.args.role) uid_order c.args.names.now c.loop-slot.slot-index _ c.loop-slot.acts _ within c.loop-slot.invariant c.requires (pendings_ordered c.args.role) (pendings_once c.args.role) c.in_ok-take_act.ensures

pub returns-clause-there : goal.returns-clause-there
returns-clause-there c =
    (picked_all (Pending c.args.role) uid_order c.args.names.now c.loop-slot.slot-index c.loop-slot.acts (omega arith) c.loop-slot.invariant).there
