use Rattle.std.proofs.Common.{◌∙◌}
use Rattle.arj_disk.specs.declared.slot.Role.TheVariants.{Names}
use Rattle.arj_naming.proofs.Orphans.{one_cut, one_part, one_pair, one_said}
use Rattle.arj_naming.proofs.naming.Naming.abort_all.Goals as goal

pub returns-in-Err-clause-stopped : goal.returns-in-Err-clause-stopped
returns-in-Err-clause-stopped g c = λ stop.
    one_cut c.args.actions.now c.loop-action.action-index c.loop-action-test.true c.args.self.now.pair c.loop-action.self.pair c.args.out.now c.loop-action.out c.loop-action.invariant.done.pair c.loop-action.invariant.done.lines
    (g.O.ObjectStore.pair (g.D.Disk.file c.abort_entries.new.disk) Names) c.abort_entries.new.out (c.in-Err.ensures.stopped stop)

pub returns-in-Err-clause-fault : goal.returns-in-Err-clause-fault
returns-in-Err-clause-fault g c =
    one_part c.args.actions.now c.loop-action.action-index c.loop-action-test.true c.args.self.now.pair c.loop-action.self.pair c.args.out.now c.loop-action.out c.loop-action.invariant.done.pair c.loop-action.invariant.done.lines
    (g.O.ObjectStore.pair (g.D.Disk.file c.abort_entries.new.disk) Names) c.in-Err.ensures.fault

pub loop-action-preserved : goal.loop-action-preserved
loop-action-preserved g c = record {
  stands = c.in-Ok.ensures.stands;
  done = record {
    part = c.in-Ok.ensures.done.part ∙ c.loop-action.invariant.done.part;
    lines = one_said c.args.actions.now c.loop-action.action-index c.loop-action-test.true c.args.self.now.pair c.loop-action.self.pair c.args.out.now c.loop-action.out c.loop-action.invariant.done.pair
        c.loop-action.invariant.done.lines c.abort_entries.new.out c.in-Ok.ensures.done.lines;
    pair = one_pair c.args.actions.now c.loop-action.action-index c.loop-action-test.true c.args.self.now.pair c.loop-action.self.pair c.args.out.now c.loop-action.out c.loop-action.invariant.done.pair
        c.loop-action.invariant.done.lines c.abort_entries.new.self.pair c.in-Ok.ensures.done.pair;
  };
  entries = c.in-Ok.ensures.entries;
  others = λ q other apart. c.in-Ok.ensures.others q other apart ∙ c.loop-action.invariant.others q other apart;
  stops = c.in-Ok.ensures.counts.stops.ok ∙ c.loop-action.invariant.stops;
  arms = c.in-Ok.ensures.counts.arms ∙ c.loop-action.invariant.arms;
  last_arm = c.in-Ok.ensures.counts.last_arm ∙ c.loop-action.invariant.last_arm;
}
