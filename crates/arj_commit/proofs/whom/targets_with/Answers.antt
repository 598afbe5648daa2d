use Rattle.std.proofs.Common.{◌||◌, ap, ◌∙◌}
use Rattle.std.proofs.Common.{arith}
use Rattle.arj_protocol.specs.Commit.{Used}
use Rattle.arj_commit.specs.Sets.{is_among}
use Rattle.arj_commit.proofs.NodeSets.{targets_before}
use Rattle.arj_commit.proofs.whom.targets_with.Goals as goal

pub loop-i-preserved : goal.loop-i-preserved
loop-i-preserved c =
    let u = c.index-used-i.result in
    record {
      within = omega (arith, c.loop-i.invariant.within);
      added = targets_before c.args.more.now c.args.changed.now c.args.used.now c.loop-i.i u c.loop-i.set.items c.put_stores.new.set.items c.is_in_either.result
          c.loop-i-test.true c.loop-i.invariant.within c.index-used-i.is c.loop-i.invariant.added
          (c.is_in_either.ensures ∙ ap (λ (w : Used). is_among c.args.more.now w.x || is_among c.args.changed.now w.x) c.object.view_is) c.in_ok-put_stores.ensures;
    }
