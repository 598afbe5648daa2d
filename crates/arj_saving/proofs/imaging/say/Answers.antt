-- what comes of a script
use Rattle.std.proofs.Common.{◌≡◌, ◌⊎◌, arith, subst, sym}
use Rattle.std.proofs.Math.Logic.{⊎_elim}
use Rattle.std.specs.Option.{MatchOption}
use Rattle.arj_loop.specs.Running.{held_by}
use Rattle.arj_nodes.specs.AsMachine.{all_nodes}
use Rattle.arj_saving.proofs.Ends.{has_last, ran_whole}
use Rattle.arj_saving.proofs.Saids.{comes_behind, comes_end, comes_silent}
use Rattle.arj_saving.specs.Comes.{HasScript}
use Rattle.arj_saving.specs.Stops.{moment}
use Rattle.arj_saving.proofs.imaging.say.Goals as goal

pub say_nodes-requires : goal.say_nodes-requires
say_nodes-requires g c =
    let whole : c.replay-status.result ≡ 0 = rw c.in-Save.is at c.way_of.ensures in
    let closes = c.replay-status.ensures.closes (λ e. omega (arith, whole, e)) (λ e. omega (arith, whole, e)) in
    let w = ran_whole (all_nodes g.C.Core g.D.Disk) _ _ _ closes whole in
    record {
      script = subst (λ o. MatchOption o ⊥ (λ all. HasScript (all_nodes g.C.Core g.D.Disk) (moment c.replay-status.new.rack all c.replay-status.new.journal))) (sym w.machine_is)
          (closes.given, c.args.rack.now, w.script);
    }

pub say_last-requires : goal.say_last-requires
say_last-requires g c =
    let which : (c.replay-status.result ≡ 2) ⊎ (c.replay-status.result ≡ 6) = rw c.in-Last.is at c.way_of.ensures in
    let closes = c.replay-status.ensures.closes (λ e. ⊎_elim (λ two. omega (arith, two, e)) (λ six. omega (arith, six, e)) which)
    (λ e. ⊎_elim (λ two. omega (arith, two, e)) (λ six. omega (arith, six, e)) which) in
    record { some = has_last (all_nodes g.C.Core g.D.Disk) _ _ _ closes which }

pub returns-in-Save : goal.returns-in-Save
returns-in-Save g c =
    let whole : c.replay-status.result ≡ 0 = rw c.in-Save.is at c.way_of.ensures in
    let closes = c.replay-status.ensures.closes (λ e. omega (arith, whole, e)) (λ e. omega (arith, whole, e)) in
    let w = ran_whole (all_nodes g.C.Core g.D.Disk) _ _ _ closes whole in (
      closes.given,
      closes.reads,
      comes_behind (all_nodes g.C.Core g.D.Disk) g.D.Disk closes.given c.args.rack.now (held_by c.say_nodes.new.rack c.say_nodes.new.nodes c.say_nodes.new.journal) c.replay-status.new.why
          c.say_nodes.result (c.say_nodes.ensures w.made w.machine_is closes.given c.args.rack.now w.script),
    )

pub returns-in-Last : goal.returns-in-Last
returns-in-Last g c =
    let which : (c.replay-status.result ≡ 2) ⊎ (c.replay-status.result ≡ 6) = rw c.in-Last.is at c.way_of.ensures in
    let closes = c.replay-status.ensures.closes (λ e. ⊎_elim (λ two. omega (arith, two, e)) (λ six. omega (arith, six, e)) which)
    (λ e. ⊎_elim (λ two. omega (arith, two, e)) (λ six. omega (arith, six, e)) which) in
    (closes.given, closes.reads, comes_end (all_nodes g.C.Core g.D.Disk) g.D.Disk _ _ _ closes which c.say_last.result c.say_last.ensures.said c.say_last.ensures.memory)

pub returns : goal.returns
returns g c =
    let statuses = c.replay-status.ensures.statuses in
    comes_silent (all_nodes g.C.Core g.D.Disk) g.D.Disk _ _ _ statuses.0 statuses.1
    (λ e. let rose = c.replay-status.ensures.write_fault e in omega (arith, rose (omega arith)))
    c.replay-status.ensures.closes
    c.replay-status.ensures.short c.in-Stop.silence (rw c.in-Stop.is at c.way_of.ensures)
