use Rattle.std.proofs.Common.{◌∙◌, sym, ap}
use Rattle.std.specs.Prelude.{IsErrOf}
use Rattle.arj_core.specs.declared.node.CoreFault.TheVariants.{Halted}
use Rattle.arj_core.specs.Steps.{input_of, message_of}
use Rattle.arj_node.proofs.Cores.{does_as, stops_as}
use Rattle.arj_protocol.specs.Step as protocol
use Rattle.arj_node.proofs.node.NodeCoreCore.step.Goals as goal

pub returns-in-Begin-clause-done : goal.returns-in-Begin-clause-done
returns-in-Begin-clause-done g c =
    does_as {P = g.row.P.Denot} g.P.Parts (record {
      old = c.args.self.now;
      new = c.act.new.self;
      file = g.D.Disk.file c.args.disk.now;
      left =
          g.D.Disk.file c.act.new.disk;
      before = c.args.out.now;
      after = c.act.new.out;
    }) c.act.result
    (protocol.Begin c.in-Begin.label c.in-Begin.kind c.in-Begin.parent) (input_of c.args.input) (sym (ap input_of c.in-Begin.is)) c.act.ensures.done

pub returns-in-Begin-clause-halted : goal.returns-in-Begin-clause-halted
returns-in-Begin-clause-halted g c =
    stops_as {P =
    g.row.P.Denot} g.P.Parts (record {
      old = c.args.self.now;
      new = c.act.new.self;
      file = g.D.Disk.file c.args.disk.now;
      left =
          g.D.Disk.file c.act.new.disk;
      before = c.args.out.now;
      after = c.act.new.out;
    }) (IsErrOf c.act.result Halted)
    (protocol.Begin c.in-Begin.label c.in-Begin.kind c.in-Begin.parent) (input_of c.args.input) (sym (ap input_of c.in-Begin.is)) c.act.ensures.halted

pub returns-in-Call-clause-done : goal.returns-in-Call-clause-done
returns-in-Call-clause-done g c =
    does_as {P = g.row.P.Denot} g.P.Parts (record {
      old = c.args.self.now;
      new = c.act-in-Call.new.self;
      file =
          g.D.Disk.file c.args.disk.now;
      left =
          g.D.Disk.file c.act-in-Call.new.disk;
      before = c.args.out.now;
      after = c.act-in-Call.new.out;
    }) c.act-in-Call.result
    (protocol.Call c.in-Call.label c.in-Call.x c.in-Call.op) (input_of c.args.input) (sym (ap input_of c.in-Call.is)) c.act-in-Call.ensures.done

pub returns-in-Call-clause-halted : goal.returns-in-Call-clause-halted
returns-in-Call-clause-halted g c =
    stops_as {P =
    g.row.P.Denot} g.P.Parts (record {
      old = c.args.self.now;
      new = c.act-in-Call.new.self;
      file = g.D.Disk.file c.args.disk.now;
      left =
          g.D.Disk.file c.act-in-Call.new.disk;
      before = c.args.out.now;
      after = c.act-in-Call.new.out;
    }) (IsErrOf c.act-in-Call.result Halted)
    (protocol.Call c.in-Call.label c.in-Call.x c.in-Call.op) (input_of c.args.input) (sym (ap input_of c.in-Call.is)) c.act-in-Call.ensures.halted

pub returns-in-Include-clause-done : goal.returns-in-Include-clause-done
returns-in-Include-clause-done g c =
    does_as {P = g.row.P.Denot} g.P.Parts (record {
      old = c.args.self.now;
      new = c.act-in-Include.new.self;
      file =
          g.D.Disk.file c.args.disk.now;
      left =
          g.D.Disk.file c.act-in-Include.new.disk;
      before = c.args.out.now;
      after = c.act-in-Include.new.out;
    }) c.act-in-Include.result
    (protocol.Include c.in-Include.label c.in-Include.x c.in-Include.store) (input_of c.args.input) (sym (ap input_of c.in-Include.is)) c.act-in-Include.ensures.done

pub returns-in-Include-clause-halted : goal.returns-in-Include-clause-halted
returns-in-Include-clause-halted g c =
    stops_as {P =
    g.row.P.Denot} g.P.Parts (record {
      old = c.args.self.now;
      new = c.act-in-Include.new.self;
      file = g.D.Disk.file c.args.disk.now;
      left =
          g.D.Disk.file c.act-in-Include.new.disk;
      before =
          c.args.out.now;
      after = c.act-in-Include.new.out;
    }) (IsErrOf c.act-in-Include.result Halted)
    (protocol.Include c.in-Include.label c.in-Include.x c.in-Include.store) (input_of c.args.input) (sym (ap input_of c.in-Include.is)) c.act-in-Include.ensures.halted

pub returns-in-Commit-clause-done : goal.returns-in-Commit-clause-done
returns-in-Commit-clause-done g c =
    does_as {P = g.row.P.Denot} g.P.Parts (record {
      old = c.args.self.now;
      new = c.act-in-Commit.new.self;
      file =
          g.D.Disk.file c.args.disk.now;
      left =
          g.D.Disk.file c.act-in-Commit.new.disk;
      before = c.args.out.now;
      after = c.act-in-Commit.new.out;
    }) c.act-in-Commit.result
    (protocol.Commit c.in-Commit.label) (input_of c.args.input) (sym (ap input_of c.in-Commit.is)) c.act-in-Commit.ensures.done

pub returns-in-Commit-clause-halted : goal.returns-in-Commit-clause-halted
returns-in-Commit-clause-halted g c =
    stops_as {P =
    g.row.P.Denot} g.P.Parts (record {
      old = c.args.self.now;
      new = c.act-in-Commit.new.self;
      file = g.D.Disk.file c.args.disk.now;
      left =
          g.D.Disk.file c.act-in-Commit.new.disk;
      before =
          c.args.out.now;
      after = c.act-in-Commit.new.out;
    }) (IsErrOf c.act-in-Commit.result Halted)
    (protocol.Commit c.in-Commit.label) (input_of c.args.input) (sym (ap input_of c.in-Commit.is)) c.act-in-Commit.ensures.halted

pub returns-in-Abort-clause-done : goal.returns-in-Abort-clause-done
returns-in-Abort-clause-done g c =
    does_as {P = g.row.P.Denot} g.P.Parts (record {
      old = c.args.self.now;
      new = c.act-in-Abort.new.self;
      file =
          g.D.Disk.file c.args.disk.now;
      left =
          g.D.Disk.file c.act-in-Abort.new.disk;
      before = c.args.out.now;
      after = c.act-in-Abort.new.out;
    }) c.act-in-Abort.result
    (protocol.Abort c.in-Abort.label) (input_of c.args.input) (sym (ap input_of c.in-Abort.is)) c.act-in-Abort.ensures.done

pub returns-in-Abort-clause-halted : goal.returns-in-Abort-clause-halted
returns-in-Abort-clause-halted g c =
    stops_as {P =
    g.row.P.Denot} g.P.Parts (record {
      old = c.args.self.now;
      new = c.act-in-Abort.new.self;
      file = g.D.Disk.file c.args.disk.now;
      left =
          g.D.Disk.file c.act-in-Abort.new.disk;
      before = c.args.out.now;
      after = c.act-in-Abort.new.out;
    }) (IsErrOf c.act-in-Abort.result Halted)
    (protocol.Abort c.in-Abort.label) (input_of c.args.input) (sym (ap input_of c.in-Abort.is)) c.act-in-Abort.ensures.halted

pub returns-in-GiveUp-clause-done : goal.returns-in-GiveUp-clause-done
returns-in-GiveUp-clause-done g c =
    does_as {P = g.row.P.Denot} g.P.Parts (record {
      old = c.args.self.now;
      new = c.act-in-GiveUp.new.self;
      file =
          g.D.Disk.file c.args.disk.now;
      left =
          g.D.Disk.file c.act-in-GiveUp.new.disk;
      before = c.args.out.now;
      after = c.act-in-GiveUp.new.out;
    }) c.act-in-GiveUp.result
    (protocol.GiveUp c.in-GiveUp.label) (input_of c.args.input) (sym (ap input_of c.in-GiveUp.is)) c.act-in-GiveUp.ensures.done

pub returns-in-GiveUp-clause-halted : goal.returns-in-GiveUp-clause-halted
returns-in-GiveUp-clause-halted g c =
    stops_as {P =
    g.row.P.Denot} g.P.Parts (record {
      old = c.args.self.now;
      new = c.act-in-GiveUp.new.self;
      file = g.D.Disk.file c.args.disk.now;
      left =
          g.D.Disk.file c.act-in-GiveUp.new.disk;
      before =
          c.args.out.now;
      after = c.act-in-GiveUp.new.out;
    }) (IsErrOf c.act-in-GiveUp.result Halted)
    (protocol.GiveUp c.in-GiveUp.label) (input_of c.args.input) (sym (ap input_of c.in-GiveUp.is)) c.act-in-GiveUp.ensures.halted

pub returns-in-Frame-clause-done : goal.returns-in-Frame-clause-done
returns-in-Frame-clause-done g c =
    does_as {P = g.row.P.Denot} g.P.Parts (record {
      old = c.args.self.now;
      new = c.frame.new.self;
      file =
          g.D.Disk.file c.args.disk.now;
      left = g.D.Disk.file c.frame.new.disk;
      before = c.args.out.now;
      after = c.frame.new.out;
    }) c.frame.result
    (protocol.Frame c.in-Frame.k c.in-Frame.from (message_of c.as_slice.result.now)) (input_of c.args.input) (ap (λ bytes. protocol.Frame c.in-Frame.k c.in-Frame.from (message_of bytes)) c.as_slice.ensures ∙ sym (ap input_of c.in-Frame.is)) c.frame.ensures.done

pub returns-in-Frame-clause-halted : goal.returns-in-Frame-clause-halted
returns-in-Frame-clause-halted g c =
    stops_as {P =
    g.row.P.Denot} g.P.Parts (record {
      old = c.args.self.now;
      new = c.frame.new.self;
      file = g.D.Disk.file c.args.disk.now;
      left =
          g.D.Disk.file c.frame.new.disk;
      before = c.args.out.now;
      after = c.frame.new.out;
    }) (IsErrOf c.frame.result Halted)
    (protocol.Frame c.in-Frame.k c.in-Frame.from (message_of c.as_slice.result.now)) (input_of c.args.input) (ap (λ bytes. protocol.Frame c.in-Frame.k c.in-Frame.from (message_of bytes)) c.as_slice.ensures ∙ sym (ap input_of c.in-Frame.is)) c.frame.ensures.halted

pub returns-in-Tick-clause-done : goal.returns-in-Tick-clause-done
returns-in-Tick-clause-done g c =
    does_as {P = g.row.P.Denot} g.P.Parts (record {
      old = c.args.self.now;
      new = c.tick.new.self;
      file = g.D.Disk.file c.args.disk.now;
      left =
          g.D.Disk.file c.tick.new.disk;
      before = c.args.out.now;
      after = c.tick.new.out;
    }) c.tick.result
    protocol.Tick (input_of c.args.input) (sym (ap input_of c.in-Tick.is)) c.tick.ensures.done

pub returns-in-Tick-clause-halted : goal.returns-in-Tick-clause-halted
returns-in-Tick-clause-halted g c =
    stops_as {P =
    g.row.P.Denot} g.P.Parts (record {
      old = c.args.self.now;
      new = c.tick.new.self;
      file = g.D.Disk.file c.args.disk.now;
      left =
          g.D.Disk.file c.tick.new.disk;
      before = c.args.out.now;
      after = c.tick.new.out;
    }) (IsErrOf c.tick.result Halted)
    protocol.Tick (input_of c.args.input) (sym (ap input_of c.in-Tick.is)) c.tick.ensures.halted

pub returns-in-Restart-clause-done : goal.returns-in-Restart-clause-done
returns-in-Restart-clause-done g c =
    does_as {P = g.row.P.Denot} g.P.Parts (record {
      old = c.args.self.now;
      new = c.restart.new.self;
      file =
          g.D.Disk.file c.args.disk.now;
      left =
          g.D.Disk.file c.restart.new.disk;
      before = c.args.out.now;
      after = c.restart.new.out;
    }) c.restart.result
    protocol.Restart (input_of c.args.input) (sym (ap input_of c.in-Restart.is)) c.restart.ensures.done

pub returns-in-Restart-clause-halted : goal.returns-in-Restart-clause-halted
returns-in-Restart-clause-halted g c =
    stops_as {P =
    g.row.P.Denot} g.P.Parts (record {
      old = c.args.self.now;
      new = c.restart.new.self;
      file = g.D.Disk.file c.args.disk.now;
      left =
          g.D.Disk.file c.restart.new.disk;
      before = c.args.out.now;
      after = c.restart.new.out;
    }) (IsErrOf c.restart.result Halted)
    protocol.Restart (input_of c.args.input) (sym (ap input_of c.in-Restart.is)) c.restart.ensures.halted

pub returns-in-Crash-clause-done : goal.returns-in-Crash-clause-done
returns-in-Crash-clause-done g c =
    does_as {P = g.row.P.Denot} g.P.Parts (record {
      old = c.args.self.now;
      new = c.crash.new.self;
      file =
          g.D.Disk.file c.args.disk.now;
      left = g.D.Disk.file c.crash.new._disk;
      before = c.args.out.now;
      after = c.crash.new.out;
    }) c.crash.result
    protocol.Crash (input_of c.args.input) (sym (ap input_of c.in-Crash.is)) c.crash.ensures.done

pub returns-in-Crash-clause-halted : goal.returns-in-Crash-clause-halted
returns-in-Crash-clause-halted g c =
    stops_as {P =
    g.row.P.Denot} g.P.Parts (record {
      old = c.args.self.now;
      new = c.crash.new.self;
      file = g.D.Disk.file c.args.disk.now;
      left =
          g.D.Disk.file c.crash.new._disk;
      before = c.args.out.now;
      after = c.crash.new.out;
    }) (IsErrOf c.crash.result Halted)
    protocol.Crash (input_of c.args.input) (sym (ap input_of c.in-Crash.is)) c.crash.ensures.halted

pub returns-in-Show-clause-done : goal.returns-in-Show-clause-done
returns-in-Show-clause-done g c =
    does_as {P = g.row.P.Denot} g.P.Parts (record {
      old = c.args.self.now;
      new = c.show.new.self;
      file = g.D.Disk.file c.args.disk.now;
      left =
          g.D.Disk.file c.show.new.disk;
      before = c.args.out.now;
      after = c.show.new.out;
    }) c.show.result
    (protocol.Show c.in-Show.x) (input_of c.args.input) (sym (ap input_of c.in-Show.is)) c.show.ensures.done

pub returns-in-Show-clause-halted : goal.returns-in-Show-clause-halted
returns-in-Show-clause-halted g c =
    stops_as {P =
    g.row.P.Denot} g.P.Parts (record {
      old = c.args.self.now;
      new = c.show.new.self;
      file = g.D.Disk.file c.args.disk.now;
      left =
          g.D.Disk.file c.show.new.disk;
      before = c.args.out.now;
      after = c.show.new.out;
    }) (IsErrOf c.show.result Halted)
    (protocol.Show c.in-Show.x) (input_of c.args.input) (sym (ap input_of c.in-Show.is)) c.show.ensures.halted
