use Rattle.std.proofs.Common.{◌≡◌, true, subst}
use Rattle.std.specs.List.{AllByRecursion}
use Rattle.arj_base.specs.State.{StateInForm}
use Rattle.arj_msg.specs.Sendable.{IsSendable}
use Rattle.arj_protocol.specs.Node.{asked_is_meant}
use Rattle.arj_protocol.specs.Words.{Message, asks}
use Rattle.arj_serve.proofs.Roles.{left_as_was}
use Rattle.arj_serve.proofs.Owed.{single, states_are}
use Rattle.arj_serve.proofs.services.Services.serve.Goals as goal

pub prepare-requires-clause-states : goal.prepare-requires-clause-states
prepare-requires-clause-states g c =
    let meant = subst (λ (x : Message). asked_is_meant c.args.self.now.server (asks x) ≡ true) c.in-Prepare.is c.requires.meant in
    let sends = subst IsSendable c.in-Prepare.is c.requires.sends in
    states_are c.in-Prepare.m.states meant sends.1 (subst (AllByRecursion StateInForm) c.as_slice.ensures c.states_fit.ensures)

pub confirm-requires-clause-single : goal.confirm-requires-clause-single
confirm-requires-clause-single g c =
    single c.in-Confirm.m (subst (λ (x : Message). asked_is_meant c.args.self.now.server (asks x) ≡ true) c.in-Confirm.is c.requires.meant) (subst IsSendable c.in-Confirm.is c.requires.sends)

pub returns-in_ok-bind-in-Bind-clause-done : goal.returns-in_ok-bind-in-Bind-clause-done
returns-in_ok-bind-in-Bind-clause-done g c = rw c.in-Bind.is (c.in_ok-bind-in-Bind.ensures (g.D.Disk.file c.args.disk.now))

pub returns-in_ok-activate-in-Activate-clause-done : goal.returns-in_ok-activate-in-Activate-clause-done
returns-in_ok-activate-in-Activate-clause-done g c =
    rw c.in-Activate.is (c.in_ok-activate-in-Activate.ensures (g.D.Disk.file c.args.disk.now))

pub returns-in_ok-note-in-RecordMsg-clause-done : goal.returns-in_ok-note-in-RecordMsg-clause-done
returns-in_ok-note-in-RecordMsg-clause-done g c = rw c.in-RecordMsg.is (c.in_ok-note-in-RecordMsg.ensures (g.D.Disk.file c.args.disk.now))

pub returns-in_ok-invoke-in-Invoke-clause-done : goal.returns-in_ok-invoke-in-Invoke-clause-done
returns-in_ok-invoke-in-Invoke-clause-done g c = rw c.in-Invoke.is (c.in_ok-invoke-in-Invoke.ensures (g.D.Disk.file c.args.disk.now))

pub returns-in_ok-vote-in-Vote-clause-done : goal.returns-in_ok-vote-in-Vote-clause-done
returns-in_ok-vote-in-Vote-clause-done g c = rw c.in-Vote.is (c.in_ok-vote-in-Vote.ensures (g.D.Disk.file c.args.disk.now))

pub returns-in_ok-bind-in-Bind-clause-leaves : goal.returns-in_ok-bind-in-Bind-clause-leaves
returns-in_ok-bind-in-Bind-clause-leaves g c = left_as_was g.O.ObjectStore c.args.self.now (g.D.Disk.file c.args.disk.now) c.requires.stands

pub returns-in_err-bind-in-Bind-clause-leaves : goal.returns-in_err-bind-in-Bind-clause-leaves
returns-in_err-bind-in-Bind-clause-leaves g c =
    left_as_was g.O.ObjectStore c.args.self.now (g.D.Disk.file c.args.disk.now) c.requires.stands

pub returns-in_ok-activate-in-Activate-clause-leaves : goal.returns-in_ok-activate-in-Activate-clause-leaves
returns-in_ok-activate-in-Activate-clause-leaves g c =
    left_as_was g.O.ObjectStore c.args.self.now (g.D.Disk.file c.args.disk.now) c.requires.stands

pub returns-in_err-activate-in-Activate-clause-leaves : goal.returns-in_err-activate-in-Activate-clause-leaves
returns-in_err-activate-in-Activate-clause-leaves g c =
    left_as_was g.O.ObjectStore c.args.self.now (g.D.Disk.file c.args.disk.now) c.requires.stands

pub returns-in_ok-note-in-RecordMsg-clause-leaves : goal.returns-in_ok-note-in-RecordMsg-clause-leaves
returns-in_ok-note-in-RecordMsg-clause-leaves g c =
    left_as_was g.O.ObjectStore c.args.self.now (g.D.Disk.file c.args.disk.now) c.requires.stands

pub returns-in_err-note-in-RecordMsg-clause-leaves : goal.returns-in_err-note-in-RecordMsg-clause-leaves
returns-in_err-note-in-RecordMsg-clause-leaves g c =
    left_as_was g.O.ObjectStore c.args.self.now (g.D.Disk.file c.args.disk.now) c.requires.stands

pub returns-in_ok-invoke-in-Invoke-clause-leaves : goal.returns-in_ok-invoke-in-Invoke-clause-leaves
returns-in_ok-invoke-in-Invoke-clause-leaves g c =
    left_as_was g.O.ObjectStore c.args.self.now (g.D.Disk.file c.args.disk.now) c.requires.stands

pub returns-in_err-invoke-in-Invoke-clause-leaves : goal.returns-in_err-invoke-in-Invoke-clause-leaves
returns-in_err-invoke-in-Invoke-clause-leaves g c =
    left_as_was g.O.ObjectStore c.args.self.now (g.D.Disk.file c.args.disk.now) c.requires.stands

pub returns-in_ok-vote-in-Vote-clause-leaves : goal.returns-in_ok-vote-in-Vote-clause-leaves
returns-in_ok-vote-in-Vote-clause-leaves g c = left_as_was g.O.ObjectStore c.args.self.now (g.D.Disk.file c.args.disk.now) c.requires.stands

pub returns-in_err-vote-in-Vote-clause-leaves : goal.returns-in_err-vote-in-Vote-clause-leaves
returns-in_err-vote-in-Vote-clause-leaves g c =
    left_as_was g.O.ObjectStore c.args.self.now (g.D.Disk.file c.args.disk.now) c.requires.stands

pub returns-in-Load-clause-done : goal.returns-in-Load-clause-done
returns-in-Load-clause-done g c = rw c.in-Load.is c.load.ensures.done

pub returns-in-Load-clause-stopped : goal.returns-in-Load-clause-stopped
returns-in-Load-clause-stopped g c = rw c.in-Load.is c.load.ensures.stopped

pub returns-in-Prepare-clause-done : goal.returns-in-Prepare-clause-done
returns-in-Prepare-clause-done g c = rw c.in-Prepare.is c.prepare.ensures.done

pub returns-in-Prepare-clause-stopped : goal.returns-in-Prepare-clause-stopped
returns-in-Prepare-clause-stopped g c = rw c.in-Prepare.is c.prepare.ensures.stopped

pub returns-in-Confirm-clause-done : goal.returns-in-Confirm-clause-done
returns-in-Confirm-clause-done g c = rw c.in-Confirm.is c.confirm.ensures.done

pub returns-in-Confirm-clause-stopped : goal.returns-in-Confirm-clause-stopped
returns-in-Confirm-clause-stopped g c = rw c.in-Confirm.is c.confirm.ensures.stopped
