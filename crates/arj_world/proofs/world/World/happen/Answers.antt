use Rattle.std.proofs.Common.{◌≡◌, ◌++◌, [], ◌∷◌, refl, subst, sym}
use Rattle.std.specs.Prelude.{not}
use Rattle.std.proofs.lemmas.Result.{on_ok_weaker}
use Rattle.arj_journal.specs.ScriptForm.{EventInForm}
use Rattle.arj_net.specs.Net.{as_lost, changed_at, frame_of}
use Rattle.arj_protocol.specs.Step.{numbers_to}
use Rattle.arj_protocol.specs.Words.{read_message}
use Rattle.arj_protocol.specs.Words.event as events
use Rattle.arj_protocol.specs.World.{deliver, is_known, was_given, is_up_at, lose, numbered, reads_whole, show_all}
use Rattle.arj_world.specs.Disks.{HaveMoved}
use Rattle.arj_world.specs.Goes.{GoesTo}
use Rattle.arj_world.specs.Stands.{hand}
use Rattle.arj_world.specs.Wire.{dropped_line}
use Rattle.arj_world.proofs.Disks.{moved_none, moved_of}
use Rattle.arj_world.proofs.Hands.{goes_lose}
use Rattle.arj_world.proofs.Runs.{accepted_junk, accepted_range, begins_on, goes_headed, goes_numbered, goes_on, on_ok_both, stands_on}
use Rattle.arj_world.specs.Tells.{nobody}
use Rattle.arj_world.proofs.Tells.{lost_line, tells_line, tells_none, tells_of}
use Rattle.arj_world.proofs.world.World.happen.Goals as goal

pub returns-in-Begin-clause-happens : goal.returns-in-Begin-clause-happens
returns-in-Begin-clause-happens g c =
    goes_on g.C.Core g.D.Disk.file c.begin_at.result (events.Begin c.in-Begin.label c.in-Begin.node) c.args.event (hand c.args.self.now c.args.rack.now c.args.journal.now) (hand c.begin_at.new.self c.begin_at.new.rack c.begin_at.new.journal) c.in-Begin.is c.begin_at.ensures.goes

pub returns-in-Serial-clause-happens : goal.returns-in-Serial-clause-happens
returns-in-Serial-clause-happens g c =
    goes_on g.C.Core g.D.Disk.file c.begin_at-in-Serial.result (events.Serial c.in-Serial.label c.in-Serial.node) c.args.event (hand c.args.self.now c.args.rack.now c.args.journal.now) (hand c.begin_at-in-Serial.new.self c.begin_at-in-Serial.new.rack c.begin_at-in-Serial.new.journal) c.in-Serial.is c.begin_at-in-Serial.ensures.goes

pub returns-in-BeginIn-clause-happens : goal.returns-in-BeginIn-clause-happens
returns-in-BeginIn-clause-happens g c =
    goes_on g.C.Core g.D.Disk.file c.begin_in.result (events.BeginIn c.in-BeginIn.label c.in-BeginIn.parent) c.args.event (hand c.args.self.now c.args.rack.now c.args.journal.now) (hand c.begin_in.new.self c.begin_in.new.rack c.begin_in.new.journal) c.in-BeginIn.is c.begin_in.ensures.goes

pub returns-in-Top-clause-happens : goal.returns-in-Top-clause-happens
returns-in-Top-clause-happens g c =
    goes_on g.C.Core g.D.Disk.file c.begin_apart.result (events.Top c.in-Top.label c.in-Top.parent) c.args.event (hand c.args.self.now c.args.rack.now c.args.journal.now) (hand c.begin_apart.new.self c.begin_apart.new.rack c.begin_apart.new.journal) c.in-Top.is c.begin_apart.ensures.goes

pub returns-in-Call-clause-happens : goal.returns-in-Call-clause-happens
returns-in-Call-clause-happens g c =
    goes_on g.C.Core g.D.Disk.file c.ask.result (events.Call c.in-Call.label c.in-Call.x c.in-Call.op) c.args.event (hand c.args.self.now c.args.rack.now c.args.journal.now) (hand c.ask.new.self c.ask.new.rack c.ask.new.journal) c.in-Call.is c.ask.ensures.goes

pub returns-in-Include-clause-happens : goal.returns-in-Include-clause-happens
returns-in-Include-clause-happens g c =
    goes_on g.C.Core g.D.Disk.file c.include.result (events.Include c.in-Include.label c.in-Include.x c.in-Include.node) c.args.event (hand c.args.self.now c.args.rack.now c.args.journal.now) (hand c.include.new.self c.include.new.rack c.include.new.journal) c.in-Include.is c.include.ensures.goes

pub returns-in-Commit-clause-happens : goal.returns-in-Commit-clause-happens
returns-in-Commit-clause-happens g c =
    goes_on g.C.Core g.D.Disk.file c.ask-in-Commit.result (events.Commit c.in-Commit.label) c.args.event (hand c.args.self.now c.args.rack.now c.args.journal.now) (hand c.ask-in-Commit.new.self c.ask-in-Commit.new.rack c.ask-in-Commit.new.journal) c.in-Commit.is c.ask-in-Commit.ensures.goes

pub returns-in-Abort-clause-happens : goal.returns-in-Abort-clause-happens
returns-in-Abort-clause-happens g c =
    goes_on g.C.Core g.D.Disk.file c.ask-in-Abort.result (events.Abort c.in-Abort.label) c.args.event (hand c.args.self.now c.args.rack.now c.args.journal.now) (hand c.ask-in-Abort.new.self c.ask-in-Abort.new.rack c.ask-in-Abort.new.journal) c.in-Abort.is c.ask-in-Abort.ensures.goes

pub returns-in-GiveUp-clause-happens : goal.returns-in-GiveUp-clause-happens
returns-in-GiveUp-clause-happens g c =
    goes_on g.C.Core g.D.Disk.file c.ask-in-GiveUp.result (events.GiveUp c.in-GiveUp.label) c.args.event (hand c.args.self.now c.args.rack.now c.args.journal.now) (hand c.ask-in-GiveUp.new.self c.ask-in-GiveUp.new.rack c.ask-in-GiveUp.new.journal) c.in-GiveUp.is c.ask-in-GiveUp.ensures.goes

pub returns-in-Tick-clause-happens : goal.returns-in-Tick-clause-happens
returns-in-Tick-clause-happens g c =
    goes_on g.C.Core g.D.Disk.file c.ask_node.result (events.Tick c.in-Tick.node) c.args.event (hand c.args.self.now c.args.rack.now c.args.journal.now) (hand c.ask_node.new.self c.ask_node.new.rack c.ask_node.new.journal) c.in-Tick.is c.ask_node.ensures.goes

pub returns-in-Settle-clause-happens : goal.returns-in-Settle-clause-happens
returns-in-Settle-clause-happens g c =
    goes_on g.C.Core g.D.Disk.file c.settle.result events.Settle c.args.event (hand c.args.self.now c.args.rack.now c.args.journal.now) (hand c.settle.new.self c.settle.new.rack c.settle.new.journal) c.in-Settle.is c.settle.ensures.goes

pub returns-in-Quiesce-clause-happens : goal.returns-in-Quiesce-clause-happens
returns-in-Quiesce-clause-happens g c =
    goes_on g.C.Core g.D.Disk.file c.quiesce.result events.Quiesce c.args.event (hand c.args.self.now c.args.rack.now c.args.journal.now) (hand c.quiesce.new.self c.quiesce.new.rack c.quiesce.new.journal) c.in-Quiesce.is c.quiesce.ensures.goes

pub returns-in-Crash-clause-happens : goal.returns-in-Crash-clause-happens
returns-in-Crash-clause-happens g c =
    goes_on g.C.Core g.D.Disk.file c.ask_node-in-Crash.result (events.Crash c.in-Crash.node) c.args.event (hand c.args.self.now c.args.rack.now c.args.journal.now) (hand c.ask_node-in-Crash.new.self c.ask_node-in-Crash.new.rack c.ask_node-in-Crash.new.journal) c.in-Crash.is c.ask_node-in-Crash.ensures.goes

pub returns-in-Restart-clause-happens : goal.returns-in-Restart-clause-happens
returns-in-Restart-clause-happens g c =
    begins_on g.C.Core g.D.Disk.file c.restart.result (events.Restart c.in-Restart.node) c.args.event (hand c.args.self.now c.args.rack.now c.args.journal.now) (hand c.restart.new.self c.restart.new.rack c.restart.new.journal) c.in-Restart.is c.restart.ensures.begins

pub returns-in-Stop-clause-happens : goal.returns-in-Stop-clause-happens
returns-in-Stop-clause-happens g c =
    stands_on g.C.Core g.D.Disk.file c.arm.result (events.Stop c.in-Stop.node c.in-Stop.calls c.in-Stop.kind) c.args.event (hand c.args.self.now c.args.rack.now c.args.journal.now) (hand c.arm.new.self c.arm.new.rack c.arm.new.journal) c.in-Stop.is c.arm.ensures.happens

pub returns-in-Junk-clause-happens : goal.returns-in-Junk-clause-happens
returns-in-Junk-clause-happens g c =
    goes_on g.C.Core g.D.Disk.file c.send_junk.result (events.Junk c.in-Junk.node c.in-Junk.bytes) c.args.event (hand c.args.self.now c.args.rack.now c.args.journal.now) (hand c.send_junk.new.self c.args.rack.now c.send_junk.new.journal) c.in-Junk.is c.send_junk.ensures.goes

pub returns-in-Deliver-clause-happens : goal.returns-in-Deliver-clause-happens
returns-in-Deliver-clause-happens g c =
    let old = hand c.args.self.now c.args.rack.now c.args.journal.now in
    let new = hand c.deliver.new.self c.deliver.new.rack c.deliver.new.journal in
    goes_on g.C.Core g.D.Disk.file c.deliver.result (events.Deliver c.in-Deliver.frame) c.args.event old new c.in-Deliver.is
    (on_ok_weaker c.deliver.result (goes_numbered g.C.Core g.D.Disk.file c.in-Deliver.frame c.frame_number-k.result deliver old new c.frame_number-k.ensures) c.deliver.ensures.goes)

pub returns-in-Lose-clause-happens : goal.returns-in-Lose-clause-happens
returns-in-Lose-clause-happens g c =
    let old = hand c.args.self.now c.args.rack.now c.args.journal.now in
    let new = hand c.lose.new.self c.args.rack.now c.lose.new.journal in
    let k = c.frame_number-k-in-Lose.result in
    goes_on g.C.Core g.D.Disk.file c.lose.result (events.Lose c.in-Lose.frame) c.args.event old new c.in-Lose.is
    (on_ok_weaker c.lose.result
    (λ (both : (c.lose.new.self ≡ record c.args.self.now {
      net =
          changed_at as_lost c.args.self.now.net k;
    }) × (c.lose.new.journal ≡ c.args.journal.now ++ numbered c.args.self.now.event (dropped_line k (frame_of c.args.self.now.net k)))). goes_numbered g.C.Core g.D.Disk.file c.in-Lose.frame k lose old new c.frame_number-k-in-Lose.ensures
    (subst (λ s. GoesTo g.C.Core g.D.Disk.file (lose k) old (hand s c.args.rack.now c.lose.new.journal)) (sym both.0) (goes_lose g.C.Core g.D.Disk.file k old c.lose.new.journal both.1)))
    (on_ok_both (c.lose.new.self ≡ record c.args.self.now {
      net =
          changed_at as_lost c.args.self.now.net k;
    }) (c.lose.new.journal ≡ c.args.journal.now ++ numbered c.args.self.now.event (dropped_line k (frame_of c.args.self.now.net k))) c.lose.result c.lose.ensures.lost c.lose.ensures.said))

pub returns-in-Show-clause-happens : goal.returns-in-Show-clause-happens
returns-in-Show-clause-happens g c =
    let old = hand c.args.self.now c.args.rack.now c.args.journal.now in
    let new = hand c.show_all.new.self c.show_all.new.rack c.show_all.new.journal in
    goes_on g.C.Core g.D.Disk.file c.show_all.result (events.Show c.in-Show.x) c.args.event old new c.in-Show.is
    (on_ok_weaker c.show_all.result (goes_headed g.C.Core g.D.Disk.file (λ hd v. show_all c.in-Show.x (numbers_to hd.nodes) v) old new) c.show_all.ensures.goes)

pub begin_at-requires-clause-least : goal.begin_at-requires-clause-least
begin_at-requires-clause-least g c =
    (accepted_range g.C.Core g.D.Disk.file (events.Begin c.in-Begin.label c.in-Begin.node) c.args.event c.in-Begin.node (λ w. (2, not (is_up_at c.in-Begin.node w)) ∷ (4, is_known c.in-Begin.label w) ∷ []) (hand c.args.self.now c.args.rack.now c.args.journal.now) c.in-Begin.is (λ w. refl) c.requires.accepted c.requires.stands).0

pub begin_at-requires-clause-greatest : goal.begin_at-requires-clause-greatest
begin_at-requires-clause-greatest g c =
    (accepted_range g.C.Core g.D.Disk.file (events.Begin c.in-Begin.label c.in-Begin.node) c.args.event c.in-Begin.node (λ w. (2, not (is_up_at c.in-Begin.node w)) ∷ (4, is_known c.in-Begin.label w) ∷ []) (hand c.args.self.now c.args.rack.now c.args.journal.now) c.in-Begin.is (λ w. refl) c.requires.accepted c.requires.stands).1

pub begin_at-requires-in-Serial-clause-least : goal.begin_at-requires-in-Serial-clause-least
begin_at-requires-in-Serial-clause-least g c =
    (accepted_range g.C.Core g.D.Disk.file (events.Serial c.in-Serial.label c.in-Serial.node) c.args.event c.in-Serial.node (λ w. (2, not (is_up_at c.in-Serial.node w)) ∷ (4, is_known c.in-Serial.label w) ∷ []) (hand c.args.self.now c.args.rack.now c.args.journal.now) c.in-Serial.is (λ w. refl) c.requires.accepted c.requires.stands).0

pub begin_at-requires-in-Serial-clause-greatest : goal.begin_at-requires-in-Serial-clause-greatest
begin_at-requires-in-Serial-clause-greatest g c =
    (accepted_range g.C.Core g.D.Disk.file (events.Serial c.in-Serial.label c.in-Serial.node) c.args.event c.in-Serial.node (λ w. (2, not (is_up_at c.in-Serial.node w)) ∷ (4, is_known c.in-Serial.label w) ∷ []) (hand c.args.self.now c.args.rack.now c.args.journal.now) c.in-Serial.is (λ w. refl) c.requires.accepted c.requires.stands).1

pub include-requires-clause-least : goal.include-requires-clause-least
include-requires-clause-least g c =
    (accepted_range g.C.Core g.D.Disk.file (events.Include c.in-Include.label c.in-Include.x c.in-Include.node) c.args.event c.in-Include.node (λ w. (5, not (is_known c.in-Include.label w)) ∷ (6, was_given c.in-Include.label w) ∷ []) (hand c.args.self.now c.args.rack.now c.args.journal.now) c.in-Include.is (λ w. refl) c.requires.accepted c.requires.stands).0

pub include-requires-clause-greatest : goal.include-requires-clause-greatest
include-requires-clause-greatest g c =
    (accepted_range g.C.Core g.D.Disk.file (events.Include c.in-Include.label c.in-Include.x c.in-Include.node) c.args.event c.in-Include.node (λ w. (5, not (is_known c.in-Include.label w)) ∷ (6, was_given c.in-Include.label w) ∷ []) (hand c.args.self.now c.args.rack.now c.args.journal.now) c.in-Include.is (λ w. refl) c.requires.accepted c.requires.stands).1

pub arm-requires-clause-least : goal.arm-requires-clause-least
arm-requires-clause-least g c =
    (accepted_range g.C.Core g.D.Disk.file (events.Stop c.in-Stop.node c.in-Stop.calls c.in-Stop.kind) c.args.event c.in-Stop.node (λ w. []) (hand c.args.self.now c.args.rack.now c.args.journal.now) c.in-Stop.is (λ w. refl) c.requires.accepted c.requires.stands).0

pub arm-requires-clause-greatest : goal.arm-requires-clause-greatest
arm-requires-clause-greatest g c =
    (accepted_range g.C.Core g.D.Disk.file (events.Stop c.in-Stop.node c.in-Stop.calls c.in-Stop.kind) c.args.event c.in-Stop.node (λ w. []) (hand c.args.self.now c.args.rack.now c.args.journal.now) c.in-Stop.is (λ w. refl) c.requires.accepted c.requires.stands).1

pub send_junk-requires-clause-least : goal.send_junk-requires-clause-least
send_junk-requires-clause-least g c =
    (accepted_range g.C.Core g.D.Disk.file (events.Junk c.in-Junk.node c.in-Junk.bytes) c.args.event c.in-Junk.node (λ w. (18, reads_whole (read_message c.in-Junk.bytes)) ∷ []) (hand c.args.self.now c.args.rack.now c.args.journal.now) c.in-Junk.is (λ w. refl) c.requires.accepted c.requires.stands).0

pub send_junk-requires-clause-greatest : goal.send_junk-requires-clause-greatest
send_junk-requires-clause-greatest g c =
    (accepted_range g.C.Core g.D.Disk.file (events.Junk c.in-Junk.node c.in-Junk.bytes) c.args.event c.in-Junk.node (λ w. (18, reads_whole (read_message c.in-Junk.bytes)) ∷ []) (hand c.args.self.now c.args.rack.now c.args.journal.now) c.in-Junk.is (λ w. refl) c.requires.accepted c.requires.stands).1

pub arm-requires-clause-calls : goal.arm-requires-clause-calls
arm-requires-clause-calls g c = (subst EventInForm c.in-Stop.is c.requires.form).1.0

pub send_junk-requires-clause-junk : goal.send_junk-requires-clause-junk
send_junk-requires-clause-junk g c =
    accepted_junk g.C.Core g.D.Disk.file c.args.event c.in-Junk.node c.in-Junk.bytes (hand c.args.self.now c.args.rack.now c.args.journal.now) c.in-Junk.is c.requires.accepted c.requires.stands

pub returns-in-Begin-clause-disks : goal.returns-in-Begin-clause-disks
returns-in-Begin-clause-disks g c =
    moved_of g.D.Disk c.args.self.now.header.nodes (events.Begin c.in-Begin.label c.in-Begin.node) c.args.event c.args.rack.now c.begin_at.new.rack c.in-Begin.is (λ n. refl) c.begin_at.ensures.disks

pub returns-in-Serial-clause-disks : goal.returns-in-Serial-clause-disks
returns-in-Serial-clause-disks g c =
    moved_of g.D.Disk c.args.self.now.header.nodes (events.Serial c.in-Serial.label c.in-Serial.node) c.args.event c.args.rack.now c.begin_at-in-Serial.new.rack c.in-Serial.is (λ n. refl) c.begin_at-in-Serial.ensures.disks

pub returns-in-BeginIn-clause-disks : goal.returns-in-BeginIn-clause-disks
returns-in-BeginIn-clause-disks g c =
    moved_of g.D.Disk c.args.self.now.header.nodes (events.BeginIn c.in-BeginIn.label c.in-BeginIn.parent) c.args.event c.args.rack.now c.begin_in.new.rack c.in-BeginIn.is (λ n. refl) c.begin_in.ensures.disks

pub returns-in-Top-clause-disks : goal.returns-in-Top-clause-disks
returns-in-Top-clause-disks g c =
    moved_of g.D.Disk c.args.self.now.header.nodes (events.Top c.in-Top.label c.in-Top.parent) c.args.event c.args.rack.now c.begin_apart.new.rack c.in-Top.is (λ n. refl) c.begin_apart.ensures.disks

pub returns-in-Call-clause-disks : goal.returns-in-Call-clause-disks
returns-in-Call-clause-disks g c =
    moved_of g.D.Disk c.args.self.now.header.nodes (events.Call c.in-Call.label c.in-Call.x c.in-Call.op) c.args.event c.args.rack.now c.ask.new.rack c.in-Call.is (λ n. refl) c.ask.ensures.disks

pub returns-in-Include-clause-disks : goal.returns-in-Include-clause-disks
returns-in-Include-clause-disks g c =
    moved_of g.D.Disk c.args.self.now.header.nodes (events.Include c.in-Include.label c.in-Include.x c.in-Include.node) c.args.event c.args.rack.now c.include.new.rack c.in-Include.is (λ n. refl) c.include.ensures.disks

pub returns-in-Commit-clause-disks : goal.returns-in-Commit-clause-disks
returns-in-Commit-clause-disks g c =
    moved_of g.D.Disk c.args.self.now.header.nodes (events.Commit c.in-Commit.label) c.args.event c.args.rack.now c.ask-in-Commit.new.rack c.in-Commit.is (λ n. refl) c.ask-in-Commit.ensures.disks

pub returns-in-Abort-clause-disks : goal.returns-in-Abort-clause-disks
returns-in-Abort-clause-disks g c =
    moved_of g.D.Disk c.args.self.now.header.nodes (events.Abort c.in-Abort.label) c.args.event c.args.rack.now c.ask-in-Abort.new.rack c.in-Abort.is (λ n. refl) c.ask-in-Abort.ensures.disks

pub returns-in-GiveUp-clause-disks : goal.returns-in-GiveUp-clause-disks
returns-in-GiveUp-clause-disks g c =
    moved_of g.D.Disk c.args.self.now.header.nodes (events.GiveUp c.in-GiveUp.label) c.args.event c.args.rack.now c.ask-in-GiveUp.new.rack c.in-GiveUp.is (λ n. refl) c.ask-in-GiveUp.ensures.disks

pub returns-in-Deliver-clause-disks : goal.returns-in-Deliver-clause-disks
returns-in-Deliver-clause-disks g c =
    moved_of g.D.Disk c.args.self.now.header.nodes (events.Deliver c.in-Deliver.frame) c.args.event c.args.rack.now c.deliver.new.rack c.in-Deliver.is (λ n. refl) c.deliver.ensures.disks

pub returns-in-Tick-clause-disks : goal.returns-in-Tick-clause-disks
returns-in-Tick-clause-disks g c =
    moved_of g.D.Disk c.args.self.now.header.nodes (events.Tick c.in-Tick.node) c.args.event c.args.rack.now c.ask_node.new.rack c.in-Tick.is (λ n. refl) c.ask_node.ensures.disks

pub returns-in-Settle-clause-disks : goal.returns-in-Settle-clause-disks
returns-in-Settle-clause-disks g c =
    moved_of g.D.Disk c.args.self.now.header.nodes events.Settle c.args.event c.args.rack.now c.settle.new.rack c.in-Settle.is (λ n. refl) c.settle.ensures.disks

pub returns-in-Quiesce-clause-disks : goal.returns-in-Quiesce-clause-disks
returns-in-Quiesce-clause-disks g c =
    moved_of g.D.Disk c.args.self.now.header.nodes events.Quiesce c.args.event c.args.rack.now c.quiesce.new.rack c.in-Quiesce.is (λ n. refl) c.quiesce.ensures.disks

pub returns-in-Crash-clause-disks : goal.returns-in-Crash-clause-disks
returns-in-Crash-clause-disks g c =
    moved_of g.D.Disk c.args.self.now.header.nodes (events.Crash c.in-Crash.node) c.args.event c.args.rack.now c.ask_node-in-Crash.new.rack c.in-Crash.is (λ n. refl) c.ask_node-in-Crash.ensures.disks

pub returns-in-Restart-clause-disks : goal.returns-in-Restart-clause-disks
returns-in-Restart-clause-disks g c =
    moved_of g.D.Disk c.args.self.now.header.nodes (events.Restart c.in-Restart.node) c.args.event c.args.rack.now c.restart.new.rack c.in-Restart.is (λ n. refl) c.restart.ensures.disks

pub returns-in-Show-clause-disks : goal.returns-in-Show-clause-disks
returns-in-Show-clause-disks g c =
    moved_of g.D.Disk c.args.self.now.header.nodes (events.Show c.in-Show.x) c.args.event c.args.rack.now c.show_all.new.rack c.in-Show.is (λ n. refl) c.show_all.ensures.disks

pub returns-in-Lose-clause-disks : goal.returns-in-Lose-clause-disks
returns-in-Lose-clause-disks g c =
    moved_of g.D.Disk c.args.self.now.header.nodes (events.Lose c.in-Lose.frame) c.args.event c.args.rack.now c.args.rack.now c.in-Lose.is (λ n. refl) (moved_none g.D.Disk c.args.self.now.header.nodes c.args.rack.now)

pub returns-in-Junk-clause-disks : goal.returns-in-Junk-clause-disks
returns-in-Junk-clause-disks g c =
    moved_of g.D.Disk c.args.self.now.header.nodes (events.Junk c.in-Junk.node c.in-Junk.bytes) c.args.event c.args.rack.now c.args.rack.now c.in-Junk.is (λ n. refl) (moved_none g.D.Disk c.args.self.now.header.nodes c.args.rack.now)

pub returns-in-Stop-clause-disks : goal.returns-in-Stop-clause-disks
returns-in-Stop-clause-disks g c =
    subst (λ e. HaveMoved g.D.Disk c.args.self.now.header.nodes (e ∷ []) c.args.rack.now c.arm.new.rack) (sym c.in-Stop.is) c.arm.ensures.disks

pub returns-in-Begin-clause-tells : goal.returns-in-Begin-clause-tells
returns-in-Begin-clause-tells g c =
    tells_of g.D.Disk c.begin_at.result c.args.self.now.header.nodes (events.Begin c.in-Begin.label c.in-Begin.node) c.args.event c.args.rack.now c.begin_at.new.rack c.args.journal.now c.begin_at.new.journal c.in-Begin.is c.begin_at.ensures.tells

pub returns-in-Serial-clause-tells : goal.returns-in-Serial-clause-tells
returns-in-Serial-clause-tells g c =
    tells_of g.D.Disk c.begin_at-in-Serial.result c.args.self.now.header.nodes (events.Serial c.in-Serial.label c.in-Serial.node) c.args.event c.args.rack.now c.begin_at-in-Serial.new.rack c.args.journal.now c.begin_at-in-Serial.new.journal c.in-Serial.is c.begin_at-in-Serial.ensures.tells

pub returns-in-BeginIn-clause-tells : goal.returns-in-BeginIn-clause-tells
returns-in-BeginIn-clause-tells g c =
    tells_of g.D.Disk c.begin_in.result c.args.self.now.header.nodes (events.BeginIn c.in-BeginIn.label c.in-BeginIn.parent) c.args.event c.args.rack.now c.begin_in.new.rack c.args.journal.now c.begin_in.new.journal c.in-BeginIn.is c.begin_in.ensures.tells

pub returns-in-Top-clause-tells : goal.returns-in-Top-clause-tells
returns-in-Top-clause-tells g c =
    tells_of g.D.Disk c.begin_apart.result c.args.self.now.header.nodes (events.Top c.in-Top.label c.in-Top.parent) c.args.event c.args.rack.now c.begin_apart.new.rack c.args.journal.now c.begin_apart.new.journal c.in-Top.is c.begin_apart.ensures.tells

pub returns-in-Call-clause-tells : goal.returns-in-Call-clause-tells
returns-in-Call-clause-tells g c =
    tells_of g.D.Disk c.ask.result c.args.self.now.header.nodes (events.Call c.in-Call.label c.in-Call.x c.in-Call.op) c.args.event c.args.rack.now c.ask.new.rack c.args.journal.now c.ask.new.journal c.in-Call.is c.ask.ensures.tells

pub returns-in-Include-clause-tells : goal.returns-in-Include-clause-tells
returns-in-Include-clause-tells g c =
    tells_of g.D.Disk c.include.result c.args.self.now.header.nodes (events.Include c.in-Include.label c.in-Include.x c.in-Include.node) c.args.event c.args.rack.now c.include.new.rack c.args.journal.now c.include.new.journal c.in-Include.is c.include.ensures.tells

pub returns-in-Commit-clause-tells : goal.returns-in-Commit-clause-tells
returns-in-Commit-clause-tells g c =
    tells_of g.D.Disk c.ask-in-Commit.result c.args.self.now.header.nodes (events.Commit c.in-Commit.label) c.args.event c.args.rack.now c.ask-in-Commit.new.rack c.args.journal.now c.ask-in-Commit.new.journal c.in-Commit.is c.ask-in-Commit.ensures.tells

pub returns-in-Abort-clause-tells : goal.returns-in-Abort-clause-tells
returns-in-Abort-clause-tells g c =
    tells_of g.D.Disk c.ask-in-Abort.result c.args.self.now.header.nodes (events.Abort c.in-Abort.label) c.args.event c.args.rack.now c.ask-in-Abort.new.rack c.args.journal.now c.ask-in-Abort.new.journal c.in-Abort.is c.ask-in-Abort.ensures.tells

pub returns-in-GiveUp-clause-tells : goal.returns-in-GiveUp-clause-tells
returns-in-GiveUp-clause-tells g c =
    tells_of g.D.Disk c.ask-in-GiveUp.result c.args.self.now.header.nodes (events.GiveUp c.in-GiveUp.label) c.args.event c.args.rack.now c.ask-in-GiveUp.new.rack c.args.journal.now c.ask-in-GiveUp.new.journal c.in-GiveUp.is c.ask-in-GiveUp.ensures.tells

pub returns-in-Deliver-clause-tells : goal.returns-in-Deliver-clause-tells
returns-in-Deliver-clause-tells g c =
    tells_of g.D.Disk c.deliver.result c.args.self.now.header.nodes (events.Deliver c.in-Deliver.frame) c.args.event c.args.rack.now c.deliver.new.rack c.args.journal.now c.deliver.new.journal c.in-Deliver.is c.deliver.ensures.tells

pub returns-in-Tick-clause-tells : goal.returns-in-Tick-clause-tells
returns-in-Tick-clause-tells g c =
    tells_of g.D.Disk c.ask_node.result c.args.self.now.header.nodes (events.Tick c.in-Tick.node) c.args.event c.args.rack.now c.ask_node.new.rack c.args.journal.now c.ask_node.new.journal c.in-Tick.is c.ask_node.ensures.tells

pub returns-in-Settle-clause-tells : goal.returns-in-Settle-clause-tells
returns-in-Settle-clause-tells g c =
    tells_of g.D.Disk c.settle.result c.args.self.now.header.nodes events.Settle c.args.event c.args.rack.now c.settle.new.rack c.args.journal.now c.settle.new.journal c.in-Settle.is c.settle.ensures.tells

pub returns-in-Quiesce-clause-tells : goal.returns-in-Quiesce-clause-tells
returns-in-Quiesce-clause-tells g c =
    tells_of g.D.Disk c.quiesce.result c.args.self.now.header.nodes events.Quiesce c.args.event c.args.rack.now c.quiesce.new.rack c.args.journal.now c.quiesce.new.journal c.in-Quiesce.is c.quiesce.ensures.tells

pub returns-in-Crash-clause-tells : goal.returns-in-Crash-clause-tells
returns-in-Crash-clause-tells g c =
    tells_of g.D.Disk c.ask_node-in-Crash.result c.args.self.now.header.nodes (events.Crash c.in-Crash.node) c.args.event c.args.rack.now c.ask_node-in-Crash.new.rack c.args.journal.now c.ask_node-in-Crash.new.journal c.in-Crash.is c.ask_node-in-Crash.ensures.tells

pub returns-in-Restart-clause-tells : goal.returns-in-Restart-clause-tells
returns-in-Restart-clause-tells g c =
    tells_of g.D.Disk c.restart.result c.args.self.now.header.nodes (events.Restart c.in-Restart.node) c.args.event c.args.rack.now c.restart.new.rack c.args.journal.now c.restart.new.journal c.in-Restart.is c.restart.ensures.tells

pub returns-in-Stop-clause-tells : goal.returns-in-Stop-clause-tells
returns-in-Stop-clause-tells g c =
    tells_of g.D.Disk c.arm.result c.args.self.now.header.nodes (events.Stop c.in-Stop.node c.in-Stop.calls c.in-Stop.kind) c.args.event c.args.rack.now c.arm.new.rack c.args.journal.now c.arm.new.journal c.in-Stop.is c.arm.ensures.tells

pub returns-in-Show-clause-tells : goal.returns-in-Show-clause-tells
returns-in-Show-clause-tells g c =
    tells_of g.D.Disk c.show_all.result c.args.self.now.header.nodes (events.Show c.in-Show.x) c.args.event c.args.rack.now c.show_all.new.rack c.args.journal.now c.show_all.new.journal c.in-Show.is c.show_all.ensures.tells

pub returns-in-Junk-clause-tells : goal.returns-in-Junk-clause-tells
returns-in-Junk-clause-tells g c =
    tells_of g.D.Disk c.send_junk.result c.args.self.now.header.nodes (events.Junk c.in-Junk.node c.in-Junk.bytes) c.args.event c.args.rack.now c.args.rack.now c.args.journal.now c.send_junk.new.journal c.in-Junk.is c.send_junk.ensures.tells

pub returns-in-Lose-clause-tells : goal.returns-in-Lose-clause-tells
returns-in-Lose-clause-tells g c =
    let k = c.frame_number-k-in-Lose.result in
    let line = numbered c.args.self.now.event (dropped_line k (frame_of c.args.self.now.net k)) in
    tells_of g.D.Disk c.lose.result c.args.self.now.header.nodes (events.Lose c.in-Lose.frame) c.args.event c.args.rack.now c.args.rack.now c.args.journal.now c.lose.new.journal c.in-Lose.is
    (on_ok_weaker c.lose.result
    (λ (said : c.lose.new.journal ≡ c.args.journal.now ++ line). tells_line g.D.Disk c.args.self.now.header.nodes nobody c.args.rack.now c.args.rack.now c.args.journal.now c.args.journal.now c.lose.new.journal line
    (λ n. lost_line n c.args.self.now.event k (frame_of c.args.self.now.net k)) said (tells_none g.D.Disk c.args.self.now.header.nodes nobody c.args.rack.now c.args.journal.now)) c.lose.ensures.said)
