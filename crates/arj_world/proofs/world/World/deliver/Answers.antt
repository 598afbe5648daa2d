use Rattle.std.proofs.Common.{◌≡◌, ◌∙◌, [], Some, sym, subst}
use Rattle.std.specs.Prelude.{OnOk}
use Rattle.std.proofs.lemmas.Result.{on_ok_weaker}
use Rattle.arj_core.specs.Steps.{message_of}
use Rattle.arj_net.specs.Net.{frame_of}
use Rattle.arj_protocol.specs.Step as input
use Rattle.arj_protocol.specs.World.{deliver, steps}
use Rattle.arj_world.specs.Disks.{HaveMoved}
use Rattle.arj_world.specs.Goes.{GoesTo}
use Rattle.arj_world.specs.Stands.{StandsSome, hand}
use Rattle.arj_world.specs.Tells.{TellsStops, nobody}
use Rattle.arj_world.proofs.Hands.{goes_deliver, goes_mark, goes_some, next}
use Rattle.arj_world.proofs.world.World.deliver.Goals as goal

pub ask_node-requires-clause-stands : goal.ask_node-requires-clause-stands
ask_node-requires-clause-stands g c =
    let old = hand c.args.self.now c.args.rack.now c.args.journal.now in
    let f = c.in-Some.frame in
    let is : frame_of c.args.self.now.net c.args.k ≡ Some f = sym c.in_ok-frame.ensures.frame ∙ c.in-Some.is in
    subst (λ s. StandsSome g.C.Core g.D.Disk.file (hand s c.args.rack.now c.args.journal.now)) (sym c.in_ok-frame.ensures.marked)
    (goes_some g.C.Core g.D.Disk.file (deliver c.args.k) (steps f.to (input.Frame c.args.k f.from (message_of f.bytes))) old (next g.C.Core g.D.Disk.file c.args.k f old is) (goes_mark g.C.Core g.D.Disk.file c.args.k f old is) c.requires.stands)

pub returns-clause-goes : goal.returns-clause-goes
returns-clause-goes g c =
    let old = hand c.args.self.now c.args.rack.now c.args.journal.now in
    let new = hand c.ask_node.new.self c.ask_node.new.rack c.ask_node.new.journal in
    let f = c.in-Some.frame in
    let is : frame_of c.args.self.now.net c.args.k ≡ Some f = sym c.in_ok-frame.ensures.frame ∙ c.in-Some.is in
    on_ok_weaker c.ask_node.result
    (λ goes. goes_deliver g.C.Core g.D.Disk.file c.args.k f old is new
    (subst (λ m. GoesTo g.C.Core g.D.Disk.file (steps m (input.Frame c.args.k f.from (message_of f.bytes))) (next g.C.Core g.D.Disk.file c.args.k f old is) new) c.from.ensures
    (subst (λ s. GoesTo g.C.Core g.D.Disk.file (steps c.from.result (input.Frame c.args.k f.from (message_of f.bytes))) (hand s c.args.rack.now c.args.journal.now) new) c.in_ok-frame.ensures.marked goes)))
    c.ask_node.ensures.goes

pub returns-clause-disks : goal.returns-clause-disks
returns-clause-disks g c =
    subst (λ h. HaveMoved g.D.Disk h.nodes [] c.args.rack.now c.ask_node.new.rack) c.in_ok-frame.ensures.header c.ask_node.ensures.disks

pub returns-clause-tells : goal.returns-clause-tells
returns-clause-tells g c =
    subst (λ h. OnOk c.ask_node.result (TellsStops g.D.Disk h.nodes nobody c.args.rack.now c.ask_node.new.rack c.args.journal.now c.ask_node.new.journal)) c.in_ok-frame.ensures.header c.ask_node.ensures.tells
