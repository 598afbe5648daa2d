use Rattle.std.proofs.Common.{◌≡◌, ◌∙◌, ◌++◌, ℕ, List, ap}
use Rattle.std.proofs.lemmas.Result.{on_ok_weaker}
use Rattle.arj_world.specs.Stands.{hand}
use Rattle.arj_world.proofs.Disks.{moved_on}
use Rattle.arj_world.proofs.Hands.{quiesces, quiet_goes}
use Rattle.arj_journal.specs.declared.body.Line.{Line}
use Rattle.arj_world.specs.Tells.{halts, nobody}
use Rattle.arj_world.proofs.Tells.{tells_line, tells_then}
use Rattle.arj_world.proofs.world.World.quiesce.Goals as goal

pub returns-clause-goes : goal.returns-clause-goes
returns-clause-goes g c =
    let fourth = hand c.settle-2.new.self c.settle-2.new.rack c.settle-2.new.journal in
    on_ok_weaker c.say_quiet.result
    (λ line. quiesces g.C.Core g.D.Disk.file (hand c.args.self.now c.args.rack.now c.args.journal.now) (hand c.settle.new.self c.settle.new.rack c.settle.new.journal) (hand c.tick_all.new.self c.tick_all.new.rack c.tick_all.new.journal)
    fourth (hand c.settle-2.new.self c.settle-2.new.rack c.say_quiet.new.journal)
    c.in_ok-settle.ensures.goes c.in_ok-tick_all.ensures.goes c.in_ok-settle-2.ensures.goes line c.in_ok-settle.ensures.header c.in_ok-tick_all.ensures.header c.in_ok-settle-2.ensures.header)
    (quiet_goes g.C.Core g.D.Disk.file fourth c.say_quiet.result c.say_quiet.new.journal c.say_quiet.ensures.full c.say_quiet.ensures.said)

pub returns-in_err-tick_all-clause-disks : goal.returns-in_err-tick_all-clause-disks
returns-in_err-tick_all-clause-disks g c =
    moved_on g.D.Disk c.args.self.now.header.nodes c.settle.new.self.header.nodes c.args.rack.now c.settle.new.rack c.tick_all.new.rack (ap (λ h. h.nodes) c.in_ok-settle.ensures.header) c.settle.ensures.disks c.tick_all.ensures.disks

pub returns-in_err-settle-2-clause-disks : goal.returns-in_err-settle-2-clause-disks
returns-in_err-settle-2-clause-disks g c =
    moved_on g.D.Disk c.args.self.now.header.nodes c.tick_all.new.self.header.nodes c.args.rack.now c.tick_all.new.rack c.settle-2.new.rack (ap (λ h. h.nodes) (c.in_ok-tick_all.ensures.header ∙ c.in_ok-settle.ensures.header))
    (moved_on g.D.Disk c.args.self.now.header.nodes c.settle.new.self.header.nodes c.args.rack.now c.settle.new.rack c.tick_all.new.rack (ap (λ h. h.nodes) c.in_ok-settle.ensures.header) c.settle.ensures.disks c.tick_all.ensures.disks) c.settle-2.ensures.disks

pub returns-clause-disks : goal.returns-clause-disks
returns-clause-disks g c =
    moved_on g.D.Disk c.args.self.now.header.nodes c.tick_all.new.self.header.nodes c.args.rack.now c.tick_all.new.rack c.settle-2.new.rack (ap (λ h. h.nodes) (c.in_ok-tick_all.ensures.header ∙ c.in_ok-settle.ensures.header))
    (moved_on g.D.Disk c.args.self.now.header.nodes c.settle.new.self.header.nodes c.args.rack.now c.settle.new.rack c.tick_all.new.rack (ap (λ h. h.nodes) c.in_ok-settle.ensures.header) c.settle.ensures.disks c.tick_all.ensures.disks) c.settle-2.ensures.disks

pub returns-clause-tells : goal.returns-clause-tells
returns-clause-tells g c =
    on_ok_weaker c.say_quiet.result
    (λ (more : (added : List Line) × (c.say_quiet.new.journal ≡ c.settle-2.new.journal ++ added) × ((n : ℕ) → halts n added ≡ 0)).
    tells_line g.D.Disk c.args.self.now.header.nodes nobody c.args.rack.now c.settle-2.new.rack c.args.journal.now c.settle-2.new.journal c.say_quiet.new.journal more.0 more.2 more.1
    (tells_then g.D.Disk c.args.self.now.header.nodes c.tick_all.new.self.header.nodes c.args.rack.now c.tick_all.new.rack c.settle-2.new.rack c.args.journal.now c.tick_all.new.journal c.settle-2.new.journal (ap (λ h. h.nodes) (c.in_ok-tick_all.ensures.header ∙ c.in_ok-settle.ensures.header))
    (tells_then g.D.Disk c.args.self.now.header.nodes c.settle.new.self.header.nodes c.args.rack.now c.settle.new.rack c.tick_all.new.rack c.args.journal.now c.settle.new.journal c.tick_all.new.journal (ap (λ h. h.nodes) c.in_ok-settle.ensures.header) c.in_ok-settle.ensures.tells c.in_ok-tick_all.ensures.tells) c.in_ok-settle-2.ensures.tells))
    c.say_quiet.ensures.added
