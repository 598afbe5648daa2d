use Rattle.std.proofs.Common.{refl}
use Rattle.arj_core.specs.declared.node.CoreFault.TheVariants.{Halted}
use Rattle.arj_world.proofs.Disks.{unstopped_call}
use Rattle.arj_world.proofs.format.format_node.Goals as goal

pub returns-in-Ok-clause-formatted : goal.returns-in-Ok-clause-formatted
returns-in-Ok-clause-formatted g c =
    record { was = c.disk.result.now; disk = c.format.new.disk; there = c.disk.ensures.value; are = refl; stands = c.in-Ok.ensures.stands }

pub returns-in-Ok-clause-unstopped : goal.returns-in-Ok-clause-unstopped
returns-in-Ok-clause-unstopped g c _ =
    unstopped_call g.D.Disk c.args.node c.args.rack.now c.disk.result.now c.format.new.disk c.format.result Halted c.requires.least c.disk.ensures.value c.format.ensures.counts (λ e. cc (e, c.in-Ok.is))

pub returns-in-Err-Halted-clause-unstopped : goal.returns-in-Err-Halted-clause-unstopped
returns-in-Err-Halted-clause-unstopped g c none = absurd (none refl)

pub returns-in-Err-Memory-clause-unstopped : goal.returns-in-Err-Memory-clause-unstopped
returns-in-Err-Memory-clause-unstopped g c _ =
    unstopped_call g.D.Disk c.args.node c.args.rack.now c.disk.result.now c.format.new.disk c.format.result Halted c.requires.least c.disk.ensures.value c.format.ensures.counts (λ e. cc (e, c.in-Err-Memory.is, c.in-Err-Memory.field-0-is))
