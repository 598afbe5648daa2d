use Rattle.std.proofs.Common.{arith, map}
use Rattle.arj_intent.specs.Records.{entry_of}
use Rattle.arj_intent.proofs.Done.{one_list}
use Rattle.arj_intent.proofs.Listed.{all_found}
use Rattle.arj_intent.proofs.records.list.Goals as goal

pub returns-clause-found : goal.returns-clause-found
returns-clause-found g c =
    all_found (g.D.Disk.file c.args.disk.now) (g.D.Disk.file c.names.new.self) c.in_ok-names.names c.as_slice-slot-items.result.now c.loop-slot.slot-index (map entry_of c.loop-slot.intents)
    c.names.ensures.files c.in_ok-names.ensures.names c.as_slice-slot-items.ensures (omega arith) c.loop-slot.invariant.found

pub returns-clause-only : goal.returns-clause-only
returns-clause-only g c = one_list (g.D.Disk.file c.args.disk.now) (map entry_of c.loop-slot.intents) (returns-clause-found g c)
