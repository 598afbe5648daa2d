use Rattle.std.proofs.Common.{◌≡◌, ◌++◌, map, take}
use Rattle.arj_intent.specs.Records.{entry_of}
use Rattle.arj_protocol.specs.Step.{recovered_records}
use Rattle.arj_recover.specs.Done.{said}
use Rattle.arj_recover.proofs.commits.say_all.Given as goal

-- the records so far are said
abbrev pub invariant-loop-intent : goal.invariant-loop-intent
invariant-loop-intent l = l.out ≡ l.initial.out ++ said (recovered_records l.node (map entry_of (take l.intent-index l.found)))
