use Rattle.std.proofs.Common.{◌≡◌, ◌++◌, drop, map}
use Rattle.arj_intent.specs.Records.{entry_of}
use Rattle.arj_coord.proofs.records.Records.of_found.Given as goal

-- the records so far, and those that are left
abbrev pub invariant-loop-intent : goal.invariant-loop-intent
invariant-loop-intent l = l.by_top.entries ++ map entry_of (drop l.intent-index l.found) ≡ map entry_of l.found
