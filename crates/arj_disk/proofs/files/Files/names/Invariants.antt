use Rattle.std.proofs.Common.{◌≡◌, ◌++◌}
use Rattle.std.specs.BTreeMap.{keys}
use Rattle.arj_disk.proofs.files.Files.names.Given as goal

-- the names so far, and those that are left
abbrev pub invariant-loop-slot : goal.invariant-loop-slot
invariant-loop-slot l = l.names ++ l.slot-iterator ≡ keys l.self.map
