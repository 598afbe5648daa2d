use Rattle.std.proofs.Common.{◌≡◌, drop}
use Rattle.arj_protocol.specs.Confirm.{first_of_each, is_there}
use Rattle.arj_naming.proofs.entries.Entries.listed_store.Given as goal

-- what is left is refused as all are
abbrev pub invariant-loop-mark : goal.invariant-loop-mark
invariant-loop-mark l = first_of_each (is_there l.self) (drop l.mark-index l.included) ≡ first_of_each (is_there l.self) l.included
