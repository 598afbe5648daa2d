use Rattle.std.proofs.Common.{◌≡◌, ◌++◌, drop}
use Rattle.arj_protocol.specs.Confirm.{wanted}
use Rattle.arj_naming.proofs.entries.Entries.wanted.Given as goal

-- the objects so far, and those that are left
abbrev pub invariant-loop-x : goal.invariant-loop-x
invariant-loop-x l = l.xs.items ++ wanted l.top (drop l.x-index l.grants) l.excluded l.self ≡ wanted l.top l.grants l.excluded l.self
