use Rattle.std.proofs.Common.{◌≡◌, drop}
use Rattle.arj_protocol.specs.Confirm.{wants_lock}
use Rattle.arj_naming.proofs.entries.Entries.wants_lock.Given as goal

-- what is left answers the same as the whole
abbrev pub invariant-loop-y : goal.invariant-loop-y
invariant-loop-y l = wants_lock l.top (drop l.y-index l.excluded) l.self l.x ≡ wants_lock l.top l.excluded l.self l.x
