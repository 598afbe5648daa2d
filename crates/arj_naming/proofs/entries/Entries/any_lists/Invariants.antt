use Rattle.std.proofs.Common.{◌≡◌}
use Rattle.arj_naming.specs.ByEntry.{any_lists}
use Rattle.arj_naming.proofs.entries.Entries.any_lists.Given as goal

-- what is left answers the same as the whole
abbrev pub invariant-loop-action : goal.invariant-loop-action
invariant-loop-action l = any_lists l.x l.top l.store l.self.pend l.action-iterator ≡ any_lists l.x l.top l.store l.self.pend l.actions.keys
