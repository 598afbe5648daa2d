-- Those so far.
use Rattle.std.proofs.Common.{◌≡◌, take}
use Rattle.arj_pending.specs.Pends.{unsaid_at}
use Rattle.arj_pending.proofs.pends.besides.Given as goal

abbrev pub invariant-loop-commit : goal.invariant-loop-commit
invariant-loop-commit l = l.more.items ≡ unsaid_at l.node l.at l.got l.prepares.pends.items (take l.commit-index l.commit-items)
