use Rattle.std.proofs.Common.{◌≡◌, drop}
use Rattle.arj_protocol.specs.Ending.{keeping_after}
use Rattle.arj_root.specs.Kept.{changed_at}
use Rattle.arj_root.proofs.keepings.Keepings.change_each.Given as goal

-- the rest of the objects changes what is left as all of them change the whole
abbrev pub invariant-loop-x : goal.invariant-loop-x
invariant-loop-x l =
    changed_at (keeping_after l.plan) (drop l.x-index l.objects) l.self ≡ changed_at (keeping_after l.plan) l.objects l.fn.self
