use Rattle.std.proofs.Common.{◌≡◌, ◌&&◌, ℕ, drop, not}
use Rattle.std.specs.List.{list_any}
use Rattle.std.specs.Ordering.{is_eq, nat_cmp}
use Rattle.arj_lock.specs.Groups.{same}
use Rattle.arj_lock.specs.Index.{stands}
use Rattle.arj_lock.specs.declared.group.Group.{Group}
use Rattle.arj_lock.specs.declared.group.Group.TheVariants.{Below}
use Rattle.arj_lock.proofs.index.take_below.Given as goal

-- with the actions that are left it is what it is with all
abbrev pub invariant-loop-action : goal.invariant-loop-action
invariant-loop-action l = (g : Group) (n : ℕ) →
    (stands l.index g n && not (is_eq (nat_cmp l.grant n) && list_any (λ u. same (Below u) g) (drop l.action-index l.path)))
    ≡ (stands l.fn.index g n && not (is_eq (nat_cmp l.grant n) && list_any (λ u. same (Below u) g) l.path))
