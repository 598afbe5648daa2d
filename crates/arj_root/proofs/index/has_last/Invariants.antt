use Rattle.std.proofs.Common.{◌≡◌, drop}
use Rattle.std.specs.List.{list_any}
use Rattle.arj_base.specs.Rows.{last_uid}
use Rattle.arj_base.specs.Uid.{uid_eq}
use Rattle.arj_root.proofs.index.has_last.Given as goal

-- what is left answers the same as the whole
abbrev pub invariant-loop-path : goal.invariant-loop-path
invariant-loop-path l =
    list_any (λ p. uid_eq l.action (last_uid p)) (drop l.path-index l.paths) ≡ list_any (λ p. uid_eq l.action (last_uid p)) l.paths
