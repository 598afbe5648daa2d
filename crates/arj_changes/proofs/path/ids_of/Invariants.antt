-- The numbers so far.
use Rattle.std.proofs.Common.{◌≡◌, take}
use Rattle.arj_changes.specs.Paths.{link_ids}
use Rattle.arj_changes.proofs.path.ids_of.Given as goal

abbrev pub invariant-loop-link : goal.invariant-loop-link
invariant-loop-link l = l.out ≡ link_ids (take l.link-index l.path)
