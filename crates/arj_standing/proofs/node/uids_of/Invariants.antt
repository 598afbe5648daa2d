use Rattle.std.proofs.Common.{◌≡◌, take, map}
use Rattle.arj_standing.proofs.node.uids_of.Given as goal

abbrev pub invariant-loop-link : goal.invariant-loop-link
invariant-loop-link l = l.uids ≡ map (λ k. k.uid) (take l.link-index l.path)
