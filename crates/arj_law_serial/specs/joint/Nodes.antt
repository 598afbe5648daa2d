-- Nodes that are there, in what is seen.
use Rattle.std.specs.Prelude.{◌≡◌, ℕ, Some}
use Rattle.arj_protocol.specs.Step.{Node}
use Rattle.arj_promise.specs.Runs.{Seen}
use Rattle.arj_law_serial.specs.joint.Housed.{AreHoused}

-- each node has its number
abbrev pub HaveNumbers : Seen → Type 0
HaveNumbers M = (k : ℕ) (n : Node) → M.nodes k ≡ Some n → n.number ≡ k

-- and each label that was given is of a node that is there
pub record NodesAreThere (M : Seen) : Type 0 where
  pub numbers : HaveNumbers M
  pub labels : AreHoused M
