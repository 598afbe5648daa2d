-- A step of a commit that waits for several nodes.
use Rattle.std.specs.Prelude.{ℕ, List}
use Rattle.arj_protocol.specs.Commit.{Plan}

-- the plan, and the nodes that haven't answered
pub record Awaiting : Type 0 where
  pub plan : Plan
  pub left : List ℕ
