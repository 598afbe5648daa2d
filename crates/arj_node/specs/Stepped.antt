-- A step of a node that is up, and stays up.
use Rattle.std.specs.Prelude.{◌≡◌, ℕ, List, Some, None}
use Rattle.arj_core.specs.declared.output.Output.{Output}
use Rattle.arj_core.specs.Steps.{PutsOut}
use Rattle.arj_protocol.specs.Effect.{Disk}
use Rattle.arj_protocol.specs.Node.{Here}
use Rattle.arj_protocol.specs.Step.{Node, Step}

-- the node of this number that is up here
abbrev pub up_node : ℕ → Here → Node
up_node n h = record { number = n; disk = h.disk; live = Some h.parts }

-- The step was done: the node is up here, where it stands, and the effects were put out.
pub record Steps (n : ℕ) (on : Here → Type 0) (s : Step) (before after : List Output) : Type 0 where
  pub here : Here
  pub after_is : s.after ≡ up_node n here
  pub stands : on here
  pub puts : PutsOut s.outs before after

-- the node of this number that is down over this disk
abbrev pub down_node : ℕ → Disk → Node
down_node n d = record { number = n; disk = d; live = None }
