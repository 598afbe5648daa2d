-- Whose actions the decisions of a journal are: each began before, is told apart from others by its number, and has its node.
use Rattle.std.specs.Prelude.{◌≡◌, ◌≤◌, true, List, ◌∷◌, ◌++◌, Some, Contains}
use Rattle.arj_model.specs.Actions.{Act, acts}
use Rattle.arj_protocol.specs.Step.{Node}
use Rattle.arj_protocol.specs.Tree.{at_place}
use Rattle.arj_protocol.specs.World.{World}

-- the action's node is there, and its incarnation is none after the one on that node's disk
pub record IsOfNode (w : World) (a : Act) : Type 0 where
  pub node : Node
  pub there : at_place a.uid.node w.nodes ≡ Some node
  pub present : a.uid.inc ≤ (let d = node.disk in d.inc)

-- so it is of each action that began
abbrev pub HaveNodes : World → Type 0
HaveNodes w = (a : Act) → Contains (acts w.lines) a → IsOfNode w a
