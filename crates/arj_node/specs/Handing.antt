-- What parts did with a message, or at an input.
use Rattle.std.specs.Prelude.{◌≡◌, Bool, true, false, List, []}
use Rattle.arj_node.specs.Outgoing.{Tells, loud}
use Rattle.arj_node.specs.Ran.{disk_after}
use Rattle.arj_node.specs.declared.outgoing.Outgoing.{Outgoing}
use Rattle.arj_protocol.specs.Effect.{Disk, Effect}
use Rattle.arj_protocol.specs.Node.{Handled, Void, Took, Here, Parts}

-- The parts became these and did these effects: their work is done on the disk, and the others are handed back.
pub record Does (on : Here → Type 0) (t : Parts) (es : List Effect) (d : Disk) (before after : List Outgoing) : Type 0 where
  pub stands : on (record { disk = disk_after es d; parts = t })
  pub tells : Tells es before after

-- a message was taken
pub record Takes (on : Here → Type 0) (h : Here) (handled : Handled) (before after : List Outgoing) : Type 0 where
  pub parts : Parts
  pub effects : List Effect
  pub is : handled ≡ Took parts effects
  pub does : Does on parts effects h.disk before after

-- a message was void: the disk was read at most
pub record Leaves (on : Here → Type 0) (h : Here) (handled : Handled) (before after : List Outgoing) : Type 0 where
  pub looks : List Effect
  pub is : handled ≡ Void looks
  pub quiet : loud looks ≡ []
  pub same : disk_after looks h.disk ≡ h.disk
  pub stands : on h
  pub outs : after ≡ before

-- a message was taken, or was void
abbrev pub IsTaken : (Here → Type 0) → Here → Handled → List Outgoing → List Outgoing → Bool → Type 0
IsTaken on h handled before after true = Takes on h handled before after
IsTaken on h handled before after false = Leaves on h handled before after

-- what handling a message put out, void or not
abbrev pub outs_of : Handled → List Effect
outs_of (Void outs) = outs
outs_of (Took t outs) = outs
