-- What a call of the parts did, as the protocol's node does it.
use Rattle.std.specs.Prelude.{ℕ, Bool, List}
use Rattle.arj_disk.specs.FileMap.{FileMap}
use Rattle.arj_node.specs.Handing.{IsTaken}
use Rattle.arj_node.specs.Outgoing.{IsHalted}
use Rattle.arj_node.specs.declared.outgoing.Outgoing.{Outgoing}
use Rattle.arj_parts.specs.Kept.{Kept, RestsOn, StandsOn}
use Rattle.arj_protocol.specs.Effect.{Effect}
use Rattle.arj_protocol.specs.Node.{Handled, Here}
use Rattle.arj_store.specs.declared.store.ObjectStore.{Ghosts}

-- a call of the parts: they, the files of the disk, and what is handed back, before it and after it
pub record Call (O : Type 0) : Type 0 where
  pub old : Kept O
  pub new : Kept O
  pub file : FileMap
  pub left : FileMap
  pub before : List Outgoing
  pub after : List Outgoing

-- the parts stand on these files, whatever these say
abbrev pub StandsSome : {O : Type 0} → Ghosts O → Kept O → FileMap → Type 0
StandsSome o p file = (n : ℕ) × (h : Here) × StandsOn o n p file h

-- A message was taken, or was void, as the protocol's node has it, whatever the node is.
abbrev pub Takes : {O : Type 0} → Ghosts O → (ℕ → Here → Handled) → Call O → Bool → Type 0
Takes o handled call took =
    (n : ℕ) (h : Here) → StandsOn o n call.old call.file h →
    IsTaken (StandsOn o n call.new call.left) h (handled n h) call.before call.after took

-- A stop of the disk cut these effects.
abbrev pub Halts : {O : Type 0} → Ghosts O → (ℕ → Here → List Effect) → Call O → Type 0
Halts o effects call =
    (n : ℕ) (h : Here) → StandsOn o n call.old call.file h → IsHalted (RestsOn o n call.left) (effects n h) h.disk call.before call.after
