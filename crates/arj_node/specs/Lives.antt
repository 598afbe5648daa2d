-- A core as a node of the protocol.
use Rattle.std.specs.Prelude.{◌≡◌, ℕ, List, Option, Some, None}
use Rattle.arj_core.specs.declared.output.Output.{Output}
use Rattle.arj_core.specs.Steps.{Did, WasCut}
use Rattle.arj_disk.specs.FileMap.{FileMap}
use Rattle.arj_node.specs.Roster.{IsOf}
use Rattle.arj_node.specs.Stepped.{down_node, up_node}
use Rattle.arj_node.specs.declared.node.NodeCore.{NodeCore}
use Rattle.arj_node.specs.declared.parts.Parts.{Ghosts}
use Rattle.arj_protocol.specs.Effect.{Disk}
use Rattle.arj_protocol.specs.Node.{Here}
use Rattle.arj_protocol.specs.Step.{Input, Node, step}
use Rattle.arj_protocol.specs.Words.{Header}

-- with parts the node is up, where they stand; without parts it is down
abbrev pub IsLive : {P : Type 0} → Ghosts P → Header → ℕ → Option P → FileMap → Node → Type 0
IsLive g header k None file n = (d : Disk) × (n ≡ down_node k d) × g.rests header k file d
IsLive g header k (Some parts) file n = (h : Here) × (n ≡ up_node k h) × g.stands header k parts file h

-- With these files the core is this node.
pub record IsNode {P : Type 0} (g : Ghosts P) (header : Header) (core : NodeCore P) (file : FileMap) (n : Node) : Type 0 where
  pub roster : IsOf header core.roster
  pub live : IsLive g header core.number core.parts file n

-- it is some node of some run
abbrev pub IsSomeNode : {P : Type 0} → Ghosts P → NodeCore P → FileMap → Type 0
IsSomeNode g core file = (header : Header) × (n : Node) × IsNode g header core file n

-- a core, the files of its disk and what was put out, before a call and after it
pub record Turn (P : Type 0) : Type 0 where
  pub old : NodeCore P
  pub new : NodeCore P
  pub file : FileMap
  pub left : FileMap
  pub before : List Output
  pub after : List Output

-- whatever node it was, it did the step of this input
abbrev pub DoesStep : {P : Type 0} → Ghosts P → Turn P → Input → Type 0
DoesStep g t input =
    (header : Header) (n : Node) → IsNode g header t.old t.file n → Did (IsNode g header t.new t.left) (step header n input) t.before t.after

-- a stop cut the step
abbrev pub StopsStep : {P : Type 0} → Ghosts P → Turn P → Input → Type 0
StopsStep g t input =
    (header : Header) (n : Node) → IsNode g header t.old t.file n →
    WasCut (IsNode g header t.new t.left) n (step header n input) t.before t.after
