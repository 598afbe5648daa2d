-- A node alone with its disk is some node of some run.
use Rattle.arj_core.specs.declared.node.Core.{Ghosts}
use Rattle.arj_disk.specs.FileMap.{FileMap}
use Rattle.arj_protocol.specs.Step.{Node}
use Rattle.arj_protocol.specs.Words.{Header}

-- with these files of its disk the core is a node of the protocol
abbrev pub StandsSome : {C : Type 0} → Ghosts C → C → FileMap → Type 0
StandsSome g core file = (header : Header) × (n : Node) × g.stands header core file n
