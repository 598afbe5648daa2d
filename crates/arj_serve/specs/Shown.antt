-- What is said of an object, with the reads of the disk.
use Rattle.std.specs.Prelude.{◌≡◌, List, ◌++◌}
use Rattle.arj_naming.specs.Said.{said}
use Rattle.arj_protocol.specs.Effect.{Disk, Effect}
use Rattle.arj_serve.specs.Did.{AreLocal, Call, IsCut, disk_after}
use Rattle.arj_serve.specs.Kept.{StandsOn}
use Rattle.arj_store.specs.declared.store.ObjectStore.{Ghosts}

-- These effects were done: their lines stand behind those before, and the disk is as it was.
pub record IsShown {O : Type 0} (o : Ghosts O) (outs : List Effect) (call : Call O) (d : Disk) : Type 0 where
  pub local : AreLocal outs
  pub quiet : disk_after outs d ≡ d
  pub lines : call.after ≡ call.before ++ said outs
  pub stands : StandsOn o call.new call.left d

-- by what the disk says
abbrev pub Shows : {O : Type 0} → Ghosts O → (Disk → List Effect) → Call O → Type 0
Shows o outs call = (d : Disk) → StandsOn o call.old call.file d → IsShown o (outs d) call d

-- a stop fell into them
abbrev pub ShowsInPart : {O : Type 0} → Ghosts O → (Disk → List Effect) → Call O → Type 0
ShowsInPart o outs call = (d : Disk) → StandsOn o call.old call.file d → IsCut o (outs d) call d
