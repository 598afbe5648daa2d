-- What is said of a script's run before anything is written.
use Rattle.std.specs.Prelude.{◌≡◌, ◌≢◌, ◌⊎◌, ℕ, List, Option, Result, Ok, Err}
use Rattle.arj_disk.specs.declared.disk.Disk as disk
use Rattle.arj_image.specs.declared.image.Image.{Image}
use Rattle.arj_journal.specs.declared.header.Header.{Header}
use Rattle.arj_loop.specs.Input.{Arrived}
use Rattle.arj_loop.specs.Running.{Held}
use Rattle.arj_loop.specs.declared.ending.BadLine.{BadLine}
use Rattle.arj_loop.specs.declared.machine.Machine.{Ghosts}
use Rattle.arj_saving.specs.Gathered.{HaveBeenRead}
use Rattle.arj_saving.specs.Saved.{HasImage, IsCutOff, RanScript, Says, SaysImage, SaysLimit, SaysSaved, StopsAtFiles, StopsAtFormat, StopsSoFar, WantsMemory}
use Rattle.arj_saving.specs.Stops.{Moment}
use Rattle.arj_saving.specs.declared.imaging.Silence.{Silence}
use Rattle.arj_saving.specs.declared.imaging.Silence.TheVariants as silence
use Rattle.arj_saving.specs.declared.imaging.Way.{Way}
use Rattle.arj_saving.specs.declared.imaging.Way.TheVariants as way
use Rattle.arj_saving.specs.declared.saving.Said.{Said}
use Rattle.arj_world.specs.Disks.{HasStopped}

-- what is done behind a run with this status
abbrev pub LeadsTo : ℕ → Way → Type 0
LeadsTo n way.Save = n ≡ 0
LeadsTo n way.Last = (n ≡ 2) ⊎ (n ≡ 6)
LeadsTo n (way.Stop silence.Read) = n ≡ 3
LeadsTo n (way.Stop silence.Disk) = n ≡ 7
LeadsTo n (way.Stop silence.Memory) = (n ≢ 0) × (n ≢ 2) × (n ≢ 3) × (n ≢ 6) × (n ≢ 7)

-- the whole of some script was run
abbrev pub HasScript : {D M : Type 0} → Ghosts M D → Moment D M → Type 0
HasScript {D} m now = (given : Arrived) × (first : List D) × RanScript m given first now

-- ---- the files of stopped nodes

-- nodes under this header are stopped, and this is said of their image
pub record SaysFiles {D M : Type 0} (m : Ghosts M D) (d : disk.Ghosts D) (header : Header) (then : Moment D M) (now : Held D M) (said : Said) : Type 0 where
  pub image : Image
  pub has : HasImage m d header then now.rack image
  pub says : SaysImage image now.journal said.text said.status

-- what is said of their files, or why nothing is
abbrev pub FilesAre : {D M : Type 0} → Ghosts M D → disk.Ghosts D → Header → Moment D M → Held D M → Result Said Silence → Type 0
FilesAre m d header then now (Ok said) = SaysFiles m d header then now said
FilesAre m d header then now (Err silence.Read) = ⊥
FilesAre m d header then now (Err silence.Disk) = HaveBeenRead d header.nodes then.rack now.rack × HasStopped d then.rack now.rack × (now.journal ≡ then.journal)
FilesAre m d header then now (Err silence.Memory) = HaveBeenRead d header.nodes then.rack now.rack

-- ---- behind a script

-- what is said behind the whole script, or why nothing is
abbrev pub SaysBehind : {D M : Type 0} → Ghosts M D → disk.Ghosts D → Arrived → List D → Held D M → Result Said Silence → Type 0
SaysBehind m d given first now (Ok said) =
    SaysSaved m d given first now (said.text, said.status)
    ⊎ ((said.status ≡ 6) × SaysLimit m given first now said.text)
SaysBehind m d given first now (Err silence.Read) = ⊥
SaysBehind m d given first now (Err silence.Disk) = StopsAtFiles m d given first now
SaysBehind m d given first now (Err silence.Memory) = StopsSoFar m d given first now.rack

-- so it is, whichever script came
abbrev pub ComesFrom : {D M : Type 0} → Ghosts M D → disk.Ghosts D → Moment D M → Held D M → Result Said Silence → Type 0
ComesFrom {D} m d before now said = (given : Arrived) (first : List D) → RanScript m given first before → SaysBehind m d given first now said

-- ---- all of it

-- what is said of what came, or why nothing is
abbrev pub ComesOf : {D M : Type 0} → Ghosts M D → disk.Ghosts D → Arrived → List D → Held D M → Option BadLine → Result Said Silence → Type 0
ComesOf m d given first now why (Ok said) = Says m d given first now why (said.text, said.status)
ComesOf m d given first now why (Err silence.Read) = IsCutOff m given first now
ComesOf m d given first now why (Err silence.Disk) = StopsAtFormat m given first now ⊎ StopsAtFiles m d given first now
ComesOf m d given first now why (Err silence.Memory) = WantsMemory m d given first now.rack
