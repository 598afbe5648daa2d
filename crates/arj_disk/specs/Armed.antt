-- Arms of a disk in memory: which call an arm stops, and what that call leaves.
use Rattle.std.specs.Prelude.{◌≡◌, ◌==◌, ◌-◌, ℕ, List, Option, None, Some, Result, IsSome, IsErrOf, OnOk, if◌then◌else◌}
use Rattle.arj_disk.specs.declared.disk.DiskFault.{DiskFault}
use Rattle.arj_disk.specs.declared.disk.DiskFault.TheVariants.{Stopped, Memory}
use Rattle.arj_disk.specs.declared.memory.MemDisk.{MemDisk}
use Rattle.arj_disk.specs.declared.slot.Outcome.{Outcome}
use Rattle.arj_disk.specs.declared.slot.Outcome.TheVariants.{Undone, Done, Torn}
use Rattle.arj_disk.specs.declared.slot.Slot.{Slot}
use Rattle.arj_disk.specs.Disk.{Counts, counted}
use Rattle.arj_disk.specs.FileMap.{FileMap}
use Rattle.arj_disk.specs.Stored.{stored}

-- A disk in memory has files, a count of stops, and a record of its arms.
abbrev pub files_of : MemDisk → FileMap
files_of d = stored d.files

-- how many of its calls were stopped
abbrev pub stops_of : MemDisk → ℕ
stops_of d = d.trigger.stops

-- how many times it was armed
abbrev pub arms_of : MemDisk → ℕ
arms_of d = d.trigger.arms.count

-- the arm that was given last: how many calls it lets pass, and how the stopped one ends
abbrev pub last_arm_of : MemDisk → Option (ℕ × Outcome)
last_arm_of d = d.trigger.arms.last

-- its stops, its arms, and the last of these
abbrev pub counts_of : MemDisk → Counts
counts_of d = counted stops_of arms_of last_arm_of d

-- The arm that waits: which call from now is stopped, and how it ends.
abbrev pub armed_by : ℕ → Option (ℕ × Outcome) → Option (ℕ × Outcome)
armed_by left None = None
armed_by left (Some arm) = if left == 0 then None else Some (left, arm.1)

-- the arm of a disk in memory that waits still
abbrev pub armed : MemDisk → Option (ℕ × Outcome)
armed d = armed_by d.trigger.left d.trigger.arms.last

-- a disk in memory as it is made: no file, no stop, no arm so far, and none that waits
pub record IsNew (d : MemDisk) : Type 0 where
  pub empty : (q : Slot) → files_of d q ≡ None
  pub stops : stops_of d ≡ 0
  pub arms : arms_of d ≡ 0
  pub last_arm : last_arm_of d ≡ None
  pub armed : armed d ≡ None

-- the outcome of the next call where the arm stops it
abbrev pub due : Option (ℕ × Outcome) → Option Outcome
due None = None
due (Some arm) = if arm.0 == 1 then Some arm.1 else None

-- the arm after a call that it didn't stop
abbrev pub one_less : Option (ℕ × Outcome) → Option (ℕ × Outcome)
one_less None = None
one_less (Some arm) = Some (arm.0 - 1, arm.1)

-- How a call with this result goes by the arm. Only a call that the arm names is stopped, and that spends the arm; one
-- that is done isn't named and counts. A call that finds no memory doesn't count.
pub record FollowsArm {T : Type 0} (old new : Option (ℕ × Outcome)) (result : Result T DiskFault) : Type 0 where
  pub named : IsErrOf result Stopped → IsSome (due old)
  pub spent : IsErrOf result Stopped → new ≡ None
  pub unnamed : OnOk result (due old ≡ None)
  pub counted : OnOk result (new ≡ one_less old)
  pub memory : IsErrOf result Memory → new ≡ old

-- what a stopped call leaves, by its outcome
abbrev pub LeftBy : Option Outcome → Type 0 → Type 0 → (List ℕ → Type 0) → Type 0
LeftBy None undone done torn = ⊥
LeftBy (Some Undone) undone done torn = undone
LeftBy (Some Done) undone done torn = done
LeftBy (Some (Torn bytes)) undone done torn = torn bytes
