-- What becomes of the disks' counts.
use Rattle.std.specs.Prelude.{ℕ, ◌≡◌, ◌+◌, ◌≤◌, ◌<◌, List, Some, length, slice_get}
use Rattle.arj_base.specs.Count.{Rose}
use Rattle.arj_disk.specs.Counted.{counts}
use Rattle.arj_disk.specs.Disk.{Counts}
use Rattle.arj_disk.specs.declared.disk.Disk.{Ghosts}
use Rattle.arj_disk.specs.declared.slot.Outcome.{Outcome}
use Rattle.arj_protocol.specs.Words.{Event}
use Rattle.arj_world.specs.Arms.{arms_at, last_or}

-- no stop is taken back, and these arms came, one after another, and no other
pub record Moves (asked : List (ℕ × Outcome)) (old new : Counts) : Type 0 where
  pub later : old.stops ≤ new.stops
  pub arms : new.arms ≡ old.arms + length asked
  pub last : new.last_arm ≡ last_or old.last_arm asked

-- The disk of each of so many nodes was armed as these events ask for it, and all other disks are as they were.
pub record HaveMoved {D : Type 0} (disk : Ghosts D) (nodes : ℕ) (events : List Event) (old new : List D) : Type 0 where
  pub count : length new ≡ length old
  pub each : (i : ℕ) (d e : D) → i < nodes → slice_get old i ≡ Some d → slice_get new i ≡ Some e →
      Moves (arms_at (i + 1) events) (counts disk d) (counts disk e)
  pub others : (i : ℕ) → nodes ≤ i → slice_get new i ≡ slice_get old i

-- No disk was stopped: each count of stops is as before.
pub record HaveNotStopped {D : Type 0} (disk : Ghosts D) (old new : List D) : Type 0 where
  pub count : length new ≡ length old
  pub each : (i : ℕ) (d e : D) → slice_get old i ≡ Some d → slice_get new i ≡ Some e → disk.stops e ≡ disk.stops d

-- A disk's count of stops rose.
pub record HasStopped {D : Type 0} (disk : Ghosts D) (old new : List D) : Type 0 where
  pub place : ℕ
  pub was : D
  pub is : D
  pub there : slice_get old place ≡ Some was
  pub now : slice_get new place ≡ Some is
  pub rose : Rose (disk.stops was) (disk.stops is)
