-- Where every node is idle nothing is prepared and no record is left, and disks hold the last committed states with no exception.
use Rattle.std.specs.Prelude.{◌≡◌, ◌&&◌, ℕ, true, List, [], Some, is_some, nat_le}
use Rattle.arj_base.specs.State.{state_bytes}
use Rattle.arj_base.specs.Uid.{entry, object}
use Rattle.arj_disk.specs.declared.slot.Role.TheVariants.{Names, Store}
use Rattle.arj_model.specs.Clean.{CleanFrom}
use Rattle.arj_model.specs.Disks.{Disks, held}
use Rattle.arj_model.specs.Last.{entry_from, is_among, last_from, listed, object_line}
use Rattle.arj_start.specs.Start.{Marks}
use Rattle.arj_protocol.specs.Words.{Header, Line}
use Rattle.arj_protocol.specs.World.{World}
use Rattle.arj_law_parts.specs.moves.Keeps.{Stands}
use Rattle.arj_promise.specs.Runs.{HeaderFits, Post, see}
use Rattle.arj_promise.specs.Resting.{AreQuiet}
use Rattle.arj_promise.specs.Disks.{DisksAre}
use Rattle.arj_promise.specs.Resting.{HasNothingLeft}

-- Naming holds each entry as the journal gives it, and each listed store that is a node of the header the object's last committed state,
-- where the run began with these marks; and on the disks of the header's nodes nothing is left.
pub record HoldTheLast (hd : Header) (marks : Marks) (lines : List Line) (disks : Disks) : Type 0 where
  pub entries : (x : ℕ) → is_some (object_line hd x) ≡ true → held (disks 1) Names (entry x) ≡ Some (state_bytes
      (entry_from hd marks lines x))
  pub stores : (x s : ℕ) → is_among (listed hd lines x) s ≡ true → (nat_le 1 s && nat_le s hd.nodes) ≡ true →
      held (disks s) Store (object x) ≡ Some (state_bytes (last_from hd marks lines x))
  pub nothing : (s : ℕ) → (nat_le 1 s && nat_le s hd.nodes) ≡ true → HasNothingLeft (disks s)

-- So it is of clean disks where every node is idle.
abbrev pub IdleDisksHoldTheLast : Type 0
IdleDisksHoldTheLast = (hd : Header) (marks : Marks) (lines : List Line) (sent : List Post) (w : World) (disks : Disks) → HeaderFits hd
    → Stands hd sent w → AreQuiet w → DisksAre (see [] w) disks → CleanFrom hd marks lines disks → HoldTheLast hd marks lines disks
