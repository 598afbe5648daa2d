-- Which readings are those of a world: of each of its nodes, its pairs, its records and its incarnation.
use Rattle.std.specs.Prelude.{Some, option_map, ℕ, ◌≡◌}
use Rattle.arj_base.specs.declared.uid.Uid.{Uid}
use Rattle.arj_disk.specs.Says.{Record}
use Rattle.arj_disk.specs.declared.slot.Role.TheVariants as role
use Rattle.arj_disk.specs.declared.slot.Role.{Role}
use Rattle.arj_law_store.specs.store.Files.{IsPairOf}
use Rattle.arj_model.specs.Disks.{Disks, Reading}
use Rattle.arj_promise.specs.Runs.{Seen}
use Rattle.arj_protocol.specs.Effect.{Disk, Intent}
use Rattle.arj_protocol.specs.Order.{at_uid}
use Rattle.arj_protocol.specs.Step.{Node}
use Rattle.arj_store.specs.Pair.{Pair}

-- the pair of a role, as a disk is read
abbrev pub pair_in : Reading → Role → Pair
pair_in read r = record { held = λ u. read.held r u; pend = λ a. read.pend r a }

-- a record of a commit, as it is read
abbrev pub record_of : Intent → Record
record_of i = record { root = i.root; nodes = i.nodes }

-- A disk of the protocol is read so: the pairs of both roles, the records and the incarnation are its own.
pub record IsReadingOf (read : Reading) (d : Disk) : Type 0 where
  pub store : IsPairOf (pair_in read role.Store) d.store
  pub names : IsPairOf (pair_in read role.Names) d.names
  pub records : (top : Uid) → (let r = read in r.records top) ≡ option_map record_of (at_uid top d.intents)
  pub inc : (let r = read in r.inc) ≡ d.inc

-- so it is of the disk of each node
abbrev pub DisksAre : Seen → Disks → Type 0
DisksAre M disks = (s : ℕ) (n : Node) → M.nodes s ≡ Some n → IsReadingOf (disks s) (let m = n in m.disk)
