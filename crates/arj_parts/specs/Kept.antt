-- The parts of a node in memory, and with its disk.
use Rattle.std.specs.Prelude.{◌≡◌, ◌==◌, ℕ, Bool, List, is_some}
use Rattle.arj_disk.specs.FileMap.{FileMap}
use Rattle.arj_protocol.specs.Coord.{Coord}
use Rattle.arj_protocol.specs.Effect.{Disk, Intent}
use Rattle.arj_protocol.specs.Node.{Here}
use Rattle.arj_protocol.specs.Words.{Uid}
use Rattle.arj_recover.specs.OnDisk.{IsDiskOf, IsFormed}
use Rattle.arj_serve.specs.Kept as serve
use Rattle.arj_serve.specs.Kept.{NamesOn, parts_with}
use Rattle.arj_serve.specs.Objects.{AreObjects}
use Rattle.arj_store.specs.declared.store.ObjectStore.{Ghosts}

-- the services, the coordinator, and the records of commits that the disk has
pub record Kept (O : Type 0) : Type 0 where
  pub services : serve.Kept O
  pub coord : Coord
  pub records : List (Uid × Intent)

-- naming is at node 1
abbrev pub has_naming : ℕ → Bool
has_naming n = n == 1

-- These files are formed and say this disk of the protocol, for the node of this number: the states at its store are of
-- objects, and at node 1 there are entries.
pub record RestsOn {O : Type 0} (o : Ghosts O) (n : ℕ) (file : FileMap) (d : Disk) : Type 0 where
  pub formed : IsFormed o file
  pub disk : IsDiskOf o file d
  pub objects : AreObjects d.store
  pub names : NamesOn (has_naming n) o file d.names

-- The parts stand on these files: they are the protocol's parts, over the disk that the files say.
pub record StandsOn {O : Type 0} (o : Ghosts O) (n : ℕ) (p : Kept O) (file : FileMap) (h : Here) : Type 0 where
  pub rests : RestsOn o n file h.disk
  pub services : serve.StandsOn o p.services file h.disk
  pub number : p.services.number ≡ n
  pub named : is_some p.services.naming ≡ has_naming n
  pub records : p.records ≡ h.disk.intents
  pub parts : h.parts ≡ parts_with p.services p.coord
