-- What the files of parts over an object store say.
use Rattle.std.specs.Prelude.{ℕ}
use Rattle.arj_disk.specs.FileMap.{FileMap}
use Rattle.arj_promise.specs.Disks.{IsReadingOf}
use Rattle.arj_law_nodes.specs.nodes.Readings.{reading_of}
use Rattle.arj_parts.specs.Kept.{Kept, RestsOn, StandsOn}
use Rattle.arj_protocol.specs.Effect.{Disk}
use Rattle.arj_protocol.specs.Node.{Here}
use Rattle.arj_store.specs.declared.store.ObjectStore.{Ghosts}

-- those of a node that is down, as the store reads them
abbrev pub PartsRest : {O : Type 0} → Ghosts O → Type 0
PartsRest {O} o = (n : ℕ) (file : FileMap) (d : Disk) → RestsOn o n file d → IsReadingOf (reading_of o file) d

-- and those of parts in memory
abbrev pub PartsStand : {O : Type 0} → Ghosts O → Type 0
PartsStand {O} o = (n : ℕ) (p : Kept O) (file : FileMap) (h : Here) → StandsOn o n p file h →
    IsReadingOf (reading_of o file) (let g = h in g.disk)
