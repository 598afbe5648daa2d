-- Files of parts are read as the disk that they say.
use Rattle.arj_law_parts.proofs.Words.{◌≡◌, ◌∙◌, Option, Some, None, refl, sym, ap, option_map, IsReadingOf, pair_in, record_of, Disk, Pair}
use Rattle.arj_law_nodes.proofs.Terms.{FileMap}
use Rattle.arj_disk.specs.{Says.Record, Says.records, declared.slot.Role.Role}
use Rattle.arj_intent.specs.Records.{said}
use Rattle.arj_law_nodes.specs.{cores.Parts.PartsRest, cores.Parts.PartsStand, nodes.Readings.reading_of}
use Rattle.arj_law_store.specs.store.Files.{IsPairOf}
use Rattle.arj_recover.specs.OnDisk.{IsDiskOf}
use Rattle.arj_store.specs.declared.store.ObjectStore.{Ghosts}

-- a record that is read is the one on the disk
read_back : (o : Option Record) → o ≡ option_map record_of (option_map said o)
read_back None = refl
read_back (Some r) = refl

pair_so : {O : Type 0} (o : Ghosts O) (file : FileMap) (r : Role) (d : Pair) → IsPairOf (o.pair file r) d →
    IsPairOf (pair_in (reading_of o file) r) d
pair_so o file r d are =
    record { held = are.held; pend = are.pend; held_rises = are.held_rises; pend_rises = are.pend_rises; in_form = are.in_form }

disk_so : {O : Type 0} (o : Ghosts O) (file : FileMap) (d : Disk) → IsDiskOf o file d → IsReadingOf (reading_of o file) d
disk_so o file d is = record {
  store = pair_so o file _ d.store is.store;
  names = pair_so o file _ d.names is.names;
  records = λ top. (let i = is.intents in read_back (records file top) ∙ ap (option_map record_of) (sym (i.there top)));
  inc = sym is.inc;
}

pub parts_rest : {O : Type 0} (o : Ghosts O) → PartsRest o
parts_rest o n file d r = disk_so o file d r.disk

pub parts_stand : {O : Type 0} (o : Ghosts O) → PartsStand o
parts_stand o n p file h s = (let r = s.rests in disk_so o file h.disk r.disk)
