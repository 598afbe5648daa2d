-- What a recovery finds of entries.
use Rattle.std.specs.Prelude.{List, map}
use Rattle.std.specs.List.{AllByRecursion}
use Rattle.std.specs.List.Sorted.{IsStrictlySortedBy}
use Rattle.arj_naming.specs.Entries.{AreOfEntries, IsEntryState}
use Rattle.arj_protocol.specs.Words.{Uid, ObjectState, uid_order}
use Rattle.arj_store.specs.Pair.{uid_of}
use Rattle.arj_store.specs.declared.answer.Found.{Found}

-- what was found is of entries, and stands by Uid
pub record AreFound (f : Found) : Type 0 where
  pub committed : AllByRecursion (λ (s : ObjectState). IsEntryState s.uid s) f.committed
  pub by_uid : IsStrictlySortedBy uid_order (map uid_of f.committed)
  pub prepared : AllByRecursion (λ (e : Uid × List ObjectState). AreOfEntries e.1) f.prepared
  pub by_action : IsStrictlySortedBy uid_order (map (λ (e : Uid × List ObjectState). e.0) f.prepared)
