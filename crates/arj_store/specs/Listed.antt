-- A pair as sorted lists: these have exactly what its two functions have, and as they are sorted, they are determined.
use Rattle.std.specs.Prelude.{◌≡◌, ℕ, List, Option}
use Rattle.std.specs.BTreeMap.{is_at}
use Rattle.std.specs.List.Sorted.{IsStrictlySortedBy}
use Rattle.std.specs.Map.{lookup, keys_of, remove_entry}
use Rattle.std.specs.BTreeMap.{insert_entry}
use Rattle.arj_base.specs.Order.{uid_order}
use Rattle.arj_base.specs.declared.uid.Uid.{Uid}
use Rattle.arj_store.specs.Pair.{Pair}

-- the value under a Uid
abbrev pub at_uid : {X : Type 0} → Uid → List (Uid × X) → Option X
at_uid u entries = lookup (is_at (uid_order u)) entries

-- the entries with this value under the Uid, and without any
abbrev pub put_uid : {X : Type 0} → Uid → X → List (Uid × X) → List (Uid × X)
put_uid u value entries = insert_entry uid_order entries u value

-- the entries without any under the Uid
abbrev pub without_uid : {X : Type 0} → Uid → List (Uid × X) → List (Uid × X)
without_uid u entries = remove_entry (is_at (uid_order u)) entries

-- these entries are those of the function, by Uid
pub record AreEntries {X : Type 0} (value : Uid → Option X) (entries : List (Uid × X)) : Type 0 where
  pub there : (u : Uid) → at_uid u entries ≡ value u
  pub rises : IsStrictlySortedBy uid_order (keys_of entries)

-- the committed states, and what is prepared, as lists by Uid
pub record IsListed (p : Pair) (held : List (Uid × List ℕ)) (pend : List (Uid × List (Uid × List ℕ))) : Type 0 where
  pub committed : AreEntries p.held held
  pub prepared : AreEntries p.pend pend
