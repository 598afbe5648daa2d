-- Values under Uids, as functions.
use Rattle.std.specs.Prelude.{◌≡◌, ◌≢◌, ◌↔◌, List, map, Contains, Option, Some, IsSome}
use Rattle.std.specs.List.Sorted.{IsStrictlySortedBy}
use Rattle.std.specs.BTreeMap.{get}
use Rattle.std.specs.declared.cmp.Ordering.{Ordering}
use Rattle.arj_base.specs.contracts.uid.UidOrd.TheImpl as uid_ord
use Rattle.arj_base.specs.declared.uid.Uid.{Uid}
use Rattle.arj_store.specs.declared.table.Table.{Table}
use Rattle.arj_store.specs.Pair.{uid_order}

-- the comparison by which a map finds Uids
abbrev pub uid_cmp : Uid → Uid → Ordering
uid_cmp = (uid_ord.ghosts).cmp

-- the value that the table has under the Uid, if it has one
abbrev pub at : {V : Type 0} → Table V → Uid → Option V
at table u = get uid_cmp table.map u

-- this Uid has the value, and every other has what it had
pub record Sets {V : Type 0} (old new : Uid → Option V) (u : Uid) (value : Option V) : Type 0 where
  pub here : new u ≡ value
  pub others : (q : Uid) → q ≢ u → new q ≡ old q

-- under each Uid is what was there before
abbrev pub SameTable : {V : Type 0} → (Uid → Option V) → (Uid → Option V) → Type 0
SameTable old new = (q : Uid) → new q ≡ old q

-- these are the values, in the order of their Uids
pub record AreValuesOf {V : Type 0} (table : Uid → Option V) (values : List V) : Type 0 where
  pub uids : List Uid
  pub increasing : IsStrictlySortedBy uid_order uids
  pub there : (q : Uid) → IsSome (table q) ↔ Contains uids q
  pub each : map table uids ≡ map Some values
