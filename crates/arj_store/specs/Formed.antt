-- Files of the shadow store that are formed: what every call finds and leaves.
use Rattle.std.specs.Prelude.{◌≡◌, ◌⊎◌, ◌≤◌, ℕ, List, ◌++◌, ◌∷◌, codes, length, flat_map, IsSome, IfSome}
use Rattle.std.specs.List.{AllByRecursion}
use Rattle.arj_base.specs.declared.uid.Uid.{Uid}
use Rattle.arj_base.specs.Uid.{uid_bytes, UidFits}
use Rattle.arj_disk.specs.declared.limits.TheConstants.{MOST_KNOWN, MOST_PREPARED}
use Rattle.arj_disk.specs.declared.slot.Role.{Role}
use Rattle.arj_disk.specs.declared.slot.Slot.TheVariants.{Committed, Shadow, Prepared}
use Rattle.arj_disk.specs.FileMap.{FileMap}
use Rattle.arj_disk.specs.Formed.{AtMost, IsStateOf}
use Rattle.arj_disk.specs.Says.{names, role_of}
use Rattle.arj_store.specs.Says.{held, pend}

-- `ARJP`, the action, a count of one byte, and the Uids of the objects
abbrev pub prepared_bytes : Uid → List Uid → List ℕ
prepared_bytes a us = codes "ARJP" ++ (uid_bytes a ++ (length us ∷ flat_map uid_bytes us))

-- a prepared file of this action
abbrev pub IsPreparedOf : Uid → List ℕ → Type 0
IsPreparedOf a bytes = (us : List Uid) × UidFits a × AllByRecursion UidFits us × (length us ≤ MOST_PREPARED) × (bytes ≡ prepared_bytes a us)

-- a disk has a state of this object, or an action that is prepared names it
abbrev pub IsKnown : FileMap → Role → Uid → Type 0
IsKnown file role u = IsSome (held file role u) ⊎ ((a : Uid) × names (pend file role a) u)

-- The files of a role are formed: each is in its grammar and of its name, no object is named by two prepared actions,
-- each that is named has a state, and there are not too many.
pub record FormedFor (file : FileMap) (role : Role) : Type 0 where
  pub committed : (u : Uid) → role_of u ≡ role → IfSome (file (Committed u)) (IsStateOf u)
  pub shadows : (u : Uid) → role_of u ≡ role → IfSome (file (Shadow u)) (IsStateOf u)
  pub prepared : (a : Uid) → IfSome (file (Prepared role a)) (IsPreparedOf a)
  pub own : (a u : Uid) → names (pend file role a) u → role_of u ≡ role
  pub there : (a u : Uid) → names (pend file role a) u → IsSome (file (Shadow u)) ⊎ IsSome (file (Committed u))
  pub once : (a b u : Uid) → names (pend file role a) u → names (pend file role b) u → a ≡ b
  pub few : AtMost MOST_KNOWN (IsKnown file role)
