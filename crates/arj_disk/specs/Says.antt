-- What a disk says: whose each file is, the records of commits, and the incarnation. What it says of committed and
-- prepared states is the object store's, which has a reading of its own.
use Rattle.std.specs.Prelude.{◌≡◌, ◌≢◌, ◌==◌, ◌&&◌, ℕ, zero, suc, Bool, true, false, List, [], ◌∷◌, take, drop, get_or, Option, None, Some}
use Rattle.std.specs.Prelude.{IsSome, IsSomeAnd, option_map, unwrap_or, if◌then◌else◌}
use Rattle.std.specs.Int.{w32, w64, from_be_bytes}
use Rattle.std.specs.Map.{lookup}
use Rattle.arj_base.specs.declared.uid.Uid.{Uid}
use Rattle.arj_base.specs.Uid.{uid_eq}
use Rattle.arj_disk.specs.declared.slot.Role.{Role}
use Rattle.arj_disk.specs.declared.slot.Role.TheVariants.{Store, Names}
use Rattle.arj_disk.specs.declared.slot.Slot.{Slot}
use Rattle.arj_disk.specs.declared.slot.Slot.TheVariants.{Incarnation, Tmp, Committed, Shadow, Prepared, Intent, Pending, Segment}
use Rattle.arj_disk.specs.FileMap.{FileMap}

-- Naming entries have node 0 and incarnation 1. Every other Uid is the object store's.
abbrev pub role_of : Uid → Role
role_of u = if (u.node == 0) && (u.inc == 1) then Names else Store

-- it is the same role
abbrev pub role_eq : Role → Role → Bool
role_eq Store Store = true
role_eq Store Names = false
role_eq Names Store = false
role_eq Names Names = true

-- whose file a name is of
abbrev pub slot_role : Slot → Option Role
slot_role (Committed u) = Some (role_of u)
slot_role (Shadow u) = Some (role_of u)
slot_role (Prepared role a) = Some role
slot_role Incarnation = None
slot_role Tmp = None
slot_role (Intent a) = None
slot_role (Pending role a) = Some role
slot_role (Segment role k) = Some role

-- every file is as before but those of the role, and Tmp
abbrev pub OnlyOfRole : Role → FileMap → FileMap → Type 0
OnlyOfRole role old new = (q : Slot) → slot_role q ≢ Some role → q ≢ Tmp → new q ≡ old q

-- each file of the role is as before
abbrev pub SameOfRole : Role → FileMap → FileMap → Type 0
SameOfRole role old new = (q : Slot) → slot_role q ≡ Some role → new q ≡ old q

-- the Uid in the first 16 of these bytes
abbrev pub uid_in : List ℕ → Uid
uid_in bytes =
    record {
      node = from_be_bytes w32 (take 4 bytes);
      inc = from_be_bytes w32 (take 4 (drop 4 bytes));
      num =
          from_be_bytes w64 (take 8 (drop 8 bytes));
    }

-- the first n Uids of these bytes, one behind the other
abbrev pub uids_in : ℕ → List ℕ → List Uid
uids_in zero bytes = []
uids_in (suc n) bytes = uid_in (take 16 bytes) ∷ uids_in n (drop 16 bytes)

-- An intentions record: the root and the nodes that it lists.
pub record Record : Type 0 where
  pub root : Uid
  pub nodes : List ℕ

-- the record of each decided top that isn't acknowledged by all
abbrev pub records : FileMap → Uid → Option Record
records file top =
    option_map (λ bytes. record {
      root = uid_in (take 16 (drop 4 bytes));
      nodes =
          take (get_or bytes 36 0) (drop 37 bytes);
    }) (file (Intent top))

-- how often the node was started
abbrev pub inc : FileMap → ℕ
inc file = from_be_bytes w32 (drop 4 (unwrap_or (file Incarnation) []))

-- the new state of an object among these
abbrev pub new_of : List (Uid × List ℕ) → Uid → Option (List ℕ)
new_of states u = lookup (uid_eq u) states

-- the object is among the prepared states, if there are any
abbrev pub names : Option (List (Uid × List ℕ)) → Uid → Type 0
names prepared u = IsSomeAnd prepared (λ states. IsSome (new_of states u))
