-- The records of one action, as a list.
use Rattle.std.specs.Prelude.{◌≡◌, ℕ, ◌≤◌, ◌++◌, nat_lt, not, if◌then◌else◌, Bool, false, List, [], ◌∷◌, Option, Some, None, is_some, find}
use Rattle.std.specs.Prelude.{filter, map, option_and_then}
use Rattle.std.specs.List.{list_any, AllByRecursion}
use Rattle.arj_base.specs.declared.mode.Mode.{Mode}
use Rattle.arj_base.specs.declared.uid.Uid.{Uid}
use Rattle.arj_base.specs.Uid.{uid_eq}
use Rattle.arj_record.specs.declared.record.Record.{Record}
use Rattle.arj_record.specs.declared.record.Record.TheVariants.{Recovery, Persistence}
use Rattle.arj_record.specs.Record.{object_of, order_of, recovery_order, lock_order, persistence_order, is_of, is_like, joined, is_lock}
use Rattle.arj_record.specs.Record.{image_in, mode_in}
use Rattle.arj_record.specs.Scene.{Call, restore, pass, release, raise}

-- What contracts see of a list: its records, and how many more it takes without asking for memory.
pub record Records (V : Type 0) : Type 0 where
  pub records : List (Record V)
  pub spare : ℕ

-- The list with one more record. A record of its kind and object that is there is joined with it in its place. Where
-- there is none, it comes behind the records of its order and of lower ones.
abbrev pub added : {V : Type 0} → Record V → List (Record V) → List (Record V)
added r [] = r ∷ []
added r (q ∷ qs) = if is_like q r then joined q r ∷ qs else (if nat_lt (order_of r) (order_of q) then r ∷ q ∷ qs else q ∷ added r qs)

-- the list with the record in its place: behind those of its order and of lower ones
abbrev pub placed : {V : Type 0} → Record V → List (Record V) → List (Record V)
placed r [] = r ∷ []
placed r (q ∷ qs) = if nat_lt (order_of r) (order_of q) then r ∷ q ∷ qs else q ∷ placed r qs

-- the list with each of these records in its place, the first one first
abbrev pub with_placed : {V : Type 0} → List (Record V) → List (Record V) → List (Record V)
with_placed [] rs = rs
with_placed (item ∷ items) rs = with_placed items (placed item rs)

-- the list's record of a kind and object
abbrev pub found : {V : Type 0} → ℕ → Uid → List (Record V) → Option (Record V)
found order x rs = find (is_of order x) rs

-- the list has a record of this one's kind and object
abbrev pub has_like : {V : Type 0} → Record V → List (Record V) → Bool
has_like r rs = is_some (found (order_of r) (object_of r) rs)

-- an older record and a younger one, where each may be missing
abbrev pub combined : {V : Type 0} → Option (Record V) → Option (Record V) → Option (Record V)
combined None younger = younger
combined (Some older) None = Some older
combined (Some older) (Some younger) = Some (joined older younger)

-- an older record with a younger one, if there is one
abbrev pub joined_with : {V : Type 0} → Record V → Option (Record V) → Record V
joined_with older None = older
joined_with older (Some younger) = joined older younger

-- The parent's list after a nested commit. The parent's records stay, each joined with the child's one of its kind
-- and object; and the child's records of which the parent has none come in their places.
abbrev pub merged : {V : Type 0} → List (Record V) → List (Record V) → List (Record V)
merged parent child =
    with_placed (filter (λ r. not (has_like r parent)) child) (map (λ r. joined_with r (found (order_of r) (object_of r) child)) parent)

-- the list without the records of an object
abbrev pub forgotten : {V : Type 0} → Uid → List (Record V) → List (Record V)
forgotten x rs = filter (λ r. not (uid_eq (object_of r) x)) rs

-- r stands rightly before q: its order isn't above that of q, and they aren't of one kind and object
abbrev pub Precedes : {V : Type 0} → Record V → Record V → Type 0
Precedes r q = (order_of r ≤ order_of q) × (is_like r q ≡ false)

-- in increasing order, and each kind and object once
abbrev pub IsArranged : {V : Type 0} → List (Record V) → Type 0
IsArranged [] = Unit {0}
IsArranged (r ∷ rs) = AllByRecursion (Precedes r) rs × IsArranged rs

-- some record is of a lock
abbrev pub has_locks : {V : Type 0} → List (Record V) → Bool
has_locks rs = list_any is_lock rs

-- each image goes back to its object
abbrev pub restores : {V : Type 0} → List (Record V) → List (Call V)
restores [] = []
restores (Recovery x before ∷ rs) = restore x before ∷ restores rs
restores (r ∷ rs) = restores rs

-- each changed object is raised, with the action as its writer
abbrev pub raises : {V : Type 0} → Uid → List (Record V) → List (Call V)
raises action [] = []
raises action (Persistence x ∷ rs) = raise x action ∷ raises action rs
raises action (r ∷ rs) = raises action rs

-- An action is undone: each object's image is restored, and then the action's locks are released, by one call for
-- all of them.
abbrev pub undo_calls : {V : Type 0} → Uid → List (Record V) → List (Call V)
undo_calls action rs = restores rs ++ (if has_locks rs then release action ∷ [] else [])

-- A top-level action is kept: its locks are passed, by one call for all of them, and then each changed object is
-- raised.
abbrev pub keep_calls : {V : Type 0} → Uid → List (Record V) → List (Call V)
keep_calls action rs = (if has_locks rs then pass action ∷ [] else []) ++ raises action rs

-- the image of an object that stands first in a list of records
abbrev pub image : {V : Type 0} → Uid → List (Record V) → Option V
image x rs = option_and_then image_in (found recovery_order x rs)

-- the mode of an object's lock in a list
abbrev pub lock_mode : {V : Type 0} → Uid → List (Record V) → Option Mode
lock_mode x rs = option_and_then mode_in (found lock_order x rs)

-- the list has the object as a changed one
abbrev pub is_changed : {V : Type 0} → Uid → List (Record V) → Bool
is_changed x rs = is_some (found persistence_order x rs)

-- the images that calls give back to an object, in their order
abbrev pub restored : {V : Type 0} → Uid → List (Call V) → List V
restored x [] = []
restored x (restore y before ∷ calls) = if uid_eq y x then before ∷ restored x calls else restored x calls
restored x (call ∷ calls) = restored x calls

-- the writers with which calls raise an object, in their order
abbrev pub raised : {V : Type 0} → Uid → List (Call V) → List Uid
raised x [] = []
raised x (raise y writer ∷ calls) = if uid_eq y x then writer ∷ raised x calls else raised x calls
raised x (call ∷ calls) = raised x calls

-- the actions whose locks calls pass, and those whose locks they release, in their order
abbrev pub passed : {V : Type 0} → List (Call V) → List Uid
passed [] = []
passed (pass action ∷ calls) = action ∷ passed calls
passed (call ∷ calls) = passed calls

-- the actions whose locks calls release, in order
abbrev pub released : {V : Type 0} → List (Call V) → List Uid
released [] = []
released (release action ∷ calls) = action ∷ released calls
released (call ∷ calls) = released calls

-- the list with these records added, the first one first
abbrev pub gathered : {V : Type 0} → List (Record V) → List (Record V) → List (Record V)
gathered rs [] = rs
gathered rs (item ∷ items) = gathered (added item rs) items
