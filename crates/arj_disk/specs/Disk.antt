-- What a disk call changes: relations between the files before it and after it, and how the counts go on.
use Rattle.std.specs.Prelude.{◌≡◌, ◌≢◌, ◌⊎◌, ℕ, ◌≤◌, List, Option, None, Some, Result, IsSome, IfErr, IsErrOf, OnOk, Contains, ◌↔◌}
use Rattle.std.specs.List.Sorted.{IsStrictlySortedBy}
use Rattle.arj_base.specs.Count.{Rose}
use Rattle.arj_disk.specs.declared.slot.Outcome.{Outcome}
use Rattle.arj_disk.specs.declared.slot.Slot.{Slot}
use Rattle.arj_disk.specs.declared.slot.Slot.TheVariants.{Tmp}
use Rattle.arj_disk.specs.FileMap.{FileMap}
use Rattle.arj_disk.specs.Slot.{slot_order}

-- each file is as before
abbrev pub Same : FileMap → FileMap → Type 0
Same old new = (q : Slot) → new q ≡ old q

-- each file but this one is as before
abbrev pub SameBut : FileMap → FileMap → Slot → Type 0
SameBut old new slot = (q : Slot) → q ≢ slot → new q ≡ old q

-- this file has the bytes, and every other is as before
pub record Writes (old new : FileMap) (slot : Slot) (bytes : List ℕ) : Type 0 where
  pub here : new slot ≡ Some bytes
  pub others : SameBut old new slot

-- this file is gone, and every other is as before
pub record Removes (old new : FileMap) (slot : Slot) : Type 0 where
  pub gone : new slot ≡ None
  pub others : SameBut old new slot

-- the second name has the file of the first, which is gone; every other is as before
pub record Renames (old new : FileMap) (from to : Slot) : Type 0 where
  pub here : new to ≡ old from
  pub gone : from ≢ to → new from ≡ None
  pub others : (q : Slot) → q ≢ from → q ≢ to → new q ≡ old q

-- this file has the bytes, Tmp is gone, and every other is as before
pub record Puts (old new : FileMap) (slot : Slot) (bytes : List ℕ) : Type 0 where
  pub here : new slot ≡ Some bytes
  pub gone : new Tmp ≡ None
  pub others : (q : Slot) → q ≢ slot → q ≢ Tmp → new q ≡ old q

-- this file is as before or has the bytes, and every other but Tmp is as before
pub record PutsOrNot (old new : FileMap) (slot : Slot) (bytes : List ℕ) : Type 0 where
  pub here : (new slot ≡ old slot) ⊎ (new slot ≡ Some bytes)
  pub others : (q : Slot) → q ≢ slot → q ≢ Tmp → new q ≡ old q

-- the names are those that have a file, each once, increasing
pub record Lists (file : FileMap) (names : List Slot) : Type 0 where
  pub there : (q : Slot) → IsSome (file q) ↔ Contains names q
  pub increasing : IsStrictlySortedBy slot_order names

-- How often a disk's calls were stopped; how often it was armed; and with what it was armed last.
pub record Counts : Type 0 where
  pub stops : ℕ
  pub arms : ℕ
  pub last_arm : Option (ℕ × Outcome)

-- the counts of a disk, by the functions that tell them
abbrev pub counted : {D : Type 0} → (D → ℕ) → (D → ℕ) → (D → Option (ℕ × Outcome)) → D → Counts
counted stops arms last_arm d = record { stops = stops d; arms = arms d; last_arm = last_arm d }

-- The count of stops over a call with this result: it rose where the call was stopped, and stays where it wasn't.
pub record CountsStops {T E : Type 0} (old new : ℕ) (result : Result T E) (stopped : E) : Type 0 where
  pub rose : IsErrOf result stopped → Rose old new
  pub later : old ≤ new
  pub ok : OnOk result (new ≡ old)
  pub other : IfErr result (λ e. e ≢ stopped → new ≡ old)

-- What a call with this result leaves of the counts: its stop is counted, where it was stopped, and no arm came.
pub record CountsCall {T E : Type 0} (old new : Counts) (result : Result T E) (stopped : E) : Type 0 where
  pub stops : CountsStops old.stops new.stops result stopped
  pub arms : new.arms ≡ old.arms
  pub last_arm : new.last_arm ≡ old.last_arm
