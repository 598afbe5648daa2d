-- A merged segment, and what the removal of older segments changes.
use Rattle.std.specs.Prelude.{◌≡◌, ◌≢◌, ◌⊎◌, ◌≤◌, ◌<◌, ℕ, List, Contains, IsSome, None, Some, length}
use Rattle.std.specs.List.{AllByRecursion}
use Rattle.arj_base.specs.declared.uid.Uid.{Uid}
use Rattle.arj_disk.specs.declared.slot.Role.{Role}
use Rattle.arj_disk.specs.declared.slot.Slot.{Slot}
use Rattle.arj_disk.specs.declared.slot.Slot.TheVariants.{Segment}
use Rattle.arj_disk.specs.FileMap.{FileMap}
use Rattle.arj_segment_file.specs.Format.{IsSegment}
use Rattle.arj_segment.specs.Says.{held, numbers, state_in}
use Rattle.arj_segment.specs.declared.limits.TheConstants.{MOST_NUMBER}

-- of the segments with these numbers some are gone; every other file is as before
pub record RemovesSome (role : Role) (ks : List ℕ) (old new : FileMap) : Type 0 where
  pub each : (k : ℕ) → (new (Segment role k) ≡ old (Segment role k)) ⊎ (Contains ks k × (new (Segment role k) ≡ None))
  pub others : (q : Slot) → ((k : ℕ) → q ≢ Segment role k) → new q ≡ old q

-- the segments with these numbers are gone
abbrev pub AreGone : Role → List ℕ → FileMap → Type 0
AreGone role ks file = AllByRecursion (λ k. file (Segment role k) ≡ None) ks

-- a role has at most n segments
abbrev pub HasAtMost : ℕ → FileMap → Role → Type 0
HasAtMost n file role = (ks : List ℕ) × (length ks ≤ n) × ((k : ℕ) → k < numbers → IsSome (file (Segment role k)) → Contains ks k)

-- The bytes are those of a segment with the state of each object that the files of the role hold, and its number is above
-- those of the segments, and not too great.
pub record IsMerged (role : Role) (file : FileMap) (ks : List ℕ) (k : ℕ) (bytes : List ℕ) : Type 0 where
  pub within : k < numbers
  pub low : k ≤ MOST_NUMBER
  pub above : AllByRecursion (λ j. j < k) ks
  pub form : IsSegment role bytes
  pub all : (u : Uid) → state_in u (Some bytes) ≡ held file role u
