-- What the segment store keeps, and that it goes on keeping it while files of other roles change.
use Rattle.arj_disk.specs.declared.slot.Role.{Role}
use Rattle.arj_disk.specs.FileMap.{FileMap}
use Rattle.arj_disk.specs.Says.{SameOfRole}
use Rattle.arj_store.specs.declared.answer.Found.{Found}
use Rattle.arj_segment.specs.declared.segment.SegmentStore.{SegmentStore}
use Rattle.arj_segment.specs.Kept.{Keeps, keeps_on}

-- the role whose files the store keeps
abbrev pub role_kept : SegmentStore → Role
role_kept store = store.role

-- what the store holds as found on the disk
abbrev pub found_kept : SegmentStore → Found
found_kept store = store.found

-- what the store has in memory is what the files of its role say
abbrev pub StoreKeeps : SegmentStore → FileMap → Type 0
StoreKeeps store file = Keeps store.role store.kept file

-- it still is where the files of the role are as before
pub store_keeps_on : (store : SegmentStore) (old new : FileMap) → SameOfRole (role_kept store) old new → StoreKeeps store old →
    StoreKeeps store new
store_keeps_on store old new same keeps = keeps_on store.role store.kept old new same keeps
