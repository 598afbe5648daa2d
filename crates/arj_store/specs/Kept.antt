-- What the shadow store keeps of the files of its role.
use Rattle.arj_disk.specs.declared.slot.Role.{Role}
use Rattle.arj_disk.specs.FileMap.{FileMap}
use Rattle.arj_store.specs.declared.answer.Found.{Found}
use Rattle.arj_store.specs.declared.shadow.ShadowStore.{ShadowStore}
use Rattle.arj_store.specs.Shadow.{PendingKeeps}

-- the role whose files the store keeps
abbrev pub role_kept : ShadowStore → Role
role_kept store = store.role

-- what the store holds as found on the disk
abbrev pub found_kept : ShadowStore → Found
found_kept store = store.found

-- what the store has in memory of what is prepared is what the files of its role say
abbrev pub StoreKeeps : ShadowStore → FileMap → Type 0
StoreKeeps store file = PendingKeeps store.role store.pending file
