-- The store goes on answering while files of other roles change.
use Rattle.std.proofs.Common.{◌≡◌, ◌∙◌, sym, ap, refl}
use Rattle.std.specs.Prelude.{true, false, List, Option, Some, None, is_some, option_map, MatchOption}
use Rattle.arj_base.specs.declared.uid.Uid.{Uid}
use Rattle.arj_disk.specs.declared.slot.Role.{Role}
use Rattle.arj_disk.specs.declared.slot.Slot.TheVariants as slot
use Rattle.arj_disk.specs.FileMap.{FileMap}
use Rattle.arj_disk.specs.Says.{SameOfRole}
use Rattle.arj_store.specs.Says.{named_in}
use Rattle.arj_store.specs.declared.memory.Holding.{Holding}
use Rattle.arj_store.specs.declared.shadow.ShadowStore.{ShadowStore}
use Rattle.arj_store.specs.Kept.{role_kept, StoreKeeps}
use Rattle.arj_store.specs.Shadow.{Keeps, is_named, objects_of}
use Rattle.arj_store.specs.Table.{at}

-- what is kept is told from the files of the role
keeps_on : (role : Role) (actions : Uid → Option (List Uid)) (holdings : Uid → Option Holding) (old new : FileMap) →
    SameOfRole role old new → Keeps role actions holdings old → Keeps role actions holdings new
keeps_on role actions holdings old new same keeps = record {
  actions_are = λ a. keeps.actions_are a ∙ sym (objects a);
  holders_are = λ u. by u (holdings u) (keeps.holders_are u);
  shadows_are = λ u is. ap is_some (same (slot.Shadow u) (ap Some is)) ∙ keeps.shadows_are u is;
}
  where
    objects : (a : Uid) → objects_of new role a ≡ objects_of old role a
    objects a = ap (option_map named_in) (same (slot.Prepared role a) refl)

    by : (u : Uid) (h : Option Holding) →
        MatchOption h ((a : Uid) → is_named (objects_of old role a) u ≡ false) (λ h. is_named (objects_of old role h.act) u ≡ true)
        → MatchOption h ((a : Uid) → is_named (objects_of new role a) u ≡ false) (λ h. is_named (objects_of new role h.act) u ≡ true)
    by u None none = λ a. ap (λ o. is_named o u) (objects a) ∙ none a
    by u (Some h) named = ap (λ o. is_named o u) (objects h.act) ∙ named

-- what the store has in memory still fits the files where those of its role are as before
pub store_keeps_on : (store : ShadowStore) (old new : FileMap) → SameOfRole (role_kept store) old new → StoreKeeps store old →
    StoreKeeps store new
store_keeps_on store old new same keeps = keeps_on store.role (at store.pending.actions) (at store.pending.holdings) old new same keeps
