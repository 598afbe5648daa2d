-- What services leave of a node's disk, with all that they don't touch.
use Rattle.std.proofs.Common.{◌≡◌, ◌≢◌, ◌∙◌, Bool, true, false, refl, sym, subst, None, ℕ}
use Rattle.std.specs.Prelude.{IfSome}
use Rattle.arj_base.specs.declared.uid.Uid.{Uid}
use Rattle.arj_disk.specs.FileMap.{FileMap}
use Rattle.arj_disk.specs.Formed.{IsIntentOf}
use Rattle.arj_disk.specs.Says.{slot_role, inc}
use Rattle.arj_disk.specs.declared.slot.Role.TheVariants.{Store, Names}
use Rattle.arj_disk.specs.declared.slot.Slot.{Slot}
use Rattle.arj_disk.specs.declared.slot.Slot.TheVariants.{Tmp, Incarnation, Intent}
use Rattle.arj_intent.proofs.Done.{has_kept}
use Rattle.arj_intent.specs.Records.{AreInForm, AreRecords}
use Rattle.arj_parts.specs.Kept.{RestsOn, has_naming}
use Rattle.arj_parts.proofs.StateWorks.{Leaves}
use Rattle.arj_protocol.specs.Effect.{Disk}
use Rattle.arj_recover.specs.OnDisk.{HasIncarnation}
use Rattle.arj_serve.specs.Kept as serve
use Rattle.arj_serve.specs.Kept.{NamesOn, OnlyStates}
use Rattle.arj_serve.proofs.Roles.{Stays, names_stay}
use Rattle.arj_law_store.specs.store.Files.{IsPairOf}
use Rattle.arj_law_store.proofs.store.Pairs.{pair_same}
use Rattle.arj_store.specs.declared.store.ObjectStore.{Ghosts}

-- a file that is of no role is as before
pub no_role_stays : (named : Bool) (old new : FileMap) → OnlyStates named old new → (q : Slot) → slot_role q ≡ None → q ≢ Tmp →
    new q ≡ old q
no_role_stays true old new only q none tmp = only q none tmp
no_role_stays false old new only q none tmp = only q (λ own. absurd (cc (sym none ∙ own))) tmp

pub in_form_same : (old new : FileMap) → ((u : Uid) → new (Intent u) ≡ old (Intent u)) → AreInForm old → AreInForm new
in_form_same old new same form u = subst (λ f. IfSome f (IsIntentOf u)) (sym (same u)) (form u)

pub inc_same : (old new : FileMap) → new Incarnation ≡ old Incarnation → inc new ≡ inc old
inc_same old new same = rw same refl

pub has_still : (old new : FileMap) → new Incarnation ≡ old Incarnation → HasIncarnation old → HasIncarnation new
has_still old new same (bytes, is, form) = (bytes, same ∙ is, form)

module _ {O : Type 0} (o : Ghosts O) (stays : Stays o) (old new : FileMap) (d e : Disk) where
  -- the pair of entries, at a node with naming or without
  names_on : (named : Bool) → Leaves named d e → OnlyStates named old new → o.formed old Names → IsPairOf (o.pair old Names) d.names →
      serve.IsFormed o named new → NamesOn named o new e.names
      → o.formed new Names × IsPairOf (o.pair new Names) e.names
  names_on true leaves only formed pair now on = (now.1, on.0)
  names_on false leaves only formed pair now on =
      let same = stays Names old new (names_stay old new only) formed in
      (same.0, subst (IsPairOf (o.pair new Names)) (sym (leaves.names refl)) (pair_same (o.pair old Names) (o.pair new Names) d.names same.1 pair))

  store_formed : (named : Bool) → serve.IsFormed o named new → o.formed new Store
  store_formed true now = now.0
  store_formed false now = now

  still : (n : ℕ) (named : Bool) → has_naming n ≡ named → RestsOn o n old d → Leaves named d e → OnlyStates named old new →
      serve.IsFormed o named new → serve.IsDiskOf o named new e → RestsOn o n new e
  still n named is rests leaves only formed on =
      let none = no_role_stays named old new only in
      let names = names_on named leaves only rests.formed.names rests.disk.names formed on.names in
      let start : new Incarnation ≡ old Incarnation = none Incarnation refl (λ e. cc e) in
      record {
        formed = record {
          store = store_formed named formed;
          names = names.0;
          incarnation =
              has_still old new start rests.formed.incarnation;
          intents =
              in_form_same old new (λ top. none (Intent top) refl (λ e. cc e)) rests.formed.intents;
        };
        disk = record {
          inc = leaves.inc ∙ (rests.disk.inc ∙ sym (inc_same old new start));
          store = on.store;
          names = names.1;
          intents = subst (AreRecords new) (sym leaves.intents) (has_kept old new d.intents (λ top. none (Intent top) refl (λ e. cc e)) rests.disk.intents);
        };
        objects = on.objects;
        names = subst (λ b. NamesOn b o new e.names) (sym is) on.names;
      }

  -- the node rests on what its services leave
  pub rests_still : (n : ℕ) → RestsOn o n old d → Leaves (has_naming n) d e → OnlyStates (has_naming n) old new →
      serve.IsFormed o (has_naming n) new → serve.IsDiskOf o (has_naming n) new e → RestsOn o n new e
  rests_still n = still n (has_naming n) refl
