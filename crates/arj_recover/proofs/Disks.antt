-- What the files of a node go on saying while some of them change.
use Rattle.std.proofs.Common.{◌≡◌, ◌≢◌, ◌⊎◌, ◌∙◌, ℕ, refl, sym, ap, subst, ⊎_elim, Some, None}
use Rattle.std.specs.Prelude.{IfSome}
use Rattle.arj_disk.specs.Disk.{Removes, Same}
use Rattle.arj_disk.specs.FileMap.{FileMap}
use Rattle.arj_disk.specs.Formed.{IsIntentOf}
use Rattle.arj_disk.specs.Says.{inc, slot_role, SameOfRole, OnlyOfRole}
use Rattle.arj_disk.specs.declared.slot.Role.{Role}
use Rattle.arj_disk.specs.declared.slot.Role.TheVariants as role
use Rattle.arj_disk.specs.declared.slot.Slot.{Slot}
use Rattle.arj_disk.specs.declared.slot.Slot.TheVariants as slot
use Rattle.arj_intent.specs.Records.{AreInForm, AreRecords, record_at}
use Rattle.arj_protocol.specs.Effect.{Disk, Pair}
use Rattle.arj_protocol.specs.Words.{Uid}
use Rattle.arj_recover.specs.OnDisk.{HasIncarnation, IsDiskOf, IsFormed, SaysSame}
use Rattle.arj_store.specs.Pair as files
use Rattle.arj_store.specs.declared.store.ObjectStore.{Ghosts}
use Rattle.arj_law_store.specs.store.Files.{IsPairOf}

-- a role's pair is told from its files
abbrev pub Stays : {O : Type 0} → Ghosts O → Type 0
Stays o = (r : Role) (old new : FileMap) → SameOfRole r old new → o.formed old r →
    o.formed new r × files.SamePair (o.pair old r) (o.pair new r)

pub same_pair : (p q : files.Pair) (d : Pair) → files.SamePair p q → IsPairOf p d → IsPairOf q d
same_pair p q d same are =
    record {
      held = λ u. same.committed u ∙ are.held u;
      pend = λ a. same.prepared a ∙ are.pend a;
      held_rises = are.held_rises;
      pend_rises =
          are.pend_rises;
      in_form = are.in_form;
    }

-- each record is as before
abbrev pub SameRecords : FileMap → FileMap → Type 0
SameRecords old new = (u : Uid) → new (slot.Intent u) ≡ old (slot.Intent u)

-- each file of both roles and each record is as before
pub record OnlyOwn (old new : FileMap) : Type 0 where
  pub store : SameOfRole role.Store old new
  pub names : SameOfRole role.Names old new
  pub intents : SameRecords old new

record_same : (old new : FileMap) (u : Uid) → new (slot.Intent u) ≡ old (slot.Intent u) → record_at new u ≡ record_at old u
record_same old new u same = rw same refl

pub records_same : (old new : FileMap) (d : Disk) → SameRecords old new → AreRecords old d.intents → AreRecords new d.intents
records_same old new d same are = record { there = λ u. are.there u ∙ sym (record_same old new u (same u)); rises = are.rises }

pub in_form_same : (old new : FileMap) → SameRecords old new → AreInForm old → AreInForm new
in_form_same old new same form u = subst (λ f. IfSome f (IsIntentOf u)) (sym (same u)) (form u)

-- no file changes but the incarnation and Tmp
pub only_own : (old new : FileMap) → ((q : Slot) → q ≢ slot.Incarnation → q ≢ slot.Tmp → new q ≡ old q) → OnlyOwn old new
only_own old new others = record {
  store = λ q is. others q (λ (e : q ≡ slot.Incarnation). let never : None ≡ Some role.Store =
      sym (ap slot_role e) ∙ is in cc) (λ (e : q ≡ slot.Tmp). let never : None ≡ Some role.Store = sym (ap slot_role e) ∙ is in cc);
  names = λ q is. others q (λ (e : q ≡ slot.Incarnation). let never : None ≡ Some role.Names =
      sym (ap slot_role e) ∙ is in cc) (λ (e : q ≡ slot.Tmp). let never : None ≡ Some role.Names = sym (ap slot_role e) ∙ is in cc);
  intents = λ u. others (slot.Intent u) (λ e. cc) (λ e. cc);
}

pub roles_own : (old new : FileMap) → OnlyOwn old new → (r : Role) → SameOfRole r old new
roles_own old new own role.Store = own.store
roles_own old new own role.Names = own.names

pub inc_same : (old new : FileMap) → new slot.Incarnation ≡ old slot.Incarnation → inc new ≡ inc old
inc_same old new same = rw same refl

module _ {O : Type 0} (o : Ghosts O) (stays : Stays o) (old new : FileMap) (formed : IsFormed o old) where
  pub formed_on : OnlyOwn old new → HasIncarnation new → IsFormed o new
  formed_on same has = record {
    store = (stays role.Store old new same.store formed.store).0;
    names = (stays role.Names old new same.names formed.names).0;
    incarnation = has;
    intents = in_form_same old new same.intents formed.intents;
  }

  pub said_on : (n : ℕ) (d : Disk) → OnlyOwn old new → n ≡ inc new → IsDiskOf o old d → IsDiskOf o new (record d { inc = n })
  said_on n d same is are = record {
    inc = is;
    store = same_pair (o.pair old role.Store) (o.pair new role.Store) d.store (stays role.Store old new same.store formed.store).1 are.store;
    names = same_pair (o.pair old role.Names) (o.pair new role.Names) d.names (stays role.Names old new same.names formed.names).1 are.names;
    intents = records_same old new d same.intents are.intents;
  }

  -- the incarnation too is as before
  pub says_on : OnlyOwn old new → new slot.Incarnation ≡ old slot.Incarnation → SaysSame o old new
  says_on same here d are = said_on d.inc d same (are.inc ∙ sym (inc_same old new here)) are

  -- and the files of the store change, but not its pair
  pub says_role : OnlyOfRole role.Store old new → files.SamePair (o.pair old role.Store) (o.pair new role.Store) → SaysSame o old new
  says_role only same d are = record {
    inc = are.inc ∙ sym (inc_same old new (only slot.Incarnation (λ e. cc) (λ e. cc)));
    store = same_pair (o.pair old role.Store) (o.pair new role.Store) d.store same are.store;
    names = same_pair (o.pair old role.Names) (o.pair new role.Names) d.names (stays role.Names old new (other_role only) formed.names).1 are.names;
    intents = records_same old new d (λ u. only (slot.Intent u) (λ e. cc) (λ e. cc)) are.intents;
  }
    where
      other_role : OnlyOfRole role.Store old new → SameOfRole role.Names old new
      other_role only q is =
          only q (λ (e : slot_role q ≡ Some role.Store). let never : Some role.Names ≡ Some role.Store =
          sym is ∙ e in cc) (λ (e : q ≡ slot.Tmp). let never : None ≡ Some role.Names = sym (ap slot_role e) ∙ is in cc)

  pub formed_role : OnlyOfRole role.Store old new → o.formed new role.Store → IsFormed o new
  formed_role only store = record {
    store = store;
    names = (stays role.Names old new (λ q is. only q (λ (e : slot_role q ≡ Some role.Store). let never : Some role.Names ≡ Some role.Store = sym is ∙ e in cc) (λ (e : q ≡ slot.Tmp). let never : None ≡ Some role.Names = sym (ap slot_role e) ∙ is in cc)) formed.names).0;
    incarnation = (formed.incarnation.0, only slot.Incarnation (λ e. cc) (λ e. cc) ∙ formed.incarnation.1, formed.incarnation.2);
    intents = in_form_same old new (λ u. only (slot.Intent u) (λ e. cc) (λ e. cc)) formed.intents;
  }

  -- what a stopped put left is removed, or not
  only_tmp : Same old new ⊎ Removes old new slot.Tmp → (q : Slot) → q ≢ slot.Tmp → new q ≡ old q
  only_tmp files q other = ⊎_elim (λ (same : Same old new). same q) (λ (gone : Removes old new slot.Tmp). gone.others q other) files

  tmp_own : Same old new ⊎ Removes old new slot.Tmp → OnlyOwn old new
  tmp_own files = only_own old new (λ q _ other. only_tmp files q other)

  pub inc_tmp : Same old new ⊎ Removes old new slot.Tmp → new slot.Incarnation ≡ old slot.Incarnation
  inc_tmp files = only_tmp files slot.Incarnation (λ e. cc)

  pub formed_tmp : Same old new ⊎ Removes old new slot.Tmp → IsFormed o new
  formed_tmp files = formed_on (tmp_own files) (formed.incarnation.0, inc_tmp files ∙ formed.incarnation.1, formed.incarnation.2)

  pub says_tmp : Same old new ⊎ Removes old new slot.Tmp → SaysSame o old new
  says_tmp files = says_on (tmp_own files) (inc_tmp files)
