-- What a coordinator does is work on records alone, and a node's services stand on what it leaves.
use Rattle.std.proofs.Common.{◌≡◌, ◌∙◌, Bool, true, false, List, [], ◌∷◌, ◌++◌, refl, sym, ap, subst, Some, None, ℕ}
use Rattle.arj_disk.specs.FileMap.{FileMap}
use Rattle.arj_disk.specs.Says.{SameOfRole, slot_role}
use Rattle.arj_disk.specs.declared.slot.Role.{Role}
use Rattle.arj_disk.specs.declared.slot.Role.TheVariants.{Store, Names}
use Rattle.arj_disk.specs.declared.slot.Slot.TheVariants.{Incarnation}
use Rattle.arj_intent.specs.Records.{AreInForm, AreRecords}
use Rattle.arj_parts.specs.Kept.{RestsOn, has_naming}
use Rattle.arj_parts.specs.Records.{OnlyRecords, records_after, records_stopped, records_worked}
use Rattle.arj_parts.proofs.StateWorks.{first_and_rest, front_all}
use Rattle.arj_protocol.specs.Effect as effect
use Rattle.arj_protocol.specs.Effect.{Disk, Effect, Pair, Say, Send, Do, Work, Look, PutInc, Prepare, Commit, Abort, PutIntent}
use Rattle.arj_protocol.specs.Effect.{RemoveIntent, Stop, Before, After, InPart, stopped, worked}
use Rattle.arj_protocol.specs.Says.{AreAll, is_coord_effect, is_intent_work}
use Rattle.arj_protocol.specs.Words.{Uid}
use Rattle.arj_node.specs.Ran.{disk_after}
use Rattle.arj_parts.proofs.Rests.{has_still, inc_same}
use Rattle.arj_serve.specs.Kept as serve
use Rattle.arj_serve.specs.Kept.{NamesOn}
use Rattle.arj_serve.proofs.Roles.{KeepsOn, Stays, gives_same, naming_goes_on}
use Rattle.arj_law_store.proofs.store.Pairs.{pair_same}
use Rattle.arj_store.specs.declared.store.ObjectStore.{Ghosts}

-- a disk with these records
abbrev pub with_records : List (Uid × effect.Intent) → Disk → Disk
with_records all d = record d { intents = all }

worked_records : (w : Work) (d : Disk) → is_intent_work w ≡ true → worked w d ≡ with_records (records_worked w d.intents) d
worked_records Look d own = absurd (cc own)
worked_records (PutInc i) d own = absurd (cc own)
worked_records (Prepare r act states) d own = absurd (cc own)
worked_records (Commit r act) d own = absurd (cc own)
worked_records (Abort r act) d own = absurd (cc own)
worked_records (PutIntent top i) d own = refl
worked_records (RemoveIntent top) d own = refl

pub after_records : (es : List Effect) (d : Disk) → AreAll is_coord_effect es →
    disk_after es d ≡ with_records (records_after es d.intents) d
after_records [] d all = refl
after_records (Say b ∷ es) d all = after_records es d (first_and_rest is_coord_effect (Say b) es all).1
after_records (Send to m ∷ es) d all = after_records es d (first_and_rest is_coord_effect (Send to m) es all).1
after_records (Do w ∷ es) d all =
    let own = first_and_rest is_coord_effect (Do w) es all in
    ap (disk_after es) (worked_records w d own.0) ∙ after_records es (with_records (records_worked w d.intents) d) own.1

stopped_records : (how : Stop) (w : Work) (d : Disk) → is_intent_work w ≡ true →
    stopped how w d ≡ with_records (records_stopped how w d.intents) d
stopped_records Before w d own = refl
stopped_records After w d own = worked_records w d own
stopped_records (InPart which) Look d own = refl
stopped_records (InPart which) (PutInc i) d own = refl
stopped_records (InPart which) (Prepare r act states) d own = refl
stopped_records (InPart which) (Commit r act) d own = absurd (cc own)
stopped_records (InPart which) (Abort r act) d own = refl
stopped_records (InPart which) (PutIntent top i) d own = refl
stopped_records (InPart which) (RemoveIntent top) d own = refl

pub cut_records : (front : List Effect) (w : Work) (back : List Effect) (how : Stop) (d : Disk) →
    AreAll is_coord_effect (front ++ Do w ∷ back) →
    stopped how w (disk_after front d) ≡ with_records (records_stopped how w (records_after front d.intents)) d
cut_records front w back how d all =
    let own = front_all is_coord_effect front w back all in
    ap (stopped how w) (after_records front d own.0) ∙ stopped_records how w (with_records (records_after front d.intents) d) own.1

-- no file of a role is that of a record
pub roles_stay : (old new : FileMap) → OnlyRecords old new → (r : Role) → SameOfRole r old new
roles_stay old new only r q is =
    only q (λ top e. let never : None ≡ Some r = sym (ap slot_role e) ∙ is in cc) (λ e. let never : None ≡ Some r =
    sym (ap slot_role e) ∙ is in cc)

module _ {O : Type 0} (o : Ghosts O) (keeps_on : KeepsOn o) (stays : Stays o) (old new : FileMap) (only : OnlyRecords old new) where
  names_same : (named : Bool) (p : Pair) → o.formed old Names → NamesOn named o old p → NamesOn named o new p
  names_same true p formed on =
      let same = stays Names old new (roles_stay old new only Names) formed in
      (pair_same (o.pair old Names) (o.pair new Names) p same.1 on.0, gives_same (o.pair old Names) (o.pair new Names) same.1 on.1)
  names_same false p formed on = on

  -- the node rests on what its coordinator leaves
  pub rests_with : (n : ℕ) (d : Disk) (all : List (Uid × effect.Intent)) → AreInForm new → AreRecords new all → RestsOn o n old d →
      RestsOn o n new (with_records all d)
  rests_with n d all form are rests =
      let start : new Incarnation ≡ old Incarnation = only Incarnation (λ top e. cc e) (λ e. cc e) in
      let store = stays Store old new (roles_stay old new only Store) rests.formed.store in
      let names = stays Names old new (roles_stay old new only Names) rests.formed.names in
      record {
        formed = record {
          store = store.0;
          names = names.0;
          incarnation = has_still old new start rests.formed.incarnation;
          intents =
              form;
        };
        disk = record {
          inc = rests.disk.inc ∙ sym (inc_same old new start);
          store = pair_same (o.pair old Store) (o.pair new Store) d.store store.1 rests.disk.store;
          names = pair_same (o.pair old Names) (o.pair new Names) d.names names.1 rests.disk.names;
          intents = are;
        };
        objects = rests.objects;
        names = names_same (has_naming n) d.names rests.formed.names rests.names;
      }

  -- and so do the services stand on it
  pub services_with : (s : serve.Kept O) (d : Disk) (all : List (Uid × effect.Intent)) → serve.StandsOn o s old d →
      serve.StandsOn o s new (with_records all d)
  services_with s d all stands =
      let store = stays Store old new (roles_stay old new only Store) stands.formed in
      record {
        role_is = stands.role_is;
        keeps = keeps_on s.store old new (subst (λ r. SameOfRole r old new) (sym stands.role_is) (roles_stay old new only Store)) stands.keeps;
        formed = store.0;
        pair = pair_same (o.pair old Store) (o.pair new Store) d.store store.1 stands.pair;
        objects = stands.objects;
        naming = naming_goes_on o keeps_on stays old new s.naming d.names (roles_stay old new only Names) stands.naming;
      }
