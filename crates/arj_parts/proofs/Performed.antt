-- A coordinator's effects, one behind the other.
use Rattle.std.proofs.Common.{◌≡◌, ◌⊎◌, ◌∙◌, ℕ, List, [], ◌∷◌, ◌++◌, refl, sym, ap, subst, ⊎_elim}
use Rattle.std.proofs.lemmas.List.{append-nil, append_assoc, map-append}
use Rattle.std.specs.Prelude.{Result, Ok, Err, IsErrAnd}
use Rattle.arj_disk.specs.Disk.{PutsOrNot, Removes, Same}
use Rattle.arj_disk.specs.FileMap.{FileMap}
use Rattle.arj_disk.specs.declared.slot.Slot.TheVariants as slot
use Rattle.arj_intent.specs.Records.{AreRecords, Does, IsCut}
use Rattle.arj_node.specs.Outgoing.{Tells, effect_of, effects_of, loud}
use Rattle.arj_node.specs.declared.outgoing.Outgoing.{Outgoing}
use Rattle.arj_node.specs.declared.outgoing.Outgoing.TheVariants as of
use Rattle.arj_parts.specs.Records.{CutsRecords, DoesRecords, OnlyRecords, records_after, records_stopped, records_worked}
use Rattle.arj_protocol.specs.Effect.{Disk, Effect, Pair, Say, Send, Do, PutIntent, RemoveIntent, Intent, Stop, Before, After, InPart}
use Rattle.arj_protocol.specs.Effect.{stopped}
use Rattle.arj_protocol.specs.Order.{put_uid, without_uid}
use Rattle.arj_protocol.specs.Words.{Body, Message, Uid}

pub after_both : (es fs : List Effect) (all : List (Uid × Intent)) → records_after (es ++ fs) all ≡ records_after fs (records_after es all)
after_both [] fs all = refl
after_both (Say b ∷ es) fs all = after_both es fs all
after_both (Send to m ∷ es) fs all = after_both es fs all
after_both (Do w ∷ es) fs all = after_both es fs (records_worked w all)

pub loud_both : (es fs : List Effect) → loud (es ++ fs) ≡ loud es ++ loud fs
loud_both [] fs = refl
loud_both (Say b ∷ es) fs = ap (λ xs. Say b ∷ xs) (loud_both es fs)
loud_both (Send to m ∷ es) fs = ap (λ xs. Send to m ∷ xs) (loud_both es fs)
loud_both (Do w ∷ es) fs = loud_both es fs

pub tells_both : (es fs : List Effect) (a b c : List Outgoing) → Tells es a b → Tells fs b c → Tells (es ++ fs) a c
tells_both es fs a b c first second =
    second ∙ (ap (λ xs. xs ++ loud fs) first ∙ (append_assoc (effects_of a) (loud es) (loud fs) ∙ ap (λ xs. effects_of a ++ xs) (sym (loud_both es fs))))

pub does_both : (es fs : List Effect) (old mid new : FileMap) (was cur now : List (Uid × Intent)) (a b c : List Outgoing) →
    DoesRecords es old mid was cur a b → DoesRecords fs mid new cur now b c → DoesRecords (es ++ fs) old new was now a c
does_both es fs old mid new was cur now a b c first second = record {
  memory = second.memory ∙ (ap (records_after fs) first.memory ∙ sym (after_both es fs was));
  disk = λ all are. subst (AreRecords new) (sym (after_both es fs all)) (second.disk (records_after es all) (first.disk all are));
  tells = tells_both es fs a b c first.tells second.tells;
}

pub cut_behind : (es fs : List Effect) (old mid new : FileMap) (was cur : List (Uid × Intent)) (a b c : List Outgoing) →
    DoesRecords es old mid was cur a b → CutsRecords fs mid new b c → CutsRecords (es ++ fs) old new a c
cut_behind es fs old mid new was cur a b c first second = record {
  front = es ++ second.front;
  work = second.work;
  back = second.back;
  how = second.how;
  are = ap (λ xs. es ++ xs) second.are ∙ sym (append_assoc es second.front (Do second.work ∷ second.back));
  disk = λ all are. subst (λ rs. AreRecords new (records_stopped second.how second.work rs)) (sym (after_both es second.front all)) (second.disk (records_after es all) (first.disk all are));
  tells = tells_both es second.front a b c first.tells second.tells;
}

pub cut_before : (es fs : List Effect) (old new : FileMap) (a b : List Outgoing) → CutsRecords es old new a b →
    CutsRecords (es ++ fs) old new a b
cut_before es fs old new a b cut = record {
  front = cut.front;
  work = cut.work;
  back = cut.back ++ fs;
  how = cut.how;
  are = ap (λ xs. xs ++ fs) cut.are ∙ append_assoc cut.front (Do cut.work ∷ cut.back) fs;
  disk = cut.disk;
  tells = cut.tells;
}

pub others_both : (old mid new : FileMap) → OnlyRecords old mid → OnlyRecords mid new → OnlyRecords old new
others_both old mid new first second q apart tmp = second q apart tmp ∙ first q apart tmp

-- ---- one effect

-- a disk of which the records matter alone
abbrev nothing : Pair
nothing = record { held = []; pend = [] }

abbrev disk_with : List (Uid × Intent) → Disk
disk_with all = record { inc = 0; store = nothing; names = nothing; intents = all }

told_one : (e : Effect) (o : Outgoing) (a b : List Outgoing) → b ≡ a ++ o ∷ [] → effect_of o ≡ e → loud (e ∷ []) ≡ e ∷ [] →
    Tells (e ∷ []) a b
told_one e o a b are is heard =
    ap effects_of are ∙ (map-append effect_of a (o ∷ []) ∙ ap (λ x. effects_of a ++ x) ((λ i. is i ∷ []) ∙ sym heard))

pub said_does : (b : Body) (file : FileMap) (was : List (Uid × Intent)) (before after : List Outgoing) → after ≡ before ++ of.Say b ∷ [] →
    DoesRecords (Say b ∷ []) file file was was before after
said_does b file was before after are =
    record { memory = refl; disk = λ all is. is; tells = told_one (Say b) (of.Say b) before after are refl refl }

pub sent_does : (to : ℕ) (m : Message) (file : FileMap) (was : List (Uid × Intent)) (before after : List Outgoing) →
    after ≡ before ++ of.Send to m ∷ [] → DoesRecords (Send to m ∷ []) file file was was before after
sent_does to m file was before after are =
    record { memory = refl; disk = λ all is. is; tells = told_one (Send to m) (of.Send to m) before after are refl refl }

pub put_does : (top : Uid) (i : Intent) (old new : FileMap) (was now : List (Uid × Intent)) (outs : List Outgoing) →
    Does (PutIntent top i) old new → now ≡ put_uid top i was → DoesRecords (Do (PutIntent top i) ∷ []) old new was now outs outs
put_does top i old new was now outs does is =
    record { memory = is; disk = λ all are. does (disk_with all) are; tells = sym (append-nil (effects_of outs)) }

pub removed_does : (top : Uid) (old new : FileMap) (was now : List (Uid × Intent)) (outs : List Outgoing) →
    Does (RemoveIntent top) old new → now ≡ without_uid top was → DoesRecords (Do (RemoveIntent top) ∷ []) old new was now outs outs
removed_does top old new was now outs does is =
    record { memory = is; disk = λ all are. does (disk_with all) are; tells = sym (append-nil (effects_of outs)) }

stopped_put : (how : Stop) (top : Uid) (i : Intent) (all : List (Uid × Intent)) →
    (stopped how (PutIntent top i) (disk_with all)).intents ≡ records_stopped how (PutIntent top i) all
stopped_put Before top i all = refl
stopped_put After top i all = refl
stopped_put (InPart which) top i all = refl

stopped_removal : (how : Stop) (top : Uid) (all : List (Uid × Intent)) →
    (stopped how (RemoveIntent top) (disk_with all)).intents ≡ records_stopped how (RemoveIntent top) all
stopped_removal Before top all = refl
stopped_removal After top all = refl
stopped_removal (InPart which) top all = refl

pub put_cut : (top : Uid) (i : Intent) (old new : FileMap) (outs : List Outgoing) → IsCut (PutIntent top i) old new →
    CutsRecords (Do (PutIntent top i) ∷ []) old new outs outs
put_cut top i old new outs cut = record {
  front = [];
  work = PutIntent top i;
  back = [];
  how = cut.0;
  are = refl;
  disk = λ all are. subst (AreRecords new) (stopped_put cut.0 top i all) (cut.1 (disk_with all) are);
  tells = sym (append-nil (effects_of outs));
}

pub removed_cut : (top : Uid) (old new : FileMap) (outs : List Outgoing) → IsCut (RemoveIntent top) old new →
    CutsRecords (Do (RemoveIntent top) ∷ []) old new outs outs
removed_cut top old new outs cut = record {
  front = [];
  work = RemoveIntent top;
  back = [];
  how = cut.0;
  are = refl;
  disk = λ all are. subst (AreRecords new) (stopped_removal cut.0 top all) (cut.1 (disk_with all) are);
  tells = sym (append-nil (effects_of outs));
}

pub others_put : (old new : FileMap) (top : Uid) (bytes : List ℕ) → PutsOrNot old new (slot.Intent top) bytes → OnlyRecords old new
others_put old new top bytes puts q apart tmp = puts.others q (apart top) tmp

pub others_removed : (old new : FileMap) (top : Uid) → Same old new ⊎ Removes old new (slot.Intent top) → OnlyRecords old new
others_removed old new top did q apart tmp =
    ⊎_elim (λ (same : Same old new). same q) (λ (gone : Removes old new (slot.Intent top)). gone.others q (apart top)) did

pub others_same : (file : FileMap) → OnlyRecords file file
others_same file q apart tmp = refl

pub nothing_does : (file : FileMap) (was : List (Uid × Intent)) (outs : List Outgoing) → DoesRecords [] file file was was outs outs
nothing_does file was outs = record { memory = refl; disk = λ all is. is; tells = sym (append-nil (effects_of outs)) }

-- a fault that is handed on is the one that was answered
pub same_fault : {T E : Type 0} (r : Result T E) (fault halted : E) → IsErrAnd r (λ e. e ≡ fault) → r ≡ Err halted → fault ≡ halted
same_fault (Ok value) fault halted is e = absurd is
same_fault (Err other) fault halted is e = cc
