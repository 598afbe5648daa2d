-- What a call did to the records, done or stopped, is the protocol's work.
use Rattle.std.proofs.Common.{◌≡◌, ◌⊎◌, ◌∙◌, false, List, ℕ, refl, sym, ap, subst, ⊎_elim, Some, None}
use Rattle.std.specs.Ordering.{is_eq}
use Rattle.std.specs.declared.cmp.Ordering.{Ordering}
use Rattle.std.specs.declared.cmp.Ordering.TheVariants.{Less, Equal, Greater}
use Rattle.arj_base.specs.Order.{uid_order}
use Rattle.arj_base.specs.Uid.{UidFits}
use Rattle.arj_base.specs.declared.uid.Uid.{Uid}
use Rattle.arj_disk.specs.Disk.{PutsOrNot, Removes, Same}
use Rattle.arj_disk.specs.FileMap.{FileMap}
use Rattle.arj_disk.specs.Formed.{intent_bytes}
use Rattle.arj_disk.specs.declared.slot.Slot.TheVariants as slot
use Rattle.arj_intent.specs.Records.{AreRecords, record_at, Does, IsCut, IsTheList}
use Rattle.arj_intent.proofs.Bytes.{record_is, written}
use Rattle.arj_intent.proofs.Entries.{order_exact, put_here, put_other, put_rises, without_here, without_other, without_rises, same_entries}
use Rattle.arj_intent.proofs.Stays.{OnlyRecord, other_record}
use Rattle.arj_protocol.specs.Effect as protocol
use Rattle.arj_protocol.specs.Order.{at_uid, put_uid, without_uid}

abbrev Entries : Type 0
Entries = List (Uid × protocol.Intent)

-- a record is said by its file alone
pub same_record : (old new : FileMap) (u : Uid) → new (slot.Intent u) ≡ old (slot.Intent u) → record_at new u ≡ record_at old u
same_record old new u same = rw same refl

-- what stands under the top is this, and under each other as before
records_now : (old new : FileMap) (top : Uid) (entries entries' : Entries) → OnlyRecord top old new → AreRecords old entries
    → at_uid top entries' ≡ record_at new top → ((u : Uid) → is_eq (uid_order u top) ≡ false → at_uid u entries' ≡ at_uid u entries) →
    (u : Uid) → at_uid u entries' ≡ record_at new u
records_now old new top entries entries' others are here apart u = by (uid_order u top) refl
  where
    by : (o : Ordering) → uid_order u top ≡ o → at_uid u entries' ≡ record_at new u
    by Less is = apart u (ap is_eq is) ∙ are.there u ∙ sym (same_record old new u (other_record top old new others u Less is (λ (e : Less ≡ Equal). cc)))
    by Greater is =
        apart u (ap is_eq is) ∙ are.there u ∙ sym (same_record old new u (other_record top old new others u Greater is (λ (e : Greater ≡ Equal). cc)))
    by Equal is = subst (λ w. at_uid w entries' ≡ record_at new w) (sym (order_exact u top is)) here

pub has_put : (old new : FileMap) (root top : Uid) (nodes : List ℕ) → UidFits root → OnlyRecord top old new →
    new (slot.Intent top) ≡ Some (intent_bytes root top nodes) → Does (protocol.PutIntent top (written root nodes)) old new
has_put old new root top nodes fits others here d are = record {
  there = records_now old new top d.intents (put_uid top (written root nodes) d.intents) others are
      (put_here top (written root nodes) d.intents ∙ sym (record_is new root top nodes fits here)) (λ u isnt. put_other top u (written root nodes) d.intents isnt);
  rises = put_rises top (written root nodes) d.intents are.rises;
}

no_record : (file : FileMap) (top : Uid) → file (slot.Intent top) ≡ None → record_at file top ≡ None
no_record file top is = rw is refl

pub has_removed : (old new : FileMap) (top : Uid) → OnlyRecord top old new → new (slot.Intent top) ≡ None →
    Does (protocol.RemoveIntent top) old new
has_removed old new top others here d are = record {
  there = records_now old new top d.intents (without_uid top d.intents) others are
      (without_here top d.intents are.rises ∙ sym (no_record new top here)) (λ u isnt. without_other top u d.intents isnt);
  rises = without_rises top d.intents are.rises;
}

-- nothing was done to the records
pub has_kept : (old new : FileMap) (entries : Entries) → ((u : Uid) → new (slot.Intent u) ≡ old (slot.Intent u)) → AreRecords old entries →
    AreRecords new entries
has_kept old new entries same are = record { there = λ u. are.there u ∙ sym (same_record old new u (same u)); rises = are.rises }

-- a stopped put: the record isn't there, or it is
pub cut_put : (old new : FileMap) (root top : Uid) (nodes : List ℕ) → UidFits root →
    PutsOrNot old new (slot.Intent top) (intent_bytes root top nodes) → IsCut (protocol.PutIntent top (written root nodes)) old new
cut_put old new root top nodes fits puts = ⊎_elim
    (λ (same : new (slot.Intent top) ≡ old (slot.Intent top)). not_put same)
    (λ (here : new (slot.Intent top) ≡ Some (intent_bytes root top nodes)). let cut : IsCut (protocol.PutIntent top (written root nodes)) old new = (protocol.After, has_put old new root top nodes fits puts.others here) in cut) puts.here
  where
    not_put : new (slot.Intent top) ≡ old (slot.Intent top) → IsCut (protocol.PutIntent top (written root nodes)) old new
    not_put same = (protocol.Before, λ d are. has_kept old new d.intents (λ u. by u (uid_order u top) refl) are)
      where
        by : (u : Uid) (o : Ordering) → uid_order u top ≡ o → new (slot.Intent u) ≡ old (slot.Intent u)
        by u Less is = other_record top old new puts.others u Less is (λ (e : Less ≡ Equal). cc)
        by u Greater is = other_record top old new puts.others u Greater is (λ (e : Greater ≡ Equal). cc)
        by u Equal is = subst (λ w. new (slot.Intent w) ≡ old (slot.Intent w)) (sym (order_exact u top is)) same

-- a stopped removal: the record is there as before, or it is gone
pub cut_removed : (old new : FileMap) (top : Uid) → Same old new ⊎ Removes old new (slot.Intent top) →
    IsCut (protocol.RemoveIntent top) old new
cut_removed old new top = ⊎_elim
    (λ (same : Same old new). let cut : IsCut (protocol.RemoveIntent top) old new =
    (protocol.Before, λ d are. has_kept old new d.intents (λ u. same (slot.Intent u)) are) in cut)
    (λ (gone : Removes old new (slot.Intent top)). let cut : IsCut (protocol.RemoveIntent top) old new =
    (protocol.After, has_removed old new top (λ q other _. gone.others q other) gone.gone) in cut)

-- records of the same files are the same
pub one_list : (file : FileMap) (entries : Entries) → AreRecords file entries → IsTheList file entries
one_list file entries are d are' = same_entries d.intents entries are'.rises are.rises (λ u. are'.there u ∙ sym (are.there u))
