-- Older segments go one after the other.
use Rattle.std.proofs.Common.{◌≡◌, ◌≢◌, ◌⊎◌, ◌∙◌, ℕ, List, ◌+◌, ◌<◌, sym, ap, subst, inl, inr, ⊎_elim, take, get_or, length, None}
use Rattle.std.specs.Prelude.{Contains}
use Rattle.arj_disk.specs.Disk.{Removes, Same}
use Rattle.arj_disk.specs.FileMap.{FileMap}
use Rattle.arj_disk.specs.declared.slot.Role.{Role}
use Rattle.arj_disk.specs.declared.slot.Slot.TheVariants as slot
use Rattle.arj_store.proofs.Lists.{all_take_more}
use Rattle.arj_segment.proofs.Changes.{number_cases}
use Rattle.arj_segment.proofs.Picked.{all_map}
use Rattle.arj_segment.specs.Steps.{AreGone, RemovesSome}

module _ (role : Role) (ks : List ℕ) (k : ℕ) (among : Contains ks k) (old mid new : FileMap) where
  removes_one : RemovesSome role ks old mid → Removes mid new (slot.Segment role k) → RemovesSome role ks old new
  removes_one some removes = record {
    each = λ j. ⊎_elim (λ (e : j ≡ k). inr (subst (Contains ks) (sym e) among, ap (λ n. new (slot.Segment role n)) e ∙ removes.gone))
        (λ (other : j ≢ k). ⊎_elim (λ (same : mid (slot.Segment role j) ≡ old (slot.Segment role j)). inl (removes.others (slot.Segment role j) (λ e. other cc) ∙ same))
        (λ (gone : Contains ks j × (mid (slot.Segment role j) ≡ None)). inr (gone.0, removes.others (slot.Segment role j) (λ e. other cc) ∙ gone.1)) (some.each j)) (number_cases j k);
    others = λ q apart. removes.others q (apart k) ∙ some.others q apart;
  }

  pub removes_or_not : RemovesSome role ks old mid → Same mid new ⊎ Removes mid new (slot.Segment role k) → RemovesSome role ks old new
  removes_or_not some =
      ⊎_elim (λ (same : Same mid new). subst (RemovesSome role ks old) (λ i q. sym (same q) i) some) (λ (removes : Removes mid new (slot.Segment role k)). removes_one some removes)

pub gone_more : (role : Role) (ks : List ℕ) (i d : ℕ) (mid new : FileMap) → i < length ks → AreGone role (take i ks) mid →
    Removes mid new (slot.Segment role (get_or ks i d)) → AreGone role (take (i + 1) ks) new
gone_more role ks i d mid new within gone removes =
    all_take_more (λ k. new (slot.Segment role k) ≡ None) ks i d within
    (all_map (λ k. mid (slot.Segment role k) ≡ None) (λ k. new (slot.Segment role k) ≡ None) (take i ks)
    (λ j is. ⊎_elim (λ (e : j ≡ get_or ks i d). ap (λ n. new (slot.Segment role n)) e ∙ removes.gone) (λ (other : j ≢ get_or ks i d). removes.others (slot.Segment role j) (λ e. other cc) ∙ is) (number_cases j (get_or ks i d))) gone)
    removes.gone
