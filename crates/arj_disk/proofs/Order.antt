-- The order of names tells names apart, and the keys of a map are the names that have a file.
use Rattle.std.proofs.Common.{◌≡◌, ◌≢◌, ◌⊎◌, ◌∙◌, rules, sym, ap, inl, inr, refl, subst}
use Rattle.std.specs.BTreeMap.{keys, IsOrdered}
use Rattle.std.specs.List.Sorted.{IsStrictlySortedBy}
use Rattle.std.specs.Ordering.{nat_cmp, ordering_then}
use Rattle.std.specs.declared.cmp.Ordering.{Ordering}
use Rattle.std.specs.declared.cmp.Ordering.TheVariants.{Less, Equal, Greater}
use Rattle.std.proofs.lemmas.Cmp.{tied_itself}
use Rattle.std.proofs.lemmas.Map.Lookups.{exact_unsigned}
use Rattle.std.proofs.lemmas.Map.Views.{btree_map_contains_key_iff}
use Rattle.arj_base.specs.declared.uid.Uid.{Uid}
use Rattle.arj_disk.specs.declared.files.Files.{Files}
use Rattle.arj_disk.specs.declared.slot.Role.{Role}
use Rattle.arj_disk.specs.declared.slot.Role.TheVariants.{Store, Names}
use Rattle.arj_disk.specs.declared.slot.Slot.{Slot}
use Rattle.arj_disk.specs.declared.slot.Slot.TheVariants.{Incarnation, Tmp, Committed, Shadow, Prepared, Intent, Pending, Segment}
use Rattle.arj_disk.specs.contracts.slot.SlotOrd.TheImpl.Laws.{total-law}
use Rattle.arj_disk.specs.Disk.{Lists}
use Rattle.arj_disk.specs.Slot.{role_order, slot_order, uid_order}
use Rattle.arj_disk.specs.Stored.{slot_cmp, stored}
use Rattle.arj_disk.proofs.Stated.{slot_cmp_stated}

uid_exact : (u w : Uid) → uid_order u w ≡ Equal → u ≡ w
uid_exact u w e = search rules

role_exact : (r s : Role) → role_order r s ≡ Equal → r ≡ s
role_exact Store Store e = refl
role_exact Store Names e = cc
role_exact Names Store e = cc
role_exact Names Names e = refl

both_equal : (o p : Ordering) → ordering_then o p ≡ Equal → (o ≡ Equal) × (p ≡ Equal)
both_equal Less p e = cc
both_equal Equal p e = (refl, e)
both_equal Greater p e = cc

order_exact : (a b : Slot) → slot_order a b ≡ Equal → a ≡ b
order_exact Incarnation Incarnation e = refl
order_exact Tmp Tmp e = refl
order_exact (Committed u) (Committed w) e = ap Committed (uid_exact u w e)
order_exact (Shadow u) (Shadow w) e = ap Shadow (uid_exact u w e)
order_exact (Prepared r u) (Prepared s w) e =
    let both = both_equal (role_order r s) (uid_order u w) e in
    λ i. Prepared (role_exact r s both.0 i) (uid_exact u w both.1 i)
order_exact (Intent u) (Intent w) e = ap Intent (uid_exact u w e)
order_exact (Pending r u) (Pending s w) e =
    let both = both_equal (role_order r s) (uid_order u w) e in
    λ i. Pending (role_exact r s both.0 i) (uid_exact u w both.1 i)
order_exact (Segment r j) (Segment s k) e =
    let both = both_equal (role_order r s) (nat_cmp j k) e in
    λ i. Segment (role_exact r s both.0 i) (exact_unsigned j k both.1 i)
order_exact a b e = cc

pub slot_cmp_exact : (a b : Slot) → slot_cmp a b ≡ Equal → a ≡ b
slot_cmp_exact a b e = order_exact a b (sym (ap (λ order. order a b) slot_cmp_stated) ∙ e)

apart : (a b : Slot) (o : Ordering) → slot_cmp a b ≡ o → o ≢ Equal → a ≢ b
apart a b o is unequal same = unequal (sym is ∙ ap (slot_cmp a) (sym same) ∙ tied_itself total-law a)

cases_at : (a b : Slot) (o : Ordering) → slot_cmp a b ≡ o → (a ≡ b) ⊎ (a ≢ b)
cases_at a b Less is = inr (apart a b Less is (λ never. cc))
cases_at a b Equal is = inl (slot_cmp_exact a b is)
cases_at a b Greater is = inr (apart a b Greater is (λ never. cc))

-- two names are the same or not
pub slot_cases : (a b : Slot) → (a ≡ b) ⊎ (a ≢ b)
slot_cases a b = cases_at a b (slot_cmp a b) refl

pub keys_are_names : (files : Files) → IsOrdered slot_cmp files.map → Lists (stored files) (keys files.map)
keys_are_names files ordered = record {
  there = λ q. btree_map_contains_key_iff total-law slot_cmp_exact files.map q;
  increasing = subst (λ order. IsStrictlySortedBy order (keys files.map)) slot_cmp_stated ordered;
}
