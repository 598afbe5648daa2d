-- Sorted entries are determined by what stands under each Uid.
use Rattle.std.proofs.Common.{◌≡◌, ◌∙◌, false, List, [], ◌∷◌, refl, sym, ap, subst, Option, Some, None}
use Rattle.std.specs.BTreeMap.{is_at}
use Rattle.std.specs.Cmp.{IsTotalOrder}
use Rattle.std.specs.List.Sorted.{IsStrictlySortedBy}
use Rattle.std.specs.Map.{keys_of}
use Rattle.std.specs.Ordering.{is_eq}
use Rattle.std.specs.declared.cmp.Ordering.{Ordering}
use Rattle.std.specs.declared.cmp.Ordering.TheVariants.{Less, Equal, Greater}
use Rattle.std.proofs.lemmas.Map.{lookup-none}
use Rattle.std.proofs.lemmas.Map.Entries.{none_below_head}
use Rattle.arj_base.specs.Order.{uid_order}
use Rattle.arj_base.specs.declared.uid.Uid.{Uid}
use Rattle.arj_base.specs.contracts.uid.UidOrd.TheImpl.Laws.{total-law}
use Rattle.arj_store.specs.Listed.{at_uid, AreEntries}
use Rattle.arj_store.proofs.Uids.{order_exact, order_itself}

total : IsTotalOrder uid_order
total = total-law

turned : (u w : Uid) → uid_order u w ≡ Greater → uid_order w u ≡ Less
turned u w is = total.antisymm w u ∙ rw is refl

module _ {X : Type 0} where
  here : (e : Uid × X) (es : List (Uid × X)) → at_uid e.0 (e ∷ es) ≡ Some e.1
  here e es = rw (order_itself e.0) refl

  below : (u : Uid) (e : Uid × X) (es : List (Uid × X)) → IsStrictlySortedBy uid_order (keys_of (e ∷ es)) → uid_order u e.0 ≡ Less →
      at_uid u (e ∷ es) ≡ None
  below u e es rises less = lookup-none (is_at (uid_order u)) (e ∷ es) (none_below_head total u e es rises less)

  first_gone : (e : Uid × X) (es : List (Uid × X)) → IsStrictlySortedBy uid_order (keys_of (e ∷ es)) → at_uid e.0 es ≡ None
  unfolding IsStrictlySortedBy
  first_gone e [] rises = refl
  first_gone e (f ∷ fs) rises = below e.0 f fs rises.1 rises.0.0

  rest_rises : (e : Uid × X) (es : List (Uid × X)) → IsStrictlySortedBy uid_order (keys_of (e ∷ es)) →
      IsStrictlySortedBy uid_order (keys_of es)
  unfolding IsStrictlySortedBy
  rest_rises e es rises = rises.1

  other : (u : Uid) (e : Uid × X) (es : List (Uid × X)) → is_eq (uid_order u e.0) ≡ false → at_uid u (e ∷ es) ≡ at_uid u es
  other u e es isnt = rw isnt refl

  -- both lists have nothing more under the first key, and under each other what the whole lists have
  rests : (e f : Uid × X) (es fs : List (Uid × X)) → IsStrictlySortedBy uid_order (keys_of (e ∷ es)) →
      IsStrictlySortedBy uid_order (keys_of (f ∷ fs)) → e.0 ≡ f.0
      → ((u : Uid) → at_uid u (e ∷ es) ≡ at_uid u (f ∷ fs)) → (u : Uid) → at_uid u es ≡ at_uid u fs
  rests e f es fs rises rises' keys same u = by (uid_order u e.0) refl
    where
      apart : is_eq (uid_order u e.0) ≡ false → at_uid u es ≡ at_uid u fs
      apart isnt = sym (other u e es isnt) ∙ same u ∙ other u f fs (subst (λ k. is_eq (uid_order u k) ≡ false) keys isnt)

      by : (o : Ordering) → uid_order u e.0 ≡ o → at_uid u es ≡ at_uid u fs
      by Less is = apart (ap is_eq is)
      by Greater is = apart (ap is_eq is)
      by Equal is =
          let first = order_exact u e.0 is in
          subst (λ k. at_uid k es ≡ None) (sym first) (first_gone e es rises) ∙ sym (subst (λ k. at_uid k fs ≡ None) (sym (first ∙ keys)) (first_gone f fs rises'))

  pub same_entries : (es fs : List (Uid × X)) → IsStrictlySortedBy uid_order (keys_of es) → IsStrictlySortedBy uid_order (keys_of fs) →
      ((u : Uid) → at_uid u es ≡ at_uid u fs) → es ≡ fs
  same_entries [] [] rises rises' same = refl
  same_entries [] (f ∷ fs) rises rises' same = let never : None ≡ Some f.1 = same f.0 ∙ here f fs in cc
  same_entries (e ∷ es) [] rises rises' same = let never : Some e.1 ≡ None = sym (here e es) ∙ same e.0 in cc
  same_entries (e ∷ es) (f ∷ fs) rises rises' same =
      by (uid_order e.0 f.0) refl (same_entries es fs (rest_rises e es rises) (rest_rises f fs rises'))
    where
      by : (o : Ordering) → uid_order e.0 f.0 ≡ o → (((u : Uid) → at_uid u es ≡ at_uid u fs) → es ≡ fs) → (e ∷ es) ≡ (f ∷ fs)
      by Less is rest = let never : Some e.1 ≡ None = sym (here e es) ∙ same e.0 ∙ below e.0 f fs rises' is in cc
      by Greater is rest = let never : None ≡ Some f.1 = sym (below f.0 e es rises (turned e.0 f.0 is)) ∙ same f.0 ∙ here f fs in cc
      by Equal is rest =
          let keys = order_exact e.0 f.0 is in
          let values : Some e.1 ≡ Some f.1 =
          sym (here e es) ∙ same e.0 ∙ subst (λ k. at_uid k (f ∷ fs) ≡ Some f.1) (sym keys) (here f fs) in
          let value : e.1 ≡ f.1 = cc in
          λ i. (keys i, value i) ∷ rest (rests e f es fs rises rises' keys same) i

  pub one_list : (f g : Uid → Option X) (es fs : List (Uid × X)) → ((u : Uid) → g u ≡ f u) → AreEntries f es → AreEntries g fs → es ≡ fs
  one_list f g es fs same a b = same_entries es fs a.rises b.rises (λ u. a.there u ∙ sym (same u) ∙ sym (b.there u))
