-- Entries sorted by Uid: what stands under each Uid determines them, and what is put and taken out.
use Rattle.std.proofs.Common.{◌≡◌, ◌∙◌, Bool, true, false, cond, List, [], ◌∷◌, rules, refl, sym, ap, subst, Some, None}
use Rattle.std.specs.BTreeMap.{is_at}
use Rattle.std.specs.Cmp.{IsTotalOrder}
use Rattle.std.specs.List.{AllByRecursion}
use Rattle.std.specs.List.Sorted.{IsStrictlySortedBy}
use Rattle.std.specs.Map.{keys_of}
use Rattle.std.specs.Ordering.{is_eq, match_ordering}
use Rattle.std.specs.declared.cmp.Ordering.{Ordering}
use Rattle.std.specs.declared.cmp.Ordering.TheVariants.{Less, Equal, Greater}
use Rattle.std.proofs.lemmas.Cmp.{tied_itself}
use Rattle.std.proofs.lemmas.Map.{lookup-none}
use Rattle.std.proofs.lemmas.Map.Entries.{none_below_head}
use Rattle.arj_base.specs.Order.{uid_order}
use Rattle.arj_base.specs.declared.uid.Uid.{Uid}
use Rattle.arj_base.specs.contracts.uid.UidOrd.TheImpl.Laws.{total-law}
use Rattle.arj_protocol.specs.Order.{at_uid, put_uid, without_uid}

pub total : IsTotalOrder uid_order
total = total-law

turned : (u w : Uid) → uid_order u w ≡ Greater → uid_order w u ≡ Less
turned u w is = total.antisymm w u ∙ rw is refl

-- the order ties a Uid with itself alone
pub order_exact : (u w : Uid) → uid_order u w ≡ Equal → u ≡ w
order_exact u w e = search rules

pub order_itself : (u : Uid) → uid_order u u ≡ Equal
order_itself u = tied_itself total u

-- a Uid that passes another's test is that Uid
tied : (u w : Uid) → is_eq (uid_order u w) ≡ true → u ≡ w
tied u w is = by (uid_order u w) refl is
  where
    by : (o : Ordering) → uid_order u w ≡ o → is_eq o ≡ true → u ≡ w
    by Less e never = cc
    by Equal e same = order_exact u w e
    by Greater e never = cc

abbrev pub Rises : {X : Type 0} → List (Uid × X) → Type 0
Rises es = IsStrictlySortedBy uid_order (keys_of es)

-- the Uid is below each key
abbrev pub IsBelowAll : {X : Type 0} → Uid → List (Uid × X) → Type 0
IsBelowAll u es = AllByRecursion (λ w. uid_order u w ≡ Less) (keys_of es)

module _ {X : Type 0} where
  here : (e : Uid × X) (es : List (Uid × X)) → at_uid e.0 (e ∷ es) ≡ Some e.1
  here e es = rw (order_itself e.0) refl

  below : (u : Uid) (e : Uid × X) (es : List (Uid × X)) → Rises (e ∷ es) → uid_order u e.0 ≡ Less → at_uid u (e ∷ es) ≡ None
  below u e es rises less = lookup-none (is_at (uid_order u)) (e ∷ es) (none_below_head total u e es rises less)

  first_gone : (e : Uid × X) (es : List (Uid × X)) → Rises (e ∷ es) → at_uid e.0 es ≡ None
  unfolding IsStrictlySortedBy
  first_gone e [] rises = refl
  first_gone e (f ∷ fs) rises = below e.0 f fs rises.1 rises.0.0

  other : (u : Uid) (e : Uid × X) (es : List (Uid × X)) → is_eq (uid_order u e.0) ≡ false → at_uid u (e ∷ es) ≡ at_uid u es
  other u e es isnt = rw isnt refl

  -- both lists have nothing more under the first key, and under each other what the whole lists have
  rests : (e f : Uid × X) (es fs : List (Uid × X)) → Rises (e ∷ es) → Rises (f ∷ fs) → e.0 ≡ f.0 →
      ((u : Uid) → at_uid u (e ∷ es) ≡ at_uid u (f ∷ fs)) → (u : Uid) → at_uid u es ≡ at_uid u fs
  unfolding IsStrictlySortedBy
  rests e f es fs rises rises' keys same u = by (uid_order u e.0) refl
    where
      apart : is_eq (uid_order u e.0) ≡ false → at_uid u es ≡ at_uid u fs
      apart isnt = sym (other u e es isnt) ∙ same u ∙ other u f fs (subst (λ k. is_eq (uid_order u k) ≡ false) keys isnt)

      by : (o : Ordering) → uid_order u e.0 ≡ o → at_uid u es ≡ at_uid u fs
      by Less is = apart (ap is_eq is)
      by Greater is = apart (ap is_eq is)
      by Equal is =
          let first = order_exact u e.0 is in
          subst (λ k. at_uid k es ≡ None) (sym first) (first_gone e es rises) ∙ sym (subst (λ k. at_uid k fs ≡ None) (sym (first ∙ keys)) (first_gone f fs rises'))

  pub same_entries : (es fs : List (Uid × X)) → Rises es → Rises fs → ((u : Uid) → at_uid u es ≡ at_uid u fs) → es ≡ fs
  unfolding IsStrictlySortedBy
  same_entries [] [] rises rises' same = refl
  same_entries [] (f ∷ fs) rises rises' same = let never : None ≡ Some f.1 = same f.0 ∙ here f fs in cc
  same_entries (e ∷ es) [] rises rises' same = let never : Some e.1 ≡ None = sym (here e es) ∙ same e.0 in cc
  same_entries (e ∷ es) (f ∷ fs) rises rises' same = by (uid_order e.0 f.0) refl (same_entries es fs rises.1 rises'.1)
    where
      by : (o : Ordering) → uid_order e.0 f.0 ≡ o → (((u : Uid) → at_uid u es ≡ at_uid u fs) → es ≡ fs) → (e ∷ es) ≡ (f ∷ fs)
      by Less is rest = let never : Some e.1 ≡ None = sym (here e es) ∙ same e.0 ∙ below e.0 f fs rises' is in cc
      by Greater is rest = let never : None ≡ Some f.1 = sym (below f.0 e es rises (turned e.0 f.0 is)) ∙ same f.0 ∙ here f fs in cc
      by Equal is rest =
          let keys = order_exact e.0 f.0 is in
          let values : Some e.1 ≡ Some f.1 =
          sym (here e es) ∙ same e.0 ∙ subst (λ k. at_uid k (f ∷ fs) ≡ Some f.1) (sym keys) (here f fs) in
          let value : e.1 ≡ f.1 = cc in
          λ i. (keys i, value i) ∷ rest (rests e f es fs rises rises' keys same) i

  -- ---- an entry is put

  pub put_here : (k : Uid) (v : X) (es : List (Uid × X)) → at_uid k (put_uid k v es) ≡ Some v
  put_here k v [] = rw (order_itself k) refl
  put_here k v (e ∷ es) = by (uid_order k e.0) refl (put_here k v es)
    where
      by : (o : Ordering) → uid_order k e.0 ≡ o → at_uid k (put_uid k v es) ≡ Some v →
          at_uid k (match_ordering o ((k, v) ∷ e ∷ es) ((e.0, v) ∷ es) (e ∷ put_uid k v es)) ≡ Some v
      by Less is rest = rw (order_itself k) refl
      by Equal is rest = rw is refl
      by Greater is rest = rw is rest

  pub put_other : (k j : Uid) (v : X) (es : List (Uid × X)) → is_eq (uid_order j k) ≡ false → at_uid j (put_uid k v es) ≡ at_uid j es
  put_other k j v [] isnt = rw isnt refl
  put_other k j v (e ∷ es) isnt = by (uid_order k e.0) refl (put_other k j v es isnt)
    where
      by : (o : Ordering) → uid_order k e.0 ≡ o → at_uid j (put_uid k v es) ≡ at_uid j es →
          at_uid j (match_ordering o ((k, v) ∷ e ∷ es) ((e.0, v) ∷ es) (e ∷ put_uid k v es)) ≡ at_uid j (e ∷ es)
      by Less is rest = rw isnt refl
      by Equal is rest =
          let apart : is_eq (uid_order j e.0) ≡ false =
          subst (λ w. is_eq (uid_order j w) ≡ false) (order_exact k e.0 is) isnt in rw apart refl
      by Greater is rest = rw rest refl

  all_put : (P : Uid → Type 0) (k : Uid) (v : X) (es : List (Uid × X)) → AllByRecursion P (keys_of es) → P k →
      AllByRecursion P (keys_of (put_uid k v es))
  all_put P k v [] all p = (p, tt)
  all_put P k v (e ∷ es) all p = by (uid_order k e.0) (all_put P k v es all.1 p)
    where
      by : (o : Ordering) → AllByRecursion P (keys_of (put_uid k v es)) →
          AllByRecursion P (keys_of (match_ordering o ((k, v) ∷ e ∷ es) ((e.0, v) ∷ es) (e ∷ put_uid k v es)))
      by Less rest = (p, all)
      by Equal rest = all
      by Greater rest = (all.0, rest)

  lower_yet : (k : Uid) (w : Uid) (es : List (Uid × X)) → uid_order k w ≡ Less → IsBelowAll w es → IsBelowAll k es
  lower_yet k w [] less all = tt
  lower_yet k w (e ∷ es) less all = (total.trans k w e.0 less all.0, lower_yet k w es less all.1)

  pub put_rises : (k : Uid) (v : X) (es : List (Uid × X)) → Rises es → Rises (put_uid k v es)
  unfolding IsStrictlySortedBy
  put_rises k v [] rises = (tt, tt)
  put_rises k v (e ∷ es) rises = by (uid_order k e.0) refl (put_rises k v es rises.1)
    where
      by : (o : Ordering) → uid_order k e.0 ≡ o → Rises (put_uid k v es) →
          Rises (match_ordering o ((k, v) ∷ e ∷ es) ((e.0, v) ∷ es) (e ∷ put_uid k v es))
      by Less is rest = ((is, lower_yet k e.0 es is rises.0), rises)
      by Equal is rest = rises
      by Greater is rest = (all_put (λ w. uid_order e.0 w ≡ Less) k v es rises.0 (turned k e.0 is), rest)

  -- ---- an entry is taken out

  pub without_here : (k : Uid) (es : List (Uid × X)) → Rises es → at_uid k (without_uid k es) ≡ None
  unfolding IsStrictlySortedBy
  without_here k [] rises = refl
  without_here k (e ∷ es) rises = by (is_eq (uid_order k e.0)) refl (without_here k es rises.1)
    where
      by : (b : Bool) → is_eq (uid_order k e.0) ≡ b → at_uid k (without_uid k es) ≡ None →
          at_uid k (cond b es (e ∷ without_uid k es)) ≡ None
      by true is rest = subst (λ w. at_uid w es ≡ None) (sym (tied k e.0 is)) (first_gone e es rises)
      by false is rest = rw is rest

  pub without_other : (k j : Uid) (es : List (Uid × X)) → is_eq (uid_order j k) ≡ false → at_uid j (without_uid k es) ≡ at_uid j es
  without_other k j [] isnt = refl
  without_other k j (e ∷ es) isnt = by (is_eq (uid_order k e.0)) refl (without_other k j es isnt)
    where
      by : (b : Bool) → is_eq (uid_order k e.0) ≡ b → at_uid j (without_uid k es) ≡ at_uid j es →
          at_uid j (cond b es (e ∷ without_uid k es)) ≡ at_uid j (e ∷ es)
      by true is rest =
          let apart : is_eq (uid_order j e.0) ≡ false = subst (λ w. is_eq (uid_order j w) ≡ false) (tied k e.0 is) isnt in rw apart refl
      by false is rest = rw rest refl

  all_without : (P : Uid → Type 0) (k : Uid) (es : List (Uid × X)) → AllByRecursion P (keys_of es) →
      AllByRecursion P (keys_of (without_uid k es))
  all_without P k [] all = tt
  all_without P k (e ∷ es) all = by (is_eq (uid_order k e.0)) (all_without P k es all.1)
    where
      by : (b : Bool) → AllByRecursion P (keys_of (without_uid k es)) → AllByRecursion P (keys_of (cond b es (e ∷ without_uid k es)))
      by true rest = all.1
      by false rest = (all.0, rest)

  pub without_rises : (k : Uid) (es : List (Uid × X)) → Rises es → Rises (without_uid k es)
  unfolding IsStrictlySortedBy
  without_rises k [] rises = tt
  without_rises k (e ∷ es) rises = by (is_eq (uid_order k e.0)) (without_rises k es rises.1)
    where
      by : (b : Bool) → Rises (without_uid k es) → Rises (cond b es (e ∷ without_uid k es))
      by true rest = rises.1
      by false rest = (all_without (λ w. uid_order e.0 w ≡ Less) k es rises.0, rest)
