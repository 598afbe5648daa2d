-- Lists sorted by Uid: what is put and taken out, and sets of Uids.
use Rattle.arj_law_store.proofs.Terms
use Terms.{◌≡◌, ◌∙◌, Bool, true, false, cond, not, ◌||◌, List, [], ◌∷◌, refl, sym, ap, subst, Some, None, AllByRecursion, keys_of, is_eq}
use Terms.{match_ordering, Ordering, Less, Equal, Greater, uid_order, Uid, is_on, uid_eq, uid_same, uid_is, uid_other, at_uid, put_uid}
use Terms.{without_uid, with_uid}
use Rattle.arj_base.specs.contracts.uid.UidOrd.TheImpl.Laws.{total-law}
use Rattle.arj_protocol.specs.Order.{drop_uid}
use Rattle.std.proofs.{Common.rules, lemmas.Cmp.tied_itself, lemmas.Map.lookup-none, lemmas.Map.Entries.none_below_head}
use Rattle.std.specs.{BTreeMap.is_at, Cmp.IsTotalOrder, List.list_any, List.Sorted.IsStrictlySortedBy, Set.remove_key}

pub total : IsTotalOrder uid_order
total = total-law

pub turned : (u w : Uid) → uid_order u w ≡ Greater → uid_order w u ≡ Less
turned u w is = total.antisymm w u ∙ rw is refl

-- the order ties a Uid with itself alone
pub order_exact : (u w : Uid) → uid_order u w ≡ Equal → u ≡ w
order_exact u w e = search rules

pub order_itself : (u : Uid) → uid_order u u ≡ Equal
order_itself u = tied_itself total u

-- a Uid that passes another's test is that Uid
pub tied : (u w : Uid) → is_eq (uid_order u w) ≡ true → u ≡ w
tied u w is = by (uid_order u w) refl is
  where
    by : (o : Ordering) → uid_order u w ≡ o → is_eq o ≡ true → u ≡ w
    by Less e never = cc
    by Equal e same = order_exact u w e
    by Greater e never = cc

abbrev pub Rises : {X : Type 0} → List (Uid × X) → Type 0
Rises es = IsStrictlySortedBy uid_order (keys_of es)

-- the Uid is below each key
abbrev pub IsBelowAll : {X : Type 0} → Uid → List (Uid × X) → Type 0
IsBelowAll u es = AllByRecursion (λ w. uid_order u w ≡ Less) (keys_of es)

module _ {X : Type 0} where
  pub here : (e : Uid × X) (es : List (Uid × X)) → at_uid e.0 (e ∷ es) ≡ Some e.1
  here e es = rw (order_itself e.0) refl

  below : (u : Uid) (e : Uid × X) (es : List (Uid × X)) → Rises (e ∷ es) → uid_order u e.0 ≡ Less → at_uid u (e ∷ es) ≡ None
  below u e es rises less = lookup-none (is_at (uid_order u)) (e ∷ es) (none_below_head total u e es rises less)

  pub first_gone : (e : Uid × X) (es : List (Uid × X)) → Rises (e ∷ es) → at_uid e.0 es ≡ None
  unfolding IsStrictlySortedBy
  first_gone e [] rises = refl
  first_gone e (f ∷ fs) rises = below e.0 f fs rises.1 rises.0.0

  -- ---- an entry is put

  pub put_here : (k : Uid) (v : X) (es : List (Uid × X)) → at_uid k (put_uid k v es) ≡ Some v
  put_here k v [] = rw (order_itself k) refl
  put_here k v (e ∷ es) = by (uid_order k e.0) refl (put_here k v es)
    where
      by : (o : Ordering) → uid_order k e.0 ≡ o → at_uid k (put_uid k v es) ≡ Some v →
          at_uid k (match_ordering o ((k, v) ∷ e ∷ es) ((e.0, v) ∷ es) (e ∷ put_uid k v es)) ≡ Some v
      by Less is rest = rw (order_itself k) refl
      by Equal is rest = rw is refl
      by Greater is rest = rw is rest

  pub put_other : (k j : Uid) (v : X) (es : List (Uid × X)) → is_eq (uid_order j k) ≡ false → at_uid j (put_uid k v es) ≡ at_uid j es
  put_other k j v [] isnt = rw isnt refl
  put_other k j v (e ∷ es) isnt = by (uid_order k e.0) refl (put_other k j v es isnt)
    where
      by : (o : Ordering) → uid_order k e.0 ≡ o → at_uid j (put_uid k v es) ≡ at_uid j es →
          at_uid j (match_ordering o ((k, v) ∷ e ∷ es) ((e.0, v) ∷ es) (e ∷ put_uid k v es)) ≡ at_uid j (e ∷ es)
      by Less is rest = rw isnt refl
      by Equal is rest = let apart : is_eq (uid_order j e.0) ≡ false = subst (λ w. is_eq (uid_order j w) ≡ false) (order_exact k e.0 is)
          isnt in rw apart refl
      by Greater is rest = rw rest refl

  all_put : (P : Uid → Type 0) (k : Uid) (v : X) (es : List (Uid × X)) → AllByRecursion P (keys_of es) → P k →
      AllByRecursion P (keys_of (put_uid k v es))
  all_put P k v [] all p = (p, tt)
  all_put P k v (e ∷ es) all p = by (uid_order k e.0) (all_put P k v es all.1 p)
    where
      by : (o : Ordering) → AllByRecursion P (keys_of (put_uid k v es)) →
          AllByRecursion P (keys_of (match_ordering o ((k, v) ∷ e ∷ es) ((e.0, v) ∷ es) (e ∷ put_uid k v es)))
      by Less rest = (p, all)
      by Equal rest = all
      by Greater rest = (all.0, rest)

  lower_yet : (k : Uid) (w : Uid) (es : List (Uid × X)) → uid_order k w ≡ Less → IsBelowAll w es → IsBelowAll k es
  lower_yet k w [] less all = tt
  lower_yet k w (e ∷ es) less all = (total.trans k w e.0 less all.0, lower_yet k w es less all.1)

  pub put_rises : (k : Uid) (v : X) (es : List (Uid × X)) → Rises es → Rises (put_uid k v es)
  unfolding IsStrictlySortedBy
  put_rises k v [] rises = (tt, tt)
  put_rises k v (e ∷ es) rises = by (uid_order k e.0) refl (put_rises k v es rises.1)
    where
      by : (o : Ordering) → uid_order k e.0 ≡ o → Rises (put_uid k v es) →
          Rises (match_ordering o ((k, v) ∷ e ∷ es) ((e.0, v) ∷ es) (e ∷ put_uid k v es))
      by Less is rest = ((is, lower_yet k e.0 es is rises.0), rises)
      by Equal is rest = rises
      by Greater is rest = (all_put (λ w. uid_order e.0 w ≡ Less) k v es rises.0 (turned k e.0 is), rest)

  -- ---- an entry is taken out

  pub without_here : (k : Uid) (es : List (Uid × X)) → Rises es → at_uid k (without_uid k es) ≡ None
  unfolding IsStrictlySortedBy
  without_here k [] rises = refl
  without_here k (e ∷ es) rises = by (is_eq (uid_order k e.0)) refl (without_here k es rises.1)
    where
      by : (b : Bool) → is_eq (uid_order k e.0) ≡ b → at_uid k (without_uid k es) ≡ None →
          at_uid k (cond b es (e ∷ without_uid k es)) ≡ None
      by true is rest = subst (λ w. at_uid w es ≡ None) (sym (tied k e.0 is)) (first_gone e es rises)
      by false is rest = rw is rest

  pub without_other : (k j : Uid) (es : List (Uid × X)) → is_eq (uid_order j k) ≡ false → at_uid j (without_uid k es) ≡ at_uid j es
  without_other k j [] isnt = refl
  without_other k j (e ∷ es) isnt = by (is_eq (uid_order k e.0)) refl (without_other k j es isnt)
    where
      by : (b : Bool) → is_eq (uid_order k e.0) ≡ b → at_uid j (without_uid k es) ≡ at_uid j es →
          at_uid j (cond b es (e ∷ without_uid k es)) ≡ at_uid j (e ∷ es)
      by true is rest = let apart : is_eq (uid_order j e.0) ≡ false = subst (λ w. is_eq (uid_order j w) ≡ false) (tied k e.0 is) isnt in
          rw apart refl
      by false is rest = rw rest refl

  all_without : (P : Uid → Type 0) (k : Uid) (es : List (Uid × X)) → AllByRecursion P (keys_of es) →
      AllByRecursion P (keys_of (without_uid k es))
  all_without P k [] all = tt
  all_without P k (e ∷ es) all = by (is_eq (uid_order k e.0)) (all_without P k es all.1)
    where
      by : (b : Bool) → AllByRecursion P (keys_of (without_uid k es)) → AllByRecursion P (keys_of (cond b es (e ∷ without_uid k es)))
      by true rest = all.1
      by false rest = (all.0, rest)

  pub without_rises : (k : Uid) (es : List (Uid × X)) → Rises es → Rises (without_uid k es)
  unfolding IsStrictlySortedBy
  without_rises k [] rises = tt
  without_rises k (e ∷ es) rises = by (is_eq (uid_order k e.0)) (without_rises k es rises.1)
    where
      by : (b : Bool) → Rises (without_uid k es) → Rises (cond b es (e ∷ without_uid k es))
      by true rest = rises.1
      by false rest = (all_without (λ w. uid_order e.0 w ≡ Less) k es rises.0, rest)

-- ---- sets

or_false : (b : Bool) → (b || false) ≡ b
or_false true = refl
or_false false = refl

pub or_turned : (a b : Bool) → (a || b) ≡ (b || a)
or_turned true true = refl
or_turned true false = refl
or_turned false true = refl
or_turned false false = refl

or_known : (a b c : Bool) → c ≡ a → (a || b) ≡ ((a || b) || c)
or_known true b c is = refl
or_known false true c is = refl
or_known false false c is = sym is

pub or_three : (a b c : Bool) → (a || (b || c)) ≡ ((a || b) || c)
or_three true b c = refl
or_three false b c = refl

-- the order ties a Uid with itself alone, and so does the test of parts
pub tied_is : (u w : Uid) → is_eq (uid_order u w) ≡ uid_eq w u
tied_is u w = by (uid_order u w) refl
  where
    apart : (o : Ordering) → uid_order u w ≡ o → is_eq o ≡ false → uid_eq w u ≡ false
    apart o is isnt = uid_other w u (λ same. let never : true ≡ false = sym (ap is_eq (order_itself u))
        ∙ (λ i. is_eq (uid_order u (sym same i))) ∙ ap is_eq is ∙ isnt in cc)

    by : (o : Ordering) → uid_order u w ≡ o → is_eq o ≡ uid_eq w u
    by Less is = sym (apart Less is refl)
    by Greater is = sym (apart Greater is refl)
    by Equal is = sym (subst (λ v. uid_eq v u ≡ true) (order_exact u w is) (uid_same u))

pub among : (us : List Uid) (u : Uid) → list_any (is_at (uid_order u)) us ≡ is_on us u
among [] u = refl
among (w ∷ us) u = λ i. tied_is u w i || among us u i

-- a Uid below all is none of them
not_on : (u : Uid) (us : List Uid) → AllByRecursion (λ w. uid_order u w ≡ Less) us → drop_uid u us ≡ us
not_on u [] all = refl
not_on u (w ∷ us) all = by (uid_eq w u) (sym (tied_is u w) ∙ ap is_eq all.0) (not_on u us all.1)
  where
    by : (b : Bool) → b ≡ false → drop_uid u us ≡ us → cond (not b) (w ∷ drop_uid u us) (drop_uid u us) ≡ w ∷ us
    by true never rest = absurd (cc never)
    by false is rest = ap (λ ws. w ∷ ws) rest

-- of a set the one place of a Uid is every place
pub drop_is : (us : List Uid) (u : Uid) → IsStrictlySortedBy uid_order us → remove_key (is_at (uid_order u)) us ≡ drop_uid u us
unfolding IsStrictlySortedBy
drop_is [] u rises = refl
drop_is (w ∷ us) u rises = by (uid_eq w u) refl (drop_is us u rises.1)
  where
    by : (b : Bool) → uid_eq w u ≡ b → remove_key (is_at (uid_order u)) us ≡ drop_uid u us →
        cond (is_eq (uid_order u w)) us (w ∷ remove_key (is_at (uid_order u)) us) ≡ cond (not b) (w ∷ drop_uid u us) (drop_uid u us)
    by true is rest =
        let same : w ≡ u = uid_is w u is in
        (λ i. cond ((tied_is u w ∙ is) i) us (w ∷ remove_key (is_at (uid_order u)) us))
        ∙ sym (not_on u us (subst (λ v. AllByRecursion (λ x. uid_order v x ≡ Less) us) same rises.0))
    by false is rest = (λ i. cond ((tied_is u w ∙ is) i) us (w ∷ remove_key (is_at (uid_order u)) us)) ∙ ap (λ ws. w ∷ ws) rest

-- what a set has once a Uid is put into it
pub with_on : (us : List Uid) (u w : Uid) → is_on (with_uid u us) w ≡ (is_on us w || uid_eq u w)
with_on [] u w = or_false (uid_eq u w)
with_on (v ∷ us) u w = by (uid_order u v) refl (with_on us u w)
  where
    by : (o : Ordering) → uid_order u v ≡ o → is_on (with_uid u us) w ≡ (is_on us w || uid_eq u w) →
        is_on (match_ordering o (u ∷ v ∷ us) (v ∷ us) (v ∷ with_uid u us)) w ≡ (is_on (v ∷ us) w || uid_eq u w)
    by Less is rest = or_turned (uid_eq u w) (is_on (v ∷ us) w)
    by Equal is rest = or_known (uid_eq v w) (is_on us w) (uid_eq u w) (λ i. uid_eq (order_exact u v is i) w)
    by Greater is rest = (λ i. uid_eq v w || rest i) ∙ or_three (uid_eq v w) (is_on us w) (uid_eq u w)
