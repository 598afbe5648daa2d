-- Sets of Uids: a list of Uids in increasing order is told by what is on it.
use Rattle.arj_law_store.proofs.Terms
use Terms.{◌≡◌, ◌∙◌, ◌||◌, Bool, true, false, List, [], ◌∷◌, refl, sym, ap, subst, AllByRecursion, is_eq, match_ordering, Ordering, Less}
use Terms.{Equal, Greater, uid_order, is_on, uid_eq, Uid, uid_is, uid_same, with_uid}
use Rattle.arj_law_store.proofs.store.Keys.{or_turned, order_exact, tied_is, total, turned, with_on}
use Rattle.arj_protocol.specs.Order.{uid_set}
use Rattle.std.specs.List.Sorted.{IsStrictlySortedBy}

-- the Uid is below each of these
abbrev IsBelow : Uid → List Uid → Type 0
IsBelow u us = AllByRecursion (λ w. uid_order u w ≡ Less) us

below_rest : (u v : Uid) (us : List Uid) → uid_order u v ≡ Less → IsBelow v us → IsBelow u us
below_rest u v [] less all = tt
below_rest u v (w ∷ us) less all = (total.trans u v w less all.0, below_rest u v us less all.1)

below_with : (v u : Uid) (us : List Uid) → uid_order v u ≡ Less → IsBelow v us → IsBelow v (with_uid u us)
below_with v u [] less all = (less, tt)
below_with v u (w ∷ us) less all = by (uid_order u w) (below_with v u us less all.1)
  where
    by : (o : Ordering) → IsBelow v (with_uid u us) → IsBelow v (match_ordering o (u ∷ w ∷ us) (w ∷ us) (w ∷ with_uid u us))
    by Less rest = (less, all)
    by Equal rest = all
    by Greater rest = (all.0, rest)

with_rises : (u : Uid) (us : List Uid) → IsStrictlySortedBy uid_order us → IsStrictlySortedBy uid_order (with_uid u us)
unfolding IsStrictlySortedBy
with_rises u [] rises = (tt, tt)
with_rises u (v ∷ us) rises = by (uid_order u v) refl (with_rises u us rises.1)
  where
    by : (o : Ordering) → uid_order u v ≡ o → IsStrictlySortedBy uid_order (with_uid u us) →
        IsStrictlySortedBy uid_order (match_ordering o (u ∷ v ∷ us) (v ∷ us) (v ∷ with_uid u us))
    by Less is rest = ((is, below_rest u v us is rises.0), rises)
    by Equal is rest = rises
    by Greater is rest = (below_with v u us (turned u v is) rises.0, rest)

pub set_rises : (us : List Uid) → IsStrictlySortedBy uid_order (uid_set us)
unfolding IsStrictlySortedBy
set_rises [] = tt
set_rises (u ∷ us) = with_rises u (uid_set us) (set_rises us)

pub set_on : (us : List Uid) (u : Uid) → is_on (uid_set us) u ≡ is_on us u
set_on [] u = refl
set_on (w ∷ us) u = with_on (uid_set us) w u ∙ ((λ i. set_on us u i || uid_eq w u) ∙ or_turned (is_on us u) (uid_eq w u))

not_on : (u : Uid) (us : List Uid) → IsBelow u us → is_on us u ≡ false
not_on u [] all = refl
not_on u (w ∷ us) all = λ i. (sym (tied_is u w) ∙ ap is_eq all.0) i || not_on u us all.1 i

first_on : (u : Uid) (us : List Uid) → is_on (u ∷ us) u ≡ true
first_on u us = λ i. uid_same u i || is_on us u

pub same_set : (us ws : List Uid) → IsStrictlySortedBy uid_order us → IsStrictlySortedBy uid_order ws →
    ((u : Uid) → is_on us u ≡ is_on ws u) → us ≡ ws
unfolding IsStrictlySortedBy
same_set [] [] rises too same = refl
same_set [] (w ∷ ws) rises too same = let never : false ≡ true = same w ∙ first_on w ws in absurd (cc never)
same_set (u ∷ us) [] rises too same = let never : true ≡ false = sym (first_on u us) ∙ same u in absurd (cc never)
same_set (u ∷ us) (w ∷ ws) rises too same = by (uid_order u w) refl (same_set us ws rises.1 too.1)
  where
    by : (o : Ordering) → uid_order u w ≡ o → (((v : Uid) → is_on us v ≡ is_on ws v) → us ≡ ws) → u ∷ us ≡ w ∷ ws
    by Less is rest = let never : true ≡ false = sym (first_on u us) ∙ same u ∙ not_on u (w ∷ ws) (is, below_rest u w ws is too.0) in
        absurd (cc never)
    by Greater is rest = let never : true ≡ false = sym (first_on w ws) ∙ sym (same w)
        ∙ not_on w (u ∷ us) (turned u w is, below_rest w u us (turned u w is) rises.0) in absurd (cc never)
    by Equal is rest = λ i. order_exact u w is i ∷ rest (λ v. tails v (uid_eq u v) refl) i
      where
        head_is : (v : Uid) → uid_eq u v ≡ uid_eq w v
        head_is v = λ i. uid_eq (order_exact u w is i) v

        tails : (v : Uid) (b : Bool) → uid_eq u v ≡ b → is_on us v ≡ is_on ws v
        tails v true here =
            not_on v us (subst (λ x. IsBelow x us) (uid_is u v here) rises.0)
            ∙ sym (not_on v ws (subst (λ x. IsBelow x ws) (uid_is w v (sym (head_is v) ∙ here)) too.0))
        tails v false here = (λ i. sym here i || is_on us v) ∙ (same v ∙ (λ i. (sym (head_is v) ∙ here) i || is_on ws v))
