-- The orders in which an index keeps the members of groups.
use Rattle.std.proofs.Common.{◌≡◌, ℕ, ◌≤◌, Bool, true, false, ◌&&◌, ◌||◌, List, [], ◌∷◌, Option, Some, None, refl, sym, ◌∙◌, ap, subst}
use Rattle.std.proofs.Common.{rules, arith}
use Rattle.std.proofs.Math.Bool.{and-false, or-false}
use Rattle.std.proofs.lemmas.Bool.{and_parts}
use Rattle.std.proofs.lemmas.Bool.Decides.{nat_tests}
use Rattle.std.proofs.lemmas.Cmp.{tied_itself}
use Rattle.std.proofs.lemmas.Map.Keys.{le_from_not_gt}
use Rattle.std.proofs.lemmas.Map.Lookups.{exact_unsigned}
use Rattle.std.specs.BTreeMap.Range.{IsLeBy, IsFromStart}
use Rattle.std.specs.Cmp.{IsTotalOrder}
use Rattle.std.specs.List.{list_any}
use Rattle.std.specs.Ordering.{is_eq, is_gt, nat_cmp, ordering_reverse, ordering_then}
use Rattle.std.specs.declared.cmp.Ordering.{Ordering}
use Rattle.std.specs.declared.cmp.Ordering.TheVariants.{Less, Equal, Greater}
use Rattle.arj_base.specs.Mode.{conflicting}
use Rattle.arj_base.specs.Order.{uid_order}
use Rattle.arj_base.specs.Path.{uids_of}
use Rattle.arj_base.specs.Rows.{is_on, last_uid}
use Rattle.arj_base.specs.Uid.{uid_eq}
use Rattle.arj_base.specs.declared.mode.Mode.{Mode}
use Rattle.arj_base.specs.declared.mode.Mode.TheVariants.{Read, Exclude, Write}
use Rattle.arj_base.specs.declared.uid.Uid.{Uid}
use Rattle.arj_base.proofs.Uids.{uid_same, uid_is, uid_other}
use Rattle.arj_base.specs.contracts.mode.ModeOrd.TheImpl as mode_ord
use Rattle.arj_base.specs.contracts.mode.ModePartialEq.TheImpl as mode_eqs
use Rattle.arj_base.specs.contracts.uid.UidOrd.TheImpl.Laws as uid_laws
use Rattle.arj_lock.specs.Groups.{group_order, has, is_after, member_order, same, start}
use Rattle.arj_lock.specs.Locks.{shown}
use Rattle.arj_lock.specs.contracts.group.GroupOrd.TheImpl.Laws as group_laws
use Rattle.arj_lock.specs.contracts.group.GroupPartialEq.TheImpl as group_eqs
use Rattle.arj_lock.specs.contracts.group.MemberOrd.TheImpl.Laws as member_laws
use Rattle.arj_lock.specs.declared.group.Group.{Group}
use Rattle.arj_lock.specs.declared.group.Group.TheVariants.{Own, Held, Below, Against}
use Rattle.arj_lock.specs.declared.group.Member.{Member}
use Rattle.arj_lock.specs.declared.lock.Lock.{Lock}

uid_total : IsTotalOrder uid_order
uid_total = uid_laws.total-law

pub group_total : IsTotalOrder group_order
group_total = group_laws.total-law

pub member_total : IsTotalOrder member_order
member_total = member_laws.total-law

uid_exact : (u w : Uid) → uid_order u w ≡ Equal → u ≡ w
uid_exact u w e = search rules

-- the order ties a Uid with itself alone
pub tied : (u w : Uid) → is_eq (uid_order u w) ≡ uid_eq u w
tied u w = by (uid_order u w) refl
  where
    apart : (o : Ordering) → uid_order u w ≡ o → is_eq o ≡ false → uid_eq u w ≡ false
    apart o is isnt =
        uid_other u w (λ same. let never : true ≡ false =
        sym (ap is_eq (tied_itself uid_total u)) ∙ (λ i. is_eq (uid_order u (same i))) ∙ ap is_eq is ∙ isnt in cc)

    by : (o : Ordering) → uid_order u w ≡ o → is_eq o ≡ uid_eq u w
    by Less is = sym (apart Less is refl)
    by Greater is = sym (apart Greater is refl)
    by Equal is = sym (subst (λ v. uid_eq u v ≡ true) (uid_exact u w is) (uid_same u))

pub number : (n m : ℕ) → is_eq (nat_cmp n m) ≡ true → n ≡ m
number n m is = by (nat_cmp n m) refl is
  where
    by : (o : Ordering) → nat_cmp n m ≡ o → is_eq o ≡ true → n ≡ m
    by Less e never = cc
    by Equal e same = exact_unsigned n m e
    by Greater e never = cc

pub both_eq : (a b : Ordering) → is_eq (ordering_then a b) ≡ (is_eq a && is_eq b)
both_eq Less b = refl
both_eq Equal b = refl
both_eq Greater b = refl

-- the member that was put is the one asked for
pub same_member : (g h : Group) (n m : ℕ) →
    is_eq (member_order (record { group = g; grant = n }) (record { group = h; grant = m })) ≡ (is_eq (nat_cmp n m) && same g h)
same_member g h n m = both_eq (group_order g h) (nat_cmp n m) ∙ turned (same g h) (is_eq (nat_cmp n m))
  where
    turned : (a b : Bool) → (a && b) ≡ (b && a)
    turned true true = refl
    turned true false = refl
    turned false true = refl
    turned false false = refl

-- ---- the groups of a lock

none_same : (us : List Uid) → list_any (λ (u : Uid). false) us ≡ false
none_same [] = refl
none_same (u ∷ us) = none_same us

module _ (lock : Lock) where
  abbrev path : List Uid
  path = uids_of lock.path

  abbrev pub against : Mode → Group → Bool
  against mode g = conflicting lock.mode mode && same (Against lock.object mode) g

  -- a lock is in these groups
  abbrev pub in_groups : Group → Bool
  in_groups g =
      same (Own lock.object (last_uid path)) g || (same (Held (last_uid path)) g || (against Read g || (against Exclude g || (against Write g || list_any (λ u. same (Below u) g) path))))

  abbrev rest : Bool → Bool → Bool → Bool → Bool
  rest a b c d = (a && false) || ((b && false) || ((c && false) || d))

  rest_is : (a b c d : Bool) → rest a b c d ≡ d
  rest_is a b c d = λ i. and-false a i || (and-false b i || (and-false c i || d))

  abbrev cs : Mode → Bool
  cs mode = conflicting lock.mode mode

  none : rest (cs Read) (cs Exclude) (cs Write) (list_any (λ (u : Uid). false) path) ≡ false
  none = rest_is (cs Read) (cs Exclude) (cs Write) (list_any (λ (u : Uid). false) path) ∙ none_same path

  objects : (p : Uid) (o : Ordering) → is_eq (ordering_then (uid_order lock.object p) o) ≡ (uid_eq lock.object p && is_eq o)
  objects p o = both_eq (uid_order lock.object p) o ∙ (λ i. tied lock.object p i && is_eq o)

  nothing : (c u : Bool) → (c && (u && false)) ≡ false
  nothing true true = refl
  nothing true false = refl
  nothing false u = refl

  one : (c u : Bool) → (c && (u && true)) ≡ (u && c)
  one true true = refl
  one true false = refl
  one false true = refl
  one false false = refl

  pub groups_are : (g : Group) → in_groups g ≡ has g (shown lock)
  groups_are (Own p k) =
      (λ i. objects p (uid_order (last_uid path) k) i || none i) ∙ or-false (uid_eq lock.object p && is_eq (uid_order (last_uid path) k)) ∙ (λ i. uid_eq lock.object p && tied (last_uid path) k i)
  groups_are (Held k) = (λ i. tied (last_uid path) k i || none i) ∙ or-false (uid_eq (last_uid path) k)
  groups_are (Below a) = rest_is (cs Read) (cs Exclude) (cs Write) (list_any (λ u. is_eq (uid_order u a)) path) ∙ on path
    where
      on : (us : List Uid) → list_any (λ u. is_eq (uid_order u a)) us ≡ is_on us a
      on [] = refl
      on (u ∷ us) = λ i. tied u a i || on us i
  groups_are (Against p Read) =
      (λ i. (cs Read && objects p Equal i) || ((cs Exclude && objects p Greater i) || ((cs Write && objects p Greater i) || none_same path i)))
      ∙ (λ i. one (cs Read) (uid_eq lock.object p) i || (nothing (cs Exclude) (uid_eq lock.object p) i || (nothing (cs Write) (uid_eq lock.object p) i || false)))
      ∙ or-false (uid_eq lock.object p && cs Read)
  groups_are (Against p Exclude) =
      (λ i. (cs Read && objects p Less i) || ((cs Exclude && objects p Equal i) || ((cs Write && objects p Greater i) || none_same path i)))
      ∙ (λ i. nothing (cs Read) (uid_eq lock.object p) i || (one (cs Exclude) (uid_eq lock.object p) i || (nothing (cs Write) (uid_eq lock.object p) i || false)))
      ∙ or-false (uid_eq lock.object p && cs Exclude)
  groups_are (Against p Write) =
      (λ i. (cs Read && objects p Less i) || ((cs Exclude && objects p Less i) || ((cs Write && objects p Equal i) || none_same path i)))
      ∙ (λ i. nothing (cs Read) (uid_eq lock.object p) i || (nothing (cs Exclude) (uid_eq lock.object p) i || (one (cs Write) (uid_eq lock.object p) i || false)))
      ∙ or-false (uid_eq lock.object p && cs Write)

-- ---- where a look at a group begins

abbrev at : Group → ℕ → Member
at g n = record { group = g; grant = n }

in_group : (g : Group) (n m : ℕ) (o : Ordering) → nat_cmp n m ≡ o → member_order (at g n) (at g m) ≡ o
in_group g n m o is = (λ i. ordering_then (tied_itself group_total g i) (nat_cmp n m)) ∙ is

zero_first : (n : ℕ) → is_gt (nat_cmp 0 n) ≡ false
zero_first n = grind (arith, nat_tests)

pub from_start : (g : Group) (after : Option ℕ) (n : ℕ) → is_after after n ≡ true → IsFromStart member_order (start g after) (at g n)
from_start g None n is = ap is_gt (in_group g 0 n (nat_cmp 0 n) refl) ∙ zero_first n
from_start g (Some grant) n is = in_group g grant n Less (grind (arith, nat_tests, is))

then_parts : (a b : Ordering) → ordering_then a b ≡ Equal → (a ≡ Equal) × (b ≡ Equal)
then_parts Less b e = cc
then_parts Equal b e = (refl, e)
then_parts Greater b e = cc

abbrev mode_cmp : Mode → Mode → Ordering
mode_cmp = (mode_ord.ghosts).cmp

mode_exact : (m n : Mode) → mode_cmp m n ≡ Equal → m ≡ n
mode_exact Read Read e = refl
mode_exact Read Exclude e = cc
mode_exact Read Write e = cc
mode_exact Exclude Read e = cc
mode_exact Exclude Exclude e = refl
mode_exact Exclude Write e = cc
mode_exact Write Read e = cc
mode_exact Write Exclude e = cc
mode_exact Write Write e = refl

group_exact : (g h : Group) → group_order g h ≡ Equal → g ≡ h
group_exact (Own o h) (Own p k) e =
    let w = then_parts (uid_order o p) (uid_order h k) e in λ i. Own (uid_exact o p w.0 i) (uid_exact h k w.1 i)
group_exact (Own o h) (Held k) e = cc
group_exact (Own o h) (Below a) e = cc
group_exact (Own o h) (Against p n) e = cc
group_exact (Held h) (Own p k) e = cc
group_exact (Held h) (Held k) e = ap Held (uid_exact h k e)
group_exact (Held h) (Below a) e = cc
group_exact (Held h) (Against p n) e = cc
group_exact (Below b) (Own p k) e = cc
group_exact (Below b) (Held k) e = cc
group_exact (Below b) (Below a) e = ap Below (uid_exact b a e)
group_exact (Below b) (Against p n) e = cc
group_exact (Against o m) (Own p k) e = cc
group_exact (Against o m) (Held k) e = cc
group_exact (Against o m) (Below a) e = cc
group_exact (Against o m) (Against p n) e =
    let w = then_parts (uid_order o p) (mode_cmp m n) e in λ i. Against (uid_exact o p w.0 i) (mode_exact m n w.1 i)

abbrev pub group_eq : Group → Group → Bool
group_eq = (group_eqs.ghosts).eq

pub eq_itself : (g : Group) → group_eq g g ≡ true
eq_itself (Own o h) = λ i. uid_same o i && uid_same h i
eq_itself (Held h) = uid_same h
eq_itself (Below a) = uid_same a
eq_itself (Against o Read) = λ i. uid_same o i && true
eq_itself (Against o Exclude) = λ i. uid_same o i && true
eq_itself (Against o Write) = λ i. uid_same o i && true

mode_eq_is : (m n : Mode) → (mode_eqs.ghosts).eq m n ≡ true → m ≡ n
mode_eq_is Read Read e = refl
mode_eq_is Read Exclude e = cc
mode_eq_is Read Write e = cc
mode_eq_is Exclude Read e = cc
mode_eq_is Exclude Exclude e = refl
mode_eq_is Exclude Write e = cc
mode_eq_is Write Read e = cc
mode_eq_is Write Exclude e = cc
mode_eq_is Write Write e = refl

pub eq_is : (g h : Group) → group_eq g h ≡ true → g ≡ h
eq_is (Own o h) (Own p k) e = let w = and_parts (uid_eq o p) (uid_eq h k) e in λ i. Own (uid_is o p w.0 i) (uid_is h k w.1 i)
eq_is (Own o h) (Held k) e = cc
eq_is (Own o h) (Below a) e = cc
eq_is (Own o h) (Against p n) e = cc
eq_is (Held h) (Own p k) e = cc
eq_is (Held h) (Held k) e = ap Held (uid_is h k e)
eq_is (Held h) (Below a) e = cc
eq_is (Held h) (Against p n) e = cc
eq_is (Below b) (Own p k) e = cc
eq_is (Below b) (Held k) e = cc
eq_is (Below b) (Below a) e = ap Below (uid_is b a e)
eq_is (Below b) (Against p n) e = cc
eq_is (Against o m) (Own p k) e = cc
eq_is (Against o m) (Held k) e = cc
eq_is (Against o m) (Below a) e = cc
eq_is (Against o m) (Against p n) e =
    let w = and_parts (uid_eq o p) ((mode_eqs.ghosts).eq m n) e in λ i. Against (uid_is o p w.0 i) (mode_eq_is m n w.1 i)

not_gt : (a b : Ordering) → is_gt (ordering_then a b) ≡ false → is_gt a ≡ false
not_gt Less b e = refl
not_gt Equal b e = refl
not_gt Greater b e = e

less_not_gt : (o : Ordering) → o ≡ Less → is_gt o ≡ false
less_not_gt o is = ap is_gt is

-- what is found first stands in the group, if anything behind the start does
module _ (g : Group) (k : Member) where
  not_below : (after : Option ℕ) → IsFromStart member_order (start g after) k → is_gt (group_order g k.group) ≡ false
  not_below None from = not_gt (group_order g k.group) (nat_cmp 0 k.grant) from
  not_below (Some grant) from = not_gt (group_order g k.group) (nat_cmp grant k.grant) (ap is_gt from)

  pub found_group : (after : Option ℕ) (m : ℕ) → IsFromStart member_order (start g after) k → IsLeBy member_order k (at g m) → k.group ≡ g
  found_group after m from le = by (group_order k.group g) refl
    where
      by : (o : Ordering) → group_order k.group g ≡ o → k.group ≡ g
      by Less is = let never : true ≡ false =
          ap is_gt (sym (group_total.antisymm g k.group ∙ ap ordering_reverse is)) ∙ not_below after from in cc
      by Equal is = group_exact k.group g is
      by Greater is = let never : true ≡ false = ap is_gt (sym is) ∙ not_gt (group_order k.group g) (nat_cmp k.grant m) le in cc

  module _ (same_group : k.group ≡ g) where
    pub itself : k ≡ at g k.grant
    itself = λ i. record { group = same_group i; grant = k.grant }

    pub found_le : (m : ℕ) → IsLeBy member_order k (at g m) → k.grant ≤ m
    found_le m le =
        le_from_not_gt k.grant m (ap is_gt (sym (in_group g k.grant m (nat_cmp k.grant m) refl)) ∙ ap (λ x. is_gt (member_order x (at g m))) (sym itself) ∙ le)

    pub found_after : (after : Option ℕ) → IsFromStart member_order (start g after) k → is_after after k.grant ≡ true
    found_after None from = refl
    found_after (Some grant) from =
        let e : nat_cmp grant k.grant ≡ Less =
        sym (in_group g grant k.grant (nat_cmp grant k.grant) refl) ∙ ap (member_order (at g grant)) (sym itself) ∙ from in grind (arith, nat_tests, e)
