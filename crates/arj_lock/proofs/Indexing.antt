-- The members of groups, as locks come and go.
use Rattle.std.proofs.Common.{◌≡◌, ℕ, ◌+◌, ◌<◌, Bool, true, false, cond, not, ◌&&◌, ◌||◌, List, [], ◌∷◌, length, drop, get_or, Option, Some}
use Rattle.std.proofs.Common.{None, refl, sym, ◌∙◌, ap, subst}
use Rattle.std.proofs.Math.Bool.{or-false}
use Rattle.std.proofs.lemmas.Bool.{and_parts, false_from_ne_true}
use Rattle.std.proofs.lemmas.List.{drop_more}
use Rattle.std.specs.BTreeMap.{is_at}
use Rattle.std.specs.BTreeMap.Range.{IsLeBy, IsFromStart}
use Rattle.std.specs.BTreeSet.{BTreeSet, IsKeyRangeOf, contains}
use Rattle.std.specs.List.{list_any}
use Rattle.std.specs.Ordering.{is_eq, nat_cmp}
use Rattle.std.specs.declared.ops.Bound.{Bound}
use Rattle.std.specs.declared.ops.Bound.TheVariants.{Unbounded}
use Rattle.arj_base.specs.Uid.{nobody}
use Rattle.arj_base.specs.declared.uid.Uid.{Uid}
use Rattle.arj_base.specs.Path.{uids_of}
use Rattle.arj_base.specs.Rows.{last_uid}
use Rattle.arj_base.specs.declared.mode.Mode.TheVariants.{Read, Exclude, Write}
use Rattle.arj_lock.specs.Groups.{has, is_after, member_order, same, start}
use Rattle.arj_lock.specs.Index.{AreIndexed, IsFirst, IsIndex, Joins, Leaves, has_lock, put_lock, stands, without_lock}
use Rattle.arj_lock.specs.Locks.{shown}
use Rattle.arj_lock.specs.declared.group.Group.{Group}
use Rattle.arj_lock.specs.declared.group.Group.TheVariants.{Own, Held, Below}
use Rattle.arj_lock.specs.declared.group.Member.{Member}
use Rattle.arj_lock.specs.declared.lock.Lock.{Lock}
use Rattle.arj_lock.proofs.Orders.{against, eq_is, eq_itself, found_after, found_group, found_le, from_start, group_eq, groups_are, itself}
use Rattle.arj_lock.proofs.Orders.{number, same_member}

-- ---- one member

module _ (g : Group) (n : ℕ) (old new : BTreeSet Member) where
  abbrev this : Member
  this = record { group = g; grant = n }

  pub put_one : ((q : Member) → contains member_order new q ≡ cond (is_at (member_order this) q) true (contains member_order old q))
      → (h : Group) (m : ℕ) → stands new h m ≡ (stands old h m || (is_eq (nat_cmp n m) && same g h))
  put_one puts h m =
      puts (record {
        group = h;
        grant =
            m;
      }) ∙ (λ i. cond (same_member g h n m i) true (stands old h m)) ∙ by (is_eq (nat_cmp n m) && same g h) (stands old h m)
    where
      by : (b s : Bool) → cond b true s ≡ (s || b)
      by true true = refl
      by true false = refl
      by false s = sym (or-false s)

  pub take_one : ((q : Member) → contains member_order new q ≡ cond (is_at (member_order this) q) false (contains member_order old q))
      → (h : Group) (m : ℕ) → stands new h m ≡ (stands old h m && not (is_eq (nat_cmp n m) && same g h))
  take_one takes h m =
      takes (record {
        group = h;
        grant =
            m;
      }) ∙ (λ i. cond (same_member g h n m i) false (stands old h m)) ∙ by (is_eq (nat_cmp n m) && same g h) (stands old h m)
    where
      by : (b s : Bool) → cond b false s ≡ (s && not b)
      by true true = refl
      by true false = refl
      by false true = refl
      by false false = refl

-- ---- more of them

pub or_more : (x e p q : Bool) → ((x || (e && p)) || (e && q)) ≡ (x || (e && (p || q)))
or_more true e p q = refl
or_more false true p q = refl
or_more false false p q = refl

pub and_more : (x e p q : Bool) → ((x && not (e && p)) && not (e && q)) ≡ (x && not (e && (p || q)))
and_more false e p q = refl
and_more true true true q = refl
and_more true true false q = refl
and_more true false p q = refl

-- a path, one action more
module _ (path : List Uid) (i : ℕ) (within : i < length path) (n : ℕ) (old new : BTreeSet Member) (g : Group) (m : ℕ) where
  abbrev some : List Uid → Bool
  some us = list_any (λ w. same (Below w) g) us

  abbrev here : Bool
  here = is_eq (nat_cmp n m)

  abbrev u : Uid
  u = get_or path i nobody

  left : drop i path ≡ u ∷ drop (i + 1) path
  left = drop_more path i nobody within

  pub put_more : (whole : Bool) → stands new g m ≡ (stands old g m || (here && same (Below u) g)) →
      (stands old g m || (here && some (drop i path))) ≡ whole → (stands new g m || (here && some (drop (i + 1) path))) ≡ whole
  put_more whole put are =
      (λ j. put j || (here && some (drop (i + 1) path))) ∙ or_more (stands old g m) here (same (Below u) g) (some (drop (i + 1) path)) ∙ (λ j. stands old g m || (here && some (sym left j))) ∙ are

  pub take_more : (whole : Bool) → stands new g m ≡ (stands old g m && not (here && same (Below u) g)) →
      (stands old g m && not (here && some (drop i path))) ≡ whole → (stands new g m && not (here && some (drop (i + 1) path))) ≡ whole
  take_more whole taken are =
      (λ j. taken j && not (here && some (drop (i + 1) path))) ∙ and_more (stands old g m) here (same (Below u) g) (some (drop (i + 1) path)) ∙ (λ j. stands old g m && not (here && some (sym left j))) ∙ are

-- ---- the groups of a lock, six of them in turn

module _ (e : Bool) where
  abbrev put_in : Bool → Bool → Bool
  put_in s p = s || (e && p)

  abbrev out_of : Bool → Bool → Bool
  out_of s p = s && not (e && p)

  pub six_put : (s a b c d f h s1 s2 s3 s4 s5 s6 : Bool) → s1 ≡ put_in s a → s2 ≡ put_in s1 b → s3 ≡ put_in s2 c → s4 ≡ put_in s3 d →
      s5 ≡ put_in s4 f → s6 ≡ put_in s5 h
      → s6 ≡ put_in s (a || (b || (c || (d || (f || h)))))
  six_put s a b c d f h s1 s2 s3 s4 s5 s6 e1 e2 e3 e4 e5 e6 =
      e6 ∙ (λ i. put_in (e5 i) h) ∙ or_more s4 e f h
      ∙ (λ i. put_in (e4 i) (f || h)) ∙ or_more s3 e d (f || h)
      ∙ (λ i. put_in (e3 i) (d || (f || h))) ∙ or_more s2 e c (d || (f || h))
      ∙ (λ i. put_in (e2 i) (c || (d || (f || h)))) ∙ or_more s1 e b (c || (d || (f || h)))
      ∙ (λ i. put_in (e1 i) (b || (c || (d || (f || h))))) ∙ or_more s e a (b || (c || (d || (f || h))))

  pub six_taken : (s a b c d f h s1 s2 s3 s4 s5 s6 : Bool) → s1 ≡ out_of s a → s2 ≡ out_of s1 b → s3 ≡ out_of s2 c → s4 ≡ out_of s3 d →
      s5 ≡ out_of s4 f → s6 ≡ out_of s5 h
      → s6 ≡ out_of s (a || (b || (c || (d || (f || h)))))
  six_taken s a b c d f h s1 s2 s3 s4 s5 s6 e1 e2 e3 e4 e5 e6 =
      e6 ∙ (λ i. out_of (e5 i) h) ∙ and_more s4 e f h
      ∙ (λ i. out_of (e4 i) (f || h)) ∙ and_more s3 e d (f || h)
      ∙ (λ i. out_of (e3 i) (d || (f || h))) ∙ and_more s2 e c (d || (f || h))
      ∙ (λ i. out_of (e2 i) (c || (d || (f || h)))) ∙ and_more s1 e b (c || (d || (f || h)))
      ∙ (λ i. out_of (e1 i) (b || (c || (d || (f || h))))) ∙ and_more s e a (b || (c || (d || (f || h))))

-- a lock comes to its groups, and leaves them
module _ (lock : Lock) (grant : ℕ) (g : Group) (n : ℕ) (old new s1 s2 s3 s4 s5 : BTreeSet Member) (holder : Uid) (path : List Uid) (is_last : holder ≡ last_uid (uids_of lock.path)) (is_path : path ≡ uids_of lock.path) where
  abbrev is_it : Bool
  is_it = is_eq (nat_cmp grant n)

  abbrev st : BTreeSet Member → Bool
  st index = stands index g n

  abbrev own : Bool
  own = same (Own lock.object holder) g

  abbrev held : Bool
  held = same (Held holder) g

  abbrev some_of : Bool
  some_of = list_any (λ u. same (Below u) g) path

  all : (own || (held || (against lock Read g || (against lock Exclude g || (against lock Write g || some_of))))) ≡ has g (shown lock)
  all =
      (λ i. same (Own lock.object (is_last i)) g || (same (Held (is_last i)) g || (against lock Read g || (against lock Exclude g || (against lock Write g || list_any (λ u. same (Below u) g) (is_path i))))))
      ∙ groups_are lock g

  pub joins : st s1 ≡ put_in is_it (st old) own → st s2 ≡ put_in is_it (st s1) held → st s3 ≡ put_in is_it (st s2) (against lock Read g) →
      st s4 ≡ put_in is_it (st s3) (against lock Exclude g)
      → st s5 ≡ put_in is_it (st s4) (against lock Write g) → st new ≡ put_in is_it (st s5) some_of →
      st new ≡ (st old || (is_it && has g (shown lock)))
  joins e1 e2 e3 e4 e5 e6 =
      six_put is_it (st old) own held (against lock Read g) (against lock Exclude g) (against lock Write g) some_of (st s1) (st s2) (st s3) (st s4) (st s5) (st new) e1 e2 e3 e4 e5 e6 ∙ (λ i. put_in is_it (st old) (all i))

  pub leaves : st s1 ≡ out_of is_it (st old) own → st s2 ≡ out_of is_it (st s1) held → st s3 ≡ out_of is_it (st s2) (against lock Read g) →
      st s4 ≡ out_of is_it (st s3) (against lock Exclude g)
      → st s5 ≡ out_of is_it (st s4) (against lock Write g) → st new ≡ out_of is_it (st s5) some_of →
      st new ≡ (st old && not (is_it && has g (shown lock)))
  leaves e1 e2 e3 e4 e5 e6 =
      six_taken is_it (st old) own held (against lock Read g) (against lock Exclude g) (against lock Write g) some_of (st s1) (st s2) (st s3) (st s4) (st s5) (st new) e1 e2 e3 e4 e5 e6 ∙ (λ i. out_of is_it (st old) (all i))

-- ---- a lock comes or goes

pub joined_is : (grant : ℕ) (lock : Lock) (old new : BTreeSet Member) → Joins grant lock old new → (at : ℕ → Option Lock) →
    at grant ≡ None → AreIndexed at old → AreIndexed (put_lock grant lock at) new
joined_is grant lock old new joins at none are g n =
    joins g n ∙ (λ i. are g n i || (is_eq (nat_cmp grant n) && has g (shown lock))) ∙ by (is_eq (nat_cmp grant n)) refl
  where
    by : (b : Bool) → is_eq (nat_cmp grant n) ≡ b →
        (has_lock g (at n) || (b && has g (shown lock))) ≡ has_lock g (cond b (Some lock) (at n))
    by true own = (λ i. has_lock g ((ap at (sym (number grant n own)) ∙ none) i) || has g (shown lock))
    by false other = or-false (has_lock g (at n))

pub left_is : (grant : ℕ) (lock : Lock) (old new : BTreeSet Member) → Leaves grant lock old new → (at : ℕ → Option Lock) →
    at grant ≡ Some lock → AreIndexed at old → AreIndexed (without_lock grant at) new
left_is grant lock old new leaves at there are g n =
    leaves g n ∙ (λ i. are g n i && not (is_eq (nat_cmp grant n) && has g (shown lock))) ∙ by (is_eq (nat_cmp grant n)) refl
  where
    gone : (b : Bool) → (b && not b) ≡ false
    gone true = refl
    gone false = refl

    stays : (b : Bool) → (b && true) ≡ b
    stays true = refl
    stays false = refl

    by : (b : Bool) → is_eq (nat_cmp grant n) ≡ b → (has_lock g (at n) && not (b && has g (shown lock))) ≡ has_lock g (cond b None (at n))
    by true own = (λ i. has_lock g ((ap at (sym (number grant n own)) ∙ there) i) && not (has g (shown lock))) ∙ gone (has g (shown lock))
    by false other = stays (has_lock g (at n))

pub left_index : (grant : ℕ) (lock : Lock) (old new : BTreeSet Member) → Leaves grant lock old new → (at : ℕ → Option Lock) →
    at grant ≡ Some lock → (whole : Bool) → IsIndex at whole old → IsIndex (without_lock grant at) whole new
left_index grant lock old new leaves at there true are = left_is grant lock old new leaves at there are
left_index grant lock old new leaves at there false are = tt

-- ---- the first member of a group

module _ (index : BTreeSet Member) (g : Group) (after : Option ℕ) where
  abbrev test : ℕ → Bool
  test n = stands index g n && is_after after n

  pub first_none : ((q : Member) → IsFromStart member_order (start g after) q → contains member_order index q ≡ false) → IsFirst test None
  first_none none m = false_from_ne_true (test m) (λ is.
      let p = and_parts (stands index g m) (is_after after m) is in
      let never : true ≡ false = sym p.0 ∙ none (record { group = g; grant = m }) (from_start g after m p.1) in cc)

  module _ (k : Member) (from : IsFromStart member_order (start g after) k) (there : contains member_order index k ≡ true)
      (least : (q : Member) → IsFromStart member_order (start g after) q → contains member_order index q ≡ true →
      IsLeBy member_order k q) where
    below : (m : ℕ) → test m ≡ true → IsLeBy member_order k (record { group = g; grant = m })
    below m is = let p =
        and_parts (stands index g m) (is_after after m) is in least (record { group = g; grant = m }) (from_start g after m p.1) p.0

    pub first_some : k.group ≡ g → IsFirst test (Some k.grant)
    first_some same_group = (
      (λ i. (ap (contains member_order index) (sym (itself g k same_group)) ∙ there) i && found_after g k same_group after from i),
      λ m is. found_le g k same_group m (below m is),
    )

    pub first_other : (k.group ≡ g → ⊥) → IsFirst test None
    first_other other m = false_from_ne_true (test m) (λ is. other (found_group g k after m from (below m is)))

-- what the range from the start on has first
module _ (index : BTreeSet Member) (g : Group) (after : Option ℕ) (lo : Bound Member) (is : lo ≡ start g after) (r : List Member) (range : IsKeyRangeOf member_order lo Unbounded index r) where
  has_range : IsKeyRangeOf member_order (start g after) Unbounded index r
  has_range = subst (λ b. IsKeyRangeOf member_order b Unbounded index r) is range

  pub range_none : r ≡ [] → IsFirst (test index g after) None
  range_none empty = first_none index g after (λ q from. has_range.5 empty q (from, tt))

  module _ (k : Member) (more : List Member) (first : r ≡ k ∷ more) where
    among : IsKeyRangeOf member_order (start g after) Unbounded index (k ∷ more)
    among = subst (IsKeyRangeOf member_order (start g after) Unbounded index) first has_range

    pub range_some : group_eq k.group g ≡ true → IsFirst (test index g after) (Some k.grant)
    range_some same_group =
        first_some index g after k among.1.0.0 among.1.1 (λ q from there. among.2 q (from, tt) there) (eq_is k.group g same_group)

    pub range_other : group_eq k.group g ≡ false → IsFirst (test index g after) None
    range_other other = first_other index g after k among.1.0.0 among.1.1 (λ q from there. among.2 q (from, tt) there)
        (λ same_group. let never : true ≡ false = sym (eq_itself g) ∙ ap (λ h. group_eq h g) (sym same_group) ∙ other in cc)
