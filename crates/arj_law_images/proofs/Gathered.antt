-- What files say that were gathered of the disks of nodes.
use Rattle.std.proofs.Common.{◌≡◌, ◌∙◌, ◌≤◌, ◌<◌, ◌==◌, ◌&&◌, ◌||◌, true, false, Bool, cond, ℕ, zero, suc, List, [], ◌∷◌, ◌++◌, arith, refl}
use Rattle.std.proofs.Common.{sym, ap, subst, inl, inr, ◌⊎◌, Option, Some, None}
use Rattle.std.specs.Prelude.{IfSome, is_some, not, nat_le, unwrap_or}
use Rattle.std.specs.List.{AllByRecursion, cons_option, list_any}
use Rattle.std.specs.List.Sorted.{IsStrictlySortedBy}
use Rattle.std.specs.Option.{option_map, option_or}
use Rattle.std.specs.Ordering.{nat_cmp}
use Rattle.std.specs.declared.cmp.Ordering.TheVariants.{Less}
use Rattle.std.proofs.lemmas.Bool.{eq-eqb, eqb-true}
use Rattle.std.proofs.lemmas.Bool.Decides.{nat_tests}
use Rattle.std.proofs.lemmas.List.Elements.{filter_map-append}
use Rattle.arj_base.specs.declared.uid.Uid.{Uid}
use Rattle.arj_disk.specs.Disk.{Lists}
use Rattle.arj_disk.specs.FileMap.{FileMap}
use Rattle.arj_disk.specs.Formed.{IsIncarnation}
use Rattle.arj_disk.specs.Says.{inc, new_of, role_eq}
use Rattle.arj_disk.specs.Slot.{slot_order}
use Rattle.arj_disk.specs.declared.slot.Role.{Role}
use Rattle.arj_disk.specs.declared.slot.Role.TheVariants as role
use Rattle.arj_disk.specs.declared.slot.Slot.{Slot}
use Rattle.arj_disk.specs.declared.slot.Slot.TheVariants as slot
use Rattle.arj_image.specs.declared.image.NodeFile.{NodeFile}
use Rattle.arj_lock.proofs.Members.{In, in_filter_map, in_from}
use Rattle.arj_lock.proofs.Passes.{in_left, in_right}
use Rattle.arj_saved.specs.Files.{inc_at, inc_in, is_inc_slot, is_quiet, is_unfinished}
use Rattle.arj_saved.specs.Rows.{is_segment}
use Rattle.arj_saved.specs.Saved.{Rows, held_among, join_states, pend_among, pend_at, record_among, record_at, segment_at, segments_in, state_in_rows}
use Rattle.arj_segment.specs.Formed.{IsFormed}
use Rattle.arj_segment.specs.Says.{held, numbers, segments, state_at}
use Rattle.arj_segment.specs.declared.limits.TheConstants.{MOST_NUMBER}
use Rattle.arj_segment_file.proofs.Newest.{newest_at, newest_none}
use Rattle.arj_segment_file.specs.Format.{IsSegment, state_in, states_in}
use Rattle.arj_segment_file.specs.Newest.{newest}
use Rattle.arj_saving.specs.Gathered.{AreFilesOf, file_at, files_at}
use Rattle.arj_law_images.proofs.Grammar.{segment_is}

or_none : {A : Type 0} (o : Option A) → option_or o None ≡ o
or_none None = refl
or_none (Some x) = refl

-- the files of both roles are formed
abbrev pub AreFormed : FileMap → Type 0
AreFormed file = (r : Role) → IsFormed file r

-- ---- one node

module _ (n : ℕ) (file : FileMap) (formed : AreFormed file) where
  -- a segment that is there has a number that isn't too great, and is in the grammar
  pub low : (r : Role) (k : ℕ) (b : List ℕ) → file (slot.Segment r k) ≡ Some b → k ≤ MOST_NUMBER
  low r k b there = by (nat_le k MOST_NUMBER) refl
    where
      by : (t : Bool) → nat_le k MOST_NUMBER ≡ t → k ≤ MOST_NUMBER
      by true is = grind (arith, nat_tests)
      by false is =
          let above : MOST_NUMBER < k = grind (arith, nat_tests) in
          let p = formed r in
          let no_way : ◌≡◌ {A = Option (List ℕ)} (Some b) None = sym there ∙ p.in_place.low k above in absurd (cc no_way)

  within : (r : Role) (k : ℕ) (b : List ℕ) → file (slot.Segment r k) ≡ Some b → k < numbers
  within r k b there = let l = low r k b there in omega (arith, l)

  pub grammar : (r : Role) (k : ℕ) (b : List ℕ) → file (slot.Segment r k) ≡ Some b → is_segment b ≡ true
  grammar r k b there =
      let p = formed r in
      segment_is r b (subst (λ o. IfSome o (IsSegment r)) there (p.segments k (within r k b there)))

  module _ (r : Role) (u : Uid) where
    -- what a file has of an object, if it is a segment of the role
    abbrev its : Slot → Option (List ℕ) → Option (List ℕ)
    its (slot.Segment s k) o = cond (role_eq s r) (state_in u o) None
    its q o = None

    abbrev among : List Slot → Option (List ℕ)
    among qs = held_among (segments_in (files_at n file qs)) n r u

    none_in : (q : Slot) → its q None ≡ None
    none_in (slot.Segment s k) = by (role_eq s r)
      where
        by : (b : Bool) → ◌≡◌ {A = Option (List ℕ)} (cond b None None) None
        by true = refl
        by false = refl
    none_in slot.Incarnation = refl
    none_in slot.Tmp = refl
    none_in (slot.Committed v) = refl
    none_in (slot.Shadow v) = refl
    none_in (slot.Prepared s a) = refl
    none_in (slot.Intent a) = refl
    none_in (slot.Pending s a) = refl

    step : (q : Slot) (qs : List Slot) → among (q ∷ qs) ≡ option_or (among qs) (its q (file q))
    step q qs = by (file q) refl
      where
        at : (o : Option (List ℕ)) → Option (List ℕ)
        at o = held_among (segments_in (cons_option (option_map (λ bytes. record { node = n; slot = q; bytes = bytes }) o) (files_at n file qs))) n r u

        more : (p : Slot) (b : List ℕ) → ((s : Role) (k : ℕ) → p ≡ slot.Segment s k → is_segment b ≡ true) →
            held_among (cons_option (segment_at n p b) (segments_in (files_at n file qs))) n r u ≡ option_or (among qs) (its p (Some b))
        more (slot.Segment s k) b good =
            (λ i. held_among (cons_option (cond (good s k refl i) (Some (record { node = n; role = s; states = states_in b })) None)
            (segments_in (files_at n file qs))) n r u)
            ∙ (λ i. option_or (among qs) (cond (eq-eqb n n refl i && role_eq s r) (new_of (states_in b) u) None))
        more slot.Incarnation b good = sym (or_none (among qs))
        more slot.Tmp b good = sym (or_none (among qs))
        more (slot.Committed v) b good = sym (or_none (among qs))
        more (slot.Shadow v) b good = sym (or_none (among qs))
        more (slot.Prepared s a) b good = sym (or_none (among qs))
        more (slot.Intent a) b good = sym (or_none (among qs))
        more (slot.Pending s a) b good = sym (or_none (among qs))

        by : (o : Option (List ℕ)) → file q ≡ o → among (q ∷ qs) ≡ option_or (among qs) (its q (file q))
        by None is = ap at is ∙ sym (ap (option_or (among qs)) (ap (its q) is ∙ none_in q) ∙ or_none (among qs))
        by (Some b) is = ap at is ∙ more q b (λ s k e. grammar s k b (sym (ap file e) ∙ is)) ∙ sym (ap (option_or (among qs)) (ap (its q) is))

    -- of these segments the last that has a state has this one
    record IsLast (qs : List Slot) (x : List ℕ) : Type 0 where
      k : ℕ
      named : In (slot.Segment r k) qs
      here : state_at (segments file r) u k ≡ Some x
      later : (j : ℕ) → k < j → In (slot.Segment r j) qs → state_at (segments file r) u j ≡ None

    abbrev AreLast : List Slot → Option (List ℕ) → Type 0
    AreLast qs None = (j : ℕ) → In (slot.Segment r j) qs → state_at (segments file r) u j ≡ None
    AreLast qs (Some x) = IsLast qs x

    same_role : role_eq r r ≡ true
    same_role = by r
      where
        by : (s : Role) → role_eq s s ≡ true
        by role.Store = refl
        by role.Names = refl

    role_is : (s : Role) → role_eq s r ≡ true → s ≡ r
    role_is s = by s r
      where
        by : (s t : Role) → role_eq s t ≡ true → s ≡ t
        by role.Store role.Store e = refl
        by role.Store role.Names e = absurd (cc e)
        by role.Names role.Store e = absurd (cc e)
        by role.Names role.Names e = refl

    own : (k : ℕ) → its (slot.Segment r k) (file (slot.Segment r k)) ≡ state_at (segments file r) u k
    own k = λ i. cond (same_role i) (state_in u (file (slot.Segment r k))) None

    sorted_head : (q : Slot) (qs : List Slot) → IsStrictlySortedBy slot_order (q ∷ qs) →
        AllByRecursion (λ p. slot_order q p ≡ Less) qs × IsStrictlySortedBy slot_order qs
    unfolding IsStrictlySortedBy
    sorted_head q qs s = s

    all_in : (P : Slot → Type 0) (qs : List Slot) → AllByRecursion P qs → (p : Slot) → In p qs → P p
    all_in P [] all p i = absurd i
    all_in P (q ∷ qs) all p (inl e) = subst P e all.0
    all_in P (q ∷ qs) all p (inr i) = all_in P qs all.1 p i

    before : (j k : ℕ) → slot_order (slot.Segment r j) (slot.Segment r k) ≡ Less → j < k
    before j k = by r
      where
        less : nat_cmp j k ≡ Less → j < k
        less is = grind (arith, nat_tests)

        by : (s : Role) → slot_order (slot.Segment s j) (slot.Segment s k) ≡ Less → j < k
        by role.Store = less
        by role.Names = less

    abbrev number_of : Slot → ℕ
    number_of (slot.Segment s k) = k
    number_of q = 0

    -- a name that has nothing in front
    skip : (q : Slot) (qs : List Slot) (o : Option (List ℕ)) → its q (file q) ≡ None → IsStrictlySortedBy slot_order (q ∷ qs) →
        AreLast qs o → AreLast (q ∷ qs) (option_or o None)
    skip q qs None none sorted last = after
      where
        after : (j : ℕ) → In (slot.Segment r j) (q ∷ qs) → state_at (segments file r) u j ≡ None
        after j (inl e) = sym (own j) ∙ ap (λ p. its p (file p)) (sym e) ∙ none
        after j (inr i) = last j i
    skip q qs (Some x) none sorted last = record {
      k = last.k;
      named = inr last.named;
      here = last.here;
      later = after;
    }
      where
        after : (j : ℕ) → last.k < j → In (slot.Segment r j) (q ∷ qs) → state_at (segments file r) u j ≡ None
        after j less (inl e) = sym (own j) ∙ ap (λ p. its p (file p)) (sym e) ∙ none
        after j less (inr i) = last.later j less i

    -- a segment in front that has a state
    put : (q : Slot) (qs : List Slot) (o : Option (List ℕ)) (y : List ℕ) → its q (file q) ≡ Some y → IsStrictlySortedBy slot_order (q ∷ qs) →
        AreLast qs o → AreLast (q ∷ qs) (option_or o (Some y))
    put q qs (Some x) y has sorted last = record { k = last.k; named = inr last.named; here = last.here; later = after }
      where
        after : (j : ℕ) → last.k < j → In (slot.Segment r j) (q ∷ qs) → state_at (segments file r) u j ≡ None
        after j less (inl e) =
            let order = all_in (λ p. slot_order q p ≡ Less) qs (sorted_head q qs sorted).0 (slot.Segment r last.k) last.named in
            let under = before j last.k (subst (λ p. slot_order p (slot.Segment r last.k) ≡ Less) e order) in
            absurd (omega (arith, under, less))
        after j less (inr i) = last.later j less i
    put (slot.Segment s k) qs None y has sorted last = by (role_eq s r) refl has
      where
        by : (b : Bool) → role_eq s r ≡ b → cond b (state_in u (file (slot.Segment s k))) None ≡ Some y → IsLast (slot.Segment s k ∷ qs) y
        by false is never = absurd (cc never)
        by true is found = record {
          k = k;
          named = inl (ap (λ t. slot.Segment t k) (role_is s is));
          here = ap (λ t. state_in u (file (slot.Segment t k))) (sym (role_is s is)) ∙ found;
          later = after;
        }
          where
            after : (j : ℕ) → k < j → In (slot.Segment r j) (slot.Segment s k ∷ qs) → state_at (segments file r) u j ≡ None
            after j less (inl e) = let same : k ≡ j = ap number_of e in absurd (omega (arith, less, same))
            after j less (inr i) = last j i
    put slot.Incarnation qs None y has sorted last = absurd (cc has)
    put slot.Tmp qs None y has sorted last = absurd (cc has)
    put (slot.Committed v) qs None y has sorted last = absurd (cc has)
    put (slot.Shadow v) qs None y has sorted last = absurd (cc has)
    put (slot.Prepared s a) qs None y has sorted last = absurd (cc has)
    put (slot.Intent a) qs None y has sorted last = absurd (cc has)
    put (slot.Pending s a) qs None y has sorted last = absurd (cc has)

    last_of : (qs : List Slot) → IsStrictlySortedBy slot_order qs → AreLast qs (among qs)
    last_of [] sorted = λ j i. absurd i
    last_of (q ∷ qs) sorted = subst (AreLast (q ∷ qs)) (sym (step q qs)) (by (its q (file q)) refl (last_of qs (sorted_head q qs sorted).1))
      where
        by : (o : Option (List ℕ)) → its q (file q) ≡ o → AreLast qs (among qs) → AreLast (q ∷ qs) (option_or (among qs) (its q (file q)))
        by None is last = subst (λ o. AreLast (q ∷ qs) (option_or (among qs) o)) (sym is) (skip q qs (among qs) is sorted last)
        by (Some y) is last = subst (λ o. AreLast (q ∷ qs) (option_or (among qs) o)) (sym is) (put q qs (among qs) y is sorted last)

    -- what is held among a node's files is what its disk holds
    pub held_is : (names : List Slot) → Lists file names → among names ≡ held file r u
    held_is names lists = by (among names) (last_of names lists.increasing)
      where
        f : ℕ → Option (List ℕ)
        f = state_at (segments file r) u

        none_at : (j : ℕ) → (In (slot.Segment r j) names → f j ≡ None) → f j ≡ None
        none_at j each = at (file (slot.Segment r j)) refl
          where
            at : (o : Option (List ℕ)) → file (slot.Segment r j) ≡ o → f j ≡ None
            at None is = ap (state_in u) is
            at (Some b) is = each (in_from (slot.Segment r j) names ((lists.there (slot.Segment r j)).0 (ap is_some is)))

        by : (o : Option (List ℕ)) → AreLast names o → o ≡ held file r u
        by None last = sym (ap (option_map (λ p. p.1)) (newest_none f numbers (λ j below. none_at j (last j))))
        by (Some x) last = sym (ap (option_map (λ p. p.1)) (newest_at f last.k numbers (in_range (file (slot.Segment r last.k)) refl last.here)
            (λ j above below. none_at j (last.later j above)) ∙ (λ i. option_or (option_map (λ y. (last.k, y)) (last.here i)) (newest f last.k))))
          where
            in_range : (o : Option (List ℕ)) → file (slot.Segment r last.k) ≡ o → state_in u o ≡ Some x → last.k < numbers
            in_range None is never = absurd (cc never)
            in_range (Some b) is here = within r last.k b is

-- ---- the incarnation

inc_one : (n m : ℕ) (q : Slot) (b : List ℕ) (rest : Option ℕ) → Option ℕ
inc_one n m q b rest = cond ((m == n) && is_inc_slot q) (inc_in b) rest

pub inc_so : (n : ℕ) (file : FileMap) (b : List ℕ) → file slot.Incarnation ≡ Some b → (qs : List Slot) → In slot.Incarnation qs →
    inc_at (files_at n file qs) n ≡ inc_in b
inc_so n file b there [] i = absurd i
inc_so n file b there (q ∷ qs) i = by (file q) refl i (inc_so n file b there qs)
  where
    at : (o : Option (List ℕ)) → Option ℕ
    at o = inc_at (cons_option (option_map (λ bytes. record { node = n; slot = q; bytes = bytes }) o) (files_at n file qs)) n

    is_inc_name : Slot → Bool
    is_inc_name q = is_inc_slot q

    by : (o : Option (List ℕ)) → file q ≡ o → In slot.Incarnation (q ∷ qs) → (In slot.Incarnation qs → inc_at (files_at n file qs) n ≡ inc_in b) →
        inc_at (files_at n file (q ∷ qs)) n ≡ inc_in b
    by None is (inl e) later =
        let no_way : ◌≡◌ {A = Option (List ℕ)} None (Some b) = sym is ∙ ap file e ∙ there in absurd (cc no_way)
    by None is (inr j) later = ap at is ∙ later j
    by (Some c) is (inl e) later =
        let both : ◌≡◌ {A = Option (List ℕ)} (Some c) (Some b) = sym is ∙ ap file e ∙ there in
        let same : c ≡ b = cc both in
        ap at is ∙ (λ k. cond (eq-eqb n n refl k && is_inc_slot (e k)) (inc_in (same k)) (inc_at (files_at n file qs) n))
    by (Some c) is (inr j) later = ap at is ∙ other (is_inc_slot q) refl
      where
        other : (t : Bool) → is_inc_slot q ≡ t → cond ((n == n) && is_inc_slot q) (inc_in c) (inc_at (files_at n file qs) n) ≡ inc_in b
        other false apart = (λ k. cond (eq-eqb n n refl k && apart k) (inc_in c) (inc_at (files_at n file qs) n)) ∙ later j
        other true same =
            let both : ◌≡◌ {A = Option (List ℕ)} (Some c) (Some b) = sym is ∙ ap file (name q same) ∙ there in
            let one : c ≡ b = cc both in
            (λ k. cond (eq-eqb n n refl k && same k) (inc_in (one k)) (inc_at (files_at n file qs) n))
          where
            name : (p : Slot) → is_inc_slot p ≡ true → p ≡ slot.Incarnation
            name slot.Incarnation is = refl
            name slot.Tmp is = absurd (cc is)
            name (slot.Committed v) is = absurd (cc is)
            name (slot.Shadow v) is = absurd (cc is)
            name (slot.Prepared s a) is = absurd (cc is)
            name (slot.Intent a) is = absurd (cc is)
            name (slot.Pending s a) is = absurd (cc is)
            name (slot.Segment s k) is = absurd (cc is)

-- an incarnation's file has the number that its disk says
pub inc_back : (file : FileMap) (b : List ℕ) → file slot.Incarnation ≡ Some b → IsIncarnation b → inc_in b ≡ Some (inc file)
inc_back file b there (i, fits, is) = subst (λ c. inc_in c ≡ Some (value c)) (sym is) refl ∙ ap (λ o. Some (value (unwrap_or o []))) (sym there)
  where
    value : List ℕ → ℕ
    value c = inc (λ q. Some c)

-- ---- files of other nodes

abbrev IsOf : ℕ → NodeFile → Type 0
IsOf n f = (f.node == n) ≡ true

abbrev IsOfOther : ℕ → NodeFile → Type 0
IsOfOther n f = (f.node == n) ≡ false

other_held : (n : ℕ) (r : Role) (u : Uid) (fs : List NodeFile) → AllByRecursion (IsOfOther n) fs → held_among (segments_in fs) n r u ≡ None
other_held n r u [] all = refl
other_held n r u (f ∷ fs) all = by f.slot (other_held n r u fs all.1)
  where
    by : (q : Slot) → held_among (segments_in fs) n r u ≡ None → held_among (cons_option (segment_at f.node q f.bytes) (segments_in fs)) n r u ≡ None
    by (slot.Segment s k) ih = good (is_segment f.bytes)
      where
        good : (b : Bool) → held_among (cons_option (cond b (Some (record { node = f.node; role = s; states = states_in f.bytes })) None)
            (segments_in fs)) n r u ≡ None
        good true = (λ i. option_or (ih i) (cond (all.0 i && role_eq s r) (new_of (states_in f.bytes) u) None))
        good false = ih
    by slot.Incarnation ih = ih
    by slot.Tmp ih = ih
    by (slot.Committed v) ih = ih
    by (slot.Shadow v) ih = ih
    by (slot.Prepared s a) ih = ih
    by (slot.Intent a) ih = ih
    by (slot.Pending s a) ih = ih

held_join : (xs ys : List Rows) (n : ℕ) (r : Role) (u : Uid) → held_among (xs ++ ys) n r u ≡ option_or (held_among ys n r u) (held_among xs n r u)
held_join [] ys n r u = sym (or_none (held_among ys n r u))
held_join (x ∷ xs) ys n r u = ap (λ o. option_or o (state_in_rows n r u x)) (held_join xs ys n r u) ∙ by (held_among ys n r u)
  where
    by : (o : Option (List ℕ)) → option_or (option_or o (held_among xs n r u)) (state_in_rows n r u x) ≡ option_or o (option_or (held_among xs n r u) (state_in_rows n r u x))
    by None = refl
    by (Some y) = refl

held_both : (n : ℕ) (r : Role) (u : Uid) (xs ys : List NodeFile) → held_among (segments_in (xs ++ ys)) n r u
    ≡ option_or (held_among (segments_in ys) n r u) (held_among (segments_in xs) n r u)
held_both n r u xs ys =
    ap (λ rs. held_among rs n r u) (filter_map-append (λ (f : NodeFile). segment_at f.node f.slot f.bytes) xs ys)
    ∙ held_join (segments_in xs) (segments_in ys) n r u

inc_other : (n : ℕ) (xs ys : List NodeFile) → AllByRecursion (IsOfOther n) xs → inc_at (xs ++ ys) n ≡ inc_at ys n
inc_other n [] ys all = refl
inc_other n (x ∷ xs) ys all = (λ i. cond (all.0 i && is_inc_slot x.slot) (inc_in x.bytes) (inc_at (xs ++ ys) n)) ∙ inc_other n xs ys all.1

inc_none : (n : ℕ) (xs : List NodeFile) → AllByRecursion (IsOfOther n) xs → inc_at xs n ≡ None
inc_none n [] all = refl
inc_none n (x ∷ xs) all = (λ i. cond (all.0 i && is_inc_slot x.slot) (inc_in x.bytes) (inc_at xs n)) ∙ inc_none n xs all.1

inc_front : (n : ℕ) (xs ys : List NodeFile) → AllByRecursion (IsOfOther n) ys → inc_at (xs ++ ys) n ≡ inc_at xs n
inc_front n [] ys all = inc_none n ys all
inc_front n (x ∷ xs) ys all = ap (λ o. cond ((x.node == n) && is_inc_slot x.slot) (inc_in x.bytes) o) (inc_front n xs ys all)

-- ---- all nodes

-- the files of a node are among all: these are what the disk of the node says
pub record AreAmong (n : ℕ) (file : FileMap) (all : List NodeFile) : Type 0 where
  pub names : List Slot
  pub lists : Lists file names
  pub held_so : (r : Role) (u : Uid) → held_among (segments_in all) n r u ≡ held_among (segments_in (files_at n file names)) n r u
  pub inc_so : inc_at all n ≡ inc_at (files_at n file names) n
  pub there : (f : NodeFile) → In f (files_at n file names) → In f all

not_same : (m n : ℕ) → (m ≡ n → ⊥) → (m == n) ≡ false
not_same m n apart = by (m == n) refl
  where
    by : (b : Bool) → (m == n) ≡ b → b ≡ false
    by true is = absurd (apart (eqb-true m n is))
    by false is = refl

others_of : (m n : ℕ) (file : FileMap) → (m == n) ≡ false → (qs : List Slot) → AllByRecursion (IsOfOther n) (files_at m file qs)
others_of m n file apart [] = tt
others_of m n file apart (q ∷ qs) = by (file q) (others_of m n file apart qs)
  where
    by : (o : Option (List ℕ)) → AllByRecursion (IsOfOther n) (files_at m file qs) →
        AllByRecursion (IsOfOther n) (cons_option (option_map (λ bytes. record { node = m; slot = q; bytes = bytes }) o) (files_at m file qs))
    by None more = more
    by (Some b) more = (apart, more)

others_both : (n : ℕ) (xs ys : List NodeFile) → AllByRecursion (IsOfOther n) xs → AllByRecursion (IsOfOther n) ys → AllByRecursion (IsOfOther n) (xs ++ ys)
others_both n [] ys a b = b
others_both n (x ∷ xs) ys a b = (a.0, others_both n xs ys a.1 b)

lower_others : (files : ℕ → FileMap) (m n : ℕ) (all : List NodeFile) → m < n → AreFilesOf files m all → AllByRecursion (IsOfOther n) all
lower_others files zero n all less is = subst (AllByRecursion (IsOfOther n)) (sym is) tt
lower_others files (suc m) n all less (front, are, (names, lists, is)) = subst (AllByRecursion (IsOfOther n)) (sym is)
    (others_both n front (files_at (suc m) (files (suc m)) names) (lower_others files m n front (omega (arith, less)) are)
    (others_of (suc m) n (files (suc m)) (not_same (suc m) n (λ e. omega (arith, e, less))) names))

pub are_among : (files : ℕ → FileMap) (count : ℕ) (all : List NodeFile) → AreFilesOf files count all → (n : ℕ) → 1 ≤ n → n ≤ count →
    AreAmong n (files n) all
are_among files zero all is n least most = absurd (omega (arith, least, most))
are_among files (suc m) all (front, are, (names, lists, is)) n least most = subst (AreAmong n (files n)) (sym is)
    (by (n == suc m) refl (λ low. are_among files m front are n least low))
  where
    mine : List NodeFile
    mine = files_at (suc m) (files (suc m)) names

    by : (b : Bool) → (n == suc m) ≡ b → (n ≤ m → AreAmong n (files n) front) → AreAmong n (files n) (front ++ mine)
    by true same later = subst (λ k. AreAmong k (files k) (front ++ mine)) (sym (eqb-true n (suc m) same)) (record {
      names = names;
      lists = lists;
      held_so = λ r u. held_both (suc m) r u front mine
          ∙ ap (option_or (held_among (segments_in mine) (suc m) r u)) (other_held (suc m) r u front rest)
          ∙ or_none (held_among (segments_in mine) (suc m) r u);
      inc_so = inc_other (suc m) front mine rest;
      there = λ f i. in_right f front mine i;
    })
      where
        rest : AllByRecursion (IsOfOther (suc m)) front
        rest = lower_others files m (suc m) front (omega arith) are
    by false apart later =
        let lower = later (below (λ e. off e)) in record {
          names = lower.names;
          lists = lower.lists;
          held_so = λ r u. held_both n r u front mine
              ∙ ap (λ o. option_or o (held_among (segments_in front) n r u)) (other_held n r u mine rest) ∙ lower.held_so r u;
          inc_so = inc_front n front mine rest ∙ lower.inc_so;
          there = λ f i. in_left f front mine (lower.there f i);
        }
      where
        off : n ≡ suc m → ⊥
        off e = let no_way : true ≡ false = sym (eq-eqb n (suc m) e) ∙ apart in absurd (cc no_way)

        below : (n ≡ suc m → ⊥) → n ≤ m
        below other = less (nat_le n m) refl
          where
            less : (b : Bool) → nat_le n m ≡ b → n ≤ m
            less true is = grind (arith, nat_tests)
            less false is = let e : n ≡ suc m = grind (arith, nat_tests, most) in absurd (other e)

        rest : AllByRecursion (IsOfOther n) mine
        rest = others_of (suc m) n (files (suc m)) (not_same (suc m) n (λ e. off (sym e))) names

-- each file is one of one of the nodes
pub record IsFileOf (files : ℕ → FileMap) (count : ℕ) (f : NodeFile) : Type 0 where
  pub least : 1 ≤ f.node
  pub most : f.node ≤ count
  pub has : files f.node f.slot ≡ Some f.bytes

file_of : (m : ℕ) (file : FileMap) (f : NodeFile) (qs : List Slot) → In f (files_at m file qs) → (f.node ≡ m) × (file f.slot ≡ Some f.bytes)
file_of m file f qs i = let q = in_filter_map (file_at m file) f qs i in by q.0 (file q.0) refl q.2
  where
    by : (q : Slot) (o : Option (List ℕ)) → file q ≡ o → option_map (λ bytes. record { node = m; slot = q; bytes = bytes }) o ≡ Some f →
        (f.node ≡ m) × (file f.slot ≡ Some f.bytes)
    by q None is never = absurd (cc never)
    by q (Some b) is same =
        let it : record { node = m; slot = q; bytes = b } ≡ f = cc same in
        (ap (λ (g : NodeFile). g.node) (sym it), subst (λ (g : NodeFile). file g.slot ≡ Some g.bytes) it is)

in_cases : {A : Type 0} (x : A) (xs ys : List A) → In x (xs ++ ys) → In x xs ⊎ In x ys
in_cases x [] ys i = inr i
in_cases x (y ∷ xs) ys (inl e) = inl (inl e)
in_cases x (y ∷ xs) ys (inr i) = by (in_cases x xs ys i)
  where
    by : In x xs ⊎ In x ys → In x (y ∷ xs) ⊎ In x ys
    by (inl j) = inl (inr j)
    by (inr j) = inr j

pub each_file : (files : ℕ → FileMap) (count : ℕ) (all : List NodeFile) → AreFilesOf files count all → (f : NodeFile) → In f all →
    IsFileOf files count f
each_file files zero all is f i = absurd (subst (In f) is i)
each_file files (suc m) all (front, are, (names, lists, is)) f i =
    by (in_cases f front (files_at (suc m) (files (suc m)) names) (subst (In f) is i)) (λ j. each_file files m front are f j)
  where
    by : In f front ⊎ In f (files_at (suc m) (files (suc m)) names) → (In f front → IsFileOf files m f) → IsFileOf files (suc m) f
    by (inl j) later = let e = later j in record { least = e.least; most = (let le = e.most in omega (arith, le)); has = e.has }
    by (inr j) later =
        let e = file_of (suc m) (files (suc m)) f names j in record {
          least = (let n = e.0 in omega (arith, n));
          most = (let n = e.0 in omega (arith, n));
          has = ap (λ k. files k f.slot) e.0 ∙ e.1;
        }

-- a file of a node is among all
pub file_there : (n : ℕ) (file : FileMap) (all : List NodeFile) → AreAmong n file all → (q : Slot) (b : List ℕ) → file q ≡ Some b →
    In (record { node = n; slot = q; bytes = b }) all
file_there n file all among q b has =
    among.there (record { node = n; slot = q; bytes = b }) (put among.names (in_from q among.names ((let l = among.lists in l.there q).0 (ap is_some has))))
  where
    put : (qs : List Slot) → In q qs → In (record { node = n; slot = q; bytes = b }) (files_at n file qs)
    put [] i = absurd i
    put (p ∷ qs) (inl e) = subst (λ o. In (record { node = n; slot = q; bytes = b }) (cons_option o (files_at n file qs)))
        (sym (ap (file_at n file) e ∙ ap (option_map (λ bytes. record { node = n; slot = q; bytes = bytes })) has)) (inl refl)
    put (p ∷ qs) (inr i) = by (file_at n file p) (put qs i)
      where
        by : (o : Option NodeFile) → In (record { node = n; slot = q; bytes = b }) (files_at n file qs) →
            In (record { node = n; slot = q; bytes = b }) (cons_option o (files_at n file qs))
        by None j = j
        by (Some g) j = inr j

-- ---- at rest

-- nothing unfinished is there
pub finished : (fs : List NodeFile) → is_quiet fs ≡ true → (f : NodeFile) → In f fs → is_unfinished f.slot ≡ false
finished [] quiet f i = absurd i
finished (g ∷ fs) quiet f i = by (is_unfinished g.slot) refl quiet i (finished fs)
  where
    by : (b : Bool) → is_unfinished g.slot ≡ b → not (b || list_any (λ h. is_unfinished h.slot) fs) ≡ true → In f (g ∷ fs) →
        (is_quiet fs ≡ true → (h : NodeFile) → In h fs → is_unfinished h.slot ≡ false) → is_unfinished f.slot ≡ false
    by true is never j later = absurd (cc never)
    by false is good (inl e) later = ap (λ (h : NodeFile). is_unfinished h.slot) (sym e) ∙ is
    by false is good (inr j) later = later good f j

pub no_pend : (n : ℕ) (r : Role) (a : Uid) (fs : List NodeFile) → ((f : NodeFile) → In f fs → is_unfinished f.slot ≡ false) → pend_among fs n r a ≡ None
no_pend n r a [] each = refl
no_pend n r a (f ∷ fs) each = by f.slot (each f (inl refl)) (no_pend n r a fs (λ g i. each g (inr i)))
  where
    by : (q : Slot) → is_unfinished q ≡ false → pend_among fs n r a ≡ None → join_states (pend_at n r a f.node q f.bytes) (pend_among fs n r a) ≡ None
    by (slot.Pending s b) is more = absurd (cc is)
    by slot.Incarnation is more = more
    by slot.Tmp is more = more
    by (slot.Committed v) is more = more
    by (slot.Shadow v) is more = more
    by (slot.Prepared s b) is more = more
    by (slot.Intent b) is more = more
    by (slot.Segment s k) is more = more

pub no_record : (n : ℕ) (top : Uid) (fs : List NodeFile) → ((f : NodeFile) → In f fs → is_unfinished f.slot ≡ false) → record_among fs n top ≡ None
no_record n top [] each = refl
no_record n top (f ∷ fs) each = by f.slot (each f (inl refl)) (no_record n top fs (λ g i. each g (inr i)))
  where
    by : (q : Slot) → is_unfinished q ≡ false → record_among fs n top ≡ None → option_or (record_at n top f.node q f.bytes) (record_among fs n top) ≡ None
    by (slot.Intent b) is more = absurd (cc is)
    by slot.Incarnation is more = more
    by slot.Tmp is more = more
    by (slot.Committed v) is more = more
    by (slot.Shadow v) is more = more
    by (slot.Prepared s b) is more = more
    by (slot.Pending s b) is more = more
    by (slot.Segment s k) is more = more
