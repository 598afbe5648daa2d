-- A coordinator's tree stays good.
use Rattle.arj_law_parts.proofs.Words
use Words.{◌≡◌, ◌≢◌, ◌⊎◌, ◌≤◌, ◌+◌, zero, suc, ℕ, List, [], ◌∷◌, ◌++◌, length, Bool, true, false, cond, not, ◌&&◌, ◌||◌, ◌==◌, nat_le}
use Words.{Option, Some, None, refl, sym, ◌∙◌, ap, subst, inl, inr, ⊎_elim, filter, Contains, arith, is_some, unwrap_or, slice_get}
use Words.{slice_set, and_parts, eqb-true, before_last, first_uid, last_uid, front, is_on, uid_eq, uid_is, uid_same, uid_other, uid_cases}
use Words.{In, in_from, in_to, in_filter, none_in, on_parts, on_front, Uid, End, Kind, Path, uids_of, actor, Coord, Doing, Idle, on_doing}
use Words.{change_doing, doing_of, all_aborted, ended, at_number, put_number, Tree, Branch, Family, new_tree, branch_of, is_open}
use Words.{is_open_branch, is_own, at_place, set_place, family_of, with_family, no_family, ends_of, root_of, next_uid, begun_by, listed_end}
use Words.{ended_branch, ended_at, is_open_below, latest_first, open_below, has_open_child, is_parent, place_other, put_same, put_other}
use Words.{one_or_two}
use Words.ending
use Rattle.arj_law_parts.proofs.Terms.{is_below, Paths, IsTree, has_end_of, HasAllIn, AreWhole, HasLists, IsClosed, IsGoodTree, MayStand}
use Rattle.arj_law_parts.proofs.parts.{Begun.before_on, Begun.on_own, InTurn.end_of_more, KeptCalls.before_is, KeptCalls.above}

never : {P : Type 0} (b : Bool) → b ≡ true → b ≡ false → P
never b holds fails = let no_way : true ≡ false = sym holds ∙ fails in cc

-- ---- places

module _ {A : Type 0} where
  got_in : (k : ℕ) (a : A) (items : List A) → slice_get items k ≡ Some a → In a items
  got_in k a [] is = let no_way : ◌≡◌ {A = Option A} None (Some a) = is in cc
  got_in zero a (x ∷ xs) is = let same : x ≡ a = cc in inl same
  got_in (suc k) a (x ∷ xs) is = inr (got_in k a xs is)

  pub place_in : (k : ℕ) (a : A) (items : List A) → at_place k items ≡ Some a → In a items
  place_in zero a items is = let no_way : ◌≡◌ {A = Option A} None (Some a) = is in cc
  place_in (suc k) a items is = got_in k a items is

  set_same : (k : ℕ) (a b : A) (items : List A) → slice_get items k ≡ Some b → slice_get (slice_set items k a) k ≡ Some a
  set_same k a b [] is = let no_way : ◌≡◌ {A = Option A} None (Some b) = is in cc
  set_same zero a b (x ∷ xs) is = refl
  set_same (suc k) a b (x ∷ xs) is = set_same k a b xs is

  pub place_same : (k : ℕ) (a b : A) (items : List A) → at_place k items ≡ Some b → at_place k (set_place k a items) ≡ Some a
  place_same zero a b items is = let no_way : ◌≡◌ {A = Option A} None (Some b) = is in cc
  place_same (suc k) a b items is = set_same k a b items is

  in_slice : (k : ℕ) (a c : A) (items : List A) → In c (slice_set items k a) → (a ≡ c) ⊎ In c items
  in_slice k a c [] i = absurd i
  in_slice zero a c (x ∷ xs) (inl same) = inl same
  in_slice zero a c (x ∷ xs) (inr i) = inr (inr i)
  in_slice (suc k) a c (x ∷ xs) (inl same) = inr (inl same)
  in_slice (suc k) a c (x ∷ xs) (inr i) = ⊎_elim (λ same. inl same) (λ old. inr (inr old)) (in_slice k a c xs i)

  pub in_set : (k : ℕ) (a c : A) (items : List A) → In c (set_place k a items) → (a ≡ c) ⊎ In c items
  in_set zero a c items i = inr i
  in_set (suc k) a c items i = in_slice k a c items i

  pub get_more : (k : ℕ) (a c : A) (items : List A) → slice_get (items ++ a ∷ []) k ≡ Some c →
      (slice_get items k ≡ Some c) ⊎ ((k ≡ length items) × (a ≡ c))
  get_more zero a c [] is = let same : a ≡ c = cc in inr (refl, same)
  get_more (suc k) a c [] is = let no_way : ◌≡◌ {A = Option A} None (Some c) = is in cc
  get_more zero a c (x ∷ xs) is = inl is
  get_more (suc k) a c (x ∷ xs) is = ⊎_elim (λ old. inl old) (λ new. inr (ap suc new.0, new.1)) (get_more k a c xs is)

  get_still : (k : ℕ) (a c : A) (items : List A) → slice_get items k ≡ Some c → slice_get (items ++ a ∷ []) k ≡ Some c
  get_still k a c [] is = let no_way : ◌≡◌ {A = Option A} None (Some c) = is in cc
  get_still zero a c (x ∷ xs) is = is
  get_still (suc k) a c (x ∷ xs) is = get_still k a c xs is

  -- what stands in a list has a place
  pub placed : (a : A) (items : List A) → In a items → (k : ℕ) × (at_place k items ≡ Some a)
  placed a [] i = absurd i
  placed a (x ∷ xs) (inl same) = (1, ap Some same)
  placed a (x ∷ xs) (inr i) = let p = placed a xs i in (suc p.0, further p.0 p.1)
    where
      further : (k : ℕ) → at_place k xs ≡ Some a → at_place (suc k) (x ∷ xs) ≡ Some a
      further zero is = let no_way : ◌≡◌ {A = Option A} None (Some a) = is in cc
      further (suc k) is = is

  get_last : (a : A) (items : List A) → slice_get (items ++ a ∷ []) (length items) ≡ Some a
  get_last a [] = refl
  get_last a (x ∷ xs) = get_last a xs

  get_none : (items : List A) → slice_get items (length items) ≡ None
  get_none [] = refl
  get_none (x ∷ xs) = get_none xs

-- ---- finding branches

-- an own Uid is found at its place
pub found_by : (u : Uid) (t : Tree) (b : Branch) → branch_of u t ≡ Some b → (is_own u t ≡ true) × (at_place u.num t.branches ≡ Some b)
found_by u t b is = by (is_own u t) refl is
  where
    by : (c : Bool) → is_own u t ≡ c → cond c (at_place u.num t.branches) None ≡ Some b → (c ≡ true) × (at_place u.num t.branches ≡ Some b)
    by true own e = (refl, e)
    by false own e = let no_way : ◌≡◌ {A = Option Branch} None (Some b) = e in cc

pub own_is : (u w : Uid) (t : Tree) → is_own u t ≡ true → is_own w t ≡ true → u.num ≡ w.num → u ≡ w
own_is u w t own also same = uid_is u w (λ i. (eq u.node w.node (eqb-true u.node t.node (and_parts (u.node == t.node) (u.inc == t.inc)
    own).0 ∙ sym (eqb-true w.node t.node (and_parts (w.node == t.node) (w.inc == t.inc) also).0)) i)
    && ((eq u.inc w.inc (eqb-true u.inc t.inc (and_parts (u.node == t.node) (u.inc == t.inc) own).1
    ∙ sym (eqb-true w.inc t.inc (and_parts (w.node == t.node) (w.inc == t.inc) also).1)) i) && (eq u.num w.num same i)))
  where
    eq : (j k : ℕ) → j ≡ k → (j == k) ≡ true
    eq j k e = grind (arith, e)

-- ---- the ends of a root

pub ends_by_number : (r s : Uid) (t : Tree) → r.num ≡ s.num → ends_of r t ≡ ends_of s t
ends_by_number r s t same = λ i. (unwrap_or (at_number (same i) t.families) no_family).ends

module _ (root : Uid) (f : Family) (t : Tree) where
  pub ends_there : (r : Uid) → r.num ≡ root.num → ends_of r (with_family root f t) ≡ f.ends
  ends_there r same = (λ i. (unwrap_or (at_number (same i) (put_number root.num f t.families)) no_family).ends)
      ∙ ap (λ o. (unwrap_or o no_family).ends) (put_same root.num f t.families)

  pub ends_elsewhere : (r : Uid) → (r.num ≡ root.num → ⊥) → ends_of r (with_family root f t) ≡ ends_of r t
  ends_elsewhere r other = ⊎_elim (λ same. absurd (other (sym same)))
      (λ apart. ap (λ o. (unwrap_or o no_family).ends) (put_other root.num r.num f t.families apart.0)) (one_or_two root.num r.num)

pub same_or_not : (j k : ℕ) → (j ≡ k) ⊎ (j ≡ k → ⊥)
same_or_not j k =
    ⊎_elim (λ same. inl (sym same)) (λ apart. inr (λ same. never (k == j) (ap (λ i. k == i) same ∙ itself k) apart.1)) (one_or_two k j)
  where
    itself : (i : ℕ) → (i == i) ≡ true
    itself i = grind arith

-- ---- whole lists

has_more : (u : Uid) (es : List (Uid × End)) (e : Uid × End) → has_end_of u es ≡ true → has_end_of u (es ++ e ∷ []) ≡ true
has_more u [] e is = let no_way : false ≡ true = is in cc
has_more u (f ∷ fs) e is = by (uid_eq f.0 u) (has_more u fs e) is
  where
    by : (b : Bool) → (has_end_of u fs ≡ true → has_end_of u (fs ++ e ∷ []) ≡ true) → (b || has_end_of u fs) ≡ true →
        (b || has_end_of u (fs ++ e ∷ [])) ≡ true
    by true ih h = refl
    by false ih h = ih h

has_last : (u : Uid) (es : List (Uid × End)) (e : End) → has_end_of u (es ++ (u, e) ∷ []) ≡ true
has_last u [] e = λ i. uid_same u i || false
has_last u (f ∷ fs) e = by (uid_eq f.0 u) (has_last u fs e)
  where
    by : (b : Bool) → has_end_of u (fs ++ (u, e) ∷ []) ≡ true → (b || has_end_of u (fs ++ (u, e) ∷ [])) ≡ true
    by true ih = refl
    by false ih = ih

pub has_later : (u : Uid) (e : Uid × End) (es : List (Uid × End)) → has_end_of u es ≡ true → has_end_of u (e ∷ es) ≡ true
has_later u e es is = by (uid_eq e.0 u)
  where
    by : (b : Bool) → (b || has_end_of u es) ≡ true
    by true = refl
    by false = is

pub has_here : (e : Uid × End) (es : List (Uid × End)) → has_end_of e.0 (e ∷ es) ≡ true
has_here e es = λ i. uid_same e.0 i || has_end_of e.0 es

-- what is below in another tree is below in this one
pub whole_in : (t v : Tree) (before es : List (Uid × End)) → ((u w : Uid) (b : Branch) → has_end_of u es ≡ true → branch_of w v ≡ Some b →
    is_on (uids_of b.path) u ≡ true → w ≢ u → (c : Branch) × (branch_of w t ≡ Some c) × (uids_of c.path ≡ uids_of b.path)) →
    AreWhole t before es → AreWhole v before es
whole_in t v before [] back all = tt
whole_in t v before (e ∷ es) back all = (
  λ is w b found on other. let f = back e.0 w b (has_here e es) found on other in
      all.0 is w f.0 f.1 (ap (λ us. is_on us e.0) f.2 ∙ on) other,
  whole_in t v (before ++ e ∷ []) es (λ u w b is. back u w b (has_later u e es is)) all.1,
)

whole_more : (t : Tree) (before es : List (Uid × End)) (e : Uid × End) → AreWhole t before es →
    (e.1 ≡ ending.Commit → HasAllIn t e.0 (before ++ es)) → AreWhole t before (es ++ e ∷ [])
whole_more t before [] e all last = ((λ is. subst (HasAllIn t e.0) (nothing before) (last is)), tt)
  where
    nothing : (xs : List (Uid × End)) → xs ++ [] ≡ xs
    nothing [] = refl
    nothing (x ∷ xs) = ap (λ ys. x ∷ ys) (nothing xs)
whole_more t before (f ∷ fs) e all last =
    (all.0, whole_more t (before ++ f ∷ []) fs e all.1 (λ is. subst (HasAllIn t e.0) (sym (assoc before)) (last is)))
  where
    assoc : (xs : List (Uid × End)) → (xs ++ f ∷ []) ++ fs ≡ xs ++ f ∷ fs
    assoc [] = refl
    assoc (x ∷ xs) = ap (λ ys. x ∷ ys) (assoc xs)

-- ---- below an action

module _ (paths : Paths) (tree : IsTree paths) (t : Tree) (lists : HasLists paths t) where
  own_path : (w : Uid) (b : Branch) → branch_of w t ≡ Some b → last_uid (paths w) ≡ w
  own_path w b found = ap last_uid (sym (lists.paths_are w b found)) ∙ lists.places w b found

  pub above_of : (u w : Uid) (b : Branch) → branch_of w t ≡ Some b → is_on (paths w) u ≡ true → w ≢ u →
      (h : Uid) × (before_last (paths w) ≡ Some h) × (is_on (paths h) u ≡ true) × (front (paths w) ≡ paths h)
  above_of u w b found on other = ⊎_elim (λ same. absurd (other (sym (own_path w b found) ∙ uid_is (last_uid (paths w)) u same)))
      (λ up. let p = before_is (paths w) u up in let q = tree.heir w (last_uid (front (paths w))) p in
      (last_uid (front (paths w)), p, ap (λ us. is_on us u) (sym q.0) ∙ up, q.0)) (on_parts (paths w) u on)

  pub shorter : (w h : Uid) (k : ℕ) → before_last (paths w) ≡ Some h → front (paths w) ≡ paths h → length (paths w) ≤ suc k →
      length (paths h) ≤ k
  shorter w h k parent is le = omega (arith, ap length is, fewer (paths w) parent, le)
    where
      fewer : (us : List Uid) → before_last us ≡ Some h → length (front us) + 1 ≡ length us
      fewer [] e = let no_way : ◌≡◌ {A = Option Uid} None (Some h) = e in cc
      fewer (x ∷ []) e = let no_way : ◌≡◌ {A = Option Uid} None (Some h) = e in cc
      fewer (x ∷ y ∷ []) e = refl
      fewer (x ∷ y ∷ z ∷ us) e = omega (arith, fewer (y ∷ z ∷ us) e)

  -- where the children of an action have ended, so have all below it
  below_ended : (u : Uid) → IsClosed paths t → ((w : Uid) (b : Branch) → branch_of w t ≡ Some b → before_last (paths w) ≡ Some u →
      is_some b.ended ≡ true) → (k : ℕ) (w : Uid) (b : Branch) → length (paths w) ≤ k → branch_of w t ≡ Some b → is_on (paths w) u ≡ true →
      w ≢ u → is_some b.ended ≡ true
  below_ended u closed children zero w b short found on other = absurd (empty (paths w) short on)
    where
      empty : (us : List Uid) → length us ≤ 0 → is_on us u ≡ true → ⊥
      empty [] le o = let no_way : false ≡ true = o in cc
      empty (x ∷ us) le o = absurd (omega (arith, le))
  below_ended u closed children (suc k) w b short found on other =
      let up = above_of u w b found on other in
      let p = lists.parents w up.0 b found up.1 in
      ⊎_elim (λ same. children w b found (up.1 ∙ ap Some same)) (λ apart. closed w up.0 b p.0 found up.1 p.1
      (below_ended u closed children k up.0 p.0 (shorter w up.0 k up.1 up.3 short) p.1 up.2 apart)) (uid_cases up.0 u)

  -- below an action that ended all have ended
  pub over_below : IsClosed paths t → (u : Uid) (c : Branch) → branch_of u t ≡ Some c → is_some c.ended ≡ true → (w : Uid) (b : Branch) →
      branch_of w t ≡ Some b → is_on (paths w) u ≡ true → is_some b.ended ≡ true
  over_below closed u c there over w b found on =
      ⊎_elim (λ same. let one : ◌≡◌ {A = Option Branch} (Some c) (Some b) = sym there ∙ ap (λ v. branch_of v t) (sym same) ∙ found in
      let is : c ≡ b = cc in ap (λ (d : Branch). is_some d.ended) (sym is) ∙ over) (λ other. below_ended u closed
      (λ v d f parent. closed v u d c f parent there over) (length (paths w)) w b (omega arith) found on other) (uid_cases w u)

  -- no child of the action is open
  pub children_over : (u : Uid) → has_open_child u t ≡ false → (w : Uid) (b : Branch) → branch_of w t ≡ Some b →
      before_last (paths w) ≡ Some u → is_some b.ended ≡ true
  children_over u none w b found parent = by (is_some b.ended) refl
    where
      child : is_parent u (before_last (uids_of b.path)) ≡ true
      child = ap (is_parent u) (ap before_last (lists.paths_are w b found) ∙ parent) ∙ uid_same u

      by : (c : Bool) → is_some b.ended ≡ c → c ≡ true
      by true is = refl
      by false is = never (is_parent u (before_last (uids_of b.path)) && not (is_some b.ended)) (λ i. child i && not (is i))
          (none_in (λ (d : Branch). is_parent u (before_last (uids_of d.path)) && not (is_some d.ended)) b t.branches none
          (place_in w.num b t.branches (found_by w t b found).1))

  pub all_over : (u : Uid) → IsClosed paths t → has_open_child u t ≡ false → (w : Uid) (b : Branch) → branch_of w t ≡ Some b →
      is_on (uids_of b.path) u ≡ true → w ≢ u → is_some b.ended ≡ true
  all_over u closed none w b found on other = below_ended u closed (children_over u none) (length (paths w)) w b (omega arith) found
      (ap (λ us. is_on us u) (sym (lists.paths_are w b found)) ∙ on) other

  -- what has all below it ended finds their ends at its root
  pub all_listed : (u : Uid) (c : Branch) → branch_of u t ≡ Some c → ((w : Uid) (b : Branch) → branch_of w t ≡ Some b →
      is_on (uids_of b.path) u ≡ true → w ≢ u → is_some b.ended ≡ true) → HasAllIn t u (ends_of (root_of c.path) t)
  all_listed u c there over w b found on other =
      let on_path : is_on (paths w) u ≡ true = ap (λ us. is_on us u) (sym (lists.paths_are w b found)) ∙ on in
      let up = above_of u w b found on_path other in
      let a = above paths tree (length (paths w)) (paths w) (omega arith) (ap paths (sym (own_path w b found))) u on_path in
      subst (λ r. has_end_of w (ends_of r t) ≡ true)
      (ap first_uid (lists.paths_are w b found) ∙ sym a.root ∙ ap first_uid (sym (lists.paths_are u c there)))
      (lists.listed w b found (deep (uids_of b.path) (ap before_last (lists.paths_are w b found) ∙ up.1)) (over w b found on other))
    where
      deep : {h : Uid} (us : List Uid) → before_last us ≡ Some h → 2 ≤ length us
      deep {h} [] e = let no_way : ◌≡◌ {A = Option Uid} None (Some h) = e in cc
      deep {h} (x ∷ []) e = let no_way : ◌≡◌ {A = Option Uid} None (Some h) = e in cc
      deep (x ∷ y ∷ us) e = omega arith

-- ---- an end

module _ (u : Uid) (e : End) (t : Tree) (b : Branch) (found : branch_of u t ≡ Some b) where
  abbrev pub ended_b : Branch
  ended_b = record b { ended = Some e }

  abbrev pub marked : Tree
  marked = record t { branches = set_place u.num ended_b t.branches }

  abbrev pub after : Tree
  after = listed_end u e b.path marked

  same_branches : (w : Uid) → branch_of w after ≡ branch_of w marked
  same_branches w = by (nat_le (length (uids_of b.path)) 1)
    where
      by : (c : Bool) → branch_of w (cond c marked (with_family (root_of b.path) (let f = family_of (root_of b.path) marked in
          record f { ends = f.ends ++ (u, e) ∷ [] }) marked)) ≡ branch_of w marked
      by true = refl
      by false = refl

  its_own : is_own u t ≡ true
  its_own = (found_by u t b found).0

  pub at_u : branch_of u after ≡ Some ended_b
  at_u = same_branches u ∙ (λ i. cond (its_own i) (at_place u.num (set_place u.num ended_b t.branches)) None)
      ∙ place_same u.num ended_b b t.branches (found_by u t b found).1

  pub at_others : (w : Uid) → w ≢ u → branch_of w after ≡ branch_of w t
  at_others w other = same_branches w ∙ by (is_own w t) refl
    where
      by : (c : Bool) → is_own w t ≡ c →
          cond c (at_place w.num (set_place u.num ended_b t.branches)) None ≡ cond c (at_place w.num t.branches) None
      by true own = place_other u.num w.num ended_b t.branches (λ same. other (own_is w u t own its_own same))
      by false own = refl

  -- a branch after the end
  pub after_cases : (w : Uid) (c : Branch) → branch_of w after ≡ Some c → ((w ≡ u) × (ended_b ≡ c)) ⊎ ((w ≢ u) × (branch_of w t ≡ Some c))
  after_cases w c is = ⊎_elim (λ same. let k : ◌≡◌ {A = Option Branch} (Some ended_b) (Some c) = sym at_u ∙ ap (λ v. branch_of v after)
      (sym same) ∙ is in let one : ended_b ≡ c = cc in inl (same, one)) (λ other. inr (other, sym (at_others w other) ∙ is)) (uid_cases w u)

  -- a branch was there before, with the same path
  pub was_there : (w : Uid) (c : Branch) → branch_of w after ≡ Some c → (d : Branch) × (branch_of w t ≡ Some d) × (d.path ≡ c.path)
  was_there w c is =
      ⊎_elim (λ f. (b, ap (λ v. branch_of v t) f.0 ∙ found, ap (λ (q : Branch). q.path) f.1)) (λ f. (c, f.1, refl)) (after_cases w c is)

  -- and is there after
  pub still_there : (w : Uid) (d : Branch) → branch_of w t ≡ Some d → is_some d.ended ≡ true →
      (c : Branch) × (branch_of w after ≡ Some c) × (is_some c.ended ≡ true)
  still_there w d is over =
      ⊎_elim (λ same. (ended_b, ap (λ v. branch_of v after) same ∙ at_u, refl)) (λ other. (d, at_others w other ∙ is, over)) (uid_cases w u)

  -- the ends of a root after the end
  pub ends_after : (r : Uid) →
      (ends_of r after ≡ ends_of r t) ⊎ ((r.num ≡ (root_of b.path).num) × (ends_of r after ≡ ends_of r t ++ (u, e) ∷ []))
  ends_after r = by (nat_le (length (uids_of b.path)) 1) (same_or_not r.num (root_of b.path).num)
    where
      f : Family
      f = let g = family_of (root_of b.path) marked in record g { ends = g.ends ++ (u, e) ∷ [] }

      by : (c : Bool) → (r.num ≡ (root_of b.path).num) ⊎ (r.num ≡ (root_of b.path).num → ⊥) →
          (ends_of r (cond c marked (with_family (root_of b.path) f marked)) ≡ ends_of r t) ⊎ ((r.num ≡ (root_of b.path).num)
          × (ends_of r (cond c marked (with_family (root_of b.path) f marked)) ≡ ends_of r t ++ (u, e) ∷ []))
      by true s = inl refl
      by false (inl same) = inr (
        same,
        ends_there (root_of b.path) f marked r same ∙ ap (λ es. es ++ (u, e) ∷ []) (ends_by_number (root_of b.path) r t (sym same)),
      )
      by false (inr other) = inl (ends_elsewhere (root_of b.path) f marked r other)

  listed_after : 2 ≤ length (uids_of b.path) → ends_of (root_of b.path) after ≡ ends_of (root_of b.path) t ++ (u, e) ∷ []
  listed_after two = by (nat_le (length (uids_of b.path)) 1) (long (length (uids_of b.path)) two)
    where
      f : Family
      f = let g = family_of (root_of b.path) marked in record g { ends = g.ends ++ (u, e) ∷ [] }

      long : (n : ℕ) → 2 ≤ n → nat_le n 1 ≡ false
      long n le = grind (arith, le)

      by : (c : Bool) → c ≡ false →
          ends_of (root_of b.path) (cond c marked (with_family (root_of b.path) f marked)) ≡ ends_of (root_of b.path) t ++ (u, e) ∷ []
      by true is = let no_way : true ≡ false = is in cc
      by false is = ends_there (root_of b.path) f marked (root_of b.path) refl

  ends_stay : (w r : Uid) → has_end_of w (ends_of r t) ≡ true → has_end_of w (ends_of r after) ≡ true
  ends_stay w r is =
      ⊎_elim (λ same. ap (has_end_of w) same ∙ is) (λ more. ap (has_end_of w) more.1 ∙ has_more w (ends_of r t) (u, e) is) (ends_after r)

  module _ (paths : Paths) (tree : IsTree paths) (lists : HasLists paths t) where
    pub lists_ended : (e ≡ ending.Commit → (w : Uid) (c : Branch) → branch_of w t ≡ Some c → is_on (uids_of c.path) u ≡ true → w ≢ u →
        is_some c.ended ≡ true) → HasLists paths after
    lists_ended below = record {
      places = λ w c is. let d = was_there w c is in ap actor (sym d.2) ∙ lists.places w d.0 d.1;
      paths_are = λ w c is. let d = was_there w c is in ap uids_of (sym d.2) ∙ lists.paths_are w d.0 d.1;
      every = λ c k. ⊎_elim (λ same. subst (λ (d : Branch). uids_of d.path ≡ paths (actor d.path)) same
          (lists.every b (in_to b t.branches (place_in u.num b t.branches (found_by u t b found).1))))
          (λ old. lists.every c (in_to c t.branches old)) (in_set u.num ended_b c t.branches (in_after c k));
      parents = λ w h c is parent. let d = was_there w c is in let p = lists.parents w h d.0 d.1 parent in there h p.0 p.1;
      listed = λ w c is two over.
          ⊎_elim (λ f. own w c f.0 f.1 two) (λ f. ends_stay w (root_of c.path) (lists.listed w c f.1 two over)) (after_cases w c is);
      over = λ r w is. ⊎_elim (λ same. old r w (ap (has_end_of w) (sym same) ∙ is))
          (λ more. ⊎_elim (old r w) (λ same. (ended_b, ap (λ v. branch_of v after) (sym same) ∙ at_u, refl))
          (end_of_more w (ends_of r t) (u, e) (ap (has_end_of w) (sym more.1) ∙ is))) (ends_after r);
      whole = λ r. ⊎_elim (λ same. subst (AreWhole after []) (sym same) (moved r)) (λ more. subst (AreWhole after []) (sym more.1)
          (whole_more after [] (ends_of r t) (u, e) (moved r) (λ is w c it on other. let d = was_there w c it in
          subst (λ es. has_end_of w es ≡ true) (ends_by_number (root_of b.path) r t (sym more.0))
          (all_listed paths tree t lists u b found (below is) w d.0 d.1 (ap (λ p. is_on (uids_of p) u) d.2 ∙ on) other)))) (ends_after r);
    }
      where
        in_after : (c : Branch) → Contains after.branches c → In c (set_place u.num ended_b t.branches)
        in_after c = by (nat_le (length (uids_of b.path)) 1)
          where
            by : (s : Bool) → Contains (cond s marked (with_family (root_of b.path) (let f = family_of (root_of b.path) marked in
                record f { ends = f.ends ++ (u, e) ∷ [] }) marked)).branches c → In c (set_place u.num ended_b t.branches)
            by true k = in_from c (set_place u.num ended_b t.branches) k
            by false k = in_from c (set_place u.num ended_b t.branches) k

        there : (h : Uid) (p : Branch) → branch_of h t ≡ Some p → (q : Branch) × (branch_of h after ≡ Some q)
        there h p is =
            ⊎_elim (λ same. (ended_b, ap (λ v. branch_of v after) same ∙ at_u)) (λ other. (p, at_others h other ∙ is)) (uid_cases h u)

        own : (w : Uid) (c : Branch) → w ≡ u → ended_b ≡ c → 2 ≤ length (uids_of c.path) →
            has_end_of w (ends_of (root_of c.path) after) ≡ true
        own w c same is two =
            subst (λ (d : Branch). has_end_of w (ends_of (root_of d.path) after) ≡ true) is
            (subst (λ v. has_end_of v (ends_of (root_of b.path) after) ≡ true) (sym same)
            (ap (has_end_of u) (listed_after (subst (λ (d : Branch). 2 ≤ length (uids_of d.path)) (sym is) two))
            ∙ has_last u (ends_of (root_of b.path) t) e))

        old : (r w : Uid) → has_end_of w (ends_of r t) ≡ true → (c : Branch) × (branch_of w after ≡ Some c) × (is_some c.ended ≡ true)
        old r w is = let o = lists.over r w is in still_there w o.0 o.1 o.2

        moved : (r : Uid) → AreWhole after [] (ends_of r t)
        moved r = whole_in t after [] (ends_of r t) (λ v w c is it on other. let d = was_there w c it in
            (d.0, d.1, ap uids_of d.2)) (lists.whole r)

    pub closed_ended : IsClosed paths t →
        ((w : Uid) (c : Branch) → branch_of w t ≡ Some c → before_last (paths w) ≡ Some u → is_some c.ended ≡ true) → IsClosed paths after
    closed_ended closed children w h c p is parent its over = ⊎_elim (λ f. ap (λ (d : Branch). is_some d.ended) (sym f.1)) (λ f. ⊎_elim
        (λ g. children w c f.1 (parent ∙ ap Some g.0)) (λ g. closed w h c p f.1 parent g.1 over) (after_cases h p its)) (after_cases w c is)

-- the end of an action all of whose children have ended
pub good_ended : (paths : Paths) → IsTree paths → (u : Uid) (e : End) (t : Tree) → has_open_child u t ≡ false → IsGoodTree paths t →
    IsGoodTree paths (ended_at u e t)
good_ended paths tree u e t none good = by (branch_of u t) refl
  where
    by : (o : Option Branch) → branch_of u t ≡ o → IsGoodTree paths (ended_branch u e t o)
    by None is = good
    by (Some b) is = record {
      lists = lists_ended u e t b is paths tree good.lists (λ commits. all_over paths tree t good.lists u good.closed none);
      closed = closed_ended u e t b is paths tree good.lists good.closed (children_over paths tree t good.lists u none);
    }

-- ---- an abort with all that is open below

abbrev pub abort_all : List Uid → Tree → Tree
abort_all [] t = t
abort_all (u ∷ us) t = abort_all us (ended_at u ending.Abort t)

-- what the aborts of these actions leave
pub record Leaves (paths : Paths) (us : List Uid) (t v : Tree) : Type 0 where
  lists : HasLists paths v
  stays : (w : Uid) (d : Branch) → branch_of w t ≡ Some d →
      (c : Branch) × (branch_of w v ≡ Some c) × (is_some d.ended ≡ true → is_some c.ended ≡ true)
  was : (w : Uid) (c : Branch) → branch_of w v ≡ Some c →
      (d : Branch) × (branch_of w t ≡ Some d) × (is_some c.ended ≡ true → (is_some d.ended ≡ true) ⊎ In w us)
  pub done : (w : Uid) (c : Branch) → In w us → branch_of w v ≡ Some c → is_some c.ended ≡ true

module _ (paths : Paths) (tree : IsTree paths) where
  one_left : (u : Uid) (t : Tree) → HasLists paths t → Leaves paths (u ∷ []) t (ended_at u ending.Abort t)
  one_left u t lists = by (branch_of u t) refl
    where
      by : (o : Option Branch) → branch_of u t ≡ o → Leaves paths (u ∷ []) t (ended_branch u ending.Abort t o)
      by None is = record {
        lists = lists;
        stays = λ w d f. (d, f, λ over. over);
        was = λ w c f. (c, f, λ over. inl over);
        done = λ w c i f. ⊎_elim (λ same. let no_way : ◌≡◌ {A = Option Branch} None (Some c) = sym is ∙ ap (λ v. branch_of v t) same ∙ f in
            cc) (λ never_in. absurd never_in) i;
      }
      by (Some b) is = record {
        lists = lists_ended u ending.Abort t b is paths tree lists (λ never_is. let no_way : ending.Abort ≡ ending.Commit = never_is in cc);
        stays = λ w d f. ⊎_elim (λ same. (
          record b { ended = Some ending.Abort },
          ap (λ v. branch_of v (after u ending.Abort t b is)) same ∙ at_u u ending.Abort t b is,
          λ over. refl,
        )) (λ other. (d, at_others u ending.Abort t b is w other ∙ f, λ over. over)) (uid_cases w u);
        was = λ w c f. ⊎_elim (λ g. (b, ap (λ v. branch_of v t) g.0 ∙ is, λ over. inr (inl (sym g.0)))) (λ g. (c, g.1, λ over. inl over))
            (after_cases u ending.Abort t b is w c f);
        done = λ w c i f. ⊎_elim (λ same. ⊎_elim (λ g. ap (λ (d : Branch). is_some d.ended) (sym g.1)) (λ g. absurd (g.0 (sym same)))
            (after_cases u ending.Abort t b is w c f)) (λ never_in. absurd never_in) i;
      }

  pub all_left : (us : List Uid) (t : Tree) → HasLists paths t → Leaves paths us t (abort_all us t)
  all_left [] t lists =
      record { lists = lists; stays = λ w d f. (d, f, λ over. over); was = λ w c f. (c, f, λ over. inl over); done = λ w c i f. absurd i }
  all_left (u ∷ us) t lists = both (one_left u t lists) (all_left us (ended_at u ending.Abort t) (one_left u t lists).lists)
    where
      both : Leaves paths (u ∷ []) t (ended_at u ending.Abort t) → Leaves paths us (ended_at u ending.Abort t)
          (abort_all us (ended_at u ending.Abort t)) → Leaves paths (u ∷ us) t (abort_all us (ended_at u ending.Abort t))
      both one rest = record {
        lists = rest.lists;
        stays = λ w d f. let a = one.stays w d f in let c = rest.stays w a.0 a.1 in (c.0, c.1, λ over. c.2 (a.2 over));
        was = λ w c f. let a = rest.was w c f in let d = one.was w a.0 a.1 in (
          d.0,
          d.1,
          λ over. ⊎_elim (λ before. ⊎_elim (λ first. inl first) (λ i. ⊎_elim (λ same. inr (inl same)) (λ never_in. absurd never_in) i)
              (d.2 before)) (λ i. inr (inr i)) (a.2 over),
        );
        done = λ w c i f. ⊎_elim (λ same. let a = rest.was w c f in let r = rest.stays w a.0 a.1 in
            let k : ◌≡◌ {A = Option Branch} (Some r.0) (Some c) = sym r.1 ∙ f in let is : r.0 ≡ c = cc in
            ap (λ (d : Branch). is_some d.ended) (sym is) ∙ r.2 (one.done w a.0 (inl same) a.1)) (λ j. rest.done w c j f) i;
      }

pub in_latest : (x : Uid) (bs : List Branch) (found : List Uid) → In x (latest_first bs found) →
    In x found ⊎ ((b : Branch) × In b bs × (actor b.path ≡ x))
in_latest x [] found i = inl i
in_latest x (b ∷ bs) found i = ⊎_elim (λ j. ⊎_elim (λ same. inr (b, inl refl, same)) (λ old. inl old) j) (λ f. inr (f.0, inr f.1, f.2))
    (in_latest x bs (actor b.path ∷ found) i)

latest_has : (bs : List Branch) (found : List Uid) (x : Uid) → In x found → In x (latest_first bs found)
latest_has [] found x i = i
latest_has (b ∷ bs) found x i = latest_has bs (actor b.path ∷ found) x (inr i)

latest_in : (bs : List Branch) (found : List Uid) (b : Branch) → In b bs → In (actor b.path) (latest_first bs found)
latest_in [] found b i = absurd i
latest_in (c ∷ bs) found b (inl same) = latest_has bs (actor c.path ∷ found) (actor b.path) (inl (ap (λ (d : Branch). actor d.path) same))
latest_in (c ∷ bs) found b (inr i) = latest_in bs (actor c.path ∷ found) b i

pub in_more : (x : Uid) (us : List Uid) (u : Uid) → In x (us ++ u ∷ []) → In x us ⊎ (u ≡ x)
in_more x [] u (inl same) = inr same
in_more x [] u (inr i) = absurd i
in_more x (w ∷ us) u (inl same) = inl (inl same)
in_more x (w ∷ us) u (inr i) = ⊎_elim (λ old. inl (inr old)) (λ new. inr new) (in_more x us u i)

more_in : (x : Uid) (us : List Uid) (u : Uid) → In x us → In x (us ++ u ∷ [])
more_in x [] u i = absurd i
more_in x (w ∷ us) u (inl same) = inl same
more_in x (w ∷ us) u (inr i) = inr (more_in x us u i)

-- what a test keeps of a list
kept : (p : Branch → Bool) (b : Branch) (bs : List Branch) → In b bs → p b ≡ true → In b (filter p bs)
kept p b [] i is = absurd i
kept p b (c ∷ bs) (inl same) is = by (p c) (ap p same ∙ is)
  where
    by : (d : Bool) → d ≡ true → In b (cond d (c ∷ filter p bs) (filter p bs))
    by true e = inl same
    by false e = let no_way : false ≡ true = e in cc
kept p b (c ∷ bs) (inr i) is = by (p c) (kept p b bs i is)
  where
    by : (d : Bool) → In b (filter p bs) → In b (cond d (c ∷ filter p bs) (filter p bs))
    by true ih = inr ih
    by false ih = ih

pub good_aborted : (paths : Paths) → IsTree paths → (u : Uid) (t : Tree) → IsGoodTree paths t →
    IsGoodTree paths (abort_all (open_below u t ++ u ∷ []) t)
good_aborted paths tree u t good = record { lists = left.lists; closed = closed }
  where
    us : List Uid
    us = open_below u t ++ u ∷ []

    v : Tree
    v = abort_all us t

    left : Leaves paths us t v
    left = all_left paths tree us t good.lists

    -- who is ended here has the action on its path
    below : (h : Uid) (p : Branch) → branch_of h t ≡ Some p → In h us → is_on (paths h) u ≡ true
    below h p there i = ⊎_elim (λ j. ⊎_elim (λ never_in. absurd never_in) (λ f. off f.0 f.1 f.2) (in_latest h (filter (is_open_below u)
        t.branches) [] j)) (λ same. subst (λ w. is_on (paths h) w ≡ true) (sym same) (self h p there)) (in_more h (open_below u t) u i)
      where
        self : (w : Uid) (b : Branch) → branch_of w t ≡ Some b → is_on (paths w) w ≡ true
        self w b f = ap (λ us'. is_on us' w) (sym (good.lists.paths_are w b f))
            ∙ ap (is_on (uids_of b.path)) (sym (good.lists.places w b f)) ∙ on_own b.path

        off : (b : Branch) → In b (filter (is_open_below u) t.branches) → actor b.path ≡ h → is_on (paths h) u ≡ true
        off b j same =
            let q = in_filter (is_open_below u) b t.branches j in
            subst (λ vs. is_on vs u ≡ true) (good.lists.every b (in_to b t.branches q.0) ∙ ap paths same) (and_parts
            (is_on (uids_of b.path) u) (not (uid_eq (actor b.path) u)) (and_parts (is_below u b) (not (is_some b.ended)) q.1).0).0

    closed : IsClosed paths v
    closed w h c p is parent its over =
        ⊎_elim (λ before. ended_before (good.closed w h d.0 q.0 d.1 parent q.1 before)) (λ i. newly i (is_some d.0.ended) refl) (q.2 over)
      where
        d : (b : Branch) × (branch_of w t ≡ Some b) × (is_some c.ended ≡ true → (is_some b.ended ≡ true) ⊎ In w us)
        d = left.was w c is

        q : (b : Branch) × (branch_of h t ≡ Some b) × (is_some p.ended ≡ true → (is_some b.ended ≡ true) ⊎ In h us)
        q = left.was h p its

        ended_before : is_some d.0.ended ≡ true → is_some c.ended ≡ true
        ended_before e =
            let r = left.stays w d.0 d.1 in
            let k : ◌≡◌ {A = Option Branch} (Some r.0) (Some c) = sym r.1 ∙ is in
            let one : r.0 ≡ c = cc in
            ap (λ (b : Branch). is_some b.ended) (sym one) ∙ r.2 e

        heir : (front (paths w) ≡ paths h) × (is_on (front (paths w)) w ≡ false)
        heir = tree.heir w h parent

        newly : In h us → (e : Bool) → is_some d.0.ended ≡ e → is_some c.ended ≡ true
        newly i true e = ended_before e
        newly i false e = left.done w c (more_in w (open_below u t) u
            (subst (λ x. In x (open_below u t)) (good.lists.places w d.0 d.1) (latest_in (filter (is_open_below u) t.branches) [] d.0
            (kept (is_open_below u) d.0 t.branches (place_in w.num d.0 t.branches (found_by w t d.0 d.1).1) test)))) is
          where
            on_h : is_on (paths h) u ≡ true
            on_h = below h q.0 q.1 i

            on_w : is_on (uids_of d.0.path) u ≡ true
            on_w = ap (λ vs. is_on vs u) (good.lists.paths_are w d.0 d.1) ∙ on_front (paths w) u (ap (λ vs. is_on vs u) heir.0 ∙ on_h)

            apart : w ≢ u
            apart same = never (is_on (front (paths w)) w) (ap (λ vs. is_on vs w) heir.0 ∙ ap (is_on (paths h)) same ∙ on_h) heir.1

            test : is_open_below u d.0 ≡ true
            test = λ j. (on_w j && not ((ap (λ x. uid_eq x u) (good.lists.places w d.0 d.1) ∙ uid_other w u apart) j)) && not (e j)

-- ---- a beginning

pub good_new : (paths : Paths) (node inc : ℕ) → IsGoodTree paths (new_tree node inc)
good_new paths node inc = record {
  lists = record {
    places = λ u b f. absurd (none u b f);
    paths_are = λ u b f. absurd (none u b f);
    every = λ b k. absurd (in_from b [] k);
    parents = λ u h b f. absurd (none u b f);
    listed = λ u b f. absurd (none u b f);
    over = λ r u is. let no_way : false ≡ true = is in cc;
    whole = λ r. tt;
  };
  closed = λ u h b p f. absurd (none u b f);
}
  where
    none : (u : Uid) (b : Branch) → branch_of u (new_tree node inc) ≡ Some b → ⊥
    none u b f = let q = found_by u (new_tree node inc) b f in absurd (place_in u.num b [] q.1)

module _ (k : Kind) (p : Path) (t : Tree) where
  abbrev pub new : Branch
  new = record { path = p; kind = k; ended = None; doomed = false }

  abbrev pub grown : Tree
  grown = begun_by k p t

  next_place : (x : Uid) → x.num ≡ length t.branches + 1 → at_place x.num t.branches ≡ None
  next_place x is = (λ i. at_place ((is ∙ one_more (length t.branches)) i) t.branches) ∙ get_none t.branches
    where
      one_more : (n : ℕ) → n + 1 ≡ suc n
      one_more n = omega arith

  pub not_yet : branch_of (next_uid t) t ≡ None
  not_yet = by (is_own (next_uid t) t)
    where
      by : (c : Bool) → cond c (at_place (next_uid t).num t.branches) None ≡ None
      by true = next_place (next_uid t) refl
      by false = refl

  place_more : (j : ℕ) (c : Branch) → at_place j (t.branches ++ new ∷ []) ≡ Some c →
      (at_place j t.branches ≡ Some c) ⊎ ((j ≡ length t.branches + 1) × (new ≡ c))
  place_more zero c is = let no_way : ◌≡◌ {A = Option Branch} None (Some c) = is in cc
  place_more (suc j) c is = ⊎_elim (λ old. inl old) (λ f. inr (omega (arith, f.0), f.1)) (get_more j new c t.branches is)

  place_still : (j : ℕ) (c : Branch) → at_place j t.branches ≡ Some c → at_place j (t.branches ++ new ∷ []) ≡ Some c
  place_still zero c is = let no_way : ◌≡◌ {A = Option Branch} None (Some c) = is in cc
  place_still (suc j) c is = get_still j new c t.branches is

  pub grown_cases : (w : Uid) (c : Branch) → branch_of w grown ≡ Some c → (branch_of w t ≡ Some c) ⊎ ((w ≡ next_uid t) × (new ≡ c))
  grown_cases w c is = by (is_own w t) refl is
    where
      own_next : is_own w t ≡ true → w.num ≡ length t.branches + 1 → w ≡ next_uid t
      own_next own num = let q = and_parts (w.node == t.node) (w.inc == t.inc) own in
          λ i. record { node = eqb-true w.node t.node q.0 i; inc = eqb-true w.inc t.inc q.1 i; num = num i }

      by : (o : Bool) → is_own w t ≡ o → cond o (at_place w.num (t.branches ++ new ∷ [])) None ≡ Some c →
          (cond o (at_place w.num t.branches) None ≡ Some c) ⊎ ((w ≡ next_uid t) × (new ≡ c))
      by true own e = ⊎_elim (λ old. inl old) (λ f. inr (own_next own f.0, f.1)) (place_more w.num c e)
      by false own e = let no_way : ◌≡◌ {A = Option Branch} None (Some c) = e in cc

  pub grown_still : (w : Uid) (c : Branch) → branch_of w t ≡ Some c → branch_of w grown ≡ Some c
  grown_still w c is = let q = found_by w t c is in
      (λ i. cond (q.0 i) (at_place w.num (t.branches ++ new ∷ [])) None) ∙ place_still w.num c q.1

  pub same_ends : (r : Uid) → ends_of r grown ≡ ends_of r t
  same_ends r = by (same_or_not r.num (root_of p).num)
    where
      longer : Tree
      longer = record t { branches = t.branches ++ new ∷ [] }

      f : Family
      f = let g = family_of (root_of p) longer in record g { actions = g.actions + 1 }

      by : (r.num ≡ (root_of p).num) ⊎ (r.num ≡ (root_of p).num → ⊥) → ends_of r (with_family (root_of p) f longer) ≡ ends_of r t
      by (inl same) = ends_there (root_of p) f longer r same ∙ ends_by_number (root_of p) r t (sym same)
      by (inr other) = ends_elsewhere (root_of p) f longer r other

  pub new_there : branch_of (next_uid t) grown ≡ Some new
  new_there = (λ i. cond (own i) (at_place (next_uid t).num (t.branches ++ new ∷ [])) None)
      ∙ (λ i. at_place (one_more (length t.branches) i) (t.branches ++ new ∷ [])) ∙ get_last new t.branches
    where
      one_more : (n : ℕ) → n + 1 ≡ suc n
      one_more n = omega arith

      itself : (n : ℕ) → (n == n) ≡ true
      itself n = grind arith

      own : is_own (next_uid t) t ≡ true
      own = λ i. itself t.node i && itself t.inc i

module _ (paths : Paths) (tree : IsTree paths) (k : Kind) (p : Path) (t : Tree) (may : MayStand paths k t p)
    (good : IsGoodTree paths t) where
  -- nothing that has ended stands above the new action
  pub open_above : (u : Uid) (c : Branch) → branch_of u t ≡ Some c → is_some c.ended ≡ true → is_on (paths (next_uid t)) u ≡ true →
      u ≢ next_uid t → ⊥
  open_above u c there over on other =
      ⊎_elim (λ same. other (sym (uid_is (last_uid (paths (next_uid t))) u same) ∙ last_is)) up (on_parts (paths (next_uid t)) u on)
    where
      last_is : last_uid (paths (next_uid t)) ≡ next_uid t
      last_is = ap last_uid (sym may.path) ∙ may.uid

      up : is_on (front (paths (next_uid t))) u ≡ true → ⊥
      up on_front_of =
          let h = last_uid (front (paths (next_uid t))) in
          let parent = before_is (paths (next_uid t)) u on_front_of in
          let q = tree.heir (next_uid t) h parent in
          by h (may.parent h (ap before_last may.path ∙ parent)) (ap (λ vs. is_on vs u) (sym q.0) ∙ on_front_of) (branch_of h t) refl
        where
          by : (h : Uid) → is_open h t ≡ true → is_on (paths h) u ≡ true → (o : Option Branch) → branch_of h t ≡ o → ⊥
          by h opened on_h None is = never (is_open h t) opened (ap is_open_branch is)
          by h opened on_h (Some b) is = never (is_some b.ended) (over_below paths tree t good.lists good.closed u c there over h b is
              on_h) (is_not (is_some b.ended) (sym (ap is_open_branch is) ∙ opened))
            where
              is_not : (e : Bool) → not e ≡ true → e ≡ false
              is_not true e = let no_way : false ≡ true = e in cc
              is_not false e = refl

  abbrev l : HasLists paths t
  l = good.lists

  pub good_begun : IsGoodTree paths (grown k p t)
  good_begun = record {
    lists = record {
      places = λ w c f.
          ⊎_elim (λ old. l.places w c old) (λ g. ap (λ (b : Branch). actor b.path) (sym g.1) ∙ may.uid ∙ sym g.0) (grown_cases k p t w c f);
      paths_are = λ w c f. ⊎_elim (λ old. l.paths_are w c old)
          (λ g. ap (λ (b : Branch). uids_of b.path) (sym g.1) ∙ may.path ∙ ap paths (sym g.0)) (grown_cases k p t w c f);
      every = λ b c. ⊎_elim (λ old. l.every b (in_to b t.branches old)) (λ same. subst (λ (d : Branch). uids_of d.path ≡ paths
          (actor d.path)) same (may.path ∙ ap paths (sym may.uid))) (in_last b t.branches (in_from b (t.branches ++ new k p t ∷ []) c));
      parents = λ w h c f parent. ⊎_elim (λ old. let q = l.parents w h c old parent in (q.0, grown_still k p t h q.0 q.1))
          (λ g. let q = opened h (may.parent h (ap before_last may.path ∙ ap (λ v. before_last (paths v)) (sym g.0) ∙ parent)) in
          (q.0, grown_still k p t h q.0 q.1)) (grown_cases k p t w c f);
      listed = λ w c f two over. ⊎_elim (λ old. ap (has_end_of w) (same_ends k p t (root_of c.path)) ∙ l.listed w c old two over)
          (λ g. let no_way : false ≡ true = ap (λ (b : Branch). is_some b.ended) g.1 ∙ over in cc) (grown_cases k p t w c f);
      over = λ r w is. let o = l.over r w (ap (has_end_of w) (sym (same_ends k p t r)) ∙ is) in (o.0, grown_still k p t w o.0 o.1, o.2);
      whole = λ r. subst (AreWhole (grown k p t) []) (sym (same_ends k p t r))
          (whole_in t (grown k p t) [] (ends_of r t) (λ u w c is f on other. ⊎_elim (λ old. (c, old, refl)) (λ g. let o = l.over r u is in
          absurd (open_above u o.0 o.1 o.2 (ap (λ vs. is_on vs u) (sym (ap (λ (b : Branch). uids_of b.path) (sym g.1) ∙ may.path)) ∙ on)
          (λ same. other (g.0 ∙ sym same)))) (grown_cases k p t w c f)) (l.whole r));
    };
    closed = λ w h c q f parent its over. ⊎_elim (λ old. ⊎_elim (λ was. good.closed w h c q old parent was over)
        (λ g. let no_way : false ≡ true = ap (λ (b : Branch). is_some b.ended) g.1 ∙ over in cc) (grown_cases k p t h q its))
        (λ g. ⊎_elim (λ was. absurd (open_above h q was over (before_on (paths (next_uid t)) h (ap (λ v. before_last (paths v)) (sym g.0)
        ∙ parent)) (λ same. let no_way : ◌≡◌ {A = Option Branch} None (Some q) = sym (not_yet k p t) ∙ ap (λ v. branch_of v t)
        (sym same) ∙ was in cc))) (λ k'. let no_way : false ≡ true = ap (λ (b : Branch). is_some b.ended) k'.1 ∙ over in
        cc) (grown_cases k p t h q its)) (grown_cases k p t w c f);
  }
    where
      in_last : (b : Branch) (bs : List Branch) → In b (bs ++ new k p t ∷ []) → In b bs ⊎ (new k p t ≡ b)
      in_last b [] (inl same) = inr same
      in_last b [] (inr i) = absurd i
      in_last b (c ∷ bs) (inl same) = inl (inl same)
      in_last b (c ∷ bs) (inr i) = ⊎_elim (λ old. inl (inr old)) (λ same. inr same) (in_last b bs i)

      opened : (h : Uid) → is_open h t ≡ true → (b : Branch) × (branch_of h t ≡ Some b)
      opened h is = by (branch_of h t) refl
        where
          by : (o : Option Branch) → branch_of h t ≡ o → (b : Branch) × (branch_of h t ≡ Some b)
          by None e = never (is_open h t) is (ap is_open_branch e)
          by (Some b) e = (b, e)

-- ---- a coordinator's aborts

-- the aborts of a coordinator are those of its tree
pub aborted_tree : (us : List Uid) (c : Coord) → (let d = all_aborted us c in let e = d.part in e.tree) ≡ abort_all us c.tree
aborted_tree [] c = refl
aborted_tree (u ∷ us) c =
    aborted_tree us (ended u ending.Abort c) ∙ ap (abort_all us) (one (record c { tree = ended_at u ending.Abort c.tree }))
  where
    one : (q : Coord) → (on_doing u (λ (d : Doing). record d { now = Idle }) q).tree ≡ q.tree
    one q = by (doing_of u q)
      where
        by : (o : Option Doing) → (change_doing (λ (d : Doing). record d { now = Idle }) u q o).tree ≡ q.tree
        by None = refl
        by (Some d) = refl
