-- A top's plan has what its own actions called and included.
use Rattle.arj_law_parts.proofs.Words
use Words.{◌*◌, ◌≡◌, ◌≢◌, ◌⊎◌, ◌≤◌, ◌∙◌, ◌||◌, ◌==◌, ◌&&◌, ◌++◌, ℕ, zero, suc, List, [], ◌∷◌, Bool, true, false, cond, length, Option, Some}
use Words.{None, refl, sym, ap, subst, inl, inr, ⊎_elim, arith, is_some, map, filter, Contains, not, list_any, match_ordering, nat_cmp}
use Words.{Ordering, Less, Equal, Greater, uid_cases, uid_same, front, in_from, in_to, End, Kind, Path, Uid, before_last, first_uid, is_on}
use Words.{last_uid, uid_eq, uids_of, actor, top_of, last_req, Plan, Used, Calling, Committing, Coord, counts_grant, least_grant, top_uses}
use Words.{Doing, Grant, Idle, Joined, Now, Root, Said, counts, is_constituent_branch, is_kept_top, is_retained, retained_in, second_uid}
use Words.{joined_in, objects_in, plan_for, root_at, said_in, survives, used_of, doing_of, number_set, with_number, Branch, Tree, behind}
use Words.{branch_of, ended_so, has_end, has_open_child, is_committed, is_merged, root_of, is_constituent}
use Words.list
use Words.ending
use Words.kind
use Rattle.arj_law_lock_view.proofs.Terms
use Terms.{Act, In, Root as Unit, Sub, is_action, is_top, on, root, top, Alive, Call, Include, State, by_cases, differ}
use Terms.{on_root as same_unit, on_top, root_is, same_is, top_action, top_is, top_root, Action as Begun, AreBegun, Stands, act_of}
use Terms.{action_of, IsTree, Paths, HasLists, above_of, all_over, over_below, shorter, path_some, Acts, IsFreeToEnd, IsPlaced, IsSteady}
use Terms.{SeesAction, stage_of, Codes, HasOfUnit, IsJoined, IsNoted, AreTopped, IsOfUnit, SeesWhole, SeesCoord}
use Rattle.arj_law_lock.proofs.machine.Paths.{on_kin}
use Rattle.arj_law_lock_view.proofs.view
use view.{PlanSteps.least_below}
use view.ActingSteps.{idle_stage, unit_open}
use view.TreeSteps.{above_there, action_kind, first_on, root_there, seen_at, top_kind}
use Rattle.arj_law_lock_view.specs.view.{Covers.HasCalled, Covers.HasUsed, Covers.PlansCoverUnits, Covers.PlansSayLow, Including.HasGrant}
use Rattle.arj_law_parts.specs.parts.Trees.{IsGoodTree}

-- ---- lists

in_with : (n x : ℕ) (ns : List ℕ) → (n ≡ x) ⊎ list.In x ns → list.In x (with_number n ns)
in_with n x [] (inl same) = inl same
in_with n x [] (inr i) = absurd i
in_with n x (m ∷ ms) i = by (nat_cmp n m) refl i (λ j. in_with n x ms j)
  where
    same_number : nat_cmp n m ≡ Equal → n ≡ m
    same_number e = grind (arith, e)

    by : (r : Ordering) → nat_cmp n m ≡ r → (n ≡ x) ⊎ list.In x (m ∷ ms) → ((n ≡ x) ⊎ list.In x ms → list.In x (with_number n ms)) →
        list.In x (match_ordering r (n ∷ m ∷ ms) (m ∷ ms) (m ∷ with_number n ms))
    by Less e (inl same) ih = inl same
    by Less e (inr j) ih = inr j
    by Equal e (inl same) ih = inl (sym (same_number e) ∙ same)
    by Equal e (inr j) ih = j
    by Greater e (inl same) ih = inr (ih (inl same))
    by Greater e (inr (inl same)) ih = inl same
    by Greater e (inr (inr j)) ih = inr (ih (inr j))

in_set : (x : ℕ) (ns : List ℕ) → list.In x ns → list.In x (number_set ns)
in_set x [] i = absurd i
in_set x (n ∷ ns) (inl same) = in_with n x (number_set ns) (inl same)
in_set x (n ∷ ns) (inr i) = in_with n x (number_set ns) (inr (in_set x ns i))

in_either : (x : ℕ) (ns ms : List ℕ) → list.In x ns ⊎ list.In x ms → list.In x (ns ++ ms)
in_either x [] ms (inl i) = absurd i
in_either x [] ms (inr i) = i
in_either x (n ∷ ns) ms (inl (inl same)) = inl same
in_either x (n ∷ ns) ms (inl (inr i)) = inr (in_either x ns ms (inl i))
in_either x (n ∷ ns) ms (inr i) = inr (in_either x ns ms (inr i))

map_in : {A B : Type 0} (f : A → B) (a : A) (items : List A) → list.In a items → list.In (f a) (map f items)
map_in f a [] i = absurd i
map_in f a (x ∷ xs) (inl same) = inl (ap f same)
map_in f a (x ∷ xs) (inr i) = inr (map_in f a xs i)

filter_in : {A : Type 0} (p : A → Bool) (a : A) (items : List A) → list.In a items → p a ≡ true → list.In a (filter p items)
filter_in p a [] i is = absurd i
filter_in {A} p a (x ∷ xs) i is = by (p x) refl i (λ j. filter_in p a xs j is)
  where
    by : (b : Bool) → p x ≡ b → list.In a (x ∷ xs) → (list.In a xs → list.In a (filter p xs)) →
        list.In a (cond b (x ∷ filter p xs) (filter p xs))
    by true e (inl same) ih = inl same
    by true e (inr j) ih = inr (ih j)
    by false e (inl same) ih = absurd (differ is (ap p (sym same) ∙ e))
    by false e (inr j) ih = ih j

any_in : {A : Type 0} (p : A → Bool) (a : A) (items : List A) → list.In a items → p a ≡ true → list_any p items ≡ true
any_in p a [] i is = absurd i
any_in p a (x ∷ xs) (inl same) is = λ j. (ap p same ∙ is) j || list_any p xs
any_in p a (x ∷ xs) (inr i) is = by (p x) (any_in p a xs i is)
  where
    by : (b : Bool) → list_any p xs ≡ true → (b || list_any p xs) ≡ true
    by true h = refl
    by false h = h

equal : (n : ℕ) → (n == n) ≡ true
equal n = grind arith

-- ---- what a plan has

module _ (p : Path) (req : ℕ) (r : Root) (c : Coord) where
  abbrev says : List ℕ
  says = map (λ (z : Said). z.x) (said_in (actor p) r c)

  abbrev joins : List ℕ
  joins = map (λ (j : Joined). j.x) (joined_in (actor p) r c)

  has_said : (s : Said) → Contains r.said s → counts (actor p) s.path c ≡ true → HasCalled s.x (plan_for p req r c)
  has_said s there is = (
    used_of (actor p) r c s.x,
    in_to _ _ (map_in (used_of (actor p) r c) s.x (objects_in (actor p) r c)
        (in_set s.x (says ++ joins) (in_either s.x says joins (inl (map_in (λ (z : Said). z.x) s (said_in (actor p) r c) here))))),
    refl,
    any_in (λ (z : Said). z.x == s.x) s (said_in (actor p) r c) here (equal s.x),
  )
    where
      here : list.In s (said_in (actor p) r c)
      here = filter_in (λ (z : Said). counts (actor p) z.path c) s r.said (in_from s r.said there) is

  has_joined : (j : Joined) → Contains r.joined j → counts (actor p) j.path c ≡ true → HasUsed j.x (plan_for p req r c)
  has_joined j there is = (
    used_of (actor p) r c j.x,
    in_to _ _ (map_in (used_of (actor p) r c) j.x (objects_in (actor p) r c)
        (in_set j.x (says ++ joins) (in_either j.x says joins (inr (map_in (λ (z : Joined). z.x) j (joined_in (actor p) r c) here))))),
    refl,
  )
    where
      here : list.In j (joined_in (actor p) r c)
      here = filter_in (λ (z : Joined). counts (actor p) z.path c) j r.joined (in_from j r.joined there) is

-- ---- paths

behind_more : (u : Uid) (us : List Uid) (w : Uid) → is_on us u ≡ true → behind u (us ++ w ∷ []) ≡ behind u us ++ w ∷ []
behind_more u [] w above = absurd (cc above)
behind_more u (v ∷ vs) w above = by (uid_eq v u) above (behind_more u vs w)
  where
    by : (b : Bool) → (b || is_on vs u) ≡ true → (is_on vs u ≡ true → behind u (vs ++ w ∷ []) ≡ behind u vs ++ w ∷ []) →
        cond b (vs ++ w ∷ []) (behind u (vs ++ w ∷ [])) ≡ cond b vs (behind u vs) ++ w ∷ []
    by true h ih = refl
    by false h ih = ih h

behind_last : (u : Uid) (us : List Uid) → is_on us u ≡ false → behind u (us ++ u ∷ []) ≡ []
behind_last u [] off = λ i. cond (uid_same u i) [] []
behind_last u (v ∷ vs) off = by (uid_eq v u) off (behind_last u vs)
  where
    by : (b : Bool) → (b || is_on vs u) ≡ false → (is_on vs u ≡ false → behind u (vs ++ u ∷ []) ≡ []) →
        cond b (vs ++ u ∷ []) (behind u (vs ++ u ∷ [])) ≡ []
    by true h ih = absurd (cc h)
    by false h ih = ih h

split_last : (us : List Uid) {h : Uid} → before_last us ≡ Some h → us ≡ front us ++ last_uid us ∷ []
split_last [] {h} is = let never : ◌≡◌ {A = Option Uid} None (Some h) = is in absurd (cc never)
split_last (x ∷ []) {h} is = let never : ◌≡◌ {A = Option Uid} None (Some h) = is in absurd (cc never)
split_last (x ∷ y ∷ []) is = refl
split_last (x ∷ y ∷ z ∷ us) is = ap (λ vs. x ∷ vs) (split_last (y ∷ z ∷ us) is)

none_short : (x y : Uid) (us : List Uid) → before_last (x ∷ y ∷ us) ≡ None → ⊥
none_short x y [] is = let never : ◌≡◌ {A = Option Uid} (Some x) None = is in cc never
none_short x y (z ∷ us) is = none_short y z us is

on_more : (us : List Uid) (w v : Uid) → is_on us v ≡ true → is_on (us ++ w ∷ []) v ≡ true
on_more [] w v above = absurd (cc above)
on_more (x ∷ us) w v above = by (uid_eq x v) above (on_more us w v)
  where
    by : (b : Bool) → (b || is_on us v) ≡ true → (is_on us v ≡ true → is_on (us ++ w ∷ []) v ≡ true) → (b || is_on (us ++ w ∷ []) v) ≡ true
    by true h ih = refl
    by false h ih = ih h

on_last : (us : List Uid) (w : Uid) → is_on (us ++ w ∷ []) w ≡ true
on_last [] w = λ i. uid_same w i || false
on_last (x ∷ us) w = by (uid_eq x w) (on_last us w)
  where
    by : (b : Bool) → is_on (us ++ w ∷ []) w ≡ true → (b || is_on (us ++ w ∷ []) w) ≡ true
    by true h = refl
    by false h = h

none_more : (p : Uid → Bool) (us : List Uid) (w : Uid) → list_any p us ≡ false → p w ≡ false → list_any p (us ++ w ∷ []) ≡ false
none_more p [] w none off = λ i. off i || false
none_more p (x ∷ us) w none off = by (p x) none (none_more p us w)
  where
    by : (b : Bool) → (b || list_any p us) ≡ false → (list_any p us ≡ false → p w ≡ false → list_any p (us ++ w ∷ []) ≡ false) →
        (b || list_any p (us ++ w ∷ [])) ≡ false
    by true h ih = absurd (cc h)
    by false h ih = ih h off

empty_short : (us : List Uid) (u : Uid) → length us ≤ 0 → is_on us u ≡ true → ⊥
empty_short [] u short above = cc above
empty_short (x ∷ us) u short above = omega (arith, short)

-- ---- an action survives in one above it, where all between them committed

module _ (paths : Paths) (tree : IsTree paths) (t : Tree) (lists : HasLists paths t) (u : Uid) (ub : Branch)
    (found : branch_of u t ≡ Some ub) (Fine : Uid → Type 0) (each : (w : Uid) (b : Branch) → branch_of w t ≡ Some b →
    is_on (paths w) u ≡ true → w ≢ u → Fine w → is_committed w t ≡ true) where
  own_last : (w : Uid) (b : Branch) → branch_of w t ≡ Some b → last_uid (paths w) ≡ w
  own_last w b there = ap last_uid (sym (lists.paths_are w b there)) ∙ lists.places w b there

  nothing_behind : behind u (paths u) ≡ []
  nothing_behind = by (before_last (paths u)) refl
    where
      by : (o : Option Uid) → before_last (paths u) ≡ o → behind u (paths u) ≡ []
      by (Some h) is = let f = tree.heir u h is in ap (behind u)
          (split_last (paths u) is ∙ ap (λ z. front (paths u) ++ z ∷ []) (own_last u ub found)) ∙ behind_last u (front (paths u)) f.1
      by None is = alone (paths u) is
        where
          alone : (us : List Uid) → before_last us ≡ None → behind u us ≡ []
          alone [] none = refl
          alone (x ∷ []) none = either (uid_eq x u)
            where
              either : (b : Bool) → cond b [] (behind u []) ≡ []
              either true = refl
              either false = refl
          alone (x ∷ y ∷ us) none = absurd (none_short x y us none)

  all_committed : (k : ℕ) (w : Uid) (b : Branch) → length (paths w) ≤ k → branch_of w t ≡ Some b → is_on (paths w) u ≡ true →
      ((v : Uid) → is_on (paths w) v ≡ true → Fine v) → list_any (λ v. not (is_committed v t)) (behind u (paths w)) ≡ false
  all_committed zero w b short there above fine = absurd (empty_short (paths w) u short above)
  all_committed (suc k) w b short there above fine = ⊎_elim
      (λ (is : w ≡ u). ap (λ (v : Uid). list_any (λ z. not (is_committed z t)) (behind u (paths v))) is
      ∙ ap (list_any (λ z. not (is_committed z t))) nothing_behind)
      (λ (other : w ≢ u). deeper other (above_of paths tree t lists u w b there above other) (λ h p. all_committed k h p))
      (uid_cases w u)
    where
      deeper : w ≢ u → (h : Uid) × (before_last (paths w) ≡ Some h) × (is_on (paths h) u ≡ true) × (front (paths w) ≡ paths h) →
          ((h : Uid) (p : Branch) → length (paths h) ≤ k → branch_of h t ≡ Some p → is_on (paths h) u ≡ true →
          ((v : Uid) → is_on (paths h) v ≡ true → Fine v) → list_any (λ v. not (is_committed v t)) (behind u (paths h)) ≡ false)
          → list_any (λ v. not (is_committed v t)) (behind u (paths w)) ≡ false
      deeper other (h, parent, up, is) ih =
          let p = lists.parents w h b there parent in
          let whole : paths w ≡ paths h ++ w ∷ [] = split_last (paths w) parent ∙ (λ i. is i ++ own_last w b there i ∷ []) in
          let rest = ih h p.0 (shorter paths tree t lists w h k parent is short) p.1 up
          (λ v on_it. fine v (ap (λ us. is_on us v) whole ∙ on_more (paths h) w v on_it)) in
          let done : not (is_committed w t) ≡ false = ap not
          (each w b there above other (fine w (ap (λ us. is_on us w) whole ∙ on_last (paths h) w))) in
          ap (λ us. list_any (λ z. not (is_committed z t)) (behind u us)) whole ∙ ap (list_any (λ z. not (is_committed z t)))
          (behind_more u (paths h) w up) ∙ none_more (λ z. not (is_committed z t)) (behind u (paths h)) w rest done

  -- below a constituent a path begins with its two Uids
  starts : (r : Uid) → paths u ≡ r ∷ u ∷ [] → (k : ℕ) (w : Uid) (b : Branch) → length (paths w) ≤ k → branch_of w t ≡ Some b →
      is_on (paths w) u ≡ true → (rest : List Uid) × (paths w ≡ r ∷ u ∷ rest)
  starts r two zero w b short there above = absurd (empty_short (paths w) u short above)
  starts r two (suc k) w b short there above = ⊎_elim
      (λ (is : w ≡ u). ([], ap paths is ∙ two))
      (λ (other : w ≢ u). deeper (above_of paths tree t lists u w b there above other) (λ h p. starts r two k h p))
      (uid_cases w u)
    where
      deeper : (h : Uid) × (before_last (paths w) ≡ Some h) × (is_on (paths h) u ≡ true) × (front (paths w) ≡ paths h) →
          ((h : Uid) (p : Branch) → length (paths h) ≤ k → branch_of h t ≡ Some p → is_on (paths h) u ≡ true →
          (rest : List Uid) × (paths h ≡ r ∷ u ∷ rest)) → (rest : List Uid) × (paths w ≡ r ∷ u ∷ rest)
      deeper (h, parent, up, is) ih =
          let p = lists.parents w h b there parent in
          let z = ih h p.0 (shorter paths tree t lists w h k parent is short) p.1 up in
          (z.0 ++ w ∷ [], split_last (paths w) parent ∙ (λ i. is i ++ own_last w b there i ∷ []) ∙ ap (λ us. us ++ w ∷ []) z.1)

-- ---- where actions stand

stood : (acts : List Begun) (a : Begun) → AreBegun acts → list.In a acts →
    (older : List Begun) × Stands older a a.kind × ((b : Begun) → list.In b older → list.In b acts)
stood [] a begun i = absurd i
stood (z ∷ acts) a (first, rest) (inl is) = (acts, subst (λ (y : Begun). Stands acts y y.kind) is first.stands, λ b j. inr j)
stood (z ∷ acts) a (first, rest) (inr i) = let r = stood acts a rest i in (r.0, r.1, λ b j. inr (r.2 b j))

-- a top's path: it is alone, or a constituent below its serializing action
top_paths : (acts : List Begun) (a : Begun) → AreBegun acts → list.In a acts → a.kind ≢ kind.Serial → a.kind ≢ kind.Nested →
    ((a.kind ≡ kind.Constituent) × (r : Uid) × (uids_of a.path ≡ r ∷ act_of a ∷ [])) ⊎ (uids_of a.path ≡ act_of a ∷ [])
top_paths acts a begun there unserial unnested = let s = stood acts a begun there in by s.0 a.kind refl s.1 s.2
  where
    by : (older : List Begun) (k : Kind) → a.kind ≡ k → Stands older a k → ((b : Begun) → list.In b older → list.In b acts) →
        ((a.kind ≡ kind.Constituent) × (r : Uid) × (uids_of a.path ≡ r ∷ act_of a ∷ [])) ⊎ (uids_of a.path ≡ act_of a ∷ [])
    by older kind.Serial is s more = absurd (unserial is)
    by older kind.Nested is s more = absurd (unnested is)
    by older kind.Top is s more = inr s.0
    by older kind.Independent is s more = inr s.0
    by older kind.Constituent is (b, i, serial, path, tops) more =
        let z = stood acts b begun (more b (in_from b older i)) in
        let alone = subst (λ (k : Kind). Stands z.0 b k) serial z.1 in
        inl (is, act_of b, path ∙ ap (λ us. us ++ act_of a ∷ []) alone.0)

-- ---- at a coordinator

committed_is : (o : Option End) (d : Doing) (n : ℕ) → n ≡ stage_of o d.now → is_some o ≡ true → n ≤ 3 → has_end ending.Commit o ≡ true
committed_is None d n st over low = absurd (cc over)
committed_is (Some ending.Commit) d n st over low = refl
committed_is (Some ending.Abort) d n st over low = absurd (omega (arith, st, low))

below_action : (a m : Act) → is_action m ≡ true → on a m ≡ true → is_action a ≡ true
below_action (Unit n) m holds o = ap is_action (same_is (Unit n) m o) ∙ holds
below_action (Sub q n) m holds o = refl

committed_stage : (o : Option End) (d : Doing) (n : ℕ) → n ≡ stage_of o d.now → n ≡ 3 → has_end ending.Commit o ≡ true
committed_stage None d n st three = absurd (early d.now (sym st ∙ three))
  where
    early : (w : Now) → stage_of None w ≡ 3 → ⊥
    early Idle e = omega (arith, e)
    early (Calling s) e = omega (arith, e)
    early (Committing m) e = omega (arith, e)
committed_stage (Some ending.Commit) d n st three = refl
committed_stage (Some ending.Abort) d n st three = absurd (omega (arith, st, three))

ended_some : (o : Option End) → has_end ending.Commit o ≡ true → is_some o ≡ true
ended_some None is = absurd (cc is)
ended_some (Some e) is = refl

action_below : (a : Act) → is_action (top a) ≡ true → is_action a ≡ true
action_below (Unit n) holds = holds
action_below (Sub a n) holds = refl

top_kinds : (a : Act) (k : Kind) → IsPlaced a k → is_top a ≡ true → (k ≢ kind.Serial) × (k ≢ kind.Nested)
top_kinds a k placed top_it = (
  λ is. differ (top_action a top_it) (subst (IsPlaced a) is placed),
  λ is. differ top_it (let p = subst (IsPlaced a) is placed in p.1),
)

module _ (act : Acts) (code : Codes) (paths : Paths) (x : ℕ) (c : Coord) (u : Uid) (b : Branch) (d : Doing) (S : State)
    (free : IsFreeToEnd act paths c u b d) (unserial : b.kind ≢ kind.Serial) (childless : has_open_child u c.tree ≡ false)
    (whole : SeesWhole act code x c S) where
  abbrev steady : IsSteady act paths c
  steady = free.steady

  abbrev good : IsGoodTree paths c.tree
  good = steady.good.tree

  abbrev coord : SeesCoord act code x c S
  coord = whole.coord

  its : actor b.path ≡ u
  its = good.lists.places u b free.there

  acts : is_action (act u) ≡ true
  acts = action_kind (act u) b.kind unserial (steady.placed u b free.there)

  abbrev rt : Uid
  rt = root_of b.path

  abbrev plan : Plan
  plan = plan_for b.path (last_req (doing_of (actor b.path) c)) (root_at (root_of b.path) c) c

  abbrev rr : Root
  rr = root_at (root_of b.path) c

  abbrev Fine : Uid → Type 0
  Fine v = (S.action (act v)).stage ≤ 3

  -- an action that wasn't aborted survives in one above it, below which all have ended
  survives_in : (v : Uid) (e : Branch) → branch_of v c.tree ≡ Some e → is_action (act v) ≡ true →
      ((w : Uid) (q : Branch) → branch_of w c.tree ≡ Some q → is_on (paths w) v ≡ true → w ≢ v → is_some q.ended ≡ true)
      → (w : Uid) (q : Branch) → branch_of w c.tree ≡ Some q → Alive S (act w) → is_on (paths w) v ≡ true → survives v (paths w) c ≡ true
  survives_in v e found holds over w q there alive above = λ i. above i && merged i
    where
      each : (z : Uid) (k : Branch) → branch_of z c.tree ≡ Some k → is_on (paths z) v ≡ true → z ≢ v → Fine z → is_committed z c.tree ≡ true
      each z k at up other low =
          let s = seen_at act paths x c S.action steady coord.actions z k
          at (below_action (act z) (act v) holds (steady.alike.above z v ∙ up)) in
          ap (ended_so ending.Commit) at ∙ committed_is k.ended s.0 (S.action (act z)).stage (let y = s.2 in
          y.stage) (over z k at up other) low

      merged : is_merged v (paths w) c.tree ≡ true
      merged = ap not (all_committed paths steady.whole c.tree good.lists v e found Fine each (length (paths w)) w q (omega arith) there
          above (λ z on_it. alive (act z) (steady.alike.above w z ∙ on_it)))

  -- an action of its own does
  own_counts : (w : Uid) (q : Branch) → branch_of w c.tree ≡ Some q → Alive S (act w) → top (act w) ≡ act u →
      counts (actor b.path) (paths w) c ≡ true
  own_counts w q there alive home = λ i. subst (λ (v : Uid). survives v (paths w) c ≡ true) (sym its) done i || is_retained (paths w) c
    where
      done : survives u (paths w) c ≡ true
      done = survives_in u b free.there acts (λ z k at up other. all_over paths steady.whole c.tree good.lists u good.closed childless z k
          at (ap (λ us. is_on us u) (good.lists.paths_are z k at) ∙ up) other) w q there alive
          (sym (steady.alike.above w u) ∙ subst (λ (m : Act). on (act w) m ≡ true) home (on_top (act w)))

  root_home : root (act u) ≡ root (act rt)
  root_home = let r = root_there act paths x c S.action steady coord.actions u b free.there in
      same_unit (act u) (act rt) (steady.alike.above u rt ∙ r.2)

  root_branch : (r : Branch) × (branch_of rt c.tree ≡ Some r) × (root_of r.path ≡ rt)
  root_branch = let r = root_there act paths x c S.action steady coord.actions u b free.there in (
    r.0,
    r.1,
    ap first_uid (good.lists.paths_are rt r.0 r.1) ∙ steady.alike.units rt u (sym root_home)
        ∙ ap first_uid (sym (good.lists.paths_are u b free.there)),
  )

  -- a call of the unit whose action counts is in the plan
  called : (k : Call) → In k S.calls → root k.act ≡ root (act u) →
      ((w : Uid) (q : Branch) → branch_of w c.tree ≡ Some q → k.act ≡ act w → counts (actor b.path) (paths w) c ≡ true) → HasCalled x plan
  called k there home count =
      let r = root_branch in
      let s = coord.roots rt r.0 r.1 r.2 in
      let z = s.calls k there (home ∙ root_home) in
      let y = s.said z.0 z.1 z.2 in
      let w = last_uid (let v = z.0 in v.path) in
      subst (λ (n : ℕ). HasCalled n plan) z.2
      (has_said b.path (last_req (doing_of (actor b.path) c)) (root_at rt c) c z.0 z.1 (subst (λ us. counts (actor b.path) us c ≡ true)
      (sym (good.lists.paths_are w y.branch y.there) ∙ y.path) (count w y.branch y.there z.3)))

  used : (k : Include) → In k S.includes → root k.act ≡ root (act u) →
      ((w : Uid) (q : Branch) → branch_of w c.tree ≡ Some q → k.act ≡ act w → counts (actor b.path) (paths w) c ≡ true) → HasUsed x plan
  used k there home count =
      let r = root_branch in
      let i = whole.includes in
      let n = i.lines rt r.0 k r.1 r.2 there (home ∙ root_home) in
      let y = i.joins rt r.0 n.join r.1 r.2 n.there n.about in
      let w = last_uid (let v = n.join in v.path) in
      subst (λ (m : ℕ). HasUsed m plan) n.about
      (has_joined b.path (last_req (doing_of (actor b.path) c)) (root_at rt c) c n.join n.there (subst (λ us. counts (actor b.path) us c
      ≡ true) (sym (good.lists.paths_are w y.branch y.found) ∙ y.path) (count w y.branch y.found n.by)))

  -- ---- what its serializing action retains

  module _ (begun : AreBegun steady.actions) (unnested : b.kind ≢ kind.Nested) where
    top_u : is_top (act u) ≡ true
    top_u = top_kind (act u) b.kind unserial unnested (steady.placed u b free.there)

    zero_u : (S.action (act u)).stage ≡ 0
    zero_u = idle_stage act paths x c S steady coord.actions u b d free.there free.works acts free.unended free.idle

    -- the committed constituent in which an action survives
    record IsRetained (w : Uid) : Type 0 where
      pub constituent : Uid
      pub acts : is_action (act w) ≡ true
      pub top : top (act w) ≡ act constituent
      pub kept : is_kept_top constituent c ≡ true
      pub survives : survives constituent (paths w) c ≡ true
      pub retained : is_retained (paths w) c ≡ true

    -- a committed top of the unit is a constituent
    retainer : (w : Uid) (q : Branch) → branch_of w c.tree ≡ Some q → Alive S (act w) → root (act w) ≡ root (act u) →
        (S.action (top (act w))).stage ≡ 3 → IsRetained w
    retainer w q there alive home three = by_top (by_cases (is_action (act w)))
      where
        by_top : (is_action (act w) ≡ true) ⊎ (is_action (act w) ≡ false) → IsRetained w
        by_top (inr isnt) =
            let unit : act w ≡ Unit (root (act u)) = root_is (act w) isnt ∙ ap Unit home in
            let open_unit = unit_open act paths x c S steady coord.actions u b d free.there free.works free.unended in
            let st : (S.action (Unit (root (act u)))).stage ≡ 3 = sym (ap (λ (a : Act). (S.action (top a)).stage) unit) ∙ three in
            absurd (omega (arith, open_unit, st))
        by_top (inl holds) =
            let tops : is_top (top (act w)) ≡ true = top_is (act w) holds in
            let v = steady.alike.filled w (top (act w)) (on_top (act w)) (top_action (top (act w)) tops) in
            let above : is_on (paths w) v.0 ≡ true = sym (steady.alike.above w v.0) ∙ ap (on (act w)) (sym v.1) ∙ on_top (act w) in
            let e = above_there paths steady.whole c.tree good.lists v.0 w q there above in
            let top_v : is_top (act v.0) ≡ true = ap is_top (sym v.1) ∙ tops in
            at_top v.0 e.0 e.1 above v.1 top_v (ap root (sym v.1) ∙ top_root (act w) ∙ home)
            (ap (λ (a : Act). (S.action a).stage) (sym v.1) ∙ three)
          where
            at_top : (v : Uid) (e : Branch) → branch_of v c.tree ≡ Some e → is_on (paths w) v ≡ true → top (act w) ≡ act v →
                is_top (act v) ≡ true → root (act v) ≡ root (act u) → (S.action (act v)).stage ≡ 3 → IsRetained w
            at_top v e found above its_top top_v unit stage =
                let kinds = top_kinds (act v) e.kind (steady.placed v e found) top_v in
                ⊎_elim constituent alone (top_paths steady.actions (action_of e) begun
                (in_from (action_of e) steady.actions (steady.good.known v e found)) kinds.0 kinds.1)
              where
                own_v : actor e.path ≡ v
                own_v = good.lists.places v e found

                seen_v : (k : Doing) × (doing_of v c ≡ Some k) × SeesAction x e k (S.action (act v))
                seen_v = seen_at act paths x c S.action steady coord.actions v e found (top_action (act v) top_v)

                committed_v : has_end ending.Commit e.ended ≡ true
                committed_v = committed_stage e.ended seen_v.0 (S.action (act v)).stage (let k = seen_v.2 in k.stage) stage

                over_v : (z : Uid) (k : Branch) → branch_of z c.tree ≡ Some k → is_on (paths z) v ≡ true → z ≢ v → is_some k.ended ≡ true
                over_v z k at up other =
                    over_below paths steady.whole c.tree good.lists good.closed v e found (ended_some e.ended committed_v) z k at up

                -- it would be the root, and the top itself
                alone : uids_of e.path ≡ actor e.path ∷ [] → IsRetained w
                alone one =
                    let first : first_uid (paths u) ≡ v = steady.alike.units u v (sym unit)
                    ∙ ap first_uid (sym (good.lists.paths_are v e found)) ∙ ap first_uid one ∙ own_v in
                    let on_it : is_on (paths u) v ≡ true = subst (λ (z : Uid). is_on (paths u) z ≡ true) first (subst (λ us. is_on us
                    (first_uid us) ≡ true) (good.lists.paths_are u b free.there) (first_on (uids_of b.path) (path_some b.path))) in
                    let same_top : act u ≡ act v = on_kin (act u) (act v) top_u top_v (steady.alike.above u v ∙ on_it) in
                    let zero_v : (S.action (act v)).stage ≡ 0 = ap (λ (a : Act). (S.action a).stage) (sym same_top) ∙ zero_u in
                    absurd (omega (arith, zero_v, stage))

                constituent : (e.kind ≡ kind.Constituent) × (r : Uid) × (uids_of e.path ≡ r ∷ actor e.path ∷ []) → IsRetained w
                constituent (is, r, two) =
                    let shape : paths v ≡ r ∷ v ∷ [] = sym (good.lists.paths_are v e found) ∙ two ∙ ap (λ z. r ∷ z ∷ []) own_v in
                    let long = starts paths steady.whole c.tree good.lists v e found (λ z. ⊥) (λ z k at up other none. absurd none) r shape
                    (length (paths w)) w q (omega arith) there above in
                    let last : is_retained (paths w) c ≡ retained_in (paths w) c (Some v) = ap
                    (λ us. retained_in (paths w) c (second_uid us)) long.1 in
                    let kept : is_kept_top v c ≡ true = ap (λ (o : Option Branch). is_constituent_branch o && ended_so ending.Commit o)
                    found ∙ (λ i. is_constituent (is i) && committed_v i) in
                    let in_it = survives_in v e found (top_action (act v) top_v) over_v w q there alive above in
                    record {
                      constituent = v;
                      acts = holds;
                      top = its_top;
                      kept = kept;
                      survives = in_it;
                      retained = last ∙ (λ i. kept i && in_it i);
                    }

    either : (o p : Bool) → p ≡ true → (o || p) ≡ true
    either true p is = refl
    either false p is = is

    retained : (w : Uid) (q : Branch) → branch_of w c.tree ≡ Some q → Alive S (act w) → root (act w) ≡ root (act u) →
        (S.action (top (act w))).stage ≡ 3 → counts (actor b.path) (paths w) c ≡ true
    retained w q there alive home three = let k = retainer w q there alive home three in
        either (survives (actor b.path) (paths w) c) (is_retained (paths w) c) k.retained

    unit_counts : (a : Act) → Alive S a → IsOfUnit (act u) a S → (w : Uid) (q : Branch) → branch_of w c.tree ≡ Some q → a ≡ act w →
        counts (actor b.path) (paths w) c ≡ true
    unit_counts a alive (home, which) w q at by = ⊎_elim
        (λ (own : top a ≡ act u). own_counts w q at (subst (Alive S) by alive) (ap top (sym by) ∙ own))
        (λ (over : (S.action (top a)).stage ≡ 3). retained w q at (subst (Alive S) by alive) (ap root (sym by) ∙ home)
        (ap (λ (m : Act). (S.action (top m)).stage) (sym by) ∙ over))
        which

    unit_plan : HasOfUnit x (act u) plan S
    unit_plan = (
      λ k there alive of. called k there of.0 (unit_counts k.act alive of),
      λ k there alive of. used k there of.0 (unit_counts k.act alive of),
    )

    -- its grant isn't above that of an include that counts
    low_grants : AreTopped act c → (q : Used) (k : Include) → Contains plan.used q → q.x ≡ x → In k S.includes → Alive S k.act →
        IsOfUnit (act u) k.act S → q.grant * 4294967296 ≤ k.grant
    low_grants topped q k there about i alive of = below (let f = list.in_map (used_of (actor b.path) (root_at rt c) c) q
        (objects_in (actor b.path) (root_at rt c) c) (in_from q plan.used there) in f)
      where
        note : IsNoted act x k rr c.tree
        note = let r = root_branch in let n = whole.includes in n.lines rt r.0 k r.1 r.2 i (of.0 ∙ root_home)

        join : IsJoined note.join c.tree
        join = let r = root_branch in let n = whole.includes in n.joins rt r.0 note.join r.1 r.2 note.there note.about

        w : Uid
        w = last_uid (let v = note.join in v.path)

        grant : HasGrant rr x (top_of (let y = join.branch in y.path)) k.grant
        grant = note.granted join.branch join.found

        below : (y : ℕ) × list.In y (objects_in (actor b.path) rr c) × (used_of (actor b.path) rr c y ≡ q) → q.grant * 4294967296 ≤ k.grant
        below (y, yi, is) = by_least (least_below grant.0.least (map (λ (g : Grant). g.least) (filter (counts_grant (actor b.path) x rr c)
            rr.grants)) (map_in (λ (g : Grant). g.least) grant.0 (filter (counts_grant (actor b.path) x rr c) rr.grants)
            (filter_in (counts_grant (actor b.path) x rr c) grant.0 rr.grants (in_from grant.0 rr.grants grant.1) counted)))
          where
            same : y ≡ x
            same = ap (λ (z : Used). z.x) is ∙ about

            its_grant : q.grant ≡ least_grant (actor b.path) x rr c
            its_grant = ap (λ (z : Used). z.grant) (sym is) ∙ ap (λ (n : ℕ). least_grant (actor b.path) n rr c) same

            by_least : least_grant (actor b.path) x rr c ≤ grant.0.least → q.grant * 4294967296 ≤ k.grant
            by_least le = let e = its_grant in let h = grant.4 in omega (arith, le, e, h)

            counted : counts_grant (actor b.path) x rr c grant.0 ≡ true
            counted = λ j. (ap (λ n. n == x) grant.3 ∙ equal x) j && who j
              where
                alive_w : Alive S (act w)
                alive_w = subst (Alive S) note.by alive

                -- it is the grant of the top of the include's action
                by_top : (v : Uid) → is_action (act w) ≡ true → top (act w) ≡ act v → (let g = grant.0 in g.top) ≡ v
                by_top v holds is =
                    grant.2 ∙ steady.alike.one (top_of (let y = join.branch in y.path)) v (sym (topped w join.branch join.found holds) ∙ is)

                own : top k.act ≡ act u → (uid_eq (let g = grant.0 in g.top) (actor b.path)
                    || (is_kept_top (let g = grant.0 in g.top) c && top_uses (let g = grant.0 in g.top) x rr c)) ≡ true
                own home =
                    let top_w : top (act w) ≡ act u = ap top (sym note.by) ∙ home in
                    let g = by_top u (action_below (act w) (ap is_action top_w ∙ acts)) top_w in
                    λ j. (ap (λ (v : Uid). uid_eq v (actor b.path)) (g ∙ sym its) ∙ uid_same (actor b.path)) j
                    || (is_kept_top (let y = grant.0 in y.top) c && top_uses (let y = grant.0 in y.top) x rr c)

                held : (S.action (top k.act)).stage ≡ 3 → (uid_eq (let g = grant.0 in g.top) (actor b.path)
                    || (is_kept_top (let g = grant.0 in g.top) c && top_uses (let g = grant.0 in g.top) x rr c)) ≡ true
                held three =
                    let r = retainer w join.branch join.found alive_w (ap root (sym note.by) ∙ of.0)
                    (ap (λ (a : Act). (S.action (top a)).stage) (sym note.by) ∙ three) in
                    let g = by_top r.constituent r.acts r.top in
                    let there_it = subst (λ us. survives r.constituent us c ≡ true)
                    (sym (good.lists.paths_are w join.branch join.found) ∙ join.path) r.survives in
                    let uses : top_uses r.constituent x rr c ≡ true = either (list_any (λ (z : Said). (z.x == x) && survives r.constituent
                    z.path c) rr.said) (list_any (λ (z : Joined). (z.x == x) && survives r.constituent z.path c) rr.joined)
                    (any_in (λ (z : Joined). (z.x == x) && survives r.constituent z.path c) note.join rr.joined
                    (in_from note.join rr.joined note.there) (λ j. (ap (λ n. n == x) note.about ∙ equal x) j && there_it j)) in
                    either (uid_eq (let y = grant.0 in y.top) (actor b.path)) (is_kept_top (let y = grant.0 in y.top) c && top_uses (let y =
                    grant.0 in y.top) x rr c) (ap (λ (v : Uid). is_kept_top v c && top_uses v x rr c) g ∙ (λ j. r.kept j && uses j))

                who : (uid_eq (let g = grant.0 in g.top) (actor b.path)
                    || (is_kept_top (let g = grant.0 in g.top) c && top_uses (let g = grant.0 in g.top) x rr c)) ≡ true
                who = ⊎_elim own held of.1

pub plans_cover_units : PlansCoverUnits
plans_cover_units act code paths x c u b d S free begun unserial unnested childless whole =
    unit_plan act code paths x c u b d S free unserial childless whole begun unnested

pub plans_say_low : PlansSayLow
plans_say_low act code paths x c u b d S free begun topped unserial unnested childless whole q k =
    low_grants act code paths x c u b d S free unserial childless whole begun unnested topped q k
