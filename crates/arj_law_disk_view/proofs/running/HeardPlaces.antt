-- Where an action stands that asks: its root and its top are open, and no other top of the root is on its path.
use Rattle.arj_law_parts.proofs.Words
use Words.{◌≡◌, ◌≢◌, ◌⊎◌, ◌≤◌, ℕ, zero, suc, Bool, true, false, List, [], ◌∷◌, ◌++◌, length, Option, Some, None, is_some, refl, sym, ◌∙◌}
use Words.{ap, subst, inl, inr, ⊎_elim, arith, take, ◌&&◌, ◌||◌, if◌then◌else◌, uid_cases, uid_is, uid_same, In, in_from, in_to, End, Kind}
use Words.{Path, Uid, first_uid, is_on, last_uid, tops_of, uid_eq, uids_of, actor, top_of, top_path, Machine, plan_of, Calling, Committing}
use Words.{Coord, Doing, Idle, Now, doing_of, is_constituent_branch, is_kept_top, retained_in, second_uid, survives, Intent, uid_number}
use Words.{Branch, branch_of, ended_so, has_end, at_place, is_aborted, is_own, root_of, is_constituent}
use Words.ending
use Words.kind
use Words.coord
use Rattle.arj_law_disk_view.proofs.Terms
use Terms.{Action, AreBegun, Stands, act_of, action_of, paths_of, IsBusy, IsGoodCoord, IsVoting, begun_tree, on_more, on_own, one_action}
use Terms.{path_length, path_some, serial_alone, over_below, root_own, State, is_gone, falls_to, never, or_cases, or_left, or_right}
use Terms.{some_is, IsOfKind, KnowsCoord, KnowsKinds, IsFixed, Kinds, SeesCoord, Works, WorksBy, IsTopOf, is_top_kind, IsWorkingRoot}
use Terms.disk
use Rattle.arj_law_disk_view.proofs.running.{Begun.root_on, Holders.taken_front, TopPaths.HasTop, TopPaths.top_in}
use Rattle.arj_law_parts.proofs.parts.GoodTrees.{above_of, shorter}

-- An open action's root and top are at work, and on its path no other top of the root is; nothing on it has ended.
pub record StandsIn (tops : Kinds) (c : Coord) (p : Path) : Type 0 where
  pub root : IsWorkingRoot tops c (root_of p)
  pub own : is_own (top_of p) c.tree ≡ true
  pub top : IsTopOf tops (root_of p) (top_of p)
  pub on : is_on (uids_of p) (top_of p) ≡ true
  pub only : (w : Uid) → is_on (uids_of p) w ≡ true → IsTopOf tops (root_of p) w → w ≡ top_of p
  pub unkept : coord.is_retained (uids_of p) c ≡ false
  pub free : is_aborted (root_of p) c.tree ≡ false

-- ---- paths

-- the action is nested
abbrev IsNestedIn : List Action → Uid → Type 0
IsNestedIn acts w = (n : Action) × In n acts × (act_of n ≡ w) × (n.kind ≡ kind.Nested)

-- behind its top an action's path has nested ones
inner_in : (acts : List Action) → AreBegun acts → (a : Action) → In a acts → (w : Uid) → is_on (uids_of a.path) w ≡ true →
    (is_on (top_path a.path) w ≡ true) ⊎ IsNestedIn acts w
inner_in [] begun a none w on = absurd none
inner_in (b ∷ acts) begun a (inr old) w on =
    ⊎_elim (λ top. inl top) (λ (n : IsNestedIn acts w). inr (n.0, inr n.1, n.2, n.3)) (inner_in acts begun.1 a old w on)
inner_in (b ∷ acts) begun a (inl same) w on = subst (λ (x : Action). is_on (uids_of x.path) w ≡ true → (is_on (top_path x.path) w ≡ true)
    ⊎ IsNestedIn (b ∷ acts) w) same (by b.kind refl begun.0.stands (λ c i h. inner_in acts begun.1 c i w h)) on
  where
    whole : (us : List Uid) (n : ℕ) → uids_of b.path ≡ us → tops_of b.path ≡ n → take n us ≡ us → is_on (uids_of b.path) w ≡ true →
        (is_on (top_path b.path) w ≡ true) ⊎ IsNestedIn (b ∷ acts) w
    whole us n uids tops all h = inl (ap (λ vs. is_on vs w) ((λ j. take (tops j) (uids j)) ∙ (all ∙ sym uids)) ∙ h)

    by : (k : Kind) → b.kind ≡ k → Stands acts b k → ((c : Action) → In c acts → is_on (uids_of c.path) w ≡ true → (is_on (top_path c.path)
        w ≡ true) ⊎ IsNestedIn acts w) → is_on (uids_of b.path) w ≡ true → (is_on (top_path b.path) w ≡ true) ⊎ IsNestedIn (b ∷ acts) w
    by kind.Top is s older h = whole (act_of b ∷ []) 1 s.0 s.1 refl h
    by kind.Independent is s older h = whole (act_of b ∷ []) 1 s.0 s.1 refl h
    by kind.Serial is s older h = whole (act_of b ∷ []) 1 s.0 s.1 refl h
    by kind.Constituent is s older h =
        let c : Action = s.0 in
        let up = serial_alone acts begun.1 c (in_from c acts s.1) s.2 in
        whole (act_of c ∷ act_of b ∷ []) 2 (s.3 ∙ ap (λ us. us ++ act_of b ∷ []) up.0) s.4 refl h
    by kind.Nested is s older h =
        let c : Action = s.0 in
        let inside : tops_of c.path ≤ length (uids_of c.path) = omega (arith, c.path.within, path_length c.path) in
        let top : top_path b.path ≡ top_path c.path = (λ j. take (s.4 j) (s.3 j))
        ∙ taken_front (uids_of c.path) (act_of b) (tops_of c.path) inside in
        ⊎_elim (λ old. ⊎_elim (λ t. inl (ap (λ vs. is_on vs w) top ∙ t)) (λ (n : IsNestedIn acts w). inr (n.0, inr n.1, n.2, n.3))
        (older c (in_from c acts s.1) old))
        (λ new. inr (b, inl refl, new, is)) (on_more (uids_of c.path) (act_of b) w (ap (λ us. is_on us w) (sym s.3) ∙ h))

pub taken_on : (n : ℕ) (us : List Uid) (w : Uid) → is_on (take n us) w ≡ true → is_on us w ≡ true
taken_on zero us w on = absurd (none us on)
  where
    none : (vs : List Uid) → is_on (take zero vs) w ≡ true → ⊥
    none [] h = cc h
    none (v ∷ vs) h = cc h
taken_on (suc n) [] w on = absurd (cc on)
taken_on (suc n) (v ∷ us) w on = ⊎_elim (λ here. or_left (uid_eq v w) (is_on us w) here)
    (λ more. or_right (uid_eq v w) (is_on us w) (taken_on n us w more)) (or_cases (uid_eq v w) (is_on (take n us) w) on)

pub taken_first : (n : ℕ) (us : List Uid) (v : Uid) (vs : List Uid) → take n us ≡ v ∷ vs → first_uid us ≡ v
taken_first zero [] v vs is = absurd (cc is)
taken_first zero (u ∷ us) v vs is = absurd (cc is)
taken_first (suc n) [] v vs is = absurd (cc is)
taken_first (suc n) (u ∷ us) v vs is = ap first_uid is

-- ---- an open action

module _ (acts : List Action) (begun : AreBegun acts) (tops : Kinds) (kinds : KnowsKinds tops) (intents : List (Uid × Intent)) (c : Coord)
    (good : IsGoodCoord acts (paths_of acts) c) (knows : KnowsCoord tops intents c)
    (u : Uid) (b : Branch) (found : branch_of u c.tree ≡ Some b) (opened : is_some b.ended ≡ false) (unserial : b.kind ≢ kind.Serial) where
  abbrev p : Path
  p = b.path

  mine : In (action_of b) acts
  mine = in_from (action_of b) acts (good.known u b found)

  -- whoever stands on the path is open
  not_over : (w : Uid) → is_on (uids_of p) w ≡ true → (y : Branch) → branch_of w c.tree ≡ Some y → is_some y.ended ≡ false
  not_over w on y there =
      falls_to (is_some y.ended) (λ ended. never (over_below (paths_of acts) (begun_tree acts begun) c.tree good.tree.lists good.tree.closed
      w y there ended u b found (ap (λ us. is_on us w) (sym (good.tree.lists.paths_are u b found)) ∙ on)) opened)

  -- whoever stands on a path has its branch
  there_on : (k : ℕ) (w : Uid) (y : Branch) → length (paths_of acts w) ≤ k → branch_of w c.tree ≡ Some y → (z : Uid) →
      is_on (paths_of acts w) z ≡ true → (r : Branch) × (branch_of z c.tree ≡ Some r)
  there_on zero w y short at z on = absurd (empty (paths_of acts w) short on)
    where
      empty : (us : List Uid) → length us ≤ 0 → is_on us z ≡ true → ⊥
      empty [] le o = cc o
      empty (x ∷ us) le o = absurd (omega (arith, le))
  there_on (suc k) w y short at z on = by (there_on k) (uid_cases w z)
    where
      by : ((w : Uid) (y : Branch) → length (paths_of acts w) ≤ k → branch_of w c.tree ≡ Some y → (z : Uid) → is_on (paths_of acts w) z
          ≡ true → (r : Branch) × (branch_of z c.tree ≡ Some r)) → (w ≡ z) ⊎ (w ≢ z) → (r : Branch) × (branch_of z c.tree ≡ Some r)
      by ih (inl same) = (y, ap (λ v. branch_of v c.tree) (sym same) ∙ at)
      by ih (inr other) =
          let up = above_of (paths_of acts) (begun_tree acts begun) c.tree good.tree.lists z w y at on other in
          let r = good.tree.lists.parents w up.0 y at up.1 in
          ih up.0 r.0 (shorter (paths_of acts) (begun_tree acts begun) c.tree good.tree.lists w up.0 k up.1 up.3 short) r.1 z up.2

  none_so : (o : Option End) → is_some o ≡ false → o ≡ None
  none_so None off = refl
  none_so (Some e) off = absurd (cc off)

  not_ended : (k : End) (w : Uid) → is_on (uids_of p) w ≡ true → ended_so k (branch_of w c.tree) ≡ false
  not_ended k w on = by (branch_of w c.tree) refl
    where
      no_end : (j : End) → has_end j None ≡ false
      no_end ending.Commit = refl
      no_end ending.Abort = refl

      by : (o : Option Branch) → branch_of w c.tree ≡ o → ended_so k o ≡ false
      by None is = refl
      by (Some y) is = ap (has_end k) (none_so y.ended (not_over w on y is)) ∙ no_end k

  not_kept : coord.is_retained (uids_of p) c ≡ false
  not_kept = by (uids_of p) refl
    where
      off : (w : Uid) → is_on (uids_of p) w ≡ true → (is_kept_top w c && survives w (uids_of p) c) ≡ false
      off w on = ap (λ z. (is_constituent_branch (branch_of w c.tree) && z) && survives w (uids_of p) c) (not_ended ending.Commit w on)
          ∙ none (is_constituent_branch (branch_of w c.tree))
        where
          none : (z : Bool) → ((z && false) && survives w (uids_of p) c) ≡ false
          none true = refl
          none false = refl

      by : (us : List Uid) → uids_of p ≡ us → retained_in (uids_of p) c (second_uid us) ≡ false
      by [] is = refl
      by (v ∷ []) is = refl
      by (v ∷ w ∷ us) is = off w
          (ap (λ vs. is_on vs w) is ∙ or_right (uid_eq v w) (uid_eq w w || is_on us w) (or_left (uid_eq w w) (is_on us w) (uid_same w)))

  -- ---- the top

  t : HasTop acts (action_of b)
  t = top_in acts begun (action_of b) mine unserial

  leads : (w : Uid) → is_on (uids_of (let a = t.0 in a.path)) w ≡ true → is_on (uids_of p) w ≡ true
  leads w on = taken_on (tops_of p) (uids_of p) w (ap (λ us. is_on us w) t.3 ∙ on)

  top_is : top_of p ≡ act_of t.0
  top_is = ap last_uid t.3

  -- an action on the path has its branch
  branch_on : (a : Action) → In a acts → (r : Uid) → is_on (uids_of a.path) r ≡ true → is_own r c.tree ≡ true →
      (y : Branch) × (branch_of (act_of a) c.tree ≡ Some y) × (y.kind ≡ a.kind) × (y.path ≡ a.path)
  branch_on a i r on own = let h = good.home a r (in_to a acts i) on own in (
    h.0,
    h.1,
    ap (λ (z : Action). z.kind)
        (one_action acts begun (action_of h.0) a (in_from (action_of h.0) acts (good.known (act_of a) h.0 h.1)) i (ap actor h.2)),
    h.2,
  )

  first_is : first_uid (uids_of p) ≡ first_uid (uids_of (let a = t.0 in a.path))
  first_is = by (uids_of (let a = t.0 in a.path)) t.3 (path_some (let a = t.0 in a.path))
    where
      by : (us : List Uid) → top_path p ≡ us → 1 ≤ length us → first_uid (uids_of p) ≡ first_uid us
      by [] is some = absurd (let no_way : ◌≡◌ {A = ℕ} 0 1 = omega (arith, some) in cc)
      by (v ∷ vs) is some = taken_first (tops_of p) (uids_of p) v vs is

  own_root : is_own (root_of p) c.tree ≡ true
  own_root = root_own acts (paths_of acts) (begun_tree acts begun) c good u b found

  root_there : is_on (uids_of (let a = t.0 in a.path)) (root_of p) ≡ true
  root_there = ap (is_on (uids_of (let a = t.0 in a.path))) first_is ∙ root_on (let a = t.0 in a.path)

  top_branch :
      (y : Branch) × (branch_of (act_of t.0) c.tree ≡ Some y) × (y.kind ≡ (let a = t.0 in a.kind)) × (y.path ≡ (let a = t.0 in a.path))
  top_branch = branch_on t.0 t.1 (root_of p) root_there own_root

  abbrev Shape : Uid → List Uid → Type 0
  Shape w us =
      (tops.is_top (uid_number w) ≡ true) × (tops.is_serial (uid_number w) ≡ false) × ((us ≡ w ∷ []) ⊎ (us ≡ first_uid us ∷ w ∷ []))

  -- how the top's path looks
  shape : Shape (act_of t.0) (uids_of (let a = t.0 in a.path))
  shape = let y = top_branch in
      subst (λ q. Shape (act_of t.0) (uids_of q)) y.3 (by y.0.kind (ap is_top_kind y.2 ∙ t.2) (knows.kind (act_of t.0) y.0 y.1))
    where
      by : (k : Kind) → is_top_kind k ≡ true → IsOfKind tops (act_of t.0) k (let y = top_branch.0 in y.path) →
          Shape (act_of t.0) (uids_of (let y = top_branch.0 in y.path))
      by kind.Nested on h = absurd (cc on)
      by kind.Serial on h = absurd (cc on)
      by kind.Constituent on h = (h.0, h.1, inr h.2)
      by kind.Top on h = (h.0, h.1, inl h.2)
      by kind.Independent on h = (h.0, h.1, inl h.2)

  its_root : tops.root (uid_number (act_of t.0)) ≡ uid_number (root_of p)
  its_root = let y = top_branch in
      knows.root (act_of t.0) y.0 y.1 shape.0 ∙ ap uid_number (ap (λ q. first_uid (uids_of q)) y.3 ∙ sym first_is)

  root_alone : tops.root (uid_number (root_of p)) ≡ uid_number (root_of p)
  root_alone = ap tops.root (sym its_root) ∙ (kinds.idem (uid_number (act_of t.0)) ∙ its_root)

  its_top : IsTopOf tops (root_of p) (act_of t.0)
  its_top = record { top = shape.0; plain = shape.1; of_root = its_root }

  own_top : is_own (act_of t.0) c.tree ≡ true
  own_top = by (is_own (act_of t.0) c.tree) refl top_branch.1
    where
      by : (z : Bool) → is_own (act_of t.0) c.tree ≡ z → (if z then at_place (let w = act_of t.0 in w.num) c.tree.branches else None)
          ≡ Some (let y = top_branch in y.0) → is_own (act_of t.0) c.tree ≡ true
      by true own at = own
      by false own at = absurd (cc at)

  -- no other top of the root is on the path
  only_one : (w : Uid) → is_on (uids_of p) w ≡ true → IsTopOf tops (root_of p) w → w ≡ act_of t.0
  only_one w on of = ⊎_elim top nested (inner_in acts begun (action_of b) mine w on)
    where
      nested : IsNestedIn acts w → w ≡ act_of t.0
      nested (n, i, is, kind_is) =
          let y = there_on (length (paths_of acts u)) u b (omega arith) found w
          (ap (λ us. is_on us w) (sym (good.tree.lists.paths_are u b found)) ∙ on) in
          let same : action_of y.0 ≡ n = one_action acts begun (action_of y.0) n (in_from (action_of y.0) acts (good.known w y.0 y.1)) i
          (good.tree.lists.places w y.0 y.1 ∙ sym is) in
          absurd (never of.top
          (subst (λ k. IsOfKind tops w k y.0.path) (ap (λ (z : Action). z.kind) same ∙ kind_is) (knows.kind w y.0 y.1)).0)

      top : is_on (top_path p) w ≡ true → w ≡ act_of t.0
      top h = ⊎_elim
          (λ alone. one (act_of t.0) (ap (λ us. is_on us w) (sym alone) ∙ there))
          (λ two. ⊎_elim
          (λ first. ⊎_elim (λ same. sym (uid_is (first_uid (uids_of (let a = t.0 in a.path))) w first) ∙ same)
          (λ other. absurd (never (subst (λ z. tops.is_top (uid_number z) ≡ true)
          (sym (uid_is (first_uid (uids_of (let a = t.0 in a.path))) w first)) of.top) (kinds.serial (act_of t.0)
          (first_uid (uids_of (let a = t.0 in a.path))) shape.0 (its_root ∙ ap uid_number first_is) (λ e. other (sym e))).0))
          (uid_cases (first_uid (uids_of (let a = t.0 in a.path))) (act_of t.0)))
          (λ last. one (act_of t.0) last)
          (or_cases (uid_eq (first_uid (uids_of (let a = t.0 in a.path))) w) (uid_eq (act_of t.0) w || false)
          (ap (λ us. is_on us w) (sym two) ∙ there)))
          shape.2
        where
          there : is_on (uids_of (let a = t.0 in a.path)) w ≡ true
          there = ap (λ us. is_on us w) (sym t.3) ∙ h

          one : (z : Uid) → (uid_eq z w || false) ≡ true → w ≡ z
          one z e = ⊎_elim (λ yes. sym (uid_is z w yes)) (λ no. absurd (cc no)) (or_cases (uid_eq z w) false e)

  top_there : is_on (uids_of p) (act_of t.0) ≡ true
  top_there = leads (act_of t.0) (on_own (let a = t.0 in a.path))

  pub stands_in : StandsIn tops c b.path
  stands_in = record {
    root = record { own = own_root; alone = root_alone; unended = λ y is. none_so y.ended (not_over (root_of p) (root_on p) y is) };
    own = subst (λ w. is_own w c.tree ≡ true) (sym top_is) own_top;
    top = subst (IsTopOf tops (root_of p)) (sym top_is) its_top;
    on = subst (λ w. is_on (uids_of p) w ≡ true) (sym top_is) top_there;
    only = λ w on of. only_one w on of ∙ sym top_is;
    unkept = not_kept;
    free = not_ended ending.Abort (root_of p) (root_on p);
  }

  -- the top has no commit under way, and none of it has begun
  not_committing : (q : Doing) → doing_of u c ≡ Some q → ((m : Machine) → q.now ≡ Committing m → ⊥) → (z : Doing) (m : Machine) →
      doing_of (act_of t.0) c ≡ Some z → z.now ≡ Committing m → ⊥
  not_committing q at idle z m at_top now = ⊎_elim (λ same. idle m (ap (λ (y : Doing). y.now)
      (some_is at (ap (λ w. doing_of w c) (sym same) ∙ at_top)) ∙ now)) (λ other. below other) (uid_cases (act_of t.0) u)
    where
      votes : IsVoting c.tree (act_of t.0) (plan_of m)
      votes = subst (IsBusy c.tree (act_of t.0)) now (good.busy (act_of t.0) z at_top)

      below : act_of t.0 ≢ u → ⊥
      below other =
          let over = votes.over u (votes.below u b found top_there (λ same. other (sym same))) in
          never (ap (λ (y : Branch). is_some y.ended) (some_is found over.1) ∙ over.2) opened

  pub top_waits : (q : Doing) → doing_of u c ≡ Some q → ((m : Machine) → q.now ≡ Committing m → ⊥) → (z : Doing) (m : Machine) →
      doing_of (top_of b.path) c ≡ Some z → z.now ≡ Committing m → ⊥
  top_waits q at idle z m there now = not_committing q at idle z m (ap (λ w. doing_of w c) (sym top_is) ∙ there) now

  pub top_idle : (x k inc : ℕ) (S : State) → SeesCoord x k inc tops c S → (q : Doing) → doing_of u c ≡ Some q →
      ((m : Machine) → q.now ≡ Committing m → ⊥) → S.stage (uid_number (top_of b.path)) ≡ disk.Idle
  top_idle x k inc S sees q at idle =
      let y = top_branch in
      let w = knows.at_work (act_of t.0) y.0 y.1 in
      subst (λ z. S.stage (uid_number z) ≡ disk.Idle) (sym top_is)
      (waits w.0 (let z = w.0 in z.now) refl w.1 (by (let e = y.0 in e.kind) (let z = w.0 in z.now) (ap is_top_kind y.2 ∙ t.2)
      (sees.working (act_of t.0) y.0 w.0 y.1 (none_so (let e = y.0 in e.ended) (not_over (act_of t.0) top_there y.0 y.1)) w.1)))
    where
      waits : (z : Doing) (n : Now) → z.now ≡ n → doing_of (act_of t.0) c ≡ Some z → WorksBy x S (uid_number (act_of t.0)) n →
          S.stage (uid_number (act_of t.0)) ≡ disk.Idle
      waits z Idle is there h = h
      waits z (Calling s) is there h = h
      waits z (Committing m) is there h = absurd (not_committing q at idle z m there is)

      by : (kd : Kind) (n : Now) → is_top_kind kd ≡ true → Works x tops S (uid_number (act_of t.0)) kd n →
          WorksBy x S (uid_number (act_of t.0)) n
      by kind.Nested n on h = absurd (cc on)
      by kind.Serial n on h = absurd (cc on)
      by kind.Constituent n on h = h.1
      by kind.Top n on h = h.1
      by kind.Independent n on h = h.1

  -- its root is there
  pub top_rooted : (x k inc : ℕ) (S : State) → IsFixed tops S → SeesCoord x k inc tops c S →
      S.stage (uid_number (top_of b.path)) ≡ disk.Idle → is_gone (S.stage (S.root (uid_number (top_of b.path)))) ≡ false
  top_rooted x k inc S fixed sees idle =
      let y = top_branch in
      ap (λ n. is_gone (S.stage n)) (ap (λ f. f (uid_number (top_of b.path))) fixed.root ∙ ap (λ w. tops.root (uid_number w)) top_is
      ∙ its_root) ∙ by (let e = y.0 in e.kind) refl (ap is_top_kind y.2 ∙ t.2) (knows.kind (act_of t.0) y.0 y.1)
    where
      its_first : (let y = top_branch.0 in root_of y.path) ≡ root_of p
      its_first = ap root_of (let y = top_branch in y.3) ∙ sym first_is

      own : (let y = top_branch.0 in uids_of y.path) ≡ act_of t.0 ∷ [] → is_gone (S.stage (uid_number (root_of p))) ≡ false
      own is = ap (λ w. is_gone (S.stage (uid_number w))) (sym its_first ∙ ap first_uid is ∙ sym top_is) ∙ ap is_gone idle

      by : (kd : Kind) → (let y = top_branch.0 in y.kind) ≡ kd → is_top_kind kd ≡ true →
          IsOfKind tops (act_of t.0) kd (let y = top_branch.0 in y.path) → is_gone (S.stage (uid_number (root_of p))) ≡ false
      by kind.Nested is on h = absurd (cc on)
      by kind.Serial is on h = absurd (cc on)
      by kind.Top is on h = own h.2
      by kind.Independent is on h = own h.2
      by kind.Constituent is on h =
          let y = top_branch in
          let r = knows.above (act_of t.0) y.0 y.1 (none_so (let e = y.0 in e.ended) (not_over (act_of t.0) top_there y.0 y.1))
          (ap is_constituent is) in
          let w = knows.at_work (root_of (let e = y.0 in e.path)) r.branch r.found in
          let z : Works x tops S (uid_number (root_of (let e = y.0 in e.path))) kind.Serial (let a = w.0 in
          a.now) = subst (λ kd. Works x tops S (uid_number (root_of (let e = y.0 in e.path))) kd (let a = w.0 in a.now)) r.serial
          (sees.working (root_of (let e = y.0 in e.path)) r.branch w.0 r.found r.unended w.1) in
          ap (λ v. is_gone (S.stage (uid_number v))) (sym its_first) ∙ ap is_gone z.1
