-- Where a call on the object waits, its top works and its root is there, in whatever kinds its coordinator is seen.
use Rattle.arj_law_parts.proofs.Words
use Words.{◌≡◌, ◌≢◌, ◌≤◌, ℕ, Bool, true, false, List, [], ◌∷◌, length, Option, Some, None, is_some, refl, sym, ◌∙◌, ap, subst, ⊎_elim}
use Words.{arith, if◌then◌else◌, uid_cases, In, in_from, in_to, End, Kind, Uid, first_uid, is_on, last_uid, tops_of, uids_of, actor, top_of}
use Words.{top_path, Steps, Machine, plan_of, Calling, Committing, Coord, Doing, Idle, Now, doing_of, uid_number, Branch, at_place}
use Words.{branch_of, is_own, root_of}
use Words.kind
use Rattle.arj_law_disk_view.proofs.Terms
use Terms.{Action, AreBegun, act_of, action_of, paths_of, IsAsking, IsBusy, IsGoodCoord, IsVoting, begun_tree, on_own, one_action}
use Terms.{path_some, over_below, root_own, State, is_gone, falls_to, never, some_is, IsFixed, Kinds, SeesCoord, Works, WorksBy, IsTopOf}
use Terms.{is_top_kind}
use Terms.disk
use Rattle.arj_law_disk_view.proofs.running
use running.{Begun.Stood, Begun.root_on, Begun.stood, HeardPlaces.taken_first, HeardPlaces.taken_on, Known.at_both, TopPaths.HasTop}
use running.{TopPaths.top_in}

none_so : (o : Option End) → is_some o ≡ false → o ≡ None
none_so None off = refl
none_so (Some e) off = absurd (cc off)

own_place : (u : Uid) (c : Coord) (b : Branch) → branch_of u c.tree ≡ Some b →
    (is_own u c.tree ≡ true) × (at_place u.num c.tree.branches ≡ Some b)
own_place u c b is = by (is_own u c.tree) refl is
  where
    by : (z : Bool) → is_own u c.tree ≡ z → (if z then at_place u.num c.tree.branches else None) ≡ Some b →
        (is_own u c.tree ≡ true) × (at_place u.num c.tree.branches ≡ Some b)
    by true own h = (own, h)
    by false own h = absurd (cc h)

module _ (acts : List Action) (begun : AreBegun acts) (c : Coord) (good : IsGoodCoord acts (paths_of acts) c)
    (long : length c.doings ≡ length c.tree.branches) (u : Uid) (q : Doing) (s : Steps) (does : doing_of u c ≡ Some q)
    (now : q.now ≡ Calling s) (own : is_own (top_of s.path) c.tree ≡ true) where
  asking : IsAsking c.tree u s.path
  asking = subst (IsBusy c.tree u) now (good.busy u q does)

  abbrev b : Branch
  b = asking.branch

  t : HasTop acts (action_of b)
  t = top_in acts begun (action_of b) (in_from (action_of b) acts (good.known u b asking.found)) asking.unserial

  top_is : top_of s.path ≡ act_of t.0
  top_is = ap top_of (sym asking.path) ∙ ap last_uid t.3

  -- an action of the tree, with its kind
  home : (a : Action) → In a acts → is_own (act_of a) c.tree ≡ true →
      (y : Branch) × (branch_of (act_of a) c.tree ≡ Some y) × (y.kind ≡ a.kind)
  home a i mine =
      let h = good.home a (act_of a) (in_to a acts i) (on_own a.path) mine in (
        h.0,
        h.1,
        ap (λ (z : Action). z.kind)
            (one_action acts begun (action_of h.0) a (in_from (action_of h.0) acts (good.known (act_of a) h.0 h.1)) i (ap actor h.2)),
      )

  top_branch : (y : Branch) × (branch_of (act_of t.0) c.tree ≡ Some y) × (y.kind ≡ (let a = t.0 in a.kind))
  top_branch = home t.0 t.1 (ap (λ w. is_own w c.tree) (sym top_is) ∙ own)

  top_there : is_on (uids_of b.path) (act_of t.0) ≡ true
  top_there =
      taken_on (tops_of b.path) (uids_of b.path) (act_of t.0) (ap (λ us. is_on us (act_of t.0)) t.3 ∙ on_own (let a = t.0 in a.path))

  -- whoever stands on the path is open
  unended : (w : Uid) → is_on (uids_of b.path) w ≡ true → (y : Branch) → branch_of w c.tree ≡ Some y → y.ended ≡ None
  unended w on y there = none_so y.ended
      (falls_to (is_some y.ended)
      (λ ended. never (over_below (paths_of acts) (begun_tree acts begun) c.tree good.tree.lists good.tree.closed w y there ended u b
      asking.found (ap (λ us. is_on us w) (sym (good.tree.lists.paths_are u b asking.found)) ∙ on)) asking.opened))

  work : (w : Uid) (y : Branch) → branch_of w c.tree ≡ Some y → (z : Doing) × (doing_of w c ≡ Some z)
  work w y is =
      let p = own_place w c y is in
      let r = at_both w.num c.tree.branches c.doings y long p.1 in
      (r.0, ap (λ z. if z then at_place w.num c.doings else None) p.0 ∙ r.1)

  -- the top isn't at its commit
  waits : (z : Doing) (m : Machine) → doing_of (act_of t.0) c ≡ Some z → z.now ≡ Committing m → ⊥
  waits z m at_top at = ⊎_elim
      (λ same. let no_way : Calling s ≡ Committing m = sym now
      ∙ ap (λ (y : Doing). y.now) (some_is does (ap (λ w. doing_of w c) (sym same) ∙ at_top)) ∙ at in cc no_way)
      (λ other. below other) (uid_cases (act_of t.0) u)
    where
      votes : IsVoting c.tree (act_of t.0) (plan_of m)
      votes = subst (IsBusy c.tree (act_of t.0)) at (good.busy (act_of t.0) z at_top)

      below : act_of t.0 ≢ u → ⊥
      below other =
          let over = votes.over u (votes.below u b asking.found top_there (λ same. other (sym same))) in
          never (ap (λ (y : Branch). is_some y.ended) (some_is asking.found over.1) ∙ over.2) asking.opened

  module _ (x k inc : ℕ) (tops : Kinds) (S : State) (sees : SeesCoord x k inc tops c S) where
    pub top_works : S.stage (uid_number (top_of s.path)) ≡ disk.Idle
    top_works =
        let y = top_branch in
        let w = work (act_of t.0) y.0 y.1 in
        subst (λ z. S.stage (uid_number z) ≡ disk.Idle) (sym top_is)
        (at_work w.0 (let z = w.0 in z.now) refl w.1 (by (let e = y.0 in e.kind) (let z = w.0 in
        z.now) (ap is_top_kind y.2 ∙ t.2) (sees.working (act_of t.0) y.0 w.0 y.1 (unended (act_of t.0) top_there y.0 y.1) w.1)))
      where
        at_work : (z : Doing) (n : Now) → z.now ≡ n → doing_of (act_of t.0) c ≡ Some z → WorksBy x S (uid_number (act_of t.0)) n →
            S.stage (uid_number (act_of t.0)) ≡ disk.Idle
        at_work z Idle is there h = h
        at_work z (Calling r) is there h = h
        at_work z (Committing m) is there h = absurd (waits z m there is)

        by : (kd : Kind) (n : Now) → is_top_kind kd ≡ true → Works x tops S (uid_number (act_of t.0)) kd n →
            WorksBy x S (uid_number (act_of t.0)) n
        by kind.Nested n on h = absurd (cc on)
        by kind.Serial n on h = absurd (cc on)
        by kind.Constituent n on h = h.1
        by kind.Top n on h = h.1
        by kind.Independent n on h = h.1

    pub top_rooted : IsFixed tops S → IsTopOf tops (root_of s.path) (top_of s.path) →
        is_gone (S.stage (S.root (uid_number (top_of s.path)))) ≡ false
    top_rooted fixed top = ap (λ n. is_gone (S.stage n)) (ap (λ f. f (uid_number (top_of s.path))) fixed.root ∙ top.of_root
        ∙ ap uid_number first_is) ∙ by (let a = t.0 in a.kind) t.2 (stood acts begun t.0 (in_to t.0 acts t.1))
      where
        first_is : root_of s.path ≡ first_uid (uids_of (let a = t.0 in a.path))
        first_is = ap root_of (sym asking.path) ∙ first (uids_of (let a = t.0 in a.path)) t.3 (path_some (let a = t.0 in a.path))
          where
            first : (us : List Uid) → top_path b.path ≡ us → 1 ≤ length us → first_uid (uids_of b.path) ≡ first_uid us
            first [] is some = absurd (let no_way : ◌≡◌ {A = ℕ} 0 1 = omega (arith, some) in cc no_way)
            first (v ∷ vs) is some = taken_first (tops_of b.path) (uids_of b.path) v vs is

        alone : uids_of (let a = t.0 in a.path) ≡ act_of t.0 ∷ [] →
            is_gone (S.stage (uid_number (first_uid (uids_of (let a = t.0 in a.path))))) ≡ false
        alone is = ap (λ w. is_gone (S.stage (uid_number w))) (ap first_uid is ∙ sym top_is) ∙ ap is_gone top_works

        by : (kd : Kind) → is_top_kind kd ≡ true → Stood acts t.0 kd →
            is_gone (S.stage (uid_number (first_uid (uids_of (let a = t.0 in a.path))))) ≡ false
        by kind.Nested on h = absurd (cc on)
        by kind.Serial on h = absurd (cc on)
        by kind.Top on h = alone h.0
        by kind.Independent on h = alone h.0
        by kind.Constituent on (r, there, serial, path, count) =
            let root_is : root_of b.path ≡ act_of r = ap root_of asking.path ∙ first_is ∙ ap first_uid path in
            let y = home r (in_from r acts there)
            (ap (λ w. is_own w c.tree) (sym root_is) ∙ root_own acts (paths_of acts) (begun_tree acts begun) c good u b asking.found) in
            let w = work (act_of r) y.0 y.1 in
            let at : Works x tops S (uid_number (act_of r)) kind.Serial (let z = w.0 in z.now) =
            subst (λ kd. Works x tops S (uid_number (act_of r)) kd (let z = w.0 in z.now)) (y.2 ∙ serial) (sees.working (act_of r) y.0 w.0
            y.1 (unended (act_of r) (subst (λ v. is_on (uids_of b.path) v ≡ true) root_is (root_on b.path)) y.0 y.1) w.1) in
            ap (λ w. is_gone (S.stage (uid_number w))) (ap first_uid path) ∙ ap is_gone at.1
