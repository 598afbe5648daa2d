-- A coordinator stays good.
use Rattle.arj_law_parts.proofs.Words
use Words.{◌≡◌, ◌≢◌, ◌⊎◌, ◌≤◌, ◌<◌, ◌+◌, ℕ, List, [], ◌∷◌, ◌++◌, length, Bool, true, false, cond, not, ◌&&◌, ◌||◌, nat_le, Option, Some}
use Words.{None, refl, sym, ◌∙◌, ap, subst, inl, inr, ⊎_elim, Contains, is_some, ⊤, list_any, before_last, is_on, uid_cases, In, in_from}
use Words.{in_to, none_in, Uid, End, Kind, Path, Op, Asked, Ask, uids_of, Reply, actor, asks_node, asks_all, goes_on, call, call_steps}
use Words.{renewed, include, next_req, ends_call, doomed_by, root_heard, step_call, root_moved, kept_at, heard_call, commits_in}
use Words.{step_commit, moved_commit, commit_top, commit_open, commit_action, last_req, heard_now, heard_doing, heard, heard_by, heard_none}
use Words.{waits_for_call, waits_for_commit, root_lost, gives_up, give_up_doing, give_up, again_now, again_all, Steps, CallStep, On, Ended}
use Words.{CallEnd, Answered, Included, Conflict, Changed, Lost, answered, given_up, start, Plan, Machine, Voting, Preparing, Confirming}
use Words.{CommitStep, Stays, Asks, Decides, Aborts, plan_of, begin_vote, begin_prepare, begin_confirm, servers_of, targets_of, votes_left}
use Words.{stores_left, marks_store, marks_stores, with_states, participants, has_record, Used, Coord, new_coord, Doing, Now, Idle, Calling}
use Words.{Committing, doing_of, set_doing, change_doing, on_doing, on_root, root_at, plan_for, keeping_of, is_free, with_keeping, Did}
use Words.{Served, Intent, ended, aborts_with, all_aborted, abort_action, decide, acked, acked_by, acked_left, root_after, at_uid, put_uid}
use Words.{has, without_number, with_number, unbound, Tree, new_tree, Branch, Family, branch_of, is_own, at_place, set_place, ends_of}
use Words.{root_of, family_of, with_family, uses_object, doomed_at, doomed_branch, ended_at, ended_branch, has_open_child, is_parent}
use Words.{open_below, place_other}
use Words.ending
use Words.kind
use Words.voted
use Words.prepared
use Words.confirmed
use Words.cause
use Words.calls
use Words.commit
use Rattle.arj_law_parts.proofs.Terms
use Terms.{Action, action_of, AreCounted, IsAsking, IsVoting, IsBusy, AreBusy, IsGoodCoord, Paths, IsTree, has_end_of, HasAllIn, AreWhole}
use Terms.{HasLists, IsClosed, IsGoodTree, AreAtHome}
use Rattle.arj_law_parts.proofs.parts
use parts.GoodTrees.{good_new, place_in, place_same, in_set, found_by, own_is, whole_in, ends_there, ends_elsewhere, ends_by_number}
use parts.GoodTrees.{same_or_not, good_ended, good_aborted, aborted_tree, all_over, all_listed, ended_b, after_cases, was_there}
use parts.GoodTrees.{still_there, at_others}
use parts.ToldInOrder.{home_ended, home_new}

-- ---- trees that differ in nothing that matters

pub record IsSameTree (t v : Tree) : Type 0 where
  pub back : (u : Uid) (b : Branch) → branch_of u v ≡ Some b →
      (c : Branch) × (branch_of u t ≡ Some c) × (c.path ≡ b.path) × (c.kind ≡ b.kind) × (c.ended ≡ b.ended)
  pub forth : (u : Uid) (c : Branch) → branch_of u t ≡ Some c →
      (b : Branch) × (branch_of u v ≡ Some b) × (c.path ≡ b.path) × (c.kind ≡ b.kind) × (c.ended ≡ b.ended)
  pub ends : (r : Uid) → ends_of r v ≡ ends_of r t
  pub every : (b : Branch) → In b v.branches → (c : Branch) × In c t.branches × (c.path ≡ b.path) × (c.ended ≡ b.ended)
  pub own : (u : Uid) → is_own u v ≡ is_own u t

pub any_false : (p : Branch → Bool) (bs : List Branch) → ((b : Branch) → In b bs → p b ≡ false) → list_any p bs ≡ false
any_false p [] h = refl
any_false p (b ∷ bs) h = λ i. h b (inl refl) i || any_false p bs (λ c j. h c (inr j)) i

module _ (t v : Tree) (same : IsSameTree t v) where
  same_lists : (paths : Paths) → HasLists paths t → HasLists paths v
  same_lists paths l = record {
    places = λ u b f. let c = same.back u b f in ap actor (sym c.2) ∙ l.places u c.0 c.1;
    paths_are = λ u b f. let c = same.back u b f in ap uids_of (sym c.2) ∙ l.paths_are u c.0 c.1;
    every = λ b k. let c = same.every b (in_from b v.branches k) in
        subst (λ p. uids_of p ≡ paths (actor p)) c.2 (l.every c.0 (in_to c.0 t.branches c.1));
    parents = λ u h b f parent. let c = same.back u b f in let p = l.parents u h c.0 c.1 parent in let q = same.forth h p.0 p.1 in
        (q.0, q.1);
    listed = λ u b f two over. let c = same.back u b f in ap (has_end_of u) (same.ends (root_of b.path)) ∙ subst (λ p. has_end_of u (ends_of
        (root_of p) t) ≡ true) c.2 (l.listed u c.0 c.1 (subst (λ p. 2 ≤ length (uids_of p)) (sym c.2) two) (ap is_some c.4 ∙ over));
    over = λ r u is. let o = l.over r u (ap (has_end_of u) (sym (same.ends r)) ∙ is) in let q = same.forth u o.0 o.1 in
        (q.0, q.1, ap is_some (sym q.4) ∙ o.2);
    whole = λ r. subst (AreWhole v []) (sym (same.ends r))
        (whole_in t v [] (ends_of r t) (λ u w b is f on other. let c = same.back w b f in (c.0, c.1, ap uids_of c.2)) (l.whole r));
  }

  same_closed : (paths : Paths) → IsClosed paths t → IsClosed paths v
  same_closed paths closed u h b p f parent g over = let c = same.back u b f in let q = same.back h p g in
      ap is_some (sym c.4) ∙ closed u h c.0 q.0 c.1 parent q.1 (ap is_some q.4 ∙ over)

  same_childless : (u : Uid) → has_open_child u t ≡ false → has_open_child u v ≡ false
  same_childless u none = any_false (λ b. is_parent u (before_last (uids_of b.path)) && not (is_some b.ended)) v.branches
      (λ b i. let c = same.every b i in (λ j. is_parent u (before_last (uids_of (sym c.2 j))) && not (is_some (sym c.3 j)))
      ∙ none_in (λ (d : Branch). is_parent u (before_last (uids_of d.path)) && not (is_some d.ended)) c.0 t.branches none c.1)

  pub same_asking : (u : Uid) (p : Path) → IsAsking t u p → IsAsking v u p
  same_asking u p a = let b = same.forth u a.branch a.found in record {
    branch = b.0;
    found = b.1;
    path = sym b.2 ∙ a.path;
    unserial = λ is. a.unserial (b.3 ∙ is);
    opened = ap is_some (sym b.4) ∙ a.opened;
  }

  same_voting : (u : Uid) (p : Plan) → IsVoting t u p → IsVoting v u p
  same_voting u p w = record {
    asking = same_asking u p.path w.asking;
    top = λ b f is. let c = same.back u b f in w.top c.0 c.1 (c.3 ∙ is);
    childless = same_childless u w.childless;
    below = λ x b f on other. let c = same.back x b f in w.below x c.0 c.1 (ap (λ q. is_on (uids_of q) u) c.2 ∙ on) other;
    over = λ x is. let o = w.over x is in let q = same.forth x o.0 o.1 in (q.0, q.1, ap is_some (sym q.4) ∙ o.2);
    whole = whole_in t v [] p.ends (λ x y b is f on other. let c = same.back y b f in (c.0, c.1, ap uids_of c.2)) w.whole;
  }

  same_busy : (u : Uid) (n : Now) → IsBusy t u n → IsBusy v u n
  same_busy u Idle b = tt
  same_busy u (Calling s) b = same_asking u s.path b
  same_busy u (Committing m) b = same_voting u (plan_of m) b

  good_tree : (acts : List Action) (paths : Paths) (c : Coord) → c.tree ≡ t → IsGoodCoord acts paths c →
      IsGoodCoord acts paths (record c { tree = v })
  good_tree acts paths c is good = record {
    tree = let g = subst (IsGoodTree paths) is good.tree in
        record { lists = same_lists paths g.lists; closed = same_closed paths g.closed };
    home = λ a u k on own. let f = subst (AreAtHome acts) is good.home a u k on (sym (same.own u) ∙ own) in
        let q = same.forth (actor a.path) f.0 f.1 in (q.0, q.1, sym q.2 ∙ f.2);
    known = λ u b f. let d = same.back u b f in
        subst (Contains acts) (λ i. record { path = d.2 i; kind = d.3 i }) (good.known u d.0 (ap (branch_of u) is ∙ d.1));
    busy = λ u d f. same_busy u d.now (subst (λ x. IsBusy x u d.now) is (good.busy u d (doing_in u d f)));
  }
    where
      doing_in : (u : Uid) (d : Doing) → cond (is_own u v) (at_place u.num c.doings) None ≡ Some d →
          cond (is_own u c.tree) (at_place u.num c.doings) None ≡ Some d
      doing_in u d f = (λ i. cond ((ap (is_own u) is ∙ sym (same.own u)) i) (at_place u.num c.doings) None) ∙ f

-- an object of a root
pub uses_same : (p : Path) (x : ℕ) (t : Tree) → IsSameTree t (uses_object p x t)
uses_same p x t = record {
  back = λ u b f. (b, f, refl, refl, refl);
  forth = λ u c f. (c, f, refl, refl, refl);
  ends = λ r. by r (same_or_not r.num (root_of p).num);
  every = λ b i. (b, i, refl, refl);
  own = λ u. refl;
}
  where
    f : Family
    f = let g = family_of (root_of p) t in record g { objects = with_number x g.objects }

    by : (r : Uid) → (r.num ≡ (root_of p).num) ⊎ (r.num ≡ (root_of p).num → ⊥) → ends_of r (with_family (root_of p) f t) ≡ ends_of r t
    by r (inl same) = ends_there (root_of p) f t r same ∙ ends_by_number (root_of p) r t (sym same)
    by r (inr other) = ends_elsewhere (root_of p) f t r other

-- a doomed action
pub doomed_same : (u : Uid) (t : Tree) → IsSameTree t (doomed_at u t)
doomed_same u t = by (branch_of u t) refl
  where
    by : (o : Option Branch) → branch_of u t ≡ o → IsSameTree t (doomed_branch u t o)
    by None is = record {
      back = λ w b f. (b, f, refl, refl, refl);
      forth = λ w c f. (c, f, refl, refl, refl);
      ends = λ r. refl;
      every = λ b i. (b, i, refl, refl);
      own = λ w. refl;
    }
    by (Some b) is = record {
      back = λ w c f. ⊎_elim (λ same. let k : ◌≡◌ {A = Option Branch} (Some new) (Some c) = sym here
          ∙ ap (λ x. branch_of x after) (sym same) ∙ f in let one : new ≡ c = cc in (
            b,
            ap (λ x. branch_of x t) same ∙ is,
            ap (λ (d : Branch). d.path) one,
            ap (λ (d : Branch). d.kind) one,
            ap (λ (d : Branch). d.ended) one,
          )) (λ other. (c, sym (there w other) ∙ f, refl, refl, refl)) (uid_cases w u);
      forth = λ w c f. ⊎_elim (λ same. let k : ◌≡◌ {A = Option Branch} (Some b) (Some c) = sym is ∙ ap (λ x. branch_of x t) (sym same)
          ∙ f in let one : b ≡ c = cc in (
            new,
            ap (λ x. branch_of x after) same ∙ here,
            ap (λ (d : Branch). d.path) (sym one),
            ap (λ (d : Branch). d.kind) (sym one),
            ap (λ (d : Branch). d.ended) (sym one),
          )) (λ other. (c, there w other ∙ f, refl, refl, refl)) (uid_cases w u);
      ends = λ r. refl;
      every = λ c i.
          ⊎_elim (λ same. (b, place_in u.num b t.branches place, ap (λ (d : Branch). d.path) same, ap (λ (d : Branch). d.ended) same))
          (λ old. (c, old, refl, refl)) (in_set u.num new c t.branches i);
      own = λ w. refl;
    }
      where
        new : Branch
        new = record b { doomed = true }

        after : Tree
        after = record t { branches = set_place u.num new t.branches }

        place : at_place u.num t.branches ≡ Some b
        place = (found_by u t b is).1

        here : branch_of u after ≡ Some new
        here = (λ i. cond ((found_by u t b is).0 i) (at_place u.num (set_place u.num new t.branches)) None)
            ∙ place_same u.num new b t.branches place

        there : (w : Uid) → w ≢ u → branch_of w after ≡ branch_of w t
        there w other = one (is_own w t) refl
          where
            one : (c : Bool) → is_own w t ≡ c →
                cond c (at_place w.num (set_place u.num new t.branches)) None ≡ cond c (at_place w.num t.branches) None
            one true own = place_other u.num w.num new t.branches (λ same. other (own_is w u t own (found_by u t b is).0 same))
            one false own = refl

-- ---- who waits

-- an action at work is own, and found at its place
pub doing_by : (u : Uid) (c : Coord) (d : Doing) → doing_of u c ≡ Some d → (is_own u c.tree ≡ true) × (at_place u.num c.doings ≡ Some d)
doing_by u c d is = by (is_own u c.tree) refl is
  where
    by : (o : Bool) → is_own u c.tree ≡ o → cond o (at_place u.num c.doings) None ≡ Some d → (o ≡ true) × (at_place u.num c.doings ≡ Some d)
    by true own e = (refl, e)
    by false own e = let no_way : ◌≡◌ {A = Option Doing} None (Some d) = e in cc

set_cases : (u : Uid) (d old : Doing) (c : Coord) → doing_of u c ≡ Some old → (w : Uid) (x : Doing) →
    doing_of w (set_doing u d c) ≡ Some x → ((w ≡ u) × (d ≡ x)) ⊎ ((w ≢ u) × (doing_of w c ≡ Some x))
set_cases u d old c found w x is = ⊎_elim (λ same. inl (same, here same)) (λ other. inr (other, sym (there other) ∙ is)) (uid_cases w u)
  where
    q : (is_own u c.tree ≡ true) × (at_place u.num c.doings ≡ Some old)
    q = doing_by u c old found

    here : w ≡ u → d ≡ x
    here same = let e : ◌≡◌ {A = Option Doing} (Some d) (Some x) = sym ((λ i. cond (q.0 i) (at_place u.num (set_place u.num d c.doings))
        None) ∙ place_same u.num d old c.doings q.1) ∙ ap (λ v. doing_of v (set_doing u d c)) (sym same) ∙ is in cc

    there : w ≢ u → doing_of w (set_doing u d c) ≡ doing_of w c
    there other = one (is_own w c.tree) refl
      where
        one : (o : Bool) → is_own w c.tree ≡ o →
            cond o (at_place w.num (set_place u.num d c.doings)) None ≡ cond o (at_place w.num c.doings) None
        one true own = place_other u.num w.num d c.doings (λ same. other (own_is w u c.tree own q.0 same))
        one false own = refl

-- what changes at one action at work
busy_on : (u : Uid) (f : Doing → Doing) (c : Coord) → ((w : Uid) (d : Doing) → doing_of w c ≡ Some d → w ≢ u → IsBusy c.tree w d.now) →
    ((d : Doing) → IsBusy c.tree u (f d).now) → AreBusy (on_doing u f c)
busy_on u f c others its = by (doing_of u c) refl
  where
    by : (o : Option Doing) → doing_of u c ≡ o → AreBusy (change_doing f u c o)
    by None none w d is =
        others w d is (λ same. let no_way : ◌≡◌ {A = Option Doing} None (Some d) = sym none ∙ ap (λ v. doing_of v c) (sym same) ∙ is in cc)
    by (Some old) found w d is = ⊎_elim (λ g. subst (λ v. IsBusy c.tree v d.now) (sym g.0)
        (subst (λ (x : Doing). IsBusy c.tree u x.now) g.1 (its old))) (λ g. others w d g.1 g.0) (set_cases u (f old) old c found w d is)

pub on_tree : (u : Uid) (f : Doing → Doing) (c : Coord) → (on_doing u f c).tree ≡ c.tree
on_tree u f c = by (doing_of u c)
  where
    by : (o : Option Doing) → (change_doing f u c o).tree ≡ c.tree
    by None = refl
    by (Some d) = refl

module _ (acts : List Action) (paths : Paths) where
  abbrev Good : Coord → Type 0
  Good c = IsGoodCoord acts paths c

  -- the tree's part
  with_busy : (c e : Coord) → e.tree ≡ c.tree → AreBusy e → Good c → Good e
  with_busy c e is busy good = record {
    tree = subst (IsGoodTree paths) (sym is) good.tree;
    home = subst (AreAtHome acts) (sym is) good.home;
    known = λ u b f. good.known u b (ap (branch_of u) (sym is) ∙ f);
    busy = busy;
  }

  pub good_same : (c e : Coord) → e.tree ≡ c.tree → e.doings ≡ c.doings → Good c → Good e
  good_same c e tree doings good = with_busy c e tree (λ u d f. subst (λ t. IsBusy t u d.now) (sym tree)
      (good.busy u d ((λ i. cond (is_own u (sym tree i)) (at_place u.num (sym doings i)) None) ∙ f))) good

  pub good_on : (u : Uid) (f : Doing → Doing) (c : Coord) → ((d : Doing) → IsBusy c.tree u (f d).now) → Good c → Good (on_doing u f c)
  good_on u f c its good = with_busy c (on_doing u f c) (on_tree u f c) (busy_on u f c (λ w d is other. good.busy w d is) its) good

  -- ---- calls

  good_goes : (s : Steps) (c : Coord) → IsAsking c.tree (actor s.path) s.path → Good c → Good (goes_on s c).part
  good_goes s c asking good = good_same (on_doing (actor s.path) (λ (d : Doing). record d { req = s.req; now = Calling s }) c)
      (goes_on s c).part refl refl (good_on (actor s.path) (λ (d : Doing). record d { req = s.req; now = Calling s }) c (λ d. asking) good)

  pub good_uses : (p : Path) (x : ℕ) (c : Coord) → Good c → Good (record c { tree = uses_object p x c.tree })
  good_uses p x c good = good_tree c.tree (uses_object p x c.tree) (uses_same p x c.tree) acts paths c refl good

  pub good_call : (p : Path) (x : ℕ) (o : Op) (c : Coord) → IsAsking c.tree (actor p) p → Good c → Good (call p x o c).part
  good_call p x o c asking good =
      let r = root_at (root_of p) c in
      let old = keeping_of x r in
      let k = renewed (is_free (root_of p) (actor p) x c) old old.kept in
      let u : Coord = record c { tree = uses_object p x c.tree } in
      let t : Coord = on_root (root_of p) (with_keeping x k) u in
      good_goes (call_steps p x o (next_req (actor p) c) r c k) t (same_asking c.tree (uses_object p x c.tree) (uses_same p x c.tree)
      (actor p) p asking) (good_same u t refl refl (good_uses p x c good))

  pub good_include : (p : Path) (x s : ℕ) (c : Coord) → IsAsking c.tree (actor p) p → Good c → Good (include p x s c).part
  good_include p x s c asking good =
      good_goes (start p x (calls.Include s) None unbound (next_req (actor p) c)) (record c { tree = uses_object p x c.tree })
      (same_asking c.tree (uses_object p x c.tree) (uses_same p x c.tree) (actor p) p asking) (good_uses p x c good)

  good_ends_call : (s : Steps) (e : CallEnd) (c : Coord) → Good c → Good (ends_call s e c).part
  good_ends_call s e c good = by e
    where
      idle : Coord
      idle = on_root (root_of s.path) (root_heard s e) (on_doing (actor s.path) (λ (d : Doing). record d { now = Idle }) c)

      its : Good idle
      its = good_same (on_doing (actor s.path) (λ (d : Doing). record d { now = Idle }) c) idle refl refl
          (good_on (actor s.path) (λ (d : Doing). record d { now = Idle }) c (λ d. tt) good)

      by : (f : CallEnd) → Good (doomed_by (actor s.path) f idle)
      by (Answered a) = its
      by (Included st) = its
      by (Conflict h m n) = its
      by (Changed n w) = its
      by (Lost n false) = its
      by (Lost n true) =
          good_tree idle.tree (doomed_at (actor s.path) idle.tree) (doomed_same (actor s.path) idle.tree) acts paths idle refl its

  good_step_call : (s : Steps) (t : CallStep) (c : Coord) → IsAsking c.tree (actor s.path) s.path → Good c → Good (step_call s t c).part
  good_step_call s (On at) c asking good = good_goes (record s { req = s.req + 1; at = at }) c asking good
  good_step_call s (Ended e) c asking good = good_ends_call s e c good

  good_heard_call : (s : Steps) (r : Reply) (c : Coord) → IsAsking c.tree (actor s.path) s.path → Good c → Good (heard_call s r c).part
  good_heard_call s r c asking good =
      let m = answered (is_free (root_of s.path) (actor s.path) s.x c) (kept_at s c) s.goal s.at r in
      let t : Coord = on_root (root_of s.path) (root_moved s r m) c in
      good_step_call s m.step t asking (good_same c t refl refl good)

  -- ---- ends

  module _ (tree : IsTree paths) where
    pub busy_ended : (u : Uid) (e : End) (c : Coord) → AreBusy c → AreBusy (ended u e c)
    busy_ended u e c busy = busy_on u (λ (d : Doing). record d { now = Idle }) (record c { tree = ended_at u e c.tree })
        (λ w d is other. by (branch_of u c.tree) refl w d.now other (busy w d (same_doing w d is))) (λ d. tt)
      where
        own_after : (o : Option Branch) (w : Uid) → is_own w (ended_branch u e c.tree o) ≡ is_own w c.tree
        own_after None w = refl
        own_after (Some b) w = one (nat_le (length (uids_of b.path)) 1)
          where
            m : Tree
            m = record c.tree { branches = set_place u.num (record b { ended = Some e }) c.tree.branches }

            one : (s : Bool) → is_own w (cond s m (with_family (root_of b.path) (let f = family_of (root_of b.path) m in
                record f { ends = f.ends ++ (u, e) ∷ [] }) m)) ≡ is_own w c.tree
            one true = refl
            one false = refl

        same_doing : (w : Uid) (d : Doing) → doing_of w (record c { tree = ended_at u e c.tree }) ≡ Some d → doing_of w c ≡ Some d
        same_doing w d is = (λ i. cond (sym (own_after (branch_of u c.tree) w) i) (at_place w.num c.doings) None) ∙ is

        by : (o : Option Branch) → branch_of u c.tree ≡ o → (w : Uid) (n : Now) → w ≢ u → IsBusy c.tree w n →
            IsBusy (ended_branch u e c.tree o) w n
        by None is w n other b = b
        by (Some b) is w n other it = now n it
          where
            t : Tree
            t = c.tree

            v : Tree
            v = ended_branch u e t (Some b)

            asking : (p : Path) → IsAsking t w p → IsAsking v w p
            asking p a = record {
              branch = a.branch;
              found = at_others u e t b is w other ∙ a.found;
              path = a.path;
              unserial = a.unserial;
              opened = a.opened;
            }

            in_after : (d : Branch) → In d v.branches → (ended_b u e t b is ≡ d) ⊎ In d t.branches
            in_after d = one (nat_le (length (uids_of b.path)) 1)
              where
                m : Tree
                m = record t { branches = set_place u.num (record b { ended = Some e }) t.branches }

                one : (s : Bool) → In d (cond s m (with_family (root_of b.path) (let f = family_of (root_of b.path) m in
                    record f { ends = f.ends ++ (u, e) ∷ [] }) m)).branches → (ended_b u e t b is ≡ d) ⊎ In d t.branches
                one true i = in_set u.num (ended_b u e t b is) d t.branches i
                one false i = in_set u.num (ended_b u e t b is) d t.branches i

            childless : has_open_child w t ≡ false → has_open_child w v ≡ false
            childless none = any_false (λ d. is_parent w (before_last (uids_of d.path)) && not (is_some d.ended)) v.branches
                (λ d i. ⊎_elim (λ same. ap (λ (x : Branch). is_parent w (before_last (uids_of x.path)) && not (is_some x.ended)) (sym same)
                ∙ last (is_parent w (before_last (uids_of b.path)))) (λ old. none_in
                (λ (x : Branch). is_parent w (before_last (uids_of x.path)) && not (is_some x.ended)) d t.branches none old) (in_after d i))
              where
                last : (y : Bool) → (y && false) ≡ false
                last true = refl
                last false = refl

            now : (m : Now) → IsBusy t w m → IsBusy v w m
            now Idle a = tt
            now (Calling s) a = asking s.path a
            now (Committing m) a = record {
              asking = asking (plan_of m).path a.asking;
              top = λ d f. a.top d (sym (at_others u e t b is w other) ∙ f);
              childless = childless a.childless;
              below = λ x d f on apart. let g = was_there u e t b is x d f in
                  a.below x g.0 g.1 (ap (λ p. is_on (uids_of p) w) g.2 ∙ on) apart;
              over = λ x has_it. let o = a.over x has_it in still_there u e t b is x o.0 o.1 o.2;
              whole = whole_in t v [] (plan_of m).ends (λ x y d has_it f on apart. let g = was_there u e t b is y d f in
                  (g.0, g.1, ap uids_of g.2)) a.whole;
            }

    known_ended : (u : Uid) (e : End) (c : Coord) → Good c → (w : Uid) (d : Branch) → branch_of w (ended_at u e c.tree) ≡ Some d →
        Contains acts (action_of d)
    known_ended u e c good w d = by (branch_of u c.tree) refl
      where
        by : (o : Option Branch) → branch_of u c.tree ≡ o → branch_of w (ended_branch u e c.tree o) ≡ Some d → Contains acts (action_of d)
        by None is f = good.known w d f
        by (Some b) is f = ⊎_elim (λ g. subst (λ (x : Branch). Contains acts (action_of x)) g.1 (good.known u b is))
            (λ g. good.known w d g.1) (after_cases u e c.tree b is w d f)

    pub good_ended_c : (u : Uid) (e : End) (c : Coord) → has_open_child u c.tree ≡ false → Good c → Good (ended u e c)
    good_ended_c u e c none good = with_tree (on_tree u (λ (d : Doing). record d { now = Idle }) (record c { tree = ended_at u e c.tree }))
      where
        with_tree : (ended u e c).tree ≡ ended_at u e c.tree → Good (ended u e c)
        with_tree is = record {
          tree = subst (IsGoodTree paths) (sym is) (good_ended paths tree u e c.tree none good.tree);
          home = subst (AreAtHome acts) (sym is) (home_ended acts u e c.tree good.home);
          known = λ w d f. known_ended u e c good w d (ap (branch_of w) (sym is) ∙ f);
          busy = busy_ended u e c good.busy;
        }

    -- an abort with all that is open below
    record Rest (c e : Coord) : Type 0 where
      home : AreAtHome acts e.tree
      known : (u : Uid) (b : Branch) → branch_of u e.tree ≡ Some b → Contains acts (action_of b)
      busy : AreBusy e

    good_all : (us : List Uid) (c : Coord) → AreAtHome acts c.tree →
        ((u : Uid) (b : Branch) → branch_of u c.tree ≡ Some b → Contains acts (action_of b)) → AreBusy c → Rest c (all_aborted us c).part
    good_all [] c home known busy = record { home = home; known = known; busy = busy }
    good_all (u ∷ us) c home known busy =
        let e = ended u ending.Abort c in
        let is : e.tree ≡ ended_at u ending.Abort c.tree = on_tree u (λ (d : Doing). record d { now = Idle })
        (record c { tree = ended_at u ending.Abort c.tree }) in
        let r = good_all us e (subst (AreAtHome acts) (sym is) (home_ended acts u ending.Abort c.tree home))
        (λ w d f. one (branch_of u c.tree) refl w d (ap (branch_of w) (sym is) ∙ f)) (busy_ended u ending.Abort c busy) in
        record { home = r.home; known = r.known; busy = r.busy }
      where
        one : (o : Option Branch) → branch_of u c.tree ≡ o → (w : Uid) (d : Branch) →
            branch_of w (ended_branch u ending.Abort c.tree o) ≡ Some d → Contains acts (action_of d)
        one None is w d f = known w d f
        one (Some b) is w d f = ⊎_elim (λ g. subst (λ (x : Branch). Contains acts (action_of x)) g.1 (known u b is)) (λ g. known w d g.1)
            (after_cases u ending.Abort c.tree b is w d f)

    pub good_abort : (u : Uid) (intents : List (Uid × Intent)) (c : Coord) → Good c → Good (abort_action u intents c).part
    good_abort u intents c good =
        let us : List Uid = open_below u c.tree ++ u ∷ [] in
        let r = good_all us c good.home good.known good.busy in
        record {
          tree = subst (IsGoodTree paths) (sym (aborted_tree us c)) (good_aborted paths tree u c.tree good.tree);
          home = r.home;
          known = r.known;
          busy = r.busy;
        }

    -- ---- commits

    -- a plan further on
    abbrev pub SamePlan : Plan → Plan → Type 0
    SamePlan p q = (q.path ≡ p.path) × (q.ends ≡ p.ends)

    abbrev pub IsStepOf : Plan → CommitStep → Type 0
    IsStepOf p (Stays m) = SamePlan p (plan_of m)
    IsStepOf p (Asks m) = SamePlan p (plan_of m)
    IsStepOf p (Decides q) = SamePlan p q
    IsStepOf p (Aborts why q) = ⊤

    pub planned : (t : Tree) (u : Uid) (p q : Plan) → SamePlan p q → IsVoting t u p → IsVoting t u q
    planned t u p q same v = record {
      asking = subst (IsAsking t u) (sym same.0) v.asking;
      top = v.top;
      childless = v.childless;
      below = subst (HasAllIn t u) (sym same.1) v.below;
      over = λ w is. v.over w (ap (has_end_of w) (sym same.1) ∙ is);
      whole = subst (AreWhole t []) (sym same.1) v.whole;
    }

    confirm_step : (us : List Used) (p q : Plan) → SamePlan p q → IsStepOf p (begin_confirm us q)
    confirm_step [] p q same = same
    confirm_step (u ∷ us) p q same = same

    prepare_step : (ns : List ℕ) (p q : Plan) → SamePlan p q → IsStepOf p (begin_prepare ns q)
    prepare_step [] p q same = confirm_step q.used p q same
    prepare_step (n ∷ ns) p q same = same

    pub vote_step : (ns : List ℕ) (p q : Plan) → SamePlan p q → IsStepOf p (begin_vote ns q)
    vote_step [] p q same = prepare_step (targets_of q) p q same
    vote_step (n ∷ ns) p q same = same

    stores_step : (ns : List ℕ) (p q : Plan) → SamePlan p q → IsStepOf p (stores_left ns q).step
    stores_step [] p q same = confirm_step q.used p q same
    stores_step (n ∷ ns) p q same = same

    votes_step : (ns : List ℕ) (p q : Plan) → SamePlan p q → IsStepOf p (votes_left ns q)
    votes_step [] p q same = prepare_step (targets_of q) p q same
    votes_step (n ∷ ns) p q same = same

    marks_same : (ns : List ℕ) (p q : Plan) → SamePlan p q → SamePlan p (marks_stores ns q)
    marks_same [] p q same = same
    marks_same (n ∷ ns) p q same = marks_same ns p (marks_store n q) same

    pub answer_step : (from : ℕ) (m : Machine) (r : Reply) → IsStepOf (plan_of m) (commit.answered from m r).step
    answer_step from (Voting p left) (Reply.Voted (voted.Yes states)) =
        votes_step (without_number from left) p (record p { changed = with_states states p.changed }) (refl, refl)
    answer_step from (Voting p left) (Reply.Voted (voted.Changed w)) = tt
    answer_step from (Voting p left) (Reply.Bound r) = (refl, refl)
    answer_step from (Voting p left) (Reply.Loaded r) = (refl, refl)
    answer_step from (Voting p left) (Reply.Activated r) = (refl, refl)
    answer_step from (Voting p left) (Reply.Noted r) = (refl, refl)
    answer_step from (Voting p left) (Reply.Invoked r) = (refl, refl)
    answer_step from (Voting p left) (Reply.Prepared r) = (refl, refl)
    answer_step from (Voting p left) (Reply.Confirmed r) = (refl, refl)
    answer_step from (Preparing p left) (Reply.Prepared prepared.Yes) =
        stores_step (without_number from left) p (record p { prepared = with_number from p.prepared }) (refl, refl)
    answer_step from (Preparing p left) (Reply.Prepared (prepared.InDoubt x h)) =
        stores_step (without_number from left) p (marks_store from p) (refl, refl)
    answer_step from (Preparing p left) (Reply.Prepared (prepared.Old x v)) = tt
    answer_step from (Preparing p left) (Reply.Bound r) = (refl, refl)
    answer_step from (Preparing p left) (Reply.Loaded r) = (refl, refl)
    answer_step from (Preparing p left) (Reply.Activated r) = (refl, refl)
    answer_step from (Preparing p left) (Reply.Noted r) = (refl, refl)
    answer_step from (Preparing p left) (Reply.Invoked r) = (refl, refl)
    answer_step from (Preparing p left) (Reply.Voted r) = (refl, refl)
    answer_step from (Preparing p left) (Reply.Confirmed r) = (refl, refl)
    answer_step from (Confirming p) (Reply.Confirmed confirmed.Yes) = (refl, refl)
    answer_step from (Confirming p) (Reply.Confirmed (confirmed.Conflict h m)) = tt
    answer_step from (Confirming p) (Reply.Confirmed (confirmed.Changed w)) = tt
    answer_step from (Confirming p) (Reply.Confirmed (confirmed.NoStores x)) = tt
    answer_step from (Confirming p) (Reply.Confirmed (confirmed.Listed x s)) = tt
    answer_step from (Confirming p) (Reply.Bound r) = (refl, refl)
    answer_step from (Confirming p) (Reply.Loaded r) = (refl, refl)
    answer_step from (Confirming p) (Reply.Activated r) = (refl, refl)
    answer_step from (Confirming p) (Reply.Noted r) = (refl, refl)
    answer_step from (Confirming p) (Reply.Invoked r) = (refl, refl)
    answer_step from (Confirming p) (Reply.Voted r) = (refl, refl)
    answer_step from (Confirming p) (Reply.Prepared r) = (refl, refl)

    pub giveup_step : (m : Machine) → IsStepOf (plan_of m) (commit.given_up m).step
    giveup_step (Voting p left) = tt
    giveup_step (Preparing p left) = stores_step [] p (marks_stores left p) (marks_same left p p (refl, refl))
    giveup_step (Confirming p) = tt

    asks_all_same : (p : Path) (req : ℕ) (as_asked : List (ℕ × Ask)) (c : Coord) → Good c → Good (asks_all p req as_asked c).part
    asks_all_same p req [] c good = good
    asks_all_same p req (a ∷ rest) c good = let d = asks_node p req a c in
        asks_all_same p req rest d.part (good_same c d.part refl refl good)

    good_commits_in : (u : Uid) (m : Machine) (c : Coord) → IsVoting c.tree u (plan_of m) → Good c → Good (commits_in u m c)
    good_commits_in u m c v good = good_on u (λ (d : Doing). record d { req = (plan_of m).req; now = Committing m }) c (λ d. v) good

    good_decided : (p : Plan) (c : Coord) → has_open_child (actor p.path) c.tree ≡ false → Good c → Good (decide p c).part
    good_decided p c none good = by (has_record p)
      where
        u : Uid
        u = actor p.path

        e : Coord
        e = ended u ending.Commit c

        took : Coord
        took = on_doing u (λ (d : Doing). record d { took = participants p }) e

        its : Good took
        its = with_busy e took (on_tree u (λ (d : Doing). record d { took = participants p }) e)
            (same_now e (good_ended_c u ending.Commit c none good).busy) (good_ended_c u ending.Commit c none good)
          where
            same_now : (x : Coord) → AreBusy x → AreBusy (on_doing u (λ (d : Doing). record d { took = participants p }) x)
            same_now x busy = by_doing (doing_of u x) refl
              where
                by_doing : (o : Option Doing) → doing_of u x ≡ o →
                    AreBusy (change_doing (λ (d : Doing). record d { took = participants p }) u x o)
                by_doing None none' w d is = busy w d is
                by_doing (Some old) found w d is = ⊎_elim (λ g.
                    subst (λ v. IsBusy x.tree v d.now) (sym g.0) (subst (λ (y : Doing). IsBusy x.tree u y.now) g.1 (busy u old found)))
                    (λ g. busy w d g.1) (set_cases u (record old { took = participants p }) old x found w d is)

        r : Coord
        r = on_root (root_of p.path) (root_after p) took

        by : (b : Bool) →
            Good (cond b (record r { telling = put_uid u (record { root = root_of p.path; nodes = participants p }) r.telling }) r)
        by true = good_same took (record r { telling = put_uid u (record { root = root_of p.path; nodes = participants p }) r.telling })
            refl refl its
        by false = good_same took r refl refl its

    good_step_commit : (u : Uid) (p : Plan) (s : CommitStep) (intents : List (Uid × Intent)) (c : Coord) → IsVoting c.tree u p →
        IsStepOf p s → Good c → Good (step_commit u s intents c).part
    good_step_commit u p (Stays m) intents c v same good = good_commits_in u m c (planned c.tree u p (plan_of m) same v) good
    good_step_commit u p (Asks m) intents c v same good = asks_all_same (plan_of m).path (plan_of m).req (commit.waiting m)
        (commits_in u m c) (good_commits_in u m c (planned c.tree u p (plan_of m) same v) good)
    good_step_commit u p (Decides q) intents c v same good = good_decided q c (subst (λ w. has_open_child w c.tree ≡ false)
        (sym (ap actor (same.0 ∙ sym v.asking.path) ∙ good.tree.lists.places u v.asking.branch v.asking.found)) v.childless) good
    good_step_commit u p (Aborts why q) intents c v same good = good_ended_c u ending.Abort c v.childless good

    -- ---- answers and giveups

    pub actor_is : (u : Uid) (p : Path) (c : Coord) → Good c → IsAsking c.tree u p → actor p ≡ u
    actor_is u p c good a = ap actor (sym a.path) ∙ good.tree.lists.places u a.branch a.found

    pub good_heard : (from : ℕ) (a : Asked) (r : Reply) (intents : List (Uid × Intent)) (c : Coord) → Good c →
        Good (heard from a r intents c).part
    good_heard from a r intents c good = by (doing_of a.act c) refl
      where
        now : (n : Now) → IsBusy c.tree a.act n → Good (heard_now from a r intents c n).part
        now Idle b = good
        now (Calling s) b = one (waits_for_call from a r s)
          where
            one : (w : Bool) → Good (cond {A = Served Coord (Unit {0})} w (heard_by (heard_call s r c)) (heard_none c)).part
            one true = good_heard_call s r c (subst (λ v. IsAsking c.tree v s.path) (sym (actor_is a.act s.path c good b)) b) good
            one false = good
        now (Committing m) b = one (waits_for_commit from a r m)
          where
            one : (w : Bool) → Good (cond {A = Served Coord (Unit {0})} w
                (heard_by (moved_commit a.act (commit.answered from m r) intents c)) (heard_none c)).part
            one true = good_step_commit a.act (plan_of m) (commit.answered from m r).step intents c b (answer_step from m r) good
            one false = good

        by : (o : Option Doing) → doing_of a.act c ≡ o → Good (heard_doing from a r intents c o).part
        by None is = good
        by (Some d) is = now d.now (good.busy a.act d is)

    pub good_give_up : (u : Uid) (intents : List (Uid × Intent)) (c : Coord) → Good c → Good (give_up u intents c).part
    good_give_up u intents c good = by (doing_of u c) refl
      where
        now : (n : Now) → IsBusy c.tree u n → Good (gives_up u intents c n).part
        now Idle b = good
        now (Calling s) b =
            let t : Coord = on_root (root_of s.path) (root_lost s (given_up s.at)) c in
            good_step_call s (given_up s.at) t (subst (λ v. IsAsking c.tree v s.path) (sym (actor_is u s.path c good b)) b)
            (good_same c t refl refl good)
        now (Committing m) b = good_step_commit u (plan_of m) (commit.given_up m).step intents c b (giveup_step m) good

        by : (o : Option Doing) → doing_of u c ≡ o → Good (give_up_doing u intents c o).part
        by None is = good
        by (Some d) is = now d.now (good.busy u d is)

    pub good_again : (ds : List Doing) (c : Coord) → Good c → Good (again_all ds c).part
    good_again [] c good = good
    good_again (d ∷ ds) c good = let t = again_now c d.now in good_again ds t.part (now d.now)
      where
        now : (n : Now) → Good (again_now c n).part
        now Idle = good
        now (Calling s) = good_same c (again_now c (Calling s)).part refl refl good
        now (Committing m) = asks_all_same (plan_of m).path (plan_of m).req (commit.waiting m) c good

    pub good_acked : (from : ℕ) (u : Uid) (intents : List (Uid × Intent)) (c : Coord) → Good c → Good (acked from u intents c).part
    good_acked from u intents c good = by (at_uid u c.telling)
      where
        left : (i : Intent) (ns : List ℕ) → Good (acked_left u i intents c ns).part
        left i [] = good_same c (acked_left u i intents c []).part refl refl good
        left i (n ∷ ns) = good_same c (acked_left u i intents c (n ∷ ns)).part refl refl good

        by : (o : Option Intent) → Good (acked_by from u intents c o).part
        by None = good
        by (Some i) = one (has i.nodes from)
          where
            one : (b : Bool) → Good (cond {A = Served Coord (Unit {0})} b (acked_left u i intents c (without_number from i.nodes))
                (record { part = c; outs = []; reply = None })).part
            one true = left i (without_number from i.nodes)
            one false = good

    -- ---- commits of actions

    pub voting_at : (b : Branch) (c : Coord) → branch_of (actor b.path) c.tree ≡ Some b → is_some b.ended ≡ false →
        has_open_child (actor b.path) c.tree ≡ false → b.kind ≢ kind.Serial → b.kind ≢ kind.Nested → Good c
        → IsVoting c.tree (actor b.path) (plan_for b.path (last_req (doing_of (actor b.path) c)) (root_at (root_of b.path) c) c)
    voting_at b c found opened none unserial unnested good = record {
      asking = record { branch = b; found = found; path = refl; unserial = unserial; opened = opened };
      top = λ d f is. let k : ◌≡◌ {A = Option Branch} (Some b) (Some d) = sym found ∙ f in let one : b ≡ d = cc in
          unnested (ap (λ (x : Branch). x.kind) one ∙ is);
      childless = none;
      below = all_listed paths tree c.tree good.tree.lists (actor b.path) b found
          (all_over paths tree c.tree good.tree.lists (actor b.path) good.tree.closed none);
      over = λ w is. good.tree.lists.over (root_of b.path) w is;
      whole = good.tree.lists.whole (root_of b.path);
    }

    pub good_commit : (b : Branch) (intents : List (Uid × Intent)) (c : Coord) → branch_of (actor b.path) c.tree ≡ Some b →
        is_some b.ended ≡ false → has_open_child (actor b.path) c.tree ≡ false → Good c → Good (commit_action b intents c).part
    good_commit b intents c found opened none good = by b.doomed
      where
        u : Uid
        u = actor b.path

        plan : Plan
        plan = plan_for b.path (last_req (doing_of u c)) (root_at (root_of b.path) c) c

        top : b.kind ≢ kind.Serial → b.kind ≢ kind.Nested → Good (commit_top b.path intents c).part
        top unserial unnested = good_step_commit u plan (commit.start plan).step intents c
            (voting_at b c found opened none unserial unnested good) (vote_step (servers_of plan) plan plan (refl, refl)) good

        kinds : (k : Kind) → b.kind ≡ k → Good (commit_open b intents c k).part
        kinds kind.Nested is = good_ended_c u ending.Commit c none good
        kinds kind.Serial is = good_ended_c u ending.Commit c none good
        kinds kind.Top is =
            top (λ e. let no_way : kind.Top ≡ kind.Serial = sym is ∙ e in cc) (λ e. let no_way : kind.Top ≡ kind.Nested = sym is ∙ e in cc)
        kinds kind.Independent is = top (λ e. let no_way : kind.Independent ≡ kind.Serial = sym is ∙ e in
            cc) (λ e. let no_way : kind.Independent ≡ kind.Nested = sym is ∙ e in cc)
        kinds kind.Constituent is = top (λ e. let no_way : kind.Constituent ≡ kind.Serial = sym is ∙ e in
            cc) (λ e. let no_way : kind.Constituent ≡ kind.Nested = sym is ∙ e in cc)

        by : (d : Bool) → Good (cond {A = Did Coord} d (aborts_with u cause.Doomed intents c) (commit_open b intents c b.kind)).part
        by true = good_ended_c u ending.Abort c none good
        by false = kinds b.kind refl

-- a coordinator that starts
pub good_fresh : (acts : List Action) (paths : Paths) (node inc later count : ℕ) → AreCounted node inc count acts → inc < later →
    IsGoodCoord acts paths (new_coord node later)
good_fresh acts paths node inc later count counted up = record {
  tree = good_new paths node later;
  home = home_new acts node inc later count counted up;
  known = λ u b f. absurd (place_in u.num b [] (found_by u (new_tree node later) b f).1);
  busy = λ u d f. absurd (place_in u.num d [] (doing_by u (new_coord node later) d f).1);
}
