-- What coordinators have of naming's answers, where actions are aborted.
use Rattle.arj_law_parts.proofs.Words
use Words.{◌≡◌, ◌⊎◌, ℕ, ◌==◌, ◌&&◌, ◌||◌, Bool, true, false, not, List, [], ◌∷◌, ◌++◌, Option, Some, None, refl, sym, ◌∙◌, ap, subst, inl}
use Words.{inr, ⊎_elim, cond, filter, Contains, unwrap_or, AllByRecursion, flat_map, list_any, uid_cases, Body, End, Kind, Label, Path, Uid}
use Words.{is_on, Calling, Committing, Coord, Doing, Idle, Joined, Root, Said, change_doing, doing_of, is_constituent_branch, is_kept_top}
use Words.{kept_of, no_root, nodes_sent, retained_in, root_at, second_uid, servers_told, survives, top_uses, Effect, Intent, abort_action}
use Words.{all_aborted, ended, is_deferred, say_for, says, tell, tell_all, tolds_by, tolds_of, tolds_of_branch, up_to, at_number, Branch}
use Words.{at_place, behind, branch_of, ended_at, ended_branch, ended_so, ends_of, has_end, is_aborted, is_committed, is_own, is_spent}
use Words.{open_below, root_of, Post, top_of}
use Words.body
use Words.cause
use Words.ending
use Words.kind
use Words.coord
use Rattle.arj_law_disk_view.proofs.Terms
use Terms.{roots_work, Office, falls_to, never, or_cases, or_left, or_right, some_is, Kinds, SeesRootOf, IsWorkingRoot, SeesHeardAt}
use Rattle.arj_law_disk_view.proofs.running
use running.{HeardCalls.work_cases}
use running.HeardLike.{StaysOnPath, call_same, path_on, same_path}
use running.HeardPosts.{SaysHeard, all_join, all_mapped}
use Rattle.arj_law_disk_view.proofs.view.{Doings.doing_tree, Ended.ended_here, Ended.ended_other, Ended.own_same, Ended.tree_ended}

-- what had not committed is aborted
abbrev pub IsAbortedNow : Option Branch → Option Branch → Type 0
IsAbortedNow o n = (ended_so ending.Commit o ≡ false) × (ended_so ending.Abort n ≡ true) × StaysOnPath o n

-- Of one coordinator what is looked at is that of another, but for actions that are aborted, and who waits no more.
pub record IsFewer (c e : Coord) : Type 0 where
  pub own : (u : Uid) → is_own u e.tree ≡ is_own u c.tree
  pub branches : (w : Uid) → (branch_of w e.tree ≡ branch_of w c.tree) ⊎ IsAbortedNow (branch_of w c.tree) (branch_of w e.tree)
  pub works : (u : Uid) (q : Doing) → doing_of u e ≡ Some q → (doing_of u c ≡ Some q) ⊎ (q.now ≡ Idle)
  pub roots : (u : Uid) → root_at u e ≡ root_at u c

not_both : (o : Option Branch) → ended_so ending.Abort o ≡ true → ended_so ending.Commit o ≡ false
not_both None h = refl
not_both (Some b) h = by b.ended h
  where
    by : (o : Option End) → has_end ending.Abort o ≡ true → has_end ending.Commit o ≡ false
    by None h = absurd (cc h)
    by (Some ending.Abort) h = refl
    by (Some ending.Commit) h = absurd (cc h)

module _ (c e : Coord) (few : IsFewer c e) where
  committed_same : (w : Uid) → is_committed w e.tree ≡ is_committed w c.tree
  committed_same w = ⊎_elim (λ same. ap (ended_so ending.Commit) same) (λ z. not_both (branch_of w e.tree) z.1 ∙ sym z.0) (few.branches w)

  aborted_grows : (w : Uid) → is_aborted w c.tree ≡ true → is_aborted w e.tree ≡ true
  aborted_grows w on = ⊎_elim (λ same. ap (ended_so ending.Abort) same ∙ on) (λ z. z.1) (few.branches w)

  spent_grows : (path : List Uid) → is_spent path c.tree ≡ true → is_spent path e.tree ≡ true
  spent_grows [] on = absurd (cc on)
  spent_grows (w ∷ ws) on = ⊎_elim (λ here. or_left (is_aborted w e.tree) (is_spent ws e.tree) (aborted_grows w here)) (λ more.
      or_right (is_aborted w e.tree) (is_spent ws e.tree) (spent_grows ws more)) (or_cases (is_aborted w c.tree) (is_spent ws c.tree) on)

  was_alive : (path : List Uid) → is_spent path e.tree ≡ false → is_spent path c.tree ≡ false
  was_alive path off = falls_to (is_spent path c.tree) (λ on. never (spent_grows path on) off)

  kept_same : (w : Uid) → is_kept_top w e ≡ is_kept_top w c
  kept_same w = ⊎_elim (λ same. (λ i. is_constituent_branch (same i) && ended_so ending.Commit (same i)))
      (λ z. off (is_constituent_branch (branch_of w e.tree)) (is_committed w e.tree) (not_both (branch_of w e.tree) z.1)
      ∙ sym (off (is_constituent_branch (branch_of w c.tree)) (is_committed w c.tree) z.0)) (few.branches w)
    where
      off : (a b : Bool) → b ≡ false → (a && b) ≡ false
      off true b is = is
      off false b is = refl

  survives_same : (t : Uid) (path : List Uid) → survives t path e ≡ survives t path c
  survives_same t path = λ i. is_on path t && not (list_any (λ w. not (committed_same w i)) (behind t path))

  retained_same : (path : List Uid) → coord.is_retained path e ≡ coord.is_retained path c
  retained_same path = by (second_uid path)
    where
      by : (o : Option Uid) → retained_in path e o ≡ retained_in path c o
      by None = refl
      by (Some t) = λ i. kept_same t i && survives_same t path i

  uses_same : (t : Uid) (x : ℕ) (r : Root) → top_uses t x r e ≡ top_uses t x r c
  uses_same t x r = λ i. list_any (λ (s : Said). (s.x == x) && survives_same t s.path i) r.said
      || list_any (λ (j : Joined). (j.x == x) && survives_same t j.path i) r.joined

  root_fewer : (x : ℕ) (tops : Kinds) (root : Uid) (r : Root) (B : Office) → SeesRootOf x tops root c r B → SeesRootOf x tops root e r B
  root_fewer x tops root r B s = record {
    grants = let g = s.grants in record {
      own = g.own;
      least = g.least;
      kept = λ i serial has. let k = g.kept i serial has in (k.0, (λ i. kept_same k.0 i && uses_same k.0 x r i) ∙ k.1, k.2);
    };
    lists = let l = s.lists in record {
      agree = l.agree;
      family = l.family;
      granted = l.granted;
      named = l.named;
      short = l.short;
      called = λ k z t kept there of alive on top. l.called k z t kept there of (was_alive z.path alive) on top;
      retained = λ k z kept there of on. l.retained k z kept there of (sym (retained_same z.path) ∙ on);
      nothing = λ kept z there of. spent_grows z.path (l.nothing kept z there of);
    };
    loads = s.loads;
    state = s.state;
  }

  was_root : (tops : Kinds) (root : Uid) → IsWorkingRoot tops e root → IsWorkingRoot tops c root
  was_root tops root w = record {
    own = sym (few.own root) ∙ w.own;
    alone = w.alone;
    unended = λ b found.
        ⊎_elim (λ same. w.unended b (same ∙ found)) (λ z. absurd (ended_root (branch_of root e.tree) refl z.1)) (few.branches root);
  }
    where
      ended_root : (o : Option Branch) → branch_of root e.tree ≡ o → ended_so ending.Abort o ≡ true → ⊥
      ended_root None is h = cc h
      ended_root (Some b) is h = let n : has_end ending.Abort None ≡ true = ap (has_end ending.Abort) (sym (w.unended b is)) ∙ h in cc n

  -- what the coordinator has is seen still
  pub at_fewer : (x k : ℕ) (tops : Kinds) (sent : List Post) (B : Office) → SeesHeardAt x k tops sent c B → SeesHeardAt x k tops sent e B
  at_fewer x k tops sent B p = record {
    roots = λ root w. subst (λ z. SeesRootOf x tops root e z B) (sym (few.roots root))
        (root_fewer x tops root (root_at root c) B (p.roots root (was_root tops root w)));
    steps = λ u q s does now of.
        ⊎_elim (λ old. p.steps u q s old now of) (λ idle. absurd (let n : Idle ≡ Calling s = sym idle ∙ now in cc)) (few.works u q does);
    calls = λ u q s does now of call past.
        ⊎_elim (λ old. call_same x tops c e s B.names (few.own (top_of s.path)) (ap (kept_of x) (few.roots (root_of s.path)))
        (p.calls u q s old now of call past)) (λ idle. absurd (let n : Idle ≡ Calling s = sym idle ∙ now in cc)) (few.works u q does);
    includes = λ root j i. path_on c e (λ w. ⊎_elim (λ same. same_path (branch_of w c.tree) (branch_of w e.tree) same) (λ z. z.2)
        (few.branches w)) j.path (p.includes root j (subst (λ (r : Root). Contains r.joined j) (few.roots root) i));
    plans = λ u q m does now.
        ⊎_elim (λ old. p.plans u q m old now) (λ idle. absurd (let n : Idle ≡ Committing m = sym idle ∙ now in cc)) (few.works u q does);
  }

-- ---- several after another

pub fewer_none : (c : Coord) → IsFewer c c
fewer_none c = record { own = λ u. refl; branches = λ w. inl refl; works = λ u q does. inl does; roots = λ u. refl }

pub fewer_both : (c e f : Coord) → IsFewer c e → IsFewer e f → IsFewer c f
fewer_both c e f a b = record {
  own = λ u. b.own u ∙ a.own u;
  branches = λ w. ⊎_elim
      (λ same. ⊎_elim (λ also. inl (also ∙ same)) (λ z. inr (ap (ended_so ending.Commit) (sym same) ∙ z.0, z.1, λ k is. z.2 k (same ∙ is)))
      (b.branches w))
      (λ z. ⊎_elim (λ also. inr (z.0, ap (ended_so ending.Abort) also ∙ z.1, λ k is. let y = z.2 k is in (y.0, also ∙ y.1, y.2)))
      (λ y. inr (z.0, y.1, λ k is. let one = z.2 k is in let two = y.2 one.0 one.1 in (two.0, two.1, two.2 ∙ one.2))) (b.branches w))
      (a.branches w);
  works = λ u q does. ⊎_elim (λ old. a.works u q old) (λ idle. inr idle) (b.works u q does);
  roots = λ u. b.roots u ∙ a.roots u;
}

-- ---- one that ends

module _ (c : Coord) (u : Uid) (off : is_committed u c.tree ≡ false) where
  abbrev mid : Coord
  mid = record c { tree = ended_at u ending.Abort c.tree }

  abbrev to_idle : Doing → Doing
  to_idle d = record d { now = Idle }

  tree_is : (ended u ending.Abort c).tree ≡ ended_at u ending.Abort c.tree
  tree_is = doing_tree u (λ (d : Doing). record d { now = Idle }) (record c { tree = ended_at u ending.Abort c.tree })

  own_mid : (w : Uid) → is_own w (ended_at u ending.Abort c.tree) ≡ is_own w c.tree
  own_mid w = by (branch_of u c.tree) refl
    where
      by : (o : Option Branch) → branch_of u c.tree ≡ o → is_own w (ended_at u ending.Abort c.tree) ≡ is_own w c.tree
      by None is = ap (λ z. is_own w (ended_branch u ending.Abort c.tree z)) is
      by (Some b) is = own_same u b ending.Abort c.tree (ended_at u ending.Abort c.tree) is (tree_ended u b ending.Abort c.tree is) w

  branch_mid : (w : Uid) → (branch_of w (ended_at u ending.Abort c.tree) ≡ branch_of w c.tree)
      ⊎ IsAbortedNow (branch_of w c.tree) (branch_of w (ended_at u ending.Abort c.tree))
  branch_mid w = by (branch_of u c.tree) refl
    where
      by : (o : Option Branch) → branch_of u c.tree ≡ o → (branch_of w (ended_at u ending.Abort c.tree) ≡ branch_of w c.tree)
          ⊎ IsAbortedNow (branch_of w c.tree) (branch_of w (ended_at u ending.Abort c.tree))
      by None is = inl (ap (λ z. branch_of w (ended_branch u ending.Abort c.tree z)) is)
      by (Some b) is = let h = tree_ended u b ending.Abort c.tree is in ⊎_elim
          (λ same. inr (
            ap (λ z. is_committed z c.tree) same ∙ off,
            ap (λ z. is_aborted z (ended_at u ending.Abort c.tree)) same
                ∙ ap (ended_so ending.Abort) (ended_here u b ending.Abort c.tree (ended_at u ending.Abort c.tree) is h),
            λ k at. (
              record b { ended = Some ending.Abort },
              ap (λ z. branch_of z (ended_at u ending.Abort c.tree)) same
                  ∙ ended_here u b ending.Abort c.tree (ended_at u ending.Abort c.tree) is h,
              ap (λ (y : Branch). y.path) (some_is is (ap (λ z. branch_of z c.tree) (sym same) ∙ at)),
            ),
          ))
          (λ other. inl (ended_other u b ending.Abort c.tree (ended_at u ending.Abort c.tree) is h w other)) (uid_cases w u)

  doing_mid : (w : Uid) → doing_of w mid ≡ doing_of w c
  doing_mid w = (λ i. cond (own_mid w i) (at_place w.num c.doings) None)

  pub ended_fewer : IsFewer c (ended u ending.Abort c)
  ended_fewer = record {
    own = λ w. ap (is_own w) tree_is ∙ own_mid w;
    branches = λ w.
        subst (λ t. (branch_of w t ≡ branch_of w c.tree) ⊎ IsAbortedNow (branch_of w c.tree) (branch_of w t)) (sym tree_is) (branch_mid w);
    works = λ w q does. work w q does (doing_of u mid) refl;
    roots = λ w. ap (λ rs. unwrap_or (at_number w.num rs) no_root) (roots_work u to_idle mid);
  }
    where
      work : (w : Uid) (q : Doing) → doing_of w (ended u ending.Abort c) ≡ Some q → (o : Option Doing) → doing_of u mid ≡ o →
          (doing_of w c ≡ Some q) ⊎ (q.now ≡ Idle)
      work w q does None is = inl (sym (doing_mid w) ∙ (sym (ap (λ o. doing_of w (change_doing to_idle u mid o)) is) ∙ does))
      work w q does (Some d) is = ⊎_elim (λ mine. inr (ap (λ (y : Doing). y.now) (sym mine.1))) (λ old. inl (sym (doing_mid w) ∙ old))
          (work_cases u to_idle mid d is w q does)

pub all_fewer : (us : List Uid) (c : Coord) → AllByRecursion (λ u. is_committed u c.tree ≡ false) us → IsFewer c (all_aborted us c).part
all_fewer [] c none = fewer_none c
all_fewer (u ∷ us) c none =
    let one = ended_fewer c u none.0 in
    fewer_both c (ended u ending.Abort c) (all_aborted us (ended u ending.Abort c)).part one
    (all_fewer us (ended u ending.Abort c) (still us none.1))
  where
    still : (ws : List Uid) → AllByRecursion (λ w. is_committed w c.tree ≡ false) ws →
        AllByRecursion (λ w. is_committed w (ended u ending.Abort c).tree ≡ false) ws
    still [] all = tt
    still (w ∷ ws) all = (committed_same c (ended u ending.Abort c) (ended_fewer c u none.0) w ∙ all.0, still ws all.1)

-- ---- what is said and told

module _ (x i : ℕ) (A : Office) where
  abbrev Q : Effect → Type 0
  Q e = SaysHeard x i A e

  pub says_say : (u : Uid) (f : Label → Body) (c : Coord) → AllByRecursion Q (says u f c)
  says_say u f c = by (doing_of u c)
    where
      by : (o : Option Doing) → AllByRecursion Q (say_for f o)
      by None = tt
      by (Some d) = (tt, tt)

  tells_say : (root : Uid) (ack : Bool) (ends : List (Uid × End)) (ns : List ℕ) → AllByRecursion Q (tell_all root ack ends ns)
  tells_say root ack ends ns = all_mapped Q (tell root ack ends) ns (λ n. (refl, tt))

  pub tolds_of_say : (intents : List (Uid × Intent)) (c : Coord) (u : Uid) → AllByRecursion Q (tolds_of intents c u)
  tolds_of_say intents c u = of (branch_of u c.tree)
    where
      by : (k : Kind) (p : Path) → AllByRecursion Q (tolds_by u k p intents c)
      by kind.Nested p = tells_say (root_of p) false (up_to u (ends_of (root_of p) c.tree)) (servers_told u (root_at (root_of p) c) c)
      by kind.Serial p =
          tells_say u false ((u, ending.Abort) ∷ []) (filter (λ n. not (is_deferred u intents n)) (nodes_sent u (root_at u c)))
      by kind.Top p = tells_say (root_of p) false ((u, ending.Abort) ∷ []) (nodes_sent u (root_at (root_of p) c))
      by kind.Independent p = tells_say (root_of p) false ((u, ending.Abort) ∷ []) (nodes_sent u (root_at (root_of p) c))
      by kind.Constituent p = tells_say (root_of p) false ((u, ending.Abort) ∷ []) (nodes_sent u (root_at (root_of p) c))

      of : (o : Option Branch) → AllByRecursion Q (tolds_of_branch u intents c o)
      of None = tt
      of (Some b) = by b.kind b.path

  aborted_say : (us : List Uid) (c : Coord) → AllByRecursion Q (all_aborted us c).outs
  aborted_say [] c = tt
  aborted_say (u ∷ us) c = all_join Q (says u (λ l. body.Aborted l cause.Asked) c) (all_aborted us (ended u ending.Abort c)).outs
      (says_say u (λ l. body.Aborted l cause.Asked) c) (aborted_say us (ended u ending.Abort c))

  tolds_all_say : (intents : List (Uid × Intent)) (c : Coord) (us : List Uid) → AllByRecursion Q (flat_map (tolds_of intents c) us)
  tolds_all_say intents c [] = tt
  tolds_all_say intents c (u ∷ us) =
      all_join Q (tolds_of intents c u) (flat_map (tolds_of intents c) us) (tolds_of_say intents c u) (tolds_all_say intents c us)

  pub abort_says : (u : Uid) (intents : List (Uid × Intent)) (c : Coord) → AllByRecursion Q (abort_action u intents c).outs
  abort_says u intents c = all_join Q (all_aborted (open_below u c.tree ++ u ∷ []) c).outs
      (flat_map (tolds_of intents (all_aborted (open_below u c.tree ++ u ∷ []) c).part) (open_below u c.tree ++ u ∷ []))
      (aborted_say (open_below u c.tree ++ u ∷ []) c)
      (tolds_all_say intents (all_aborted (open_below u c.tree ++ u ∷ []) c).part (open_below u c.tree ++ u ∷ []))
