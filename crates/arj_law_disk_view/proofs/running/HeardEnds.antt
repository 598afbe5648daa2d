-- What a coordinator has of naming's answers, where a nested action commits, or a serializing action ends.
use Rattle.arj_law_parts.proofs.Words
use Words.{◌≡◌, ◌≢◌, ◌⊎◌, ℕ, ◌==◌, ◌&&◌, ◌||◌, Bool, true, false, not, List, [], ◌∷◌, Option, Some, None, is_some, refl, sym, ◌∙◌, ap}
use Words.{subst, inl, inr, ⊎_elim, cond, Contains, unwrap_or, list_any, and_parts, uid_cases, uid_same, in_from, Body, End, Label, Uid}
use Words.{is_on, uid_eq, Calling, Committing, Coord, Doing, Idle, Joined, Root, Said, doing_of, is_constituent_branch, is_kept_top}
use Words.{kept_of, no_root, retained_in, root_at, second_uid, survives, top_uses, Did, Disk, ended, ends_with, says, tolds_of, Parts}
use Words.{with_coord, at_number, uid_number, Branch, at_place, behind, branch_of, ended_at, ended_so, has_end, is_aborted, is_committed}
use Words.{is_own, is_spent, root_of, Post, Seen, top_of, is_constituent}
use Words.ending
use Words.coord
use Rattle.arj_law_disk_view.proofs.Terms
use Terms.{KnowsFew, roots_work, IsGood, Office, or_cases, or_left, or_right, some_is, up, KnowsNode, Kinds, SeesBoth, SeesRootOf, MayGoOn}
use Terms.{Quietly, IsWorkingRoot, SeesHeard, SeesHeardAt, HasHeard, going_of}
use Rattle.arj_law_disk_view.proofs.names.Heard.{none_heard}
use Rattle.arj_law_disk_view.proofs.running
use running.{HeardAborts.says_say, HeardAborts.tolds_of_say, HeardCalls.work_cases, HeardCoord.mine, HeardCoord.quiet_step}
use running.{HeardGoing.old_goes_on, HeardPosts.SaysHeard, HeardPosts.all_join, HeardQuiet.fixed_in, HeardServe.not_behind}
use running.HeardLike.{call_same, path_on, same_path}
use running.HeardStays.{at_stays, memory_goes, memory_stays}
use Rattle.arj_law_disk_view.proofs.view
use view.{Doings.doing_tree, Frames.node_here}
use view.Ended.{HasEnded, ended_here, ended_other, own_same, tree_ended}

-- ---- one that ends

any_grows : {X : Type 0} (f g : X → Bool) → ((a : X) → f a ≡ true → g a ≡ true) → (xs : List X) → list_any f xs ≡ true →
    list_any g xs ≡ true
any_grows f g more [] on = absurd (cc on)
any_grows f g more (x ∷ xs) on = ⊎_elim (λ here. or_left (g x) (list_any g xs) (more x here))
    (λ rest. or_right (g x) (list_any g xs) (any_grows f g more xs rest)) (or_cases (f x) (list_any f xs) on)

pub both_true : (a b : Bool) → a ≡ true → b ≡ true → (a && b) ≡ true
both_true a b p q = ap (λ z. z && b) p ∙ q

module _ (c : Coord) (u : Uid) (b : Branch) (q : Doing) (found : branch_of u c.tree ≡ Some b) (unended : b.ended ≡ None)
    (other_kind : is_constituent b.kind ≡ false) (at_work : doing_of u c ≡ Some q) where
  abbrev e : Coord
  e = ended u ending.Commit c

  abbrev to_idle : Doing → Doing
  to_idle d = record d { now = Idle }

  abbrev mid : Coord
  mid = record c { tree = ended_at u ending.Commit c.tree }

  tree_is : (ended u ending.Commit c).tree ≡ ended_at u ending.Commit c.tree
  tree_is = doing_tree u (λ (d : Doing). record d { now = Idle }) (record c { tree = ended_at u ending.Commit c.tree })

  has : HasEnded u b ending.Commit c.tree (ended_at u ending.Commit c.tree)
  has = tree_ended u b ending.Commit c.tree found

  here : branch_of u (ended u ending.Commit c).tree ≡ Some (record b { ended = Some ending.Commit })
  here = ap (branch_of u) tree_is ∙ ended_here u b ending.Commit c.tree (ended_at u ending.Commit c.tree) found has

  there : (w : Uid) → w ≢ u → branch_of w (ended u ending.Commit c).tree ≡ branch_of w c.tree
  there w other = ap (branch_of w) tree_is ∙ ended_other u b ending.Commit c.tree (ended_at u ending.Commit c.tree) found has w other

  own_mid : (w : Uid) → is_own w (ended_at u ending.Commit c.tree) ≡ is_own w c.tree
  own_mid w = own_same u b ending.Commit c.tree (ended_at u ending.Commit c.tree) found has w

  aborted_same : (w : Uid) → is_aborted w (ended u ending.Commit c).tree ≡ is_aborted w c.tree
  aborted_same w = ⊎_elim (λ same. ap (λ z. is_aborted z (ended u ending.Commit c).tree) same ∙ ap (ended_so ending.Abort) here
      ∙ sym (ap (λ z. is_aborted z c.tree) same ∙ ap (ended_so ending.Abort) found ∙ ap (has_end ending.Abort) unended))
      (λ other. ap (ended_so ending.Abort) (there w other)) (uid_cases w u)

  spent_same : (path : List Uid) → is_spent path (ended u ending.Commit c).tree ≡ is_spent path c.tree
  spent_same path = λ i. list_any (λ w. aborted_same w i) path

  kept_same : (w : Uid) → is_kept_top w (ended u ending.Commit c) ≡ is_kept_top w c
  kept_same w = ⊎_elim
      (λ same. ap (λ z. is_kept_top z (ended u ending.Commit c)) same ∙ (off (is_constituent_branch (branch_of u
      (ended u ending.Commit c).tree)) (is_committed u (ended u ending.Commit c).tree) (ap is_constituent_branch here ∙ other_kind)
      ∙ sym (ap (λ z. is_kept_top z c) same
      ∙ off (is_constituent_branch (branch_of u c.tree)) (is_committed u c.tree) (ap is_constituent_branch found ∙ other_kind))))
      (λ other. (λ i. is_constituent_branch (there w other i) && ended_so ending.Commit (there w other i))) (uid_cases w u)
    where
      off : (a b : Bool) → a ≡ false → (a && b) ≡ false
      off a b is = ap (λ z. z && b) is

  committed_grows : (w : Uid) → is_committed w c.tree ≡ true → is_committed w (ended u ending.Commit c).tree ≡ true
  committed_grows w on = ⊎_elim (λ same. ap (λ z. is_committed z (ended u ending.Commit c).tree) same ∙ ap (ended_so ending.Commit) here)
      (λ other. ap (ended_so ending.Commit) (there w other) ∙ on) (uid_cases w u)

  merged_grows : (ws : List Uid) → not (list_any (λ w. not (is_committed w c.tree)) ws) ≡ true →
      not (list_any (λ w. not (is_committed w (ended u ending.Commit c).tree)) ws) ≡ true
  merged_grows [] on = refl
  merged_grows (w ∷ ws) on = by (merged_grows ws) (is_committed w c.tree) refl on
    where
      by : (not (list_any (λ v. not (is_committed v c.tree)) ws) ≡ true →
          not (list_any (λ v. not (is_committed v (ended u ending.Commit c).tree)) ws) ≡ true) → (z : Bool) → is_committed w c.tree ≡ z →
          not (not z || list_any (λ v. not (is_committed v c.tree)) ws) ≡ true → not (not (is_committed w (ended u ending.Commit c).tree)
          || list_any (λ v. not (is_committed v (ended u ending.Commit c).tree)) ws) ≡ true
      by ih true is h =
          ap (λ z. not (not z || list_any (λ v. not (is_committed v (ended u ending.Commit c).tree)) ws)) (committed_grows w is) ∙ ih h
      by ih false is h = absurd (cc h)

  -- where the action isn't among them, who is committed was
  merged_was : (ws : List Uid) → (is_on ws u ≡ true → ⊥) → not (list_any (λ w. not (is_committed w (ended u ending.Commit c).tree)) ws)
      ≡ true → not (list_any (λ w. not (is_committed w c.tree)) ws) ≡ true
  merged_was [] none on = refl
  merged_was (w ∷ ws) none on =
      let apart : w ≢ u = λ same. none (or_left (uid_eq w u) (is_on ws u) (ap (λ z. uid_eq z u) same ∙ uid_same u)) in
      let one : is_committed w (ended u ending.Commit c).tree ≡ is_committed w c.tree = ap (ended_so ending.Commit) (there w apart) in
      by (merged_was ws (λ on. none (or_right (uid_eq w u) (is_on ws u) on))) (is_committed w c.tree) refl
      (ap (λ z. not (not z || list_any (λ v. not (is_committed v (ended u ending.Commit c).tree)) ws)) (sym one) ∙ on)
    where
      by : (not (list_any (λ v. not (is_committed v (ended u ending.Commit c).tree)) ws) ≡ true →
          not (list_any (λ v. not (is_committed v c.tree)) ws) ≡ true) → (z : Bool) → is_committed w c.tree ≡ z →
          not (not (is_committed w c.tree) || list_any (λ v. not (is_committed v (ended u ending.Commit c).tree)) ws) ≡ true →
          not (not (is_committed w c.tree) || list_any (λ v. not (is_committed v c.tree)) ws) ≡ true
      by ih true is h = ap (λ z. not (not z || list_any (λ v. not (is_committed v c.tree)) ws)) is
          ∙ ih (ap (λ z. not (not z || list_any (λ v. not (is_committed v (ended u ending.Commit c).tree)) ws)) (sym is) ∙ h)
      by ih false is h = absurd (let n : false ≡ true = ap
          (λ z. not (not z || list_any (λ v. not (is_committed v (ended u ending.Commit c).tree)) ws)) (sym is) ∙ h in cc n)

  survives_grows : (t : Uid) (path : List Uid) → survives t path c ≡ true → survives t path (ended u ending.Commit c) ≡ true
  survives_grows t path on = let z = and_parts (is_on path t) (not (list_any (λ w. not (is_committed w c.tree)) (behind t path))) on in
      both_true (is_on path t) (not (list_any (λ w. not (is_committed w (ended u ending.Commit c).tree)) (behind t path))) z.0
      (merged_grows (behind t path) z.1)

  uses_grows : (t : Uid) (x : ℕ) (r : Root) → top_uses t x r c ≡ true → top_uses t x r (ended u ending.Commit c) ≡ true
  uses_grows t x r on = ⊎_elim
      (λ says_it. or_left (list_any (λ (s : Said). (s.x == x) && survives t s.path (ended u ending.Commit c)) r.said)
      (list_any (λ (j : Joined). (j.x == x) && survives t j.path (ended u ending.Commit c)) r.joined)
      (any_grows (λ (s : Said). (s.x == x) && survives t s.path c) (λ (s : Said). (s.x == x) && survives t s.path (ended u ending.Commit c))
      (λ s h. let z = and_parts (s.x == x) (survives t s.path c) h in
      both_true (s.x == x) (survives t s.path (ended u ending.Commit c)) z.0 (survives_grows t s.path z.1)) r.said says_it))
      (λ joins_it. or_right (list_any (λ (s : Said). (s.x == x) && survives t s.path (ended u ending.Commit c)) r.said)
      (list_any (λ (j : Joined). (j.x == x) && survives t j.path (ended u ending.Commit c)) r.joined)
      (any_grows (λ (j : Joined). (j.x == x) && survives t j.path c) (λ (j : Joined). (j.x == x)
      && survives t j.path (ended u ending.Commit c)) (λ j h. let z = and_parts (j.x == x) (survives t j.path c) h in
      both_true (j.x == x) (survives t j.path (ended u ending.Commit c)) z.0 (survives_grows t j.path z.1)) r.joined joins_it))
      (or_cases (list_any (λ (s : Said). (s.x == x) && survives t s.path c) r.said)
      (list_any (λ (j : Joined). (j.x == x) && survives t j.path c) r.joined) on)

  -- it isn't behind a committed constituent on a path of an answered call
  module _ (apart : (root t : Uid) (z : Said) → Contains (let r = root_at root c in r.said) z → is_kept_top t c ≡ true →
      is_on (behind t z.path) u ≡ true → ⊥) where
    retained_was : (root : Uid) (z : Said) → Contains (let r = root_at root c in r.said) z →
        coord.is_retained z.path (ended u ending.Commit c) ≡ true → coord.is_retained z.path c ≡ true
    retained_was root z i on = by (second_uid z.path) on
      where
        by : (o : Option Uid) → retained_in z.path (ended u ending.Commit c) o ≡ true → retained_in z.path c o ≡ true
        by None h = absurd (cc h)
        by (Some t) h =
            let k = and_parts (is_kept_top t (ended u ending.Commit c)) (survives t z.path (ended u ending.Commit c)) h in
            let kept = sym (kept_same t) ∙ k.0 in
            let s = and_parts (is_on z.path t) (not (list_any (λ w. not (is_committed w (ended u ending.Commit c).tree)) (behind t z.path)))
            k.1 in
            both_true (is_kept_top t c) (survives t z.path c) kept (both_true (is_on z.path t) (not (list_any
            (λ w. not (is_committed w c.tree)) (behind t z.path))) s.0 (merged_was (behind t z.path) (apart root t z i kept) s.1))

    was_root : (tops : Kinds) (root : Uid) → IsWorkingRoot tops (ended u ending.Commit c) root → IsWorkingRoot tops c root
    was_root tops root w = record {
      own = sym (ap (is_own root) tree_is ∙ own_mid root) ∙ w.own;
      alone = w.alone;
      unended = λ z is. ⊎_elim
          (λ same. absurd (let n : ◌≡◌ {A = Option End} (Some ending.Commit) None = w.unended (record b { ended = Some ending.Commit })
          (ap (λ v. branch_of v (ended u ending.Commit c).tree) same ∙ here) in cc n))
          (λ other. w.unended z (there root other ∙ is)) (uid_cases root u);
    }

    root_ended : (x : ℕ) (tops : Kinds) (root : Uid) (B : Office) → SeesRootOf x tops root c (root_at root c) B →
        SeesRootOf x tops root (ended u ending.Commit c) (root_at root c) B
    root_ended x tops root B s = record {
      grants = let g = s.grants in record {
        own = g.own;
        least = g.least;
        kept = λ i serial had. let k = g.kept i serial had in
            let z = and_parts (is_kept_top k.0 c) (top_uses k.0 x (root_at root c) c) k.1 in (
              k.0,
              both_true (is_kept_top k.0 (ended u ending.Commit c)) (top_uses k.0 x (root_at root c) (ended u ending.Commit c))
                  (kept_same k.0 ∙ z.0) (uses_grows k.0 x (root_at root c) z.1),
              k.2,
            );
      };
      lists = let l = s.lists in record {
        agree = l.agree;
        family = l.family;
        granted = l.granted;
        named = l.named;
        short = l.short;
        called = λ k z t is i of alive on top. l.called k z t is i of (sym (spent_same z.path) ∙ alive) on top;
        retained = λ k z is i of on. l.retained k z is i of (retained_was root z i on);
        nothing = λ none z i of. spent_same z.path ∙ l.nothing none z i of;
      };
      loads = s.loads;
      state = s.state;
    }

    doing_mid : (w : Uid) → doing_of w mid ≡ doing_of w c
    doing_mid w = (λ i. cond (own_mid w i) (at_place w.num c.doings) None)

    pub works_ended : (w : Uid) (z : Doing) → doing_of w (ended u ending.Commit c) ≡ Some z → (doing_of w c ≡ Some z) ⊎ (z.now ≡ Idle)
    works_ended w z does = ⊎_elim (λ mine. inr (ap (λ (y : Doing). y.now) (sym mine.1))) (λ old. inl (sym (doing_mid w) ∙ old))
        (work_cases u to_idle mid q (doing_mid u ∙ at_work) w z does)

    roots_same : (w : Uid) → root_at w (ended u ending.Commit c) ≡ root_at w c
    roots_same w = ap (λ (rs : List (ℕ × Root)). unwrap_or (at_number w.num rs) no_root) (roots_work u to_idle mid)

    pub at_ended : (x k : ℕ) (tops : Kinds) (sent : List Post) (B : Office) → SeesHeardAt x k tops sent c B →
        SeesHeardAt x k tops sent (ended u ending.Commit c) B
    at_ended x k tops sent B p = record {
      roots = λ root w. subst (λ z. SeesRootOf x tops root (ended u ending.Commit c) z B) (sym (roots_same root))
          (root_ended x tops root B (p.roots root (was_root tops root w)));
      steps = λ w z s does now of. ⊎_elim (λ old. p.steps w z s old now of)
          (λ idle. absurd (let n : Idle ≡ Calling s = sym idle ∙ now in cc)) (works_ended w z does);
      calls = λ w z s does now of call past. ⊎_elim (λ old. call_same x tops c (ended u ending.Commit c) s B.names
          (ap (is_own (top_of s.path)) tree_is ∙ own_mid (top_of s.path)) (ap (kept_of x) (roots_same (root_of s.path)))
          (p.calls w z s old now of call past)) (λ idle. absurd (let n : Idle ≡ Calling s = sym idle ∙ now in cc)) (works_ended w z does);
      includes = λ root j i. path_on c (ended u ending.Commit c) (λ w. ⊎_elim (λ same. λ y is. (
        record b { ended = Some ending.Commit },
        ap (λ v. branch_of v (ended u ending.Commit c).tree) same ∙ here,
        ap (λ (k : Branch). k.path) (some_is found (ap (λ v. branch_of v c.tree) (sym same) ∙ is)),
      )) (λ other. same_path (branch_of w c.tree) (branch_of w (ended u ending.Commit c).tree) (there w other)) (uid_cases w u)) j.path
          (p.includes root j (subst (λ (r : Root). Contains r.joined j) (roots_same root) i));
      plans = λ w z m does now. ⊎_elim (λ old. p.plans w z m old now) (λ idle. absurd (let n : Idle ≡ Committing m = sym idle ∙ now in cc))
          (works_ended w z does);
    }

-- ---- the input

module _ (x : ℕ) (tops : Kinds) (e k : ℕ) (d : Disk) (t : Parts) (M : Seen) (A : Office) (good : IsGood (up k d t M)) (few : KnowsFew
    (up k d t M)) (knows : KnowsNode tops k d t M) (both : SeesBoth x tops A (up k d t M)) (h : SeesHeard x tops A (up k d t M)) where
  abbrev Heard_by : Did Coord → Type 0
  Heard_by did = (g : HasHeard (SeesHeard x) x tops Quietly A (going_of e k d t did, M)) × MayGoOn x g.office did.part

  pub heard_ends : (u : Uid) (b : Branch) (line : Label → Body) → branch_of u t.coord.tree ≡ Some b → b.ended ≡ None →
      is_constituent b.kind ≡ false → Heard_by (ends_with u ending.Commit line d.intents t.coord)
  heard_ends u b line found unended other = let q = (let w = knows.coord in w.at_work u b found) in with_work q.0 q.1
    where
      apart : (root v : Uid) (z : Said) → Contains (let r = root_at root t.coord in r.said) z → is_kept_top v t.coord ≡ true →
          is_on (behind v z.path) u ≡ true → ⊥
      apart root v z i kept on = by (branch_of v t.coord.tree) refl
          (and_parts (is_constituent_branch (branch_of v t.coord.tree)) (is_committed v t.coord.tree) kept).1
        where
          by : (o : Option Branch) → branch_of v t.coord.tree ≡ o → ended_so ending.Commit o ≡ true → ⊥
          by None is on_end = cc on_end
          by (Some y) is on_end = not_behind (up k d t M) good few k (record { number = k; disk = d; live = Some t }) t
              (node_here M k (record { number = k; disk = d; live = Some t })) refl u v b y root z found unended is (over y.ended on_end)
              (in_from z (let r = root_at root t.coord in r.said) i) on
            where
              over : (o : Option End) → has_end ending.Commit o ≡ true → is_some o ≡ true
              over None n = absurd (cc n)
              over (Some how) n = refl

      with_work : (q : Doing) → doing_of u t.coord ≡ Some q → Heard_by (ends_with u ending.Commit line d.intents t.coord)
      with_work q at_work = (
        record {
          office = A;
          only = none_heard A;
          both = both;
          along = quiet_step x tops k d t M A both h (with_coord t (ended u ending.Commit t.coord))
              (λ N B only fixed more. at_ended t.coord u b q found unended other at_work apart x k tops N.sent B
              (at_stays x tops A B (fixed_in x tops A (up k d t M) both) fixed (memory_goes A B only) k M.sent N.sent t.coord more
              (λ w own kind. memory_stays tops A B only (tops.root (uid_number w))) (mine x tops k d t M A both h)))
              e (ends_with u ending.Commit line d.intents t.coord).outs M refl refl
              (all_join (λ f. SaysHeard x d.inc A f) (says u line t.coord) (tolds_of d.intents (ended u ending.Commit t.coord) u)
              (says_say x d.inc A u line t.coord) (tolds_of_say x d.inc A d.intents (ended u ending.Commit t.coord) u));
        },
        old_goes_on x tops k d t M A knows both (ended u ending.Commit t.coord) (λ w z m at is past. ⊎_elim (λ old. old) (λ idle. absurd
            (let n : Idle ≡ Committing m = sym idle ∙ is in cc)) (works_ended t.coord u b q found unended other at_work apart w z at)),
      )
