-- What a coordinator has of naming's answers, where a call is given up, or an include: it ends as lost, or the next store is asked.
use Rattle.arj_law_parts.proofs.Words
use Words.{◌≡◌, ◌⊎◌, ◌+◌, ℕ, ◌==◌, ◌&&◌, Bool, true, false, List, [], ◌∷◌, ◌++◌, Option, Some, None, refl, sym, ◌∙◌, ap, subst, inl, inr}
use Words.{⊎_elim, arith, cond, Contains, unwrap_or, AllByRecursion, uid_cases, End, Uid, Reply, actor, top_of, end_line, gaveup_lines}
use Words.{gives_up, goes_on, is_ended, keeps_after, root_heard, root_lost, step_call, At, AtActivate, AtBind, AtInvoke, AtLoad, AtNote}
use Words.{CallStep, Ended, Goal, Include, Known, Lost, Run, On, Steps, given_up, next_ask, next_node, spoils, Calling, Committing, Coord}
use Words.{Doing, Idle, Keeping, Root, Went, doing_of, is_constituent_branch, is_kept_top, keeping_of, kept_of, no_keeping, no_root}
use Words.{on_doing, on_root, root_at, with_keeping, Did, Disk, says, Parts, with_coord, at_number, put_number, uid_number, Branch}
use Words.{at_place, branch_of, doomed_at, doomed_branch, ended_so, ends_of, is_own, root_of, put_same as put_number_same}
use Words.{put_other as put_number_other, one_or_two, Post, Seen}
use Words.body
use Words.ending
use Words.loaded
use Rattle.arj_law_disk_view.proofs.Terms
use Terms.{KnowsFew, roots_work, IsGood, Names, Office, has, or_right, some_is, up, KnowsNode, Kinds, IsFixed, SeesBoth, SeesRootOf}
use Terms.{OnlyMemory, MayGoOn, Quietly, grant_at, AsksListed, IsToStep, IsWorkingRoot, SeesHeard, SeesHeardAt, SeesStep, is_bound}
use Terms.{HasHeard, going_of}
use Rattle.arj_law_disk_view.proofs.names.Heard.{none_heard}
use Rattle.arj_law_disk_view.proofs.running
use running.{HeardAborts.says_say, HeardCoord.mine, HeardCoord.quiet_step, HeardGoing.old_goes_on, HeardQuiet.fixed_in}
use running.{HeardServe.actor_of_step, HeardServe.number_of_step, HeardTick.request_says, HeardTick.step_claims}
use running.HeardCalls.{HasItsList, IsCalled, at_called, fresh, goes_called, goes_kept, keeps_to, root_keeps, root_put, work_cases}
use running.HeardLike.{call_same, path_on, root_ends, same_path}
use running.HeardPosts.{SaysHeard, all_flat, all_join}
use running.HeardStays.{at_stays, memory_goes, memory_stays, was_to, SendsMore}
use Rattle.arj_law_disk_view.proofs.view.{CallWalks.set_here, CallWalks.set_other, Doings.doing_tree, Frames.node_here}

-- what a root keeps of an object, where that of one was put
pub put_keeps : (x y : ℕ) (k : Keeping) (r : Root) →
    ((y ≡ x) × (kept_of x (with_keeping y k r) ≡ k.kept)) ⊎ (kept_of x (with_keeping y k r) ≡ kept_of x r)
put_keeps x y k r = ⊎_elim (λ same. inl (
  same,
  ap (λ n. (unwrap_or (at_number n (put_number y k r.keeping)) no_keeping).kept) (sym same)
      ∙ ap (λ o. (unwrap_or o no_keeping).kept) (put_number_same y k r.keeping),
))
    (λ apart. inr (ap (λ o. (unwrap_or o no_keeping).kept) (put_number_other y x k r.keeping apart.0))) (one_or_two y x)

-- ---- a call is lost

abbrev pub IsDoomedNow : Option Branch → Option Branch → Type 0
IsDoomedNow o n = (b : Branch) × (o ≡ Some b) × (n ≡ Some (record b { doomed = true }))

-- Of one coordinator what is looked at is that of another, but for actions that are doomed, who waits no more, and what a root keeps
-- beside the binding.
pub record IsLost (x : ℕ) (c e : Coord) : Type 0 where
  pub own : (u : Uid) → is_own u e.tree ≡ is_own u c.tree
  pub branches : (w : Uid) → (branch_of w e.tree ≡ branch_of w c.tree) ⊎ IsDoomedNow (branch_of w c.tree) (branch_of w e.tree)
  pub works : (u : Uid) (q : Doing) → doing_of u e ≡ Some q → (doing_of u c ≡ Some q) ⊎ (q.now ≡ Idle)
  pub roots : (u : Uid) → (k : List (ℕ × Keeping)) × (w : List Went) × (root_at u e ≡ keeps_to k w (root_at u c))
      × (kept_of x (keeps_to k w (root_at u c)) ≡ kept_of x (root_at u c))

module _ (x : ℕ) (c e : Coord) (lost : IsLost x c e) where
  ends_same : (k : End) (w : Uid) → ended_so k (branch_of w e.tree) ≡ ended_so k (branch_of w c.tree)
  ends_same k w = ⊎_elim (λ same. ap (ended_so k) same) (λ z. ap (ended_so k) z.2 ∙ sym (ap (ended_so k) z.1)) (lost.branches w)

  kept_tops : (w : Uid) → is_kept_top w e ≡ is_kept_top w c
  kept_tops w = λ i. constituent i && ends_same ending.Commit w i
    where
      constituent : is_constituent_branch (branch_of w e.tree) ≡ is_constituent_branch (branch_of w c.tree)
      constituent = ⊎_elim (λ same. ap is_constituent_branch same) (λ z. ap is_constituent_branch z.2 ∙ sym (ap is_constituent_branch z.1))
          (lost.branches w)

  was_root : (tops : Kinds) (root : Uid) → IsWorkingRoot tops e root → IsWorkingRoot tops c root
  was_root tops root w = record {
    own = sym (lost.own root) ∙ w.own;
    alone = w.alone;
    unended = λ b found. ⊎_elim (λ same. w.unended b (same ∙ found))
        (λ z. ap (λ (y : Branch). y.ended) (some_is found z.1) ∙ w.unended (record z.0 { doomed = true }) z.2) (lost.branches root);
  }

  pub at_lost : (k : ℕ) (tops : Kinds) (sent : List Post) (B : Office) → SeesHeardAt x k tops sent c B → SeesHeardAt x k tops sent e B
  at_lost k tops sent B p = record {
    roots = λ root w.
        let q = lost.roots root in
        subst (λ z. SeesRootOf x tops root e z B) (sym q.2)
        (root_keeps x tops root e (root_at root c) q.0 q.1 B (inl q.3) (root_ends c e ends_same kept_tops x tops root (root_at root c)
        (let r = root_at root c in r.went) B (p.roots root (was_root tops root w))));
    steps = λ u q s does now of.
        ⊎_elim (λ old. p.steps u q s old now of) (λ idle. absurd (let n : Idle ≡ Calling s = sym idle ∙ now in cc)) (lost.works u q does);
    calls = λ u q s does now of call past. ⊎_elim (λ old. call_same x tops c e s B.names (lost.own (top_of s.path))
        (let r = lost.roots (root_of s.path) in ap (kept_of x) r.2 ∙ r.3) (p.calls u q s old now of call past))
        (λ idle. absurd (let n : Idle ≡ Calling s = sym idle ∙ now in cc)) (lost.works u q does);
    includes = λ root j i. path_on c e (λ w. ⊎_elim (λ same. same_path (branch_of w c.tree) (branch_of w e.tree) same)
        (λ z. λ b is. (record z.0 { doomed = true }, z.2, ap (λ (y : Branch). y.path) (some_is z.1 is))) (lost.branches w)) j.path
        (p.includes root j (subst (λ (r : Root). Contains r.joined j) (let r = lost.roots root in r.2) i));
    plans = λ u q m does now.
        ⊎_elim (λ old. p.plans u q m old now) (λ idle. absurd (let n : Idle ≡ Committing m = sym idle ∙ now in cc)) (lost.works u q does);
  }

-- what is kept beside the mark that it is spoiled
after_kept : (g : Goal) (b : Bool) (k : Keeping) → (let z = keeps_after g b k.kept k in z.kept) ≡ k.kept
after_kept (Run o) b k = refl
after_kept (Include s) b k = refl

module _ (x : ℕ) (c : Coord) (s : Steps) (q : Doing) (found : doing_of (actor s.path) c ≡ Some q) where
  -- the root that keeps the binding still
  abbrev lost_to : CallStep → Coord
  lost_to step = on_root (root_of s.path) (root_lost s step) c

  lost_root : (step : CallStep) (u : Uid) → (k : List (ℕ × Keeping)) × (w : List Went) × (root_at u (on_root (root_of s.path)
      (root_lost s step) c) ≡ keeps_to k w (root_at u c)) × (kept_of x (keeps_to k w (root_at u c)) ≡ kept_of x (root_at u c))
  lost_root step u = ⊎_elim
      (λ here. let r = root_at u c in let k = keeping_of s.x r in let z = keeps_after s.goal (is_ended step && spoils s.at) k.kept k in (
        put_number s.x z r.keeping,
        r.went,
        here.1,
        ⊎_elim
            (λ mine. mine.1 ∙ (after_kept s.goal (is_ended step && spoils s.at) (keeping_of s.x (root_at u c))
            ∙ ap (λ n. kept_of n (root_at u c)) mine.0))
            (λ other. other) (put_keeps x s.x z r),
      ))
      (λ other. let r = root_at u c in (r.keeping, r.went, other, refl))
      (root_put (root_of s.path) (root_lost s step) c u)

  abbrev to_idle : Doing → Doing
  to_idle d = record d { now = Idle }

  module _ (n : ℕ) (b : Bool) where
    abbrev ended_at_work : Coord
    ended_at_work = on_root (root_of s.path) (root_heard s (Lost n b))
        (on_doing (actor s.path) (λ (d : Doing). record d { now = Idle }) (lost_to (Ended (Lost n b))))

    tree_is : ended_at_work.tree ≡ c.tree
    tree_is = doing_tree (actor s.path) to_idle (lost_to (Ended (Lost n b)))

    works_is : (w : Uid) (z : Doing) → doing_of w ended_at_work ≡ Some z → (doing_of w c ≡ Some z) ⊎ (z.now ≡ Idle)
    works_is w z does = ⊎_elim (λ mine. inr (ap (λ (y : Doing). y.now) (sym mine.1))) (λ old. inl old)
        (work_cases (actor s.path) to_idle (lost_to (Ended (Lost n b))) q found w z does)

    roots_is : (u : Uid) → root_at u ended_at_work ≡ root_at u (lost_to (Ended (Lost n b)))
    roots_is u = ⊎_elim (λ here. here.1 ∙ before) (λ other. other ∙ before)
        (root_put (root_of s.path) (root_heard s (Lost n b)) (on_doing (actor s.path) to_idle (lost_to (Ended (Lost n b)))) u)
      where
        before : root_at u (on_doing (actor s.path) to_idle (lost_to (Ended (Lost n b)))) ≡ root_at u (lost_to (Ended (Lost n b)))
        before = ap (λ (rs : List (ℕ × Root)). unwrap_or (at_number u.num rs) no_root)
            (roots_work (actor s.path) to_idle (lost_to (Ended (Lost n b))))

    lost_roots : (u : Uid) → (k : List (ℕ × Keeping)) × (w : List Went) × (root_at u ended_at_work ≡ keeps_to k w (root_at u c))
        × (kept_of x (keeps_to k w (root_at u c)) ≡ kept_of x (root_at u c))
    lost_roots u = let r = lost_root (Ended (Lost n b)) u in (r.0, r.1, roots_is u ∙ r.2, r.3)

    plain_lost : IsLost x c ended_at_work
    plain_lost =
        record { own = λ u. ap (is_own u) tree_is; branches = λ w. inl (ap (branch_of w) tree_is); works = works_is; roots = lost_roots }

    doom_own : (u : Uid) → is_own u (doomed_at (actor s.path) ended_at_work.tree) ≡ is_own u c.tree
    doom_own u = by (branch_of (actor s.path) ended_at_work.tree) ∙ ap (is_own u) tree_is
      where
        by : (o : Option Branch) → is_own u (doomed_branch (actor s.path) ended_at_work.tree o) ≡ is_own u ended_at_work.tree
        by None = refl
        by (Some z) = refl

    doom_branch : (w : Uid) → (branch_of w (doomed_at (actor s.path) ended_at_work.tree) ≡ branch_of w ended_at_work.tree)
        ⊎ IsDoomedNow (branch_of w ended_at_work.tree) (branch_of w (doomed_at (actor s.path) ended_at_work.tree))
    doom_branch w = by (branch_of (actor s.path) ended_at_work.tree) refl
      where
        by : (o : Option Branch) → branch_of (actor s.path) ended_at_work.tree ≡ o →
            (branch_of w (doomed_branch (actor s.path) ended_at_work.tree o) ≡ branch_of w ended_at_work.tree)
            ⊎ IsDoomedNow (branch_of w ended_at_work.tree) (branch_of w (doomed_branch (actor s.path) ended_at_work.tree o))
        by None is = inl refl
        by (Some z) is = ⊎_elim
            (λ same. inr (
              z,
              ap (λ a. branch_of a ended_at_work.tree) same ∙ is,
              ap (λ a. branch_of a (doomed_branch (actor s.path) ended_at_work.tree (Some z))) same
                  ∙ set_here (actor s.path) z (record z { doomed = true }) ended_at_work is,
            ))
            (λ other. inl (set_other (actor s.path) z (record z { doomed = true }) ended_at_work is w other)) (uid_cases w (actor s.path))

    doom_lost : IsLost x c (record ended_at_work { tree = doomed_at (actor s.path) ended_at_work.tree })
    doom_lost = record {
      own = doom_own;
      branches = λ w. subst (λ t. (branch_of w (doomed_at (actor s.path) ended_at_work.tree) ≡ branch_of w t)
          ⊎ IsDoomedNow (branch_of w t) (branch_of w (doomed_at (actor s.path) ended_at_work.tree))) tree_is (doom_branch w);
      works = λ w z does.
          works_is w z ((λ i. cond ((ap (is_own w) tree_is ∙ sym (doom_own w)) i) (at_place w.num ended_at_work.doings) None) ∙ does);
      roots = lost_roots;
    }

  pub call_lost : (n : ℕ) (b : Bool) → IsLost x c (step_call s (Ended (Lost n b)) (lost_to (Ended (Lost n b)))).part
  call_lost n true = doom_lost n true
  call_lost n false = plain_lost n false

  -- the next store is asked
  pub call_goes : (y : Known) (n : ℕ) (rest : List ℕ) → IsCalled x (record s { req = s.req + 1; at = AtLoad y n rest }) c
      (step_call s (On (AtLoad y n rest)) (lost_to (On (AtLoad y n rest)))).part
  call_goes y n rest = goes_called x (record s { req = s.req + 1; at = AtLoad y n rest }) c (lost_to (On (AtLoad y n rest))) q found
      (λ u. refl) (λ u. refl) refl
      (λ u. let r = lost_root (On (AtLoad y n rest)) u in (r.0, r.1, r.2, inl r.3))

-- ---- the step that asks the next store

abbrev load_in : At → Option (Known × ℕ × List ℕ)
load_in (AtLoad q n rest) = Some (q, n, rest)
load_in _ = None

next_step : (x k : ℕ) (sent : List Post) (s : Steps) (y : Known) (n m : ℕ) (rest : List ℕ) (N : Names) → s.at ≡ AtLoad y n (m ∷ rest) →
    SeesStep x k sent s N → ((r : Reply) → IsToStep k sent (record s { req = s.req + 1; at = AtLoad y m rest }) r → ⊥) →
    SeesStep x k sent (record s { req = s.req + 1; at = AtLoad y m rest }) N
next_step x k sent s y n m rest N is sees none = record {
  stands = λ i at. sees.stands i (ap grant_at is ∙ at);
  listed = λ q j more at including. let old = sees.listed y n (m ∷ rest) is including in
      subst (λ (z : Known × ℕ × List ℕ). AsksListed (uid_number (top_of s.path)) z.0 (z.1 ∷ z.2) N) (some_is refl (ap load_in at))
      (record { answered = old.answered; stores = λ w on. old.stores w (or_right (n == w) (has w (m ∷ rest)) on) });
  goal = λ including. refl;
  bound = λ r to. absurd (none (Reply.Bound r) to);
  named = λ r to. absurd (none (Reply.Bound r) to);
  loaded = λ q j more st at including to. absurd (none (Reply.Loaded (loaded.State st)) to);
}

-- ---- the input

module _ (x : ℕ) (tops : Kinds) (e k : ℕ) (d : Disk) (t : Parts) (M : Seen) (A : Office) (good : IsGood (up k d t M)) (few : KnowsFew
    (up k d t M)) (knows : KnowsNode tops k d t M) (both : SeesBoth x tops A (up k d t M)) (h : SeesHeard x tops A (up k d t M))
    (u : Uid) (q : Doing) (s : Steps) (does : doing_of u t.coord ≡ Some q) (now : q.now ≡ Calling s) where
  abbrev Heard_by : Did Coord → Type 0
  Heard_by did = (g : HasHeard (SeesHeard x) x tops Quietly A (going_of e k d t did, M)) × MayGoOn x g.office did.part

  -- with this step
  abbrev Gives : CallStep → Did Coord
  Gives step = let g = step_call s step (on_root (root_of s.path) (root_lost s step) t.coord) in
      record { part = g.part; outs = gaveup_lines u (next_node s ∷ []) t.coord ++ g.outs }

  who : actor s.path ≡ u
  who = actor_of_step (up k d t M) good few k (record { number = k; disk = d; live = Some t }) t
      (node_here M k (record { number = k; disk = d; live = Some t })) refl u q s does now

  found : doing_of (actor s.path) t.coord ≡ Some q
  found = ap (λ w. doing_of w t.coord) who ∙ does

  lines_say : AllByRecursion (SaysHeard x d.inc A) (gaveup_lines u (next_node s ∷ []) t.coord)
  lines_say = all_flat (λ f. SaysHeard x d.inc A f) (λ n. says u (λ l. body.GaveUp l n) t.coord) (next_node s ∷ [])
      (λ n. says_say x d.inc A u (λ l. body.GaveUp l n) t.coord)

  still : (N : Seen) (B : Office) → (only : OnlyMemory A B) → IsFixed tops B.world.disk → SendsMore x B M.sent N.sent →
      SeesHeardAt x k tops N.sent t.coord B
  still N B only fixed more = at_stays x tops A B (fixed_in x tops A (up k d t M) both) fixed (memory_goes A B only) k M.sent N.sent t.coord
      more (λ w own kind. memory_stays tops A B only (tops.root (uid_number w))) (mine x tops k d t M A both h)

  -- it is lost
  gives_lost : (n : ℕ) (b : Bool) → Heard_by (Gives (Ended (Lost n b)))
  gives_lost n b =
      let l = call_lost x t.coord s q found n b in (
        record {
          office = A;
          only = none_heard A;
          both = both;
          along = quiet_step x tops k d t M A both h (with_coord t (Gives (Ended (Lost n b))).part)
              (λ N B only fixed more. at_lost x t.coord (Gives (Ended (Lost n b))).part l k tops N.sent B (still N B only fixed more))
              e (Gives (Ended (Lost n b))).outs M refl refl
              (all_join (λ f. SaysHeard x d.inc A f) (gaveup_lines u (next_node s ∷ []) t.coord) (says (actor s.path)
              (end_line s.x s.goal (Lost n b)) (on_root (root_of s.path) (root_lost s (Ended (Lost n b))) t.coord)) lines_say
              (says_say x d.inc A (actor s.path) (end_line s.x s.goal (Lost n b))
              (on_root (root_of s.path) (root_lost s (Ended (Lost n b))) t.coord)));
        },
        old_goes_on x tops k d t M A knows both (Gives (Ended (Lost n b))).part
            (λ w z m at is past. ⊎_elim (λ old. old) (λ idle. absurd (let n : Idle ≡ Committing m = sym idle ∙ is in cc)) (l.works w z at)),
      )

  -- the next store is asked
  gives_next : (y : Known) (n m : ℕ) (rest : List ℕ) → s.at ≡ AtLoad y n (m ∷ rest) → Heard_by (Gives (On (AtLoad y m rest)))
  gives_next y n m rest at = (
    record {
      office = A;
      only = none_heard A;
      both = both;
      along = quiet_step x tops k d t M A both h (with_coord t (Gives (On (AtLoad y m rest))).part)
          (λ N B only fixed more. at_called x k tops N.sent next t.coord (Gives (On (AtLoad y m rest))).part B called
          (λ w d z other there now of call. kept_same (root_of z.path))
          (λ of. let p = still N B only fixed more in next_step x k N.sent s y n m rest B.names at (p.steps u q s does now of) (λ r to.
          none r (was_to x B k M.sent N.sent next more r to))) (its_list (still N B only fixed more)) (still N B only fixed more))
          e (Gives (On (AtLoad y m rest))).outs M refl refl
          (all_join (λ f. SaysHeard x d.inc A f) (gaveup_lines u (next_node s ∷ []) t.coord)
          (goes_on next (on_root (root_of s.path) (root_lost s (On (AtLoad y m rest))) t.coord)).outs lines_say
          (request_says x d.inc k M.sent A s.path (s.req + 1) (next_node next, next_ask (ends_of (root_of s.path) mid.tree) next) mid
          (step_claims x d.inc k M.sent A next (ends_of (root_of s.path) mid.tree) (λ of. let p = mine x tops k d t M A both h in
          next_step x k M.sent s y n m rest A.names at (p.steps u q s does now of) none))));
    },
    old_goes_on x tops k d t M A knows both (Gives (On (AtLoad y m rest))).part (λ w z m at is past.
        ⊎_elim (λ old. old.1) (λ new. absurd (let n : Calling next ≡ Committing m = sym new ∙ is in cc)) (called.works w z at)),
  )
    where
      next : Steps
      next = record s { req = s.req + 1; at = AtLoad y m rest }

      called : IsCalled x (record s { req = s.req + 1; at = AtLoad y m rest }) t.coord (Gives (On (AtLoad y m rest))).part
      called = call_goes x t.coord s q found y m rest

      kept_same : (w : Uid) → kept_of x (root_at w (Gives (On (AtLoad y m rest))).part) ≡ kept_of x (root_at w t.coord)
      kept_same w = goes_kept x next (lost_to x t.coord s q found (On (AtLoad y m rest))) w
          ∙ (let r = lost_root x t.coord s q found (On (AtLoad y m rest)) w in ap (kept_of x) r.2 ∙ r.3)

      its_list : {B : Office} {sent : List Post} → SeesHeardAt x k tops sent t.coord B →
          HasItsList x tops (Gives (On (AtLoad y m rest))).part (record s { req = s.req + 1; at = AtLoad y m rest }) B.names
      its_list {B} p of call past = let z = call_same x tops t.coord (Gives (On (AtLoad y m rest))).part s B.names
          (called.own (top_of s.path)) (kept_same (root_of s.path)) (p.calls u q s does now of call (ap is_bound at)) in
          record { own = z.own; top = z.top; known = z.known; kept = z.kept; list = z.list }

      mid : Coord
      mid = on_doing (actor s.path)
          (λ (z : Doing). record z { req = s.req + 1; now = Calling (record s { req = s.req + 1; at = AtLoad y m rest }) })
          (on_root (root_of s.path) (root_lost s (On (AtLoad y m rest))) t.coord)

      number : s.req ≡ q.req
      number = number_of_step (up k d t M) good few k (record { number = k; disk = d; live = Some t }) t
          (node_here M k (record { number = k; disk = d; live = Some t })) refl u q s does now

      none : (r : Reply) → IsToStep k M.sent (record s { req = s.req + 1; at = AtLoad y m rest }) r → ⊥
      none r to = fresh x tops k d t M A good few h (actor s.path) q (record s { req = s.req + 1; at = AtLoad y m rest }) found refl
          (let n : s.req ≡ q.req = number in omega arith) r to

  pub heard_give_call : Heard_by (gives_up u d.intents t.coord (Calling s))
  heard_give_call = by s.at refl
    where
      load : (y : Known) (n : ℕ) (rest : List ℕ) → s.at ≡ AtLoad y n rest → Heard_by (Gives (given_up (AtLoad y n rest)))
      load y n [] is = gives_lost n false
      load y n (m ∷ rest) is = gives_next y n m rest is

      by : (at : At) → s.at ≡ at → Heard_by (Gives (given_up s.at))
      by (AtBind avoid) is = subst (λ z. Heard_by (Gives (given_up z))) (sym is) (gives_lost 1 false)
      by (AtLoad y n rest) is = subst (λ z. Heard_by (Gives (given_up z))) (sym is) (load y n rest is)
      by (AtActivate y st) is = subst (λ z. Heard_by (Gives (given_up z))) (sym is) (gives_lost y.server false)
      by (AtNote y i) is = subst (λ z. Heard_by (Gives (given_up z))) (sym is) (gives_lost 1 false)
      by (AtInvoke y i) is = subst (λ z. Heard_by (Gives (given_up z))) (sym is) (gives_lost y.server true)
