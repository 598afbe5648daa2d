-- What a coordinator sends fits the actions that were begun.
use Rattle.arj_law_parts.proofs.Words
use Words.{◌≡◌, ◌≢◌, ◌+◌, ◌==◌, arith, ℕ, List, [], ◌∷◌, ◌++◌, Bool, true, false, cond, not, ◌&&◌, ◌||◌, map, Option, Some, None, refl, sym}
use Words.{◌∙◌, ap, subst, inl, inr, is_some, flat_map, and_parts, In, Uid, End, Kind, Path, Op, Body, Label, Asked, Ask, Head, Header}
use Words.{request, uid_eq, Reply, actor, asks_node, asks_all, asks_step, goes_on, call, call_steps, renewed, include, next_req, step_call}
use Words.{root_moved, kept_at, heard_call, mark_lines, commits_in, asks_machine, step_commit, moved_commit, commit_top, commit_open}
use Words.{commit_action, last_req, heard_now, heard_doing, heard, heard_by, heard_none, waits_for_call, waits_for_commit, gaveup_lines}
use Words.{root_lost, gives_up, give_up_doing, give_up, again_now, again_all, Steps, Goal, At, AtBind, AtLoad, AtActivate, AtNote, AtInvoke}
use Words.{CallStep, On, Ended, Moved, answered, given_up, start, next_node, next_ask, ask_at, Plan, Machine, Voting, Preparing, Confirming}
use Words.{CommitStep, Stays, Asks, Decides, Aborts, plan_of, participants, has_record, servers_of, nodes_given_up, ask_of, Coord, Doing}
use Words.{Now, Idle, Calling, Committing, doing_of, on_doing, on_root, root_at, plan_for, keeping_of, is_free, with_keeping, servers_told}
use Words.{is_kept_top, is_constituent_branch, Effect, Do, PutIntent, Did, Served, Intent, says, say_for, tell, tell_all, up_to}
use Words.{is_deferred, tolds_by, tolds_of_branch, tolds_of, ended, ends_with, aborts_with, all_aborted, abort_action, decided_told}
use Words.{record_work, decide, let_go, tolds_let_go, acked_left, acked_by, acked, root_or_self, took_part, is_kept_commit, answer_decided}
use Words.{answer_recorded, answer_query, at_uid, has, without_uid, without_number, unbound, Input, acts, branch_named, on_branch}
use Words.{refusal_up, refused_by, call_reasons, include_reasons, commit_reasons, tolds_again, Tree, Branch, branch_of, ends_of, root_of}
use Words.{is_open, is_open_branch, at_place, is_committed, open_below, has_open_child, uses_object, is_constituent, is_serial}
use Words.ask
use Words.ending
use Words.kind
use Words.body
use Words.cause
use Words.calls
use Words.commit
use Words.input
use Rattle.arj_law_parts.proofs.Terms
use Terms.{is_over, Action, action_of, AreBegun, IsAsking, IsVoting, IsBusy, IsGoodCoord, Paths, IsTree, IsAsker, IsTopAction, FitsAsk}
use Terms.{FitsMessage, AllFit, AreOfTops, AreOfOthers, HasAllBelow, AreOrdered}
use Rattle.arj_law_parts.proofs.parts
use parts.{GoodTrees.found_by, GoodTrees.placed, Keys.at_in}
use parts.CoordInputs.{named_found, asks_by, off, off_third}
use parts.GoodCoords.{good_again, uses_same, same_asking, good_uses, good_same, good_on, on_tree, good_ended_c, good_abort, answer_step}
use parts.GoodCoords.{giveup_step, vote_step, planned, IsStepOf, actor_is, voting_at}
use parts.ToldInOrder.{below_all, ordered_by, tree_ordered, front_ordered, asking_others, single_ordered, abort_ordered}
use Rattle.arj_law_parts.specs.parts.Messages.{FitsEffect}

never : {P : Type 0} (b : Bool) → b ≡ true → b ≡ false → P
never b holds fails = let no_way : true ≡ false = sym holds ∙ fails in cc

-- ---- lists of effects

module _ (actions : List Action) where
  abbrev Fit : List Effect → Type 0
  Fit outs = AllFit actions outs

  pub fit_both : (es fs : List Effect) → Fit es → Fit fs → Fit (es ++ fs)
  fit_both [] fs a b = b
  fit_both (e ∷ es) fs a b = (a.0, fit_both es fs a.1 b)

  pub fit_map : {A : Type 0} (f : A → Effect) (items : List A) → ((x : A) → FitsEffect actions (f x)) → Fit (map f items)
  fit_map f [] each = tt
  fit_map f (x ∷ xs) each = (each x, fit_map f xs each)

  pub fit_flat : {A : Type 0} (f : A → List Effect) (items : List A) → ((x : A) → Fit (f x)) → Fit (flat_map f items)
  fit_flat f [] each = tt
  fit_flat f (x ∷ xs) each = fit_both (f x) (flat_map f xs) (each x) (fit_flat f xs each)

  fit_says : (u : Uid) (f : Label → Body) (c : Coord) → Fit (says u f c)
  fit_says u f c = by (doing_of u c)
    where
      by : (o : Option Doing) → Fit (say_for f o)
      by None = tt
      by (Some d) = (tt, tt)

  fit_tells : (root : Uid) (ack : Bool) (ends : List (Uid × End)) (nodes : List ℕ) → AreOrdered actions [] ends →
      Fit (tell_all root ack ends nodes)
  fit_tells root ack ends nodes ordered = fit_map (tell root ack ends) nodes (λ n. ordered)

  -- ---- a request

  fit_request : (h : Head) (a : Ask) → FitsAsk actions h a → FitsMessage actions (request h a)
  fit_request h (ask.Bind x i avoid) f = f
  fit_request h (ask.Load x) f = f
  fit_request h (ask.Activate b st) f = f
  fit_request h (ask.Record x b i g) f = f
  fit_request h (ask.Invoke x b i ends o) f = f
  fit_request h (ask.Vote i ties ends) f = f
  fit_request h (ask.Prepare states) f = f
  fit_request h (ask.Confirm g e i) f = f

-- ---- what is asked again leaves the tree

pub asks_all_tree : (p : Path) (req : ℕ) (as_asked : List (ℕ × Ask)) (c : Coord) →
    (let d = asks_all p req as_asked c in let e = d.part in e.tree) ≡ c.tree
asks_all_tree p req [] c = refl
asks_all_tree p req (a ∷ rest) c = asks_all_tree p req rest (asks_node p req a c).part

pub again_tree : (c : Coord) (n : Now) → (let d = again_now c n in let e = d.part in e.tree) ≡ c.tree
again_tree c Idle = refl
again_tree c (Calling s) = refl
again_tree c (Committing m) = asks_all_tree (plan_of m).path (plan_of m).req (commit.waiting m) c

module _ (actions : List Action) (begun : AreBegun actions) (paths : Paths) (tree : IsTree paths) where
  abbrev Sent : List Effect → Type 0
  Sent outs = AllFit actions outs

  -- who asks was begun
  asker : (c : Coord) (u : Uid) (p : Path) → IsGoodCoord actions paths c → IsAsking c.tree u p → IsAsker actions p
  asker c u p good a = (action_of a.branch, good.known u a.branch a.found, a.path, a.unserial)

  -- what a call asks
  fit_ask_at : (c : Coord) (u : Uid) (p : Path) → IsGoodCoord actions paths c → IsAsking c.tree u p →
      (x req : ℕ) (g : Goal) (r : Uid) (at : At) → FitsAsk actions (record { path = p; req = req }) (ask_at x g (ends_of r c.tree) at)
  fit_ask_at c u p good a x req g r (AtBind avoid) = asker c u p good a
  fit_ask_at c u p good a x req g r (AtLoad k s rest) = asker c u p good a
  fit_ask_at c u p good a x req g r (AtActivate k st) = asker c u p good a
  fit_ask_at c u p good a x req g r (AtNote k i) = asker c u p good a
  fit_ask_at c u p good a x req g r (AtInvoke k i) = (
    asker c u p good a,
    subst (λ q. AreOfOthers q (ends_of r c.tree)) a.path
        (asking_others paths tree c.tree good.tree r u a.branch a.found (ap is_open_branch a.found ∙ ap not a.opened)),
    tree_ordered paths actions c.tree good.tree good.home r,
  )

  fit_step : (s : Steps) (c : Coord) (u : Uid) → IsGoodCoord actions paths c → IsAsking c.tree u s.path → Sent (asks_step s c).outs
  fit_step s c u good a = (
    fit_request actions (record { path = s.path; req = s.req }) (next_ask (ends_of (root_of s.path) c.tree) s)
        (fit_ask_at c u s.path good a s.x s.req s.goal (root_of s.path) s.at),
    tt,
  )

  fit_goes : (s : Steps) (c : Coord) → IsGoodCoord actions paths c → IsAsking c.tree (actor s.path) s.path → Sent (goes_on s c).outs
  fit_goes s c good a =
      let f : Doing → Doing = λ (d : Doing). record d { req = s.req; now = Calling s } in
      let e : Coord = on_doing (actor s.path) f c in
      fit_step s e (actor s.path) (good_on actions paths (actor s.path) f c (λ d. a) good)
      (subst (λ t. IsAsking t (actor s.path) s.path) (sym (on_tree (actor s.path) f c)) a)

  fit_call : (p : Path) (x : ℕ) (o : Op) (c : Coord) → IsAsking c.tree (actor p) p → IsGoodCoord actions paths c → Sent (call p x o c).outs
  fit_call p x o c a good =
      let r = root_at (root_of p) c in
      let old = keeping_of x r in
      let k = renewed (is_free (root_of p) (actor p) x c) old old.kept in
      let u : Coord = record c { tree = uses_object p x c.tree } in
      let t : Coord = on_root (root_of p) (with_keeping x k) u in
      fit_goes (call_steps p x o (next_req (actor p) c) r c k) t (good_same actions paths u t refl refl
      (good_uses actions paths p x c good)) (same_asking c.tree (uses_object p x c.tree) (uses_same p x c.tree) (actor p) p a)

  fit_include : (p : Path) (x s : ℕ) (c : Coord) → IsAsking c.tree (actor p) p → IsGoodCoord actions paths c → Sent (include p x s c).outs
  fit_include p x s c a good =
      fit_goes (start p x (calls.Include s) None unbound (next_req (actor p) c)) (record c { tree = uses_object p x c.tree })
      (good_uses actions paths p x c good) (same_asking c.tree (uses_object p x c.tree) (uses_same p x c.tree) (actor p) p a)

  fit_step_call : (s : Steps) (t : CallStep) (c : Coord) → IsAsking c.tree (actor s.path) s.path → IsGoodCoord actions paths c →
      Sent (step_call s t c).outs
  fit_step_call s (On at) c a good = fit_goes (record s { req = s.req + 1; at = at }) c good a
  fit_step_call s (Ended e) c a good = fit_says actions (actor s.path) _ c

  -- ---- ends

  fit_tolds_by : (u : Uid) (k : Kind) (p : Path) (intents : List (Uid × Intent)) (c : Coord) →
      ((r : Uid) → AreOrdered actions [] (ends_of r c.tree)) → Sent (tolds_by u k p intents c)
  fit_tolds_by u kind.Nested p intents c ordered = fit_tells actions (root_of p) false (up_to u (ends_of (root_of p) c.tree))
      (servers_told u (root_at (root_of p) c) c) (front_ordered actions u [] (ends_of (root_of p) c.tree) (ordered (root_of p)))
  fit_tolds_by u kind.Serial p intents c ordered = fit_tells actions u false ((u, ending.Abort) ∷ []) _ (abort_ordered actions u)
  fit_tolds_by u kind.Top p intents c ordered = fit_tells actions (root_of p) false ((u, ending.Abort) ∷ []) _ (abort_ordered actions u)
  fit_tolds_by u kind.Independent p intents c ordered =
      fit_tells actions (root_of p) false ((u, ending.Abort) ∷ []) _ (abort_ordered actions u)
  fit_tolds_by u kind.Constituent p intents c ordered =
      fit_tells actions (root_of p) false ((u, ending.Abort) ∷ []) _ (abort_ordered actions u)

  fit_tolds : (intents : List (Uid × Intent)) (c : Coord) (u : Uid) → ((r : Uid) → AreOrdered actions [] (ends_of r c.tree)) →
      Sent (tolds_of intents c u)
  fit_tolds intents c u ordered = by (branch_of u c.tree)
    where
      by : (b : Option Branch) → Sent (tolds_of_branch u intents c b)
      by None = tt
      by (Some b) = fit_tolds_by u b.kind b.path intents c ordered

  ordered_of : (c : Coord) → IsGoodCoord actions paths c → (r : Uid) → AreOrdered actions [] (ends_of r c.tree)
  ordered_of c good r = tree_ordered paths actions c.tree good.tree good.home r

  fit_ends : (u : Uid) (e : End) (f : Label → Body) (intents : List (Uid × Intent)) (c : Coord) → has_open_child u c.tree ≡ false →
      IsGoodCoord actions paths c → Sent (ends_with u e f intents c).outs
  fit_ends u e f intents c none good = fit_both actions (says u f c) _ (fit_says actions u f c)
      (fit_tolds intents (ended u e c) u (ordered_of (ended u e c) (good_ended_c actions paths tree u e c none good)))

  fit_all_aborted : (us : List Uid) (c : Coord) → Sent (all_aborted us c).outs
  fit_all_aborted [] c = tt
  fit_all_aborted (u ∷ us) c = fit_both actions (says u (λ l. body.Aborted l cause.Asked) c)
      _ (fit_says actions u (λ l. body.Aborted l cause.Asked) c) (fit_all_aborted us (ended u ending.Abort c))

  fit_abort : (u : Uid) (intents : List (Uid × Intent)) (c : Coord) → IsGoodCoord actions paths c → Sent (abort_action u intents c).outs
  fit_abort u intents c good =
      let us : List Uid = open_below u c.tree ++ u ∷ [] in
      let d = all_aborted us c in
      fit_both actions d.outs _ (fit_all_aborted us c) (fit_flat actions (tolds_of intents d.part) us
      (λ w. fit_tolds intents d.part w (ordered_of d.part (good_abort actions paths tree u intents c good))))

  -- ---- the decision

  -- a top that commits was begun
  pub top_begun : (c : Coord) (u : Uid) (p : Plan) → IsGoodCoord actions paths c → IsVoting c.tree u p → IsTopAction actions u
  top_begun c u p good v = (
    action_of v.asking.branch,
    good.known u v.asking.branch v.asking.found,
    good.tree.lists.places u v.asking.branch v.asking.found,
    v.top v.asking.branch v.asking.found,
  )

  top_end : (u : Uid) (e : End) → IsTopAction actions u → AreOrdered actions [] ((u, e) ∷ [])
  top_end u e t = subst (λ w. AreOrdered actions [] ((w, e) ∷ [])) t.2 (single_ordered actions begun t.0 t.1 t.3 e)

  fit_decide : (p : Plan) (c : Coord) → IsTopAction actions (actor p.path) → Sent (decide p c).outs
  fit_decide p c t = fit_both actions (record_work (actor p.path) p ++ says (actor p.path) body.Committed c)
      _ (fit_both actions (record_work (actor p.path) p) _ (work (has_record p)) (fit_says actions (actor p.path) body.Committed c))
      (fit_map actions (decided_told (root_of p.path) (actor p.path) p) p.sent (λ n. one n (has (participants p) n)))
    where
      work : (b : Bool) → Sent (cond b (Do (PutIntent (actor p.path) (record { root = root_of p.path; nodes = participants p })) ∷ []) [])
      work true = (t, tt)
      work false = tt

      one : (n : ℕ) (b : Bool) → FitsEffect actions (cond b (tell (root_of p.path) (has_record p) ((actor p.path, ending.Commit) ∷ []) n)
          (tell (root_of p.path) false ((actor p.path, ending.Abort) ∷ []) n))
      one n true = top_end (actor p.path) ending.Commit t
      one n false = abort_ordered actions (actor p.path)

  -- ---- commits

  -- what a commit asks
  fit_ask_of : (c : Coord) (u : Uid) (m : Machine) → IsGoodCoord actions paths c → IsVoting c.tree u (plan_of m) → (req n : ℕ) →
      FitsAsk actions (record { path = (plan_of m).path; req = req }) (ask_of m n)
  fit_ask_of c u (Voting p left) good v req n = (
    asker c u p.path good v.asking,
    subst (λ w. HasAllBelow actions w p.ends) (sym (actor_is actions paths tree u p.path c good v.asking))
        (below_all actions c.tree u p.ends good.home (found_by u c.tree v.asking.branch v.asking.found).0 v.below),
    ordered_by actions c.tree [] p.ends good.home (λ w is. let o = v.over w is in (found_by w c.tree o.0 o.1).0) v.whole,
  )
  fit_ask_of c u (Preparing p left) good v req n = asker c u p.path good v.asking
  fit_ask_of c u (Confirming p) good v req n = asker c u p.path good v.asking

  fit_all : (p : Path) (req : ℕ) (as_asked : List (ℕ × Ask)) (c : Coord) →
      ((a : ℕ × Ask) → In a as_asked → FitsAsk actions (record { path = p; req = req }) a.1) → Sent (asks_all p req as_asked c).outs
  fit_all p req [] c each = tt
  fit_all p req (a ∷ rest) c each = (
    fit_request actions (record { path = p; req = req }) a.1 (each a (inl refl)),
    fit_all p req rest (asks_node p req a c).part (λ b i. each b (inr i)),
  )

  fit_machine : (u : Uid) (m : Machine) (c : Coord) → IsGoodCoord actions paths c → IsVoting c.tree u (plan_of m) → (e : Coord) →
      Sent (asks_machine m e).outs
  fit_machine u m c good v e = fit_all (plan_of m).path (plan_of m).req (commit.waiting m) e (λ a i. waiting (commit.left_of m) a i)
    where
      waiting : (ns : List ℕ) (a : ℕ × Ask) → In a (map {A = ℕ} {B = ℕ × Ask} (λ n. (n, ask_of m n)) ns) →
          FitsAsk actions (record { path = (plan_of m).path; req = (plan_of m).req }) a.1
      waiting [] a i = absurd i
      waiting (n ∷ ns) a (inl same) = subst (λ (b : ℕ × Ask).
          FitsAsk actions (record { path = (plan_of m).path; req = (plan_of m).req }) b.1) same (fit_ask_of c u m good v (plan_of m).req n)
      waiting (n ∷ ns) a (inr i) = waiting ns a i

  fit_step_commit : (u : Uid) (p : Plan) (s : CommitStep) (intents : List (Uid × Intent)) (c : Coord) → IsVoting c.tree u p →
      IsStepOf actions paths tree p s → IsGoodCoord actions paths c → Sent (step_commit u s intents c).outs
  fit_step_commit u p (Stays m) intents c v same good = tt
  fit_step_commit u p (Asks m) intents c v same good =
      fit_machine u m c good (planned actions paths tree c.tree u p (plan_of m) same v) (commits_in u m c)
  fit_step_commit u p (Decides q) intents c v same good = fit_decide q c
      (subst (IsTopAction actions) (sym (ap actor same.0 ∙ actor_is actions paths tree u p.path c good v.asking)) (top_begun c u p good v))
  fit_step_commit u p (Aborts why q) intents c v same good = fit_ends u ending.Abort (λ l. body.Aborted l why) intents c v.childless good

  fit_moved : (u : Uid) (p : Plan) (m : commit.Marked) (intents : List (Uid × Intent)) (c : Coord) → IsVoting c.tree u p →
      IsStepOf actions paths tree p m.step → IsGoodCoord actions paths c → Sent (moved_commit u m intents c).outs
  fit_moved u p m intents c v same good =
      fit_both actions (mark_lines u m.marks c) _ (fit_flat actions (λ (k : ℕ × ℕ). says u (λ l. body.Excluded l k.0 k.1) c) m.marks
      (λ k. fit_says actions u (λ l. body.Excluded l k.0 k.1) c)) (fit_step_commit u p m.step intents c v same good)

  -- ---- answers, giveups and ticks

  pub fit_heard : (from : ℕ) (a : Asked) (r : Reply) (intents : List (Uid × Intent)) (c : Coord) → IsGoodCoord actions paths c →
      Sent (heard from a r intents c).outs
  fit_heard from a r intents c good = by (doing_of a.act c) refl
    where
      now : (n : Now) → IsBusy c.tree a.act n → Sent (heard_now from a r intents c n).outs
      now Idle b = tt
      now (Calling s) b = one (waits_for_call from a r s)
        where
          m : Moved
          m = answered (is_free (root_of s.path) (actor s.path) s.x c) (kept_at s c) s.goal s.at r

          one : (w : Bool) → Sent (cond {A = Served Coord (Unit {0})} w (heard_by (heard_call s r c)) (heard_none c)).outs
          one true = let t : Coord = on_root (root_of s.path) (root_moved s r m) c in fit_step_call s m.step t (subst (λ v. IsAsking c.tree
              v s.path) (sym (actor_is actions paths tree a.act s.path c good b)) b) (good_same actions paths c t refl refl good)
          one false = tt
      now (Committing m) b = one (waits_for_commit from a r m)
        where
          one : (w : Bool) → Sent (cond {A = Served Coord (Unit {0})} w (heard_by (moved_commit a.act (commit.answered from m r) intents c))
              (heard_none c)).outs
          one true = fit_moved a.act (plan_of m) (commit.answered from m r) intents c b (answer_step actions paths tree from m r) good
          one false = tt

      by : (o : Option Doing) → doing_of a.act c ≡ o → Sent (heard_doing from a r intents c o).outs
      by None is = tt
      by (Some d) is = now d.now (good.busy a.act d is)

  fit_give_up : (u : Uid) (intents : List (Uid × Intent)) (c : Coord) → IsGoodCoord actions paths c → Sent (give_up u intents c).outs
  fit_give_up u intents c good = by (doing_of u c) refl
    where
      lines : (nodes : List ℕ) → Sent (gaveup_lines u nodes c)
      lines nodes = fit_flat actions (λ n. says u (λ l. body.GaveUp l n) c) nodes (λ n. fit_says actions u (λ l. body.GaveUp l n) c)

      now : (n : Now) → IsBusy c.tree u n → Sent (gives_up u intents c n).outs
      now Idle b = tt
      now (Calling s) b =
          let t : Coord = on_root (root_of s.path) (root_lost s (given_up s.at)) c in
          fit_both actions (gaveup_lines u (next_node s ∷ []) c) _ (lines (next_node s ∷ [])) (fit_step_call s (given_up s.at) t
          (subst (λ v. IsAsking c.tree v s.path) (sym (actor_is actions paths tree u s.path c good b)) b)
          (good_same actions paths c t refl refl good))
      now (Committing m) b = fit_both actions (gaveup_lines u (nodes_given_up m) c) _ (lines (nodes_given_up m))
          (fit_moved u (plan_of m) (commit.given_up m) intents c b (giveup_step actions paths tree m) good)

      by : (o : Option Doing) → doing_of u c ≡ o → Sent (give_up_doing u intents c o).outs
      by None is = tt
      by (Some d) is = now d.now (good.busy u d is)

  -- what waits, of some actions at work
  fit_again_from : (t : Tree) (ds : List Doing) (c : Coord) → c.tree ≡ t → ((d : Doing) → In d ds → (u : Uid) × IsBusy t u d.now) →
      IsGoodCoord actions paths c → Sent (again_all ds c).outs
  fit_again_from t [] c same busy good = tt
  fit_again_from t (d ∷ ds) c same busy good =
      let a = again_now c d.now in
      let b = busy d (inl refl) in
      fit_both actions a.outs _ (now d.now b.0 (subst (λ x. IsBusy x b.0 d.now) (sym same) b.1))
      (fit_again_from t ds a.part (again_tree c d.now ∙ same) (λ e i. busy e (inr i)) (good_again actions paths tree (d ∷ []) c good))
    where
      now : (n : Now) (u : Uid) → IsBusy c.tree u n → Sent (again_now c n).outs
      now Idle u b = tt
      now (Calling s) u b = fit_step s c u good b
      now (Committing m) u b = fit_machine u m c good b c

  pub fit_again : (c : Coord) → IsGoodCoord actions paths c → Sent (again_all c.doings c).outs
  fit_again c good = fit_again_from c.tree c.doings c refl (λ d i. by d (placed d c.doings i)) good
    where
      itself : (n : ℕ) → (n == n) ≡ true
      itself n = grind arith

      by : (d : Doing) → (k : ℕ) × (at_place k c.doings ≡ Some d) → (u : Uid) × IsBusy c.tree u d.now
      by d p =
          let u : Uid = record { node = c.tree.node; inc = c.tree.inc; num = p.0 } in
          (u, good.busy u d ((λ i. cond (itself c.tree.node i && itself c.tree.inc i) (at_place p.0 c.doings) None) ∙ p.1))

  -- ---- inputs

  fit_commit : (b : Branch) (intents : List (Uid × Intent)) (c : Coord) → branch_of (actor b.path) c.tree ≡ Some b → is_some b.ended
      ≡ false → has_open_child (actor b.path) c.tree ≡ false → IsGoodCoord actions paths c → Sent (commit_action b intents c).outs
  fit_commit b intents c found opened none good = by b.doomed
    where
      u : Uid
      u = actor b.path

      plan : Plan
      plan = plan_for b.path (last_req (doing_of u c)) (root_at (root_of b.path) c) c

      top : b.kind ≢ kind.Serial → b.kind ≢ kind.Nested → Sent (commit_top b.path intents c).outs
      top unserial unnested = fit_both actions (says u body.Committing c) _ (fit_says actions u body.Committing c)
          (fit_moved u plan (commit.start plan) intents c (voting_at actions paths tree b c found opened none unserial unnested good)
          (vote_step actions paths tree (servers_of plan) plan plan (refl, refl)) good)

      kinds : (k : Kind) → b.kind ≡ k → Sent (commit_open b intents c k).outs
      kinds kind.Nested is = fit_ends u ending.Commit body.Committed intents c none good
      kinds kind.Serial is = fit_ends u ending.Commit body.Ended intents c none good
      kinds kind.Top is =
          top (λ e. let no_way : kind.Top ≡ kind.Serial = sym is ∙ e in cc) (λ e. let no_way : kind.Top ≡ kind.Nested = sym is ∙ e in cc)
      kinds kind.Independent is = top (λ e. let no_way : kind.Independent ≡ kind.Serial = sym is ∙ e in
          cc) (λ e. let no_way : kind.Independent ≡ kind.Nested = sym is ∙ e in cc)
      kinds kind.Constituent is = top (λ e. let no_way : kind.Constituent ≡ kind.Serial = sym is ∙ e in
          cc) (λ e. let no_way : kind.Constituent ≡ kind.Nested = sym is ∙ e in cc)

      by : (d : Bool) → Sent (cond {A = Did Coord} d (aborts_with u cause.Doomed intents c) (commit_open b intents c b.kind)).outs
      by true = fit_ends u ending.Abort (λ l. body.Aborted l cause.Doomed) intents c none good
      by false = kinds b.kind refl

  pub fit_acts : (intents : List (Uid × Intent)) (c : Coord) → IsGoodCoord actions paths c → (hd : Header) (i : Input) →
      refusal_up hd i c ≡ None → Sent (acts i intents c).outs
  fit_acts intents c good hd (input.Begin l k parent) none = (tt, tt)
  fit_acts intents c good hd (input.Call l x o) none = by (branch_named l c) refl none
    where
      by : (f : Option Branch) → branch_named l c ≡ f → refused_by (call_reasons hd x o) c f ≡ None →
          Sent (on_branch (λ b. call b.path x o c) c f).outs
      by None is e = tt
      by (Some b) is e =
          let r6 : is_some b.ended ≡ false = (off (call_reasons hd x o b c) e).0 in
          let r11 : is_serial b.kind ≡ false = off_third (call_reasons hd x o b c) e in
          fit_call b.path x o c (asks_by actions paths tree intents c good b (named_found actions paths tree intents c good l b is) r6 r11)
          good
  fit_acts intents c good hd (input.Include l x s) none = by (branch_named l c) refl none
    where
      by : (f : Option Branch) → branch_named l c ≡ f → refused_by (include_reasons hd x) c f ≡ None →
          Sent (on_branch (λ b. include b.path x s c) c f).outs
      by None is e = tt
      by (Some b) is e =
          let r6 : is_some b.ended ≡ false = (off (include_reasons hd x b c) e).0 in
          let r11 : is_serial b.kind ≡ false = off_third (include_reasons hd x b c) e in
          fit_include b.path x s c
          (asks_by actions paths tree intents c good b (named_found actions paths tree intents c good l b is) r6 r11) good
  fit_acts intents c good hd (input.Commit l) none = by (branch_named l c) refl none
    where
      by : (f : Option Branch) → branch_named l c ≡ f → refused_by commit_reasons c f ≡ None →
          Sent (on_branch (λ b. commit_action b intents c) c f).outs
      by None is e = tt
      by (Some b) is e =
          let r6 : is_some b.ended ≡ false = (off (commit_reasons b c) e).0 in
          let r9 : has_open_child (actor b.path) c.tree ≡ false = off_third (commit_reasons b c) e in
          fit_commit b intents c (named_found actions paths tree intents c good l b is) r6 r9 good
  fit_acts intents c good hd (input.Abort l) none = by (branch_named l c)
    where
      by : (f : Option Branch) → Sent (on_branch (λ b. abort_action (actor b.path) intents c) c f).outs
      by None = tt
      by (Some b) = fit_abort (actor b.path) intents c good
  fit_acts intents c good hd (input.GiveUp l) none = by (branch_named l c)
    where
      by : (f : Option Branch) → Sent (on_branch (λ b. give_up (actor b.path) intents c) c f).outs
      by None = tt
      by (Some b) = fit_give_up (actor b.path) intents c good
  fit_acts intents c good hd (input.Frame k from m) none = tt
  fit_acts intents c good hd input.Tick none = tt
  fit_acts intents c good hd input.Restart none = tt
  fit_acts intents c good hd input.Crash none = tt
  fit_acts intents c good hd (input.Show x) none = tt

  -- ---- records, acknowledgements and queries

  pub fit_acked : (from : ℕ) (u : Uid) (intents : List (Uid × Intent)) (c : Coord) → Sent (acked from u intents c).outs
  fit_acked from u intents c = by (at_uid u c.telling)
    where
      gone : (o : Option Intent) → Sent (tolds_let_go u (without_uid u intents) c o)
      gone None = tt
      gone (Some i) = one (not (uid_eq i.root u) && is_over (branch_of i.root c.tree))
        where
          one : (b : Bool) →
              Sent (cond b (tell_all i.root false ((i.root, ending.Abort) ∷ []) (let_go i.root (without_uid u intents) c i.nodes)) [])
          one true = fit_tells actions i.root false ((i.root, ending.Abort) ∷ []) (let_go i.root (without_uid u intents) c i.nodes)
              (abort_ordered actions i.root)
          one false = tt

      left : (i : Intent) (ns : List ℕ) → Sent (acked_left u i intents c ns).outs
      left i [] = (tt, gone (at_uid u intents))
      left i (n ∷ ns) = tt

      by : (o : Option Intent) → Sent (acked_by from u intents c o).outs
      by None = tt
      by (Some i) = one (has i.nodes from)
        where
          one : (b : Bool) → Sent (cond {A = Served Coord (Unit {0})} b (acked_left u i intents c (without_number from i.nodes))
              (record { part = c; outs = []; reply = None })).outs
          one true = left i (without_number from i.nodes)
          one false = tt

  pub of_top : (u : Uid) (i : Intent) (m : List (Uid × Intent)) → AreOfTops actions m → at_uid u m ≡ Some i → IsTopAction actions u
  of_top u i m tops is = each m tops (at_in u i m is)
    where
      each : (ms : List (Uid × Intent)) → AreOfTops actions ms → In (u, i) ms → IsTopAction actions u
      each [] all j = absurd j
      each (e ∷ es) all (inl same) = subst (λ (f : Uid × Intent). IsTopAction actions f.0) same all.0
      each (e ∷ es) all (inr j) = each es all.1 j

  pub fit_query : (from : ℕ) (u : Uid) (intents : List (Uid × Intent)) (c : Coord) → AreOfTops actions intents →
      IsGoodCoord actions paths c → Sent (answer_query from u intents c)
  fit_query from u intents c tops good = first (is_open u c.tree || is_deferred u intents from)
    where
      aborts : (r : Uid) → Sent (tell r false ((u, ending.Abort) ∷ []) from ∷ [])
      aborts r = (abort_ordered actions u, tt)

      kept : (o : Option Branch) → branch_of u c.tree ≡ o → is_constituent_branch o ≡ true → IsTopAction actions u
      kept None is e = let no_way : false ≡ true = e in cc
      kept (Some b) is e = (
        action_of b,
        good.known u b is,
        good.tree.lists.places u b is,
        λ nested. never (is_constituent b.kind) e (ap is_constituent nested),
      )

      decided : Sent (answer_decided from u c)
      decided = one (is_kept_commit from u c) refl
        where
          one : (b : Bool) → is_kept_commit from u c ≡ b → Sent (cond b (tell (root_or_self u (branch_of u c.tree)) false
              ((u, ending.Commit) ∷ []) from ∷ []) (tell (root_or_self u (branch_of u c.tree)) false ((u, ending.Abort) ∷ []) from ∷ []))
          one true is =
              let k = (and_parts (is_kept_top u c) (is_open (root_or_self u (branch_of u c.tree)) c.tree && took_part from (doing_of u c))
              is).0 in (
                top_end u ending.Commit
                    (kept (branch_of u c.tree) refl (and_parts (is_constituent_branch (branch_of u c.tree)) (is_committed u c.tree) k).0),
                tt,
              )
          one false is = aborts (root_or_self u (branch_of u c.tree))

      recorded : (o : Option Intent) → at_uid u intents ≡ o → Sent (answer_recorded from u c o)
      recorded None is = decided
      recorded (Some i) is = one (has i.nodes from)
        where
          one : (b : Bool) → Sent (cond b (tell i.root true ((u, ending.Commit) ∷ []) from ∷ []) (answer_decided from u c))
          one true = (top_end u ending.Commit (of_top u i intents tops is), tt)
          one false = decided

      first : (b : Bool) → Sent (cond b [] (answer_recorded from u c (at_uid u intents)))
      first true = tt
      first false = recorded (at_uid u intents) refl

  -- the tolds of records
  pub fit_tolds_again : (telling : List (Uid × Intent)) → AreOfTops actions telling → Sent (tolds_again telling)
  fit_tolds_again [] tops = tt
  fit_tolds_again (e ∷ es) tops = fit_both actions (tell_all e.1.root true ((e.0, ending.Commit) ∷ []) e.1.nodes) _ (fit_tells actions
      e.1.root true ((e.0, ending.Commit) ∷ []) e.1.nodes (top_end e.0 ending.Commit tops.0)) (fit_tolds_again es tops.1)
