-- Whatever a coordinator hears, does and begins, it sends the requests of what waits.
use Rattle.arj_law_parts.proofs.Words
use Words.{◌≡◌, ◌≢◌, ◌==◌, ◌&&◌, ◌||◌, ℕ, List, [], ◌∷◌, ◌++◌, Bool, true, false, cond, Option, Some, None, refl, sym, ◌∙◌, ap, subst, inl}
use Words.{inr, arith, length, flat_map, Uid, Ask, Asked, End, Kind, Label, Path, Reply, actor, again_all, again_now, asks_all, asks_node}
use Words.{call, call_steps, commit_action, commit_open, commit_top, gaveup_lines, give_up, give_up_doing, gives_up, heard, heard_by}
use Words.{heard_call, heard_doing, heard_none, heard_now, include, kept_at, last_req, moved_commit, next_req, renewed, root_lost}
use Words.{root_moved, step_call, waits_for_call, waits_for_commit, Moved, Steps, answered, given_up, next_node, start, Aborts, Asks}
use Words.{CommitStep, Decides, Machine, Plan, Stays, nodes_given_up, plan_of, servers_of, Calling, Committing, Coord, Doing, Idle, Now}
use Words.{doing_of, is_free, keeping_of, on_root, plan_for, root_at, with_keeping, Did, Intent, Served, abort_action, aborts_with, acked}
use Words.{acked_by, acked_left, all_aborted, answer_decided, answer_query, answer_recorded, ended, ends_with, is_deferred, is_kept_commit}
use Words.{let_go, root_or_self, says, tell, tell_all, tolds_let_go, tolds_of, at_uid, has, unbound, without_number, without_uid, Input}
use Words.{acts, branch_named, on_branch, tolds_again, Branch, at_place, branch_of, ends_of, is_open, open_below, root_of, uses_object}
use Words.list
use Words.body
use Words.cause
use Words.ending
use Words.kind
use Words.calls
use Words.commit
use Words.input
use Rattle.arj_law_runs.proofs.Terms
use Terms.{Action, IsAsking, IsBusy, IsGoodCoord, IsVoting, IsTree, Paths, AreNumbered, IsNumbered, named_found, IsStepOf, actor_is}
use Terms.{answer_step, giveup_step, vote_step, placed, work_there}
use Rattle.arj_law_runs.proofs.calls.CoordSends.{AllQuiet, AllSo, asks_work, goes_so, machine_so, moved_so, quiet_both, quiet_ends}
use Rattle.arj_law_runs.proofs.calls.CoordSends.{quiet_flat, quiet_gaveup, quiet_says, quiet_so, quiet_tells, quiet_tolds, so_both}
use Rattle.arj_law_runs.proofs.calls.CoordSends.{step_call_so, step_so}

asks_path : (acts_begun : List Action) (paths : Paths) (tree : IsTree paths) (p : Plan) (s : CommitStep) →
    IsStepOf acts_begun paths tree p s → (m : Machine) → s ≡ Asks m → (plan_of m).path ≡ p.path
asks_path acts_begun paths tree p (Asks z) same m is = let e : z ≡ m = asks_is is in ap (λ (y : Machine). (plan_of y).path) (sym e) ∙ same.0
  where
    asks_is : {a b : Machine} → Asks a ≡ Asks b → a ≡ b
    asks_is is = cc
asks_path acts_begun paths tree p (Stays z) same m is = absurd (cc is)
asks_path acts_begun paths tree p (Decides q) same m is = absurd (cc is)
asks_path acts_begun paths tree p (Aborts why z) same m is = absurd (cc is)

-- ---- queries and acknowledgements

pub quiet_query : (from : ℕ) (u : Uid) (intents : List (Uid × Intent)) (c : Coord) → AllQuiet (answer_query from u intents c)
quiet_query from u intents c = by (is_open u c.tree || is_deferred u intents from)
  where
    decided : (b : Bool) → AllQuiet (cond b (tell (root_or_self u (branch_of u c.tree)) false ((u, ending.Commit) ∷ []) from ∷ [])
        (tell (root_or_self u (branch_of u c.tree)) false ((u, ending.Abort) ∷ []) from ∷ []))
    decided true = (refl, tt)
    decided false = (refl, tt)

    recorded : (o : Option Intent) → AllQuiet (answer_recorded from u c o)
    recorded None = decided (is_kept_commit from u c)
    recorded (Some i) = one (has i.nodes from)
      where
        one : (b : Bool) → AllQuiet (cond b (tell i.root true ((u, ending.Commit) ∷ []) from ∷ []) (answer_decided from u c))
        one true = (refl, tt)
        one false = decided (is_kept_commit from u c)

    by : (b : Bool) → AllQuiet (cond b [] (answer_recorded from u c (at_uid u intents)))
    by true = tt
    by false = recorded (at_uid u intents)

pub query_so : (e : Coord) (from : ℕ) (u : Uid) (intents : List (Uid × Intent)) (c : Coord) → AllSo e (answer_query from u intents c)
query_so e from u intents c = quiet_so e (answer_query from u intents c) (quiet_query from u intents c)

pub quiet_acked : (from : ℕ) (u : Uid) (intents : List (Uid × Intent)) (c : Coord) → AllQuiet (acked from u intents c).outs
quiet_acked from u intents c = by (at_uid u c.telling)
  where
    gone : (o : Option Intent) → AllQuiet (tolds_let_go u (without_uid u intents) c o)
    gone None = tt
    gone (Some i) = one _
      where
        one : (b : Bool) →
            AllQuiet (cond b (tell_all i.root false ((i.root, ending.Abort) ∷ []) (let_go i.root (without_uid u intents) c i.nodes)) [])
        one true = quiet_tells i.root false ((i.root, ending.Abort) ∷ []) (let_go i.root (without_uid u intents) c i.nodes)
        one false = tt

    left : (i : Intent) (ns : List ℕ) → AllQuiet (acked_left u i intents c ns).outs
    left i [] = (tt, gone (at_uid u intents))
    left i (n ∷ ns) = tt

    by : (o : Option Intent) → AllQuiet (acked_by from u intents c o).outs
    by None = tt
    by (Some i) = one (has i.nodes from)
      where
        one : (b : Bool) → AllQuiet (cond {A = Served Coord (Unit {0})} b (acked_left u i intents c (without_number from i.nodes))
            (record { part = c; outs = []; reply = None })).outs
        one true = left i (without_number from i.nodes)
        one false = tt

pub acked_so : (from : ℕ) (u : Uid) (intents : List (Uid × Intent)) (c : Coord) →
    AllSo (acked from u intents c).part (acked from u intents c).outs
acked_so from u intents c = quiet_so (acked from u intents c).part (acked from u intents c).outs (quiet_acked from u intents c)

pub quiet_again : (telling : List (Uid × Intent)) → AllQuiet (tolds_again telling)
quiet_again telling = quiet_flat (λ (z : Uid × Intent). tell_all z.1.root true ((z.0, ending.Commit) ∷ []) z.1.nodes) telling
    (λ z. quiet_tells (let i = z.1 in i.root) true ((z.0, ending.Commit) ∷ []) (let i = z.1 in i.nodes))

pub tolds_so : (e : Coord) (telling : List (Uid × Intent)) → AllSo e (tolds_again telling)
tolds_so e telling = quiet_so e (tolds_again telling) (quiet_again telling)

-- ---- answers and inputs

pub quiet_all : (us : List Uid) (c : Coord) → AllQuiet (all_aborted us c).outs
quiet_all [] c = tt
quiet_all (u ∷ us) c = quiet_both (says u (λ l. body.Aborted l cause.Asked) c) (all_aborted us (ended u ending.Abort c)).outs
    (quiet_says u (λ l. body.Aborted l cause.Asked) c) (quiet_all us (ended u ending.Abort c))

module _ (acts_begun : List Action) (paths : Paths) (tree : IsTree paths) (c : Coord) (good : IsGoodCoord acts_begun paths c)
    (numbered : AreNumbered c) (works : length c.doings ≡ length c.tree.branches) where
  asks_who : (u : Uid) (p : Plan) (step : CommitStep) → actor p.path ≡ u → IsStepOf acts_begun paths tree p step → (m : Machine) →
      step ≡ Asks m → actor (plan_of m).path ≡ u
  asks_who u p step who same m is = ap actor (asks_path acts_begun paths tree p step same m is) ∙ who

  voting : (u : Uid) (d : Doing) (m : Machine) → doing_of u c ≡ Some d → d.now ≡ Committing m → actor (plan_of m).path ≡ u
  voting u d m found now = let v : IsVoting c.tree u (plan_of m) = subst (IsBusy c.tree u) now (good.busy u d found) in
      actor_is acts_begun paths tree u (plan_of m).path c good v.asking

  calling : (u : Uid) (d : Doing) (s : Steps) → doing_of u c ≡ Some d → d.now ≡ Calling s → actor s.path ≡ u
  calling u d s found now = let v : IsAsking c.tree u s.path = subst (IsBusy c.tree u) now (good.busy u d found) in
      actor_is acts_begun paths tree u s.path c good v

  pub heard_so : (from : ℕ) (a : Asked) (r : Reply) (intents : List (Uid × Intent)) →
      AllSo (heard from a r intents c).part (heard from a r intents c).outs
  heard_so from a r intents = by (doing_of a.act c) refl
    where
      by_now : (d : Doing) → doing_of a.act c ≡ Some d → (n : Now) → d.now ≡ n →
          AllSo (heard_now from a r intents c n).part (heard_now from a r intents c n).outs
      by_now d found Idle at = tt
      by_now d found (Calling s) at = one (waits_for_call from a r s)
        where
          m : Moved
          m = answered (is_free (root_of s.path) (actor s.path) s.x c) (kept_at s c) s.goal s.at r

          one : (w : Bool) → let z = cond {A = Served Coord (Unit {0})} w (heard_by (heard_call s r c)) (heard_none c) in
              AllSo z.part z.outs
          one true = step_call_so s m.step (on_root (root_of s.path) (root_moved s r m) c) d
              (ap (λ z. doing_of z c) (calling a.act d s found at) ∙ found)
          one false = tt
      by_now d found (Committing n) at = one (waits_for_commit from a r n)
        where
          one : (w : Bool) → let z = cond {A = Served Coord (Unit {0})} w
              (heard_by (moved_commit a.act (commit.answered from n r) intents c)) (heard_none c) in AllSo z.part z.outs
          one true = moved_so a.act (commit.answered from n r) intents c d found (asks_who a.act (plan_of n) (commit.answered from n r).step
              (voting a.act d n found at) (answer_step acts_begun paths tree from n r))
          one false = tt

      by : (o : Option Doing) → doing_of a.act c ≡ o → AllSo (heard_doing from a r intents c o).part (heard_doing from a r intents c o).outs
      by None none = tt
      by (Some d) found = by_now d found d.now refl

  give_up_so : (u : Uid) (intents : List (Uid × Intent)) → AllSo (give_up u intents c).part (give_up u intents c).outs
  give_up_so u intents = by (doing_of u c) refl
    where
      by_now : (d : Doing) → doing_of u c ≡ Some d → (n : Now) → d.now ≡ n →
          AllSo (gives_up u intents c n).part (gives_up u intents c n).outs
      by_now d found Idle at = tt
      by_now d found (Calling s) at =
          let t = step_call s (given_up s.at) (on_root (root_of s.path) (root_lost s (given_up s.at)) c) in
          so_both t.part (gaveup_lines u (next_node s ∷ []) c) t.outs
          (quiet_so t.part (gaveup_lines u (next_node s ∷ []) c) (quiet_gaveup u (next_node s ∷ []) c)) (step_call_so s (given_up s.at)
          (on_root (root_of s.path) (root_lost s (given_up s.at)) c) d (ap (λ z. doing_of z c) (calling u d s found at) ∙ found))
      by_now d found (Committing n) at =
          let t = moved_commit u (commit.given_up n) intents c in
          so_both t.part (gaveup_lines u (nodes_given_up n) c) t.outs (quiet_so t.part (gaveup_lines u (nodes_given_up n) c)
          (quiet_gaveup u (nodes_given_up n) c)) (moved_so u (commit.given_up n) intents c d found
          (asks_who u (plan_of n) (commit.given_up n).step (voting u d n found at) (giveup_step acts_begun paths tree n)))

      by : (o : Option Doing) → doing_of u c ≡ o → AllSo (give_up_doing u intents c o).part (give_up_doing u intents c o).outs
      by None none = tt
      by (Some d) found = by_now d found d.now refl

  commit_so : (b : Branch) (intents : List (Uid × Intent)) (d : Doing) → doing_of (actor b.path) c ≡ Some d →
      AllSo (commit_action b intents c).part (commit_action b intents c).outs
  commit_so b intents d found = by b.doomed
    where
      ends : (e : End) (f : _) → AllSo (ends_with (actor b.path) e f intents c).part (ends_with (actor b.path) e f intents c).outs
      ends e f = quiet_so (ends_with (actor b.path) e f intents c).part (ends_with (actor b.path) e f intents c).outs
          (quiet_ends (actor b.path) e f intents c)

      plan : Plan
      plan = plan_for b.path (last_req (doing_of (actor b.path) c)) (root_at (root_of b.path) c) c

      top : AllSo (commit_top b.path intents c).part (commit_top b.path intents c).outs
      top =
          let t = moved_commit (actor b.path) (commit.start plan) intents c in
          so_both t.part (says (actor b.path) body.Committing c) t.outs (quiet_so t.part (says (actor b.path) body.Committing c)
          (quiet_says (actor b.path) body.Committing c)) (moved_so (actor b.path) (commit.start plan) intents c d found (asks_who
          (actor b.path) plan (commit.start plan).step refl (vote_step acts_begun paths tree (servers_of plan) plan plan (refl, refl))))

      kinds : (k : Kind) → AllSo (commit_open b intents c k).part (commit_open b intents c k).outs
      kinds kind.Nested = ends ending.Commit body.Committed
      kinds kind.Serial = ends ending.Commit body.Ended
      kinds kind.Top = top
      kinds kind.Independent = top
      kinds kind.Constituent = top

      by : (w : Bool) → let z = cond {A = Did Coord} w (aborts_with (actor b.path) cause.Doomed intents c)
          (commit_open b intents c b.kind) in AllSo z.part z.outs
      by true = ends ending.Abort (λ l. body.Aborted l cause.Doomed)
      by false = kinds b.kind

  pub acts_so : (i : Input) (intents : List (Uid × Intent)) →
      ((l : Label) (k : Kind) (parent : Option Label) → i ≢ input.Begin l k parent) → AllSo (acts i intents c).part (acts i intents c).outs
  acts_so (input.Begin l k parent) intents other = absurd (other l k parent refl)
  acts_so (input.Call l x o) intents other = by (branch_named l c) refl
    where
      by : (f : Option Branch) → branch_named l c ≡ f → let z = on_branch (λ b. call b.path x o c) c f in AllSo z.part z.outs
      by None is = tt
      by (Some b) is =
          let d = work_there c works (actor b.path) b (named_found acts_begun paths tree intents c good l b is) in
          let old = keeping_of x (root_at (root_of b.path) c) in
          let k = renewed (is_free (root_of b.path) (actor b.path) x c) old old.kept in
          goes_so (call_steps b.path x o (next_req (actor b.path) c) (root_at (root_of b.path) c) c k)
          (on_root (root_of b.path) (with_keeping x k) (record c { tree = uses_object b.path x c.tree })) d.0 d.1
  acts_so (input.Include l x s) intents other = by (branch_named l c) refl
    where
      by : (f : Option Branch) → branch_named l c ≡ f → let z = on_branch (λ b. include b.path x s c) c f in AllSo z.part z.outs
      by None is = tt
      by (Some b) is =
          let d = work_there c works (actor b.path) b (named_found acts_begun paths tree intents c good l b is) in
          goes_so (start b.path x (calls.Include s) None unbound (next_req (actor b.path) c))
          (record c { tree = uses_object b.path x c.tree }) d.0 d.1
  acts_so (input.Commit l) intents other = by (branch_named l c) refl
    where
      by : (f : Option Branch) → branch_named l c ≡ f → let z = on_branch (λ b. commit_action b intents c) c f in AllSo z.part z.outs
      by None is = tt
      by (Some b) is = let d = work_there c works (actor b.path) b (named_found acts_begun paths tree intents c good l b is) in
          commit_so b intents d.0 d.1
  acts_so (input.Abort l) intents other = by (branch_named l c)
    where
      by : (f : Option Branch) → let z = on_branch (λ b. abort_action (actor b.path) intents c) c f in AllSo z.part z.outs
      by None = tt
      by (Some b) =
          let us = open_below (actor b.path) c.tree ++ actor b.path ∷ [] in
          let t = all_aborted us c in
          quiet_so t.part (t.outs ++ flat_map (tolds_of intents t.part) us) (quiet_both t.outs (flat_map (tolds_of intents t.part) us)
          (quiet_all us c) (quiet_flat (tolds_of intents t.part) us (quiet_tolds intents t.part)))
  acts_so (input.GiveUp l) intents other = by (branch_named l c)
    where
      by : (f : Option Branch) → let z = on_branch (λ b. give_up (actor b.path) intents c) c f in AllSo z.part z.outs
      by None = tt
      by (Some b) = give_up_so (actor b.path) intents
  acts_so (input.Frame k from m) intents other = tt
  acts_so input.Tick intents other = tt
  acts_so input.Restart intents other = tt
  acts_so input.Crash intents other = tt
  acts_so (input.Show x) intents other = tt

  -- ---- what is sent again

  pub again_work : (ds : List Doing) (e : Coord) (u : Uid) → doing_of u (again_all ds e).part ≡ doing_of u e
  again_work [] e u = refl
  again_work (d ∷ ds) e u = again_work ds (again_now e d.now).part u ∙ now d.now
    where
      now : (n : Now) → doing_of u (again_now e n).part ≡ doing_of u e
      now Idle = refl
      now (Calling s) = refl
      now (Committing m) = asks_work (plan_of m).path (plan_of m).req (commit.waiting m) e u

  asked_tree : (p : Path) (req : ℕ) (as_asked : List (ℕ × Ask)) (e : Coord) → (asks_all p req as_asked e).part.tree ≡ e.tree
  asked_tree p req [] e = refl
  asked_tree p req (a ∷ rest) e = asked_tree p req rest (asks_node p req a e).part

  again_tree : (e : Coord) (n : Now) → (again_now e n).part.tree ≡ e.tree
  again_tree e Idle = refl
  again_tree e (Calling s) = refl
  again_tree e (Committing m) = asked_tree (plan_of m).path (plan_of m).req (commit.waiting m) e

  pub again_all_tree : (ds : List Doing) (e : Coord) → (again_all ds e).part.tree ≡ e.tree
  again_all_tree [] e = refl
  again_all_tree (d ∷ ds) e = again_all_tree ds (again_now e d.now).part ∙ again_tree e d.now

  again_from : (ds : List Doing) (e last : Coord) → e.tree ≡ last.tree → ((u : Uid) → doing_of u last ≡ doing_of u c) →
      ((d : Doing) → list.In d ds → (u : Uid) × (doing_of u c ≡ Some d)) → AllSo last (again_all ds e).outs
  again_from [] e last tree_is same there = tt
  again_from (d ∷ ds) e last tree_is same there = so_both last (again_now e d.now).outs (again_all ds (again_now e d.now).part).outs
      (now d.now refl) (again_from ds (again_now e d.now).part last (again_tree e d.now ∙ tree_is) same (λ q i. there q (inr i)))
    where
      u : Uid
      u = (there d (inl refl)).0

      found : doing_of (there d (inl refl)).0 c ≡ Some d
      found = (there d (inl refl)).1

      now : (n : Now) → d.now ≡ n → AllSo last (again_now e n).outs
      now Idle is = tt
      now (Calling s) is = (
        step_so last s (ends_of (root_of s.path) e.tree) (ap (ends_of (root_of s.path)) tree_is) d (same (actor s.path)
            ∙ ap (λ z. doing_of z c) (calling u d s found is) ∙ found) (sym (subst (IsNumbered d.req) is (numbered u d found))) is,
        tt,
      )
      now (Committing m) is = machine_so last m (commit.left_of m) d (same (actor (plan_of m).path)
          ∙ ap (λ z. doing_of z c) (voting u d m found is) ∙ found) (sym (subst (IsNumbered d.req) is (numbered u d found)).0) is e

  pub again_so : AllSo (again_all c.doings c).part (again_all c.doings c).outs
  again_so = again_from c.doings c (again_all c.doings c).part (sym (again_all_tree c.doings c)) (again_work c.doings c)
      (λ d i. by d (placed d c.doings i))
    where
      same : (n : ℕ) → (n == n) ≡ true
      same n = grind arith

      by : (d : Doing) → (k : ℕ) × (at_place k c.doings ≡ Some d) → (u : Uid) × (doing_of u c ≡ Some d)
      by d p = (
        record { node = c.tree.node; inc = c.tree.inc; num = p.0 },
        (λ i. cond (same c.tree.node i && same c.tree.inc i) (at_place p.0 c.doings) None) ∙ p.1,
      )
