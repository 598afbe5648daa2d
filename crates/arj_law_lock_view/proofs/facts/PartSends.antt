-- The Votes and Confirms that a coordinator sends are what its commits under way ask.
use Rattle.arj_law_parts.proofs.Words
use Words.{arith, ◌≡◌, ◌≢◌, ◌∙◌, ◌+◌, ◌==◌, ◌&&◌, ℕ, List, [], ◌∷◌, ◌++◌, Bool, true, false, cond, Option, Some, None, refl, sym, ap, subst}
use Words.{inl, inr, length, map, ⊤, AllByRecursion, flat_map, Ask, Asked, End, Head, Kind, Label, Uid, asks, request, Reply, actor}
use Words.{again_all, again_now, asks_all, asks_node, call, call_steps, commit_action, commit_open, commit_top, commits_in, gaveup_lines}
use Words.{give_up, give_up_doing, gives_up, goes_on, heard, heard_by, heard_call, heard_doing, heard_none, heard_now, include, kept_at}
use Words.{last_req, mark_lines, moved_commit, next_req, renewed, root_lost, root_moved, step_call, step_commit, waits_for_call}
use Words.{waits_for_commit, end_line, At, AtBind, AtLoad, AtActivate, AtNote, AtInvoke, CallStep, Ended, Goal, Moved, On, Steps, answered}
use Words.{ask_at, given_up, next_ask, next_node, start, Aborts, Asks, CommitStep, Decides, Machine, Marked, Plan, Stays, ask_of, left_of}
use Words.{nodes_given_up, plan_of, servers_of, waiting, Calling, Committing, Coord, Doing, Idle, Now, doing_of, is_free, keeping_of}
use Words.{on_root, plan_for, root_at, with_keeping, Did, Do, Effect, Intent, Say, Send, Served, abort_action, aborts_with, acked}
use Words.{all_aborted, answer_query, decide, ends_with, says, tolds_of, has, unbound, Input, acts, branch_named, on_branch, Branch}
use Words.{at_place, ends_of, open_below, root_of, uses_object, request_reads_back}
use Words.list
use Words.body
use Words.cause
use Words.ending
use Words.kind
use Words.calls
use Words.commit
use Words.input
use Rattle.arj_law_lock_view.proofs.Terms
use Terms.{Action, IsBusy, IsGoodCoord, IsVoting, IsTree, Paths, AreNumbered, named_found, IsStepOf, actor_is, answer_step, giveup_step}
use Terms.{vote_step, placed, work_there, doing_here, again_work, AllQuiet, IsAskedNow, asks_part}
use Rattle.arj_law_lock_view.proofs.facts.PartSteps.{has_in}
use Rattle.arj_law_runs.proofs.calls.CoordOuts.{quiet_acked, quiet_all, quiet_query}
use Rattle.arj_law_runs.proofs.calls.CoordSends.{asks_work, quiet_both, quiet_decide, quiet_ends, quiet_flat, quiet_gaveup, quiet_marks}
use Rattle.arj_law_runs.proofs.calls.CoordSends.{quiet_says, quiet_tolds}

abbrev pub SeeksSo : Coord → Effect → Type 0
SeeksSo e (Send to m) = (h : Head) (a : Ask) → asks m ≡ Some (h, a) → asks_part a ≡ true → IsAskedNow e to h a
SeeksSo e (Say b) = ⊤
SeeksSo e (Do w) = ⊤

abbrev pub AllSeek : Coord → List Effect → Type 0
AllSeek e outs = AllByRecursion (SeeksSo e) outs

quiet_one : (e : Coord) (f : Effect) → (AllQuiet (f ∷ [])) → SeeksSo e f
quiet_one e (Send to m) q = λ h a is part. absurd (cc (sym q.0 ∙ is))
quiet_one e (Say b) q = tt
quiet_one e (Do w) q = tt

pub seek_quiet : (e : Coord) (outs : List Effect) → AllQuiet outs → AllSeek e outs
seek_quiet e [] q = tt
seek_quiet e (f ∷ fs) q = (quiet_one e f (q.0, tt), seek_quiet e fs q.1)

pub seek_both : (e : Coord) (xs ys : List Effect) → AllSeek e xs → AllSeek e ys → AllSeek e (xs ++ ys)
seek_both e [] ys a b = b
seek_both e (x ∷ xs) ys a b = (a.0, seek_both e xs ys a.1 b)

-- ---- the request of a step asks for no vote

step_asks : (x : ℕ) (g : Goal) (ends : List (Uid × End)) (at : At) → asks_part (ask_at x g ends at) ≡ false
step_asks x g ends (AtBind avoid) = refl
step_asks x g ends (AtLoad k s rest) = refl
step_asks x g ends (AtActivate k st) = refl
step_asks x g ends (AtNote k i) = refl
step_asks x g ends (AtInvoke k i) = refl

pair_is : {h j : Head} {a b : Ask} → ◌≡◌ {A = Option (Head × Ask)} (Some (h, a)) (Some (j, b)) → (h ≡ j) × (a ≡ b)
pair_is {h} {j} {a} {b} is = let one : ◌≡◌ {A = Head × Ask} (h, a) (j, b) = cc is in
    (ap (λ (p : Head × Ask). p.0) one, ap (λ (p : Head × Ask). p.1) one)

step_seeks : (e : Coord) (s : Steps) (to : ℕ) (h : Head) (ends : List (Uid × End)) → SeeksSo e (Send to (request h (next_ask ends s)))
step_seeks e s to h ends j a is part = let same = pair_is (sym (request_reads_back h (next_ask ends s)) ∙ is) in
    let no_way : true ≡ false = sym part ∙ ap asks_part (sym same.1) ∙ step_asks s.x s.goal ends s.at in absurd (cc no_way)

-- ---- the requests of a commit

machine_seeks : (e : Coord) (m : Machine) (ns : List ℕ) (d : Doing) → doing_of (actor (plan_of m).path) e ≡ Some d → d.now ≡ Committing m →
    ((n : ℕ) → list.In n ns → has (left_of m) n ≡ true) → (c : Coord) →
    AllSeek e (asks_all (plan_of m).path (plan_of m).req (map {A = ℕ} {B = ℕ × Ask} (λ n. (n, ask_of m n)) ns) c).outs
machine_seeks e m [] d found now its c = tt
machine_seeks e m (n ∷ ns) d found now its c =
    (one, machine_seeks e m ns d found now (λ k i. its k (inr i)) (asks_node (plan_of m).path (plan_of m).req (n, ask_of m n) c).part)
  where
    one : (h : Head) (a : Ask) → asks (request (record { path = (plan_of m).path; req = (plan_of m).req }) (ask_of m n)) ≡ Some (h, a) →
        asks_part a ≡ true → IsAskedNow e n h a
    one h a is part =
        let same = pair_is (sym (request_reads_back (record { path = (plan_of m).path; req = (plan_of m).req }) (ask_of m n)) ∙ is) in
        record {
          doing = d;
          machine = m;
          works = ap (λ (z : Head). doing_of (actor z.path) e) (sym same.0) ∙ found;
          now = now;
          path = ap (λ (z : Head). z.path) (sym same.0);
          same = sym same.1;
          left = its n (inl refl);
        }

-- ---- each handler

goes_seeks : (s : Steps) (t : Coord) → AllSeek (goes_on s t).part (goes_on s t).outs
goes_seeks s t = (step_seeks (goes_on s t).part s (next_node s) (record { path = s.path; req = s.req }) _, tt)

step_call_seeks : (s : Steps) (n : CallStep) (t : Coord) → AllSeek (step_call s n t).part (step_call s n t).outs
step_call_seeks s (On at) t = goes_seeks (record s { req = s.req + 1; at = at }) t
step_call_seeks s (Ended g) t = seek_quiet (step_call s (Ended g) t).part (says (actor s.path) (end_line s.x s.goal g) t)
    (quiet_says (actor s.path) (end_line s.x s.goal g) t)

step_commit_seeks : (u : Uid) (step : CommitStep) (intents : List (Uid × Intent)) (c : Coord) (d : Doing) → doing_of u c ≡ Some d → ((m :
    Machine) → step ≡ Asks m → actor (plan_of m).path ≡ u) → AllSeek (step_commit u step intents c).part (step_commit u step intents c).outs
step_commit_seeks u (Stays m) intents c d found who = tt
step_commit_seeks u (Asks m) intents c d found who =
    let e = (step_commit u (Asks m) intents c).part in
    let here = asks_work (plan_of m).path (plan_of m).req (waiting m) (commits_in u m c) u
    ∙ doing_here u (λ (q : Doing). record q { req = (plan_of m).req; now = Committing m }) c d found in
    machine_seeks e m (left_of m) (record d { req = (plan_of m).req; now = Committing m }) (ap (λ z. doing_of z e) (who m refl) ∙ here) refl
    (has_in (left_of m)) (commits_in u m c)
step_commit_seeks u (Decides q) intents c d found who = seek_quiet (decide q c).part (decide q c).outs (quiet_decide q c)
step_commit_seeks u (Aborts why q) intents c d found who = seek_quiet (aborts_with u why intents c).part (aborts_with u why intents c).outs
    (quiet_ends u ending.Abort (λ l. body.Aborted l why) intents c)

moved_seeks : (u : Uid) (m : Marked) (intents : List (Uid × Intent)) (c : Coord) (d : Doing) → doing_of u c ≡ Some d → ((n : Machine) →
    m.step ≡ Asks n → actor (plan_of n).path ≡ u) → AllSeek (moved_commit u m intents c).part (moved_commit u m intents c).outs
moved_seeks u m intents c d found who =
    seek_both (moved_commit u m intents c).part (mark_lines u m.marks c) (step_commit u m.step intents c).outs (seek_quiet
    (moved_commit u m intents c).part (mark_lines u m.marks c) (quiet_marks u m.marks c)) (step_commit_seeks u m.step intents c d found who)

asks_path : (actions : List Action) (paths : Paths) (tree : IsTree paths) (p : Plan) (s : CommitStep) → IsStepOf actions paths tree p s →
    (m : Machine) → s ≡ Asks m → (plan_of m).path ≡ p.path
asks_path actions paths tree p (Asks z) same m is = let e : z ≡ m = asks_is is in ap (λ (y : Machine). (plan_of y).path) (sym e) ∙ same.0
  where
    asks_is : {a b : Machine} → Asks a ≡ Asks b → a ≡ b
    asks_is is = cc is
asks_path actions paths tree p (Stays z) same m is = absurd (cc is)
asks_path actions paths tree p (Decides q) same m is = absurd (cc is)
asks_path actions paths tree p (Aborts why z) same m is = absurd (cc is)

pub query_seeks : (e : Coord) (from : ℕ) (u : Uid) (intents : List (Uid × Intent)) (c : Coord) → AllSeek e (answer_query from u intents c)
query_seeks e from u intents c = seek_quiet e (answer_query from u intents c) (quiet_query from u intents c)

pub acked_seeks : (from : ℕ) (u : Uid) (intents : List (Uid × Intent)) (c : Coord) →
    AllSeek (acked from u intents c).part (acked from u intents c).outs
acked_seeks from u intents c = seek_quiet (acked from u intents c).part (acked from u intents c).outs (quiet_acked from u intents c)

module _ (actions : List Action) (paths : Paths) (tree : IsTree paths) (c : Coord) (good : IsGoodCoord actions paths c)
    (works : length c.doings ≡ length c.tree.branches) where
  asks_who : (u : Uid) (p : Plan) (step : CommitStep) → actor p.path ≡ u → IsStepOf actions paths tree p step → (m : Machine) →
      step ≡ Asks m → actor (plan_of m).path ≡ u
  asks_who u p step who same m is = ap actor (asks_path actions paths tree p step same m is) ∙ who

  voting : (u : Uid) (d : Doing) (m : Machine) → doing_of u c ≡ Some d → d.now ≡ Committing m → actor (plan_of m).path ≡ u
  voting u d m found now = let v : IsVoting c.tree u (plan_of m) = subst (IsBusy c.tree u) now (good.busy u d found) in
      actor_is actions paths tree u (plan_of m).path c good v.asking

  pub heard_seeks : (from : ℕ) (a : Asked) (r : Reply) (intents : List (Uid × Intent)) →
      AllSeek (heard from a r intents c).part (heard from a r intents c).outs
  heard_seeks from a r intents = by (doing_of a.act c) refl
    where
      by_now : (d : Doing) → doing_of a.act c ≡ Some d → (n : Now) → d.now ≡ n →
          AllSeek (heard_now from a r intents c n).part (heard_now from a r intents c n).outs
      by_now d found Idle at = tt
      by_now d found (Calling s) at = one (waits_for_call from a r s)
        where
          m : Moved
          m = answered (is_free (root_of s.path) (actor s.path) s.x c) (kept_at s c) s.goal s.at r

          one : (w : Bool) → let z = cond {A = Served Coord (Unit {0})} w (heard_by (heard_call s r c)) (heard_none c) in
              AllSeek z.part z.outs
          one true = step_call_seeks s m.step (on_root (root_of s.path) (root_moved s r m) c)
          one false = tt
      by_now d found (Committing n) at = one (waits_for_commit from a r n)
        where
          one : (w : Bool) → let z = cond {A = Served Coord (Unit {0})} w
              (heard_by (moved_commit a.act (commit.answered from n r) intents c)) (heard_none c) in AllSeek z.part z.outs
          one true = moved_seeks a.act (commit.answered from n r) intents c d found (asks_who a.act (plan_of n)
              (commit.answered from n r).step (voting a.act d n found at) (answer_step actions paths tree from n r))
          one false = tt

      by : (o : Option Doing) → doing_of a.act c ≡ o →
          AllSeek (heard_doing from a r intents c o).part (heard_doing from a r intents c o).outs
      by None none = tt
      by (Some d) found = by_now d found d.now refl

  give_up_seeks : (u : Uid) (intents : List (Uid × Intent)) → AllSeek (give_up u intents c).part (give_up u intents c).outs
  give_up_seeks u intents = by (doing_of u c) refl
    where
      by_now : (d : Doing) → doing_of u c ≡ Some d → (n : Now) → d.now ≡ n →
          AllSeek (gives_up u intents c n).part (gives_up u intents c n).outs
      by_now d found Idle at = tt
      by_now d found (Calling s) at =
          let t = step_call s (given_up s.at) (on_root (root_of s.path) (root_lost s (given_up s.at)) c) in
          seek_both t.part (gaveup_lines u (next_node s ∷ []) c) t.outs
          (seek_quiet t.part (gaveup_lines u (next_node s ∷ []) c) (quiet_gaveup u (next_node s ∷ []) c))
          (step_call_seeks s (given_up s.at) (on_root (root_of s.path) (root_lost s (given_up s.at)) c))
      by_now d found (Committing n) at =
          let t = moved_commit u (commit.given_up n) intents c in
          seek_both t.part (gaveup_lines u (nodes_given_up n) c) t.outs (seek_quiet t.part (gaveup_lines u (nodes_given_up n) c)
          (quiet_gaveup u (nodes_given_up n) c)) (moved_seeks u (commit.given_up n) intents c d found
          (asks_who u (plan_of n) (commit.given_up n).step (voting u d n found at) (giveup_step actions paths tree n)))

      by : (o : Option Doing) → doing_of u c ≡ o → AllSeek (give_up_doing u intents c o).part (give_up_doing u intents c o).outs
      by None none = tt
      by (Some d) found = by_now d found d.now refl

  commit_seeks : (b : Branch) (intents : List (Uid × Intent)) (d : Doing) → doing_of (actor b.path) c ≡ Some d →
      AllSeek (commit_action b intents c).part (commit_action b intents c).outs
  commit_seeks b intents d found = by b.doomed
    where
      ends : (e : End) (f : _) → AllSeek (ends_with (actor b.path) e f intents c).part (ends_with (actor b.path) e f intents c).outs
      ends e f = seek_quiet (ends_with (actor b.path) e f intents c).part (ends_with (actor b.path) e f intents c).outs
          (quiet_ends (actor b.path) e f intents c)

      plan : Plan
      plan = plan_for b.path (last_req (doing_of (actor b.path) c)) (root_at (root_of b.path) c) c

      top : AllSeek (commit_top b.path intents c).part (commit_top b.path intents c).outs
      top =
          let t = moved_commit (actor b.path) (commit.start plan) intents c in
          seek_both t.part (says (actor b.path) body.Committing c) t.outs (seek_quiet t.part (says (actor b.path) body.Committing c)
          (quiet_says (actor b.path) body.Committing c)) (moved_seeks (actor b.path) (commit.start plan) intents c d found (asks_who
          (actor b.path) plan (commit.start plan).step refl (vote_step actions paths tree (servers_of plan) plan plan (refl, refl))))

      kinds : (k : Kind) → AllSeek (commit_open b intents c k).part (commit_open b intents c k).outs
      kinds kind.Nested = ends ending.Commit body.Committed
      kinds kind.Serial = ends ending.Commit body.Ended
      kinds kind.Top = top
      kinds kind.Independent = top
      kinds kind.Constituent = top

      by : (w : Bool) → let z = cond {A = Did Coord} w (aborts_with (actor b.path) cause.Doomed intents c)
          (commit_open b intents c b.kind) in AllSeek z.part z.outs
      by true = ends ending.Abort (λ l. body.Aborted l cause.Doomed)
      by false = kinds b.kind

  pub acts_seeks : (i : Input) (intents : List (Uid × Intent)) → ((l : Label) (k : Kind) (parent : Option Label) →
      i ≢ input.Begin l k parent) → AllSeek (acts i intents c).part (acts i intents c).outs
  acts_seeks (input.Begin l k parent) intents other = absurd (other l k parent refl)
  acts_seeks (input.Call l x o) intents other = by (branch_named l c)
    where
      by : (f : Option Branch) → let z = on_branch (λ b. call b.path x o c) c f in AllSeek z.part z.outs
      by None = tt
      by (Some b) =
          let old = keeping_of x (root_at (root_of b.path) c) in
          let k = renewed (is_free (root_of b.path) (actor b.path) x c) old old.kept in
          goes_seeks (call_steps b.path x o (next_req (actor b.path) c) (root_at (root_of b.path) c) c k)
          (on_root (root_of b.path) (with_keeping x k) (record c { tree = uses_object b.path x c.tree }))
  acts_seeks (input.Include l x s) intents other = by (branch_named l c)
    where
      by : (f : Option Branch) → let z = on_branch (λ b. include b.path x s c) c f in AllSeek z.part z.outs
      by None = tt
      by (Some b) = goes_seeks (start b.path x (calls.Include s) None unbound (next_req (actor b.path) c))
          (record c { tree = uses_object b.path x c.tree })
  acts_seeks (input.Commit l) intents other = by (branch_named l c) refl
    where
      by : (f : Option Branch) → branch_named l c ≡ f → let z = on_branch (λ b. commit_action b intents c) c f in AllSeek z.part z.outs
      by None is = tt
      by (Some b) is = let d = work_there c works (actor b.path) b (named_found actions paths tree intents c good l b is) in
          commit_seeks b intents d.0 d.1
  acts_seeks (input.Abort l) intents other = by (branch_named l c)
    where
      by : (f : Option Branch) → let z = on_branch (λ b. abort_action (actor b.path) intents c) c f in AllSeek z.part z.outs
      by None = tt
      by (Some b) =
          let us = open_below (actor b.path) c.tree ++ actor b.path ∷ [] in
          let t = all_aborted us c in
          seek_quiet t.part (t.outs ++ flat_map (tolds_of intents t.part) us) (quiet_both t.outs (flat_map (tolds_of intents t.part) us)
          (quiet_all us c) (quiet_flat (tolds_of intents t.part) us (quiet_tolds intents t.part)))
  acts_seeks (input.GiveUp l) intents other = by (branch_named l c)
    where
      by : (f : Option Branch) → let z = on_branch (λ b. give_up (actor b.path) intents c) c f in AllSeek z.part z.outs
      by None = tt
      by (Some b) = give_up_seeks (actor b.path) intents
  acts_seeks (input.Frame k from m) intents other = tt
  acts_seeks input.Tick intents other = tt
  acts_seeks input.Restart intents other = tt
  acts_seeks input.Crash intents other = tt
  acts_seeks (input.Show x) intents other = tt

  again_from : (ds : List Doing) (e last : Coord) → ((u : Uid) → doing_of u last ≡ doing_of u c) →
      ((d : Doing) → list.In d ds → (u : Uid) × (doing_of u c ≡ Some d)) → AllSeek last (again_all ds e).outs
  again_from [] e last same there = tt
  again_from (d ∷ ds) e last same there = seek_both last (again_now e d.now).outs (again_all ds (again_now e d.now).part).outs
      (now d.now refl) (again_from ds (again_now e d.now).part last same (λ q i. there q (inr i)))
    where
      u : Uid
      u = (there d (inl refl)).0

      found : doing_of (there d (inl refl)).0 c ≡ Some d
      found = (there d (inl refl)).1

      now : (n : Now) → d.now ≡ n → AllSeek last (again_now e n).outs
      now Idle is = tt
      now (Calling s) is = (step_seeks last s (next_node s) (record { path = s.path; req = s.req }) (ends_of (root_of s.path) e.tree), tt)
      now (Committing m) is = machine_seeks last m (left_of m) d
          (same (actor (plan_of m).path) ∙ ap (λ z. doing_of z c) (voting u d m found is) ∙ found) is (has_in (left_of m)) e

  pub again_seeks : AreNumbered c → AllSeek (again_all c.doings c).part (again_all c.doings c).outs
  again_seeks numbered = again_from c.doings c (again_all c.doings c).part (again_work actions paths tree c good numbered works c.doings c)
      (λ d i. by d (placed d c.doings i))
    where
      same : (n : ℕ) → (n == n) ≡ true
      same n = grind arith

      by : (d : Doing) → (k : ℕ) × (at_place k c.doings ≡ Some d) → (u : Uid) × (doing_of u c ≡ Some d)
      by d p = (
        record { node = c.tree.node; inc = c.tree.inc; num = p.0 },
        (λ i. cond (same c.tree.node i && same c.tree.inc i) (at_place p.0 c.doings) None) ∙ p.1,
      )
