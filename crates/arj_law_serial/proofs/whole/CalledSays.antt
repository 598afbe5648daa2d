-- Which lines a coordinator says: those that answer calls are of those that waited, and a commit is called first of all.
use Rattle.arj_law_parts.proofs.Words
use Words.{◌≡◌, ◌≢◌, ◌&&◌, ◌||◌, ◌++◌, ℕ, Bool, true, false, cond, not, List, [], ◌∷◌, Option, Some, None, refl, map, subst, ap, filter}
use Words.{sym, ◌∙◌, ⊤, option_map, AllByRecursion, flat_map, list_all, Ask, Asked, asks, Body, End, Kind, Label, Path, Uid, uid_eq, Header}
use Words.{Message, Head, ObjectState, object, Reply, actor, answers, asked_by, last_end, response, again_all, again_now, asks_all}
use Words.{asks_node, call, commit_action, commit_open, commit_top, commits_in, end_line, gaveup_lines, give_up, give_up_call}
use Words.{give_up_doing, gives_up, heard, heard_by, heard_call, heard_doing, heard_none, heard_now, include, last_req, mark_lines}
use Words.{moved_commit, step_call, step_commit, waits_for_call, waits_for_commit, kept_at, CallEnd, CallStep, Ended, Goal, Include, On}
use Words.{Run, Steps, given_up, next_node, At, Known, answered, AtActivate, AtBind, AtInvoke, AtLoad, AtNote, Aborts, Asks, CommitStep}
use Words.{Decides, Machine, Marked, Plan, Stays, has_record, nodes_given_up, participants, plan_of, Calling, Committing, Coord, Doing}
use Words.{Idle, Now, doing_of, plan_for, root_at, is_free, Did, Do, Effect, Intent, PutIntent, Served, Disk, Look, PutInc, Say, Send}
use Words.{Already, InDoubt, Old, Pair, Prep, Ready, held_at, holder_of, is_prepared, prepare_answer, abort_action, acked, acked_by}
use Words.{acked_left, all_aborted, answer_decided, answer_query, answer_recorded, decide, decided_told, ended, ends_with, is_deferred}
use Words.{is_kept_commit, let_go, record_work, root_or_self, say_for, says, tell, tell_all, tolds_by, tolds_let_go, tolds_of}
use Words.{tolds_of_branch, at_uid, has, without_number, without_uid, uid_set, Input, acts, branch_named, on_branch, tolds_again, Node}
use Words.{hello_to, naming_at, naming_back, numbers_to, recovered_records, restart_outs, Branch, branch_of, is_open, open_below, root_of}
use Words.{Parts, Took, handle, holders, prepared_actions, query_about, serve, served, Handled, Void, ack_told, by_reply, end_states}
use Words.{handle_answer, handle_ask, handle_ends, handle_other, handle_told, if_naming, is_earlier, load_by, load_held, naming_told}
use Words.{prepare_by, prepare_states, sends_answer, store_told, with_coord, with_naming, with_server, tick_outs, Named, back_lines}
use Words.{confirm, Naming, and_parts, AreAll, is_naming_effect, is_naming_line, is_server_effect, is_server_line, activate_own, bind_own}
use Words.{confirm_own, ends_own, invoke_own, note_own, told_own, vote_own}
use Words.body
use Words.bound
use Words.cause
use Words.ending
use Words.kind
use Words.ask
use Words.message
use Words.prepared
use Words.role
use Words.naming
use Words.server
use Words.calls
use Words.commit
use Words.input
use Rattle.arj_law_serial.proofs.Terms.{is_over, all_flat, all_map, AnswersAt, AnswersWaiting, all_append, SayOf, SaysOf, WaitFor}
use Rattle.arj_law_runs.proofs.addresses.Calls.{answered_of, given_up_of}
use Rattle.arj_law_runs.specs.addresses.Addresses.{AreOf, AtOf, EndOf, GoalOf, KeptOf, KnownFor, ReplyOf, StepOf}

-- ---- which calls end as includes

-- any node
abbrev Any : ℕ → Type 0
Any n = ⊤

any_of : (ns : List ℕ) → AreOf Any ns
any_of [] = tt
any_of (n ∷ ns) = (tt, any_of ns)

step_any : (g : Goal) (at : At) → AtOf Any g at
step_any g (AtBind avoid) = tt
step_any g (AtLoad k s rest) = (knows g, tt, any_of rest)
  where
    knows : (g : Goal) → KnownFor Any g k
    knows (Run o) = (tt, any_of k.stores)
    knows (Include n) = any_of k.stores
step_any g (AtActivate k st) = (tt, any_of k.stores)
step_any g (AtNote k i) = (tt, any_of k.stores)
step_any g (AtInvoke k i) = (tt, any_of k.stores)

-- an answer to a step leads on, or ends the call as one of its goal
answer_any : (free : Bool) (kept : Option Known) (g : Goal) (at : At) (r : Reply) → AnswersAt g at r →
    StepOf Any g (answered free kept g at r).step
answer_any free kept g at r fits = (answered_of Any tt free kept g at r (goal g) fits (keeps kept) (step_any g at) (reply r)).0
  where
    goal : (g : Goal) → GoalOf Any g
    goal (Run o) = tt
    goal (Include s) = tt

    keeps : (o : Option Known) → KeptOf Any o
    keeps None = tt
    keeps (Some k) = (tt, any_of k.stores)

    reply : (r : Reply) → ReplyOf Any r
    reply (Reply.Bound (bound.Live b server i g stores)) = (tt, any_of stores)
    reply (Reply.Bound (bound.Make b server g stores)) = (tt, any_of stores)
    reply (Reply.Bound (bound.Write g stores)) = any_of stores
    reply (Reply.Bound (bound.Conflict holder m)) = tt
    reply _ = tt

-- ---- lines

-- the line calls a commit
abbrev pub calls_commit : Body → Bool
calls_commit (body.Committing l) = true
calls_commit _ = false

-- or it answers a call or an include, or says what a commit excludes
abbrev pub is_apart : Body → Bool
is_apart (body.Ok l x o a) = true
is_apart (body.Includes l x n) = true
is_apart (body.Excluded l x n) = true
is_apart b = calls_commit b

-- lines of servers and of naming are none of these
server_apart : (n : ℕ) (b : Body) → is_server_line n b ≡ true → is_apart b ≡ false
server_apart n (body.Granted m u o how) is = refl
server_apart n (body.Active m x c) is = refl
server_apart n (body.Told m u e p) is = refl
server_apart n b is = absurd (cc is)

naming_apart : (b : Body) → is_naming_line b ≡ true → is_apart b ≡ false
naming_apart (body.Granted m u o how) is = refl
naming_apart (body.Lowered m u o) is = refl
naming_apart (body.Bound x c n) is = refl
naming_apart (body.Told m u e p) is = refl
naming_apart (body.Prepared m u r) is = refl
naming_apart (body.Done m u r e) is = refl
naming_apart b is = absurd (cc is)

-- an action does one thing at a time
same_now : (u : Uid) (c : Coord) (e d : Doing) (m : Machine) → doing_of u c ≡ Some e → doing_of u c ≡ Some d → d.now ≡ Committing m →
    e.now ≡ Committing m
same_now u c e d m one two is = let q : ◌≡◌ {A = Option Doing} (Some e) (Some d) = sym one ∙ two in let same : e ≡ d = cc q in
    ap (λ (z : Doing). z.now) same ∙ is

module _ (S : Body → Type 0) (fine : (b : Body) → is_apart b ≡ false → S b) where
  abbrev Fine : List Effect → Type 0
  Fine outs = AllByRecursion (SayOf S) outs

  -- so it is of each line with which the call's step ends it
  abbrev EndsSo : Steps → CallStep → Type 0
  EndsSo s n = (e : CallEnd) → n ≡ Ended e → (l : Label) → S (end_line s.x s.goal e l)

  pub both : (es fs : List Effect) → Fine es → Fine fs → Fine (es ++ fs)
  both es fs a b = all_append (SayOf S) es fs a b

  says_fine : (u : Uid) (f : Label → Body) (c : Coord) → ((l : Label) → S (f l)) → Fine (says u f c)
  says_fine u f c its = by (doing_of u c)
    where
      by : (o : Option Doing) → Fine (say_for f o)
      by None = tt
      by (Some d) = (its d.label, tt)

  tells_fine : (root : Uid) (ack : Bool) (ends : List (Uid × End)) (ns : List ℕ) → Fine (tell_all root ack ends ns)
  tells_fine root ack ends ns = all_map (SayOf S) (tell root ack ends) ns (λ n. tt)

  tolds_fine : (intents : List (Uid × Intent)) (c : Coord) (u : Uid) → Fine (tolds_of intents c u)
  tolds_fine intents c u = by (branch_of u c.tree)
    where
      kinds : (k : Kind) (p : Path) → Fine (tolds_by u k p intents c)
      kinds kind.Nested p = tells_fine _ false _ _
      kinds kind.Serial p = tells_fine _ false _ _
      kinds kind.Top p = tells_fine _ false _ _
      kinds kind.Independent p = tells_fine _ false _ _
      kinds kind.Constituent p = tells_fine _ false _ _

      by : (o : Option Branch) → Fine (tolds_of_branch u intents c o)
      by None = tt
      by (Some b) = kinds b.kind b.path

  pub ends_fine : (u : Uid) (e : End) (f : Label → Body) (intents : List (Uid × Intent)) (c : Coord) → ((l : Label) → S (f l)) →
      Fine (ends_with u e f intents c).outs
  ends_fine u e f intents c its =
      both (says u f c) (tolds_of intents (ended u e c) u) (says_fine u f c its) (tolds_fine intents (ended u e c) u)

  all_fine : (us : List Uid) (c : Coord) → Fine (all_aborted us c).outs
  all_fine [] c = tt
  all_fine (u ∷ us) c = both (says u (λ l. body.Aborted l cause.Asked) c) (all_aborted us (ended u ending.Abort c)).outs
      (says_fine u (λ l. body.Aborted l cause.Asked) c (λ l. fine (body.Aborted l cause.Asked) refl)) (all_fine us (ended u ending.Abort c))

  pub abort_fine : (u : Uid) (intents : List (Uid × Intent)) (c : Coord) → Fine (abort_action u intents c).outs
  abort_fine u intents c =
      let us = open_below u c.tree ++ u ∷ [] in
      let t = all_aborted us c in
      both t.outs (flat_map (tolds_of intents t.part) us) (all_fine us c)
      (all_flat (SayOf S) (tolds_of intents t.part) us (λ w. tolds_fine intents t.part w))

  asks_fine : (p : Path) (req : ℕ) (asked : List (ℕ × Ask)) (c : Coord) → Fine (asks_all p req asked c).outs
  asks_fine p req [] c = tt
  asks_fine p req (a ∷ rest) c = (tt, asks_fine p req rest (asks_node p req a c).part)

  decide_fine : (p : Plan) (c : Coord) → Fine (decide p c).outs
  decide_fine p c = both (record_work (actor p.path) p ++ says (actor p.path) body.Committed c) (map
      (decided_told (root_of p.path) (actor p.path) p) p.sent) (both (record_work (actor p.path) p) (says (actor p.path) body.Committed c)
      (work (has_record p)) (says_fine (actor p.path) body.Committed c (λ l. fine (body.Committed l) refl)))
      (all_map (SayOf S) (decided_told (root_of p.path) (actor p.path) p) p.sent (λ n. told n (has (participants p) n)))
    where
      work : (b : Bool) → Fine (cond b (Do (PutIntent (actor p.path) (record { root = root_of p.path; nodes = participants p })) ∷ []) [])
      work true = (tt, tt)
      work false = tt

      told : (n : ℕ) (b : Bool) → SayOf S (cond b (tell (root_of p.path) (has_record p) ((actor p.path, ending.Commit) ∷ []) n)
          (tell (root_of p.path) false ((actor p.path, ending.Abort) ∷ []) n))
      told n true = tt
      told n false = tt

  pub step_fine : (u : Uid) (s : CommitStep) (intents : List (Uid × Intent)) (c : Coord) → Fine (step_commit u s intents c).outs
  step_fine u (Stays m) intents c = tt
  step_fine u (Asks m) intents c = asks_fine (plan_of m).path (plan_of m).req (commit.waiting m) (commits_in u m c)
  step_fine u (Decides p) intents c = decide_fine p c
  step_fine u (Aborts why p) intents c = ends_fine u ending.Abort (λ l. body.Aborted l why) intents c (λ l. fine (body.Aborted l why) refl)

  -- so it is of each of these marks, said of this action
  abbrev MarksSo : Doing → List (ℕ × ℕ) → Type 0
  MarksSo d marks = AllByRecursion (λ (z : ℕ × ℕ). S (body.Excluded d.label z.0 z.1)) marks

  marks_fine : (u : Uid) (marks : List (ℕ × ℕ)) (c : Coord) → ((d : Doing) → doing_of u c ≡ Some d → MarksSo d marks) →
      Fine (mark_lines u marks c)
  marks_fine u [] c its = tt
  marks_fine u (z ∷ marks) c its = both (says u (λ l. body.Excluded l z.0 z.1) c) (mark_lines u marks c) (by (doing_of u c) refl)
      (marks_fine u marks c (λ d found. (its d found).1))
    where
      by : (o : Option Doing) → doing_of u c ≡ o → Fine (say_for (λ l. body.Excluded l z.0 z.1) o)
      by None found = tt
      by (Some d) found = ((its d found).0, tt)

  moved_fine : (u : Uid) (m : Marked) (intents : List (Uid × Intent)) (c : Coord) →
      ((d : Doing) → doing_of u c ≡ Some d → MarksSo d m.marks) → Fine (moved_commit u m intents c).outs
  moved_fine u m intents c its =
      both (mark_lines u m.marks c) (step_commit u m.step intents c).outs (marks_fine u m.marks c its) (step_fine u m.step intents c)

  pub call_fine : (s : Steps) (n : CallStep) (c : Coord) → EndsSo s n → Fine (step_call s n c).outs
  call_fine s (On at) c its = (tt, tt)
  call_fine s (Ended e) c its = says_fine (actor s.path) (end_line s.x s.goal e) c (its e refl)

  heard_fine : (c : Coord) (from : ℕ) (a : Asked) (r : Reply) (intents : List (Uid × Intent)) →
      ((d : Doing) (s : Steps) → doing_of a.act c ≡ Some d → d.now ≡ Calling s → waits_for_call from a r s ≡ true →
      EndsSo s (answered (is_free (root_of s.path) (actor s.path) s.x c) (kept_at s c) s.goal s.at r).step)
      → ((d : Doing) (m : Machine) → doing_of a.act c ≡ Some d → d.now ≡ Committing m → MarksSo d (commit.answered from m r).marks) →
      Fine (heard from a r intents c).outs
  heard_fine c from a r intents ends marks = by (doing_of a.act c) refl
    where
      now : (d : Doing) → doing_of a.act c ≡ Some d → (n : Now) → d.now ≡ n → Fine (heard_now from a r intents c n).outs
      now d found Idle is = tt
      now d found (Calling s) is = one (waits_for_call from a r s) refl
        where
          one : (w : Bool) → waits_for_call from a r s ≡ w →
              Fine (cond {A = Served Coord (Unit {0})} w (heard_by (heard_call s r c)) (heard_none c)).outs
          one true its = call_fine s _ _ (ends d s found is its)
          one false its = tt
      now d found (Committing m) is = one (waits_for_commit from a r m)
        where
          one : (w : Bool) → Fine (cond {A = Served Coord (Unit {0})} w (heard_by (moved_commit a.act (commit.answered from m r) intents c))
              (heard_none c)).outs
          one true = moved_fine a.act (commit.answered from m r) intents c (λ e also. marks e m also (same_now _ c e d m also found is))
          one false = tt

      by : (o : Option Doing) → doing_of a.act c ≡ o → Fine (heard_doing from a r intents c o).outs
      by None is = tt
      by (Some d) is = now d is d.now refl

  gives_fine : (c : Coord) (u : Uid) (intents : List (Uid × Intent)) →
      ((d : Doing) (s : Steps) → doing_of u c ≡ Some d → d.now ≡ Calling s → EndsSo s (given_up s.at)) → ((d : Doing) (m : Machine) →
      doing_of u c ≡ Some d → d.now ≡ Committing m → MarksSo d (commit.given_up m).marks) → Fine (give_up u intents c).outs
  gives_fine c u intents ends marks = by (doing_of u c) refl
    where
      lines : (ns : List ℕ) → Fine (gaveup_lines u ns c)
      lines ns = all_flat (SayOf S) (λ n. says u (λ l. body.GaveUp l n) c) ns
          (λ n. says_fine u (λ l. body.GaveUp l n) c (λ l. fine (body.GaveUp l n) refl))

      now : (d : Doing) → doing_of u c ≡ Some d → (n : Now) → d.now ≡ n → Fine (gives_up u intents c n).outs
      now d found Idle is = tt
      now d found (Calling s) is = both (gaveup_lines u (next_node s ∷ []) c) (give_up_call s c).outs (lines (next_node s ∷ []))
          (call_fine s (given_up s.at) _ (ends d s found is))
      now d found (Committing m) is = both (gaveup_lines u (nodes_given_up m) c) (moved_commit u (commit.given_up m) intents c).outs (lines
          (nodes_given_up m)) (moved_fine u (commit.given_up m) intents c (λ e also. marks e m also (same_now _ c e d m also found is)))

      by : (o : Option Doing) → doing_of u c ≡ o → Fine (give_up_doing u intents c o).outs
      by None is = tt
      by (Some d) is = now d is d.now refl

  -- a commit says first that it is called, where it is a top's
  pub commit_fine : (T : List Effect → Type 0) → ((es : List Effect) → Fine es → T es) → (b : Branch) (intents : List (Uid × Intent))
      (c : Coord) → ((es : List Effect) → Fine es → T (says (actor b.path) body.Committing c ++ es)) → T (commit_action b intents c).outs
  commit_fine T other b intents c called = doomed b.doomed
    where
      top : T (commit_top b.path intents c).outs
      top = let m = commit.start (plan_for b.path (last_req (doing_of (actor b.path) c)) (root_at (root_of b.path) c) c) in
          called (moved_commit (actor b.path) m intents c).outs (moved_fine (actor b.path) m intents c (λ d found. tt))

      kinds : (k : Kind) → T (commit_open b intents c k).outs
      kinds kind.Nested = other _ (ends_fine (actor b.path) ending.Commit body.Committed intents c (λ l. fine (body.Committed l) refl))
      kinds kind.Serial = other _ (ends_fine (actor b.path) ending.Commit body.Ended intents c (λ l. fine (body.Ended l) refl))
      kinds kind.Top = top
      kinds kind.Independent = top
      kinds kind.Constituent = top

      doomed : (d : Bool) → T (cond {A = Did Coord} d (ends_with (actor b.path) ending.Abort (λ l. body.Aborted l cause.Doomed) intents c)
          (commit_open b intents c b.kind)).outs
      doomed true = other _ (ends_fine (actor b.path) ending.Abort (λ l. body.Aborted l cause.Doomed) intents c
          (λ l. fine (body.Aborted l cause.Doomed) refl))
      doomed false = kinds b.kind

  pub acts_fine : (T : List Effect → Type 0) → ((es : List Effect) → Fine es → T es) → (c : Coord) (i : Input)
      (intents : List (Uid × Intent)) → ((l : Label) (q : Kind) (parent : Option Label) → i ≢ input.Begin l q parent)
      → ((u : Uid) (d : Doing) (s : Steps) → doing_of u c ≡ Some d → d.now ≡ Calling s → EndsSo s (given_up s.at)) →
      ((u : Uid) (d : Doing) (m : Machine) → doing_of u c ≡ Some d → d.now ≡ Committing m → MarksSo d (commit.given_up m).marks)
      → ((l : Label) → i ≡ input.Commit l → (u : Uid) (es : List Effect) → Fine es → T (says u body.Committing c ++ es)) →
      T (acts i intents c).outs
  acts_fine T so c i intents other ends marks called = by i refl
    where
      by : (j : Input) → i ≡ j → T (acts j intents c).outs
      by (input.Begin l q parent) same = absurd (other l q parent same)
      by (input.Call l x o) same = one (branch_named l c)
        where
          one : (f : Option Branch) → T (on_branch (λ b. call b.path x o c) c f).outs
          one None = so [] tt
          one (Some b) = so _ (tt, tt)
      by (input.Include l x s) same = one (branch_named l c)
        where
          one : (f : Option Branch) → T (on_branch (λ b. include b.path x s c) c f).outs
          one None = so [] tt
          one (Some b) = so _ (tt, tt)
      by (input.Commit l) same = one (branch_named l c)
        where
          one : (f : Option Branch) → T (on_branch (λ b. commit_action b intents c) c f).outs
          one None = so [] tt
          one (Some b) = commit_fine T so b intents c (called l same (actor b.path))
      by (input.Abort l) same = one (branch_named l c)
        where
          one : (f : Option Branch) → T (on_branch (λ b. abort_action (actor b.path) intents c) c f).outs
          one None = so [] tt
          one (Some b) = so _ (abort_fine (actor b.path) intents c)
      by (input.GiveUp l) same = one (branch_named l c)
        where
          one : (f : Option Branch) → T (on_branch (λ b. give_up (actor b.path) intents c) c f).outs
          one None = so [] tt
          one (Some b) = so _ (gives_fine c (actor b.path) intents (ends (actor b.path)) (marks (actor b.path)))
      by _ same = so [] tt

  again_fine : (ds : List Doing) (c : Coord) → Fine (again_all ds c).outs
  again_fine [] c = tt
  again_fine (d ∷ ds) c =
      both (again_now c d.now).outs (again_all ds (again_now c d.now).part).outs (now d.now) (again_fine ds (again_now c d.now).part)
    where
      now : (n : Now) → Fine (again_now c n).outs
      now Idle = tt
      now (Calling s) = (tt, tt)
      now (Committing m) = asks_fine (plan_of m).path (plan_of m).req (commit.waiting m) c

  records_fine : (telling : List (Uid × Intent)) → Fine (tolds_again telling)
  records_fine telling = all_flat (SayOf S) (λ (e : Uid × Intent). tell_all e.1.root true ((e.0, ending.Commit) ∷ []) e.1.nodes) telling
      (λ e. tells_fine e.1.root true ((e.0, ending.Commit) ∷ []) e.1.nodes)

  query_fine : (from : ℕ) (u : Uid) (intents : List (Uid × Intent)) (c : Coord) → Fine (answer_query from u intents c)
  query_fine from u intents c = by (is_open u c.tree || is_deferred u intents from)
    where
      decided : (b : Bool) → Fine (cond b (tell (root_or_self u (branch_of u c.tree)) false ((u, ending.Commit) ∷ []) from ∷ [])
          (tell (root_or_self u (branch_of u c.tree)) false ((u, ending.Abort) ∷ []) from ∷ []))
      decided true = (tt, tt)
      decided false = (tt, tt)

      recorded : (o : Option Intent) → Fine (answer_recorded from u c o)
      recorded None = decided (is_kept_commit from u c)
      recorded (Some i) = one (has i.nodes from)
        where
          one : (b : Bool) → Fine (cond b (tell i.root true ((u, ending.Commit) ∷ []) from ∷ []) (answer_decided from u c))
          one true = (tt, tt)
          one false = decided (is_kept_commit from u c)

      by : (b : Bool) → Fine (cond b [] (answer_recorded from u c (at_uid u intents)))
      by true = tt
      by false = recorded (at_uid u intents)

  acked_fine : (from : ℕ) (u : Uid) (intents : List (Uid × Intent)) (c : Coord) → Fine (acked from u intents c).outs
  acked_fine from u intents c = by (at_uid u c.telling)
    where
      gone : (o : Option Intent) → Fine (tolds_let_go u (without_uid u intents) c o)
      gone None = tt
      gone (Some i) = one (not (uid_eq i.root u) && is_over (branch_of i.root c.tree))
        where
          one : (b : Bool) →
              Fine (cond b (tell_all i.root false ((i.root, ending.Abort) ∷ []) (let_go i.root (without_uid u intents) c i.nodes)) [])
          one true = tells_fine i.root false ((i.root, ending.Abort) ∷ []) (let_go i.root (without_uid u intents) c i.nodes)
          one false = tt

      left : (i : Intent) (ns : List ℕ) → Fine (acked_left u i intents c ns).outs
      left i [] = (tt, gone (at_uid u intents))
      left i (n ∷ ns) = tt

      by : (o : Option Intent) → Fine (acked_by from u intents c o).outs
      by None = tt
      by (Some i) = one (has i.nodes from)
        where
          one : (b : Bool) →
              Fine (cond b (acked_left u i intents c (without_number from i.nodes)) (record { part = c; outs = []; reply = None })).outs
          one true = left i (without_number from i.nodes)
          one false = tt

  -- ---- whole handlers

  abbrev FineBy : Handled → Type 0
  FineBy (Void outs) = ⊤
  FineBy (Took v outs) = Fine outs

  server_fine : (n : ℕ) (es : List Effect) → AreAll (is_server_effect n) es → Fine es
  server_fine n [] all = tt
  server_fine n (Say b ∷ es) all = let p = and_parts (is_server_line n b) (list_all (is_server_effect n) es) all in
      (fine b (server_apart n b p.0), server_fine n es p.1)
  server_fine n (Send to m ∷ es) all = absurd (cc all)
  server_fine n (Do w ∷ es) all = absurd (cc all)

  naming_fine : (es : List Effect) → AreAll is_naming_effect es → Fine es
  naming_fine [] all = tt
  naming_fine (Say b ∷ es) all = let p = and_parts (is_naming_line b) (list_all is_naming_effect es) all in
      (fine b (naming_apart b p.0), naming_fine es p.1)
  naming_fine (Send to m ∷ es) all = absurd (cc all)
  naming_fine (Do w ∷ es) all = (tt, naming_fine es (and_parts (is_naming_effect (Do w)) (list_all is_naming_effect es) all).1)

  module _ (from : ℕ) (h : Head) where
    answer_fine : (t : Parts) (outs : List Effect) (r : Option Reply) → Fine outs → FineBy (sends_answer from h t outs r)
    answer_fine t outs None all = tt
    answer_fine t outs (Some r) all = both outs (Send from (response (asked_by h) r) ∷ []) all (tt, tt)

    naming_served : {R : Type 0} (put : Naming → Parts) (say : R → Reply) (f : Naming → Served Naming R) (o : Option Naming) →
        ((n : Naming) → AreAll is_naming_effect (f n).outs) → FineBy (if_naming (λ n. served from h put say (f n)) o)
    naming_served put say f None all = tt
    naming_served put say f (Some n) all =
        answer_fine (put (f n).part) (f n).outs (option_map say (f n).reply) (naming_fine (f n).outs (all n))

    load_fine : (x : ℕ) (d : Pair) (t : Parts) (holder : Option Uid) → FineBy (load_by x d from h t holder)
    load_fine x d t (Some holder) = (tt, tt)
    load_fine x d t None = by (held_at (object x) d)
      where
        by : (s : Option ObjectState) → FineBy (load_held from h t s)
        by None = tt
        by (Some s) = (tt, (tt, tt))

    prepare_fine : (n : ℕ) (d : Pair) (states : List ObjectState) (t : Parts) → FineBy (prepare_states n d states from h t)
    prepare_fine n d states t = by (is_prepared (actor h.path) d)
      where
        answer : (p : Prep) → FineBy (prepare_by n states from h t p)
        answer Ready = (tt, (tt, (fine (body.Prepared n (actor h.path) role.Store) refl, (tt, tt))))
        answer (Already u) = tt
        answer (Old u v) = (tt, (tt, tt))
        answer (InDoubt u holder) = (tt, (tt, tt))

        by : (b : Bool) → FineBy (cond b (sends_answer from h t [] (Some (Reply.Prepared prepared.Yes)))
            (prepare_by n states from h t (prepare_answer (actor h.path) states d)))
        by true = (tt, tt)
        by false = answer (prepare_answer (actor h.path) states d)

    serve_fine : (n : ℕ) (d : Disk) (t : Parts) (a : Ask) → FineBy (serve n d t from h a)
    serve_fine n d t (ask.Bind x include avoid) = naming_served (with_naming t) Reply.Bound (naming.bind h.path x include avoid d.names)
        t.naming (bind_own h.path x include avoid d.names)
    serve_fine n d t (ask.Load x) = load_fine x d.store t (holder_of (object x) d.store)
    serve_fine n d t (ask.Activate b st) = let r = server.activate n h.path b st t.server in answer_fine (with_server t r.part) r.outs
        (option_map Reply.Activated r.reply) (server_fine n r.outs (activate_own n h.path b st t.server))
    serve_fine n d t (ask.Record x b i g) =
        naming_served (with_naming t) Reply.Noted (naming.note h.path x b i g) t.naming (note_own h.path x b i g)
    serve_fine n d t (ask.Invoke x b i ends op) = let r = server.invoke n h x b i ends op t.server in answer_fine (with_server t r.part)
        r.outs (option_map Reply.Invoked r.reply) (server_fine n r.outs (invoke_own n h x b i ends op t.server))
    serve_fine n d t (ask.Vote i ties ends) = let r = server.vote n h.path i ties ends t.server in answer_fine (with_server t r.part) r.outs
        (option_map Reply.Voted r.reply) (server_fine n r.outs (vote_own n h.path i ties ends t.server))
    serve_fine n d t (ask.Prepare states) = prepare_fine n d.store states t
    serve_fine n d t (ask.Confirm grants excluded included) = naming_served (with_naming t) Reply.Confirmed
        (confirm h.path grants excluded included d.names) t.naming (confirm_own h.path grants excluded included d.names)

  told_fine : (n : ℕ) (d : Disk) (t : Parts) (from : ℕ) (ack : Bool) (ends : List (Uid × End)) (u : Uid) (e : End) →
      FineBy (handle_told n d t from ack ends u e)
  told_fine n d t from ack ends u e =
      let o = naming_told u e d.names t.naming in
      let s = server.told n ends t.server in
      both (store_told n u e d.store ++ o.outs ++ s.outs) (ack_told from u ack) (both (store_told n u e d.store ++ o.outs) s.outs
      (both (store_told n u e d.store) o.outs (store (is_prepared u d.store) e) (names t.naming))
      (server_fine n s.outs (ends_own n ends t.server))) (acks ack)
    where
      store : (b : Bool) (e : End) → Fine (cond b (end_states n u e) [])
      store false e = tt
      store true ending.Commit = (tt, (fine (body.Done n u role.Store ending.Commit) refl, tt))
      store true ending.Abort = (tt, (fine (body.Done n u role.Store ending.Abort) refl, tt))

      names : (o : Option Naming) → Fine (let r = naming_told u e d.names o in r.outs)
      names None = tt
      names (Some o) = naming_fine (naming.told u e d.names o).outs (told_own u e d.names o)

      acks : (b : Bool) → Fine (ack_told from u b)
      acks true = (tt, tt)
      acks false = tt

  reply_fine : (t : Parts) (outs : List Effect) (r : Option (Unit {0})) → Fine outs → FineBy (by_reply t outs r)
  reply_fine t outs None all = tt
  reply_fine t outs (Some u) all = all

  other_fine : (n : ℕ) (d : Disk) (t : Parts) (from : ℕ) (m : Message) → FineBy (handle_other n d t from m)
  other_fine n d t from (message.Told m) = by (last_end m.ends)
    where
      by : (o : Option (Uid × End)) → FineBy (handle_ends n d t from m.ack m.ends o)
      by None = tt
      by (Some e) = told_fine n d t from m.ack m.ends e.0 e.1
  other_fine n d t from (message.Acked m) = let r = acked from m.act d.intents t.coord in
      reply_fine (with_coord t r.part) r.outs r.reply (acked_fine from m.act d.intents t.coord)
  other_fine n d t from (message.Query m) = query_fine from m.act d.intents t.coord
  other_fine n d t from (message.Hello m) = all_map (SayOf S) query_about (filter (is_earlier m.node m.inc) (holders d t)) (λ u. tt)
  other_fine n d t from m = tt

  -- a message that is taken
  pub message_fine : (k : ℕ) (d : Disk) (t v : Parts) (from : ℕ) (m : Message) (outs : List Effect) → handle k d t from m ≡ Took v outs
      → ((a : Asked) (r : Reply) (q : Doing) (s : Steps) → answers m ≡ Some (a, r) → doing_of a.act t.coord ≡ Some q → q.now ≡ Calling s →
      waits_for_call from a r s ≡ true →
      EndsSo s (answered (is_free (root_of s.path) (actor s.path) s.x t.coord) (kept_at s t.coord) s.goal s.at r).step)
      → ((a : Asked) (r : Reply) (q : Doing) (c : Machine) → answers m ≡ Some (a, r) → doing_of a.act t.coord ≡ Some q →
      q.now ≡ Committing c → MarksSo q (commit.answered from c r).marks) → Fine outs
  message_fine k d t v from m outs is ends marks = subst FineBy is (asked (asks m))
    where
      answered_so : (o : Option (Asked × Reply)) → answers m ≡ o → FineBy (handle_answer k d t from m o)
      answered_so None of = other_fine k d t from m
      answered_so (Some a) of = let r = heard from a.0 a.1 d.intents t.coord in reply_fine (with_coord t r.part) r.outs r.reply
          (heard_fine t.coord from a.0 a.1 d.intents (λ q s. ends a.0 a.1 q s of) (λ q c. marks a.0 a.1 q c of))

      asked : (o : Option (Head × Ask)) → FineBy (handle_ask k d t from m o)
      asked None = answered_so (answers m) refl
      asked (Some a) = serve_fine from a.0 k d t a.1

  pub tick_fine : (n : Node) (t : Parts) → Fine (tick_outs n t)
  tick_fine n t =
      let r = again_all t.coord.doings t.coord in
      both (r.outs ++ tolds_again t.coord.telling) (map query_about (holders n.disk t)) (both r.outs (tolds_again t.coord.telling)
      (again_fine t.coord.doings t.coord) (records_fine t.coord.telling)) (all_map (SayOf S) query_about (holders n.disk t) (λ u. tt))

  pub restart_fine : (hd : Header) (k inc : ℕ) (d : Disk) → Fine (restart_outs hd k inc d)
  restart_fine hd k inc d = both four hellos (both three asking
      (both two (tolds_again d.intents) (both one records (tt, (tt, (fine (body.Up k inc) refl, (tt, back_so (naming_at k inc d.names)))))
      (tt, all_map (SayOf S) (λ (e : Uid × Intent). Say (body.Recovered k e.0)) d.intents (λ e. fine (body.Recovered k e.0) refl)))
      (records_fine d.intents))
      (all_map (SayOf S) query_about (uid_set (prepared_actions d.store ++ prepared_actions d.names)) (λ u. tt)))
      (all_map (SayOf S) (hello_to k inc) (without_number k (numbers_to hd.nodes)) (λ w. tt))
    where
      back_so : (o : Option Naming) → Fine (naming_back o)
      back_so None = tt
      back_so (Some o) =
          all_flat (SayOf S) (λ (e : ℕ × Named). back_lines e.1) o.objects (λ e. all_map (SayOf S) _ e.1.rows (λ r. fine _ refl))

      one : List Effect
      one = Do Look ∷ Do (PutInc inc) ∷ Say (body.Up k inc) ∷ Do Look ∷ naming_back (naming_at k inc d.names)

      records : List Effect
      records = Do Look ∷ recovered_records k d.intents

      two : List Effect
      two = one ++ records

      three : List Effect
      three = two ++ tolds_again d.intents

      asking : List Effect
      asking = map query_about (uid_set (prepared_actions d.store ++ prepared_actions d.names))

      four : List Effect
      four = three ++ asking

      hellos : List Effect
      hellos = map (hello_to k inc) (without_number k (numbers_to hd.nodes))

-- ---- lines of calls

module _ (P : ℕ → Goal → Type 0) where
  pub plain_says : (b : Body) → is_apart b ≡ false → SaysOf P b
  plain_says (body.Ok l x o a) none = absurd (cc none)
  plain_says (body.Includes l x n) none = absurd (cc none)
  plain_says b none = tt

  -- no mark is about a call
  pub marks_say : (d : Doing) (marks : List (ℕ × ℕ)) → AllByRecursion (λ (z : ℕ × ℕ). SaysOf P (body.Excluded d.label z.0 z.1)) marks
  marks_say d [] = tt
  marks_say d (z ∷ marks) = (tt, marks_say d marks)

  -- a call that ends has its line, and only an include ends as one
  end_says : (x : ℕ) (g : Goal) (e : CallEnd) (l : Label) → P x g → EndOf Any g e → SaysOf P (end_line x g e l)
  end_says x (Run o) (calls.Answered a) l its fits = its
  end_says x (Include s) (calls.Answered a) l its fits = its
  end_says x (Run o) (calls.Included st) l its fits = absurd fits
  end_says x (Include s) (calls.Included st) l its fits = its
  end_says x g (calls.Conflict h m n) l its fits = tt
  end_says x g (calls.Changed n w) l its fits = tt
  end_says x g (calls.Lost n b) l its fits = tt

  ends_say : (s : Steps) (n : CallStep) → P s.x s.goal → StepOf Any s.goal n → (e : CallEnd) → n ≡ Ended e → (l : Label) →
      SaysOf P (end_line s.x s.goal e l)
  ends_say s n its fits e is l = end_says s.x s.goal e l its (subst (StepOf Any s.goal) is fits)

  pub message_says : (c : Coord) → WaitFor P c → (from : ℕ) (a : Asked) (r : Reply) (q : Doing) (s : Steps) → AnswersWaiting from a r c →
      doing_of a.act c ≡ Some q → q.now ≡ Calling s → waits_for_call from a r s ≡ true
      → (e : CallEnd) → (answered (is_free (root_of s.path) (actor s.path) s.x c) (kept_at s c) s.goal s.at r).step ≡ Ended e →
      (l : Label) → SaysOf P (end_line s.x s.goal e l)
  message_says c waits from a r q s fits found is its = ends_say s _ (waits a.act q s found is)
      (answer_any (is_free (root_of s.path) (actor s.path) s.x c) (kept_at s c) s.goal s.at r (fits q s found is its))

  pub acts_say : (c : Coord) → WaitFor P c → (i : Input) (intents : List (Uid × Intent)) → ((l : Label) (q : Kind) (parent : Option Label) →
      i ≢ input.Begin l q parent) → AllByRecursion (SayOf (SaysOf P)) (acts i intents c).outs
  acts_say c waits i intents other = acts_fine (SaysOf P) plain_says (AllByRecursion (SayOf (SaysOf P))) (λ es all. all) c i intents other
      (λ u d s found is. ends_say s (given_up s.at) (waits u d s found is) (given_up_of Any tt s.goal s.at (step_any s.goal s.at)))
      (λ u d m found is. marks_say d (commit.given_up m).marks)
      (λ l same u es all.
      both (SaysOf P) plain_says (says u body.Committing c) es (says_fine (SaysOf P) plain_says u body.Committing c (λ m. tt)) all)
