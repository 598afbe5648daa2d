-- Whose ends a coordinator tells: of actions that it has, of its records, and of whom it is asked about.
use Rattle.arj_law_parts.proofs.Words
use Words.{◌≡◌, ◌≢◌, ◌+◌, ℕ, List, [], ◌∷◌, ◌++◌, Bool, true, false, cond, not, ◌&&◌, ◌||◌, map, Option, Some, None, Contains, refl, sym}
use Words.{◌∙◌, ap, subst, inl, inr, ⊤, is_some, AllByRecursion, flat_map, In, in_from, Uid, End, Kind, Path, Body, Label, Ask, Asked, Head}
use Words.{Header, request, uid_eq, Reply, actor, again_all, again_now, asks_all, asks_node, asks_step, call, call_steps, commit_action}
use Words.{commit_open, commit_top, commits_in, gaveup_lines, give_up, give_up_doing, gives_up, goes_on, heard, heard_by, heard_call}
use Words.{heard_doing, heard_none, heard_now, include, last_req, mark_lines, moved_commit, next_req, renewed, step_call, step_commit}
use Words.{waits_for_call, waits_for_commit, CallStep, Ended, On, Steps, given_up, next_ask, next_node, start, Aborts, Asks, CommitStep}
use Words.{Decides, Marked, Plan, Stays, has_record, nodes_given_up, participants, plan_of, servers_of, waiting, Calling, Committing, Coord}
use Words.{Doing, Idle, Now, doing_of, is_free, keeping_of, on_doing, on_root, plan_for, root_at, with_keeping, Did, Do, Effect, Intent}
use Words.{PutIntent, Say, Send, Served, abort_action, aborts_with, acked, acked_by, acked_left, all_aborted, answer_decided, answer_query}
use Words.{answer_recorded, decide, decided_told, ended, ends_with, is_deferred, is_kept_commit, let_go, root_or_self, say_for, says, tell}
use Words.{tell_all, tolds_by, tolds_let_go, tolds_of, tolds_of_branch, up_to, at_uid, has, unbound, without_number, without_uid, Input}
use Words.{acts, branch_named, commit_reasons, on_branch, refusal_up, refused_by, tolds_again, Branch, branch_of, ends_of, has_open_child}
use Words.{is_open, open_below, root_of, uses_object}
use Words.ask
use Words.ending
use Words.kind
use Words.body
use Words.cause
use Words.calls
use Words.commit
use Words.input
use Rattle.arj_law_serial.proofs.Terms
use Terms.{is_over, Action, IsBusy, IsGoodCoord, IsVoting, IsTree, Paths, told_by, named_found, off, off_third, none_in, IsStepOf, actor_is}
use Terms.{answer_step, giveup_step, vote_step, voting_at}

-- whose end the effect tells is so
abbrev pub TellsOf : (Uid → Type 0) → Effect → Type 0
TellsOf K (Send to m) = (u : Uid) (e : End) → Contains (told_by m) (u, e) → K u
TellsOf K (Say b) = ⊤
TellsOf K (Do w) = ⊤

abbrev pub AllTell : (Uid → Type 0) → List Effect → Type 0
AllTell K outs = AllByRecursion (TellsOf K) outs

module _ (K : Uid → Type 0) where
  abbrev Fine : List Effect → Type 0
  Fine outs = AllTell K outs

  pub tell_both : (es fs : List Effect) → Fine es → Fine fs → Fine (es ++ fs)
  tell_both [] fs a b = b
  tell_both (e ∷ es) fs a b = (a.0, tell_both es fs a.1 b)

  pub tell_map : {A : Type 0} (f : A → Effect) (items : List A) → ((x : A) → TellsOf K (f x)) → Fine (map f items)
  tell_map f [] each = tt
  tell_map f (x ∷ xs) each = (each x, tell_map f xs each)

  tell_flat : {A : Type 0} (f : A → List Effect) (items : List A) → ((x : A) → Fine (f x)) → Fine (flat_map f items)
  tell_flat f [] each = tt
  tell_flat f (x ∷ xs) each = tell_both (f x) (flat_map f xs) (each x) (tell_flat f xs each)

  tell_lines : (u : Uid) (f : Label → Body) (d : Coord) → Fine (says u f d)
  tell_lines u f d = by (doing_of u d)
    where
      by : (o : Option Doing) → Fine (say_for f o)
      by None = tt
      by (Some x) = (tt, tt)

  tell_tells : (root : Uid) (ack : Bool) (ends : List (Uid × End)) (nodes : List ℕ) → ((u : Uid) (e : End) → Contains ends (u, e) → K u) →
      Fine (tell_all root ack ends nodes)
  tell_tells root ack ends nodes each = tell_map (tell root ack ends) nodes (λ n. each)

  tell_one : (u : Uid) (how : End) → K u → (w : Uid) (e : End) → Contains {X = Uid × End} ((u, how) ∷ []) (w, e) → K w
  tell_one u how its w e i = by (in_from (w, e) ((u, how) ∷ []) i)
    where
      by : In {X = Uid × End} (w, e) ((u, how) ∷ []) → K w
      by (inl same) = subst K (ap (λ (x : Uid × End). x.0) same) its
      by (inr none) = absurd none

  tell_request : (to : ℕ) (h : Head) (a : Ask) → TellsOf K (Send to (request h a))
  tell_request to h (ask.Bind x include_it avoid) u e i = none_in u e i
  tell_request to h (ask.Load x) u e i = none_in u e i
  tell_request to h (ask.Activate b st) u e i = none_in u e i
  tell_request to h (ask.Record x b j g) u e i = none_in u e i
  tell_request to h (ask.Invoke x b j ends o) u e i = none_in u e i
  tell_request to h (ask.Vote j ties ends) u e i = none_in u e i
  tell_request to h (ask.Prepare states) u e i = none_in u e i
  tell_request to h (ask.Confirm g x y) u e i = none_in u e i

  -- so is each action that a coordinator has, and whose end it lists
  pub record Knows (c : Coord) : Type 0 where
    pub branches : (u : Uid) (b : Branch) → branch_of u c.tree ≡ Some b → K u
    pub ends : (r u : Uid) (e : End) → In {X = Uid × End} (u, e) (ends_of r c.tree) → K u

  -- ---- ends

  up_to_in : (u : Uid) (x : Uid × End) (es : List (Uid × End)) → In x (up_to u es) → In x es
  up_to_in u x [] i = i
  up_to_in u x (e ∷ es) i = by (uid_eq e.0 u) (up_to_in u x es) i
    where
      by : (b : Bool) → (In x (up_to u es) → In x es) → In x (cond b (e ∷ []) (e ∷ up_to u es)) → In x (e ∷ es)
      by true ih (inl same) = inl same
      by true ih (inr none) = absurd none
      by false ih (inl same) = inl same
      by false ih (inr j) = inr (ih j)

  tell_tolds : (intents : List (Uid × Intent)) (c : Coord) (u : Uid) → Knows c → Fine (tolds_of intents c u)
  tell_tolds intents c u knows = by (branch_of u c.tree) refl
    where
      kinds : (b : Branch) → branch_of u c.tree ≡ Some b → (k : Kind) (p : Path) → Fine (tolds_by u k p intents c)
      kinds b is kind.Nested p = tell_tells (root_of p) false (up_to u (ends_of (root_of p) c.tree)) _ (λ w e i. knows.ends (root_of p) w e
          (up_to_in u (w, e) (ends_of (root_of p) c.tree) (in_from (w, e) (up_to u (ends_of (root_of p) c.tree)) i)))
      kinds b is kind.Serial p = tell_tells u false ((u, ending.Abort) ∷ []) _ (tell_one u ending.Abort (knows.branches u b is))
      kinds b is kind.Top p = tell_tells (root_of p) false ((u, ending.Abort) ∷ []) _ (tell_one u ending.Abort (knows.branches u b is))
      kinds b is kind.Independent p =
          tell_tells (root_of p) false ((u, ending.Abort) ∷ []) _ (tell_one u ending.Abort (knows.branches u b is))
      kinds b is kind.Constituent p =
          tell_tells (root_of p) false ((u, ending.Abort) ∷ []) _ (tell_one u ending.Abort (knows.branches u b is))

      by : (o : Option Branch) → branch_of u c.tree ≡ o → Fine (tolds_of_branch u intents c o)
      by None is = tt
      by (Some b) is = kinds b is b.kind b.path

  tell_ends : (u : Uid) (e : End) (f : Label → Body) (intents : List (Uid × Intent)) (c : Coord) → Knows (ended u e c) →
      Fine (ends_with u e f intents c).outs
  tell_ends u e f intents c knows =
      tell_both (says u f c) (tolds_of intents (ended u e c) u) (tell_lines u f c) (tell_tolds intents (ended u e c) u knows)

  tell_aborted : (us : List Uid) (c : Coord) → Fine (all_aborted us c).outs
  tell_aborted [] c = tt
  tell_aborted (u ∷ us) c = tell_both (says u (λ l. body.Aborted l cause.Asked) c) (all_aborted us (ended u ending.Abort c)).outs
      (tell_lines u (λ l. body.Aborted l cause.Asked) c) (tell_aborted us (ended u ending.Abort c))

  tell_abort : (u : Uid) (intents : List (Uid × Intent)) (c : Coord) → Knows (abort_action u intents c).part →
      Fine (abort_action u intents c).outs
  tell_abort u intents c knows =
      let us = open_below u c.tree ++ u ∷ [] in
      let t = all_aborted us c in
      tell_both t.outs (flat_map (tolds_of intents t.part) us) (tell_aborted us c)
      (tell_flat (tolds_of intents t.part) us (λ w. tell_tolds intents t.part w knows))

  tell_decide : (p : Plan) (c : Coord) → K (actor p.path) → Fine (decide p c).outs
  tell_decide p c its =
      let u = actor p.path in
      tell_both (cond (has_record p) (Do (PutIntent u (record { root = root_of p.path; nodes = participants p })) ∷ []) []
      ++ says u body.Committed c) (map (decided_told (root_of p.path) u p) p.sent)
      (tell_both (cond (has_record p) (Do (PutIntent u (record { root = root_of p.path; nodes = participants p })) ∷ []) [])
      (says u body.Committed c) (work (has_record p)) (tell_lines u body.Committed c))
      (tell_map (decided_told (root_of p.path) u p) p.sent (λ n. one n (has (participants p) n)))
    where
      work : (b : Bool) → Fine (cond b (Do (PutIntent (actor p.path) (record { root = root_of p.path; nodes = participants p })) ∷ []) [])
      work true = (tt, tt)
      work false = tt

      one : (n : ℕ) (b : Bool) → TellsOf K (cond b (tell (root_of p.path) (has_record p) ((actor p.path, ending.Commit) ∷ []) n)
          (tell (root_of p.path) false ((actor p.path, ending.Abort) ∷ []) n))
      one n true = tell_one (actor p.path) ending.Commit its
      one n false = tell_one (actor p.path) ending.Abort its

  -- ---- calls and commits

  tell_asks : (p : Path) (req : ℕ) (as_asked : List (ℕ × Ask)) (c : Coord) → Fine (asks_all p req as_asked c).outs
  tell_asks p req [] c = tt
  tell_asks p req (a ∷ rest) c = (tell_request a.0 (record { path = p; req = req }) a.1, tell_asks p req rest (asks_node p req a c).part)

  tell_step : (s : Steps) (c : Coord) → Fine (asks_step s c).outs
  tell_step s c = (tell_request (next_node s) (record { path = s.path; req = s.req }) (next_ask (ends_of (root_of s.path) c.tree) s), tt)

  tell_goes : (s : Steps) (c : Coord) → Fine (goes_on s c).outs
  tell_goes s c = tell_step s (on_doing (actor s.path) (λ (d : Doing). record d { req = s.req; now = Calling s }) c)

  tell_step_call : (s : Steps) (t : CallStep) (c : Coord) → Fine (step_call s t c).outs
  tell_step_call s (On at) c = tell_goes (record s { req = s.req + 1; at = at }) c
  tell_step_call s (Ended e) c = tell_lines (actor s.path) _ c

  tell_step_commit : (u : Uid) (s : CommitStep) (intents : List (Uid × Intent)) (c : Coord) →
      ((q : Plan) → s ≡ Decides q → K (actor q.path)) → Knows (step_commit u s intents c).part → Fine (step_commit u s intents c).outs
  tell_step_commit u (Stays m) intents c decides knows = tt
  tell_step_commit u (Asks m) intents c decides knows = tell_asks (plan_of m).path (plan_of m).req (waiting m) (commits_in u m c)
  tell_step_commit u (Decides p) intents c decides knows = tell_decide p c (decides p refl)
  tell_step_commit u (Aborts why p) intents c decides knows = tell_ends u ending.Abort (λ l. body.Aborted l why) intents c knows

  tell_moved : (u : Uid) (m : Marked) (intents : List (Uid × Intent)) (c : Coord) → ((q : Plan) → m.step ≡ Decides q → K (actor q.path)) →
      Knows (moved_commit u m intents c).part → Fine (moved_commit u m intents c).outs
  tell_moved u m intents c decides knows =
      tell_both (mark_lines u m.marks c) (step_commit u m.step intents c).outs (tell_flat (λ (k : ℕ × ℕ). says u (λ l. body.Excluded l k.0
      k.1) c) m.marks (λ k. tell_lines u (λ l. body.Excluded l k.0 k.1) c)) (tell_step_commit u m.step intents c decides knows)

  module _ (actions : List Action) (paths : Paths) (tree : IsTree paths) where
    -- a commit that is decided is its action's
    decides_own : (u : Uid) (p : Plan) (s : CommitStep) (c : Coord) → IsGoodCoord actions paths c → IsVoting c.tree u p →
        IsStepOf actions paths tree p s → K u → (q : Plan) → s ≡ Decides q → K (actor q.path)
    decides_own u p s c good v step its q is = let same = subst (IsStepOf actions paths tree p) is step in
        subst K (sym (ap actor same.0 ∙ actor_is actions paths tree u p.path c good v.asking)) its

    pub tell_heard : (from : ℕ) (a : Asked) (r : Reply) (intents : List (Uid × Intent)) (c : Coord) → IsGoodCoord actions paths c →
        Knows c → Knows (heard from a r intents c).part → Fine (heard from a r intents c).outs
    tell_heard from a r intents c good before knows = by (doing_of a.act c) refl knows
      where
        now : (d : Doing) → doing_of a.act c ≡ Some d → (n : Now) → IsBusy c.tree a.act n → Knows (heard_now from a r intents c n).part →
            Fine (heard_now from a r intents c n).outs
        now d found Idle b k = tt
        now d found (Calling s) b k = one (waits_for_call from a r s)
          where
            one : (w : Bool) → Fine (cond {A = Served Coord (Unit {0})} w (heard_by (heard_call s r c)) (heard_none c)).outs
            one true = tell_step_call s _ _
            one false = tt
        now d found (Committing m) b k = one (waits_for_commit from a r m) k
          where
            one : (w : Bool) → Knows (cond {A = Served Coord (Unit {0})} w
                (heard_by (moved_commit a.act (commit.answered from m r) intents c)) (heard_none c)).part → Fine (cond
                {A = Served Coord (Unit {0})} w (heard_by (moved_commit a.act (commit.answered from m r) intents c)) (heard_none c)).outs
            one true k = tell_moved a.act (commit.answered from m r) intents c (decides_own a.act (plan_of m) (commit.answered from m
                r).step c good b (answer_step actions paths tree from m r) (before.branches a.act b.asking.branch b.asking.found)) k
            one false k = tt

        by : (o : Option Doing) → doing_of a.act c ≡ o → Knows (heard_doing from a r intents c o).part →
            Fine (heard_doing from a r intents c o).outs
        by None is k = tt
        by (Some d) is k = now d is d.now (good.busy a.act d is) k

    tell_give_up : (u : Uid) (intents : List (Uid × Intent)) (c : Coord) → IsGoodCoord actions paths c → Knows c →
        Knows (give_up u intents c).part → Fine (give_up u intents c).outs
    tell_give_up u intents c good before knows = by (doing_of u c) refl knows
      where
        lines : (nodes : List ℕ) → Fine (gaveup_lines u nodes c)
        lines nodes = tell_flat (λ n. says u (λ l. body.GaveUp l n) c) nodes (λ n. tell_lines u (λ l. body.GaveUp l n) c)

        now : (d : Doing) → doing_of u c ≡ Some d → (n : Now) → IsBusy c.tree u n → Knows (gives_up u intents c n).part →
            Fine (gives_up u intents c n).outs
        now d found Idle b k = tt
        now d found (Calling s) b k =
            tell_both (gaveup_lines u (next_node s ∷ []) c) _ (lines (next_node s ∷ [])) (tell_step_call s (given_up s.at) _)
        now d found (Committing m) b k = tell_both (gaveup_lines u (nodes_given_up m) c) _ (lines (nodes_given_up m))
            (tell_moved u (commit.given_up m) intents c (decides_own u (plan_of m) (commit.given_up m).step c good b
            (giveup_step actions paths tree m) (before.branches u b.asking.branch b.asking.found)) k)

        by : (o : Option Doing) → doing_of u c ≡ o → Knows (give_up_doing u intents c o).part → Fine (give_up_doing u intents c o).outs
        by None is k = tt
        by (Some d) is k = now d is d.now (good.busy u d is) k

    tell_commit : (b : Branch) (intents : List (Uid × Intent)) (c : Coord) → branch_of (actor b.path) c.tree ≡ Some b →
        is_some b.ended ≡ false → has_open_child (actor b.path) c.tree ≡ false → IsGoodCoord actions paths c → Knows c →
        Knows (commit_action b intents c).part → Fine (commit_action b intents c).outs
    tell_commit b intents c found opened none good before knows = by b.doomed knows
      where
        u : Uid
        u = actor b.path

        plan : Plan
        plan = plan_for b.path (last_req (doing_of u c)) (root_at (root_of b.path) c) c

        top : b.kind ≢ kind.Serial → b.kind ≢ kind.Nested → Knows (commit_top b.path intents c).part →
            Fine (commit_top b.path intents c).outs
        top unserial unnested k =
            tell_both (says u body.Committing c) (moved_commit u (commit.start plan) intents c).outs (tell_lines u body.Committing c)
            (tell_moved u (commit.start plan) intents c (decides_own u plan (commit.start plan).step c good
            (voting_at actions paths tree b c found opened none unserial unnested good)
            (vote_step actions paths tree (servers_of plan) plan plan (refl, refl)) (before.branches u b found)) k)

        kinds : (k : Kind) → b.kind ≡ k → Knows (commit_open b intents c k).part → Fine (commit_open b intents c k).outs
        kinds kind.Nested is k = tell_ends u ending.Commit body.Committed intents c k
        kinds kind.Serial is k = tell_ends u ending.Commit body.Ended intents c k
        kinds kind.Top is k = top (λ e. let no_way : kind.Top ≡ kind.Serial = sym is ∙ e in
            cc) (λ e. let no_way : kind.Top ≡ kind.Nested = sym is ∙ e in cc) k
        kinds kind.Independent is k = top (λ e. let no_way : kind.Independent ≡ kind.Serial = sym is ∙ e in
            cc) (λ e. let no_way : kind.Independent ≡ kind.Nested = sym is ∙ e in cc) k
        kinds kind.Constituent is k = top (λ e. let no_way : kind.Constituent ≡ kind.Serial = sym is ∙ e in
            cc) (λ e. let no_way : kind.Constituent ≡ kind.Nested = sym is ∙ e in cc) k

        by : (w : Bool) → Knows (cond {A = Did Coord} w (aborts_with u cause.Doomed intents c) (commit_open b intents c b.kind)).part →
            Fine (cond {A = Did Coord} w (aborts_with u cause.Doomed intents c) (commit_open b intents c b.kind)).outs
        by true k = tell_ends u ending.Abort (λ l. body.Aborted l cause.Doomed) intents c k
        by false k = kinds b.kind refl k

    pub tell_acts : (intents : List (Uid × Intent)) (c : Coord) → IsGoodCoord actions paths c → (hd : Header) (i : Input) →
        refusal_up hd i c ≡ None → Knows c → Knows (acts i intents c).part → Fine (acts i intents c).outs
    tell_acts intents c good hd (input.Begin l k parent) none before knows = (tt, tt)
    tell_acts intents c good hd (input.Call l x o) none before knows = by (branch_named l c)
      where
        by : (f : Option Branch) → Fine (on_branch (λ b. call b.path x o c) c f).outs
        by None = tt
        by (Some b) =
            let r = root_at (root_of b.path) c in
            let old = keeping_of x r in
            let k = renewed (is_free (root_of b.path) (actor b.path) x c) old old.kept in
            tell_goes (call_steps b.path x o (next_req (actor b.path) c) r c k)
            (on_root (root_of b.path) (with_keeping x k) (record c { tree = uses_object b.path x c.tree }))
    tell_acts intents c good hd (input.Include l x s) none before knows = by (branch_named l c)
      where
        by : (f : Option Branch) → Fine (on_branch (λ b. include b.path x s c) c f).outs
        by None = tt
        by (Some b) = tell_goes (start b.path x (calls.Include s) None unbound (next_req (actor b.path) c))
            (record c { tree = uses_object b.path x c.tree })
    tell_acts intents c good hd (input.Commit l) none before knows = by (branch_named l c) refl none knows
      where
        by : (f : Option Branch) → branch_named l c ≡ f → refused_by commit_reasons c f ≡ None →
            Knows (on_branch (λ b. commit_action b intents c) c f).part → Fine (on_branch (λ b. commit_action b intents c) c f).outs
        by None is e k = tt
        by (Some b) is e k =
            let r6 : is_some b.ended ≡ false = (off (commit_reasons b c) e).0 in
            let r9 : has_open_child (actor b.path) c.tree ≡ false = off_third (commit_reasons b c) e in
            tell_commit b intents c (named_found actions paths tree intents c good l b is) r6 r9 good before k
    tell_acts intents c good hd (input.Abort l) none before knows = by (branch_named l c) knows
      where
        by : (f : Option Branch) → Knows (on_branch (λ b. abort_action (actor b.path) intents c) c f).part →
            Fine (on_branch (λ b. abort_action (actor b.path) intents c) c f).outs
        by None k = tt
        by (Some b) k = tell_abort (actor b.path) intents c k
    tell_acts intents c good hd (input.GiveUp l) none before knows = by (branch_named l c) knows
      where
        by : (f : Option Branch) → Knows (on_branch (λ b. give_up (actor b.path) intents c) c f).part →
            Fine (on_branch (λ b. give_up (actor b.path) intents c) c f).outs
        by None k = tt
        by (Some b) k = tell_give_up (actor b.path) intents c good before k
    tell_acts intents c good hd (input.Frame k from m) none before knows = tt
    tell_acts intents c good hd input.Tick none before knows = tt
    tell_acts intents c good hd input.Restart none before knows = tt
    tell_acts intents c good hd input.Crash none before knows = tt
    tell_acts intents c good hd (input.Show x) none before knows = tt

  -- ---- what is sent again, acknowledgements, queries and records

  pub tell_again : (ds : List Doing) (c : Coord) → Fine (again_all ds c).outs
  tell_again [] c = tt
  tell_again (d ∷ ds) c =
      tell_both (again_now c d.now).outs (again_all ds (again_now c d.now).part).outs (now d.now) (tell_again ds (again_now c d.now).part)
    where
      now : (n : Now) → Fine (again_now c n).outs
      now Idle = tt
      now (Calling s) = tell_step s c
      now (Committing m) = tell_asks (plan_of m).path (plan_of m).req (waiting m) c

  pub tell_acked : (from : ℕ) (u : Uid) (intents : List (Uid × Intent)) (c : Coord) → Knows c → Fine (acked from u intents c).outs
  tell_acked from u intents c knows = by (at_uid u c.telling)
    where
      gone : (o : Option Intent) → Fine (tolds_let_go u (without_uid u intents) c o)
      gone None = tt
      gone (Some i) = one (not (uid_eq i.root u)) (is_over (branch_of i.root c.tree)) refl
        where
          root : (o : Option Branch) → branch_of i.root c.tree ≡ o → is_over o ≡ true → K i.root
          root None at is = let no_way : false ≡ true = is in cc
          root (Some x) at is = knows.branches i.root x at

          one : (a b : Bool) → is_over (branch_of i.root c.tree) ≡ b → Fine
              (cond (a && b) (tell_all i.root false ((i.root, ending.Abort) ∷ []) (let_go i.root (without_uid u intents) c i.nodes)) [])
          one true true is = tell_tells i.root false ((i.root, ending.Abort) ∷ []) (let_go i.root (without_uid u intents) c i.nodes)
              (tell_one i.root ending.Abort (root (branch_of i.root c.tree) refl is))
          one true false is = tt
          one false b is = tt

      left : (i : Intent) (ns : List ℕ) → Fine (acked_left u i intents c ns).outs
      left i [] = (tt, gone (at_uid u intents))
      left i (n ∷ ns) = tt

      by : (o : Option Intent) → Fine (acked_by from u intents c o).outs
      by None = tt
      by (Some i) = one (has i.nodes from)
        where
          one : (b : Bool) → Fine (cond {A = Served Coord (Unit {0})} b (acked_left u i intents c (without_number from i.nodes))
              (record { part = c; outs = []; reply = None })).outs
          one true = left i (without_number from i.nodes)
          one false = tt

  pub tell_query : (from : ℕ) (u : Uid) (intents : List (Uid × Intent)) (c : Coord) → K u → Fine (answer_query from u intents c)
  tell_query from u intents c its = first (is_open u c.tree || is_deferred u intents from)
    where
      one : (r : Uid) (ack : Bool) (how : End) → Fine (tell r ack ((u, how) ∷ []) from ∷ [])
      one r ack how = (tell_one u how its, tt)

      decided : Fine (answer_decided from u c)
      decided = by (is_kept_commit from u c)
        where
          by : (b : Bool) → Fine (cond b (tell (root_or_self u (branch_of u c.tree)) false ((u, ending.Commit) ∷ []) from ∷ [])
              (tell (root_or_self u (branch_of u c.tree)) false ((u, ending.Abort) ∷ []) from ∷ []))
          by true = one (root_or_self u (branch_of u c.tree)) false ending.Commit
          by false = one (root_or_self u (branch_of u c.tree)) false ending.Abort

      recorded : (o : Option Intent) → Fine (answer_recorded from u c o)
      recorded None = decided
      recorded (Some i) = by (has i.nodes from)
        where
          by : (b : Bool) → Fine (cond b (tell i.root true ((u, ending.Commit) ∷ []) from ∷ []) (answer_decided from u c))
          by true = one i.root true ending.Commit
          by false = decided

      first : (b : Bool) → Fine (cond b [] (answer_recorded from u c (at_uid u intents)))
      first true = tt
      first false = recorded (at_uid u intents)

  pub tell_records : (records : List (Uid × Intent)) → ((u : Uid) (i : Intent) → In {X = Uid × Intent} (u, i) records → K u) →
      Fine (tolds_again records)
  tell_records [] each = tt
  tell_records (e ∷ es) each = tell_both (tell_all e.1.root true ((e.0, ending.Commit) ∷ []) e.1.nodes) (tolds_again es)
      (tell_tells e.1.root true ((e.0, ending.Commit) ∷ []) e.1.nodes (tell_one e.0 ending.Commit (each e.0 e.1 (inl refl))))
      (tell_records es (λ u i there. each u i (inr there)))
