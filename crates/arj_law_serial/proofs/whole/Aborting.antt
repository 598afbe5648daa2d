-- Of whom a coordinator tells an abort: who was aborted, whose root has ended, or who is committed, at a node that took no part. And
-- a record is put of a top before anything is sent, while its root is open.
use Rattle.arj_law_parts.proofs.Words
use Words.{◌≡◌, ◌≢◌, ◌⊎◌, ◌+◌, ℕ, List, [], ◌∷◌, ◌++◌, Bool, true, false, cond, not, ◌&&◌, ◌||◌, map, length, Option, Some, None, Contains}
use Words.{refl, sym, ◌∙◌, ap, subst, inl, inr, ⊎_elim, ⊤, is_some, AllByRecursion, flat_map, or_parts, uid_cases, In, in_from, in_to, Uid}
use Words.{End, Kind, Path, Body, Label, Ask, Asked, Head, Header, before_last, first_uid, request, tops_of, uid_eq, uids_of, Reply, actor}
use Words.{again_all, again_now, asks_all, asks_node, asks_step, begin_action, call, call_steps, commit_action, commit_open, commit_top}
use Words.{commits_in, gaveup_lines, give_up, give_up_doing, gives_up, goes_on, heard, heard_by, heard_call, heard_doing, heard_none}
use Words.{heard_now, include, last_req, mark_lines, moved_commit, next_req, renewed, step_call, step_commit, waits_for_call}
use Words.{waits_for_commit, CallStep, Ended, On, Steps, given_up, next_ask, next_node, start, Aborts, Asks, CommitStep, Decides, Marked}
use Words.{Plan, Stays, has_record, nodes_given_up, participants, plan_of, servers_of, waiting, Calling, Committing, Coord, Doing, Idle}
use Words.{Now, doing_of, is_constituent_branch, is_free, keeping_of, nodes_sent, on_doing, on_root, plan_for, root_at, with_keeping, Did}
use Words.{Do, Effect, Intent, PutIntent, Say, Send, Served, Work, abort_action, aborts_with, acked, acked_by, acked_left, all_aborted}
use Words.{answer_decided, answer_query, answer_recorded, decide, decided_told, ended, ends_with, is_deferred, is_kept_commit, let_go}
use Words.{root_after, root_or_self, say_for, says, tell, tell_all, took_part, tolds_by, tolds_let_go, tolds_of, tolds_of_branch, up_to}
use Words.{at_uid, has, put_uid, unbound, without_number, without_uid, Input, acts, branch_named, commit_reasons, on_branch, parent_of}
use Words.{refusal_up, refused_by, Branch, branch_of, ended_at, ended_branch, ended_so, ends_of, has_end, has_open_child}
use Words.{is_open, is_open_branch, is_own, open_below, root_of, uses_object, is_constituent}
use Words.ask
use Words.ending
use Words.kind
use Words.body
use Words.cause
use Words.calls
use Words.commit
use Words.effect
use Words.input
use Rattle.arj_law_serial.proofs.Terms
use Terms.{is_over, Action, AreBegun, action_of, act_of, IsBusy, IsGoodCoord, IsOver, IsVoting, IsTree, Paths, IsSure, IsDecided}
use Terms.{serial_alone, where_stands, named_found, off, off_third, none_in, IsStepOf, actor_is, answer_step, giveup_step, on_tree}
use Terms.{vote_step, voting_at, work_there, doing_here, AreIdle, HasPart, told_in}
use Rattle.arj_law_lock_view.proofs.facts.PartSteps.{ended_found, ended_others, ended_work}
use Rattle.arj_law_parts.specs.parts.Actions.{Stands}
use Rattle.arj_law_runs.specs.journal.Knows.{IsIdle}
use Rattle.arj_law_serial.specs.whole.Aborts.{IsSpent}

some_is : {A : Type 0} {a b : A} → Some a ≡ Some b → a ≡ b
some_is {A} {a} {b} is = let k : ◌≡◌ {A = Option A} (Some a) (Some b) = is in cc

none_at : {A P : Type 0} {o : Option A} {x : A} → o ≡ None → o ≡ Some x → P
none_at {A} {P} {o} {x} none is = let no_way : ◌≡◌ {A = Option A} None (Some x) = sym none ∙ is in absurd (cc no_way)

never : {P : Type 0} {b : Bool} → b ≡ true → b ≡ false → P
never {P} {b} holds fails = let no_way : true ≡ false = sym holds ∙ fails in absurd (cc no_way)

-- ---- ends

-- who ended so, or wasn't there
ends_now : (x : Uid) (e : End) (c : Coord) (b : Branch) → branch_of x (ended x e c).tree ≡ Some b → b.ended ≡ Some e
ends_now x e c b found = by (branch_of x c.tree) refl
  where
    same : (ended x e c).tree ≡ ended_at x e c.tree
    same = on_tree x (λ (d : Doing). record d { now = Idle }) (record c { tree = ended_at x e c.tree })

    by : (o : Option Branch) → branch_of x c.tree ≡ o → b.ended ≡ Some e
    by None none = none_at (ap (branch_of x) same ∙ ap (λ o. branch_of x (ended_branch x e c.tree o)) none ∙ none) found
    by (Some old) there = ap (λ (z : Branch). z.ended) (some_is (sym found ∙ ended_found x e c old there))

-- aborts one after another abort each
module _ (w : Uid) where
  abbrev WasAborted : Coord → Type 0
  WasAborted c = (b : Branch) → branch_of w c.tree ≡ Some b → b.ended ≡ Some ending.Abort

  one_abort : (x : Uid) (c : Coord) → WasAborted c → WasAborted (ended x ending.Abort c)
  one_abort x c was b found = ⊎_elim (λ same. ends_now x ending.Abort c b (ap (λ z. branch_of z (ended x ending.Abort c).tree) (sym same)
      ∙ found)) (λ other. was b (sym (ended_others x ending.Abort c w other) ∙ found)) (uid_cases w x)

  still_aborted : (us : List Uid) (c : Coord) → WasAborted c → WasAborted (all_aborted us c).part
  still_aborted [] c was = was
  still_aborted (x ∷ us) c was = still_aborted us (ended x ending.Abort c) (one_abort x c was)

  all_abort : (us : List Uid) (c : Coord) → In w us → WasAborted (all_aborted us c).part
  all_abort [] c i = absurd i
  all_abort (x ∷ us) c (inl same) = still_aborted us (ended x ending.Abort c)
      (λ b found. ends_now x ending.Abort c b (ap (λ z. branch_of z (ended x ending.Abort c).tree) same ∙ found))
  all_abort (x ∷ us) c (inr i) = all_abort us (ended x ending.Abort c) i

-- ---- effects

abbrev pub IsNoPut : Work → Type 0
IsNoPut (PutIntent u i) = ⊥
IsNoPut _ = ⊤

module _ (begun : List Action) where
  -- it was begun at this node before it last started
  abbrev pub IsEarlier : Coord → Uid → Type 0
  IsEarlier c u = (is_own u c.tree ≡ false) × (u.node ≡ c.tree.node) × ((a : Action) × Contains begun a × (act_of a ≡ u))

  -- The action has ended here, and who is told an abort of it has no part in it, unless it was aborted or its root has ended; or it began
  -- earlier.
  abbrev pub IsGone : Coord → Uid → ℕ → Type 0
  IsGone c u to = (IsOver u c.tree × (IsSpent begun u c.tree ⊎ (HasPart c u to → ⊥))) ⊎ IsEarlier c u

  -- an abort that is told is so, and no record is put
  abbrev pub TellsSo : Coord → Effect → Type 0
  TellsSo c (Send to m) = (u : Uid) → Contains {X = Uid × End} (told_in m) (u, ending.Abort) → IsGone c u to
  TellsSo c (Say b) = ⊤
  TellsSo c (Do w) = IsNoPut w

  abbrev pub AllTell : Coord → List Effect → Type 0
  AllTell c outs = AllByRecursion (TellsSo c) outs

  -- a record is of a top that is its own root, or whose root is open
  abbrev pub IsPutSo : Coord → Uid → Intent → Type 0
  IsPutSo c w i = (i.root ≡ w) ⊎ (is_open i.root c.tree ≡ true)

  abbrev pub RunsFrom : Work → Coord → Coord → List Effect → Type 0
  RunsFrom (PutIntent w i) c e es = IsPutSo c w i × AllTell e es × AreIdle es
  RunsFrom w c e es = AllTell e es

  -- effects of a step from one coordinator to another: before a record is put nothing is sent, and behind it nothing is done
  abbrev pub Runs : Coord → Coord → List Effect → Type 0
  Runs c e [] = ⊤
  Runs c e (Say b ∷ es) = Runs c e es
  Runs c e (Do w ∷ es) = RunsFrom w c e es
  Runs c e (Send to m ∷ es) = AllTell e (Send to m ∷ es)

  pub plain_runs : (c e : Coord) (outs : List Effect) → AllTell e outs → Runs c e outs
  plain_runs c e [] all = tt
  plain_runs c e (Say b ∷ es) all = plain_runs c e es all.1
  plain_runs c e (Send to m ∷ es) all = all
  plain_runs c e (Do w ∷ es) all = by w all.0
    where
      by : (w : Work) → IsNoPut w → RunsFrom w c e es
      by (PutIntent u i) none = absurd none
      by effect.Look none = all.1
      by (effect.PutInc i) none = all.1
      by (effect.Prepare r u states) none = all.1
      by (effect.Commit r u) none = all.1
      by (effect.Abort r u) none = all.1
      by (effect.RemoveIntent u) none = all.1

  abbrev IsLine : Effect → Type 0
  IsLine (Say b) = ⊤
  IsLine _ = ⊥

  abbrev AreLines : List Effect → Type 0
  AreLines es = AllByRecursion IsLine es

  lines_both : (es fs : List Effect) → AreLines es → AreLines fs → AreLines (es ++ fs)
  lines_both [] fs a b = b
  lines_both (e ∷ es) fs a b = (a.0, lines_both es fs a.1 b)

  lines_flat : {A : Type 0} (f : A → List Effect) (items : List A) → ((x : A) → AreLines (f x)) → AreLines (flat_map f items)
  lines_flat f [] each = tt
  lines_flat f (x ∷ xs) each = lines_both (f x) (flat_map f xs) (each x) (lines_flat f xs each)

  lines_say : (u : Uid) (f : Label → Body) (d : Coord) → AreLines (says u f d)
  lines_say u f d = by (doing_of u d)
    where
      by : (o : Option Doing) → AreLines (say_for f o)
      by None = tt
      by (Some x) = (tt, tt)

  -- lines count for nothing
  runs_behind : (c e : Coord) (xs ys : List Effect) → AreLines xs → Runs c e ys → Runs c e (xs ++ ys)
  runs_behind c e [] ys a b = b
  runs_behind c e (Say z ∷ xs) ys a b = runs_behind c e xs ys a.1 b
  runs_behind c e (Do w ∷ xs) ys a b = absurd a.0
  runs_behind c e (Send to m ∷ xs) ys a b = absurd a.0

  module _ (c : Coord) where
    pub tell_both : (es fs : List Effect) → AllTell c es → AllTell c fs → AllTell c (es ++ fs)
    tell_both [] fs a b = b
    tell_both (e ∷ es) fs a b = (a.0, tell_both es fs a.1 b)

    tell_map : {A : Type 0} (f : A → Effect) (items : List A) → ((x : A) → TellsSo c (f x)) → AllTell c (map f items)
    tell_map f [] each = tt
    tell_map f (x ∷ xs) each = (each x, tell_map f xs each)

    tell_flat : {A : Type 0} (f : A → List Effect) (items : List A) → ((x : A) → In x items → AllTell c (f x)) →
        AllTell c (flat_map f items)
    tell_flat f [] each = tt
    tell_flat f (x ∷ xs) each = tell_both (f x) (flat_map f xs) (each x (inl refl)) (tell_flat f xs (λ y i. each y (inr i)))

    tell_lines : (es : List Effect) → AreLines es → AllTell c es
    tell_lines [] a = tt
    tell_lines (Say b ∷ es) a = (tt, tell_lines es a.1)
    tell_lines (Do w ∷ es) a = absurd a.0
    tell_lines (Send to m ∷ es) a = absurd a.0

    tell_tells : (root : Uid) (ack : Bool) (ends : List (Uid × End)) (nodes : List ℕ) →
        ((u : Uid) (n : ℕ) → Contains ends (u, ending.Abort) → IsGone c u n) → AllTell c (tell_all root ack ends nodes)
    tell_tells root ack ends nodes each = tell_map (tell root ack ends) nodes (λ n u i. each u n i)

    tell_one : (u : Uid) (how : End) (n : ℕ) → (how ≡ ending.Abort → IsGone c u n) → (w : Uid) →
        Contains {X = Uid × End} ((u, how) ∷ []) (w, ending.Abort) → IsGone c w n
    tell_one u how n its w i = by (in_from (w, ending.Abort) ((u, how) ∷ []) i)
      where
        by : In {X = Uid × End} (w, ending.Abort) ((u, how) ∷ []) → IsGone c w n
        by (inl same) = subst (λ z. IsGone c z n) (ap (λ (x : Uid × End). x.0) same) (its (ap (λ (x : Uid × End). x.1) same))
        by (inr none) = absurd none

    tell_request : (to : ℕ) (h : Head) (a : Ask) → TellsSo c (Send to (request h a))
    tell_request to h (ask.Bind x include_it avoid) u i = none_in u ending.Abort i
    tell_request to h (ask.Load x) u i = none_in u ending.Abort i
    tell_request to h (ask.Activate b st) u i = none_in u ending.Abort i
    tell_request to h (ask.Record x b j g) u i = none_in u ending.Abort i
    tell_request to h (ask.Invoke x b j ends o) u i = none_in u ending.Abort i
    tell_request to h (ask.Vote j ties ends) u i = none_in u ending.Abort i
    tell_request to h (ask.Prepare states) u i = none_in u ending.Abort i
    tell_request to h (ask.Confirm g x y) u i = none_in u ending.Abort i

    tell_asks : (p : Path) (req : ℕ) (as_asked : List (ℕ × Ask)) (d : Coord) → AllTell c (asks_all p req as_asked d).outs
    tell_asks p req [] d = tt
    tell_asks p req (a ∷ rest) d = (tell_request a.0 (record { path = p; req = req }) a.1, tell_asks p req rest (asks_node p req a d).part)

    tell_step : (s : Steps) (d : Coord) → AllTell c (asks_step s d).outs
    tell_step s d = (tell_request (next_node s) (record { path = s.path; req = s.req }) (next_ask (ends_of (root_of s.path) d.tree) s), tt)

    tell_goes : (s : Steps) (d : Coord) → AllTell c (goes_on s d).outs
    tell_goes s d = tell_step s (on_doing (actor s.path) (λ (x : Doing). record x { req = s.req; now = Calling s }) d)

    tell_step_call : (s : Steps) (t : CallStep) (d : Coord) → AllTell c (step_call s t d).outs
    tell_step_call s (On at) d = tell_goes (record s { req = s.req + 1; at = at }) d
    tell_step_call s (Ended e) d = tell_lines (says (actor s.path) _ d) (lines_say (actor s.path) _ d)

    pub tell_again : (ds : List Doing) (d : Coord) → AllTell c (again_all ds d).outs
    tell_again [] d = tt
    tell_again (x ∷ ds) d =
        tell_both (again_now d x.now).outs (again_all ds (again_now d x.now).part).outs (now x.now) (tell_again ds (again_now d x.now).part)
      where
        now : (n : Now) → AllTell c (again_now d n).outs
        now Idle = tt
        now (Calling s) = tell_step s d
        now (Committing m) = tell_asks (plan_of m).path (plan_of m).req (waiting m) d

  -- ---- ends

  up_to_in : (u : Uid) (x : Uid × End) (es : List (Uid × End)) → In x (up_to u es) → In x es
  up_to_in u x [] i = i
  up_to_in u x (e ∷ es) i = by (uid_eq e.0 u) (up_to_in u x es) i
    where
      by : (b : Bool) → (In x (up_to u es) → In x es) → In x (cond b (e ∷ []) (e ∷ up_to u es)) → In x (e ∷ es)
      by true ih (inl same) = inl same
      by true ih (inr none) = absurd none
      by false ih (inl same) = inl same
      by false ih (inr j) = inr (ih j)

  module _ (started : AreBegun begun) (paths : Paths) (tree : IsTree paths) where
    -- a coordinator that is good and sure of ends
    abbrev pub IsFirm : Coord → Type 0
    IsFirm c = IsGoodCoord begun paths c × IsSure c

    gone_aborted : (c : Coord) (u : Uid) (n : ℕ) → IsDecided u ending.Abort c.tree → IsGone c u n
    gone_aborted c u n d = inl ((d.0, d.1, ap is_some d.2), inl (inl d))

    -- who is its own root
    gone_root : (c : Coord) → IsFirm c → (u : Uid) (n : ℕ) (b : Branch) → branch_of u c.tree ≡ Some b → is_some b.ended ≡ true →
        root_of b.path ≡ u → IsGone c u n
    gone_root c firm u n b found over own = inl (
      (b, found, over),
      inl (inr (
        action_of b,
        firm.0.known u b found,
        firm.0.tree.lists.places u b found,
        subst (λ w. IsOver w c.tree) (sym own) (b, found, over),
      )),
    )

    tell_tolds : (intents : List (Uid × Intent)) (c : Coord) (u : Uid) → IsFirm c → ((b : Branch) → branch_of u c.tree ≡ Some b → (is_some
        b.ended ≡ true) × (b.kind ≢ kind.Serial → b.kind ≢ kind.Nested → b.ended ≡ Some ending.Abort)) → AllTell c (tolds_of intents c u)
    tell_tolds intents c u firm its = by (branch_of u c.tree) refl
      where
        aborted : (b : Branch) → branch_of u c.tree ≡ Some b → b.kind ≢ kind.Serial → b.kind ≢ kind.Nested →
            AllTell c (tell_all (root_of b.path) false ((u, ending.Abort) ∷ []) (nodes_sent u (root_at (root_of b.path) c)))
        aborted b is unserial unnested = tell_tells c (root_of b.path) false ((u, ending.Abort) ∷ [])
            _ (λ w n. tell_one c u ending.Abort n (λ same. gone_aborted c u n (b, is, (its b is).1 unserial unnested)) w)

        kinds : (b : Branch) → branch_of u c.tree ≡ Some b → (k : Kind) → b.kind ≡ k → AllTell c (tolds_by u k b.path intents c)
        kinds b is kind.Nested how =
            tell_tells c (root_of b.path) false (up_to u (ends_of (root_of b.path) c.tree)) _ (λ w n i. gone_aborted c w n (firm.1.lists
            (root_of b.path) w ending.Abort (in_to (w, ending.Abort) (ends_of (root_of b.path) c.tree) (up_to_in u (w, ending.Abort)
            (ends_of (root_of b.path) c.tree) (in_from (w, ending.Abort) (up_to u (ends_of (root_of b.path) c.tree)) i)))))
        kinds b is kind.Serial how =
            let alone = serial_alone begun started (action_of b) (in_from (action_of b) begun (firm.0.known u b is)) how in
            tell_tells c u false ((u, ending.Abort) ∷ []) _ (λ w n. tell_one c u ending.Abort n
            (λ same. gone_root c firm u n b is (its b is).0 (ap first_uid alone.0 ∙ firm.0.tree.lists.places u b is)) w)
        kinds b is kind.Top how = aborted b is (λ e. cc (sym how ∙ e)) (λ e. cc (sym how ∙ e))
        kinds b is kind.Independent how = aborted b is (λ e. cc (sym how ∙ e)) (λ e. cc (sym how ∙ e))
        kinds b is kind.Constituent how = aborted b is (λ e. cc (sym how ∙ e)) (λ e. cc (sym how ∙ e))

        by : (o : Option Branch) → branch_of u c.tree ≡ o → AllTell c (tolds_of_branch u intents c o)
        by None is = tt
        by (Some b) is = kinds b is b.kind refl

    -- an action ends, as an abort or as one that isn't a top
    tell_ends : (u : Uid) (e : End) (f : Label → Body) (intents : List (Uid × Intent)) (c : Coord) (b : Branch) →
        branch_of u c.tree ≡ Some b → (b.kind ≢ kind.Serial → b.kind ≢ kind.Nested → e ≡ ending.Abort) → IsFirm (ended u e c) →
        AllTell (ended u e c) (ends_with u e f intents c).outs
    tell_ends u e f intents c b found how firm = tell_both (ended u e c) (says u f c) (tolds_of intents (ended u e c) u)
        (tell_lines (ended u e c) (says u f c) (lines_say u f c)) (tell_tolds intents (ended u e c) u firm its)
      where
        its : (x : Branch) → branch_of u (ended u e c).tree ≡ Some x →
            (is_some x.ended ≡ true) × (x.kind ≢ kind.Serial → x.kind ≢ kind.Nested → x.ended ≡ Some ending.Abort)
        its x at =
            let so = ends_now u e c x at in
            let same : record b { ended = Some e } ≡ x = some_is (sym (ended_found u e c b found) ∙ at) in (
              ap is_some so,
              λ unserial unnested. so ∙ ap (λ (z : End). Some z) (how (λ s. unserial (ap (λ (z : Branch). z.kind) (sym same) ∙ s))
                  (λ s. unnested (ap (λ (z : Branch). z.kind) (sym same) ∙ s))),
            )

    tell_abort : (u : Uid) (intents : List (Uid × Intent)) (c : Coord) → IsFirm (abort_action u intents c).part →
        AllTell (abort_action u intents c).part (abort_action u intents c).outs
    tell_abort u intents c firm =
        let us = open_below u c.tree ++ u ∷ [] in
        let t = all_aborted us c in
        tell_both t.part t.outs (flat_map (tolds_of intents t.part) us) (tell_lines t.part t.outs (lines us c))
        (tell_flat t.part (tolds_of intents t.part) us (λ w i.
        tell_tolds intents t.part w firm (λ b found. let so = all_abort w us c i b found in (ap is_some so, λ unserial unnested. so))))
      where
        lines : (ws : List Uid) (d : Coord) → AreLines (all_aborted ws d).outs
        lines [] d = tt
        lines (w ∷ ws) d = lines_both (says w (λ l. body.Aborted l cause.Asked) d) (all_aborted ws (ended w ending.Abort d)).outs
            (lines_say w (λ l. body.Aborted l cause.Asked) d) (lines ws (ended w ending.Abort d))

    -- ---- the decision

    module _ (p : Plan) (c : Coord) (b : Branch) (found : branch_of (actor p.path) c.tree ≡ Some b) (d : Doing) (works : doing_of
        (actor p.path) c ≡ Some d) (put : IsPutSo c (actor p.path) (record { root = root_of p.path; nodes = participants p })) where
      abbrev w : Uid
      w = actor p.path

      abbrev e : Coord
      e = ended w ending.Commit c

      abbrev took : Coord
      took = on_doing w (λ (x : Doing). record x { took = participants p }) e

      abbrev r : Coord
      r = on_root (root_of p.path) (root_after p) took

      ended_it : branch_of w r.tree ≡ Some (record b { ended = Some ending.Commit })
      ended_it = ap (branch_of w) (on_tree w (λ (x : Doing). record x { took = participants p }) e) ∙ ended_found w ending.Commit c b found

      works_it : doing_of w r ≡ Some (record d { now = Idle; took = participants p })
      works_it = doing_here w (λ (x : Doing). record x { took = participants p }) e (record d { now = Idle })
          (ended_work w ending.Commit c d works)

      -- at a coordinator with this tree and this work
      module _ (v : Coord) (same : branch_of w v.tree ≡ Some (record b { ended = Some ending.Commit }))
          (same_work : doing_of w v ≡ Some (record d { now = Idle; took = participants p })) where
        gone : (n : ℕ) → has (participants p) n ≡ false → IsGone v w n
        gone n out = inl (
          (record b { ended = Some ending.Commit }, same, refl),
          inr (λ h. never (sym (ap (λ (x : Doing). has x.took n) (some_is (sym h.works ∙ same_work)))
              ∙ h.took (ap (λ (x : Branch). x.ended) (some_is (sym h.found ∙ same)))) out),
        )

        told_so : (n : ℕ) → TellsSo v (decided_told (root_of p.path) w p n)
        told_so n = by (has (participants p) n) refl
          where
            by : (x : Bool) → has (participants p) n ≡ x → TellsSo v (cond x
                (tell (root_of p.path) (has_record p) ((w, ending.Commit) ∷ []) n) (tell (root_of p.path) false ((w, ending.Abort) ∷ []) n))
            by true is = λ u. tell_one v w ending.Commit n (λ no. absurd (cc no)) u
            by false is = λ u. tell_one v w ending.Abort n (λ it. gone n is) u

        rest : AllTell v (says w body.Committed c ++ map (decided_told (root_of p.path) w p) p.sent)
        rest = tell_both v (says w body.Committed c) (map (decided_told (root_of p.path) w p) p.sent) (tell_lines v
            (says w body.Committed c) (lines_say w body.Committed c)) (tell_map v (decided_told (root_of p.path) w p) p.sent told_so)

      idle : AreIdle (says w body.Committed c ++ map (decided_told (root_of p.path) w p) p.sent)
      idle = both (says w body.Committed c) (map (decided_told (root_of p.path) w p) p.sent)
          (lines (says w body.Committed c) (lines_say w body.Committed c)) (tolds p.sent)
        where
          both : (xs ys : List Effect) → AreIdle xs → AreIdle ys → AreIdle (xs ++ ys)
          both [] ys a b = b
          both (x ∷ xs) ys a b = (a.0, both xs ys a.1 b)

          lines : (xs : List Effect) → AreLines xs → AreIdle xs
          lines [] a = tt
          lines (Say z ∷ xs) a = (tt, lines xs a.1)
          lines (Do z ∷ xs) a = absurd a.0
          lines (Send to m ∷ xs) a = absurd a.0

          tolds : (ns : List ℕ) → AreIdle (map (decided_told (root_of p.path) w p) ns)
          tolds [] = tt
          tolds (n ∷ ns) = (by (has (participants p) n), tolds ns)
            where
              by : (x : Bool) → IsIdle (cond x (tell (root_of p.path) (has_record p) ((w, ending.Commit) ∷ []) n)
                  (tell (root_of p.path) false ((w, ending.Abort) ∷ []) n))
              by true = tt
              by false = tt

      decide_runs : Runs c (decide p c).part (decide p c).outs
      decide_runs = by (has_record p)
        where
          i : Intent
          i = record { root = root_of p.path; nodes = participants p }

          told : Coord
          told = record r { telling = put_uid w i r.telling }

          by : (x : Bool) → Runs c (cond x told r)
              (cond x (Do (PutIntent w i) ∷ []) [] ++ says w body.Committed c ++ map (decided_told (root_of p.path) w p) p.sent)
          by true = (put, rest told ended_it works_it, idle)
          by false = plain_runs c r (says w body.Committed c ++ map (decided_told (root_of p.path) w p) p.sent) (rest r ended_it works_it)

    -- ---- commits

    -- who commits is its own root, or its root is open
    put_so : (u : Uid) (p : Plan) (c : Coord) → IsGoodCoord begun paths c → IsVoting c.tree u p → (i : Intent) → i.root ≡ root_of p.path →
        IsPutSo c (actor p.path) i
    put_so u p c good v i same = by v.asking.branch.kind refl (where_stands begun started (action_of v.asking.branch)
        (in_from (action_of v.asking.branch) begun (good.known u v.asking.branch v.asking.found)))
      where
        a : Action
        a = action_of v.asking.branch

        root : i.root ≡ root_of a.path
        root = same ∙ ap root_of (sym v.asking.path)

        alone : uids_of a.path ≡ act_of a ∷ [] → IsPutSo c (actor p.path) i
        alone path = inl (root ∙ ap first_uid path ∙ ap actor v.asking.path)

        by : (k : Kind) → v.asking.branch.kind ≡ k → Stands begun a k → IsPutSo c (actor p.path) i
        by kind.Nested is s = absurd (v.top v.asking.branch v.asking.found is)
        by kind.Serial is s = absurd (v.asking.unserial is)
        by kind.Top is s = alone s.0
        by kind.Independent is s = alone s.0
        by kind.Constituent is s =
            let up = serial_alone begun started s.0 (in_from s.0 begun s.1) s.2 in
            let path : uids_of a.path ≡ act_of s.0 ∷ act_of a ∷ [] = s.3 ∙ ap (λ us. us ++ act_of a ∷ []) up.0 in
            let parent : before_last (paths u) ≡ Some (act_of s.0) = ap before_last
            (sym (good.tree.lists.paths_are u v.asking.branch v.asking.found) ∙ path) in
            let h = good.tree.lists.parents u (act_of s.0) v.asking.branch v.asking.found parent in
            inr (ap (λ z. is_open z c.tree) (root ∙ ap first_uid path) ∙ ap is_open_branch h.1 ∙ still h.0 h.1 parent)
          where
            still : (x : Branch) → branch_of (act_of s.0) c.tree ≡ Some x → before_last (paths u) ≡ Some (act_of s.0) →
                not (is_some x.ended) ≡ true
            still x at parent = opened (is_some x.ended) refl
              where
                opened : (z : Bool) → is_some x.ended ≡ z → not z ≡ true
                opened false is = refl
                opened true is = never (good.tree.closed u (act_of s.0) v.asking.branch x v.asking.found parent at is) v.asking.opened

    step_runs : (u : Uid) (p : Plan) (s : CommitStep) (intents : List (Uid × Intent)) (c : Coord) → IsGoodCoord begun paths c →
        IsVoting c.tree u p → IsStepOf begun paths tree p s → (d : Doing) → doing_of u c ≡ Some d →
        IsFirm (step_commit u s intents c).part → Runs c (step_commit u s intents c).part (step_commit u s intents c).outs
    step_runs u p (Stays m) intents c good v of d works firm = tt
    step_runs u p (Asks m) intents c good v of d works firm = let e = (step_commit u (Asks m) intents c).part in
        plain_runs c e (asks_all (plan_of m).path (plan_of m).req (waiting m) (commits_in u m c)).outs
        (tell_asks e (plan_of m).path (plan_of m).req (waiting m) (commits_in u m c))
    step_runs u p (Decides q) intents c good v of d works firm =
        let who : actor q.path ≡ u = ap actor of.0 ∙ actor_is begun paths tree u p.path c good v.asking in
        decide_runs q c v.asking.branch (ap (λ z. branch_of z c.tree) who ∙ v.asking.found) d (ap (λ z. doing_of z c) who ∙ works)
        (put_here who)
      where
        put_here : actor q.path ≡ u → IsPutSo c (actor q.path) (record { root = root_of q.path; nodes = participants q })
        put_here who = subst (λ z. IsPutSo c z (record { root = root_of q.path; nodes = participants q })) (ap actor (sym of.0))
            (put_so u p c good v (record { root = root_of q.path; nodes = participants q }) (ap root_of of.0))
    step_runs u p (Aborts why q) intents c good v of d works firm = plain_runs c (ended u ending.Abort c) (aborts_with u why intents c).outs
        (tell_ends u ending.Abort (λ l. body.Aborted l why) intents c v.asking.branch v.asking.found (λ x y. refl) firm)

    moved_runs : (u : Uid) (p : Plan) (m : Marked) (intents : List (Uid × Intent)) (c : Coord) → IsGoodCoord begun paths c →
        IsVoting c.tree u p → IsStepOf begun paths tree p m.step → (d : Doing) → doing_of u c ≡ Some d →
        IsFirm (moved_commit u m intents c).part → Runs c (moved_commit u m intents c).part (moved_commit u m intents c).outs
    moved_runs u p m intents c good v of d works firm = runs_behind c (moved_commit u m intents c).part (mark_lines u m.marks c)
        (step_commit u m.step intents c).outs (lines_flat (λ (k : ℕ × ℕ). says u (λ l. body.Excluded l k.0 k.1) c) m.marks
        (λ k. lines_say u (λ l. body.Excluded l k.0 k.1) c)) (step_runs u p m.step intents c good v of d works firm)

    -- ---- what a coordinator hears, and inputs

    pub heard_runs : (from : ℕ) (a : Asked) (r : Reply) (intents : List (Uid × Intent)) (c : Coord) → IsGoodCoord begun paths c →
        IsFirm (heard from a r intents c).part → Runs c (heard from a r intents c).part (heard from a r intents c).outs
    heard_runs from a r intents c good = by (doing_of a.act c) refl
      where
        now : (d : Doing) → doing_of a.act c ≡ Some d → (n : Now) → IsBusy c.tree a.act n → IsFirm (heard_now from a r intents c n).part →
            Runs c (heard_now from a r intents c n).part (heard_now from a r intents c n).outs
        now d found Idle b firm = tt
        now d found (Calling s) b firm = one (waits_for_call from a r s)
          where
            one : (x : Bool) → let z = cond {A = Served Coord (Unit {0})} x (heard_by (heard_call s r c)) (heard_none c) in
                Runs c z.part z.outs
            one true = plain_runs c (heard_call s r c).part (heard_call s r c).outs (tell_step_call (heard_call s r c).part s _ _)
            one false = tt
        now d found (Committing m) b firm = one (waits_for_commit from a r m) firm
          where
            one : (x : Bool) → let z = cond {A = Served Coord (Unit {0})} x
                (heard_by (moved_commit a.act (commit.answered from m r) intents c)) (heard_none c) in IsFirm z.part → Runs c z.part z.outs
            one true firm = moved_runs a.act (plan_of m) (commit.answered from m r) intents c good b (answer_step begun paths tree from m r)
                d found firm
            one false firm = tt

        by : (o : Option Doing) → doing_of a.act c ≡ o → IsFirm (heard_doing from a r intents c o).part →
            Runs c (heard_doing from a r intents c o).part (heard_doing from a r intents c o).outs
        by None is firm = tt
        by (Some d) is firm = now d is d.now (good.busy a.act d is) firm

    give_up_runs : (u : Uid) (intents : List (Uid × Intent)) (c : Coord) → IsGoodCoord begun paths c → IsFirm (give_up u intents c).part →
        Runs c (give_up u intents c).part (give_up u intents c).outs
    give_up_runs u intents c good = by (doing_of u c) refl
      where
        lines : (nodes : List ℕ) → AreLines (gaveup_lines u nodes c)
        lines nodes = lines_flat (λ n. says u (λ l. body.GaveUp l n) c) nodes (λ n. lines_say u (λ l. body.GaveUp l n) c)

        now : (d : Doing) → doing_of u c ≡ Some d → (n : Now) → IsBusy c.tree u n → IsFirm (gives_up u intents c n).part →
            Runs c (gives_up u intents c n).part (gives_up u intents c n).outs
        now d found Idle b firm = tt
        now d found (Calling s) b firm = let e = (gives_up u intents c (Calling s)).part in runs_behind c e
            (gaveup_lines u (next_node s ∷ []) c) _ (lines (next_node s ∷ [])) (plain_runs c e _ (tell_step_call e s (given_up s.at) _))
        now d found (Committing m) b firm = let e = (gives_up u intents c (Committing m)).part in
            runs_behind c e (gaveup_lines u (nodes_given_up m) c) _ (lines (nodes_given_up m))
            (moved_runs u (plan_of m) (commit.given_up m) intents c good b (giveup_step begun paths tree m) d found firm)

        by : (o : Option Doing) → doing_of u c ≡ o → IsFirm (give_up_doing u intents c o).part →
            Runs c (give_up_doing u intents c o).part (give_up_doing u intents c o).outs
        by None is firm = tt
        by (Some d) is firm = now d is d.now (good.busy u d is) firm

    commit_runs : (b : Branch) (intents : List (Uid × Intent)) (c : Coord) → branch_of (actor b.path) c.tree ≡ Some b → is_some b.ended
        ≡ false → has_open_child (actor b.path) c.tree ≡ false → IsGoodCoord begun paths c → (d : Doing) → doing_of (actor b.path) c
        ≡ Some d → IsFirm (commit_action b intents c).part → Runs c (commit_action b intents c).part (commit_action b intents c).outs
    commit_runs b intents c found opened none good d works = by b.doomed
      where
        u : Uid
        u = actor b.path

        plan : Plan
        plan = plan_for b.path (last_req (doing_of u c)) (root_at (root_of b.path) c) c

        ends : (e : End) (f : Label → Body) → (b.kind ≢ kind.Serial → b.kind ≢ kind.Nested → e ≡ ending.Abort) → IsFirm (ended u e c) →
            Runs c (ended u e c) (ends_with u e f intents c).outs
        ends e f how firm = plain_runs c (ended u e c) (ends_with u e f intents c).outs (tell_ends u e f intents c b found how firm)

        top : b.kind ≢ kind.Serial → b.kind ≢ kind.Nested → IsFirm (commit_top b.path intents c).part →
            Runs c (commit_top b.path intents c).part (commit_top b.path intents c).outs
        top unserial unnested firm = runs_behind c (commit_top b.path intents c).part (says u body.Committing c)
            (moved_commit u (commit.start plan) intents c).outs (lines_say u body.Committing c)
            (moved_runs u plan (commit.start plan) intents c good (voting_at begun paths tree b c found opened none unserial unnested good)
            (vote_step begun paths tree (servers_of plan) plan plan (refl, refl)) d works firm)

        kinds : (k : Kind) → b.kind ≡ k → IsFirm (commit_open b intents c k).part →
            Runs c (commit_open b intents c k).part (commit_open b intents c k).outs
        kinds kind.Nested is firm = ends ending.Commit body.Committed (λ x y. absurd (y is)) firm
        kinds kind.Serial is firm = ends ending.Commit body.Ended (λ x y. absurd (x is)) firm
        kinds kind.Top is firm = top (λ e. cc (sym is ∙ e)) (λ e. cc (sym is ∙ e)) firm
        kinds kind.Independent is firm = top (λ e. cc (sym is ∙ e)) (λ e. cc (sym is ∙ e)) firm
        kinds kind.Constituent is firm = top (λ e. cc (sym is ∙ e)) (λ e. cc (sym is ∙ e)) firm

        by : (x : Bool) → let z = cond {A = Did Coord} x (aborts_with u cause.Doomed intents c) (commit_open b intents c b.kind) in
            IsFirm z.part → Runs c z.part z.outs
        by true firm = ends ending.Abort (λ l. body.Aborted l cause.Doomed) (λ x y. refl) firm
        by false firm = kinds b.kind refl firm

    pub acts_run : (intents : List (Uid × Intent)) (c : Coord) → IsGoodCoord begun paths c → length c.doings ≡ length c.tree.branches →
        (hd : Header) (i : Input) → refusal_up hd i c ≡ None → IsFirm (acts i intents c).part →
        Runs c (acts i intents c).part (acts i intents c).outs
    acts_run intents c good works hd (input.Begin l k parent) none firm = let z = begin_action l k parent (parent_of parent c) c in
        plain_runs c z.part z.outs (tt, tt)
    acts_run intents c good works hd (input.Call l x o) none firm = by (branch_named l c)
      where
        by : (f : Option Branch) → let z = on_branch (λ b. call b.path x o c) c f in Runs c z.part z.outs
        by None = tt
        by (Some b) =
            let r = root_at (root_of b.path) c in
            let old = keeping_of x r in
            let k = renewed (is_free (root_of b.path) (actor b.path) x c) old old.kept in
            plain_runs c (call b.path x o c).part (call b.path x o c).outs
            (tell_goes (call b.path x o c).part (call_steps b.path x o (next_req (actor b.path) c) r c k)
            (on_root (root_of b.path) (with_keeping x k) (record c { tree = uses_object b.path x c.tree })))
    acts_run intents c good works hd (input.Include l x s) none firm = by (branch_named l c)
      where
        by : (f : Option Branch) → let z = on_branch (λ b. include b.path x s c) c f in Runs c z.part z.outs
        by None = tt
        by (Some b) = plain_runs c (include b.path x s c).part (include b.path x s c).outs (tell_goes (include b.path x s c).part
            (start b.path x (calls.Include s) None unbound (next_req (actor b.path) c)) (record c { tree = uses_object b.path x c.tree }))
    acts_run intents c good works hd (input.Commit l) none firm = by (branch_named l c) refl none firm
      where
        by : (f : Option Branch) → branch_named l c ≡ f → refused_by commit_reasons c f ≡ None →
            let z = on_branch (λ b. commit_action b intents c) c f in IsFirm z.part → Runs c z.part z.outs
        by None is e firm = tt
        by (Some b) is e firm =
            let found = named_found begun paths tree intents c good l b is in
            let d = work_there c works (actor b.path) b found in
            commit_runs b intents c found (off (commit_reasons b c) e).0 (off_third (commit_reasons b c) e) good d.0 d.1 firm
    acts_run intents c good works hd (input.Abort l) none firm = by (branch_named l c) firm
      where
        by : (f : Option Branch) → let z = on_branch (λ b. abort_action (actor b.path) intents c) c f in
            IsFirm z.part → Runs c z.part z.outs
        by None firm = tt
        by (Some b) firm = plain_runs c (abort_action (actor b.path) intents c).part (abort_action (actor b.path) intents c).outs
            (tell_abort (actor b.path) intents c firm)
    acts_run intents c good works hd (input.GiveUp l) none firm = by (branch_named l c) firm
      where
        by : (f : Option Branch) → let z = on_branch (λ b. give_up (actor b.path) intents c) c f in IsFirm z.part → Runs c z.part z.outs
        by None firm = tt
        by (Some b) firm = give_up_runs (actor b.path) intents c good firm
    acts_run intents c good works hd (input.Frame k from m) none firm = tt
    acts_run intents c good works hd input.Tick none firm = tt
    acts_run intents c good works hd input.Restart none firm = tt
    acts_run intents c good works hd input.Crash none firm = tt
    acts_run intents c good works hd (input.Show x) none firm = tt

    -- ---- acknowledgements and questions

    pub acked_tells : (from : ℕ) (u : Uid) (intents : List (Uid × Intent)) (c : Coord) → IsFirm c →
        ((i : Intent) → at_uid u intents ≡ Some i → (a : Action) × Contains begun a × (act_of a ≡ i.root) × (root_of a.path ≡ i.root)) →
        AllTell (acked from u intents c).part (acked from u intents c).outs
    acked_tells from u intents c firm roots = by (at_uid u c.telling)
      where
        gone : (v : Coord) → v.tree ≡ c.tree → (o : Option Intent) → at_uid u intents ≡ o →
            AllTell v (tolds_let_go u (without_uid u intents) c o)
        gone v same None is = tt
        gone v same (Some i) is = one (not (uid_eq i.root u)) (is_over (branch_of i.root c.tree)) refl
          where
            over : (o : Option Branch) → branch_of i.root c.tree ≡ o → is_over o ≡ true → IsOver i.root v.tree
            over None at ended_is = let no_way : false ≡ true = ended_is in absurd (cc no_way)
            over (Some x) at ended_is = (x, ap (branch_of i.root) same ∙ at, ended_is)

            one : (x y : Bool) → is_over (branch_of i.root c.tree) ≡ y → AllTell v
                (cond (x && y) (tell_all i.root false ((i.root, ending.Abort) ∷ []) (let_go i.root (without_uid u intents) c i.nodes)) [])
            one true true at =
                let o = over (branch_of i.root c.tree) refl at in
                let a = roots i is in
                tell_tells v i.root false ((i.root, ending.Abort) ∷ []) (let_go i.root (without_uid u intents) c i.nodes) (λ w n.
                tell_one v i.root ending.Abort n (λ it. inl (o, inl (inr (a.0, a.1, a.2, subst (λ z. IsOver z v.tree) (sym a.3) o)))) w)
            one true false at = tt
            one false y at = tt

        left : (i : Intent) (ns : List ℕ) → AllTell (acked_left u i intents c ns).part (acked_left u i intents c ns).outs
        left i [] = (tt, gone (acked_left u i intents c []).part refl (at_uid u intents) refl)
        left i (n ∷ ns) = tt

        by : (o : Option Intent) → let z = acked_by from u intents c o in AllTell z.part z.outs
        by None = tt
        by (Some i) = one (has i.nodes from)
          where
            one : (x : Bool) → let z = cond {A = Served Coord (Unit {0})} x (acked_left u i intents c (without_number from i.nodes))
                (record { part = c; outs = []; reply = None }) in AllTell z.part z.outs
            one true = left i (without_number from i.nodes)
            one false = tt

    -- a question about an action that was begun, that isn't nested
    module _ (from : ℕ) (u : Uid) (intents : List (Uid × Intent)) (c : Coord) (firm : IsFirm c) (works : length c.doings
        ≡ length c.tree.branches) (b : Branch) (found : branch_of u c.tree ≡ Some b) (unnested : b.kind ≢ kind.Nested) where
      over_gone : is_some b.ended ≡ true → is_kept_commit from u c ≡ false → IsGone c u from
      over_gone over lost = inl (
        (b, found, over),
        by b.kind refl (where_stands begun started (action_of b) (in_from (action_of b) begun (firm.0.known u b found))),
      )
        where
          place : act_of (action_of b) ≡ u
          place = firm.0.tree.lists.places u b found

          rooted : uids_of b.path ≡ act_of (action_of b) ∷ [] → IsSpent begun u c.tree ⊎ (HasPart c u from → ⊥)
          rooted path = inl (inr
              (action_of b, firm.0.known u b found, place, subst (λ z. IsOver z c.tree) (sym (ap first_uid path ∙ place)) (b, found, over)))

          by : (k : Kind) → b.kind ≡ k → Stands begun (action_of b) k → IsSpent begun u c.tree ⊎ (HasPart c u from → ⊥)
          by kind.Nested is s = absurd (unnested is)
          by kind.Serial is s = rooted s.0
          by kind.Top is s = rooted s.0
          by kind.Independent is s = rooted s.0
          by kind.Constituent is s = how b.ended refl over
            where
              -- the serializing action
              up : (uids_of (let z = s.0 in z.path) ≡ act_of s.0 ∷ []) × (tops_of (let z = s.0 in z.path) ≡ 1)
              up = serial_alone begun started s.0 (in_from s.0 begun s.1) s.2

              path : uids_of b.path ≡ act_of s.0 ∷ act_of (action_of b) ∷ []
              path = s.3 ∙ ap (λ us. us ++ act_of (action_of b) ∷ []) up.0

              h : (x : Branch) × (branch_of (act_of s.0) c.tree ≡ Some x)
              h = firm.0.tree.lists.parents u (act_of s.0) b found (ap before_last (sym (firm.0.tree.lists.paths_are u b found) ∙ path))

              how : (o : Option End) → b.ended ≡ o → is_some b.ended ≡ true → IsSpent begun u c.tree ⊎ (HasPart c u from → ⊥)
              how None at some = never some (ap is_some at)
              how (Some ending.Abort) at some = inl (inl (b, found, at))
              how (Some ending.Commit) at some = root_is (is_open (root_of b.path) c.tree) refl (took_part from (doing_of u c)) refl
                where
                  kept : (x y : Bool) → is_open (root_of b.path) c.tree ≡ x → took_part from (doing_of u c) ≡ y →
                      is_kept_commit from u c ≡ (x && y)
                  kept x y open_is took_is =
                      (λ j. (is_constituent_branch (found j) && ended_so ending.Commit (found j))
                      && (is_open (root_or_self u (found j)) c.tree && took_part from (doing_of u c)))
                      ∙ (λ j. (is_constituent (is j) && has_end ending.Commit (at j)) && (open_is j && took_is j))

                  root_is : (x : Bool) → is_open (root_of b.path) c.tree ≡ x → (y : Bool) → took_part from (doing_of u c) ≡ y →
                      IsSpent begun u c.tree ⊎ (HasPart c u from → ⊥)
                  root_is true open_is true took_is = never (kept true true open_is took_is) lost
                  root_is true open_is false took_is = inr (λ part. never (ap (took_part from) part.works
                      ∙ part.took (ap (λ (z : Branch). z.ended) (some_is (sym part.found ∙ found)) ∙ at)) took_is)
                  root_is false open_is y took_is = inl (inr (
                    action_of b,
                    firm.0.known u b found,
                    place,
                    subst (λ z. IsOver z c.tree) (sym (ap first_uid path)) (
                      h.0,
                      h.1,
                      closed (is_some (let x = h.0 in x.ended))
                          (ap is_open_branch (sym h.1) ∙ ap (λ z. is_open z c.tree) (sym (ap first_uid path)) ∙ open_is),
                    ),
                  ))
                    where
                      closed : (x : Bool) → not x ≡ false → x ≡ true
                      closed true e = refl
                      closed false e = let no_way : true ≡ false = e in absurd (cc no_way)

      pub query_tells : AllTell c (answer_query from u intents c)
      query_tells = first (is_open u c.tree || is_deferred u intents from) refl
        where
          one : (r : Uid) (ack : Bool) (how : End) → (how ≡ ending.Abort → IsGone c u from) →
              AllTell c (tell r ack ((u, how) ∷ []) from ∷ [])
          one r ack how its = ((λ w. tell_one c u how from its w), tt)

          decided : is_some b.ended ≡ true → AllTell c (answer_decided from u c)
          decided over = by (is_kept_commit from u c) refl
            where
              by : (x : Bool) → is_kept_commit from u c ≡ x →
                  AllTell c (cond x (tell (root_or_self u (branch_of u c.tree)) false ((u, ending.Commit) ∷ []) from ∷ [])
                  (tell (root_or_self u (branch_of u c.tree)) false ((u, ending.Abort) ∷ []) from ∷ []))
              by true is = one (root_or_self u (branch_of u c.tree)) false ending.Commit (λ no. absurd (cc no))
              by false is = one (root_or_self u (branch_of u c.tree)) false ending.Abort (λ it. over_gone over is)

          recorded : is_some b.ended ≡ true → (o : Option Intent) → AllTell c (answer_recorded from u c o)
          recorded over None = decided over
          recorded over (Some i) = by (has i.nodes from)
            where
              by : (x : Bool) → AllTell c (cond x (tell i.root true ((u, ending.Commit) ∷ []) from ∷ []) (answer_decided from u c))
              by true = one i.root true ending.Commit (λ no. absurd (cc no))
              by false = decided over

          first : (x : Bool) → (is_open u c.tree || is_deferred u intents from) ≡ x →
              AllTell c (cond x [] (answer_recorded from u c (at_uid u intents)))
          first true is = tt
          first false is = recorded (ended_by (is_some b.ended)
              (ap is_open_branch (sym found) ∙ (or_parts (is_open u c.tree) (is_deferred u intents from) is).0)) (at_uid u intents)
            where
              ended_by : (x : Bool) → not x ≡ false → x ≡ true
              ended_by true e = refl
              ended_by false e = let no_way : true ≡ false = e in absurd (cc no_way)

    -- a question about one that began earlier
    pub query_earlier : (from : ℕ) (u : Uid) (intents : List (Uid × Intent)) (c : Coord) → IsEarlier c u →
        AllTell c (answer_query from u intents c)
    query_earlier from u intents c early = first (is_open u c.tree || is_deferred u intents from)
      where
        one : (r : Uid) (ack : Bool) (how : End) → AllTell c (tell r ack ((u, how) ∷ []) from ∷ [])
        one r ack how = ((λ w. tell_one c u how from (λ it. inr early) w), tt)

        decided : AllTell c (answer_decided from u c)
        decided = by (is_kept_commit from u c)
          where
            by : (x : Bool) → AllTell c (cond x (tell (root_or_self u (branch_of u c.tree)) false ((u, ending.Commit) ∷ []) from ∷ [])
                (tell (root_or_self u (branch_of u c.tree)) false ((u, ending.Abort) ∷ []) from ∷ []))
            by true = one (root_or_self u (branch_of u c.tree)) false ending.Commit
            by false = one (root_or_self u (branch_of u c.tree)) false ending.Abort

        recorded : (o : Option Intent) → AllTell c (answer_recorded from u c o)
        recorded None = decided
        recorded (Some i) = by (has i.nodes from)
          where
            by : (x : Bool) → AllTell c (cond x (tell i.root true ((u, ending.Commit) ∷ []) from ∷ []) (answer_decided from u c))
            by true = one i.root true ending.Commit
            by false = decided

        first : (x : Bool) → AllTell c (cond x [] (answer_recorded from u c (at_uid u intents)))
        first true = tt
        first false = recorded (at_uid u intents)
