-- Whoever is asked to prepare something gets a state: the prepare step asks the stores for which its plan has one.
use Rattle.arj_law_parts.proofs.Words
use Words.{arith, ⊤, ◌≡◌, ◌⊎◌, ◌∙◌, ◌==◌, ◌&&◌, ◌++◌, ◌+◌, not, ℕ, zero, suc, Bool, true, false, cond, List, [], ◌∷◌, Option}
use Words.{Some, None, refl}
use Words.{sym, ap, subst, inl, inr, ⊎_elim, AllByRecursion, cons_option, filter_map, flat_map, map, or_cases}
use Words.{Ask, Asked, End, Head, Header, Intent, Kind, Message, ObjectState, Path, Reply, Uid, asks, actor, request}
use Words.{request_reads_back}
use Words.{heard, heard_by, heard_call, heard_doing, heard_none, heard_now, again_all, again_now, asks_all, call, include, ask_at, next_ask}
use Words.{commit_action, commit_open, commit_top, give_up, give_up_doing, gives_up, goes_on, moved_commit, step_call, step_commit}
use Words.{waits_for_call, waits_for_commit, mark_lines, gaveup_lines, At, AtActivate, AtBind, AtInvoke, AtLoad, AtNote, CallStep, Ended}
use Words.{On, Steps, given_up, next_node, Aborts, Asks, CommitStep, Confirming, Decides, Machine, Marked, Plan, Preparing, Stays}
use Words.{Used}
use Words.{Voting, ask_of, begin_confirm, begin_prepare, begin_vote, changed_of, left_of, marks_store, marks_stores, plan_of, servers_of}
use Words.{state_by, state_for, states_for, stores_by, stores_left, targets_of, votes_left, has, number_set, with_number}
use Words.{without_number, Calling, Committing, Coord, Doing, Idle, Joined, Now, Root, doing_of, joins_on, later_state, latest_of}
use Words.{new_coord}
use Words.{objects_in, or_kept_state, plan_for, root_at, used_of, at_number}
use Words.{Did, Disk, Do, Effect, Say, Send, aborts_with, abort_action, all_aborted, decide, says, tell_all, tolds_again, tolds_of}
use Words.{open_below, last_req, tick_outs, Parts, Took, handle, holders, query_about, Input, acts, branch_named, on_branch}
use Words.{restart_outs, Node, Branch, at_place, is_own, root_of, ends_of}
use Words.{call_steps, is_free, keeping_of, next_req, on_root, renewed, start, unbound, uses_object, with_keeping}
use Words.body
use Words.calls
use Words.cause
use Words.confirmed
use Words.ending
use Words.input
use Words.kind
use Words.prepared
use Words.voted
use Words.ask
use Words.commit
use Words.list as members
use Rattle.arj_law_disk_view.proofs.Terms.{or_left, or_right}
use Rattle.arj_law_lock_view.proofs.facts.CommitCoords.{AreAt, IsNext, at_acked, at_acts, at_again, at_begins, at_heard}
use Rattle.arj_law_lock_view.proofs.facts.PartSteps.{has_in}
use Rattle.arj_law_runs.proofs.calls.CoordOuts.{quiet_acked, quiet_all, quiet_query}
use Rattle.arj_law_runs.proofs.calls.CoordSends.{AllQuiet, quiet_both, quiet_decide, quiet_ends, quiet_flat, quiet_gaveup, quiet_marks}
use Rattle.arj_law_runs.proofs.calls.CoordSends.{quiet_says, quiet_tolds}
use Rattle.arj_law_runs.proofs.coordinators.RunCoords.{IsKept}
use Rattle.arj_law_serial.proofs.joint.JoinLists.{among_set}
use Rattle.arj_law_serial.proofs.whole.CoordCases.{CoordCase, coord_case}
use Rattle.arj_law_serial.proofs.whole.CoordCases as cases
use Rattle.arj_law_cause.proofs.waits.waiting.Lists.{placed_in}
use Rattle.arj_law_cause.proofs.kinds.Late.{parts_quiet, restart_quiet}

-- ---- what a plan has for its stores

-- of each object that is included somewhere a state is loaded
abbrev pub AreLoaded : List Used → Type 0
AreLoaded us = AllByRecursion (λ (u : Used). (s : ℕ) → has u.joins s ≡ true → u.loaded ≡ None → ⊥) us

latest_some : (js : List Joined) (s : ObjectState) → latest_of (Some s) js ≡ None → ⊥
latest_some [] s none = cc none
latest_some (j ∷ js) s none = latest_some js (later_state s j.loaded) none

pub plan_loaded : (p : Path) (req : ℕ) (r : Root) (c : Coord) → AreLoaded (plan_for p req r c).used
plan_loaded p req r c = each (objects_in (actor p) r c)
  where
    or_none : (o : Option ObjectState) (k : Option ObjectState) → (o ≡ None → ⊥) → or_kept_state o k ≡ None → ⊥
    or_none None k some none = some refl
    or_none (Some s) None some none = cc none
    or_none (Some s) (Some t) some none = cc none

    one : (x s : ℕ) (js : List Joined) → has (number_set (map (λ (j : Joined). j.store) js)) s ≡ true →
        or_kept_state (latest_of None js) (at_number x r.states) ≡ None → ⊥
    one x s [] on none = cc on
    one x s (j ∷ js) on none = or_none (latest_of None (j ∷ js)) (at_number x r.states) (latest_some js j.loaded) none

    each : (xs : List ℕ) → AreLoaded (map (used_of (actor p) r c) xs)
    each [] = tt
    each (x ∷ xs) = ((λ s on none. one x s (joins_on x (actor p) r c) on none), each xs)

has_either : (xs ys : List ℕ) (n : ℕ) → has (xs ++ ys) n ≡ true → (has xs n ≡ true) ⊎ (has ys n ≡ true)
has_either [] ys n on = inr on
has_either (x ∷ xs) ys n on = ⊎_elim (λ here. inl (or_left (x == n) (has xs n) here))
    (λ more. ⊎_elim (λ a. inl (or_right (x == n) (has xs n) a)) (λ b. inr b) (has_either xs ys n more))
    (or_cases (x == n) (has (xs ++ ys) n) on)

-- a store that is asked is sent something
full_from : (n : ℕ) (p : Plan) (us : List Used) → AreLoaded us → has (flat_map (λ u. stores_by u (changed_of u.x p)) us) n ≡ true →
    filter_map (state_for n p) us ≡ [] → ⊥
full_from n p [] loaded on none = cc on
full_from n p (u ∷ us) loaded on none = ⊎_elim (λ here. by (state_for n p u) refl none (one (changed_of u.x p) here))
    (λ more. full_from n p us loaded.1 more (rest (state_for n p u) none))
    (has_either (stores_by u (changed_of u.x p)) (flat_map (λ v. stores_by v (changed_of v.x p)) us) n on)
  where
    one : (o : Option ObjectState) → has (stores_by u o) n ≡ true → state_by n u o ≡ None → ⊥
    one None here is = loaded.0 n here (ap (λ b. cond b u.loaded None) (sym here) ∙ is)
    one (Some st) here is = let no_way : ◌≡◌ {A = Option ObjectState} (Some st) None =
        ap (λ b. cond b (Some st) None) (sym (⊎_elim (λ a. or_left (has u.stores n) (has u.joins n) a)
        (λ b. or_right (has u.stores n) (has u.joins n) b) (has_either u.stores u.joins n here))) ∙ is in cc no_way

    by : (o : Option ObjectState) → state_for n p u ≡ o → cons_option o (filter_map (state_for n p) us) ≡ [] →
        (state_for n p u ≡ None → ⊥) → ⊥
    by None is e some = some is
    by (Some st) is e some = cc e

    rest : (o : Option ObjectState) → cons_option o (filter_map (state_for n p) us) ≡ [] → filter_map (state_for n p) us ≡ []
    rest None e = e
    rest (Some st) e = absurd (cc e)

-- ---- what is kept of a commit under way

-- While it votes, what is loaded is there; while stores are asked, each that hasn't answered was sent something.
abbrev pub IsFull : Uid → Machine → Type 0
IsFull u (Voting p left) = AreLoaded p.used
IsFull u (Preparing p left) = (n : ℕ) → has left n ≡ true → states_for n p ≡ [] → ⊥
IsFull u (Confirming p) = ⊤

module _ (u : Uid) where
  confirm_full : (us : List Used) (p : Plan) → IsNext IsFull u (begin_confirm us p)
  confirm_full [] p = tt
  confirm_full (v ∷ vs) p = tt

  prepare_full : (p : Plan) → AreLoaded p.used → IsNext IsFull u (begin_prepare (targets_of p) p)
  prepare_full p loaded = by (targets_of p) refl
    where
      by : (ns : List ℕ) → targets_of p ≡ ns → IsNext IsFull u (begin_prepare ns p)
      by [] is = confirm_full p.used p
      by (n ∷ ns) is = λ k on none. full_from k p p.used loaded
          (sym (among_set (flat_map (λ v. stores_by v (changed_of v.x p)) p.used) k) ∙ ap (λ ms. has ms k) is ∙ on) none

  votes_full : (left : List ℕ) (p : Plan) → AreLoaded p.used → IsNext IsFull u (votes_left left p)
  votes_full [] p loaded = prepare_full p loaded
  votes_full (n ∷ ns) p loaded = loaded

  stores_full : (left : List ℕ) (p : Plan) → ((n : ℕ) → has left n ≡ true → states_for n p ≡ [] → ⊥) →
      IsNext IsFull u (stores_left left p).step
  stores_full [] p full = confirm_full p.used p
  stores_full (n ∷ ns) p full = full

  start_full : (p : Plan) → AreLoaded p.used → IsNext IsFull u (commit.start p).step
  start_full p loaded = by (servers_of p)
    where
      by : (ns : List ℕ) → IsNext IsFull u (begin_vote ns p)
      by [] = prepare_full p loaded
      by (n ∷ ns) = loaded

  less : (k : ℕ) (ns : List ℕ) (n : ℕ) → has (without_number k ns) n ≡ true → has ns n ≡ true
  less k [] n is = is
  less k (m ∷ ns) n is = by (m == k) is (less k ns n)
    where
      by : (b : Bool) → has (cond (not b) (m ∷ without_number k ns) (without_number k ns)) n ≡ true →
          (has (without_number k ns) n ≡ true → has ns n ≡ true) → has (m ∷ ns) n ≡ true
      by true it ih = or_right (m == n) (has ns n) (ih it)
      by false it ih = ⊎_elim (λ here. or_left (m == n) (has ns n) here) (λ more. or_right (m == n) (has ns n) (ih more))
          (or_cases (m == n) (has (without_number k ns) n) it)

  pub answered_full : (from : ℕ) (m : Machine) (r : Reply) → IsFull u m → IsNext IsFull u (commit.answered from m r).step
  answered_full from (Voting p left) (Reply.Voted (voted.Yes states)) its =
      votes_full (without_number from left) (record p { changed = commit.with_states states p.changed }) its
  answered_full from (Voting p left) (Reply.Voted (voted.Changed w)) its = tt
  answered_full from (Preparing p left) (Reply.Prepared prepared.Yes) its =
      stores_full (without_number from left) (record p { prepared = with_number from p.prepared })
      (λ n on. its n (less from left n on))
  answered_full from (Preparing p left) (Reply.Prepared (prepared.InDoubt x holder)) its =
      stores_full (without_number from left) (marks_store from p) (λ n on. its n (less from left n on))
  answered_full from (Preparing p left) (Reply.Prepared (prepared.Old x v)) its = tt
  answered_full from (Confirming p) (Reply.Confirmed confirmed.Yes) its = tt
  answered_full from (Confirming p) (Reply.Confirmed (confirmed.Conflict h m)) its = tt
  answered_full from (Confirming p) (Reply.Confirmed (confirmed.Changed w)) its = tt
  answered_full from (Confirming p) (Reply.Confirmed (confirmed.NoStores x)) its = tt
  answered_full from (Confirming p) (Reply.Confirmed (confirmed.Listed x s)) its = tt
  answered_full from m r its = its

  pub given_full : (m : Machine) → IsFull u m → IsNext IsFull u (commit.given_up m).step
  given_full (Voting p left) its = tt
  given_full (Preparing p left) its = let q = marks_stores left p in confirm_full q.used q
  given_full (Confirming p) its = tt

pub none_new : (P : Uid → Machine → Type 0) (node inc : ℕ) (telling : List (Uid × Intent)) →
    AreAt P (record (new_coord node inc) { telling = telling })
none_new P node inc telling u d m is now = absurd (by (is_own u (let c = new_coord node inc in c.tree)) u.num is)
  where
    by : (x : Bool) (j : ℕ) → cond x (at_place j []) None ≡ Some d → ⊥
    by true zero e = cc e
    by true (suc j) e = cc e
    by false j e = cc e

-- each coordinator keeps it
abbrev pub Full : Coord → Type 0
Full c = AreAt IsFull c

pub fulls : IsKept Full
fulls = record {
  new = λ node inc telling. none_new IsFull node inc telling;
  hears = λ actions paths tree from a r intents c good its.
      at_heard IsFull c its from a r intents (λ d m found now waits p. answered_full a.act from m r p);
  acks = λ from u intents c its. at_acked IsFull c its from u intents;
  does = λ actions paths tree intents c good its hd i none other. at_acts IsFull c its given_full (λ b. starts b c) i intents other;
  begins = λ actions begun paths tree l k parent c good may none its. at_begins IsFull c its l k parent;
  asks = λ ds c its. at_again IsFull ds c its;
}
  where
    starts : (b : Branch) (c : Coord) → let p = plan_for b.path (last_req (doing_of (actor b.path) c)) (root_at (root_of b.path) c) c in
        IsNext IsFull (actor b.path) (commit.start p).step
    starts b c = start_full (actor b.path) _ (plan_loaded b.path (last_req (doing_of (actor b.path) c)) (root_at (root_of b.path) c) c)

-- ---- what is sent

-- a Prepare brings a state
abbrev pub IsFilled : Option (Head × Ask) → Type 0
IsFilled (Some (h, ask.Prepare states)) = states ≡ [] → ⊥
IsFilled o = ⊤

-- so it is of each request among these effects
abbrev pub AreFilled : List Effect → Type 0
AreFilled [] = ⊤
AreFilled (Send to m ∷ es) = IsFilled (asks m) × AreFilled es
AreFilled (Say b ∷ es) = AreFilled es
AreFilled (Do w ∷ es) = AreFilled es

quiet_filled : (es : List Effect) → AllQuiet es → AreFilled es
quiet_filled [] quiet = tt
quiet_filled (Send to m ∷ es) quiet = (subst IsFilled (sym quiet.0) tt, quiet_filled es quiet.1)
quiet_filled (Say b ∷ es) quiet = quiet_filled es quiet.1
quiet_filled (Do w ∷ es) quiet = quiet_filled es quiet.1

filled_both : (xs ys : List Effect) → AreFilled xs → AreFilled ys → AreFilled (xs ++ ys)
filled_both [] ys a b = b
filled_both (Send to m ∷ xs) ys a b = (a.0, filled_both xs ys a.1 b)
filled_both (Say c ∷ xs) ys a b = filled_both xs ys a b
filled_both (Do w ∷ xs) ys a b = filled_both xs ys a b

behind : (xs ys : List Effect) → AllQuiet xs → AreFilled ys → AreFilled (xs ++ ys)
behind xs ys quiet b = filled_both xs ys (quiet_filled xs quiet) b

-- ---- a coordinator

step_filled : (s : Steps) (ends : List (Uid × End)) (h : Head) → IsFilled (asks (request h (next_ask ends s)))
step_filled s ends h = subst IsFilled (sym (request_reads_back h (next_ask ends s))) (by s.at)
  where
    by : (at : At) → IsFilled (Some (h, ask_at s.x s.goal ends at))
    by (AtBind avoid) = tt
    by (AtLoad k t rest) = tt
    by (AtActivate k st) = tt
    by (AtNote k i) = tt
    by (AtInvoke k i) = tt

machine_asks : (u : Uid) (m : Machine) → IsFull u m → (n : ℕ) → has (left_of m) n ≡ true → (h : Head) → IsFilled (Some (h, ask_of m n))
machine_asks u (Voting p left) its n on h = tt
machine_asks u (Preparing p left) its n on h = its n on
machine_asks u (Confirming p) its n on h = tt

machine_filled : (u : Uid) (m : Machine) (ns : List ℕ) → IsFull u m → ((n : ℕ) → members.In n ns → has (left_of m) n ≡ true) → (c : Coord) →
    AreFilled (asks_all (plan_of m).path (plan_of m).req (map {A = ℕ} {B = ℕ × Ask} (λ n. (n, ask_of m n)) ns) c).outs
machine_filled u m [] its each c = tt
machine_filled u m (n ∷ ns) its each c = (
  (let h : Head = record { path = (plan_of m).path; req = (plan_of m).req } in
      subst IsFilled (sym (request_reads_back h (ask_of m n))) (machine_asks u m its n (each n (inl refl)) h)),
  machine_filled u m ns its (λ k i. each k (inr i)) _,
)

goes_filled : (s : Steps) (c : Coord) → AreFilled (goes_on s c).outs
goes_filled s c = (step_filled s _ (record { path = s.path; req = s.req }), tt)

call_filled : (s : Steps) (n : CallStep) (c : Coord) → AreFilled (step_call s n c).outs
call_filled s (On at) c = goes_filled (record s { req = s.req + 1; at = at }) c
call_filled s (Ended e) c = quiet_filled (step_call s (Ended e) c).outs (quiet_says (actor s.path) _ c)

commit_filled : (u : Uid) (s : CommitStep) (intents : List (Uid × Intent)) (c : Coord) → IsNext IsFull u s →
    AreFilled (step_commit u s intents c).outs
commit_filled u (Stays m) intents c its = tt
commit_filled u (Asks m) intents c its = machine_filled u m (left_of m) its (has_in (left_of m)) _
commit_filled u (Decides p) intents c its = quiet_filled (decide p c).outs (quiet_decide p c)
commit_filled u (Aborts why p) intents c its =
    quiet_filled (aborts_with u why intents c).outs (quiet_ends u ending.Abort (λ l. body.Aborted l why) intents c)

moved_filled : (u : Uid) (m : Marked) (intents : List (Uid × Intent)) (c : Coord) → IsNext IsFull u m.step →
    AreFilled (moved_commit u m intents c).outs
moved_filled u m intents c its =
    behind (mark_lines u m.marks c) (step_commit u m.step intents c).outs (quiet_marks u m.marks c) (commit_filled u m.step intents c its)

module _ (c : Coord) (its : Full c) where
  heard_filled : (from : ℕ) (a : Asked) (r : Reply) (intents : List (Uid × Intent)) → AreFilled (heard from a r intents c).outs
  heard_filled from a r intents = by (doing_of a.act c) refl
    where
      now : (d : Doing) → doing_of a.act c ≡ Some d → (n : Now) → d.now ≡ n → AreFilled (heard_now from a r intents c n).outs
      now d found Idle is = tt
      now d found (Calling s) is = one (waits_for_call from a r s)
        where
          one : (b : Bool) → AreFilled (cond b (heard_by (heard_call s r c)) (heard_none c)).outs
          one true = call_filled s _ _
          one false = tt
      now d found (Committing m) is = one (waits_for_commit from a r m)
        where
          one : (b : Bool) → AreFilled (cond b (heard_by (moved_commit a.act (commit.answered from m r) intents c)) (heard_none c)).outs
          one true = moved_filled a.act (commit.answered from m r) intents c (answered_full a.act from m r (its a.act d m found is))
          one false = tt

      by : (o : Option Doing) → doing_of a.act c ≡ o → AreFilled (heard_doing from a r intents c o).outs
      by None is = tt
      by (Some d) is = now d is d.now refl

  give_filled : (u : Uid) (intents : List (Uid × Intent)) → AreFilled (give_up u intents c).outs
  give_filled u intents = by (doing_of u c) refl
    where
      now : (d : Doing) → doing_of u c ≡ Some d → (n : Now) → d.now ≡ n → AreFilled (gives_up u intents c n).outs
      now d found Idle is = tt
      now d found (Calling s) is =
          behind (gaveup_lines u (next_node s ∷ []) c) _ (quiet_gaveup u (next_node s ∷ []) c) (call_filled s (given_up s.at) _)
      now d found (Committing m) is =
          behind (gaveup_lines u (commit.nodes_given_up m) c) _ (quiet_gaveup u (commit.nodes_given_up m) c)
          (moved_filled u (commit.given_up m) intents c (given_full u m (its u d m found is)))

      by : (o : Option Doing) → doing_of u c ≡ o → AreFilled (give_up_doing u intents c o).outs
      by None is = tt
      by (Some d) is = now d is d.now refl

  action_filled : (b : Branch) (intents : List (Uid × Intent)) → AreFilled (commit_action b intents c).outs
  action_filled b intents = by b.doomed
    where
      plan : Plan
      plan = plan_for b.path (last_req (doing_of (actor b.path) c)) (root_at (root_of b.path) c) c

      top : AreFilled (commit_top b.path intents c).outs
      top = behind (says (actor b.path) body.Committing c) _ (quiet_says (actor b.path) body.Committing c)
          (moved_filled (actor b.path) (commit.start plan) intents c (start_full (actor b.path) plan
          (plan_loaded b.path (last_req (doing_of (actor b.path) c)) (root_at (root_of b.path) c) c)))

      kinds : (k : Kind) → AreFilled (commit_open b intents c k).outs
      kinds kind.Nested = quiet_filled _ (quiet_ends (actor b.path) ending.Commit body.Committed intents c)
      kinds kind.Serial = quiet_filled _ (quiet_ends (actor b.path) ending.Commit body.Ended intents c)
      kinds kind.Top = top
      kinds kind.Constituent = top
      kinds kind.Independent = top

      by : (d : Bool) → AreFilled (cond {A = Did Coord} d (aborts_with (actor b.path) cause.Doomed intents c)
          (commit_open b intents c b.kind)).outs
      by true = quiet_filled _ (quiet_ends (actor b.path) ending.Abort (λ l. body.Aborted l cause.Doomed) intents c)
      by false = kinds b.kind

  pub acts_filled : (i : Input) (intents : List (Uid × Intent)) → AreFilled (acts i intents c).outs
  acts_filled (input.Begin l how parent) intents = tt
  acts_filled (input.Call l x o) intents = by (branch_named l c)
    where
      by : (f : Option Branch) → AreFilled (on_branch (λ b. call b.path x o c) c f).outs
      by None = tt
      by (Some b) =
          let old = keeping_of x (root_at (root_of b.path) c) in
          let k = renewed (is_free (root_of b.path) (actor b.path) x c) old old.kept in
          goes_filled (call_steps b.path x o (next_req (actor b.path) c) (root_at (root_of b.path) c) c k)
          (on_root (root_of b.path) (with_keeping x k) (record c { tree = uses_object b.path x c.tree }))
  acts_filled (input.Include l x s) intents = by (branch_named l c)
    where
      by : (f : Option Branch) → AreFilled (on_branch (λ b. include b.path x s c) c f).outs
      by None = tt
      by (Some b) = goes_filled (start b.path x (calls.Include s) None unbound (next_req (actor b.path) c))
          (record c { tree = uses_object b.path x c.tree })
  acts_filled (input.Commit l) intents = by (branch_named l c)
    where
      by : (f : Option Branch) → AreFilled (on_branch (λ b. commit_action b intents c) c f).outs
      by None = tt
      by (Some b) = action_filled b intents
  acts_filled (input.Abort l) intents = by (branch_named l c)
    where
      by : (f : Option Branch) → AreFilled (on_branch (λ b. abort_action (actor b.path) intents c) c f).outs
      by None = tt
      by (Some b) =
          let us = open_below (actor b.path) c.tree ++ actor b.path ∷ [] in
          let t = all_aborted us c in
          quiet_filled (t.outs ++ flat_map (tolds_of intents t.part) us) (quiet_both t.outs (flat_map (tolds_of intents t.part) us)
          (quiet_all us c)
          (quiet_flat (tolds_of intents t.part) us (λ w. quiet_tolds intents t.part w)))
  acts_filled (input.GiveUp l) intents = by (branch_named l c)
    where
      by : (f : Option Branch) → AreFilled (on_branch (λ b. give_up (actor b.path) intents c) c f).outs
      by None = tt
      by (Some b) = give_filled (actor b.path) intents
  acts_filled (input.Frame n from m) intents = tt
  acts_filled input.Tick intents = tt
  acts_filled input.Restart intents = tt
  acts_filled input.Crash intents = tt
  acts_filled (input.Show x) intents = tt

  -- what is asked again
  again_filled : (ds : List Doing) (e : Coord) → ((d : Doing) → members.In d ds → (u : Uid) × (doing_of u c ≡ Some d)) →
      AreFilled (again_all ds e).outs
  again_filled [] e each = tt
  again_filled (d ∷ ds) e each = filled_both (again_now e d.now).outs (again_all ds (again_now e d.now).part).outs (one d.now refl)
      (again_filled ds (again_now e d.now).part (λ q i. each q (inr i)))
    where
      there : (u : Uid) × (doing_of u c ≡ Some d)
      there = each d (inl refl)

      one : (n : Now) → d.now ≡ n → AreFilled (again_now e n).outs
      one Idle is = tt
      one (Calling s) is = (step_filled s (ends_of (root_of s.path) e.tree) (record { path = s.path; req = s.req }), tt)
      one (Committing m) is = machine_filled there.0 m (left_of m) (its there.0 d m there.1 is) (has_in (left_of m)) e

-- ---- a node

tolds_quiet : (root : Uid) (ack : Bool) (ends : List (Uid × End)) (nodes : List ℕ) → AreFilled (tell_all root ack ends nodes)
tolds_quiet root ack ends [] = tt
tolds_quiet root ack ends (n ∷ ns) = (tt, tolds_quiet root ack ends ns)

telling_filled : (telling : List (Uid × Intent)) → AreFilled (tolds_again telling)
telling_filled [] = tt
telling_filled (e ∷ es) = filled_both (tell_all (let i = e.1 in i.root) true ((e.0, ending.Commit) ∷ []) (let i = e.1 in i.nodes))
    (tolds_again es) (tolds_quiet (let i = e.1 in i.root) true ((e.0, ending.Commit) ∷ []) (let i = e.1 in i.nodes)) (telling_filled es)

queries_filled : (us : List Uid) → AreFilled (map query_about us)
queries_filled [] = tt
queries_filled (u ∷ us) = (tt, queries_filled us)

pub tick_filled : (n : Node) (t : Parts) → Full t.coord → AreFilled (tick_outs n t)
tick_filled n t its =
    let r = again_all t.coord.doings t.coord in
    filled_both (r.outs ++ tolds_again t.coord.telling) (map query_about (holders n.disk t))
    (filled_both r.outs (tolds_again t.coord.telling) (again_filled t.coord its t.coord.doings t.coord (λ d i. work
    (placed_in d t.coord.doings i)))
    (telling_filled t.coord.telling)) (queries_filled (holders n.disk t))
  where
    same : (n : ℕ) → (n == n) ≡ true
    same n = grind arith

    work : {d : Doing} → (k : ℕ) × (at_place k t.coord.doings ≡ Some d) → (u : Uid) × (doing_of u t.coord ≡ Some d)
    work p = (
      record { node = t.coord.tree.node; inc = t.coord.tree.inc; num = p.0 },
      (λ i. cond (same t.coord.tree.node i && same t.coord.tree.inc i) (at_place p.0 t.coord.doings) None) ∙ p.1,
    )

pub message_filled : (k : ℕ) (d : Disk) (t v : Parts) (from : ℕ) (m : Message) (outs : List Effect) → Full t.coord →
    handle k d t from m ≡ Took v outs → AreFilled outs
message_filled k d t v from m outs its is = by (coord_case k d t v from m outs is)
  where
    by : CoordCase d t from m v outs → AreFilled outs
    by (cases.OfParts mine same plain sent) = quiet_filled outs (parts_quiet from (asks m) outs sent)
    by (cases.Asks u query same are) = subst AreFilled are (quiet_filled _ (quiet_query from u d.intents t.coord))
    by (cases.Heard a r some same are) = subst AreFilled are (heard_filled t.coord its from a r d.intents)
    by (cases.Acks u which same are) = subst AreFilled are (quiet_filled _ (quiet_acked from u d.intents t.coord))

pub restart_filled : (hd : Header) (k inc : ℕ) (d : Disk) → AreFilled (restart_outs hd k inc d)
restart_filled hd k inc d = quiet_filled (restart_outs hd k inc d) (restart_quiet hd k inc d)
