-- Who wrote what a coordinator has, where commits go on and are decided: who was decided is told so.
use Rattle.arj_law_parts.proofs.Words
use Words.{◌≡◌, ◌⊎◌, ◌++◌, Bool, true, false, cond, List, [], ◌∷◌, map, Contains, Option, Some, None, refl, sym, subst, inl, inr, ⊎_elim, ℕ}
use Words.{arith, ⊤, nat_lt, AllByRecursion, in_to, Asked, End, Kind, Label, ObjectState, Uid, Reply, actor, asks_machine, begin_action}
use Words.{call, commit_action, commit_open, commit_top, commits_in, gaveup_lines, give_up, give_up_doing, gives_up, heard, heard_by}
use Words.{heard_call, heard_doing, heard_none, heard_now, include, last_req, mark_lines, moved_commit, step_commit, waits_for_call}
use Words.{waits_for_commit, Aborts, Asks, CommitStep, Confirming, Decides, Machine, Marked, Plan, Preparing, Stays, Used, Voting}
use Words.{begin_confirm, begin_prepare, begin_vote, has_record, marks_store, marks_stores, nodes_given_up, participants, plan_of}
use Words.{servers_of, stores_left, targets_of, votes_left, waiting, with_state, with_states, Calling, Committing, Coord, Doing, Idle}
use Words.{Joined, Now, Root, doing_of, on_doing, on_root, plan_for, root_at, Did, Do, Effect, Intent, Say, Send, Served, abort_action}
use Words.{aborts_with, decide, decided_told, ended, ends_with, record_work, root_after, says, states_after, tell, has, number_set}
use Words.{put_number, put_uid, with_number, without_number, Input, acts, branch_named, on_branch, parent_of, Branch, open_below, root_of}
use Words.{is_empty}
use Words.cause
use Words.body
use Words.confirmed
use Words.ending
use Words.kind
use Words.loaded
use Words.prepared
use Words.voted
use Words.commit
use Words.input
use Rattle.arj_law_promise.proofs.Terms.{told_by, all_put, keyed_put, all_each, has_set, CoordIsBy, IsBy, NowIsBy, PlanIsBy, RootIsBy}
use Rattle.arj_law_promise.proofs.waiting.WriterCoords.{So, all_so, asked_so, begins_so, call_so, commits_so, ended_so, given_up_so}
use Rattle.arj_law_promise.proofs.waiting.WriterCoords.{heard_call_so, include_so, on_do_so, plan_so, root_so}

-- ---- who is told

-- some message among these effects tells the action's end
abbrev pub TellsIn : List Effect → Uid → Type 0
TellsIn [] w = ⊥
TellsIn (Say b ∷ es) w = TellsIn es w
TellsIn (Do k ∷ es) w = TellsIn es w
TellsIn (Send to m ∷ es) w = ((e : End) × Contains {X = Uid × End} (told_by m) (w, e)) ⊎ TellsIn es w

tells_behind : (xs ys : List Effect) (w : Uid) → TellsIn ys w → TellsIn (xs ++ ys) w
tells_behind [] ys w is = is
tells_behind (Say b ∷ xs) ys w is = tells_behind xs ys w is
tells_behind (Do k ∷ xs) ys w is = tells_behind xs ys w is
tells_behind (Send to m ∷ xs) ys w is = inr (tells_behind xs ys w is)

-- who is decided is told so, where anybody was asked
tells_decided : (root u : Uid) (p : Plan) (nodes : List ℕ) → is_empty nodes ≡ false → TellsIn (map (decided_told root u p) nodes) u
tells_decided root u p [] some = absurd (cc some)
tells_decided root u p (n ∷ ns) some = by (has (participants p) n)
  where
    by : (b : Bool) → TellsIn (cond b (tell root (has_record p) ((u, ending.Commit) ∷ []) n) (tell root false ((u, ending.Abort) ∷ []) n)
        ∷ map (decided_told root u p) ns) u
    by true = inl (ending.Commit, in_to (u, ending.Commit) ((u, ending.Commit) ∷ []) (inl refl))
    by false = inl (ending.Abort, in_to (u, ending.Abort) ((u, ending.Abort) ∷ []) (inl refl))

-- somebody was asked
asked_some : (sent : List ℕ) (s : ℕ) (ss : List ℕ) → is_empty (number_set (sent ++ s ∷ ss)) ≡ false
asked_some sent s ss = by (number_set (sent ++ s ∷ ss)) (has_set (sent ++ s ∷ ss) s (there sent))
  where
    there : (ns : List ℕ) → has (ns ++ s ∷ ss) s ≡ true
    there [] = grind arith
    there (n ∷ ns) = grind (arith, there ns)

    by : (ns : List ℕ) → has ns s ≡ true → is_empty ns ≡ false
    by [] is = absurd (cc is)
    by (n ∷ ns) is = refl

module _ (G : Uid → Type 0) where
  -- what roots have may be by whoever is told to have ended among these effects
  abbrev pub IsTold : Did Coord → Type 0
  IsTold d = CoordIsBy G (λ w. G w ⊎ TellsIn d.outs w) d.part

  pub wider : (P Q : Uid → Type 0) → ((w : Uid) → P w → Q w) → (c : Coord) → CoordIsBy G P c → CoordIsBy G Q c
  wider P Q more c so = record {
    works = so.works;
    roots = all_each (λ (e : ℕ × Root). RootIsBy P e.1) (λ (e : ℕ × Root). RootIsBy Q e.1) c.roots (λ e. wide e.1) so.roots;
  }
    where
      wide : (r : Root) → RootIsBy P r → RootIsBy Q r
      wide r its = record {
        joined =
            all_each (λ (j : Joined). IsBy P j.loaded) (λ (j : Joined). IsBy Q j.loaded) r.joined (λ j. more j.loaded.writer) its.joined;
        states =
            all_each (λ (e : ℕ × ObjectState). IsBy P e.1) (λ (e : ℕ × ObjectState). IsBy Q e.1) r.states (λ e. more e.1.writer) its.states;
      }

  pub plainly : (d : Did Coord) → So G d.part → IsTold d
  plainly d so = wider G (λ w. G w ⊎ TellsIn d.outs w) (λ w g. inl g) d.part so

  pub behind : (before : List Effect) (d : Did Coord) → IsTold d → IsTold (record { part = d.part; outs = before ++ d.outs })
  behind before d so = wider (λ w. G w ⊎ TellsIn d.outs w) (λ w. G w ⊎ TellsIn (before ++ d.outs) w)
      (λ w. ⊎_elim (λ g. inl g) (λ t. inr (tells_behind before d.outs w t))) d.part so

  -- ---- the steps of a commit

  abbrev IsNext : Uid → CommitStep → Type 0
  IsNext u (Stays m) = NowIsBy G u (Committing m)
  IsNext u (Asks m) = NowIsBy G u (Committing m)
  IsNext u (Decides q) = PlanIsBy G u q × ((q.changed ≡ []) ⊎ (is_empty q.sent ≡ false))
  IsNext u (Aborts why q) = ⊤

  abbrev Sent : Plan → Type 0
  Sent q = (q.changed ≡ []) ⊎ (is_empty q.sent ≡ false)

  confirm_step : (u : Uid) (us : List Used) (q : Plan) → PlanIsBy G u q → Sent q → IsNext u (begin_confirm us q)
  confirm_step u [] q so sent = (so, sent)
  confirm_step u (v ∷ vs) q so sent = (record { top = so.top; loaded = so.loaded; changed = so.changed }, asked_some q.sent 1 [])

  prepare_step : (u : Uid) (ns : List ℕ) (q : Plan) → PlanIsBy G u q → Sent q → IsNext u (begin_prepare ns q)
  prepare_step u [] q so sent = confirm_step u q.used q so sent
  prepare_step u (n ∷ ns) q so sent = (record { top = so.top; loaded = so.loaded; changed = so.changed }, asked_some q.sent n ns)

  vote_step : (u : Uid) (ns : List ℕ) (q : Plan) → PlanIsBy G u q → Sent q → IsNext u (begin_vote ns q)
  vote_step u [] q so sent = prepare_step u (targets_of q) q so sent
  vote_step u (n ∷ ns) q so sent = (record { top = so.top; loaded = so.loaded; changed = so.changed }, asked_some q.sent n ns)

  stores_step : (u : Uid) (ns : List ℕ) (q : Plan) → PlanIsBy G u q → is_empty q.sent ≡ false →
      IsNext u (let m = stores_left ns q in m.step)
  stores_step u [] q so sent = confirm_step u q.used q so (inr sent)
  stores_step u (n ∷ ns) q so sent = (so, sent)

  votes_step : (u : Uid) (ns : List ℕ) (q : Plan) → PlanIsBy G u q → is_empty q.sent ≡ false → IsNext u (votes_left ns q)
  votes_step u [] q so sent = prepare_step u (targets_of q) q so (inr sent)
  votes_step u (n ∷ ns) q so sent = (so, sent)

  abbrev Of : Uid → ObjectState → Type 0
  Of u st = IsBy (λ w. w ≡ u) st

  with_one : (u : Uid) (s : ObjectState) (every : List ObjectState) → Of u s → AllByRecursion (Of u) every →
      AllByRecursion (Of u) (with_state s every)
  with_one u s [] its all = (its, tt)
  with_one u s (t ∷ ts) its all = by (nat_lt t.uid.num s.uid.num) (with_one u s ts its all.1)
    where
      by : (b : Bool) → AllByRecursion (Of u) (with_state s ts) → AllByRecursion (Of u) (cond b (t ∷ with_state s ts) (s ∷ t ∷ ts))
      by true ih = (all.0, ih)
      by false ih = (its, all)

  with_each : (u : Uid) (states every : List ObjectState) → AllByRecursion (Of u) states → AllByRecursion (Of u) every →
      AllByRecursion (Of u) (with_states states every)
  with_each u [] every its all = all
  with_each u (s ∷ ss) every its all = with_each u ss (with_state s every) its.1 (with_one u s every its.0 all)

  marks_so : (u : Uid) (ns : List ℕ) (q : Plan) → NowIsBy G u (Committing (Preparing q [])) →
      NowIsBy G u (Committing (Preparing (marks_stores ns q) []))
  marks_so u [] q so = so
  marks_so u (n ∷ ns) q so =
      marks_so u ns (marks_store n q) (let p = so.0 in record { top = p.top; loaded = p.loaded; changed = p.changed }, so.1)

  -- a vote that is taken is for its plan's top
  abbrev pub VotesFor : Uid → Reply → Type 0
  VotesFor u r = (states : List ObjectState) → r ≡ Reply.Voted (voted.Yes states) → AllByRecursion (Of u) states

  answer_step : (u : Uid) (from : ℕ) (m : Machine) (r : Reply) → NowIsBy G u (Committing m) → VotesFor u r →
      IsNext u (commit.answered from m r).step
  answer_step u from (Voting p left) (Reply.Voted (voted.Yes states)) so votes = let q = so.0 in
      votes_step u (without_number from left) (record p { changed = with_states states p.changed })
      (record { top = q.top; loaded = q.loaded; changed = with_each u states p.changed (votes states refl) q.changed }) so.1
  answer_step u from (Voting p left) (Reply.Voted (voted.Changed w)) so votes = tt
  answer_step u from (Preparing p left) (Reply.Prepared prepared.Yes) so votes = let q = so.0 in stores_step u (without_number from left)
      (record p { prepared = with_number from p.prepared }) (record { top = q.top; loaded = q.loaded; changed = q.changed }) so.1
  answer_step u from (Preparing p left) (Reply.Prepared (prepared.InDoubt x h)) so votes = let q = so.0 in
      stores_step u (without_number from left) (marks_store from p) (record { top = q.top; loaded = q.loaded; changed = q.changed }) so.1
  answer_step u from (Preparing p left) (Reply.Prepared (prepared.Old x v)) so votes = tt
  answer_step u from (Confirming p) (Reply.Confirmed confirmed.Yes) so votes = let q = so.0 in
      (record { top = q.top; loaded = q.loaded; changed = q.changed }, inr so.1)
  answer_step u from (Confirming p) (Reply.Confirmed (confirmed.Conflict h m)) so votes = tt
  answer_step u from (Confirming p) (Reply.Confirmed (confirmed.Changed w)) so votes = tt
  answer_step u from (Confirming p) (Reply.Confirmed (confirmed.NoStores x)) so votes = tt
  answer_step u from (Confirming p) (Reply.Confirmed (confirmed.Listed x s)) so votes = tt
  answer_step u from (Voting p left) (Reply.Bound r) so votes = so
  answer_step u from (Voting p left) (Reply.Loaded r) so votes = so
  answer_step u from (Voting p left) (Reply.Activated r) so votes = so
  answer_step u from (Voting p left) (Reply.Noted r) so votes = so
  answer_step u from (Voting p left) (Reply.Invoked r) so votes = so
  answer_step u from (Voting p left) (Reply.Prepared r) so votes = so
  answer_step u from (Voting p left) (Reply.Confirmed r) so votes = so
  answer_step u from (Preparing p left) (Reply.Bound r) so votes = so
  answer_step u from (Preparing p left) (Reply.Loaded r) so votes = so
  answer_step u from (Preparing p left) (Reply.Activated r) so votes = so
  answer_step u from (Preparing p left) (Reply.Noted r) so votes = so
  answer_step u from (Preparing p left) (Reply.Invoked r) so votes = so
  answer_step u from (Preparing p left) (Reply.Voted r) so votes = so
  answer_step u from (Preparing p left) (Reply.Confirmed r) so votes = so
  answer_step u from (Confirming p) (Reply.Bound r) so votes = so
  answer_step u from (Confirming p) (Reply.Loaded r) so votes = so
  answer_step u from (Confirming p) (Reply.Activated r) so votes = so
  answer_step u from (Confirming p) (Reply.Noted r) so votes = so
  answer_step u from (Confirming p) (Reply.Invoked r) so votes = so
  answer_step u from (Confirming p) (Reply.Voted r) so votes = so
  answer_step u from (Confirming p) (Reply.Prepared r) so votes = so

  giveup_step : (u : Uid) (m : Machine) → NowIsBy G u (Committing m) → IsNext u (commit.given_up m).step
  giveup_step u (Voting p left) so = tt
  giveup_step u (Preparing p left) so = let z = marks_so u left p so in stores_step u [] (marks_stores left p) z.0 z.1
  giveup_step u (Confirming p) so = tt

  -- ---- the decision

  module _ (u : Uid) (p : Plan) (c : Coord) (its : PlanIsBy G u p) (sent : Sent p) (so : So G c) where
    abbrev act : Uid
    act = actor p.path

    abbrev outs : List Effect
    outs = record_work act p ++ says act body.Committed c ++ map (decided_told (root_of p.path) act p) p.sent

    abbrev H : Uid → Type 0
    H w = G w ⊎ TellsIn outs w

    abbrev e : Coord
    e = ended (actor p.path) ending.Commit c

    abbrev took : Coord
    took = on_doing (actor p.path) (λ (d : Doing). record d { took = participants p }) e

    ke : So G e
    ke = ended_so G (actor p.path) ending.Commit c so

    kt : So G took
    kt = on_do_so G (actor p.path) (λ (d : Doing). record d { took = participants p }) e (λ d found. let z = ke in
        z.works (actor p.path) d found) ke

    told_end : is_empty p.sent ≡ false → TellsIn outs act
    told_end some = tells_behind (record_work act p ++ says act body.Committed c) (map (decided_told (root_of p.path) act p) p.sent) act
        (tells_decided (root_of p.path) act p p.sent some)

    abbrev Has : ℕ × ObjectState → Type 0
    Has z = IsBy H z.1

    states_so : H u → (ss : List ObjectState) (states : List (ℕ × ObjectState)) → AllByRecursion (Of u) ss → AllByRecursion Has states →
        AllByRecursion Has (states_after ss states)
    states_so h [] states of all = all
    states_so h (s ∷ ss) states of all = states_so h ss (put_number s.uid.num s states) of.1
        (keyed_put (λ (n : ℕ) (z : ObjectState). IsBy H z) s.uid.num s states (subst H (sym of.0) h) all)

    after_so : (r : Root) → RootIsBy H r → RootIsBy H (root_after p r)
    after_so r rs = record { joined = rs.joined; states = by sent }
      where
        by : Sent p → AllByRecursion Has (states_after p.changed r.states)
        by (inl none) = subst (λ ss. AllByRecursion Has (states_after ss r.states)) (sym none) rs.states
        by (inr some) = states_so (subst H its.top (inr (told_end some))) p.changed r.states its.changed rs.states

    root_here : RootIsBy H (root_at (root_of p.path) took)
    root_here = let r = root_so G (root_of p.path) took kt in record {
      joined = all_each (λ (j : Joined). IsBy G j.loaded) (λ (j : Joined). IsBy H j.loaded) (root_at (root_of p.path) took).joined
          (λ j g. inl g) r.joined;
      states = all_each (λ (z : ℕ × ObjectState). IsBy G z.1) (λ (z : ℕ × ObjectState). IsBy H z.1) (root_at (root_of p.path) took).states
          (λ z g. inl g) r.states;
    }

    abbrev r : Coord
    r = on_root (root_of p.path) (root_after p) took

    kr : CoordIsBy G H r
    kr = let w = wider G H (λ w g. inl g) took kt in let z = kt in record {
      works = z.works;
      roots = all_put (RootIsBy H) (root_of p.path).num (root_after p (root_at (root_of p.path) took)) took.roots
          (after_so (root_at (root_of p.path) took) root_here) w.roots;
    }

    decide_so : IsTold (decide p c)
    decide_so = let z = kr in by (has_record p) z.works z.roots
      where
        by : (w : Bool) → ((v : Uid) (d : Doing) → doing_of v r ≡ Some d → NowIsBy G v d.now) →
            AllByRecursion (λ (x : ℕ × Root). RootIsBy H x.1) r.roots → CoordIsBy G H
            (cond w (record r { telling = put_uid act (record { root = root_of p.path; nodes = participants p }) r.telling }) r)
        by true works roots = record { works = works; roots = roots }
        by false works roots = record { works = works; roots = roots }

  step_commit_so : (u : Uid) (s : CommitStep) (intents : List (Uid × Intent)) (c : Coord) → So G c → IsNext u s →
      IsTold (step_commit u s intents c)
  step_commit_so u (Stays m) intents c so its = plainly (record { part = commits_in u m c; outs = [] }) (commits_so G u m c so its)
  step_commit_so u (Asks m) intents c so its = plainly (asks_machine m (commits_in u m c))
      (asked_so G (plan_of m).path (plan_of m).req (waiting m) (commits_in u m c) (commits_so G u m c so its))
  step_commit_so u (Decides p) intents c so its = decide_so u p c its.0 its.1 so
  step_commit_so u (Aborts why p) intents c so its = plainly (aborts_with u why intents c) (ended_so G u ending.Abort c so)

  moved_commit_so : (u : Uid) (m : Marked) (intents : List (Uid × Intent)) (c : Coord) → So G c → IsNext u m.step →
      IsTold (moved_commit u m intents c)
  moved_commit_so u m intents c so its =
      behind (mark_lines u m.marks c) (step_commit u m.step intents c) (step_commit_so u m.step intents c so its)

  -- ---- what a coordinator hears, and inputs

  -- what was heard
  abbrev pub IsHeard : Served Coord (Unit {0}) → Type 0
  IsHeard d = CoordIsBy G (λ w. G w ⊎ TellsIn d.outs w) d.part

  pub hears_so : (from : ℕ) (a : Asked) (r : Reply) (intents : List (Uid × Intent)) (c : Coord) → So G c →
      ((st : ObjectState) → r ≡ Reply.Loaded (loaded.State st) → IsBy G st) → VotesFor a.act r → IsHeard (heard from a r intents c)
  hears_so from a r intents c so loads votes = by (doing_of a.act c) refl
    where
      none : IsHeard (heard_none c)
      none = plainly (record { part = c; outs = [] }) so

      now : (d : Doing) → doing_of a.act c ≡ Some d → (n : Now) → d.now ≡ n → NowIsBy G a.act n → IsHeard (heard_now from a r intents c n)
      now d found Idle is its = none
      now d found (Calling s) is its = each (waits_for_call from a r s)
        where
          each : (w : Bool) → IsHeard (cond {A = Served Coord (Unit {0})} w (heard_by (heard_call s r c)) (heard_none c))
          each true = plainly (heard_call s r c) (heard_call_so G s r c so loads)
          each false = none
      now d found (Committing m) is its = each (waits_for_commit from a r m)
        where
          each : (w : Bool) → IsHeard
              (cond {A = Served Coord (Unit {0})} w (heard_by (moved_commit a.act (commit.answered from m r) intents c)) (heard_none c))
          each true = moved_commit_so a.act (commit.answered from m r) intents c so (answer_step a.act from m r its votes)
          each false = none

      by : (o : Option Doing) → doing_of a.act c ≡ o → IsHeard (heard_doing from a r intents c o)
      by None is = none
      by (Some d) is = now d is d.now refl (so.works a.act d is)

  give_up_so : (u : Uid) (intents : List (Uid × Intent)) (c : Coord) → So G c → IsTold (give_up u intents c)
  give_up_so u intents c so = by (doing_of u c) refl
    where
      now : (n : Now) → NowIsBy G u n → IsTold (gives_up u intents c n)
      now Idle its = plainly (record { part = c; outs = [] }) so
      now (Calling s) its = plainly (gives_up u intents c (Calling s)) (given_up_so G s c so)
      now (Committing m) its = behind (gaveup_lines u (nodes_given_up m) c) (moved_commit u (commit.given_up m) intents c)
          (moved_commit_so u (commit.given_up m) intents c so (giveup_step u m its))

      by : (o : Option Doing) → doing_of u c ≡ o → IsTold (give_up_doing u intents c o)
      by None is = plainly (record { part = c; outs = [] }) so
      by (Some d) is = now d.now (so.works u d is)

  commit_so : (b : Branch) (intents : List (Uid × Intent)) (c : Coord) → So G c → IsTold (commit_action b intents c)
  commit_so b intents c so = by b.doomed
    where
      u : Uid
      u = actor b.path

      plan : Plan
      plan = plan_for b.path (last_req (doing_of u c)) (root_at (root_of b.path) c) c

      top : IsTold (commit_top b.path intents c)
      top = behind (says u body.Committing c) (moved_commit u (commit.start plan) intents c)
          (moved_commit_so u (commit.start plan) intents c so (vote_step u (servers_of plan) plan
          (plan_so G b.path (last_req (doing_of u c)) (root_at (root_of b.path) c) c (root_so G (root_of b.path) c so)) (inl refl)))

      kinds : (q : Kind) → IsTold (commit_open b intents c q)
      kinds kind.Nested = plainly (ends_with u ending.Commit body.Committed intents c) (ended_so G u ending.Commit c so)
      kinds kind.Serial = plainly (ends_with u ending.Commit body.Ended intents c) (ended_so G u ending.Commit c so)
      kinds kind.Top = top
      kinds kind.Independent = top
      kinds kind.Constituent = top

      by : (d : Bool) → IsTold (cond {A = Did Coord} d (aborts_with u cause.Doomed intents c) (commit_open b intents c b.kind))
      by true = plainly (aborts_with u cause.Doomed intents c) (ended_so G u ending.Abort c so)
      by false = kinds b.kind

  on_named : (l : Label) (f : Branch → Did Coord) (c : Coord) → So G c → ((b : Branch) → IsTold (f b)) →
      IsTold (on_branch f c (branch_named l c))
  on_named l f c so each = by (branch_named l c)
    where
      by : (o : Option Branch) → IsTold (on_branch f c o)
      by None = plainly (record { part = c; outs = [] }) so
      by (Some b) = each b

  pub acts_so : (i : Input) (intents : List (Uid × Intent)) (c : Coord) → So G c → IsTold (acts i intents c)
  acts_so (input.Begin l q parent) intents c so =
      plainly (begin_action l q parent (parent_of parent c) c) (begins_so G l q parent (parent_of parent c) c so)
  acts_so (input.Call l x o) intents c so =
      on_named l (λ b. call b.path x o c) c so (λ b. plainly (call b.path x o c) (call_so G b.path x o c so))
  acts_so (input.Include l x s) intents c so =
      on_named l (λ b. include b.path x s c) c so (λ b. plainly (include b.path x s c) (include_so G b.path x s c so))
  acts_so (input.Commit l) intents c so = on_named l (λ b. commit_action b intents c) c so (λ b. commit_so b intents c so)
  acts_so (input.Abort l) intents c so = on_named l (λ b. abort_action (actor b.path) intents c) c so
      (λ b. plainly (abort_action (actor b.path) intents c) (all_so G (open_below (actor b.path) c.tree ++ actor b.path ∷ []) c so))
  acts_so (input.GiveUp l) intents c so =
      on_named l (λ b. give_up (actor b.path) intents c) c so (λ b. give_up_so (actor b.path) intents c so)
  acts_so (input.Frame j from m) intents c so = plainly (record { part = c; outs = [] }) so
  acts_so input.Tick intents c so = plainly (record { part = c; outs = [] }) so
  acts_so input.Restart intents c so = plainly (record { part = c; outs = [] }) so
  acts_so input.Crash intents c so = plainly (record { part = c; outs = [] }) so
  acts_so (input.Show x) intents c so = plainly (record { part = c; outs = [] }) so
