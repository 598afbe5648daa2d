-- An action's request numbers rise by five at most in each event, and what answers bring takes none beyond.
use Rattle.arj_law_parts.proofs.Words
use Words.{◌≡◌, ◌≢◌, ◌≤◌, ◌<◌, ◌+◌, ◌-◌, ◌*◌, ◌==◌, ◌&&◌, ◌++◌, ℕ, zero, suc, Bool, true, false, cond, List, [], ◌∷◌, length, map, Option}
use Words.{Some, None, refl, sym, ◌∙◌, ap, subst, arith, ⊤}
use Words.{AllByRecursion, and_parts, slice_set, slice_get, nat_lt, ◌||◌, not, option_map}
use Words.{Ask, Asked, Head, Header, Message, ObjectState, Uid, Reply, actor, answers, ask_kind, reply_kind, asks, last_end, object, Kind}
use Words.{Label, Op, Event, End, Path}
use Words.{Disk, Effect, Intent, Served, Did, Prep, Ready, Already, Old, InDoubt, held_at, holder_of, is_prepared, prepare_answer, Handled}
use Words.{Here, Parts, Ran, Took, Void}
use Words.{by_reply, coord_heard, handle, handle_all, handle_answer, handle_ask, handle_ends, handle_other, if_naming, is_meant, load_by}
use Words.{load_held, next_round, prepare_by}
use Words.{ran, ran_handled, rounds, most_rounds, sends_answer, serve, served, taken, whole, with_coord, with_naming, with_server}
use Words.{Coord, Doing, Now, Idle, Calling, Committing, Root, doing_of, change_doing, on_doing, on_root, keeping_of, root_at, is_free}
use Words.{plan_for, with_keeping, set_doing}
use Words.{again_all, again_now, asks_all, asks_node, begin_action, call, call_steps, commit_action, commit_open, commit_top, commits_in}
use Words.{doomed_by, give_up, give_up_doing, gives_up, goes_on}
use Words.{heard, heard_by, heard_call, heard_doing, heard_none, heard_now, include, kept_at, known_at_start, last_req, moved_commit}
use Words.{next_req, renewed, root_heard, root_lost, root_moved, step_call, step_commit}
use Words.{waits_for_call, waits_for_commit, acked, acked_by, acked_left, all_aborted, aborts_with, abort_action, decide, ended, root_after}
use Words.{open_below, uses_object, doomed_at, root_of}
use Words.{At, AtActivate, AtBind, AtInvoke, AtLoad, AtNote, CallEnd, CallStep, Answered, Changed, Conflict, Ended, Included, Lost, On}
use Words.{Goal, Include, Known, Run, Moved, Steps, answered, given_up, next_ask, start}
use Words.{activated_by, bound_by, live_known, load_from, made_by, made_known, or_lost, other_binding, same_binding, with_inc, write_known}
use Words.{start_at}
use Words.{Aborts, Asks, CommitStep, Confirming, Decides, Machine, Plan, Preparing, Stays, Used, Voting, ask_of, begin_confirm}
use Words.{begin_prepare, begin_vote, has_record, marks_store, marks_stores, participants, plan_of, servers_of, stores_left, targets_of}
use Words.{votes_left, with_states}
use Words.{has, put_uid, at_uid, unbound, with_number, without_number, binding_eq, binding_less, Binding, Naming, Branch}
use Words.{Input, Node, Step, acts, branch_named, on_branch, parent_of, frame_step, handled_step, parts_in, refusal, step, step_of}
use Words.{step_unless, step_up, coord_did}
use Words.{Arm, Frame, World, Giving, armed, at_number, begins, begins_any, change_frame, count_works, counted, cut, deliver, deliver_frame}
use Words.{disarmed, done_step, giving, halted_at, happens, is_up_at, junk, junk_fits}
use Words.{labels_unless, limited, lose, lose_frame, lowest, node_numbers, quiesce, quiet_line, refused_at, run_event, run_unless}
use Words.{lacks_labels, settle, settle_for, show_all, show_up}
use Words.{set_place, step_node, step_with, steps, tick_all, tick_up, at_place, first_reason, reasons, Move, all_moved, moved, world_by}
use Words.{world_from, Start, is_own, node_by, numbers_to}
use Words.ask
use Words.body
use Words.bound
use Words.calls
use Words.cause
use Words.commit
use Words.confirmed
use Words.ending
use Words.event
use Words.input
use Words.invoked
use Words.kind
use Words.loaded
use Words.message
use Words.naming
use Words.prepared
use Words.recorded
use Words.server
use Words.voted
use Rattle.arj_law_promise.proofs.Terms.{all_append}
use Rattle.arj_law_promise.specs.meant.Meant.{parts_done}
use Rattle.arj_law_promise.proofs.rooms.{Events.Rises, Events.moves_rise, Events.parts_rise}
use Rattle.arj_law_promise.proofs.rooms.Reach.{HasLess, Within, answer_less, answer_within, giveup_within, left_at, left_of, reach}
use Rattle.arj_law_promise.proofs.rooms.Reach.{vote_within}
use Rattle.arj_law_promise.specs.rooms.Numbers.{NumbersHaveRoom, NumbersRise, last_number, most_requests}
use Rattle.arj_law_runs.proofs.addresses.Lists.{all_placed, all_set}
use Rattle.arj_promise.specs.Runs as runs
use Rattle.arj_protocol.specs.Step.{disk_by, does_nothing, restart_outs, restart_step, step_down}

-- ---- lists

all_less : {A : Type 0} (P Q : A → Type 0) (xs : List A) → ((a : A) → P a → Q a) → AllByRecursion P xs → AllByRecursion Q xs
all_less P Q [] each all = tt
all_less P Q (x ∷ xs) each all = (each x all.0, all_less P Q xs each all.1)

module _ (c : ℕ) where
  -- ---- a coordinator

  -- the last request of an action, and all to which answers may lead, are within this number
  abbrev Fits : Doing → Type 0
  Fits d = (d.req ≤ c) × (reach d.now ≤ c)

  abbrev UpTo : Coord → Type 0
  UpTo e = AllByRecursion Fits e.doings

  its : (u : Uid) (e : Coord) (d : Doing) → UpTo e → doing_of u e ≡ Some d → Fits d
  its u e d all is = by (is_own u e.tree) is
    where
      by : (b : Bool) → cond b (at_place u.num e.doings) None ≡ Some d → Fits d
      by true at = all_placed Fits u.num e.doings d all at
      by false at = absurd (cc at)

  up_do : (u : Uid) (f : Doing → Doing) (e : Coord) → ((d : Doing) → doing_of u e ≡ Some d → Fits d → Fits (f d)) → UpTo e → UpTo
      (on_doing u f e)
  up_do u f e each all = by (doing_of u e) refl
    where
      by : (o : Option Doing) → doing_of u e ≡ o → UpTo (change_doing f u e o)
      by None is = all
      by (Some d) is = all_set Fits u.num (f d) e.doings (each d is (its u e d all is)) all

  up_idle : (u : Uid) (e : Coord) → UpTo e → UpTo (on_doing u (λ (d : Doing). record d { now = Idle }) e)
  up_idle u e all = up_do u (λ (d : Doing). record d { now = Idle }) e (λ d is fits. (fits.0, low c)) all
    where
      low : (n : ℕ) → 0 ≤ n
      low n = omega arith

  up_goes : (s : Steps) (e : Coord) → s.req + left_at s.at ≤ c → UpTo e → UpTo (goes_on s e).part
  up_goes s e le all = up_do (actor s.path) (λ (d : Doing). record d { req = s.req; now = Calling s }) e
      (λ d is fits. (low s.req (left_at s.at) le, le)) all
    where
      low : (r l : ℕ) → r + l ≤ c → r ≤ c
      low r l is = omega (arith, is)

  -- it goes on by the next number, with less left
  up_step : (s : Steps) (n : CallStep) (e : Coord) → HasLess (left_at s.at) n → s.req + left_at s.at ≤ c → UpTo e → UpTo
      (step_call s n e).part
  up_step s (On at) e less le all = up_goes (record s { req = s.req + 1; at = at }) e (next s.req (left_at s.at) (left_at at) less le) all
    where
      next : (r l k : ℕ) → k < l → r + l ≤ c → r + 1 + k ≤ c
      next r l k lt is = omega (arith, lt, is)
  up_step s (Ended g) e less le all = by g
    where
      idle : Coord
      idle = on_root (root_of s.path) (root_heard s g) (on_doing (actor s.path) (λ (d : Doing). record d { now = Idle }) e)

      by : (h : CallEnd) → UpTo (doomed_by (actor s.path) h idle)
      by (Answered a) = up_idle (actor s.path) e all
      by (Included st) = up_idle (actor s.path) e all
      by (Conflict h x k) = up_idle (actor s.path) e all
      by (Changed k w) = up_idle (actor s.path) e all
      by (Lost k false) = up_idle (actor s.path) e all
      by (Lost k true) = up_idle (actor s.path) e all

  up_ended : (u : Uid) (how : End) (e : Coord) → UpTo e → UpTo (ended u how e)
  up_ended u how e all = up_idle u (record e { tree = Words.ended_at u how e.tree }) all

  up_aborted : (us : List Uid) (e : Coord) → UpTo e → UpTo (all_aborted us e).part
  up_aborted [] e all = all
  up_aborted (u ∷ us) e all = up_aborted us (ended u ending.Abort e) (up_ended u ending.Abort e all)

  up_asked : (p : Path) (req : ℕ) (asked : List (ℕ × Ask)) (e : Coord) → UpTo e → UpTo (asks_all p req asked e).part
  up_asked p req [] e all = all
  up_asked p req (a ∷ rest) e all = up_asked p req rest (asks_node p req a e).part all

  up_decide : (p : Plan) (e : Coord) → UpTo e → UpTo (decide p e).part
  up_decide p e all = by (has_record p)
    where
      f : Coord
      f = ended (actor p.path) ending.Commit e

      r : Coord
      r = on_root (root_of p.path) (root_after p) (on_doing (actor p.path) (λ (d : Doing). record d { took = participants p }) f)

      fine : UpTo r
      fine = up_do (actor p.path) (λ (d : Doing). record d { took = participants p }) f (λ d is fits. fits)
          (up_ended (actor p.path) ending.Commit e all)

      by : (b : Bool) → UpTo (cond b (record r {
        telling = put_uid (actor p.path) (record { root = root_of p.path; nodes = participants p })
            r.telling;
      }) r)
      by true = fine
      by false = fine

  up_commits : (u : Uid) (m : Machine) (e : Coord) → (plan_of m).req + left_of m ≤ c → UpTo e → UpTo (commits_in u m e)
  up_commits u m e le all = up_do u (λ (d : Doing). record d { req = (plan_of m).req; now = Committing m }) e
      (λ d is fits. (low (plan_of m).req (left_of m) le, le)) all
    where
      low : (r l : ℕ) → r + l ≤ c → r ≤ c
      low r l is = omega (arith, is)

  up_commit : (u : Uid) (st : CommitStep) (intents : List (Uid × Intent)) (e : Coord) → Within c st → UpTo e → UpTo
      (step_commit u st intents e).part
  up_commit u (Stays m) intents e le all = up_commits u m e le all
  up_commit u (Asks m) intents e le all = up_asked (plan_of m).path (plan_of m).req (commit.waiting m) (commits_in u m e)
      (up_commits u m e le all)
  up_commit u (Decides p) intents e le all = up_decide p e all
  up_commit u (Aborts why p) intents e le all = up_ended u ending.Abort e all

  -- an answer leads no further
  up_heard : (from : ℕ) (a : Asked) (r : Reply) (intents : List (Uid × Intent)) (e : Coord) → UpTo e → UpTo (heard from a r intents e).part
  up_heard from a r intents e all = by (doing_of a.act e) refl
    where
      now : (d : Doing) → Fits d → (q : Now) → d.now ≡ q → UpTo (heard_now from a r intents e q).part
      now d fits Idle is = all
      now d fits (Calling s) is = one (waits_for_call from a r s) refl
        where
          m : Moved
          m = answered (is_free (root_of s.path) (actor s.path) s.x e) (kept_at s e) s.goal s.at r

          kind_is : waits_for_call from a r s ≡ true → (reply_kind r == ask_kind (next_ask [] s)) ≡ true
          kind_is w = (and_parts (reply_kind r == ask_kind (next_ask [] s)) (Words.next_node s == from)
              (and_parts (s.req == a.req) ((reply_kind r == ask_kind (next_ask [] s)) && (Words.next_node s == from)) w).1).0

          one : (w : Bool) → waits_for_call from a r s ≡ w → UpTo (cond {A = Served Coord (Unit {0})} w (heard_by (heard_call s r e))
              (heard_none e)).part
          one true w = up_step s m.step (on_root (root_of s.path) (root_moved s r m) e)
              (answer_less (is_free (root_of s.path) (actor s.path) s.x e) (kept_at s e) s.x s.goal s.at r (kind_is w))
              (subst (λ z. reach z ≤ c) is fits.1) all
          one false w = all
      now d fits (Committing m) is = one (waits_for_commit from a r m)
        where
          one : (w : Bool) → UpTo (cond {A = Served Coord (Unit {0})} w (heard_by (moved_commit a.act (commit.answered from m r) intents e))
              (heard_none e)).part
          one true = up_commit a.act (commit.answered from m r).step intents e
              (answer_within c from m r (subst (λ z. reach z ≤ c) is fits.1)) all
          one false = all

      by : (o : Option Doing) → doing_of a.act e ≡ o → UpTo (heard_doing from a r intents e o).part
      by None is = all
      by (Some d) is = now d (its a.act e d all is) d.now refl

  up_acked : (from : ℕ) (u : Uid) (intents : List (Uid × Intent)) (e : Coord) → UpTo e → UpTo (acked from u intents e).part
  up_acked from u intents e all = by (at_uid u e.telling)
    where
      left : (i : Intent) (ns : List ℕ) → UpTo (acked_left u i intents e ns).part
      left i [] = all
      left i (m ∷ ms) = all

      by : (o : Option Intent) → UpTo (acked_by from u intents e o).part
      by None = all
      by (Some i) = one (has i.nodes from)
        where
          one : (b : Bool) → UpTo (cond {A = Served Coord (Unit {0})} b (acked_left u i intents e (without_number from i.nodes))
              (record { part = e; outs = []; reply = None })).part
          one true = left i (without_number from i.nodes)
          one false = all

  up_again : (ds : List Doing) (e : Coord) → UpTo e → UpTo (again_all ds e).part
  up_again [] e all = all
  up_again (d ∷ ds) e all = up_again ds (again_now e d.now).part (now d.now)
    where
      now : (q : Now) → UpTo (again_now e q).part
      now Idle = all
      now (Calling s) = all
      now (Committing m) = up_asked (plan_of m).path (plan_of m).req (commit.waiting m) e all

-- ---- what an input may add

more : (c : ℕ) (ds : List Doing) → AllByRecursion (Fits c) ds → AllByRecursion (Fits (c + 5)) ds
more c ds all = all_less (Fits c) (Fits (c + 5)) ds (λ d fits. (low d.req fits.0, low (reach d.now) fits.1)) all
  where
    low : (n : ℕ) → n ≤ c → n ≤ c + 5
    low n is = omega (arith, is)

-- the next number of an action
next_low : (c : ℕ) (u : Uid) (e : Coord) → UpTo c e → last_req (doing_of u e) ≤ c
next_low c u e all = by (doing_of u e) refl
  where
    by : (o : Option Doing) → doing_of u e ≡ o → last_req o ≤ c
    by None is = omega arith
    by (Some d) is = (its c u e d all is).0

started : (c n : ℕ) (k : Option Known) (avoid : Binding) → n ≤ c → n + 1 + left_at (start_at k avoid) ≤ c + 5
started c n None avoid le = omega (arith, le)
started c n (Some k) avoid le = omega (arith, le)

up_give_up : (c : ℕ) (u : Uid) (intents : List (Uid × Intent)) (e : Coord) → UpTo c e → UpTo (c + 5) (give_up u intents e).part
up_give_up c u intents e all = by (doing_of u e) refl
  where
    wide : UpTo (c + 5) e
    wide = more c e.doings all

    next : (r : ℕ) → r + 3 ≤ c → r + 1 + 3 ≤ c + 5
    next r is = omega (arith, is)

    low : (n : ℕ) → n ≤ c → n ≤ c + 5
    low n is = omega (arith, is)

    call_up : (s : Steps) → s.req + left_at s.at ≤ c → (at : At) → s.at ≡ at →
        UpTo (c + 5) (step_call s (given_up at) (on_root (root_of s.path) (root_lost s (given_up s.at)) e)).part
    call_up s le (AtBind avoid) is = up_step (c + 5) s (Ended (Lost 1 false)) (on_root (root_of s.path) (root_lost s (given_up s.at)) e) tt
        (low (s.req + left_at s.at) le) wide
    call_up s le (AtLoad k n []) is = up_step (c + 5) s (Ended (Lost n false)) (on_root (root_of s.path) (root_lost s (given_up s.at)) e) tt
        (low (s.req + left_at s.at) le) wide
    call_up s le (AtLoad k n (t ∷ ts)) is = up_goes (c + 5) (record s { req = s.req + 1; at = AtLoad k t ts })
        (on_root (root_of s.path) (root_lost s (given_up s.at)) e)
        (next s.req (subst (λ z. s.req + left_at z ≤ c) is le)) wide
    call_up s le (AtActivate k st) is = up_step (c + 5) s (Ended (Lost k.server false))
        (on_root (root_of s.path) (root_lost s (given_up s.at)) e) tt (low (s.req + left_at s.at) le) wide
    call_up s le (AtNote k i) is = up_step (c + 5) s (Ended (Lost 1 false)) (on_root (root_of s.path) (root_lost s (given_up s.at)) e) tt
        (low (s.req + left_at s.at) le) wide
    call_up s le (AtInvoke k i) is = up_step (c + 5) s (Ended (Lost k.server true))
        (on_root (root_of s.path) (root_lost s (given_up s.at)) e) tt (low (s.req + left_at s.at) le) wide

    now : (d : Doing) → Fits c d → (q : Now) → d.now ≡ q → UpTo (c + 5) (gives_up u intents e q).part
    now d fits Idle is = wide
    now d fits (Calling s) is = call_up s (subst (λ z. reach z ≤ c) is fits.1) s.at refl
    now d fits (Committing m) is = up_commit (c + 5) u (commit.given_up m).step intents e
        (giveup_within (c + 5) m (low (reach (Committing m)) (subst (λ z. reach z ≤ c) is fits.1))) wide

    by : (o : Option Doing) → doing_of u e ≡ o → UpTo (c + 5) (give_up_doing u intents e o).part
    by None is = wide
    by (Some d) is = now d (its c u e d all is) d.now refl

up_acts : (c : ℕ) (i : Input) (intents : List (Uid × Intent)) (e : Coord) → UpTo c e → UpTo (c + 5) (acts i intents e).part
up_acts c i intents e all = by i
  where
    wide : UpTo (c + 5) e
    wide = more c e.doings all

    by : (i : Input) → UpTo (c + 5) (acts i intents e).part
    by (input.Begin l k parent) = all_append (Fits (c + 5)) e.doings (record { label = l; req = 0; now = Idle; took = [] } ∷ []) wide
        ((low (c + 5), low (c + 5)), tt)
      where
        low : (n : ℕ) → 0 ≤ n
        low n = omega arith
    by (input.Call l x o) = at (branch_named l e)
      where
        at : (f : Option Branch) → UpTo (c + 5) (on_branch (λ b. call b.path x o e) e f).part
        at None = wide
        at (Some b) =
            let p = b.path in
            let r = root_at (root_of p) e in
            let old = keeping_of x r in
            let k = renewed (is_free (root_of p) (actor p) x e) old old.kept in
            up_goes (c + 5) (call_steps p x o (next_req (actor p) e) r e k) (on_root (root_of p) (with_keeping x k)
            (record e { tree = uses_object p x e.tree }))
            (started c (last_req (doing_of (actor p) e)) (known_at_start (Words.top_of p) x r e k.kept) k.avoid
            (next_low c (actor p) e all)) wide
    by (input.Include l x s) = at (branch_named l e)
      where
        at : (f : Option Branch) → UpTo (c + 5) (on_branch (λ b. include b.path x s e) e f).part
        at None = wide
        at (Some b) = up_goes (c + 5) (start b.path x (Include s) None unbound (next_req (actor b.path) e))
            (record e { tree = uses_object b.path x e.tree })
            (started c (last_req (doing_of (actor b.path) e)) None unbound (next_low c (actor b.path) e all)) wide
    by (input.Commit l) = at (branch_named l e)
      where
        at : (f : Option Branch) → UpTo (c + 5) (on_branch (λ b. commit_action b intents e) e f).part
        at None = wide
        at (Some b) = doomed b.doomed
          where
            u : Uid
            u = actor b.path

            plan : Plan
            plan = plan_for b.path (last_req (doing_of u e)) (root_at (root_of b.path) e) e

            three : (n : ℕ) → n ≤ c → n + 3 ≤ c + 5
            three n is = omega (arith, is)

            top : UpTo (c + 5) (commit_top b.path intents e).part
            top = up_commit (c + 5) u (commit.start plan).step intents e (vote_within (c + 5) (servers_of plan) plan
                (three (last_req (doing_of u e)) (next_low c u e all))) wide

            kinds : (q : Kind) → UpTo (c + 5) (commit_open b intents e q).part
            kinds kind.Nested = up_ended (c + 5) u ending.Commit e wide
            kinds kind.Serial = up_ended (c + 5) u ending.Commit e wide
            kinds kind.Top = top
            kinds kind.Independent = top
            kinds kind.Constituent = top

            doomed : (d : Bool) → UpTo (c + 5) (cond {A = Did Coord} d (aborts_with u cause.Doomed intents e)
                (commit_open b intents e b.kind)).part
            doomed true = up_ended (c + 5) u ending.Abort e wide
            doomed false = kinds b.kind
    by (input.Abort l) = at (branch_named l e)
      where
        at : (f : Option Branch) → UpTo (c + 5) (on_branch (λ b. abort_action (actor b.path) intents e) e f).part
        at None = wide
        at (Some b) = up_aborted (c + 5) (open_below (actor b.path) e.tree ++ actor b.path ∷ []) e wide
    by (input.GiveUp l) = at (branch_named l e)
      where
        at : (f : Option Branch) → UpTo (c + 5) (on_branch (λ b. give_up (actor b.path) intents e) e f).part
        at None = wide
        at (Some b) = up_give_up c (actor b.path) intents e all
    by (input.Frame j from m) = wide
    by input.Tick = wide
    by input.Restart = wide
    by input.Crash = wide
    by (input.Show x) = wide

-- ---- a node

module _ (c : ℕ) where
  abbrev AllIn : Handled → Type 0
  AllIn (Void outs) = ⊤
  AllIn (Took t outs) = UpTo c t.coord

  module _ (n : ℕ) (d : Disk) (t : Parts) (from : ℕ) (up : UpTo c t.coord) where
    answered_in : (h : Head) (v : Parts) (outs : List Effect) (o : Option Reply) → UpTo c v.coord → AllIn (sends_answer from h v outs o)
    answered_in h v outs None fits = tt
    answered_in h v outs (Some r) fits = fits

    with_it : (f : Naming → Handled) (o : Option Naming) → ((z : Naming) → AllIn (f z)) → AllIn (if_naming f o)
    with_it f None each = tt
    with_it f (Some z) each = each z

    asked : (h : Head) (a : Ask) → AllIn (serve n d t from h a)
    asked h (ask.Bind x include avoid) = with_it _ t.naming (λ o. let r = naming.bind h.path x include avoid d.names o in
        answered_in h (with_naming t r.part) r.outs (option_map Reply.Bound r.reply) up)
    asked h (ask.Load x) = load (holder_of (object x) d.store)
      where
        held : (s : Option ObjectState) → AllIn (load_held from h t s)
        held None = tt
        held (Some s) = up

        load : (o : Option Uid) → AllIn (load_by x d.store from h t o)
        load (Some u) = up
        load None = held (held_at (object x) d.store)
    asked h (ask.Activate b st) = let r = server.activate n h.path b st t.server in
        answered_in h (with_server t r.part) r.outs (option_map Reply.Activated r.reply) up
    asked h (ask.Record x b i g) = with_it _ t.naming (λ o. let r = naming.note h.path x b i g o in
        answered_in h (with_naming t r.part) r.outs (option_map Reply.Noted r.reply) up)
    asked h (ask.Invoke x b i ends o) = let r = server.invoke n h x b i ends o t.server in
        answered_in h (with_server t r.part) r.outs (option_map Reply.Invoked r.reply) up
    asked h (ask.Vote i ties ends) = let r = server.vote n h.path i ties ends t.server in
        answered_in h (with_server t r.part) r.outs (option_map Reply.Voted r.reply) up
    asked h (ask.Prepare states) = by (is_prepared (actor h.path) d.store)
      where
        new : (a : Prep) → AllIn (prepare_by n states from h t a)
        new Ready = up
        new (Already u) = tt
        new (Old u v) = up
        new (InDoubt u holder) = up

        by : (b : Bool) → AllIn (cond b (sends_answer from h t [] (Some (Reply.Prepared prepared.Yes)))
            (prepare_by n states from h t (prepare_answer (actor h.path) states d.store)))
        by true = up
        by false = new (prepare_answer (actor h.path) states d.store)
    asked h (ask.Confirm grants ex inc) = with_it _ t.naming (λ o. let r = Words.confirm h.path grants ex inc d.names o in
        answered_in h (with_naming t r.part) r.outs (option_map Reply.Confirmed r.reply) up)

    coord_left : (r : Served Coord (Unit {0})) → UpTo c r.part → AllIn (coord_heard t r)
    coord_left r fits = by r.reply
      where
        by : (o : Option (Unit {0})) → AllIn (by_reply (with_coord t r.part) r.outs o)
        by None = tt
        by (Some u) = fits

    ends_in : (ack : Bool) (ends : List (Uid × End)) (o : Option (Uid × End)) → AllIn (handle_ends n d t from ack ends o)
    ends_in ack ends None = up
    ends_in ack ends (Some e) = up

    other : (m : Message) → AllIn (handle_other n d t from m)
    other (message.Told m) = ends_in m.ack m.ends (last_end m.ends)
    other (message.Acked m) = coord_left (acked from m.act d.intents t.coord) (up_acked c from m.act d.intents t.coord up)
    other (message.Query m) = up
    other (message.Hello m) = up
    other m = tt

    handled_in : (m : Message) → AllIn (handle n d t from m)
    handled_in m = by (asks m)
      where
        heard_or : (a : Option (Asked × Reply)) → AllIn (handle_answer n d t from m a)
        heard_or None = other m
        heard_or (Some a) = coord_left (heard from a.0 a.1 d.intents t.coord) (up_heard c from a.0 a.1 d.intents t.coord up)

        by : (o : Option (Head × Ask)) → AllIn (handle_ask n d t from m o)
        by None = heard_or (answers m)
        by (Some a) = asked a.0 a.1

    taken_in : (m : Message) → AllIn (taken n d t from m)
    taken_in m = by (is_meant t m)
      where
        by : (b : Bool) → AllIn (cond b (handle n d t from m) (Void []))
        by true = handled_in m
        by false = tt

  -- ---- rounds

  abbrev RanIn : Ran → Type 0
  RanIn r = UpTo c r.here.parts.coord

  ran_parts : (n : ℕ) (t : Parts) (outs : List Effect) (d : Disk) → (ran n t outs d).here.parts ≡ t
  ran_parts n t [] d = refl
  ran_parts n t (Words.Say b ∷ es) d = ran_parts n t es d
  ran_parts n t (Words.Do w ∷ es) d = ran_parts n t es (Words.worked w d)
  ran_parts n t (Words.Send to m ∷ es) d = by (to == n) (ran_parts n t es d)
    where
      by : (b : Bool) → (ran n t es d).here.parts ≡ t →
          (cond b (Words.first_queued m (ran n t es d)) (Words.first_done (Words.Send to m) (ran n t es d))).here.parts ≡ t
      by true is = is
      by false is = is

  ran_in : (n : ℕ) (t : Parts) (outs : List Effect) (d : Disk) → UpTo c t.coord → RanIn (ran n t outs d)
  ran_in n t outs d up = subst (λ (v : Parts). UpTo c v.coord) (sym (ran_parts n t outs d)) up

  handled_ran : (n : ℕ) (h : Here) (o : Handled) → AllIn o → UpTo c h.parts.coord → RanIn (ran_handled n h o)
  handled_ran n h (Void outs) up its = ran_in n h.parts outs h.disk its
  handled_ran n h (Took t outs) up its = ran_in n t outs h.disk up

  all_ran : (n : ℕ) (ms : List Message) (h : Here) → UpTo c h.parts.coord → RanIn (handle_all n ms h)
  all_ran n [] h its = its
  all_ran n (m ∷ ms) h its = let q = ran_handled n h (taken n h.disk h.parts n m) in
      all_ran n ms q.here (handled_ran n h (taken n h.disk h.parts n m) (taken_in n h.disk h.parts n its m) its)

  rounds_in : (n k : ℕ) (r : Ran) → RanIn r → RanIn (rounds n k r)
  rounds_in n zero r up = up
  rounds_in n (suc k) r up = by r.queue (rounds_in n k)
    where
      by : (q : List Message) → ((s : Ran) → RanIn s → RanIn (rounds n k s)) → RanIn
          (elim q [ [] ↦ r | m ∷ ms ↦ rounds n k (next_round n r) ])
      by [] ih = up
      by (m ∷ ms) ih = ih (next_round n r) (all_ran n r.queue r.here up)

  whole_in : (n : ℕ) (t : Parts) (outs : List Effect) (d : Disk) → UpTo c t.coord → RanIn (whole n t outs d)
  whole_in n t outs d up = rounds_in n most_rounds (ran n t outs d) (ran_in n t outs d up)

  -- the coordinator of a node, where it is up
  abbrev LiveIn : Option Parts → Type 0
  LiveIn None = ⊤
  LiveIn (Some t) = UpTo c t.coord

  abbrev NodeIn : Node → Type 0
  NodeIn n = LiveIn n.live

  frame_in : (k from : ℕ) (n : Node) (t : Parts) (m : Option Message) → NodeIn n → UpTo c t.coord → NodeIn (frame_step k from n t m).after
  frame_in k from n t None fits up = fits
  frame_in k from n t (Some m) fits up = by (taken n.number n.disk t from m) (taken_in n.number n.disk t from up m)
    where
      by : (o : Handled) → AllIn o → NodeIn (handled_step k n o).after
      by (Void outs) its = fits
      by (Took v outs) its = whole_in n.number v outs n.disk its

live_more : (c : ℕ) (o : Option Parts) → LiveIn c o → LiveIn (c + 5) o
live_more c None its = tt
live_more c (Some t) its = more c t.coord.doings its

-- what an input leaves: an input about an action may add five, and so may the beginning of one
abbrev adds : Input → ℕ → ℕ
adds (input.Frame k from m) c = c
adds input.Tick c = c
adds input.Restart c = c
adds input.Crash c = c
adds (input.Show x) c = c
adds i c = c + 5

adds_live : (i : Input) (c : ℕ) (o : Option Parts) → LiveIn c o → LiveIn (adds i c) o
adds_live (input.Frame k from m) c o its = its
adds_live input.Tick c o its = its
adds_live input.Restart c o its = its
adds_live input.Crash c o its = its
adds_live (input.Show x) c o its = its
adds_live (input.Begin l k p) c o its = live_more c o its
adds_live (input.Call l x q) c o its = live_more c o its
adds_live (input.Include l x s) c o its = live_more c o its
adds_live (input.Commit l) c o its = live_more c o its
adds_live (input.Abort l) c o its = live_more c o its
adds_live (input.GiveUp l) c o its = live_more c o its

step_in : (c : ℕ) (hd : Header) (i : Input) (n : Node) → NodeIn c n → NodeIn (adds i c) (step hd n i).after
step_in c hd i n fits = by (refusal hd i n)
  where
    did : (i : Input) (t : Parts) → UpTo c t.coord → NodeIn (c + 5) (coord_did n t (acts i n.disk.intents t.coord)).after
    did i t up = let d = acts i n.disk.intents t.coord in whole_in (c + 5) n.number (with_coord t d.part) d.outs n.disk
        (up_acts c i n.disk.intents t.coord up)

    up_at : (i : Input) (t : Parts) → UpTo c t.coord → NodeIn (adds i c) (step_up i n t).after
    up_at (input.Frame k from m) t up = frame_in c k from n t m fits up
    up_at input.Tick t up = let d = again_all t.coord.doings t.coord in whole_in c n.number (with_coord t d.part)
        (d.outs ++ Words.tolds_again t.coord.telling ++ map Words.query_about (Words.holders n.disk t)) n.disk
        (up_again c t.coord.doings t.coord up)
    up_at input.Restart t up = fits
    up_at input.Crash t up = tt
    up_at (input.Show x) t up = fits
    up_at (input.Begin l k p) t up = did (input.Begin l k p) t up
    up_at (input.Call l x o) t up = did (input.Call l x o) t up
    up_at (input.Include l x s) t up = did (input.Include l x s) t up
    up_at (input.Commit l) t up = did (input.Commit l) t up
    up_at (input.Abort l) t up = did (input.Abort l) t up
    up_at (input.GiveUp l) t up = did (input.GiveUp l) t up

    down : (i : Input) → NodeIn (adds i c) (step_down hd i n).after
    down input.Restart = whole_in c n.number (parts_in n.number (n.disk.inc + 1) n.disk) (restart_outs hd n.number (n.disk.inc + 1) n.disk)
        n.disk tt
    down (input.Frame k from m) = fits
    down input.Tick = fits
    down input.Crash = fits
    down (input.Show x) = fits
    down (input.Begin l k p) = live_more c n.live fits
    down (input.Call l x o) = live_more c n.live fits
    down (input.Include l x s) = live_more c n.live fits
    down (input.Commit l) = live_more c n.live fits
    down (input.Abort l) = live_more c n.live fits
    down (input.GiveUp l) = live_more c n.live fits

    at : (o : Option Parts) → LiveIn c o → NodeIn (adds i c) (step_of hd i n o).after
    at None fit = down i
    at (Some t) fit = up_at i t fit

    by : (o : Option ℕ) → NodeIn (adds i c) (step_unless hd i n o).after
    by (Some r) = adds_live i c n.live fits
    by None = at n.live fits

-- ---- in every run

-- what it adds
abbrev cost : Input → ℕ
cost i = adds i 0

adds_is : (i : Input) (c : ℕ) → adds i c ≡ c + cost i
adds_is (input.Frame k from m) c = omega arith
adds_is input.Tick c = omega arith
adds_is input.Restart c = omega arith
adds_is input.Crash c = omega arith
adds_is (input.Show x) c = omega arith
adds_is (input.Begin l k p) c = omega arith
adds_is (input.Call l x o) c = omega arith
adds_is (input.Include l x s) c = omega arith
adds_is (input.Commit l) c = omega arith
adds_is (input.Abort l) c = omega arith
adds_is (input.GiveUp l) c = omega arith

few : (i : Input) → cost i ≤ 5
few (input.Frame k from m) = omega arith
few input.Tick = omega arith
few input.Restart = omega arith
few input.Crash = omega arith
few (input.Show x) = omega arith
few (input.Begin l k p) = omega arith
few (input.Call l x o) = omega arith
few (input.Include l x s) = omega arith
few (input.Commit l) = omega arith
few (input.Abort l) = omega arith
few (input.GiveUp l) = omega arith

rises : Rises NodeIn cost 5
rises = record {
  more = λ c k n le fits. live_wider c k le n.live fits;
  steps = λ c hd i n fits. subst (λ m. NodeIn m (step hd n i).after) (adds_is i c) (step_in c hd i n fits);
  stops = λ c hd i n k how fits. tt;
  few = few;
  frames = λ k from m. refl;
  ticks = refl;
  shows = λ x. refl;
}
  where
    live_wider : (c k : ℕ) → c ≤ k → (o : Option Parts) → LiveIn c o → LiveIn k o
    live_wider c k le None fits = tt
    live_wider c k le (Some t) fits = all_less (Fits c) (Fits k) t.coord.doings (λ d fit. (low d.req fit.0, low (reach d.now) fit.1)) fits
      where
        low : (n : ℕ) → n ≤ c → n ≤ k
        low n is = omega (arith, is, le)

firsts : (hd : Header) (st : Start) (ns : List ℕ) → AllByRecursion (NodeIn 0) (map (node_by hd st) ns)
firsts hd st [] = tt
firsts hd st (n ∷ ns) = (by (st.up n), firsts hd st ns)
  where
    by : (b : Bool) → LiveIn 0 (cond b (Some (parts_in n (st.incs n + 1) (disk_by hd st n))) None)
    by true = tt
    by false = tt

pub numbers_rise : NumbersRise
numbers_rise hd r arms ps k n t u d there live found = le d.req (length r.moves)
    (its (0 + 5 * length r.moves) u t.coord d (subst (LiveIn (0 + 5 * length r.moves)) live
    (all_placed (NodeIn (0 + 5 * length r.moves)) k (parts_done ps (record (counted (world_by hd r)) { arms = arms })).nodes n
    (parts_rise NodeIn cost 5 rises (0 + 5 * length r.moves) ps (record (counted (world_by hd r)) { arms = arms })
    (moves_rise NodeIn cost 5 rises 0 r.moves (world_from hd r.start) (firsts hd r.start (numbers_to hd.nodes)))) there)) found).0
  where
    le : (q l : ℕ) → q ≤ 0 + 5 * l → q ≤ most_requests * l
    le q l is = omega (arith, is)

pub numbers_room : NumbersHaveRoom
numbers_room hd r arms ps k n t u d few there live found = below d.req (length r.moves)
    (numbers_rise hd r arms ps k n t u d there live found) few
  where
    below : (q l : ℕ) → q ≤ most_requests * l → l ≤ runs.most_events → q < last_number
    below q l is few = omega (arith, is, few)
