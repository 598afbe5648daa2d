-- What actions wait for at a coordinator is of the calls and includes that it was asked for, whatever it does.
use Rattle.arj_law_parts.proofs.Words
use Words.{◌≡◌, ◌≢◌, ◌++◌, ◌+◌, ℕ, Bool, true, false, cond, List, [], ◌∷◌, Option, Some, None, refl, subst, ⊤, AllByRecursion, Ask, Asked}
use Words.{End, Kind, Label, Path, Uid, Reply, actor, again_all, again_now, asks_all, asks_node, begin_action, call, call_steps}
use Words.{commit_action, commit_open, commit_top, commits_in, doomed_by, give_up, give_up_doing, gives_up, goes_on, heard, heard_by}
use Words.{heard_call, heard_doing, heard_none, heard_now, include, kept_at, last_req, moved_commit, next_req, renewed, root_heard}
use Words.{root_lost, root_moved, step_call, step_commit, waits_for_call, waits_for_commit, CallEnd, CallStep, Ended, Goal, Include, On}
use Words.{Run, Steps, answered, given_up, start, Aborts, Asks, CommitStep, Decides, Machine, Plan, Stays, has_record, participants}
use Words.{plan_of, Calling, Committing, Coord, Doing, Idle, Now, change_doing, doing_of, is_free, keeping_of, on_doing, on_root, plan_for}
use Words.{root_at, with_keeping, Did, Intent, Served, abort_action, aborts_with, acked, acked_by, acked_left, all_aborted, decide, ended}
use Words.{root_after, at_uid, has, put_uid, unbound, without_number, Input, acts, branch_named, on_branch, Branch, at_place, ended_at}
use Words.{is_own, open_below, root_of, uses_object}
use Words.cause
use Words.ending
use Words.kind
use Words.calls
use Words.commit
use Words.input
use Rattle.arj_law_serial.proofs.Terms.{all_append, all_placed, WaitFor}
use Rattle.arj_law_runs.proofs.addresses.Lists.{all_set}

module _ (P : ℕ → Goal → Type 0) where
  -- what an action waits for is so
  abbrev pub NowOf : Now → Type 0
  NowOf (Calling s) = P s.x s.goal
  NowOf _ = ⊤

  abbrev pub WorkOf : Doing → Type 0
  WorkOf d = NowOf d.now

  -- so it is of all actions
  abbrev pub WorksOf : Coord → Type 0
  WorksOf c = AllByRecursion WorkOf c.doings

  -- an input asks for such a call or include
  abbrev pub AsksFor : Input → Type 0
  AsksFor (input.Call l x o) = P x (Run o)
  AsksFor (input.Include l x s) = P x (Include s)
  AsksFor i = ⊤

  found_of : (u : Uid) (c : Coord) (d : Doing) → WorksOf c → doing_of u c ≡ Some d → WorkOf d
  found_of u c d all is = by (is_own u c.tree) is
    where
      by : (b : Bool) → cond b (at_place u.num c.doings) None ≡ Some d → WorkOf d
      by true e = all_placed WorkOf u.num c.doings d all e
      by false e = let no_way : ◌≡◌ {A = Option Doing} None (Some d) = e in absurd (cc no_way)

  pub wait_of : (c : Coord) → WorksOf c → WaitFor P c
  wait_of c all u d s found is = subst NowOf is (found_of u c d all found)

  -- ---- pieces

  on_so : (u : Uid) (f : Doing → Doing) (c : Coord) → ((d : Doing) → WorkOf d → WorkOf (f d)) → WorksOf c → WorksOf (on_doing u f c)
  on_so u f c keep all = by (doing_of u c) refl
    where
      by : (o : Option Doing) → doing_of u c ≡ o → WorksOf (change_doing f u c o)
      by None is = all
      by (Some d) is = all_set WorkOf u.num (f d) c.doings (keep d (found_of u c d all is)) all

  idle_so : (u : Uid) (c : Coord) → WorksOf c → WorksOf (on_doing u (λ (d : Doing). record d { now = Idle }) c)
  idle_so u c all = on_so u (λ (d : Doing). record d { now = Idle }) c (λ d k. tt) all

  ended_so : (u : Uid) (how : End) (c : Coord) → WorksOf c → WorksOf (ended u how c)
  ended_so u how c all = idle_so u (record c { tree = ended_at u how c.tree }) all

  all_so : (us : List Uid) (c : Coord) → WorksOf c → WorksOf (all_aborted us c).part
  all_so [] c all = all
  all_so (u ∷ us) c all = all_so us (ended u ending.Abort c) (ended_so u ending.Abort c all)

  abort_so : (u : Uid) (intents : List (Uid × Intent)) (c : Coord) → WorksOf c → WorksOf (abort_action u intents c).part
  abort_so u intents c all = all_so (open_below u c.tree ++ u ∷ []) c all

  asked_so : (p : Path) (req : ℕ) (asked : List (ℕ × Ask)) (c : Coord) → WorksOf c → WorksOf (asks_all p req asked c).part
  asked_so p req [] c all = all
  asked_so p req (a ∷ rest) c all = asked_so p req rest (asks_node p req a c).part all

  commits_so : (u : Uid) (m : Machine) (c : Coord) → WorksOf c → WorksOf (commits_in u m c)
  commits_so u m c all = on_so u (λ (d : Doing). record d { req = (plan_of m).req; now = Committing m }) c (λ d k. tt) all

  decide_so : (p : Plan) (c : Coord) → WorksOf c → WorksOf (decide p c).part
  decide_so p c all = by (has_record p)
    where
      u : Uid
      u = actor p.path

      r : Coord
      r = on_root (root_of p.path) (root_after p) (on_doing u (λ (d : Doing). record d { took = participants p }) (ended u ending.Commit c))

      its : WorksOf r
      its =
          on_so u (λ (d : Doing). record d { took = participants p }) (ended u ending.Commit c) (λ d k. k) (ended_so u ending.Commit c all)

      by : (b : Bool) →
          WorksOf (cond b (record r { telling = put_uid u (record { root = root_of p.path; nodes = participants p }) r.telling }) r)
      by true = its
      by false = its

  step_so : (u : Uid) (s : CommitStep) (intents : List (Uid × Intent)) (c : Coord) → WorksOf c → WorksOf (step_commit u s intents c).part
  step_so u (Stays m) intents c all = commits_so u m c all
  step_so u (Asks m) intents c all = asked_so (plan_of m).path (plan_of m).req (commit.waiting m) (commits_in u m c) (commits_so u m c all)
  step_so u (Decides p) intents c all = decide_so p c all
  step_so u (Aborts why p) intents c all = ended_so u ending.Abort c all

  -- ---- calls

  goes_so : (s : Steps) (c : Coord) → P s.x s.goal → WorksOf c → WorksOf (goes_on s c).part
  goes_so s c its all = on_so (actor s.path) (λ (d : Doing). record d { req = s.req; now = Calling s }) c (λ d k. its) all

  call_so : (s : Steps) (n : CallStep) (c : Coord) → P s.x s.goal → WorksOf c → WorksOf (step_call s n c).part
  call_so s (On next) c its all = goes_so (record s { req = s.req + 1; at = next }) c its all
  call_so s (Ended g) c its all = by g
    where
      told : Coord
      told = on_root (root_of s.path) (root_heard s g) (on_doing (actor s.path) (λ (d : Doing). record d { now = Idle }) c)

      so : WorksOf told
      so = idle_so (actor s.path) c all

      by : (h : CallEnd) → WorksOf (doomed_by (actor s.path) h told)
      by (calls.Answered x) = so
      by (calls.Included st) = so
      by (calls.Conflict h x n) = so
      by (calls.Changed n w) = so
      by (calls.Lost n false) = so
      by (calls.Lost n true) = so

  -- ---- all that a coordinator does

  pub heard_so : (from : ℕ) (a : Asked) (r : Reply) (intents : List (Uid × Intent)) (c : Coord) → WorksOf c →
      WorksOf (heard from a r intents c).part
  heard_so from a r intents c all = by (doing_of a.act c) refl
    where
      now : (n : Now) → NowOf n → WorksOf (heard_now from a r intents c n).part
      now Idle its = all
      now (Calling s) its = one (waits_for_call from a r s)
        where
          one : (w : Bool) → WorksOf (cond {A = Served Coord (Unit {0})} w (heard_by (heard_call s r c)) (heard_none c)).part
          one true = let m = answered (is_free (root_of s.path) (actor s.path) s.x c) (kept_at s c) s.goal s.at r in
              call_so s m.step (on_root (root_of s.path) (root_moved s r m) c) its all
          one false = all
      now (Committing m) its = one (waits_for_commit from a r m)
        where
          one : (w : Bool) → WorksOf (cond {A = Served Coord (Unit {0})} w
              (heard_by (moved_commit a.act (commit.answered from m r) intents c)) (heard_none c)).part
          one true = step_so a.act (commit.answered from m r).step intents c all
          one false = all

      by : (o : Option Doing) → doing_of a.act c ≡ o → WorksOf (heard_doing from a r intents c o).part
      by None is = all
      by (Some d) is = now d.now (found_of a.act c d all is)

  give_up_so : (u : Uid) (intents : List (Uid × Intent)) (c : Coord) → WorksOf c → WorksOf (give_up u intents c).part
  give_up_so u intents c all = by (doing_of u c) refl
    where
      now : (n : Now) → NowOf n → WorksOf (gives_up u intents c n).part
      now Idle its = all
      now (Calling s) its = call_so s (given_up s.at) (on_root (root_of s.path) (root_lost s (given_up s.at)) c) its all
      now (Committing m) its = step_so u (commit.given_up m).step intents c all

      by : (o : Option Doing) → doing_of u c ≡ o → WorksOf (give_up_doing u intents c o).part
      by None is = all
      by (Some d) is = now d.now (found_of u c d all is)

  commit_so : (b : Branch) (intents : List (Uid × Intent)) (c : Coord) → WorksOf c → WorksOf (commit_action b intents c).part
  commit_so b intents c all = doomed b.doomed
    where
      u : Uid
      u = actor b.path

      top : WorksOf (commit_top b.path intents c).part
      top = step_so u (commit.start (plan_for b.path (last_req (doing_of u c)) (root_at (root_of b.path) c) c)).step intents c all

      kinds : (q : Kind) → WorksOf (commit_open b intents c q).part
      kinds kind.Nested = ended_so u ending.Commit c all
      kinds kind.Serial = ended_so u ending.Commit c all
      kinds kind.Top = top
      kinds kind.Independent = top
      kinds kind.Constituent = top

      doomed : (d : Bool) → WorksOf (cond {A = Did Coord} d (aborts_with u cause.Doomed intents c) (commit_open b intents c b.kind)).part
      doomed true = ended_so u ending.Abort c all
      doomed false = kinds b.kind

  pub acked_so : (from : ℕ) (u : Uid) (intents : List (Uid × Intent)) (c : Coord) → WorksOf c → WorksOf (acked from u intents c).part
  acked_so from u intents c all = by (at_uid u c.telling)
    where
      left : (i : Intent) (ns : List ℕ) → WorksOf (acked_left u i intents c ns).part
      left i [] = all
      left i (n ∷ ns) = all

      by : (o : Option Intent) → WorksOf (acked_by from u intents c o).part
      by None = all
      by (Some i) = one (has i.nodes from)
        where
          one : (b : Bool) → WorksOf (cond {A = Served Coord (Unit {0})} b (acked_left u i intents c (without_number from i.nodes))
              (record { part = c; outs = []; reply = None })).part
          one true = left i (without_number from i.nodes)
          one false = all

  pub again_so : (ds : List Doing) (c : Coord) → WorksOf c → WorksOf (again_all ds c).part
  again_so [] c all = all
  again_so (d ∷ ds) c all = again_so ds (again_now c d.now).part (now d.now)
    where
      now : (n : Now) → WorksOf (again_now c n).part
      now Idle = all
      now (Calling s) = all
      now (Committing m) = asked_so (plan_of m).path (plan_of m).req (commit.waiting m) c all

  pub begin_so : (l : Label) (how : Kind) (parent : Option Label) (above : Option Branch) (c : Coord) → WorksOf c →
      WorksOf (begin_action l how parent above c).part
  begin_so l how parent above c all = all_append WorkOf c.doings (record { label = l; req = 0; now = Idle; took = [] } ∷ []) all (tt, tt)

  pub acts_so : (i : Input) (intents : List (Uid × Intent)) (c : Coord) → AsksFor i →
      ((l : Label) (how : Kind) (parent : Option Label) → i ≢ input.Begin l how parent) → WorksOf c → WorksOf (acts i intents c).part
  acts_so (input.Begin l how parent) intents c its other all = absurd (other l how parent refl)
  acts_so (input.Call l x o) intents c its other all = by (branch_named l c)
    where
      by : (f : Option Branch) → WorksOf (on_branch (λ b. call b.path x o c) c f).part
      by None = all
      by (Some b) =
          let k = renewed (is_free (root_of b.path) (actor b.path) x c) (keeping_of x (root_at (root_of b.path) c))
          (let h = keeping_of x (root_at (root_of b.path) c) in h.kept) in
          goes_so (call_steps b.path x o (next_req (actor b.path) c) (root_at (root_of b.path) c) c k)
          (on_root (root_of b.path) (with_keeping x k) (record c { tree = uses_object b.path x c.tree })) its all
  acts_so (input.Include l x s) intents c its other all = by (branch_named l c)
    where
      by : (f : Option Branch) → WorksOf (on_branch (λ b. include b.path x s c) c f).part
      by None = all
      by (Some b) = goes_so (start b.path x (Include s) None unbound (next_req (actor b.path) c))
          (record c { tree = uses_object b.path x c.tree }) its all
  acts_so (input.Commit l) intents c its other all = by (branch_named l c)
    where
      by : (f : Option Branch) → WorksOf (on_branch (λ b. commit_action b intents c) c f).part
      by None = all
      by (Some b) = commit_so b intents c all
  acts_so (input.Abort l) intents c its other all = by (branch_named l c)
    where
      by : (f : Option Branch) → WorksOf (on_branch (λ b. abort_action (actor b.path) intents c) c f).part
      by None = all
      by (Some b) = abort_so (actor b.path) intents c all
  acts_so (input.GiveUp l) intents c its other all = by (branch_named l c)
    where
      by : (f : Option Branch) → WorksOf (on_branch (λ b. give_up (actor b.path) intents c) c f).part
      by None = all
      by (Some b) = give_up_so (actor b.path) intents c all
  acts_so (input.Frame j from m) intents c its other all = all
  acts_so input.Tick intents c its other all = all
  acts_so input.Restart intents c its other all = all
  acts_so input.Crash intents c its other all = all
  acts_so (input.Show x) intents c its other all = all
