-- Commits under way: what holds of each is kept by all that a coordinator does, where it is by the steps of a commit.
use Rattle.arj_law_parts.proofs.Words
use Words.{◌≡◌, ◌≢◌, ◌∙◌, ◌+◌, ℕ, zero, suc, List, [], ◌∷◌, ◌++◌, Bool, true, false, cond, Option, Some, None, refl, sym, ap, subst, ⊎_elim}
use Words.{Ask, Asked, End, Kind, Label, Path, Uid, Reply, actor, again_all, again_now, asks_all, asks_node, begin_action, call, call_steps}
use Words.{commit_action, commit_open, commit_top, commits_in, doomed_by, give_up, give_up_doing, gives_up, goes_on, heard, heard_by}
use Words.{heard_call, heard_doing, heard_none, heard_now, include, kept_at, last_req, next_req, renewed, root_heard, root_lost, root_moved}
use Words.{step_call, step_commit, waits_for_call, waits_for_commit, moved_commit, Answered, CallEnd, CallStep, Changed, Conflict, Ended}
use Words.{Included, Lost, Moved, On, Steps, answered, given_up, start, Aborts, Asks, CommitStep, Decides, Machine, Plan, Stays, has_record}
use Words.{participants, plan_of, Calling, Committing, Coord, Doing, Idle, Now, doing_of, is_free, keeping_of, on_doing, on_root, plan_for}
use Words.{root_at, with_keeping, Did, Intent, Served, abort_action, aborts_with, acked, acked_by, acked_left, all_aborted, decide, ended}
use Words.{root_after, at_uid, has, put_uid, unbound, without_number, Input, acts, branch_named, on_branch, parent_of, Branch, at_place}
use Words.{doomed_at, ended_at, is_own, open_below, root_of, uses_object}
use Words.cause
use Words.ending
use Words.kind
use Words.calls
use Words.commit
use Words.input
use Rattle.arj_law_lock_view.proofs.Terms.{on_cases, doomed_same, uses_same, get_more, end_tree_on}

module _ (P : Uid → Machine → Type 0) where
  -- so it is of each commit under way
  abbrev pub AreAt : Coord → Type 0
  AreAt c = (u : Uid) (d : Doing) (m : Machine) → doing_of u c ≡ Some d → d.now ≡ Committing m → P u m

  -- and of what a step comes to
  abbrev pub IsNext : Uid → CommitStep → Type 0
  IsNext u (Stays k) = P u k
  IsNext u (Asks k) = P u k
  IsNext u _ = Unit {0}

  -- ---- what a coordinator does

  at_own : (e f : Coord) → ((u : Uid) → is_own u f.tree ≡ is_own u e.tree) → f.doings ≡ e.doings → AreAt e → AreAt f
  at_own e f own doings t w x m is now = t w x m ((λ i. cond (sym (own w) i) (at_place w.num (sym doings i)) None) ∙ is) now

  at_do : (u : Uid) (f : Doing → Doing) (e : Coord) →
      ((d : Doing) (m : Machine) → doing_of u e ≡ Some d → (f d).now ≡ Committing m → P u m) → AreAt e → AreAt (on_doing u f e)
  at_do u f e its t w x m is now = ⊎_elim
      (λ same. subst (λ (v : Uid). P v m) (sym same.0)
      (its same.1 m (ap (λ v. doing_of v e) (sym same.0) ∙ same.2) (ap (λ (y : Doing). y.now) same.3 ∙ now)))
      (λ other. t w x m other.1 now)
      (on_cases u f e w x is)

  at_idle : (u : Uid) (e : Coord) → AreAt e → AreAt (on_doing u (λ (d : Doing). record d { now = Idle }) e)
  at_idle u e t = at_do u (λ (d : Doing). record d { now = Idle }) e (λ d m found now. absurd (cc now)) t

  at_goes : (s : Steps) (e : Coord) → AreAt e → AreAt (goes_on s e).part
  at_goes s e t = λ w x m is now.
      at_do (actor s.path) (λ (d : Doing). record d { req = s.req; now = Calling s }) e (λ d m found now. absurd (cc now)) t w x m is now

  at_step_call : (s : Steps) (n : CallStep) (e : Coord) → AreAt e → AreAt (step_call s n e).part
  at_step_call s (On at) e t = at_goes (record s { req = s.req + 1; at = at }) e t
  at_step_call s (Ended g) e t = by g
    where
      idle : Coord
      idle = on_root (root_of s.path) (root_heard s g) (on_doing (actor s.path) (λ (d : Doing). record d { now = Idle }) e)

      rests : AreAt idle
      rests w x m is now = at_idle (actor s.path) e t w x m is now

      by : (h : CallEnd) → AreAt (doomed_by (actor s.path) h idle)
      by (Answered a) = rests
      by (Included st) = rests
      by (Conflict h x k) = rests
      by (Changed k w) = rests
      by (Lost k false) = rests
      by (Lost k true) = let q = doomed_same (actor s.path) idle.tree in
          at_own idle (record idle { tree = doomed_at (actor s.path) idle.tree }) q.own refl rests

  at_ended : (u : Uid) (how : End) (e : Coord) → AreAt e → AreAt (ended u how e)
  at_ended u how e t = let g = end_tree_on u how e in
      at_idle u (record e { tree = ended_at u how e.tree }) (at_own e (record e { tree = ended_at u how e.tree }) g.own refl t)

  at_all : (us : List Uid) (e : Coord) → AreAt e → AreAt (all_aborted us e).part
  at_all [] e t = t
  at_all (u ∷ us) e t = at_all us (ended u ending.Abort e) (at_ended u ending.Abort e t)

  at_asked : (p : Path) (req : ℕ) (asked : List (ℕ × Ask)) (e : Coord) → AreAt e → AreAt (asks_all p req asked e).part
  at_asked p req [] e t = t
  at_asked p req (a ∷ rest) e t = at_asked p req rest (asks_node p req a e).part (λ w x m is now. t w x m is now)

  at_commits : (u : Uid) (m : Machine) (e : Coord) → P u m → AreAt e → AreAt (commits_in u m e)
  at_commits u m e its t = at_do u (λ (d : Doing). record d { req = (plan_of m).req; now = Committing m }) e
      (λ d k found now. (let same : m ≡ k = cc now in subst (P u) same its)) t

  at_decide : (p : Plan) (e : Coord) → AreAt e → AreAt (decide p e).part
  at_decide p e t = by (has_record p)
    where
      f : Coord
      f = ended (actor p.path) ending.Commit e

      tf : AreAt (ended (actor p.path) ending.Commit e)
      tf = at_ended (actor p.path) ending.Commit e t

      r : Coord
      r = on_root (root_of p.path) (root_after p) (on_doing (actor p.path) (λ (d : Doing). record d { took = participants p }) f)

      tr : AreAt r
      tr w x m is now = at_do (actor p.path) (λ (d : Doing). record d { took = participants p }) f
          (λ d k found at. tf (actor p.path) d k found at) tf w x m is now

      by : (b : Bool) → AreAt
          (cond b (record r { telling = put_uid (actor p.path) (record { root = root_of p.path; nodes = participants p }) r.telling }) r)
      by true = λ w x m is now. tr w x m is now
      by false = tr

  at_step : (u : Uid) (s : CommitStep) (intents : List (Uid × Intent)) (e : Coord) → IsNext u s → AreAt e →
      AreAt (step_commit u s intents e).part
  at_step u (Stays m) intents e its t = at_commits u m e its t
  at_step u (Asks m) intents e its t =
      at_asked (plan_of m).path (plan_of m).req (commit.waiting m) (commits_in u m e) (at_commits u m e its t)
  at_step u (Decides p) intents e its t = at_decide p e t
  at_step u (Aborts why p) intents e its t = at_ended u ending.Abort e t

  module _ (c : Coord) (now_at : AreAt c) where
    pub at_heard : (from : ℕ) (a : Asked) (r : Reply) (intents : List (Uid × Intent))
        → ((d : Doing) (m : Machine) → doing_of a.act c ≡ Some d → d.now ≡ Committing m → waits_for_commit from a r m ≡ true → P a.act m →
        IsNext a.act (commit.answered from m r).step) → AreAt (heard from a r intents c).part
    at_heard from a r intents hears = by (doing_of a.act c) refl
      where
        now : (d : Doing) → doing_of a.act c ≡ Some d → (q : Now) → d.now ≡ q → AreAt (heard_now from a r intents c q).part
        now d found Idle is = now_at
        now d found (Calling s) is = one (waits_for_call from a r s)
          where
            m : Moved
            m = answered (is_free (root_of s.path) (actor s.path) s.x c) (kept_at s c) s.goal s.at r

            one : (w : Bool) → AreAt (cond {A = Served Coord (Unit {0})} w (heard_by (heard_call s r c)) (heard_none c)).part
            one true = at_step_call s m.step (on_root (root_of s.path) (root_moved s r m) c) now_at
            one false = now_at
        now d found (Committing m) is = one (waits_for_commit from a r m) refl
          where
            one : (w : Bool) → waits_for_commit from a r m ≡ w → AreAt (cond {A = Served Coord (Unit {0})} w
                (heard_by (moved_commit a.act (commit.answered from m r) intents c)) (heard_none c)).part
            one true waits =
                at_step a.act (commit.answered from m r).step intents c (hears d m found is waits (now_at a.act d m found is)) now_at
            one false off = now_at

        by : (o : Option Doing) → doing_of a.act c ≡ o → AreAt (heard_doing from a r intents c o).part
        by None is = now_at
        by (Some d) is = now d is d.now refl

    module _ (lost : (u : Uid) (m : Machine) → P u m → IsNext u (commit.given_up m).step) where
      at_give_up : (u : Uid) (intents : List (Uid × Intent)) → AreAt (give_up u intents c).part
      at_give_up u intents = by (doing_of u c) refl
        where
          now : (d : Doing) → doing_of u c ≡ Some d → (q : Now) → d.now ≡ q → AreAt (gives_up u intents c q).part
          now d found Idle is = now_at
          now d found (Calling s) is = at_step_call s (given_up s.at) (on_root (root_of s.path) (root_lost s (given_up s.at)) c) now_at
          now d found (Committing m) is = at_step u (commit.given_up m).step intents c (lost u m (now_at u d m found is)) now_at

          by : (o : Option Doing) → doing_of u c ≡ o → AreAt (give_up_doing u intents c o).part
          by None none = now_at
          by (Some d) found = now d found d.now refl

    pub at_acts : ((u : Uid) (m : Machine) → P u m → IsNext u (commit.given_up m).step) → ((b : Branch) → let p = plan_for b.path
        (last_req (doing_of (actor b.path) c)) (root_at (root_of b.path) c) c in IsNext (actor b.path) (commit.start p).step)
        → (i : Input) (intents : List (Uid × Intent)) → ((l : Label) (q : Kind) (parent : Option Label) → i ≢ input.Begin l q parent) →
        AreAt (acts i intents c).part
    at_acts lost starts (input.Begin l q parent) intents other = absurd (other l q parent refl)
    at_acts lost starts (input.Call l x o) intents other = by (branch_named l c)
      where
        by : (f : Option Branch) → AreAt (on_branch (λ b. call b.path x o c) c f).part
        by None = now_at
        by (Some b) =
            let p = b.path in
            let r = root_at (root_of p) c in
            let old = keeping_of x r in
            let k = renewed (is_free (root_of p) (actor p) x c) old old.kept in
            let used : Coord = record c { tree = uses_object p x c.tree } in
            at_goes (call_steps p x o (next_req (actor p) c) r c k) (on_root (root_of p) (with_keeping x k) used)
            (at_own c used (uses_same p x c.tree).own refl now_at)
    at_acts lost starts (input.Include l x s) intents other = by (branch_named l c)
      where
        by : (f : Option Branch) → AreAt (on_branch (λ b. include b.path x s c) c f).part
        by None = now_at
        by (Some b) = let used : Coord = record c { tree = uses_object b.path x c.tree } in at_goes (start b.path x (calls.Include s) None
            unbound (next_req (actor b.path) c)) used (at_own c used (uses_same b.path x c.tree).own refl now_at)
    at_acts lost starts (input.Commit l) intents other = by (branch_named l c)
      where
        by : (f : Option Branch) → AreAt (on_branch (λ b. commit_action b intents c) c f).part
        by None = now_at
        by (Some b) = doomed b.doomed
          where
            u : Uid
            u = actor b.path

            plan : Plan
            plan = plan_for b.path (last_req (doing_of u c)) (root_at (root_of b.path) c) c

            top : AreAt (commit_top b.path intents c).part
            top = at_step u (commit.start plan).step intents c (starts b) now_at

            kinds : (q : Kind) → AreAt (commit_open b intents c q).part
            kinds kind.Nested = at_ended u ending.Commit c now_at
            kinds kind.Serial = at_ended u ending.Commit c now_at
            kinds kind.Top = top
            kinds kind.Independent = top
            kinds kind.Constituent = top

            doomed : (d : Bool) →
                AreAt (cond {A = Did Coord} d (aborts_with u cause.Doomed intents c) (commit_open b intents c b.kind)).part
            doomed true = at_ended u ending.Abort c now_at
            doomed false = kinds b.kind
    at_acts lost starts (input.Abort l) intents other = by (branch_named l c)
      where
        by : (f : Option Branch) → AreAt (on_branch (λ b. abort_action (actor b.path) intents c) c f).part
        by None = now_at
        by (Some b) = at_all (open_below (actor b.path) c.tree ++ actor b.path ∷ []) c now_at
    at_acts lost starts (input.GiveUp l) intents other = by (branch_named l c)
      where
        by : (f : Option Branch) → AreAt (on_branch (λ b. give_up (actor b.path) intents c) c f).part
        by None = now_at
        by (Some b) = at_give_up lost (actor b.path) intents
    at_acts lost starts (input.Frame j from m) intents other = now_at
    at_acts lost starts input.Tick intents other = now_at
    at_acts lost starts input.Restart intents other = now_at
    at_acts lost starts input.Crash intents other = now_at
    at_acts lost starts (input.Show x) intents other = now_at

    pub at_acked : (from : ℕ) (u : Uid) (intents : List (Uid × Intent)) → AreAt (acked from u intents c).part
    at_acked from u intents = by (at_uid u c.telling)
      where
        gone : (i : Intent) (ns : List ℕ) → AreAt (acked_left u i intents c ns).part
        gone i [] w x m is now = now_at w x m is now
        gone i (n ∷ ns) w x m is now = now_at w x m is now

        by : (o : Option Intent) → AreAt (acked_by from u intents c o).part
        by None = now_at
        by (Some i) = one (has i.nodes from)
          where
            one : (b : Bool) → AreAt (cond {A = Served Coord (Unit {0})} b (acked_left u i intents c (without_number from i.nodes))
                (record { part = c; outs = []; reply = None })).part
            one true = gone i (without_number from i.nodes)
            one false = now_at

    pub at_begins : (l : Label) (q : Kind) (parent : Option Label) → AreAt (begin_action l q parent (parent_of parent c) c).part
    at_begins l q parent w x m is now = was (is_own w c.tree) w.num is (λ f. now_at w x m f now)
      where
        fresh : Doing
        fresh = record { label = l; req = 0; now = Idle; took = [] }

        was : (b : Bool) (j : ℕ) → cond b (at_place j (c.doings ++ fresh ∷ [])) None ≡ Some x →
            (cond b (at_place j c.doings) None ≡ Some x → P w m) → P w m
        was true zero at f = let no_way : ◌≡◌ {A = Option Doing} None (Some x) = at in absurd (cc no_way)
        was true (suc j) at f = ⊎_elim (λ old. f old) (λ new.
            absurd (let bad : Idle ≡ Committing m = ap (λ (y : Doing). y.now) new.1 ∙ now in cc bad)) (get_more j fresh x c.doings at)
        was false j at f = let no_way : ◌≡◌ {A = Option Doing} None (Some x) = at in absurd (cc no_way)

  pub at_again : (ds : List Doing) (e : Coord) → AreAt e → AreAt (again_all ds e).part
  at_again [] e t = t
  at_again (d ∷ ds) e t = at_again ds (again_now e d.now).part (now d.now)
    where
      now : (q : Now) → AreAt (again_now e q).part
      now Idle = t
      now (Calling s) = λ w x m is at. t w x m is at
      now (Committing m) = at_asked (plan_of m).path (plan_of m).req (commit.waiting m) e t
