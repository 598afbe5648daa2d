-- What each action at a coordinator waits for after a step, by what it waited for before.
use Rattle.arj_law_parts.proofs.Words
use Words.{◌≡◌, ◌≢◌, ◌≤◌, ◌+◌, ◌∙◌, arith, ℕ, List, [], ◌∷◌, ◌++◌, Bool, true, false, cond, Option, Some, None, refl, sym, ap, subst}
use Words.{⊎_elim, Uid, End, Kind, Path, Op, Label, Ask, Asked, Reply, actor, asks_node, asks_all, goes_on, call, call_steps, renewed}
use Words.{include, next_req, doomed_by, root_heard, root_moved, kept_at, step_call, heard_call, commits_in, step_commit, moved_commit}
use Words.{commit_top, commit_open, commit_action, last_req, heard_now, heard_doing, heard, heard_by, heard_none, waits_for_call}
use Words.{waits_for_commit, root_lost, gives_up, give_up_doing, give_up, again_now, again_all, At, Steps, CallStep, On, Ended, CallEnd}
use Words.{Answered, Included, Conflict, Changed, Lost, Moved, answered, given_up, start, Plan, Machine, CommitStep, Stays, Asks, Decides}
use Words.{Aborts, plan_of, participants, has_record, Coord, Doing, Now, Idle, Calling, Committing, doing_of, on_doing, on_root, root_at}
use Words.{keeping_of, is_free, plan_for, with_keeping, Did, Intent, Served, ended, aborts_with, all_aborted, abort_action, decide}
use Words.{root_after, acked, acked_by, acked_left, at_uid, has, put_uid, unbound, without_number, Input, acts, branch_named, on_branch}
use Words.{Branch, is_own, at_place, root_of, open_below, uses_object, doomed_at, ended_at}
use Words.cause
use Words.ending
use Words.kind
use Words.calls
use Words.commit
use Words.input
use Rattle.arj_law_lock_view.proofs.Terms
use Terms.{on_cases, Action, IsAsking, IsBusy, IsGoodCoord, IsTree, Paths, actor_is, doomed_same, uses_same, end_tree_on}

-- What an action waits for now: what it waited for, nothing, the next step of its call, or a further step of its commit; or it is one
-- that starts to wait, with a number from 1 on.
pub data Turn (P : Uid → Type 0) (c : Coord) (w : Uid) : Now → Type 0 where
  Keeps : (d : Doing) (n : Now) → doing_of w c ≡ Some d → d.now ≡ n → Turn P c w n
  Rests : Turn P c w Idle
  GoesOn : (d : Doing) (s : Steps) (at : At) → doing_of w c ≡ Some d → d.now ≡ Calling s →
      Turn P c w (Calling (record s { req = s.req + 1; at = at }))
  Commits : (d : Doing) (k m : Machine) → doing_of w c ≡ Some d → d.now ≡ Committing k → Turn P c w (Committing m)
  Starts : (n : Now) → P w → ((s : Steps) → n ≡ Calling s → 1 ≤ s.req) → Turn P c w n

step_req : {s z : Steps} → Calling s ≡ Calling z → z.req ≡ s.req
step_req {s} {z} is = let same : s ≡ z = cc in ap (λ (y : Steps). y.req) (sym same)

low : (z : Steps) (n : ℕ) → z.req ≡ n + 1 → 1 ≤ z.req
low z n is = omega (arith, is)

module _ (P : Uid → Type 0) (c : Coord) where
  abbrev pub Turned : Coord → Type 0
  Turned e = (w : Uid) (x : Doing) → doing_of w e ≡ Some x → Turn P c w x.now

  pub turned_same : Turned c
  turned_same w x is = Keeps x x.now is refl

  turned_own : (e f : Coord) → ((u : Uid) → is_own u f.tree ≡ is_own u e.tree) → f.doings ≡ e.doings → Turned e → Turned f
  turned_own e f own doings t w x is = t w x ((λ i. cond (sym (own w) i) (at_place w.num (sym doings i)) None) ∙ is)

  turned_do : (u : Uid) (f : Doing → Doing) (e : Coord) → ((d : Doing) → doing_of u e ≡ Some d → Turn P c u (f d).now) → Turned e →
      Turned (on_doing u f e)
  turned_do u f e its t w x is = ⊎_elim
      (λ same. subst (λ (v : Uid). Turn P c v x.now) (sym same.0)
      (subst (λ (y : Doing). Turn P c u y.now) same.3 (its same.1 (ap (λ v. doing_of v e) (sym same.0) ∙ same.2))))
      (λ other. t w x other.1) (on_cases u f e w x is)

  turned_idle : (u : Uid) (e : Coord) → Turned e → Turned (on_doing u (λ (d : Doing). record d { now = Idle }) e)
  turned_idle u e t = turned_do u (λ (d : Doing). record d { now = Idle }) e (λ d found. Rests) t

  turned_goes : (s : Steps) (e : Coord) → Turn P c (actor s.path) (Calling s) → Turned e → Turned (goes_on s e).part
  turned_goes s e its t w x is =
      turned_do (actor s.path) (λ (d : Doing). record d { req = s.req; now = Calling s }) e (λ d found. its) t w x is

  turned_uses : (p : Path) (x : ℕ) (e : Coord) → Turned e → Turned (record e { tree = uses_object p x e.tree })
  turned_uses p x e t = let q = uses_same p x e.tree in turned_own e (record e { tree = uses_object p x e.tree }) q.own refl t

  turned_step_call : (s : Steps) (n : CallStep) (e : Coord) →
      ((at : At) → Turn P c (actor s.path) (Calling (record s { req = s.req + 1; at = at }))) → Turned e → Turned (step_call s n e).part
  turned_step_call s (On at) e its t = turned_goes (record s { req = s.req + 1; at = at }) e (its at) t
  turned_step_call s (Ended g) e its t = by g
    where
      idle : Coord
      idle = on_root (root_of s.path) (root_heard s g) (on_doing (actor s.path) (λ (d : Doing). record d { now = Idle }) e)

      rests : Turned idle
      rests w x is = turned_idle (actor s.path) e t w x is

      by : (h : CallEnd) → Turned (doomed_by (actor s.path) h idle)
      by (Answered a) = rests
      by (Included st) = rests
      by (Conflict h x k) = rests
      by (Changed k w) = rests
      by (Lost k false) = rests
      by (Lost k true) = let q = doomed_same (actor s.path) idle.tree in
          turned_own idle (record idle { tree = doomed_at (actor s.path) idle.tree }) q.own refl rests

  turned_ended : (u : Uid) (how : End) (e : Coord) → Turned e → Turned (ended u how e)
  turned_ended u how e t = let g = end_tree_on u how e in
      turned_idle u (record e { tree = ended_at u how e.tree }) (turned_own e (record e { tree = ended_at u how e.tree }) g.own refl t)

  turned_all : (us : List Uid) (e : Coord) → Turned e → Turned (all_aborted us e).part
  turned_all [] e t = t
  turned_all (u ∷ us) e t = turned_all us (ended u ending.Abort e) (turned_ended u ending.Abort e t)

  turned_asked : (p : Path) (req : ℕ) (asked : List (ℕ × Ask)) (e : Coord) → Turned e → Turned (asks_all p req asked e).part
  turned_asked p req [] e t = t
  turned_asked p req (a ∷ rest) e t = turned_asked p req rest (asks_node p req a e).part (λ w x is. t w x is)

  turned_commits : (u : Uid) (m : Machine) (e : Coord) → Turn P c u (Committing m) → Turned e → Turned (commits_in u m e)
  turned_commits u m e its t = turned_do u (λ (d : Doing). record d { req = (plan_of m).req; now = Committing m }) e (λ d found. its) t

  turned_decide : (p : Plan) (e : Coord) → Turned e → Turned (decide p e).part
  turned_decide p e t = by (has_record p)
    where
      f : Coord
      f = ended (actor p.path) ending.Commit e

      tf : Turned (ended (actor p.path) ending.Commit e)
      tf = turned_ended (actor p.path) ending.Commit e t

      r : Coord
      r = on_root (root_of p.path) (root_after p) (on_doing (actor p.path) (λ (d : Doing). record d { took = participants p }) f)

      tr : Turned r
      tr w x is =
          turned_do (actor p.path) (λ (d : Doing). record d { took = participants p }) f (λ d found. tf (actor p.path) d found) tf w x is

      by : (b : Bool) → Turned
          (cond b (record r { telling = put_uid (actor p.path) (record { root = root_of p.path; nodes = participants p }) r.telling }) r)
      by true = λ w x is. tr w x is
      by false = tr

  turned_step_commit : (u : Uid) (s : CommitStep) (intents : List (Uid × Intent)) (e : Coord) →
      ((m : Machine) → Turn P c u (Committing m)) → Turned e → Turned (step_commit u s intents e).part
  turned_step_commit u (Stays m) intents e its t = turned_commits u m e (its m) t
  turned_step_commit u (Asks m) intents e its t =
      turned_asked (plan_of m).path (plan_of m).req (commit.waiting m) (commits_in u m e) (turned_commits u m e (its m) t)
  turned_step_commit u (Decides p) intents e its t = turned_decide p e t
  turned_step_commit u (Aborts why p) intents e its t = turned_ended u ending.Abort e t

  module _ (actions : List Action) (paths : Paths) (tree : IsTree paths) (good : IsGoodCoord actions paths c) where
    calling : (u : Uid) (d : Doing) (s : Steps) → doing_of u c ≡ Some d → d.now ≡ Calling s → actor s.path ≡ u
    calling u d s found now = let a : IsAsking c.tree u s.path = subst (IsBusy c.tree u) now (good.busy u d found) in
        actor_is actions paths tree u s.path c good a

    pub turned_heard : (from : ℕ) (a : Asked) (r : Reply) (intents : List (Uid × Intent)) → Turned (heard from a r intents c).part
    turned_heard from a r intents = by (doing_of a.act c) refl
      where
        now : (d : Doing) → doing_of a.act c ≡ Some d → (q : Now) → d.now ≡ q → Turned (heard_now from a r intents c q).part
        now d found Idle is = turned_same
        now d found (Calling s) is = one (waits_for_call from a r s)
          where
            m : Moved
            m = answered (is_free (root_of s.path) (actor s.path) s.x c) (kept_at s c) s.goal s.at r

            one : (w : Bool) → Turned (cond {A = Served Coord (Unit {0})} w (heard_by (heard_call s r c)) (heard_none c)).part
            one true = turned_step_call s m.step (on_root (root_of s.path) (root_moved s r m) c)
                (λ at. GoesOn d s at (ap (λ v. doing_of v c) (calling a.act d s found is) ∙ found) is) turned_same
            one false = turned_same
        now d found (Committing m) is = one (waits_for_commit from a r m)
          where
            one : (w : Bool) → Turned (cond {A = Served Coord (Unit {0})} w
                (heard_by (moved_commit a.act (commit.answered from m r) intents c)) (heard_none c)).part
            one true = turned_step_commit a.act (commit.answered from m r).step intents c (λ q. Commits d m q found is) turned_same
            one false = turned_same

        by : (o : Option Doing) → doing_of a.act c ≡ o → Turned (heard_doing from a r intents c o).part
        by None is = turned_same
        by (Some d) is = now d is d.now refl

    turned_give_up : (u : Uid) (intents : List (Uid × Intent)) → Turned (give_up u intents c).part
    turned_give_up u intents = by (doing_of u c) refl
      where
        now : (d : Doing) → doing_of u c ≡ Some d → (q : Now) → d.now ≡ q → Turned (gives_up u intents c q).part
        now d found Idle is = turned_same
        now d found (Calling s) is = turned_step_call s (given_up s.at) (on_root (root_of s.path) (root_lost s (given_up s.at)) c)
            (λ at. GoesOn d s at (ap (λ v. doing_of v c) (calling u d s found is) ∙ found) is) turned_same
        now d found (Committing m) is = turned_step_commit u (commit.given_up m).step intents c (λ q. Commits d m q found is) turned_same

        by : (o : Option Doing) → doing_of u c ≡ o → Turned (give_up_doing u intents c o).part
        by None is = turned_same
        by (Some d) is = now d is d.now refl

    -- who starts to wait at an input is the action that the input names, where it calls, includes or commits
    pub turned_acts : (i : Input) (intents : List (Uid × Intent)) →
        ((l : Label) (q : Kind) (parent : Option Label) → i ≢ input.Begin l q parent)
        → ((l : Label) (x : ℕ) (o : Op) (b : Branch) → i ≡ input.Call l x o → branch_named l c ≡ Some b → P (actor b.path)) →
        ((l : Label) (x s : ℕ) (b : Branch) → i ≡ input.Include l x s → branch_named l c ≡ Some b → P (actor b.path)) →
        ((l : Label) (b : Branch) → i ≡ input.Commit l → branch_named l c ≡ Some b → P (actor b.path))
        → Turned (acts i intents c).part
    turned_acts (input.Begin l q parent) intents other its incs coms = absurd (other l q parent refl)
    turned_acts (input.Call l x o) intents other its incs coms = by (branch_named l c) refl
      where
        by : (f : Option Branch) → branch_named l c ≡ f → Turned (on_branch (λ b. call b.path x o c) c f).part
        by None is = turned_same
        by (Some b) is =
            let p = b.path in
            let r = root_at (root_of p) c in
            let old = keeping_of x r in
            let k = renewed (is_free (root_of p) (actor p) x c) old old.kept in
            let u : Coord = record c { tree = uses_object p x c.tree } in
            turned_goes (call_steps p x o (next_req (actor p) c) r c k) (on_root (root_of p) (with_keeping x k) u)
            (Starts (Calling (call_steps p x o (next_req (actor p) c) r c k)) (its l x o b refl is) (λ s same. number s same))
            (turned_uses p x c turned_same)
          where
            number : (s : Steps) → Calling (call_steps b.path x o (next_req (actor b.path) c) (root_at (root_of b.path) c) c
                (renewed (is_free (root_of b.path) (actor b.path) x c) (keeping_of x (root_at (root_of b.path) c))
                (keeping_of x (root_at (root_of b.path) c)).kept)) ≡ Calling s → 1 ≤ s.req
            number s same = low s _ (step_req same)
    turned_acts (input.Include l x s) intents other its incs coms = by (branch_named l c) refl
      where
        by : (f : Option Branch) → branch_named l c ≡ f → Turned (on_branch (λ b. include b.path x s c) c f).part
        by None is = turned_same
        by (Some b) is = turned_goes (start b.path x (calls.Include s) None unbound (next_req (actor b.path) c))
            (record c { tree = uses_object b.path x c.tree }) (Starts (Calling (start b.path x (calls.Include s) None unbound
            (next_req (actor b.path) c))) (incs l x s b refl is) (λ z same. low z _ (step_req same))) (turned_uses b.path x c turned_same)
    turned_acts (input.Commit l) intents other its incs coms = by (branch_named l c) refl
      where
        by : (f : Option Branch) → branch_named l c ≡ f → Turned (on_branch (λ b. commit_action b intents c) c f).part
        by None is = turned_same
        by (Some b) is = doomed b.doomed
          where
            u : Uid
            u = actor b.path

            plan : Plan
            plan = plan_for b.path (last_req (doing_of u c)) (root_at (root_of b.path) c) c

            top : Turned (commit_top b.path intents c).part
            top = turned_step_commit u (commit.start plan).step intents c
                (λ m. Starts (Committing m) (coms l b refl is) (λ s same. absurd (cc same))) turned_same

            kinds : (q : Kind) → Turned (commit_open b intents c q).part
            kinds kind.Nested = turned_ended u ending.Commit c turned_same
            kinds kind.Serial = turned_ended u ending.Commit c turned_same
            kinds kind.Top = top
            kinds kind.Independent = top
            kinds kind.Constituent = top

            doomed : (d : Bool) →
                Turned (cond {A = Did Coord} d (aborts_with u cause.Doomed intents c) (commit_open b intents c b.kind)).part
            doomed true = turned_ended u ending.Abort c turned_same
            doomed false = kinds b.kind
    turned_acts (input.Abort l) intents other its incs coms = by (branch_named l c)
      where
        by : (f : Option Branch) → Turned (on_branch (λ b. abort_action (actor b.path) intents c) c f).part
        by None = turned_same
        by (Some b) = turned_all (open_below (actor b.path) c.tree ++ actor b.path ∷ []) c turned_same
    turned_acts (input.GiveUp l) intents other its incs coms = by (branch_named l c)
      where
        by : (f : Option Branch) → Turned (on_branch (λ b. give_up (actor b.path) intents c) c f).part
        by None = turned_same
        by (Some b) = turned_give_up (actor b.path) intents
    turned_acts (input.Frame j from m) intents other its incs coms = turned_same
    turned_acts input.Tick intents other its incs coms = turned_same
    turned_acts input.Restart intents other its incs coms = turned_same
    turned_acts input.Crash intents other its incs coms = turned_same
    turned_acts (input.Show x) intents other its incs coms = turned_same

  pub turned_acked : (from : ℕ) (u : Uid) (intents : List (Uid × Intent)) → Turned (acked from u intents c).part
  turned_acked from u intents = by (at_uid u c.telling)
    where
      left : (i : Intent) (ns : List ℕ) → Turned (acked_left u i intents c ns).part
      left i [] w x is = turned_same w x is
      left i (m ∷ ms) w x is = turned_same w x is

      by : (o : Option Intent) → Turned (acked_by from u intents c o).part
      by None = turned_same
      by (Some i) = one (has i.nodes from)
        where
          one : (b : Bool) → Turned (cond {A = Served Coord (Unit {0})} b (acked_left u i intents c (without_number from i.nodes))
              (record { part = c; outs = []; reply = None })).part
          one true = left i (without_number from i.nodes)
          one false = turned_same

  turned_again_from : (ds : List Doing) (e : Coord) → Turned e → Turned (again_all ds e).part
  turned_again_from [] e t = t
  turned_again_from (d ∷ ds) e t = turned_again_from ds (again_now e d.now).part (now d.now)
    where
      now : (q : Now) → Turned (again_now e q).part
      now Idle = t
      now (Calling s) = λ w x is. t w x is
      now (Committing m) = turned_asked (plan_of m).path (plan_of m).req (commit.waiting m) e t

  pub turned_again : (ds : List Doing) → Turned (again_all ds c).part
  turned_again ds = turned_again_from ds c turned_same
