-- All that a coordinator does, piece by piece: what each piece keeps is kept.
use Rattle.arj_law_parts.proofs.Words
use Words.{◌≡◌, ◌≢◌, ◌⊎◌, ◌∙◌, ◌==◌, ◌&&◌, arith, ℕ, Bool, true, false, cond, List, [], ◌∷◌, ◌++◌, Option, Some, None, refl, sym, ap, subst}
use Words.{inl, inr, is_some, Ask, Asked, End, Header, Kind, Label, Op, Path, Uid, Reply, actor, again_all, again_now, asks_all, asks_node}
use Words.{call, commit_action, commit_open, commit_top, commits_in, give_up, give_up_call, give_up_doing, gives_up, heard, heard_by}
use Words.{heard_call, heard_doing, heard_none, heard_now, include, last_req, moved_commit, step_commit, waits_for_call, waits_for_commit}
use Words.{Steps, next_ask, next_node, Aborts, Asks, CommitStep, Decides, Machine, Plan, Stays, has_record, participants, plan_of}
use Words.{servers_of, Calling, Committing, Coord, Doing, Idle, Now, doing_of, on_doing, on_root, plan_for, root_at, Did, Intent, Served}
use Words.{abort_action, aborts_with, acked, acked_by, acked_left, all_aborted, decide, ended, root_after, at_uid, has, put_uid}
use Words.{without_number, without_uid, Input, acts, branch_named, call_reasons, commit_reasons, include_reasons, on_branch, refusal_up}
use Words.{refused_by, Branch, at_place, branch_of, ended_at, ends_of, open_below, root_of, Post}
use Words.cause
use Words.ending
use Words.kind
use Words.commit
use Words.input
use Words.list
use Rattle.arj_law_lock_view.proofs.Terms
use Terms.{paths_of, IsAsking, IsBusy, IsVoting, begun_tree, named_found, off, IsStepOf, actor_is, answer_step, giveup_step, vote_step}
use Terms.{placed, AnswersWaiting}
use Rattle.arj_law_lock_view.proofs.facts
use facts.{Kept.Place}
use facts.Further.{GoesFurther, IsFurther, answer_further, giveup_further, itself_further, vote_further}

-- the path is that of an action of the coordinator
abbrev pub IsRooted : Coord → Path → Type 0
IsRooted c p = (u : Uid) × (b : Branch) × (branch_of u c.tree ≡ Some b) × (b.path ≡ p)

-- the plan of a commit under way, further on
pub record IsOnWay (c : Coord) (u : Uid) (p : Plan) : Type 0 where
  pub doing : Doing
  pub machine : Machine
  pub found : doing_of u c ≡ Some doing
  pub now : doing.now ≡ Committing machine
  pub path : p.path ≡ (let q = plan_of machine in q.path)
  pub ends : p.ends ≡ (let q = plan_of machine in q.ends)
  pub further : IsFurther (plan_of machine) p

-- the plan of a commit that is called now
pub record IsCalled (c : Coord) (u : Uid) (p : Plan) : Type 0 where
  pub branch : Branch
  pub found : branch_of u c.tree ≡ Some branch
  pub path : p.path ≡ branch.path
  pub ends : p.ends ≡ ends_of (root_of branch.path) c.tree
  pub opened : is_some branch.ended ≡ false
  pub top : (branch.kind ≢ kind.Nested) × (branch.kind ≢ kind.Serial)
  pub req : ℕ
  pub further : IsFurther (plan_for branch.path req (root_at (root_of branch.path) c) c) p

abbrev pub IsPlanned : Coord → Uid → Plan → Type 0
IsPlanned c u p = IsOnWay c u p ⊎ IsCalled c u p

-- What each piece keeps, in all that the coordinator c does; of calls and includes the whole steps.
pub record Pieces (c : Coord) (Q : Coord → Type 0) : Type 0 where
  pub start : Q c
  pub end_tree : (u : Uid) (how : End) (e : Coord) → Q e → Q (record e { tree = ended_at u how e.tree })
  pub idle : (u : Uid) (e : Coord) → Q e → Q (on_doing u (λ (d : Doing). record d { now = Idle }) e)
  pub took : (u : Uid) (ns : List ℕ) (e : Coord) → Q e → Q (on_doing u (λ (d : Doing). record d { took = ns }) e)
  pub commits : (u : Uid) (m : Machine) (e : Coord) → IsPlanned c u (plan_of m) → Q e → Q (commits_in u m e)
  pub asks : (p : Path) (req : ℕ) (a : ℕ × Ask) (e : Coord) → IsRooted c p → Q e → Q (asks_node p req a e).part
  pub decides : (p : Plan) (e : Coord) → IsRooted c p.path → Q e → Q (on_root (root_of p.path) (root_after p) e)
  pub telling : (i : List (Uid × Intent)) (e : Coord) → Q e → Q (record e { telling = i })

-- a call or an include waits in this step
pub record IsStep (c : Coord) (s : Steps) : Type 0 where
  pub doing : Doing
  pub found : doing_of (actor s.path) c ≡ Some doing
  pub now : doing.now ≡ Calling s
  pub asking : IsAsking c.tree (actor s.path) s.path

module _ (sent : List Post) (k : ℕ) (c : Coord) (place : Place sent k c) (Q : Coord → Type 0) (keeps : Pieces c Q) where
  ended_so : (u : Uid) (how : End) (e : Coord) → Q e → Q (ended u how e)
  ended_so u how e q = keeps.idle u (record e { tree = ended_at u how e.tree }) (keeps.end_tree u how e q)

  all_so : (us : List Uid) (e : Coord) → Q e → Q (all_aborted us e).part
  all_so [] e q = q
  all_so (u ∷ us) e q = all_so us (ended u ending.Abort e) (ended_so u ending.Abort e q)

  asked_so : (p : Path) (req : ℕ) (asked : List (ℕ × Ask)) (e : Coord) → IsRooted c p → Q e → Q (asks_all p req asked e).part
  asked_so p req [] e rooted q = q
  asked_so p req (a ∷ rest) e rooted q = asked_so p req rest (asks_node p req a e).part rooted (keeps.asks p req a e rooted q)

  decide_so : (p : Plan) (e : Coord) → IsRooted c p.path → Q e → Q (decide p e).part
  decide_so p e rooted q = by (has_record p)
    where
      u : Uid
      u = actor p.path

      r : Coord
      r = on_root (root_of p.path) (root_after p) (on_doing u (λ (d : Doing). record d { took = participants p }) (ended u ending.Commit e))

      its : Q r
      its = keeps.decides p (on_doing u (λ (d : Doing). record d { took = participants p }) (ended u ending.Commit e)) rooted
          (keeps.took u (participants p) (ended u ending.Commit e) (ended_so u ending.Commit e q))

      by : (b : Bool) → Q (cond b (record r { telling = put_uid u (record { root = root_of p.path; nodes = participants p }) r.telling }) r)
      by true = keeps.telling (put_uid u (record { root = root_of p.path; nodes = participants p }) r.telling) r its
      by false = its

  planned_path : (u : Uid) (p : Plan) → IsPlanned c u p → IsRooted c p.path
  planned_path u p (inl w) =
      let v : IsVoting c.tree u (plan_of w.machine) = subst (IsBusy c.tree u) w.now (let g = place.good in g.busy u w.doing w.found) in
      let a = v.asking in
      (u, a.branch, a.found, a.path ∙ sym w.path)
  planned_path u p (inr w) = (u, w.branch, w.found, sym w.path)

  -- what a step comes to is planned as the step is
  abbrev ArePlanned : Uid → CommitStep → Type 0
  ArePlanned u (Stays m) = IsPlanned c u (plan_of m)
  ArePlanned u (Asks m) = IsPlanned c u (plan_of m)
  ArePlanned u (Decides p) = IsPlanned c u p
  ArePlanned u (Aborts why p) = Unit {0}

  step_so : (u : Uid) (s : CommitStep) (intents : List (Uid × Intent)) (e : Coord) → ArePlanned u s → Q e →
      Q (step_commit u s intents e).part
  step_so u (Stays m) intents e planned q = keeps.commits u m e planned q
  step_so u (Asks m) intents e planned q = asked_so (plan_of m).path (plan_of m).req (commit.waiting m) (commits_in u m e)
      (planned_path u (plan_of m) planned) (keeps.commits u m e planned q)
  step_so u (Decides p) intents e planned q = decide_so p e (planned_path u p planned) q
  step_so u (Aborts why p) intents e planned q = ended_so u ending.Abort e q

  on_way : (u : Uid) (d : Doing) (m : Machine) → doing_of u c ≡ Some d → d.now ≡ Committing m → (s : CommitStep) → IsStepOf place.actions
      (paths_of place.actions) (begun_tree place.actions place.begun) (plan_of m) s → GoesFurther (plan_of m) s → ArePlanned u s
  on_way u d m found now (Stays z) same further =
      inl (record { doing = d; machine = m; found = found; now = now; path = same.0; ends = same.1; further = further })
  on_way u d m found now (Asks z) same further =
      inl (record { doing = d; machine = m; found = found; now = now; path = same.0; ends = same.1; further = further })
  on_way u d m found now (Decides z) same further =
      inl (record { doing = d; machine = m; found = found; now = now; path = same.0; ends = same.1; further = further })
  on_way u d m found now (Aborts why z) same further = tt

  called_now : (u : Uid) (b : Branch) (req : ℕ) → branch_of u c.tree ≡ Some b → is_some b.ended ≡ false → (b.kind ≢ kind.Nested) × (b.kind
      ≢ kind.Serial) → (s : CommitStep) → IsStepOf place.actions (paths_of place.actions) (begun_tree place.actions place.begun) (plan_for
      b.path req (root_at (root_of b.path) c) c) s → GoesFurther (plan_for b.path req (root_at (root_of b.path) c) c) s → ArePlanned u s
  called_now u b req found opened top (Stays z) same further =
      inr (record { branch = b; found = found; path = same.0; ends = same.1; opened = opened; top = top; req = req; further = further })
  called_now u b req found opened top (Asks z) same further =
      inr (record { branch = b; found = found; path = same.0; ends = same.1; opened = opened; top = top; req = req; further = further })
  called_now u b req found opened top (Decides z) same further =
      inr (record { branch = b; found = found; path = same.0; ends = same.1; opened = opened; top = top; req = req; further = further })
  called_now u b req found opened top (Aborts why z) same further = tt

  is_step : (u : Uid) (d : Doing) (s : Steps) → doing_of u c ≡ Some d → d.now ≡ Calling s → IsStep c s
  is_step u d s found now =
      let a : IsAsking c.tree u s.path = subst (IsBusy c.tree u) now (let g = place.good in g.busy u d found) in
      let who : actor s.path ≡ u = actor_is place.actions (paths_of place.actions) (begun_tree place.actions place.begun) u s.path c
      place.good a in
      record {
        doing = d;
        found = ap (λ v. doing_of v c) who ∙ found;
        now = now;
        asking = subst (λ v. IsAsking c.tree v s.path) (sym who) a;
      }

  pub heard_so : (from : ℕ) (a : Asked) (r : Reply) (intents : List (Uid × Intent)) → AnswersWaiting from a r c → ((s : Steps) →
      IsStep c s → waits_for_call from a r s ≡ true → actor s.path ≡ a.act → Q (heard_call s r c).part) → Q (heard from a r intents c).part
  heard_so from a r intents fits calls = by (doing_of a.act c) refl
    where
      now : (d : Doing) → doing_of a.act c ≡ Some d → (n : Now) → d.now ≡ n → Q (heard_now from a r intents c n).part
      now d found Idle is = keeps.start
      now d found (Calling s) is = one (waits_for_call from a r s) refl
        where
          who : actor s.path ≡ a.act
          who = let asking : IsAsking c.tree a.act s.path = subst (IsBusy c.tree a.act) is (let g = place.good in g.busy a.act d found) in
              actor_is place.actions (paths_of place.actions) (begun_tree place.actions place.begun) a.act s.path c place.good asking

          one : (w : Bool) → waits_for_call from a r s ≡ w →
              Q (cond {A = Served Coord (Unit {0})} w (heard_by (heard_call s r c)) (heard_none c)).part
          one true on = calls s (is_step a.act d s found is) on who
          one false isnt = keeps.start
      now d found (Committing m) is = one (waits_for_commit from a r m)
        where
          one : (w : Bool) → Q (cond {A = Served Coord (Unit {0})} w (heard_by (moved_commit a.act (commit.answered from m r) intents c))
              (heard_none c)).part
          one true = step_so a.act (commit.answered from m r).step intents c (on_way a.act d m found is (commit.answered from m r).step
              (answer_step place.actions (paths_of place.actions) (begun_tree place.actions place.begun) from m r)
              (answer_further from m r)) keeps.start
          one false = keeps.start

      by : (o : Option Doing) → doing_of a.act c ≡ o → Q (heard_doing from a r intents c o).part
      by None none = keeps.start
      by (Some d) found = now d found d.now refl

  pub give_up_so : (u : Uid) (intents : List (Uid × Intent)) → ((s : Steps) → IsStep c s → Q (give_up_call s c).part) →
      Q (give_up u intents c).part
  give_up_so u intents lost = by (doing_of u c) refl
    where
      now : (d : Doing) → doing_of u c ≡ Some d → (n : Now) → d.now ≡ n → Q (gives_up u intents c n).part
      now d found Idle is = keeps.start
      now d found (Calling s) is = lost s (is_step u d s found is)
      now d found (Committing m) is = step_so u (commit.given_up m).step intents c (on_way u d m found is (commit.given_up m).step
          (giveup_step place.actions (paths_of place.actions) (begun_tree place.actions place.begun) m) (giveup_further m)) keeps.start

      by : (o : Option Doing) → doing_of u c ≡ o → Q (give_up_doing u intents c o).part
      by None none = keeps.start
      by (Some d) found = now d found d.now refl

  pub commit_so : (b : Branch) (intents : List (Uid × Intent)) → branch_of (actor b.path) c.tree ≡ Some b → is_some b.ended ≡ false →
      Q (commit_action b intents c).part
  commit_so b intents found opened = doomed b.doomed
    where
      u : Uid
      u = actor b.path

      plan : Plan
      plan = plan_for b.path (last_req (doing_of u c)) (root_at (root_of b.path) c) c

      top : (b.kind ≢ kind.Nested) × (b.kind ≢ kind.Serial) → Q (commit_top b.path intents c).part
      top upper = step_so u (commit.start plan).step intents c (called_now u b (last_req (doing_of u c)) found opened upper
          (commit.start plan).step (vote_step place.actions (paths_of place.actions) (begun_tree place.actions place.begun)
          (servers_of plan) plan plan (refl, refl)) (vote_further (servers_of plan) plan plan (itself_further plan))) keeps.start

      kinds : (q : Kind) → b.kind ≡ q → Q (commit_open b intents c q).part
      kinds kind.Nested is = ended_so u ending.Commit c keeps.start
      kinds kind.Serial is = ended_so u ending.Commit c keeps.start
      kinds kind.Top is = top ((λ e. cc (sym is ∙ e)), λ e. cc (sym is ∙ e))
      kinds kind.Independent is = top ((λ e. cc (sym is ∙ e)), λ e. cc (sym is ∙ e))
      kinds kind.Constituent is = top ((λ e. cc (sym is ∙ e)), λ e. cc (sym is ∙ e))

      doomed : (d : Bool) → Q (cond {A = Did Coord} d (aborts_with u cause.Doomed intents c) (commit_open b intents c b.kind)).part
      doomed true = ended_so u ending.Abort c keeps.start
      doomed false = kinds b.kind refl

  pub abort_so : (u : Uid) (intents : List (Uid × Intent)) → Q (abort_action u intents c).part
  abort_so u intents = all_so (open_below u c.tree ++ u ∷ []) c keeps.start

  pub acts_so : (hd : Header) (i : Input) (intents : List (Uid × Intent)) → refusal_up hd i c ≡ None →
      ((l : Label) (q : Kind) (parent : Option Label) → i ≢ input.Begin l q parent)
      → ((b : Branch) (x : ℕ) (o : Op) → branch_of (actor b.path) c.tree ≡ Some b → refused_by (call_reasons hd x o) c (Some b) ≡ None →
      Q (call b.path x o c).part)
      → ((b : Branch) (x s : ℕ) → branch_of (actor b.path) c.tree ≡ Some b → refused_by (include_reasons hd x) c (Some b) ≡ None →
      Q (include b.path x s c).part)
      → ((s : Steps) → IsStep c s → Q (give_up_call s c).part) → Q (acts i intents c).part
  acts_so hd (input.Begin l q parent) intents free other calls includes lost = absurd (other l q parent refl)
  acts_so hd (input.Call l x o) intents free other calls includes lost = by (branch_named l c) refl free
    where
      by : (f : Option Branch) → branch_named l c ≡ f → refused_by (call_reasons hd x o) c f ≡ None →
          Q (on_branch (λ b. call b.path x o c) c f).part
      by None is e = keeps.start
      by (Some b) is e = calls b x o
          (named_found place.actions (paths_of place.actions) (begun_tree place.actions place.begun) intents c place.good l b is) e
  acts_so hd (input.Include l x s) intents free other calls includes lost = by (branch_named l c) refl free
    where
      by : (f : Option Branch) → branch_named l c ≡ f → refused_by (include_reasons hd x) c f ≡ None →
          Q (on_branch (λ b. include b.path x s c) c f).part
      by None is e = keeps.start
      by (Some b) is e = includes b x s
          (named_found place.actions (paths_of place.actions) (begun_tree place.actions place.begun) intents c place.good l b is) e
  acts_so hd (input.Commit l) intents free other calls includes lost = by (branch_named l c) refl free
    where
      by : (f : Option Branch) → branch_named l c ≡ f → refused_by commit_reasons c f ≡ None →
          Q (on_branch (λ b. commit_action b intents c) c f).part
      by None is e = keeps.start
      by (Some b) is e = commit_so b intents (named_found place.actions (paths_of place.actions) (begun_tree place.actions place.begun)
          intents c place.good l b is) (off (commit_reasons b c) e).0
  acts_so hd (input.Abort l) intents free other calls includes lost = by (branch_named l c)
    where
      by : (f : Option Branch) → Q (on_branch (λ b. abort_action (actor b.path) intents c) c f).part
      by None = keeps.start
      by (Some b) = abort_so (actor b.path) intents
  acts_so hd (input.GiveUp l) intents free other calls includes lost = by (branch_named l c)
    where
      by : (f : Option Branch) → Q (on_branch (λ b. give_up (actor b.path) intents c) c f).part
      by None = keeps.start
      by (Some b) = give_up_so (actor b.path) intents lost
  acts_so hd (input.Frame j from m) intents free other calls includes lost = keeps.start
  acts_so hd input.Tick intents free other calls includes lost = keeps.start
  acts_so hd input.Restart intents free other calls includes lost = keeps.start
  acts_so hd input.Crash intents free other calls includes lost = keeps.start
  acts_so hd (input.Show x) intents free other calls includes lost = keeps.start

  pub acked_so : (from : ℕ) (u : Uid) (intents : List (Uid × Intent)) → Q (acked from u intents c).part
  acked_so from u intents = by (at_uid u c.telling)
    where
      left : (i : Intent) (ns : List ℕ) → Q (acked_left u i intents c ns).part
      left i [] = keeps.telling (without_uid u c.telling) c keeps.start
      left i (n ∷ ns) = keeps.telling (put_uid u (record i { nodes = n ∷ ns }) c.telling) c keeps.start

      by : (o : Option Intent) → Q (acked_by from u intents c o).part
      by None = keeps.start
      by (Some i) = one (has i.nodes from)
        where
          one : (b : Bool) → Q (cond {A = Served Coord (Unit {0})} b (acked_left u i intents c (without_number from i.nodes))
              (record { part = c; outs = []; reply = None })).part
          one true = left i (without_number from i.nodes)
          one false = keeps.start

  -- what waits is sent again by paths of actions
  again_from : (ds : List Doing) (e : Coord) → ((d : Doing) → list.In d ds → (u : Uid) × (doing_of u c ≡ Some d)) → Q e →
      Q (again_all ds e).part
  again_from [] e there q = q
  again_from (d ∷ ds) e there q = again_from ds (again_now e d.now).part (λ x i. there x (inr i)) (now d.now refl)
    where
      f : (u : Uid) × (doing_of u c ≡ Some d)
      f = there d (inl refl)

      now : (n : Now) → d.now ≡ n → Q (again_now e n).part
      now Idle is = q
      now (Calling s) is = let a : IsAsking c.tree f.0 s.path = subst (IsBusy c.tree f.0) is (let g = place.good in g.busy f.0 d f.1) in
          keeps.asks s.path s.req (next_node s, next_ask (ends_of (root_of s.path) e.tree) s) e (f.0, a.branch, a.found, a.path) q
      now (Committing m) is = let v : IsVoting c.tree f.0 (plan_of m) = subst (IsBusy c.tree f.0) is (let g = place.good in g.busy f.0 d
          f.1) in let a = v.asking in asked_so (plan_of m).path (plan_of m).req (commit.waiting m) e (f.0, a.branch, a.found, a.path) q

  pub again_so : Q (again_all c.doings c).part
  again_so = again_from c.doings c (λ d i. by d (placed d c.doings i)) keeps.start
    where
      by : (d : Doing) → (j : ℕ) × (at_place j c.doings ≡ Some d) → (u : Uid) × (doing_of u c ≡ Some d)
      by d p = (
        record { node = c.tree.node; inc = c.tree.inc; num = p.0 },
        (λ i. cond (same c.tree.node i && same c.tree.inc i) (at_place p.0 c.doings) None) ∙ p.1,
      )
        where
          same : (n : ℕ) → (n == n) ≡ true
          same n = grind arith
