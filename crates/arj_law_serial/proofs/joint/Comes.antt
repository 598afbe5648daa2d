-- Whose commit is under way behind an input: it was so before, or the input began it, or gave its step up.
use Rattle.arj_law_parts.proofs.Words
use Words.{◌≡◌, ◌≢◌, ◌⊎◌, ◌∙◌, ◌+◌, ℕ, List, [], ◌∷◌, ◌++◌, ◌||◌, Bool, true, false, cond, Option, Some, None, refl, sym, ap, subst, inl}
use Words.{inr, ⊎_elim, list_any, uid_is, Ask, End, Kind, Label, Path, Uid, is_on, uid_eq, uids_of, actor, asks_all, asks_node, call}
use Words.{call_steps, commit_action, commit_open, commit_top, commits_in, doomed_by, give_up, give_up_doing, gives_up, goes_on, include}
use Words.{last_req, next_req, renewed, root_heard, root_lost, step_call, step_commit, Answered, CallEnd, CallStep, Changed, Conflict}
use Words.{Ended, Included, Lost, On, Steps, given_up, start, Aborts, Asks, CommitStep, Decides, Machine, Plan, Stays, has_record}
use Words.{participants, plan_of, Calling, Committing, Coord, Doing, Idle, Now, doing_of, is_free, keeping_of, on_doing, on_root, plan_for}
use Words.{root_at, with_keeping, Did, Intent, abort_action, aborts_with, all_aborted, decide, ended, root_after, put_uid, unbound, Input}
use Words.{acts, branch_named, is_waiting, is_waiting_now, on_branch, waits, waits_above, Branch, at_place, doomed_at, ended_at, is_own}
use Words.{open_below, root_of, uses_object}
use Words.cause
use Words.ending
use Words.kind
use Words.calls
use Words.commit
use Words.input
use Rattle.arj_law_serial.proofs.Terms.{on_cases, never, or_cases, IsCommitting, on_own, doomed_same, uses_same, end_tree_on}
use Rattle.arj_law_lock_view.proofs.facts.CommitCoords.{IsNext}

-- the action commits here by this machine
abbrev pub IsAt : Coord → Uid → Machine → Type 0
IsAt c w m = (x : Doing) × (doing_of w c ≡ Some x) × (x.now ≡ Committing m)

abbrev pub CameOf : (Uid → Machine → Type 0) → Coord → Coord → Type 0
CameOf New c e = (w : Uid) (m : Machine) → IsAt e w m → IsAt c w m ⊎ New w m

module _ (New : Uid → Machine → Type 0) (c : Coord) where
  came_same : CameOf New c c
  came_same w m at = inl at

  came_own : (e f : Coord) → ((u : Uid) → is_own u f.tree ≡ is_own u e.tree) → f.doings ≡ e.doings → CameOf New c e → CameOf New c f
  came_own e f own doings t w m (x, is, now) = t w m (x, (λ i. cond (sym (own w) i) (at_place w.num (sym doings i)) None) ∙ is, now)

  came_do : (u : Uid) (f : Doing → Doing) (e : Coord) → ((d : Doing) (m : Machine) → doing_of u e ≡ Some d → (f d).now ≡ Committing m →
      IsAt c u m ⊎ New u m) → CameOf New c e → CameOf New c (on_doing u f e)
  came_do u f e its t w m (x, is, now) = ⊎_elim
      (λ same. subst (λ (v : Uid). IsAt c v m ⊎ New v m) (sym same.0)
      (its same.1 m (ap (λ v. doing_of v e) (sym same.0) ∙ same.2) (ap (λ (y : Doing). y.now) same.3 ∙ now)))
      (λ other. t w m (x, other.1, now))
      (on_cases u f e w x is)

  came_idle : (u : Uid) (e : Coord) → CameOf New c e → CameOf New c (on_doing u (λ (d : Doing). record d { now = Idle }) e)
  came_idle u e t = came_do u (λ (d : Doing). record d { now = Idle }) e (λ d m found now. absurd (cc now)) t

  came_goes : (s : Steps) (e : Coord) → CameOf New c e → CameOf New c (goes_on s e).part
  came_goes s e t = λ w m at.
      came_do (actor s.path) (λ (d : Doing). record d { req = s.req; now = Calling s }) e (λ d k found now. absurd (cc now)) t w m at

  came_step_call : (s : Steps) (n : CallStep) (e : Coord) → CameOf New c e → CameOf New c (step_call s n e).part
  came_step_call s (On at) e t = came_goes (record s { req = s.req + 1; at = at }) e t
  came_step_call s (Ended g) e t = by g
    where
      idle : Coord
      idle = on_root (root_of s.path) (root_heard s g) (on_doing (actor s.path) (λ (d : Doing). record d { now = Idle }) e)

      rests : CameOf New c idle
      rests w m at = came_idle (actor s.path) e t w m at

      by : (h : CallEnd) → CameOf New c (doomed_by (actor s.path) h idle)
      by (Answered a) = rests
      by (Included st) = rests
      by (Conflict h x k) = rests
      by (Changed k w) = rests
      by (Lost k false) = rests
      by (Lost k true) = let q = doomed_same (actor s.path) idle.tree in
          came_own idle (record idle { tree = doomed_at (actor s.path) idle.tree }) q.own refl rests

  came_ended : (u : Uid) (how : End) (e : Coord) → CameOf New c e → CameOf New c (ended u how e)
  came_ended u how e t = let g = end_tree_on u how e in
      came_idle u (record e { tree = ended_at u how e.tree }) (came_own e (record e { tree = ended_at u how e.tree }) g.own refl t)

  came_all : (us : List Uid) (e : Coord) → CameOf New c e → CameOf New c (all_aborted us e).part
  came_all [] e t = t
  came_all (u ∷ us) e t = came_all us (ended u ending.Abort e) (came_ended u ending.Abort e t)

  came_asked : (p : Path) (req : ℕ) (asked : List (ℕ × Ask)) (e : Coord) → CameOf New c e → CameOf New c (asks_all p req asked e).part
  came_asked p req [] e t = t
  came_asked p req (a ∷ rest) e t = came_asked p req rest (asks_node p req a e).part (λ w m at. t w m at)

  came_commits : (u : Uid) (m : Machine) (e : Coord) → New u m → CameOf New c e → CameOf New c (commits_in u m e)
  came_commits u m e its t = came_do u (λ (d : Doing). record d { req = (plan_of m).req; now = Committing m }) e
      (λ d k found now. inr (let same : m ≡ k = cc now in subst (New u) same its)) t

  pub came_decide : (p : Plan) (e : Coord) → CameOf New c e → CameOf New c (decide p e).part
  came_decide p e t = by (has_record p)
    where
      f : Coord
      f = ended (actor p.path) ending.Commit e

      tf : CameOf New c (ended (actor p.path) ending.Commit e)
      tf = came_ended (actor p.path) ending.Commit e t

      r : Coord
      r = on_root (root_of p.path) (root_after p) (on_doing (actor p.path) (λ (d : Doing). record d { took = participants p }) f)

      tr : CameOf New c r
      tr w m at = came_do (actor p.path) (λ (d : Doing). record d { took = participants p }) f
          (λ d k found now. tf (actor p.path) k (d, found, now)) tf w m at

      by : (b : Bool) → CameOf New c
          (cond b (record r { telling = put_uid (actor p.path) (record { root = root_of p.path; nodes = participants p }) r.telling }) r)
      by true = λ w m at. tr w m at
      by false = tr

  came_step : (u : Uid) (s : CommitStep) (intents : List (Uid × Intent)) (e : Coord) → IsNext New u s → CameOf New c e →
      CameOf New c (step_commit u s intents e).part
  came_step u (Stays m) intents e its t = came_commits u m e its t
  came_step u (Asks m) intents e its t =
      came_asked (plan_of m).path (plan_of m).req (commit.waiting m) (commits_in u m e) (came_commits u m e its t)
  came_step u (Decides p) intents e its t = came_decide p e t
  came_step u (Aborts why p) intents e its t = came_ended u ending.Abort e t

  pub came_acts : (i : Input) (intents : List (Uid × Intent)) →
      ((l : Label) (q : Kind) (parent : Option Label) → i ≢ input.Begin l q parent)
      → ((l : Label) (b : Branch) (d : Doing) (m : Machine) → i ≡ input.GiveUp l → branch_named l c ≡ Some b →
      doing_of (actor b.path) c ≡ Some d → d.now ≡ Committing m → IsNext New (actor b.path) (commit.given_up m).step)
      → ((l : Label) (b : Branch) → i ≡ input.Commit l → branch_named l c ≡ Some b → IsNext New (actor b.path)
      (commit.start (plan_for b.path (last_req (doing_of (actor b.path) c)) (root_at (root_of b.path) c) c)).step)
      → CameOf New c (acts i intents c).part
  came_acts (input.Begin l q parent) intents other lost starts = absurd (other l q parent refl)
  came_acts (input.Call l x o) intents other lost starts = by (branch_named l c)
    where
      by : (f : Option Branch) → CameOf New c (on_branch (λ b. call b.path x o c) c f).part
      by None = came_same
      by (Some b) =
          let p = b.path in
          let r = root_at (root_of p) c in
          let old = keeping_of x r in
          let k = renewed (is_free (root_of p) (actor p) x c) old old.kept in
          let used : Coord = record c { tree = uses_object p x c.tree } in
          came_goes (call_steps p x o (next_req (actor p) c) r c k) (on_root (root_of p) (with_keeping x k) used)
          (came_own c used (uses_same p x c.tree).own refl came_same)
  came_acts (input.Include l x s) intents other lost starts = by (branch_named l c)
    where
      by : (f : Option Branch) → CameOf New c (on_branch (λ b. include b.path x s c) c f).part
      by None = came_same
      by (Some b) = let used : Coord = record c { tree = uses_object b.path x c.tree } in came_goes (start b.path x (calls.Include s) None
          unbound (next_req (actor b.path) c)) used (came_own c used (uses_same b.path x c.tree).own refl came_same)
  came_acts (input.Commit l) intents other lost starts = by (branch_named l c) refl
    where
      by : (f : Option Branch) → branch_named l c ≡ f → CameOf New c (on_branch (λ b. commit_action b intents c) c f).part
      by None is = came_same
      by (Some b) is = doomed b.doomed
        where
          plan : Plan
          plan = plan_for b.path (last_req (doing_of (actor b.path) c)) (root_at (root_of b.path) c) c

          top : CameOf New c (commit_top b.path intents c).part
          top = came_step (actor b.path) (commit.start plan).step intents c (starts l b refl is) came_same

          kinds : (q : Kind) → CameOf New c (commit_open b intents c q).part
          kinds kind.Nested = came_ended (actor b.path) ending.Commit c came_same
          kinds kind.Serial = came_ended (actor b.path) ending.Commit c came_same
          kinds kind.Top = top
          kinds kind.Independent = top
          kinds kind.Constituent = top

          doomed : (d : Bool) → CameOf New c
              (cond {A = Did Coord} d (aborts_with (actor b.path) cause.Doomed intents c) (commit_open b intents c b.kind)).part
          doomed true = came_ended (actor b.path) ending.Abort c came_same
          doomed false = kinds b.kind
  came_acts (input.Abort l) intents other lost starts = by (branch_named l c)
    where
      by : (f : Option Branch) → CameOf New c (on_branch (λ b. abort_action (actor b.path) intents c) c f).part
      by None = came_same
      by (Some b) = came_all (open_below (actor b.path) c.tree ++ actor b.path ∷ []) c came_same
  came_acts (input.GiveUp l) intents other lost starts = by (branch_named l c) refl
    where
      now : (b : Branch) → branch_named l c ≡ Some b → (d : Doing) → doing_of (actor b.path) c ≡ Some d → (q : Now) → d.now ≡ q →
          CameOf New c (gives_up (actor b.path) intents c q).part
      now b is d found Idle at = came_same
      now b is d found (Calling s) at =
          came_step_call s (given_up s.at) (on_root (root_of s.path) (root_lost s (given_up s.at)) c) (λ w m z. inl z)
      now b is d found (Committing m) at =
          came_step (actor b.path) (commit.given_up m).step intents c (lost l b d m refl is found at) came_same

      doing : (b : Branch) → branch_named l c ≡ Some b → (o : Option Doing) → doing_of (actor b.path) c ≡ o →
          CameOf New c (give_up_doing (actor b.path) intents c o).part
      doing b is None none = came_same
      doing b is (Some d) found = now b is d found d.now refl

      by : (f : Option Branch) → branch_named l c ≡ f → CameOf New c (on_branch (λ b. give_up (actor b.path) intents c) c f).part
      by None is = came_same
      by (Some b) is = doing b is (doing_of (actor b.path) c) refl
  came_acts (input.Frame j from m) intents other lost starts = came_same
  came_acts input.Tick intents other lost starts = came_same
  came_acts input.Restart intents other lost starts = came_same
  came_acts input.Crash intents other lost starts = came_same
  came_acts (input.Show x) intents other lost starts = came_same

-- who doesn't wait isn't at its commit
pub waits_not : (c : Coord) (b : Branch) → waits_above b c ≡ false → IsCommitting (actor b.path) c → ⊥
waits_not c b none (d, m, found, now) = never (ap is_waiting found ∙ ap is_waiting_now now) (quiet (uids_of b.path) none (on_own b.path))
  where
    parts : (x y : Bool) → (x || y) ≡ false → (x ≡ false) × (y ≡ false)
    parts true y e = absurd (cc e)
    parts false y e = (refl, e)

    quiet : (us : List Uid) → list_any (waits c) us ≡ false → is_on us (actor b.path) ≡ true → waits c (actor b.path) ≡ false
    quiet [] e on = absurd (cc on)
    quiet (x ∷ us) e on = let q = parts (waits c x) (list_any (waits c) us) e in ⊎_elim (λ same. ap (waits c) (sym
        (uid_is x (actor b.path) same)) ∙ q.0) (λ rest. quiet us q.1 rest) (or_cases (uid_eq x (actor b.path)) (is_on us (actor b.path)) on)
