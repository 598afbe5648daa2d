-- A top that waits for naming's answer, and that naming has confirmed by the lock machine, changes the object where it has a write that
-- wasn't undone.
use Rattle.arj_law_parts.proofs.Words
use Words.{◌≡◌, ◌≤◌, ◌==◌, ℕ, [], true, false, Option, Some, None, Contains, refl, sym, ◌∙◌, ap, subst, inl, arith, eq-eqb, Uid}
use Words.{in_find_none, in_from, ObjectState, Reply, Confirming, Plan, Used, changed_of, uid_number}
use Words.confirmed
use Rattle.arj_law_serial.proofs.Terms
use Terms.{World, SeesConfirming, plan_by, used_at, on, root, top, Run, next, start, stay, step, Alive, Call, State, Decide, go_on}
use Terms.{act_cases, act_here, top_root, AreOne, Goes, SeesMachine, side_at, Fixed, IsPlannedSo}
use Terms.disk
use Terms.state as lock
use Rattle.arj_law_lock.specs.machine.Actions.{Act, In}
use Rattle.arj_law_lock_view.proofs.view.PlanSteps.{commit_answers_are_taken}
use Rattle.arj_law_lock_view.specs.view.{Acting.IsBacked, Plans.OnlySent, Voted.HasVotes}
use Rattle.arj_law_serial.proofs.joint.Writing.{VotedIn, planned_voted}

module _ (f : Fixed) (x : ℕ) (S : State) (W : World) (u : Uid) (one : AreOne f.act) (p : Plan) (reached : Run (start f.first) S)
    (waits : SeesConfirming x W.disk (uid_number u) p) (votes : HasVotes (side_at f.act f.code x u) p [] S)
    (sees : SeesMachine x (f.act u) (Confirming p) S)
    (stage : (let a = S.action (f.act u) in a.stage) ≡ 1) (conf : S.confirmed (f.act u) ≡ true)
    (plain : (let k = W.disk.plan (uid_number u) in k.writes) ≡ None) (c : Call) (there : In c S.calls) (write : c.write ≡ true)
    (its : top c.act ≡ f.act u) (alive : Alive S c.act) where
  abbrev m : Act
  m = f.act u

  used : (q : Used) × Contains p.used q × (q.x ≡ x) × (q.called ≡ true)
  used = (let s = sees.0 in s.calls c (record { there = there; alive = alive; covered = (sym (top_root c.act) ∙ ap root its, inl its) }))

  -- the plan changes nothing
  nothing : changed_of x p ≡ None
  nothing = by (used_at x p.used) refl (ap (λ (k : disk.Plan). k.writes) (sym waits.plan) ∙ plain)
    where
      whole : (o : Option ObjectState) (w : Used) → (let k = plan_by (Some w) o in k.writes) ≡ None → o ≡ None
      whole None w is = refl
      whole (Some st) w is = absurd (cc is)

      by : (o : Option Used) → used_at x p.used ≡ o → (let k = plan_by (used_at x p.used) (changed_of x p) in k.writes) ≡ None →
          changed_of x p ≡ None
      by None is writes = let off = in_find_none (λ (z : Used). z.x == x) used.0 p.used is (in_from used.0 p.used used.1) in
          absurd (let no_way : true ≡ false = sym (eq-eqb (let q = used.0 in q.x) x used.2) ∙ off in cc no_way)
      by (Some w) is writes =
          whole (changed_of x p) w (ap (λ (o : Option Used). (let k = plan_by o (changed_of x p) in k.writes)) (sym is) ∙ writes)

  goes : Goes S (λ T. IsBacked m T × OnlySent S T)
  goes = commit_answers_are_taken x m (Confirming p) 1 (Reply.Confirmed confirmed.Yes) S (f.first, reached) stage (λ q i about. conf) sees

  abbrev T : State
  T = goes.state

  only : OnlySent S T
  only = goes.holds.1

  here : (T.action m).stage ≡ 1
  here = ap (λ (z : State). (z.action m).stage) only.rest ∙ stage

  -- it is decided
  abbrev V : State
  V = next (Decide m) T

  run : Run S V
  run = go_on goes.run (step (Decide m) ((let s = sees.0 in s.top), here, goes.holds.0.calls, goes.holds.0.includes) stay)

  decided : (V.action m).stage ≡ 2
  decided = ap (λ (y : lock.Action). y.stage) (act_here T.action m (record (T.action m) { stage = 2 }))

  planned : IsPlannedSo f x V W u
  planned = record {
    plan = p;
    begun = waits.begun;
    same = waits.plan;
    waiting = S;
    reached = reached;
    since = run;
    stage = stage;
    votes = votes;
    sees = sees;
    changed = λ st is. absurd (let no_way : ◌≡◌ {A = Option ObjectState} None (Some st) = sym nothing ∙ is in cc no_way);
    counted = λ st is. absurd (let no_way : ◌≡◌ {A = Option ObjectState} None (Some st) = sym nothing ∙ is in cc no_way);
    over = λ apart st is. absurd (let no_way : ◌≡◌ {A = Option ObjectState} None (Some st) = sym nothing ∙ is in cc no_way);
  }

  voted : VotedIn f V u None
  voted = subst (VotedIn f V u) plain
      (planned_voted f x V W u one planned (let d = decided in omega (arith, d)) (let d = decided in omega (arith, d)))

  pub never_light : ⊥
  never_light = voted c (subst (λ (z : State). In c z.calls) (sym only.rest) there) write its
      (λ v o. act_cases (λ (y : Act) (z : lock.Action). on c.act y ≡ true → z.stage ≤ 3) T.action m (record (T.action m) { stage = 2 })
      (λ z. omega arith) (λ y other z. subst (λ (s : State). (s.action y).stage ≤ 3) (sym only.rest) (alive y z)) v o)
