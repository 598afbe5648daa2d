-- A call on the object goes in the machine: how it goes on, and how it ends.
use Rattle.arj_law_parts.proofs.Words
use Words.{ℕ, ◌||◌, ◌≡◌, ◌≢◌, ◌≤◌, ◌<◌, ◌+◌, ◌⊎◌, ◌∙◌, ◌==◌, ◌&&◌, List, [], ◌∷◌, Bool, true, false, cond, Option, Some, None, refl, sym}
use Words.{ap, subst, inl, inr, ⊎_elim, arith, is_some, eqb-true, Contains, and_parts, uid_cases, uid_same, Binding, End, Op, Uid}
use Words.{first_uid, is_on, last_uid, uid_eq, uids_of, writes, actor, top_of, asks_step, doomed_by, ends_call, goes_on, is_invoke_ask}
use Words.{root_heard, At, AtActivate, AtBind, AtInvoke, AtLoad, AtNote, CallEnd, Goal, Known, Run, Steps, is_invoke, next_ask, next_node}
use Words.{Calling, Committing, Coord, Doing, Grant, Idle, Keeping, Now, Root, Said, Went, change_doing, doing_of, is_call, is_free}
use Words.{keeping_of, kept_of, on_root, root_at, set_doing, with_went, binding_number, Branch, Tree, branch_of, ended_so, ends_of}
use Words.{has_end, is_aborted, is_spent, root_of, is_committing_now, is_waiting_now}
use Words.ending
use Words.calls as call
use Rattle.arj_law_lock_view.proofs.Terms
use Terms.{Act, In, Root as Unit, at_act, is_action, on, root, same, top, Guard, next, stay, step, Alive, Call, IsFree, Open, State, Keep}
use Terms.{KnowsRecorded, MayUse, Name, SendInvoke, Holds, run_keeps, start_holds, act_here, act_other, at_here, by_cases, differ}
use Terms.{number_self, on_base, on_root as same_unit, on_self, root_is, top_root, Paths, IsAsking, IsBusy, path_some, IsSameTree}
use Terms.{doing_other, doing_put, Acts, SeesAction, SeesActions, invokes, stage_of, IsAtWork, IsReached, OnlyCalled, Codes, IsServedBy}
use Terms.{IsNamedSo, binding_at, HasHeard, IsSaid, IsTied, SeesCoord, SeesKeeping, SeesKept, SeesRoot, SeesStep, is_early}
use Terms.machine_run
use Terms.machine
use Rattle.arj_law_lock.specs.machine.{Actions.at, State.Action}
use Rattle.arj_law_lock_view.proofs.view
use view.ActingSteps.{unended_none, unit_other}
use view.FreeSteps.{free_only as only_caller, free_spent}
use view.RootSteps.{IsMoved, assemble, root_else, root_here, same_refl, same_spent}
use view.TreeSteps.{IsWaiter, action_kind, first_on, one_changed, open_above, opens, root_there, seen_at, waiter}
use Rattle.arj_law_lock_view.proofs.view.Looked.{called_both, called_none, called_one, kept_same, Looks, looks_went}

-- ---- a call of an action

module _ (act : Acts) (code : Codes) (paths : Paths) (c : Coord) (b : Branch) (d : Doing) (s : Steps) (o : Op) (S : State)
    (reached : IsReached S) (work : IsAtWork act paths c (actor s.path) b d) (calling : d.now ≡ Calling s) (goal : s.goal ≡ Run o)
    (path : s.path ≡ b.path) (last : s.req ≡ d.req) (sees : SeesCoord act code s.x c S) where
  abbrev pub u : Uid
  u = actor s.path

  abbrev pub x : ℕ
  x = s.x

  abbrev pub rt : Uid
  rt = root_of s.path

  abbrev pub unit : ℕ
  unit = root (act u)

  abbrev pub f : Act → Action
  f = S.action

  abbrev pub kp : Keeping
  kp = keeping_of x (root_at rt c)

  pub holds : Holds S
  holds = run_keeps reached.1 (start_holds reached.0)

  pub asks : IsAsking c.tree u s.path
  asks = subst (IsBusy c.tree u) calling (work.steady.good.busy u d work.works)

  pub of : root_of b.path ≡ rt
  of = ap (λ p. root_of p) (sym path)

  pub r0 : Branch
  r0 = (root_there act paths x c f work.steady sees.actions u b work.there).0

  pub root_found : branch_of rt c.tree ≡ Some r0
  unfolding r0
  root_found = ap (λ (v : Uid). branch_of v c.tree) (sym of) ∙ (root_there act paths x c f work.steady sees.actions u b work.there).1

  pub unit_same : root (act rt) ≡ unit
  unit_same = sym (same_unit (act u) (act rt) (work.steady.alike.above u rt ∙ ap (is_on (paths u)) (sym of)
      ∙ (root_there act paths x c f work.steady sees.actions u b work.there).2))

  pub own_root : root_of r0.path ≡ rt
  own_root = ap first_uid (work.steady.good.tree.lists.paths_are rt r0 root_found) ∙ work.steady.alike.units rt u unit_same
      ∙ ap first_uid (sym (work.steady.good.tree.lists.paths_are u b work.there)) ∙ of

  pub root_seen : SeesRoot act x rt (root_at rt c) c.tree S
  root_seen = sees.roots rt r0 root_found own_root

  pub step_seen : SeesStep act code s o kp S s.at
  step_seen = sees.calls u d s o work.works calling refl goal

  pub its : is_action (act u) ≡ true
  its = action_kind (act u) b.kind (λ is. asks.unserial (ap (λ (v : Branch). v.kind) (one asks.branch b asks.found work.there) ∙ is))
      (work.steady.placed u b work.there)
    where
      one : (v w : Branch) → branch_of u c.tree ≡ Some v → branch_of u c.tree ≡ Some w → v ≡ w
      one v w p q = let e : ◌≡◌ {A = Option Branch} (Some v) (Some w) = sym p ∙ q in cc e

  pub topped : top (act u) ≡ act (top_of s.path)
  topped = work.topped ∙ ap (λ p. act (top_of p)) (sym path)

  pub top_unit : root (act (top_of s.path)) ≡ unit
  top_unit = ap root (sym topped) ∙ top_root (act u)

  pub was : SeesAction x b d (f (act u))
  was = sees.actions.each u b d work.there work.works its

  pub open_stage : (f (act u)).stage ≡ 0
  open_stage = was.stage ∙ (λ i. stage_of (unended_none b.ended work.unended i) (calling i))

  -- A state of the machine in which the unit's binding may be another: what the root keeps then is seen, and calls on it go on.
  pub record IsRebound (k : Option Known) (T : State) : Type 0 where
    pub only : OnlyCalled unit S T
    pub actions : T.action ≡ f
    pub calls : T.calls ≡ S.calls
    pub now : T.now ≡ S.now
    pub naming : T.naming ≡ S.naming
    pub keeping : SeesKeeping unit k kp.avoid T
    pub ties : (((o : Known) → IsTied kp.kept o → IsTied k o) × (k ≡ None → kp.kept ≡ None)) ⊎ ((w : Uid) (e : Doing) (z : Steps) (p : Op) →
        doing_of w c ≡ Some e → e.now ≡ Calling z → z.x ≡ x → z.goal ≡ Run p → root_of z.path ≡ rt → w ≡ u)

  -- the binding that a call is on is the machine's
  pub tied_kept : (k : Option Known) (T : State) → SeesKeeping unit k kp.avoid T → (o : Known) → IsTied k o →
      T.kept unit ≡ binding_number o.binding
  tied_kept k T keeps o t =
      (let z : SeesKept unit t.old T = subst (λ (v : Option Known). SeesKeeping unit v kp.avoid T) t.is keeps in z.kept) ∙ t.same

  -- the root after it
  pub root_after : (T V : State) (k : Option Known) (q : Root) (grants : List Grant) (t : Tree) → IsRebound k T →
      T.kept unit ≡ V.kept unit → ((n : ℕ) → V.binding n ≡ T.binding n) → OnlyCalled unit S V →
      ((m : machine.Message) → In m T.net → In m V.net) → IsSameTree c.tree t
      → kept_of x q ≡ k → (let j = keeping_of x q in j.avoid) ≡ kp.avoid → q.grants ≡ grants →
      ((g : Grant) (n : Binding) → Contains grants g → g.x ≡ x → g.named ≡ Some n → HasHeard (act g.top) (binding_number n) V)
      → (k ≡ None → (z : Said) → Contains q.said z → z.x ≡ x → is_spent z.path t ≡ true) →
      ((z : Said) → Contains q.said z → z.x ≡ x → IsSaid act rt z t V) →
      ((e : Call) → In e V.calls → root e.act ≡ unit → (z : Said) × Contains q.said z × (z.x ≡ x) × (e.act ≡ act (last_uid z.path)))
      → SeesRoot act x rt q t V
  root_after T V k q grants t rebound kept bindings only sent same is avoid grants_are heard spent said calls = record {
    keeping = subst (λ (n : ℕ). SeesKeeping n (kept_of x q) (let j = keeping_of x q in j.avoid) V) (sym unit_same)
        (subst (λ (v : Option Known). SeesKeeping unit v (let j = keeping_of x q in j.avoid) V) (sym is)
        (subst (λ (v : Binding). SeesKeeping unit k v V) (sym avoid) (keeps k rebound.keeping)));
    spent = λ none. spent (sym is ∙ none);
    said = said;
    calls = λ e i home. calls e i (home ∙ unit_same);
    heard = λ g n there. heard g n (subst (λ (l : List Grant). Contains l g) grants_are there);
  }
    where
      keeps : (v : Option Known) → SeesKeeping unit v kp.avoid T → SeesKeeping unit v kp.avoid V
      keeps None low = subst (λ (n : ℕ). n ≤ binding_number kp.avoid) kept low
      keeps (Some v) seen = kept_same unit v T V (sym kept) bindings sent seen

  -- nothing of the root but what it keeps, and its grants, is another
  pub root_stays : (T V : State) (k : Option Known) (spoilt : Bool) (q : Root) (grants : List Grant) (t : Tree) → IsRebound k T →
      T.kept unit ≡ V.kept unit → ((n : ℕ) → V.binding n ≡ T.binding n) → OnlyCalled unit S V →
      ((m : machine.Message) → In m T.net → In m V.net) → V.calls ≡ S.calls → IsSameTree c.tree t
      → Looks x q (record kp { kept = k; spoiled = spoilt }) (let z = root_at rt c in z.said) grants →
      ((g : Grant) (n : Binding) → Contains grants g → g.x ≡ x → g.named ≡ Some n → HasHeard (act g.top) (binding_number n) V) →
      (k ≡ None → kp.kept ≡ None) → SeesRoot act x rt q t V
  root_stays T V k spoilt q grants t rebound kept bindings only sent same_calls same looks heard none =
      root_after T V k q grants t rebound kept bindings only sent same
      (ap (λ (j : Keeping). j.kept) looks.keeps) (ap (λ (j : Keeping). j.avoid) looks.keeps) looks.grants_are heard
      (λ is z there about. same_spent c.tree t same z.path
      ∙ root_seen.spent (none is) z (subst (λ (l : List Said). Contains l z) looks.said_is there) about)
      (λ z there about. said_in z (root_seen.said z (subst (λ (l : List Said). Contains l z) looks.said_is there) about))
      (λ e i home. (let g = root_seen.calls e (subst (In e) same_calls i) (home ∙ sym unit_same) in
      (g.0, subst (λ (l : List Said). Contains l g.0) (sym looks.said_is) g.1, g.2, g.3)))
    where
      said_in : (z : Said) → IsSaid act rt z c.tree S → IsSaid act rt z t V
      said_in z seen = let g = same.forth (last_uid z.path) seen.branch seen.there in record {
        branch = g.0;
        there = g.1;
        path = ap uids_of (sym g.2) ∙ seen.path;
        of = ap (λ p. root_of p) (sym g.2) ∙ seen.of;
        call = seen.call;
        called = only.calls seen.call seen.called;
        by = seen.by;
      }

  pub kept_seen : (old : Known) → kp.kept ≡ Some old → SeesKept unit old S
  kept_seen old is = subst (λ (n : ℕ). SeesKept n old S) unit_same
      (subst (λ (v : Option Known). SeesKeeping (root (act rt)) v kp.avoid S) is root_seen.keeping)

  -- ---- what is kept stays, or more is known of it

  pub stays_rebound : IsRebound kp.kept S
  stays_rebound = record {
    only = called_none unit S;
    actions = refl;
    calls = refl;
    now = refl;
    naming = refl;
    keeping = subst (λ (n : ℕ). SeesKeeping n kp.kept kp.avoid S) unit_same root_seen.keeping;
    ties = inl ((λ q t. t), (λ e. e));
  }

  tie_same : (old new : Known) → kp.kept ≡ Some old → binding_number new.binding ≡ binding_number old.binding → (q : Known) →
      IsTied kp.kept q → IsTied (Some new) q
  tie_same old new is same_number q t =
      let two : ◌≡◌ {A = Option Known} (Some old) (Some t.old) = sym is ∙ t.is in
      let k : old ≡ t.old = cc two in
      record { old = new; is = refl; same = same_number ∙ ap (λ (v : Known). binding_number v.binding) k ∙ t.same }

  pub same_rebound : (old new : Known) → kp.kept ≡ Some old → binding_number new.binding ≡ binding_number old.binding →
      SeesKept unit new S → IsRebound (Some new) S
  same_rebound old new is same_number seen = record {
    only = called_none unit S;
    actions = refl;
    calls = refl;
    now = refl;
    naming = refl;
    keeping = seen;
    ties = inl (tie_same old new is same_number, (λ e. absurd (cc e)));
  }

  -- ---- who waits, and who called

  -- whoever waits in the unit waits in a call on the object
  pub record IsInvoker (a : Act) : Type 0 where
    pub who : Uid
    pub busy : Doing
    pub steps : Steps
    pub op : Op
    pub doing : doing_of who c ≡ Some busy
    pub waiting : (let k = busy in k.now) ≡ Calling steps
    pub about : (let y = steps in y.x) ≡ x
    pub runs : (let y = steps in y.goal) ≡ Run op
    pub home : root_of (let y = steps in y.path) ≡ rt
    pub invoking : is_invoke (let y = steps in y.at) ≡ true

  invoker : (a : Act) → root a ≡ unit → (S.action a).waits ≡ true → Alive S a → IsInvoker a
  invoker a home waiting alive = by (waiter act paths x c f work.steady sees.actions u b a work.there home waiting (alive a (on_self a)))
    where
      late : (y : At) → is_invoke y ≡ true → is_early y ≡ false
      late (AtBind avoid) h = absurd (cc h)
      late (AtLoad k n rest) h = absurd (cc h)
      late (AtActivate k st) h = refl
      late (AtNote k i) h = refl
      late (AtInvoke k i) h = refl

      run_of : (g : Goal) → is_call g ≡ true → (q : Op) × (g ≡ Run q)
      run_of (Run q) h = (q, refl)
      run_of (call.Include st) h = absurd (cc h)

      by : IsWaiter act paths x c f work.steady sees.actions a → IsInvoker a
      by w = now (let k = w.work in k.now) refl w.invoking
        where
          now : (n : Now) → (let k = w.work in k.now) ≡ n → invokes x n ≡ true → IsInvoker a
          now Idle is h = absurd (cc h)
          now (Committing m) is h = absurd (cc h)
          now (Calling z) is h =
              let both = and_parts (z.x == x) (is_invoke z.at) h in
              let q = run_of z.goal (sees.plain w.who w.work z w.works is (eqb-true z.x x both.0) (late z.at both.1)) in
              let a' : IsAsking c.tree w.who z.path = subst (IsBusy c.tree w.who) is (work.steady.good.busy w.who w.work w.works) in
              let home' : root_of z.path ≡ rt = ap (λ p. root_of p) (sym a'.path)
              ∙ ap first_uid (work.steady.good.tree.lists.paths_are w.who a'.branch a'.found) ∙ work.steady.alike.units w.who u
              (ap root (sym w.is) ∙ home) ∙ ap first_uid (sym (work.steady.good.tree.lists.paths_are u b work.there)) ∙ of in
              record {
                who = w.who;
                busy = w.work;
                steps = z;
                op = q.0;
                doing = w.works;
                waiting = is;
                about = eqb-true z.x x both.0;
                runs = q.1;
                home = home';
                invoking = both.1;
              }

  none_called : ((z : Said) → Contains (let q = root_at rt c in q.said) z → z.x ≡ x → is_spent z.path c.tree ≡ true) → (e : Call) →
      In e S.calls → root e.act ≡ unit → Alive S e.act → ⊥
  none_called spent_all e i home alive =
      let g = root_seen.calls e i (home ∙ sym unit_same) in
      let z = root_seen.said g.0 g.1 g.2 in
      let spent = spent_all g.0 g.1 g.2 in
      gone g.0 z spent (λ w on_it. alive (act w) (ap (λ (a : Act). on a (act w)) g.3 ∙ work.steady.alike.above (last_uid g.0.path) w
      ∙ ap (λ us. is_on us w) (sym (work.steady.good.tree.lists.paths_are (last_uid g.0.path) z.branch z.there) ∙ z.path) ∙ on_it))
    where
      aborted_one : (us : List Uid) → is_spent us c.tree ≡ true → (w : Uid) × (is_on us w ≡ true) × (is_aborted w c.tree ≡ true)
      aborted_one [] h = absurd (cc h)
      aborted_one (w ∷ us) h = by (is_aborted w c.tree) refl h (aborted_one us)
        where
          on_rest : (w v : Uid) (us : List Uid) → is_on us v ≡ true → is_on (w ∷ us) v ≡ true
          on_rest w v us h = by' (uid_eq w v)
            where
              by' : (t : Bool) → (t || is_on us v) ≡ true
              by' true = refl
              by' false = h

          by : (t : Bool) → is_aborted w c.tree ≡ t → (t || is_spent us c.tree) ≡ true → (is_spent us c.tree ≡ true → (v : Uid)
              × (is_on us v ≡ true) × (is_aborted v c.tree ≡ true)) → (v : Uid) × (is_on (w ∷ us) v ≡ true) × (is_aborted v c.tree ≡ true)
          by true is k rest = (w, (λ i. uid_same w i || is_on us w), is)
          by false is k rest = let r = rest k in (r.0, on_rest w r.0 us r.1, r.2)

      gone : (y : Said) → IsSaid act rt y c.tree S → is_spent y.path c.tree ≡ true →
          ((w : Uid) → is_on y.path w ≡ true → (S.action (act w)).stage ≤ 3) → ⊥
      gone y z spent low = by (aborted_one y.path spent)
        where
          by : (w : Uid) × (is_on y.path w ≡ true) × (is_aborted w c.tree ≡ true) → ⊥
          by (w, on_it, is) = of_branch (branch_of w c.tree) refl is
            where
              of_branch : (v : Option Branch) → branch_of w c.tree ≡ v → ended_so ending.Abort v ≡ true → ⊥
              of_branch None there h = cc h
              of_branch (Some q) there h = kinds (by_cases (is_action (act w)))
                where
                  aborted : (v : Option End) → has_end ending.Abort v ≡ true → v ≡ Some ending.Abort
                  aborted None k = absurd (cc k)
                  aborted (Some ending.Commit) k = absurd (cc k)
                  aborted (Some ending.Abort) k = refl

                  said_unit : root (act (last_uid y.path)) ≡ unit
                  said_unit =
                      same_unit (act (last_uid y.path)) (act rt) (work.steady.alike.above (last_uid y.path) rt ∙ first_there) ∙ unit_same
                    where
                      first_there : is_on (paths (last_uid y.path)) rt ≡ true
                      first_there = ap (is_on (paths (last_uid y.path))) (sym z.of) ∙ ap (λ us. is_on us (root_of z.branch.path))
                          (sym (work.steady.good.tree.lists.paths_are (last_uid y.path) z.branch z.there))
                          ∙ first_on (uids_of z.branch.path) (path_some z.branch.path)

                  unit_open : (w : Uid) (q : Branch) → branch_of w c.tree ≡ Some q → act w ≡ Unit (root (act w)) →
                      root (act (last_uid y.path)) ≡ root (act w) → has_end ending.Abort q.ended ≡ true → ⊥
                  unit_open w q there is_unit home' k =
                      let same_unit' : root (act w) ≡ unit = sym home' ∙ said_unit in
                      let up : is_on (paths u) w ≡ true = sym (work.steady.alike.above u w) ∙ ap (on (act u)) (is_unit ∙ ap Unit same_unit')
                      ∙ on_base (act u) in
                      let open' = open_above act paths x c f work.steady sees.actions u w b q work.there work.unended there up in
                      differ (ap is_some (aborted q.ended k)) open'

                  kinds : (is_action (act w) ≡ true) ⊎ (is_action (act w) ≡ false) → ⊥
                  kinds (inl acts) = let v = seen_at act paths x c f work.steady sees.actions w q there acts in let l = low w on_it in
                      let st = v.2.stage ∙ (λ i. stage_of (aborted q.ended h i) (let k = v.0 in k.now)) in omega (arith, l, st)
                  kinds (inr unit_one) =
                      unit_open w q there (root_is (act w) unit_one)
                      (same_unit (act (last_uid y.path)) (act w) (work.steady.alike.above (last_uid y.path) w ∙ ap (λ us. is_on us w)
                      (sym (work.steady.good.tree.lists.paths_are (last_uid y.path) z.branch z.there) ∙ z.path) ∙ on_it)) h

  -- nobody else calls the object
  abbrev pub IsOnly : Type 0
  IsOnly = (w : Uid) (e : Doing) (z : Steps) (q : Op) → doing_of w c ≡ Some e → e.now ≡ Calling z → z.x ≡ x → z.goal ≡ Run q →
      root_of z.path ≡ rt → w ≡ u

  module _ (free : is_free rt u x c ≡ true) (quiet : is_invoke s.at ≡ false) where
    pub free_only : IsOnly
    free_only = only_caller act paths c work.steady rt u x free

    pub free_seen : IsFree S unit
    free_seen = record { waits = waits; called = none_called (free_spent act paths c work.steady rt u x free) }
      where
        waits : (a : Act) → root a ≡ unit → (S.action a).waits ≡ true → Alive S a → ⊥
        waits a home waiting alive =
            let w = invoker a home waiting alive in
            let same_one = free_only w.who w.busy w.steps w.op w.doing w.waiting w.about w.runs w.home in
            let two : ◌≡◌ {A = Option Doing} (Some d) (Some w.busy) = sym work.works ∙ ap (λ (v : Uid). doing_of v c) (sym same_one)
            ∙ w.doing in
            let k : d ≡ w.busy = cc two in
            let e : Calling s ≡ Calling w.steps = sym calling ∙ ap (λ (v : Doing). v.now) k ∙ w.waiting in
            let m : s ≡ w.steps = cc e in
            differ w.invoking (ap (λ (v : Steps). is_invoke v.at) (sym m) ∙ quiet)

  -- without a kept binding the root is free
  pub none_free : kp.kept ≡ None → IsFree S unit
  none_free none = record { waits = waits; called = none_called (root_seen.spent none) }
    where
      waits : (a : Act) → root a ≡ unit → (S.action a).waits ≡ true → Alive S a → ⊥
      waits a home waiting alive =
          let w = invoker a home waiting alive in
          tied (w.steps) (w.op) (let t = w.steps in t.at) w.invoking (subst (λ (v : Uid). SeesStep act code w.steps w.op (keeping_of x
          (root_at v c)) S (let t = w.steps in t.at)) w.home (sees.calls w.who w.busy w.steps w.op w.doing w.waiting w.about w.runs))
        where
          tied : (z : Steps) (q : Op) (a : At) → is_invoke a ≡ true → SeesStep act code z q kp S a → ⊥
          tied z q (AtBind avoid) h t = cc h
          tied z q (AtLoad k n rest) h t = cc h
          tied z q (AtActivate k st) h t = cc h
          tied z q (AtNote k i) h t = cc h
          tied z q (AtInvoke k i) h t = let y = t.0 in cc (sym none ∙ y.is)

  -- ---- the machine's steps on what is kept

  -- A binding that the top heard of, above what was kept, where nothing stands on that.
  module _ (k : Known) (heard : HasHeard (act (top_of s.path)) (binding_number k.binding) S) (above : S.kept unit < binding_number
      k.binding) (free : IsFree S unit) (server : IsServedBy S k.binding k.server) (named : (i : ℕ) → k.inc ≡ Some i → IsNamedSo S k.binding
      i) (unnamed : k.inc ≡ None → ((let n = binding_at S k.binding in n.named) ≡ false) × (root (let n = binding_at S k.binding in n.maker)
      ≡ unit)) (recorded : k.recorded ≡ true → KnowsRecorded S (binding_number k.binding) × ((i : ℕ) × (k.inc ≡ Some i))) where
    abbrev pub kept_state : State
    kept_state = record S { kept = at S.kept unit (binding_number k.binding) }

    pub keeps_run : machine_run.Run S kept_state
    keeps_run = subst (λ (n : ℕ). machine_run.Run S (record S { kept = at S.kept n (binding_number k.binding) })) top_unit
        (step (Keep (act (top_of s.path)) (binding_number k.binding))
        (heard, subst (λ (n : ℕ). S.kept n < binding_number k.binding) (sym top_unit) above, subst (IsFree S) (sym top_unit) free) stay)

    pub kept_rebound : ((((q : Known) → IsTied kp.kept q → IsTied (Some k) q) × (Some k ≡ None → kp.kept ≡ None)) ⊎ IsOnly) →
        IsRebound (Some k) kept_state
    kept_rebound ties = record {
      only = record {
        rest = refl;
        actions = λ q away. refl;
        ended = λ q over. refl;
        kept = λ n away. at_other n away (n == unit) refl;
        bindings = λ n. (refl, refl);
        named = λ n h. refl;
        calls = λ e i. i;
        fresh = λ e i. inl i;
        sent = λ m i. i;
      };
      actions = refl;
      calls = refl;
      now = refl;
      naming = refl;
      keeping = record {
        kept = at_here S.kept unit (binding_number k.binding);
        server = server;
        named = named;
        unnamed = unnamed;
        recorded = recorded;
      };
      ties = ties;
    }
      where
        at_other : (n : ℕ) → n ≢ unit → (t : Bool) → (n == unit) ≡ t → cond t (binding_number k.binding) (S.kept n) ≡ S.kept n
        at_other n away true is = absurd (away (eqb-true n unit is))
        at_other n away false is = refl

  -- The first incarnation that is heard of the binding's server.
  module _ (old : Known) (is : kp.kept ≡ Some old) (none : old.inc ≡ None) (i : ℕ)
      (heard : In (machine.Activated (binding_number old.binding) i) S.net) where
    abbrev n : ℕ
    n = binding_number old.binding

    abbrev with_i : Known
    with_i = record old { inc = Some i }

    abbrev pub named_state : State
    named_state = record S { binding = at S.binding n (record (S.binding n) { named = true; incarnation = i }) }

    pub names_run : machine_run.Run S named_state
    names_run = step (Name n i) (heard, ((kept_seen old is).unnamed none).0) stay

    pub named_here : named_state.binding n ≡ record (S.binding n) { named = true; incarnation = i }
    named_here = at_here S.binding n (record (S.binding n) { named = true; incarnation = i })

    pub named_rebound : IsRebound (Some with_i) named_state
    named_rebound = record {
      only = record {
        rest = refl;
        actions = λ q away. refl;
        ended = λ q over. refl;
        kept = λ m away. refl;
        bindings = λ m. same_home m (m == n) refl;
        named = λ m h. other m h (m == n) refl;
        calls = λ e j. j;
        fresh = λ e j. inl j;
        sent = λ m j. j;
      };
      actions = refl;
      calls = refl;
      now = refl;
      naming = refl;
      keeping = record {
        kept = (kept_seen old is).kept;
        server = ap (λ (b : machine.Binding). b.server) named_here ∙ (kept_seen old is).server;
        named = λ j e. (
          ap (λ (b : machine.Binding). b.named) named_here,
          ap (λ (b : machine.Binding). b.incarnation) named_here ∙ (let k : i ≡ j = cc e in k),
        );
        unnamed = λ e. absurd (cc e);
        recorded = λ e. (((kept_seen old is).recorded e).0, (i, refl));
      };
      ties = inl (tie_same old with_i is refl, (λ e. absurd (cc e)));
    }
      where
        same_home : (m : ℕ) (t : Bool) → (m == n) ≡ t →
            ((cond t (record (S.binding n) { named = true; incarnation = i }) (S.binding m)).server ≡ (S.binding m).server)
            × ((cond t (record (S.binding n) { named = true; incarnation = i }) (S.binding m)).maker ≡ (S.binding m).maker)
        same_home m true e =
            (ap (λ (k : ℕ). (S.binding k).server) (sym (eqb-true m n e)), ap (λ (k : ℕ). (S.binding k).maker) (sym (eqb-true m n e)))
        same_home m false e = (refl, refl)

        other : (m : ℕ) → ((S.binding m).named ≡ true) ⊎ (root (S.binding m).maker ≢ unit) → (t : Bool) → (m == n) ≡ t →
            cond t (record (S.binding n) { named = true; incarnation = i }) (S.binding m) ≡ S.binding m
        other m h false e = refl
        other m h true e = absurd (⊎_elim
            (λ (yes_it : (S.binding m).named ≡ true).
            differ yes_it (ap (λ (k : ℕ). (S.binding k).named) (eqb-true m n e) ∙ ((kept_seen old is).unnamed none).0))
            (λ (away : root (S.binding m).maker ≢ unit).
            away (ap (λ (k : ℕ). root (S.binding k).maker) (eqb-true m n e) ∙ ((kept_seen old is).unnamed none).1)) h)

  -- ---- the coordinator after it

  abbrev pub Becomes : Coord → Branch → Doing → Root → State → Type 0
  Becomes e b' d' q V = IsMoved act code paths x c e S V work.steady sees u rt b work.there of r0 root_found own_root b' d' q

  -- the call goes on, where the root became this
  module _ (g : Root → Root) (a : At) (V : State) where
    abbrev pub more : Steps
    more = record s { req = s.req + 1; at = a }

    abbrev busy : Doing
    busy = record d { req = s.req + 1; now = Calling more }

    abbrev note : Went
    note = record { path = uids_of s.path; node = next_node more; invoke = is_invoke_ask (next_ask (ends_of rt c.tree) more) }

    abbrev pub goes_coord : Coord
    goes_coord = let e = goes_on more (on_root rt g c) in e.part

    pub goes_becomes : Becomes goes_coord b busy (with_went note (g (root_at rt c))) V
    goes_becomes = subst (λ (e : Coord). Becomes e b busy (with_went note (g (root_at rt c))) V)
        (λ i. (let e = asks_step more (change_doing (λ (q : Doing). record q { req = s.req + 1; now = Calling more }) u (on_root rt g c)
        (sym work.works i)) in e.part))
        (record {
          same = same_refl c.tree;
          one = record {
            branch = work.there;
            doing = doing_put u busy d c work.works;
            branches = λ w other. refl;
            doings = λ w other. doing_other u w busy d c work.works other;
          };
          root_is = root_here rt (with_went note) (set_doing u busy (on_root rt g c)) ∙ ap (with_went note) (root_here rt g c);
          elsewhere = λ w other. root_else rt (with_went note) (set_doing u busy (on_root rt g c)) w other ∙ root_else rt g c w other;
        })

  -- or it ends
  module _ (g : Root → Root) (e : CallEnd) (V : State) (undoomed : (k : Coord) → doomed_by u e k ≡ k) where
    abbrev rests : Doing
    rests = record d { now = Idle }

    abbrev pub ends_coord : Coord
    ends_coord = let k = ends_call s e (on_root rt g c) in k.part

    pub ends_becomes : Becomes ends_coord b rests (root_heard s e (g (root_at rt c))) V
    ends_becomes = subst (λ (k : Coord). Becomes k b rests (root_heard s e (g (root_at rt c))) V)
        (sym (undoomed (on_root rt (root_heard s e) (set_doing u rests (on_root rt g c)))) ∙ (λ i. doomed_by u e
        (on_root rt (root_heard s e) (change_doing (λ (q : Doing). record q { now = Idle }) u (on_root rt g c) (sym work.works i)))))
        (record {
          same = same_refl c.tree;
          one = record {
            branch = work.there;
            doing = doing_put u rests d c work.works;
            branches = λ w other. refl;
            doings = λ w other. doing_other u w rests d c work.works other;
          };
          root_is = root_here rt (root_heard s e) (set_doing u rests (on_root rt g c)) ∙ ap (root_heard s e) (root_here rt g c);
          elsewhere = λ w other. root_else rt (root_heard s e) (set_doing u rests (on_root rt g c)) w other ∙ root_else rt g c w other;
        })

  -- ---- its actions after it

  -- one action of it and of the machine changed
  pub acts_after : (e : Coord) (V : State) (d' : Doing) (q : Root) (v : Action) → Becomes e b d' q V → SeesAction x b d' v →
      SeesActions act x e (at_act f (act u) v)
  acts_after e V d' q v moved its_new =
      one_changed act paths x c f work.steady sees.actions u b b d' e (at_act f (act u) v) work.there moved.one refl (λ un. un)
      (λ h. subst (SeesAction x b d') (sym (act_here f (act u) v)) its_new)
      (λ w other h. act_other f (act u) v w other)
      (λ w r z there root_is_there un. act_other f (act u) v (Unit (root (act w))) (unit_other (root (act w)) (act u) its))
      (λ n. ap (λ (w : Action). w.waits) (act_other f (act u) v (Unit n) (unit_other n (act u) its)))

  -- or of it alone
  acts_still : (e : Coord) (V : State) (d' : Doing) (q : Root) → Becomes e b d' q V → SeesAction x b d' (f (act u)) → SeesActions act x e f
  acts_still e V d' q moved its_new = one_changed act paths x c f work.steady sees.actions u b b d' e f work.there moved.one refl (λ un. un)
      (λ h. its_new) (λ w other h. refl) (λ w r z there root_is_there un. refl) (λ n. refl)

  pub none_ended : has_end ending.Abort b.ended ≡ false
  none_ended = ap (has_end ending.Abort) (unended_none b.ended work.unended)

  pub open_now : (n : Now) → is_committing_now n ≡ false → stage_of b.ended n ≡ 0
  open_now n quiet = (λ i. stage_of (unended_none b.ended work.unended i) n) ∙ by n quiet
    where
      by : (n : Now) → is_committing_now n ≡ false → stage_of None n ≡ 0
      by Idle q = refl
      by (Calling z) q = refl
      by (Committing m) q = absurd (cc q)

  -- whether it waits in the machine
  pub waits_is : (f (act u)).waits ≡ is_invoke s.at
  waits_is = was.waits none_ended ∙ (λ i. invokes x (calling i)) ∙ (λ i. number_self x i && is_invoke s.at)

  abbrev pub said_now : List Said
  said_now = let z = root_at rt c in z.said

  -- the same call by another name
  same_steps : (z y : Steps) → Calling z ≡ Calling y → z ≡ y
  same_steps z y e = cc e

  same_run : (p q : Op) → Run p ≡ Run q → p ≡ q
  same_run p q e = cc e

  -- ---- the call goes on in the machine

  module _ (g : Root → Root) (a : At) (k : Option Known) (spoilt : Bool) (grants : List Grant) (T : State) (rebound : IsRebound k T)
      (looks : Looks x (g (root_at rt c)) (record kp { kept = k; spoiled = spoilt }) said_now grants) (none : k ≡ None →
      kp.kept ≡ None) (quiet : is_invoke s.at ≡ false) where
    abbrev kq : Keeping
    kq = record kp { kept = k; spoiled = spoilt }

    abbrev z : Steps
    z = record s { req = s.req + 1; at = a }

    abbrev d' : Doing
    d' = record d { req = s.req + 1; now = Calling z }

    abbrev q : Root
    q = with_went (note g a S) (g (root_at rt c))

    abbrev e : Coord
    e = goes_coord g a S

    looks_q : Looks x q kq said_now grants
    looks_q = looks_went x (note g a S) (g (root_at rt c)) kq said_now grants looks

    abbrev pub HasGrants : State → Type 0
    HasGrants V = (gr : Grant) (n : Binding) → Contains grants gr → gr.x ≡ x → gr.named ≡ Some n →
        HasHeard (act gr.top) (binding_number n) V

    pub goes_seen : (V : State) → OnlyCalled unit S V → T.kept unit ≡ V.kept unit → ((n : ℕ) → V.binding n ≡ T.binding n) →
        ((m : machine.Message) → In m T.net → In m V.net) → V.calls ≡ S.calls → HasGrants V → SeesActions act x e V.action →
        SeesStep act code z o kq V a → SeesCoord act code x e V
    goes_seen V only kept bindings sent same_calls heard acts its_step =
        let moved = goes_becomes g a V in
        assemble act code paths x c e S V work.steady sees u rt b work.there of r0 root_found own_root b d' q moved only acts
        (root_stays T V k spoilt q grants (let v = e in v.tree) rebound kept bindings only sent same_calls moved.same looks_q heard none)
        ties
        (λ y p now_is about goal'.
        let one = same_steps z y now_is in
        let op_is = same_run o p (sym goal ∙ ap (λ (v : Steps). v.goal) one ∙ goal') in (
          ap (λ (v : Steps). root_of v.path) (sym one),
          subst (λ (v : Steps). SeesStep act code v p (keeping_of x q) V v.at) one (subst (λ (v : Op). SeesStep act code z v
              (keeping_of x q) V a) op_is (subst (λ (v : Keeping). SeesStep act code z o v V a) (sym looks_q.keeps) its_step)),
        ))
        (λ y now_is about invoke. ap (λ (v : Steps). is_call v.goal) (sym (same_steps z y now_is)) ∙ ap is_call goal)
      where
        ties : (((v : Known) → IsTied kp.kept v → IsTied (let j = keeping_of x q in j.kept) v)
            × ((let j = keeping_of x q in j.kept) ≡ None → (kp.kept ≡ None) × ((let j = keeping_of x q in j.avoid) ≡ kp.avoid))) ⊎ IsOnly
        ties = ⊎_elim
            (λ (t : ((v : Known) → IsTied kp.kept v → IsTied k v) × (k ≡ None → kp.kept ≡ None)). inl (
              (λ v tie. subst (λ (j : Keeping). IsTied j.kept v) (sym looks_q.keeps) (t.0 v tie)),
              (λ is. (t.1 (ap (λ (j : Keeping). j.kept) (sym looks_q.keeps) ∙ is), ap (λ (j : Keeping). j.avoid) looks_q.keeps)),
            ))
            (λ (only_one : IsOnly). inr only_one)
            rebound.ties

    -- the step isn't an Invoke: the machine waits
    pub silent_seen : is_invoke a ≡ false → HasGrants T → SeesStep act code z o kq T a → SeesCoord act code x e T
    silent_seen calm heard its_step = goes_seen T rebound.only refl (λ n. refl) (λ m i. i) rebound.calls heard
        (subst (SeesActions act x e) (sym rebound.actions) (acts_still e S d' q (goes_becomes g a S) its_new)) its_step
      where
        its_new : SeesAction x b d' (f (act u))
        its_new = record {
          stage = open_stage ∙ sym (open_now (Calling z) refl);
          request = (let r = was.request in omega (arith, r, last));
          waits = λ h. waits_is ∙ quiet ∙ sym ((λ i. number_self x i && is_invoke a) ∙ calm);
          last = λ h. differ h ((λ i. number_self x i && is_invoke a) ∙ calm);
          doomed = was.doomed;
        }

    -- it is an Invoke, which is sent
    module _ (v : Known) (i : ℕ) (is : a ≡ AtInvoke v i) (tied : IsTied k v) (server : IsServedBy T v.binding v.server)
        (named : IsNamedSo T v.binding i) (knows : KnowsRecorded T (binding_number v.binding))
        (may : MayUse T (act (top_of s.path)) (binding_number v.binding)) where
      kept_number : T.kept unit ≡ binding_number v.binding
      kept_number = tied_kept k T rebound.keeping v tied

      abbrev asked : Action
      asked = record (T.action (act u)) { request = s.req + 1; waits = true; since = T.now }

      abbrev V : State
      V = next (SendInvoke (act u) (s.req + 1) (writes o)) T

      open_T : Open T (act u)
      open_T w above = ap (λ (h : Act → Action). (h w).stage) rebound.actions ∙ opens act paths x c f work.steady sees.actions u b d
          work.there work.unended work.works (ap is_committing_now calling) work.lone w above

      apart_T : (w : Act) → (T.action w).waits ≡ true → Alive T w → (on (act u) w ≡ false) × (on w (act u) ≡ false)
      apart_T w waiting alive = (by (on (act u) w) refl, by' (on w (act u)) refl)
        where
          waits_f : (f w).waits ≡ true
          waits_f = ap (λ (h : Act → Action). (h w).waits) (sym rebound.actions) ∙ waiting

          low_f : (f w).stage ≤ 3
          low_f = subst (λ (h : Act → Action). (h w).stage ≤ 3) rebound.actions (alive w (on_self w))

          never_both : root w ≡ unit → ((y : Uid) → w ≡ act y → y ≢ u → (is_on (paths u) y ≡ false) × (is_on (paths y) u ≡ false) → ⊥) → ⊥
          never_both home bad = of_waiter (waiter act paths x c f work.steady sees.actions u b w work.there home waits_f low_f)
            where
              waits_now : (n : Now) → invokes x n ≡ true → is_waiting_now n ≡ true
              waits_now Idle h = absurd (cc h)
              waits_now (Calling y) h = refl
              waits_now (Committing m) h = refl

              of_waiter : IsWaiter act paths x c f work.steady sees.actions w → ⊥
              of_waiter y = ⊎_elim
                  (λ (same_one : y.who ≡ u).
                  let two : ◌≡◌ {A = Option Doing} (Some d) (Some y.work) = sym work.works ∙ ap (λ (t : Uid). doing_of t c) (sym same_one)
                  ∙ y.works in
                  let j : d ≡ y.work = cc two in
                  differ y.invoking (ap (λ (t : Doing). invokes x t.now) (sym j) ∙ (λ l. invokes x (calling l))
                  ∙ (λ l. number_self x l && is_invoke s.at) ∙ quiet))
                  (λ (other : y.who ≢ u).
                  bad y.who y.is other (work.lone y.who y.work y.works (waits_now (let j = y.work in j.now) y.invoking) other))
                  (uid_cases y.who u)

          by : (t : Bool) → on (act u) w ≡ t → t ≡ false
          by false e' = refl
          by true e' = absurd (never_both (sym (same_unit (act u) w e'))
              (λ y is_y other far. differ (sym (work.steady.alike.above u y) ∙ ap (on (act u)) (sym is_y) ∙ e') far.0))

          by' : (t : Bool) → on w (act u) ≡ t → t ≡ false
          by' false e' = refl
          by' true e' = absurd (never_both (same_unit w (act u) e')
              (λ y is_y other far. differ (sym (work.steady.alike.above y u) ∙ ap (λ (t : Act). on t (act u)) (sym is_y) ∙ e') far.1))

      pub sends : Guard (SendInvoke (act u) (s.req + 1) (writes o)) T
      sends = (
        its,
        open_T,
        request_low,
        apart_T,
        subst (KnowsRecorded T) (sym kept_number) knows,
        subst (λ (t : Act). MayUse T t (T.kept unit)) (sym topped) (subst (MayUse T (act (top_of s.path))) (sym kept_number) may),
      )
        where
          request_low : (T.action (act u)).request < s.req + 1
          request_low = let r = was.request in let e' : (T.action (act u)).request ≡ (f (act u)).request = ap
              (λ (h : Act → Action). (h (act u)).request) rebound.actions in omega (arith, r, last, e')

      pub invoke_only : OnlyCalled unit S V
      invoke_only = called_both unit S T V rebound.only
          (called_one T (act u) asked T.now T.calls (machine.Invoke
          (record { act = act u; number = s.req + 1; binding = T.kept unit; write = writes o }) ∷ T.net) (let o0 = open_stage in
          let e' : (T.action (act u)).stage ≡ (f (act u)).stage = ap (λ (h : Act → Action). (h (act u)).stage) rebound.actions in
          omega (arith, o0, e')) (λ y j. j) (λ y j. inl j) (λ m j. inr j))

      pub invoke_seen : HasGrants T → SeesCoord act code x e V
      invoke_seen heard = goes_seen V invoke_only refl (λ n. refl) (λ m j. inr j) rebound.calls
          (λ gr n there about named_is. later (heard gr n there about named_is)) acts
          (subst (SeesStep act code z o kq V) (sym is) (
            tied,
            server,
            named,
            inl (ap (λ (n : ℕ). machine.Invoke (record { act = act u; number = s.req + 1; binding = n; write = writes o }))
                (sym kept_number)),
          ))
        where
          later : {m : Act} {n : ℕ} → HasHeard m n T → HasHeard m n V
          later (inl j) = inl (inr j)
          later (inr j) = inr (inr j)

          asked_f : Action
          asked_f = record (f (act u)) { request = s.req + 1; waits = true; since = T.now }

          acts : SeesActions act x e V.action
          acts = subst (λ (h : Act → Action). SeesActions act x e
              (at_act h (act u) (record (h (act u)) { request = s.req + 1; waits = true; since = T.now }))) (sym rebound.actions)
              (acts_after e S d' q asked_f (goes_becomes g a S) (record {
                stage = open_stage ∙ sym (open_now (Calling z) refl);
                request = omega arith;
                waits = λ h. sym ((λ j. number_self x j && is_invoke (is j)));
                last = λ h. refl;
                doomed = was.doomed;
              }))

  -- ---- the call ends in the machine

  module _ (g : Root → Root) (end : CallEnd) (undoomed : (j : Coord) → doomed_by u end j ≡ j) (k : Option Known) (spoilt : Bool)
      (grants : List Grant) (T : State) (rebound : IsRebound k T) (looks : Looks x (root_heard s end (g (root_at rt c)))
      (record kp { kept = k; spoiled = spoilt }) said_now grants) (none : k ≡ None → kp.kept ≡ None) where
    abbrev de : Doing
    de = record d { now = Idle }

    abbrev qe : Root
    qe = root_heard s end (g (root_at rt c))

    abbrev ee : Coord
    ee = ends_coord g end S undoomed

    abbrev pub Granted : State → Type 0
    Granted V = (gr : Grant) (n : Binding) → Contains grants gr → gr.x ≡ x → gr.named ≡ Some n → HasHeard (act gr.top) (binding_number n) V

    pub ends_seen : (V : State) → OnlyCalled unit S V → T.kept unit ≡ V.kept unit → ((n : ℕ) → V.binding n ≡ T.binding n) →
        ((m : machine.Message) → In m T.net → In m V.net) → V.calls ≡ S.calls → Granted V → SeesActions act x ee V.action →
        SeesCoord act code x ee V
    ends_seen V only kept bindings sent same_calls heard acts =
        let moved = ends_becomes g end V undoomed in
        assemble act code paths x c ee S V work.steady sees u rt b work.there of r0 root_found own_root b de qe moved only acts
        (root_stays T V k spoilt qe grants (let v = ee in v.tree) rebound kept bindings only sent same_calls moved.same looks heard none)
        ties
        (λ y p now_is. absurd (cc now_is))
        (λ y now_is. absurd (cc now_is))
      where
        ties : (((v : Known) → IsTied kp.kept v → IsTied (let j = keeping_of x qe in j.kept) v)
            × ((let j = keeping_of x qe in j.kept) ≡ None → (kp.kept ≡ None) × ((let j = keeping_of x qe in j.avoid) ≡ kp.avoid))) ⊎ IsOnly
        ties = ⊎_elim
            (λ (t : ((v : Known) → IsTied kp.kept v → IsTied k v) × (k ≡ None → kp.kept ≡ None)). inl (
              (λ v tie. subst (λ (j : Keeping). IsTied j.kept v) (sym looks.keeps) (t.0 v tie)),
              (λ is. (t.1 (ap (λ (j : Keeping). j.kept) (sym looks.keeps) ∙ is), ap (λ (j : Keeping). j.avoid) looks.keeps)),
            ))
            (λ (only_one : IsOnly). inr only_one)
            rebound.ties

    -- it didn't wait for an Invoke: the machine waits
    pub over_seen : is_invoke s.at ≡ false → Granted T → SeesCoord act code x ee T
    over_seen quiet heard = ends_seen T rebound.only refl (λ n. refl) (λ m i. i) rebound.calls heard
        (subst (SeesActions act x ee) (sym rebound.actions) (acts_still ee S de qe (ends_becomes g end S undoomed) (record {
          stage = open_stage ∙ sym (open_now Idle refl);
          request = was.request;
          waits = λ h. waits_is ∙ quiet;
          last = λ h. absurd (cc h);
          doomed = was.doomed;
        })))
