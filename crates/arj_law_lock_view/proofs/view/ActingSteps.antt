-- What a coordinator does to its own actions goes in the machine.
use Rattle.arj_law_parts.proofs.Words
use Words.{◌≡◌, ◌≢◌, ◌≤◌, ◌+◌, ◌⊎◌, ◌∙◌, ◌==◌, ℕ, Bool, true, false, cond, Option, Some, None, refl, sym, ap, subst, inl, inr, ⊎_elim}
use Words.{arith, is_some, eqb-true, Uid, End, first_uid, is_on, uids_of, commits_in, Machine, plan_of, Coord, Doing, Now, Idle, Calling}
use Words.{Committing, doing_of, ended, is_committing_now, Branch, Tree, branch_of, has_end, has_open_child, root_of}
use Words.ending
use Rattle.arj_law_lock_view.proofs.Terms
use Terms.{Act, Root, Sub, at_act, is_action, is_top, on, root, same, next, stay, step, Open, State, Abort, CommitNested, CommitTop, Decide}
use Terms.{EndUnit, Report, act_here, act_other, by_cases, differ, on_base, on_root, on_self, root_is, same_is, top_action, all_over}
use Terms.{work_there, Paths, Acts, AreOne, CallersAreHere, IsBacked, IsFirst, KeepsUnits, OnlyActed, AreAlike, IsHere, IsIdle, IsLone}
use Terms.{IsPlaced, IsSteady, SeesAction, SeesActions, invokes, stage_of, ChangesOne, KeepsActions, aborted, called_at, committed_at, Goes}
use Rattle.arj_law_lock.specs.machine.{State.Action, Steps.IsWhole}
use Rattle.arj_law_lock_view.proofs.view
use view.TreeSteps.{OnlyOne, action_kind, end_changed, merged_below, none_waits, one_changed, open_above, opens, root_there, seen_at}
use view.TreeSteps.{stage_over, top_kind, work_changed}
use Rattle.arj_law_lock_view.specs.view.Acting.{AbortionsAreSeen, DecisionsAreSeen, IsEndSeen, NestedCommitsAreSeen, TopsBegin, UnitsEnd}
use Rattle.arj_law_lock_view.proofs.view.OneSteps as single

-- an action isn't a unit
pub unit_other : (n : ℕ) (a : Act) → is_action a ≡ true → same (Root n) a ≡ false
unit_other n (Root m) its = absurd (cc its)
unit_other n (Sub a m) its = refl

-- and a unit isn't an action
pub no_unit : (n : ℕ) (a : Act) → is_action a ≡ true → same a (Root n) ≡ false
no_unit n (Root m) its = absurd (cc its)
no_unit n (Sub a m) its = refl

-- of two units one isn't the other
other_unit : (m n : ℕ) → m ≢ n → same (Root m) (Root n) ≡ false
other_unit m n other = by (m == n) refl
  where
    by : (b : Bool) → (m == n) ≡ b → b ≡ false
    by true is = absurd (other (eqb-true m n is))
    by false is = refl

pub unended_none : (o : Option End) → is_some o ≡ false → o ≡ None
unended_none None un = refl
unended_none (Some e) un = absurd (cc un)

-- what is found twice is one
ended_twice : (t : Tree) (u w : Uid) (a b : Branch) → w ≡ u → branch_of u t ≡ Some a → branch_of w t ≡ Some b → is_some a.ended ≡ true →
    is_some b.ended ≡ true
ended_twice t u w a b is first second gone =
    let it : ◌≡◌ {A = Option Branch} (Some a) (Some b) = sym first ∙ ap (λ (v : Uid). branch_of v t) (sym is) ∙ second in
    let one : a ≡ b = cc it in
    ap (λ (v : Branch). is_some v.ended) (sym one) ∙ gone

root_back : (a b : Branch) → a.path ≡ b.path → root_of b.path ≡ root_of a.path
root_back a b same_path = ap (λ p. root_of p) (sym same_path)

-- one action of the machine changes, to this
pub changes_one : (S : State) (a : Act) (v : Action) (p : ℕ) → ChangesOne a v S (record S { action = at_act S.action a v; now = p })
changes_one S a v p = record { one = λ its. act_here S.action a v; others = λ q its other. act_other S.action a v q other }

-- one action of the machine changes
pub only_acted : (S : State) (a : Act) (v : Action) (p : ℕ) → (S.action a).stage ≤ 2 →
    OnlyActed (root a) S (record S { action = at_act S.action a v; now = p })
only_acted S a v p low = record {
  rest = refl;
  others =
      λ q away. act_other S.action a v q (⊎_elim (λ one. absurd (away (ap root (same_is q a one)))) (λ none. none) (by_cases (same q a)));
  ended = λ q over. act_other S.action a v q (⊎_elim (λ one. absurd (let e : (S.action q).stage ≡ (S.action a).stage = ap
      (λ (r : Act). (S.action r).stage) (same_is q a one) in omega (arith, over, e, low))) (λ none. none) (by_cases (same q a)));
}

-- ---- an abort

open_low : (o : Option End) (n : Now) → is_some o ≡ false → stage_of o n ≤ 1
open_low (Some e) n un = absurd (cc un)
open_low None Idle un = omega arith
open_low None (Calling k) un = omega arith
open_low None (Committing m) un = omega arith

-- an open action isn't decided
pub low_stage : (x : ℕ) (b : Branch) (d : Doing) (a : Action) → SeesAction x b d a → is_some b.ended ≡ false → a.stage ≤ 1
low_stage x b d a seen unended = let s = seen.stage in let k = open_low b.ended d.now unended in omega (arith, s, k)

-- it needs nothing of the tree but that two actions have two paths
module _ (act : Acts) (x : ℕ) (c : Coord) (S : State) (apart : AreOne act) (sees : SeesActions act x c S.action) (u : Uid) (b : Branch)
    (d : Doing) (found : branch_of u c.tree ≡ Some b) (works : doing_of u c ≡ Some d) (its : is_action (act u) ≡ true) where
  pub abort_goes : is_some b.ended ≡ false → IsEndSeen act x c u ending.Abort S
      (λ T. (T.now ≡ S.now) × ((T.action (act u)).stage ≡ 4) × KeepsUnits S T × ChangesOne (act u) (aborted (S.action (act u))) S T)
  abort_goes unended = record {
    state = next (Abort (act u)) S;
    run = step (Abort (act u)) (its, low) stay;
    holds = (
      single.one_changed c u b (record b { ended = Some ending.Abort }) (record d { now = Idle }) (ended u ending.Abort c) found
          (single.end_changed c u b d found works ending.Abort) refl (λ un. absurd (cc un)) act x S.action (at_act S.action (act u) gone)
          apart sees
          (λ h. subst (SeesAction x (record b { ended = Some ending.Abort }) (record d { now = Idle }))
          (sym (act_here S.action (act u) gone)) (let a = was in
          record { stage = refl; request = a.request; waits = λ k. absurd (cc k); last = λ k. absurd (cc k); doomed = a.doomed }))
          (λ v other h. act_other S.action (act u) gone v other)
          (λ w r s there root_is_there un. act_other S.action (act u) gone (Root (root (act w))) (unit_other (root (act w)) (act u) its))
          (λ n. ap (λ (v : Action). v.waits) (act_other S.action (act u) gone (Root n) (unit_other n (act u) its))),
      only_acted S (act u) gone S.now (omega (arith, low)),
      (
        refl,
        ap (λ (v : Action). v.stage) (act_here S.action (act u) gone),
        (λ n. act_other S.action (act u) gone (Root n) (unit_other n (act u) its)),
        changes_one S (act u) gone S.now,
      ),
    );
  }
    where
      was : SeesAction x b d (S.action (act u))
      was = sees.each u b d found works its

      gone : Action
      gone = record (S.action (act u)) { stage = 4 }

      low : (S.action (act u)).stage ≤ 1
      low = low_stage x b d (S.action (act u)) was unended

-- ---- the end of a unit

-- a root that is no action ends where all else of its unit has ended
module _ (act : Acts) (paths : Paths) (x : ℕ) (c : Coord) (S : State) (alike : AreAlike act paths) (sees : SeesActions act x c S.action)
    (u : Uid) (b : Branch) (d : Doing) (found : branch_of u c.tree ≡ Some b) (works : doing_of u c ≡ Some d)
    (its : is_action (act u) ≡ false) (own_root : root_of b.path ≡ u)
    (paths_are : (w : Uid) (q : Branch) → branch_of w c.tree ≡ Some q → uids_of q.path ≡ paths w) (working : (w : Uid) (q : Branch) →
    branch_of w c.tree ≡ Some q → (k : Doing) × (doing_of w c ≡ Some k)) (over : (w : Uid) (q : Branch) → branch_of w c.tree ≡ Some q →
    root (act w) ≡ root (act u) → w ≢ u → is_some q.ended ≡ true) where
  abbrev unit : ℕ
  unit = root (act u)

  abbrev ended_unit : Action
  ended_unit = record (S.action (Root unit)) { stage = 3 }

  itself : act u ≡ Root unit
  itself = root_is (act u) its

  pub unit_ends : (S.action (Root unit)).stage ≡ 0 → (e : End) →
      IsEndSeen act x c u e S (λ T. (T.now ≡ S.now) × ((T.action (act u)).stage ≡ 3) × KeepsActions S T)
  unit_ends zero_now e = record {
    state = next (EndUnit unit) S;
    run = step (EndUnit unit) (zero_now, tops) stay;
    holds = (
      single.one_changed c u b (record b { ended = Some e }) (record d { now = Idle }) (ended u e c) found changed refl
          (λ un. absurd (cc un)) act x S.action (at_act S.action (Root unit) ended_unit) alike.one sees
          (λ h. absurd (differ h its))
          (λ v other h. act_other S.action (Root unit) ended_unit v (ap (same v) (sym itself) ∙ other))
          (λ w q r there root_is_there un. act_other S.action (Root unit) ended_unit (Root (root (act w)))
          (other_unit (root (act w)) unit (apart w q r there root_is_there un)))
          (λ k. quiet k (same (Root k) (Root unit)) refl),
      only_acted S (Root unit) ended_unit S.now (omega (arith, zero_now)),
      (
        refl,
        ap (λ (v : Action). v.stage) (ap (at_act S.action (Root unit) ended_unit) itself ∙ act_here S.action (Root unit) ended_unit),
        λ a h. act_other S.action (Root unit) ended_unit a (no_unit unit a h),
      ),
    );
  }
    where
      changed : single.OnlyOne c u (record b { ended = Some e }) (record d { now = Idle }) (ended u e c)
      changed = single.end_changed c u b d found works e

      quiet : (k : ℕ) (t : Bool) → same (Root k) (Root unit) ≡ t → (cond t ended_unit (S.action (Root k))).waits ≡ (S.action (Root k)).waits
      quiet k true is = ap (λ (a : Act). (S.action a).waits) (sym (same_is (Root k) (Root unit) is))
      quiet k false is = refl

      -- another root's unit is another one
      apart : (w : Uid) (q r : Branch) → branch_of w (let v = ended u e c in v.tree) ≡ Some q →
          branch_of (root_of q.path) (let v = ended u e c in v.tree) ≡ Some r → is_some r.ended ≡ false → root (act w) ≢ unit
      apart w q r there root_is_there un same_unit =
          let old = single.was c u b (record b { ended = Some e }) (record d { now = Idle }) (ended u e c) found changed refl
          (λ k. absurd (cc k)) w q there in
          let one_root : root_of q.path ≡ u = root_back old.0 q old.2 ∙ ap first_uid (paths_are w old.0 old.1) ∙ alike.units w u same_unit
          ∙ ap first_uid (sym (paths_are u b found)) ∙ own_root in
          let gone = ended_twice (let k = ended u e c in
          k.tree) u (root_of q.path) (record b { ended = Some e }) r one_root changed.branch root_is_there refl in
          differ gone un

      -- all tops of it have ended
      tops : (t : Act) → is_top t ≡ true → root t ≡ unit → ((S.action t).stage ≢ 1) × ((S.action t).stage ≢ 2)
      tops t top home = by (sees.others u b t found home (top_action t top))
        where
          by : IsHere act c.tree t ⊎ IsIdle (S.action t) → ((S.action t).stage ≢ 1) × ((S.action t).stage ≢ 2)
          by (inr idle_one) = let z = idle_one.stage in ((λ k. omega (arith, z, k)), (λ k. omega (arith, z, k)))
          by (inl (w, q, there, is)) =
              let act_w : is_action (act w) ≡ true = ap is_action (sym is) ∙ top_action t top in
              let s = working w q there in
              let gone = over w q there (ap root (sym is) ∙ home) (λ one. differ act_w (ap (λ (v : Uid). is_action (act v)) one ∙ its)) in
              let st = ap (λ (v : Act). (S.action v).stage) is in
              ⊎_elim (λ (three : (S.action (act w)).stage ≡ 3). ((λ k. omega (arith, st, three, k)), (λ k. omega (arith, st, three, k))))
              (λ (four : (S.action (act w)).stage ≡ 4). ((λ k. omega (arith, st, four, k)), (λ k. omega (arith, st, four, k))))
              (single.over_stage x q s.0 (S.action (act w)) (sees.each w q s.0 there s.1 act_w) gone)

module _ (act : Acts) (paths : Paths) (x : ℕ) (c : Coord) (S : State) (steady : IsSteady act paths c) (sees : SeesActions act x c S.action)
    (u : Uid) (b : Branch) (d : Doing) (found : branch_of u c.tree ≡ Some b) (works : doing_of u c ≡ Some d) where
  abbrev f : Act → Action
  f = S.action

  -- its unit is open while it is
  pub unit_open : is_some b.ended ≡ false → (f (Root (root (act u)))).stage ≡ 0
  unit_open unended = let r = root_there act paths x c f steady sees u b found in
      sees.opened u b r.0 found r.1 (open_above act paths x c f steady sees u (root_of b.path) b r.0 found unended r.1 r.2)

  -- ---- an action that isn't serializing

  module _ (its : is_action (act u) ≡ true) where
    its_own : SeesAction x b d (f (act u))
    its_own = sees.each u b d found works its

    -- it is another in the coordinator and in the machine
    set_one : (e : Coord) (q : Branch) (k : Doing) (a : Action) → OnlyOne act paths x c f steady sees u q k e → q.path ≡ b.path →
        (is_some q.ended ≡ false → is_some b.ended ≡ false) → SeesAction x q k a → SeesActions act x e (at_act f (act u) a)
    set_one e q k a only path later its_new = one_changed act paths x c f steady sees u b q k e (at_act f (act u) a) found only path later
        (λ h. subst (SeesAction x q k) (sym (act_here f (act u) a)) its_new)
        (λ v other h. act_other f (act u) a v other)
        (λ w r s there root_is_there un. act_other f (act u) a (Root (root (act w))) (unit_other (root (act w)) (act u) its))
        (λ n. ap (λ (v : Action). v.waits) (act_other f (act u) a (Root n) (unit_other n (act u) its)))

    -- nothing waits in it, so it doesn't in the machine
    waits_not : is_some b.ended ≡ false → invokes x d.now ≡ false → (f (act u)).waits ≡ false
    waits_not unended quiet = its_own.waits (ap (has_end ending.Abort) (unended_none b.ended unended)) ∙ quiet

    pub idle_stage : is_some b.ended ≡ false → d.now ≡ Idle → (f (act u)).stage ≡ 0
    idle_stage unended idle = its_own.stage ∙ (λ i. stage_of (unended_none b.ended unended i) (idle i))

    whole : is_some b.ended ≡ false → has_open_child u c.tree ≡ false → d.now ≡ Idle → CallersAreHere act c.tree S → IsWhole S (act u)
    whole unended childless idle callers = record {
      calls = λ k i below alive a above off. (let h = callers k u b i found (on_root k.act (act u) below) in
          merged_below act paths x c f steady sees u b d found its childless works idle h.0 h.1 a h.2
          (ap (λ (q : Act). on q a) (sym h.3) ∙ above) (ap (λ (q : Act). on q (act u)) (sym h.3) ∙ below) off (alive a above));
      waits = λ a below waiting alive.
          none_waits act paths x c f steady sees u b d found its childless works idle a below waiting (alive a (on_self a));
    }

    opened : is_some b.ended ≡ false → d.now ≡ Idle → IsLone paths u c → Open S (act u)
    opened unended idle lone = opens act paths x c f steady sees u b d found unended works (ap is_committing_now idle) lone

    -- ---- the commit of a nested action

    nested_goes : (p : ℕ) → is_some b.ended ≡ false → d.now ≡ Idle → IsLone paths u c → is_top (act u) ≡ false → b.doomed ≡ false →
        has_open_child u c.tree ≡ false → CallersAreHere act c.tree S → S.now ≤ p → IsEndSeen act x c u ending.Commit S (λ T.
        (T.now ≡ p + 1) × ((T.action (act u)).stage ≡ 3) × KeepsUnits S T × ChangesOne (act u) (committed_at p (S.action (act u))) S T)
    nested_goes p unended idle lone nested undoomed childless callers now = record {
      state = next (CommitNested (act u) p) S;
      run = step (CommitNested (act u) p)
          (its, nested, opened unended idle lone, its_own.doomed undoomed, whole unended childless idle callers, now) stay;
      holds = (
        set_one (ended u ending.Commit c) (record b { ended = Some ending.Commit }) (record d { now = Idle }) done
            (end_changed act paths x c f steady sees u b d found works ending.Commit) refl (λ un. absurd (cc un))
            (record {
              stage = refl;
              request = its_own.request;
              waits = λ h. waits_not unended (ap (invokes x) idle);
              last = λ h. absurd (cc h);
              doomed = its_own.doomed;
            }),
        only_acted S (act u) done (p + 1) (let z = idle_stage unended idle in omega (arith, z)),
        (
          refl,
          ap (λ (v : Action). v.stage) (act_here f (act u) done),
          (λ n. act_other f (act u) done (Root n) (unit_other n (act u) its)),
          changes_one S (act u) done (p + 1),
        ),
      );
    }
      where
        done : Action
        done = record (f (act u)) { stage = 3; done = p }

    -- ---- a top at its commit

    -- nobody else of the unit is at a commit
    first_here : IsFirst act c u → is_some b.ended ≡ false → d.now ≡ Idle → (t : Act) → is_top t ≡ true → root t ≡ root (act u) →
        ((f t).stage ≢ 1) × ((f t).stage ≢ 2)
    first_here first unended idle t top home = by (sees.others u b t found home (top_action t top))
      where
        no_two : (o : Option End) (n : Now) → stage_of o n ≢ 2
        no_two (Some ending.Commit) n e = omega (arith, e)
        no_two (Some ending.Abort) n e = omega (arith, e)
        no_two None Idle e = omega (arith, e)
        no_two None (Calling k) e = omega (arith, e)
        no_two None (Committing m) e = omega (arith, e)

        one_commits : (o : Option End) (n : Now) → stage_of o n ≡ 1 → is_committing_now n ≡ true
        one_commits (Some ending.Commit) n e = absurd (omega (arith, e))
        one_commits (Some ending.Abort) n e = absurd (omega (arith, e))
        one_commits None Idle e = absurd (omega (arith, e))
        one_commits None (Calling k) e = absurd (omega (arith, e))
        one_commits None (Committing m) e = refl

        by : IsHere act c.tree t ⊎ IsIdle (f t) → ((f t).stage ≢ 1) × ((f t).stage ≢ 2)
        by (inr idle_one) = let z = idle_one.stage in ((λ e. omega (arith, z, e)), (λ e. omega (arith, z, e)))
        by (inl (w, e, there, is)) =
            let s = seen_at act paths x c f steady sees w e there (ap is_action (sym is) ∙ top_action t top) in
            let st = ap (λ (v : Act). (f v).stage) is ∙ s.2.stage in (
              (λ one. first w s.0 s.1 (one_commits e.ended (let k = s.0 in k.now) (sym st ∙ one)) (ap root (sym is) ∙ home)),
              (λ two. no_two e.ended (let k = s.0 in k.now) (sym st ∙ two)),
            )

    begin_goes : (p : ℕ) (m : Machine) → is_top (act u) ≡ true → is_some b.ended ≡ false → d.now ≡ Idle → IsLone paths u c →
        b.doomed ≡ false → has_open_child u c.tree ≡ false → CallersAreHere act c.tree S → IsFirst act c u →
        d.req ≤ (let q = plan_of m in q.req) → S.now ≤ p
        → Goes S (λ T. SeesActions act x (commits_in u m c) T.action × OnlyActed (root (act u)) S T × (T.now ≡ p + 1)
        × ((T.action (act u)).stage ≡ 1) × (T.action (act u) ≡ called_at p (S.action (act u)))
        × ((a : Act) → same a (act u) ≡ false → T.action a ≡ S.action a))
    begin_goes p m top unended idle lone undoomed childless callers first more now = record {
      state = next (CommitTop (act u) p) S;
      run = step (CommitTop (act u) p)
          (top, opened unended idle lone, its_own.doomed undoomed, whole unended childless idle callers, first_here first unended idle, now)
          stay;
      holds = (
        set_one (commits_in u m c) b (record d { req = (let q = plan_of m in q.req); now = Committing m }) called (work_changed act paths x
            c f steady sees u b d found works (λ (k : Doing). record k { req = (let q = plan_of m in q.req); now = Committing m })) refl
            (λ un. un)
            (record {
              stage = λ i. stage_of (sym (unended_none b.ended unended) i) (Committing m);
              request = (let r = its_own.request in omega (arith, r, more));
              waits = λ h. waits_not unended (ap (invokes x) idle);
              last = λ h. absurd (cc h);
              doomed = its_own.doomed;
            }),
        only_acted S (act u) called (p + 1) (let z = idle_stage unended idle in omega (arith, z)),
        refl,
        ap (λ (v : Action). v.stage) (act_here f (act u) called),
        act_here f (act u) called,
        λ a other. act_other f (act u) called a other,
      );
    }
      where
        called : Action
        called = record (f (act u)) { stage = 1; place = p }

    -- ---- its decision

    decide_goes : (p : ℕ) (m : Machine) → is_top (act u) ≡ true → is_some b.ended ≡ false → d.now ≡ Committing m → IsBacked (act u) S →
        S.now ≤ p → IsEndSeen act x c u ending.Commit S (λ T. (T.now ≡ p + 1) × ((T.action (act u)).stage ≡ 3) × KeepsUnits S T
        × ChangesOne (act u) (committed_at p (S.action (act u))) S T)
    decide_goes p m top unended at_commit backed now = record {
      state = T;
      run = step (Decide (act u)) (top, one_now, backed.calls, backed.includes)
          (step (Report (act u) p) (top, ap (λ (v : Action). v.stage) (act_here f (act u) mid), now) stay);
      holds = (
        one_changed act paths x c f steady sees u b (record b { ended = Some ending.Commit }) (record d { now = Idle })
            (ended u ending.Commit c) T.action found (end_changed act paths x c f steady sees u b d found works ending.Commit) refl
            (λ un. absurd (cc un))
            (λ h. subst (SeesAction x (record b { ended = Some ending.Commit }) (record d { now = Idle })) (sym its_after) (record {
              stage = refl;
              request = its_own.request;
              waits = λ k. waits_not unended (ap (invokes x) at_commit);
              last = λ k. absurd (cc k);
              doomed = its_own.doomed;
            }))
            (λ v other h. away v other)
            (λ w r s there root_is_there un. away (Root (root (act w))) (unit_other (root (act w)) (act u) its))
            (λ n. ap (λ (v : Action). v.waits) (away (Root n) (unit_other n (act u) its))),
        record {
          rest = refl;
          others =
              λ q far. away q (⊎_elim (λ one. absurd (far (ap root (same_is q (act u) one)))) (λ none. none) (by_cases (same q (act u))));
          ended = λ q gone. away q (⊎_elim (λ one. absurd (let e : (f q).stage ≡ (f (act u)).stage = ap (λ (r : Act). (f r).stage)
              (same_is q (act u) one) in let k = one_now in omega (arith, gone, e, k))) (λ none. none) (by_cases (same q (act u))));
        },
        (
          refl,
          ap (λ (v : Action). v.stage) its_after,
          (λ n. away (Root n) (unit_other n (act u) its)),
          record { one = λ h. its_after; others = λ a h other. away a other },
        ),
      );
    }
      where
        mid : Action
        mid = record (f (act u)) { stage = 2 }

        done : Action
        done = record (f (act u)) { stage = 3; done = p }

        T : State
        T = next (Report (act u) p) (next (Decide (act u)) S)

        one_now : (f (act u)).stage ≡ 1
        one_now = its_own.stage ∙ (λ i. stage_of (unended_none b.ended unended i) (at_commit i))

        its_after : T.action (act u) ≡ done
        its_after = act_here (at_act f (act u) mid) (act u) (record (at_act f (act u) mid (act u)) { stage = 3; done = p })
            ∙ ap (λ (v : Action). record v { stage = 3; done = p }) (act_here f (act u) mid)

        away : (v : Act) → same v (act u) ≡ false → T.action v ≡ f v
        away v other = act_other (at_act f (act u) mid) (act u) (record (at_act f (act u) mid (act u)) { stage = 3; done = p }) v other
            ∙ act_other f (act u) mid v other

  -- ---- the unit of a serializing action

  module _ (its : is_action (act u) ≡ false) where
    abbrev n : ℕ
    n = root (act u)

    unit_is : act u ≡ Root n
    unit_is = root_is (act u) its

    -- it is its own root
    pub own_root : root_of b.path ≡ u
    own_root =
        let r = root_there act paths x c f steady sees u b found in
        let up : on (Root n) (act (root_of b.path)) ≡ true = ap (λ (a : Act). on a (act (root_of b.path))) (sym unit_is)
        ∙ steady.alike.above u (root_of b.path) ∙ r.2 in
        steady.alike.one (root_of b.path) u (sym (same_is (Root n) (act (root_of b.path)) up) ∙ sym unit_is)

    unit_goes : (e : End) → is_some b.ended ≡ false → has_open_child u c.tree ≡ false →
        IsEndSeen act x c u e S (λ T. (T.now ≡ S.now) × ((T.action (act u)).stage ≡ 3) × KeepsActions S T)
    unit_goes e unended childless = unit_ends act paths x c S steady.alike sees u b d found works its own_root
        steady.good.tree.lists.paths_are (work_there c steady.works) over (unit_open unended) e
      where
        over : (w : Uid) (q : Branch) → branch_of w c.tree ≡ Some q → root (act w) ≡ root (act u) → w ≢ u → is_some q.ended ≡ true
        over w q there home other =
            let down : on (act w) (act u) ≡ true = (λ i. on (act w) ((unit_is ∙ ap Root (sym home)) i)) ∙ on_base (act w) in
            all_over paths steady.whole c.tree steady.good.tree.lists u steady.good.tree.closed childless w q there
            (ap (λ us. is_on us u) (steady.good.tree.lists.paths_are w q there) ∙ sym (steady.alike.above w u) ∙ down) other

pub nested_commits_are_seen : NestedCommitsAreSeen
nested_commits_are_seen act paths x p c u b d S free is undoomed childless callers now sees =
    let placed = subst (IsPlaced (act u)) is (free.steady.placed u b free.there) in
    nested_goes act paths x c S free.steady sees u b d free.there free.works placed.0 p free.unended free.idle free.lone placed.1 undoomed
    childless callers now

pub abortions_are_seen : AbortionsAreSeen
abortions_are_seen act paths x c u b d S steady found unended works plain sees =
    abort_goes act x c S steady.alike.one sees u b d found works (action_kind (act u) b.kind plain (steady.placed u b found)) unended

pub units_end : UnitsEnd
units_end act paths x c u b e S steady found unended is childless sees =
    let d = work_there c steady.works u b found in
    unit_goes act paths x c S steady sees u b d.0 found d.1 (subst (IsPlaced (act u)) is (steady.placed u b found)) e unended childless

pub tops_begin : TopsBegin
tops_begin act paths x p c u b d m S free unserial unnested undoomed childless callers first more now sees =
    let placed = free.steady.placed u b free.there in
    begin_goes act paths x c S free.steady sees u b d free.there free.works (action_kind (act u) b.kind unserial placed) p m
    (top_kind (act u) b.kind unserial unnested placed) free.unended free.idle free.lone undoomed childless callers first more now

pub decisions_are_seen : DecisionsAreSeen
decisions_are_seen act paths x p c u b d m S steady found unended works at_commit unserial unnested backed now sees =
    let placed = steady.placed u b found in
    decide_goes act paths x c S steady sees u b d found works (action_kind (act u) b.kind unserial placed) p m
    (top_kind (act u) b.kind unserial unnested placed) unended at_commit backed now

-- ---- the unit of a plain top

module _ (act : Acts) (paths : Paths) (x : ℕ) (c : Coord) (u : Uid) (b : Branch) (unit : ℕ) (S : State) (steady : IsSteady act paths c)
    (sees : SeesActions act x c S.action) (found : branch_of u c.tree ≡ Some b) (home : root (act u) ≡ unit)
    (all_ended : (w : Uid) (e : Branch) → branch_of w c.tree ≡ Some e → root (act w) ≡ unit → is_some e.ended ≡ true) where
  abbrev over_unit : Action
  over_unit = record (S.action (Root unit)) { stage = 3 }

  pub plain_goes : (S.action (Root unit)).stage ≡ 0 → Goes S
      (λ T. SeesActions act x c T.action × OnlyActed unit S T × (T.now ≡ S.now) × ((T.action (Root unit)).stage ≡ 3) × KeepsActions S T)
  plain_goes zero_now = record {
    state = next (EndUnit unit) S;
    run = step (EndUnit unit) (zero_now, tops) stay;
    holds = (
      record {
        each = λ w e d there works h. subst (SeesAction x e d)
            (sym (act_other S.action (Root unit) over_unit (act w) (no_unit unit (act w) h))) (sees.each w e d there works h);
        opened = λ w e r there root_is_there un. ap (λ (v : Action). v.stage) (act_other S.action (Root unit) over_unit (Root
            (root (act w))) (other_unit (root (act w)) unit (λ same_unit. cc (sym (root_ended w e r there root_is_there same_unit) ∙ un))))
            ∙ sees.opened w e r there root_is_there un;
        quiet = λ w e there. quiet (root (act w)) (same (Root (root (act w))) (Root unit)) refl ∙ sees.quiet w e there;
        others = λ w e a there own h. ⊎_elim (λ here. inl here) (λ idle.
            inr (subst IsIdle (sym (act_other S.action (Root unit) over_unit a (no_unit unit a h))) idle)) (sees.others w e a there own h);
      },
      only_acted S (Root unit) over_unit S.now (omega (arith, zero_now)),
      refl,
      ap (λ (v : Action). v.stage) (act_here S.action (Root unit) over_unit),
      λ a h. act_other S.action (Root unit) over_unit a (no_unit unit a h),
    );
  }
    where
      quiet : (k : ℕ) (t : Bool) → same (Root k) (Root unit) ≡ t → (cond t over_unit (S.action (Root k))).waits ≡ (S.action (Root k)).waits
      quiet k true is = ap (λ (a : Act). (S.action a).waits) (sym (same_is (Root k) (Root unit) is))
      quiet k false is = refl

      root_ended : (w : Uid) (e r : Branch) → branch_of w c.tree ≡ Some e → branch_of (root_of e.path) c.tree ≡ Some r →
          root (act w) ≡ unit → is_some r.ended ≡ true
      root_ended w e r there root_is_there own =
          let up = root_there act paths x c S.action steady sees w e there in
          all_ended (root_of e.path) r root_is_there
          (sym (on_root (act w) (act (root_of e.path)) (steady.alike.above w (root_of e.path) ∙ up.2)) ∙ own)

      tops : (t : Act) → is_top t ≡ true → root t ≡ unit → ((S.action t).stage ≢ 1) × ((S.action t).stage ≢ 2)
      tops t top own = by (sees.others u b t found (own ∙ sym home) (top_action t top))
        where
          by : IsHere act c.tree t ⊎ IsIdle (S.action t) → ((S.action t).stage ≢ 1) × ((S.action t).stage ≢ 2)
          by (inr idle_one) = let z = idle_one.stage in ((λ k. omega (arith, z, k)), (λ k. omega (arith, z, k)))
          by (inl (w, q, there, is)) =
              let s = seen_at act paths x c S.action steady sees w q there (ap is_action (sym is) ∙ top_action t top) in
              let st = ap (λ (v : Act). (S.action v).stage) is in
              ⊎_elim (λ (three : (S.action (act w)).stage ≡ 3). ((λ k. omega (arith, st, three, k)), (λ k. omega (arith, st, three, k))))
              (λ (four : (S.action (act w)).stage ≡ 4). ((λ k. omega (arith, st, four, k)), (λ k. omega (arith, st, four, k))))
              (stage_over act paths x c S.action steady sees q s.0 (S.action (act w)) s.2 (all_ended w q there (ap root (sym is) ∙ own)))
