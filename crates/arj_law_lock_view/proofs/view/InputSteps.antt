-- A whole coordinator goes in the machine: how its actions end.
use Rattle.arj_law_parts.proofs.Words
use Words.{◌≡◌, ◌≢◌, ◌≤◌, ◌+◌, ◌⊎◌, ◌∙◌, ℕ, List, true, false, cond, length, Option, Some, refl, sym, ap, subst, inl, inr, ⊎_elim, arith}
use Words.{is_some, uid_cases, End, Kind, Uid, first_uid, is_on, last_uid, actor, commit_action, commit_open, Known, Steps, Machine}
use Words.{Calling, Committing, Coord, Doing, Idle, doing_of, root_at, aborts_with, ended, Branch, branch_of, has_open_child, root_of}
use Words.cause
use Words.ending
use Words.kind
use Rattle.arj_law_lock_view.proofs.Terms
use Terms.{Act, Root, is_action, root, Run, stay, State, go_on, by_cases, differ, on_root as same_unit, root_is, GoesOn, Paths, path_some}
use Terms.{over_below, CallersAreHere, KeepsUnits, OnlyActed, IsLone, IsPlaced, IsSteady, SeesActions, Acts, IsReached, Codes, ChangesOne}
use Terms.{KeepsActions, aborted, committed_at, Goes, IsLoading, OnlyEnded, SeesWhole, SeesMachine, SeesCoord}
use Rattle.arj_law_lock.specs.machine.State.{Action}
use Rattle.arj_law_lock_view.proofs.view
use view.{AbortSteps.acted_both, IncludeSteps.includes_stay, OneSteps.OnlyOne, OneSteps.end_changed, PlanSteps.commits_stay_seen}
use view.{RunSteps.goes_to}
use view.ActingSteps.{abortions_are_seen, nested_commits_are_seen, plain_goes, unit_open, units_end}
use view.EverSteps.{ever, on_run, reached_kept}
use view.MoveSteps.{Moves, moves_end}
use view.TreeSteps.{action_kind, first_on, root_there}
use view.WholeSteps.{ended_roots, ends_keep_roots, units_keep_roots}
use Rattle.arj_law_lock_view.specs.view.{Including.IsGranted, Inputs.DoomedCommitsAreTaken, Inputs.NestedCommitsAreTaken}
use Rattle.arj_law_parts.proofs.parts.{GoodCoords.good_ended_c, Settled.ended_on}

-- it goes on behind a run
pub then_run : {S : State} {P Q : State → Type 0} → Goes S P → ((T : State) → Run S T → P T → Goes T Q) → Goes S Q
then_run g more = let h = more g.state g.run g.holds in record { state = h.state; run = go_on g.run h.run; holds = h.holds }

-- what holds where it came gives more
pub to_run : {S : State} {P Q : State → Type 0} → Goes S P → ((T : State) → Run S T → P T → Q T) → Goes S Q
to_run g more = record { state = g.state; run = g.run; holds = more g.state g.run g.holds }

serial_or : (k : Kind) → (k ≡ kind.Serial) ⊎ (k ≢ kind.Serial)
serial_or kind.Serial = inl refl
serial_or kind.Nested = inr (λ e. cc e)
serial_or kind.Top = inr (λ e. cc e)
serial_or kind.Constituent = inr (λ e. cc e)
serial_or kind.Independent = inr (λ e. cc e)

-- ---- what stays

module _ (act : Acts) (code : Codes) (x : ℕ) (c e : Coord) (S T : State) (Ends New : Uid → Type 0) (reached : IsReached S) (run : Run S T)
    (moves : Moves x c e Ends New) (same : T.includes ≡ S.includes) (whole : SeesWhole act code x c S) where
  pub whole_stays : SeesCoord act code x e T → ((u : Uid) (d : Doing) (s : Steps) (k : Known) → New u → doing_of u e ≡ Some d →
      d.now ≡ Calling s → IsLoading x s k → IsGranted act x s k (root_at (root_of s.path) e) T)
      → ((u : Uid) (d : Doing) (k : Machine) → New u → doing_of u e ≡ Some d → d.now ≡ Committing k → SeesMachine x (act u) k T)
      → ((u : Uid) (b : Branch) → Ends u → branch_of u e.tree ≡ Some b → root_of b.path ≡ u → (T.action (Root (root (act u)))).stage ≡ 3)
      → SeesWhole act code x e T
  whole_stays coord loads commits over = record {
    coord = coord;
    includes = includes_stay act x c e S T Ends New moves (let v = ever reached run in v.sent) same whole.includes loads;
    commits = λ u d k works is. ⊎_elim (λ old. commits_stay_seen x (act u) k S T reached run (whole.commits u old.0 k old.1 old.2))
        (λ new. commits u d k new works is) (moves.commits u d k works is);
    units = λ u b there own gone. (let r = moves.was u b there in ⊎_elim (λ old. three (Root (root (act u)))
        (whole.units u r.0 r.1 (ap (λ p. root_of p) r.2 ∙ own) old)) (λ new. over u b new there own) (r.3 gone));
  }
    where
      three : (a : Act) → (S.action a).stage ≡ 3 → (T.action a).stage ≡ 3
      three a is = (on_run (λ s. (s.action a).stage ≡ 3) (λ s t k later on q. (later.ends a q).0) run (reached_kept S reached) is).2

-- ---- a coordinator after an end

module _ (act : Acts) (paths : Paths) (c : Coord) (steady : IsSteady act paths c) (u : Uid) (b : Branch) (d : Doing) (e : End)
    (found : branch_of u c.tree ≡ Some b) (works : doing_of u c ≡ Some d) (childless : has_open_child u c.tree ≡ false) where
  pub steady_ended : IsSteady act paths (ended u e c)
  steady_ended = record {
    actions = steady.actions;
    good = good_ended_c steady.actions paths steady.whole u e c childless steady.good;
    alike = steady.alike;
    whole = steady.whole;
    works = on.works ∙ steady.works ∙ sym on.branches;
    placed = λ w q there. ⊎_elim
        (λ (is : w ≡ u).
        let two : ◌≡◌ {A = Option Branch} (Some (record b { ended = Some e })) (Some q) = sym one.branch
        ∙ ap (λ (v : Uid). branch_of v (let k = ended u e c in k.tree)) (sym is) ∙ there in
        let same : record b { ended = Some e } ≡ q = cc two in
        subst (λ (v : Branch). IsPlaced (act w) v.kind) same
        (subst (λ (v : Uid). IsPlaced (act v) b.kind) (sym is) (steady.placed u b found)))
        (λ (other : w ≢ u). steady.placed w q (sym (one.branches w other) ∙ there))
        (uid_cases w u);
  }
    where
      on : GoesOn c (ended u e c)
      on = ended_on u e c (let g = steady.good in g.busy)

      one : OnlyOne c u (record b { ended = Some e }) (record d { now = Idle }) (ended u e c)
      one = end_changed c u b d found works e

-- who made a call in one of the coordinator's units is one of its actions
pub callers_here : (act : Acts) (code : Codes) (paths : Paths) (x : ℕ) (c : Coord) (S : State) → IsSteady act paths c →
    SeesCoord act code x c S → CallersAreHere act c.tree S
callers_here act code paths x c S steady sees k u b there found home =
    let r = root_there act paths x c S.action steady sees.actions u b found in
    let up : root (act u) ≡ root (act (root_of b.path)) = same_unit (act u) (act (root_of b.path))
    (steady.alike.above u (root_of b.path) ∙ r.2) in
    let own : root_of (let q = r.0 in q.path) ≡ root_of b.path = ap first_uid (steady.good.tree.lists.paths_are (root_of b.path) r.0 r.1)
    ∙ steady.alike.units (root_of b.path) u (sym up) ∙ ap first_uid (sym (steady.good.tree.lists.paths_are u b found)) in
    let s = sees.roots (root_of b.path) r.0 r.1 own in
    let z = s.calls k there (home ∙ up) in
    let y = s.said z.0 z.1 z.2 in
    (last_uid (let v = z.0 in v.path), y.branch, y.there, z.3)

-- ---- an end goes whole

module _ (act : Acts) (code : Codes) (paths : Paths) (x : ℕ) (c : Coord) (u : Uid) (b : Branch) (d : Doing) (e : End) (S T : State)
    (reached : IsReached S) (run : Run S T) (steady : IsSteady act paths c) (found : branch_of u c.tree ≡ Some b)
    (unended : is_some b.ended ≡ false) (works : doing_of u c ≡ Some d) (childless : has_open_child u c.tree ≡ false)
    (whole : SeesWhole act code x c S) (acts : SeesActions act x (ended u e c) T.action) (only : OnlyActed (root (act u)) S T)
    (units : is_action (act u) ≡ true → KeepsUnits S T) (unit_over : is_action (act u) ≡ false →
    (T.action (Root (root (act u)))).stage ≡ 3) where
  abbrev unit : ℕ
  unit = root (act u)

  abbrev E : Coord
  E = ended u e c

  abbrev b' : Branch
  b' = record b { ended = Some e }

  one : OnlyOne c u b' (record d { now = Idle }) E
  one = end_changed c u b d found works e

  coord_T : SeesCoord act code x E T
  coord_T = ends_keep_roots act code paths x unit c u b d e S T
      (record { steady = steady; there = found; unended = unended; works = works }) whole.coord only acts

  its : (w : Uid) (q : Branch) → w ≡ u → branch_of w E.tree ≡ Some q → b' ≡ q
  its w q is there = let two : ◌≡◌ {A = Option Branch} (Some b') (Some q) = sym one.branch ∙ ap (λ (v : Uid). branch_of v E.tree) (sym is)
      ∙ there in cc two

  idle_now : (w : Uid) (k : Doing) → w ≡ u → doing_of w E ≡ Some k → k.now ≡ Idle
  idle_now w k is has_it = let two : ◌≡◌ {A = Option Doing} (Some (record d { now = Idle })) (Some k) = sym one.doing ∙ ap (λ (v : Uid).
      doing_of v E) (sym is) ∙ has_it in let same : record d { now = Idle } ≡ k = cc two in ap (λ (v : Doing). v.now) (sym same)

  all : (V : State) → Run S V → V.includes ≡ S.includes → SeesCoord act code x E V →
      (root_of b.path ≡ u → (V.action (Root unit)).stage ≡ 3) → SeesWhole act code x E V
  all V to includes coord over = whole_stays act code x c E S V (λ w. w ≡ u) (λ w. w ≡ u) reached to
      (moves_end x c (λ w. w ≡ u) (λ w. w ≡ u) u b d e found works refl refl (ended_roots u e c)) includes whole coord
      (λ w k s l new has_it is load. absurd (let bad : Idle ≡ Calling s = sym (idle_now w k new has_it) ∙ is in cc bad))
      (λ w k m new has_it is. absurd (let bad : Idle ≡ Committing m = sym (idle_now w k new has_it) ∙ is in cc bad))
      (λ w q new there own. subst (λ (v : Uid). (V.action (Root (root (act v)))).stage ≡ 3) (sym new)
      (over (ap (λ (v : Branch). root_of v.path) (its w q new there) ∙ own ∙ new)))

  rest_of : (V : State) → OnlyActed unit S V → V.includes ≡ S.includes
  rest_of V o = ap (λ (s : State). s.includes) o.rest

  pub end_goes : Goes T (λ V. SeesWhole act code x E V × OnlyActed unit S V × (V.now ≡ T.now) × KeepsActions T V)
  end_goes = ⊎_elim
      (λ (own : root_of b.path ≡ u). ⊎_elim
      (λ holds. plain own holds)
      (λ isnt.
      record { state = T; run = stay; holds = (all T run (rest_of T only) coord_T (λ is. unit_over isnt), only, refl, λ a h. refl) })
      (by_cases (is_action (act u))))
      (λ (other : root_of b.path ≢ u).
      record { state = T; run = stay; holds = (all T run (rest_of T only) coord_T (λ is. absurd (other is)), only, refl, λ a h. refl) })
      (uid_cases (root_of b.path) u)
    where
      steady_E : IsSteady act paths E
      steady_E = steady_ended act paths c steady u b d e found works childless

      all_over : root_of b.path ≡ u → (w : Uid) (q : Branch) → branch_of w E.tree ≡ Some q → root (act w) ≡ unit → is_some q.ended ≡ true
      all_over own w q there home =
          let l = let g = steady_E.good in g.tree in
          let path = l.lists.paths_are w q there in
          let first_is : first_uid (paths w) ≡ u = steady.alike.units w u home
          ∙ ap first_uid (sym (steady.good.tree.lists.paths_are u b found)) ∙ own in
          over_below paths steady.whole E.tree l.lists l.closed u b' one.branch refl w q there
          (ap (is_on (paths w)) (sym first_is) ∙ first_on (paths w) (subst (λ (us : List Uid). 1 ≤ length us) path (path_some q.path)))

      plain : root_of b.path ≡ u → is_action (act u) ≡ true →
          Goes T (λ V. SeesWhole act code x E V × OnlyActed unit S V × (V.now ≡ T.now) × KeepsActions T V)
      plain own holds =
          let g = plain_goes act paths x E u b' unit T steady_E coord_T.actions one.branch refl (all_over own) (ap (λ (a : Action). a.stage)
          (units holds unit) ∙ unit_open act paths x c S steady (let k = whole.coord in k.actions) u b d found works unended) in
          let h = g.holds in
          let both = acted_both unit S T g.state only h.1 in
          record {
            state = g.state;
            run = g.run;
            holds = (
              all g.state (go_on run g.run) (rest_of g.state both) (units_keep_roots act code x unit E T g.state coord_T h.1 h.0)
                  (λ is. h.3),
              both,
              h.2,
              h.4,
            );
          }

-- ---- the commit of a nested action, and aborts

-- one action changed, and none behind it
pub one_then : (m : Act) (new : Action) (S T V : State) → ChangesOne m new S T → KeepsActions T V → ChangesOne m new S V
one_then m new S T V o keeps = record { one = λ its. keeps m its ∙ o.one its; others = λ a its other. keeps a its ∙ o.others a its other }

pub only_ended : (n : ℕ) (S T : State) → OnlyActed n S T → OnlyEnded n S T
only_ended n S T o = record {
  rest = o.rest ∙ (λ i. record S { action = T.action; now = T.now; net = sym (ap (λ (s : State). s.net) o.rest) i });
  others = o.others;
  ended = o.ended;
}

module _ (act : Acts) (code : Codes) (paths : Paths) (x : ℕ) (c : Coord) (u : Uid) (b : Branch) (d : Doing) (S : State)
    (reached : IsReached S) (steady : IsSteady act paths c) (found : branch_of u c.tree ≡ Some b) (unended : is_some b.ended ≡ false)
    (works : doing_of u c ≡ Some d) (childless : has_open_child u c.tree ≡ false) (whole : SeesWhole act code x c S) where
  abbrev Ended : End → State → Type 0
  Ended e V = SeesWhole act code x (ended u e c) V × OnlyActed (root (act u)) S V

  -- where a serializing action ends no action changed
  pub unit_alone : b.kind ≡ kind.Serial → (new : Action) (V : State) → KeepsActions S V → ChangesOne (act u) new S V
  unit_alone is new V keeps = record {
    one = λ its. absurd (differ its (subst (IsPlaced (act u)) is (steady.placed u b found)));
    others = λ a its other. keeps a its;
  }

  -- the end of a serializing action
  pub serial_goes : (e : End) → b.kind ≡ kind.Serial → Goes S (λ V. Ended e V × (V.now ≡ S.now) × KeepsActions S V)
  serial_goes e is =
      then_run (units_end act paths x c u b e S steady found unended is childless (let k = whole.coord in k.actions)) (λ T run h.
      goes_to (end_goes act code paths x c u b d e S T reached run steady found unended works childless whole h.0 h.1
      (λ holds. absurd (differ holds placed)) (λ isnt. ap (λ (a : Act). (T.action a).stage) (sym (root_is (act u) isnt)) ∙ h.2.1))
      (λ V k. ((k.0, k.1), k.2 ∙ h.2.0, (λ a its. k.3 a its ∙ h.2.2 a its))))
    where
      placed : is_action (act u) ≡ false
      placed = subst (IsPlaced (act u)) is (steady.placed u b found)

  -- an abort
  pub abort_whole : Goes S (λ V. Ended ending.Abort V × (V.now ≡ S.now) × ChangesOne (act u) (aborted (S.action (act u))) S V)
  abort_whole =
      ⊎_elim (λ is. goes_to (serial_goes ending.Abort is) (λ V k. (k.0, k.1, unit_alone is (aborted (S.action (act u))) V k.2))) (λ isnt.
      then_run (abortions_are_seen act paths x c u b d S steady found unended works isnt (let k = whole.coord in k.actions)) (λ T run h.
      goes_to (end_goes act code paths x c u b d ending.Abort S T reached run steady found unended works childless whole h.0 h.1
      (λ holds. h.2.2) (λ un. absurd (differ (action_kind (act u) b.kind isnt (steady.placed u b found)) un)))
      (λ V k. ((k.0, k.1), k.2 ∙ h.2.0, one_then (act u) (aborted (S.action (act u))) S T V h.2.3 k.3)))) (serial_or b.kind)

  -- the commit of a nested action
  pub nested_goes : (p : ℕ) → b.kind ≡ kind.Nested → d.now ≡ Idle → IsLone paths u c → b.doomed ≡ false → S.now ≤ p →
      Goes S (λ V. Ended ending.Commit V × (V.now ≡ p + 1) × ChangesOne (act u) (committed_at p (S.action (act u))) S V)
  nested_goes p is idle lone undoomed now = then_run (nested_commits_are_seen act paths x p c u b d S
      (record { steady = steady; there = found; unended = unended; works = works; idle = idle; lone = lone }) is undoomed childless
      (callers_here act code paths x c S steady whole.coord) now (let k = whole.coord in k.actions)) (λ T run h.
      goes_to (end_goes act code paths x c u b d ending.Commit S T reached run steady found unended works childless whole h.0 h.1
      (λ holds. h.2.2) (λ un. absurd (differ (let k = subst (IsPlaced (act u)) is (steady.placed u b found) in k.0) un)))
      (λ V k. ((k.0, k.1), k.2 ∙ h.2.0, one_then (act u) (committed_at p (S.action (act u))) S T V h.2.3 k.3)))

pub nested_commits_are_taken : NestedCommitsAreTaken
nested_commits_are_taken act code paths x p c u b d intents S reached free kinds undoomed childless now whole = ⊎_elim
    (λ is. goes_to (nested_goes act code paths x c u b d S reached free.steady free.there free.unended free.works childless whole p is
    free.idle free.lone undoomed now)
    (λ V h. (
      subst (λ (e : Coord). SeesWhole act code x e V) (sym (part_is is)) h.0.0,
      (only_ended (root (act u)) S V h.0.1, (let e = h.1 in omega (arith, e)), h.2),
    )))
    (λ is. goes_to
    (serial_goes act code paths x c u b d S reached free.steady free.there free.unended free.works childless whole ending.Commit is)
    (λ V h. (
      subst (λ (e : Coord). SeesWhole act code x e V) (sym (serial_is is)) h.0.0,
      (
        only_ended (root (act u)) S V h.0.1,
        (let e = h.1 in omega (arith, e, now)),
        unit_alone act code paths x c u b d S reached free.steady free.there free.unended free.works childless whole is
            (committed_at p (S.action (act u))) V h.2,
      ),
    )))
    kinds
  where
    its : actor b.path ≡ u
    its = free.steady.good.tree.lists.places u b free.there

    opened : (let e = commit_action b intents c in e.part) ≡ (let e = commit_open b intents c b.kind in e.part)
    opened = λ i. (let e = cond (undoomed i) (aborts_with (actor b.path) cause.Doomed intents c) (commit_open b intents c b.kind) in e.part)

    part_is : b.kind ≡ kind.Nested → (let e = commit_action b intents c in e.part) ≡ ended u ending.Commit c
    part_is is = opened ∙ (λ i. (let k = commit_open b intents c (is i) in k.part)) ∙ ap (λ (v : Uid). ended v ending.Commit c) its

    serial_is : b.kind ≡ kind.Serial → (let e = commit_action b intents c in e.part) ≡ ended u ending.Commit c
    serial_is is = opened ∙ (λ i. (let k = commit_open b intents c (is i) in k.part)) ∙ ap (λ (v : Uid). ended v ending.Commit c) its

pub doomed_commits_are_taken : DoomedCommitsAreTaken
doomed_commits_are_taken act code paths x p c u b d intents S reached free doomed childless now whole =
    goes_to (abort_whole act code paths x c u b d S reached free.steady free.there free.unended free.works childless whole)
    (λ V h. (subst (λ (e : Coord). SeesWhole act code x e V) (sym part_is) h.0.0, (only_ended (root (act u)) S V h.0.1, h.1, h.2)))
  where
    part_is : (let e = commit_action b intents c in e.part) ≡ ended u ending.Abort c
    part_is = (λ i. (let e = cond (doomed i) (aborts_with (actor b.path) cause.Doomed intents c) (commit_open b intents c b.kind) in
        e.part)) ∙ ap (λ (v : Uid). ended v ending.Abort c) (free.steady.good.tree.lists.places u b free.there)
