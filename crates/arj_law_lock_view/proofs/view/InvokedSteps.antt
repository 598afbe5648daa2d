-- A server's answer to a call on the object goes in the machine, and so each answer does.
use Rattle.arj_law_parts.proofs.Words
use Words.{◌≡◌, ◌≤◌, ◌+◌, ◌⊎◌, ◌∙◌, ◌==◌, ◌&&◌, ◌||◌, ◌++◌, ℕ, List, [], ◌∷◌, Bool, true, false, cond, refl, sym, ap, subst, inl, inr}
use Words.{⊎_elim, arith, eqb-true, Contains, list_any, and_parts, uid_is, in_from, in_to, Answer, Binding, BoundReply, InvokedReply}
use Words.{LoadedReply, Mode, Op, RecordedReply, Uid, Value, What, answer_of, last_uid, uid_eq, uids_of, value_after, writes, Reply, actor}
use Words.{doomed_by, heard_call, root_heard, root_moved, At, AtActivate, AtBind, AtInvoke, AtLoad, AtNote, CallEnd, Goal, Known, Moved}
use Words.{Run, Steps, answered, finds, is_invoke, loaded_state, Calling, Coord, Doing, Grant, Idle, Keeping, Root, Said, is_free}
use Words.{keeping_of, root_at, same_said, with_said, binding_number, is_committing_now, Branch, root_of}
use Words.list
use Words.bound
use Words.invoked
use Words.loaded
use Words.mode
use Words.recorded
use Words.calls as protocol
use Rattle.arj_law_lock_view.proofs.Terms
use Terms.{Act, In, at_act, on, root, top, next, stay, step, Call, State, number_self, Paths, Acts, SeesAction, invokes, IsAtWork}
use Terms.{IsReached, OnlyCalled, ShowsAnswer, WritesLine, Codes, KeptEnd, Goes, IsSaid, IsTied, SeesCoord, SeesRoot, SeesStep, invoke_of}
use Terms.machine_run
use Terms.machine
use Terms.event
use Rattle.arj_law_lock.specs.machine.State.{Action}
use Rattle.arj_law_lock_view.proofs.view
use view.{RootSteps.assemble, TreeSteps.opens}
use view.AnswerSteps.{HasAll, Result, activated_goes, grants_after, live_goes, load_goes, looks_moved, make_goes, old_grants, over_here}
use view.AnswerSteps.{quiet_at, recorded_goes, spoilt_by}
use view.CallingSteps.{Becomes, acts_after, ends_becomes, ends_coord, ends_seen, of, open_now, open_stage, own_root, r0}
use view.Looked.{Looks, called_one}
use view.CallingSteps.{root_after, root_found, root_seen, stays_rebound, step_seen, tied_kept, unit_same, waits_is, was}
use view.EndingSteps.{keeps_one, same_end}
use Rattle.arj_law_lock_view.specs.view.Calling.{AnswersAreTaken, IsApplied}

-- ---- a call that is noted

-- what is noted: nothing goes, the new one comes, and one of its action and object is there
pub noted_old : (n z : Said) (q : Root) → Contains (let r = with_said n q in r.said) z → Contains q.said z ⊎ (z ≡ n)
noted_old n z q there = by (list_any (same_said n) q.said) there
  where
    last_two : (zs : List Said) → list.In z (zs ++ n ∷ []) → list.In z zs ⊎ (z ≡ n)
    last_two [] (inl is) = inr (sym is)
    last_two [] (inr i) = absurd i
    last_two (y ∷ ys) (inl is) = inl (inl is)
    last_two (y ∷ ys) (inr i) = elim (last_two ys i) [ inl j ↦ inl (inr j) | inr is ↦ inr is ]

    by : (t : Bool) → Contains (let r = cond t q (record q { said = q.said ++ n ∷ [] }) in r.said) z → Contains q.said z ⊎ (z ≡ n)
    by true h = inl h
    by false h = ⊎_elim (λ i. inl (in_to z q.said i)) (λ is. inr is) (last_two q.said (in_from z (q.said ++ n ∷ []) h))

pub noted_more : (n z : Said) (q : Root) → Contains q.said z → Contains (let r = with_said n q in r.said) z
noted_more n z q there = by (list_any (same_said n) q.said)
  where
    more : (zs : List Said) → list.In z zs → list.In z (zs ++ n ∷ [])
    more (y ∷ ys) (inl is) = inl is
    more (y ∷ ys) (inr i) = inr (more ys i)
    more [] i = absurd i

    by : (t : Bool) → Contains (let r = cond t q (record q { said = q.said ++ n ∷ [] }) in r.said) z
    by true = there
    by false = in_to z (q.said ++ n ∷ []) (more q.said (in_from z q.said there))

noted_one : (n : Said) (q : Root) →
    (z : Said) × Contains (let r = with_said n q in r.said) z × (z.x ≡ n.x) × (last_uid n.path ≡ last_uid z.path)
noted_one n q = by (list_any (same_said n) q.said) refl
  where
    found : (zs : List Said) → list_any (same_said n) zs ≡ true → (z : Said) × list.In z zs × (same_said n z ≡ true)
    found [] h = absurd (cc h)
    found (y ∷ ys) h = here (same_said n y) refl h (found ys)
      where
        here : (t : Bool) → same_said n y ≡ t → (t || list_any (same_said n) ys) ≡ true → (list_any (same_said n) ys ≡ true →
            (z : Said) × list.In z ys × (same_said n z ≡ true)) → (z : Said) × list.In z (y ∷ ys) × (same_said n z ≡ true)
        here true is k rest = (y, inl refl, is)
        here false is k rest = let r = rest k in (r.0, inr r.1, r.2)

    at_end : (zs : List Said) → list.In n (zs ++ n ∷ [])
    at_end [] = inl refl
    at_end (y ∷ ys) = inr (at_end ys)

    by : (t : Bool) → list_any (same_said n) q.said ≡ t → (z : Said)
        × Contains (let r = cond t q (record q { said = q.said ++ n ∷ [] }) in r.said) z × (z.x ≡ n.x) × (last_uid n.path ≡ last_uid z.path)
    by true is = let f = found q.said is in
        let both = and_parts (uid_eq (last_uid n.path) (last_uid (let y = f.0 in y.path))) (n.x == (let y = f.0 in y.x)) f.2 in (
          f.0,
          in_to f.0 q.said f.1,
          sym (eqb-true n.x (let y = f.0 in y.x) both.1),
          uid_is (last_uid n.path) (last_uid (let y = f.0 in y.path)) both.0,
        )
    by false is = (n, in_to n (q.said ++ n ∷ []) (at_end q.said), refl, refl)

-- the rest of the root stays
noted_keeps : (x : ℕ) (n : Said) (q : Root) (k : Keeping) (said : List Said) (grants : List Grant) → Looks x q k said grants →
    (keeping_of x (with_said n q) ≡ k) × ((let r = with_said n q in r.grants) ≡ grants)
noted_keeps x n q k said grants l = by (list_any (same_said n) q.said)
  where
    by : (t : Bool) → (keeping_of x (cond t q (record q { said = q.said ++ n ∷ [] })) ≡ k)
        × ((let r = cond t q (record q { said = q.said ++ n ∷ [] }) in r.grants) ≡ grants)
    by true = (l.keeps, l.grants_are)
    by false = (l.keeps, l.grants_are)

module _ (act : Acts) (code : Codes) (paths : Paths) (p : ℕ) (c : Coord) (b : Branch) (d : Doing) (s : Steps) (o : Op) (S : State)
    (reached : IsReached S) (work : IsAtWork act paths c (actor s.path) b d) (calling : d.now ≡ Calling s) (goal : s.goal ≡ Run o)
    (path : s.path ≡ b.path) (last : s.req ≡ d.req) (sees : SeesCoord act code s.x c S) (now : S.now ≤ p) where
  abbrev u : Uid
  u = actor s.path

  abbrev x : ℕ
  x = s.x

  abbrev rt : Uid
  rt = root_of s.path

  abbrev unit : ℕ
  unit = root (act u)

  abbrev kp : Keeping
  kp = keeping_of x (root_at rt c)

  abbrev To : At → Reply → Moved → Type 0
  To a r mv = Result act code paths p c b d s o S reached work calling goal path last sees now a r mv

  -- the action's call has ended
  abbrev stopped_one : Action
  stopped_one = record (S.action (act u)) { waits = false }

  abbrev stopped_state : State
  stopped_state = record S { action = at_act S.action (act u) stopped_one }

  rests_seen : SeesAction x b (record d { now = Idle }) stopped_one
  rests_seen = let w = was act code paths c b d s o S reached work calling goal path last sees in record {
    stage = open_stage act code paths c b d s o S reached work calling goal path last sees
        ∙ sym (open_now act code paths c b d s o S reached work calling goal path last sees Idle refl);
    request = w.request;
    waits = λ h. refl;
    last = λ h. absurd (cc h);
    doomed = w.doomed;
  }

  keeps_stopped : (S.action (act u)).waits ≡ true → (q : Act) → KeptEnd (S.action q) (at_act S.action (act u) stopped_one q)
  keeps_stopped waits q = keeps_one S (act u) stopped_one (record { stage = refl; place = refl; done = refl }) (inl waits) q

  low : (S.action (act u)).stage ≤ 2
  low = let z = open_stage act code paths c b d s o S reached work calling goal path last sees in omega (arith, z)

  module _ (k : Known) (i : ℕ) (is : s.at ≡ AtInvoke k i) where
    stands : SeesStep act code s o kp S (AtInvoke k i)
    stands = subst (SeesStep act code s o kp S) is (step_seen act code paths c b d s o S reached work calling goal path last sees)

    last_number : s.req ≡ (S.action (act u)).request
    last_number = let w = was act code paths c b d s o S reached work calling goal path last sees in
        last ∙ sym (w.last ((λ j. invokes x (calling j)) ∙ (λ j. number_self x j && is_invoke (is j))))

    -- it waits in the machine
    waiting : (S.action (act u)).waits ≡ true
    waiting = waits_is act code paths c b d s o S reached work calling goal path last sees ∙ ap is_invoke is

    -- the call ends without a line
    stop_goes : (r : Reply) (end : CallEnd) → ((j : Coord) → doomed_by u end j ≡ j) → ((q : Root) → root_heard s end q ≡ q) →
        machine_run.Run S stopped_state → HasAll act code paths p c b d s o S reached work calling goal path last sees now
        (grants_after act code paths p c b d s o S reached work calling goal path last sees now r) S →
        WritesLine act code p s o S stopped_state (AtInvoke k i) r → To (AtInvoke k i) r (finds kp.kept end)
    stop_goes r end undoomed unheard run grants line = record {
      state = stopped_state;
      run = run;
      holds = (
        ends_seen act code paths c b d s o S reached work calling goal path last sees (root_moved s r mv) end undoomed kp.kept
            (spoilt_by act code paths p c b d s o S reached work calling goal path last sees now mv)
            (grants_after act code paths p c b d s o S reached work calling goal path last sees now r) S
            (stays_rebound act code paths c b d s o S reached work calling goal path last sees) (subst (λ (q : Root). Looks x q
            (record kp { kept = kp.kept; spoiled = spoilt_by act code paths p c b d s o S reached work calling goal path last sees now mv })
            (let z = root_at rt c in z.said) (grants_after act code paths p c b d s o S reached work calling goal path last sees now r))
            (sym (unheard (root_moved s r mv (root_at rt c))))
            (looks_moved act code paths p c b d s o S reached work calling goal path last sees now r mv)) (λ e. e)
            stopped_state only refl (λ n. refl) (λ y j. j) refl grants (acts_after act code paths c b d s o S reached work calling goal path
            last sees (ends_coord act code paths c b d s o S reached work calling goal path last sees (root_moved s r mv) end S
            undoomed) S (record d { now = Idle }) (root_heard s end (root_moved s r mv (root_at rt c))) stopped_one (ends_becomes act
            code paths c b d s o S reached work calling goal path last sees (root_moved s r mv) end S undoomed) rests_seen),
        only,
        line,
      );
    }
      where
        mv : Moved
        mv = finds kp.kept end

        only : OnlyCalled unit S stopped_state
        only = called_one S (act u) stopped_one S.now S.calls S.net low (λ y j. j) (λ y j. inl j) (λ y j. j)

    refused_goes : (h : Uid) (m : Mode) → In (machine.Refused (invoke_of act s o k)) S.net →
        To (AtInvoke k i) (Reply.Invoked (invoked.Conflict h m)) (finds kp.kept (protocol.Conflict h m k.server))
    refused_goes h m shown = stop_goes (Reply.Invoked (invoked.Conflict h m)) (protocol.Conflict h m k.server) (λ j. refl) (λ q. refl)
        (step (event.TurnedDown (invoke_of act s o k)) (shown, last_number) stay)
        (old_grants act code paths p c b d s o S reached work calling goal path last sees now) (refl, refl, keeps_stopped waiting)

    changed_goes : (w : What) → In (machine.Changed (binding_number k.binding)) S.net →
        To (AtInvoke k i) (Reply.Invoked (invoked.Changed w)) (finds kp.kept (protocol.Changed k.server w))
    changed_goes w shown = stop_goes (Reply.Invoked (invoked.Changed w)) (protocol.Changed k.server w) (λ j. refl) (λ q. refl)
        (step (event.Lost (act u)) (subst (λ (n : ℕ). In (machine.Changed n) S.net)
        (sym (tied_kept act code paths c b d s o S reached work calling goal path last sees kp.kept S
        (stays_rebound act code paths c b d s o S reached work calling goal path last sees).keeping k stands.0)) shown) stay)
        (old_grants act code paths p c b d s o S reached work calling goal path last sees now) (refl, refl, keeps_stopped waiting)

    -- the call has its line
    module _ (a : Answer) (v : Value) (fits : a ≡ answer_of o v) (applied : IsApplied code (invoke_of act s o k) o v S) where
      abbrev given : machine.Answer
      given = record {
        request = invoke_of act s o k;
        place = (let y = applied.answer in y.place);
        sees = code v applied.by;
        gives = code (value_after o v) (top (act u));
      }

      abbrev noted : Call
      noted = record { act = act u; write = writes o; line = p; sees = code v applied.by; gives = code (value_after o v) (top (act u)) }

      abbrev V : State
      V = next (event.Answered given p) S

      abbrev end : CallEnd
      end = protocol.Answered a

      abbrev r : Reply
      r = Reply.Invoked (invoked.Answered a)

      abbrev mv : Moved
      mv = finds kp.kept end

      abbrev n : Said
      n = record { path = uids_of s.path; x = x }

      abbrev before : Root
      before = root_moved s r mv (root_at rt c)

      abbrev q : Root
      q = with_said n before

      abbrev e : Coord
      e = ends_coord act code paths c b d s o S reached work calling goal path last sees (root_moved s r mv) end S (λ j. refl)

      run_V : machine_run.Run S V
      run_V = step (event.Answered given p) (
        sent,
        last_number,
        waits_is act code paths c b d s o S reached work calling goal path last sees ∙ ap is_invoke is,
        opens act paths x c S.action work.steady sees.actions u b d work.there work.unended work.works (ap is_committing_now calling)
            work.lone,
        now,
      ) stay
        where
          sent : In (machine.Invoked given) S.net
          sent = subst (λ (y : machine.Answer). In (machine.Invoked y) S.net) (λ j. record {
            request = applied.of j;
            place = (let y = applied.answer in y.place);
            sees = applied.sees j;
            gives = applied.gives j;
          }) applied.sent

      only : OnlyCalled unit S V
      only = called_one S (act u) stopped_one (p + 1) (noted ∷ S.calls) S.net low (λ y j. inr j) (λ y j. by y j) (λ y j. j)
        where
          by : (y : Call) → In y (noted ∷ S.calls) → In y S.calls ⊎ (root y.act ≡ unit)
          by y (inl e') = inr (ap (λ (z : Call). root z.act) e')
          by y (inr j) = inl j

      keeps : (keeping_of x q
          ≡ record kp { kept = kp.kept; spoiled = spoilt_by act code paths p c b d s o S reached work calling goal path last sees now mv })
          × ((let z = q in z.grants) ≡ grants_after act code paths p c b d s o S reached work calling goal path last sees now r)
      keeps = noted_keeps x n before
          (record kp { kept = kp.kept; spoiled = spoilt_by act code paths p c b d s o S reached work calling goal path last sees now mv })
          (let z = root_at rt c in z.said) (grants_after act code paths p c b d s o S reached work calling goal path last sees now r)
          (looks_moved act code paths p c b d s o S reached work calling goal path last sees now r mv)

      old_said : (z : Said) → Contains (let y = before in y.said) z → Contains (let y = root_at rt c in y.said) z
      old_said z there = let l = looks_moved act code paths p c b d s o S reached work calling goal path last sees now r mv in
          subst (λ (zs : List Said). Contains zs z) l.said_is there

      moved : Becomes act code paths c b d s o S reached work calling goal path last sees e b (record d { now = Idle }) q V
      moved = ends_becomes act code paths c b d s o S reached work calling goal path last sees (root_moved s r mv) end V (λ j. refl)

      root_then : SeesRoot act x rt q (let y = e in y.tree) V
      root_then = root_after act code paths c b d s o S reached work calling goal path last sees S V kp.kept q
          (grants_after act code paths p c b d s o S reached work calling goal path last sees now r) (let y = e in
          y.tree) (stays_rebound act code paths c b d s o S reached work calling goal path last sees) refl (λ j. refl) only (λ y j. j)
          moved.same (ap (λ (y : Keeping). y.kept) keeps.0) (ap (λ (y : Keeping). y.avoid) keeps.0) keeps.1
          (λ gr w there about named.
          old_grants act code paths p c b d s o S reached work calling goal path last sees now gr w there about named)
          (λ none. absurd (let t = stands.0 in let y = t.is in cc (sym none ∙ y)))
          said
          calls
        where
          said : (z : Said) → Contains (let y = q in y.said) z → z.x ≡ x → IsSaid act rt z (let y = e in y.tree) V
          said z there about = ⊎_elim
              (λ (old : Contains (let y = before in y.said) z). let y = (root_seen act code paths c b d s o S reached work calling goal path
              last sees).said z (old_said z old) about in let g = moved.same.forth (last_uid z.path) y.branch y.there in record {
                branch = g.0;
                there = g.1;
                path = ap uids_of (sym g.2) ∙ y.path;
                of = ap (λ t. root_of t) (sym g.2) ∙ y.of;
                call = y.call;
                called = inr y.called;
                by = y.by;
              })
              (λ (new : z ≡ n). subst (λ (y : Said). IsSaid act rt y (let t = e in t.tree) V) (sym new)
              (let g = moved.same.forth u b work.there in record {
                branch = g.0;
                there = g.1;
                path = ap uids_of (sym g.2 ∙ sym path);
                of = ap (λ t. root_of t) (sym g.2) ∙ of act code paths c b d s o S reached work calling goal path last sees;
                call = noted;
                called = inl refl;
                by = refl;
              }))
              (noted_old n z before there)

          calls : (y : Call) → In y V.calls → root y.act ≡ unit →
              (z : Said) × Contains (let t = q in t.said) z × (z.x ≡ x) × (y.act ≡ act (last_uid z.path))
          calls y (inl new) home = let f = noted_one n before in (f.0, f.1, f.2, ap (λ (z : Call). z.act) new ∙ ap act f.3)
          calls y (inr old) home =
              let f = (root_seen act code paths c b d s o S reached work calling goal path last sees).calls y old
              (home ∙ sym (unit_same act code paths c b d s o S reached work calling goal path last sees)) in
              let l = looks_moved act code paths p c b d s o S reached work calling goal path last sees now r mv in
              (f.0, noted_more n f.0 before (subst (λ (zs : List Said). Contains zs f.0) (sym l.said_is) f.1), f.2, f.3)

      answered_goes : To (AtInvoke k i) r mv
      answered_goes = record {
        state = V;
        run = run_V;
        holds = (
          assemble act code paths x c e S V work.steady sees u rt b work.there (of act code paths c b d s o S reached work calling goal path
              last sees) (r0 act code paths c b d s o S reached work calling goal path last sees)
              (root_found act code paths c b d s o S reached work calling goal path last sees)
              (own_root act code paths c b d s o S reached work calling goal path last sees) b (record d { now = Idle }) q moved only
              (acts_after act code paths c b d s o S reached work calling goal path last sees e V (record d { now = Idle }) q stopped_one
              moved rests_seen) root_then
              (inl (
                (λ y t. subst (λ (z : Keeping). IsTied z.kept y) (sym keeps.0) t),
                (λ none. (ap (λ (z : Keeping). z.kept) (sym keeps.0) ∙ none, ap (λ (z : Keeping). z.avoid) keeps.0)),
              ))
              (λ y z now_is. absurd (cc now_is))
              (λ y now_is. absurd (cc now_is)),
          only,
          (v, applied.by, fits, refl, refl, keeps_stopped waiting),
        );
      }

  -- ---- whichever it is

  abbrev free : Bool
  free = is_free rt u x c

  by_bound : (avoid : Binding) → s.at ≡ AtBind avoid → (r : BoundReply) → ShowsAnswer act code s o S (AtBind avoid) (Reply.Bound r) →
      To (AtBind avoid) (Reply.Bound r) (answered free kp.kept s.goal (AtBind avoid) (Reply.Bound r))
  by_bound avoid is (bound.Live w server i g stores) shows =
      live_goes act code paths p c b d s o S reached work calling goal path last sees now avoid w server i g stores is shows.1
  by_bound avoid is (bound.Make w server g stores) shows =
      make_goes act code paths p c b d s o S reached work calling goal path last sees now avoid w server g stores is shows.1
  by_bound avoid is (bound.Write g stores) shows = absurd shows.0
  by_bound avoid is (bound.Conflict h m) shows = over_here act code paths p c b d s o S reached work calling goal path last sees now
      (AtBind avoid) (Reply.Bound (bound.Conflict h m)) (protocol.Conflict h m 1) (λ j. refl) (λ q. refl)
      (quiet_at act code paths p c b d s o S reached work calling goal path last sees now (AtBind avoid) is refl)
      (old_grants act code paths p c b d s o S reached work calling goal path last sees now) (refl, refl, λ q. same_end (S.action q))

  by_load : (k : Known) (n : ℕ) (rest : List ℕ) → s.at ≡ AtLoad k n rest → (r : LoadedReply) → ShowsAnswer act code s o S (AtLoad k n rest)
      (Reply.Loaded r) → To (AtLoad k n rest) (Reply.Loaded r) (answered free kp.kept s.goal (AtLoad k n rest) (Reply.Loaded r))
  by_load k n rest is (loaded.State st) shows = subst (λ (g : Goal). To (AtLoad k n rest) (Reply.Loaded (loaded.State st)) (loaded_state
      kp.kept k st g)) (sym goal) (load_goes act code paths p c b d s o S reached work calling goal path last sees now k n rest is st shows)
  by_load k n rest is (loaded.InDoubt h) shows = over_here act code paths p c b d s o S reached work calling goal path last sees now
      (AtLoad k n rest) (Reply.Loaded (loaded.InDoubt h)) (protocol.Conflict h mode.Write n) (λ j. refl) (λ q. refl)
      (quiet_at act code paths p c b d s o S reached work calling goal path last sees now (AtLoad k n rest) is refl)
      (old_grants act code paths p c b d s o S reached work calling goal path last sees now) (refl, refl, λ q. same_end (S.action q))

  by_note : (k : Known) (i : ℕ) → s.at ≡ AtNote k i → (r : RecordedReply) → ShowsAnswer act code s o S (AtNote k i) (Reply.Noted r) →
      To (AtNote k i) (Reply.Noted r) (answered free kp.kept s.goal (AtNote k i) (Reply.Noted r))
  by_note k i is recorded.Yes shows = recorded_goes act code paths p c b d s o S reached work calling goal path last sees now k i is shows
  by_note k i is (recorded.Changed w) shows = over_here act code paths p c b d s o S reached work calling goal path last sees now
      (AtNote k i) (Reply.Noted (recorded.Changed w)) (protocol.Changed 1 w) (λ j. refl) (λ q. refl)
      (quiet_at act code paths p c b d s o S reached work calling goal path last sees now (AtNote k i) is refl)
      (old_grants act code paths p c b d s o S reached work calling goal path last sees now) (refl, refl, λ q. same_end (S.action q))

  by_invoke : (k : Known) (i : ℕ) → s.at ≡ AtInvoke k i → (r : InvokedReply) → ShowsAnswer act code s o S (AtInvoke k i) (Reply.Invoked r) →
      To (AtInvoke k i) (Reply.Invoked r) (answered free kp.kept s.goal (AtInvoke k i) (Reply.Invoked r))
  by_invoke k i is (invoked.Answered a) shows = answered_goes k i is a shows.0 shows.1 shows.2
  by_invoke k i is (invoked.Conflict h m) shows = refused_goes k i is h m shows
  by_invoke k i is (invoked.Changed w) shows = changed_goes k i is w shows

  by_at : (a : At) → s.at ≡ a → (r : Reply) → ShowsAnswer act code s o S a r → To a r (answered free kp.kept s.goal a r)
  by_at (AtBind avoid) is (Reply.Bound r) shows = by_bound avoid is r shows
  by_at (AtBind avoid) is (Reply.Loaded r) shows = absurd shows
  by_at (AtBind avoid) is (Reply.Activated r) shows = absurd shows
  by_at (AtBind avoid) is (Reply.Noted r) shows = absurd shows
  by_at (AtBind avoid) is (Reply.Invoked r) shows = absurd shows
  by_at (AtBind avoid) is (Reply.Voted r) shows = absurd shows
  by_at (AtBind avoid) is (Reply.Prepared r) shows = absurd shows
  by_at (AtBind avoid) is (Reply.Confirmed r) shows = absurd shows
  by_at (AtLoad k n rest) is (Reply.Bound r) shows = absurd shows
  by_at (AtLoad k n rest) is (Reply.Loaded r) shows = by_load k n rest is r shows
  by_at (AtLoad k n rest) is (Reply.Activated r) shows = absurd shows
  by_at (AtLoad k n rest) is (Reply.Noted r) shows = absurd shows
  by_at (AtLoad k n rest) is (Reply.Invoked r) shows = absurd shows
  by_at (AtLoad k n rest) is (Reply.Voted r) shows = absurd shows
  by_at (AtLoad k n rest) is (Reply.Prepared r) shows = absurd shows
  by_at (AtLoad k n rest) is (Reply.Confirmed r) shows = absurd shows
  by_at (AtActivate k st) is (Reply.Bound r) shows = absurd shows
  by_at (AtActivate k st) is (Reply.Loaded r) shows = absurd shows
  by_at (AtActivate k st) is (Reply.Activated r) shows =
      activated_goes act code paths p c b d s o S reached work calling goal path last sees now k st is r shows
  by_at (AtActivate k st) is (Reply.Noted r) shows = absurd shows
  by_at (AtActivate k st) is (Reply.Invoked r) shows = absurd shows
  by_at (AtActivate k st) is (Reply.Voted r) shows = absurd shows
  by_at (AtActivate k st) is (Reply.Prepared r) shows = absurd shows
  by_at (AtActivate k st) is (Reply.Confirmed r) shows = absurd shows
  by_at (AtNote k i) is (Reply.Bound r) shows = absurd shows
  by_at (AtNote k i) is (Reply.Loaded r) shows = absurd shows
  by_at (AtNote k i) is (Reply.Activated r) shows = absurd shows
  by_at (AtNote k i) is (Reply.Noted r) shows = by_note k i is r shows
  by_at (AtNote k i) is (Reply.Invoked r) shows = absurd shows
  by_at (AtNote k i) is (Reply.Voted r) shows = absurd shows
  by_at (AtNote k i) is (Reply.Prepared r) shows = absurd shows
  by_at (AtNote k i) is (Reply.Confirmed r) shows = absurd shows
  by_at (AtInvoke k i) is (Reply.Bound r) shows = absurd shows
  by_at (AtInvoke k i) is (Reply.Loaded r) shows = absurd shows
  by_at (AtInvoke k i) is (Reply.Activated r) shows = absurd shows
  by_at (AtInvoke k i) is (Reply.Noted r) shows = absurd shows
  by_at (AtInvoke k i) is (Reply.Invoked r) shows = by_invoke k i is r shows
  by_at (AtInvoke k i) is (Reply.Voted r) shows = absurd shows
  by_at (AtInvoke k i) is (Reply.Prepared r) shows = absurd shows
  by_at (AtInvoke k i) is (Reply.Confirmed r) shows = absurd shows

  pub answer_goes : (r : Reply) → ShowsAnswer act code s o S s.at r → To s.at r (answered free kp.kept s.goal s.at r)
  answer_goes r shows = by_at s.at refl r shows

pub answers_are_taken : AnswersAreTaken
answers_are_taken act code paths x p c u b d s o r S reached work on now shows sees =
    subst (λ (v : Uid). Goes S (λ T. SeesCoord act code x (let e = heard_call s r c in e.part) T × OnlyCalled (root (act v)) S T
    × WritesLine act code p s o S T s.at r)) its
    (subst (λ (y : ℕ). Goes S (λ T. SeesCoord act code y (let e = heard_call s r c in e.part) T × OnlyCalled (root (act (actor s.path))) S T
    × WritesLine act code p s o S T s.at r)) on.about
    (answer_goes act code paths p c b d s o S reached (subst (λ (v : Uid). IsAtWork act paths c v b d) (sym its) work) on.calling on.goal
    on.path on.last (subst (λ (y : ℕ). SeesCoord act code y c S) (sym on.about) sees) now r shows))
  where
    its : actor s.path ≡ u
    its = ap actor on.path ∙ work.steady.good.tree.lists.places u b work.there
