-- What coordinators have of naming's answers, where an answer comes to a call or an include: what is seen afterwards, by its step.
use Rattle.arj_law_parts.proofs.Words
use Words.{◌≡◌, ◌+◌, ℕ, ◌==◌, if◌then◌else◌, Bool, true, false, List, [], ◌∷◌, Option, Some, None, refl, sym, ◌∙◌, ap, subst, inl, inr}
use Words.{⊎_elim, arith, Contains, option_map, unwrap_or, In, in_from, in_to, Answer, BoundReply, InvokedReply, LoadedReply, ObjectState}
use Words.{RecordedReply, Uid, What, last_uid, uids_of, Reply, actor, ask_kind, reply_kind, top_of, granted_by, notes_grant}
use Words.{root_heard, root_moved, store_of, Answered, At, AtActivate, AtInvoke, AtLoad, AtNote, CallStep, Changed, Conflict, Ended, Goal}
use Words.{Include, Included, Known, Moved, On, Run, Steps, activated_by, answered, bound_answer, bound_by, finds, invoked_answer}
use Words.{is_include, live_known, load_from, loaded_answer, loaded_state, made_by, made_known, moves, next_ask, or_lost, recorded_answer}
use Words.{recorded_kept, write_known, Calling, Coord, Doing, Joined, Keeping, Root, doing_of, granted_with, is_call, is_free, kept_of}
use Words.{no_keeping, root_at, Disk, Parts, at_number, binding_eq, uid_number, Branch, branch_of, root_of, Seen, is_binding}
use Words.bound
use Words.invoked
use Words.loaded
use Words.mode
use Words.recorded
use Rattle.arj_law_disk_view.proofs.Terms
use Terms.{KnowsFew, IsGood, World, Names, Office, has, bool_cases, never, put2_same, some_is, test_cases, test_same, up, KnowsNode, packed}
use Terms.{IsFixed, Kinds, OnlyAnswers, SeesBoth, SeesRootOf, ClaimsBound, SeesGrants, StandsOn, StaysRetained, grant_at, AfterInclude}
use Terms.{AfterAnswer, HasCallList, HasList, HasRetained, IsLasting, IsNamedNow, KeepsCalls, SeesLists, HasLoad, KeepsState, AsksListed}
use Terms.{IsOfGoal, IsToStep, SeesHeard, SeesHeardAt, SeesStep, is_bound}
use Terms.disk
use Terms.words as answer
use Rattle.arj_law_disk_view.proofs.names.{GrantSteps.grants_stay, Heard.calls_are_taken, Heard.includes_are_taken, Heard.none_heard}
use Rattle.arj_law_disk_view.proofs.names.{ListEnds.answered_calls_have_lists, LoadSteps.loads_are_heard}
use Rattle.arj_law_disk_view.proofs.running
use running.{HeardCalls.fresh, HeardCoord.mine, HeardLasting.lasting, HeardPlaces.StandsIn, HeardQuiet.fixed_in, HeardServe.actor_of_step}
use running.{HeardServe.number_of_step}
use running.HeardMoved.{EndsRoot, dooms_none, ends_root, gone_root, moved_kept, next_of, noted_joined, noted_said, noted_states}
use running.HeardMoved.{other_alike, other_loads, said_same, same_alike, same_loads}
use running.HeardReplies.{BoundStep, answered_plain, at_in, bound_plain, bound_step, gone_same, is_load, matched, named_new, notes_nothing}
use running.HeardReplies.{recorded_alike, took_step}
use running.HeardRoots.{IsAlike, KeptAlike, calls_alike, retained_on, root_alike}
use running.HeardStarts.{asking, free_alone, free_spent, is_call_goal, step_idle, step_stands}
use running.HeardTaken.{IsTakenFor, NextSees, OtherCalls, taken_at, taken_none}
use Rattle.arj_law_disk_view.proofs.view.Frames.{node_here}
use Rattle.arj_law_disk_view.specs.{names.Grants.StepStandsOn, running.Heard.IsNamedOf, running.Heard.only_loads}
use Rattle.arj_law_disk.specs.machine.Names as machine

-- what a Load asks
abbrev load_at : At → Option (Known × ℕ × List ℕ)
load_at (AtLoad q n rest) = Some (q, n, rest)
load_at _ = None

-- ---- an answer is taken

module _ (x : ℕ) (tops : Kinds) (k : ℕ) (d : Disk) (t : Parts) (M : Seen) (A : Office) (good : IsGood (up k d t M)) (few : KnowsFew
    (up k d t M)) (knows : KnowsNode tops k d t M) (both : SeesBoth x tops A (up k d t M)) (p : SeesHeard x tops A (up k d t M))
    (u : Uid) (w : Doing) (s : Steps) (does : doing_of u t.coord ≡ Some w) (now : w.now ≡ Calling s) where
  abbrev c : Coord
  c = t.coord

  abbrev root : Uid
  root = root_of s.path

  abbrev top : Uid
  top = top_of s.path

  abbrev o : Root
  o = root_at (root_of s.path) t.coord

  abbrev free : Bool
  free = is_free (root_of s.path) (actor s.path) s.x t.coord

  abbrev kept : Option Known
  kept = kept_of s.x (root_at (root_of s.path) t.coord)

  place : StandsIn tops t.coord s.path
  place = step_stands tops k d t M good few knows u w s does now

  its : SeesHeardAt x k tops M.sent t.coord A
  its = mine x tops k d t M A both p

  fixed : IsFixed tops A.world.disk
  fixed = fixed_in x tops A (up k d t M) both

  old_root : SeesRootOf x tops (root_of s.path) t.coord (root_at (root_of s.path) t.coord) A
  old_root = its.roots (root_of s.path) place.root

  -- What is seen after the answer, in an office to which the machine goes: the root, lists of other calls, and the next step.
  pub record IsHeardBy (r : Reply) (m : Moved) : Type 0 where
    pub office : Office
    pub taken : IsTakenFor tops (root_of s.path) (top_of s.path) A office
    pub sees : SeesBoth x tops office (up k d t M)
    pub root : SeesRootOf x tops (root_of s.path) t.coord (gone_root s m.step (root_moved s r m (root_at (root_of s.path) t.coord))) office
    pub keeps : OtherCalls x s t.coord → KeepsCalls tops (root_of s.path) (kept_of x (root_at (root_of s.path) t.coord))
        (kept_of x (gone_root s m.step (root_moved s r m (root_at (root_of s.path) t.coord)))) A.names office.names
    pub next :
        NextSees x k M.sent (next_of s m.step) (gone_root s m.step (root_moved s r m (root_at (root_of s.path) t.coord))) office.names
    pub plain : dooms_none m.step ≡ true

  who_asks : actor s.path ≡ u
  who_asks = actor_of_step (up k d t M) good few k (record { number = k; disk = d; live = Some t }) t
      (node_here M k (record { number = k; disk = d; live = Some t })) refl u w s does now

  -- nothing was sent to a next step
  none_yet : (at : At) (r : Reply) → IsToStep k M.sent (record s { req = s.req + 1; at = at }) r → ⊥
  none_yet at r to = fresh x tops k d t M A good few p (actor s.path) w (record s { req = s.req + 1; at = at })
      (ap (λ v. doing_of v t.coord) who_asks ∙ does) refl (let n : s.req ≡ w.req = number in omega arith) r to
    where
      number : s.req ≡ w.req
      number = number_of_step (up k d t M) good few k (record { number = k; disk = d; live = Some t }) t
          (node_here M k (record { number = k; disk = d; live = Some t })) refl u w s does now

  -- a next step stands on what it has to
  next_stands : (N : Names) (at : At) → StandsOn (uid_number (top_of s.path)) N at → ((q : Known) (n : ℕ) (rest : List ℕ) →
      at ≡ AtLoad q n rest → is_include s.goal ≡ true → AsksListed (uid_number (top_of s.path)) q (n ∷ rest) N) →
      (is_include s.goal ≡ true → only_loads at ≡ true) → SeesStep x k M.sent (record s { req = s.req + 1; at = at }) N
  next_stands N at stands listed goal = record {
    stands = stands;
    listed = listed;
    goal = goal;
    bound = λ r to. absurd (none_yet at (Reply.Bound r) to);
    named = λ r to. absurd (none_yet at (Reply.Bound r) to);
    loaded = λ q n rest st is include to. absurd (none_yet at (Reply.Loaded (loaded.State st)) to);
  }

  -- ---- about another object

  heard_other : (r : Reply) (m : Moved) → dooms_none m.step ≡ true → (s.x ≡ x → ⊥) → IsHeardBy r m
  heard_other r m plain other =
      let alike = other_alike x tops s r m (root_at (root_of s.path) t.coord) other place.top in
      record {
        office = A;
        taken = taken_none tops (root_of s.path) (top_of s.path) A (none_heard A);
        sees = both;
        root = root_alike x tops (root_of s.path) t.coord (root_at (root_of s.path) t.coord)
            (gone_root s m.step (root_moved s r m (root_at (root_of s.path) t.coord))) alike A
            (other_loads x tops s r m (root_at (root_of s.path) t.coord) other A.names old_root.loads) old_root;
        keeps = λ calls. calls_alike tops (root_of s.path) (kept_of x (root_at (root_of s.path) t.coord))
            (kept_of x (gone_root s m.step (root_moved s r m (root_at (root_of s.path) t.coord)))) A.names alike.kept;
        next = by m.step;
        plain = plain;
      }
    where
      by : (step : CallStep) →
          NextSees x k M.sent (next_of s step) (gone_root s step (root_moved s r m (root_at (root_of s.path) t.coord))) A.names
      by (On at) = λ of. absurd (other of)
      by (Ended e) = tt

  -- ---- about the object, without a grant

  abbrev StepFits : CallStep → Type 0
  StepFits (On at) =
      (is_load at ≡ false) × (is_include s.goal ≡ true → only_loads at ≡ true) × (is_include s.goal ≡ false → is_bound s.at ≡ true)
  StepFits (Ended e) = Unit {0}

  -- a step of which the root takes no note
  record IsPlain (step : CallStep) : Type 0 where
    dooms : dooms_none step ≡ true
    nothing : notes_nothing step ≡ true
    stands : StepStandsOn (uid_number (top_of s.path)) A.names step
    fits : StepFits step

  changed_plain : (n : ℕ) (z : What) → IsPlain (Ended (Changed n z))
  changed_plain n z = record { dooms = refl; nothing = refl; stands = tt; fits = tt }

  module _ (of : s.x ≡ x) where
    old_step : SeesStep x k M.sent s A.names
    old_step = its.steps u w s does now of

    abbrev Moved_to : Reply → Moved → Root
    Moved_to r m = root_moved s r m (root_at (root_of s.path) t.coord)

    module _ (r : Reply) (m : Moved) (none : granted_by (top_of s.path) s.x r ≡ None) (alike_kept : is_include s.goal ≡ false →
        KeptAlike (kept_of s.x (root_at (root_of s.path) t.coord)) m.kept) where
      alike : IsAlike x tops (root_of s.path) (root_at (root_of s.path) t.coord) (root_moved s r m (root_at (root_of s.path) t.coord))
      alike = same_alike x tops s r m (root_at (root_of s.path) t.coord) of none alike_kept

      root_then : SeesRootOf x tops (root_of s.path) t.coord (root_moved s r m (root_at (root_of s.path) t.coord)) A
      root_then = root_alike x tops (root_of s.path) t.coord (root_at (root_of s.path) t.coord) (root_moved s r m (root_at (root_of s.path)
          t.coord)) alike A (same_loads x tops s r m (root_at (root_of s.path) t.coord) A.names old_root.loads) old_root

      keeps_then : KeepsCalls tops (root_of s.path) (kept_of x (root_at (root_of s.path) t.coord))
          (kept_of x (root_moved s r m (root_at (root_of s.path) t.coord))) A.names A.names
      keeps_then = calls_alike tops (root_of s.path) (kept_of x (root_at (root_of s.path) t.coord))
          (kept_of x (root_moved s r m (root_at (root_of s.path) t.coord))) A.names alike.kept

      heard_plain : IsPlain m.step → IsHeardBy r m
      heard_plain plain = record {
        office = A;
        taken = taken_none tops (root_of s.path) (top_of s.path) A (none_heard A);
        sees = both;
        root =
            subst (λ z. SeesRootOf x tops (root_of s.path) t.coord z A) (sym (gone_same s m.step (Moved_to r m) plain.nothing)) root_then;
        keeps = λ calls. subst (λ z. KeepsCalls tops (root_of s.path) (kept_of x (root_at (root_of s.path) t.coord)) (kept_of x z) A.names
            A.names) (sym (gone_same s m.step (Moved_to r m) plain.nothing)) keeps_then;
        next = by m.step plain.stands plain.fits;
        plain = plain.dooms;
      }
        where
          by : (step : CallStep) → StepStandsOn (uid_number (top_of s.path)) A.names step → StepFits step →
              NextSees x k M.sent (next_of s step) (gone_root s step (root_moved s r m (root_at (root_of s.path) t.coord))) A.names
          by (On at) stands fits = λ about. record {
            step = next_stands A.names at stands (λ q n rest is including. absurd (never (ap is_load is) fits.0)) fits.1;
            list = λ call past. let sc = its.calls u w s does now about call (fits.2 call) in
                keeps_then (top_of s.path) sc.known place.top sc.kept sc.list;
          }
          by (Ended e) stands fits = tt

    -- ---- a store answers

    heard_included : (base : Known) (n : ℕ) (rest : List ℕ) → s.at ≡ AtLoad base n rest → is_include s.goal ≡ true → (st : ObjectState) →
        IsToStep k M.sent s (Reply.Loaded (loaded.State st)) →
        IsHeardBy (Reply.Loaded (loaded.State st)) (finds (kept_of s.x (root_at (root_of s.path) t.coord)) (Included st))
    heard_included base n rest at_is including st to =
        let r : Reply = Reply.Loaded (loaded.State st) in
        let m : Moved = finds (kept_of s.x (root_at (root_of s.path) t.coord)) (Included st) in
        let alike_kept : is_include s.goal ≡ false → KeptAlike (kept_of s.x (root_at (root_of s.path) t.coord))
        (kept_of s.x (root_at (root_of s.path) t.coord)) = λ call. inl refl in
        let old = root_then r m refl alike_kept in
        record {
          office = A;
          taken = taken_none tops (root_of s.path) (top_of s.path) A (none_heard A);
          sees = both;
          root = joined_root r m old;
          keeps = λ calls. keeps_then r m refl alike_kept;
          next = tt;
          plain = refl;
        }
      where
        j : Joined
        j = record { path = uids_of s.path; x = s.x; store = store_of s.goal; loaded = st }

        one_path : (i : Joined) → Contains (let r = root_at (root_of s.path) t.coord in r.joined) i → last_uid i.path ≡ actor s.path →
            i.path ≡ uids_of s.path
        one_path i there last =
            let a = asking tops k d t M good few knows u w s does now in
            let q = its.includes (root_of s.path) i there in
            let who : q.uid ≡ u = sym ((let c = knows.coord in c.path q.uid q.branch q.found))
            ∙ (ap last_uid (sym q.path) ∙ (last ∙ who_asks)) in
            q.path ∙ (ap (λ (b : Branch). uids_of b.path) (some_is q.found (ap (λ v. branch_of v t.coord.tree) who ∙ a.found))
            ∙ ap uids_of a.path)

        joined_root : (r : Reply) (m : Moved) →
            SeesRootOf x tops (root_of s.path) t.coord (root_moved s r m (root_at (root_of s.path) t.coord)) A →
            SeesRootOf x tops (root_of s.path) t.coord (root_heard s (Included st) (root_moved s r m (root_at (root_of s.path) t.coord))) A
        joined_root r m old =
            let e = ends_root s (Ended (Included st)) (Moved_to r m) in
            let l = old.lists in
            record {
              grants = grants_stay x (root_of s.path) t.coord t.coord (Moved_to r m) (root_heard s (Included st) (Moved_to r m))
                  A.world.disk A.world.disk A.names old.grants refl
                  (retained_on x t.coord (Moved_to r m) (root_heard s (Included st) (Moved_to r m)) (λ z i. i) e.joined_more) refl refl;
              lists = record {
                agree = l.agree;
                family = l.family;
                granted = l.granted;
                named = l.named;
                short = l.short;
                called = l.called;
                retained = l.retained;
                nothing = l.nothing;
              };
              loads = loads_are_heard x tops (root_of s.path) (Moved_to r m) (root_heard s (Included st) (Moved_to r m)) j A.names old.loads
                  refl (λ i there last. one_path i (subst (λ js. Contains js i)
                  (noted_joined (granted_by (top_of s.path) s.x r) (root_at (root_of s.path) t.coord)) there) last)
                  (λ about v on top. subst (λ z. HasLoad A.names (uid_number z) (packed st)) (sym (place.only v on top)) (record {
                    inc = base.grant;
                    answered = old_step.loaded base n rest st at_is including to;
                    had = old_step.stands base.grant (ap grant_at at_is);
                  }));
              state = old.state;
            }

    heard_load : (base : Known) (n : ℕ) (rest : List ℕ) → s.at ≡ AtLoad base n rest → (l : LoadedReply) → IsToStep k M.sent s
        (Reply.Loaded l) → IsHeardBy (Reply.Loaded l) (loaded_answer (kept_of s.x (root_at (root_of s.path) t.coord)) base n s.goal l)
    heard_load base n rest at_is (loaded.InDoubt holder) to =
        heard_plain (Reply.Loaded (loaded.InDoubt holder)) (finds (kept_of s.x (root_at (root_of s.path) t.coord))
        (Conflict holder mode.Write n)) refl (λ call. inl refl) (record { dooms = refl; nothing = refl; stands = tt; fits = tt })
    heard_load base n rest at_is (loaded.State st) to = by s.goal refl
      where
        by : (g : Goal) → s.goal ≡ g →
            IsHeardBy (Reply.Loaded (loaded.State st)) (loaded_state (kept_of s.x (root_at (root_of s.path) t.coord)) base st g)
        by (Run op) is = heard_plain (Reply.Loaded (loaded.State st))
            (moves (kept_of s.x (root_at (root_of s.path) t.coord)) (AtActivate base st)) refl (λ call. inl refl)
            (record {
              dooms = refl;
              nothing = refl;
              stands = λ g at. old_step.stands g (ap grant_at at_is ∙ at);
              fits = (refl, λ including. absurd (never including (ap is_include is)), λ call. ap is_bound at_is);
            })
        by (Include store) is = heard_included base n rest at_is (ap is_include is) st to

    -- ---- a server answers, and naming to a Record

    no_include : (at : At) → s.at ≡ at → only_loads at ≡ false → is_include s.goal ≡ true → ⊥
    no_include at is off including = never (old_step.goal including) (ap only_loads is ∙ off)

    heard_activated : (base : Known) (st : ObjectState) → s.at ≡ AtActivate base st → (i : ℕ) →
        IsHeardBy (Reply.Activated i) (activated_by base i (kept_of s.x (root_at (root_of s.path) t.coord)))
    heard_activated base st at_is i =
        let z = took_step base i (kept_of s.x (root_at (root_of s.path) t.coord)) in
        heard_plain (Reply.Activated i) (activated_by base i (kept_of s.x (root_at (root_of s.path) t.coord))) refl (λ call. z.0) (⊎_elim
        (λ on. subst IsPlain (sym on) (record {
          dooms = refl;
          nothing = refl;
          stands = λ g at. old_step.stands g (ap grant_at at_is ∙ at);
          fits = (refl, λ including. absurd (no_include (AtActivate base st) at_is refl including), λ call. ap is_bound at_is);
        }))
        (λ (y : (n : ℕ) × (v : What) × ((let m = activated_by base i (kept_of s.x (root_at (root_of s.path) t.coord)) in m.step)
        ≡ Ended (Changed n v))). subst IsPlain (sym y.2) (changed_plain y.0 y.1)) z.1)

    heard_noted : (base : Known) (i : ℕ) → s.at ≡ AtNote base i → (l : RecordedReply) →
        IsHeardBy (Reply.Noted l) (recorded_answer (kept_of s.x (root_at (root_of s.path) t.coord)) base i l)
    heard_noted base i at_is recorded.Yes = heard_plain (Reply.Noted recorded.Yes) (moves (recorded_kept base (kept_of s.x (root_at
        (root_of s.path) t.coord))) (AtInvoke base i)) refl (λ call. recorded_alike base (kept_of s.x (root_at (root_of s.path) t.coord)))
        (record {
          dooms = refl;
          nothing = refl;
          stands = λ g at. absurd (cc at);
          fits = (refl, λ including. absurd (no_include (AtNote base i) at_is refl including), λ call. ap is_bound at_is);
        })
    heard_noted base i at_is (recorded.Changed v) = heard_plain (Reply.Noted (recorded.Changed v))
        (finds (kept_of s.x (root_at (root_of s.path) t.coord)) (Changed 1 v)) refl (λ call. inl refl) (changed_plain 1 v)

    heard_answered : (base : Known) (i : ℕ) → s.at ≡ AtInvoke base i → (a : Answer) →
        IsHeardBy (Reply.Invoked (invoked.Answered a)) (finds (kept_of s.x (root_at (root_of s.path) t.coord)) (Answered a))
    heard_answered base i at_is a =
        ⊎_elim (λ including. absurd (no_include (AtInvoke base i) at_is refl including)) by (bool_cases (is_include s.goal))
      where
        r : Reply
        r = Reply.Invoked (invoked.Answered a)

        m : Moved
        m = finds (kept_of s.x (root_at (root_of s.path) t.coord)) (Answered a)

        alike_kept : is_include s.goal ≡ false →
            KeptAlike (kept_of s.x (root_at (root_of s.path) t.coord)) (kept_of s.x (root_at (root_of s.path) t.coord))
        alike_kept call = inl refl

        q : Root
        q = root_heard s (Answered a) (root_moved s (Reply.Invoked (invoked.Answered a))
            (finds (kept_of s.x (root_at (root_of s.path) t.coord)) (Answered a)) (root_at (root_of s.path) t.coord))

        e : EndsRoot s (root_moved s r m (root_at (root_of s.path) t.coord))
            (root_heard s (Answered a) (root_moved s r m (root_at (root_of s.path) t.coord)))
        e = ends_root s (Ended (Answered a)) (Moved_to r m)

        kept_now : (y : ℕ) → kept_of y q ≡ kept_of y (root_moved s r m (root_at (root_of s.path) t.coord))
        kept_now y = ap (λ (ks : List (ℕ × Keeping)). (unwrap_or (at_number y ks) no_keeping).kept) e.keeping

        by : is_include s.goal ≡ false →
            IsHeardBy (Reply.Invoked (invoked.Answered a)) (finds (kept_of s.x (root_at (root_of s.path) t.coord)) (Answered a))
        by call =
            let old = root_then r m refl alike_kept in
            let sc = its.calls u w s does now of call (ap is_bound at_is) in
            let l = keeps_then r m refl alike_kept (top_of s.path) sc.known place.top sc.kept sc.list in
            record {
              office = A;
              taken = taken_none tops (root_of s.path) (top_of s.path) A (none_heard A);
              sees = both;
              root = record {
                grants = grants_stay x (root_of s.path) t.coord t.coord (Moved_to r m) q A.world.disk A.world.disk A.names old.grants
                    e.grants (retained_on x t.coord (Moved_to r m) q e.said_more e.joined_more) refl refl;
                lists = answered_calls_have_lists x s.x tops (root_of s.path) t.coord (Moved_to r m) q (uids_of s.path) A.names old.lists
                    (record {
                      grants = e.grants;
                      kept = kept_now;
                      said = λ z i.
                          ⊎_elim (λ more. inl (in_to z (Moved_to r m).said more)) (λ new. inr new) (e.said_less z (in_from z q.said i));
                    })
                    (λ about. (
                      l.0,
                      l.1,
                      (λ v on top. subst (λ z. HasCallList A.names (uid_number (root_of s.path)) (uid_number z) l.0)
                          (sym (place.only v on top)) l.2),
                      λ on. absurd (never on place.unkept),
                    ));
                loads = λ i v there. old.loads i v (subst (λ js. Contains js i)
                    (said_same (λ (z : Root). z.joined) (record { path = uids_of s.path; x = s.x }) (Moved_to r m) (λ ws. refl)) there);
                state = ap (λ ss. option_map packed (at_number x ss)) e.states ∙ old.state;
              };
              keeps = λ calls. subst (λ z. KeepsCalls tops (root_of s.path) (kept_of x (root_at (root_of s.path) t.coord)) z A.names
                  A.names) (sym (kept_now x)) (keeps_then r m refl alike_kept);
              next = tt;
              plain = refl;
            }

    heard_invoked : (base : Known) (i : ℕ) → s.at ≡ AtInvoke base i → (l : InvokedReply) →
        IsHeardBy (Reply.Invoked l) (invoked_answer (kept_of s.x (root_at (root_of s.path) t.coord)) base l)
    heard_invoked base i at_is (invoked.Answered a) = heard_answered base i at_is a
    heard_invoked base i at_is (invoked.Conflict holder mo) =
        heard_plain (Reply.Invoked (invoked.Conflict holder mo)) (finds (kept_of s.x (root_at (root_of s.path) t.coord))
        (Conflict holder mo base.server)) refl (λ call. inl refl) (record { dooms = refl; nothing = refl; stands = tt; fits = tt })
    heard_invoked base i at_is (invoked.Changed v) = heard_plain (Reply.Invoked (invoked.Changed v)) (finds
        (kept_of s.x (root_at (root_of s.path) t.coord)) (Changed base.server v)) refl (λ call. inl refl) (changed_plain base.server v)

    -- ---- naming answers to a Bind

    module _ (r : Reply) (m : Moved) where
      said_then : (root_moved s r m (root_at (root_of s.path) t.coord)).said ≡ (let o = root_at (root_of s.path) t.coord in o.said)
      said_then = noted_said (granted_by (top_of s.path) s.x r) (root_at (root_of s.path) t.coord)

      joined_then : (root_moved s r m (root_at (root_of s.path) t.coord)).joined ≡ (let o = root_at (root_of s.path) t.coord in o.joined)
      joined_then = noted_joined (granted_by (top_of s.path) s.x r) (root_at (root_of s.path) t.coord)

      stays_then : StaysRetained x t.coord (root_at (root_of s.path) t.coord) t.coord (root_moved s r m (root_at (root_of s.path) t.coord))
      stays_then = retained_on x t.coord (root_at (root_of s.path) t.coord) (Moved_to r m) (λ z i. subst (In z) (sym said_then) i)
          (λ j i. record { join = j; there = subst (In j) (sym joined_then) i; path = refl; of = refl })

      -- loads and the state stay where answers are taken
      taken_root : (D : Office) → OnlyAnswers A D → SeesGrants x (root_of s.path) t.coord (root_moved s r m (root_at (root_of s.path)
          t.coord)) D.world.disk D.names → SeesLists x tops (root_of s.path) t.coord (root_moved s r m (root_at (root_of s.path) t.coord))
          D.names → SeesRootOf x tops (root_of s.path) t.coord (root_moved s r m (root_at (root_of s.path) t.coord)) D
      taken_root D only grants lists = record {
        grants = grants;
        lists = lists;
        loads = λ j v there about on top. let l = old_root.loads j v (subst (λ js. Contains js j) joined_then there) about on top in
            record { inc = l.inc; answered = only.answers _ l.answered; had = only.grows (uid_number v) l.inc l.had };
        state = subst (λ (W : World). KeepsState x (root_of s.path) (root_moved s r m (root_at (root_of s.path) t.coord)) W.disk)
            (sym only.world) (ap (λ ss. option_map packed (at_number x ss))
            (noted_states (granted_by (top_of s.path) s.x r) (root_at (root_of s.path) t.coord)) ∙ old_root.state);
      }

    idle : A.world.disk.stage (uid_number (top_of s.path)) ≡ disk.Idle
    idle = step_idle tops k d t M good few knows x A both u w s does now

    lasts : IsLasting x t.coord (root_at (root_of s.path) t.coord)
    lasts = lasting x (root_of s.path) t.coord (root_at (root_of s.path) t.coord) place.free (λ z i about. let c = knows.coord in
        let f = c.said (root_of s.path) z (let v = place.root in v.own) i in (f.rest, f.headed))

    -- nobody else waits in a call on the object where the root is free of what it keeps
    alone : is_free (root_of s.path) (actor s.path) s.x t.coord ≡ true → OtherCalls x s t.coord → ⊥
    alone free calls =
        let a = asking tops k d t M good few knows u w s does now in
        free_alone tops k d t M good few knows u a.branch a.found s.x (ap (λ z. is_free (root_of z) u s.x t.coord) a.path
        ∙ (ap (λ v. is_free (root_of s.path) v s.x t.coord) (sym who_asks) ∙ free)) calls.uid calls.doing calls.step
        (λ same. calls.other (same ∙ sym who_asks)) calls.does calls.now (calls.of ∙ sym of) (is_call_goal (let z = calls.step in
        z.goal) calls.call) (ap (λ (z : Uid). z.num) calls.root ∙ ap (λ z. (root_of z).num) (sym a.path))

    module _ (r : Reply) (known : Known) (g : ℕ) (pl : At) (granted : granted_by (top_of s.path) s.x r
        ≡ Some (record { top = top_of s.path; x = s.x; least = g; named = Some known.binding })) (given : answer.In
        (machine.Bound (uid_number (top_of s.path)) g false known.stores) A.names.answers) (names : IsNamedOf known.binding g known.stores)
        (call : is_include s.goal ≡ false) (bound_there : is_bound pl ≡ true) (stands : (N : Names) →
        N.had (uid_number (top_of s.path)) g ≡ true → StandsOn (uid_number (top_of s.path)) N pl) where
      abbrev fr : Bool
      fr = is_free (root_of s.path) (actor s.path) s.x t.coord

      abbrev m : Moved
      m = bound_by (is_free (root_of s.path) (actor s.path) s.x t.coord) known pl (kept_of s.x (root_at (root_of s.path) t.coord))

      bs : BoundStep known pl
          (bound_by (is_free (root_of s.path) (actor s.path) s.x t.coord) known pl (kept_of s.x (root_at (root_of s.path) t.coord)))
      bs = bound_step (is_free (root_of s.path) (actor s.path) s.x t.coord) known pl (kept_of s.x (root_at (root_of s.path) t.coord))

      kept_now : kept_of s.x (root_moved s r m (root_at (root_of s.path) t.coord)) ≡ m.kept
      kept_now = moved_kept s r m (root_at (root_of s.path) t.coord)
          ∙ ap (λ b. if b then m.kept else kept_of s.x (root_at (root_of s.path) t.coord)) (is_call_goal s.goal call)

      after : AfterAnswer x g (top_of s.path) known pl (is_free (root_of s.path) (actor s.path) s.x t.coord)
          (root_at (root_of s.path) t.coord) (root_moved s r m (root_at (root_of s.path) t.coord))
      after = record {
        grants = ap (λ y. (notes_grant y (root_at (root_of s.path) t.coord)).grants) granted
            ∙ ap (λ y. granted_with (record { top = top_of s.path; x = y; least = g; named = Some known.binding })
            (let o = root_at (root_of s.path) t.coord in o.grants)) of;
        said = said_then r m;
        kept = subst (λ y. kept_of y (root_moved s r m (root_at (root_of s.path) t.coord)) ≡ (let z = bound_by (is_free (root_of s.path)
            (actor s.path) s.x t.coord) known pl (kept_of y (root_at (root_of s.path) t.coord)) in z.kept)) of kept_now;
      }

      named_now : IsNamedNow x t.coord (root_at (root_of s.path) t.coord) g known (is_free (root_of s.path) (actor s.path) s.x t.coord)
      named_now = record {
        inc = names.inc;
        short = names.short;
        spent = λ free z there about. free_spent (root_of s.path) (actor s.path) s.x t.coord free z there (about ∙ sym of);
      }

      nothing : notes_nothing m.step ≡ true
      nothing =
          ⊎_elim (λ on. ap notes_nothing on.0) (λ (z : (n : ℕ) × (v : What) × (m.step ≡ Ended (Changed n v))). ap notes_nothing z.2) bs

      heard_bound : IsHeardBy r m
      heard_bound =
          let o = root_at (root_of s.path) t.coord in
          let z = calls_are_taken x g tops (root_of s.path) (top_of s.path) t.coord o (Moved_to r m) known pl fr A (up k d t M) idle given
          (old_root.grants, old_root.lists) lasts place.top (let v = place.root in v.alone) named_now after (stays_then r m) both in
          let D : Office = z.0 in
          let had : D.names.had (uid_number (top_of s.path)) g ≡ true = ap (λ f. f (uid_number (top_of s.path)) g) z.3.1
          ∙ put2_same (uid_number (top_of s.path)) g A.names.had in
          record {
            office = z.0;
            taken = taken_at tops (root_of s.path) (top_of s.path) A z.0 g fixed place.top z.1 z.3.2 z.3.1;
            sees = z.2;
            root = subst (λ y. SeesRootOf x tops (root_of s.path) t.coord y z.0) (sym (gone_same s m.step (Moved_to r m) nothing))
                (taken_root r m z.0 z.1 z.3.0.0 z.3.0.1);
            keeps = λ calls. subst (λ y. KeepsCalls tops (root_of s.path) (kept_of x o) (kept_of x y) A.names D.names) (sym (gone_same s
                m.step (Moved_to r m) nothing)) (⊎_elim (λ free. absurd (alone free calls)) (λ off. z.3.3 off) (bool_cases fr));
            next = by D z.3.0.1 had m.step refl;
            plain = bound_plain fr known pl (kept_of s.x o);
          }
        where
          lists_named : (D : Office) → SeesLists x tops (root_of s.path) t.coord (root_moved s r m (root_at (root_of s.path) t.coord))
              D.names → (l : Known) → m.kept ≡ Some l → binding_eq l.binding known.binding ≡ true →
              (y : Known) × (kept_of x (root_moved s r m (root_at (root_of s.path) t.coord)) ≡ Some y)
              × HasCallList D.names (uid_number (root_of s.path)) (uid_number (top_of s.path)) y
          lists_named D lists l kept alike =
              let is : kept_of x (Moved_to r m) ≡ Some l = subst (λ y. kept_of y (Moved_to r m) ≡ Some l) of (kept_now ∙ kept) in
              let n = named_new (record { top = top_of s.path; x = x; least = g; named = Some known.binding }) known.binding refl
              (let o = root_at (root_of s.path) t.coord in o.grants) in
              let there : Contains (let q = Moved_to r m in q.grants) n.0 = in_to n.0 (let q = Moved_to r m in
              q.grants) (subst (In n.0) (sym after.grants) n.1) in (
                l,
                is,
                inl (subst (λ v. HasList D.names (uid_number v) l) n.2
                    (lists.named l n.0 is there n.3 (ap (is_binding l.binding) n.4 ∙ alike))),
              )

          by : (D : Office) → SeesLists x tops (root_of s.path) t.coord (root_moved s r m (root_at (root_of s.path) t.coord)) D.names →
              D.names.had (uid_number (top_of s.path)) g ≡ true → (step : CallStep) → m.step ≡ step →
              NextSees x k M.sent (next_of s step) (gone_root s step (root_moved s r m (root_at (root_of s.path) t.coord))) D.names
          by D lists had (Ended e) is = tt
          by D lists had (On at) is = λ about. ⊎_elim
              (λ (on : (m.step ≡ On pl) × ((l : Known) × (m.kept ≡ Some l) × (binding_eq l.binding known.binding ≡ true))).
              let here : pl ≡ at = some_is refl (ap at_in (sym on.0 ∙ is)) in
              record {
                step = next_stands D.names at (subst (StandsOn (uid_number (top_of s.path)) D.names) here (stands D.names had))
                    (λ q n rest at_load including. absurd (never including call)) (λ including. absurd (never including call));
                list = λ again past. let l = on.1 in lists_named D lists l.0 l.1 l.2;
              })
              (λ (ended : (n : ℕ) × (v : What) × (m.step ≡ Ended (Changed n v))).
              absurd (let no : On at ≡ Ended (Changed ended.0 ended.1) = sym is ∙ ended.2 in cc))
              bs

    -- an include's lock is granted
    heard_write : (g : ℕ) (stores : List ℕ) (at : Option At) → at ≡ load_from (write_known g stores) stores → is_include s.goal ≡ true →
        answer.In (machine.Bound (uid_number (top_of s.path)) g true stores) A.names.answers →
        IsHeardBy (Reply.Bound (bound.Write g stores)) (or_lost (kept_of s.x (root_at (root_of s.path) t.coord)) at)
    heard_write g stores at at_is including given =
        let o = root_at (root_of s.path) t.coord in
        let after : AfterInclude x g (top_of s.path) o (Moved_to r m) = record {
          grants = ap (λ y. granted_with (record { top = top_of s.path; x = y; least = g; named = None }) o.grants) of;
          said = refl;
          kept = subst (λ y. kept_of y (Moved_to r m) ≡ kept_of y o) of kept_same;
        } in
        let z = includes_are_taken x g tops (root_of s.path) (top_of s.path) t.coord o (Moved_to r m) stores A (up k d t M) idle given
        (old_root.grants, old_root.lists) place.top after (stays_then r m) both in
        let D : Office = z.0 in
        let had : D.names.had (uid_number (top_of s.path)) g ≡ true = ap (λ f. f (uid_number (top_of s.path)) g) z.3.1
        ∙ put2_same (uid_number (top_of s.path)) g A.names.had in
        record {
          office = z.0;
          taken = taken_at tops (root_of s.path) (top_of s.path) A z.0 g fixed place.top z.1 z.3.2 z.3.1;
          sees = z.2;
          root = subst (λ y. SeesRootOf x tops (root_of s.path) t.coord y z.0) (sym (gone_same s m.step (Moved_to r m) (quiet at)))
              (taken_root r m z.0 z.1 z.3.0.0 z.3.0.1);
          keeps = λ calls. subst (λ y. KeepsCalls tops (root_of s.path) (kept_of x o) (kept_of x y) A.names D.names)
              (sym (gone_same s m.step (Moved_to r m) (quiet at))) (λ v l top is h. (l, after.kept ∙ is, list_on D z.1 z.3.3 v l h));
          next = by D had (let only = z.1 in only.answers _ given) at at_is;
          plain = plain at;
        }
      where
        r : Reply
        r = Reply.Bound (bound.Write g stores)

        m : Moved
        m = or_lost (kept_of s.x (root_at (root_of s.path) t.coord)) at

        kept_same : kept_of s.x (root_moved s r m (root_at (root_of s.path) t.coord)) ≡ kept_of s.x (root_at (root_of s.path) t.coord)
        kept_same = moved_kept s r m (root_at (root_of s.path) t.coord) ∙ goal s.goal including
          where
            goal : (z : Goal) → is_include z ≡ true → (if is_call z then m.kept else kept_of s.x (root_at (root_of s.path) t.coord))
                ≡ kept_of s.x (root_at (root_of s.path) t.coord)
            goal (Run op) on = absurd (cc on)
            goal (Include st) on = refl

        quiet : (z : Option At) → notes_nothing (let y = or_lost (kept_of s.x (root_at (root_of s.path) t.coord)) z in y.step) ≡ true
        quiet None = refl
        quiet (Some y) = refl

        plain : (z : Option At) → dooms_none (let y = or_lost (kept_of s.x (root_at (root_of s.path) t.coord)) z in y.step) ≡ true
        plain None = refl
        plain (Some y) = refl

        list_on : (D : Office) → OnlyAnswers A D → D.names.kept ≡ A.names.kept → (v : Uid) (l : Known) → HasCallList A.names
            (uid_number (root_of s.path)) (uid_number v) l → HasCallList D.names (uid_number (root_of s.path)) (uid_number v) l
        list_on D only same v l h = ⊎_elim
            (λ (y : HasList A.names (uid_number v) l).
            inl (record { kept = y.kept; there = ap (λ f. f (uid_number v)) same ∙ y.there; since = y.since; within = y.within }))
            (λ (y : HasRetained A.names (uid_number (root_of s.path)) l). inr (record {
              had = only.grows (uid_number (root_of s.path)) (let b = l.binding in b.inc) y.had;
              kept = y.kept;
              there = ap (λ f. f (uid_number (root_of s.path))) same ∙ y.there;
            })) h

        first_load : (ss : List ℕ) (place_at : At) → Some place_at ≡ load_from (write_known g stores) ss →
            (n : ℕ) × (rest : List ℕ) × (ss ≡ n ∷ rest) × (place_at ≡ AtLoad (write_known g stores) n rest)
        first_load [] y is = absurd (cc is)
        first_load (n ∷ rest) y is = (n, rest, refl, some_is refl is)

        by : (D : Office) → D.names.had (uid_number (top_of s.path)) g ≡ true → answer.In (machine.Bound (uid_number (top_of s.path)) g
            true stores) D.names.answers → (z : Option At) → z ≡ load_from (write_known g stores) stores
            → NextSees x k M.sent (next_of s (let y = or_lost (kept_of s.x (root_at (root_of s.path) t.coord)) z in y.step))
            (gone_root s (let y = or_lost (kept_of s.x (root_at (root_of s.path) t.coord)) z in y.step)
            (root_moved s r (or_lost (kept_of s.x (root_at (root_of s.path) t.coord)) z) (root_at (root_of s.path) t.coord))) D.names
        by D had given_then None is = tt
        by D had given_then (Some y) is =
            let f = first_load stores y is in
            λ about. record {
              step = next_stands D.names y
                  (subst (StandsOn (uid_number (top_of s.path)) D.names) (sym f.3)
                  (λ i at. subst (λ j. D.names.had (uid_number (top_of s.path)) j ≡ true) (some_is refl at) had))
                  (λ q n rest at on.
                  let e : (write_known g stores, f.0, f.1) ≡ (q, n, rest) = some_is {A = Known × ℕ × List ℕ} (ap load_at f.3)
                  (ap load_at at) in
                  subst (λ (v : Known × ℕ × List ℕ). AsksListed (uid_number (top_of s.path)) v.0 (v.1 ∷ v.2) D.names) e
                  (record { answered = given_then; stores = λ v in_it. subst (λ ss. has v ss ≡ true) (sym f.2) in_it }))
                  (λ on. ap only_loads f.3);
              list = λ call past. absurd (never including call);
            }

    heard_bind : (b : BoundReply) → IsToStep k M.sent s (Reply.Bound b) → IsHeardBy (Reply.Bound b)
        (bound_answer (is_free (root_of s.path) (actor s.path) s.x t.coord) (kept_of s.x (root_at (root_of s.path) t.coord)) b)
    heard_bind (bound.Live b server i g stores) to =
        let said = old_step.bound (bound.Live b server i g stores) to in
        heard_bound (Reply.Bound (bound.Live b server i g stores)) (live_known b server i g stores) g (AtInvoke (live_known b server i g
        stores) i) refl (said.1 of) (old_step.named (bound.Live b server i g stores) to) said.0 refl (λ N had j at. absurd (cc at))
    heard_bind (bound.Make b server g stores) to = by stores refl
      where
        said : IsOfGoal (is_include s.goal) (bound.Make b server g stores)
            × ClaimsBound x s.x (uid_number (top_of s.path)) (bound.Make b server g stores) A.names
        said = old_step.bound (bound.Make b server g stores) to

        names : IsNamedOf b g stores
        names = old_step.named (bound.Make b server g stores) to

        by : (ss : List ℕ) → stores ≡ ss →
            IsHeardBy (Reply.Bound (bound.Make b server g stores)) (made_by (is_free (root_of s.path) (actor s.path) s.x t.coord)
            (made_known b server g stores) (kept_of s.x (root_at (root_of s.path) t.coord)) (load_from (made_known b server g stores) ss))
        by [] is = absurd (let n = names.stored in let no : false ≡ true = ap (has n.0) (sym is) ∙ n.1 in cc)
        by (n ∷ rest) is = heard_bound (Reply.Bound (bound.Make b server g stores)) (made_known b server g stores) g
            (AtLoad (made_known b server g stores) n rest) refl (said.1 of) names said.0 refl
            (λ N had j at. subst (λ i. N.had (uid_number (top_of s.path)) i ≡ true) (some_is refl at) had)
    heard_bind (bound.Write g stores) to = let said = old_step.bound (bound.Write g stores) to in
        heard_write g stores (load_from (write_known g stores) stores) refl said.0 (said.1 of)
    heard_bind (bound.Conflict holder mo) to = heard_plain (Reply.Bound (bound.Conflict holder mo)) (finds (kept_of s.x (root_at (root_of
        s.path) t.coord)) (Conflict holder mo 1)) refl (λ call. inl refl) (record { dooms = refl; nothing = refl; stands = tt; fits = tt })

    heard_reply : (r : Reply) → IsToStep k M.sent s r → (reply_kind r == ask_kind (next_ask [] s)) ≡ true → IsHeardBy r
        (answered (is_free (root_of s.path) (actor s.path) s.x t.coord) (kept_of s.x (root_at (root_of s.path) t.coord)) s.goal s.at r)
    heard_reply r to kind = matched (λ at r. s.at ≡ at → IsToStep k M.sent s r → IsHeardBy r
        (answered (is_free (root_of s.path) (actor s.path) s.x t.coord) (kept_of s.x (root_at (root_of s.path) t.coord)) s.goal at r))
        (λ avoid b at_is to. heard_bind b to) (λ base n rest l at_is to. heard_load base n rest at_is l to)
        (λ base st i at_is to. heard_activated base st at_is i) (λ base i l at_is to. heard_noted base i at_is l)
        (λ base i l at_is to. heard_invoked base i at_is l) s.x s.goal s.at r kind refl to

  -- whichever it is
  pub heard_each : (r : Reply) → IsToStep k M.sent s r → (reply_kind r == ask_kind (next_ask [] s)) ≡ true → IsHeardBy r
      (answered (is_free (root_of s.path) (actor s.path) s.x t.coord) (kept_of s.x (root_at (root_of s.path) t.coord)) s.goal s.at r)
  heard_each r to kind = ⊎_elim (λ of. heard_reply of r to kind)
      (λ other. heard_other r (answered (is_free (root_of s.path) (actor s.path) s.x t.coord) (kept_of s.x
      (root_at (root_of s.path) t.coord)) s.goal s.at r) (answered_plain (is_free (root_of s.path) (actor s.path) s.x t.coord) (kept_of
      s.x (root_at (root_of s.path) t.coord)) s.x s.goal s.at r kind) (λ same. never (ap (λ n. n == x) same ∙ test_same x) other))
      (test_cases s.x x)
