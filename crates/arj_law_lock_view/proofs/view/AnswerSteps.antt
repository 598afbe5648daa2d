-- An answer to a call on the object goes in the machine.
use Rattle.arj_law_parts.proofs.Words
use Words.{◌≡◌, ◌≤◌, ◌<◌, ◌+◌, ◌⊎◌, ◌∙◌, ◌==◌, ◌&&◌, ◌||◌, ℕ, List, [], ◌∷◌, Bool, true, false, cond, Option, Some, None, refl, sym, ap}
use Words.{subst, inl, inr, arith, eqb-true, ltb-true, Contains, unwrap_or, min, and_parts, uid_is, in_from, in_to, Binding, Op, Uid, What}
use Words.{ObjectState, uid_eq, writes, Reply, actor, top_of, doomed_by, granted_by, keeps_after, notes_grant, root_heard, root_moved}
use Words.{same_kept, At, AtActivate, AtBind, AtInvoke, AtLoad, AtNote, CallEnd, Changed, Known, Lost, Moved, Run, Steps, activated_by}
use Words.{bound_answer, bound_by, finds, has_changed, is_invoke, live_known, load_from, made_by, made_known, moves, named_again}
use Words.{other_binding, recorded_kept, same_binding, two_bindings, two_incs, with_inc, Calling, Coord, Doing, Grant, Keeping, Root, Said}
use Words.{granted_with, is_free, is_grant_of, keeping_of, named_last, no_keeping, root_at, with_keeping, binding_eq, binding_less}
use Words.{binding_number, Branch, root_of, put_same}
use Words.list
use Words.bound
use Words.loaded
use Words.recorded
use Rattle.arj_law_lock_view.proofs.Terms
use Terms.{Act, In, root, next, stay, step, IsFree, State, Load, LoadsTheLast, IsCurrent, KnowsRecorded, MayUse, go_on, differ, number_self}
use Terms.{Paths, Acts, IsAtWork, IsReached, OnlyCalled, WritesLine, Codes, state_code, KeepsEnds, Goes, IsServedBy, ShowsBound, IsNamedSo}
use Terms.{binding_at, HasHeard, IsTied, SeesCoord, SeesKeeping, SeesKept, SeesStep}
use Terms.machine_run
use Terms.machine
use Terms.event
use Rattle.arj_law_lock.proofs.machine.Paths.{same_number}
use Rattle.arj_law_lock_view.proofs.view
use view.CallingSteps.{IsOnly, IsRebound, free_only, free_seen, holds, invoke_only, invoke_seen, kept_rebound, named_here}
use view.Looked.{Looks, kept_same}
use view.CallingSteps.{kept_seen, kept_state, keeps_run, named_rebound, named_state, names_run, none_free, over_seen, root_seen}
use view.CallingSteps.{same_rebound, sends, silent_seen, stays_rebound, step_seen, tied_kept, top_unit, unit_same}
use view.EndingSteps.{ends_behind, keeps_ends, keeps_one, same_end}
use Rattle.arj_protocol.specs.Asking.{moved_call}

-- where a grant of the list comes from: it stood there, it is the new one, or one that took the new one up
pub grants_from : (P : Grant → Type 0) (g : Grant) (gs : List Grant) → ((h : Grant) → list.In h gs → P h) → P g → ((h : Grant) →
    list.In h gs → h.top ≡ g.top → h.x ≡ g.x → P (record h { least = min h.least g.least; named = named_last g.named h.named })) →
    (k : Grant) → list.In k (granted_with g gs) → P k
grants_from P g [] old new both k (inl is) = subst P is new
grants_from P g [] old new both k (inr i) = absurd i
grants_from P g (h ∷ hs) old new both k i =
    by (is_grant_of g.top g.x h) refl i (grants_from P g hs (λ z q. old z (inr q)) new (λ z q. both z (inr q)) k)
  where
    by : (t : Bool) → is_grant_of g.top g.x h ≡ t →
        list.In k (cond t (record h { least = min h.least g.least; named = named_last g.named h.named } ∷ hs) (h ∷ granted_with g hs)) →
        (list.In k (granted_with g hs) → P k) → P k
    by true e (inl is) ih = let both_parts = and_parts (uid_eq h.top g.top) (h.x == g.x) e in
        subst P is (both h (inl refl) (uid_is h.top g.top both_parts.0) (eqb-true h.x g.x both_parts.1))
    by true e (inr j) ih = old k (inr j)
    by false e (inl is) ih = old k (inl is)
    by false e (inr j) ih = ih j

equal_numbers : (b c : Binding) → binding_eq b c ≡ true → binding_number b ≡ binding_number c
equal_numbers b c e = eqb-true (binding_number b) (binding_number c) e

module _ (act : Acts) (code : Codes) (paths : Paths) (p : ℕ) (c : Coord) (b : Branch) (d : Doing) (s : Steps) (o : Op) (S : State)
    (reached : IsReached S) (work : IsAtWork act paths c (actor s.path) b d) (calling : d.now ≡ Calling s) (goal : s.goal ≡ Run o)
    (path : s.path ≡ b.path) (last : s.req ≡ d.req) (sees : SeesCoord act code s.x c S) (now : S.now ≤ p) where
  abbrev u : Uid
  u = actor s.path

  abbrev x : ℕ
  x = s.x

  abbrev rt : Uid
  rt = root_of s.path

  abbrev unit : ℕ
  unit = root (act u)

  abbrev kp : Keeping
  kp = keeping_of x (root_at rt c)

  abbrev m : Act
  m = act (top_of s.path)

  abbrev said_now : List Said
  said_now = let z = root_at rt c in z.said

  abbrev Rebound : Option Known → State → Type 0
  Rebound k T = IsRebound act code paths c b d s o S reached work calling goal path last sees k T

  -- ---- the root after an answer

  abbrev pub grants_after : Reply → List Grant
  grants_after r = let q = notes_grant (granted_by (top_of s.path) x r) (root_at rt c) in q.grants

  abbrev pub spoilt_by : Moved → Bool
  spoilt_by mv = (same_kept mv.kept kp.kept && kp.spoiled) || has_changed mv.step

  pub looks_moved : (r : Reply) (mv : Moved) →
      Looks x (root_moved s r mv (root_at rt c)) (record kp { kept = mv.kept; spoiled = spoilt_by mv }) said_now (grants_after r)
  looks_moved r mv = by (granted_by (top_of s.path) x r)
    where
      kept_is : (q : Root) → keeping_of x (with_keeping x (keeps_after s.goal (has_changed mv.step) mv.kept kp) q)
          ≡ record kp { kept = mv.kept; spoiled = spoilt_by mv }
      kept_is q = ap (λ (v : Option Keeping). unwrap_or v no_keeping) (put_same x (keeps_after s.goal (has_changed mv.step) mv.kept kp)
          q.keeping) ∙ (λ i. keeps_after (goal i) (has_changed mv.step) mv.kept kp)

      by : (g : Option Grant) → Looks x (with_keeping x (keeps_after s.goal (has_changed mv.step) mv.kept kp) (notes_grant g (root_at rt
          c))) (record kp { kept = mv.kept; spoiled = spoilt_by mv }) said_now (let q = notes_grant g (root_at rt c) in q.grants)
      by None = record { keeps = kept_is (root_at rt c); said_is = refl; grants_are = refl }
      by (Some g) = record {
        keeps = kept_is (record (root_at rt c) { grants = granted_with g (let q = root_at rt c in q.grants) });
        said_is = refl;
        grants_are = refl;
      }

  -- the grants that it has by then are of what its tops heard
  abbrev pub HasAll : List Grant → State → Type 0
  HasAll grants V = (gr : Grant) (n : Binding) → Contains grants gr → gr.x ≡ x → gr.named ≡ Some n →
      HasHeard (act gr.top) (binding_number n) V

  pub old_grants : HasAll (let q = root_at rt c in q.grants) S
  old_grants gr n there about named_is =
      (root_seen act code paths c b d s o S reached work calling goal path last sees).heard gr n there about named_is

  new_grants : (g : Grant) → g.top ≡ top_of s.path → ((n : Binding) → g.named ≡ Some n → HasHeard m (binding_number n) S) →
      HasAll (granted_with g (let q = root_at rt c in q.grants)) S
  new_grants g of heard gr n there = grants_from (λ (y : Grant). y.x ≡ x → y.named ≡ Some n →
      HasHeard (act y.top) (binding_number n) S) g (let q = root_at rt c in q.grants)
      (λ h i. old_grants h n (in_to h (let q = root_at rt c in q.grants) i))
      (λ about named_is. subst (λ (v : Uid). HasHeard (act v) (binding_number n) S) (sym of) (heard n named_is))
      (λ h i top_is of_x about named_is. merged h i top_is about g.named refl named_is)
      gr (in_from gr (granted_with g (let q = root_at rt c in q.grants)) there)
    where
      merged : (h : Grant) → list.In h (let q = root_at rt c in q.grants) → h.top ≡ g.top → h.x ≡ x → (v : Option Binding) → g.named ≡ v →
          named_last v h.named ≡ Some n → HasHeard (act h.top) (binding_number n) S
      merged h i top_is about None is named_is = old_grants h n (in_to h (let q = root_at rt c in q.grants) i) about named_is
      merged h i top_is about (Some w) is named_is =
          subst (λ (v : Uid). HasHeard (act v) (binding_number n) S) (sym (top_is ∙ of)) (heard n (is ∙ named_is))

  later_grants : (grants : List Grant) (T : State) → ((y : machine.Message) → In y S.net → In y T.net) → HasAll grants S → HasAll grants T
  later_grants grants T sent all gr n there about named_is = by (all gr n there about named_is)
    where
      by : HasHeard (act gr.top) (binding_number n) S → HasHeard (act gr.top) (binding_number n) T
      by (inl i) = inl (sent (machine.Live (act gr.top) (binding_number n)) i)
      by (inr i) = inr (sent (machine.Made (act gr.top) (binding_number n)) i)

  -- ---- what an answer leads to

  abbrev pub Result : At → Reply → Moved → Type 0
  Result a r mv =
      Goes S (λ V. SeesCoord act code x (let e = moved_call s r c mv in e.part) V × OnlyCalled unit S V × WritesLine act code p s o S V a r)

  -- the call goes on to a step that isn't an Invoke
  go_silent : (a : At) (r : Reply) (a' : At) (k : Option Known) (T : State) → machine_run.Run S T → Rebound k T →
      (k ≡ None → kp.kept ≡ None) → is_invoke s.at ≡ false → is_invoke a' ≡ false → HasAll (grants_after r) S → SeesStep act code
      (record s { req = s.req + 1; at = a' }) o (record kp { kept = k }) T a' → WritesLine act code p s o S T a r → Result a r (moves k a')
  go_silent a r a' k T run rebound none quiet calm grants its_step line = record {
    state = T;
    run = run;
    holds = (
      silent_seen act code paths c b d s o S reached work calling goal path last sees (root_moved s r (moves k a')) a' k
          (spoilt_by (moves k a')) (grants_after r) T rebound (looks_moved r (moves k a')) none quiet calm
          (later_grants (grants_after r) T rebound.only.sent grants) (step_is a' its_step),
      rebound.only,
      line,
    );
  }
    where
      step_is : (v : At) → SeesStep act code (record s { req = s.req + 1; at = a' }) o (record kp { kept = k }) T v →
          SeesStep act code (record s { req = s.req + 1; at = a' }) o (record kp { kept = k; spoiled = spoilt_by (moves k a') }) T v
      step_is (AtBind avoid) h = h
      step_is (AtLoad w n rest) h = h
      step_is (AtActivate w st) h = h
      step_is (AtNote w i) h = h
      step_is (AtInvoke w i) h = h

  -- to one that is
  go_invoke : (a : At) (r : Reply) (w : Known) (i : ℕ) (k : Option Known) (T : State) → machine_run.Run S T → Rebound k T →
      (k ≡ None → kp.kept ≡ None) → is_invoke s.at ≡ false → HasAll (grants_after r) S → IsTied k w → IsServedBy T w.binding w.server →
      IsNamedSo T w.binding i → KnowsRecorded T (binding_number w.binding) → MayUse T m (binding_number w.binding)
      → ((V : State) → V.calls ≡ S.calls → V.now ≡ S.now → KeepsEnds S V → WritesLine act code p s o S V a r) →
      Result a r (moves k (AtInvoke w i))
  go_invoke a r w i k T run rebound none quiet grants tied server named knows may line = record {
    state = next (event.SendInvoke (act u) (s.req + 1) (writes o)) T;
    run = go_on run (step (event.SendInvoke (act u) (s.req + 1) (writes o))
        (sends act code paths c b d s o S reached work calling goal path last sees (root_moved s r mv) (AtInvoke w i) k (spoilt_by mv)
        (grants_after r) T rebound (looks_moved r mv) none quiet w i refl tied server named knows may) stay);
    holds = (
      invoke_seen act code paths c b d s o S reached work calling goal path last sees (root_moved s r mv) (AtInvoke w i) k (spoilt_by mv)
          (grants_after r) T rebound (looks_moved r mv) none quiet w i refl tied server named knows may
          (later_grants (grants_after r) T rebound.only.sent grants),
      invoke_only act code paths c b d s o S reached work calling goal path last sees (root_moved s r mv) (AtInvoke w i) k (spoilt_by mv)
          (grants_after r) T rebound (looks_moved r mv) none quiet w i refl tied server named knows may,
      line (next (event.SendInvoke (act u) (s.req + 1) (writes o)) T) rebound.calls rebound.now (ends_behind S T (next (event.SendInvoke
          (act u) (s.req + 1) (writes o)) T) rebound.actions (λ q. keeps_one T (act u) (let z = T.action (act u) in record z
          { request = s.req + 1; waits = true; since = T.now }) (record { stage = refl; place = refl; done = refl }) (inr refl) q)),
    );
  }
    where
      mv : Moved
      mv = moves k (AtInvoke w i)

  -- it ends, and hadn't sent an Invoke
  go_over : (a : At) (r : Reply) (end : CallEnd) (undoomed : (j : Coord) → doomed_by u end j ≡ j) → ((q : Root) → root_heard s end q ≡ q) →
      (k : Option Known) (T : State) → machine_run.Run S T → Rebound k T → (k ≡ None → kp.kept ≡ None) → is_invoke s.at ≡ false →
      HasAll (grants_after r) S → WritesLine act code p s o S T a r → Result a r (finds k end)
  go_over a r end undoomed unheard k T run rebound none quiet grants line = record {
    state = T;
    run = run;
    holds = (
      over_seen act code paths c b d s o S reached work calling goal path last sees (root_moved s r (finds k end)) end undoomed k
          (spoilt_by (finds k end)) (grants_after r) T rebound (subst (λ (q : Root). Looks x q
          (record kp { kept = k; spoiled = spoilt_by (finds k end) }) said_now (grants_after r)) (sym (unheard (root_moved s r (finds k end)
          (root_at rt c)))) (looks_moved r (finds k end))) none quiet (later_grants (grants_after r) T rebound.only.sent grants),
      rebound.only,
      line,
    );
  }

  abbrev free : Bool
  free = is_free rt u x c

  -- ---- naming named a binding

  -- what the root keeps after it, where the call goes on by `a'`
  module _ (r : Reply) (a : At) (quiet : is_invoke s.at ≡ false) (k : Known) (a' : At) (grants : HasAll (grants_after r) S)
      (line : (V : State) → V.calls ≡ S.calls → V.now ≡ S.now → KeepsEnds S V → WritesLine act code p s o S V a r)
      (heard : HasHeard m (binding_number k.binding) S) (server : IsServedBy S k.binding k.server) (named : (i : ℕ) → k.inc ≡ Some i →
      IsNamedSo S k.binding i) (above : kp.kept ≡ None → S.kept unit < binding_number k.binding) (unnamed : S.kept unit < binding_number
      k.binding → k.inc ≡ None → ((let n = binding_at S k.binding in n.named) ≡ false) × (root (let n = binding_at S k.binding in
      n.maker) ≡ unit)) (recorded : k.recorded ≡ true → KnowsRecorded S (binding_number k.binding) × ((i : ℕ) × (k.inc ≡ Some i)))
      (go : (q : Known) (T : State) → machine_run.Run S T → Rebound (Some q) T → binding_number q.binding ≡ binding_number k.binding →
      ((n : ℕ) → T.binding n ≡ S.binding n) → T.net ≡ S.net → Result a r (moves (Some q) a')) where
    ends_changed : (q : Known) (n : ℕ) (w : What) → Rebound (Some q) S → Result a r (finds (Some q) (Changed n w))
    ends_changed q n w rebound = go_over a r (Changed n w) (λ j. refl) (λ j. refl) (Some q) S stay rebound (λ e. absurd (cc e)) quiet grants
        (line S refl refl (λ q. same_end (S.action q)))

    -- a new one
    new_goes : S.kept unit < binding_number k.binding → IsFree S unit →
        ((((v : Known) → IsTied kp.kept v → IsTied (Some k) v) × (Some k ≡ None → kp.kept ≡ None))
        ⊎ IsOnly act code paths c b d s o S reached work calling goal path last sees) → Result a r (moves (Some k) a')
    new_goes more is_free_now ties = go k (kept_state act code paths c b d s o S reached work calling goal path last sees k heard more
        is_free_now server named (unnamed more) recorded) (keeps_run act code paths c b d s o S reached work calling goal path last sees k
        heard more is_free_now server named (unnamed more) recorded) (kept_rebound act code paths c b d s o S reached work calling goal path
        last sees k heard more is_free_now server named (unnamed more) recorded ties) refl (λ n. refl) refl

    other_goes : (old : Known) → kp.kept ≡ Some old → Result a r (other_binding free old k a')
    other_goes old is = by (free && binding_less old.binding k.binding) refl
      where
        by : (t : Bool) → (free && binding_less old.binding k.binding) ≡ t →
            Result a r (cond t (moves (Some k) a') (finds (Some old) (Changed 1 (two_bindings old.binding k.binding))))
        by true both =
            let parts = and_parts free (binding_less old.binding k.binding) both in
            let less = ltb-true (binding_number old.binding) (binding_number k.binding) parts.1 in
            let old_kept = (kept_seen act code paths c b d s o S reached work calling goal path last sees old is).kept in
            new_goes (omega (arith, less, old_kept)) (free_seen act code paths c b d s o S reached work calling goal path last sees parts.0
            quiet) (inr (free_only act code paths c b d s o S reached work calling goal path last sees parts.0 quiet))
        by false none =
            ends_changed old 1 (two_bindings old.binding k.binding) (same_rebound act code paths c b d s o S reached work calling goal path
            last sees old old is refl (kept_seen act code paths c b d s o S reached work calling goal path last sees old is))

    -- the one that is kept, again
    again_goes : (old : Known) → kp.kept ≡ Some old → binding_number old.binding ≡ binding_number k.binding →
        Result a r (same_binding old k a' k.inc)
    again_goes old is same_number = by k.inc refl
      where
        knows : (i : ℕ) → k.inc ≡ Some i → (old.inc ≡ None → ⊥)
        knows i inc none =
            let n = named i inc in
            let f = ((kept_seen act code paths c b d s o S reached work calling goal path last sees old is).unnamed none).0 in
            differ (ap (λ (v : ℕ). (S.binding v).named) same_number ∙ n.0) f

        again : SeesKept unit (named_again old k) S
        again = let y = kept_seen act code paths c b d s o S reached work calling goal path last sees old is in record {
          kept = y.kept;
          server = y.server;
          named = y.named;
          unnamed = y.unnamed;
          recorded = λ e. by_or old.recorded k.recorded refl refl e;
        }
          where
            by_or : (v w : Bool) → old.recorded ≡ v → k.recorded ≡ w → (v || w) ≡ true →
                KnowsRecorded S (binding_number old.binding) × ((i : ℕ) × (old.inc ≡ Some i))
            by_or true w v_is w_is e = (kept_seen act code paths c b d s o S reached work calling goal path last sees old is).recorded v_is
            by_or false true v_is w_is e = let z = recorded w_is in
                (subst (KnowsRecorded S) (sym same_number) z.0, has_inc old.inc refl z.1.0 z.1.1)
              where
                has_inc : (v : Option ℕ) → old.inc ≡ v → (i : ℕ) → k.inc ≡ Some i → (j : ℕ) × (v ≡ Some j)
                has_inc None none i inc = absurd (knows i inc none)
                has_inc (Some j) some i inc = (j, refl)
            by_or false false v_is w_is e = absurd (cc e)

        go_again : Result a r (moves (Some (named_again old k)) a')
        go_again = go (named_again old k) S stay (same_rebound act code paths c b d s o S reached work calling goal path last sees old
            (named_again old k) is refl again) same_number (λ n. refl) refl

        by : (v : Option ℕ) → k.inc ≡ v → Result a r (same_binding old k a' v)
        by None inc = go_again
        by (Some i) inc = by_first old.inc refl
          where
            by_first : (v : Option ℕ) → old.inc ≡ v → Result a r (with_inc i (named_again old k) a' v)
            by_first None none = absurd (knows i inc none)
            by_first (Some first) some = test (first == i)
              where
                test : (t : Bool) → Result a r (cond t (moves (Some (named_again old k)) a')
                    (finds (Some (named_again old k)) (Changed old.server (two_incs first i))))
                test true = go_again
                test false = ends_changed (named_again old k) old.server (two_incs first i)
                    (same_rebound act code paths c b d s o S reached work calling goal path last sees old (named_again old k) is refl again)

    bound_goes : Result a r (bound_by free k a' kp.kept)
    bound_goes = by kp.kept refl
      where
        by : (v : Option Known) → kp.kept ≡ v → Result a r (bound_by free k a' v)
        by None none = new_goes (above none) (none_free act code paths c b d s o S reached work calling goal path last sees none)
            (inl ((λ v t. absurd (let y = t.is in cc (sym none ∙ y))), (λ e. absurd (cc e))))
        by (Some old) is = test (binding_eq old.binding k.binding) refl
          where
            test : (t : Bool) → binding_eq old.binding k.binding ≡ t →
                Result a r (cond t (same_binding old k a' k.inc) (other_binding free old k a'))
            test true e = again_goes old is (equal_numbers old.binding k.binding e)
            test false e = other_goes old is

  -- what is kept isn't above what a Bind avoids, where nothing is
  avoids : (avoid : Binding) (n : ℕ) → s.at ≡ AtBind avoid → binding_number avoid < n → kp.kept ≡ None → S.kept unit < n
  avoids avoid n is more none =
      let low : S.kept (root (act rt)) ≤ binding_number kp.avoid = subst (λ (v : Option Known). SeesKeeping (root (act rt)) v kp.avoid S)
      none (root_seen act code paths c b d s o S reached work calling goal path last sees).keeping in
      let low' : S.kept unit ≤ binding_number kp.avoid = subst (λ (v : ℕ). S.kept v ≤ binding_number kp.avoid)
      (unit_same act code paths c b d s o S reached work calling goal path last sees) low in
      let same_avoid : avoid ≡ kp.avoid = subst (SeesStep act code s o kp S) is
      (step_seen act code paths c b d s o S reached work calling goal path last sees) none in
      let e : binding_number avoid ≡ binding_number kp.avoid = ap binding_number same_avoid in
      omega (arith, low', e, more)

  pub quiet_at : (a : At) → s.at ≡ a → is_invoke a ≡ false → is_invoke s.at ≡ false
  quiet_at a is calm = ap is_invoke is ∙ calm

  -- the call ends where it is, with what is kept
  pub over_here : (a : At) (r : Reply) (end : CallEnd) → ((j : Coord) → doomed_by u end j ≡ j) → ((q : Root) → root_heard s end q ≡ q) →
      is_invoke s.at ≡ false → HasAll (grants_after r) S → WritesLine act code p s o S S a r → Result a r (finds kp.kept end)
  over_here a r end undoomed unheard quiet grants line = go_over a r end undoomed unheard kp.kept S stay
      (stays_rebound act code paths c b d s o S reached work calling goal path last sees) (λ e. e) quiet grants line

  -- ---- naming answered

  pub live_goes : (avoid n : Binding) (server i g : ℕ) (stores : List ℕ) → s.at ≡ AtBind avoid →
      ShowsBound act (top_of s.path) avoid S (Some (bound.Live n server i g stores)) →
      Result (AtBind avoid) (Reply.Bound (bound.Live n server i g stores)) (bound_answer free kp.kept (bound.Live n server i g stores))
  live_goes avoid n server i g stores is shows =
      bound_goes r (AtBind avoid) quiet k (AtInvoke k i) grants (λ V calls same_now keeps. (calls, same_now, keeps)) (inl shows.0) shows.1
      (λ j e. (let one : i ≡ j = cc e in subst (IsNamedSo S n) one shows.2)) (avoids avoid (binding_number n) is shows.3)
      (λ less e. absurd (cc e)) (λ e. (inr (m, shows.0), (i, refl))) go
    where
      r : Reply
      r = Reply.Bound (bound.Live n server i g stores)

      k : Known
      k = live_known n server i g stores

      quiet : is_invoke s.at ≡ false
      quiet = quiet_at (AtBind avoid) is refl

      grants : HasAll (grants_after r) S
      grants = new_grants (record { top = top_of s.path; x = x; least = g; named = Some n }) refl
          (λ w e. (let one : n ≡ w = cc e in subst (λ (v : Binding). HasHeard m (binding_number v) S) one (inl shows.0)))

      go : (q : Known) (T : State) → machine_run.Run S T → Rebound (Some q) T → binding_number q.binding ≡ binding_number n →
          ((j : ℕ) → T.binding j ≡ S.binding j) → T.net ≡ S.net → Result (AtBind avoid) r (moves (Some q) (AtInvoke k i))
      go q T run rebound same_number bindings net = go_invoke (AtBind avoid) r k i (Some q) T run rebound (λ e. absurd (cc e)) quiet grants
          (record { old = q; is = refl; same = same_number })
          (ap (λ (v : machine.Binding). v.server) (bindings (binding_number n)) ∙ shows.1) (
            ap (λ (v : machine.Binding). v.named) (bindings (binding_number n)) ∙ shows.2.0,
            ap (λ (v : machine.Binding). v.incarnation) (bindings (binding_number n)) ∙ shows.2.1,
          )
          (inr (m, live_in)) (inl live_in) (λ V calls same_now keeps. (calls, same_now, keeps))
        where
          live_in : In (machine.Live m (binding_number n)) T.net
          live_in = subst (In (machine.Live m (binding_number n))) (sym net) shows.0

  pub make_goes : (avoid n : Binding) (server g : ℕ) (stores : List ℕ) → s.at ≡ AtBind avoid →
      ShowsBound act (top_of s.path) avoid S (Some (bound.Make n server g stores)) →
      Result (AtBind avoid) (Reply.Bound (bound.Make n server g stores)) (bound_answer free kp.kept (bound.Make n server g stores))
  make_goes avoid n server g stores is shows = by stores
    where
      k : Known
      k = made_known n server g stores

      r : Reply
      r = Reply.Bound (bound.Make n server g stores)

      quiet : is_invoke s.at ≡ false
      quiet = quiet_at (AtBind avoid) is refl

      grants : HasAll (grants_after r) S
      grants = new_grants (record { top = top_of s.path; x = x; least = g; named = Some n }) refl
          (λ w e. (let one : n ≡ w = cc e in subst (λ (v : Binding). HasHeard m (binding_number v) S) one (inr shows.0)))

      maker_unit : root (let v = binding_at S n in v.maker) ≡ unit
      maker_unit = ap root shows.2 ∙ top_unit act code paths c b d s o S reached work calling goal path last sees

      unnamed : S.kept unit < binding_number n → (let v = binding_at S n in v.named) ≡ false
      unnamed less = test (let v = binding_at S n in v.named) refl
        where
          test : (t : Bool) → (let v = binding_at S n in v.named) ≡ t → t ≡ false
          test false e = refl
          test true e =
              let h = (holds act code paths c b d s o S reached work calling goal path last sees).bindings (binding_number n) e in
              let low : binding_number n ≤ S.kept unit = subst (λ (v : ℕ). binding_number n ≤ S.kept v) maker_unit h.kept in
              absurd (omega (arith, less, low))

      by : (ss : List ℕ) → Result (AtBind avoid) r (made_by free k kp.kept (load_from k ss))
      by [] = over_here (AtBind avoid) r (Lost 1 false) (λ j. refl) (λ j. refl) quiet grants (refl, refl, λ q. same_end (S.action q))
      by (w ∷ ws) = bound_goes r (AtBind avoid) quiet k (AtLoad k w ws) grants (λ V calls same_now keeps. (calls, same_now, keeps))
          (inr shows.0) shows.1 (λ j e. absurd (cc e)) (avoids avoid (binding_number n) is shows.3) (λ less e. (unnamed less, maker_unit))
          (λ e. absurd (cc e))
          (λ q T run rebound same_number bindings net.
          go_silent (AtBind avoid) r (AtLoad k w ws) (Some q) T run rebound (λ e. absurd (cc e)) quiet refl grants (
            record { old = q; is = refl; same = same_number },
            (
              subst (In (machine.Made m (binding_number n))) (sym net) shows.0,
              ap (λ (v : machine.Binding). v.server) (bindings (binding_number n)) ∙ shows.1,
            ),
          ) (rebound.calls, rebound.now, keeps_ends S T rebound.actions))

  -- ---- a store answered

  module _ (k : Known) (n : ℕ) (rest : List ℕ) (is : s.at ≡ AtLoad k n rest) (st : ObjectState) (last_one : IsCurrent S.naming
      (let v = binding_at S k.binding in v.maker) (binding_number k.binding) → LoadsTheLast S (state_code act code st)) where
    stands : SeesStep act code s o kp S (AtLoad k n rest)
    stands = subst (SeesStep act code s o kp S) is (step_seen act code paths c b d s o S reached work calling goal path last sees)

    abbrev bn : ℕ
    bn = binding_number k.binding

    abbrev loaded_state' : State
    loaded_state' = next (Load bn (state_code act code st)) S

    maker_is : (let v = binding_at S k.binding in v.maker) ≡ m
    maker_is = ((holds act code paths c b d s o S reached work calling goal path last sees).mail (machine.Made m bn) stands.1.0).1

    load_run : machine_run.Run S loaded_state'
    load_run = step (Load bn (state_code act code st)) (
      subst (λ (v : Act). In (machine.Made v bn) S.net) (sym maker_is) stands.1.0,
      (let e : S.kept unit ≡ bn = tied_kept act code paths c b d s o S reached work calling goal path last sees kp.kept S
          (stays_rebound act code paths c b d s o S reached work calling goal path last sees).keeping k stands.0 in
          let f : root (let v = binding_at S k.binding in v.maker) ≡ unit = ap root maker_is ∙ top_unit act code paths c b d s o S reached
          work calling goal path last sees in subst (λ (v : ℕ). bn ≤ S.kept v) (sym f) (omega (arith, e))),
      last_one,
    ) stay

    load_rebound : Rebound kp.kept loaded_state'
    load_rebound = record {
      only = record {
        rest = refl;
        actions = λ q away. refl;
        ended = λ q over. refl;
        kept = λ v away. refl;
        bindings = λ v. (refl, refl);
        named = λ v h. refl;
        calls = λ e i. i;
        fresh = λ e i. inl i;
        sent = λ y i. inr i;
      };
      actions = refl;
      calls = refl;
      now = refl;
      naming = refl;
      keeping = keeps kp.kept (stays_rebound act code paths c b d s o S reached work calling goal path last sees).keeping;
      ties = inl ((λ q t. t), (λ e. e));
    }
      where
        keeps : (v : Option Known) → SeesKeeping unit v kp.avoid S → SeesKeeping unit v kp.avoid loaded_state'
        keeps None low = low
        keeps (Some v) seen = kept_same unit v S loaded_state' refl (λ j. refl) (λ y i. inr i) seen

    pub load_goes : Result (AtLoad k n rest) (Reply.Loaded (loaded.State st)) (moves kp.kept (AtActivate k st))
    load_goes = go_silent (AtLoad k n rest) (Reply.Loaded (loaded.State st)) (AtActivate k st) kp.kept loaded_state' load_run load_rebound
        (λ e. e) (quiet_at (AtLoad k n rest) is refl) refl old_grants
        (stands.0, (inr stands.1.0, stands.1.1), inl refl) (refl, refl, λ q. same_end (S.action q))

  -- ---- the server took the copy

  module _ (k : Known) (st : ObjectState) (is : s.at ≡ AtActivate k st) (i : ℕ)
      (heard : In (machine.Activated (binding_number k.binding) i) S.net) where
    taken : SeesStep act code s o kp S (AtActivate k st)
    taken = subst (SeesStep act code s o kp S) is (step_seen act code paths c b d s o S reached work calling goal path last sees)

    abbrev ra : Reply
    ra = Reply.Activated i

    calm : is_invoke s.at ≡ false
    calm = quiet_at (AtActivate k st) is refl

    pub activated_goes : Result (AtActivate k st) ra (activated_by k i kp.kept)
    activated_goes = by kp.kept refl
      where
        noted : (old : Known) → kp.kept ≡ Some old → binding_number old.binding ≡ binding_number k.binding → (v : Option ℕ) → old.inc ≡ v →
            Result (AtActivate k st) ra (with_inc i old (AtNote k i) v)
        noted old is_kept same_number None none =
            let heard_old = subst (λ (j : ℕ). In (machine.Activated j i) S.net) (sym same_number) heard in
            let T = named_state act code paths c b d s o S reached work calling goal path last sees old is_kept none i heard_old in
            let here : T.binding (binding_number k.binding) ≡ record (S.binding (binding_number old.binding))
            { named = true; incarnation = i } = ap T.binding (sym same_number)
            ∙ named_here act code paths c b d s o S reached work calling goal path last sees old is_kept none i heard_old in
            go_silent (AtActivate k st) ra (AtNote k i) (Some (record old { inc = Some i })) T (names_run act code paths c b d s o S reached
            work calling goal path last sees old is_kept none i heard_old) (named_rebound act code paths c b d s o S reached work
            calling goal path last sees old is_kept none i heard_old) (λ e. absurd (cc e)) calm refl old_grants (
              record { old = record old { inc = Some i }; is = refl; same = same_number },
              (taken.1.0, ap (λ (v : machine.Binding). v.server) here ∙ ap (λ (j : ℕ). (S.binding j).server) same_number ∙ taken.1.1),
              (ap (λ (v : machine.Binding). v.named) here, ap (λ (v : machine.Binding). v.incarnation) here),
            ) (refl, refl, λ q. same_end (S.action q))
        noted old is_kept same_number (Some first) some = test (first == i) refl
          where
            test : (t : Bool) → (first == i) ≡ t → Result (AtActivate k st) ra
                (cond t (moves (Some old) (AtNote k i)) (finds (Some old) (Changed old.server (two_incs first i))))
            test false e = go_over (AtActivate k st) ra (Changed old.server (two_incs first i)) (λ j. refl) (λ j. refl) (Some old) S stay
                (same_rebound act code paths c b d s o S reached work calling goal path last sees old old is_kept refl
                (kept_seen act code paths c b d s o S reached work calling goal path last sees old is_kept)) (λ f. absurd (cc f)) calm
                old_grants (refl, refl, λ q. same_end (S.action q))
            test true e =
                let n = (kept_seen act code paths c b d s o S reached work calling goal path last sees old is_kept).named first some in
                go_silent (AtActivate k st) ra (AtNote k i) (Some old) S stay
                (same_rebound act code paths c b d s o S reached work calling goal path last sees old old is_kept refl (kept_seen act
                code paths c b d s o S reached work calling goal path last sees old is_kept)) (λ f. absurd (cc f)) calm refl old_grants (
                  record { old = old; is = refl; same = same_number },
                  taken.1,
                  (
                    ap (λ (j : ℕ). (S.binding j).named) (sym same_number) ∙ n.0,
                    ap (λ (j : ℕ). (S.binding j).incarnation) (sym same_number) ∙ n.1 ∙ eqb-true first i e,
                  ),
                ) (refl, refl, λ q. same_end (S.action q))

        by : (v : Option Known) → kp.kept ≡ v → Result (AtActivate k st) ra (activated_by k i v)
        by None none = absurd (let t = taken.0 in let y = t.is in cc (sym none ∙ y))
        by (Some old) is_kept = subst (λ (t : Bool). Result (AtActivate k st) ra (cond t (with_inc i old (AtNote k i) old.inc)
            (moves (Some old) (AtNote k i)))) (sym test_is) (noted old is_kept same_number old.inc refl)
          where
            same_number : binding_number old.binding ≡ binding_number k.binding
            same_number = let t = taken.0 in let two : ◌≡◌ {A = Option Known} (Some old) (Some t.old) = sym is_kept ∙ t.is in
                let one : old ≡ t.old = cc two in ap (λ (v : Known). binding_number v.binding) one ∙ t.same

            test_is : binding_eq old.binding k.binding ≡ true
            test_is = ap (λ (j : ℕ). j == binding_number k.binding) same_number ∙ number_self (binding_number k.binding)

  -- ---- naming recorded the binding

  module _ (k : Known) (i : ℕ) (is : s.at ≡ AtNote k i) where
    noting : SeesStep act code s o kp S (AtNote k i)
    noting = subst (SeesStep act code s o kp S) is (step_seen act code paths c b d s o S reached work calling goal path last sees)

    pub recorded_goes : In (machine.Recorded (binding_number k.binding)) S.net →
        Result (AtNote k i) (Reply.Noted recorded.Yes) (moves (recorded_kept k kp.kept) (AtInvoke k i))
    recorded_goes said_so = by kp.kept refl
      where
        yes_goes : (old : Known) → kp.kept ≡ Some old → binding_number old.binding ≡ binding_number k.binding →
            Result (AtNote k i) (Reply.Noted recorded.Yes) (moves (Some (record old { recorded = true })) (AtInvoke k i))
        yes_goes old is_kept same_number =
            go_invoke (AtNote k i) (Reply.Noted recorded.Yes) k i (Some new) S stay (same_rebound act code paths c b d s o S reached work
            calling goal path last sees old new is_kept refl seen) (λ f. absurd (cc f)) (quiet_at (AtNote k i) is refl) old_grants
            (record { old = new; is = refl; same = same_number }) noting.1.1 noting.2 (inl said_so) (inr (inl noting.1.0))
            (λ V calls same_now keeps. (calls, same_now, keeps))
          where
            new : Known
            new = record old { recorded = true }

            has_inc : (v : Option ℕ) → old.inc ≡ v → (j : ℕ) × (v ≡ Some j)
            has_inc (Some j) some = (j, refl)
            has_inc None none = absurd (differ (ap (λ (j : ℕ). (S.binding j).named) same_number ∙ noting.2.0)
                ((kept_seen act code paths c b d s o S reached work calling goal path last sees old is_kept).unnamed none).0)

            seen : SeesKept unit new S
            seen = let y = kept_seen act code paths c b d s o S reached work calling goal path last sees old is_kept in record {
              kept = y.kept;
              server = y.server;
              named = y.named;
              unnamed = y.unnamed;
              recorded = λ e. (subst (KnowsRecorded S) (sym same_number) (inl said_so), has_inc old.inc refl);
            }

        by : (v : Option Known) → kp.kept ≡ v → Result (AtNote k i) (Reply.Noted recorded.Yes) (moves (recorded_kept k v) (AtInvoke k i))
        by None none = absurd (let t = noting.0 in let y = t.is in cc (sym none ∙ y))
        by (Some old) is_kept = subst (λ (t : Bool). Result (AtNote k i) (Reply.Noted recorded.Yes) (moves
            (cond t (Some (record old { recorded = true })) (Some old)) (AtInvoke k i))) (sym test_is) (yes_goes old is_kept same_number)
          where
            same_number : binding_number old.binding ≡ binding_number k.binding
            same_number = let t = noting.0 in let two : ◌≡◌ {A = Option Known} (Some old) (Some t.old) = sym is_kept ∙ t.is in
                let one : old ≡ t.old = cc two in ap (λ (v : Known). binding_number v.binding) one ∙ t.same

            test_is : binding_eq old.binding k.binding ≡ true
            test_is = ap (λ (j : ℕ). j == binding_number k.binding) same_number ∙ number_self (binding_number k.binding)
