-- A coordinator is seen whole beside what others do.
use Rattle.arj_law_parts.proofs.Words
use Words.{◌≡◌, ◌≢◌, ◌⊎◌, ◌∙◌, ◌*◌, ◌≤◌, ◌<◌, ℕ, Option, Some, None, refl, sym, ap, subst, inl, inr, ⊎_elim, Binding, Op, Uid, top_of, At}
use Words.{AtActivate, AtBind, AtInvoke, AtLoad, AtNote, Known, Steps, Coord, Keeping, Root, keeping_of, kept_of, root_at, binding_number}
use Words.{Branch, Tree, branch_of, root_of}
use Rattle.arj_law_lock_view.proofs.Terms
use Terms.{Act, In, Root as Unit, root, Run, State, Holds, Acts, IsHere, IsIdle, SeesAction, SeesActions, IsReached, OnlyCalled, Codes}
use Terms.{state_code, OnlyNaming, OnlyEnded, SeesWhole, HasHeard, SeesCoord, SeesKeeping, SeesKept, SeesRoot, SeesStep, invoke_of}
use Terms.{IsUnitOf}
use Terms.machine
use Rattle.arj_law_lock_view.proofs.view
use view.{AskSteps.named_stays, AskSteps.server_stays, IncludeSteps.nobody, InputSteps.whole_stays, MoveSteps.moves_none}
use view.{PlanSteps.commits_stay_seen, WholeSteps.stays_coord}
use view.EverSteps.{ever, reached_kept}
use view.RootSteps.{heard_later, keeping_later, knows_later, step_later}
use Rattle.arj_law_lock_view.specs.view.Outside.{CallsElsewhere, EndsElsewhere, IncludesElsewhere, IsAway, NamingElsewhere, StopsElsewhere}
use Rattle.arj_law_lock_view.specs.view.Roots.{IsMadeFor}

-- a coordinator that did nothing is seen whole where it is seen, and no include has a line
module _ (act : Acts) (code : Codes) (x : ℕ) (c : Coord) (S T : State) (reached : IsReached S) (run : Run S T)
    (whole : SeesWhole act code x c S) where
  still_whole : T.includes ≡ S.includes → SeesCoord act code x c T → SeesWhole act code x c T
  still_whole same coord = whole_stays act code x c c S T nobody nobody reached run (moves_none x c nobody nobody) same whole coord
      (λ w e s l new. absurd new) (λ w e m new. absurd new) (λ w q new. absurd new)

-- ---- a call of another unit

module _ (act : Acts) (code : Codes) (x unit : ℕ) (c : Coord) (S T : State) (away : IsAway act unit c) (only : OnlyCalled unit S T)
    (sees : SeesCoord act code x c S) where
  actions_away : SeesActions act x c T.action
  actions_away = let a = sees.actions in record {
    each = λ u b d found works its. subst (SeesAction x b d) (sym (only.actions (act u) (away u b found))) (a.each u b d found works its);
    opened = λ u b r found above un. ap (λ (q : machine.Action). q.stage) (only.actions (Unit (root (act u))) (away u b found))
        ∙ a.opened u b r found above un;
    quiet = λ u b found. ap (λ (q : machine.Action). q.waits) (only.actions (Unit (root (act u))) (away u b found)) ∙ a.quiet u b found;
    others = λ u b k found home its. subst (λ (q : machine.Action). IsHere act c.tree k ⊎ IsIdle q)
        (sym (only.actions k (λ same. away u b found (sym home ∙ same)))) (a.others u b k found home its);
  }

  root_away : (u : Uid) (r : Root) (t : Tree) → root (act u) ≢ unit → SeesRoot act x u r t S → SeesRoot act x u r t T
  root_away u r t other s = record {
    keeping = keeping_later unit S T only (root (act u)) (kept_of x r) (let k = keeping_of x r in k.avoid) other s.keeping;
    spent = s.spent;
    said = λ z there of. (let q = s.said z there of in record {
      branch = q.branch;
      there = q.there;
      path = q.path;
      of = q.of;
      call = q.call;
      called = only.calls q.call q.called;
      by = q.by;
    });
    calls = λ d i home. ⊎_elim (λ old. s.calls d old home) (λ its. absurd (other (sym home ∙ its))) (only.fresh d i);
    heard = λ g b there of named. heard_later unit S T only (act g.top) _ (s.heard g b there of named);
  }

  coord_away : SeesCoord act code x c T
  coord_away = record {
    actions = actions_away;
    roots = λ u b found own. root_away u (root_at u c) c.tree (away u b found) (sees.roots u b found own);
    calls = λ u d st o works calling about goal. (let kp = keeping_of x (root_at (root_of st.path) c) in step_later unit S T only act code
        st o kp kp (λ k tied. tied) (λ none. (none, refl)) st.at (sees.calls u d st o works calling about goal));
    plain = sees.plain;
  }

pub calls_elsewhere : CallsElsewhere
calls_elsewhere act code x unit c S T reached run away only whole = still_whole act code x c S T reached run whole
    (ap (λ (s : State). s.includes) only.rest) (coord_away act code x unit c S T away only whole.coord)

-- ends of another unit leave bindings and calls as they are
ended_called : (unit : ℕ) (S T : State) → ((m : machine.Message) → In m S.net → In m T.net) → OnlyEnded unit S T → OnlyCalled unit S T
ended_called unit S T sent only = record {
  rest = only.rest
      ∙ (λ i. record S { now = T.now; binding = sym bindings i; action = T.action; kept = sym kept i; calls = sym calls i; net = T.net });
  actions = only.others;
  ended = only.ended;
  kept = λ k other. ap (λ (f : ℕ → ℕ). f k) kept;
  bindings = λ b. (ap (λ (f : ℕ → machine.Binding). (f b).server) bindings, ap (λ (f : ℕ → machine.Binding). (f b).maker) bindings);
  named = λ b which. ap (λ (f : ℕ → machine.Binding). f b) bindings;
  calls = λ d i. subst (In d) (sym calls) i;
  fresh = λ d i. inl (subst (In d) calls i);
  sent = sent;
}
  where
    bindings : T.binding ≡ S.binding
    bindings = ap (λ (s : State). s.binding) only.rest

    kept : T.kept ≡ S.kept
    kept = ap (λ (s : State). s.kept) only.rest

    calls : T.calls ≡ S.calls
    calls = ap (λ (s : State). s.calls) only.rest

pub ends_elsewhere : EndsElsewhere
ends_elsewhere act code x unit c S T reached run away only whole =
    calls_elsewhere act code x unit c S T reached run away (ended_called unit S T (let v = ever reached run in v.sent) only) whole

-- ---- an include of another unit

pub includes_elsewhere : IncludesElsewhere
includes_elsewhere act code x unit c S T reached run away only fresh whole = record {
  coord = subst (SeesCoord act code x c) (sym only) (stays_coord act code x c c S S.action T.now T.includes whole.coord (let k = whole.coord
      in k.actions) (λ w q there. (q, there, refl)) (λ w q there. (q, there, refl)) (λ us h. h) (λ w. refl) (λ w y z works calling. works));
  includes = (let i = whole.includes in record {
    lines = λ u b k found own there home.
        ⊎_elim (λ old. i.lines u b k found own old home) (λ its. absurd (away u b found (sym home ∙ its))) (fresh k there);
    joins = i.joins;
    waits = λ u d s k works is load. (let g = i.waits u d s k works is load in record {
      sent = (let v = ever reached run in v.sent (machine.Granted (act (top_of s.path)) (k.grant * 4294967296)) g.sent);
      noted = g.noted;
    });
  });
  commits = λ u d k works is. commits_stay_seen x (act u) k S T reached run (whole.commits u d k works is);
  units = λ u b found own over. ap (λ (s : State). (s.action (Unit (root (act u)))).stage) only ∙ whole.units u b found own over;
}

-- ---- naming

module _ (act : Acts) (code : Codes) (x : ℕ) (c : Coord) (S T : State) (reached : IsReached S) (run : Run S T) (only : OnlyNaming S T)
    (sees : SeesCoord act code x c S) where
  its : Holds S
  its = let k = reached_kept S reached in k.holds

  made_below : (m : Act) (b : ℕ) → In (machine.Made m b) S.net → b < S.naming.bound
  made_below m b i = let k = its.mail (machine.Made m b) i in k.3

  kept_named : (unit : ℕ) (k : Known) → SeesKept unit k S → SeesKept unit k T
  kept_named unit k s = record {
    kept = ap (λ (q : State). q.kept unit) only.rest ∙ s.kept;
    server = server_stays S T reached run k.binding k.server below s.server;
    named = λ i is. named_stays S T reached run k.binding i (s.named i is);
    unnamed = λ none. (let u = s.unnamed none in let e = only.bindings (binding_number k.binding) below in
        (ap (λ (b : machine.Binding). b.named) e ∙ u.0, ap (λ (b : machine.Binding). root b.maker) e ∙ u.1));
    recorded = λ is. (let r = s.recorded is in (knows_later S T (binding_number k.binding) only.sent r.0, r.1));
  }
    where
      below : binding_number k.binding < S.naming.bound
      below = subst (λ (b : ℕ). b < S.naming.bound) s.kept (let n = its.naming in n.kept_below unit)

  keeping_named : (unit : ℕ) (o : Option Known) (avoid : Binding) → SeesKeeping unit o avoid S → SeesKeeping unit o avoid T
  keeping_named unit None avoid s = subst (λ (k : ℕ). k ≤ binding_number avoid) (sym (ap (λ (q : State). q.kept unit) only.rest)) s
  keeping_named unit (Some k) avoid s = kept_named unit k s

  heard_named : (m : Act) (b : ℕ) → HasHeard m b S → HasHeard m b T
  heard_named m b (inl i) = inl (only.sent (machine.Live m b) i)
  heard_named m b (inr i) = inr (only.sent (machine.Made m b) i)

  made_named : (m : Act) (k : Known) → IsMadeFor m k S → IsMadeFor m k T
  made_named m k h = (
    only.sent (machine.Made m (binding_number k.binding)) h.0,
    server_stays S T reached run k.binding k.server (made_below m (binding_number k.binding) h.0) h.1,
  )

  step_named : (s : Steps) (o : Op) (kp : Keeping) (a : At) → SeesStep act code s o kp S a → SeesStep act code s o kp T a
  step_named s o kp (AtBind avoid) h = h
  step_named s o kp (AtLoad k n rest) h = (h.0, made_named (act (top_of s.path)) k h.1)
  step_named s o kp (AtActivate k st) h =
      (h.0, made_named (act (top_of s.path)) k h.1, only.sent (machine.Activate (binding_number k.binding) (state_code act code st)) h.2)
  step_named s o kp (AtNote k i) h = (h.0, made_named (act (top_of s.path)) k h.1, named_stays S T reached run k.binding i h.2)
  step_named s o kp (AtInvoke k i) h = (
    h.0,
    server_stays S T reached run k.binding k.server (let n = its.bindings (binding_number k.binding) h.2.0 in n.below) h.1,
    named_stays S T reached run k.binding i h.2,
    only.sent (machine.Invoke (invoke_of act s o k)) h.3,
  )

  same_calls : T.calls ≡ S.calls
  same_calls = ap (λ (q : State). q.calls) only.rest

  coord_named : SeesCoord act code x c T
  coord_named = record {
    actions = subst (SeesActions act x c) (sym (ap (λ (q : State). q.action) only.rest)) sees.actions;
    roots = λ u b found own. (let r = root_at u c in let s = sees.roots u b found own in record {
      keeping = keeping_named (root (act u)) (kept_of x r) (let k = keeping_of x r in k.avoid) s.keeping;
      spent = s.spent;
      said = λ z there of. (let q = s.said z there of in record {
        branch = q.branch;
        there = q.there;
        path = q.path;
        of = q.of;
        call = q.call;
        called = subst (In q.call) (sym same_calls) q.called;
        by = q.by;
      });
      calls = λ d i home. s.calls d (subst (In d) same_calls i) home;
      heard = λ g b there of named. heard_named (act g.top) (binding_number b) (s.heard g b there of named);
    });
    calls = λ u d st o works calling about goal.
        step_named st o (keeping_of x (root_at (root_of st.path) c)) st.at (sees.calls u d st o works calling about goal);
    plain = sees.plain;
  }

pub naming_elsewhere : NamingElsewhere
naming_elsewhere act code x c S T reached run only whole = still_whole act code x c S T reached run whole
    (ap (λ (s : State). s.includes) only.rest) (coord_named act code x c S T reached run only whole.coord)

-- ---- a coordinator that stops

module _ (S : State) (A : Act → machine.Action) where
  abbrev After : State
  After = record S { action = A }

  keeping_after_stop : (unit : ℕ) (o : Option Known) (avoid : Binding) → SeesKeeping unit o avoid S → SeesKeeping unit o avoid After
  keeping_after_stop unit None avoid s = s
  keeping_after_stop unit (Some k) avoid s =
      record { kept = s.kept; server = s.server; named = s.named; unnamed = s.unnamed; recorded = s.recorded }

  step_after_stop : (act : Acts) (code : Codes) (s : Steps) (o : Op) (kp : Keeping) (a : At) → SeesStep act code s o kp S a →
      SeesStep act code s o kp After a
  step_after_stop act code s o kp (AtBind avoid) h = h
  step_after_stop act code s o kp (AtLoad k n rest) h = h
  step_after_stop act code s o kp (AtActivate k st) h = h
  step_after_stop act code s o kp (AtNote k i) h = h
  step_after_stop act code s o kp (AtInvoke k i) h = h

  coord_after_stop : (act : Acts) (code : Codes) (x : ℕ) (c : Coord) → ((u : Uid) (b : Branch) (a : Act) → branch_of u c.tree ≡ Some b →
      root a ≡ root (act u) → A a ≡ S.action a) → SeesCoord act code x c S → SeesCoord act code x c After
  coord_after_stop act code x c away sees = record {
    actions = (let a = sees.actions in record {
      each = λ u b d found works its. subst (SeesAction x b d) (sym (away u b (act u) found refl)) (a.each u b d found works its);
      opened = λ u b r found above un. ap (λ (q : machine.Action). q.stage) (away u b (Unit (root (act u))) found refl)
          ∙ a.opened u b r found above un;
      quiet = λ u b found. ap (λ (q : machine.Action). q.waits) (away u b (Unit (root (act u))) found refl) ∙ a.quiet u b found;
      others = λ u b k found home its.
          subst (λ (q : machine.Action). IsHere act c.tree k ⊎ IsIdle q) (sym (away u b k found home)) (a.others u b k found home its);
    });
    roots = λ u b found own. (let r = root_at u c in let s = sees.roots u b found own in record {
      keeping = keeping_after_stop (root (act u)) (kept_of x r) (let k = keeping_of x r in k.avoid) s.keeping;
      spent = s.spent;
      said = λ z there of. (let q = s.said z there of in
          record { branch = q.branch; there = q.there; path = q.path; of = q.of; call = q.call; called = q.called; by = q.by });
      calls = s.calls;
      heard = s.heard;
    });
    calls = λ u d st o works calling about goal.
        step_after_stop act code st o (keeping_of x (root_at (root_of st.path) c)) st.at (sees.calls u d st o works calling about goal);
    plain = sees.plain;
  }

pub stops_elsewhere : StopsElsewhere
stops_elsewhere act code x t c S T reached run away only whole =
    still_whole act code x c S T reached run whole (ap (λ (s : State). s.includes) only.rest)
    (subst (SeesCoord act code x c) (sym only.rest) (coord_after_stop S T.action act code x c
    (λ u b a found home. only.others a (λ its. away u b found (subst (IsUnitOf act t) home its))) whole.coord))
