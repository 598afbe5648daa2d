-- Calls and includes, walked through at the coordinator: the machine has no part in them.
use Rattle.arj_law_parts.proofs.Words
use Words.{◌≡◌, ◌≢◌, ◌⊎◌, ◌<◌, ℕ, ◌+◌, ◌==◌, ◌&&◌, List, [], ◌∷◌, ◌++◌, Bool, true, false, Option, Some, None, refl, sym, ◌∙◌, ap, subst}
use Words.{inl, inr, ⊎_elim, length, append-nil, ⊤, if◌then◌else◌, AllByRecursion, list_any, uid_cases, Uid, End, Kind, Path, uids_of}
use Words.{ObjectState, Reply, actor, top_of, goes_on, step_call, ends_call, end_line, root_heard, root_moved, root_lost, doomed_by}
use Words.{kept_at, give_up_call, gaveup_lines, call_steps, renewed, next_req, granted_by, notes_grant, store_of, Known, Steps, Goal, Run}
use Words.{Include, At, AtBind, AtLoad, AtActivate, AtNote, AtInvoke, CallEnd, Answered, Included, Conflict, Changed, Lost, CallStep, On}
use Words.{Ended, Moved, next_ask, next_node, ask_at, start, Coord, Doing, Joined, Root, Keeping, Grant, Now, Idle, Calling, Committing}
use Words.{doing_of, on_doing, on_root, root_at, keeping_of, with_keeping, joined_with, same_join, same_said, later_state, is_free, Disk}
use Words.{says, say_for, Parts, with_coord, uid_number, with_number, binding_eq, binding_less, unbound, AreAll, Tree, Branch, Family}
use Words.{family_of, is_own, at_place, branch_of, is_open, is_open_branch, doomed_at, doomed_branch, root_of, ends_of, set_place}
use Words.{uses_object, with_family, place_other, Seen}
use Words.kind
use Words.loaded
use Words.bound
use Words.recorded
use Words.invoked
use Words.calls
use Words.order
use Rattle.arj_law_disk_view.proofs.Terms
use Terms.{World, State, naming, some_is, up, place_same, Walks, Up, Kinds, IsNamedCommit, SeesDisks, SeesCoord, IsSeenByDisks, IsKnown}
use Terms.{KnowsRoot, KnowsNow, ClaimsReply, Works, WorksBy}
use Rattle.arj_law_disk_view.proofs.view
use view.{CommitWalks.later_known, Ended.place_long, FreeAsks.MayAsk, FreeAsks.asks_walk}
use view.Doings.{own_is, doing_here, doing_other, doing_tree}
use view.HeardWalks.{is_say, say_walk, coord_seen, roots_seen, gaveup_say}
use view.Notes.{all_put, known_at, doing_noted}
use Rattle.arj_law_disk_view.specs.view.Coordinating.{CallsBegin, IncludesBegin, CallsAreHeard, CallsAreGivenUp}

-- ---- an action in its place

-- an action is put in its place; the others stay
set_own : (u : Uid) (c : Coord) (b : Branch) → branch_of u c.tree ≡ Some b →
    (is_own u c.tree ≡ true) × (at_place u.num c.tree.branches ≡ Some b)
set_own u c b is = by (is_own u c.tree) refl is
  where
    by : (g : Bool) → is_own u c.tree ≡ g → (if g then at_place u.num c.tree.branches else None) ≡ Some b →
        (is_own u c.tree ≡ true) × (at_place u.num c.tree.branches ≡ Some b)
    by true e h = (e, h)
    by false e h = absurd (cc h)

pub set_here : (u : Uid) (b z : Branch) (c : Coord) → branch_of u c.tree ≡ Some b →
    branch_of u (record c.tree { branches = set_place u.num z c.tree.branches }) ≡ Some z
set_here u b z c found = let p = set_own u c b found in
    ap (λ g. if g then at_place u.num (set_place u.num z c.tree.branches) else None) p.0 ∙ place_same u.num z b c.tree.branches p.1

pub set_other : (u : Uid) (b z : Branch) (c : Coord) → branch_of u c.tree ≡ Some b → (w : Uid) → w ≢ u →
    branch_of w (record c.tree { branches = set_place u.num z c.tree.branches }) ≡ branch_of w c.tree
set_other u b z c found w other = by (is_own w c.tree) refl
  where
    by : (g : Bool) → is_own w c.tree ≡ g → (if is_own w c.tree then at_place w.num (set_place u.num z c.tree.branches) else None)
        ≡ (if is_own w c.tree then at_place w.num c.tree.branches else None)
    by true e = ap (λ g. if g then at_place w.num (set_place u.num z c.tree.branches) else None) e
        ∙ place_other u.num w.num z c.tree.branches (λ same. other (own_is u w c (set_own u c b found).0 e same))
        ∙ sym (ap (λ g. if g then at_place w.num c.tree.branches else None) e)
    by false e = ap (λ g. if g then at_place w.num (set_place u.num z c.tree.branches) else None) e
        ∙ sym (ap (λ g. if g then at_place w.num c.tree.branches else None) e)

-- ---- what calls change of a coordinator

-- an action that is in no commit
abbrev pub IsCalm : Now → Type 0
IsCalm Idle = ⊤
IsCalm (Calling s) = ⊤
IsCalm (Committing m) = ⊥

calm_by : (x : ℕ) (S : State) (t : ℕ) (now next : Now) → IsCalm now → IsCalm next → WorksBy x S t now → WorksBy x S t next
calm_by x S t Idle Idle a b w = w
calm_by x S t Idle (Calling s) a b w = w
calm_by x S t (Calling s) Idle a b w = w
calm_by x S t (Calling s) (Calling r) a b w = w
calm_by x S t Idle (Committing m) a b w = absurd b
calm_by x S t (Calling s) (Committing m) a b w = absurd b
calm_by x S t (Committing m) next a b w = absurd a

calm_works : (x : ℕ) (tops : Kinds) (S : State) (t : ℕ) (kd : Kind) (now next : Now) → IsCalm now → IsCalm next → Works x tops S t kd now →
    Works x tops S t kd next
calm_works x tops S t kind.Nested now next a b w = w
calm_works x tops S t kind.Serial now next a b w = w
calm_works x tops S t kind.Top now next a b w = (w.0, calm_by x S t now next a b w.1)
calm_works x tops S t kind.Independent now next a b w = (w.0, calm_by x S t now next a b w.1)
calm_works x tops S t kind.Constituent now next a b w = (w.0, calm_by x S t now next a b w.1)

calm_known : (x : ℕ) (W : World) (now : Now) → IsCalm now → KnowsNow x W now
calm_known x W Idle a = tt
calm_known x W (Calling s) a = tt
calm_known x W (Committing m) a = absurd a

module _ (x k : ℕ) (tops : Kinds) (W : World) (d : Disk) (t : Parts) where
  -- what is seen with this coordinator
  abbrev pub With : Coord → Seen → Type 0
  With c N = SeesDisks x tops W (up k d (with_coord t c) N)

  -- a root's objects are counted
  family_seen : (c : Coord) (N : Seen) (root : Uid) (f : Family) → With c N → With (record c { tree = with_family root f c.tree }) N
  family_seen c N root f s = coord_seen x k tops W N d t c (record c { tree = with_family root f c.tree })
      (λ h. record { node = h.node; present = h.present; working = h.working; closed = h.closed; future = h.future; bare = h.bare })
      (λ n. record { settled = n.settled; taken = n.taken; roots = n.roots; plans = n.plans }) s

  -- a root takes note of what is known
  root_seen : (c : Coord) (N : Seen) (root : Uid) (f : Root → Root) → ((r : Root) → KnowsRoot x W r → KnowsRoot x W (f r)) → With c N →
      With (on_root root f c) N
  root_seen c N root f keeps s = roots_seen x k tops W N d t c (on_root root f c).roots
      (λ n. all_put (KnowsRoot x W) root.num (f (root_at root c)) c.roots (keeps (root_at root c) (known_at x W root c n.roots)) n.roots) s

  -- an action waits for something else
  doing_seen : (c : Coord) (N : Seen) (u : Uid) (q : Doing) (f : Doing → Doing) → doing_of u c ≡ Some q → IsCalm q.now →
      IsCalm (let r = f q in r.now) → (let r = f q in r.took) ≡ q.took → With c N → With (on_doing u f c) N
  doing_seen c N u q f at_work was now took s = coord_seen x k tops W N d t c (on_doing u f c) coord
      (λ n. doing_noted x W d.intents c u q f n at_work took (calm_known x W (let r = f q in r.now) now)) s
    where
      tree : (on_doing u f c).tree ≡ c.tree
      tree = doing_tree u f c

      coord : SeesCoord x k d.inc tops c W.disk → SeesCoord x k d.inc tops (on_doing u f c) W.disk
      coord h = record {
        node = ap (λ (r : Tree). r.node) (doing_tree u f c) ∙ h.node;
        present = ap (λ (r : Tree). r.inc) (doing_tree u f c) ∙ h.present;
        working =
            λ w z r there unended does. by w z r (uid_cases w u) (ap (λ v. branch_of w v) (sym (doing_tree u f c)) ∙ there) unended does;
        closed = λ w at ended began. h.closed w at (ap (λ v. is_open w v) (sym (doing_tree u f c)) ∙ ended) began;
        future = λ w at later. h.future w
            at (subst (λ (v : Tree). ((w.inc ≡ v.inc) × (length v.branches < w.num)) ⊎ (v.inc < w.inc)) (doing_tree u f c) later);
        bare = λ w z r there does is. bare w z r (uid_cases w u) (ap (λ v. branch_of w v) (sym (doing_tree u f c)) ∙ there) does is;
      }
        where
          bare : (w : Uid) (z : Branch) (r : Doing) → (w ≡ u) ⊎ (w ≢ u) → branch_of w c.tree ≡ Some z →
              doing_of w (on_doing u f c) ≡ Some r → W.disk.bare (uid_number w) ≡ true → IsNamedCommit z r
          bare w z r (inl same) there does is =
              let it : f q ≡ r = some_is (doing_here u f c q at_work) (ap (λ v. doing_of v (on_doing u f c)) (sym same) ∙ does) in
              let n = h.bare w z q there (ap (λ v. doing_of v c) same ∙ at_work) is in
              record {
                committed = n.committed;
                named = ap (λ (v : Doing). order.has v.took naming) (sym it) ∙ ap (λ ns. order.has ns naming) took ∙ n.named;
              }
          bare w z r (inr other) there does is = h.bare w z r there (sym (doing_other u w f c q at_work other) ∙ does) is

          by : (w : Uid) (z : Branch) (r : Doing) → (w ≡ u) ⊎ (w ≢ u) → branch_of w c.tree ≡ Some z → z.ended ≡ None →
              doing_of w (on_doing u f c) ≡ Some r → Works x tops W.disk (uid_number w) z.kind r.now
          by w z r (inl same) there unended does =
              let one : ◌≡◌ {A = Option Doing} (Some (f q)) (Some r) = sym (doing_here u f c q at_work)
              ∙ ap (λ v. doing_of v (on_doing u f c)) (sym same) ∙ does in
              let it : f q ≡ r = cc one in
              subst (λ (v : Doing). Works x tops W.disk (uid_number w) z.kind v.now) it (calm_works x tops W.disk (uid_number w) z.kind
              q.now (let v = f q in v.now) was now (h.working w z q there unended (ap (λ v. doing_of v c) same ∙ at_work)))
          by w z r (inr other) there unended does = h.working w z r there unended (sym (doing_other u w f c q at_work other) ∙ does)

  -- an action is doomed
  doom_seen : (c : Coord) (N : Seen) (u : Uid) → With c N → With (record c { tree = doomed_at u c.tree }) N
  doom_seen c N u s = by (branch_of u c.tree) refl
    where
      by : (o : Option Branch) → branch_of u c.tree ≡ o → With (record c { tree = doomed_branch u c.tree o }) N
      by None found = s
      by (Some b) found = coord_seen x k tops W N d t c
          (record c { tree = record c.tree { branches = set_place u.num (record b { doomed = true }) c.tree.branches } })
          (λ h. record {
            node = h.node;
            present = h.present;
            working = λ w z r there unended does. working h w z r there unended does (uid_cases w u);
            closed = λ w at ended began. h.closed w at (sym (same_open w) ∙ ended) began;
            future = λ w at later. h.future w at (⊎_elim (λ p.
                inl (p.0, subst (λ n. n < w.num) (place_long u.num (record b { doomed = true }) c.tree.branches) p.1)) (λ p. inr p) later);
            bare = λ w z r there does is. bare h w z r there does is (uid_cases w u);
          })
          (λ n. record {
            settled = λ w i there. ⊎_elim (λ o. inl (same_open w ∙ o)) (λ h. inr h) (n.settled w i there);
            taken = n.taken;
            roots = n.roots;
            plans = n.plans;
          }) s
        where
          same_open : (w : Uid) →
              is_open w (record c.tree { branches = set_place u.num (record b { doomed = true }) c.tree.branches }) ≡ is_open w c.tree
          same_open w = ⊎_elim
              (λ same. ap (λ a. is_open a (record c.tree { branches = set_place u.num (record b { doomed = true }) c.tree.branches })) same
              ∙ ap is_open_branch (set_here u b (record b { doomed = true }) c found) ∙ sym (ap is_open_branch found)
              ∙ ap (λ a. is_open a c.tree) (sym same))
              (λ other. ap is_open_branch (set_other u b (record b { doomed = true }) c found w other)) (uid_cases w u)

          working : SeesCoord x k d.inc tops c W.disk → (w : Uid) (z : Branch) (r : Doing) →
              branch_of w (record c.tree { branches = set_place u.num (record b { doomed = true }) c.tree.branches }) ≡ Some z →
              z.ended ≡ None → doing_of w c ≡ Some r → (w ≡ u) ⊎ (w ≢ u) → Works x tops W.disk (uid_number w) z.kind r.now
          working h w z r there unended does (inr other) =
              h.working w z r (sym (set_other u b (record b { doomed = true }) c found w other) ∙ there) unended does
          working h w z r there unended does (inl same) =
              let one : record b { doomed = true } ≡ z = some_is (set_here u b (record b { doomed = true }) c found) (ap (λ a. branch_of a
              (record c.tree { branches = set_place u.num (record b { doomed = true }) c.tree.branches })) (sym same) ∙ there) in
              subst (λ kd. Works x tops W.disk (uid_number w) kd r.now) (ap (λ (y : Branch). y.kind) one)
              (h.working w b r (ap (λ a. branch_of a c.tree) same ∙ found) (ap (λ (y : Branch). y.ended) one ∙ unended) does)

          bare : SeesCoord x k d.inc tops c W.disk → (w : Uid) (z : Branch) (r : Doing) →
              branch_of w (record c.tree { branches = set_place u.num (record b { doomed = true }) c.tree.branches }) ≡ Some z →
              doing_of w c ≡ Some r → W.disk.bare (uid_number w) ≡ true → (w ≡ u) ⊎ (w ≢ u) → IsNamedCommit z r
          bare h w z r there does is (inr other) =
              h.bare w z r (sym (set_other u b (record b { doomed = true }) c found w other) ∙ there) does is
          bare h w z r there does is (inl same) =
              let one : record b { doomed = true } ≡ z = some_is (set_here u b (record b { doomed = true }) c found) (ap (λ a. branch_of a
              (record c.tree { branches = set_place u.num (record b { doomed = true }) c.tree.branches })) (sym same) ∙ there) in
              let n = h.bare w b r (ap (λ a. branch_of a c.tree) same ∙ found) does is in
              record { committed = ap (λ (y : Branch). y.ended) (sym one) ∙ n.committed; named = n.named }

-- ---- what is known of a root

join_known : (x : ℕ) (W : World) (j : Joined) (js : List Joined) → IsKnown x W j.loaded →
    AllByRecursion (λ (i : Joined). IsKnown x W i.loaded) js → AllByRecursion (λ (i : Joined). IsKnown x W i.loaded) (joined_with j js)
join_known x W j [] new old = (new, tt)
join_known x W j (i ∷ js) new old = by (same_join j i) (join_known x W j js new old.1)
  where
    by : (c : Bool) → AllByRecursion (λ (i : Joined). IsKnown x W i.loaded) (joined_with j js) → AllByRecursion (λ (i : Joined).
        IsKnown x W i.loaded) (if c then record i { loaded = later_state i.loaded j.loaded } ∷ js else i ∷ joined_with j js)
    by true ih = (later_known x W i.loaded j.loaded old.0 new, old.1)
    by false ih = (old.0, ih)

-- what an end brings, if it is the end of an include
abbrev pub EndIs : (ObjectState → Type 0) → CallEnd → Type 0
EndIs Q (Included st) = Q st
EndIs Q _ = ⊤

heard_known : (x : ℕ) (W : World) (s : Steps) (end : CallEnd) → EndIs (IsKnown x W) end → (r : Root) → KnowsRoot x W r →
    KnowsRoot x W (root_heard s end r)
heard_known x W s (Included st) known r k = record {
  joined = join_known x W (record { path = uids_of s.path; x = s.x; store = store_of s.goal; loaded = st }) r.joined known k.joined;
  states = k.states;
}
heard_known x W s (Answered a) known r k = by (list_any (same_said (record { path = uids_of s.path; x = s.x })) r.said)
  where
    by : (c : Bool) → KnowsRoot x W (if c then r else record r { said = r.said ++ record { path = uids_of s.path; x = s.x } ∷ [] })
    by true = k
    by false = record { joined = k.joined; states = k.states }
heard_known x W s (Conflict holder m n) known r k = k
heard_known x W s (Changed n w) known r k = k
heard_known x W s (Lost n b) known r k = k

kept_known : (x : ℕ) (W : World) (y : ℕ) (k : Keeping) (r : Root) → KnowsRoot x W r → KnowsRoot x W (with_keeping y k r)
kept_known x W y k r h = record { joined = h.joined; states = h.states }

granted_known : (x : ℕ) (W : World) (g : Option Grant) (r : Root) → KnowsRoot x W r → KnowsRoot x W (notes_grant g r)
granted_known x W None r k = k
granted_known x W (Some g) r k = record { joined = k.joined; states = k.states }

-- ---- the steps of a call

abbrev pub StepIs : (ObjectState → Type 0) → CallStep → Type 0
StepIs Q (On at) = ⊤
StepIs Q (Ended end) = EndIs Q end

module _ (Q : ObjectState → Type 0) where
  abbrev MovedIs : Moved → Type 0
  MovedIs m = StepIs Q m.step

  inc_is : (i : ℕ) (kept : Known) (at : At) (o : Option ℕ) → MovedIs (calls.with_inc i kept at o)
  inc_is i kept at None = tt
  inc_is i kept at (Some first) = by (first == i)
    where
      by : (c : Bool) →
          MovedIs (if c then calls.moves (Some kept) at else calls.finds (Some kept) (Changed kept.server (calls.two_incs first i)))
      by true = tt
      by false = tt

  bound_is : (free : Bool) (k : Known) (at : At) (kept : Option Known) → MovedIs (calls.bound_by free k at kept)
  bound_is free k at None = tt
  bound_is free k at (Some old) = by (binding_eq old.binding k.binding)
    where
      same : (o : Option ℕ) → MovedIs (calls.same_binding old k at o)
      same None = tt
      same (Some i) = inc_is i (calls.named_again old k) at old.inc

      other : (c : Bool) →
          MovedIs (if c then calls.moves (Some k) at else calls.finds (Some old) (Changed 1 (calls.two_bindings old.binding k.binding)))
      other true = tt
      other false = tt

      by : (c : Bool) → MovedIs (if c then calls.same_binding old k at k.inc else calls.other_binding free old k at)
      by true = same k.inc
      by false = other (free && binding_less old.binding k.binding)

  -- the end of an include brings what was loaded
  pub step_is : (free : Bool) (kept : Option Known) (g : Goal) (at : At) (r : Reply) →
      ((st : ObjectState) → r ≡ Reply.Loaded (loaded.State st) → Q st) → MovedIs (calls.answered free kept g at r)
  step_is free kept g (AtBind avoid) (Reply.Bound (bound.Live b server i grant stores)) claims =
      bound_is free (calls.live_known b server i grant stores) (AtInvoke (calls.live_known b server i grant stores) i) kept
  step_is free kept g (AtBind avoid) (Reply.Bound (bound.Make b server grant stores)) claims =
      by (calls.load_from (calls.made_known b server grant stores) stores)
    where
      by : (o : Option At) → MovedIs (calls.made_by free (calls.made_known b server grant stores) kept o)
      by None = tt
      by (Some at) = bound_is free (calls.made_known b server grant stores) at kept
  step_is free kept g (AtBind avoid) (Reply.Bound (bound.Write grant stores)) claims =
      by (calls.load_from (calls.write_known grant stores) stores)
    where
      by : (o : Option At) → MovedIs (calls.or_lost kept o)
      by None = tt
      by (Some at) = tt
  step_is free kept g (AtBind avoid) (Reply.Bound (bound.Conflict holder m)) claims = tt
  step_is free kept (Run o) (AtLoad k s rest) (Reply.Loaded (loaded.State st)) claims = tt
  step_is free kept (Include n) (AtLoad k s rest) (Reply.Loaded (loaded.State st)) claims = claims st refl
  step_is free kept g (AtLoad k s rest) (Reply.Loaded (loaded.InDoubt holder)) claims = tt
  step_is free None g (AtActivate k st) (Reply.Activated i) claims = tt
  step_is free (Some old) g (AtActivate k st) (Reply.Activated i) claims = by (binding_eq old.binding k.binding)
    where
      by : (c : Bool) → MovedIs (if c then calls.with_inc i old (AtNote k i) old.inc else calls.moves (Some old) (AtNote k i))
      by true = inc_is i old (AtNote k i) old.inc
      by false = tt
  step_is free kept g (AtNote k i) (Reply.Noted recorded.Yes) claims = tt
  step_is free kept g (AtNote k i) (Reply.Noted (recorded.Changed w)) claims = tt
  step_is free kept g (AtInvoke k i) (Reply.Invoked (invoked.Answered a)) claims = tt
  step_is free kept g (AtInvoke k i) (Reply.Invoked (invoked.Conflict holder m)) claims = tt
  step_is free kept g (AtInvoke k i) (Reply.Invoked (invoked.Changed w)) claims = tt
  step_is free kept g (AtBind avoid) (Reply.Loaded r) claims = tt
  step_is free kept g (AtBind avoid) (Reply.Activated r) claims = tt
  step_is free kept g (AtBind avoid) (Reply.Noted r) claims = tt
  step_is free kept g (AtBind avoid) (Reply.Invoked r) claims = tt
  step_is free kept g (AtBind avoid) (Reply.Voted r) claims = tt
  step_is free kept g (AtBind avoid) (Reply.Prepared r) claims = tt
  step_is free kept g (AtBind avoid) (Reply.Confirmed r) claims = tt
  step_is free kept g (AtLoad k s rest) (Reply.Bound r) claims = tt
  step_is free kept g (AtLoad k s rest) (Reply.Activated r) claims = tt
  step_is free kept g (AtLoad k s rest) (Reply.Noted r) claims = tt
  step_is free kept g (AtLoad k s rest) (Reply.Invoked r) claims = tt
  step_is free kept g (AtLoad k s rest) (Reply.Voted r) claims = tt
  step_is free kept g (AtLoad k s rest) (Reply.Prepared r) claims = tt
  step_is free kept g (AtLoad k s rest) (Reply.Confirmed r) claims = tt
  step_is free kept g (AtActivate k st) (Reply.Bound r) claims = tt
  step_is free kept g (AtActivate k st) (Reply.Loaded r) claims = tt
  step_is free kept g (AtActivate k st) (Reply.Noted r) claims = tt
  step_is free kept g (AtActivate k st) (Reply.Invoked r) claims = tt
  step_is free kept g (AtActivate k st) (Reply.Voted r) claims = tt
  step_is free kept g (AtActivate k st) (Reply.Prepared r) claims = tt
  step_is free kept g (AtActivate k st) (Reply.Confirmed r) claims = tt
  step_is free kept g (AtNote k i) (Reply.Bound r) claims = tt
  step_is free kept g (AtNote k i) (Reply.Loaded r) claims = tt
  step_is free kept g (AtNote k i) (Reply.Activated r) claims = tt
  step_is free kept g (AtNote k i) (Reply.Invoked r) claims = tt
  step_is free kept g (AtNote k i) (Reply.Voted r) claims = tt
  step_is free kept g (AtNote k i) (Reply.Prepared r) claims = tt
  step_is free kept g (AtNote k i) (Reply.Confirmed r) claims = tt
  step_is free kept g (AtInvoke k i) (Reply.Bound r) claims = tt
  step_is free kept g (AtInvoke k i) (Reply.Loaded r) claims = tt
  step_is free kept g (AtInvoke k i) (Reply.Activated r) claims = tt
  step_is free kept g (AtInvoke k i) (Reply.Noted r) claims = tt
  step_is free kept g (AtInvoke k i) (Reply.Voted r) claims = tt
  step_is free kept g (AtInvoke k i) (Reply.Prepared r) claims = tt
  step_is free kept g (AtInvoke k i) (Reply.Confirmed r) claims = tt

  -- and what is given up brings nothing
  pub lost_is : (at : At) → StepIs Q (calls.given_up at)
  lost_is (AtBind avoid) = tt
  lost_is (AtLoad known n []) = tt
  lost_is (AtLoad known n (m ∷ ms)) = tt
  lost_is (AtActivate known st) = tt
  lost_is (AtNote known i) = tt
  lost_is (AtInvoke known i) = tt

module _ (x : ℕ) (tops : Kinds) (e k : ℕ) (d : Disk) (t : Parts) (W : World) where
  abbrev P : Seen → Type 0
  P = IsSeenByDisks x tops

  ask_free : (p : Path) (req n y : ℕ) (g : Goal) (ends : List (Uid × End)) (at : At) → MayAsk x W p req (n, ask_at y g ends at)
  ask_free p req n y g ends (AtBind avoid) = tt
  ask_free p req n y g ends (AtLoad known s rest) = tt
  ask_free p req n y g ends (AtActivate known st) = tt
  ask_free p req n y g ends (AtNote known i) = tt
  ask_free p req n y g ends (AtInvoke known i) = tt

  -- the action waits in this step from now on
  goes_on_walk : (s : Steps) (c : Coord) (N : Seen) (q : Doing) → doing_of (actor s.path) c ≡ Some q → IsCalm q.now →
      With x k tops W d t c N → let did = goes_on s c in Walks P e k did.outs (Up P k (with_coord t did.part)) d N
  goes_on_walk s c N q at_work calm seen =
      let c1 : Coord = on_doing (actor s.path) (λ (r : Doing). record r { req = s.req; now = Calling s }) c in
      asks_walk x tops e k d t s.path s.req ((next_node s, next_ask (ends_of (root_of s.path) c1.tree) s) ∷ []) c1 N W
      (ask_free s.path s.req (next_node s) s.x s.goal (ends_of (root_of s.path) c1.tree) s.at, tt)
      (doing_seen x k tops W d t c N (actor s.path) q (λ (r : Doing). record r { req = s.req; now = Calling s }) at_work calm tt refl seen)

  -- the call ends
  ends_walk : (s : Steps) (end : CallEnd) (c : Coord) (N : Seen) (q : Doing) → doing_of (actor s.path) c ≡ Some q → IsCalm q.now → EndIs
      (IsKnown x W) end → With x k tops W d t c N → let did = ends_call s end c in Walks P e k did.outs (Up P k (with_coord t did.part)) d N
  ends_walk s end c N q at_work calm known seen = subst (λ es. Walks P e k es (Up P k (with_coord t (ends_call s end c).part)) d N)
      (append-nil (says (actor s.path) (end_line s.x s.goal end) c))
      (say_walk x k tops e (with_coord t (ends_call s end c).part) (with_coord t (ends_call s end c).part)
      (says (actor s.path) (end_line s.x s.goal end) c) [] d W (says_line (doing_of (actor s.path) c)) (λ L s2. (W, s2)) N
      (doomed end c2 (root_seen x k tops W d t c1 N (root_of s.path) (root_heard s end) (heard_known x W s end known)
      (doing_seen x k tops W d t c N (actor s.path) q (λ (r : Doing). record r { now = Idle }) at_work calm tt refl seen))))
    where
      c1 : Coord
      c1 = on_doing (actor s.path) (λ (r : Doing). record r { now = Idle }) c

      c2 : Coord
      c2 = on_root (root_of s.path) (root_heard s end) (on_doing (actor s.path) (λ (r : Doing). record r { now = Idle }) c)

      says_line : (o : Option Doing) → AreAll is_say (say_for (end_line s.x s.goal end) o)
      says_line None = refl
      says_line (Some r) = refl

      doomed : (en : CallEnd) (b : Coord) → With x k tops W d t b N → With x k tops W d t (doomed_by (actor s.path) en b) N
      doomed (Answered a) b h = h
      doomed (Included st) b h = h
      doomed (Conflict holder m n) b h = h
      doomed (Changed n w) b h = h
      doomed (Lost n false) b h = h
      doomed (Lost n true) b h = doom_seen x k tops W d t b N (actor s.path) h

  step_walk : (s : Steps) (step : CallStep) (c : Coord) (N : Seen) (q : Doing) → doing_of (actor s.path) c ≡ Some q → IsCalm q.now →
      StepIs (IsKnown x W) step → With x k tops W d t c N → let did = step_call s step c in
      Walks P e k did.outs (Up P k (with_coord t did.part)) d N
  step_walk s (On at) c N q at_work calm known seen = goes_on_walk (record s { req = s.req + 1; at = at }) c N q at_work calm seen
  step_walk s (Ended end) c N q at_work calm known seen = ends_walk s end c N q at_work calm known seen

-- ---- the handlers

pub calls_begin : CallsBegin
calls_begin x tops e k d t act b q y o M knows found unended at_work idle W sees =
    let c1 : Coord = record t.coord { tree = uses_object b.path y t.coord.tree } in
    let keeping : Keeping = renewed (is_free (root_of b.path) (actor b.path) y t.coord) (keeping_of y (root_at (root_of b.path) t.coord))
    (let old = keeping_of y (root_at (root_of b.path) t.coord) in old.kept) in
    goes_on_walk x tops e k d t W (call_steps b.path y o (next_req (actor b.path) t.coord) (root_at (root_of b.path) t.coord) t.coord
    keeping) (on_root (root_of b.path) (with_keeping y keeping) c1) M q
    (ap (λ a. doing_of a t.coord) (knows.path act b found) ∙ at_work) (subst IsCalm (sym idle) tt)
    (root_seen x k tops W d t c1 M (root_of b.path) (with_keeping y keeping) (kept_known x W y keeping) (family_seen x k tops W d t t.coord
    M (root_of b.path) (let f = family_of (root_of b.path) t.coord.tree in record f { objects = with_number y f.objects }) sees))

pub includes_begin : IncludesBegin
includes_begin x tops e k d t act b q y s M knows found unended at_work idle W sees =
    goes_on_walk x tops e k d t W (start b.path y (Include s) None unbound (next_req (actor b.path) t.coord))
    (record t.coord { tree = uses_object b.path y t.coord.tree }) M q
    (ap (λ a. doing_of a t.coord) (knows.path act b found) ∙ at_work) (subst IsCalm (sym idle) tt)
    (family_seen x k tops W d t t.coord M (root_of b.path) (let f = family_of (root_of b.path) t.coord.tree in
    record f { objects = with_number y f.objects }) sees)

pub calls_are_heard : CallsAreHeard
calls_are_heard x tops e k d t from act q s r M knows at_work now W sees claims =
    let h = knows.steps act q s at_work now in
    let free : Bool = is_free (root_of s.path) (actor s.path) s.x t.coord in
    let m : Moved = calls.answered free (kept_at s t.coord) s.goal s.at r in
    step_walk x tops e k d t W s m.step (on_root (root_of s.path) (root_moved s r m) t.coord) M q
    (ap (λ a. doing_of a t.coord) h.actor_is ∙ at_work) (subst IsCalm (sym now) tt)
    (step_is (IsKnown x W) free (kept_at s t.coord) s.goal s.at r (λ st same. subst (ClaimsReply x W from act) same claims))
    (root_seen x k tops W d t t.coord M (root_of s.path) (root_moved s r m) (moved_known m) sees)
  where
    moved_known : (m : Moved) (root : Root) → KnowsRoot x W root → KnowsRoot x W (root_moved s r m root)
    moved_known m root known = let g = granted_known x W (granted_by (top_of s.path) s.x r) root known in
        record { joined = g.joined; states = g.states }

pub calls_are_given_up : CallsAreGivenUp
calls_are_given_up x tops e k d t act q s M knows at_work now W sees =
    let h = knows.steps act q s at_work now in
    let did = give_up_call s t.coord in
    say_walk x k tops e t (with_coord t did.part) (gaveup_lines act (next_node s ∷ []) t.coord) did.outs d W
    (gaveup_say act (next_node s ∷ []) t.coord)
    (λ N seen. step_walk x tops e k d t W s (calls.given_up s.at) (on_root (root_of s.path) (root_lost s (calls.given_up s.at)) t.coord) N q
    (ap (λ a. doing_of a t.coord) h.actor_is ∙ at_work) (subst IsCalm (sym now) tt) (lost_is (IsKnown x W) s.at)
    (root_seen x k tops W d t t.coord N (root_of s.path) (root_lost s (calls.given_up s.at))
    (λ root known. record { joined = known.joined; states = known.states }) seen)) M sees
