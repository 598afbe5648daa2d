-- Commits of actions, and the answers and giveups of a top's commit, walked through at the coordinator.
use Rattle.arj_law_parts.proofs.Words
use Words.{◌≡◌, ℕ, ◌==◌, ◌&&◌, List, [], ◌∷◌, ◌++◌, Bool, true, false, Option, Some, None, refl, sym, ◌∙◌, ap, subst, map, if◌then◌else◌}
use Words.{filter, nat_lt, AllByRecursion, and_parts, Uid, Kind, Path, Cause, Ask, ObjectState, Reply, actor, differs, ask_kind, reply_kind}
use Words.{moved_commit, step_commit, commit_action, commit_open, commit_top, commits_in, last_req, gives_up, gaveup_lines, Used, Machine}
use Words.{Voting, Preparing, Confirming, begin_vote, servers_of, further, vote_ask, ask_of, left_of, plan_of, votes_left, with_states}
use Words.{first_of, Coord, Doing, Joined, Root, Idle, Committing, doing_of, root_at, plan_for, objects_in, used_of, joins_on, latest_of}
use Words.{later_state, or_kept_state, survives, Disk, says, say_for, aborts_with, Parts, with_coord, at_number, uid_number, without_number}
use Words.{AreAll, Branch, branch_of, has_open_child, is_open_branch, root_of, Seen, is_serial}
use Words.body
use Words.cause
use Words.ending
use Words.kind
use Words.voted
use Words.prepared
use Words.confirmed
use Words.commit
use Words.order
use Rattle.arj_law_disk_view.proofs.Terms
use Terms.{start, World, never, test_is, up, Walks, Up, DidIsWalked, IsBefore, KnowsKinds, KnowsCoord, KnowsPlan, KnowsMachine, IsOfKind}
use Terms.{may_note, Kinds, SeesDisks, SeesCoord, SeesNotes, IsSeenByDisks, IsKnown, IsKnownIfThere, KnowsRoot, KnowsNow, ClaimsReply}
use Terms.{WorksBy, WaitsForStore, WaitsForNaming, Begins}
use Rattle.arj_law_disk_view.proofs.view
use view.{DecideWalks.confirmed_is_heard, Frames.node_here, FreeAsks.MayAsk, FreeAsks.asks_walk, OneEnd.actions_end}
use view.BeginWalks.{before_idle, begin_walks}
use view.HeardWalks.{is_say, say_walk, top_moved, top_stays, prepared_is_heard, silent_are_given_up, gaveup_say}
use view.Notes.{all_at, known_at, now_later}
use Rattle.arj_law_disk_view.specs.view.Coordinating.{ActionsCommit, CommitsAreHeard, CommitsAreGivenUp, MayCommit}

-- ---- what a plan loaded

module _ (x : ℕ) (W : World) where
  pub later_known : (s r : ObjectState) → IsKnown x W s → IsKnown x W r → IsKnown x W (later_state s r)
  later_known s r a b = by (nat_lt s.version r.version)
    where
      by : (c : Bool) → IsKnown x W (if c then r else s)
      by true = b
      by false = a

  latest_known : (found : Option ObjectState) (js : List Joined) → IsKnownIfThere x W found →
      AllByRecursion (λ (j : Joined). IsKnown x W j.loaded) js → IsKnownIfThere x W (latest_of found js)
  latest_known found [] known all = known
  latest_known None (j ∷ js) known all = latest_known (Some j.loaded) js all.0 all.1
  latest_known (Some s) (j ∷ js) known all = latest_known (Some (later_state s j.loaded)) js (later_known s j.loaded known all.0) all.1

  kept_known : (o q : Option ObjectState) → IsKnownIfThere x W o → IsKnownIfThere x W q → IsKnownIfThere x W (or_kept_state o q)
  kept_known None q a b = tt
  kept_known (Some s) None a b = a
  kept_known (Some s) (Some r) a b = later_known s r a b

  filter_all : {A : Type 0} (Q : A → Type 0) (f : A → Bool) (xs : List A) → AllByRecursion Q xs → AllByRecursion Q (filter f xs)
  filter_all Q f [] all = tt
  filter_all {A} Q f (a ∷ more) all = by (f a) (filter_all Q f more all.1)
    where
      by : (c : Bool) → AllByRecursion Q (filter f more) → AllByRecursion Q (if c then a ∷ filter f more else filter f more)
      by true ih = (all.0, ih)
      by false ih = ih

  state_known : (y : ℕ) (states : List (ℕ × ObjectState)) → AllByRecursion (λ (s : ℕ × ObjectState). IsKnown x W s.1) states →
      IsKnownIfThere x W (at_number y states)
  state_known y states all = by (at_number y states) refl
    where
      by : (o : Option ObjectState) → at_number y states ≡ o → IsKnownIfThere x W o
      by None is = tt
      by (Some s) is = all_at (IsKnown x W) y states s all is

  pub plan_known : (top : Uid) (r : Root) (c : Coord) (ys : List ℕ) → KnowsRoot x W r →
      AllByRecursion (λ (u : Used). IsKnownIfThere x W u.loaded) (map (used_of top r c) ys)
  plan_known top r c [] known = tt
  plan_known top r c (y ∷ ys) known = (
    kept_known (latest_of None (joins_on y top r c)) (at_number y r.states) (latest_known None (joins_on y top r c) tt
        (filter_all (λ (j : Joined). IsKnown x W j.loaded) (λ (j : Joined). (j.x == y) && survives top j.path c) r.joined known.joined))
        (state_known y r.states known.states),
    plan_known top r c ys known,
  )

-- ---- a top's commit starts

-- a top is no serializing action
top_not_serial : (tops : Kinds) (u : Uid) (kd : Kind) (p : Path) → IsOfKind tops u kd p → tops.is_top (uid_number u) ≡ true →
    is_serial kd ≡ true → ⊥
top_not_serial tops u kind.Nested p of top s = cc s
top_not_serial tops u kind.Serial p of top s = never top of.0
top_not_serial tops u kind.Top p of top s = cc s
top_not_serial tops u kind.Independent p of top s = cc s
top_not_serial tops u kind.Constituent p of top s = cc s

top_plain : (x k : ℕ) (tops : Kinds) (d : Disk) (t : Parts) (act : Uid) (b : Branch) (M : Seen) → KnowsCoord tops d.intents t.coord →
    branch_of act t.coord.tree ≡ Some b → tops.is_top (uid_number act) ≡ true → (W : World) → SeesDisks x tops W (up k d t M)
    → W.disk.serial (uid_number act) ≡ false
top_plain x k tops d t act b M knows found top W sees = ap (λ f. f (uid_number act)) sees.fixed.serial ∙ by b.kind (knows.kind act b found)
  where
    by : (kd : Kind) → IsOfKind tops act kd b.path → tops.is_serial (uid_number act) ≡ false
    by kind.Nested of = absurd (never top of.0)
    by kind.Serial of = absurd (never top of.0)
    by kind.Top of = of.1
    by kind.Independent of = of.1
    by kind.Constituent of = of.1

module _ (x : ℕ) (tops : Kinds) (e k : ℕ) (d : Disk) (t : Parts) (b : Branch) (q : Doing) (M : Seen)
    (knows : KnowsCoord tops d.intents t.coord) (found : branch_of (actor b.path) t.coord.tree ≡ Some b) (unended : b.ended ≡ None)
    (at_work : doing_of (actor b.path) t.coord ≡ Some q) (idle_now : q.now ≡ Idle) (top : tops.is_top (uid_number (actor b.path)) ≡ true)
    (note : may_note tops.walk (Begins (uid_number (actor b.path))) ≡ true) (W : World) (sees : SeesDisks x tops W (up k d t M)) where
  abbrev p : commit.Plan
  p = plan_for b.path (last_req (doing_of (actor b.path) t.coord)) (root_at (root_of b.path) t.coord) t.coord

  mine : SeesCoord x k d.inc tops t.coord W.disk
  mine =
      sees.coords k (record { number = k; disk = d; live = Some t }) t (node_here M k (record { number = k; disk = d; live = Some t })) refl

  notes : SeesNotes x d.intents t.coord W
  notes =
      sees.notes k (record { number = k; disk = d; live = Some t }) t (node_here M k (record { number = k; disk = d; live = Some t })) refl

  known : KnowsNow x W (Committing (Voting p []))
  known = plan_known x W (actor b.path) (root_at (root_of b.path) t.coord) t.coord
      (objects_in (actor b.path) (root_at (root_of b.path) t.coord) t.coord) (known_at x W (root_of b.path) t.coord notes.roots)

  before : IsBefore q.now
  before = subst IsBefore (sym idle_now) tt

  plan : KnowsPlan (actor b.path) p
  plan = knows.starts (actor b.path) b (last_req (doing_of (actor b.path) t.coord)) found top

  votes_free : (ps : commit.Plan) (V : World) (ss : List ℕ) →
      AllByRecursion (MayAsk x V ps.path ps.req) (map {A = ℕ} {B = ℕ × Ask} (λ n. (n, vote_ask ps n)) ss)
  votes_free ps V [] = tt
  votes_free ps V (s ∷ ss) = (tt, votes_free ps V ss)

  by_servers : (ss : List ℕ) → DidIsWalked x tops e k d t (step_commit (actor b.path) (begin_vote ss p) d.intents t.coord) M
  by_servers [] = begin_walks x tops e k d t (actor b.path) b q p M knows found unended at_work before top note plan
      (record { prepared = refl; excluded = refl }) (λ is. record { used = is; changed = refl; prepared = refl; confirmed = refl }) W sees
      known
  by_servers (s ∷ ss) =
      let m : Machine = Voting (further (s ∷ ss) p) (s ∷ ss) in
      asks_walk x tops e k d t p.path (further (s ∷ ss) p).req (map {A = ℕ} {B = ℕ × Ask} (λ n. (n, vote_ask (further (s ∷ ss) p) n))
      (s ∷ ss)) (commits_in (actor b.path) m t.coord) M W (votes_free (further (s ∷ ss) p) W (s ∷ ss))
      (top_moved x tops e k d t (actor b.path) b q d.intents M found unended at_work top note W
      (top_plain x k tops d t (actor b.path) b M knows found top W sees) sees (further (s ∷ ss) p).req (Committing m)
      (λ U l. now_later x W U l (Committing (Voting p [])) known)
      (top_stays (uid_number (actor b.path)) (λ S. WorksBy x S (uid_number (actor b.path)) (Committing m)) W (before_idle x tops W.disk
      (uid_number (actor b.path)) b.kind q.now before top (mine.working (actor b.path) b q found unended at_work))))

  pub votes_walk : DidIsWalked x tops e k d t (moved_commit (actor b.path) (start p) d.intents t.coord) M
  votes_walk = by_servers (servers_of p)

module _ (x : ℕ) (tops : Kinds) (e k : ℕ) (d : Disk) (t : Parts) (b : Branch) (q : Doing) (M : Seen) (kinds : KnowsKinds tops)
    (knows : KnowsCoord tops d.intents t.coord) (found : branch_of (actor b.path) t.coord.tree ≡ Some b) (unended : b.ended ≡ None)
    (at_work : doing_of (actor b.path) t.coord ≡ Some q) (idle_now : q.now ≡ Idle)
    (childless : has_open_child (actor b.path) t.coord.tree ≡ false)
    (note : may_note tops.walk (Begins (uid_number (actor b.path))) ≡ true) (W : World) (sees : SeesDisks x tops W (up k d t M)) where
  line_says : AreAll is_say (says (actor b.path) body.Committing t.coord)
  line_says = by (doing_of (actor b.path) t.coord)
    where
      by : (o : Option Doing) → AreAll is_say (say_for body.Committing o)
      by None = refl
      by (Some r) = refl

  start_walks : tops.is_top (uid_number (actor b.path)) ≡ true → DidIsWalked x tops e k d t (commit_top b.path d.intents t.coord) M
  start_walks top =
      let did = moved_commit (actor b.path) (start
      (plan_for b.path (last_req (doing_of (actor b.path) t.coord)) (root_at (root_of b.path) t.coord) t.coord)) d.intents t.coord in
      say_walk x k tops e t (with_coord t did.part) (says (actor b.path) body.Committing t.coord) did.outs d W line_says
      (λ N s. votes_walk x tops e k d t b q N knows found unended at_work idle_now top note W s) M sees

  by_kind : (kd : Kind) → IsOfKind tops (actor b.path) kd b.path → DidIsWalked x tops e k d t (commit_open b d.intents t.coord kd) M
  by_kind kind.Nested of =
      actions_end x tops e k d t (actor b.path) b ending.Commit body.Committed M kinds knows found unended (λ s. childless) W sees
  by_kind kind.Serial of =
      actions_end x tops e k d t (actor b.path) b ending.Commit body.Ended M kinds knows found unended (λ s. childless) W sees
  by_kind kind.Top of = start_walks of.0
  by_kind kind.Independent of = start_walks of.0
  by_kind kind.Constituent of = start_walks of.0

  by_doomed : (c : Bool) → DidIsWalked x tops e k d t
      (if c then aborts_with (actor b.path) cause.Doomed d.intents t.coord else commit_open b d.intents t.coord b.kind) M
  by_doomed true = actions_end x tops e k d t (actor b.path) b ending.Abort (λ l. body.Aborted l cause.Doomed) M kinds knows found unended
      (λ s. childless) W sees
  by_doomed false = by_kind b.kind (knows.kind (actor b.path) b found)

  pub commit_walks : DidIsWalked x tops e k d t (commit_action b d.intents t.coord) M
  commit_walks = by_doomed b.doomed

pub actions_commit : ActionsCommit
actions_commit x tops e k d t act b q M kinds knows found unended at_work idle_now childless note W sees =
    let last : actor b.path ≡ act = knows.path act b found in
    commit_walks x tops e k d t b q M kinds knows (ap (λ a. branch_of a t.coord.tree) last ∙ found) unended
    (ap (λ a. doing_of a t.coord) last ∙ at_work) idle_now (ap (λ a. has_open_child a t.coord.tree) last ∙ childless)
    (ap (λ a. may_note tops.walk (Begins (uid_number a))) last ∙ note) W sees

-- ---- answers

module _ (x : ℕ) (tops : Kinds) (e k : ℕ) (d : Disk) (t : Parts) (from : ℕ) (act : Uid) (q : Doing) (M : Seen) (kinds : KnowsKinds tops)
    (knows : KnowsCoord tops d.intents t.coord) (at_work : doing_of act t.coord ≡ Some q) (W : World)
    (sees : SeesDisks x tops W (up k d t M)) where
  -- a commit's top is aborted
  pub aborts : (m : Machine) → KnowsMachine tops t.coord act m → (why : Cause) →
      DidIsWalked x tops e k d t (aborts_with act why d.intents t.coord) M
  aborts m h why = actions_end x tops e k d t act h.branch ending.Abort (λ l. body.Aborted l why) M kinds knows h.found h.unended
      (λ s. absurd (top_not_serial tops act h.branch.kind h.branch.path (knows.kind act h.branch h.found) h.top s)) W sees

  voted_walk : (p : commit.Plan) (left : List ℕ) → q.now ≡ Committing (Voting p left) → KnowsMachine tops t.coord act (Voting p left) →
      may_note tops.walk (Begins (uid_number act)) ≡ true → (states : List ObjectState) (rest : List ℕ)
      → DidIsWalked x tops e k d t
      (step_commit act (votes_left rest (record p { changed = with_states states p.changed })) d.intents t.coord) M
  voted_walk p left now h note states [] = begin_walks x tops e k d t act h.branch q (record p { changed = with_states states p.changed }) M
      knows h.found h.unended at_work (subst IsBefore (sym now) tt) h.top note
      (record {
        actor_is = h.plan.actor_is;
        top_is = h.plan.top_is;
        tidy = record {
          apart = h.plan.tidy.apart;
          once = h.plan.tidy.once;
          distinct = h.plan.tidy.distinct;
          loaded = h.plan.tidy.loaded;
          of = h.plan.tidy.of;
        };
      })
      (record { prepared = h.way.prepared; excluded = h.way.excluded }) (λ is. absurd (never_empty (sym h.uses ∙ is))) W sees
      (subst (λ n. KnowsNow x W n) now (notes.plans act q at_work))
    where
      notes : SeesNotes x d.intents t.coord W
      notes = sees.notes k (record { number = k; disk = d; live = Some t }) t
          (node_here M k (record { number = k; disk = d; live = Some t })) refl

      never_empty : {u : Used} {us : List Used} → u ∷ us ≡ [] → ⊥
      never_empty is = cc is
  voted_walk p left now h note states (n ∷ ns) = (
    W,
    top_moved x tops e k d t act h.branch q d.intents M h.found h.unended at_work h.top note W (top_plain x k tops d t act h.branch M knows
        h.found h.top W sees) sees p.req (Committing (Voting (record p { changed = with_states states p.changed }) (n ∷ ns)))
        (λ U l. now_later x W U l (Committing (Voting p left)) (subst (λ n. KnowsNow x W n) now (notes.plans act q at_work)))
        (top_stays (uid_number act) (λ S. WorksBy x S (uid_number act) (Committing
        (Voting (record p { changed = with_states states p.changed }) (n ∷ ns)))) W (before_idle x tops W.disk (uid_number act)
        h.branch.kind q.now (subst IsBefore (sym now) tt) h.top (mine.working act h.branch q h.found h.unended at_work))),
  )
    where
      notes : SeesNotes x d.intents t.coord W
      notes = sees.notes k (record { number = k; disk = d; live = Some t }) t
          (node_here M k (record { number = k; disk = d; live = Some t })) refl

      mine : SeesCoord x k d.inc tops t.coord W.disk
      mine = sees.coords k (record { number = k; disk = d; live = Some t }) t
          (node_here M k (record { number = k; disk = d; live = Some t })) refl

  -- who waits for a store, and for naming
  for_store : (p : commit.Plan) (left : List ℕ) → q.now ≡ Committing (Preparing p left) → KnowsMachine tops t.coord act (Preparing p left) →
      order.has left from ≡ true → WaitsForStore t from act p left
  for_store p left now h asked = record {
    branch = h.branch;
    found = h.found;
    unended = h.unended;
    doing = q;
    at_work = at_work;
    now = now;
    asked = asked;
    path = h.plan.top_is;
    own = h.plan.actor_is;
    used = h.used;
    more = h.more;
    uses = h.uses;
  }

  for_naming : (p : commit.Plan) → q.now ≡ Committing (Confirming p) → KnowsMachine tops t.coord act (Confirming p) →
      WaitsForNaming t d.intents act p
  for_naming p now h = record {
    branch = h.branch;
    found = h.found;
    unended = h.unended;
    doing = q;
    at_work = at_work;
    now = now;
    path = h.plan.actor_is;
    unrecorded =
        knows.unrecorded act (ap is_open_branch h.found ∙ ap (λ o. is_open_branch (Some (record h.branch { ended = o }))) h.unended);
    changes = h.changes;
  }

  -- an answer of the kind that the step waits for
  heard_walk : (m : Machine) (r : Reply) → q.now ≡ Committing m → KnowsMachine tops t.coord act m →
      reply_kind r ≡ ask_kind (ask_of m from) → order.has (left_of m) from ≡ true → ClaimsReply x W from act r →
      MayCommit tops.walk m (uid_number act) → DidIsWalked x tops e k d t (moved_commit act (commit.answered from m r) d.intents t.coord) M
  heard_walk (Voting p left) (Reply.Voted (voted.Yes states)) now h kd asked claims note =
      voted_walk p left now h note states (without_number from left)
  heard_walk (Voting p left) (Reply.Voted (voted.Changed w)) now h kd asked claims note =
      aborts (Voting p left) h (cause.Changed from (differs w))
  heard_walk (Voting p left) (Reply.Bound r) now h kd asked claims note = absurd (cc kd)
  heard_walk (Voting p left) (Reply.Loaded r) now h kd asked claims note = absurd (cc kd)
  heard_walk (Voting p left) (Reply.Activated r) now h kd asked claims note = absurd (cc kd)
  heard_walk (Voting p left) (Reply.Noted r) now h kd asked claims note = absurd (cc kd)
  heard_walk (Voting p left) (Reply.Invoked r) now h kd asked claims note = absurd (cc kd)
  heard_walk (Voting p left) (Reply.Prepared r) now h kd asked claims note = absurd (cc kd)
  heard_walk (Voting p left) (Reply.Confirmed r) now h kd asked claims note = absurd (cc kd)
  heard_walk (Preparing p left) (Reply.Prepared prepared.Yes) now h kd asked claims note =
      prepared_is_heard x tops e k d t from act prepared.Yes p left d.intents M (for_store p left now h asked) h.top note tt W sees claims
  heard_walk (Preparing p left) (Reply.Prepared (prepared.InDoubt y holder)) now h kd asked claims note = prepared_is_heard x tops e k d t
      from act (prepared.InDoubt y holder) p left d.intents M (for_store p left now h asked) h.top note tt W sees claims
  heard_walk (Preparing p left) (Reply.Prepared (prepared.Old y v)) now h kd asked claims note =
      aborts (Preparing p left) h (cause.Old from y v)
  heard_walk (Preparing p left) (Reply.Bound r) now h kd asked claims note = absurd (cc kd)
  heard_walk (Preparing p left) (Reply.Loaded r) now h kd asked claims note = absurd (cc kd)
  heard_walk (Preparing p left) (Reply.Activated r) now h kd asked claims note = absurd (cc kd)
  heard_walk (Preparing p left) (Reply.Noted r) now h kd asked claims note = absurd (cc kd)
  heard_walk (Preparing p left) (Reply.Invoked r) now h kd asked claims note = absurd (cc kd)
  heard_walk (Preparing p left) (Reply.Voted r) now h kd asked claims note = absurd (cc kd)
  heard_walk (Preparing p left) (Reply.Confirmed r) now h kd asked claims note = absurd (cc kd)
  heard_walk (Confirming p) (Reply.Confirmed confirmed.Yes) now h kd asked claims note =
      confirmed_is_heard x tops e k d t from act p M (for_naming p now h) h.top note W sees claims
  heard_walk (Confirming p) (Reply.Confirmed (confirmed.Conflict holder mode)) now h kd asked claims note =
      aborts (Confirming p) h (cause.Conflict holder mode 1)
  heard_walk (Confirming p) (Reply.Confirmed (confirmed.Changed w)) now h kd asked claims note =
      aborts (Confirming p) h (cause.Changed 1 (differs w))
  heard_walk (Confirming p) (Reply.Confirmed (confirmed.NoStores y)) now h kd asked claims note = aborts (Confirming p) h (cause.NoStores y)
  heard_walk (Confirming p) (Reply.Confirmed (confirmed.Listed y s)) now h kd asked claims note = aborts (Confirming p) h (cause.Listed y s)
  heard_walk (Confirming p) (Reply.Bound r) now h kd asked claims note = absurd (cc kd)
  heard_walk (Confirming p) (Reply.Loaded r) now h kd asked claims note = absurd (cc kd)
  heard_walk (Confirming p) (Reply.Activated r) now h kd asked claims note = absurd (cc kd)
  heard_walk (Confirming p) (Reply.Noted r) now h kd asked claims note = absurd (cc kd)
  heard_walk (Confirming p) (Reply.Invoked r) now h kd asked claims note = absurd (cc kd)
  heard_walk (Confirming p) (Reply.Voted r) now h kd asked claims note = absurd (cc kd)
  heard_walk (Confirming p) (Reply.Prepared r) now h kd asked claims note = absurd (cc kd)

pub commits_are_heard : CommitsAreHeard
commits_are_heard x tops e k d t from a q m r M kinds knows at_work now waits note W sees claims =
    let one = and_parts ((plan_of m).req == a.req) ((reply_kind r == ask_kind (ask_of m from)) && order.has (left_of m) from) waits in
    let two = and_parts (reply_kind r == ask_kind (ask_of m from)) (order.has (left_of m) from) one.1 in
    heard_walk x tops e k d t from a.act q M kinds knows at_work W sees m r now (knows.machines a.act q m at_work now)
    (test_is (reply_kind r) (ask_kind (ask_of m from)) two.0) two.1 claims note

-- ---- giveups

pub commits_are_given_up : CommitsAreGivenUp
commits_are_given_up x tops e k d t act q m M kinds knows at_work now note W sees = by m now (knows.machines act q m at_work now)
  where
    lost : (m : Machine) → KnowsMachine tops t.coord act m → (nodes : List ℕ) (why : Cause) →
        let did = aborts_with act why d.intents t.coord in Walks (IsSeenByDisks x tops) e k (gaveup_lines act nodes t.coord ++ did.outs)
        (Up (IsSeenByDisks x tops) k (with_coord t did.part)) d M
    lost m h nodes why =
        let did = aborts_with act why d.intents t.coord in
        say_walk x k tops e t (with_coord t did.part) (gaveup_lines act nodes t.coord) did.outs d W (gaveup_say act nodes t.coord)
        (λ N s. aborts x tops e k d t 0 act q N kinds knows at_work W s m h why) M sees

    by : (m : Machine) → q.now ≡ Committing m → KnowsMachine tops t.coord act m →
        DidIsWalked x tops e k d t (gives_up act d.intents t.coord (Committing m)) M
    by (Voting p left) now h = lost (Voting p left) h (first_of left ∷ []) (cause.Lost (first_of left))
    by (Preparing p left) now h = silent_are_given_up x tops e k d t h.way.0 act p left d.intents M
        (for_store x tops e k d t h.way.0 act q M kinds knows at_work W sees p left now h h.way.1) h.top note W sees
    by (Confirming p) now h = lost (Confirming p) h (1 ∷ []) (cause.Lost 1)
