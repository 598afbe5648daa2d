-- Where a commit that waits for naming names a grant of naming's present incarnation, or a later one, what the top wrote is one version
-- above the last state; so no store refuses it as too late.
use Rattle.arj_law_parts.proofs.Words
use Words.{[], ◌∷◌, ◌≡◌, ◌⊎◌, ◌≤◌, ◌<◌, ◌+◌, ◌*◌, ◌==◌, ℕ, Bool, true, false, List, Option, Some, None, is_some, refl, sym, ◌∙◌, ap}
use Words.{subst, inl}
use Words.{inr, arith, eqb-true, uid_is, in_find, in_to, ObjectState, Uid, object, uid_eq, Confirming, Used, changed_of}
use Words.{Committing, Doing, doing_of, Naming, Parts, uid_number, Node, Branch, branch_of, Seen, Plan, AllByRecursion}
use Words.list
use Rattle.arj_law_serial.proofs.Terms
use Terms.{Act, acts, Values, Action, KnowsRun, Core, Whole, World, Office, Packed, decided, last, undecided, last_known, packed}
use Terms.{plan_by, SeesConfirming, confirming_of, Kinds, SeesCoord, SeesBoth, HasFewLabels, SeesDecided, SeesHeard, book, new_book}
use Terms.{IsGiven}
use Terms.{AreRight, its_acts, Guard, stay, Alive, Call, State, ConfirmTop, IsLast, IsSeenIn, Spot, world_at, BeginsAs, Fixed}
use Terms.{view_of, case_of, SeesMemory, SeesUp, SeesDown, AreVotedAt, SeesNamingIn, SeesNaming, AreApart, AreBased, IsVotedOver}
use Terms.{ArePlannedSo}
use Terms.{ChangesCalled, IsPlannedSo, NodesAreThere, IsOrdered}
use Terms.disk
use Terms.machine as lock
use Rattle.arj_law_disk.proofs.machine.NamingResults.{old_needs_restart}
use Rattle.arj_law_disk.specs.machine.Guards.{IsPresent}
use Rattle.arj_law_disk.specs.machine.State.{Below, state_for, target}
use Rattle.arj_law_disk_view.proofs.running.FewDecided.{known_short}
use Rattle.arj_law_disk_view.specs.{deciding_lines.Said.IsTied, running.Heard.SeesHeardAt, running.Heard.SeesPlan, view.Plans.plan_at}
use Rattle.arj_law_disk_view.specs.view.Plans.{used_at}
use Rattle.arj_law_lock_view.specs.view.Plans.{SeesMachine}
use Rattle.arj_law_serial.proofs.joint
use joint.{Counting.at_commit, Counting.changed_counted, Joining.among_of, Turns.IdleThere}
use joint.BasedPlans.{is_next, over_here}
use joint.LastWriters.{Idle, wrote_last}
use Rattle.arj_law_cause.proofs.confirm.Opened.{same_there}

given_there : (given : Seen) (xs : List Act) → AllByRecursion (IsGiven (let M = given in M.labels)) xs → (a : Act) → list.In a xs →
    IsGiven (let M = given in M.labels) a
given_there M (b ∷ xs) all a (inl same) = subst (IsGiven M.labels) same all.0
given_there M (b ∷ xs) all a (inr i) = given_there M xs all.1 a i
given_there M [] all a i = absurd i

-- the node is in no incarnation after this one, nor comes up in one before the next
abbrev pub IsNoLater : Node → ℕ → Type 0
IsNoLater n g = ((t : Parts) × (n.live ≡ Some t) × ((let d = n.disk in d.inc) ≤ g)) ⊎ ((n.live ≡ None) × ((let d = n.disk in d.inc) + 1 ≤ g))

no_later : (n : Node) (g : ℕ) → IsNoLater n g → (let d = n.disk in d.inc) ≤ g
no_later n g (inl z) = z.2
no_later n g (inr z) = below (let d = n.disk in d.inc) g z.1
  where
    below : (a b : ℕ) → a + 1 ≤ b → a ≤ b
    below a b le = omega (arith, le)

-- what a plan changes the object to
changed_there : (o : Option Used) (c : Option ObjectState) (w : Packed) → (let p = plan_by o c in p.writes) ≡ Some w →
    (g : Used) × (o ≡ Some g) × ((st : ObjectState) × (c ≡ Some st) × (packed st ≡ w))
changed_there None c w is = absurd (cc is)
changed_there (Some g) None w is = absurd (cc is)
changed_there (Some g) (Some st) w is = (g, refl, (st, refl, (let same : packed st ≡ w = cc is in same)))

module _ (values : Values) (x : ℕ) (tops : Kinds) (A : Office) (M : Seen) (both : SeesBoth x tops A M) (heard : SeesHeard x tops A M)
    (its : SeesDecided x tops A M) (nodes : NodesAreThere M) (few : HasFewLabels M) (known : KnowsRun M) (f : Fixed) (begun : List Action)
    (S : State) (seen : IsSeenIn (case_of f x begun S) M) (begins : BeginsAs values M.start.marks x f) (apart : AreApart f.code)
    (voted : AreVotedAt f x S M) (planned : ArePlannedSo f x S A.world M) (based : AreBased f x S A.world M) (tied : IsTied Idle A.world M)
    (ordered : IsOrdered (IdleThere Idle) A.world M)
    (first_by : (let D = A.world.disk in let g = D.first in g.writer) ≡ uid_number (let m = M.start.marks.states x in m.writer))
    (n1 : Node) (here1 : M.nodes 1 ≡ Some n1)
    (u : Uid) (k : Node) (t : Parts) (here : M.nodes u.node ≡ Some k) (live : k.live ≡ Some t) (b : Branch)
    (found : branch_of u t.coord.tree ≡ Some b) (unended : b.ended ≡ None) (q : Doing) (p : Plan) (works : doing_of u t.coord ≡ Some q)
    (now : q.now ≡ Committing (Confirming p)) (w : Used) (used : used_at x p.used ≡ Some w) (present : IsNoLater n1 w.grant) where
  abbrev W : World
  W = A.world

  abbrev D : disk.State
  D = W.disk

  whole : Whole W
  whole = let d = both.disks in d.whole

  core : Core D
  core = whole.core

  right : AreRight new_book M.lines
  right = let z = seen.written in z.right

  -- each action of the journal stands at a node that is there
  act_node : (a : Act) → list.In a (acts M.lines) → (j : Node) × (M.nodes (let v = a.uid in v.node) ≡ Some j)
  act_node a i =
      let g = given_there M (let B = book M.lines in B.acts) (let z = seen.written in
      z.labels) a (subst (list.In a) (sym (its_acts M.lines right)) i) in
      let r = nodes.labels g.0 g.1 g.3 in
      (r.0, ap M.nodes (sym g.4) ∙ r.1)

  hears : SeesHeardAt x u.node tops M.sent t.coord A
  hears = heard.coords u.node k t here live

  its_plan : SeesPlan x tops u (Confirming p) A
  its_plan = hears.plans u q (Confirming p) works now

  coord : SeesCoord x u.node (let d = k.disk in d.inc) tops t.coord D
  coord = let s = both.disks in s.coords u.node k t here live

  sees : SeesConfirming x D (uid_number u) p
  sees = confirming_of x tops D (uid_number u) b.kind q.now p its_plan.top now (coord.working u b q found unended works)

  undone : decided D (uid_number u) ≡ false
  undone = by (decided D (uid_number u)) refl
    where
      by : (z : Bool) → decided D (uid_number u) ≡ z → z ≡ false
      by false is = refl
      by true is = let no_way : true ≡ false = sym (core.coordinators.decided_closed (uid_number u) is) ∙ ap disk.is_gone sees.stage in
          absurd (cc no_way)

  open_now : undecided D (uid_number u) ≡ true
  open_now = λ i. disk.open_by (undone i) (sees.stage i) (D.intent (uid_number u))

  -- each grant that counts is of naming's incarnation
  all_present : IsPresent D A.names (uid_number u)
  all_present i had = level w.grant i A.names.inc (let d = n1.disk in d.inc) (its_plan.grants w i used had) (past had)
      (let z = both.names in z.inc n1 here1) (no_later n1 w.grant present)
    where
      past : (A.names.had (uid_number u) i ≡ true) ⊎ (A.names.had (D.root (uid_number u)) i ≡ true) → i ≤ A.names.inc
      past (inl h) = let g = both.named in let r = g.grants in r.past (uid_number u) i h
      past (inr h) = let g = both.named in let r = g.grants in r.past (D.root (uid_number u)) i h

      level : (g i a c : ℕ) → g ≤ i → i ≤ a → a ≡ c → c ≤ g → i ≡ a
      level g i a c low high same le = omega (arith, low, high, same, le)

  abbrev s : Spot
  s = record { node = u.node; disk = k.disk; parts = t; seen = M }

  same_world : world_at s ≡ M
  same_world = same_there M u.node k t here (nodes.numbers u.node k here) live

  seen_there : IsSeenIn (case_of f x begun S) (world_at s)
  seen_there = subst (IsSeenIn (case_of f x begun S)) (sym same_world) seen

  known_there : KnowsRun (world_at s)
  known_there = subst KnowsRun (sym same_world) known

  stage : (let a = S.action (f.act u) in a.stage) ≡ 1
  stage = at_commit (case_of f x begun S) s seen_there known_there u q (Confirming p) works now

  counted : (z : ObjectState) → changed_of x p ≡ Some z → (c : Call) × lock.In c S.calls × (lock.top c.act ≡ f.act u) × Alive S c.act
  counted = changed_counted (case_of f x begun S) s seen_there known_there u q (Confirming p) works now

  up_now : SeesUp (view_of f x begun u.node) S k.disk t
  up_now = subst (SeesMemory (view_of f x begun u.node) S k.disk) live (let l = seen.sees in l.nodes u.node k here)

  machine : SeesMachine x (f.act u) (Confirming p) S
  machine = let c = up_now.coord in c.commits u q (Confirming p) works now

  called : ChangesCalled x u p
  called z is =
      let g = in_find (λ (y : ObjectState). uid_eq y.uid (object x)) z p.changed is in
      let r = its_plan.changed w z used (among_of z p.changed g.0) (uid_is z.uid (object x) g.1) in
      (r.1, (w, used, r.0))

  -- in that state it planned so
  own_plan : IsPlannedSo f x S W u
  own_plan = record {
    plan = p;
    begun = sees.begun;
    same = sees.plan;
    waiting = S;
    reached = (let l = seen.sees in l.run);
    since = stay;
    stage = stage;
    votes = voted u.node k t here live u q (Confirming p) works now;
    sees = machine;
    changed = called;
    counted = counted;
    over = λ codes. over_here f x S W t.coord (based.coords u.node k t here live) u q p works now called;
  }

  takes : Guard (ConfirmTop (f.act u) (w.grant * 4294967296)) S
  takes = (machine.1 w (in_to w p.used g.0) (eqb-true w.x x g.1), first_low present)
    where
      g : list.In w p.used × ((w.x == x) ≡ true)
      g = in_find (λ (y : Used). y.x == x) w p.used used

      memory : SeesMemory (view_of f x begun 1) S n1.disk n1.live
      memory = let l = seen.sees in l.nodes 1 n1 here1

      first_low : IsNoLater n1 w.grant → S.naming.first ≤ w.grant * 4294967296
      first_low (inr down) = low S.naming.first (let d = n1.disk in d.inc) w.grant (let z = first_down.naming refl in z.first) down.1
        where
          first_down : SeesDown (view_of f x begun 1) S n1.disk
          first_down = subst (SeesMemory (view_of f x begun 1) S n1.disk) down.0 memory

          low : (a i g : ℕ) → a ≤ (i + 1) * 4294967296 → i + 1 ≤ g → a ≤ g * 4294967296
          low a i g before le = omega (arith, before, le)
      first_low (inl up_so) = by t1.naming refl
        where
          t1 : Parts
          t1 = up_so.0

          first_up : SeesUp (view_of f x begun 1) S n1.disk up_so.0
          first_up = subst (SeesMemory (view_of f x begun 1) S n1.disk) up_so.1 memory

          by : (o : Option Naming) → (let t = up_so.0 in t.naming) ≡ o → S.naming.first ≤ w.grant * 4294967296
          by None is = let no_way : false ≡ true = sym (ap is_some is) ∙ first_up.place in absurd (cc no_way)
          by (Some n) is = (let e = naming.seen in let y = e.first in omega (arith, y, inc, le))
            where
              naming : SeesNaming (view_of f x begun 1) n S
              naming = subst (SeesNamingIn (view_of f x begun 1) S) is first_up.naming

              inc : n.inc ≡ (let d = n1.disk in d.inc)
              inc = first_up.inc n is

              le : (let d = n1.disk in d.inc) ≤ w.grant
              le = up_so.2

  -- so its state is the next one
  next_one : (g : Packed) → (let z = D.plan (uid_number u) in z.writes) ≡ Some g → g.version ≡ (let y = last D in y.version) + 1
  next_one g writes =
      let c = counted st changes.2.1 in
      ap (λ (y : Packed). y.version) (sym changes.2.2)
      ∙ is_next f x u S W core (λ z y b e. (let k = both.named in let l = k.plans in l.writer z y b e)) st over stage
      (w.grant * 4294967296) takes c.0 c.1 c.2 c.3 newest short
    where
      changes : (h : Used) × (used_at x p.used ≡ Some h) × ((st : ObjectState) × (changed_of x p ≡ Some st) × (packed st ≡ g))
      changes = changed_there (used_at x p.used) (changed_of x p) g (sym (ap (λ (z : disk.Plan). z.writes) sees.plan) ∙ writes)

      st : ObjectState
      st = changes.2.0

      over : IsVotedOver f x u S W st
      over = over_here f x S W t.coord (based.coords u.node k t here live) u q p works now called st changes.2.1

      newest : (z : Uid) → IsLast S (f.code (let k = over.copy in let b = k.base in b.value) (f.act z)) S.calls →
          uid_number z ≡ (let y = last D in y.writer)
      newest z is = wrote_last f x begun S M seen values M.start.marks begins apart W whole
          (λ z y b e. (let k = both.named in let l = k.plans in l.writer z y b e)) first_by
          (λ y b. (let k = heard.kinds in k.named y (let s = both.disks in s.kinds y b).0)) act_node tied ordered planned u
          (w.grant * 4294967296) takes stage undone own_plan g writes (let k = over.copy in let b = k.base in b.value) z is

      short : (let y = last D in y.version) < 18446744073709551615
      short = (let e = known_short x tops A M both heard.kinds its seen.written few (last D) (inl (last_known D.first D.tops)) in
          omega (arith, e))

  -- so what a store holds isn't above what it is sent
  pub never_late : (j : ℕ) (g : Packed) → target (plan_at x p) j ≡ true → D.held j ≡ Some g →
      (Below g (state_for (plan_at x p)) → ⊥) → ⊥
  never_late j g goal held late = old_needs_restart A both.named (uid_number u) j g open_now
      (ap (λ (z : disk.Plan). target z j) sees.plan ∙ goal) next_one held
      (λ below. late (subst (λ (z : disk.Plan). Below g (state_for z)) sees.plan below)) all_present
