-- What a new Confirm's top wrote is one version above the last state, while its outcome is open, where both machines of the object are
-- seen.
use Rattle.arj_law_parts.proofs.Words
use Words.{Contains, ◌≡◌, ◌<◌, ◌+◌, ◌*◌, ◌==◌, ◌&&◌, ◌||◌, if◌then◌else◌, not, ℕ, Bool, true, false, List, [], ◌∷◌, Option, Some, None}
use Words.{is_some, map, refl, sym, ◌∙◌, ap, subst, inl, inr, ⊎_elim, arith, eqb-true, AllByRecursion, uid_is, in_find, in_from, in_to, Ask}
use Words.{Head, Message, ObjectState, Uid, asks, object, uid_eq, actor, top_of, Confirming, Used, changed_of, confirm_ask, Grants, Marks}
use Words.{checked, entries_after, first_of_each, is_bare, is_there, other_grant, refused_exclude, wanted, Committing, Doing, doing_of}
use Words.{Disk, either, Naming, Parts, uid_number, Node, Branch, at_place, branch_of, is_open, is_open_branch, is_own, Seen}
use Words.list
use Words.ask
use Words.confirmed
use Words.what
use Words.commit
use Rattle.arj_law_serial.proofs.Terms
use Terms.{Act, acts, Values, Action, act_of, KnowsRun, up, Core, Whole, World, IsNext, Office, Packed, decided, last, undecided}
use Terms.{bool_cases, falls_to, never, some_is, last_known, SeesConfirming, packed, plan_by, used_at, ClaimsAsked, Kinds, SeesCoord}
use Terms.{confirming_of, SeesBoth, HasFewLabels, SeesDecided, SeesHeard, book, new_book, IsGiven, AreAlike, AreRight, its_acts, IsPart}
use Terms.{KnowsParted, Guard, stay, Alive, Call, State, ConfirmTop, IsLast, IsSeenIn, Spot, world_at, BeginsAs, Fixed, view_of, case_of}
use Terms.{IsAskedSeen, IsRequestSeen, SeesMemory, SeesUp, AreVotedAt, SeesNamingIn, SeesNaming, AreApart, AreBased, IsVotedOver}
use Terms.{ArePlannedSo, ChangesCalled, IsPlannedSo, NodesAreThere, IsOrdered}
use Terms.seen as posts
use Terms.disk
use Terms.machine as lock
use Rattle.arj_law_disk_view.proofs.{running.FewDecided.known_short, view.ConfirmWalks.both_none}
use Rattle.arj_law_disk_view.specs.{deciding_lines.Said.IsTied, running.Heard.ClaimsAsked as ClaimsHeard, running.Heard.SeesHeardAt}
use Rattle.arj_law_disk_view.specs.{view.Sees.ClaimsAsk, view.Sees.SeesDown}
use Rattle.arj_law_lock_view.specs.facts.Parted.{IsSought}
use Rattle.arj_law_serial.proofs.joint
use joint.{Counting.at_commit, Counting.changed_counted, Joining.among_of, Turns.IdleThere}
use joint.BasedPlans.{is_next, over_here}
use joint.LastWriters.{Idle, wrote_last}

-- ---- grants

-- each grant of a Confirm that nothing refuses is of naming's incarnation
grant_now : (n : Naming) (x g : ℕ) (grants : Grants) → first_of_each (other_grant n) grants ≡ None → Contains {X = ℕ × ℕ} grants (x, g) →
    g ≡ n.inc
grant_now n x g grants h c = by grants h (in_from {X = ℕ × ℕ} (x, g) grants c)
  where
    one : (k : ℕ × ℕ) → (x, g) ≡ k → (b : Bool) → (k.1 == n.inc) ≡ b →
        (if b then None else Some (confirmed.Changed (what.Inc k.1 n.inc))) ≡ None → g ≡ n.inc
    one k is true e f = ap (λ (q : ℕ × ℕ). q.1) is ∙ eqb-true k.1 n.inc e
    one k is false e f = absurd (cc f)

    by : (gs : Grants) → first_of_each (other_grant n) gs ≡ None → list.In {X = ℕ × ℕ} (x, g) gs → g ≡ n.inc
    by [] f i = absurd i
    by (k ∷ ks) f (inl is) = one k (sym is) (k.1 == n.inc) refl (both_none (other_grant n k) (first_of_each (other_grant n) ks) f).0
    by (k ∷ ks) f (inr more) = by ks (both_none (other_grant n k) (first_of_each (other_grant n) ks) f).1 more

-- what a plan uses it names a grant of
grant_of : (x : ℕ) (us : List Used) (w : Used) → used_at x us ≡ Some w →
    Contains {X = ℕ × ℕ} (map {A = Used} {B = ℕ × ℕ} (λ u. (u.x, u.grant)) us) (x, w.grant)
grant_of x us w is =
    let f = in_find (λ (u : Used). u.x == x) w us is in
    in_to {X = ℕ × ℕ} (x, w.grant) (map {A = Used} {B = ℕ × ℕ} (λ u. (u.x, u.grant)) us) (by us f.0 (eqb-true w.x x f.1))
  where
    by : (vs : List Used) → list.In w vs → w.x ≡ x → list.In {X = ℕ × ℕ} (x, w.grant) (map {A = Used} {B = ℕ × ℕ} (λ u. (u.x, u.grant)) vs)
    by [] i e = absurd i
    by (v ∷ vs) (inl same) e = inl (λ i. (((ap (λ (z : Used). z.x) same) ∙ e) i, (same i).grant))
    by (v ∷ vs) (inr i) e = inr (by vs i e)

-- the journal's action of one that was begun
act_there : (begun : List Action) (xs : List Act) → AreAlike begun xs → (a : Action) → list.In a begun →
    (b : Act) × list.In b xs × (b.uid ≡ act_of a)
act_there [] xs alike a i = absurd i
act_there (c ∷ begun) [] alike a i = absurd alike
act_there (c ∷ begun) (b ∷ xs) alike a (inl same) = (b, inl refl, alike.0 ∙ ap act_of same)
act_there (c ∷ begun) (b ∷ xs) alike a (inr i) = let r = act_there begun xs alike.3 a i in (r.0, inr r.1, r.2)

given_there : (given : Seen) (xs : List Act) → AllByRecursion (IsGiven (let M = given in M.labels)) xs → (a : Act) → list.In a xs →
    IsGiven (let M = given in M.labels) a
given_there M [] all a i = absurd i
given_there M (b ∷ xs) all a (inl same) = subst (IsGiven M.labels) same all.0
given_there M (b ∷ xs) all a (inr i) = given_there M xs all.1 a i

-- what a plan changes the object to, and how it is used
changed_there : (o : Option Used) (c : Option ObjectState) (w : Packed) → (let p = plan_by o c in p.writes) ≡ Some w →
    (g : Used) × (o ≡ Some g) × ((st : ObjectState) × (c ≡ Some st) × (packed st ≡ w))
changed_there None c w is = absurd (cc is)
changed_there (Some g) None w is = absurd (cc is)
changed_there (Some g) (Some st) w is = (g, refl, (st, refl, (let same : packed st ≡ w = cc is in same)))

-- a node that is up, put where it is
same_there : (M : Seen) (k : ℕ) (n : Node) (d : Disk) (t : Parts) → M.nodes k ≡ Some n → n.number ≡ k → n.disk ≡ d → n.live ≡ Some t →
    up k d t M ≡ M
same_there M k n d t here number is live = λ i. record M { nodes = λ m. each m (m == k) refl i }
  where
    its_node : record { number = k; disk = d; live = Some t } ≡ n
    its_node = λ i. record { number = sym number i; disk = sym is i; live = sym live i }

    each : (m : ℕ) (b : Bool) → (m == k) ≡ b →
        (if (m == k) then Some (record { number = k; disk = d; live = Some t }) else M.nodes m) ≡ M.nodes m
    each m true e = ap (λ (z : Bool). if z then Some (record { number = k; disk = d; live = Some t }) else M.nodes m) e ∙ ap Some its_node
        ∙ sym here ∙ ap M.nodes (sym (eqb-true m k e))
    each m false e = ap (λ (z : Bool). if z then Some (record { number = k; disk = d; live = Some t }) else M.nodes m) e

-- ---- a Confirm at naming

module _ (values : Values) (x : ℕ) (tops : Kinds) (A : Office) (M : Seen) (both : SeesBoth x tops A M) (heard : SeesHeard x tops A M)
    (its : SeesDecided x tops A M) (nodes : NodesAreThere M) (few : HasFewLabels M) (known : KnowsRun M) (f : Fixed) (begun : List Action)
    (S : State) (parted : KnowsParted begun M)
    (seen : IsSeenIn (case_of f x begun S) M) (begins : BeginsAs values M.start.marks x f) (apart : AreApart f.code)
    (voted : AreVotedAt f x S M)
    (planned : ArePlannedSo f x S A.world M) (based : AreBased f x S A.world M) (tied : IsTied Idle A.world M)
    (ordered : IsOrdered (IdleThere Idle) A.world M)
    (first_by : (let D = A.world.disk in let g = D.first in g.writer) ≡ uid_number (let m = M.start.marks.states x in m.writer))
    (n1 : Node) (t1 : Parts) (n : Naming) (here1 : M.nodes 1 ≡ Some n1) (live1 : n1.live ≡ Some t1) (naming1 : t1.naming ≡ Some n)
    (from : ℕ) (m : Message) (h : Head) (grants : Grants) (excluded included : Marks)
    (sent : posts.In (record { from = from; to = 1; message = m }) M.sent)
    (asking : asks m ≡ Some (h, ask.Confirm grants excluded included))
    (free : checked h.path grants excluded included (let d = n1.disk in d.names) n ≡ None) where
  abbrev u : Uid
  u = top_of h.path

  abbrev W : World
  W = A.world

  abbrev D : disk.State
  D = W.disk

  whole : Whole W
  whole = let d = both.disks in d.whole

  core : Core D
  core = whole.core

  right : AreRight new_book M.lines
  right = let w = seen.written in w.right

  claims : ClaimsAsk x W 1 h (ask.Confirm grants excluded included)
  claims = subst (ClaimsAsked x tops W M.lines from 1 m) asking (let d = both.disks in
      d.posts (record { from = from; to = 1; message = m }) sent)

  has_begun : D.begun (uid_number u) ≡ true
  has_begun = (subst (ClaimsHeard x A) asking (heard.posts (record { from = from; to = 1; message = m }) sent)).0

  -- each action of the journal stands at a node that is there
  act_node : (a : Act) → list.In a (acts M.lines) → (k : Node) × (M.nodes (let v = a.uid in v.node) ≡ Some k)
  act_node a i =
      let g = given_there M (let B = book M.lines in B.acts) (let w = seen.written in
      w.labels) a (subst (list.In a) (sym (its_acts M.lines right)) i) in
      let r = nodes.labels g.0 g.1 g.3 in
      (r.0, ap M.nodes (sym g.4) ∙ r.1)

  node : (k : Node) × (M.nodes u.node ≡ Some k)
  node =
      let t = parted.tops (record { from = from; to = 1; message = m }) h (ask.Confirm grants excluded included) sent asking refl in
      let b = act_there begun (acts M.lines) (subst (AreAlike begun) (its_acts M.lines right) seen.alike) t.0 (in_from t.0 begun t.1) in
      let r = act_node b.0 b.1 in
      (r.0, ap (λ (v : Uid). M.nodes v.node) (sym (b.2 ∙ t.2 ∙ claims.0)) ∙ r.1)

  -- ---- it isn't confirmed, and its outcome is open

  module _ (unsure : D.conf (uid_number u) ≡ false) (heavy : D.light (uid_number u) ≡ false) (open_now : undecided D (uid_number u) ≡ true)
      (w : Packed) (writes : (let p = D.plan (uid_number u) in p.writes) ≡ Some w) where
    undone : decided D (uid_number u) ≡ false
    undone = by (decided D (uid_number u)) refl open_now
      where
        by : (b : Bool) → decided D (uid_number u) ≡ b → disk.open_by b (D.stage (uid_number u)) (D.intent (uid_number u)) ≡ true →
            b ≡ false
        by true is on = absurd (cc on)
        by false is on = refl

    unrecorded : is_some (D.intent (uid_number u)) ≡ false
    unrecorded = falls_to (is_some (D.intent (uid_number u)))
        (λ some. ⊎_elim (λ c. never c unsure) (λ l. never l heavy) (core.coordinators.record_taken (uid_number u) some))

    not_gone : disk.is_gone (D.stage (uid_number u)) ≡ true → ⊥
    not_gone gone = by (decided D (uid_number u)) (D.stage (uid_number u)) (is_some (D.intent (uid_number u))) unrecorded gone open_now
      where
        by : (b : Bool) (s : disk.Stage) (i : Bool) → i ≡ false → disk.is_gone s ≡ true → (not b && (disk.is_open s || i)) ≡ true → ⊥
        by b disk.Idle i off gone on = cc gone
        by b disk.Preparing i off gone on = cc gone
        by b disk.Confirming i off gone on = cc gone
        by true disk.Gone i off gone on = cc on
        by false disk.Gone i off gone on = never on off

    -- its node is up
    live : (t : Parts) × (let k = node.0 in k.live ≡ Some t)
    live = by (let k = node.0 in k.live) refl
      where
        by : (o : Option Parts) → (let k = node.0 in k.live) ≡ o → (t : Parts) × (let k = node.0 in k.live ≡ Some t)
        by (Some t) is = (t, is)
        by None is = absurd (not_gone (let d = both.disks in let s : SeesDown u.node (let k = node.0 in let c = k.disk in
            c.inc) D = d.downs u.node node.0 node.1 is in s.closed u refl has_begun))

    abbrev t : Parts
    t = live.0

    abbrev d : Disk
    d = let k = node.0 in k.disk

    coord : SeesCoord x u.node d.inc tops t.coord D
    coord = let s = both.disks in s.coords u.node node.0 t node.1 live.1

    -- its action is open there
    opened : (b : Branch) × (branch_of u t.coord.tree ≡ Some b) × (b.ended ≡ None)
    opened = by (branch_of u t.coord.tree) refl
      where
        closed : is_open u t.coord.tree ≡ false → ⊥
        closed off = not_gone (coord.closed u refl off has_begun)

        ended : (b : Branch) → branch_of u t.coord.tree ≡ Some b → b.ended ≡ None
        ended b is = at_end b.ended refl
          where
            at_end : (o : Option _) → b.ended ≡ o → o ≡ None
            at_end None e = refl
            at_end (Some z) e = absurd (closed (ap is_open_branch is ∙ ap (λ y. not (is_some y)) e))

        by : (o : Option Branch) → branch_of u t.coord.tree ≡ o → (b : Branch) × (branch_of u t.coord.tree ≡ Some b) × (b.ended ≡ None)
        by None is = absurd (closed (ap is_open_branch is))
        by (Some b) is = (b, is, ended b is)

    own : is_own (actor h.path) t.coord.tree ≡ true
    own = ap (λ (v : Uid). is_own v t.coord.tree) claims.0 ∙ by (is_own u t.coord.tree) refl opened.1
      where
        by : (b : Bool) → is_own u t.coord.tree ≡ b → (if b then at_place u.num t.coord.tree.branches else None) ≡ Some opened.0 → b ≡ true
        by true is e = refl
        by false is e = absurd (cc e)

    -- its commit waits for naming to confirm just this
    seeking : (q : Doing) × (p : commit.Plan) × (doing_of u t.coord ≡ Some q) × (q.now ≡ Committing (Confirming p))
        × (ask.Confirm grants excluded included ≡ confirm_ask p)
    seeking = by ((parted.coords u.node node.0 t node.1 live.1).0 (record { from = from; to = 1; message = m }) h
        (ask.Confirm grants excluded included) sent asking refl own)
      where
        by_machine : (q : Doing) (k : commit.Machine) → doing_of u t.coord ≡ Some q → q.now ≡ Committing k →
            IsSought k 1 (ask.Confirm grants excluded included) → (q : Doing) × (p : commit.Plan) × (doing_of u t.coord ≡ Some q)
            × (q.now ≡ Committing (Confirming p)) × (ask.Confirm grants excluded included ≡ confirm_ask p)
        by_machine q (commit.Voting p left) works now sought = absurd sought
        by_machine q (commit.Preparing p left) works now sought = absurd sought
        by_machine q (commit.Confirming p) works now sought = (q, p, works, now, sought.1)

        by : IsPart t.coord (actor h.path) 1 (ask.Confirm grants excluded included) → (q : Doing) × (p : commit.Plan)
            × (doing_of u t.coord ≡ Some q) × (q.now ≡ Committing (Confirming p)) × (ask.Confirm grants excluded included ≡ confirm_ask p)
        by (inl s) = by_machine s.doing s.machine (ap (λ (v : Uid). doing_of v t.coord) (sym claims.0) ∙ s.works) s.now s.sought
        by (inr e) =
            let same : e.branch ≡ opened.0 = some_is (sym opened.1 ∙ ap (λ (v : Uid). branch_of v t.coord.tree) (sym claims.0) ∙ e.found)
            refl in
            absurd (never e.ended (ap is_some (ap (λ (b : Branch). b.ended) same ∙ opened.2)))

    abbrev q : Doing
    q = seeking.0

    abbrev p : commit.Plan
    p = seeking.1

    is_top : tops.is_top (uid_number u) ≡ true
    is_top = (let s = both.disks in s.kinds (uid_number u) has_begun).0

    sees : SeesConfirming x D (uid_number u) p
    sees = confirming_of x tops D (uid_number u) (let b = opened.0 in
        b.kind) q.now p is_top seeking.3 (coord.working u opened.0 q opened.1 opened.2 seeking.2)

    changes : (g : Used) × (used_at x p.used ≡ Some g) × ((st : ObjectState) × (changed_of x p ≡ Some st) × (packed st ≡ w))
    changes = changed_there (used_at x p.used) (changed_of x p) w (sym (ap (λ (k : disk.Plan). k.writes) sees.plan) ∙ writes)

    abbrev st : ObjectState
    st = changes.2.0

    -- ---- what the lock machine has of it

    abbrev s : Spot
    s = record { node = u.node; disk = d; parts = t; seen = M }

    same_world : world_at s ≡ M
    same_world = same_there M u.node node.0 d t node.1 (nodes.numbers u.node node.0 node.1) refl live.1

    seen_there : IsSeenIn (case_of f x begun S) (world_at s)
    seen_there = subst (IsSeenIn (case_of f x begun S)) (sym same_world) seen

    known_there : KnowsRun (world_at s)
    known_there = subst KnowsRun (sym same_world) known

    stage : (let a = S.action (f.act u) in a.stage) ≡ 1
    stage = at_commit (case_of f x begun S) s seen_there known_there u q (Confirming p) seeking.2 seeking.3

    counted : (z : ObjectState) → changed_of x p ≡ Some z → (c : Call) × lock.In c S.calls × (lock.top c.act ≡ f.act u) × Alive S c.act
    counted = changed_counted (case_of f x begun S) s seen_there known_there u q (Confirming p) seeking.2 seeking.3

    up_now : SeesUp (view_of f x begun u.node) S d t
    up_now = subst (SeesMemory (view_of f x begun u.node) S d) live.1 (let l = seen.sees in l.nodes u.node node.0 node.1)

    called : ChangesCalled x u p
    called z is =
        let g = in_find (λ (y : ObjectState). uid_eq y.uid (object x)) z p.changed is in
        let its_plan = (let c : SeesHeardAt x u.node tops M.sent t.coord A = heard.coords u.node node.0 t node.1 live.1 in
        c.plans u q (Confirming p) seeking.2 seeking.3) in
        let r = its_plan.changed changes.0 z changes.1 (among_of z p.changed g.0) (uid_is z.uid (object x) g.1) in
        (r.1, (changes.0, changes.1, r.0))

    over : IsVotedOver f x u S W st
    over = over_here f x S W t.coord (based.coords u.node node.0 t node.1 live.1) u q p seeking.2 seeking.3 called st changes.2.1

    -- in that state it planned so
    own_plan : IsPlannedSo f x S W u
    own_plan = record {
      plan = p;
      begun = has_begun;
      same = sees.plan;
      waiting = S;
      reached = (let l = seen.sees in l.run);
      since = stay;
      stage = stage;
      votes = voted u.node node.0 t node.1 live.1 u q (Confirming p) seeking.2 seeking.3;
      sees = (let c = up_now.coord in c.commits u q (Confirming p) seeking.2 seeking.3);
      changed = called;
      counted = counted;
      over = λ codes. over_here f x S W t.coord (based.coords u.node node.0 t node.1 live.1) u q p seeking.2 seeking.3 called;
    }

    -- naming may take its Confirm in the machine
    abbrev g : ℕ
    g = let z = changes.0 in z.grant

    names_it : Contains {X = ℕ × ℕ} grants (x, g)
    names_it = subst (λ (gs : Grants). Contains {X = ℕ × ℕ} gs (x, g)) (sym (grants_are seeking.4)) (grant_of x p.used changes.0 changes.1)
      where
        of_ask : Ask → Grants
        of_ask (ask.Confirm gs e i) = gs
        of_ask other = []

        grants_are : ask.Confirm grants excluded included ≡ confirm_ask p → grants ≡ map {A = Used} {B = ℕ × ℕ} (λ y. (y.x, y.grant)) p.used
        grants_are is = ap of_ask is

    present : g ≡ n.inc
    present = grant_now n x g grants (both_none (first_of_each (other_grant n) grants) (either (first_of_each (refused_exclude h.path n)
        (wanted u grants excluded (let k = n1.disk in k.names))) (either (first_of_each (is_there (let k = n1.disk in k.names)) included)
        (first_of_each is_bare (entries_after u grants excluded included (let k = n1.disk in k.names))))) free).0 names_it

    takes : Guard (ConfirmTop (f.act u) (g * 4294967296)) S
    takes = (r.names g names_it, (let e = k.seen in let y = e.first in omega (arith, y, present)))
      where
        r : IsRequestSeen (view_of f x begun 1) h (ask.Confirm grants excluded included) S
        r = subst (IsAskedSeen (view_of f x begun 1) M.sent (record { from = from; to = 1; message = m }) S) asking (let l = seen.sees in
            l.posts (record { from = from; to = 1; message = m }) sent)

        first_up : SeesUp (view_of f x begun 1) S n1.disk t1
        first_up = subst (SeesMemory (view_of f x begun 1) S n1.disk) live1 (let l = seen.sees in l.nodes 1 n1 here1)

        k : SeesNaming (view_of f x begun 1) n S
        k = subst (SeesNamingIn (view_of f x begun 1) S) naming1 first_up.naming

    -- so its state is the next one
    next_one : w.version ≡ (let y = last D in y.version) + 1
    next_one =
        let c = counted st changes.2.1 in
        ap (λ (y : Packed). y.version) (sym changes.2.2)
        ∙ is_next f x u S W core (λ z y b e. (let k = both.named in let l = k.plans in l.writer z y b e)) st over stage (g * 4294967296)
        takes c.0 c.1 c.2 c.3 newest short
      where
        newest : (z : Uid) → IsLast S (f.code (let k = over.copy in let b = k.base in b.value) (f.act z)) S.calls →
            uid_number z ≡ (let y = last D in y.writer)
        newest z is = wrote_last f x begun S M seen values M.start.marks begins apart W whole
            (λ z y b e. (let k = both.named in let l = k.plans in l.writer z y b e)) first_by
            (λ y b. (let k = heard.kinds in k.named y (let s = both.disks in s.kinds y b).0)) act_node tied ordered planned u
            (g * 4294967296) takes stage undone own_plan w writes (let k = over.copy in let b = k.base in b.value) z is

        short : (let y = last D in y.version) < 18446744073709551615
        short = (let e = known_short x tops A M both heard.kinds its seen.written few (last D) (inl (last_known D.first D.tops)) in
            omega (arith, e))

  -- where it was confirmed it is so already
  pub next_here : IsNext D (uid_number u)
  next_here open_now w writes = ⊎_elim
      (λ conf. core.alone.next (uid_number u) w conf open_now writes)
      (λ unsure. ⊎_elim (λ light. absurd (let none = core.light.plain (uid_number u) light in
      let both_are : ◌≡◌ {A = Option Packed} None (Some w) = sym none ∙ writes in cc both_are))
      (λ heavy. next_one unsure heavy open_now w writes) (bool_cases (D.light (uid_number u))))
      (bool_cases (D.conf (uid_number u)))
