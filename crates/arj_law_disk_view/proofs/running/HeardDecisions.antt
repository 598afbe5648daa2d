-- What a coordinator has of naming's answers, where naming's Yes comes to a commit: its top is decided.
use Rattle.arj_law_parts.proofs.Words
use Words.{◌≡◌, ◌≢◌, ◌⊎◌, ◌≤◌, ◌<◌, ◌==◌, ◌||◌, ℕ, if◌then◌else◌, true, false, List, [], ◌∷◌, Some, None, refl, sym, ◌∙◌, ap, subst, inl}
use Words.{inr, ⊎_elim, arith, Contains, and_parts, or_parts, uid_cases, Message, Uid, asks, is_on, actor, top_of, moved_commit, Steps}
use Words.{Confirming, Decides, Machine, Plan, participants, plainly, plan_of, Committing, Coord, Doing, Idle, Root, Said, doing_of}
use Words.{kept_of, root_at, Disk, Effect, Send, decide, decided, Parts, with_coord, uid_number, Node, is_aborted, is_own, root_of}
use Words.{number_tells, Post, Seen}
use Rattle.arj_law_disk_view.proofs.Terms
use Terms.{IsGood, KnowsFew, KnowsUses, Named, Answer, Names, Office, In, never, some_is, test_is, test_same, up, Up, Walks, halted}
use Terms.{SeesConfirming, KnowsNode, KnowsMachine, AreOneChange, IsFixed, IsLater, Kinds, SeesCoord, IsOther, OnlyDecided, OnlyRoots}
use Terms.{SeesBoth, SeesRootOf, DecidesTop, Change, Deciding, MayGoOn, root_retains, HasList, HasRetained, IsLasting, IsTopOf, ClaimsAsked}
use Terms.{HasNoneOf, IsOfRoot, IsWorkingRoot, SeesCall, SeesHeard, SeesHeardAt, SeesPlan, HasHeard, HoldsFrom, going_of}
use Terms.seen
use Rattle.arj_law_disk_view.proofs.names.{DecidedRoots.decided_calls_have_lists, DecidedRoots.decided_roots_are_seen}
use Rattle.arj_law_disk_view.proofs.names.{GrantClaims.changes_are_after, Heard.none_heard, RootsBoth.root_stays}
use Rattle.arj_law_disk_view.proofs.running
use running.{Decides.decides, Decides.knows_parts, HeardCoord.mine, HeardGoing.old_goes_on, HeardLasting.lasting, HeardPosts.SaysHeard}
use running.{HeardQuiet.fixed_in, HeardQuiet.sends_same, HeardUnused.decide_says}
use running.HeardAll.{WasAt, heard_to, walk_fits}
use running.HeardDone.{at_decided, call_then, own_then, works_then}
use running.HeardPlans.{apart_from, free, its_top, root_seen, working}
use running.HeardStays.{GoesOn, IsNewTo, SendsMore, StaysOf, call_stays, claim_stays, none_stays, plan_stays, step_goes, was_to}
use Rattle.arj_law_disk_view.proofs.view
use view.{DecideWalks.confirming_of, DecidedCoord.decided_doing, DecidingSteps.takes_part, Frames.node_cases, Frames.node_here}
use view.{Later.effects_are_later, Planned.has_same}
use Rattle.arj_law_disk_view.specs.names.Decided.{IsSettled}
use Rattle.arj_law_disk_view.proofs.names.DecidedTrees as tree

module _ (x : ℕ) (tops : Kinds) (e k : ℕ) (d : Disk) (t : Parts) (M : Seen) (A : Office) (good : IsGood (up k d t M))
    (few : KnowsFew (up k d t M)) (uses : KnowsUses t.coord) (knows : KnowsNode tops k d t M) (both : SeesBoth x tops A (up k d t M))
    (h : SeesHeard x tops A (up k d t M))
    (u : Uid) (q : Doing) (p : Plan) (at_work : doing_of u t.coord ≡ Some q) (now : q.now ≡ Committing (Confirming p)) where
  abbrev Here : Node
  Here = record { number = k; disk = d; live = Some t }

  abbrev O : Change
  O = Deciding (uid_number u) (root_retains x u p t.coord)

  -- by naming's Yes
  abbrev Done_plan : Plan
  Done_plan = record p { confirmed = true }

  abbrev C : Coord
  C = decided u (record p { confirmed = true }) t.coord

  f : IsFixed tops A.world.disk
  f = fixed_in x tops A (up k d t M) both

  here : (up k d t M).nodes k ≡ Some Here
  here = node_here M k Here

  n : KnowsMachine tops t.coord u (Confirming p)
  n = let c = knows.coord in c.machines u q (Confirming p) at_work now

  rooted : root_of n.branch.path ≡ root_of p.path
  rooted = ap root_of n.path

  top_is : IsTopOf tops (root_of p.path) u
  top_is = subst (λ r. IsTopOf tops r u) rooted (its_top x tops k d t M A good few knows both h u n.branch n.found n.unended n.top)

  at_root : IsWorkingRoot tops t.coord (root_of p.path)
  at_root = subst (IsWorkingRoot tops t.coord) rooted (working x tops k d t M A good few knows both h u n.branch n.found n.unended n.top)

  sees_root : SeesRootOf x tops (root_of p.path) t.coord (root_at (root_of p.path) t.coord) A
  sees_root = subst (λ r. SeesRootOf x tops r t.coord (root_at r t.coord) A) rooted
      (root_seen x tops k d t M A good few knows both h u n.branch n.found n.unended n.top)

  coord_seen : SeesCoord x k d.inc tops t.coord A.world.disk
  coord_seen = let s = both.disks in s.coords k Here t here refl

  -- the root is of this node and incarnation
  root_node : ((root_of p.path).node ≡ k) × ((root_of p.path).inc ≡ d.inc)
  root_node = let o = and_parts ((root_of p.path).node == t.coord.tree.node) ((root_of p.path).inc == t.coord.tree.inc) at_root.own in (
    test_is (root_of p.path).node t.coord.tree.node o.0 ∙ coord_seen.node,
    test_is (root_of p.path).inc t.coord.tree.inc o.1 ∙ coord_seen.present,
  )

  t_root : A.world.disk.root (uid_number u) ≡ uid_number (root_of p.path)
  t_root = ap (λ g. g (uid_number u)) f.root ∙ top_is.of_root

  -- no other root's top is decided
  apart : (r : Uid) → r ≢ root_of p.path → IsOther (λ z. z == uid_number u) A.world.disk (uid_number r)
  apart r other z on is = other (number_tells r (root_of p.path) (sym is ∙ (ap A.world.disk.root (test_is z (uid_number u) on) ∙ t_root)))

  -- ---- the plan

  confirming : SeesConfirming x A.world.disk (uid_number u) (record p { confirmed = true })
  confirming = let c = confirming_of x tops A.world.disk (uid_number u) n.branch.kind q.now p n.top now
      (coord_seen.working u n.branch q n.found n.unended at_work) in
      record {
        stage = c.stage;
        begun = c.begun;
        plan = c.plan;
        tidy = record { apart = c.tidy.apart; once = c.tidy.once; distinct = c.tidy.distinct; loaded = c.tidy.loaded; of = c.tidy.of };
        got = c.got;
        marks = c.marks;
      }

  one_change : AreOneChange (record p { confirmed = true })
  one_change y st i of = let o = n.changes y st i of in record { found = o.found; used = o.used; uses = o.uses }

  decides_it : DecidesTop x tops (root_of p.path) u (record p { confirmed = true }) t.coord
  decides_it = decides x good.0 t (knows_parts good.0 k d t M good.1 few uses) tops d.intents knows.coord u q (Confirming p)
      (record p { confirmed = true }) at_work now refl refl knows.kinds refl one_change

  -- ---- from there

  module _ (B : Office) (N : Seen) (c : OnlyDecided (λ z. z == uid_number u) (λ z. root_retains x u p t.coord) A B)
      (hb : IsFixed tops B.world.disk) (held : Named B) where
    only : OnlyRoots (λ z. z == uid_number u) A B
    only = c.only

    later : IsLater A.world B.world
    later = let a = c.along in
        subst (IsLater A.world) a.here (effects_are_later A.world a.effects a.allowed (let s = both.disks in s.whole))

    answers_on : (a : Answer) → In a A.names.answers → In a B.names.answers
    answers_on a i = subst (λ (m : Names). In a m.answers) (sym only.names) i

    on : GoesOn A B
    on = record { later = later; had = only.grows; answers = answers_on }

    stays_of : (r : Uid) → tops.root (uid_number r) ≡ uid_number r → r ≢ root_of p.path → StaysOf tops (uid_number r) A B
    stays_of r alone other = record {
      had = λ z of. only.had z (its z of);
      kept = λ z of. only.kept z (its z of);
      states = only.tops (uid_number r) (apart r other);
    }
      where
        its : (z : ℕ) → IsOfRoot tops (uid_number r) z → IsOther (λ y. y == uid_number u) A.world.disk (A.world.disk.root z)
        its z of = subst (IsOther (λ y. y == uid_number u) A.world.disk)
            (sym (ap (λ y. y z) f.root ∙ ⊎_elim (λ same. ap tops.root same ∙ alone) (λ is. is) of)) (apart r other)

    -- of an action of another node, which is a root or a top
    stays_for : (w : Uid) → (w.node ≡ k → ⊥) → (tops.root (uid_number w) ≡ uid_number w) ⊎ (tops.is_top (uid_number w) ≡ true) →
        StaysOf tops (tops.root (uid_number w)) A B
    stays_for w not (inl alone) =
        subst (λ r. StaysOf tops r A B) (sym alone) (stays_of w alone (λ same. not (ap (λ (y : Uid). y.node) same ∙ root_node.0)))
    stays_for w not (inr top) =
        let r = h.kinds.rooted w top in
        let o = h.kinds.own w r.0 top r.1 in
        subst (λ z. StaysOf tops z A B) (sym r.1) (stays_of r.0 (ap tops.root (sym r.1) ∙ (h.kinds.idem (uid_number w) ∙ r.1))
        (λ same. not (o.0 ∙ (ap (λ (y : Uid). y.node) same ∙ root_node.0))))

    old : (z : Post) → seen.In z M.sent → ClaimsAsked x B (asks z.message)
    old z i = claim_stays x tops A B f hb on both.named held (changes_are_after O A B both.named c) (asks z.message) (h.posts z i)

    sends_on : (fewer many : List Post) → SendsMore x A fewer many → SendsMore x B fewer many
    sends_on fewer many more = record {
      within = more.within;
      new = λ z i. ⊎_elim (λ o. inl o) (λ (w : IsNewTo x A z). inr (record {
        none = w.none;
        claims = claim_stays x tops A B f hb on both.named held (changes_are_after O A B both.named c) (asks z.message) w.claims;
      })) (more.new z i);
    }

    other_at : (j : ℕ) (m : Node) (s : Parts) → (j == k) ≡ false → M.nodes j ≡ Some m → m.live ≡ Some s →
        WasAt x tops A B (up k d t M) N f hb on h j s
    other_at j m s off there live = record {
      node = m;
      there = at_j;
      parts = s;
      live = live;
      same = refl;
      stays =
          λ w own kind. stays_for w (λ same. never (ap (λ i. i == k) (sym (home w own)) ∙ (ap (λ i. i == k) same ∙ test_same k)) off) kind;
    }
      where
        at_j : (up k d t M).nodes j ≡ Some m
        at_j = ap (λ b. if b then Some Here else M.nodes j) off ∙ there

        home : (w : Uid) → is_own w s.coord.tree ≡ true → w.node ≡ j
        home w own = test_is w.node s.coord.tree.node (and_parts (w.node == s.coord.tree.node) (w.inc == s.coord.tree.inc) own).0
            ∙ (let y = both.disks in let z = y.coords j m s at_j live in z.node)

    none_at : (i j : ℕ) (m : Node) (w : Uid) → d.inc ≤ i →
        ((j ≡ k) × ((let y = m.disk in y.inc) ≡ i)) ⊎ (((j == k) ≡ false) × (M.nodes j ≡ Some m)) → w.node ≡ j →
        tops.root (uid_number w) ≡ uid_number w → (let y = m.disk in y.inc) < w.inc → HasNoneOf tops (uid_number w) B
    none_at i j m w high (inl (same, inc)) node alone low = none_stays x tops A B f hb on (uid_number w) (stays_of w alone
        (λ is. let r : w.inc ≡ d.inc = ap (λ (y : Uid). y.inc) is ∙ root_node.1 in let m_is : m.disk.inc ≡ i = inc in absurd (omega arith)))
        (h.future k Here w here (node ∙ same) alone (let m_is : m.disk.inc ≡ i = inc in omega arith))
    none_at i j m w high (inr (off, there)) node alone low = none_stays x tops A B f hb on (uid_number w)
        (stays_of w alone (λ is. never (ap (λ y. y == k) (sym node ∙ (ap (λ (y : Uid). y.node) is ∙ root_node.0)) ∙ test_same k) off))
        (h.future j m w (ap (λ b. if b then Some Here else M.nodes j) off ∙ there) node alone low)

    -- ---- the coordinator

    module _ (settled : IsSettled B (uid_number u)) (more : SendsMore x B M.sent N.sent) where
      was : SeesHeardAt x k tops M.sent t.coord A
      was = mine x tops k d t M A both h

      lasts : IsLasting x (decided u (record p { confirmed = true }) t.coord)
          (root_at (root_of p.path) (decided u (record p { confirmed = true }) t.coord))
      lasts = lasting x (root_of p.path) C (root_at (root_of p.path) C) free_then
          (λ s there of. let y = (let z = knows.coord in z.said (root_of p.path) s at_root.own (subst (λ (r : Root). Contains r.said s)
          (tree.root_now x u Done_plan t.coord n.branch q n.found n.unended at_work) there)) in (y.rest, y.headed))
        where
          free_then : is_aborted (root_of p.path) C.tree ≡ false
          free_then = (or_parts (is_aborted (root_of p.path) C.tree) false (tree.spent_same x u Done_plan t.coord n.branch q n.found
              n.unended at_work (root_of p.path ∷ []) ∙ (λ i. (subst (λ r. is_aborted r t.coord.tree ≡ false) rooted
              (free x tops k d t M A good few knows both h u n.branch n.found n.unended n.top)) i || false))).0

      its : SeesRootOf x tops (root_of p.path) (decided u (record p { confirmed = true }) t.coord)
          (root_at (root_of p.path) (decided u (record p { confirmed = true }) t.coord)) B
      its = decided_roots_are_seen x tops (root_of p.path) u Done_plan t.coord A B both.named held f hb decides_it confirming sees_root c
          settled lasts

      others : (r : Uid) → IsWorkingRoot tops t.coord r → r ≢ root_of p.path → SeesRootOf x tops r t.coord (root_at r t.coord) B
          × ((s : Said) → Contains (let y = root_at r t.coord in y.said) s → is_on s.path u ≡ false)
      others r w other =
          let s = stays_of r w.alone other in (
            root_stays x tops r t.coord (root_at r t.coord) A B f hb (was.roots r w) s.had s.kept on.answers s.states,
            λ z there. apart_from x tops k d t M A good few knows both h u n.branch n.found n.unended n.top r w.own
                (λ same. other (same ∙ rooted)) z there,
          )

      calls : (w : Uid) (z : Doing) (s : Steps) → SeesCall x tops t.coord s A.names →
          SeesCall x tops (decided u (record p { confirmed = true }) t.coord) s B.names
      calls w z s y = ⊎_elim same_root (λ other. call_then x u Done_plan t.coord n.branch q n.found n.unended at_work tops s B.names
          knows.kinds at_root.own (λ same. absurd (other same))
          (call_stays x tops A B f hb on s y (subst (λ r. StaysOf tops r A B) (sym its_root) (stays_of (root_of s.path) (ap tops.root (sym
          its_root) ∙ (h.kinds.idem (uid_number (top_of s.path)) ∙ its_root)) other)))) (uid_cases (root_of s.path) (root_of p.path))
        where
          its_root : tops.root (uid_number (top_of s.path)) ≡ uid_number (root_of s.path)
          its_root = let o = y.top in o.of_root

          same_root : root_of s.path ≡ root_of p.path → SeesCall x tops (decided u (record p { confirmed = true }) t.coord) s B.names
          same_root same =
              let l = decided_calls_have_lists x tops (root_of p.path) u Done_plan t.coord A B both.named held f hb decides_it confirming
              sees_root c settled lasts (top_of s.path) y.known (subst (λ r. IsTopOf tops r (top_of s.path)) same y.top)
              (ap (λ r. kept_of x (root_at r t.coord)) (sym same) ∙ y.kept)
              (subst (λ r. HasList A.names (uid_number (top_of s.path)) y.known ⊎ HasRetained A.names (uid_number r) y.known) same
              y.list) in record {
                own = own_then x u Done_plan t.coord n.branch q n.found n.unended at_work (top_of s.path) ∙ y.own;
                top = y.top;
                known = l.0;
                kept = ap (λ r. kept_of x (root_at r C)) same ∙ l.1;
                list =
                    subst (λ r. HasList B.names (uid_number (top_of s.path)) l.0 ⊎ HasRetained B.names (uid_number r) l.0) (sym same) l.2;
              }

      plans : (w : Uid) (z : Doing) (m : Machine) → w ≢ u → doing_of w t.coord ≡ Some z → z.now ≡ Committing m → SeesPlan x tops w m B
      plans w z m other does is =
          let o = (let y = knows.coord in y.machines w z m does is) in
          let its_root : tops.root (uid_number w) ≡ uid_number (root_of (plan_of m).path) = (let y = knows.coord in
          y.root w o.branch o.found o.top) ∙ ap (λ r. uid_number (root_of r)) o.path in
          plan_stays x tops A B f hb on w (subst (λ r. StaysOf tops r A B) (sym its_root)
          (stays_of (root_of (plan_of m).path) (ap tops.root (sym its_root) ∙ (h.kinds.idem (uid_number w) ∙ its_root))
          (λ same. other ((let y = knows.coord in
          y.alone (root_of p.path) u (q, Confirming p, at_work, now, refl)) w (z, m, does, is, same))))) m (was.plans w z m does is)

      mine_then : SeesHeardAt x k tops N.sent (decided u (record p { confirmed = true }) t.coord) B
      mine_then = at_decided x u Done_plan t.coord n.branch q n.found n.unended at_work k tops N.sent B at_root.own (λ w. its) others
          (λ w z s does is of. step_goes x tops A B f hb on k M.sent N.sent s (λ r to. inl (was_to x B k M.sent N.sent s more r to))
          (was.steps w z s does is of))
          (λ w z s does is of call bound. calls w z s (was.calls w z s does is of call bound)) plans was.includes

  -- ---- along the step

  -- the disk's incarnation is no lower, and this was sent
  abbrev Fits : Disk → List Post → Type 0
  Fits c s = (d.inc ≤ c.inc) × SendsMore x A M.sent s

  sends_one : (to : ℕ) (m : Message) → SaysHeard x d.inc A (Send to m) → (c : Disk) (s : List Post) → Fits c s →
      Fits c (record { from = k; to = to; message = m } ∷ s)
  sends_one to m says c s fits = (
    fits.0,
    record {
      within = λ z i. inr (let w = fits.1 in w.within z i);
      new = λ z i. ⊎_elim (λ same. inr (subst (IsNewTo x A) same (record { none = says.0; claims = says.1 }))) (λ o. let w = fits.1 in
          w.new z o) i;
    },
  )

  stop_at : (c : Disk) (N : Seen) → N.nodes ≡ M.nodes → Fits c N.sent → HoldsFrom (SeesHeard x) x tops O A (halted e k c N)
  stop_at c N same fits B ch seen =
      let hb = fixed_in x tops B (halted e k c N) seen in
      heard_to x tops A B (up k d t M) (halted e k c N) f hb (on B (halted e k c N) ch hb seen.named) h
      (sends_on B (halted e k c N) ch hb seen.named M.sent N.sent fits.1) (old B (halted e k c N) ch hb seen.named)
      (λ j m s there live. ⊎_elim
      (λ (z : (j ≡ k) × (record { number = k; disk = c; live = None } ≡ m)).
      absurd (let none : None ≡ Some s = ap (λ (y : Node). y.live) z.1 ∙ live in cc))
      (λ (z : ((j == k) ≡ false) × (N.nodes j ≡ Some m)).
      inl (other_at B (halted e k c N) ch hb seen.named j m s z.0 (ap (λ g. g j) (sym same) ∙ z.1) live))
      (node_cases N k (record { number = k; disk = c; live = None }) j m there))
      (λ j m w there node alone low. none_at B (halted e k c N) ch hb seen.named c.inc j m w fits.0 (⊎_elim
      (λ (z : (j ≡ k) × (record { number = k; disk = c; live = None } ≡ m)). inl (z.0, ap (λ (y : Node). y.disk.inc) (sym z.1)))
      (λ (z : ((j == k) ≡ false) × (N.nodes j ≡ Some m)). inr (z.0, ap (λ g. g j) (sym same) ∙ z.1))
      (node_cases N k (record { number = k; disk = c; live = None }) j m there)) node alone low)

  end_at : (c : Disk) (N : Seen) → N.nodes ≡ M.nodes → Fits c N.sent →
      HoldsFrom (SeesHeard x) x tops O A (up k c (with_coord t (decided u (record p { confirmed = true }) t.coord)) N)
  end_at c N same fits B ch seen =
      let hb = fixed_in x tops B (up k c v N) seen in
      let more = sends_on B (up k c v N) ch hb seen.named M.sent N.sent fits.1 in
      heard_to x tops A B (up k d t M) (up k c v N) f hb (on B (up k c v N) ch hb seen.named) h more (old B (up k c v N) ch hb seen.named)
      (λ j m s there live. ⊎_elim
      (λ (z : (j ≡ k) × (record { number = k; disk = c; live = Some v } ≡ m)).
      inr (subst (λ i. SeesHeardAt x i tops N.sent s.coord B) (sym z.0) (subst (λ (y : Parts). SeesHeardAt x k tops N.sent y.coord B)
      (some_is {A = Parts} refl (ap (λ (y : Node). y.live) z.1 ∙ live)) (mine_then B (up k c v N) ch hb seen.named settled more))))
      (λ (z : ((j == k) ≡ false) × (N.nodes j ≡ Some m)).
      inl (other_at B (up k c v N) ch hb seen.named j m s z.0 (ap (λ g. g j) (sym same) ∙ z.1) live))
      (node_cases N k (record { number = k; disk = c; live = Some v }) j m there))
      (λ j m w there node alone low. none_at B (up k c v N) ch hb seen.named c.inc j m w fits.0 (⊎_elim
      (λ (z : (j ≡ k) × (record { number = k; disk = c; live = Some v } ≡ m)). inl (z.0, ap (λ (y : Node). y.disk.inc) (sym z.1)))
      (λ (z : ((j == k) ≡ false) × (N.nodes j ≡ Some m)). inr (z.0, ap (λ g. g j) (sym same) ∙ z.1))
      (node_cases N k (record { number = k; disk = c; live = Some v }) j m there)) node alone low)
    where
      v : Parts
      v = with_coord t (decided u (record p { confirmed = true }) t.coord)

      -- naming took part
      settled : IsSettled B (uid_number u)
      settled = let s = seen.disks in let y = s.notes k (record { number = k; disk = c; live = Some v }) v
          (node_here N k (record { number = k; disk = c; live = Some v })) refl in
          y.taken u (record q { now = Idle; took = participants Done_plan }) 1 (decided_doing t.coord u n.branch q Done_plan n.found
          at_work) (sym (has_same 1 (participants Done_plan)) ∙ takes_part Done_plan 1 (inr refl))

  -- the top is decided
  pub heard_decided : (let did = moved_commit u (plainly (Decides (record p { confirmed = true }))) d.intents t.coord in
      (g : HasHeard (SeesHeard x) x tops (Deciding (uid_number u) (root_retains x u p t.coord)) A (going_of e k d t did, M))
      × MayGoOn x g.office did.part)
  heard_decided = (
    record {
      office = A;
      only = none_heard A;
      both = both;
      along = subst (λ w. Walks (HoldsFrom (SeesHeard x) x tops O A) e k outs
          (Up (HoldsFrom (SeesHeard x) x tops O A) k (with_coord t (decided w Done_plan t.coord))) d M) (sym who)
          (walk_fits (HoldsFrom (SeesHeard x) x tops O A) (Up (HoldsFrom (SeesHeard x) x tops O A) k (with_coord t C)) e k M.nodes Fits
          (SaysHeard x d.inc A)
          (λ w rises c s fits. let r = rises c fits.0 in ((λ how. (r.0 how, fits.1)), (r.1, fits.1))) sends_one stop_at end_at outs
          (decide_says x d.inc A Done_plan t.coord) d M refl (omega arith, sends_same x A M.sent));
    },
    subst (λ w. MayGoOn x A (decided w Done_plan t.coord)) (sym who)
        (old_goes_on x tops k d t M A knows both C (λ w z m at is past. ⊎_elim (λ kept. kept.1) (λ idle. absurd (let y : Idle ≡ Committing
        m = sym idle ∙ is in cc)) (works_then x u Done_plan t.coord n.branch q n.found n.unended at_work w z at))),
  )
    where
      who : actor p.path ≡ u
      who = let y = n.plan in y.actor_is

      outs : List Effect
      outs = (decide Done_plan t.coord).outs
