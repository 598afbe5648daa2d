-- What coordinators have of naming's answers, where a node restarts.
use Rattle.arj_law_parts.proofs.Words
use Words.{◌≡◌, ◌⊎◌, ◌≤◌, ◌<◌, ◌+◌, ℕ, ◌==◌, ◌||◌, if◌then◌else◌, Bool, true, false, List, [], ◌∷◌, Some, None, refl, sym, ◌∙◌, ap, subst}
use Words.{inl, inr, ⊎_elim, arith, is_some, AllByRecursion, list_any, and_parts, Header, Message, Uid, asks, Disk, Intent, Send, Parts}
use Words.{at_uid, uid_number, Node, parts_in, restart_outs, is_own, Post, Seen}
use Words.list
use Rattle.arj_law_disk_view.proofs.Terms
use Terms.{Whole, Office, bool_cases, never, some_is, test_is, test_same, in_at, IsGood, down, up, Walks, Up, halted, SeesRecords, nodes_of}
use Terms.{IsFixed, IsLater, Kinds, IsOther, OnlyAtNode, OnlyFound, SeesBoth, ClaimsAsked, HasNoneOf, IsOfRoot, SeesHeard, SeesHeardAt}
use Terms.{HoldsAgain, are_recorded}
use Terms.seen
use Rattle.arj_law_disk_view.proofs.names.GrantClaims.{restarts_are_after}
use Rattle.arj_law_disk_view.proofs.running
use running.{HeardFirst.new_seen, HeardPosts.SaysHeard, HeardPosts.restart_says, HeardQuiet.fixed_in, HeardQuiet.sends_same}
use running.HeardAll.{WasAt, heard_to, walk_fits}
use running.HeardStays.{GoesOn, IsNewTo, SendsMore, StaysOf, claim_stays, none_stays}
use Rattle.arj_law_disk_view.proofs.view.{Frames.node_cases, Frames.node_here, Later.effects_are_later}
use Rattle.arj_law_parts.specs.parts.Claims.{AreOfNode, IsOfNode}

module _ (x : ℕ) (tops : Kinds) (k : ℕ) (d : Disk) (M : Seen) (A : Office) (good : IsGood (down k d M))
    (both : SeesBoth x tops A (down k d M)) (p : SeesHeard x tops A (down k d M)) where
  abbrev Here : Node
  Here = record { number = k; disk = d; live = None }

  abbrev g : ℕ → Bool
  g = are_recorded d.intents

  f : IsFixed tops A.world.disk
  f = fixed_in x tops A (down k d M) both

  whole : Whole A.world
  whole = let s = both.disks in s.whole

  here : (down k d M).nodes k ≡ Some Here
  here = node_here M k Here

  -- a top with a record is of this node, and not of a later incarnation
  record IsRecorded (z : ℕ) : Type 0 where
    uid : Uid
    number : uid_number uid ≡ z
    node : uid.node ≡ k
    low : uid.inc ≤ d.inc
    top : tops.is_top z ≡ true

  recorded : (z : ℕ) → g z ≡ true → IsRecorded z
  recorded z on = let q = which d.intents own on in record {
    uid = q.0.0;
    number = q.2;
    node = q.3.0;
    low = q.3.1;
    top = subst (λ n. tops.is_top n ≡ true) q.2 (is_top q.0.0 q.0.1 (q.3.0) (in_at q.0 d.intents records.sorted q.1));
  }
    where
      own : AreOfNode k d.inc d.intents
      own = let w = good.1 in let q = w.places k Here here in let e = q.disk in e.own

      records : SeesRecords k d.intents A.world.disk
      records = let s = both.disks in s.records k Here here

      which : (es : List (Uid × Intent)) → AllByRecursion (λ (e : Uid × Intent). IsOfNode k d.inc e.0) es → list_any (λ (e : Uid × Intent).
          uid_number e.0 == z) es ≡ true → (e : Uid × Intent) × list.In e es × (uid_number e.0 ≡ z) × IsOfNode k d.inc e.0
      which [] all is = absurd (cc is)
      which (e ∷ es) all is = ⊎_elim (λ yes. (e, inl refl, test_is (uid_number e.0) z yes, all.0))
          (λ no. let r = which es all.1 (sym (ap (λ b. b || list_any (λ (y : Uid × Intent). uid_number y.0 == z) es) no) ∙ is) in
          (r.0, inr r.1, r.2, r.3)) (bool_cases (uid_number e.0 == z))

      is_top : (u : Uid) (i : Intent) → u.node ≡ k → at_uid u d.intents ≡ Some i → tops.is_top (uid_number u) ≡ true
      is_top u i node at = (both.disks.kinds (uid_number u) begun).0
        where
          some : is_some (A.world.disk.intent (uid_number u)) ≡ true
          some = ap is_some (records.is u node ∙ ap nodes_of at)

          begun : A.world.disk.begun (uid_number u) ≡ true
          begun = ⊎_elim (whole.core.fresh.conf (uid_number u)) (whole.core.fresh.light (uid_number u))
              (whole.core.coordinators.record_taken (uid_number u) some)

  -- none of them is of a root of another node, or of a later incarnation
  apart : (r : Uid) → (r.node ≡ k → r.inc ≤ d.inc → ⊥) → IsOther g A.world.disk (uid_number r)
  apart r not z on root =
      let q = recorded z on in
      let o = p.kinds.own q.uid r (subst (λ n. tops.is_top n ≡ true) (sym q.number) q.top)
      (ap tops.root q.number ∙ (ap (λ y. y z) (sym f.root) ∙ root)) in
      not (sym o.0 ∙ q.node) (subst (λ i. i ≤ d.inc) o.1 q.low)

  -- ---- from there

  module _ (B : Office) (N : Seen) (found : OnlyFound g A B) (now : SeesBoth x tops B N) where
    only : OnlyAtNode g A B
    only = found.only

    h : IsFixed tops B.world.disk
    h = fixed_in x tops B N now

    later : IsLater A.world B.world
    later = let a = found.along in subst (IsLater A.world) a.here (effects_are_later A.world a.effects a.allowed whole)

    on : GoesOn A B
    on = record { later = later; had = only.grows; answers = only.answers }

    stays_of : (r : Uid) → tops.root (uid_number r) ≡ uid_number r → (r.node ≡ k → r.inc ≤ d.inc → ⊥) → StaysOf tops (uid_number r) A B
    stays_of r alone not = record {
      had = λ z of. only.had z (mine z of);
      kept = λ z of. only.kept z (mine z of);
      states = only.tops (uid_number r) (apart r not);
    }
      where
        mine : (z : ℕ) → IsOfRoot tops (uid_number r) z → IsOther g A.world.disk (A.world.disk.root z)
        mine z of =
            subst (IsOther g A.world.disk) (sym (ap (λ y. y z) f.root ∙ ⊎_elim (λ e. ap tops.root e ∙ alone) (λ e. e) of)) (apart r not)

    -- of an action of another node, which is a root or a top
    stays_for : (u : Uid) → (u.node ≡ k → ⊥) → (tops.root (uid_number u) ≡ uid_number u) ⊎ (tops.is_top (uid_number u) ≡ true) →
        StaysOf tops (tops.root (uid_number u)) A B
    stays_for u not (inl alone) = subst (λ r. StaysOf tops r A B) (sym alone) (stays_of u alone (λ same low. not same))
    stays_for u not (inr top) =
        let r = p.kinds.rooted u top in
        let o = p.kinds.own u r.0 top r.1 in
        subst (λ z. StaysOf tops z A B) (sym r.1)
        (stays_of r.0 (ap tops.root (sym r.1) ∙ p.kinds.idem (uid_number u) ∙ r.1) (λ same low. not (o.0 ∙ same)))

    old : (q : Post) → seen.In q M.sent → ClaimsAsked x B (asks q.message)
    old q i = claim_stays x tops A B f h on both.named now.named (restarts_are_after g A B both.named found) (asks q.message) (p.posts q i)

    sends_on : (few many : List Post) → SendsMore x A few many → SendsMore x B few many
    sends_on few many more = record {
      within = more.within;
      new = λ q i. ⊎_elim (λ o. inl o) (λ (n : IsNewTo x A q). inr (record {
        none = n.none;
        claims = claim_stays x tops A B f h on both.named now.named (restarts_are_after g A B both.named found) (asks q.message) n.claims;
      })) (more.new q i);
    }

    -- a coordinator of another node
    other_at : (j : ℕ) (n : Node) (t : Parts) → (j == k) ≡ false → M.nodes j ≡ Some n → n.live ≡ Some t →
        WasAt x tops A B (down k d M) N f h on p j t
    other_at j n t off there live = record {
      node = n;
      there = at_j;
      parts = t;
      live = live;
      same = refl;
      stays =
          λ u own kind. stays_for u (λ same. never (ap (λ i. i == k) (sym (home u own)) ∙ (ap (λ i. i == k) same ∙ test_same k)) off) kind;
    }
      where
        at_j : (down k d M).nodes j ≡ Some n
        at_j = ap (λ b. if b then Some Here else M.nodes j) off ∙ there

        home : (u : Uid) → is_own u t.coord.tree ≡ true → u.node ≡ j
        home u own = test_is u.node t.coord.tree.node (and_parts (u.node == t.coord.tree.node) (u.inc == t.coord.tree.inc) own).0
            ∙ (let s = both.disks in let c = s.coords j n t at_j live in c.node)

    none_later : (u : Uid) → u.node ≡ k → tops.root (uid_number u) ≡ uid_number u → d.inc < u.inc → HasNoneOf tops (uid_number u) B
    none_later u node alone low =
        none_stays x tops A B f h on (uid_number u) (stays_of u alone (λ same high. omega arith)) (p.future k Here u here node alone low)

    none_other : (j : ℕ) (n : Node) (u : Uid) → (j == k) ≡ false → M.nodes j ≡ Some n → u.node ≡ j →
        tops.root (uid_number u) ≡ uid_number u → (let c = n.disk in c.inc) < u.inc → HasNoneOf tops (uid_number u) B
    none_other j n u off there node alone low = none_stays x tops A B f h on (uid_number u)
        (stays_of u alone (λ same high. never (ap (λ i. i == k) (sym node) ∙ (ap (λ i. i == k) same ∙ test_same k)) off))
        (p.future j n u (ap (λ b. if b then Some Here else M.nodes j) off ∙ there) node alone low)

  -- ---- along the restart

  -- the disk's incarnation is no lower, and this was sent
  abbrev Fits : Disk → List Post → Type 0
  Fits c s = (d.inc ≤ c.inc) × SendsMore x A M.sent s

  sends_one : (to : ℕ) (m : Message) → SaysHeard x d.inc A (Send to m) → (c : Disk) (s : List Post) → Fits c s →
      Fits c (record { from = k; to = to; message = m } ∷ s)
  sends_one to m says c s fits = (
    fits.0,
    record {
      within = λ q i. inr (let w = fits.1 in w.within q i);
      new = λ q i. ⊎_elim (λ same. inr (subst (IsNewTo x A) same (record { none = says.0; claims = says.1 }))) (λ o. let w = fits.1 in
          w.new q o) i;
    },
  )

  stop_at : (e : ℕ) (c : Disk) (N : Seen) → N.nodes ≡ M.nodes → Fits c N.sent → HoldsAgain (SeesHeard x) x tops g A (halted e k c N)
  stop_at e c N same fits B found now = heard_to x tops A B (down k d M) (halted e k c N) f (h B (halted e k c N) found now)
      (on B (halted e k c N) found now) p (sends_on B (halted e k c N) found now M.sent N.sent fits.1) (old B (halted e k c N) found now)
      (λ j n t there live. ⊎_elim
      (λ (z : (j ≡ k) × (record { number = k; disk = c; live = None } ≡ n)).
      absurd (let none : None ≡ Some t = ap (λ (y : Node). y.live) z.1 ∙ live in cc))
      (λ (z : ((j == k) ≡ false) × (N.nodes j ≡ Some n)).
      inl (other_at B (halted e k c N) found now j n t z.0 (ap (λ q. q j) (sym same) ∙ z.1) live))
      (node_cases N k (record { number = k; disk = c; live = None }) j n there))
      (λ j n u there node alone low. ⊎_elim
      (λ (z : (j ≡ k) × (record { number = k; disk = c; live = None } ≡ n)). none_later B (halted e k c N) found now u (node ∙ z.0) alone
      (let l : c.inc < u.inc = subst (λ (y : Node). y.disk.inc < u.inc) (sym z.1) low in let o : d.inc ≤ c.inc = fits.0 in omega arith))
      (λ (z : ((j == k) ≡ false) × (N.nodes j ≡ Some n)).
      none_other B (halted e k c N) found now j n u z.0 (ap (λ q. q j) (sym same) ∙ z.1) node alone low)
      (node_cases N k (record { number = k; disk = c; live = None }) j n there))

  end_at : (c : Disk) (N : Seen) → N.nodes ≡ M.nodes → Fits c N.sent →
      HoldsAgain (SeesHeard x) x tops g A (up k c (parts_in k (d.inc + 1) d) N)
  end_at c N same fits B found now = heard_to x tops A B (down k d M) (up k c v N) f (h B (up k c v N) found now)
      (on B (up k c v N) found now) p (sends_on B (up k c v N) found now M.sent N.sent fits.1) (old B (up k c v N) found now)
      (λ j n t there live. ⊎_elim
      (λ (z : (j ≡ k) × (record { number = k; disk = c; live = Some v } ≡ n)).
      inr (subst (λ i. SeesHeardAt x i tops N.sent t.coord B) (sym z.0)
      (subst (λ (y : Parts). SeesHeardAt x k tops N.sent y.coord B) (some_is {A = Parts} refl (ap (λ (y : Node). y.live) z.1 ∙ live))
      (new_seen x k (d.inc + 1) tops N.sent d.intents B (h B (up k c v N) found now)
      (λ u node inc alone. none_later B (up k c v N) found now u node alone (let i : u.inc ≡ d.inc + 1 = inc in omega arith))))))
      (λ (z : ((j == k) ≡ false) × (N.nodes j ≡ Some n)).
      inl (other_at B (up k c v N) found now j n t z.0 (ap (λ q. q j) (sym same) ∙ z.1) live))
      (node_cases N k (record { number = k; disk = c; live = Some v }) j n there))
      (λ j n u there node alone low. ⊎_elim
      (λ (z : (j ≡ k) × (record { number = k; disk = c; live = Some v } ≡ n)). none_later B (up k c v N) found now u (node ∙ z.0) alone
      (let l : c.inc < u.inc = subst (λ (y : Node). y.disk.inc < u.inc) (sym z.1) low in let o : d.inc ≤ c.inc = fits.0 in omega arith))
      (λ (z : ((j == k) ≡ false) × (N.nodes j ≡ Some n)).
      none_other B (up k c v N) found now j n u z.0 (ap (λ q. q j) (sym same) ∙ z.1) node alone low)
      (node_cases N k (record { number = k; disk = c; live = Some v }) j n there))
    where
      v : Parts
      v = parts_in k (d.inc + 1) d

  pub heard_restart : (hd : Header) (e : ℕ) → Walks (HoldsAgain (SeesHeard x) x tops g A) e k (restart_outs hd k (d.inc + 1) d)
      (Up (HoldsAgain (SeesHeard x) x tops g A) k (parts_in k (d.inc + 1) d)) d M
  heard_restart hd e = walk_fits (HoldsAgain (SeesHeard x) x tops g A)
      (Up (HoldsAgain (SeesHeard x) x tops g A) k (parts_in k (d.inc + 1) d)) e k M.nodes Fits (SaysHeard x d.inc A)
      (λ w rises c s fits. let r = rises c fits.0 in ((λ how. (r.0 how, fits.1)), (r.1, fits.1))) sends_one (stop_at e) end_at
      (restart_outs hd k (d.inc + 1) d) (restart_says x d.inc A hd k d (omega arith)) d M refl (omega arith, sends_same x A M.sent)
