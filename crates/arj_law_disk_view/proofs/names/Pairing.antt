-- Both halves, walked together where naming's half has no part in what the disk half does.
use Rattle.arj_law_parts.proofs.Words
use Words.{◌≡◌, ◌⊎◌, ℕ, ◌==◌, List, [], ◌∷◌, true, false, Option, Some, None, refl, sym, ◌∙◌, ap, subst, inl, inr, ⊎_elim, map, Bool}
use Words.{if◌then◌else◌, list_all, and_parts, Uid, Disk, Effect, Say, Send, Do, Stop, Before, After, InPart, Work, Look, PutInc, Prepare}
use Words.{Commit, Abort, PutIntent, RemoveIntent, worked, stopped, Naming, Parts, uid_number, AreAll, Node, Seen}
use Words.role
use Rattle.arj_law_disk_view.proofs.Terms
use Terms.{World, Allowed, Follows, after, run, AreOnlyOf, IsUntold, Note, end_of, is_only_of, Named, Names, Office, Do as act, State}
use Terms.{runs_keep, never, test_not, test_same, effect_keeps, up, at, said, posted, Walks, Up, halted, IsLater, Kinds, Along, SeesDisks}
use Terms.{IsSeenByDisks, followed, DisksWalk, IsSeenFrom, OnlyMemory, SeesBoth, SeesNames, leaves_the_inc, SeesNaming, SeesRows}
use Terms.machine
use Rattle.arj_law_disk.proofs.machine.PlainActs.{plain_effects_are_acts}
use Rattle.arj_law_disk_view.proofs.names.BareEnds.{none_ended}
use Rattle.arj_law_disk_view.proofs.names.Onward.{IsOnward, along_onward, none_confirmed, none_passed, onward_still}
use Rattle.arj_law_disk_view.proofs.view.{Follows.walks_are_followed, Frames.node_cases, Frames.node_here, Later.effects_are_later}
use Rattle.arj_law_disk_view.specs.names.Both.{QuietWalksKeepBoth, leaves_inc}

-- ---- naming's memory reads roots alone of the disks

pub naming_on : (x : ℕ) (tops : Kinds) (n : Naming) (S T : State) (N : Names) → T.root ≡ S.root → SeesNaming x tops n S N →
    SeesNaming x tops n T N
naming_on x tops n S T N root s = record {
  inc_is = s.inc_is;
  told_is = s.told_is;
  confirmed_is = s.confirmed_is;
  object = λ o is. let so = s.object o is in record {
    rows = subst (λ f. SeesRows x tops o.rows f N.row N.given) (sym root) so.rows;
    asked = λ u kind free. so.asked u kind (before u free);
    sorted = so.sorted;
    made = λ u m there un free. so.made u m there un (before u free);
    live = so.live;
  };
}
  where
    before : (u : Uid) → (N.told (uid_number u) ≡ false) × (N.told (T.root (uid_number u)) ≡ false) → IsUntold S N (uid_number u)
    before u free = (free.0, ap (λ f. N.told (f (uid_number u))) (sym root) ∙ free.1)

-- ---- the incarnation on the disk

pub worked_inc : (w : Work) (d : Disk) → leaves_inc w ≡ true → (worked w d).inc ≡ d.inc
worked_inc Look d is = refl
worked_inc (PutInc i) d is = absurd (never is refl)
worked_inc (Prepare role.Store u states) d is = refl
worked_inc (Prepare role.Names u states) d is = refl
worked_inc (Commit role.Store u) d is = refl
worked_inc (Commit role.Names u) d is = refl
worked_inc (Abort role.Store u) d is = refl
worked_inc (Abort role.Names u) d is = refl
worked_inc (PutIntent u i) d is = refl
worked_inc (RemoveIntent u) d is = refl

pub stopped_inc : (how : Stop) (w : Work) (d : Disk) → leaves_inc w ≡ true → (stopped how w d).inc ≡ d.inc
stopped_inc Before w d is = refl
stopped_inc After w d is = worked_inc w d is
stopped_inc (InPart which) Look d is = refl
stopped_inc (InPart which) (PutInc i) d is = refl
stopped_inc (InPart which) (Prepare r u states) d is = refl
stopped_inc (InPart which) (Commit role.Store u) d is = refl
stopped_inc (InPart which) (Commit role.Names u) d is = refl
stopped_inc (InPart which) (Abort r u) d is = refl
stopped_inc (InPart which) (PutIntent u i) d is = refl
stopped_inc (InPart which) (RemoveIntent u) d is = refl

-- the disk that effects leave
abbrev pub left_disk : List Effect → Disk → Disk
left_disk [] d = d
left_disk (Do w ∷ es) d = left_disk es (worked w d)
left_disk (Say b ∷ es) d = left_disk es d
left_disk (Send to m ∷ es) d = left_disk es d

-- The walk of one relation is that of another, where each is so at a stop, and at the end; the other nodes and the incarnation
-- are as at the beginning.
module _ (e k : ℕ) (d : Disk) (M : Seen) (P R : Seen → Type 0) (E F : Disk → Seen → Type 0) (stop : (c : Disk) (N : Seen) → c.inc ≡ d.inc →
    N.nodes ≡ M.nodes → P (halted e k c N) → R (halted e k c N)) where
  pub walks_at : (es : List Effect) → AreAll leaves_the_inc es → (c : Disk) (N : Seen) → c.inc ≡ d.inc → N.nodes ≡ M.nodes
      → ((L : Seen) → (left_disk es c).inc ≡ d.inc → L.nodes ≡ M.nodes → E (left_disk es c) L → F (left_disk es c) L) →
      Walks P e k es E c N → Walks R e k es F c N
  walks_at [] all c N inc same end walk = end N inc same walk
  walks_at (Say b ∷ es) all c N inc same end walk = walks_at es all c (said e (b ∷ []) N) inc same end walk
  walks_at (Send to m ∷ es) all c N inc same end walk =
      λ more quiet. walks_at es all c (said e more (posted (record { from = k; to = to; message = m }) N)) inc same end (walk more quiet)
  walks_at (Do w ∷ es) all c N inc same end walk =
      let leaves = and_parts (leaves_inc w) (list_all leaves_the_inc es) all in (
        λ how. stop (stopped how w c) N (stopped_inc how w c leaves.0 ∙ inc) same (walk.0 how),
        walks_at es leaves.1 (worked w c) N (worked_inc w c leaves.0 ∙ inc) same end walk.1,
      )

-- ---- a walk from here

-- nothing was noted: naming's half is as it was
pub record Still (A : Office) (W : World) : Type 0 where
  pub named : Named (record { world = W; names = A.names })
  pub tops : W.disk.tops ≡ A.world.disk.tops
  pub bare : (t : ℕ) → W.disk.bare t ≡ true → A.world.disk.bare t ≡ true
  pub later : IsLater A.world W
  pub onward : IsOnward A.world W
  pub unconfirmed : (z : ℕ) → W.disk.conf z ≡ true → A.world.disk.conf z ≡ true
  pub unpassed : (z : ℕ) → W.disk.light z ≡ true → A.world.disk.light z ≡ true

pub still : (A : Office) (W : World) → Named A → Along (record { from = A.world; noted = λ n. false }) W → Still A W
still A W named a =
    let p = plain_effects_are_acts A a.effects a.allowed a.only in
    let here : end_of A (map act a.effects) ≡ record { world = W; names = A.names } = p.1
    ∙ ap (λ V. record { world = V; names = A.names }) a.here in
    record {
      named = subst Named here (runs_keep A (map act a.effects) p.0 named);
      tops = sym (ap (λ (V : World). V.disk.tops) a.here) ∙ p.2;
      bare = λ t. none_ended (λ n. false) t refl A.world W a;
      later = subst (IsLater A.world) a.here (effects_are_later A.world a.effects a.allowed named.whole);
      onward = along_onward (λ n. false) A.world W a;
      unconfirmed = λ z on. none_confirmed (λ n. false) z refl A.world W a on;
      unpassed = λ z on. none_passed (λ n. false) z refl A.world W a on;
    }

-- An office of this world of which this holds.
pub record Stepped (Inv : Office → Type 0) (W : World) : Type 0 where
  pub names : Names
  pub named : Named (record { world = W; names = names })
  pub holds : Inv (record { world = W; names = names })

-- Where each effect that may be noted leads to one, so do all of a walk; it may be used that the walk's end is a later state.
pub steps_to : (Inv : Office → Type 0) (f : Note → Bool) (W : World) → ((A : Office) (a : machine.Effect) → Named A → Inv A →
    Allowed A.world a → is_only_of f a ≡ true → IsLater (after A.world a) W → Stepped Inv (after A.world a))
    → (es : List machine.Effect) (A : Office) → Named A → Inv A → Follows A.world es → AreOnlyOf f es → run A.world es ≡ W → Stepped Inv W
steps_to Inv f W one [] A named holds follows only is = subst (Stepped Inv) is (record { names = A.names; named = named; holds = holds })
steps_to Inv f W one (a ∷ es) A named holds follows only is =
    let later = subst (IsLater (after A.world a)) is
    (effects_are_later (after A.world a) es follows.1 (effect_keeps A.world a follows.0 named.whole)) in
    let s = one A a named holds follows.0 only.0 later in
    steps_to Inv f W one es (record { world = after A.world a; names = s.names }) s.named s.holds follows.1 only.1 is

pub steps : (Inv : Office → Type 0) (f : Note → Bool) →
    ((A : Office) (a : machine.Effect) → Named A → Inv A → Allowed A.world a → is_only_of f a ≡ true → Stepped Inv (after A.world a)) →
    (es : List machine.Effect) (A : Office) → Named A → Inv A → Follows A.world es → AreOnlyOf f es
    → Stepped Inv (run A.world es)
steps Inv f one es A named holds follows only =
    steps_to Inv f (run A.world es) (λ B a b i allowed is later. one B a b i allowed is) es A named holds follows only refl

-- the walk is followed no longer
pub unfollowed : (x : ℕ) (tops : Kinds) → tops.walk ≡ None → (f : Note → Bool) (V W : World) (N : Seen) →
    SeesDisks x (followed tops V f) W N → SeesDisks x tops W N
unfollowed x tops unwalked f V W N s = subst (λ (z : Kinds). SeesDisks x z W N) (λ i. record tops { walk = sym unwalked i })
    (walks_are_followed x (followed tops V f) None W N tt s)

module _ (x : ℕ) (tops : Kinds) (k : ℕ) (d : Disk) (was : Option Parts) (A : Office) (M : Seen)
    (both : SeesBoth x tops A (at k d was M)) where
  -- a node is this one, or another one, which is as it was
  cases : (N : Seen) (live : Option Parts) (c : Disk) → N.nodes ≡ M.nodes → (m : ℕ) (n : Node) → (at k c live N).nodes m ≡ Some n
      → ((m ≡ k) × (record { number = k; disk = c; live = live } ≡ n)) ⊎ (((m == k) ≡ false) × ((at k d was M).nodes m ≡ Some n))
  cases N live c same m n is = ⊎_elim (λ here. inl here) (λ other. inr (other.0, by other.0 (sym (ap (λ f. f m) same) ∙ other.1)))
      (node_cases N k (record { number = k; disk = c; live = live }) m n is)
    where
      by : (m == k) ≡ false → M.nodes m ≡ Some n → (at k d was M).nodes m ≡ Some n
      by apart there = ap (λ b. if b then Some (record { number = k; disk = d; live = was }) else M.nodes m) apart ∙ there

  here : 1 ≡ k → (at k d was M).nodes 1 ≡ Some (record { number = k; disk = d; live = was })
  here one = ap (λ m. (at k d was M).nodes m) one ∙ node_here M k (record { number = k; disk = d; live = was })

  pub root_same : (W : World) (N : Seen) → SeesDisks x tops W N → W.disk.root ≡ A.world.disk.root
  root_same W N s = s.fixed.root ∙ sym (let f = both.disks.fixed in f.root)

  -- naming's half where node k is another one: of naming's memory there it is to be shown
  pub names_at : (live : Option Parts) (B : Office) (N : Seen) (c : Disk) → B.names.inc ≡ A.names.inc → c.inc ≡ d.inc → N.nodes ≡ M.nodes
      → ((p : Parts) (o : Naming) → k ≡ 1 → live ≡ Some p → p.naming ≡ Some o → SeesNaming x tops o B.world.disk B.names) →
      ((k == 1) ≡ false → (o : Naming) → SeesNaming x tops o A.world.disk A.names → SeesNaming x tops o B.world.disk B.names) →
      SeesNames x tops B (at k c live N)
  names_at live B N c kept inc same mine others = record {
    inc = λ n is. kept ∙ ⊎_elim
        (λ (h : (1 ≡ k) × (record { number = k; disk = c; live = live } ≡ n)).
        both.names.inc (record { number = k; disk = d; live = was }) (here h.0) ∙ sym inc ∙ ap (λ (z : Node). z.disk.inc) h.1)
        (λ there. both.names.inc n there.1) (cases N live c same 1 n is);
    memory = λ n p o is alive naming. ⊎_elim
        (λ (h : (1 ≡ k) × (record { number = k; disk = c; live = live } ≡ n)).
        mine p o (sym h.0) (ap (λ (z : Node). z.live) h.1 ∙ alive) naming)
        (λ there. others (turned there.0) o (both.names.memory n p o there.1 alive naming))
        (cases N live c same 1 n is);
  }
    where
      turned : (1 == k) ≡ false → (k == 1) ≡ false
      turned off = test_not k 1 (λ is. never (ap (λ j. 1 == j) is ∙ test_same 1) off)

  -- node k has stopped
  pub stopped_both : (e : ℕ) (B : Office) (N : Seen) (c : Disk) → Named B → B.names.inc ≡ A.names.inc →
      SeesDisks x tops B.world (halted e k c N) → c.inc ≡ d.inc → N.nodes ≡ M.nodes → ((k == 1) ≡ false → (o : Naming) →
      SeesNaming x tops o A.world.disk A.names → SeesNaming x tops o B.world.disk B.names) → SeesBoth x tops B (halted e k c N)
  stopped_both e B N c named kept disks inc same others =
      let names = names_at None B N c kept inc same (λ p o one alive naming. absurd (none_live alive)) others in
      record { named = named; disks = disks; names = record { inc = names.inc; memory = names.memory } }
    where
      none_live : {p : Parts} → ◌≡◌ {A = Option Parts} None (Some p) → ⊥
      none_live is = cc is

  -- and it is up with other parts
  pub seen_as : (v : Parts) (B : Office) (N : Seen) (c : Disk) → Named B → B.names.inc ≡ A.names.inc →
      SeesDisks x tops B.world (up k c v N) → c.inc ≡ d.inc → N.nodes ≡ M.nodes
      → ((o : Naming) → k ≡ 1 → v.naming ≡ Some o → SeesNaming x tops o B.world.disk B.names) → ((k == 1) ≡ false → (o : Naming) →
      SeesNaming x tops o A.world.disk A.names → SeesNaming x tops o B.world.disk B.names) → SeesBoth x tops B (up k c v N)
  seen_as v B N c named kept disks inc same mine others = record {
    named = named;
    disks = disks;
    names = names_at (Some v) B N c kept inc same
        (λ p o one alive naming. mine o one (ap (λ (z : Parts). z.naming) (same_parts alive) ∙ naming)) others;
  }
    where
      same_parts : {p : Parts} → ◌≡◌ {A = Option Parts} (Some v) (Some p) → v ≡ p
      same_parts is = cc is

-- nothing but naming's memory has changed where nothing was noted
pub still_only : (A : Office) (W : World) → Still A W → OnlyMemory A (record { world = W; names = A.names })
still_only A W s = record {
  later = s.later;
  tops = s.tops;
  bare = s.bare;
  had = refl;
  kept = refl;
  answers = λ a i. i;
  inc = refl;
  confd = λ t on. on;
  onward = onward_still A (record { world = W; names = A.names }) W s.onward s.unconfirmed s.unpassed refl;
}

module _ (x : ℕ) (tops : Kinds) (unwalked : tops.walk ≡ None) (e k : ℕ) (d : Disk) (t v : Parts) (A : Office) (M : Seen)
    (both : SeesBoth x tops A (up k d t M)) where
  -- at a stop nothing was noted
  pub stopped_still : (c : Disk) (N : Seen) → c.inc ≡ d.inc → N.nodes ≡ M.nodes →
      IsSeenByDisks x (followed tops A.world (λ n. false)) (halted e k c N) → IsSeenFrom x tops A (halted e k c N)
  stopped_still c N inc same (W, s) =
      let st = still A W both.named s.along in (
        record { world = W; names = A.names },
        still_only A W st,
        stopped_both x tops k d (Some t) A M both e (record { world = W; names = A.names }) N c st.named refl (unfollowed x tops unwalked
            (λ n. false) A.world W (halted e k c N) s) inc same (λ other o. naming_on x tops o A.world.disk W.disk A.names st.later.root),
      )

  -- at the walk's end, whatever the machine did, which naming's half had no part in
  abbrev pub Ends : (Disk → Seen → Type 0) → Disk → Type 0
  Ends E c = (N : Seen) (W : World) → Still A W → SeesDisks x tops W (up k c v N) → c.inc ≡ d.inc → N.nodes ≡ M.nodes → E c N

  pub walked_both : (E : Disk → Seen → Type 0) (outs : List Effect) → AreAll leaves_the_inc outs → Ends E (left_disk outs d) →
      DisksWalk (λ n. false) x tops A e k outs v d M → Walks (IsSeenFrom x tops A) e k outs E d M
  walked_both E outs all ends walk = walks_at e k d M (IsSeenByDisks x (followed tops A.world (λ n. false))) (IsSeenFrom x tops A)
      (Up (IsSeenByDisks x (followed tops A.world (λ n. false))) k v) E stopped_still outs all d M refl refl
      (λ L inc same (W, s). ends L W (still A W both.named s.along)
      (unfollowed x tops unwalked (λ n. false) A.world W (up k (left_disk outs d) v L) s) inc same) walk

pub quiet_walks_keep_both : QuietWalksKeepBoth
quiet_walks_keep_both x tops e k d t v outs A M unwalked all naming both walk =
    walked_both x tops unwalked e k d t v A M both (Up (IsSeenFrom x tops A) k v) outs all ends walk
  where
    ends : Ends x tops unwalked e k d t v A M both (Up (IsSeenFrom x tops A) k v) (left_disk outs d)
    ends N W s disks inc same = (
      record { world = W; names = A.names },
      still_only A W s,
      seen_as x tops k d (Some t) A M both v (record { world = W; names = A.names }) N (left_disk outs d) s.named refl disks inc same
          (λ o one is. naming_on x tops o A.world.disk W.disk A.names (root_same x tops k d (Some t) A M both W (up k (left_disk outs d) v
          N) disks) (both.names.memory (record { number = k; disk = d; live = Some t }) t o (ap (λ m. (up k d t M).nodes m) (sym one)
          ∙ node_here M k (record { number = k; disk = d; live = Some t })) refl (sym naming ∙ is)))
          (λ other o. naming_on x tops o A.world.disk W.disk A.names s.later.root),
    )
