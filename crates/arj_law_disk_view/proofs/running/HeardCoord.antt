-- What coordinators have of naming's answers, where one of them makes a step by which nothing but naming's memory changes.
use Rattle.arj_law_parts.proofs.Words
use Words.{◌≡◌, ◌⊎◌, ◌≤◌, ◌<◌, ℕ, ◌==◌, if◌then◌else◌, false, List, [], ◌∷◌, Some, None, refl, sym, ◌∙◌, ap, subst, inl, inr, ⊎_elim, arith}
use Words.{⊤, AllByRecursion, Message, Uid, asks, answers, Disk, Do, Effect, Say, Send, Parts, uid_number, Node, Post, Seen}
use Rattle.arj_law_disk_view.proofs.Terms
use Terms.{Office, some_is, posted, said, up, Walks, Up, halted, IsFixed, Kinds, OnlyMemory, SeesBoth, Quietly, Named, ClaimsAsked}
use Terms.{HasNoneOf, SeesHeard, SeesHeardAt, HoldsFrom}
use Terms.seen
use Rattle.arj_law_disk_view.proofs.names.GrantClaims.{changes_are_after}
use Rattle.arj_law_disk_view.proofs.running
use running.{HeardPosts.SaysHeard}
use running.HeardAll.{WasAt, heard_to, walk_fits}
use running.HeardQuiet.{fixed_in, old_claims, sends_same}
use running.HeardStays.{IsNewTo, SendsMore, claim_stays, memory_goes, memory_stays, none_stays}
use Rattle.arj_law_disk_view.proofs.view.Frames.{node_cases, node_here}

-- a message that answers nothing, and claims what it says where both halves are seen once the node has this memory
abbrev pub ClaimsThen : ℕ → Kinds → ℕ → Parts → Office → Message → Type 0
ClaimsThen x tops k v A m =
    (answers m ≡ None) × ((c : Disk) (N : Seen) (B : Office) → OnlyMemory A B → SeesBoth x tops B (up k c v N) → ClaimsAsked x B (asks m))

abbrev pub SaysThen : ℕ → Kinds → ℕ → Parts → Office → Effect → Type 0
SaysThen x tops k v A (Do w) = ⊥
SaysThen x tops k v A (Say b) = ⊤
SaysThen x tops k v A (Send to m) = ClaimsThen x tops k v A m

module _ (x : ℕ) (tops : Kinds) (k : ℕ) (d : Disk) (t : Parts) (M : Seen) (A : Office) (f : IsFixed tops A.world.disk) (named : Named A)
    (p : SeesHeard x tops A (up k d t M)) where
  abbrev Here : Node
  Here = record { number = k; disk = d; live = Some t }

  here : (up k d t M).nodes k ≡ Some Here
  here = node_here M k Here

  module _ (B : Office) (N : Seen) (only : OnlyMemory A B) (h : IsFixed tops B.world.disk) where
    sends_on : Named B → (few many : List Post) → SendsMore x A few many → SendsMore x B few many
    sends_on held few many more = record {
      within = more.within;
      new = λ q i. ⊎_elim (λ o. inl o) (λ (n : IsNewTo x A q). inr (record {
        none = n.none;
        claims = claim_stays x tops A B f h (memory_goes A B only) named held (changes_are_after Quietly A B named only) (asks q.message)
            n.claims;
      })) (more.new q i);
    }

    other_at : (j : ℕ) (n : Node) (s : Parts) → (j == k) ≡ false → M.nodes j ≡ Some n → n.live ≡ Some s →
        WasAt x tops A B (up k d t M) N f h (memory_goes A B only) p j s
    other_at j n s off there live = record {
      node = n;
      there = ap (λ b. if b then Some Here else M.nodes j) off ∙ there;
      parts = s;
      live = live;
      same = refl;
      stays = λ u own kind. memory_stays tops A B only (tops.root (uid_number u));
    }

    none_at : (i j : ℕ) (n : Node) (u : Uid) → d.inc ≤ i →
        ((j ≡ k) × ((let c = n.disk in c.inc) ≡ i)) ⊎ (((j == k) ≡ false) × (M.nodes j ≡ Some n)) → u.node ≡ j →
        tops.root (uid_number u) ≡ uid_number u → (let c = n.disk in c.inc) < u.inc → HasNoneOf tops (uid_number u) B
    none_at i j n u high which node alone low =
        none_stays x tops A B f h (memory_goes A B only) (uid_number u) (memory_stays tops A B only (uid_number u)) (⊎_elim
        (λ (z : (j ≡ k) × (n.disk.inc ≡ i)). p.future k Here u here (node ∙ z.0) alone (let e : n.disk.inc ≡ i = z.1 in omega arith))
        (λ (z : ((j == k) ≡ false) × (M.nodes j ≡ Some n)).
        p.future j n u (ap (λ b. if b then Some Here else M.nodes j) z.0 ∙ z.1) node alone low) which)

  -- ---- along the step

  -- the disk's incarnation is no lower, and this was sent
  abbrev Fits : Disk → List Post → Type 0
  Fits c s = (d.inc ≤ c.inc) × SendsMore x A M.sent s

  sends_one : (to : ℕ) (m : Message) → SaysHeard x d.inc A (Send to m) → (c : Disk) (s : List Post) → Fits c s →
      Fits c (record { from = k; to = to; message = m } ∷ s)
  sends_one to m says c s fits = (
    fits.0,
    record {
      within = λ q i. inr (let w = fits.1 in w.within q i);
      new = λ q i. ⊎_elim (λ same. inr (subst (IsNewTo x A) same (record { none = says.0; claims = says.1 }))) (λ o. let w = fits.1 in
          w.new q o) i;
    },
  )

  stop_at : (e : ℕ) (c : Disk) (N : Seen) → N.nodes ≡ M.nodes → Fits c N.sent → HoldsFrom (SeesHeard x) x tops Quietly A (halted e k c N)
  stop_at e c N same fits B only now =
      let h = fixed_in x tops B (halted e k c N) now in
      heard_to x tops A B (up k d t M) (halted e k c N) f h (memory_goes A B only) p (sends_on B (halted e k c N) only h now.named M.sent
      N.sent fits.1) (old_claims x tops A B (up k d t M) f h named now.named only p)
      (λ j n s there live. ⊎_elim
      (λ (z : (j ≡ k) × (record { number = k; disk = c; live = None } ≡ n)).
      absurd (let none : None ≡ Some s = ap (λ (y : Node). y.live) z.1 ∙ live in cc))
      (λ (z : ((j == k) ≡ false) × (N.nodes j ≡ Some n)).
      inl (other_at B (halted e k c N) only h j n s z.0 (ap (λ q. q j) (sym same) ∙ z.1) live))
      (node_cases N k (record { number = k; disk = c; live = None }) j n there))
      (λ j n u there node alone low. none_at B (halted e k c N) only h c.inc j n u fits.0 (⊎_elim
      (λ (z : (j ≡ k) × (record { number = k; disk = c; live = None } ≡ n)). inl (z.0, ap (λ (y : Node). y.disk.inc) (sym z.1)))
      (λ (z : ((j == k) ≡ false) × (N.nodes j ≡ Some n)). inr (z.0, ap (λ q. q j) (sym same) ∙ z.1))
      (node_cases N k (record { number = k; disk = c; live = None }) j n there)) node alone low)

  module _ (v : Parts) (after : (N : Seen) (B : Office) → OnlyMemory A B → IsFixed tops B.world.disk → SendsMore x B M.sent N.sent →
      SeesHeardAt x k tops N.sent v.coord B) where
    end_by : (c : Disk) (N : Seen) (B : Office) → N.nodes ≡ M.nodes → d.inc ≤ c.inc → OnlyMemory A B →
        (now : SeesBoth x tops B (up k c v N)) → SendsMore x B M.sent N.sent → SeesHeard x tops B (up k c v N)
    end_by c N B same high only now more =
        let h = fixed_in x tops B (up k c v N) now in
        heard_to x tops A B (up k d t M) (up k c v N) f h (memory_goes A B only) p more
        (old_claims x tops A B (up k d t M) f h named now.named only p)
        (λ j n s there live. ⊎_elim
        (λ (z : (j ≡ k) × (record { number = k; disk = c; live = Some v } ≡ n)).
        inr (subst (λ i. SeesHeardAt x i tops N.sent s.coord B) (sym z.0)
        (subst (λ (y : Parts). SeesHeardAt x k tops N.sent y.coord B) (some_is {A = Parts} refl (ap (λ (y : Node). y.live) z.1 ∙ live))
        (after N B only h more))))
        (λ (z : ((j == k) ≡ false) × (N.nodes j ≡ Some n)).
        inl (other_at B (up k c v N) only h j n s z.0 (ap (λ q. q j) (sym same) ∙ z.1) live))
        (node_cases N k (record { number = k; disk = c; live = Some v }) j n there))
        (λ j n u there node alone low. none_at B (up k c v N) only h c.inc j n u high (⊎_elim
        (λ (z : (j ≡ k) × (record { number = k; disk = c; live = Some v } ≡ n)). inl (z.0, ap (λ (y : Node). y.disk.inc) (sym z.1)))
        (λ (z : ((j == k) ≡ false) × (N.nodes j ≡ Some n)). inr (z.0, ap (λ q. q j) (sym same) ∙ z.1))
        (node_cases N k (record { number = k; disk = c; live = Some v }) j n there)) node alone low)

    end_at : (c : Disk) (N : Seen) → N.nodes ≡ M.nodes → Fits c N.sent → HoldsFrom (SeesHeard x) x tops Quietly A (up k c v N)
    end_at c N same fits B only now =
        end_by c N B same fits.0 only now (sends_on B (up k c v N) only (fixed_in x tops B (up k c v N) now) now.named M.sent N.sent fits.1)

    -- the step keeps the relation, where what it leaves of the coordinator is seen, and what it sends claims what it says
    pub step_from : (e : ℕ) (outs : List Effect) (L : Seen) → L.nodes ≡ M.nodes → L.sent ≡ M.sent → AllByRecursion (SaysHeard x d.inc A)
        outs → Walks (HoldsFrom (SeesHeard x) x tops Quietly A) e k outs (Up (HoldsFrom (SeesHeard x) x tops Quietly A) k v) d L
    step_from e outs L nodes sent all = walk_fits (HoldsFrom (SeesHeard x) x tops Quietly A)
        (Up (HoldsFrom (SeesHeard x) x tops Quietly A) k v) e k M.nodes Fits (SaysHeard x d.inc A)
        (λ w rises c s fits. let r = rises c fits.0 in ((λ how. (r.0 how, fits.1)), (r.1, fits.1))) sends_one (stop_at e) end_at outs all d
        L nodes (omega arith, subst (SendsMore x A M.sent) (sym sent) (sends_same x A M.sent))

    -- ---- where nothing is done on the disk

    -- what was sent, and what claims at the end what it says
    record Sends (s : List Post) : Type 0 where
      within : (q : Post) → seen.In q M.sent → seen.In q s
      new : (q : Post) → seen.In q s → seen.In q M.sent ⊎ ClaimsThen x tops k v A q.message

    sent_then : (N : Seen) → N.nodes ≡ M.nodes → Sends N.sent → HoldsFrom (SeesHeard x) x tops Quietly A (up k d v N)
    sent_then N same s B only now = end_by d N B same (omega arith) only now (record {
      within = s.within;
      new = λ q i. ⊎_elim (λ o. inl o) (λ (c : ClaimsThen x tops k v A q.message). inr (record { none = c.0; claims = c.1 d N B only now }))
          (s.new q i);
    })

    -- the step keeps the relation, where what it sends claims what it says once the step is done
    pub sends_from : (e : ℕ) (outs : List Effect) (L : Seen) → L.nodes ≡ M.nodes → L.sent ≡ M.sent → AllByRecursion (λ f. SaysThen x tops k
        v A f) outs → Walks (HoldsFrom (SeesHeard x) x tops Quietly A) e k outs (Up (HoldsFrom (SeesHeard x) x tops Quietly A) k v) d L
    sends_from e outs L nodes sent all = walk outs all L nodes (subst Sends (sym sent) (record { within = λ q i. i; new = λ q i. inl i }))
      where
        walk : (es : List Effect) → AllByRecursion (λ f. SaysThen x tops k v A f) es → (L : Seen) → L.nodes ≡ M.nodes → Sends L.sent →
            Walks (HoldsFrom (SeesHeard x) x tops Quietly A) e k es (Up (HoldsFrom (SeesHeard x) x tops Quietly A) k v) d L
        walk [] all L same s = sent_then L same s
        walk (Do w ∷ es) all L same s = absurd all.0
        walk (Say b ∷ es) all L same s = walk es all.1 (said e (b ∷ []) L) same s
        walk (Send to m ∷ es) all L same s =
            λ more quiet. walk es all.1 (said e more (posted (record { from = k; to = to; message = m }) L)) same (record {
              within = λ q i. inr (s.within q i);
              new = λ q i. ⊎_elim (λ mine. inr (subst (λ (z : Post). ClaimsThen x tops k v A z.message) mine all.0)) (λ o. s.new q o) i;
            })

-- ---- where both halves are seen before it

-- the coordinator that makes the step
pub mine : (x : ℕ) (tops : Kinds) (k : ℕ) (d : Disk) (t : Parts) (M : Seen) (A : Office) → SeesBoth x tops A (up k d t M) →
    SeesHeard x tops A (up k d t M) → SeesHeardAt x k tops M.sent t.coord A
mine x tops k d t M A both p =
    p.coords k (record { number = k; disk = d; live = Some t }) t (node_here M k (record { number = k; disk = d; live = Some t })) refl

pub quiet_step : (x : ℕ) (tops : Kinds) (k : ℕ) (d : Disk) (t : Parts) (M : Seen) (A : Office) → SeesBoth x tops A (up k d t M) →
    SeesHeard x tops A (up k d t M) → (v : Parts)
    → ((N : Seen) (B : Office) → OnlyMemory A B → IsFixed tops B.world.disk → SendsMore x B M.sent N.sent →
    SeesHeardAt x k tops N.sent v.coord B)
    → (e : ℕ) (outs : List Effect) (L : Seen) → L.nodes ≡ M.nodes → L.sent ≡ M.sent → AllByRecursion (SaysHeard x d.inc A) outs →
    Walks (HoldsFrom (SeesHeard x) x tops Quietly A) e k outs (Up (HoldsFrom (SeesHeard x) x tops Quietly A) k v) d L
quiet_step x tops k d t M A both p v after e outs L nodes sent all =
    step_from x tops k d t M A (fixed_in x tops A (up k d t M) both) both.named p v after e outs L nodes sent all

pub quiet_sends : (x : ℕ) (tops : Kinds) (k : ℕ) (d : Disk) (t : Parts) (M : Seen) (A : Office) → SeesBoth x tops A (up k d t M) →
    SeesHeard x tops A (up k d t M) → (v : Parts)
    → ((N : Seen) (B : Office) → OnlyMemory A B → IsFixed tops B.world.disk → SendsMore x B M.sent N.sent →
    SeesHeardAt x k tops N.sent v.coord B)
    → (e : ℕ) (outs : List Effect) (L : Seen) → L.nodes ≡ M.nodes → L.sent ≡ M.sent → AllByRecursion (λ f. SaysThen x tops k v A f) outs →
    Walks (HoldsFrom (SeesHeard x) x tops Quietly A) e k outs (Up (HoldsFrom (SeesHeard x) x tops Quietly A) k v) d L
quiet_sends x tops k d t M A both p v after e outs L nodes sent all =
    sends_from x tops k d t M A (fixed_in x tops A (up k d t M) both) both.named p v after e outs L nodes sent all
