-- What coordinators have of naming's answers, where a node answers a request.
use Rattle.arj_law_parts.proofs.Words
use Words.{◌≡◌, ◌⊎◌, ◌≤◌, ◌<◌, ℕ, ◌==◌, if◌then◌else◌, false, List, [], ◌∷◌, ◌++◌, Option, Some, None, refl, sym, ◌∙◌, ap, subst, inl, inr}
use Words.{⊎_elim, arith, is_some, true, length, AllByRecursion, Ask, Asked, Head, Message, Uid, asks, is_on, last_uid, uids_of, Reply}
use Words.{actor, answers, ask_kind, asked_by, reply_kind, response, Steps, Calling, Doing, doing_of, Said, root_at, Disk, Do, Effect, Send}
use Words.{Stop, Work, stopped, worked, Parts, uid_number, Node, is_own, Branch, branch_of, behind, response_reads_back, Post, Seen}
use Words.list
use Rattle.arj_law_disk_view.proofs.Terms
use Terms.{Action, paths_of, IsAsking, IsBusy, IsGoodCoord, over_below, begun_tree, IsGood, IsGoodOf, IsUp, IsOfStep, head_of, KnowsFew}
use Terms.{Office, some_is, up, Walks, Up, halted, IsFixed, Kinds, OnlyMemory, SeesBoth, Change, Changes, Named, ClaimsAsked, HasNoneOf}
use Terms.{IsAskedFor, IsToStep, SeesHeard, SeesHeardAt, HoldsFrom}
use Terms.seen
use Rattle.arj_law_disk_view.proofs.names.GrantClaims.{changes_are_after}
use Rattle.arj_law_disk_view.proofs.running
use running.{HeardBehind.behind_on, HeardBehind.leads, HeardLike.IsLike, HeardLike.at_like, HeardPosts.SaysHeard, HeardPosts.all_join}
use running.{HeardQuiet.fixed_in, HeardQuiet.old_claims}
use running.HeardAll.{WasAt, asked_on, heard_goes, walk_fits}
use running.HeardStays.{claim_stays, IsNewTo, SaysToStep, at_goes, memory_goes, memory_stays, none_stays, own_doing}
use Rattle.arj_law_disk_view.proofs.view.Frames.{node_cases, node_here}
use Rattle.arj_law_parts.proofs.parts.Begun.{path_found}
use Rattle.arj_law_parts.specs.parts.{Nodes.IsGoodNode, Requests.IsNumbered}
use Rattle.arj_law_runs.specs.{calls.Coords.IsCounted, calls.Coords.KnowsCalls, calls.Runs.Trees, kept.Worlds.IsMemory}
use Rattle.arj_protocol.proofs.Messages.{response_asks_nothing}

-- ---- which step a request is of

module _ (M : Seen) (good : IsGood M) (few : KnowsFew M) (j : ℕ) (n : Node) (t : Parts) (there : M.nodes j ≡ Some n)
    (live : n.live ≡ Some t) where
  abbrev acts : List Action
  acts = few.1.1.0

  abbrev world : IsGoodOf acts M
  world = few.1.1.1

  abbrev tree : Trees acts
  tree = (paths_of acts, begun_tree acts world.begun, path_found acts world.begun)

  calls : KnowsCalls (paths_of acts) M.sent t.coord
  calls = let w = few.1.1.2 tree in let z = w.nodes j n there in z.coord t live

  mine : IsUp acts M.sent M.labels j (let d = n.disk in d.inc) t
  mine = let w = world.places j n there in subst (IsMemory acts M.sent M.labels j (let d = n.disk in d.inc)) live w.memory

  pub coord : IsGoodCoord acts (paths_of acts) t.coord
  coord = let g : IsGoodNode acts (paths_of acts) t = mine.good (paths_of acts) (begun_tree acts world.begun)
      (path_found acts world.begun) in g.coord

  -- who waits in a step stands at the end of its path
  pub actor_of_step : (u : Uid) (q : Doing) (s : Steps) → doing_of u t.coord ≡ Some q → q.now ≡ Calling s → actor s.path ≡ u
  actor_of_step u q s does now = let z : IsAsking t.coord.tree u s.path = subst (IsBusy t.coord.tree u) now (coord.busy u q does) in
      ap actor (sym z.path) ∙ coord.tree.lists.places u z.branch z.found

  pub number_of_step : (u : Uid) (q : Doing) (s : Steps) → doing_of u t.coord ≡ Some q → q.now ≡ Calling s → s.req ≡ q.req
  number_of_step u q s does now = subst (IsNumbered q.req) now (mine.numbered u q does)

  -- a path of an answered call that goes through an action begins with the action's
  pub path_leads : (u : Uid) (b : Branch) (root : Uid) (z : Said) → branch_of u t.coord.tree ≡ Some b →
      list.In z (let r = root_at root t.coord in r.said) → is_on z.path u ≡ true → (rest : List Uid) × (z.path ≡ uids_of b.path ++ rest)
  path_leads u b root z found i on =
      let path = calls.said root z i in
      let q = leads (paths_of acts) (begun_tree acts world.begun) u (length (paths_of acts (last_uid z.path))) (last_uid z.path)
      (omega arith) (ap last_uid (sym path)) (ap (λ us. is_on us u) (sym path) ∙ on) in
      (q.0, path ∙ (q.1 ∙ ap (λ us. us ++ q.0) (sym (coord.tree.lists.paths_are u b found))))

  -- an open action isn't behind one that has ended, on a path of an answered call
  pub not_behind : (u v : Uid) (b y : Branch) (root : Uid) (z : Said) → branch_of u t.coord.tree ≡ Some b → b.ended ≡ None →
      branch_of v t.coord.tree ≡ Some y → is_some y.ended ≡ true → list.In z (let r = root_at root t.coord in r.said) →
      is_on (behind v z.path) u ≡ true → ⊥
  not_behind u v b y root z found unended there over i on =
      let path = calls.said root z i in
      let up = behind_on (paths_of acts) (begun_tree acts world.begun) v (length (paths_of acts (last_uid z.path))) (last_uid z.path)
      (omega arith) (ap last_uid (sym path)) u (ap (λ us. is_on (behind v us) u) (sym path) ∙ on) in
      let n : false ≡ true = sym (ap is_some unended) ∙ over_below (paths_of acts) (begun_tree acts world.begun) t.coord.tree
      coord.tree.lists coord.tree.closed v y there over u b found up in
      cc n

  -- a request that was sent of an action at work is of no later number than its last one
  pub counted_at : (z : Post) (h : Head) (a : Ask) → seen.In z M.sent → z.from ≡ j → asks z.message ≡ Some (h, a) → {u : Uid} →
      actor h.path ≡ u → (q : Doing) → doing_of u t.coord ≡ Some q → h.req ≤ q.req
  counted_at z h a posted from asking {u} asker q does =
      let c = calls.counted z h a posted (from ∙ sym mine.node) asking
      (ap (λ w. is_own w t.coord.tree) asker ∙ own_doing t.coord u q does) in
      subst (λ (y : Doing). h.req ≤ y.req) (some_is c.found (ap (λ w. doing_of w t.coord) asker ∙ does)) c.low

  -- a request that was sent for the step that waits is that of the step
  pub step_of : (u : Uid) (q : Doing) (s : Steps) → doing_of u t.coord ≡ Some q → q.now ≡ Calling s →
      (to : ℕ) (m : Message) (h : Head) (a : Ask) → seen.In (record { from = j; to = to; message = m }) M.sent → asks m ≡ Some (h, a) →
      asked_by (head_of s) ≡ asked_by h → IsOfStep s to h a
  step_of u q s does now to m h a posted asking same = counted.last s (ap (λ (z : Doing). z.now) (some_is counted.found found) ∙ now)
      (sym (ap (λ (z : Asked). z.req) same) ∙ (number ∙ ap (λ (z : Doing). z.req) (some_is found counted.found)))
    where
      asker : actor h.path ≡ u
      asker = sym (ap (λ (z : Asked). z.act) same) ∙ actor_of_step u q s does now

      found : doing_of (actor h.path) t.coord ≡ Some q
      found = ap (λ w. doing_of w t.coord) asker ∙ does

      number : s.req ≡ q.req
      number = number_of_step u q s does now

      counted : IsCounted t.coord to h a
      counted = calls.counted (record { from = j; to = to; message = m }) h a posted (sym mine.node) asking
          (ap (λ w. is_own w t.coord.tree) asker ∙ own_doing t.coord u q does)

-- ---- an answer is given

-- what is sent, and to whom
abbrev sent_in : Effect → Option (ℕ × Message)
sent_in (Send n w) = Some (n, w)
sent_in _ = None

send_is : (a b : ℕ) (m n : Message) → ◌≡◌ {A = Effect} (Send a m) (Send b n) → (a ≡ b) × (m ≡ n)
send_is a b m n same = let e : (a, m) ≡ (b, n) = some_is refl (ap sent_in same) in
    (ap (λ (z : ℕ × Message). z.0) e, ap (λ (z : ℕ × Message). z.1) e)

no_send : (w : Work) (b : ℕ) (n : Message) → ◌≡◌ {A = Effect} (Do w) (Send b n) → ⊥
no_send w b n same = let e : ◌≡◌ {A = Option (ℕ × Message)} None (Some (b, n)) = ap sent_in same in cc

module _ (x : ℕ) (tops : Kinds) (k : ℕ) (d : Disk) (t : Parts) (M : Seen) (A : Office) (both : SeesBoth x tops A (up k d t M))
    (p : SeesHeard x tops A (up k d t M)) (from : ℕ) (m : Message) (h : Head) (a : Ask) (q : Reply)
    (posted : seen.In (record { from = from; to = k; message = m }) M.sent) (asking : asks m ≡ Some (h, a))
    (kind : ask_kind a ≡ reply_kind q) (o : Change) (memory : (B : Office) → Changes o A B → OnlyMemory A B)
    (says : (B : Office) → Changes o A B → (n : Node) (z : Parts) → (up k d t M).nodes from ≡ Some n → n.live ≡ Some z →
    (u : Uid) (y : Doing) (s : Steps) → doing_of u z.coord ≡ Some y → y.now ≡ Calling s → s.x ≡ x → asked_by (head_of s) ≡ asked_by h →
    SaysToStep x s q B.names)
    (v : Parts) (like : IsLike t.coord v.coord) where
  abbrev Here : Node
  Here = record { number = k; disk = d; live = Some t }

  f : IsFixed tops A.world.disk
  f = fixed_in x tops A (up k d t M) both

  here : (up k d t M).nodes k ≡ Some Here
  here = node_here M k Here

  abbrev Answer : Post
  Answer = record { from = k; to = from; message = response (asked_by h) q }

  -- the disk's incarnation is no lower, and this was sent, with the answer or without it
  record Fits (c : Disk) (s : List Post) : Type 0 where
    low : d.inc ≤ c.inc
    within : (z : Post) → seen.In z M.sent → seen.In z s
    new : (z : Post) → seen.In z s → seen.In z M.sent ⊎ (IsNewTo x A z ⊎ (Answer ≡ z))

  abbrev Q : Effect → Type 0
  Q e = SaysHeard x d.inc A e ⊎ (e ≡ Send from (response (asked_by h) q))

  module _ (B : Office) (N : Seen) (changes : Changes o A B) (hb : IsFixed tops B.world.disk) (held : Named B) (c : Disk)
      (fits : Fits c N.sent) where
    only : OnlyMemory A B
    only = memory B changes

    new_claims : (z : Post) → IsNewTo x A z → ClaimsAsked x B (asks z.message)
    new_claims z n = claim_stays x tops A B f hb (memory_goes A B only) both.named held (changes_are_after o A B both.named changes)
        (asks z.message) n.claims

    claims : (z : Post) → seen.In z N.sent → ClaimsAsked x B (asks z.message)
    claims z i = ⊎_elim (λ old. old_claims x tops A B (up k d t M) f hb both.named held only p z old)
        (λ more. ⊎_elim (λ n. new_claims z n) (λ is. subst (λ (y : Post). ClaimsAsked x B (asks y.message)) is
        (subst (ClaimsAsked x B) (sym (response_asks_nothing (asked_by h) q)) tt)) more) (fits.new z i)

    asked : (z : Post) (b : Asked) (r : Reply) → seen.In z N.sent → answers z.message ≡ Some (b, r) → IsAskedFor N.sent z b r
    asked z b r i is = ⊎_elim (λ old. asked_on x tops A B (up k d t M) N f hb (memory_goes A B only) p fits.within z b r old is)
        (λ more. ⊎_elim (λ (n : IsNewTo x A z). absurd (let e : None ≡ Some (b, r) = sym n.none ∙ is in cc)) (λ same. subst
        (λ (y : Post). answers y.message ≡ Some (b, r) → IsAskedFor N.sent y b r) same (λ got. this b r got) is) more) (fits.new z i)
      where
        this : (b : Asked) (r : Reply) → answers (response (asked_by h) q) ≡ Some (b, r) → IsAskedFor N.sent Answer b r
        this b r got = let e = some_is (response_reads_back (asked_by h) q) got in record {
          post = record { from = from; to = k; message = m };
          head = h;
          request = a;
          posted = fits.within (record { from = from; to = k; message = m }) posted;
          from = refl;
          to = refl;
          asking = asking;
          asker = ap (λ (w : Asked × Reply). w.0) e;
          kind = kind ∙ ap (λ (w : Asked × Reply). reply_kind w.1) e;
        }

    said : (j : ℕ) (n : Node) (z : Parts) → (up k d t M).nodes j ≡ Some n → n.live ≡ Some z → (u : Uid) (y : Doing) (s : Steps) →
        doing_of u z.coord ≡ Some y → y.now ≡ Calling s → s.x ≡ x → (r : Reply) → IsToStep j N.sent s r →
        IsToStep j M.sent s r ⊎ SaysToStep x s r B.names
    said j n z there live u y s does now of r to =
        ⊎_elim (λ old. inl (record { post = to.post; posted = old; node = to.node; answer = to.answer }))
        (λ more. ⊎_elim (λ (w : IsNewTo x A to.post). absurd (let e : None ≡ Some (asked_by (head_of s), r) = sym w.none ∙ to.answer in cc))
        (λ same. inr (this same)) more) (fits.new to.post to.posted)
      where
        this : Answer ≡ to.post → SaysToStep x s r B.names
        this same =
            let e = some_is (response_reads_back (asked_by h) q) (ap (λ (w : Post). answers w.message) same ∙ to.answer) in
            subst (λ w. SaysToStep x s w B.names) (ap (λ (w : Asked × Reply). w.1) e)
            (says B changes n z (ap (λ i. (up k d t M).nodes i) (ap (λ (w : Post). w.to) same ∙ to.node) ∙ there) live u y s does now of
            (sym (ap (λ (w : Asked × Reply). w.0) e)))

    other_at : (L : Seen) (j : ℕ) (n : Node) (s : Parts) → (j == k) ≡ false → M.nodes j ≡ Some n → n.live ≡ Some s →
        WasAt x tops A B (up k d t M) L f hb (memory_goes A B only) p j s
    other_at L j n s off there live = record {
      node = n;
      there = ap (λ b. if b then Some Here else M.nodes j) off ∙ there;
      parts = s;
      live = live;
      same = refl;
      stays = λ u own kind. memory_stays tops A B only (tops.root (uid_number u));
    }

    none_at : (i j : ℕ) (n : Node) (u : Uid) → d.inc ≤ i →
        ((j ≡ k) × ((let c = n.disk in c.inc) ≡ i)) ⊎ (((j == k) ≡ false) × (M.nodes j ≡ Some n)) → u.node ≡ j →
        tops.root (uid_number u) ≡ uid_number u → (let c = n.disk in c.inc) < u.inc → HasNoneOf tops (uid_number u) B
    none_at i j n u high which node alone low =
        none_stays x tops A B f hb (memory_goes A B only) (uid_number u) (memory_stays tops A B only (uid_number u)) (⊎_elim
        (λ (z : (j ≡ k) × (n.disk.inc ≡ i)). p.future k Here u here (node ∙ z.0) alone (let e : n.disk.inc ≡ i = z.1 in omega arith))
        (λ (z : ((j == k) ≡ false) × (M.nodes j ≡ Some n)).
        p.future j n u (ap (λ b. if b then Some Here else M.nodes j) z.0 ∙ z.1) node alone low) which)

    -- the coordinator of the node itself
    mine_now : SeesHeardAt x k tops N.sent v.coord B
    mine_now = at_like t.coord v.coord like x k tops N.sent B (at_goes x tops A B f hb (memory_goes A B only) k M.sent N.sent t.coord
        (λ u y s does now of r to. said k Here t here refl u y s does now of r to)
        (λ u own kind. memory_stays tops A B only (tops.root (uid_number u))) (p.coords k Here t here refl))

    down_now : (e : ℕ) → N.nodes ≡ M.nodes → SeesHeard x tops B (halted e k c N)
    down_now e same = heard_goes x tops A B (up k d t M) (halted e k c N) f hb (memory_goes A B only) p said claims asked
        (λ j n s there live. ⊎_elim
        (λ (z : (j ≡ k) × (record { number = k; disk = c; live = None } ≡ n)).
        absurd (let none : None ≡ Some s = ap (λ (y : Node). y.live) z.1 ∙ live in cc))
        (λ (z : ((j == k) ≡ false) × (N.nodes j ≡ Some n)). inl (other_at (halted e k c N) j n s z.0 (ap (λ g. g j) (sym same) ∙ z.1) live))
        (node_cases N k (record { number = k; disk = c; live = None }) j n there))
        (λ j n u there node alone low. none_at c.inc j n u fits.low (⊎_elim
        (λ (z : (j ≡ k) × (record { number = k; disk = c; live = None } ≡ n)). inl (z.0, ap (λ (y : Node). y.disk.inc) (sym z.1)))
        (λ (z : ((j == k) ≡ false) × (N.nodes j ≡ Some n)). inr (z.0, ap (λ g. g j) (sym same) ∙ z.1))
        (node_cases N k (record { number = k; disk = c; live = None }) j n there)) node alone low)

    up_now : N.nodes ≡ M.nodes → SeesHeard x tops B (up k c v N)
    up_now same = heard_goes x tops A B (up k d t M) (up k c v N) f hb (memory_goes A B only) p said claims asked
        (λ j n s there live. ⊎_elim
        (λ (z : (j ≡ k) × (record { number = k; disk = c; live = Some v } ≡ n)).
        inr (subst (λ i. SeesHeardAt x i tops N.sent s.coord B) (sym z.0) (subst (λ (y : Parts). SeesHeardAt x k tops N.sent y.coord B)
        (some_is {A = Parts} refl (ap (λ (y : Node). y.live) z.1 ∙ live)) mine_now)))
        (λ (z : ((j == k) ≡ false) × (N.nodes j ≡ Some n)). inl (other_at (up k c v N) j n s z.0 (ap (λ g. g j) (sym same) ∙ z.1) live))
        (node_cases N k (record { number = k; disk = c; live = Some v }) j n there))
        (λ j n u there node alone low. none_at c.inc j n u fits.low (⊎_elim
        (λ (z : (j ≡ k) × (record { number = k; disk = c; live = Some v } ≡ n)). inl (z.0, ap (λ (y : Node). y.disk.inc) (sym z.1)))
        (λ (z : ((j == k) ≡ false) × (N.nodes j ≡ Some n)). inr (z.0, ap (λ g. g j) (sym same) ∙ z.1))
        (node_cases N k (record { number = k; disk = c; live = Some v }) j n there)) node alone low)

  -- ---- along the step

  sends_one : (to : ℕ) (z : Message) → Q (Send to z) → (c : Disk) (s : List Post) → Fits c s →
      Fits c (record { from = k; to = to; message = z } ∷ s)
  sends_one to z what c s fits = record {
    low = fits.low;
    within = λ y i. inr (fits.within y i);
    new = λ y i. ⊎_elim (λ same. inr (subst (λ w. IsNewTo x A w ⊎ (Answer ≡ w)) same (this what))) (λ old. fits.new y old) i;
  }
    where
      this : Q (Send to z) → IsNewTo x A (record { from = k; to = to; message = z }) ⊎ (Answer ≡ record { from = k; to = to; message = z })
      this (inl says) = inl (record { none = says.0; claims = says.1 })
      this (inr same) = let both_are : (to ≡ from) × (z ≡ response (asked_by h) q) = send_is to from z (response (asked_by h) q) same in
          inr (λ i. record { from = k; to = sym both_are.0 i; message = sym both_are.1 i })

  pub serve_step : (e : ℕ) (outs : List Effect) → AllByRecursion (SaysHeard x d.inc A) outs → Walks (HoldsFrom (SeesHeard x) x tops o A) e k
      (outs ++ Send from (response (asked_by h) q) ∷ []) (Up (HoldsFrom (SeesHeard x) x tops o A) k v) d M
  serve_step e outs all = walk_fits (HoldsFrom (SeesHeard x) x tops o A) (Up (HoldsFrom (SeesHeard x) x tops o A) k v) e k M.nodes Fits Q
      (λ w what c s fits. works w what c s fits) sends_one
      (λ c N same fits B changes now. down_now B N changes (fixed_in x tops B (halted e k c N) now) now.named c fits e same)
      (λ c N same fits B changes now. up_now B N changes (fixed_in x tops B (up k c v N) now) now.named c fits same)
      (outs ++ Send from (response (asked_by h) q) ∷ []) (all_join Q outs (Send from (response (asked_by h) q) ∷ []) (first outs all)
      (inr refl, tt)) d M refl (record { low = omega arith; within = λ z i. i; new = λ z i. inl i })
    where
      first : (es : List Effect) → AllByRecursion (SaysHeard x d.inc A) es → AllByRecursion Q es
      first [] each = tt
      first (z ∷ es) each = (inl each.0, first es each.1)

      works : (w : Work) → Q (Do w) → (c : Disk) (s : List Post) → Fits c s →
          ((how : Stop) → Fits (stopped how w c) s) × Fits (worked w c) s
      works w (inl rises) c s fits = let r = rises c fits.low in (
        (λ how. record { low = r.0 how; within = fits.within; new = fits.new }),
        record { low = r.1; within = fits.within; new = fits.new },
      )
      works w (inr same) c s fits = absurd (no_send w from (response (asked_by h) q) same)
