-- A store's answer to a Prepare, walked through at the coordinator.
use Rattle.arj_law_parts.proofs.Words
use Words.{◌≡◌, ◌⊎◌, ℕ, List, [], ◌∷◌, ◌++◌, Bool, true, false, Option, Some, None, refl, sym, ◌∙◌, ap, subst, inl, inr, map}
use Words.{AllByRecursion, Uid, Path, Ask, Kind, Message, request, uids_of, actor, top_of, is_invoke_ask, moved_commit, step_commit}
use Words.{asks_all, asks_node, mark_lines, gaveup_lines, Used, Preparing, Confirming, Asks, begin_confirm, stores_left, marks_store}
use Words.{marks_stores, further, confirm_ask, included_of, begin_prepare, states_for, Coord, Doing, Root, Now, Committing, doing_of}
use Words.{on_doing, on_root, root_at, with_went, Disk, Effect, Say, Send, Do, Intent, says, say_for, Naming, Parts, with_coord, uid_number}
use Words.{AreAll, Node, all_both, Branch, branch_of, root_of, numbered, Post, Seen}
use Words.body
use Words.ask
use Words.kind
use Words.prepared
use Words.commit
use Words.order
use Rattle.arj_law_disk_view.proofs.Terms
use Terms.{World, run, after, State, target, In, bool_cases, never, up, said, posted, Walks, Up, TopGoes, SeesPreparing, SeesConfirming}
use Terms.{SeesRecords, SeesEntry, IsTidy, plan_at, IsPlanned, SeesStore, may_note, Kinds, ClaimsConfirm, SeesDisks, SeesCoord, SeesNotes}
use Terms.{KnowsRoot, SeesDown, SeesConfirmed, IsSeenByDisks, IsLater, KnowsNow, Works, WorksBy, WaitsForStore, Begins, only_begins}
use Terms.machine
use Terms.mail
use Rattle.arj_law_disk_view.proofs.view
use view.{Asked.confirm_says, Planned.states_are_planned, TopFrames.top_goes_seen}
use view.Along.{follows_both, only_both, run_both}
use view.AskingSteps.{prepares_begin, yes_is_taken, doubt_is_marked, silent_are_marked, prepares_end}
use view.Frames.{nodes_to, node_here, says_seen, posts_seen, sends_seen}
use view.Notes.{all_put, known_at, went_known, roots_noted}
use Rattle.arj_law_disk_view.specs.view.{Asking.OnlyTop, Sees.SilentAreGivenUp, Sees.PreparesAreAsked, Sees.PreparedIsHeard}

-- ---- the machine goes in steps

one_both : (t : ℕ) (U V W : World) → OnlyTop t U V → OnlyTop t V W → OnlyTop t U W
one_both t U V W a b = record {
  rest = b.rest ∙ ap (λ (S : State). record S { stage = W.disk.stage; plan = W.disk.plan; begun = W.disk.begun; got = W.disk.got }) a.rest;
  sent = b.sent ∙ a.sent;
  plans = λ z h. let p = a.plans z h in let q = b.plans z p.0 in (q.0, q.1 ∙ p.1);
  stages = λ z e. b.stages z e ∙ a.stages z e;
  starts = λ z e. b.starts z e ∙ a.starts z e;
  texts = λ z e. b.texts z e ∙ a.texts z e;
  gots = λ z e. b.gots z e ∙ a.gots z e;
  outcomes = λ z h u. a.outcomes z h (b.outcomes z (a.plans z h).0 u);
}

pub top_both : (t : ℕ) (Q R : State → Type 0) (W : World) (a : TopGoes t Q W) → TopGoes t R (run W a.effects) → TopGoes t R W
top_both t Q R W a b = record {
  effects = a.effects ++ b.effects;
  allowed = follows_both W a.effects b.effects a.allowed b.allowed;
  own = only_both (only_begins t) a.effects b.effects a.own b.own;
  there = subst (λ (V : World). R V.disk) (sym (run_both W a.effects b.effects)) b.there;
  only = subst (λ V. OnlyTop t W V) (sym (run_both W a.effects b.effects))
      (one_both t W (run W a.effects) (run (run W a.effects) b.effects) a.only b.only);
}

abbrev pub top_to : (t : ℕ) (Q R : State → Type 0) (W : World) → ((S : State) → Q S → R S) → TopGoes t Q W → TopGoes t R W
top_to t Q R W f a =
    record { effects = a.effects; allowed = a.allowed; own = a.own; there = f (run W a.effects).disk a.there; only = a.only }

abbrev pub top_stays : (t : ℕ) (Q : State → Type 0) (W : World) → Q W.disk → TopGoes t Q W
top_stays t Q W h = record {
  effects = [];
  allowed = tt;
  own = tt;
  there = h;
  only = record {
    rest = refl;
    sent = refl;
    plans = λ z b. (b, refl);
    stages = λ z e. refl;
    starts = λ z e. refl;
    texts = λ z e. refl;
    gots = λ z e. refl;
    outcomes = λ z b u. u;
  };
}

-- ---- kinds of actions

-- an open top in its prepare step
pub preparing_of : (x : ℕ) (tops : Kinds) (S : State) (t : ℕ) (k : Kind) (now : Now) (p : commit.Plan) (left : List ℕ) →
    tops.is_top t ≡ true → now ≡ Committing (Preparing p left) → Works x tops S t k now → SeesPreparing x S t p left
preparing_of x tops S t kind.Nested now p left top is w = absurd (never top w)
preparing_of x tops S t kind.Serial now p left top is w = absurd (never top w.0)
preparing_of x tops S t kind.Top now p left top is w = subst (λ n. WorksBy x S t n) is w.1
preparing_of x tops S t kind.Independent now p left top is w = subst (λ n. WorksBy x S t n) is w.1
preparing_of x tops S t kind.Constituent now p left top is w = subst (λ n. WorksBy x S t n) is w.1

-- and what it waits for then
works_as : (x : ℕ) (tops : Kinds) (S V : State) (t : ℕ) (k : Kind) (now next : Now) → tops.is_top t ≡ true → Works x tops S t k now →
    WorksBy x V t next → Works x tops V t k next
works_as x tops S V t kind.Nested now next top w h = absurd (never top w)
works_as x tops S V t kind.Serial now next top w h = absurd (never top w.0)
works_as x tops S V t kind.Top now next top w h = (top, h)
works_as x tops S V t kind.Independent now next top w h = (top, h)
works_as x tops S V t kind.Constituent now next top w h = (top, h)

-- ---- a coordinator that changes in memory

pub coord_seen : (x k : ℕ) (tops : Kinds) (W : World) (M : Seen) (d : Disk) (t : Parts) (c C : Coord) →
    (SeesCoord x k d.inc tops c W.disk → SeesCoord x k d.inc tops C W.disk) → (SeesNotes x d.intents c W → SeesNotes x d.intents C W) →
    SeesDisks x tops W (up k d (with_coord t c) M) → SeesDisks x tops W (up k d (with_coord t C) M)
coord_seen x k tops W M d t c C mine noted s = record {
  whole = s.whole;
  along = s.along;
  fixed = s.fixed;
  kinds = s.kinds;
  stores = to (λ m n. SeesStore x m n.disk.store W.disk) s.stores (λ h. h);
  entry = λ n is. to (λ m n. m ≡ 1 → SeesEntry x n.disk.names W.disk)
      (λ m n there one. s.entry n (ap (λ j. (up k d (with_coord t c) M).nodes j) (sym one) ∙ there)) (λ h. h) 1 n is refl;
  records = to (λ m n. SeesRecords m n.disk.intents W.disk) s.records (λ h. h);
  coords = λ m n p is live. to (λ m n. (p : Parts) → n.live ≡ Some p →
      SeesCoord x m n.disk.inc tops p.coord W.disk) (λ m n there p live. s.coords m n p there live)
      (λ h p live. let same : with_coord t C ≡ p = cc live in
      subst (λ (q : Parts). SeesCoord x k d.inc tops q.coord W.disk) same (mine (h (with_coord t c) refl))) m n is p live;
  notes = λ m n p is live.
      to (λ m n. (p : Parts) → n.live ≡ Some p → SeesNotes x n.disk.intents p.coord W) (λ m n there p live. s.notes m n p there live)
      (λ h p live. let same : with_coord t C ≡ p = cc live in
      subst (λ (q : Parts). SeesNotes x d.intents q.coord W) same (noted (h (with_coord t c) refl))) m n is p live;
  downs = to (λ m n. n.live ≡ None → SeesDown m n.disk.inc W.disk) (λ m n there live. s.downs m n there live) (λ h live. absurd (cc live));
  confirmed =
      λ n p o is live named. to (λ m n. m ≡ 1 → (p : Parts) (o : Naming) → n.live ≡ Some p → p.naming ≡ Some o → SeesConfirmed o W.disk)
      (λ m n there one p o live named. s.confirmed n p o (ap (λ j. (up k d (with_coord t c) M).nodes j) (sym one) ∙ there) live named)
      (λ h one p o live named. let same : with_coord t C ≡ p = cc live in
      h one (with_coord t c) o refl (ap (λ (q : Parts). q.naming) same ∙ named)) 1 n is refl p o live named;
  posts = s.posts;
}
  where
    to : (Q : ℕ → Node → Type 0) → ((m : ℕ) (n : Node) → (up k d (with_coord t c) M).nodes m ≡ Some n → Q m n) →
        (Q k (record { number = k; disk = d; live = Some (with_coord t c) }) →
        Q k (record { number = k; disk = d; live = Some (with_coord t C) })) → (m : ℕ) (n : Node) →
        (up k d (with_coord t C) M).nodes m ≡ Some n → Q m n
    to Q each mine = nodes_to M k (record { number = k; disk = d; live = Some (with_coord t c) })
        (record { number = k; disk = d; live = Some (with_coord t C) }) Q Q each mine (λ m n other h. h)

-- it takes note at a root
pub roots_seen : (x k : ℕ) (tops : Kinds) (W : World) (M : Seen) (d : Disk) (t : Parts) (c : Coord) (roots : List (ℕ × Root)) →
    ((r : SeesNotes x d.intents c W) → AllByRecursion (λ (r : ℕ × Root). KnowsRoot x W r.1) roots) →
    SeesDisks x tops W (up k d (with_coord t c) M) → SeesDisks x tops W (up k d (with_coord t (record c { roots = roots })) M)
roots_seen x k tops W M d t c roots known s = coord_seen x k tops W M d t c (record c { roots = roots })
    (λ h. record { node = h.node; present = h.present; working = h.working; closed = h.closed; future = h.future; bare = h.bare })
    (λ n. roots_noted x W d.intents c roots n (known n)) s

-- a root takes note of a request
pub one_noted : (x : ℕ) (W : World) (path : Path) (to : ℕ) (invoke : Bool) (c : Coord) →
    AllByRecursion (λ (r : ℕ × Root). KnowsRoot x W r.1) c.roots
    → AllByRecursion (λ (r : ℕ × Root). KnowsRoot x W r.1)
    (on_root (root_of path) (with_went (record { path = uids_of path; node = to; invoke = invoke })) c).roots
one_noted x W path to invoke c all = all_put (KnowsRoot x W) (root_of path).num
    (with_went (record { path = uids_of path; node = to; invoke = invoke }) (root_at (root_of path) c)) c.roots (went_known x W
    (record { path = uids_of path; node = to; invoke = invoke }) (root_at (root_of path) c) (known_at x W (root_of path) c all)) all

pub asks_noted : (x : ℕ) (W : World) (path : Path) (req : ℕ) (asks_left : List (ℕ × Ask)) (c : Coord) → AllByRecursion (λ (r : ℕ × Root).
    KnowsRoot x W r.1) c.roots → AllByRecursion (λ (r : ℕ × Root). KnowsRoot x W r.1) (asks_all path req asks_left c).part.roots
asks_noted x W path req [] c all = all
asks_noted x W path req (a ∷ rest) c all =
    asks_noted x W path req rest (asks_node path req a c).part (one_noted x W path a.0 (is_invoke_ask a.1) c all)

-- ---- lines alone

abbrev pub is_say : Effect → Bool
is_say (Say b) = true
is_say (Send to m) = false
is_say (Do w) = false

pub says_walk : (P : Seen → Type 0) (x k : ℕ) (tops : Kinds) (e : ℕ) (t : Parts) (end : Disk → Seen →
    Type 0) (outs rest : List Effect) (d : Disk) (W : World) → AreAll is_say outs
    → ((M : Seen) → SeesDisks x tops W (up k d t M) → Walks P e k rest end d M) → (M : Seen) → SeesDisks x tops W (up k d t M) →
    Walks P e k (outs ++ rest) end d M
says_walk P x k tops e t end [] rest d W own go M s = go M s
says_walk P x k tops e t end (Say b ∷ es) rest d W own go M s =
    says_walk P x k tops e t end es rest d W own go (said e (b ∷ []) M) (says_seen x tops W (up k d t M) (numbered e (b ∷ [])) s)
says_walk P x k tops e t end (Send to m ∷ es) rest d W own go M s = absurd (cc own)
says_walk P x k tops e t end (Do w ∷ es) rest d W own go M s = absurd (cc own)

pub say_walk : (x k : ℕ) (tops : Kinds) (e : ℕ) (t v : Parts) (outs rest : List Effect) (d : Disk) (W : World) → AreAll is_say outs
    → ((M : Seen) → SeesDisks x tops W (up k d t M) → Walks (IsSeenByDisks x tops) e k rest (Up (IsSeenByDisks x tops) k v) d M) →
    (M : Seen) → SeesDisks x tops W (up k d t M) → Walks (IsSeenByDisks x tops) e k (outs ++ rest) (Up (IsSeenByDisks x tops) k v) d M
say_walk x k tops e t v outs rest d W own go M s =
    says_walk (IsSeenByDisks x tops) x k tops e t (Up (IsSeenByDisks x tops) k v) outs rest d W own go M s

marks_say : (u : Uid) (marks : List (ℕ × ℕ)) (c : Coord) → AreAll is_say (mark_lines u marks c)
marks_say u [] c = refl
marks_say u (m ∷ ms) c =
    all_both is_say (says u (λ l. body.Excluded l m.0 m.1) c) (mark_lines u ms c) (by (doing_of u c)) (marks_say u ms c)
  where
    by : (o : Option Doing) → AreAll is_say (say_for (λ l. body.Excluded l m.0 m.1) o)
    by None = refl
    by (Some d) = refl

-- ---- an open top

module _ (x : ℕ) (tops : Kinds) (e k : ℕ) (d : Disk) (t : Parts) (act : Uid) (b : Branch) (r0 : Doing) (intents : List (Uid × Intent))
    (M : Seen) (found : branch_of act t.coord.tree ≡ Some b) (unended : b.ended ≡ None) (at_work : doing_of act t.coord ≡ Some r0)
    (top : tops.is_top (uid_number act) ≡ true) (may : may_note tops.walk (Begins (uid_number act)) ≡ true) (W : World)
    (plain : W.disk.serial (uid_number act) ≡ false) (sees : SeesDisks x tops W (up k d t M)) where
  works : Works x tops W.disk (uid_number act) b.kind r0.now
  works = (sees.coords k (record { number = k; disk = d; live = Some t }) t (node_here M k (record { number = k; disk = d; live = Some t }))
      refl).working act b r0 found unended at_work

  -- the action waits for this from now on, where the machine has gone so
  pub top_moved : (req : ℕ) (next : Now) → ((U : World) → IsLater W U → KnowsNow x U next) →
      (goes : TopGoes (uid_number act) (λ S. WorksBy x S (uid_number act) next) W) → SeesDisks x tops (run W goes.effects)
      (up k d (with_coord t (on_doing act (λ (q : Doing). record q { req = req; now = next }) t.coord)) M)
  top_moved req next now goes =
      top_goes_seen x k tops W M d t act b r0 (λ q. record q { req = req; now = next }) sees found unended at_work top may plain refl now
      (top_to (uid_number act) (λ S. WorksBy x S (uid_number act) next) (λ S. Works x tops S (uid_number act) b.kind next) W
      (λ S h. works_as x tops W.disk S (uid_number act) b.kind r0.now next top works h) goes)

  -- the confirmation is asked
  pub top_asks : (q : commit.Plan) → top_of q.path ≡ act → actor q.path ≡ act →
      TopGoes (uid_number act) (λ S. SeesConfirming x S (uid_number act) q) W → (marks : List (ℕ × ℕ))
      → let did = moved_commit act (record { step = Asks (Confirming q); marks = marks }) intents t.coord in
      Walks (IsSeenByDisks x tops) e k did.outs (Up (IsSeenByDisks x tops) k (with_coord t did.part)) d M
  top_asks q path own goes marks = say_walk x k tops e (with_coord t c1) (with_coord t noted) (mark_lines act marks t.coord)
      (Send 1 msg ∷ []) d V (marks_say act marks t.coord) sends M (top_moved q.req (Committing (Confirming q)) (λ U l. tt) goes)
    where
      c1 : Coord
      c1 = on_doing act (λ (r : Doing). record r { req = q.req; now = Committing (Confirming q) }) t.coord

      noted : Coord
      noted = on_root (root_of q.path) (with_went (record { path = uids_of q.path; node = 1; invoke = false })) c1

      V : World
      V = run W goes.effects

      msg : Message
      msg = request (record { path = q.path; req = q.req }) (confirm_ask q)

      m : mail.Message
      m = mail.Confirm (uid_number act)

      sends : (N : Seen) → SeesDisks x tops V (up k d (with_coord t c1) N) →
          Walks (IsSeenByDisks x tops) e k (Send 1 msg ∷ []) (Up (IsSeenByDisks x tops) k (with_coord t noted)) d N
      sends N s = λ more quiet. (
        after V (machine.Send m),
        roots_seen x k tops (after V (machine.Send m)) (said e more (posted (record { from = k; to = 1; message = msg }) N)) d t c1
            noted.roots (λ known. one_noted x (after V (machine.Send m)) q.path 1 false c1 known.roots)
            (says_seen x tops (after V (machine.Send m)) (up k d (with_coord t c1) (posted (record { from = k; to = 1; message = msg }) N))
            (numbered e more)
            (posts_seen x tops (after V (machine.Send m)) (up k d (with_coord t c1) N) (record { from = k; to = 1; message = msg }) claim
            (sends_seen x tops V (up k d (with_coord t c1) N) m goes.there.stage refl s))),
      )
        where
          confirms : ClaimsConfirm x (after V (machine.Send m)) (uid_number (top_of q.path))
              (map {A = Used} {B = ℕ × ℕ} (λ u. (u.x, u.grant)) q.used) q.excluded (included_of q)
          confirms = subst (λ w. ClaimsConfirm x (after V (machine.Send m)) (uid_number w)
              (map {A = Used} {B = ℕ × ℕ} (λ u. (u.x, u.grant)) q.used) q.excluded (included_of q)) (sym path)
              (record { asked = inl refl; says = confirm_says x V.disk (uid_number act) q goes.there })

          claim : (actor q.path ≡ top_of q.path) × ClaimsConfirm x (after V (machine.Send m)) (uid_number (top_of q.path))
              (map {A = Used} {B = ℕ × ℕ} (λ u. (u.x, u.grant)) q.used) q.excluded (included_of q)
          claim = (own ∙ sym path, confirms)

-- ---- the answer

module _ (x : ℕ) (tops : Kinds) (e k : ℕ) (d : Disk) (t : Parts) (from : ℕ) (act : Uid) (p : commit.Plan) (left : List ℕ)
    (intents : List (Uid × Intent)) (M : Seen)
    (waits : WaitsForStore t from act p left) (top : tops.is_top (uid_number act) ≡ true)
    (may : may_note tops.walk (Begins (uid_number act)) ≡ true) (W : World) (sees : SeesDisks x tops W (up k d t M)) where
  works_here : Works x tops W.disk (uid_number act) waits.branch.kind waits.doing.now
  works_here = (sees.coords k (record { number = k; disk = d; live = Some t }) t (node_here M k
      (record { number = k; disk = d; live = Some t })) refl).working act waits.branch waits.doing waits.found waits.unended waits.at_work

  pub preparing : SeesPreparing x W.disk (uid_number act) p left
  preparing = preparing_of x tops W.disk (uid_number act) waits.branch.kind waits.doing.now p left top waits.now works_here

  plain : W.disk.serial (uid_number act) ≡ false
  plain = (sees.kinds (uid_number act) preparing.begun).1

  moved_seen : (req : ℕ) (next : Now) → ((U : World) → IsLater W U → KnowsNow x U next) →
      (goes : TopGoes (uid_number act) (λ S. WorksBy x S (uid_number act) next) W) → SeesDisks x tops (run W goes.effects)
      (up k d (with_coord t (on_doing act (λ (q : Doing). record q { req = req; now = next }) t.coord)) M)
  moved_seen req next now goes = top_moved x tops e k d t act waits.branch waits.doing intents M waits.found waits.unended waits.at_work top
      may W plain sees req next now goes

  asks_walk : (q : commit.Plan) → top_of q.path ≡ act → actor q.path ≡ act →
      TopGoes (uid_number act) (λ S. SeesConfirming x S (uid_number act) q) W → (marks : List (ℕ × ℕ))
      → let did = moved_commit act (record { step = Asks (Confirming q); marks = marks }) intents t.coord in
      Walks (IsSeenByDisks x tops) e k did.outs (Up (IsSeenByDisks x tops) k (with_coord t did.part)) d M
  asks_walk q path own goes marks = top_asks x tops e k d t act waits.branch waits.doing intents M waits.found waits.unended waits.at_work
      top may W plain sees q path own goes marks

  -- after an answer
  answered_walk : (q : commit.Plan) (rest : List ℕ) → q.path ≡ p.path → q.used ≡ p.used →
      TopGoes (uid_number act) (λ S. SeesPreparing x S (uid_number act) q rest) W
      → let did = moved_commit act (stores_left rest q) intents t.coord in
      Walks (IsSeenByDisks x tops) e k did.outs (Up (IsSeenByDisks x tops) k (with_coord t did.part)) d M
  answered_walk q (n ∷ ns) path used goes = (run W goes.effects, moved_seen q.req (Committing (Preparing q (n ∷ ns))) (λ U l. tt) goes)
  answered_walk q [] path used goes =
      subst (λ us. let did = moved_commit act (record { step = begin_confirm us q; marks = q.excluded }) intents t.coord in
      Walks (IsSeenByDisks x tops) e k did.outs (Up (IsSeenByDisks x tops) k (with_coord t did.part)) d M) (sym (used ∙ waits.uses))
      (asks_walk (further (1 ∷ []) q) (ap top_of path ∙ waits.path) (ap actor path ∙ waits.own) confirming q.excluded)
    where
      confirming : TopGoes (uid_number act) (λ S. SeesConfirming x S (uid_number act) (further (1 ∷ []) q)) W
      confirming = top_to (uid_number act) (λ S. SeesConfirming x S (uid_number act) q)
          (λ S. SeesConfirming x S (uid_number act) (further (1 ∷ []) q)) W
          (λ S h. record {
            stage = h.stage;
            begun = h.begun;
            plan = h.plan;
            tidy = record { apart = h.tidy.apart; once = h.tidy.once; distinct = h.tidy.distinct; loaded = h.tidy.loaded; of = h.tidy.of };
            got = h.got;
            marks = h.marks;
          })
          (top_both (uid_number act) (λ S. SeesPreparing x S (uid_number act) q []) (λ S. SeesConfirming x S (uid_number act) q) W goes
          (prepares_end x (run W goes.effects) (uid_number act) q goes.there))

pub prepared_is_heard : PreparedIsHeard
prepared_is_heard x tops e k d t from act prepared.Yes p left intents M waits top may taken W sees claims =
    answered_walk x tops e k d t from act p left intents M waits top may W sees (record p { prepared = order.with_number from p.prepared })
    (order.without_number from left) refl refl
    (yes_is_taken x W (uid_number act) from p left prep waits.asked (λ on. claims.1 (ap (λ g. target g from) prep.plan ∙ on)))
  where
    prep : SeesPreparing x W.disk (uid_number act) p left
    prep = preparing x tops e k d t from act p left intents M waits top may W sees
prepared_is_heard x tops e k d t from act (prepared.InDoubt y holder) p left intents M waits top may taken W sees claims =
    answered_walk x tops e k d t from act p left intents M waits top may W sees (marks_store from p) (order.without_number from left) refl
    refl
    (top_stays (uid_number act) (λ S. SeesPreparing x S (uid_number act) (marks_store from p) (order.without_number from left)) W
    (doubt_is_marked x W.disk (uid_number act) from p left (preparing x tops e k d t from act p left intents M waits top may W sees)
    waits.asked))
prepared_is_heard x tops e k d t from act (prepared.Old y v) p left intents M waits top may taken W sees claims = absurd taken

-- ---- given up

marks_path : (ss : List ℕ) (p : commit.Plan) → (marks_stores ss p).path ≡ p.path
marks_path [] p = refl
marks_path (s ∷ ss) p = marks_path ss (marks_store s p)

marks_used : (ss : List ℕ) (p : commit.Plan) → (marks_stores ss p).used ≡ p.used
marks_used [] p = refl
marks_used (s ∷ ss) p = marks_used ss (marks_store s p)

pub gaveup_say : (u : Uid) (nodes : List ℕ) (c : Coord) → AreAll is_say (gaveup_lines u nodes c)
gaveup_say u [] c = refl
gaveup_say u (n ∷ ns) c = all_both is_say (says u (λ l. body.GaveUp l n) c) (gaveup_lines u ns c) (by (doing_of u c)) (gaveup_say u ns c)
  where
    by : (o : Option Doing) → AreAll is_say (say_for (λ l. body.GaveUp l n) o)
    by None = refl
    by (Some d) = refl

pub silent_are_given_up : SilentAreGivenUp
silent_are_given_up x tops e k d t from act p left intents M waits top may W sees =
    let q : commit.Plan = marks_stores left p in
    let did = moved_commit act (stores_left [] q) intents t.coord in
    say_walk x k tops e t (with_coord t did.part) (gaveup_lines act left t.coord) did.outs d W (gaveup_say act left t.coord)
    (λ N s. answered_walk x tops e k d t from act p left intents N waits top may W s q [] (marks_path left p) (marks_used left p)
    (top_stays (uid_number act) (λ S. SeesPreparing x S (uid_number act) q []) W
    (silent_are_marked x W.disk (uid_number act) p left (preparing x tops e k d t from act p left intents N waits top may W s))))
    M sees

-- ---- the prepare step begins

-- requests change nothing of a coordinator but what roots have noted
pub asks_roots : (path : Path) (req : ℕ) (asks_left : List (ℕ × Ask)) (c : Coord) →
    (asks_all path req asks_left c).part ≡ record c { roots = (asks_all path req asks_left c).part.roots }
asks_roots path req [] c = refl
asks_roots path req (a ∷ rest) c = asks_roots path req rest (asks_node path req a c).part

module _ (x : ℕ) (tops : Kinds) (e k : ℕ) (d : Disk) (t : Parts) (act : Uid) (q : commit.Plan) (mine : actor q.path ≡ act) where
  -- what the machine has when the step has begun
  record Begun (V : World) : Type 0 where
    begun : V.disk.begun (uid_number act) ≡ true
    plan : V.disk.plan (uid_number act) ≡ plan_at x q
    tidy : IsTidy q

  -- one store is asked
  one_sent : (s : ℕ) (c : Coord) (N : Seen) (V : World) → Begun V → SeesDisks x tops V (up k d (with_coord t c) N)
      → (U : World) × Begun U × SeesDisks x tops U (up k d (with_coord t c) (posted
      (record { from = k; to = s; message = request (record { path = q.path; req = q.req }) (ask.Prepare (states_for s q)) }) N))
  one_sent s c N V begun sees = by (bool_cases (target (V.disk.plan (uid_number act)) s))
    where
      p : Post
      p = record { from = k; to = s; message = request (record { path = q.path; req = q.req }) (ask.Prepare (states_for s q)) }

      planned : (U : World) → Begun U → IsPlanned x U.disk (actor q.path) s (states_for s q)
      planned U b =
          subst (λ w. IsPlanned x U.disk w s (states_for s q)) (sym mine) (states_are_planned x s U.disk act q b.tidy b.begun b.plan)

      by : (target (V.disk.plan (uid_number act)) s ≡ true) ⊎ (target (V.disk.plan (uid_number act)) s ≡ false)
          → (U : World) × Begun U × SeesDisks x tops U (up k d (with_coord t c) (posted
          (record { from = k; to = s; message = request (record { path = q.path; req = q.req }) (ask.Prepare (states_for s q)) }) N))
      by (inr off) = (
        V,
        begun,
        posts_seen x tops V (up k d (with_coord t c) N) p (record {
          planned = planned V begun;
          asked = λ on. absurd (never (subst (λ w. target (V.disk.plan (uid_number w)) s ≡ true) mine on) off);
        }) sees,
      )
      by (inl on) =
          let m : mail.Message = mail.Prepare (uid_number act) s in
          let U : World = after V (machine.Send m) in
          let later : Begun U = record { begun = begun.begun; plan = begun.plan; tidy = begun.tidy } in (
            U,
            later,
            posts_seen x tops U (up k d (with_coord t c) N) p (record {
              planned = planned U later;
              asked = λ also. subst (λ w. In (mail.Prepare (uid_number w) s) U.sent) (sym mine) (inl refl);
            }) (sends_seen x tops V (up k d (with_coord t c) N) m (begun.begun, on) refl sees),
          )

  -- and all of them
  all_sent : (ss : List ℕ) (c c2 : Coord) (v : Parts) (N : Seen) (V : World) → Begun V → SeesDisks x tops V (up k d (with_coord t c) N)
      → ((U : World) (L : Seen) → SeesDisks x tops U (up k d (with_coord t c) L) → IsSeenByDisks x tops (up k d v L))
      → Walks (IsSeenByDisks x tops) e k (asks_all q.path q.req (map {A = ℕ} {B = ℕ × Ask} (λ n. (n, ask.Prepare (states_for n q))) ss)
      c2).outs (Up (IsSeenByDisks x tops) k v) d N
  all_sent [] c c2 v N V begun sees last = last V N sees
  all_sent (s ∷ ss) c c2 v N V begun sees last = λ more quiet.
      let one = one_sent s c N V begun sees in
      let p : Post =
      record { from = k; to = s; message = request (record { path = q.path; req = q.req }) (ask.Prepare (states_for s q)) } in
      all_sent ss c (asks_node q.path q.req (s, ask.Prepare (states_for s q)) c2).part v (said e more (posted p N)) one.0 one.1
      (says_seen x tops one.0 (up k d (with_coord t c) (posted p N)) (numbered e more) one.2) last

pub prepares_are_asked : PreparesAreAsked
prepares_are_asked x tops e k d t act p s ss intents M W targets may note sees =
    subst (λ ts. let did = step_commit act (begin_prepare ts p) intents t.coord in
    Walks (IsSeenByDisks x tops) e k did.outs (Up (IsSeenByDisks x tops) k (with_coord t did.part)) d M) (sym targets) walk
  where
    q : commit.Plan
    q = further (s ∷ ss) p

    goes : TopGoes (uid_number act) (λ S. SeesPreparing x S (uid_number act) (further (s ∷ ss) p) (s ∷ ss)) W
    goes = subst (λ ts. TopGoes (uid_number act) (λ S. SeesPreparing x S (uid_number act) (further (s ∷ ss) p) ts) W) targets
        (prepares_begin x W (uid_number act) p (s ∷ ss) sees.whole.core.fresh may.can may.tidy may.unanswered)

    c1 : Coord
    c1 = on_doing act
        (λ (r : Doing). record r { req = (further (s ∷ ss) p).req; now = Committing (Preparing (further (s ∷ ss) p) (s ∷ ss)) }) t.coord

    works : Works x tops W.disk (uid_number act) may.branch.kind may.doing.now
    works = (sees.coords k (record { number = k; disk = d; live = Some t }) t (node_here M k
        (record { number = k; disk = d; live = Some t })) refl).working act may.branch may.doing may.found may.unended may.at_work

    seen : SeesDisks x tops (run W goes.effects) (up k d (with_coord t c1) M)
    seen = top_goes_seen x k tops W M d t act may.branch may.doing
        (λ r. record r { req = (further (s ∷ ss) p).req; now = Committing (Preparing (further (s ∷ ss) p) (s ∷ ss)) }) sees may.found
        may.unended may.at_work may.top note may.plain refl (λ U l. tt)
        (top_to (uid_number act) (λ S. SeesPreparing x S (uid_number act) (further (s ∷ ss) p) (s ∷ ss))
        (λ S. Works x tops S (uid_number act) may.branch.kind (Committing (Preparing (further (s ∷ ss) p) (s ∷ ss)))) W
        (λ S h. works_as x tops W.disk S (uid_number act) may.branch.kind may.doing.now
        (Committing (Preparing (further (s ∷ ss) p) (s ∷ ss))) may.top works h) goes)

    asked : List (ℕ × Ask)
    asked = map {A = ℕ} {B = ℕ × Ask} (λ n. (n, ask.Prepare (states_for n (further (s ∷ ss) p)))) (s ∷ ss)

    walk : let did = step_commit act (begin_prepare (s ∷ ss) p) intents t.coord in
        Walks (IsSeenByDisks x tops) e k did.outs (Up (IsSeenByDisks x tops) k (with_coord t did.part)) d M
    walk = all_sent x tops e k d t act (further (s ∷ ss) p) may.path (s ∷ ss) c1 c1
        (with_coord t (asks_all (further (s ∷ ss) p).path (further (s ∷ ss) p).req asked c1).part) M (run W goes.effects)
        (record { begun = goes.there.begun; plan = goes.there.plan; tidy = goes.there.tidy }) seen
        (λ U L s2. (
          U,
          subst (λ (c : Coord). SeesDisks x tops U (up k d (with_coord t c) L)) (sym (asks_roots (further (s ∷ ss) p).path (further (s ∷ ss)
              p).req asked c1)) (roots_seen x k tops U L d t c1 (asks_all (further (s ∷ ss) p).path (further (s ∷ ss) p).req asked
              c1).part.roots (λ m. asks_noted x U (further (s ∷ ss) p).path (further (s ∷ ss) p).req asked c1 m.roots) s2),
        ))
