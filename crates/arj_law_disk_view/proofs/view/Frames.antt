-- One node changes: what is seen of the others stays, and so does what is seen of its other parts.
use Rattle.arj_law_parts.proofs.Words
use Words.{◌≡◌, ◌⊎◌, ℕ, ◌==◌, List, [], ◌∷◌, ◌++◌, Bool, true, false, Some, None, refl, sym, ◌∙◌, ap, subst, inl, inr, ⊎_elim, append-nil}
use Words.{if◌then◌else◌, Kind, Line, Voting, Preparing, Confirming, Coord, Now, Idle, Calling, Committing, Disk, Pair, Naming, Parts}
use Words.{uid_number, Node, Post, Seen}
use Words.kind
use Rattle.arj_law_disk_view.proofs.Terms
use Terms.{World, Whole, run, after, State, is_gone, test_is, test_same, effect_keeps, run_keeps, up, posted, SeesRecords, SeesEntry}
use Terms.{SeesStore, StoreGoes, may_note, Kinds, Claims, IsLater, SeesDisks, SeesCoord, SeesNotes, SeesDown, SeesConfirmed, Works, WorksBy}
use Terms.{tells_only_of}
use Terms.machine as Effects
use Terms.mail
use Terms.seen
use Rattle.arj_law_disk.specs.machine.Effects.{MaySend}
use Rattle.arj_law_disk_view.proofs.view
use view.{Along.along_goes, Along.plain_only, EntrySteps.entry_by_store, Notes.fixed_later, Notes.notes_later, StoreSteps.other_stores_stay}
use view.Later.{effects_are_later, later_same, claims_stay}
use Rattle.arj_law_parts.specs.moves.Seen.{with_node}

-- ---- nodes

-- a node of the changed world is the one that was put there, or another one
pub node_cases : (M : Seen) (k : ℕ) (b : Node) (m : ℕ) (n : Node) → (with_node k b M).nodes m ≡ Some n →
    ((m ≡ k) × (b ≡ n)) ⊎ (((m == k) ≡ false) × (M.nodes m ≡ Some n))
node_cases M k b m n = by (m == k) refl
  where
    by : (t : Bool) → (m == k) ≡ t → (if t then Some b else M.nodes m) ≡ Some n →
        ((m ≡ k) × (b ≡ n)) ⊎ (((m == k) ≡ false) × (M.nodes m ≡ Some n))
    by true e h = inl (test_is m k e, (let same : b ≡ n = cc h in same))
    by false e h = inr (e, h)

pub node_here : (M : Seen) (k : ℕ) (a : Node) → (with_node k a M).nodes k ≡ Some a
node_here M k a = ap (λ t. if t then Some a else M.nodes k) (test_same k)

pub node_other : (M : Seen) (k : ℕ) (a : Node) (m : ℕ) → (m == k) ≡ false → (with_node k a M).nodes m ≡ M.nodes m
node_other M k a m e = ap (λ t. if t then Some a else M.nodes m) e

-- what holds of each node holds after one has changed
pub nodes_to : (M : Seen) (k : ℕ) (a b : Node) (Q R : ℕ → Node → Type 0) → ((m : ℕ) (n : Node) → (with_node k a M).nodes m ≡ Some n → Q m n)
    → (Q k a → R k b) → ((m : ℕ) (n : Node) → (m == k) ≡ false → Q m n → R m n)
    → (m : ℕ) (n : Node) → (with_node k b M).nodes m ≡ Some n → R m n
nodes_to M k a b Q R each mine others m n is = ⊎_elim
    (λ (same : (m ≡ k) × (b ≡ n)). subst (λ j. R j n) (sym same.0) (subst (λ (x : Node). R k x) same.1 (mine (each k a (node_here M k a)))))
    (λ (other : ((m == k) ≡ false) × (M.nodes m ≡ Some n)). others m n other.0 (each m n (node_other M k a m other.0 ∙ other.1)))
    (node_cases M k b m n is)

-- ---- coordinators

works_now : (x : ℕ) (S V : State) (t : ℕ) (now : Now) → V.stage t ≡ S.stage t → V.begun t ≡ S.begun t → V.plan t ≡ S.plan t →
    V.got t ≡ S.got t → WorksBy x S t now → WorksBy x V t now
works_now x S V t Idle stage begun plan got w = stage ∙ w
works_now x S V t (Calling s) stage begun plan got w = stage ∙ w
works_now x S V t (Committing (Voting p left)) stage begun plan got w = stage ∙ w
works_now x S V t (Committing (Preparing p left)) stage begun plan got w = record {
  stage = stage ∙ w.stage;
  begun = begun ∙ w.begun;
  plan = plan ∙ w.plan;
  tidy = w.tidy;
  got = λ s on. ap (λ f. f s) got ∙ w.got s on;
  marks = w.marks;
  apart = w.apart;
}
works_now x S V t (Committing (Confirming p)) stage begun plan got w = record {
  stage = stage ∙ w.stage;
  begun = begun ∙ w.begun;
  plan = plan ∙ w.plan;
  tidy = w.tidy;
  got = λ s on. ap (λ f. f s) got ∙ w.got s on;
  marks = w.marks;
}

pub works_same : (x : ℕ) (tops : Kinds) (S V : State) (t : ℕ) (k : Kind) (now : Now) → V.stage t ≡ S.stage t → V.begun t ≡ S.begun t →
    V.plan t ≡ S.plan t → V.got t ≡ S.got t → Works x tops S t k now → Works x tops V t k now
works_same x tops S V t kind.Nested now stage begun plan got w = w
works_same x tops S V t kind.Serial now stage begun plan got w = (w.0, stage ∙ w.1)
works_same x tops S V t kind.Top now stage begun plan got w = (w.0, works_now x S V t now stage begun plan got w.1)
works_same x tops S V t kind.Independent now stage begun plan got w = (w.0, works_now x S V t now stage begun plan got w.1)
works_same x tops S V t kind.Constituent now stage begun plan got w = (w.0, works_now x S V t now stage begun plan got w.1)

-- a coordinator reads stages, plans and answers alone
pub coord_same : (x k inc : ℕ) (tops : Kinds) (c : Coord) (S V : State) → V.stage ≡ S.stage → V.begun ≡ S.begun → V.plan ≡ S.plan →
    V.got ≡ S.got → V.bare ≡ S.bare → SeesCoord x k inc tops c S → SeesCoord x k inc tops c V
coord_same x k inc tops c S V stage begun plan got bare s = record {
  node = s.node;
  present = s.present;
  working = λ u b d there open_yet doing. works_same x tops S V (uid_number u) b.kind d.now (ap (λ f. f (uid_number u)) stage) (ap (λ f.
      f (uid_number u)) begun) (ap (λ f. f (uid_number u)) plan) (ap (λ f. f (uid_number u)) got) (s.working u b d there open_yet doing);
  closed = λ u mine ended began. ap (λ f. is_gone (f (uid_number u))) stage
      ∙ s.closed u mine ended (ap (λ f. f (uid_number u)) (sym begun) ∙ began);
  future = λ u mine later. ap (λ f. f (uid_number u)) stage ∙ s.future u mine later;
  bare = λ u b d there doing is. s.bare u b d there doing (ap (λ f. f (uid_number u)) (sym bare) ∙ is);
}

pub down_same : (k inc : ℕ) (S V : State) → V.stage ≡ S.stage → V.begun ≡ S.begun → SeesDown k inc S → SeesDown k inc V
down_same k inc S V stage begun s = record {
  closed = λ u mine began. ap (λ f. is_gone (f (uid_number u))) stage ∙ s.closed u mine (ap (λ f. f (uid_number u)) (sym begun) ∙ began);
  future = λ u mine later. ap (λ f. f (uid_number u)) stage ∙ s.future u mine later;
}

-- ---- messages and lines

pub claim_here : (x : ℕ) (tops : Kinds) (W V : World) (lines : List Line) (p : Post) → Whole W → IsLater W V → Claims x tops W lines p →
    Claims x tops V lines p
claim_here x tops W V lines p whole later c =
    subst (λ ls. Claims x tops V ls p) (append-nil lines) (claims_stay x tops W V lines [] p whole later c)

-- lines are said
pub says_seen : (x : ℕ) (tops : Kinds) (W : World) (M : Seen) (more : List Line) → SeesDisks x tops W M →
    SeesDisks x tops W (record M { lines = M.lines ++ more })
says_seen x tops W M more s = record {
  whole = s.whole;
  along = s.along;
  fixed = s.fixed;
  kinds = s.kinds;
  stores = s.stores;
  entry = s.entry;
  records = s.records;
  coords = s.coords;
  notes = s.notes;
  downs = s.downs;
  confirmed = s.confirmed;
  posts = λ p i. claims_stay x tops W W M.lines more p s.whole (later_same W) (s.posts p i);
}

-- a message is sent that claims what is true
pub posts_seen : (x : ℕ) (tops : Kinds) (W : World) (M : Seen) (p : Post) → Claims x tops W M.lines p → SeesDisks x tops W M →
    SeesDisks x tops W (posted p M)
posts_seen x tops W M p claim s = record {
  whole = s.whole;
  along = s.along;
  fixed = s.fixed;
  kinds = s.kinds;
  stores = s.stores;
  entry = s.entry;
  records = s.records;
  coords = s.coords;
  notes = s.notes;
  downs = s.downs;
  confirmed = s.confirmed;
  posts = λ q i. ⊎_elim (λ (same : p ≡ q). subst (λ r. Claims x tops W M.lines r) same claim) (λ (old : seen.In q M.sent). s.posts q old) i;
}

-- the machine sends one
pub sends_seen : (x : ℕ) (tops : Kinds) (W : World) (M : Seen) (m : mail.Message) → MaySend W m →
    tells_only_of (may_note tops.walk) m ≡ true → SeesDisks x tops W M → SeesDisks x tops (after W (Effects.Send m)) M
sends_seen x tops W M m may only s = record {
  whole = effect_keeps W (Effects.Send m) may s.whole;
  along = along_goes tops.walk W (Effects.Send m ∷ []) (may, tt) (only, tt) s.along;
  fixed = record { root = s.fixed.root; serial = s.fixed.serial };
  kinds = s.kinds;
  stores = s.stores;
  entry = s.entry;
  records = s.records;
  coords = s.coords;
  notes = λ k n t there live. notes_later x W (after W (Effects.Send m)) (effects_are_later W (Effects.Send m ∷ []) (may, tt) s.whole)
      n.disk.intents t.coord (s.notes k n t there live);
  downs = s.downs;
  confirmed = s.confirmed;
  posts = λ p i. claim_here x tops W (after W (Effects.Send m)) M.lines p s.whole
      (effects_are_later W (Effects.Send m ∷ []) (may, tt) s.whole) (s.posts p i);
}

-- ---- a store's work

module _ (x k : ℕ) (tops : Kinds) (W : World) (M : Seen) (d : Disk) (t : Parts) (sees : SeesDisks x tops W (up k d t M)) (c : Pair)
    (goes : StoreGoes x k c W) where
  abbrev Old : Node
  Old = record { number = k; disk = d; live = Some t }

  abbrev New : Node
  New = record { number = k; disk = record d { store = c }; live = Some t }

  abbrev V : World
  V = run W goes.effects

  stage_same : V.disk.stage ≡ W.disk.stage
  stage_same = ap (λ (S : State). S.stage) goes.only.rest

  begun_same : V.disk.begun ≡ W.disk.begun
  begun_same = ap (λ (S : State). S.begun) goes.only.rest

  -- what holds of each node holds after this one has changed
  nodes_go : (Q R : ℕ → Node → Type 0) → ((m : ℕ) (n : Node) → (up k d t M).nodes m ≡ Some n → Q m n) → (Q k Old → R k New) →
      ((m : ℕ) (n : Node) → (m == k) ≡ false → Q m n → R m n)
      → (m : ℕ) (n : Node) → (up k (record d { store = c }) t M).nodes m ≡ Some n → R m n
  nodes_go Q R each mine others = nodes_to M k (record { number = k; disk = d; live = Some t })
      (record { number = k; disk = record d { store = c }; live = Some t }) Q R each mine others

  records_go : (m : ℕ) (n : Node) → SeesRecords m n.disk.intents W.disk → SeesRecords m n.disk.intents V.disk
  records_go m n s =
      subst (λ (S : State). SeesRecords m n.disk.intents S) (sym goes.only.rest) (record { sorted = s.sorted; own = s.own; is = s.is })

  coord_goes : (m inc : ℕ) (p : Parts) → SeesCoord x m inc tops p.coord W.disk → SeesCoord x m inc tops p.coord V.disk
  coord_goes m inc p s = coord_same x m inc tops p.coord W.disk V.disk stage_same begun_same (ap (λ (S : State). S.plan) goes.only.rest)
      (ap (λ (S : State). S.got) goes.only.rest) (ap (λ (S : State). S.bare) goes.only.rest) s

  confirmed_goes : (o : Naming) → SeesConfirmed o W.disk → SeesConfirmed o V.disk
  confirmed_goes o s = subst (λ (S : State). SeesConfirmed o S) (sym goes.only.rest) s

  abbrev CoordAt : State → ℕ → Node → Type 0
  CoordAt S m n = (p : Parts) → n.live ≡ Some p → SeesCoord x m n.disk.inc tops p.coord S

  abbrev NotesAt : World → ℕ → Node → Type 0
  NotesAt U m n = (p : Parts) → n.live ≡ Some p → SeesNotes x n.disk.intents p.coord U

  later : IsLater W V
  later = effects_are_later W goes.effects goes.allowed sees.whole

  abbrev DownAt : State → ℕ → Node → Type 0
  DownAt S m n = n.live ≡ None → SeesDown m n.disk.inc S

  abbrev EntryAt : State → ℕ → Node → Type 0
  EntryAt S m n = m ≡ 1 → SeesEntry x n.disk.names S

  abbrev ConfirmedAt : State → ℕ → Node → Type 0
  ConfirmedAt S m n = m ≡ 1 → (p : Parts) (o : Naming) → n.live ≡ Some p → p.naming ≡ Some o → SeesConfirmed o S

  pub store_goes_seen : SeesDisks x tops V (up k (record d { store = c }) t M)
  store_goes_seen = record {
    whole = run_keeps W goes.effects goes.allowed sees.whole;
    along = along_goes tops.walk W goes.effects goes.allowed (plain_only (may_note tops.walk) goes.effects goes.plain) sees.along;
    fixed = fixed_later tops W V later sees.fixed;
    kinds = λ z b. let r = sees.kinds z (ap (λ f. f z) (sym begun_same) ∙ b) in (r.0, ap (λ (S : State). S.serial z) goes.only.rest ∙ r.1);
    stores = nodes_go (λ m n. SeesStore x m n.disk.store W.disk) (λ m n. SeesStore x m n.disk.store V.disk) sees.stores (λ s. goes.there)
        (λ m n other s. other_stores_stay x k m n.disk.store W V goes.only other s);
    entry = λ n is.
        nodes_go (EntryAt W.disk) (EntryAt V.disk) (λ m n there one. sees.entry n (ap (λ j. (up k d t M).nodes j) (sym one) ∙ there))
        (λ s one. entry_by_store x k d.names W V goes.only (s one))
        (λ m n other s one. entry_by_store x k n.disk.names W V goes.only (s one)) 1 n is refl;
    records = nodes_go (λ m n. SeesRecords m n.disk.intents W.disk) (λ m n. SeesRecords m n.disk.intents V.disk) sees.records
        (λ s. records_go k (record { number = k; disk = d; live = Some t }) s) (λ m n other s. records_go m n s);
    coords = λ m n p is live. nodes_go (CoordAt W.disk) (CoordAt V.disk) (λ m n there p live. sees.coords m n p there live)
        (λ s p live. coord_goes k d.inc p (s p live)) (λ m n other s p live. coord_goes m n.disk.inc p (s p live)) m n is p live;
    notes =
        λ m n p is live. nodes_go (NotesAt W) (NotesAt V) (λ m n there p live. sees.notes m n p there live) (λ s p live. notes_later x W V
        later d.intents p.coord (s p live)) (λ m n other s p live. notes_later x W V later n.disk.intents p.coord (s p live)) m n is p live;
    downs = nodes_go (DownAt W.disk) (DownAt V.disk) (λ m n there live. sees.downs m n there live) (λ s live. down_same k d.inc W.disk
        V.disk stage_same begun_same (s live)) (λ m n other s live. down_same m n.disk.inc W.disk V.disk stage_same begun_same (s live));
    confirmed = λ n p o is live named. nodes_go (ConfirmedAt W.disk) (ConfirmedAt V.disk)
        (λ m n there one p o live named. sees.confirmed n p o (ap (λ j. (up k d t M).nodes j) (sym one) ∙ there) live named)
        (λ s one p o live named. confirmed_goes o (s one p o live named))
        (λ m n other s one p o live named. confirmed_goes o (s one p o live named)) 1 n is refl p o live named;
    posts = λ p i. claim_here x tops W V M.lines p sees.whole (effects_are_later W goes.effects goes.allowed sees.whole) (sees.posts p i);
  }
