-- A step of one top's commit machine: the whole stays seen.
use Rattle.arj_law_parts.proofs.Words
use Words.{◌≡◌, ◌≢◌, ◌⊎◌, ◌<◌, ◌≤◌, ℕ, zero, suc, ◌==◌, List, [], ◌∷◌, Bool, true, false, Option, Some, None, refl, sym, ◌∙◌, ap, subst}
use Words.{inl, inr, ⊎_elim, slice_get, length, lt_irrefl, eqb-true, zero-lt-suc, suc-le-suc, if◌then◌else◌, not, is_some, and_parts}
use Words.{uid_cases, Uid, End, Coord, Doing, doing_of, on_doing, Disk, Naming, Parts, with_coord, uid_number, Node, Tree, Branch}
use Words.{branch_of, is_open, is_open_branch, is_own, at_place, number_tells, Seen}
use Rattle.arj_law_disk_view.proofs.Terms
use Terms.{World, run, State, is_gone, test_cases, test_not, test_same, never, never_some, run_keeps, up, TopGoes, SeesRecords, SeesEntry}
use Terms.{SeesStore, may_note, Kinds, IsFuture, IsNamedCommit, SeesDisks, SeesCoord, SeesNotes, SeesDown, SeesConfirmed, KnowsNow, IsLater}
use Terms.{Works, Begins}
use Rattle.arj_law_disk_view.proofs.view
use view.{Along.along_goes, Along.begins_only, Later.effects_are_later}
use view.AskingSteps.{stores_by_top, entry_by_top}
use view.Doings.{doing_here, doing_other, doing_tree}
use view.Frames.{nodes_to, node_here, works_same, claim_here}
use view.Notes.{fixed_later, notes_later, doing_noted}
use Rattle.std.proofs.Common.{le_trans}

-- ---- an action and its place

-- what is found at a place stands among so many
pub placed_below : {A : Type 0} (j : ℕ) (xs : List A) (a : A) → at_place j xs ≡ Some a → j ≤ length xs
placed_below zero xs a is = absurd (cc is)
placed_below {A} (suc j) xs a is = below xs j a is
  where
    below : (xs : List A) (j : ℕ) (a : A) → slice_get xs j ≡ Some a → j < length xs
    below [] j a is = absurd (cc is)
    below (y ∷ ys) zero a is = zero-lt-suc (length ys)
    below (y ∷ ys) (suc j) a is = suc-le-suc (below ys j a is)

-- an action that is found is of its node and incarnation, and in its place
pub branch_at : (u : Uid) (c : Coord) (b : Branch) → branch_of u c.tree ≡ Some b →
    (u.node ≡ c.tree.node) × (u.inc ≡ c.tree.inc) × (u.num ≤ length c.tree.branches)
branch_at u c b is = by (is_own u c.tree) refl is
  where
    by : (t : Bool) → is_own u c.tree ≡ t → (if t then at_place u.num c.tree.branches else None) ≡ Some b →
        (u.node ≡ c.tree.node) × (u.inc ≡ c.tree.inc) × (u.num ≤ length c.tree.branches)
    by true e h = let p = and_parts (u.node == c.tree.node) (u.inc == c.tree.inc) e in
        (eqb-true u.node c.tree.node p.0, eqb-true u.inc c.tree.inc p.1, placed_below u.num c.tree.branches b h)
    by false e h = absurd (cc h)

-- and isn't one of the future
pub not_future : (u : Uid) (c : Coord) (b : Branch) → branch_of u c.tree ≡ Some b → IsFuture c u → ⊥
not_future u c b is (inl (same, above)) = lt_irrefl (length c.tree.branches) (le_trans above (branch_at u c b is).2)
not_future u c b is (inr later) = lt_irrefl c.tree.inc (subst (λ n. c.tree.inc < n) (branch_at u c b is).1 later)

pub apart_number : (u w : Uid) → w ≢ u → (uid_number w == uid_number u) ≡ false
apart_number u w other = test_not (uid_number w) (uid_number u) (λ e. other (number_tells w u e))

module _ (x k : ℕ) (tops : Kinds) (W : World) (M : Seen) (d : Disk) (t : Parts) (u : Uid) (b : Branch) (q : Doing) (f : Doing →
    Doing) (sees : SeesDisks x tops W (up k d t M))
    (found : branch_of u t.coord.tree ≡ Some b) (is_open_yet : b.ended ≡ None) (doing : doing_of u t.coord ≡ Some q) (top : tops.is_top
    (uid_number u) ≡ true) (may : may_note tops.walk (Begins (uid_number u)) ≡ true) (plain : W.disk.serial (uid_number u) ≡ false)
    (took : (let r = f q in r.took) ≡ q.took) (now : (U : World) → IsLater W U → KnowsNow x U (let r = f q in r.now))
    (goes : TopGoes (uid_number u) (λ S. Works x tops S (uid_number u) b.kind (f q).now) W) where
  abbrev V : World
  V = run W goes.effects

  later : IsLater W V
  later = effects_are_later W goes.effects goes.allowed sees.whole

  mine : SeesCoord x k d.inc tops t.coord W.disk
  mine =
      sees.coords k (record { number = k; disk = d; live = Some t }) t (node_here M k (record { number = k; disk = d; live = Some t })) refl

  same_tree : (on_doing u f t.coord).tree ≡ t.coord.tree
  same_tree = doing_tree u f t.coord

  here : u.node ≡ k
  here = (branch_at u t.coord b found).0 ∙ mine.node

  open_here : is_open u t.coord.tree ≡ true
  open_here = ap is_open_branch found ∙ ap (λ (o : Option End). not (is_some o)) is_open_yet

  -- another action, of which the machine has what it had
  works_other : (w : Uid) (c : Branch) (r : Doing) → w ≢ u → Works x tops W.disk (uid_number w) c.kind r.now →
      Works x tops V.disk (uid_number w) c.kind r.now
  works_other w c r other works = let e = apart_number u w other in
      works_same x tops W.disk V.disk (uid_number w) c.kind r.now (goes.only.stages (uid_number w) e) (goes.only.starts (uid_number w) e)
      (goes.only.texts (uid_number w) e) (goes.only.gots (uid_number w) e) works

  coord_goes : SeesCoord x k d.inc tops (on_doing u f t.coord) V.disk
  coord_goes = record {
    node = ap (λ (r : Tree). r.node) same_tree ∙ mine.node;
    present = ap (λ (r : Tree). r.inc) same_tree ∙ mine.present;
    working = λ w c r there open_yet does. by w c r (uid_cases w u) (ap (λ z. branch_of w z) (sym same_tree) ∙ there) open_yet does;
    closed = λ w at ended began. let other = closed_other w (ap (λ z. is_open w z) (sym same_tree) ∙ ended) in
        ap is_gone (goes.only.stages (uid_number w) (apart_number u w other)) ∙ mine.closed w
        at (ap (λ z. is_open w z) (sym same_tree) ∙ ended) (sym (goes.only.starts (uid_number w) (apart_number u w other)) ∙ began);
    future = λ w at later. let was : IsFuture t.coord w = subst
        (λ (z : Tree). ((w.inc ≡ z.inc) × (length z.branches < w.num)) ⊎ (z.inc < w.inc)) same_tree later in
        goes.only.stages (uid_number w) (apart_number u w (λ e. not_future u t.coord b found (subst (λ z. IsFuture t.coord z) e was)))
        ∙ mine.future w at was;
    bare = λ w c r there does is. bare w c r (uid_cases w u) (ap (λ z. branch_of w z) (sym same_tree) ∙ there) does (bare_was w is);
  }
    where
      bare_was : (w : Uid) → V.disk.bare (uid_number w) ≡ true → W.disk.bare (uid_number w) ≡ true
      bare_was w is = ap (λ (S : State). S.bare (uid_number w)) (sym goes.only.rest) ∙ is

      bare : (w : Uid) (c : Branch) (r : Doing) → (w ≡ u) ⊎ (w ≢ u) → branch_of w t.coord.tree ≡ Some c →
          doing_of w (on_doing u f t.coord) ≡ Some r → W.disk.bare (uid_number w) ≡ true → IsNamedCommit c r
      bare w c r (inl same) there does is =
          let n = mine.bare u b q found doing (ap (λ z. W.disk.bare (uid_number z)) (sym same) ∙ is) in
          absurd (never_some n.committed is_open_yet)
      bare w c r (inr other) there does is = mine.bare w c r there (sym (doing_other u w f t.coord q doing other) ∙ does) is

      closed_other : (w : Uid) → is_open w t.coord.tree ≡ false → w ≢ u
      closed_other w ended same = never (ap (λ z. is_open z t.coord.tree) same ∙ open_here) ended

      by : (w : Uid) (c : Branch) (r : Doing) → (w ≡ u) ⊎ (w ≢ u) → branch_of w t.coord.tree ≡ Some c → c.ended ≡ None →
          doing_of w (on_doing u f t.coord) ≡ Some r → Works x tops V.disk (uid_number w) c.kind r.now
      by w c r (inl same) there open_yet does =
          let branch : ◌≡◌ {A = Option Branch} (Some b) (Some c) = sym found ∙ ap (λ z. branch_of z t.coord.tree) (sym same) ∙ there in
          let it : b ≡ c = cc branch in
          let work : ◌≡◌ {A = Option Doing} (Some (f q)) (Some r) = sym (doing_here u f t.coord q doing)
          ∙ ap (λ z. doing_of z (on_doing u f t.coord)) (sym same) ∙ does in
          let now : f q ≡ r = cc work in
          subst (λ z. Works x tops V.disk (uid_number z) c.kind r.now) (sym same) (subst (λ (z : Doing). Works x tops V.disk (uid_number u)
          c.kind z.now) now (subst (λ (z : Branch). Works x tops V.disk (uid_number u) z.kind (f q).now) it goes.there))
      by w c r (inr other) there open_yet does =
          works_other w c r other (mine.working w c r there open_yet (sym (doing_other u w f t.coord q doing other) ∙ does))

  -- ---- other nodes

  others_apart : (m : ℕ) (w : Uid) → (m == k) ≡ false → w.node ≡ m → w ≢ u
  others_apart m w e at same = never (ap (λ n. n == k) (sym at ∙ ap (λ (z : Uid). z.node) same ∙ here) ∙ test_same k) e

  coord_stays : (m inc : ℕ) (p : Parts) → (m == k) ≡ false → SeesCoord x m inc tops p.coord W.disk → SeesCoord x m inc tops p.coord V.disk
  coord_stays m inc p e s = record {
    node = s.node;
    present = s.present;
    working = λ w c r there open_yet does.
        works_other w c r (others_apart m w e ((branch_at w p.coord c there).0 ∙ s.node)) (s.working w c r there open_yet does);
    closed = λ w at ended began. let other = others_apart m w e at in ap is_gone (goes.only.stages (uid_number w) (apart_number u w other))
        ∙ s.closed w at ended (sym (goes.only.starts (uid_number w) (apart_number u w other)) ∙ began);
    future = λ w at later. goes.only.stages (uid_number w) (apart_number u w (others_apart m w e at)) ∙ s.future w at later;
    bare = λ w c r there does is. s.bare w c r there does (ap (λ (S : State). S.bare (uid_number w)) (sym goes.only.rest) ∙ is);
  }

  down_stays : (m inc : ℕ) → (m == k) ≡ false → SeesDown m inc W.disk → SeesDown m inc V.disk
  down_stays m inc e s = record {
    closed = λ w at began. let other = others_apart m w e at in ap is_gone (goes.only.stages (uid_number w) (apart_number u w other))
        ∙ s.closed w at (sym (goes.only.starts (uid_number w) (apart_number u w other)) ∙ began);
    future = λ w at later. goes.only.stages (uid_number w) (apart_number u w (others_apart m w e at)) ∙ s.future w at later;
  }

  -- ---- other parts

  confirmed_stays : (o : Naming) → SeesConfirmed o W.disk → SeesConfirmed o V.disk
  confirmed_stays o s a on =
      let c = s a on in (
        (goes.only.plans (uid_number a) c.0).0,
        λ v. ⊎_elim (λ h. inl (ap (λ (S : State). S.conf (uid_number a)) goes.only.rest ∙ h))
            (λ h. inr (ap (λ (S : State). S.light (uid_number a)) goes.only.rest ∙ h)) (c.1 (goes.only.outcomes (uid_number a) c.0 v)),
      )

  kinds_stay : (z : ℕ) → V.disk.begun z ≡ true → (tops.is_top z ≡ true) × (V.disk.serial z ≡ false)
  kinds_stay z began = ⊎_elim
      (λ (e : z ≡ uid_number u).
      (ap tops.is_top e ∙ top, ap (λ (S : State). S.serial z) goes.only.rest ∙ ap (λ n. W.disk.serial n) e ∙ plain))
      (λ (e : (z == uid_number u) ≡ false). let r = sees.kinds z (sym (goes.only.starts z e) ∙ began) in
      (r.0, ap (λ (S : State). S.serial z) goes.only.rest ∙ r.1))
      (test_cases z (uid_number u))

  nodes_go : (Q R : ℕ → Node → Type 0) → ((m : ℕ) (n : Node) → (up k d t M).nodes m ≡ Some n → Q m n) →
      (Q k (record { number = k; disk = d; live = Some t }) →
      R k (record { number = k; disk = d; live = Some (with_coord t (on_doing u f t.coord)) })) →
      ((m : ℕ) (n : Node) → (m == k) ≡ false → Q m n → R m n)
      → (m : ℕ) (n : Node) → (up k d (with_coord t (on_doing u f t.coord)) M).nodes m ≡ Some n → R m n
  nodes_go Q R each own others = nodes_to M k (record { number = k; disk = d; live = Some t })
      (record { number = k; disk = d; live = Some (with_coord t (on_doing u f t.coord)) }) Q R each own others

  records_go : (m : ℕ) (n : Node) → SeesRecords m n.disk.intents W.disk → SeesRecords m n.disk.intents V.disk
  records_go m n s =
      subst (λ (S : State). SeesRecords m n.disk.intents S) (sym goes.only.rest) (record { sorted = s.sorted; own = s.own; is = s.is })

  pub top_goes_seen : SeesDisks x tops V (up k d (with_coord t (on_doing u f t.coord)) M)
  top_goes_seen = record {
    whole = run_keeps W goes.effects goes.allowed sees.whole;
    along = along_goes tops.walk W goes.effects goes.allowed (begins_only (may_note tops.walk) (uid_number u) goes.effects may goes.own)
        sees.along;
    fixed = fixed_later tops W V later sees.fixed;
    kinds = kinds_stay;
    stores = nodes_go (λ m n. SeesStore x m n.disk.store W.disk) (λ m n. SeesStore x m n.disk.store V.disk) sees.stores (λ s. stores_by_top
        x k (uid_number u) d.store W V goes.only s) (λ m n e s. stores_by_top x m (uid_number u) n.disk.store W V goes.only s);
    entry = λ n is. nodes_go (λ m n. m ≡ 1 → SeesEntry x n.disk.names W.disk) (λ m n. m ≡ 1 →
        SeesEntry x n.disk.names V.disk) (λ m n there one. sees.entry n (ap (λ j. (up k d t M).nodes j) (sym one) ∙ there))
        (λ s one. entry_by_top x (uid_number u) d.names W V goes.only (s one))
        (λ m n e s one. entry_by_top x (uid_number u) n.disk.names W V goes.only (s one)) 1 n is refl;
    records = nodes_go (λ m n. SeesRecords m n.disk.intents W.disk) (λ m n. SeesRecords m n.disk.intents V.disk) sees.records
        (λ s. records_go k (record { number = k; disk = d; live = Some t }) s) (λ m n e s. records_go m n s);
    coords = λ m n p is live. nodes_go (λ m n. (p : Parts) → n.live ≡ Some p → SeesCoord x m n.disk.inc tops p.coord W.disk) (λ m n.
        (p : Parts) → n.live ≡ Some p → SeesCoord x m n.disk.inc tops p.coord V.disk) (λ m n there p live. sees.coords m n p there live)
        (λ s p live. let same : with_coord t (on_doing u f t.coord) ≡ p = cc live in subst (λ (z : Parts). SeesCoord x k d.inc tops z.coord
        V.disk) same coord_goes) (λ m n e s p live. coord_stays m n.disk.inc p e (s p live)) m n is p live;
    notes = λ m n p is live. nodes_go (λ m n. (p : Parts) → n.live ≡ Some p → SeesNotes x n.disk.intents p.coord W) (λ m n. (p : Parts) →
        n.live ≡ Some p → SeesNotes x n.disk.intents p.coord V) (λ m n there p live. sees.notes m n p there live)
        (λ s p live. let same : with_coord t (on_doing u f t.coord) ≡ p = cc live in subst (λ (z : Parts). SeesNotes x d.intents z.coord V)
        same (doing_noted x V d.intents t.coord u q f (notes_later x W V later d.intents t.coord (s t refl)) doing took (now V later)))
        (λ m n e s p live. notes_later x W V later n.disk.intents p.coord (s p live)) m n is p live;
    downs = nodes_go (λ m n. n.live ≡ None → SeesDown m n.disk.inc W.disk) (λ m n. n.live ≡ None → SeesDown m n.disk.inc V.disk)
        (λ m n there live. sees.downs m n there live) (λ s live. absurd (cc live)) (λ m n e s live. down_stays m n.disk.inc e (s live));
    confirmed = λ n p o is live named. nodes_go (λ m n. m ≡ 1 → (p : Parts) (o : Naming) → n.live ≡ Some p → p.naming ≡ Some o →
        SeesConfirmed o W.disk) (λ m n. m ≡ 1 → (p : Parts) (o : Naming) → n.live ≡ Some p → p.naming ≡ Some o → SeesConfirmed o V.disk)
        (λ m n there one p o live named. sees.confirmed n p o (ap (λ j. (up k d t M).nodes j) (sym one) ∙ there) live named)
        (λ s one p o live named. let same : with_coord t (on_doing u f t.coord) ≡ p = cc live in
        confirmed_stays o (s one t o refl (ap (λ (z : Parts). z.naming) same ∙ named)))
        (λ m n e s one p o live named. confirmed_stays o (s one p o live named)) 1 n is refl p o live named;
    posts = λ p i. claim_here x tops W V M.lines p sees.whole (effects_are_later W goes.effects goes.allowed sees.whole) (sees.posts p i);
  }
