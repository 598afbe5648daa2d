-- A coordinator that has ended one of its tops, and effects of coordinators that open nothing.
use Rattle.arj_law_parts.proofs.Words
use Words.{◌≡◌, ◌≢◌, ◌⊎◌, ◌<◌, ℕ, zero, suc, ◌==◌, ◌&&◌, List, [], ◌∷◌, Bool, true, false, Option, Some, None, refl, sym, ◌∙◌, ap, subst}
use Words.{inl, inr, ⊎_elim, slice_set, length, eqb-true, ◌++◌, if◌then◌else◌, nat_le, AllByRecursion, and_parts, uid_cases, Uid, End}
use Words.{uids_of, Coord, Doing, Root, doing_of, Disk, Intent, Naming, Parts, with_coord, at_uid, uid_number, Node, Tree, Branch}
use Words.{branch_of, is_open_branch, is_own, at_place, set_place, ended_at, ended_branch, with_family, family_of, root_of, place_other}
use Words.{Seen}
use Words.ending
use Words.order
use Rattle.arj_law_disk_view.proofs.Terms
use Terms.{World, Allowed, after, State, naming, is_gone, test_same, never, some_is, effect_keeps, up, place_same, SeesRecords, IsCalm}
use Terms.{SeesEntry, SeesStore, may_note, Kinds, IsFuture, IsNamedCommit, SeesDisks, SeesCoord, SeesNotes, IsSettled, KnowsNow, KnowsRoot}
use Terms.{is_awaited_by, IsLater, SeesDown, SeesConfirmed, Works, is_only_of}
use Terms.machine
use Terms.disk
use Rattle.arj_law_disk_view.proofs.view
use view.{Along.along_goes, Later.effects_are_later, Notes.fixed_later, Notes.notes_later}
use view.DecidingSteps.{stores_stay_calm, entry_stays_calm}
use view.Frames.{nodes_to, works_same, claim_here}
use view.TopFrames.{branch_at, not_future}

-- ---- the tree

set_long : {A : Type 0} (k : ℕ) (a : A) (xs : List A) → length (slice_set xs k a) ≡ length xs
set_long k a [] = refl
set_long zero a (x ∷ xs) = refl
set_long (suc k) a (x ∷ xs) = ap suc (set_long k a xs)

pub place_long : {A : Type 0} (k : ℕ) (a : A) (xs : List A) → length (set_place k a xs) ≡ length xs
place_long zero a xs = refl
place_long (suc k) a xs = set_long k a xs

-- a tree whose action has ended: the others are as they were
pub record HasEnded (u : Uid) (b : Branch) (how : End) (t v : Tree) : Type 0 where
  pub node : v.node ≡ t.node
  pub inc : v.inc ≡ t.inc
  pub branches : v.branches ≡ set_place u.num (record b { ended = Some how }) t.branches

pub tree_ended : (u : Uid) (b : Branch) (how : End) (t : Tree) → branch_of u t ≡ Some b → HasEnded u b how t (ended_at u how t)
tree_ended u b how t is = subst (λ o. HasEnded u b how t (ended_branch u how t o)) (sym is) (by (nat_le (length (uids_of b.path)) 1))
  where
    now : Tree
    now = record t { branches = set_place u.num (record b { ended = Some how }) t.branches }

    by : (c : Bool) → HasEnded u b how t (if c then now else with_family (root_of b.path) (let f = family_of (root_of b.path) now in
        record f { ends = f.ends ++ (u, how) ∷ [] }) now)
    by true = record { node = refl; inc = refl; branches = refl }
    by false = record { node = refl; inc = refl; branches = refl }

module _ (u : Uid) (b : Branch) (how : End) (t v : Tree) (found : branch_of u t ≡ Some b) (ended : HasEnded u b how t v) where
  pub own_same : (w : Uid) → is_own w v ≡ is_own w t
  own_same w = λ i. (w.node == ended.node i) && (w.inc == ended.inc i)

  found_at : (w : Uid) (o : Option Branch) → branch_of w t ≡ o → (c : Branch) → branch_of w t ≡ Some c →
      (is_own w t ≡ true) × (at_place w.num t.branches ≡ Some c)
  found_at w o e c is = by (is_own w t) refl is
    where
      by : (x : Bool) → is_own w t ≡ x → (if x then at_place w.num t.branches else None) ≡ Some c →
          (is_own w t ≡ true) × (at_place w.num t.branches ≡ Some c)
      by true f h = (f, h)
      by false f h = absurd (cc h)

  pub ended_here : branch_of u v ≡ Some (record b { ended = Some how })
  ended_here =
      let p = found_at u (Some b) found b found in
      ap (λ x. if x then at_place u.num v.branches else None) (own_same u ∙ p.0) ∙ ap (λ bs. at_place u.num bs) ended.branches
      ∙ place_same u.num (record b { ended = Some how }) b t.branches p.1

  pub ended_other : (w : Uid) → w ≢ u → branch_of w v ≡ branch_of w t
  ended_other w other = ap (λ x. if x then at_place w.num v.branches else None) (own_same w) ∙ by (is_own w t) refl
    where
      same_number : is_own w t ≡ true → w.num ≡ u.num → w ≡ u
      same_number own same =
          let p = branch_own u found in
          λ i. record {
            node = (eqb-true w.node t.node (and_parts (w.node == t.node) (w.inc == t.inc) own).0 ∙ sym (eqb-true u.node t.node p.0)) i;
            inc = (eqb-true w.inc t.inc (and_parts (w.node == t.node) (w.inc == t.inc) own).1 ∙ sym (eqb-true u.inc t.inc p.1)) i;
            num = same i;
          }
        where
          branch_own : (u : Uid) → branch_of u t ≡ Some b → ((u.node == t.node) ≡ true) × ((u.inc == t.inc) ≡ true)
          branch_own u is = and_parts (u.node == t.node) (u.inc == t.inc) (found_at u (Some b) is b is).0

      by : (x : Bool) → is_own w t ≡ x → (if x then at_place w.num v.branches else None) ≡ (if x then at_place w.num t.branches else None)
      by true own = ap (λ bs. at_place w.num bs) ended.branches
          ∙ place_other u.num w.num (record b { ended = Some how }) t.branches (λ same. other (same_number own same))
      by false own = refl

  pub ended_long : length v.branches ≡ length t.branches
  ended_long = ap (λ bs. length bs) ended.branches ∙ place_long u.num (record b { ended = Some how }) t.branches

-- ---- the coordinator

pub ended_coord : (x k inc : ℕ) (tops : Kinds) (c C : Coord) (S V : State) (u : Uid) (b : Branch) (how : End) → SeesCoord x k inc tops c S →
    branch_of u c.tree ≡ Some b → HasEnded u b how c.tree C.tree
    → ((w : Uid) → w ≢ u → doing_of w C ≡ doing_of w c) → ((w : Uid) → w ≢ u → V.stage (uid_number w) ≡ S.stage (uid_number w)) →
    V.begun ≡ S.begun → V.plan ≡ S.plan → V.got ≡ S.got → is_gone (V.stage (uid_number u)) ≡ true
    → ((w : Uid) → w ≢ u → V.bare (uid_number w) ≡ S.bare (uid_number w)) →
    (V.bare (uid_number u) ≡ true → (q : Doing) → doing_of u C ≡ Some q → (how ≡ ending.Commit) × (order.has q.took naming ≡ true))
    → SeesCoord x k inc tops C V
ended_coord x k inc tops c C S V u b how s found ended doings stages begun plan got gone bares last = record {
  node = ended.node ∙ s.node;
  present = ended.inc ∙ s.present;
  working = λ w z q there open_yet does. by_working w z q (uid_cases w u) there open_yet does;
  closed = λ w at is began. ⊎_elim
      (λ (same : w ≡ u). ap (λ a. is_gone (V.stage (uid_number a))) same ∙ gone)
      (λ (other : w ≢ u). ap is_gone (stages w other) ∙ s.closed w at (sym (ap is_open_branch
      (ended_other u b how c.tree C.tree found ended w other)) ∙ is) (ap (λ f. f (uid_number w)) (sym begun) ∙ began))
      (uid_cases w u);
  future = λ w at later.
      let was : IsFuture c w = earlier w later in
      stages w (λ same. not_found (subst (λ a. IsFuture c a) same was)) ∙ s.future w at was;
  bare = λ w z q there does is. by_bare w z q (uid_cases w u) there does is;
}
  where
    by_bare : (w : Uid) (z : Branch) (q : Doing) → (w ≡ u) ⊎ (w ≢ u) → branch_of w C.tree ≡ Some z → doing_of w C ≡ Some q →
        V.bare (uid_number w) ≡ true → IsNamedCommit z q
    by_bare w z q (inl same) there does is =
        let it : record b { ended = Some how }
        ≡ z = some_is (ended_here u b how c.tree C.tree found ended) (ap (λ a. branch_of a C.tree) (sym same) ∙ there) in
        let r = last (ap (λ a. V.bare (uid_number a)) (sym same) ∙ is) q (ap (λ a. doing_of a C) (sym same) ∙ does) in
        record { committed = ap (λ (y : Branch). y.ended) (sym it) ∙ (λ i. Some (r.0 i)); named = r.1 }
    by_bare w z q (inr other) there does is = s.bare w z q (sym (ended_other u b how c.tree C.tree found ended w other) ∙ there)
        (sym (doings w other) ∙ does) (sym (bares w other) ∙ is)

    earlier : (w : Uid) → IsFuture C w → IsFuture c w
    earlier w (inl p) = inl (p.0 ∙ ended.inc, subst (λ n. n < w.num) (ended_long u b how c.tree C.tree found ended) p.1)
    earlier w (inr p) = inr (subst (λ n. n < w.inc) ended.inc p)

    not_found : IsFuture c u → ⊥
    not_found later = not_future u c b found later

    by_working : (w : Uid) (z : Branch) (q : Doing) → (w ≡ u) ⊎ (w ≢ u) → branch_of w C.tree ≡ Some z → z.ended ≡ None →
        doing_of w C ≡ Some q → Works x tops V (uid_number w) z.kind q.now
    by_working w z q (inl same) there open_yet does =
        let e : ◌≡◌ {A = Option Branch} (Some (record b { ended = Some how })) (Some z) = sym (ended_here u b how c.tree C.tree found ended)
        ∙ ap (λ a. branch_of a C.tree) (sym same) ∙ there in
        let it : record b { ended = Some how } ≡ z = cc e in
        let never_open : ◌≡◌ {A = Option End} (Some how) None = ap (λ (r : Branch). r.ended) it ∙ open_yet in
        absurd (cc never_open)
    by_working w z q (inr other) there open_yet does =
        works_same x tops S V (uid_number w) z.kind q.now (stages w other) (ap (λ f. f (uid_number w)) begun)
        (ap (λ f. f (uid_number w)) plan) (ap (λ f. f (uid_number w)) got)
        (s.working w z q (sym (ended_other u b how c.tree C.tree found ended w other) ∙ there) open_yet (sym (doings w other) ∙ does))

-- what it has taken note of, where another action than the ended one changes nothing
pub ended_noted : (x : ℕ) (intents : List (Uid × Intent)) (c C : Coord) (W : World) (u : Uid) (b : Branch) (how : End) →
    SeesNotes x intents c W → branch_of u c.tree ≡ Some b → HasEnded u b how c.tree C.tree
    → ((w : Uid) → w ≢ u → at_uid w C.telling ≡ at_uid w c.telling) → ((w : Uid) → w ≢ u → doing_of w C ≡ doing_of w c) →
    ((i : Intent) → at_uid u intents ≡ Some i → IsSettled u i C.telling W)
    → ((q : Doing) → doing_of u C ≡ Some q → ((n : ℕ) → order.has q.took n ≡ true →
    (disk.decided W.disk (uid_number u) ≡ true) ⊎ (W.disk.bare (uid_number u) ≡ true)) × KnowsNow x W q.now)
    → AllByRecursion (λ (r : ℕ × Root). KnowsRoot x W r.1) C.roots → SeesNotes x intents C W
ended_noted x intents c C W u b how s found ended tellings doings mine own roots = record {
  settled = λ w i there. ⊎_elim
      (λ (same : w ≡ u). inr (subst (λ a. IsSettled a i C.telling W) (sym same) (mine i (ap (λ a. at_uid a intents) (sym same) ∙ there))))
      (λ (other : w ≢ u). ⊎_elim
      (λ o. inl (ap is_open_branch (ended_other u b how c.tree C.tree found ended w other) ∙ o))
      (λ (h : IsSettled w i c.telling W). inr (record {
        done = h.done;
        awaited = λ m on. ⊎_elim (λ a. inl (ap (is_awaited_by m) (tellings w other) ∙ a)) (λ a. inr a) (h.awaited m on);
      }))
      (s.settled w i there))
      (uid_cases w u);
  taken = λ w q n does on. ⊎_elim
      (λ (same : w ≡ u). subst (λ a. (disk.decided W.disk (uid_number a) ≡ true) ⊎ (W.disk.bare (uid_number a) ≡ true)) (sym same)
      ((own q (ap (λ a. doing_of a C) (sym same) ∙ does)).0 n on))
      (λ (other : w ≢ u). s.taken w q n (sym (doings w other) ∙ does) on)
      (uid_cases w u);
  roots = roots;
  plans = λ w q does. ⊎_elim (λ (same : w ≡ u). (own q (ap (λ a. doing_of a C) (sym same) ∙ does)).1)
      (λ (other : w ≢ u). s.plans w q (sym (doings w other) ∙ does)) (uid_cases w u);
}

-- ---- effects that open nothing

-- The stage of one action may change, and the records of its node; the node's coordinator becomes another one.
pub calm_seen : (x k : ℕ) (tops : Kinds) (W : World) (M : Seen) (d : Disk) (t : Parts) (u : Uid) (eff : machine.Effect) (intents : List
    (Uid × Intent)) (c : Coord) → SeesDisks x tops W (up k d t M) → u.node ≡ k → Allowed W eff → is_only_of (may_note tops.walk) eff ≡ true
    → IsCalm W (after W eff) → (after W eff).disk.got ≡ W.disk.got →
    ((w : Uid) → w ≢ u → (after W eff).disk.stage (uid_number w) ≡ W.disk.stage (uid_number w))
    → ((w : Uid) → w ≢ u → (after W eff).disk.bare (uid_number w) ≡ W.disk.bare (uid_number w)) → SeesRecords k intents (after W eff).disk
    → ((m : ℕ) (n : Node) → (m == k) ≡ false → SeesRecords m n.disk.intents W.disk → SeesRecords m n.disk.intents (after W eff).disk)
    → SeesCoord x k d.inc tops c (after W eff).disk → SeesNotes x intents c (after W eff) →
    SeesDisks x tops (after W eff) (up k (record d { intents = intents }) (with_coord t c) M)
calm_seen x k tops W M d t u eff intents c s here allowed only calm got stages bares records others coord noted = record {
  whole = effect_keeps W eff allowed s.whole;
  along = along_goes tops.walk W (eff ∷ []) (allowed, tt) (only, tt) s.along;
  fixed = fixed_later tops W (after W eff) later s.fixed;
  kinds = λ z b. let r = s.kinds z (ap (λ f. f z) (sym begun) ∙ b) in (r.0, ap (λ (S : State). S.serial z) calm.rest ∙ r.1);
  stores = to (λ m n. SeesStore x m n.disk.store W.disk) (λ m n. SeesStore x m n.disk.store V.disk) s.stores
      (λ h. stores_stay_calm x k d.store W V calm h) (λ m n e h. stores_stay_calm x m n.disk.store W V calm h);
  entry = λ n is. to (λ m n. m ≡ 1 → SeesEntry x n.disk.names W.disk) (λ m n. m ≡ 1 →
      SeesEntry x n.disk.names V.disk) (λ m n there one. s.entry n (ap (λ j. (up k d t M).nodes j) (sym one) ∙ there))
      (λ h one. entry_stays_calm x d.names W V calm (h one)) (λ m n e h one. entry_stays_calm x n.disk.names W V calm (h one)) 1 n is refl;
  records = to (λ m n. SeesRecords m n.disk.intents W.disk) (λ m n. SeesRecords m n.disk.intents V.disk) s.records (λ h. records) others;
  coords = λ m n p is live. to (λ m n. (p : Parts) → n.live ≡ Some p → SeesCoord x m n.disk.inc tops p.coord W.disk) (λ m n. (p : Parts) →
      n.live ≡ Some p → SeesCoord x m n.disk.inc tops p.coord V.disk) (λ m n there p live. s.coords m n p there live)
      (λ h p live. let same : with_coord t c ≡ p = cc live in subst (λ (q : Parts). SeesCoord x k d.inc tops q.coord V.disk) same coord)
      (λ m n e h p live. coord_stays m n.disk.inc p e (h p live)) m n is p live;
  notes = λ m n p is live. to (λ m n. (p : Parts) → n.live ≡ Some p → SeesNotes x n.disk.intents p.coord W) (λ m n. (p : Parts) →
      n.live ≡ Some p → SeesNotes x n.disk.intents p.coord (after W eff)) (λ m n there p live. s.notes m n p there live)
      (λ h p live. let same : with_coord t c ≡ p = cc live in subst (λ (q : Parts). SeesNotes x intents q.coord (after W eff)) same noted)
      (λ m n e h p live. notes_later x W (after W eff) later n.disk.intents p.coord (h p live)) m n is p live;
  downs = to (λ m n. n.live ≡ None → SeesDown m n.disk.inc W.disk) (λ m n. n.live ≡ None → SeesDown m n.disk.inc V.disk)
      (λ m n there live. s.downs m n there live) (λ h live. absurd (cc live)) (λ m n e h live. down_stays m n.disk.inc e (h live));
  confirmed = λ n p o is live named. to (λ m n. m ≡ 1 → (p : Parts) (o : Naming) → n.live ≡ Some p → p.naming ≡ Some o →
      SeesConfirmed o W.disk) (λ m n. m ≡ 1 → (p : Parts) (o : Naming) → n.live ≡ Some p → p.naming ≡ Some o → SeesConfirmed o V.disk)
      (λ m n there one p o live named. s.confirmed n p o (ap (λ j. (up k d t M).nodes j) (sym one) ∙ there) live named)
      (λ h one p o live named. let same : with_coord t c ≡ p = cc live in confirmed_stays o (h one t o refl (ap (λ (q : Parts). q.naming)
      same ∙ named))) (λ m n e h one p o live named. confirmed_stays o (h one p o live named)) 1 n is refl p o live named;
  posts = λ p i. claim_here x tops W V M.lines p s.whole (effects_are_later W (eff ∷ []) (allowed, tt) s.whole) (s.posts p i);
}
  where
    V : World
    V = after W eff

    later : IsLater W (after W eff)
    later = effects_are_later W (eff ∷ []) (allowed, tt) s.whole

    begun : (after W eff).disk.begun ≡ W.disk.begun
    begun = ap (λ (S : State). S.begun) calm.rest

    to : (Q R : ℕ → Node → Type 0) → ((m : ℕ) (n : Node) → (up k d t M).nodes m ≡ Some n → Q m n) →
        (Q k (record { number = k; disk = d; live = Some t }) →
        R k (record { number = k; disk = record d { intents = intents }; live = Some (with_coord t c) })) →
        ((m : ℕ) (n : Node) → (m == k) ≡ false → Q m n → R m n)
        → (m : ℕ) (n : Node) → (up k (record d { intents = intents }) (with_coord t c) M).nodes m ≡ Some n → R m n
    to Q R each own rest = nodes_to M k (record { number = k; disk = d; live = Some t })
        (record { number = k; disk = record d { intents = intents }; live = Some (with_coord t c) }) Q R each own rest

    apart : (m : ℕ) (w : Uid) → (m == k) ≡ false → w.node ≡ m → w ≢ u
    apart m w e at same = never (ap (λ n. n == k) (sym at ∙ ap (λ (z : Uid). z.node) same ∙ here) ∙ test_same k) e

    coord_stays : (m inc : ℕ) (p : Parts) → (m == k) ≡ false → SeesCoord x m inc tops p.coord W.disk →
        SeesCoord x m inc tops p.coord (after W eff).disk
    coord_stays m inc p e h = record {
      node = h.node;
      present = h.present;
      working = λ w z q there open_yet does. works_same x tops W.disk (after W eff).disk (uid_number w) z.kind q.now
          (stages w (apart m w e ((branch_at w p.coord z there).0 ∙ h.node))) (ap (λ f. f (uid_number w)) begun)
          (ap (λ (S : State). S.plan (uid_number w)) calm.rest) (ap (λ f. f (uid_number w)) got) (h.working w z q there open_yet does);
      closed =
          λ w at ended began. ap is_gone (stages w (apart m w e at)) ∙ h.closed w at ended (ap (λ f. f (uid_number w)) (sym begun) ∙ began);
      future = λ w at later. stages w (apart m w e at) ∙ h.future w at later;
      bare = λ w z q there does is. h.bare w z q there does (sym (bares w (apart m w e ((branch_at w p.coord z there).0 ∙ h.node))) ∙ is);
    }

    down_stays : (m inc : ℕ) → (m == k) ≡ false → SeesDown m inc W.disk → SeesDown m inc (after W eff).disk
    down_stays m inc e h = record {
      closed = λ w at began. ap is_gone (stages w (apart m w e at)) ∙ h.closed w at (ap (λ f. f (uid_number w)) (sym begun) ∙ began);
      future = λ w at later. stages w (apart m w e at) ∙ h.future w at later;
    }

    confirmed_stays : (o : Naming) → SeesConfirmed o W.disk → SeesConfirmed o (after W eff).disk
    confirmed_stays o h a on = let r = h a on in (
      ap (λ f. f (uid_number a)) begun ∙ r.0,
      λ v. ⊎_elim (λ z. inl (ap (λ (S : State). S.conf (uid_number a)) calm.rest ∙ z))
          (λ z. inr (ap (λ (S : State). S.light (uid_number a)) calm.rest ∙ z)) (r.1 (calm.outcomes (uid_number a) r.0 v)),
    )
