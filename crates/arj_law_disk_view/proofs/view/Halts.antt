-- A node that stops: its open actions are let go.
use Rattle.arj_law_parts.proofs.Words
use Words.{◌≡◌, ◌⊎◌, ◌<◌, ℕ, zero, suc, ◌==◌, List, [], ◌∷◌, ◌++◌, Bool, true, false, Option, Some, None, refl, sym, ◌∙◌, ap, subst, inl}
use Words.{inr, ⊎_elim, arith, map, length, slice_get, zero-lt-suc, suc-le-suc, lt_irrefl, if◌then◌else◌, and_parts, eqb-true, Uid, Body}
use Words.{numbered, Coord, Disk, Naming, Parts, uid_number, Node, numbers_to, Branch, branch_of, is_open, is_open_branch, is_own, at_place}
use Words.{number_tells, Post, Seen}
use Words.body
use Rattle.arj_law_disk_view.proofs.Terms
use Terms.{World, Effect, Whole, run, after, State, Gone, is_gone, put, test_same, test_not, put_same, put_other, put_cases, bool_cases}
use Terms.{never, effect_keeps, at, up, down, said, halted, SeesRecords, SeesEntry, SeesStore, IsAlong, Kinds, Claims, IsFixed, SeesDisks}
use Terms.{SeesCoord, SeesNotes, SeesDown, SeesConfirmed, IsSeenByDisks}
use Terms.machine as Effects
use Terms.seen
use Rattle.arj_law_disk_view.proofs.view
use view.{Along.along_goes, Later.effects_are_later, Notes.notes_later}
use view.DecidingSteps.{halt_calm, actions_may_halt, stores_stay_calm, entry_stays_calm}
use view.Frames.{nodes_to, node_here, works_same, says_seen, claim_here}
use Rattle.std.proofs.Common.{not-suc-le-zero}

-- ---- what is tied but coordinators

record SeesRest (x : ℕ) (tops : Kinds) (W : World) (M : Seen) : Type 0 where
  whole : Whole W
  along : IsAlong tops.walk W
  fixed : IsFixed tops W.disk
  kinds : (t : ℕ) → W.disk.begun t ≡ true → (tops.is_top t ≡ true) × (W.disk.serial t ≡ false)
  stores : (s : ℕ) (n : Node) → M.nodes s ≡ Some n → SeesStore x s n.disk.store W.disk
  entry : (n : Node) → M.nodes 1 ≡ Some n → SeesEntry x n.disk.names W.disk
  records : (k : ℕ) (n : Node) → M.nodes k ≡ Some n → SeesRecords k n.disk.intents W.disk
  confirmed : (n : Node) (t : Parts) (o : Naming) → M.nodes 1 ≡ Some n → n.live ≡ Some t → t.naming ≡ Some o → SeesConfirmed o W.disk
  notes : (k : ℕ) (n : Node) (t : Parts) → M.nodes k ≡ Some n → n.live ≡ Some t → SeesNotes x n.disk.intents t.coord W
  posts : (p : Post) → seen.In p M.sent → Claims x tops W M.lines p

halt_rest : (x : ℕ) (tops : Kinds) (W : World) (M : Seen) (t : ℕ) → SeesRest x tops W M → SeesRest x tops (after W (Effects.Halt t)) M
halt_rest x tops W M t s = record {
  whole = effect_keeps W (Effects.Halt t) tt s.whole;
  along = along_goes tops.walk W (Effects.Halt t ∷ []) (tt, tt) (refl, tt) s.along;
  fixed = record { root = s.fixed.root; serial = s.fixed.serial };
  notes = λ k n p there live. notes_later x W (after W (Effects.Halt t)) (effects_are_later W (Effects.Halt t ∷ []) (tt, tt) s.whole)
      n.disk.intents p.coord (s.notes k n p there live);
  kinds = s.kinds;
  stores = λ m n is. stores_stay_calm x m n.disk.store W (after W (Effects.Halt t)) (halt_calm W t) (s.stores m n is);
  entry = λ n is. entry_stays_calm x n.disk.names W (after W (Effects.Halt t)) (halt_calm W t) (s.entry n is);
  records = λ k n is. (actions_may_halt k W t n.disk.intents (s.records k n is)).1;
  confirmed = λ n p o is live named a on. let c = s.confirmed n p o is live named a on in
      (c.0, λ u. c.1 ((halt_calm W t).outcomes (uid_number a) c.0 u));
  posts = λ p i. claim_here x tops W (after W (Effects.Halt t)) M.lines p s.whole
      (effects_are_later W (Effects.Halt t ∷ []) (tt, tt) s.whole) (s.posts p i);
}

-- ---- some actions are let go

abbrev pub Halted : List ℕ → World → World
Halted ts W = run W (map {A = ℕ} {B = Effect} Effects.Halt ts)

halts_rest : (x : ℕ) (tops : Kinds) (W : World) (M : Seen) (ts : List ℕ) → SeesRest x tops W M → SeesRest x tops (Halted ts W) M
halts_rest x tops W M [] s = s
halts_rest x tops W M (t ∷ ts) s = halts_rest x tops (after W (Effects.Halt t)) M ts (halt_rest x tops W M t s)

-- the number stands in the list
abbrev pub Among : ℕ → List ℕ → Type 0
Among t [] = ⊥
Among t (z ∷ zs) = (z ≡ t) ⊎ Among t zs

gone_stays : (W : World) (ts : List ℕ) (t : ℕ) → is_gone (W.disk.stage t) ≡ true → is_gone ((Halted ts W).disk.stage t) ≡ true
gone_stays W [] t h = h
gone_stays W (z ∷ zs) t h =
    gone_stays (after W (Effects.Halt z)) zs t (put_cases (λ g. is_gone g ≡ true) z Gone W.disk.stage t (λ e. refl) (λ e. h))

pub halted_gone : (W : World) (ts : List ℕ) (t : ℕ) → Among t ts → is_gone ((Halted ts W).disk.stage t) ≡ true
halted_gone W [] t a = absurd a
halted_gone W (z ∷ zs) t (inl same) =
    gone_stays (after W (Effects.Halt z)) zs t (ap is_gone (ap (λ k. put z Gone W.disk.stage k) (sym same) ∙ put_same z Gone W.disk.stage))
halted_gone W (z ∷ zs) t (inr more) = halted_gone (after W (Effects.Halt z)) zs t more

stage_stays : (W : World) (ts : List ℕ) (t : ℕ) → (Among t ts → ⊥) → (Halted ts W).disk.stage t ≡ W.disk.stage t
stage_stays W [] t none = refl
stage_stays W (z ∷ zs) t none = stage_stays (after W (Effects.Halt z)) zs t (λ a. none (inr a))
    ∙ put_other z Gone W.disk.stage t (test_not t z (λ e. none (inl (sym e))))

pub rest_same : (W : World) (ts : List ℕ) → (Halted ts W).disk ≡ record W.disk { stage = (Halted ts W).disk.stage }
rest_same W [] = refl
rest_same W (z ∷ zs) = rest_same (after W (Effects.Halt z)) zs

-- ---- the actions of a coordinator

abbrev pub own_number : Coord → ℕ → ℕ
own_number c j = uid_number (record { node = c.tree.node; inc = c.tree.inc; num = j })

abbrev pub owns : Coord → List ℕ
owns c = map {A = ℕ} {B = ℕ} (own_number c) (numbers_to (length c.tree.branches))

among_both : (t : ℕ) (as_left bs : List ℕ) → Among t as_left ⊎ Among t bs → Among t (as_left ++ bs)
among_both t [] bs (inl a) = absurd a
among_both t [] bs (inr b) = b
among_both t (a ∷ more) bs (inl (inl same)) = inl same
among_both t (a ∷ more) bs (inl (inr rest)) = inr (among_both t more bs (inl rest))
among_both t (a ∷ more) bs (inr b) = inr (among_both t more bs (inr b))

pub among_map : (f : ℕ → ℕ) (j : ℕ) (js : List ℕ) → Among j js → Among (f j) (map {A = ℕ} {B = ℕ} f js)
among_map f j [] a = absurd a
among_map f j (i ∷ is) (inl same) = inl (ap f same)
among_map f j (i ∷ is) (inr more) = inr (among_map f j is more)

among_from : (f : ℕ → ℕ) (t : ℕ) (js : List ℕ) → Among t (map {A = ℕ} {B = ℕ} f js) → (j : ℕ) × (f j ≡ t)
among_from f t [] a = absurd a
among_from f t (i ∷ is) (inl same) = (i, same)
among_from f t (i ∷ is) (inr more) = among_from f t is more

number_there : {A : Type 0} (xs : List A) (j : ℕ) (a : A) → at_place j xs ≡ Some a → Among j (numbers_to (length xs))
number_there xs zero a is = absurd (cc is)
number_there {A} xs (suc j) a is = up_to (length xs) (below xs j a is)
  where
    below : (xs : List A) (j : ℕ) (a : A) → slice_get xs j ≡ Some a → j < length xs
    below [] j a is = absurd (cc is)
    below (y ∷ ys) zero a is = zero-lt-suc (length ys)
    below (y ∷ ys) (suc j) a is = suc-le-suc (below ys j a is)

    up_to : (n : ℕ) → j < n → Among (suc j) (numbers_to n)
    up_to zero less = absurd (not-suc-le-zero less)
    up_to (suc n) less = among_both (suc j) (numbers_to n) (suc n ∷ [])
        (⊎_elim (λ same. inr (inl (ap suc (sym same)))) (λ lower. inl (up_to n lower)) (last_or j n less))
      where
        last_or : (j n : ℕ) → j < suc n → (j ≡ n) ⊎ (j < n)
        last_or j n less = grind arith

-- an open action is one of these
open_owned : (c : Coord) (u : Uid) → is_open u c.tree ≡ true → Among (uid_number u) (owns c)
open_owned c u is = by (is_own u c.tree) refl is
  where
    by : (b : Bool) → is_own u c.tree ≡ b → is_open_branch (if b then at_place u.num c.tree.branches else None) ≡ true →
        Among (uid_number u) (owns c)
    by false e h = absurd (cc h)
    by true e h =
        let p = and_parts (u.node == c.tree.node) (u.inc == c.tree.inc) e in
        let same : u ≡ record { node = c.tree.node; inc = c.tree.inc; num = u.num } = λ i.
        record { node = eqb-true u.node c.tree.node p.0 i; inc = eqb-true u.inc c.tree.inc p.1 i; num = u.num } in
        subst (λ k. Among k (owns c)) (sym (ap uid_number same)) (there (at_place u.num c.tree.branches) refl h)
      where
        there : (o : Option Branch) → at_place u.num c.tree.branches ≡ o → is_open_branch o ≡ true → Among (own_number c u.num) (owns c)
        there None f h = absurd (cc h)
        there (Some b) f h = among_map (own_number c) u.num (numbers_to (length c.tree.branches)) (number_there c.tree.branches u.num b f)

-- and these are of its node and incarnation
owned_by : (c : Coord) (u : Uid) → Among (uid_number u) (owns c) → (u.node ≡ c.tree.node) × (u.inc ≡ c.tree.inc)
owned_by c u a =
    let f = among_from (own_number c) (uid_number u) (numbers_to (length c.tree.branches)) a in
    let same : record { node = c.tree.node; inc = c.tree.inc; num = f.0 }
    ≡ u = number_tells (record { node = c.tree.node; inc = c.tree.inc; num = f.0 }) u f.1 in
    (ap (λ (w : Uid). w.node) (sym same), ap (λ (w : Uid). w.inc) (sym same))

-- ---- a node that stops

module _ (x k : ℕ) (tops : Kinds) (W : World) (M : Seen) (d : Disk) (t : Parts) (sees : SeesDisks x tops W (up k d t M)) where
  mine : SeesCoord x k d.inc tops t.coord W.disk
  mine =
      sees.coords k (record { number = k; disk = d; live = Some t }) t (node_here M k (record { number = k; disk = d; live = Some t })) refl

  abbrev V : World
  V = Halted (owns t.coord) W

  rest_before : SeesRest x tops W (up k d t M)
  rest_before = record {
    whole = sees.whole;
    along = sees.along;
    fixed = sees.fixed;
    notes = sees.notes;
    kinds = sees.kinds;
    stores = sees.stores;
    entry = sees.entry;
    records = sees.records;
    confirmed = sees.confirmed;
    posts = sees.posts;
  }

  rest_after : SeesRest x tops V (up k d t M)
  rest_after = halts_rest x tops W (up k d t M) (owns t.coord) rest_before

  begun_same : V.disk.begun ≡ W.disk.begun
  begun_same = ap (λ (S : State). S.begun) (rest_same W (owns t.coord))

  -- another node's actions are as they were
  others_stay : (u : Uid) → (u.node == k) ≡ false → V.disk.stage (uid_number u) ≡ W.disk.stage (uid_number u)
  others_stay u other =
      stage_stays W (owns t.coord) (uid_number u) (λ a. never (ap (λ n. n == k) ((owned_by t.coord u a).0 ∙ mine.node) ∙ test_same k) other)

  stopped : SeesDown k d.inc V.disk
  stopped = record {
    closed = λ u here began. by u here began (bool_cases (is_open u t.coord.tree));
    future = λ u here later. stage_stays W (owns t.coord) (uid_number u) (λ a. later_not u later ((owned_by t.coord u a).1 ∙ mine.present))
        ∙ mine.future u here (inr (subst (λ n. n < u.inc) (sym mine.present) later));
  }
    where
      later_not : (u : Uid) → d.inc < u.inc → u.inc ≡ d.inc → ⊥
      later_not u less same = lt_irrefl d.inc (subst (λ n. d.inc < n) same less)

      by : (u : Uid) → u.node ≡ k → V.disk.begun (uid_number u) ≡ true →
          (is_open u t.coord.tree ≡ true) ⊎ (is_open u t.coord.tree ≡ false) → is_gone (V.disk.stage (uid_number u)) ≡ true
      by u here began (inl is) = halted_gone W (owns t.coord) (uid_number u) (open_owned t.coord u is)
      by u here began (inr ended) =
          gone_stays W (owns t.coord) (uid_number u) (mine.closed u here ended (ap (λ f. f (uid_number u)) (sym begun_same) ∙ began))

  nodes_stop : (Q R : ℕ → Node → Type 0) → ((m : ℕ) (n : Node) → (up k d t M).nodes m ≡ Some n → Q m n) →
      (Q k (record { number = k; disk = d; live = Some t }) → R k (record { number = k; disk = d; live = None })) →
      ((m : ℕ) (n : Node) → (m == k) ≡ false → Q m n → R m n)
      → (m : ℕ) (n : Node) → (down k d M).nodes m ≡ Some n → R m n
  nodes_stop Q R each here others =
      nodes_to M k (record { number = k; disk = d; live = Some t }) (record { number = k; disk = d; live = None }) Q R each here others

  abbrev ConfirmedAt : ℕ → Node → Type 0
  ConfirmedAt m n = m ≡ 1 → (p : Parts) (o : Naming) → n.live ≡ Some p → p.naming ≡ Some o → SeesConfirmed o V.disk

  other_node : (m : ℕ) (u : Uid) → (m == k) ≡ false → u.node ≡ m → (u.node == k) ≡ false
  other_node m u e is = ap (λ n. n == k) is ∙ e

  coord_stays : (m inc : ℕ) (p : Parts) → (m == k) ≡ false → SeesCoord x m inc tops p.coord W.disk → SeesCoord x m inc tops p.coord V.disk
  coord_stays m inc p other s = record {
    node = s.node;
    present = s.present;
    working = λ u b q there open_yet doing. works_same x tops W.disk V.disk (uid_number u) b.kind q.now
        (others_stay u (other_node m u other (own_node u (branch_of u p.coord.tree) refl b there))) (ap (λ f. f (uid_number u)) begun_same)
        (ap (λ (S : State). S.plan (uid_number u)) (rest_same W (owns t.coord)))
        (ap (λ (S : State). S.got (uid_number u)) (rest_same W (owns t.coord))) (s.working u b q there open_yet doing);
    closed = λ u here ended began. ap is_gone (others_stay u (other_node m u other here))
        ∙ s.closed u here ended (ap (λ f. f (uid_number u)) (sym begun_same) ∙ began);
    future = λ u here later. others_stay u (other_node m u other here) ∙ s.future u here later;
    bare = λ u b q there doing is.
        s.bare u b q there doing (ap (λ (S : State). S.bare (uid_number u)) (sym (rest_same W (owns t.coord))) ∙ is);
  }
    where
      own_node : (u : Uid) (o : Option Branch) → branch_of u p.coord.tree ≡ o → (b : Branch) → branch_of u p.coord.tree ≡ Some b →
          u.node ≡ m
      own_node u o e b there = by (is_own u p.coord.tree) refl there
        where
          by : (c : Bool) → is_own u p.coord.tree ≡ c → (if c then at_place u.num p.coord.tree.branches else None) ≡ Some b → u.node ≡ m
          by true f h = eqb-true u.node p.coord.tree.node (and_parts (u.node == p.coord.tree.node) (u.inc == p.coord.tree.inc) f).0 ∙ s.node
          by false f h = absurd (cc h)

  down_stays : (m inc : ℕ) → (m == k) ≡ false → SeesDown m inc W.disk → SeesDown m inc V.disk
  down_stays m inc other s = record {
    closed = λ u here began. ap is_gone (others_stay u (other_node m u other here))
        ∙ s.closed u here (ap (λ f. f (uid_number u)) (sym begun_same) ∙ began);
    future = λ u here later. others_stay u (other_node m u other here) ∙ s.future u here later;
  }

  pub stop_seen : SeesDisks x tops V (down k d M)
  stop_seen = record {
    whole = rest_after.whole;
    along = rest_after.along;
    fixed = rest_after.fixed;
    notes = λ m n p is live. nodes_stop (λ m n. (p : Parts) → n.live ≡ Some p → SeesNotes x n.disk.intents p.coord V) (λ m n. (p : Parts) →
        n.live ≡ Some p → SeesNotes x n.disk.intents p.coord V) (λ m n there p live. rest_after.notes m n p there live)
        (λ s p live. absurd (cc live)) (λ m n other s. s) m n is p live;
    kinds = rest_after.kinds;
    stores = nodes_stop (λ m n. SeesStore x m n.disk.store V.disk) (λ m n. SeesStore x m n.disk.store V.disk) rest_after.stores (λ s. s)
        (λ m n other s. s);
    entry = λ n is. nodes_stop (λ m n. m ≡ 1 → SeesEntry x n.disk.names V.disk) (λ m n. m ≡ 1 → SeesEntry x n.disk.names V.disk)
        (λ m n there one. rest_after.entry n (ap (λ j. (up k d t M).nodes j) (sym one) ∙ there)) (λ s. s) (λ m n other s. s) 1 n is refl;
    records = nodes_stop (λ m n. SeesRecords m n.disk.intents V.disk) (λ m n. SeesRecords m n.disk.intents V.disk) rest_after.records
        (λ s. s) (λ m n other s. s);
    coords = λ m n p is live. nodes_stop (λ m n. (p : Parts) → n.live ≡ Some p →
        SeesCoord x m n.disk.inc tops p.coord W.disk) (λ m n. (p : Parts) → n.live ≡ Some p → SeesCoord x m n.disk.inc tops p.coord V.disk)
        (λ m n there p live. sees.coords m n p there live) (λ s p live. absurd (cc live))
        (λ m n other s p live. coord_stays m n.disk.inc p other (s p live)) m n is p live;
    downs = nodes_stop (λ m n. n.live ≡ None → SeesDown m n.disk.inc W.disk) (λ m n. n.live ≡ None → SeesDown m n.disk.inc V.disk)
        (λ m n there live. sees.downs m n there live) (λ s live. stopped) (λ m n other s live. down_stays m n.disk.inc other (s live));
    confirmed = λ n p o is live named. nodes_stop ConfirmedAt ConfirmedAt
        (λ m n there one p o live named. rest_after.confirmed n p o (ap (λ j. (up k d t M).nodes j) (sym one) ∙ there) live named)
        (λ s one p o live named. absurd (cc live)) (λ m n other s. s) 1 n is refl p o live named;
    posts = rest_after.posts;
  }

-- ---- the relation under a stop, and under lines

pub stops_seen : (x : ℕ) (tops : Kinds) (e k : ℕ) (d : Disk) (live : Option Parts) (M : Seen) → IsSeenByDisks x tops (at k d live M) →
    IsSeenByDisks x tops (halted e k d M)
stops_seen x tops e k d None M (W, s) = (W, says_seen x tops W (down k d M) (numbered e (body.Halted k ∷ [])) s)
stops_seen x tops e k d (Some t) M (W, s) = (
  Halted (owns t.coord) W,
  says_seen x tops (Halted (owns t.coord) W) (down k d M) (numbered e (body.Halted k ∷ [])) (stop_seen x k tops W M d t s),
)

-- and nobody is newly decided
pub stops_open : (x : ℕ) (tops : Kinds) (e k : ℕ) (d : Disk) (live : Option Parts) (M : Seen) (W : World) →
    SeesDisks x tops W (at k d live M) → (V : World) × (V.disk.tops ≡ W.disk.tops) × SeesDisks x tops V (halted e k d M)
stops_open x tops e k d None M W s = (W, refl, says_seen x tops W (down k d M) (numbered e (body.Halted k ∷ [])) s)
stops_open x tops e k d (Some t) M W s = (
  Halted (owns t.coord) W,
  ap (λ (S : State). S.tops) (rest_same W (owns t.coord)),
  says_seen x tops (Halted (owns t.coord) W) (down k d M) (numbered e (body.Halted k ∷ [])) (stop_seen x k tops W M d t s),
)

pub lines_seen : (x : ℕ) (tops : Kinds) (e : ℕ) (bs : List Body) (M : Seen) → IsSeenByDisks x tops M → IsSeenByDisks x tops (said e bs M)
lines_seen x tops e bs M (W, s) = (W, says_seen x tops W M (numbered e bs) s)
