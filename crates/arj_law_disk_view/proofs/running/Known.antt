-- What the disk half of the view takes of the protocol alone, from good nodes and the rest.
use Rattle.arj_law_parts.proofs.Words
use Words.{if◌then◌else◌, ◌≡◌, ◌≢◌, ◌⊎◌, ◌<◌, ◌≤◌, ℕ, ◌==◌, ◌&&◌, zero, suc, List, [], ◌∷◌, Bool, true, false, Option, Some, None, refl}
use Words.{sym, ◌∙◌, ap}
use Words.{subst, inl, inr, ⊎_elim, slice_get, length, arith, filter, map, not, is_some, take, AllByRecursion, list_any}
use Words.{and_parts, In, in_to, which, uid_cases, uid_is, uid_same, before_last, Uid, End, Kind, ObjectState, Path, Row, first_uid}
use Words.{is_held_by, is_on, last_uid, uid_eq, uids_of, actor, top_of, Steps, Doing, Calling, Committing, doing_of, plan_for, root_at}
use Words.{Disk, Intent, Named, Naming, loses, loses_row, Parts, at_uid, uid_number, Branch, at_place, behind, branch_of}
use Words.{is_open, is_open_branch, is_own, root_of, Seen, is_constituent}
use Words.ending
use Words.kind
use Words.message
use Words.commit
use Rattle.arj_law_disk_view.proofs.Terms
use Terms.{Action, act_of, action_of, paths_of, on_own, IsBusy, IsGoodCoord, IsVoting, IsGoodOf, IsUp, good_coord, it, never, or_cases}
use Terms.{some_is, test_is, up, AreOrphansOf, HasBegunHere, KnowsNode, IsOfKind, IsOpenSerial, KnowsCoord, KnowsMachine, KnowsPlan, Kinds}
use Terms.{IsFuture, Agrees, is_top_kind, AreEntryRows, AreNamesRows, ArePlaced, IsBegun, IsEntryRow, IsPlacedUp, AreRecorded, AreSound}
use Terms.{IsSound, IsSoundNow}
use Terms.seen
use Rattle.arj_law_disk_view.proofs.running
use running.{Begun.Stood, Begun.root_on, Begun.stood, Holders.constituent as with_serial, PlaceWalks.holders_begun, PlaceWalks.since_here}
use running.{PlaceWalks.up_here}
use running.{SoundCoords.root_own, SoundCoords.said_from, SoundPlans.one_change, SoundPlans.plan_tidy}
use Rattle.arj_law_disk_view.proofs.view.Frames.{node_here}
use Rattle.arj_law_disk_view.specs.{running.Records.IsRecorded, running.Sound.unvoted, view.Knows.KnowsSteps}
use Rattle.arj_law_runs.proofs.kept.Handled.{records_of_disk}
use Rattle.arj_law_disk_view.proofs.view.Keys as keys

-- a list that is as long has something at the place too
pub at_both : {A B : Type 0} (n : ℕ) (xs : List A) (ys : List B) (a : A) → length ys ≡ length xs → at_place n xs ≡ Some a →
    (b : B) × (at_place n ys ≡ Some b)
at_both zero xs ys a long is = absurd (cc is)
at_both {A} {B} (suc n) xs ys a long is = by n xs ys long is
  where
    by : (n : ℕ) (xs : List A) (ys : List B) → length ys ≡ length xs → slice_get xs n ≡ Some a → (b : B) × (slice_get ys n ≡ Some b)
    by n [] ys long is = absurd (cc is)
    by n (x ∷ xs) [] long is = absurd (cc long)
    by zero (x ∷ xs) (y ∷ ys) long is = (y, refl)
    by (suc n) (x ∷ xs) (y ∷ ys) long is = by n xs ys (let e : length ys ≡ length xs = cc long in e) is

-- what is found in a map stands in it
at_in : {X : Type 0} (u : Uid) (x : X) (m : List (Uid × X)) → at_uid u m ≡ Some x → In (u, x) m
at_in u x [] is = absurd (cc is)
at_in {X} u x (e ∷ es) is = ⊎_elim
    (λ (same : u ≡ e.0). let it : e.1 ≡ x = some_is (keys.at_here e.0 e.1 es) (ap (λ w. at_uid w (e ∷ es)) (sym same) ∙ is) in
    inl (λ i. (sym same i, it i)))
    (λ (other : u ≢ e.0). inr (at_in u x es (sym (keys.at_there u e.0 e.1 es other) ∙ is)))
    (uid_cases u e.0)

-- each of what is told again has its record
all_told : (intents telling : List (Uid × Intent)) → ((u : Uid) (j : Intent) → at_uid u telling ≡ Some j → (i : Intent)
    × (at_uid u intents ≡ Some i)) → AllByRecursion (λ (e : Uid × Intent). (i : Intent) × (at_uid e.0 intents ≡ Some i)) telling
all_told intents [] held = tt
all_told intents (e ∷ es) held = (
  held e.0 e.1 (keys.at_here e.0 e.1 es),
  all_told intents es (λ u j is. ⊎_elim (λ (same : u ≡ e.0). held u e.1 (ap (λ w. at_uid w (e ∷ es)) same ∙ keys.at_here e.0 e.1 es))
      (λ (other : u ≢ e.0). held u j (keys.at_there u e.0 e.1 es other ∙ is)) (uid_cases u e.0)),
)

unended : (o : Option End) → is_some o ≡ false → o ≡ None
unended None h = refl
unended (Some how) h = absurd (cc h)

module _ (tops : Kinds) (acts : List Action) (k : ℕ) (d : Disk) (t : Parts) (M : Seen) (good : IsGoodOf acts (up k d t M))
    (agree : Agrees tops acts) (recs : AreRecorded acts (up k d t M)) (placed : ArePlaced acts (up k d t M)) where
  mine : IsUp acts M.sent M.labels k d.inc t
  mine = it 0 k d t M (acts, good)

  coord : IsGoodCoord acts (paths_of acts) t.coord
  coord = good_coord 0 k d t M (acts, good)

  placed_up : IsPlacedUp acts k t
  placed_up = up_here acts good.begun k d t M placed

  sound : AreSound t.coord
  sound = placed_up.coord

  path : (u : Uid) (b : Branch) → branch_of u t.coord.tree ≡ Some b → actor b.path ≡ u
  path u b is = coord.tree.lists.places u b is

  of_kind : (u : Uid) (b : Branch) → branch_of u t.coord.tree ≡ Some b → IsOfKind tops u b.kind b.path
  of_kind u b is = subst (λ w. IsOfKind tops w b.kind b.path) (path u b is) (agree.each (action_of b) (coord.known u b is)).0

  root : (u : Uid) (b : Branch) → branch_of u t.coord.tree ≡ Some b → tops.is_top (uid_number u) ≡ true →
      tops.root (uid_number u) ≡ uid_number (root_of b.path)
  root u b is = subst (λ w. tops.is_top (uid_number w) ≡ true →
      tops.root (uid_number w) ≡ uid_number (root_of b.path)) (path u b is) (agree.each (action_of b) (coord.known u b is)).1

  -- where the action stands
  stands : (u : Uid) (b : Branch) → branch_of u t.coord.tree ≡ Some b → Stood acts (action_of b) b.kind
  stands u b is = stood acts good.begun (action_of b) (coord.known u b is)

  -- ---- constituents

  below : (u : Uid) (b : Branch) → branch_of u t.coord.tree ≡ Some b → b.kind ≡ kind.Constituent → uids_of b.path ≡ root_of b.path ∷ u ∷ []
  below u b is kd = (subst (λ k. IsOfKind tops u k b.path) kd (of_kind u b is)).2

  constituent : (kd : Kind) → is_constituent kd ≡ true → kd ≡ kind.Constituent
  constituent kind.Constituent h = refl
  constituent kind.Nested h = absurd (cc h)
  constituent kind.Serial h = absurd (cc h)
  constituent kind.Top h = absurd (cc h)
  constituent kind.Independent h = absurd (cc h)

  before : (u : Uid) (b : Branch) → branch_of u t.coord.tree ≡ Some b → b.kind ≡ kind.Constituent →
      before_last (paths_of acts u) ≡ Some (root_of b.path)
  before u b is kd = ap before_last (sym (coord.tree.lists.paths_are u b is) ∙ below u b is kd)

  stem : (u : Uid) (b : Branch) → branch_of u t.coord.tree ≡ Some b → is_constituent b.kind ≡ true →
      (r : Branch) × (branch_of (root_of b.path) t.coord.tree ≡ Some r)
  stem u b is of = coord.tree.lists.parents u (root_of b.path) b is (before u b is (constituent b.kind of))

  above : (u : Uid) (b : Branch) → branch_of u t.coord.tree ≡ Some b → b.ended ≡ None → is_constituent b.kind ≡ true →
      IsOpenSerial t.coord (root_of b.path)
  above u b is open_yet of =
      let kd = constituent b.kind of in
      let r = stem u b is of in
      let s = subst (λ k. Stood acts (action_of b) k) kd (stands u b is) in
      let same : act_of s.0 ≡ root_of b.path = sym (ap first_uid s.3) in
      let serial = (subst (λ k. IsOfKind tops (act_of s.0) k (let a = s.0 in a.path)) s.2 (agree.each s.0 s.1).0).1 in
      record {
        branch = r.0;
        found = r.1;
        unended = not_over r.0 r.1 (is_some (let z = r.0 in z.ended)) refl (before u b is kd);
        serial = is_serial_one (let z = r.0 in z.kind) (let z = r.0 in
            z.path) (of_kind (root_of b.path) r.0 r.1) (ap (λ w. tops.is_serial (uid_number w)) (sym same) ∙ serial);
      }
    where
      is_serial_one : (kd : Kind) (p : Path) → IsOfKind tops (root_of b.path) kd p → tops.is_serial (uid_number (root_of b.path)) ≡ true →
          kd ≡ kind.Serial
      is_serial_one kind.Serial p f on = refl
      is_serial_one kind.Nested p f on = absurd (never on f.1)
      is_serial_one kind.Constituent p f on = absurd (never on f.1)
      is_serial_one kind.Top p f on = absurd (never on f.1)
      is_serial_one kind.Independent p f on = absurd (never on f.1)

      not_over : (r : Branch) → branch_of (root_of b.path) t.coord.tree ≡ Some r → (c : Bool) → is_some r.ended ≡ c →
          before_last (paths_of acts u) ≡ Some (root_of b.path) → r.ended ≡ None
      not_over r found false off parent = unended r.ended off
      not_over r found true on parent =
          absurd (never (coord.tree.closed u (root_of b.path) b r is parent found on) (ap (λ (o : Option End). is_some o) open_yet))

  -- ---- work

  own_place : (u : Uid) (b : Branch) → branch_of u t.coord.tree ≡ Some b →
      (is_own u t.coord.tree ≡ true) × (at_place u.num t.coord.tree.branches ≡ Some b)
  own_place u b is = by (is_own u t.coord.tree) refl is
    where
      by : (c : Bool) → is_own u t.coord.tree ≡ c → (if c then at_place u.num t.coord.tree.branches else None) ≡ Some b →
          (is_own u t.coord.tree ≡ true) × (at_place u.num t.coord.tree.branches ≡ Some b)
      by true own h = (own, h)
      by false own h = absurd (cc h)

  at_work : (u : Uid) (b : Branch) → branch_of u t.coord.tree ≡ Some b → (q : Doing) × (doing_of u t.coord ≡ Some q)
  at_work u b is =
      let p = own_place u b is in
      let r = at_both u.num t.coord.tree.branches t.coord.doings b mine.faithful.works p.1 in
      (r.0, ap (λ c. if c then at_place u.num t.coord.doings else None) p.0 ∙ r.1)

  -- an open action has no record
  unrecorded : (u : Uid) → is_open u t.coord.tree ≡ true → at_uid u d.intents ≡ None
  unrecorded u o = by (at_uid u d.intents) refl
    where
      opened : (g : Option Branch) → branch_of u t.coord.tree ≡ g → is_open_branch g ≡ true →
          (b : Branch) × (branch_of u t.coord.tree ≡ Some b) × (not (is_some b.ended) ≡ true)
      opened None is h = absurd (cc h)
      opened (Some b) is h = (b, is, h)

      by : (i : Option Intent) → at_uid u d.intents ≡ i → at_uid u d.intents ≡ None
      by None is = is
      by (Some i) is =
          let b = opened (branch_of u t.coord.tree) refl o in
          let r = records_of_disk 0 k d t M (acts, good) u i (in_to (u, i) d.intents (at_in u i d.intents is)) (own_place u b.0 b.1).0 in
          let same : r.0 ≡ b.0 = some_is r.1 b.1 in
          absurd (ended (ap (λ (z : Branch). z.ended) (sym same) ∙ r.2) b.2)
        where
          ended : {e : Option End} → e ≡ Some ending.Commit → not (is_some e) ≡ true → ⊥
          ended is h = never h (ap (λ e. not (is_some e)) is)

  -- a top is the top of its path
  top_path_is : (u : Uid) (b : Branch) → branch_of u t.coord.tree ≡ Some b → is_top_kind b.kind ≡ true → top_of b.path ≡ u
  top_path_is u b is top = by b.kind top (stands u b is) ∙ path u b is
    where
      by : (kd : Kind) → is_top_kind kd ≡ true → Stood acts (action_of b) kd → top_of b.path ≡ actor b.path
      by kind.Nested h s = absurd (cc h)
      by kind.Serial h s = absurd (cc h)
      by kind.Constituent h s = λ i. last_uid (take (s.4 i) (s.3 i))
      by kind.Top h s = λ i. last_uid (take (s.1 i) (s.0 i))
      by kind.Independent h s = λ i. last_uid (take (s.1 i) (s.0 i))

  -- an action that commits is a top
  top_kind : (kd : Kind) → kd ≢ kind.Nested → kd ≢ kind.Serial → is_top_kind kd ≡ true
  top_kind kind.Nested a b = absurd (a refl)
  top_kind kind.Serial a b = absurd (b refl)
  top_kind kind.Top a b = refl
  top_kind kind.Constituent a b = refl
  top_kind kind.Independent a b = refl

  is_top : (u : Uid) (kd : Kind) (p : Path) → is_top_kind kd ≡ true → IsOfKind tops u kd p → tops.is_top (uid_number u) ≡ true
  is_top u kind.Nested p h f = absurd (cc h)
  is_top u kind.Serial p h f = absurd (cc h)
  is_top u kind.Top p h f = f.0
  is_top u kind.Constituent p h f = f.0
  is_top u kind.Independent p h f = f.0

  kind_of_top : (u : Uid) (kd : Kind) (p : Path) → tops.is_top (uid_number u) ≡ true → IsOfKind tops u kd p → is_top_kind kd ≡ true
  kind_of_top u kind.Nested p on f = absurd (never on f.0)
  kind_of_top u kind.Serial p on f = absurd (never on f.0)
  kind_of_top u kind.Top p on f = refl
  kind_of_top u kind.Constituent p on f = refl
  kind_of_top u kind.Independent p on f = refl

  machines : (u : Uid) (q : Doing) (m : commit.Machine) → doing_of u t.coord ≡ Some q → q.now ≡ Committing m → KnowsMachine tops t.coord u m
  machines u q m does is =
      let v : IsVoting t.coord.tree u (commit.plan_of m) = subst (λ n. IsBusy t.coord.tree u n) is (coord.busy u q does) in
      let a = v.asking in
      let s : IsSound m = subst IsSoundNow is (sound.works u q does) in
      let top = top_kind a.branch.kind (v.top a.branch a.found) a.unserial in
      record {
        branch = a.branch;
        found = a.found;
        unended = unended a.branch.ended a.opened;
        path = a.path;
        objects = λ st i. let w = s.changed.used st i in w.own;
        top = is_top u a.branch.kind a.branch.path top (of_kind u a.branch a.found);
        changes = one_change (commit.plan_of m) (unvoted m) s.changed;
        plan = record {
          actor_is = ap actor (sym a.path) ∙ path u a.branch a.found;
          top_is = ap top_of (sym a.path) ∙ top_path_is u a.branch a.found top;
          tidy = s.tidy;
        };
        way = s.way;
        used = s.used;
        more = s.more;
        uses = s.uses;
      }

  starts : (u : Uid) (b : Branch) (req : ℕ) → branch_of u t.coord.tree ≡ Some b → tops.is_top (uid_number u) ≡ true →
      KnowsPlan u (plan_for b.path req (root_at (root_of b.path) t.coord) t.coord)
  starts u b req is top = record {
    actor_is = path u b is;
    top_is = top_path_is u b is (kind_of_top u b.kind b.path top (of_kind u b is));
    tidy = plan_tidy b.path req (root_at (root_of b.path) t.coord) t.coord (root_of b.path).num (root_own (root_of b.path) t.coord sound);
  }

  steps : (u : Uid) (q : Doing) (s : Steps) → doing_of u t.coord ≡ Some q → q.now ≡ Calling s → KnowsSteps t.coord u s
  steps u q s does is =
      let a = subst (λ n. IsBusy t.coord.tree u n) is (coord.busy u q does) in
      record {
        branch = a.branch;
        found = a.found;
        unended = unended a.branch.ended a.opened;
        actor_is = ap actor (sym a.path) ∙ path u a.branch a.found;
      }

  -- ---- records

  mine_recorded : IsRecorded acts (record { number = k; disk = d; live = Some t })
  mine_recorded = recs k (record { number = k; disk = d; live = Some t }) (node_here M k (record { number = k; disk = d; live = Some t }))

  awaited : (u : Uid) (j : Intent) → at_uid u t.coord.telling ≡ Some j → (i : Intent) × (at_uid u d.intents ≡ Some i)
  awaited = let h = (mine_recorded.live t refl).0 in h.told

  rooted : (u : Uid) (i : Intent) → at_uid u d.intents ≡ Some i → tops.is_top (uid_number u) ≡ true →
      tops.root (uid_number u) ≡ uid_number i.root
  rooted u i is top = let r = (let q = mine_recorded.disk in q.each u i is) in ap (λ w. tops.root (uid_number w)) (sym r.2)
      ∙ (agree.each r.0 r.1).1 (ap (λ w. tops.is_top (uid_number w)) r.2 ∙ top) ∙ ap uid_number r.3

  knows_coord : KnowsCoord tops d.intents t.coord
  knows_coord = record {
    path = path;
    kind = of_kind;
    root = root;
    headed = λ u b is. root_on b.path;
    stem = stem;
    at_work = at_work;
    unrecorded = unrecorded;
    awaited = awaited;
    rooted = rooted;
    machines = machines;
    starts = starts;
    above = above;
    steps = steps;
    alone = sound.alone;
    as_long = mine.faithful.works;
    telling_there = all_told d.intents t.coord.telling (awaited);
    said = said_from t.coord sound;
    includes = λ u q m does is v i full.
        let a = sound.includes u q m does is v i full in
        let j = a.joined in
        record {
          joined = j.0;
          there = in_to j.0 (root_at (root_of (commit.plan_of m).path) t.coord).joined j.1;
          object = j.3;
          on = ap (λ us. is_on us (actor (commit.plan_of m).path)) j.2 ∙ a.on;
          lives = λ w on there. a.lives w (ap (λ us. is_on (behind (actor (commit.plan_of m).path) us) w) (sym j.2) ∙ on) there;
        };
  }

  -- ---- who is asked about

  asked : (from : ℕ) (act : Uid) → seen.In (record { from = from; to = k; message = message.Query (record { act = act }) }) M.sent →
      HasBegunHere k t.coord act
  asked from act sent = record {
    here = sym q.0;
    past = past counted;
    there = λ own. let f = coord.home b.0 act b.1 on own in (f.0, ap (λ w. branch_of w t.coord.tree) (sym b.2) ∙ f.1);
  }
    where
      q : (k ≡ act.node) × IsBegun acts act
      q = placed.asks (record { from = from; to = k; message = message.Query (record { act = act }) }) sent

      b : IsBegun acts act
      b = q.1

      on : is_on (uids_of b.0.path) act ≡ true
      on = subst (λ w. is_on (uids_of b.0.path) w ≡ true) b.2 (on_own b.0.path)

      counted : (act.inc < d.inc) ⊎ ((act.inc ≡ d.inc) × (act.num ≤ length t.coord.tree.branches))
      counted = mine.counted b.0 act b.1 on (sym q.0)

      past : (act.inc < d.inc) ⊎ ((act.inc ≡ d.inc) × (act.num ≤ length t.coord.tree.branches)) → IsFuture t.coord act → ⊥
      past (inl early) (inl f) = omega (arith, early, f.0, mine.inc)
      past (inl early) (inr f) = omega (arith, early, f, mine.inc)
      past (inr its) (inl f) = omega (arith, its.1, f.1)
      past (inr its) (inr f) = omega (arith, its.0, f, mine.inc)

  -- ---- who loses its rows by the end of another action

  on_one : (w u : Uid) → is_on (w ∷ []) u ≡ true → w ≡ u
  on_one w u on = ⊎_elim (λ same. uid_is w u same) (λ none. absurd (cc none)) (or_cases (uid_eq w u) false on)

  orphans_of : (n : Naming) → t.naming ≡ Some n → (u : Uid) → AreOrphansOf tops u d n
  orphans_of n is u = each (map (λ (p : Uid × List ObjectState). p.0) d.names.pend)
    where
      IsIts : Uid → Type 0
      IsIts a = (tops.root (uid_number a) ≡ uid_number u) × (tops.is_top (uid_number u) ≡ false) × (tops.is_serial (uid_number u) ≡ true)

      lost : (a : Uid) → uid_eq a u ≡ false → (r : Row) → IsEntryRow acts r → loses u a r ≡ true → IsIts a
      lost a other r (inl f) l =
          let p = and_parts (is_held_by a r) (is_on r.holder u) l in
          let held : f.0 ≡ a = sym (ap last_uid f.2) ∙ uid_is (last_uid r.holder) a p.0 in
          let on : f.0 ≡ u = on_one f.0 u (ap (λ us. is_on us u) (sym f.2) ∙ p.1) in
          absurd (never (ap (λ w. uid_eq w u) (sym held) ∙ ap (λ w. uid_eq w u) on ∙ uid_same u) other)
      lost a other r (inr f) l =
          let p = and_parts (is_held_by a r) (is_on r.holder u) l in
          let s = with_serial acts good.begun f.0 f.1 f.2 in
          let path : r.holder ≡ act_of s.0 ∷ act_of f.0 ∷ [] = f.3 ∙ s.3 in
          let held : act_of f.0 ≡ a = sym (ap last_uid path) ∙ uid_is (last_uid r.holder) a p.0 in
          let of = (subst (λ k. IsOfKind tops (act_of s.0) k (let b = s.0 in b.path)) s.2 (agree.each s.0 s.1).0) in
          let top = (subst (λ k. IsOfKind tops (act_of f.0) k (let b = f.0 in b.path)) f.2 (agree.each f.0 f.1).0).0 in
          ⊎_elim (λ first. let on = uid_is (act_of s.0) u first in (
            ap (λ w. tops.root (uid_number w)) (sym held) ∙ (agree.each f.0 f.1).1 top ∙ ap uid_number (ap first_uid s.3 ∙ on),
            ap (λ w. tops.is_top (uid_number w)) (sym on) ∙ of.0,
            ap (λ w. tops.is_serial (uid_number w)) (sym on) ∙ of.1,
          ))
          (λ second. absurd (never (ap (λ w. uid_eq w u) (sym held ∙ on_one (act_of f.0) u second) ∙ uid_same u) other))
          (or_cases (uid_eq (act_of s.0) u) (is_on (act_of f.0 ∷ []) u) (ap (λ us. is_on us u) (sym path) ∙ p.1))

      found : (a : Uid) → uid_eq a u ≡ false → (objects : List (ℕ × Named)) → AreEntryRows acts objects →
          list_any (λ (e : ℕ × Named). list_any (loses u a) e.1.rows) objects ≡ true → IsIts a
      found a other [] all on = absurd (cc on)
      found a other (e ∷ es) all on = ⊎_elim (λ here. let w = which (loses u a) (let o = e.1 in o.rows) here in
          lost a other w.0 (all.0 w.0 (in_to w.0 (let o = e.1 in o.rows) w.1)) w.2) (found a other es all.1)
          (or_cases (list_any (loses u a) (let o = e.1 in o.rows)) (list_any (λ (z : ℕ × Named). list_any (loses u a) z.1.rows) es) on)

      each : (us : List Uid) → AllByRecursion IsIts (filter (λ act. not (uid_eq act u) && loses_row u act n) us)
      each [] = tt
      each (a ∷ us) = by (uid_eq a u) (loses_row u a n) refl refl (each us)
        where
          by : (b c : Bool) → uid_eq a u ≡ b → loses_row u a n ≡ c →
              AllByRecursion IsIts (filter (λ act. not (uid_eq act u) && loses_row u act n) us) → AllByRecursion IsIts (if not b && c then a
              ∷ filter (λ act. not (uid_eq act u) && loses_row u act n) us else filter (λ act. not (uid_eq act u) && loses_row u act n) us)
          by true c same l rest = rest
          by false false other l rest = rest
          by false true other l rest = (found a other n.objects (subst (AreNamesRows acts) is placed_up.entries) l, rest)

  named : is_some t.naming ≡ (k == 1)
  named = placed_up.naming

  pub knows_node : KnowsNode tops k d t M
  knows_node = record {
    kinds = agree.kinds;
    coord = knows_coord;
    begun = holders_begun acts good.begun k d t M placed;
    asked = asked;
    elsewhere = λ none. sym named ∙ ap (λ (o : Option Naming). is_some o) none;
    naming_here = λ n is. (test_is k 1 (sym named ∙ ap (λ (o : Option Naming). is_some o) is), orphans_of n is);
    since = since_here acts good.begun k d t M placed;
  }
