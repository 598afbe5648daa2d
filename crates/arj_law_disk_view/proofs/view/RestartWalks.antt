-- A node that restarts, walked through.
use Rattle.arj_law_parts.proofs.Words
use Words.{◌≡◌, ◌≢◌, ◌⊎◌, ◌<◌, ℕ, zero, suc, ◌+◌, ◌==◌, ◌&&◌, ◌||◌, List, [], ◌∷◌, ◌++◌, Bool, true, false, Option, Some, None, refl, sym}
use Words.{◌∙◌, ap, subst, inl, inr, ⊎_elim, map, lt_trans, arith, append-nil, ⊤, if◌then◌else◌, is_some, Less, Equal, AllByRecursion}
use Words.{append_assoc, uid_cases, uid_other, Uid, Row, Header, uid_order, is_on, last_uid, recovered_naming, back_lines, Doing, new_coord}
use Words.{doing_of, Disk, Effect, Say, Send, Do, Look, PutInc, Intent, Before, After, InPart, tell, tell_all, Named, Naming, Parts}
use Words.{query_about, prepared_actions, at_uid, uid_number, uid_set, without_number, AreAll, Node, parts_in, naming_at, naming_back}
use Words.{recovered_records, restart_outs, tolds_again, hello_to, numbers_to, Branch, branch_of, is_own, at_place, numbered, all_both}
use Words.{all_flat, Post, Seen}
use Words.body
use Words.ending
use Words.message
use Rattle.arj_law_disk_view.proofs.Terms
use Terms.{World, Allowed, after, State, is_gone, is_sealed, never, put_same, put_other, test_same, bool_cases, effect_keeps, up, down}
use Terms.{said, posted, Walks, Stops, Up, halted, SeesRecords, Stills, nodes_of, AreAbove, AreSorted, SeesEntry, SeesStore, may_note}
use Terms.{Kinds, IsLater, SeesDisks, SeesCoord, SeesNotes, SeesDown, SeesConfirmed, IsSeenByDisks, is_awaited_by, Decides}
use Terms.machine
use Terms.disk
use Rattle.arj_law_disk_view.proofs.view
use view.{Along.along_goes, Halts.stops_open, Halts.stops_seen, HeardWalks.is_say, Notes.fixed_later, Notes.notes_later}
use view.DecidingSteps.{decision_is_made, stores_stay_calm, entry_stays_calm}
use view.Frames.{nodes_to, node_here, works_same, claim_here, says_seen, posts_seen}
use view.Later.{effects_are_later, later_same, later_on}
use view.ServedWalks.{HaveBegun, begun_on}
use view.TickWalks.{Next, tolds_walk_again}
use view.TopFrames.{apart_number, branch_at}
use Rattle.arj_law_disk_view.specs.view.Coordinating.{RestartsAreWalked}
use Rattle.arj_law_disk_view.proofs.view.Keys as keys

-- ---- a top is decided whose node is down

module _ (x k : ℕ) (tops : Kinds) (W : World) (M : Seen) (d : Disk) (u : Uid) (i : Intent) (s : SeesDisks x tops W (down k d M))
    (there : at_uid u d.intents ≡ Some i) (open_yet : disk.decided W.disk (uid_number u) ≡ false)
    (noted : may_note tops.walk (Decides (uid_number u)) ≡ true) where
  abbrev V : World
  V = after W (machine.Decide (uid_number u))

  records : SeesRecords k d.intents W.disk
  records = s.records k (record { number = k; disk = d; live = None }) (node_here M k (record { number = k; disk = d; live = None }))

  downs : SeesDown k d.inc W.disk
  downs = s.downs k (record { number = k; disk = d; live = None }) (node_here M k (record { number = k; disk = d; live = None })) refl

  here : u.node ≡ k
  here = records.own u i there

  made : Allowed W (machine.Decide (uid_number u)) × Stills W (machine.Decide (uid_number u))
      × SeesRecords k d.intents (after W (machine.Decide (uid_number u))).disk
  made = decision_is_made k W u i d.intents records there open_yet

  later : IsLater W V
  later = effects_are_later W (machine.Decide (uid_number u) ∷ []) (made.0, tt) s.whole

  stages : (w : Uid) → w ≢ u → V.disk.stage (uid_number w) ≡ W.disk.stage (uid_number w)
  stages w other = put_other (uid_number u) disk.Gone W.disk.stage (uid_number w) (apart_number u w other)

  apart : (m : ℕ) (w : Uid) → (m == k) ≡ false → w.node ≡ m → w ≢ u
  apart m w e at same = never (ap (λ n. n == k) (sym at ∙ ap (λ (z : Uid). z.node) same ∙ here) ∙ test_same k) e

  -- it was in its commit
  sealed : is_sealed (W.disk.stage (uid_number u)) ≡ true
  sealed = s.whole.core.coordinators.record_sealed (uid_number u) (ap is_some (records.is u here ∙ ap nodes_of there))

  down_now : SeesDown k d.inc V.disk
  down_now = record {
    closed = λ w at began. ⊎_elim (λ same. ap (λ a. is_gone (V.disk.stage (uid_number a))) same ∙ ap is_gone
        (put_same (uid_number u) disk.Gone W.disk.stage)) (λ other. ap is_gone (stages w other) ∙ downs.closed w at began) (uid_cases w u);
    future = λ w at above. stages w (λ same. never sealed
        (ap (λ a. is_sealed (W.disk.stage (uid_number a))) (sym same) ∙ ap is_sealed (downs.future w at above))) ∙ downs.future w at above;
  }

  -- a node is this one, which is down, or another one
  to : (Q R : ℕ → Node → Type 0) → ((m : ℕ) (n : Node) → (down k d M).nodes m ≡ Some n → Q m n) →
      (Q k (record { number = k; disk = d; live = None }) → R k (record { number = k; disk = d; live = None })) →
      ((m : ℕ) (n : Node) → (m == k) ≡ false → Q m n → R m n)
      → (m : ℕ) (n : Node) → (down k d M).nodes m ≡ Some n → R m n
  to Q R each own rest =
      nodes_to M k (record { number = k; disk = d; live = None }) (record { number = k; disk = d; live = None }) Q R each own rest

  coord_stays : (m inc : ℕ) (p : Parts) → (m == k) ≡ false → SeesCoord x m inc tops p.coord W.disk → SeesCoord x m inc tops p.coord V.disk
  coord_stays m inc p e h = record {
    node = h.node;
    present = h.present;
    working = λ w z q found unended does. works_same x tops W.disk V.disk (uid_number w) z.kind q.now
        (stages w (apart m w e ((branch_at w p.coord z found).0 ∙ h.node))) refl refl refl (h.working w z q found unended does);
    closed = λ w at ended began. ap is_gone (stages w (apart m w e at)) ∙ h.closed w at ended began;
    future = λ w at above. stages w (apart m w e at) ∙ h.future w at above;
    bare = h.bare;
  }

  down_stays : (m inc : ℕ) → (m == k) ≡ false → SeesDown m inc W.disk → SeesDown m inc V.disk
  down_stays m inc e h = record {
    closed = λ w at began. ap is_gone (stages w (apart m w e at)) ∙ h.closed w at began;
    future = λ w at above. stages w (apart m w e at) ∙ h.future w at above;
  }

  pub decided_down : SeesDisks x tops V (down k d M)
  decided_down = record {
    whole = effect_keeps W (machine.Decide (uid_number u)) made.0 s.whole;
    along = along_goes tops.walk W (machine.Decide (uid_number u) ∷ []) (made.0, tt) (noted, tt) s.along;
    fixed = fixed_later tops W V later s.fixed;
    kinds = s.kinds;
    stores = λ m n is. stores_stay_calm x m n.disk.store W V made.1 (s.stores m n is);
    entry = λ n is. entry_stays_calm x n.disk.names W V made.1 (s.entry n is);
    records = λ m n is. let r = s.records m n is in record { sorted = r.sorted; own = r.own; is = r.is };
    coords = λ m n p is live. to (λ m n. (p : Parts) → n.live ≡ Some p → SeesCoord x m n.disk.inc tops p.coord W.disk) (λ m n. (p : Parts) →
        n.live ≡ Some p → SeesCoord x m n.disk.inc tops p.coord V.disk) (λ m n found p live. s.coords m n p found live)
        (λ h p live. absurd (cc live)) (λ m n e h p live. coord_stays m n.disk.inc p e (h p live)) m n is p live;
    notes = λ m n p is live. notes_later x W V later n.disk.intents p.coord (s.notes m n p is live);
    downs = to (λ m n. n.live ≡ None → SeesDown m n.disk.inc W.disk) (λ m n. n.live ≡ None → SeesDown m n.disk.inc V.disk)
        (λ m n found live. s.downs m n found live) (λ h live. down_now) (λ m n e h live. down_stays m n.disk.inc e (h live));
    confirmed = λ n p o is live named a on. let c = s.confirmed n p o is live named a on in
        (c.0, λ v. c.1 (made.1.outcomes (uid_number a) c.0 v));
    posts = λ p j. claim_here x tops W V M.lines p s.whole later (s.posts p j);
  }

-- ---- all of them

record AllDecided (x k : ℕ) (tops : Kinds) (M : Seen) (d : Disk) (W : World) (is : List (Uid × Intent)) : Type 0 where
  world : World
  seen : SeesDisks x tops world (down k d M)
  later : IsLater W world
  done : AllByRecursion (λ (z : Uid × Intent). disk.decided world.disk (uid_number z.0) ≡ true) is

decide_all : (x k : ℕ) (tops : Kinds) (M : Seen) (d : Disk) (is : List (Uid × Intent)) → ((u : Uid) (i : Intent) → at_uid u d.intents ≡ Some
    i → may_note tops.walk (Decides (uid_number u)) ≡ true) → AllByRecursion (λ (z : Uid × Intent). at_uid z.0 d.intents ≡ Some z.1) is →
    (W : World) → SeesDisks x tops W (down k d M) → AllDecided x k tops M d W is
decide_all x k tops M d [] noted there W s = record { world = W; seen = s; later = later_same W; done = tt }
decide_all x k tops M d (z ∷ zs) noted there W s =
    by (bool_cases (disk.decided W.disk (uid_number z.0))) (λ U h. decide_all x k tops M d zs noted there.1 U h)
  where
    by : (disk.decided W.disk (uid_number z.0) ≡ true) ⊎ (disk.decided W.disk (uid_number z.0) ≡ false) →
        ((U : World) → SeesDisks x tops U (down k d M) → AllDecided x k tops M d U zs) → AllDecided x k tops M d W (z ∷ zs)
    by (inl done) ih = let r = ih W s in
        record { world = r.world; seen = r.seen; later = r.later; done = (r.later.decided (uid_number z.0) done, r.done) }
    by (inr open_yet) ih =
        let r = ih (after W (machine.Decide (uid_number z.0)))
        (decided_down x k tops W M d z.0 z.1 s there.0 open_yet (noted z.0 z.1 there.0)) in
        record {
          world = r.world;
          seen = r.seen;
          later = later_on W (after W (machine.Decide (uid_number z.0))) r.world
              (later x k tops W M d z.0 z.1 s there.0 open_yet (noted z.0 z.1 there.0)) r.later;
          done =
              (r.later.decided (uid_number z.0) (ap (λ b. b || disk.decided W.disk (uid_number z.0)) (test_same (uid_number z.0))), r.done);
        }

-- ---- maps by Uid

module _ {X : Type 0} where
  lifted : (e : Uid × X) (es zs : List (Uid × X)) → AreAbove e.0 zs → AllByRecursion (λ (z : Uid × X). at_uid z.0 es ≡ Some z.1) zs →
      AllByRecursion (λ (z : Uid × X). at_uid z.0 (e ∷ es) ≡ Some z.1) zs
  lifted e es [] above all = tt
  lifted e es (z ∷ zs) above all = (
    keys.at_there z.0 e.0 e.1 es (λ same. apart (sym (ap (λ a. uid_order e.0 a) same ∙ keys.order_itself e.0) ∙ above.0)) ∙ all.0,
    lifted e es zs above.1 all.1,
  )
    where
      apart : Equal ≡ Less → ⊥
      apart is = cc is

  -- each of a sorted list is found
  sorted_found : (m : List (Uid × X)) → AreSorted m → AllByRecursion (λ (z : Uid × X). at_uid z.0 m ≡ Some z.1) m
  sorted_found [] sorted = tt
  sorted_found (e ∷ es) sorted = (keys.at_here e.0 e.1 es, lifted e es es sorted.0 (sorted_found es sorted.1))

  -- a key finds something
  key_found : (a : Uid) (m : List (Uid × X)) → is_on (map {A = Uid × X} {B = Uid} (λ p. p.0) m) a ≡ true → (v : X) × (at_uid a m ≡ Some v)
  key_found a [] on = absurd (cc on)
  key_found a (e ∷ es) on = ⊎_elim
      (λ (same : a ≡ e.0). (e.1, ap (λ w. at_uid w (e ∷ es)) same ∙ keys.at_here e.0 e.1 es))
      (λ (other : a ≢ e.0). let r = key_found a es (sym (ap (λ b. b || is_on (map {A = Uid × X} {B = Uid} (λ p. p.0) es) a)
      (uid_other e.0 a (λ same. other (sym same)))) ∙ on) in (r.0, keys.at_there a e.0 e.1 es other ∙ r.1))
      (uid_cases a e.0)

-- ---- the node is up again

module _ (x k : ℕ) (tops : Kinds) (M : Seen) (d : Disk) (U : World) (s : SeesDisks x tops U (down k d M)) where
  abbrev d1 : Disk
  d1 = record d { inc = d.inc + 1 }

  abbrev up_parts : Parts
  up_parts = parts_in k (d.inc + 1) d

  -- the incarnation rises
  pub raised : SeesDisks x tops U (down k d1 M)
  raised = record {
    whole = s.whole;
    along = s.along;
    fixed = s.fixed;
    kinds = s.kinds;
    stores = moved (λ m n. SeesStore x m n.disk.store U.disk) s.stores (λ h. h);
    entry = λ n is. moved (λ m n. m ≡ 1 → SeesEntry x n.disk.names U.disk)
        (λ m n found one. s.entry n (ap (λ j. (down k d M).nodes j) (sym one) ∙ found)) (λ h. h) 1 n is refl;
    records = moved (λ m n. SeesRecords m n.disk.intents U.disk) s.records (λ h. h);
    coords = λ m n p is live. moved (λ m n. (p : Parts) → n.live ≡ Some p → SeesCoord x m n.disk.inc tops p.coord U.disk)
        (λ m n found p live. s.coords m n p found live) (λ h p live. absurd (cc live)) m n is p live;
    notes = λ m n p is live. moved (λ m n. (p : Parts) → n.live ≡ Some p →
        SeesNotes x n.disk.intents p.coord U) (λ m n found p live. s.notes m n p found live) (λ h p live. absurd (cc live)) m n is p live;
    downs = λ m n is live. moved (λ m n. n.live ≡ None → SeesDown m n.disk.inc U.disk) (λ m n found live. s.downs m n found live)
        (λ h live. let r = h refl in
        record { closed = r.closed; future = λ w at above. r.future w at (lt_trans (longer d.inc) above) }) m n is live;
    confirmed = λ n p o is live named. moved (λ m n. m ≡ 1 → (p : Parts) (o : Naming) → n.live ≡ Some p → p.naming ≡ Some o → SeesConfirmed
        o U.disk) (λ m n found one p o live named. s.confirmed n p o (ap (λ j. (down k d M).nodes j) (sym one) ∙ found) live named)
        (λ h one p o live named. absurd (cc live)) 1 n is refl p o live named;
    posts = s.posts;
  }
    where
      longer : (n : ℕ) → n < n + 1
      longer n = grind arith

      moved : (Q : ℕ → Node → Type 0) → ((m : ℕ) (n : Node) → (down k d M).nodes m ≡ Some n → Q m n) → (Q k
          (record { number = k; disk = d; live = None }) → Q k (record { number = k; disk = record d { inc = d.inc + 1 }; live = None })) →
          (m : ℕ) (n : Node) → (down k (record d { inc = d.inc + 1 }) M).nodes m ≡ Some n → Q m n
      moved Q each mine = nodes_to M k (record { number = k; disk = d; live = None })
          (record { number = k; disk = record d { inc = d.inc + 1 }; live = None }) Q Q each mine (λ m n e h. h)

  -- no branch stands in a new tree
  no_branch : (w : Uid) (b : Branch) → branch_of w (new_coord k (d.inc + 1)).tree ≡ Some b → ⊥
  no_branch w b is = by (is_own w (new_coord k (d.inc + 1)).tree) is
    where
      none : (n : ℕ) → ◌≡◌ {A = Option Branch} (at_place n []) (Some b) → ⊥
      none zero h = cc h
      none (suc j) h = cc h

      by : (c : Bool) → (if c then at_place w.num [] else None) ≡ Some b → ⊥
      by true h = none w.num h
      by false h = cc h

  no_doing : (w : Uid) (q : Doing) → doing_of w (new_coord k (d.inc + 1)) ≡ Some q → ⊥
  no_doing w q is = by (is_own w (new_coord k (d.inc + 1)).tree) is
    where
      none : (n : ℕ) → ◌≡◌ {A = Option Doing} (at_place n []) (Some q) → ⊥
      none zero h = cc h
      none (suc j) h = cc h

      by : (c : Bool) → (if c then at_place w.num [] else None) ≡ Some q → ⊥
      by true h = none w.num h
      by false h = cc h

  decided_at : AllByRecursion (λ (z : Uid × Intent). disk.decided U.disk (uid_number z.0) ≡ true) d.intents → (u : Uid) (i : Intent) →
      at_uid u d.intents ≡ Some i → disk.decided U.disk (uid_number u) ≡ true
  decided_at done u i is = go d.intents done is
    where
      go : (m : List (Uid × Intent)) → AllByRecursion (λ (z : Uid × Intent). disk.decided U.disk (uid_number z.0) ≡ true) m →
          at_uid u m ≡ Some i → disk.decided U.disk (uid_number u) ≡ true
      go [] all is = absurd (cc is)
      go (z ∷ zs) all is = by (uid_cases u z.0) (go zs all.1)
        where
          by : (u ≡ z.0) ⊎ (u ≢ z.0) → (at_uid u zs ≡ Some i → disk.decided U.disk (uid_number u) ≡ true) →
              disk.decided U.disk (uid_number u) ≡ true
          by (inl same) ih = ap (λ a. disk.decided U.disk (uid_number a)) same ∙ all.0
          by (inr other) ih = ih (sym (keys.at_there u z.0 z.1 zs other) ∙ is)

  coord_up : SeesDown k d.inc U.disk → SeesCoord x k (d.inc + 1) tops (let p = parts_in k (d.inc + 1) d in p.coord) U.disk
  coord_up h = record {
    node = refl;
    present = refl;
    working = λ w b q found unended does. absurd (no_branch w b found);
    closed = λ w at ended began. h.closed w at began;
    future =
        λ w at above. h.future w at (⊎_elim (λ p. subst (λ n. d.inc < n) (sym p.0) (longer d.inc)) (λ p. lt_trans (longer d.inc) p) above);
    bare = λ w b q found does is. absurd (no_branch w b found);
  }
    where
      longer : (n : ℕ) → n < n + 1
      longer n = grind arith

  notes_up : AllByRecursion (λ (z : Uid × Intent). disk.decided U.disk (uid_number z.0) ≡ true) d.intents →
      SeesNotes x d.intents (let p = parts_in k (d.inc + 1) d in p.coord) U
  notes_up done = record {
    settled = λ u i is. inr (record { done = decided_at done u i is; awaited = λ m on. inl (ap (is_awaited_by m) is ∙ on) });
    taken = λ u q n does on. absurd (no_doing u q does);
    roots = tt;
    plans = λ u q does. absurd (no_doing u q does);
  }

  confirmed_up : SeesEntry x d.names U.disk → (o : Naming) → (b : Bool) →
      (if b then Some (recovered_naming (d.inc + 1) d.names) else None) ≡ Some o → SeesConfirmed o U.disk
  confirmed_up h o false is = absurd (cc is)
  confirmed_up h o true is = let same : recovered_naming (d.inc + 1) d.names ≡ o =
      (let j : ◌≡◌ {A = Option Naming} (Some (recovered_naming (d.inc + 1) d.names)) (Some o) = is in cc j) in
      subst (λ (z : Naming). SeesConfirmed z U.disk) same (λ a on. let r = key_found a d.names.pend on in
      (h.begun a r.0 r.1, h.taken a r.0 r.1))

  pub up_again : AllByRecursion (λ (z : Uid × Intent). disk.decided U.disk (uid_number z.0) ≡ true) d.intents →
      SeesDisks x tops U (up k d1 up_parts M)
  up_again done = record {
    whole = s.whole;
    along = s.along;
    fixed = s.fixed;
    kinds = s.kinds;
    stores = moved (λ m n. SeesStore x m n.disk.store U.disk) s.stores (λ h. h);
    entry = λ n is. moved (λ m n. m ≡ 1 → SeesEntry x n.disk.names U.disk)
        (λ m n found one. s.entry n (ap (λ j. (down k d M).nodes j) (sym one) ∙ found)) (λ h. h) 1 n is refl;
    records = moved (λ m n. SeesRecords m n.disk.intents U.disk) s.records (λ h. h);
    coords = λ m n p is live. nodes_to M k (record { number = k; disk = d; live = None })
        (record { number = k; disk = record d { inc = d.inc + 1 }; live = Some (parts_in k (d.inc + 1) d) }) (λ m n.
        ((p : Parts) → n.live ≡ Some p → SeesCoord x m n.disk.inc tops p.coord U.disk) × (n.live ≡ None → SeesDown m n.disk.inc U.disk))
        (λ m n. (p : Parts) → n.live ≡ Some p → SeesCoord x m n.disk.inc tops p.coord U.disk)
        (λ m n found. (λ p live. s.coords m n p found live, λ live. s.downs m n found live))
        (λ h p live. let same : up_parts ≡ p = cc live in
        subst (λ (q : Parts). SeesCoord x k (d.inc + 1) tops q.coord U.disk) same (coord_up (h.1 refl))) (λ m n e h. h.0) m n is p live;
    notes = λ m n p is live. moved (λ m n. (p : Parts) → n.live ≡ Some p → SeesNotes x n.disk.intents p.coord U)
        (λ m n found p live. s.notes m n p found live) (λ h p live. let same : up_parts ≡ p = cc live in
        subst (λ (q : Parts). SeesNotes x d.intents q.coord U) same (notes_up done)) m n is p live;
    downs = λ m n is live. moved (λ m n. n.live ≡ None →
        SeesDown m n.disk.inc U.disk) (λ m n found live. s.downs m n found live) (λ h live. absurd (cc live)) m n is live;
    confirmed = λ n p o is live named. nodes_to M k (record { number = k; disk = d; live = None })
        (record { number = k; disk = record d { inc = d.inc + 1 }; live = Some (parts_in k (d.inc + 1) d) })
        (λ m n. (m ≡ 1 → SeesEntry x n.disk.names U.disk) × (m ≡ 1 → (p : Parts) (o : Naming) → n.live ≡ Some p → p.naming ≡ Some o →
        SeesConfirmed o U.disk)) (λ m n. m ≡ 1 → (p : Parts) (o : Naming) → n.live ≡ Some p → p.naming ≡ Some o → SeesConfirmed o U.disk)
        (λ m n found. (
          λ one. s.entry n (ap (λ j. (down k d M).nodes j) (sym one) ∙ found),
          λ one p o live named. s.confirmed n p o (ap (λ j. (down k d M).nodes j) (sym one) ∙ found) live named,
        ))
        (λ h one p o live named. let same : up_parts ≡ p = cc live in
        confirmed_up (h.0 one) o (k == 1) (ap (λ (q : Parts). q.naming) same ∙ named)) (λ m n e h. h.1) 1 n is refl p o live named;
    posts = s.posts;
  }
    where
      moved : (Q : ℕ → Node → Type 0) → ((m : ℕ) (n : Node) → (down k d M).nodes m ≡ Some n → Q m n) →
          (Q k (record { number = k; disk = d; live = None }) →
          Q k (record { number = k; disk = record d { inc = d.inc + 1 }; live = Some (parts_in k (d.inc + 1) d) })) → (m : ℕ) (n : Node) →
          (up k (record d { inc = d.inc + 1 }) (parts_in k (d.inc + 1) d) M).nodes m ≡ Some n → Q m n
      moved Q each mine = nodes_to M k (record { number = k; disk = d; live = None })
          (record { number = k; disk = record d { inc = d.inc + 1 }; live = Some (parts_in k (d.inc + 1) d) }) Q Q each mine (λ m n e h. h)

-- ---- what is said and sent

module _ (x k : ℕ) (tops : Kinds) (e : ℕ) (d : Disk) (t : Parts) (S : State) (hs : List Uid) where
  abbrev Go : List Effect → Type 0
  Go rest = Next x k tops e d t S t hs rest

  says_next : (outs rest : List Effect) → AreAll is_say outs → Go rest → Go (outs ++ rest)
  says_next [] rest own go N V same hb s = go N V same hb s
  says_next (Say b ∷ es) rest own go N V same hb s = says_next es rest own go (said e (b ∷ []) N) V same
      (begun_on N.lines (numbered e (b ∷ [])) hs hb) (says_seen x tops V (up k d t N) (numbered e (b ∷ [])) s)
  says_next (Send n m ∷ es) rest own go N V same hb s = absurd (cc own)
  says_next (Do w ∷ es) rest own go N V same hb s = absurd (cc own)

  queries_next : (us : List Uid) (rest : List Effect) → ((N : Seen) → HaveBegun N.lines hs → HaveBegun N.lines us) → Go rest →
      Go (map query_about us ++ rest)
  queries_next [] rest each go N V same hb s = go N V same hb s
  queries_next (u ∷ us) rest each go N V same hb s = λ more quiet.
      let p : Post = record { from = k; to = u.node; message = message.Query (record { act = u }) } in
      queries_next us rest (λ L h. (each L h).1) go (said e more (posted p N)) V same (begun_on N.lines (numbered e more) hs hb)
      (says_seen x tops V (up k d t (posted p N)) (numbered e more) (posts_seen x tops V (up k d t N) p (each N hb).0 s))

  hellos_next : (inc : ℕ) (ns : List ℕ) (rest : List Effect) → Go rest → Go (map (hello_to k inc) ns ++ rest)
  hellos_next inc [] rest go N V same hb s = go N V same hb s
  hellos_next inc (n ∷ ns) rest go N V same hb s = λ more quiet.
      let p : Post = record { from = k; to = n; message = message.Hello (record { node = k; inc = inc }) } in
      hellos_next inc ns rest go (said e more (posted p N)) V same (begun_on N.lines (numbered e more) hs hb)
      (says_seen x tops V (up k d t (posted p N)) (numbered e more) (posts_seen x tops V (up k d t N) p tt s))

pub map_says : {A : Type 0} (f : A → Effect) (xs : List A) → ((a : A) → is_say (f a) ≡ true) → AreAll is_say (map f xs)
map_says f [] each = refl
map_says f (a ∷ more) each = all_both is_say (f a ∷ []) (map f more) (ap (λ b. b && true) (each a)) (map_says f more each)

pub back_says : (o : Option Naming) → AreAll is_say (naming_back o)
back_says None = refl
back_says (Some n) = all_flat is_say (λ (z : ℕ × Named). back_lines z.1) n.objects
    (λ z. map_says (λ (r : Row). Say (body.Granted 1 (last_uid r.holder) r.object r.mode)) (let o = z.1 in o.rows) (λ r. refl))

-- ---- the restart

module _ (x : ℕ) (tops : Kinds) (e k : ℕ) (hd : Header) (d : Disk) (M : Seen) (noted : (u : Uid) (i : Intent) →
    at_uid u d.intents ≡ Some i → may_note tops.walk (Decides (uid_number u)) ≡ true) (W : World) where
  abbrev Q : Seen → Type 0
  Q = IsSeenByDisks x tops

  abbrev Hs : List Uid
  Hs = uid_set (prepared_actions d.store ++ prepared_actions d.names)

  abbrev back : Parts
  back = parts_in k (d.inc + 1) d

  abbrev risen : Disk
  risen = record d { inc = d.inc + 1 }

  abbrev Hellos : List Effect
  Hellos = map (hello_to k (d.inc + 1)) (without_number k (numbers_to hd.nodes))

  abbrev Sent : List Effect
  Sent = tolds_again d.intents ++ (map query_about Hs ++ Hellos)

  last_walks : (N : Seen) → HaveBegun N.lines Hs → SeesDisks x tops W (down k d N) →
      Walks Q e k (recovered_records k d.intents ++ Sent) (Up Q k back) risen N
  last_walks N hb s =
      let r : AllDecided x k tops N d W d.intents = decide_all x k tops N d d.intents noted (sorted_found d.intents (let z = s.records k
      (record { number = k; disk = d; live = None }) (node_here N k (record { number = k; disk = d; live = None })) in z.sorted)) W s in
      says_next x k tops e risen back r.world.disk Hs (recovered_records k d.intents) Sent
      (map_says (λ (z : Uid × Intent). Say (body.Recovered k z.0)) d.intents (λ z. refl))
      (tolds_walk_again x k tops e risen back r.world.disk back Hs d.intents (map query_about Hs ++ Hellos) r.done
      (queries_next x k tops e risen back r.world.disk Hs Hs Hellos (λ L h. h)
      (subst (Next x k tops e risen back r.world.disk back Hs) (append-nil Hellos) (hellos_next x k tops e risen back r.world.disk Hs
      (d.inc + 1) (without_number k (numbers_to hd.nodes)) [] (λ L V same h seen. (V, seen))))))
      N r.world refl hb (up_again x k tops N d r.world r.seen r.done)

  -- a look before, and after the incarnation has risen
  looks_down : (N : Seen) → SeesDisks x tops W (down k d N) → Stops Q e k Look d N
  looks_down N s Before = stops_seen x tops e k d None N (W, s)
  looks_down N s After = stops_seen x tops e k d None N (W, s)
  looks_down N s (InPart which) = stops_seen x tops e k d None N (W, s)

  looks_risen : (N : Seen) → SeesDisks x tops W (down k d N) → Stops Q e k Look risen N
  looks_risen N s Before = stops_seen x tops e k risen None N (W, raised x k tops N d W s)
  looks_risen N s After = stops_seen x tops e k risen None N (W, raised x k tops N d W s)
  looks_risen N s (InPart which) = stops_seen x tops e k risen None N (W, raised x k tops N d W s)

  rises : (N : Seen) → SeesDisks x tops W (down k d N) → Stops Q e k (PutInc (d.inc + 1)) d N
  rises N s Before = stops_seen x tops e k d None N (W, s)
  rises N s After = stops_seen x tops e k risen None N (W, raised x k tops N d W s)
  rises N s (InPart which) = stops_seen x tops e k d None N (W, s)

  -- lines while the node is down still
  says_down : (outs rest : List Effect) → AreAll is_say outs →
      ((N : Seen) → HaveBegun N.lines Hs → SeesDisks x tops W (down k d N) → Walks Q e k rest (Up Q k back) risen N) → (N : Seen) →
      HaveBegun N.lines Hs → SeesDisks x tops W (down k d N) → Walks Q e k (outs ++ rest) (Up Q k back) risen N
  says_down [] rest own go N hb s = go N hb s
  says_down (Say b ∷ es) rest own go N hb s = says_down es rest own go (said e (b ∷ []) N) (begun_on N.lines (numbered e (b ∷ [])) Hs hb)
      (says_seen x tops W (down k d N) (numbered e (b ∷ [])) s)
  says_down (Send to m ∷ es) rest own go N hb s = absurd (cc own)
  says_down (Do w ∷ es) rest own go N hb s = absurd (cc own)

  abbrev First : List Effect
  First = Do Look ∷ Do (PutInc (d.inc + 1)) ∷ Say (body.Up k (d.inc + 1)) ∷ Do Look ∷ naming_back (naming_at k (d.inc + 1) d.names)

  abbrev Next_ones : List Effect
  Next_ones = Do Look ∷ recovered_records k d.intents

  restart_walks : HaveBegun M.lines Hs → SeesDisks x tops W (down k d M) → Walks Q e k (First ++ (Next_ones ++ Sent)) (Up Q k back) d M
  restart_walks hb s = (
    looks_down M s,
    (
      rises M s,
      (
        looks_risen (said e (body.Up k (d.inc + 1) ∷ []) M) (says_seen x tops W (down k d M) (numbered e (body.Up k (d.inc + 1) ∷ [])) s),
        says_down (naming_back (naming_at k (d.inc + 1) d.names)) (Next_ones ++ Sent) (back_says (naming_at k (d.inc + 1) d.names))
            (λ N h seen. (looks_risen N seen, last_walks N h seen)) (said e (body.Up k (d.inc + 1) ∷ []) M)
            (begun_on M.lines (numbered e (body.Up k (d.inc + 1) ∷ [])) Hs hb)
            (says_seen x tops W (down k d M) (numbered e (body.Up k (d.inc + 1) ∷ [])) s),
      ),
    ),
  )

-- ---- where a stop falls

-- no work on the disk
abbrev is_said_or_sent : Effect → Bool
is_said_or_sent (Do w) = false
is_said_or_sent (Say b) = true
is_said_or_sent (Send to m) = true

unstopped : (P : Seen → Type 0) (e k : ℕ) (es : List Effect) → AreAll is_said_or_sent es → (c : Disk) (N : Seen) →
    Walks P e k es (λ c L. ⊤) c N
unstopped P e k [] all c N = tt
unstopped P e k (Say b ∷ es) all c N = unstopped P e k es all c (said e (b ∷ []) N)
unstopped P e k (Send to m ∷ es) all c N =
    λ more quiet. unstopped P e k es all c (said e more (posted (record { from = k; to = to; message = m }) N))
unstopped P e k (Do w ∷ es) all c N = absurd (cc all)

map_unstopped : {A : Type 0} (f : A → Effect) (xs : List A) → ((a : A) → is_said_or_sent (f a) ≡ true) → AreAll is_said_or_sent (map f xs)
map_unstopped f [] each = refl
map_unstopped f (a ∷ more) each =
    all_both is_said_or_sent (f a ∷ []) (map f more) (ap (λ b. b && true) (each a)) (map_unstopped f more each)

module _ (x : ℕ) (tops : Kinds) (e k : ℕ) (hd : Header) (d : Disk) (M : Seen) (W : World) where
  -- who is decided was so before
  abbrev Open : Seen → Type 0
  Open N = (V : World) × (V.disk.tops ≡ W.disk.tops) × SeesDisks x tops V N

  open_down : (N : Seen) → SeesDisks x tops W (down k d N) → Open (halted e k d N)
  open_down N s = stops_open x tops e k d None N W s

  open_risen : (N : Seen) → SeesDisks x tops W (down k d N) → Open (halted e k (record d { inc = d.inc + 1 }) N)
  open_risen N s = stops_open x tops e k (record d { inc = d.inc + 1 }) None N W (raised x k tops N d W s)

  look_down : (N : Seen) → SeesDisks x tops W (down k d N) → Stops Open e k Look d N
  look_down N s Before = open_down N s
  look_down N s After = open_down N s
  look_down N s (InPart which) = open_down N s

  look_risen : (N : Seen) → SeesDisks x tops W (down k d N) → Stops Open e k Look (record d { inc = d.inc + 1 }) N
  look_risen N s Before = open_risen N s
  look_risen N s After = open_risen N s
  look_risen N s (InPart which) = open_risen N s

  rise : (N : Seen) → SeesDisks x tops W (down k d N) → Stops Open e k (PutInc (d.inc + 1)) d N
  rise N s Before = open_down N s
  rise N s After = open_risen N s
  rise N s (InPart which) = open_down N s

  says_on : (outs rest : List Effect) → AreAll is_say outs →
      ((N : Seen) → SeesDisks x tops W (down k d N) → Walks Open e k rest (λ c L. ⊤) (record d { inc = d.inc + 1 }) N) → (N : Seen) →
      SeesDisks x tops W (down k d N) → Walks Open e k (outs ++ rest) (λ c L. ⊤) (record d { inc = d.inc + 1 }) N
  says_on [] rest own go N s = go N s
  says_on (Say b ∷ es) rest own go N s =
      says_on es rest own go (said e (b ∷ []) N) (says_seen x tops W (down k d N) (numbered e (b ∷ [])) s)
  says_on (Send to m ∷ es) rest own go N s = absurd (cc own)
  says_on (Do w ∷ es) rest own go N s = absurd (cc own)

  pub restarts_stop : SeesDisks x tops W (down k d M) → Walks Open e k (restart_outs hd k (d.inc + 1) d) (λ c L. ⊤) d M
  restarts_stop s =
      let hs : List Uid = uid_set (prepared_actions d.store ++ prepared_actions d.names) in
      let back : List Effect = naming_back (naming_at k (d.inc + 1) d.names) in
      let first : List Effect = Do Look ∷ Do (PutInc (d.inc + 1)) ∷ Say (body.Up k (d.inc + 1)) ∷ Do Look ∷ back in
      let founds : List Effect = recovered_records k d.intents in
      let next : List Effect = Do Look ∷ founds in
      let tolds : List Effect = tolds_again d.intents in
      let queries : List Effect = map query_about hs in
      let hellos : List Effect = map (hello_to k (d.inc + 1)) (without_number k (numbers_to hd.nodes)) in
      let rest : List Effect = tolds ++ (queries ++ hellos) in
      let up_now : Seen = said e (body.Up k (d.inc + 1) ∷ []) M in
      let up_seen = says_seen x tops W (down k d M) (numbered e (body.Up k (d.inc + 1) ∷ [])) s in
      let unworked = all_both is_said_or_sent founds rest
      (map_unstopped (λ (z : Uid × Intent). Say (body.Recovered k z.0)) d.intents (λ z. refl))
      (all_both is_said_or_sent tolds (queries ++ hellos)
      (all_flat is_said_or_sent (λ (z : Uid × Intent). tell_all z.1.root true ((z.0, ending.Commit) ∷ []) z.1.nodes) d.intents
      (λ z. map_unstopped (λ n. tell z.1.root true ((z.0, ending.Commit) ∷ []) n) z.1.nodes (λ n. refl)))
      (all_both is_said_or_sent queries hellos (map_unstopped query_about hs (λ u. refl))
      (map_unstopped (hello_to k (d.inc + 1)) (without_number k (numbers_to hd.nodes)) (λ n. refl)))) in
      subst (λ es. Walks Open e k es (λ c L. ⊤) d M)
      (sym (append_assoc ((first ++ next) ++ tolds) queries hellos ∙ append_assoc (first ++ next) tolds (queries ++ hellos)
      ∙ append_assoc first next (tolds ++ (queries ++ hellos)))) (
        look_down M s,
        (
          rise M s,
          (
            look_risen up_now up_seen,
            says_on back (next ++ rest) (back_says (naming_at k (d.inc + 1) d.names))
                (λ N seen. (look_risen N seen, unstopped Open e k (founds ++ rest) unworked (record d { inc = d.inc + 1 }) N)) up_now
                up_seen,
          ),
        ),
      )

pub restarts_are_walked : RestartsAreWalked
restarts_are_walked x tops e k hd d M begun noted W sees =
    let hs : List Uid = uid_set (prepared_actions d.store ++ prepared_actions d.names) in
    let first : List Effect = Do Look ∷ Do (PutInc (d.inc + 1)) ∷ Say (body.Up k (d.inc + 1)) ∷ Do Look
    ∷ naming_back (naming_at k (d.inc + 1) d.names) in
    let next : List Effect = Do Look ∷ recovered_records k d.intents in
    let tolds : List Effect = tolds_again d.intents in
    let queries : List Effect = map query_about hs in
    let hellos : List Effect = map (hello_to k (d.inc + 1)) (without_number k (numbers_to hd.nodes)) in
    subst (λ es. Walks (IsSeenByDisks x tops) e k es (Up (IsSeenByDisks x tops) k (parts_in k (d.inc + 1) d)) d M)
    (sym (append_assoc ((first ++ next) ++ tolds) queries hellos ∙ append_assoc (first ++ next) tolds (queries ++ hellos)
    ∙ append_assoc first next (tolds ++ (queries ++ hellos))))
    (restart_walks x tops e k hd d M noted W begun sees)
