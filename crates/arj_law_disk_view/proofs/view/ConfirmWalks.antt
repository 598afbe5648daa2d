-- A Confirm, walked through at naming.
use Rattle.arj_law_parts.proofs.Words
use Words.{◌≡◌, ◌⊎◌, ◌<◌, ℕ, ◌+◌, ◌==◌, ◌&&◌, ◌||◌, not, List, [], ◌∷◌, ◌++◌, Bool, true, false, cond, Option, Some, None, refl, sym, ◌∙◌}
use Words.{ap, subst, inl, inr, ⊎_elim, arith, filter, map, min, is_some, ⊤, if◌then◌else◌, nat_lt, option_map, match_ordering, Ordering}
use Words.{Less, Equal, Greater, nat_tests, append_assoc, uid_is, uid_same, uid_other, Uid, ObjectState, Head, Path, ConfirmedReply, Row}
use Words.{class_code_of, entry, is_listed, is_on, last_uid, nobody, uid_eq, uid_order, Reply, actor, asked_by, response, top_of, Grants}
use Words.{Marks, marked, checked, confirm, confirm_entries, confirm_new, confirms, conflict_in, entries_after, entry_state, first_of_each}
use Words.{has_all, is_bare, is_there, lock_all, lock_in, other_grant, prepared_by, refused_exclude, same_nodes, wanted, Disk, Effect, Pair}
use Words.{Say, Send, Do, Look, Prepare, Before, After, InPart, Did, Served, Prep, Ready, Already, Old, InDoubt, either, held_at, holder_of}
use Words.{by_holder, is_old, is_prepared, pair_prepared, prepare_answer, refusal_in, refusal_of, reply, state_eq, void, Named, Naming}
use Words.{entry_of, is_over, listed_entry, Parts, Took, served, sends_answer, if_naming, with_naming, at_number, uid_number, with_uid}
use Words.{AreAll, Node, state_entry, numbered, all_both, Post, Seen}
use Words.body
use Words.confirmed
use Words.mode
use Words.role
use Words.what
use Rattle.arj_base.specs.State.{head_of}
use Rattle.arj_law_disk_view.proofs.Terms
use Terms.{bytes_eq, Core, World, Allowed, IsUnlisted, after, changed, entry_hold, new_list, State, Packed, Plan, undecided, In, has, never}
use Terms.{or_cases, or_left, or_right, some_is, test_is, test_same, falls_to, effect_keeps, has_filtered, up, said, posted, Walks, Stops}
use Terms.{Up, AreNew, FitsVersion, IsBooked, IsConfirmation, IsNewConfirm, IsUnconfirmed, with_locks, IsConfirmedNow, SeesRecords}
use Terms.{SeesEntry, Among, AreOne, HasNone, IsOf, packed_entry, SeesStore, IsAlong, followed, may_note, Kinds, Claims, ClaimsConfirm}
use Terms.{SeesDisks, SeesCoord, SeesNotes, SeesDown, SeesConfirmed, IsLater, IsSeenByDisks, walks_to, is_only_of}
use Terms.machine
use Terms.mail
use Rattle.arj_law_disk.proofs.machine.Listing.{entry_content, join_target, list_joins, list_lacks, plain_target, same_list}
use Rattle.arj_law_disk.specs.machine.Effects.{NoneIsListed}
use Rattle.arj_law_disk_view.proofs.view
use view.{Along.along_goes, Along.along_then, Follows.walks_are_followed, Halts.stops_seen, Later.effects_are_later, Notes.fixed_later}
use view.{Notes.notes_later, ServedWalks.lock_says, StoreWalks.took_is, ToldWalks.parts_seen}
use view.ConfirmKeeps.{agreeing_keeps, entering_keeps, marked_now, marked_stays, passing_keeps, prepared_is_taken, quiet_confirms_keep}
use view.ConfirmSteps.{Held, has_target, held_is, is_one, rests, stands_there}
use view.Frames.{nodes_to, node_here, claim_here, coord_same, down_same, says_seen, posts_seen, sends_seen}
use view.HeardWalks.{is_say, says_walk}
use view.StoreSteps.{free_state, no_refusal, place_free}
use Rattle.arj_law_disk_view.specs.view.Coordinating.{ConfirmsAreWalked, ConfirmsWalkOnce}

-- ---- a confirmation of one object

-- What a confirmation changes of the object; the entry is seen with this pair then, and the top is taken.
pub record ConfirmGoes (x : ℕ) (c : Pair) (t : ℕ) (W : World) : Type 0 where
  pub effect : machine.Effect
  pub allowed : Allowed W effect
  pub which : IsConfirmation t effect
  pub rest : (after W effect).disk ≡ record W.disk
      { entry_pend = (after W effect).disk.entry_pend; conf = (after W effect).disk.conf; light = (after W effect).disk.light }
  pub confs : (z : ℕ) → W.disk.conf z ≡ true → (after W effect).disk.conf z ≡ true
  pub lights : (z : ℕ) → W.disk.light z ≡ true → (after W effect).disk.light z ≡ true
  pub taken : undecided W.disk t ≡ true → ((after W effect).disk.conf t ≡ true) ⊎ ((after W effect).disk.light t ≡ true)
  pub sent : (after W effect).sent ≡ W.sent
  pub there : SeesEntry x c (after W effect).disk

module _ (x : ℕ) (tops : Kinds) (W : World) (M : Seen) (d : Disk) (t : Parts) (sees : SeesDisks x tops W (up 1 d t M)) (c : Pair) (u : ℕ)
    (goes : ConfirmGoes x c u W) (unwalked : tops.walk ≡ None) where
  abbrev V : World
  V = after W goes.effect

  goes_later : IsLater W V
  goes_later = effects_are_later W (goes.effect ∷ []) (goes.allowed, tt) sees.whole

  begun_same : V.disk.begun ≡ W.disk.begun
  begun_same = ap (λ (S : State). S.begun) goes.rest

  stage_same : V.disk.stage ≡ W.disk.stage
  stage_same = ap (λ (S : State). S.stage) goes.rest

  to : (Q R : ℕ → Node → Type 0) → ((m : ℕ) (n : Node) → (up 1 d t M).nodes m ≡ Some n → Q m n) →
      (Q 1 (record { number = 1; disk = d; live = Some t }) → R 1 (record { number = 1; disk = record d { names = c }; live = Some t })) →
      ((m : ℕ) (n : Node) → (m == 1) ≡ false → Q m n → R m n)
      → (m : ℕ) (n : Node) → (up 1 (record d { names = c }) t M).nodes m ≡ Some n → R m n
  to Q R each mine others = nodes_to M 1 (record { number = 1; disk = d; live = Some t })
      (record { number = 1; disk = record d { names = c }; live = Some t }) Q R each mine others

  store_goes : (m : ℕ) (p : Pair) → SeesStore x m p W.disk → SeesStore x m p V.disk
  store_goes m p s = subst (λ (S : State). SeesStore x m p S) (sym goes.rest) (record {
    pair = s.pair;
    planned = λ a ss is. let q = s.planned a ss is in record { begun = q.begun; named = q.named; there = q.there };
  })

  records_go : (m : ℕ) (n : Node) → SeesRecords m n.disk.intents W.disk → SeesRecords m n.disk.intents V.disk
  records_go m n s =
      subst (λ (S : State). SeesRecords m n.disk.intents S) (sym goes.rest) (record { sorted = s.sorted; own = s.own; is = s.is })

  coord_goes : (m inc : ℕ) (p : Parts) → SeesCoord x m inc tops p.coord W.disk → SeesCoord x m inc tops p.coord V.disk
  coord_goes m inc p s = coord_same x m inc tops p.coord W.disk V.disk stage_same begun_same (ap (λ (S : State). S.plan) goes.rest)
      (ap (λ (S : State). S.got) goes.rest) (ap (λ (S : State). S.bare) goes.rest) s

  still_open : (z : ℕ) → undecided V.disk z ≡ true → undecided W.disk z ≡ true
  still_open z o = sym (ap (λ (S : State). undecided S z) goes.rest) ∙ o

  confirmed_goes : (o : Naming) → SeesConfirmed o W.disk → SeesConfirmed o V.disk
  confirmed_goes o s a on = let r = s a on in (
    ap (λ f. f (uid_number a)) begun_same ∙ r.0,
    λ h. ⊎_elim (λ z. inl (goes.confs (uid_number a) z)) (λ z. inr (goes.lights (uid_number a) z)) (r.1 (still_open (uid_number a) h)),
  )

  pub confirm_goes_seen : SeesDisks x tops V (up 1 (record d { names = c }) t M)
  confirm_goes_seen = record {
    whole = effect_keeps W goes.effect goes.allowed sees.whole;
    along = subst (λ o. IsAlong o V) (sym unwalked) tt;
    fixed = fixed_later tops W V goes_later sees.fixed;
    kinds = λ z b. let r = sees.kinds z (ap (λ f. f z) (sym begun_same) ∙ b) in (r.0, ap (λ (S : State). S.serial z) goes.rest ∙ r.1);
    stores = to (λ m n. SeesStore x m n.disk.store W.disk) (λ m n. SeesStore x m n.disk.store V.disk) sees.stores
        (λ s. store_goes 1 d.store s) (λ m n e s. store_goes m n.disk.store s);
    entry = λ n is. to (λ m n. ⊤) (λ m n. m ≡ 1 → SeesEntry x n.disk.names V.disk) (λ m n found. tt) (λ s one. goes.there)
        (λ m n e s one. absurd (never (ap (λ j. j == 1) one ∙ test_same 1) e)) 1 n is refl;
    records = to (λ m n. SeesRecords m n.disk.intents W.disk) (λ m n. SeesRecords m n.disk.intents V.disk) sees.records
        (λ s. records_go 1 (record { number = 1; disk = d; live = Some t }) s) (λ m n e s. records_go m n s);
    coords = λ m n p is live. to (λ m n. (p : Parts) → n.live ≡ Some p → SeesCoord x m n.disk.inc tops p.coord W.disk) (λ m n. (p : Parts) →
        n.live ≡ Some p → SeesCoord x m n.disk.inc tops p.coord V.disk) (λ m n found p live. sees.coords m n p found live)
        (λ s p live. coord_goes 1 d.inc p (s p live)) (λ m n e s p live. coord_goes m n.disk.inc p (s p live)) m n is p live;
    notes = λ m n p is live. to (λ m n. (p : Parts) → n.live ≡ Some p → SeesNotes x n.disk.intents p.coord W) (λ m n. (p : Parts) →
        n.live ≡ Some p → SeesNotes x n.disk.intents p.coord V) (λ m n found p live. sees.notes m n p found live)
        (λ s p live. notes_later x W V goes_later d.intents p.coord (s p live))
        (λ m n e s p live. notes_later x W V goes_later n.disk.intents p.coord (s p live)) m n is p live;
    downs = to (λ m n. n.live ≡ None → SeesDown m n.disk.inc W.disk) (λ m n. n.live ≡ None → SeesDown m n.disk.inc V.disk)
        (λ m n found live. sees.downs m n found live) (λ s live. down_same 1 d.inc W.disk V.disk stage_same begun_same (s live))
        (λ m n e s live. down_same m n.disk.inc W.disk V.disk stage_same begun_same (s live));
    confirmed = λ n p o is live named. to (λ m n. m ≡ 1 → (p : Parts) (o : Naming) → n.live ≡ Some p → p.naming ≡ Some o →
        SeesConfirmed o W.disk) (λ m n. m ≡ 1 → (p : Parts) (o : Naming) → n.live ≡ Some p → p.naming ≡ Some o → SeesConfirmed o V.disk)
        (λ m n found one p o live named. sees.confirmed n p o (ap (λ j. (up 1 d t M).nodes j) (sym one) ∙ found) live named)
        (λ s one p o live named. confirmed_goes o (s one p o live named))
        (λ m n e s one p o live named. confirmed_goes o (s one p o live named)) 1 n is refl p o live named;
    posts = λ p i. claim_here x tops W V M.lines p sees.whole goes_later (sees.posts p i);
  }

-- ---- lists of stores

pub has_listed : (s : ℕ) (ss : List ℕ) → is_listed s ss ≡ has s ss
has_listed s [] = refl
has_listed s (r ∷ rs) = ap (λ b. (r == s) || b) (has_listed s rs)

-- a store that is included isn't listed
pub new_not : (ms ss : List ℕ) (s : ℕ) → AreNew ms ss → has s ms ≡ true → has s ss ≡ false
new_not [] ss s new on = absurd (cc on)
new_not (m ∷ ms) ss s new on = ⊎_elim (λ same. ap (λ k. has k ss) (sym (test_is m s same)) ∙ sym (has_listed m ss) ∙ new.0)
    (λ more. new_not ms ss s new.1 more) (or_cases (m == s) (has s ms) on)

pub not_empty : (ss : List ℕ) → same_nodes ss [] ≡ false → (s : ℕ) × (has s ss ≡ true)
not_empty [] h = absurd (cc h)
not_empty (s ∷ ss) h = (s, or_left (s == s) (has s ss) (test_same s))

-- ---- the checks

pub both_none : {A : Type 0} (a b : Option A) → either a b ≡ None → (a ≡ None) × (b ≡ None)
both_none None b h = (refl, h)
both_none (Some a) b h = absurd (cc h)

pub each_none : (f : ObjectState → Option ConfirmedReply) (ss : List ObjectState) (s : ObjectState) → first_of_each f ss ≡ None →
    Among s ss → f s ≡ None
each_none f [] s h among = absurd among
each_none f (r ∷ rs) s h among = let p = both_none (f r) (first_of_each f rs) h in
    ⊎_elim (λ same. subst (λ q. f q ≡ None) same p.0) (λ more. each_none f rs s p.1 more) among

pub not_there : (b : Bool) (r : ConfirmedReply) → (if b then Some r else None) ≡ None → b ≡ false
not_there true r h = absurd (cc h)
not_there false r h = refl

-- what naming's checks find of the object
module _ (x : ℕ) (d : Pair) (S : State) (sees : SeesEntry x d S) where
  content : (st : ObjectState) → held_at (entry x) d ≡ Some st → packed_entry st ≡ S.entry → (listed_entry x d).stores ≡ S.entry.content
  content st there is = ap (λ o. (entry_of o).stores) there ∙ ap (λ (e : Packed). e.content) is

  pub are_new : (included : Marks) → first_of_each (is_there d) included ≡ None → AreNew (marked x included) S.entry.content
  are_new [] h = tt
  are_new (m ∷ ms) h = let p = both_none (is_there d m) (first_of_each (is_there d) ms) h in
      by (m.0 == x) refl (not_there (is_listed m.1 (listed_entry m.0 d).stores) (confirmed.Listed m.0 m.1) p.0) (are_new ms p.1)
    where
      by : (b : Bool) → (m.0 == x) ≡ b → is_listed m.1 (listed_entry m.0 d).stores ≡ false → AreNew (marked x ms) S.entry.content →
          AreNew (map (λ (k : ℕ × ℕ). k.1) (cond b (m ∷ filter (λ (k : ℕ × ℕ). k.0 == x) ms) (filter (λ (k : ℕ × ℕ). k.0 == x) ms)))
          S.entry.content
      by true e off ih = let h = held_is x d S sees in (
        ap (λ ss. is_listed m.1 ss) (sym (content h.0 h.1 h.2)) ∙ ap (λ y. is_listed m.1 (listed_entry y d).stores) (sym (test_is m.0 x e))
            ∙ off,
        ih,
      )
      by false e off ih = ih

-- ---- a store's readiness

-- the version of a new entry is the next one, where the store is ready for it
version_fits : (v : ℕ) → (nat_lt (min (v + 1) 18446744073709551615) v || ((min (v + 1) 18446744073709551615 == v) && true)) ≡ false →
    v < 18446744073709551615
version_fits v h = by (nat_lt v 18446744073709551615) refl
  where
    by : (b : Bool) → nat_lt v 18446744073709551615 ≡ b → v < 18446744073709551615
    by true is = grind (arith, nat_tests)
    by false is = absurd (never above h)
      where
        above : (nat_lt (min (v + 1) 18446744073709551615) v || ((min (v + 1) 18446744073709551615 == v) && true)) ≡ true
        above = grind (arith, nat_tests)

-- the store doesn't hold what the action itself wrote
not_already : (a : Uid) (d : Pair) (s held : ObjectState) → refusal_in a d s ≡ None → held_at s.uid d ≡ Some held →
    uid_eq held.writer a ≡ false
not_already a d s held none there = by (held_at s.uid d) (holder_of s.uid d) none there
  where
    own : (other : ObjectState) (b : Bool) (o : Option Uid) →
        (if b then Some (Already s.uid) else (if is_old s other then Some (Old s.uid other.version) else by_holder s o)) ≡ None → b ≡ false
    own other true o h = absurd (cc h)
    own other false o h = refl

    by : (o : Option ObjectState) (h : Option Uid) → refusal_of a s o h ≡ None → o ≡ Some held → uid_eq held.writer a ≡ false
    by None h f is = absurd (cc is)
    by (Some other) h f is = let same : other ≡ held = cc is in
        subst (λ (k : ObjectState). uid_eq k.writer a ≡ false) same (own other (uid_eq other.writer a) h f)

other_writer : (a f b c e : Bool) → (a && (f && (b && (c && (false && e))))) ≡ false
other_writer true true true true e = refl
other_writer true true true false e = refl
other_writer true true false c e = refl
other_writer true false b c e = refl
other_writer false f b c e = refl

entry_fits : (x : ℕ) (top : Uid) (d : Pair) (st : ObjectState) (stores : List ℕ) → refusal_in top d (entry_state x top st stores) ≡ None →
    held_at (entry x) d ≡ Some st → st.version < 18446744073709551615
entry_fits x top d st stores none there =
    let q : ObjectState = entry_state x top st stores in
    let apart : uid_eq top st.writer ≡ false = uid_other top st.writer
    (λ same. never (ap (λ w. uid_eq w top) (sym same) ∙ uid_same top) (not_already top d q st none there)) in
    let formats = head_of q.format == head_of st.format in
    let classes = class_code_of q.class == class_code_of st.class in
    let other : state_eq q st ≡ false = (λ i. uid_eq q.uid st.uid
    && (formats && (classes && ((q.version == st.version) && (apart i && bytes_eq q.payload st.payload)))))
    ∙ other_writer (uid_eq q.uid st.uid) formats classes (q.version == st.version) (bytes_eq q.payload st.payload) in
    version_fits st.version
    ((λ i. nat_lt q.version st.version || ((q.version == st.version) && not (sym other i))) ∙ (free_state top d q none).1 st there)

-- ---- which kind of confirmation it is

module _ (x : ℕ) (d : Pair) (W : World) (top : Uid) (grants : Grants) (excluded included : Marks) (sees : SeesEntry x d W.disk) (core : Core
    W.disk) (claims : ClaimsConfirm x W (uid_number top) grants excluded included) (begun : W.disk.begun (uid_number top) ≡ true)
    (new : AreNew (marked x included) W.disk.entry.content) (booked : IsBooked W.disk (uid_number top))
    (unprepared : is_prepared top d ≡ false) where
  abbrev plan : Plan
  plan = W.disk.plan (uid_number top)

  abbrev got : ℕ → Bool
  got = W.disk.got (uid_number top)

  abbrev content_now : List ℕ
  content_now = W.disk.entry.content

  unlisted : IsUnlisted W.disk (uid_number top)
  unlisted s on said =
      new_not (marked x included) content_now s new (ap (λ ss. has s ss) claims.says.joins ∙ has_filtered got s plan.joins on said)

  none_got : plan.writes ≡ None → bytes_eq (new_list W.disk (uid_number top)) content_now ≡ true → (s : ℕ) →
      W.disk.got (uid_number top) s ≡ false
  none_got plain same s = falls_to (W.disk.got (uid_number top) s) (λ g.
      let on = plain_target plan s plain (core.coordinators.got_target (uid_number top) s g) in
      never (ap (λ ss. has s ss) (sym (same_list (new_list W.disk (uid_number top)) content_now same))
      ∙ list_joins plan got content_now s on g) (unlisted s on g))

  none_listed : plan.writes ≡ None → bytes_eq (new_list W.disk (uid_number top)) content_now ≡ true → NoneIsListed W.disk (uid_number top)
  none_listed plain same s on = falls_to (has s content_now) (λ l. never (ap (λ ss. has s ss) (same_list (new_list W.disk (uid_number top))
      content_now same) ∙ l) (list_lacks plan got content_now s (join_target plan s on) (none_got plain same s)))

  -- the list stays
  stays : bytes_eq (new_list W.disk (uid_number top)) content_now ≡ true → (c : Pair) → SeesEntry x c (changed W.disk (machine.Agree
      (uid_number top))) → SeesEntry x c (changed W.disk (machine.Pass (uid_number top))) → ConfirmGoes x c (uid_number top) W
  stays same c agreed passed = by plan.writes refl
    where
      by : (o : Option Packed) → (W.disk.plan (uid_number top)).writes ≡ o → ConfirmGoes x c (uid_number top) W
      by None plain = record {
        effect = machine.Pass (uid_number top);
        allowed = record {
          asked = claims.asked;
          plain = plain;
          none = none_got plain same;
          unlisted = none_listed plain same;
          clear = booked.clear;
          unconfirmed = booked.unconfirmed;
        };
        which = inr (inl refl);
        rest = refl;
        confs = λ z h. h;
        lights = λ z h. marked_stays W.disk (uid_number top) W.disk.light z h;
        taken = λ u. inr (marked_now W.disk (uid_number top) W.disk.light u);
        sent = refl;
        there = passed;
      }
      by (Some w) writes = record {
        effect = machine.Agree (uid_number top);
        allowed = record {
          asked = claims.asked;
          writes = ap is_some writes;
          same = same;
          unlisted = unlisted;
          clear = booked.clear;
          locked = booked.locked (inl (ap is_some writes));
        };
        which = inl refl;
        rest = refl;
        confs = λ z h. marked_stays W.disk (uid_number top) W.disk.conf z h;
        lights = λ z h. h;
        taken = λ u. inl (marked_now W.disk (uid_number top) W.disk.conf u);
        sent = refl;
        there = agreed;
      }

  abbrev Entries : List ObjectState
  Entries = entries_after top grants excluded included d

  -- the list changes
  enters : bytes_eq (new_list W.disk (uid_number top)) content_now ≡ false → prepare_answer top Entries d ≡ Ready →
      first_of_each is_bare Entries ≡ None → ConfirmGoes x (pair_prepared top Entries d) (uid_number top) W
  enters other ready bare =
      let h : Held x d W.disk = held_is x d W.disk sees in
      let q : ObjectState = entry_state x top h.0 (new_list W.disk (uid_number top)) in
      let stands : IsOf (entry x) Entries q = stands_there x d W.disk top grants excluded included sees claims.says new h.0 h.1 h.2 other in
      let none : refusal_in top d q ≡ None = no_refusal top d Entries ready q stands.0 in
      let free : W.disk.entry_pend ≡ None = place_free (entry x) d packed_entry (Some W.disk.entry) W.disk.entry_pend sees.pair
      (free_state top d q none).0 in
      let fits : FitsVersion W.disk.entry = subst (λ v. v < 18446744073709551615) (ap (λ (e : Packed). e.version) h.2)
      (entry_fits x top d h.0 (new_list W.disk (uid_number top)) none h.1) in
      let one : AreOne packed_entry (entry x) Entries (entry_hold W.disk (uid_number top)).new = is_one x d W.disk top grants excluded
      included sees claims.says new h.0 h.1 h.2 fits other in
      let s = has_target x d W.disk top grants excluded included sees claims.says new h.0 h.1 h.2 other in
      let store = not_empty (state_entry q).stores
      (not_there (same_nodes (state_entry q).stores []) (confirmed.NoStores x) (each_none is_bare Entries q bare stands.0)) in
      record {
        effect = machine.Enter (uid_number top);
        allowed = record {
          asked = claims.asked;
          free = free;
          other = other;
          stores = (
            store.0,
            ap (λ ss. has store.0 ss)
                (sym (ap (λ (e : Packed). e.content) (one q stands) ∙ entry_content (uid_number top) plan got W.disk.entry)) ∙ store.1,
          );
          undone = booked.undone other;
          unlisted = unlisted;
          locked = booked.locked (inr other);
        };
        which = inr (inr refl);
        rest = refl;
        confs = λ z h. marked_stays W.disk (uid_number top) W.disk.conf z h;
        lights = λ z h. h;
        taken = λ u. inl (marked_now W.disk (uid_number top) W.disk.conf u);
        sent = refl;
        there = entering_keeps x d W.disk top Entries q s.0 sees unprepared free begun s.1 stands one;
      }

  -- with the entries prepared, and with none to prepare
  pub prepared_goes : prepare_answer top Entries d ≡ Ready → first_of_each is_bare Entries ≡ None →
      ConfirmGoes x (pair_prepared top Entries d) (uid_number top) W
  prepared_goes ready bare = by (bytes_eq (new_list W.disk (uid_number top)) content_now) refl
    where
      by : (b : Bool) → bytes_eq (new_list W.disk (uid_number top)) content_now ≡ b →
          ConfirmGoes x (pair_prepared top Entries d) (uid_number top) W
      by false other = enters other ready bare
      by true same =
          let h : Held x d W.disk = held_is x d W.disk sees in
          let none : HasNone (entry x) Entries = rests x d W.disk top grants excluded included sees claims.says new h.0 h.1 h.2 same in
          stays same (pair_prepared top Entries d) (agreeing_keeps x d W.disk top Entries sees unprepared begun none)
          (passing_keeps x d W.disk top Entries sees unprepared begun none)

  pub quiet_goes : Entries ≡ [] → ConfirmGoes x d (uid_number top) W
  quiet_goes empty = by (bytes_eq (new_list W.disk (uid_number top)) content_now) refl
    where
      by : (b : Bool) → bytes_eq (new_list W.disk (uid_number top)) content_now ≡ b → ConfirmGoes x d (uid_number top) W
      by false other =
          let h : Held x d W.disk = held_is x d W.disk sees in
          let q : ObjectState = entry_state x top h.0 (new_list W.disk (uid_number top)) in
          absurd (subst (λ ss. Among q ss) empty
          (stands_there x d W.disk top grants excluded included sees claims.says new h.0 h.1 h.2 other).0)
      by true same = let kept = quiet_confirms_keep x d W.disk (uid_number top) sees in stays same d kept.0 kept.1

-- ---- locks and refusals

pub locks_say : (xs : List ℕ) (p : Path) (n : Naming) → AreAll is_say (lock_all xs p n).outs
locks_say [] p n = refl
locks_say (y ∷ ys) p n = all_both is_say (lock_in y p n (at_number y n.objects)).outs (lock_all ys p (lock_in y p n
    (at_number y n.objects)).part).outs (one (at_number y n.objects)) (locks_say ys p (lock_in y p n (at_number y n.objects)).part)
  where
    one : (o : Option Named) → AreAll is_say (lock_in y p n o).outs
    one None = refl
    one (Some o) = lock_says y p mode.Exclude o

locks_confirmed : (xs : List ℕ) (p : Path) (n : Naming) → (let z = (lock_all xs p n).part in z.confirmed) ≡ n.confirmed
locks_confirmed [] p n = refl
locks_confirmed (y ∷ ys) p n = locks_confirmed ys p (lock_in y p n (at_number y n.objects)).part ∙ one (at_number y n.objects)
  where
    one : (o : Option Named) → (let z = (lock_in y p n o).part in z.confirmed) ≡ n.confirmed
    one None = refl
    one (Some o) = refl

-- no check answers Yes
abbrev Refuses : Option ConfirmedReply → Type 0
Refuses o = o ≡ Some confirmed.Yes → ⊥

either_refuses : (a b : Option ConfirmedReply) → Refuses a → Refuses b → Refuses (either a b)
either_refuses None b f g h = g h
either_refuses (Some r) b f g h = f h

each_refuses : {A : Type 0} (f : A → Option ConfirmedReply) → ((a : A) → Refuses (f a)) → (xs : List A) → Refuses (first_of_each f xs)
each_refuses f one [] h = cc h
each_refuses f one (a ∷ more) h = either_refuses (f a) (first_of_each f more) (one a) (each_refuses f one more) h

module _ (p : Path) (grants : Grants) (excluded included : Marks) (d : Pair) (n : Naming) where
  abbrev Locked_now : List ℕ
  Locked_now = wanted (top_of p) grants excluded d

  abbrev Entries_now : List ObjectState
  Entries_now = entries_after (top_of p) grants excluded included d

  by_test : (b : Bool) (r : ConfirmedReply) → (r ≡ confirmed.Yes → ⊥) → Refuses (if b then Some r else None)
  by_test true r other h = other (some_is refl h)
  by_test false r other h = cc h

  by_grant : (b : Bool) (r : ConfirmedReply) → (r ≡ confirmed.Yes → ⊥) → Refuses (if b then None else Some r)
  by_grant true r other h = cc h
  by_grant false r other h = other (some_is refl h)

  other_refuses : (g : ℕ × ℕ) → Refuses (other_grant n g)
  other_refuses g = by_grant (g.1 == n.inc) (confirmed.Changed (what.Inc g.1 n.inc)) (λ h. cc h)

  lock_refuses : (y : ℕ) → Refuses (refused_exclude p n y)
  lock_refuses y = by (conflict_in y p (at_number y n.objects))
    where
      by : (o : Option Row) → Refuses (option_map (λ r. confirmed.Conflict (last_uid r.holder) r.mode) o)
      by None h = cc h
      by (Some r) h = cc h

  there_refuses : (m : ℕ × ℕ) → Refuses (is_there d m)
  there_refuses m = by_test (is_listed m.1 (listed_entry m.0 d).stores) (confirmed.Listed m.0 m.1) (λ h. cc h)

  bare_refuses : (s : ObjectState) → Refuses (is_bare s)
  bare_refuses s = by_test (same_nodes (state_entry s).stores []) (confirmed.NoStores s.uid.num) (λ h. cc h)

  checks_refuse : Refuses (checked p grants excluded included d n)
  checks_refuse = either_refuses (first_of_each (other_grant n) grants) (either (first_of_each (refused_exclude p n) Locked_now)
      (either (first_of_each (is_there d) included) (first_of_each is_bare Entries_now)))
      (each_refuses (other_grant n) other_refuses grants)
      (either_refuses (first_of_each (refused_exclude p n) Locked_now) (either (first_of_each (is_there d) included)
      (first_of_each is_bare Entries_now)) (each_refuses (refused_exclude p n) lock_refuses Locked_now)
      (either_refuses (first_of_each (is_there d) included) (first_of_each is_bare Entries_now)
      (each_refuses (is_there d) there_refuses included) (each_refuses is_bare bare_refuses Entries_now)))

  -- with nothing to refuse no included store is listed, and each new entry has a store
  pub last_two : checked p grants excluded included d n ≡ None →
      (first_of_each (is_there d) included ≡ None) × (first_of_each is_bare Entries_now ≡ None)
  last_two h =
      let one = both_none (first_of_each (other_grant n) grants) (either (first_of_each (refused_exclude p n) Locked_now)
      (either (first_of_each (is_there d) included) (first_of_each is_bare Entries_now))) h in
      let two = both_none (first_of_each (refused_exclude p n) Locked_now)
      (either (first_of_each (is_there d) included) (first_of_each is_bare Entries_now)) one.1 in
      both_none (first_of_each (is_there d) included) (first_of_each is_bare Entries_now) two.1

-- ---- sets

on_with : (u w : Uid) (us : List Uid) → is_on (with_uid w us) u ≡ true → (u ≡ w) ⊎ (is_on us u ≡ true)
on_with u w [] on = ⊎_elim (λ same. inl (sym (uid_is w u same))) (λ rest. inr rest) (or_cases (uid_eq w u) false on)
on_with u w (v ∷ vs) on = by (uid_order w v) on (on_with u w vs)
  where
    first : is_on (w ∷ v ∷ vs) u ≡ true → (u ≡ w) ⊎ (is_on (v ∷ vs) u ≡ true)
    first h = ⊎_elim (λ same. inl (sym (uid_is w u same))) (λ rest. inr rest) (or_cases (uid_eq w u) (is_on (v ∷ vs) u) h)

    more : is_on (v ∷ with_uid w vs) u ≡ true → (is_on (with_uid w vs) u ≡ true → (u ≡ w) ⊎ (is_on vs u ≡ true)) →
        (u ≡ w) ⊎ (is_on (v ∷ vs) u ≡ true)
    more h ih = ⊎_elim (λ same. inr (or_left (uid_eq v u) (is_on vs u) same)) (λ rest. ⊎_elim (λ one. inl one)
        (λ old. inr (or_right (uid_eq v u) (is_on vs u) old)) (ih rest)) (or_cases (uid_eq v u) (is_on (with_uid w vs) u) h)

    by : (r : Ordering) → is_on (match_ordering r (w ∷ v ∷ vs) (v ∷ vs) (v ∷ with_uid w vs)) u ≡ true →
        (is_on (with_uid w vs) u ≡ true → (u ≡ w) ⊎ (is_on vs u ≡ true)) → (u ≡ w) ⊎ (is_on (v ∷ vs) u ≡ true)
    by Less h ih = first h
    by Equal h ih = inr h
    by Greater h ih = more h ih

-- ---- the walk

module _ (x : ℕ) (tops : Kinds) (e : ℕ) (d : Disk) (t v : Parts) (n : Naming) (from : ℕ) (h : Head) (grants : Grants)
    (excluded included : Marks) (outs : List Effect) (M : Seen) (named : t.naming ≡ Some n)
    (W : World) (sees : SeesDisks x tops W (up 1 d t M)) (own : actor h.path ≡ top_of h.path)
    (claims : ClaimsConfirm x W (uid_number (top_of h.path)) grants excluded included)
    (booked : IsNewConfirm h.path grants excluded included d.names n → IsBooked W.disk (uid_number (top_of h.path))) where
  abbrev top : Uid
  top = top_of h.path

  -- the walk is followed from the beginning, and again from the confirmation
  abbrev Early : Kinds
  Early = followed tops W (λ n. false)

  abbrev Late : machine.Effect → Kinds
  Late f = followed tops (after W f) (λ n. false)

  abbrev P : Seen → Type 0
  P N = IsSeenByDisks x Early N
      ⊎ (IsNewConfirm h.path grants excluded included d.names n × IsConfirmedNow x tops (uid_number (top_of h.path)) W N)

  abbrev End : Parts → Disk → Seen → Type 0
  End p c N = ((o : Naming) × (p ≡ with_naming t o) × IsUnconfirmed h.path grants excluded included d.names n o
      × IsSeenByDisks x Early (up 1 c p N))
      ⊎ (IsNewConfirm h.path grants excluded included d.names n × (p ≡ with_naming t (confirms (top_of h.path)
      (with_locks h.path grants excluded d.names n))) × IsConfirmedNow x tops (uid_number (top_of h.path)) W (up 1 c p N))

  early : SeesDisks x Early W (up 1 d t M)
  early = walks_are_followed x tops (Some (record { from = W; noted = λ n. false })) W (up 1 d t M)
      (record { effects = []; allowed = tt; here = refl; only = tt }) sees

  confirmed_seen : (c : Pair) (goes : ConfirmGoes x c (uid_number (top_of h.path)) W) (N : Seen) → SeesDisks x Early W (up 1 d t N) →
      SeesDisks x (Late goes.effect) (after W goes.effect) (up 1 (record d { names = c }) t N)
  confirmed_seen c goes N s =
      walks_are_followed x (record tops { walk = None }) (Some (record { from = after W goes.effect; noted = λ n. false }))
      (after W goes.effect) (up 1 (record d { names = c }) t N) (record { effects = []; allowed = tt; here = refl; only = tt })
      (confirm_goes_seen x (record tops { walk = None }) W N d t (walks_are_followed x Early None W (up 1 d t N) tt s) c
      (uid_number (top_of h.path)) goes refl)

  abbrev Answer : ConfirmedReply → Effect
  Answer r = Send from (response (asked_by h) (Reply.Confirmed r))

  abbrev Goal : Served Naming ConfirmedReply → Type 0
  Goal r = sends_answer from h (with_naming t r.part) r.outs (option_map Reply.Confirmed r.reply) ≡ Took v outs →
      Walks P e 1 outs (End v) d M

  entry_now : SeesEntry x d.names W.disk
  entry_now = sees.entry (record { number = 1; disk = d; live = Some t }) (node_here M 1 (record { number = 1; disk = d; live = Some t }))

  confirmed_now : SeesConfirmed n W.disk
  confirmed_now = sees.confirmed (record { number = 1; disk = d; live = Some t }) t n
      (node_here M 1 (record { number = 1; disk = d; live = Some t })) refl named

  begun_now : W.disk.begun (uid_number top) ≡ true
  begun_now = (sees.whole.mail (mail.Confirm (uid_number top)) claims.asked).0

  took : (o : Naming) (es : List Effect) (r : ConfirmedReply) → Walks P e 1 (es ++ Answer r ∷ []) (End (with_naming t o)) d M →
      Goal (record { part = o; outs = es; reply = Some r })
  took o es r walk is = took_is x 1 tops e (λ a b. Walks P e 1 b (End a) d M) (with_naming t o) (es ++ Answer r ∷ []) v outs is walk

  -- an answer that claims nothing
  refused : (r : ConfirmedReply) → (r ≡ confirmed.Yes → ⊥) → (o : Naming) → o.confirmed ≡ n.confirmed → IsUnconfirmed h.path grants excluded
      included d.names n o → (N : Seen) → SeesDisks x Early W (up 1 d t N) → Walks P e 1 (Answer r ∷ []) (End (with_naming t o)) d N
  refused r other o same left N s = λ more quiet.
      let p : Post = record { from = 1; to = from; message = response (asked_by h) (Reply.Confirmed r) } in inl (
        o,
        refl,
        left,
        (
          W,
          parts_seen x 1 Early W (said e more (posted p N)) d t (with_naming t o) refl
              (λ f z is. let it : o ≡ z = (let j : ◌≡◌ {A = Option Naming} (Some o) (Some z) = is in cc j) in
              subst (λ (q : Naming). SeesConfirmed q W.disk) it (λ a on. f n named a (ap (λ us. is_on us a) (sym same) ∙ on)))
              (says_seen x Early W (up 1 d t (posted p N)) (numbered e more) (posts_seen x Early W (up 1 d t N) p (claim r other) s)),
        ),
      )
    where
      claim : (r : ConfirmedReply) → (r ≡ confirmed.Yes → ⊥) →
          Claims x Early W N.lines (record { from = 1; to = from; message = response (asked_by h) (Reply.Confirmed r) })
      claim confirmed.Yes other = absurd (other refl)
      claim (confirmed.Conflict holder m) other = tt
      claim (confirmed.Changed w) other = tt
      claim (confirmed.NoStores y) other = tt
      claim (confirmed.Listed y s) other = tt

  -- the top is taken: Yes
  says_yes : (T : Kinds) (V : World) (o : Naming) →
      ((c : Disk) (N : Seen) → IsSeenByDisks x T (up 1 c (with_naming t o) N) → End (with_naming t o) c N) →
      o.confirmed ≡ with_uid top n.confirmed → V.disk.begun (uid_number top) ≡ true → In (mail.Confirm (uid_number top)) V.sent →
      (undecided V.disk (uid_number top) ≡ true → (V.disk.conf (uid_number top) ≡ true) ⊎ (V.disk.light (uid_number top) ≡ true))
      → (c : Disk) (N : Seen) → SeesDisks x T V (up 1 c t N) → Walks P e 1 (Answer confirmed.Yes ∷ []) (End (with_naming t o)) c N
  says_yes T V o to with_top begun asked taken c N s = λ more quiet.
      let m : mail.Message = mail.Confirmed (uid_number top) in
      let U : World = after V (machine.Send m) in
      let p : Post = record { from = 1; to = from; message = response (asked_by h) (Reply.Confirmed confirmed.Yes) } in
      to c (said e more (posted p N)) (
        U,
        parts_seen x 1 T U (said e more (posted p N)) c t (with_naming t o) refl
            (λ f z is. let it : o ≡ z = (let j : ◌≡◌ {A = Option Naming} (Some o) (Some z) = is in cc j) in
            subst (λ (q : Naming). SeesConfirmed q V.disk) it
            (λ a on. ⊎_elim (λ same. (
              ap (λ w. V.disk.begun (uid_number w)) same ∙ begun,
              subst (λ w. undecided V.disk (uid_number w) ≡ true →
                  (V.disk.conf (uid_number w) ≡ true) ⊎ (V.disk.light (uid_number w) ≡ true)) (sym same) taken,
            ))
            (λ old. f n named a old) (on_with a top n.confirmed (ap (λ us. is_on us a) (sym with_top) ∙ on))))
            (says_seen x T U (up 1 c t (posted p N)) (numbered e more) (posts_seen x T U (up 1 c t N) p (subst (λ w.
            In (mail.Confirmed (uid_number w)) U.sent) (sym own) (inl refl)) (sends_seen x T V (up 1 c t N) m (asked, taken) refl s))),
      )

  -- ---- answered again

  again : (is_on n.confirmed top || is_prepared top d.names) ≡ true → is_over h.path n ≡ false → Goal (reply (confirms top n) confirmed.Yes)
  again on untold = took (confirms top n) [] confirmed.Yes
      (says_yes Early W (confirms top n) (λ c N z. inl (confirms top n, refl, inr (inr (refl, on, untold)), z)) refl begun_now claims.asked
      (⊎_elim (λ c. (confirmed_now top c).1) (λ p. (prepared_is_taken x d.names W top entry_now p claims.asked).1)
      (or_cases (is_on n.confirmed top) (is_prepared top d.names) on)) d M early)

  -- ---- checked anew

  module _ (new : IsNewConfirm h.path grants excluded included d.names n) where
    abbrev Locks : Did Naming
    Locks = lock_all (wanted top grants excluded d.names) h.path n

    abbrev New_entries : List ObjectState
    New_entries = entries_after top grants excluded included d.names

    locks_are : AreAll is_say (let l = lock_all (wanted top grants excluded d.names) h.path n in l.outs)
    locks_are = locks_say (wanted top grants excluded d.names) h.path n

    same_confirmed : (let l = lock_all (wanted top grants excluded d.names) h.path n in let z = l.part in z.confirmed) ≡ n.confirmed
    same_confirmed = locks_confirmed (wanted top grants excluded d.names) h.path n

    two : (first_of_each (is_there d.names) included ≡ None) × (first_of_each is_bare New_entries ≡ None)
    two = last_two h.path grants excluded included d.names n new.free

    are_new_now : AreNew (marked x included) W.disk.entry.content
    are_new_now = are_new x d.names W.disk entry_now included two.0

    -- the machine has confirmed it
    confirmed_by : (c : Pair) (goes : ConfirmGoes x c (uid_number top) W) (N : Seen) →
        SeesDisks x (Late goes.effect) (after W goes.effect) (up 1 (record d { names = c }) t N)
        → Walks P e 1 (Answer confirmed.Yes ∷ []) (End (with_naming t (confirms top Locks.part))) (record d { names = c }) N
    confirmed_by c goes N s = says_yes (Late goes.effect) (after W goes.effect) (confirms top Locks.part) (λ b L z.
        inr (new, refl, (goes.effect, goes.which, goes.allowed, z))) (ap (λ us. with_uid top us) same_confirmed) (ap (λ (S : State).
        S.begun (uid_number top)) goes.rest ∙ begun_now) (subst (λ ms. In (mail.Confirm (uid_number top)) ms) (sym goes.sent) claims.asked)
        (λ u. goes.taken (sym (ap (λ (S : State). undecided S (uid_number top)) goes.rest) ∙ u)) (record d { names = c }) N s

    quiet : New_entries ≡ [] → Goal (confirm_entries top [] d.names Locks)
    quiet empty = took (confirms top Locks.part) Locks.outs confirmed.Yes
        (says_walk P x 1 (Late goes.effect) e t (End (with_naming t (confirms top Locks.part))) Locks.outs (Answer confirmed.Yes ∷ []) d
        (after W goes.effect) locks_are (λ N s. confirmed_by d.names goes N s) M
        (confirmed_seen d.names goes M early))
      where
        goes : ConfirmGoes x d.names (uid_number top) W
        goes = quiet_goes x d.names W top grants excluded included entry_now sees.whole.core claims begun_now are_new_now (booked new)
            new.unprepared empty

    looked : (ss : List ObjectState) (r : ConfirmedReply) → (r ≡ confirmed.Yes → ⊥) →
        Goal (record { part = Locks.part; outs = Locks.outs ++ Do Look ∷ []; reply = Some r })
    looked ss r other = took Locks.part (Locks.outs ++ Do Look ∷ []) r
        (subst (λ es. Walks P e 1 es (End (with_naming t Locks.part)) d M) (sym (append_assoc Locks.outs (Do Look ∷ []) (Answer r ∷ [])))
        (says_walk P x 1 Early e t (End (with_naming t Locks.part)) Locks.outs (Do Look ∷ Answer r ∷ []) d W locks_are
        (λ N s. (stops N s, refused r other Locks.part same_confirmed (inr (inl (refl, new))) N s)) M early))
      where
        stops : (N : Seen) → SeesDisks x Early W (up 1 d t N) → Stops P e 1 Look d N
        stops N s Before = inl (stops_seen x Early e 1 d (Some t) N (W, s))
        stops N s After = inl (stops_seen x Early e 1 d (Some t) N (W, s))
        stops N s (InPart which) = inl (stops_seen x Early e 1 d (Some t) N (W, s))

    readied : (ss : List ObjectState) → New_entries ≡ ss → prepare_answer top ss d.names ≡ Ready → Goal (prepared_by top ss Locks Ready)
    readied ss is ready = took (confirms top Locks.part)
        (Locks.outs ++ Do Look ∷ Do (Prepare role.Names top ss) ∷ Say (body.Prepared 1 top role.Names) ∷ []) confirmed.Yes
        (subst (λ es. Walks P e 1 es (End (with_naming t (confirms top Locks.part))) d M) (sym (append_assoc Locks.outs
        (Do Look ∷ Do (Prepare role.Names top ss) ∷ Say (body.Prepared 1 top role.Names) ∷ []) (Answer confirmed.Yes ∷ [])))
        (says_walk P x 1 Early e t (End (with_naming t (confirms top Locks.part))) Locks.outs
        (Do Look ∷ Do (Prepare role.Names top ss) ∷ Say (body.Prepared 1 top role.Names) ∷ Answer confirmed.Yes ∷ []) d W locks_are
        (λ N s. (
          looks N s,
          (
            prepares N s,
            confirmed_by (pair_prepared top ss d.names) goes (said e (body.Prepared 1 top role.Names ∷ []) N)
                (says_seen x (Late goes.effect) (after W goes.effect) (up 1 (record d { names = pair_prepared top ss d.names }) t N)
                (numbered e (body.Prepared 1 top role.Names ∷ [])) (after_it N s)),
          ),
        )) M early))
      where
        goes : ConfirmGoes x (pair_prepared top ss d.names) (uid_number top) W
        goes = subst (λ qs. ConfirmGoes x (pair_prepared top qs d.names) (uid_number top) W) is
            (prepared_goes x d.names W top grants excluded included entry_now sees.whole.core claims begun_now are_new_now (booked new)
            new.unprepared (ap (λ qs. prepare_answer top qs d.names) is ∙ ready) two.1)

        after_it : (N : Seen) → SeesDisks x Early W (up 1 d t N) →
            SeesDisks x (Late goes.effect) (after W goes.effect) (up 1 (record d { names = pair_prepared top ss d.names }) t N)
        after_it N s = confirmed_seen (pair_prepared top ss d.names) goes N s

        looks : (N : Seen) → SeesDisks x Early W (up 1 d t N) → Stops P e 1 Look d N
        looks N s Before = inl (stops_seen x Early e 1 d (Some t) N (W, s))
        looks N s After = inl (stops_seen x Early e 1 d (Some t) N (W, s))
        looks N s (InPart which) = inl (stops_seen x Early e 1 d (Some t) N (W, s))

        prepares : (N : Seen) → SeesDisks x Early W (up 1 d t N) → Stops P e 1 (Prepare role.Names top ss) d N
        prepares N s Before = inl (stops_seen x Early e 1 d (Some t) N (W, s))
        prepares N s After = inr (
          new,
          (
            goes.effect,
            goes.which,
            goes.allowed,
            stops_seen x (Late goes.effect) e 1 (record d { names = pair_prepared top ss d.names }) (Some t) N
                (after W goes.effect, after_it N s),
          ),
        )
        prepares N s (InPart which) = inl (stops_seen x Early e 1 d (Some t) N (W, s))

    by_answer : (ss : List ObjectState) → New_entries ≡ ss → (a : Prep) → prepare_answer top ss d.names ≡ a →
        Goal (prepared_by top ss Locks a)
    by_answer ss is Ready a = readied ss is a
    by_answer ss is (Already u) a = looked ss (confirmed.Conflict top mode.Write) (λ same. cc same)
    by_answer ss is (Old u w) a = looked ss (confirmed.Conflict nobody mode.Write) (λ same. cc same)
    by_answer ss is (InDoubt u holder) a = looked ss (confirmed.Conflict holder mode.Write) (λ same. cc same)

    by_entries : (ss : List ObjectState) → New_entries ≡ ss → Goal (confirm_entries top ss d.names Locks)
    by_entries [] is = quiet is
    by_entries (s ∷ ss) is = by_answer (s ∷ ss) is (prepare_answer top (s ∷ ss) d.names) refl

  -- ---- the whole

  by_checks : is_over h.path n ≡ false → has_all grants n ≡ true → is_on n.confirmed top ≡ false → is_prepared top d.names ≡ false →
      (o : Option ConfirmedReply) → checked h.path grants excluded included d.names n ≡ o →
      Goal (confirm_new h.path grants excluded included d.names n o)
  by_checks untold has_each off unprepared (Some r) is = took n [] r
      (refused r (λ same. checks_refuse h.path grants excluded included d.names n (is ∙ ap Some same)) n refl (inl refl) M early)
  by_checks untold has_each off unprepared None is =
      by_entries (record { untold = untold; named = has_each; unconfirmed = off; unprepared = unprepared; free = is })
      (entries_after top grants excluded included d.names) refl

  by_all : (a b c f : Bool) → is_over h.path n ≡ a → has_all grants n ≡ b → is_on n.confirmed top ≡ c → is_prepared top d.names ≡ f
      → Goal (if a || not b then void n else (if c || f then reply (confirms top n) confirmed.Yes else confirm_new h.path grants excluded
      included d.names n (checked h.path grants excluded included d.names n)))
  by_all true b c f is_a is_b is_c is_f = λ is. absurd (cc is)
  by_all false false c f is_a is_b is_c is_f = λ is. absurd (cc is)
  by_all false true true f is_a is_b is_c is_f = again (or_left (is_on n.confirmed top) (is_prepared top d.names) is_c) is_a
  by_all false true false true is_a is_b is_c is_f = again (or_right (is_on n.confirmed top) (is_prepared top d.names) is_f) is_a
  by_all false true false false is_a is_b is_c is_f = by_checks is_a is_b is_c is_f (checked h.path grants excluded included d.names n) refl

  pub confirm_walks : Goal (confirm h.path grants excluded included d.names n)
  confirm_walks = by_all (is_over h.path n) (has_all grants n) (is_on n.confirmed top) (is_prepared top d.names) refl refl refl refl

pub confirms_walk_once : ConfirmsWalkOnce
confirms_walk_once x tops e d t v n from h grants excluded included outs M named W sees claims booked is =
    confirm_walks x tops e d t v n from h grants excluded included outs M named W sees claims.0 claims.1 booked
    (sym (ap (λ o. if_naming (λ z. served from h (with_naming t) Reply.Confirmed (confirm h.path grants excluded included d.names z)) o)
    named) ∙ is)

pub confirms_are_walked : ConfirmsAreWalked
confirms_are_walked x tops e d t v n from h grants excluded included outs M named noted W sees claims booked is =
    walks_to (λ N. IsSeenByDisks x (followed tops W (λ n. false)) N ⊎ (IsNewConfirm h.path grants excluded included d.names n
    × IsConfirmedNow x tops (uid_number (top_of h.path)) W N)) (IsSeenByDisks x tops) e 1 outs
    (End x tops e d t v n from h grants excluded included outs M named W sees claims.0 claims.1 booked v) (Up (IsSeenByDisks x tops) 1 v) d
    M
    (λ N s. ⊎_elim (λ early. before N early) (λ late. behind N late.1) s)
    (λ c N s. ⊎_elim (λ early. before (up 1 c v N) early.3) (λ late. behind (up 1 c v N) late.2) s)
    (confirms_walk_once x tops e d t v n from h grants excluded included outs M named W sees claims booked is)
  where
    before : (N : Seen) → IsSeenByDisks x (followed tops W (λ n. false)) N → IsSeenByDisks x tops N
    before N (U, s) = (U, walks_are_followed x (followed tops W (λ n. false)) tops.walk U N (along_then tops.walk W U sees.along s.along) s)

    may : (f : machine.Effect) → IsConfirmation (uid_number (top_of h.path)) f → is_only_of (may_note tops.walk) f ≡ true
    may f (inl is) = subst (λ z. is_only_of (may_note tops.walk) z ≡ true) (sym is) noted
    may f (inr (inl is)) = subst (λ z. is_only_of (may_note tops.walk) z ≡ true) (sym is) noted
    may f (inr (inr is)) = subst (λ z. is_only_of (may_note tops.walk) z ≡ true) (sym is) noted

    behind : (N : Seen) → IsConfirmedNow x tops (uid_number (top_of h.path)) W N → IsSeenByDisks x tops N
    behind N (f, which, allowed, (U, s)) = (
      U,
      walks_are_followed x (followed tops (after W f) (λ n. false)) tops.walk U N
          (along_then tops.walk (after W f) U (along_goes tops.walk W (f ∷ []) (allowed, tt) (may f which, tt) sees.along) s.along) s,
    )
