-- Where the newest decided top is one that is new in an event, each store that the naming node has for what it wrote is in time.
use Rattle.arj_law_parts.proofs.Words
use Words.{◌≡◌, ◌⊎◌, ◌≤◌, ◌<◌, ℕ, ◌==◌, List, [], ◌∷◌, filter, Bool, true, false, cond, Option, Some, None, is_some, refl, sym, ◌∙◌, ap}
use Words.{subst, inl, inr, ⊎_elim, arith, eq-eqb, eqb-true, Contains, and_parts, AllByRecursion, list_any, ObjectState, entry, object}
use Words.{writes, Line, Header, in_filter_map, in_from, in_to, held_at, at_uid, uid_number, Node, state_entry, number_tells}
use Words.{Post, Seen, see, Wrote, IsNew, uid_of}
use Words.list as members
use Words.world
use Words.class
use Rattle.arj_law_serial.proofs.Terms
use Terms.{option_map, HeaderFits, Placed, committed, recovered, Said, Top, committed_calls, kept, tops, entry_payload, first_values}
use Terms.{is_among, object_line, servers_of_line, Values, root_of, top_place, writes_on, new_book, AreRight}
use Terms.{all_at_uid, Core, World, counts_of, Done, Hold, Packed, Plan, decided_in, last, has, in_decided, Keeping, kept_holds, SeesEntry}
use Terms.{Among, packed, packed_entry, SeesStore, AreDecided, AreDecisions, AreNewestFirst, IsDecision, WroteSo, CommitsBeginIt, IsInTime}
use Terms.{IsSeenSo, Own, AreSo, kind_of, listed as entered}
use Rattle.arj_law_disk.proofs.machine.Results.{in_time}
use Rattle.arj_law_disk.specs.machine.{Laws.IsExcludedInTime, State.IsExcused, State.is_latest, State.is_latest_in, Words.In}
use Rattle.arj_law_disk_view.specs.view.Pairs.{Holder, IsOf, hold_of}
use Rattle.arj_law_runs.proofs.journal.{Books.never, Likes.some_is}
use Rattle.arj_law_runs.specs.journal.Laws.{AreApart}
use Rattle.arj_law_serial.proofs.{joint.FormRuns.kept_forms, joint.NewWriters.new_writers_last, order.Order.listed}
use Rattle.arj_law_serial.proofs.{order.Order.place_of_top, order.Order.root_of_top, order.Ties.Ties, order.Tying.all_at}
use Rattle.arj_law_serial.proofs.{order.Values.any_said, order.Values.kept_shape}
use Rattle.arj_law_serial.proofs.order.{Cleaning.has_among, Cleaning.held_some, Cleaning.state_same, Contents.one_state}
use Rattle.arj_law_serial.specs.joint.Excluded.{IsBehindIncludes, IsNewest, IsTakenOut, NodesAreSo}
use Rattle.arj_law_serial.specs.order.{Runs.IsSeenDecided, Tied.AreTied}
use Rattle.arj_model.specs.{Calls.Call, Calls.said, Last.last_from}
use Rattle.arj_start.specs.Start.{format_at}

pub all_among : (P : ObjectState → Type 0) (ss : List ObjectState) (st : ObjectState) → AllByRecursion P ss → Among st ss → P st
all_among P [] st all i = absurd i
all_among P (z ∷ ss) st all (inl is) = subst P is all.0
all_among P (z ∷ ss) st all (inr i) = all_among P ss st all.1 i

-- ---- the newest decided top

-- the first of the decided tops that count is the newest
first_is_latest : (ds : List Done) (d : Done) (es : List Done) → filter counts_of ds ≡ d ∷ es → is_latest_in ds d.top ≡ true
first_is_latest [] d es e = absurd (cc e)
first_is_latest (z ∷ ds) d es e = by z.counts e (first_is_latest ds d es)
  where
    by : (b : Bool) → cond b (z ∷ filter counts_of ds) (filter counts_of ds) ≡ d ∷ es →
        (filter counts_of ds ≡ d ∷ es → is_latest_in ds d.top ≡ true) → cond b (z.top == d.top) (is_latest_in ds d.top) ≡ true
    by true f ih = let same : z ≡ d = cc f in eq-eqb z.top d.top (ap (λ (y : Done). y.top) same)
    by false f ih = ih f

counted_in : (ds : List Done) (d : Done) (es : List Done) → filter counts_of ds ≡ d ∷ es → In d ds
counted_in [] d es e = absurd (cc e)
counted_in (z ∷ ds) d es e = by z.counts e (counted_in ds d es)
  where
    by : (b : Bool) → cond b (z ∷ filter counts_of ds) (filter counts_of ds) ≡ d ∷ es → (filter counts_of ds ≡ d ∷ es → In d ds) →
        In d (z ∷ ds)
    by true f ih = let same : z ≡ d = cc f in inl same
    by false f ih = inr (ih f)

-- a top behind which none stands is the first
newest_first : (ts : List Top) (t : Top) → AreNewestFirst ts → members.In t ts → ((u : Top) → members.In u ts → u.at ≤ t.at) →
    (us : List Top) × (ts ≡ t ∷ us)
newest_first [] t order i most = absurd i
newest_first (u ∷ ts) t order (inl is) most = (ts, ap (λ z. z ∷ ts) is)
newest_first (u ∷ ts) t order (inr i) most = let less = all_at (λ (z : Top). z.at < u.at) ts order.0 t i in let le = most u (inl refl) in
    absurd (omega (arith, less, le))

-- each of them has its decision
pub each_decision : (values : Values) (lines : List Line) (x : ℕ) (ds : List Done) (ts : List Top) → AreDecisions values lines x ds ts →
    (t : Top) → members.In t ts → (d : Done) × In d ds × IsDecision values lines x d t
each_decision values lines x [] [] are t i = absurd i
each_decision values lines x [] (u ∷ ts) are t i = absurd are
each_decision values lines x (d ∷ ds) [] are t i = absurd are
each_decision values lines x (d ∷ ds) (u ∷ ts) are t (inl is) = (d, inl refl, subst (IsDecision values lines x d) is are.0)
each_decision values lines x (d ∷ ds) (u ∷ ts) are t (inr i) = let r = each_decision values lines x ds ts are.1 t i in (r.0, inr r.1, r.2)

-- its decision
first_decision : (values : Values) (lines : List Line) (x : ℕ) (ds : List Done) (t : Top) (ts : List Top) →
    AreDecisions values lines x ds (t ∷ ts) → (d : Done) × (es : List Done) × (ds ≡ d ∷ es) × IsDecision values lines x d t
first_decision values lines x [] t ts are = absurd are
first_decision values lines x (d ∷ ds) t ts are = (d, ds, refl, are.0)

module _ (header : Header) (e : ℕ) (M : Seen) (right : AreRight new_book M.lines) (tied : Ties (first_values header) M.lines) (x : ℕ)
    (is : IsSeenSo header e x M) (t : Top) (new : IsNew e M.lines t) (wrote : Wrote M.lines x t)
    (newest : IsNewest header M.lines x (let v = is.seen in let V = v.world in V.disk) (let v = is.seen in v.decided) t) where
  abbrev seen : IsSeenDecided header x M
  seen = is.seen

  abbrev W : World
  W = seen.world

  abbrev decided : AreDecided header M.lines x W.disk.tops
  decided = seen.decided

  core : Core W.disk
  core = let w = let v = seen.sees in v.whole in w.core

  abbrev T : ℕ
  T = uid_number (uid_of M.lines t)

  -- it is one of the tops that count
  there : members.In t decided.those
  there =
      let c = wrote in
      let w = decided.all c.0 c.1 c.2 in
      let apart : AreApart (tops M.lines) = let l = listed M.lines right in l.apart in
      let i = in_from w.0 decided.those w.1 in
      let a = in_from w.0 (tops M.lines) (let q =
      (each_decision (first_values header) M.lines x (filter counts_of W.disk.tops) decided.those decided.each w.0 i).2 in q.listed) in
      let b = in_from t (tops M.lines) new.0 in
      let id : w.0.id ≡ t.id = sym w.2 ∙ c.3 in
      let place : w.0.at ≡ t.at = sym (place_of_top (tops M.lines) w.0 apart a) ∙ ap (top_place (tops M.lines)) id
      ∙ place_of_top (tops M.lines) t apart b in
      let root : w.0.root ≡ t.root = sym (root_of_top (tops M.lines) w.0 apart a) ∙ ap (root_of (tops M.lines)) id
      ∙ root_of_top (tops M.lines) t apart b in
      subst (λ z. members.In z decided.those) (λ i. record { id = id i; root = root i; at = place i }) i

  front : (us : List Top) × (decided.those ≡ t ∷ us)
  front = newest_first decided.those t decided.called there (λ u i. newest.last u (in_to u decided.those i))

  its : (d : Done) × (es : List Done) × (filter counts_of W.disk.tops ≡ d ∷ es) × IsDecision (first_values header) M.lines x d t
  its = first_decision (first_values header) M.lines x (filter counts_of W.disk.tops) t front.0
      (subst (AreDecisions (first_values header) M.lines x (filter counts_of W.disk.tops)) front.1 decided.each)

  number : its.0.top ≡ T
  number = let q = its.3 in q.number

  latest : is_latest W.disk T ≡ true
  latest = ap (is_latest_in W.disk.tops) (sym number) ∙ first_is_latest W.disk.tops its.0 its.1 its.2

  inside : In its.0 W.disk.tops
  inside = counted_in W.disk.tops its.0 its.1 its.2

  has_written : is_some (W.disk.plan T).writes ≡ true
  has_written = ap (λ n. is_some (W.disk.plan n).writes) (sym number)
      ∙ ap (λ (p : Plan). is_some p.writes) (sym (core.journal.plan its.0 inside)) ∙ by its.0.plan.writes (let q = its.3 in q.wrote)
    where
      by : (o : Option Packed) → WroteSo (first_values header) M.lines x t o → is_some o ≡ true
      by None none = let c = wrote in never c.2 (none c.0 c.1 c.3)
      by (Some w) some = refl

  last_is : last W.disk ≡ packed (last_from header M.start.marks M.lines x)
  last_is = state_same header M.lines right tied x seen.kinds W M seen.sees decided seen.begins seen.form

  -- ---- at a store

  module _ (s : ℕ) (n m : Node) (st : ObjectState) (at_naming : M.nodes 1 ≡ Some n) (at_store : M.nodes s ≡ Some m)
      (held : held_at (entry x) n.disk.names ≡ Some st) (has_it : is_among (state_entry st).stores s ≡ true) where
    sees_entry : SeesEntry x n.disk.names W.disk
    sees_entry = let v = seen.sees in v.entry n at_naming

    sees_store : SeesStore x s m.disk.store W.disk
    sees_store = let v = seen.sees in v.stores s m at_store

    in_entry : has s W.disk.entry.content ≡ true
    in_entry =
        let p = sees_entry.pair in
        let same : packed_entry st ≡ W.disk.entry = some_is (packed_entry st) W.disk.entry
        (ap (option_map packed_entry) (sym held) ∙ p.held_is) in
        ap (λ (q : Packed). has s q.content) (sym same) ∙ has_among s (state_entry st).stores ∙ has_it

    machine_in_time : IsExcludedInTime W.disk T s
    machine_in_time = in_time W (let v = seen.sees in v.whole) T s latest has_written in_entry

    holds : W.disk.held s ≡ Some (last W.disk) → IsInTime (last_from header M.start.marks M.lines x) M.lines x n m t s
    holds e =
        let p = sees_store.pair in
        let h = held_some (held_at (object x) m.disk.store) (packed (last_from header M.start.marks M.lines x)) packed
        (p.held_is ∙ e ∙ ap Some last_is) in
        inl (h.1 ∙ ap Some (one_state h.0 (last_from header M.start.marks M.lines x) h.2 (p.keyed (object x) h.0 h.1)))

    prepared : (h : Hold) → W.disk.pend s ≡ Some h → h.top ≡ T → h.new ≡ last W.disk →
        IsInTime (last_from header M.start.marks M.lines x) M.lines x n m t s
    prepared h pend top new_is =
        let p = sees_store.pair in
        let k : Holder packed (object x) m.disk.store h = p.holder h pend in
        let who : k.action ≡ uid_of M.lines t = number_tells k.action (uid_of M.lines t) (ap (λ (y : Hold). y.top) k.is ∙ top) in
        let same : (z : ObjectState) → IsOf (object x) k.states z → z ≡ last_from header M.start.marks M.lines x = (λ z of.
        let hold : hold_of packed k.action z ≡ h = some_is (hold_of packed k.action z) h
        (sym (p.held_by k.action k.states z k.prepared of) ∙ pend) in
        one_state z (last_from header M.start.marks M.lines x) (ap (λ (y : Hold). y.new) hold ∙ new_is ∙ last_is) of.1) in
        inr (inl (
          k.states,
          subst (λ u. at_uid u m.disk.store.pend ≡ Some k.states) who k.prepared,
          (subst (IsOf (object x) k.states) (same k.state k.of) k.of, same),
        ))

    taken_out : IsExcused W.disk T s → IsTakenOut M.lines x n t s
    taken_out y = ⊎_elim
        (λ (own : y.by_entry.top ≡ T). made t new.0 refl (sym own))
        (λ other. let b = is.takers t y.by_entry new (ap (decided_in W.disk.tops) (sym number) ∙ in_decided W.disk.tops its.0 inside)
        y.there other.0 other.1 in made b.0 b.1 b.3 b.2) y.whose
      where
        k : Holder packed_entry (entry x) n.disk.names y.by_entry
        k = let p = sees_entry.pair in p.holder y.by_entry y.there

        lacks : is_among (state_entry k.state).stores s ≡ false
        lacks = sym (has_among s (state_entry k.state).stores) ∙ ap (λ (q : Hold). has s q.new.content) k.is ∙ y.lacks

        -- of states of the entry that are prepared by one action each is packed alike, and in form
        only : (z : ObjectState) → IsOf (entry x) k.states z → z ≡ k.state
        only z of =
            let p = sees_entry.pair in
            let disk = (is.forms 1 n at_naming).0 in
            let form : (a : ObjectState) → IsOf (entry x) k.states a → (a.class ≡ class.Entry) ×
            (a.payload ≡ entry_payload (servers_of_line (object_line header x)) (state_entry a).stores)
            × (a.format ≡ format_at header.format a.version) = (λ a its.
            all_among (Own (entered (kind_of header x))) k.states a (all_at_uid (AllByRecursion (Own (entered (kind_of header x)))) k.action
            k.states n.disk.names.pend disk.names.pend k.prepared) its.0 its.1) in
            let hold : hold_of packed_entry k.action z ≡ hold_of packed_entry k.action k.state =
            some_is (hold_of packed_entry k.action z) (hold_of packed_entry k.action k.state)
            (sym (p.held_by k.action k.states z k.prepared of) ∙ p.held_by k.action k.states k.state k.prepared k.of) in
            let same : packed_entry z ≡ packed_entry k.state = ap (λ (y : Hold). y.new) hold in
            (λ i. record {
              uid = (of.1 ∙ sym k.of.1) i;
              class = ((form z of).0 ∙ sym (form k.state k.of).0) i;
              version = ap (λ (q : Packed). q.version) same i;
              writer = number_tells z.writer k.state.writer (ap (λ (q : Packed). q.writer) same) i;
              payload = ((form z of).1 ∙ ap (entry_payload (servers_of_line (object_line header x))) (ap (λ (q : Packed). q.content) same)
                  ∙ sym (form k.state k.of).1) i;
              format = ((form z of).2 ∙ ap (λ (q : Packed). format_at header.format q.version) same ∙ sym (form k.state k.of).2) i;
            })

        made : (b : Top) → Contains (tops M.lines) b → b.root ≡ t.root → uid_number (uid_of M.lines b) ≡ y.by_entry.top →
            IsTakenOut M.lines x n t s
        made b c root top = record {
          by_top = b;
          committed = c;
          unit = root;
          states = k.states;
          prepared = subst (λ u. at_uid u n.disk.names.pend ≡ Some k.states)
              (number_tells k.action (uid_of M.lines b) (ap (λ (q : Hold). q.top) k.is ∙ sym top)) k.prepared;
          new = k.state;
          there = (k.of, only);
          lacks = lacks;
        }

    pub is_in_time : IsInTime (last_from header M.start.marks M.lines x) M.lines x n m t s
    is_in_time = ⊎_elim (λ h. holds h) (λ r. ⊎_elim (λ (h, pend, top, is_new). prepared h pend top is_new) (λ y. inr (inr (taken_out y))) r)
        machine_in_time

-- ---- by the lock machine

-- an object that was written was called
pub was_called : (values : Values) (lines : List Line) (x : ℕ) (c : Call) → members.In c (committed_calls lines) → writes_on x c ≡ true →
    list_any (λ (z : Placed Said). z.it.x == x) (said lines) ≡ true
was_called values lines x c i write =
    let f = in_filter_map (kept (committed lines) (recovered lines)) c (said lines) i in
    let k = kept_shape values lines x f.0 c f.2 in
    any_said x f.0 (said lines) f.1 (sym k.1 ∙ eqb-true c.x x (and_parts (c.x == x) (writes c.op) write).0)

-- a top that counts wrote, or it didn't
wrote_or_not : (values : Values) (lines : List Line) (x : ℕ) (d : Done) (u : Top) → IsDecision values lines x d u →
    Wrote lines x u ⊎ (Wrote lines x u → ⊥)
wrote_or_not values lines x d u q = by d.plan.writes q.wrote
  where
    by : (o : Option Packed) → WroteSo values lines x u o → Wrote lines x u ⊎ (Wrote lines x u → ⊥)
    by None none = inr (λ c. never c.2 (none c.0 c.1 c.3))
    by (Some w) some = let l = some.1 in inl (some.0, l.there, l.write, l.whose)

pub newest_by_calls : (header : Header) (e : ℕ) (M : Seen) → AreRight new_book M.lines → AreTied (first_values header) M.lines →
    CommitsBeginIt e M.lines → (x : ℕ) (is : IsSeenSo header e x M) (t : Top) → IsNew e M.lines t → Wrote M.lines x t
    → IsBehindIncludes header M.lines x (let v = is.seen in let V = v.world in V.disk) (let v = is.seen in v.decided) t →
    IsNewest header M.lines x (let v = is.seen in let V = v.world in V.disk) (let v = is.seen in v.decided) t
newest_by_calls header e M right tied begins x is t new wrote b = record {
  last = λ u c.
      let d = is.seen.decided in
      let q = each_decision (first_values header) M.lines x (filter counts_of (let v = is.seen in let V = v.world in V.disk.tops)) d.those
      d.each u (in_from u d.those c) in
      let w = wrote in
      let s = tied x (was_called (first_values header) M.lines x w.0 (in_from w.0 (committed_calls M.lines) w.1) w.2) in
      ⊎_elim
      (λ (yes : Wrote M.lines x u). new_writers_last (first_values header) M.lines x s.0 e right s.1 begins t u new wrote (let r = q.2 in
      r.listed) yes)
      (λ none. b.last u c none) (wrote_or_not (first_values header) M.lines x q.0 u q.2);
}

-- ---- what stands of objects on nodes

pub kept_nodes_form : (hd : Header) (x : ℕ) → HeaderFits hd → (w : world.World) → Keeping hd w → (sent : List Post) →
    NodesAreSo hd x (see sent w)
kept_nodes_form hd x form w keeping sent k n is = let h = kept_holds hd w keeping (AreSo (kind_of hd x)) (kept_forms hd x form) in
    h.holds.0 k n is
