-- Disks exclude stores in time where their pairs do.
use Rattle.arj_law_parts.proofs.Words
use Words.{◌≡◌, ◌∙◌, ℕ, Bool, true, false, cond, List, [], ◌∷◌, Option, Some, None, refl, sym, ap, subst, inl, inr, option_map}
use Words.{AllByRecursion, state_entry, uid_is, uid_same, state_bytes, entry, object, uid_eq, ObjectState, Uid, In, in_from, Disk, Pair}
use Words.{held_at, at_uid, Node, Header, World, world_by, Post, Start, see, uid_of, DiskIsInTime, HasPrepared, DisksAre, pair_in}
use Rattle.arj_law_serial.proofs.Terms
use Terms.{IsEntry, all_at_uid, Role, Among, HeaderFits, Disks, Reading, first_values, is_among, IsPairOf, IsReached, Keeping}
use Terms.{AreExcludedInTime, CommitsBeginIt, IsInTime, IsOnly, OpsFit, committed_calls}
use Terms.role
use Rattle.arj_base.proofs.Packed.{state_once}
use Rattle.arj_base.specs.State.{StateInForm}
use Rattle.arj_disk.specs.Says.{new_of}
use Rattle.arj_law_parts.proofs.moves.Happens.{all_to}
use Rattle.arj_law_parts.specs.moves.Keeps.{Stands}
use Rattle.arj_law_runs.proofs.addresses.Runs.{kept}
use Rattle.arj_law_runs.specs.addresses.Addresses.{AreAddressed, AreSo, DiskOf, IsNode, StateOf}
use Rattle.arj_law_serial.proofs.joint
use joint.{Clean.object_some, CommitCalls.commits_begin, Excluding.all_among, Excluding.was_called, FitRuns.runs_in_form, Listing.in_among}
use joint.{RunsInTime.reached_in_time, Showing.first_place, Showing.node_there, Starting.start_stays}
use Rattle.arj_law_serial.proofs.whole.WholeRuns.{kept_call_objects}
use Rattle.arj_law_serial.specs.joint.DisksInTime.{RunsExcludeInTimeOnDisks}
use Rattle.arj_model.specs.Last.{last_from}
use Rattle.arj_promise.specs.Excluded.{DisksAreInTimeFrom}
use Rattle.arj_store.specs.Pair.{packed}
use Rattle.std.specs.Prelude.{IsSomeAnd}

-- ---- what is prepared

-- the one state of its object among some is found there, as it is packed
found_so : (st : ObjectState) (states : List ObjectState) → Among st states →
    ((z : ObjectState) → Among z states → z.uid ≡ st.uid → z ≡ st) → new_of (packed states) st.uid ≡ Some (state_bytes st)
found_so st [] i only = absurd i
found_so st (z ∷ states) i only = by (uid_eq st.uid z.uid) refl i (λ k. found_so st states k (λ y at is. only y (inr at) is))
  where
    by : (b : Bool) → uid_eq st.uid z.uid ≡ b → Among st (z ∷ states) → (Among st states → new_of (packed states) st.uid
        ≡ Some (state_bytes st)) → cond b (Some (state_bytes z)) (new_of (packed states) st.uid) ≡ Some (state_bytes st)
    by true e j rest = ap (λ (y : ObjectState). Some (state_bytes y)) (only z (inl refl) (sym (uid_is st.uid z.uid e)))
    by false e (inl here) rest = let no_way : true ≡ false = sym (uid_same st.uid)
        ∙ ap (λ (y : ObjectState). uid_eq st.uid y.uid) (sym here) ∙ e in absurd (cc no_way)
    by false e (inr k) rest = rest k

module _ (read : Reading) (r : Role) (d : Pair) (are : IsPairOf (pair_in read r) d) where
  -- what the pair has prepared its disk says
  has_prepared : (a : Uid) (states : List ObjectState) → at_uid a d.pend ≡ Some states → (st : ObjectState) → IsOnly st.uid states st →
      HasPrepared read r a st
  has_prepared a states is st only =
      subst (λ o. IsSomeAnd o (λ found. new_of found st.uid ≡ Some (state_bytes st))) (sym (are.pend a ∙ ap (option_map packed) is))
      (found_so st states only.0.0 (λ z at same. only.1 z (at, same)))

  prepared_form : (a : Uid) (states : List ObjectState) → at_uid a d.pend ≡ Some states → (st : ObjectState) → Among st states →
      StateInForm st
  prepared_form a states is st i = let f = are.in_form in
      all_among StateInForm states st (all_at_uid (AllByRecursion StateInForm) a states d.pend f.pend is) i

  -- what is held by the reading the pair holds
  held_same : (u : Uid) (st : ObjectState) → StateInForm st → (let p = pair_in read r in p.held u) ≡ Some (state_bytes st) →
      held_at u d ≡ Some st
  held_same u st form is = by (held_at u d) refl (sym (are.held u) ∙ is)
    where
      by : (o : Option ObjectState) → held_at u d ≡ o → option_map state_bytes o ≡ Some (state_bytes st) → o ≡ Some st
      by None at is = absurd (cc is)
      by (Some z) at is =
          let f = are.in_form in
          let same : state_bytes z ≡ state_bytes st = cc is in
          ap Some (state_once z st (all_at_uid StateInForm u z d.held f.held at) form same)

-- ---- in a world

each_in : (P : ℕ → Type 0) (ns : List ℕ) → AllByRecursion P ns → (s : ℕ) → In s ns → P s
each_in P [] all s i = absurd i
each_in P (n ∷ ns) all s (inl same) = subst P same all.0
each_in P (n ∷ ns) all s (inr i) = each_in P ns all.1 s i

-- what naming's disk lists are nodes of the header
listed_node : (hd : Header) (d : Disk) → DiskOf (IsNode hd) d → (u : Uid) (st : ObjectState) → held_at u d.names ≡ Some st → (s : ℕ) →
    is_among (let e = state_entry st in e.stores) s ≡ true → IsNode hd s
listed_node hd d of u st is s among =
    let states = all_to (λ (e : Uid × ObjectState). IsEntry e.0 × StateOf (IsNode hd) e.1)
    (λ (e : Uid × ObjectState). StateOf (IsNode hd) e.1) d.names.held (λ e a. a.1) of.held in
    let its : StateOf (IsNode hd) st = all_at_uid (StateOf (IsNode hd)) u st d.names.held states is in
    each_in (IsNode hd) (let e = state_entry st in e.stores) (let e = its.1 in
    e.stores) s (in_among (let e = state_entry st in e.stores) s among)

module _ (hd : Header) (form : HeaderFits hd) (w : World) (keeping : Keeping hd w) (sent : List Post) (stands : Stands hd sent w)
    (named : AreSo (IsNode hd) (see sent w)) (disks : Disks) (are : DisksAre (see [] w) disks)
    (excluded : AreExcludedInTime hd w.event (see [] w)) where
  disks_so : DisksAreInTimeFrom hd w.start.marks w.event w.lines disks
  disks_so t x s new wrote l =
      let c = wrote in
      let there = object_some hd x
      (kept_call_objects hd w keeping x (was_called (first_values hd) w.lines x c.0 (in_from c.0 (committed_calls w.lines) c.1) c.2)) in
      let n = node_there hd sent w stands 1 (first_place hd.nodes (let f = form.nodes in f.0)) in
      let names = (let a = are 1 n.0 n.1 in a.names) in
      let holds = held_same (disks 1) role.Names (let k = n.0 in let d = k.disk in d.names) names (entry x) l.state l.form l.holds in
      let m = node_there hd sent w stands s
      (listed_node hd (let k = n.0 in k.disk) (named.0 1 n.0 n.1).1 (entry x) l.state holds s l.has) in
      by n.0 m.0 names (let a = are s m.0 m.1 in a.store) (excluded t x s n.0 m.0 l.state there new wrote n.1 m.1 holds l.has)
    where
      by : (n m : Node) → IsPairOf (pair_in (disks 1) role.Names) (let d = n.disk in d.names) → IsPairOf (pair_in (disks s) role.Store)
          (let d = m.disk in d.store) → IsInTime (last_from hd w.start.marks w.lines x) w.lines x n m t s →
          DiskIsInTime (last_from hd w.start.marks w.lines x) w.lines x disks t s
      by n m names store (inl holds) = inl (store.held (object x) ∙ ap (option_map state_bytes) holds)
      by n m names store (inr (inl (states, at, of))) = inr (inl
          (has_prepared (disks s) role.Store (let d = m.disk in d.store) store (uid_of w.lines t) states at
          (last_from hd w.start.marks w.lines x) of))
      by n m names store (inr (inr out)) = inr (inr (record {
        by_top = out.by_top;
        committed = out.committed;
        unit = out.unit;
        new = out.new;
        form = prepared_form (disks 1) role.Names (let d = n.disk in
            d.names) names (uid_of w.lines out.by_top) out.states out.prepared out.new out.there.0.0;
        of = out.there.0.1;
        prepared = has_prepared (disks 1) role.Names (let d = n.disk in d.names) names (uid_of w.lines out.by_top) out.states out.prepared
            out.new (subst (λ u. IsOnly u out.states out.new) (sym out.there.0.1) out.there);
        lacks = out.lacks;
      }))

pub reached_disks_in_time : (hd : Header) → HeaderFits hd → (w : World) → IsReached hd w → ((x : ℕ) → OpsFit x w.lines) →
    CommitsBeginIt w.event w.lines → (disks : Disks) → DisksAre (see [] w) disks → DisksAreInTimeFrom hd w.start.marks w.event w.lines disks
reached_disks_in_time hd form w reached fit begins disks are =
    let h = reached.keeping (AreAddressed hd) (kept hd form) in
    disks_so hd form w reached.keeping h.sent h.stands (let a = h.holds in a.1) disks are (reached_in_time hd form w reached fit begins)

pub runs_exclude_on_disks : RunsExcludeInTimeOnDisks
runs_exclude_on_disks hd r disks f are =
    let h = runs_in_form hd r f in
    subst (λ (st : Start). let w = world_by hd r in DisksAreInTimeFrom hd st.marks w.event w.lines disks) (start_stays hd r)
    (reached_disks_in_time hd f.header (world_by hd r) h.0 h.1 (commits_begin hd r) disks are)
