-- Where a top was said to commit, each store that is listed then, of each object that it wrote, has prepared what it wrote: no store has
-- yet taken its commit, as none held so late a version before.
use Rattle.arj_law_disk.proofs.machine.Base.{never}
use Rattle.arj_law_disk.proofs.machine.Results.{latest_state}
use Rattle.arj_law_disk.specs.machine.Core.{Core}
use Rattle.arj_law_disk.specs.machine.State.{Below, Hold, IsExcused, Packed, State, decided as is_decided_by, effective_by, hold}
use Rattle.arj_law_disk.specs.machine.State.{is_latest, last}
use Rattle.arj_law_disk.specs.machine.State.{last_entry, state_for}
use Rattle.arj_law_disk.specs.machine.Words.{has}
use Rattle.arj_law_disk_view.specs.deciding_lines.Said.{IsJournalled}
use Rattle.arj_law_disk_view.specs.view.Pairs.{Holder, packed}
use Rattle.arj_law_disk_view.specs.view.Stores.{SeesStore}
use Rattle.arj_law_parts.proofs.Words
use Words.{◌≡◌, ◌<◌, ◌∙◌, ◌+◌, ◌++◌, ℕ, true, false, Bool, List, ◌∷◌, Option, Some, None, refl, sym, ap, subst}
use Words.{inl, inr, ⊎_elim, arith, is_some, unwrap_or, In, Header, Label, Line, Node, ObjectState, Seen, World, at_place, at_uid}
use Words.{held_at, in_to, is_prepared}
use Words.{◌&&◌, cond, eq-eqb, name, number_tells, object, see, uid_number, writes, Wrote}
use Words.body
use Rattle.arj_promise.specs.Runs.{HeaderFits}
use Rattle.arj_law_runs.proofs.Terms.{Act, act_in, acts}
use Rattle.arj_law_runs.specs.calls.Reached.{IsReached}
use Rattle.arj_law_runs.specs.journal.Book.{book, is_decided, is_top, new_book}
use Rattle.arj_law_runs.specs.journal.Right.{AreRight}
use Rattle.arj_law_serial.proofs.Terms.{AreDecided, OpsFit, is_among, object_line, servers_of_line}
use Rattle.arj_law_serial.proofs.joint
use joint.Clean as clean
use joint.Excluding.{was_called}
use joint.Clean.{AreJoined, Decides, Held, OrderedOf, decides_in, held_in, includes_there, lock_tied, object_some, ordered_of, reached_both}
use joint.NamedTops.{AreLockTied}
use joint.{Listing.all_there, Showing.node_there}
use Rattle.arj_law_serial.proofs.order.{Cleaning.has_among, Cleaning.held_some, Cleaning.state_same, Entries.entry_is_last}
use Rattle.arj_law_serial.proofs.order.{Entries.stores_back}
use Rattle.arj_law_serial.proofs.whole.WholeRuns.{kept_call_objects}
use Rattle.arj_law_serial.specs.order.Seen.{IsCalled}
use Rattle.arj_model.specs.Actions.{committed, has_end}
use Rattle.arj_model.specs.Calls.{Call, Top, committed_calls, surviving, tops}
use Rattle.arj_model.specs.Last.{count_tops, first_values, last_from, listed, writes_of}
use Rattle.arj_model.specs.Serial.{writes_on}
use Rattle.arj_law_cause.proofs.confirm.{Joined.IsEarly, Labels.reached_world, Labels.world_of, Reached.Reached}
use Rattle.arj_law_cause.proofs.confirm.{Reached.sees_at, Reached.world_at}
use Rattle.arj_law_cause.proofs.stores.Counting.{survives_on}
use Rattle.arj_law_cause.proofs.stores.Moments.{AreCalm}
use Rattle.arj_law_cause.proofs.stores.Newest as newest
use Rattle.arj_law_cause.proofs.stores.Saying as saying

module _ (hd : Header) (form : HeaderFits hd) (S : Seen) (r : Reached hd S) (early : IsEarly S.lines) where
  abbrev w : World
  w = world_at hd S (world_of hd S r)

  reached : IsReached hd (world_at hd S (world_of hd S r))
  reached = reached_world hd S r early.few early.short

  pub its_lines : (world_at hd S (world_of hd S r)).lines ≡ S.lines
  its_lines = ap (λ (Z : Seen). Z.lines) (sees_at hd S (world_of hd S r) S.sent)

  its_start : (world_at hd S (world_of hd S r)).start ≡ S.start
  its_start = ap (λ (Z : Seen). Z.start) (sees_at hd S (world_of hd S r) S.sent)

  joined : AreJoined hd (world_at hd S (world_of hd S r))
  joined = reached_both hd form (world_at hd S (world_of hd S r)) reached (λ y. subst (OpsFit y) (sym its_lines) (early.fit y))

  tied : AreLockTied hd (world_at hd S (world_of hd S r)).lines
  tied = lock_tied hd (world_at hd S (world_of hd S r)) reached.keeping joined

  held : Held hd (world_at hd S (world_of hd S r))
  held = held_in hd (world_at hd S (world_of hd S r)) reached.keeping joined

  decide : Decides hd (world_at hd S (world_of hd S r)) held
  unfolding held
  decide = decides_in hd (world_at hd S (world_of hd S r)) reached.keeping joined

  pub right : AreRight new_book (world_at hd S (world_of hd S r)).lines
  right = clean.right hd (world_at hd S (world_of hd S r)) reached.keeping form tied held decide

  -- an object of which a call was answered is one of the header
  pub called_there : (x : ℕ) → IsCalled x (world_at hd S (world_of hd S r)).lines → is_some (object_line hd x) ≡ true
  called_there x called = object_some hd x (kept_call_objects hd (world_at hd S (world_of hd S r)) reached.keeping x called)

  -- a store that is listed is a node
  pub listed_node : (x s : ℕ) → is_among (listed hd (world_at hd S (world_of hd S r)).lines x) s ≡ true → (n : Node) × (S.nodes s ≡ Some n)
  listed_node x s among =
      let h = world_of hd S r in
      let n = node_there hd S.sent h.world h.stands s (all_there hd (world_at hd S (world_of hd S r)).lines form
      (includes_there hd (world_at hd S (world_of hd S r)) reached.keeping) x s among).0 in
      (n.0, ap (λ (Z : Seen). Z.nodes s) (sym h.same) ∙ n.1)

  module _ (x : ℕ) (there : is_some (object_line hd x) ≡ true) (before calm : List Line) (line : Line) (l : Label)
      (is : line.body ≡ body.Committed l) (quiet : AreCalm calm) (are : (world_at hd S (world_of hd S r)).lines ≡ before ++ line ∷ calm)
      (a : Act) (named : act_in (acts before) (name l) ≡ Some a) (undone : is_decided (book before) a.uid ≡ false)
      (t : Top) (listed_top : In t (tops (world_at hd S (world_of hd S r)).lines)) (own : t.id ≡ a.id)
      (wrote : Wrote (world_at hd S (world_of hd S r)).lines x t) where
    abbrev h : OrderedOf hd (world_at hd S (world_of hd S r)) x
    h = ordered_of hd (world_at hd S (world_of hd S r)) x (held x there)

    abbrev j : IsJournalled x (see h.sent (world_at hd S (world_of hd S r)))
    j = (let o = h.holds in let b = o.begun in b.journalled)

    abbrev D : State
    D = let W = j.machine in W.disk

    core : Core (let W = j.machine in W.disk)
    core = (let s = j.sees in let v = s.whole in v.core)

    decided : AreDecided hd (world_at hd S (world_of hd S r)).lines x (let W = j.machine in let Q = W.disk in Q.tops)
    decided = clean.decided hd (world_at hd S (world_of hd S r)) reached.keeping form tied held decide x there

    last_is : (let W = j.machine in last W.disk) ≡ packed (last_from hd (world_at hd S (world_of hd S r)).start.marks
        (world_at hd S (world_of hd S r)).lines x)
    last_is =
        state_same hd (world_at hd S (world_of hd S r)).lines right
        (clean.ties hd (world_at hd S (world_of hd S r)) reached.keeping form tied held decide) x j.tops j.machine
        (see h.sent (world_at hd S (world_of hd S r))) j.sees decided
        (let o = h.holds in let b = o.begun in b.begins)
        (clean.formed hd (world_at hd S (world_of hd S r)) reached.keeping form tied held decide x there)

    version : (let W = j.machine in last W.disk).version
        ≡ (let m = S.start.marks.states x in m.version) + count_tops (writes_of S.lines x)
    version = ap (λ (g : Packed). g.version) last_is
        ∙ (λ i. (let st = its_start i in let m = st.marks.states x in m.version) + count_tops (writes_of (its_lines i) x))

    abbrev T : ℕ
    T = uid_number a.uid

    latest : is_latest (let W = j.machine in W.disk) T ≡ true
    latest = newest.latest hd (world_at hd S (world_of hd S r)) right x h decided (tied.listed x there) before calm line l is quiet are a
        named undone t listed_top own wrote

    does_write : is_some (let W = j.machine in let p = W.disk.plan T in p.writes) ≡ true
    does_write = newest.has_written hd (world_at hd S (world_of hd S r)) right x h decided (tied.listed x there) before calm line l is
        quiet are a named undone t listed_top own wrote core

    its_state : (is_decided_by (let W = j.machine in W.disk) T ≡ true) × ((let W = j.machine in W.disk.conf T) ≡ true)
        × ((g : Packed) → (let W = j.machine in let p = W.disk.plan T in p.writes) ≡ Some g → (let W = j.machine in last W.disk) ≡ g)
    its_state = latest_state (let W = j.machine in W.disk) T core latest

    -- what it gave to the stores is the last state
    state_is : state_for (let W = j.machine in W.disk.plan T) ≡ (let W = j.machine in last W.disk)
    state_is = by (let W = j.machine in let p = W.disk.plan T in p.writes) refl does_write
      where
        by : (o : Option Packed) → (let W = j.machine in let p = W.disk.plan T in p.writes) ≡ o → is_some o ≡ true →
            state_for (let W = j.machine in W.disk.plan T) ≡ (let W = j.machine in last W.disk)
        by None e some = absurd (cc some)
        by (Some g) e some = ap (λ o. unwrap_or o (let W = j.machine in let p = W.disk.plan T in p.loaded)) e ∙ sym (its_state.2 g e)

    module _ (s : ℕ) (among : is_among (listed hd (world_at hd S (world_of hd S r)).lines x) s ≡ true) where
      on_last : has s (let W = j.machine in let e = last_entry W.disk in e.content) ≡ true
      on_last =
          ap (λ (q : Packed). has s q.content) (entry_is_last hd (world_at hd S (world_of hd S r)).lines x
          (let W = j.machine in let Q = W.disk in Q.first_entry) (let W = j.machine in let Q = W.disk in Q.tops) decided
          (world_at hd S (world_of hd S r)).start.marks (let o = h.holds in let b = o.begun in let z = b.begins in z.entry))
          ∙ ap (has s) (stores_back (servers_of_line (object_line hd x)) (listed hd (world_at hd S (world_of hd S r)).lines x))
          ∙ has_among s (listed hd (world_at hd S (world_of hd S r)).lines x) ∙ among

      -- it isn't about to leave the list, as the entry that will be is the last one
      stays : IsExcused (let W = j.machine in W.disk) T s → ⊥
      stays y = never on_last (ap (λ (q : Packed). has s q.content) (sym will) ∙ y.lacks)
        where
          closed : is_decided_by (let W = j.machine in W.disk) (let p = y.by_entry in p.top) ≡ true
          closed = ⊎_elim {C = is_decided_by (let W = j.machine in W.disk) (let p = y.by_entry in p.top) ≡ true}
              (λ same. ap (is_decided_by (let W = j.machine in W.disk)) same ∙ its_state.0) (λ other. other.0) y.whose

          will : (let p = y.by_entry in p.new) ≡ (let W = j.machine in last_entry W.disk)
          will = (λ i. if_done (sym closed i)) ∙ ap (λ o. effective_by (is_decided_by (let W = j.machine in W.disk)) (λ (e : Packed). e) o
              (let W = j.machine in W.disk.entry)) (sym y.there) ∙ (let z = core.effective in z.entry)
            where
              if_done : Bool → Packed
              if_done b = cond b (let p = y.by_entry in p.new) (let W = j.machine in W.disk.entry)

      took : (let W = j.machine in W.disk.got T s) ≡ true
      took = ⊎_elim {C = (let W = j.machine in W.disk.got T s) ≡ true} (λ g. g) (λ y. absurd (stays y))
          (let z = core.covered in z.stores T s its_state.1 (inr latest) does_write (inr on_last))

      module _ (n : Node) (at : S.nodes s ≡ Some n)
          (low : (st : ObjectState) → held_at (object x) (let d = n.disk in d.store) ≡ Some st →
          st.version < (let m = S.start.marks.states x in m.version) + count_tops (writes_of S.lines x)) where
        here : at_place s (world_at hd S (world_of hd S r)).nodes ≡ Some n
        here = ap (λ (Z : Seen). Z.nodes s) (sees_at hd S (world_of hd S r) h.sent) ∙ at

        store : SeesStore x s (let d = n.disk in d.store) (let W = j.machine in W.disk)
        store = (let z = j.sees in z.stores s n here)

        -- no store holds what it wrote
        none_went : (let W = j.machine in W.disk.went T s) ≡ true → ⊥
        none_went went =
            let y = (let z = core.firm in z.went T s went).1 in
            let p = store.pair in
            let k = held_some (held_at (object x) (let d = n.disk in d.store)) y.0 packed (p.held_is ∙ y.1) in
            by k.0 y.0 k.2 (low k.0 k.1) (subst (λ (g : Packed). Below g y.0) state_is y.2)
          where
            by : (st : ObjectState) (g : Packed) → packed st ≡ g →
                st.version < (let m = S.start.marks.states x in m.version) + count_tops (writes_of S.lines x) →
                Below (let W = j.machine in last W.disk) g → ⊥
            by st g same less (inl under) = high st.version g.version (let W = j.machine in last W.disk).version
                ((let m = S.start.marks.states x in m.version) + count_tops (writes_of S.lines x))
                (ap (λ (q : Packed). q.version) same) version less
                under
              where
                high : (a b c e : ℕ) → a ≡ b → c ≡ e → a < e → c < b → ⊥
                high a b c e one two lower upper = omega (arith, one, two, lower, upper)
            by st g same less (inr it) = high st.version g.version (let W = j.machine in last W.disk).version
                ((let m = S.start.marks.states x in m.version) + count_tops (writes_of S.lines x))
                (ap (λ (q : Packed). q.version) same) version less
                (ap (λ (q : Packed). q.version) it)
              where
                high : (a b c e : ℕ) → a ≡ b → c ≡ e → a < e → c ≡ b → ⊥
                high a b c e one two lower upper = omega (arith, one, two, lower, upper)

        pub has_prepared : is_prepared a.uid (let d = n.disk in d.store) ≡ true
        has_prepared = ⊎_elim {C = is_prepared a.uid (let d = n.disk in d.store) ≡ true} by (λ went. absurd (none_went went))
            (let z = core.firm in z.done T s its_state.0 took)
          where
            by : (let W = j.machine in W.disk.pend s) ≡ Some (hold (let W = j.machine in W.disk) T) →
                is_prepared a.uid (let d = n.disk in d.store) ≡ true
            by pend =
                let p = store.pair in
                let k : Holder packed (object x) (let d = n.disk in d.store) (hold (let W = j.machine in W.disk) T)
                = p.holder (hold (let W = j.machine in W.disk) T) pend in
                let whose : k.action ≡ a.uid = number_tells k.action a.uid (ap (λ (y : Hold). y.top) k.is) in
                ap (λ u. is_some (at_uid u (let d = n.disk in let q = d.store in q.pend))) (sym whose) ∙ ap is_some k.prepared

-- Where a top was said to commit last, each store that is listed for an object of a surviving write of it is there, and has prepared it,
-- unless it held so late a version before.
module _ (hd : Header) (form : HeaderFits hd) (S : Seen) (r : Reached hd S) (early : IsEarly S.lines) (before calm : List Line)
    (line : Line) (l : Label) (is : line.body ≡ body.Committed l) (quiet : AreCalm calm) (lines : S.lines ≡ before ++ line ∷ calm)
    (a : Act) (named : act_in (acts before) (name l) ≡ Some a) (undone : is_decided (book before) a.uid ≡ false)
    (kind : is_top a.kind ≡ true) (c : Call) (survives : In c (surviving before a.id)) (writing : writes c.op ≡ true) where
  abbrev ls : List Line
  ls = (world_at hd S (world_of hd S r)).lines

  same : (world_at hd S (world_of hd S r)).lines ≡ S.lines
  same = its_lines hd form S r early

  are_so : (world_at hd S (world_of hd S r)).lines ≡ before ++ line ∷ calm
  are_so = same ∙ lines

  its_right : AreRight new_book (world_at hd S (world_of hd S r)).lines
  its_right = right hd form S r early

  top : (t : Top) × In t (tops (world_at hd S (world_of hd S r)).lines) × (t.id ≡ a.id)
  top = saying.top_of_it (world_at hd S (world_of hd S r)).lines its_right before calm line l is quiet are_so a named kind

  ended_so : has_end (committed (before ++ line ∷ calm)) a.id ≡ true
  ended_so = saying.ended_by before calm line l is quiet a named

  counts : In c (committed_calls (before ++ line ∷ calm)) × (c.top ≡ a.id)
  counts = survives_on before (line ∷ calm) a.id ended_so c survives

  on_it : writes_on c.x c ≡ true
  on_it = λ i. eq-eqb c.x c.x refl i && writing i

  it_counts : In c (committed_calls (world_at hd S (world_of hd S r)).lines)
  it_counts = subst (λ ks. In c (committed_calls ks)) (sym are_so) counts.0

  pub object_there : is_some (object_line hd c.x) ≡ true
  object_there = called_there hd form S r early c.x
      (was_called (first_values hd) (world_at hd S (world_of hd S r)).lines c.x c it_counts on_it)

  pub store_prepared : (s : ℕ) → is_among (listed hd S.lines c.x) s ≡ true →
      ((n : Node) (st : ObjectState) → S.nodes s ≡ Some n → held_at (object c.x) (let d = n.disk in d.store) ≡ Some st →
      st.version < (let m = S.start.marks.states c.x in m.version) + count_tops (writes_of S.lines c.x)) →
      (n : Node) × (S.nodes s ≡ Some n) × (is_prepared a.uid (let d = n.disk in d.store) ≡ true)
  store_prepared s among low =
      let on = ap (λ ks. is_among (listed hd ks c.x) s) same ∙ among in
      let n = listed_node hd form S r early c.x s on in (
        n.0,
        n.1,
        has_prepared hd form S r early c.x object_there before calm line l is quiet are_so a named undone top.0 top.1 top.2
            (c, in_to c (committed_calls (world_at hd S (world_of hd S r)).lines) it_counts, on_it, counts.1 ∙ sym top.2) s on n.0 n.1
            (λ st held. low n.0 st n.1 held),
      )
