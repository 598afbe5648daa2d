-- What a store holds of an object is of no later version than the journal's last state, counted from where the run began; and states of
-- version zero are one.
use Rattle.arj_law_disk.proofs.machine.History.{known_below}
use Rattle.arj_law_disk.specs.machine.Core.{Chain, Core, History}
use Rattle.arj_law_disk.specs.machine.State.{Below, Done, Known, KnownIn, Packed, State, last}
use Rattle.arj_law_disk_view.specs.deciding_lines.Said.{IsJournalled}
use Rattle.arj_law_disk_view.specs.view.Pairs.{packed}
use Rattle.arj_law_disk_view.specs.view.Stores.{SeesStore}
use Rattle.arj_law_parts.proofs.Words
use Words.{◌≡◌, ◌≤◌, ◌<◌, ◌∙◌, ◌+◌, ℕ, true, List, [], ◌∷◌, Some, option_map, sym, ap, subst, inl, inr, arith, is_some}
use Words.{Header, Node, ObjectState, Seen, World, held_at, object, at_place, see}
use Rattle.arj_law_runs.specs.calls.Reached.{IsReached}
use Rattle.arj_law_serial.proofs.Terms.{HeaderFits, OpsFit, object_line}
use Rattle.arj_law_serial.proofs.joint
use joint.Clean as clean
use joint.Clean.{AreJoined, OrderedOf, decides_in, held_in, lock_tied, ordered_of, reached_both}
use Rattle.arj_law_serial.proofs.order.Cleaning.{state_same}
use Rattle.arj_model.specs.Last.{count_tops, last_from, writes_of}
use Rattle.arj_law_cause.proofs.confirm.Joined.{IsEarly}
use Rattle.arj_law_cause.proofs.confirm.Labels.{reached_world, world_of}
use Rattle.arj_law_cause.proofs.confirm.Reached.{Reached, sees_at, world_at}

-- ---- what a store holds

module _ (hd : Header) (x : ℕ) (form : HeaderFits hd) (there : is_some (object_line hd x) ≡ true) (S : Seen) (r : Reached hd S)
    (early : IsEarly S.lines) where
  abbrev w : World
  w = world_at hd S (world_of hd S r)

  reached : IsReached hd (world_at hd S (world_of hd S r))
  reached = reached_world hd S r early.few early.short

  its_lines : (world_at hd S (world_of hd S r)).lines ≡ S.lines
  its_lines = ap (λ (Z : Seen). Z.lines) (sees_at hd S (world_of hd S r) S.sent)

  its_start : (world_at hd S (world_of hd S r)).start ≡ S.start
  its_start = ap (λ (Z : Seen). Z.start) (sees_at hd S (world_of hd S r) S.sent)

  joined : AreJoined hd (world_at hd S (world_of hd S r))
  joined = reached_both hd form (world_at hd S (world_of hd S r)) reached (λ y. subst (OpsFit y) (sym its_lines) (early.fit y))

  abbrev h : OrderedOf hd (world_at hd S (world_of hd S r)) x
  h = ordered_of hd (world_at hd S (world_of hd S r)) x (held_in hd (world_at hd S (world_of hd S r)) reached.keeping joined x there)

  abbrev j : IsJournalled x (see h.sent (world_at hd S (world_of hd S r)))
  j = (let o = h.holds in let b = o.begun in b.journalled)

  last_is : (let W = j.machine in last W.disk) ≡ packed (last_from hd (world_at hd S (world_of hd S r)).start.marks
      (world_at hd S (world_of hd S r)).lines x)
  last_is =
      let tied = lock_tied hd (world_at hd S (world_of hd S r)) reached.keeping joined in
      let held = held_in hd (world_at hd S (world_of hd S r)) reached.keeping joined in
      let decide = decides_in hd (world_at hd S (world_of hd S r)) reached.keeping joined in
      state_same hd (world_at hd S (world_of hd S r)).lines
      (clean.right hd (world_at hd S (world_of hd S r)) reached.keeping form tied held decide)
      (clean.ties hd (world_at hd S (world_of hd S r)) reached.keeping form tied held decide) x j.tops j.machine
      (see h.sent (world_at hd S (world_of hd S r))) j.sees
      (clean.decided hd (world_at hd S (world_of hd S r)) reached.keeping form tied held decide x there)
      (let o = h.holds in let b = o.begun in b.begins)
      (clean.formed hd (world_at hd S (world_of hd S r)) reached.keeping form tied held decide x there)

  pub held_low : (k : ℕ) (n : Node) (st : ObjectState) → S.nodes k ≡ Some n → held_at (object x) (let d = n.disk in d.store) ≡ Some st →
      st.version ≤ (let m = S.start.marks.states x in m.version) + count_tops (writes_of S.lines x)
  held_low k n st at held =
      by (known_below (let W = j.machine in W.disk) (packed st) core.history (core.history.held k (packed st) held_so))
    where
      here : at_place k (world_at hd S (world_of hd S r)).nodes ≡ Some n
      here = ap (λ (Z : Seen). Z.nodes k) (sees_at hd S (world_of hd S r) h.sent) ∙ at

      store : SeesStore x k (let d = n.disk in d.store) (let W = j.machine in W.disk)
      store = (let s = j.sees in s.stores k n here)

      held_so : (let W = j.machine in W.disk.held k) ≡ Some (packed st)
      held_so = (let p = store.pair in sym p.held_is) ∙ ap (option_map packed) held

      core : Core (let W = j.machine in W.disk)
      core = (let s = j.sees in let v = s.whole in v.core)

      version : (let W = j.machine in last W.disk).version
          ≡ (let m = S.start.marks.states x in m.version) + count_tops (writes_of S.lines x)
      version = ap (λ (g : Packed). g.version) last_is
          ∙ (λ i. (let st = its_start i in let m = st.marks.states x in m.version) + count_tops (writes_of (its_lines i) x))

      by : Below (packed st) (let W = j.machine in last W.disk) →
          st.version ≤ (let m = S.start.marks.states x in m.version) + count_tops (writes_of S.lines x)
      by (inl less) = low st.version (let W = j.machine in last W.disk).version _ version less
        where
          low : (a b c : ℕ) → b ≡ c → a < b → a ≤ c
          low a b c same under = omega (arith, same, under)
      by (inr same) = low st.version (let W = j.machine in last W.disk).version _ version (ap (λ (g : Packed). g.version) same)
        where
          low : (a b c : ℕ) → b ≡ c → a ≡ b → a ≤ c
          low a b c one two = omega (arith, one, two)

-- ---- version zero

-- what was written later is of another version
written_later : (first : Packed) (ds : List Done) → Chain first ds → (g : Packed) → KnownIn first ds g → g.version ≡ 0 → first ≡ g
written_later first [] chain g known zero = known
written_later first (d ∷ ds) chain g (inl is) zero = absurd (let up = chain.0 g is in omega (arith, up, zero))
written_later first (d ∷ ds) chain g (inr known) zero = written_later first ds chain.1 g known zero

-- known states of version zero are one
pub zero_is_one : (S : State) → History S → (g k : Packed) → Known S g → Known S k → g.version ≡ 0 → k.version ≡ 0 → g ≡ k
zero_is_one S its g k (inl a) (inl b) zero none =
    sym (written_later S.first S.tops its.chain g a zero) ∙ written_later S.first S.tops its.chain k b none
zero_is_one S its g k (inr a) (inr b) zero none = (let p = its.past in p.version g k a b (zero ∙ sym none))
zero_is_one S its g k (inl a) (inr b) zero none =
    let is = ap (λ (y : Packed). y.version) (written_later S.first S.tops its.chain g a zero) in
    let under = (let p = its.past in p.below k b) in absurd (omega (arith, is, zero, under))
zero_is_one S its g k (inr a) (inl b) zero none =
    let is = ap (λ (y : Packed). y.version) (written_later S.first S.tops its.chain k b none) in
    let under = (let p = its.past in p.below g a) in absurd (omega (arith, is, none, under))
