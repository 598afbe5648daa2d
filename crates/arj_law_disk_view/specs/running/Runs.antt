-- The disk half of the view, for whole runs: the machine's state for every kinds that agree with the actions begun so far.
use Rattle.std.specs.Prelude.{◌≡◌, ◌⊎◌, ℕ, true, List, Some, None}
use Rattle.arj_protocol.specs.Words.{Uid, ObjectState, entry, object, is_listed}
use Rattle.arj_protocol.specs.Effect.{Pair, held_at, holder_of}
use Rattle.arj_protocol.specs.Order.{at_uid}
use Rattle.arj_protocol.specs.Step.{Node}
use Rattle.arj_protocol.specs.Values.{state_entry}
use Rattle.arj_law_disk.specs.machine.State.{Below, Packed}
use Rattle.arj_promise.specs.Runs.{Seen}
use Rattle.arj_law_disk_view.specs.view.Pairs.{IsOf, packed}

-- a store that the entry lists, where the object isn't in doubt, holds this state
abbrev pub HasState : ℕ → Packed → Node → Type 0
HasState x last m = (st : ObjectState) × (held_at (object x) m.disk.store ≡ Some st) × (packed st ≡ last)

-- the action has prepared this state, in a pair
abbrev pub HasPrepared : Uid → Uid → ObjectState → Pair → Type 0
HasPrepared a u st d = (states : List ObjectState) × (at_uid a d.pend ≡ Some states) × IsOf u states st

-- the node has prepared this state of the object
abbrev pub HasNext : ℕ → Packed → Node → Type 0
HasNext x last m = (a : Uid) × (st : ObjectState) × HasPrepared a (object x) st m.disk.store × (packed st ≡ last)

-- Copies agree on this state: where the object's entry isn't in doubt, each store that the entry lists holds it or has it prepared,
-- and holds it where the object isn't in doubt; and an entry lists some store. No store holds a later version, and of two states
-- that stores hold in one version both are one. Where an object or its entry is in doubt it is by one action, and no store has a
-- version prepared that is below the one it holds.
pub record AgreesOn (x : ℕ) (last : Packed) (M : Seen) : Type 0 where
  pub listed : (n m : Node) (e : ObjectState) (s : ℕ) → M.nodes 1 ≡ Some n → holder_of (entry x) n.disk.names ≡ None →
      held_at (entry x) n.disk.names ≡ Some e → is_listed s (state_entry e).stores ≡ true → M.nodes s ≡ Some m →
      holder_of (object x) m.disk.store ≡ None → HasState x last m
  pub kept : (n m : Node) (e : ObjectState) (s : ℕ) → M.nodes 1 ≡ Some n → holder_of (entry x) n.disk.names ≡ None → held_at (entry x)
      n.disk.names ≡ Some e → is_listed s (state_entry e).stores ≡ true → M.nodes s ≡ Some m → HasState x last m ⊎ HasNext x last m
  pub stored : (n : Node) (e : ObjectState) → M.nodes 1 ≡ Some n → held_at (entry x) n.disk.names ≡ Some e →
      (s : ℕ) × (is_listed s (state_entry e).stores ≡ true)
  pub below : (m : Node) (s : ℕ) (st : ObjectState) → M.nodes s ≡ Some m → held_at (object x) m.disk.store ≡ Some st →
      Below (packed st) last
  pub one : (m n : Node) (s r : ℕ) (st su : ObjectState) → M.nodes s ≡ Some m → M.nodes r ≡ Some n → held_at (object x) m.disk.store
      ≡ Some st → held_at (object x) n.disk.store ≡ Some su → st.version ≡ su.version → packed st ≡ packed su
  pub alone : (m : Node) (s : ℕ) (a b : Uid) (st su : ObjectState) → M.nodes s ≡ Some m → HasPrepared a (object x) st m.disk.store →
      HasPrepared b (object x) su m.disk.store → a ≡ b
  pub changer : (n : Node) (a b : Uid) (st su : ObjectState) → M.nodes 1 ≡ Some n → HasPrepared a (entry x) st n.disk.names →
      HasPrepared b (entry x) su n.disk.names → a ≡ b
  pub rises : (m : Node) (s : ℕ) (a : Uid) (st su : ObjectState) → M.nodes s ≡ Some m → held_at (object x) m.disk.store ≡ Some st →
      HasPrepared a (object x) su m.disk.store → Below (packed st) (packed su)

-- there is such a last state
abbrev pub CopiesAgree : ℕ → Seen → Type 0
CopiesAgree x M = (last : Packed) × AgreesOn x last M
