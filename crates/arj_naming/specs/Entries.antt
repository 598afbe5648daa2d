-- What holds of the states of entries.
use Rattle.std.specs.Prelude.{◌≡◌, ◌≤◌, ℕ, false, List, [], ◌∷◌, map, length, ⊤}
use Rattle.std.specs.List.{AllByRecursion, IsDistinct}
use Rattle.arj_base.specs.State.{StateInForm}
use Rattle.arj_msg.specs.InForm.{IsNode, IsObject}
use Rattle.arj_protocol.specs.Effect.{Pair}
use Rattle.arj_protocol.specs.Values.{state_entry}
use Rattle.arj_protocol.specs.Words.{Uid, ObjectState, uid_eq, entry, entry_payload, is_listed}
use Rattle.arj_protocol.specs.Words.class

-- no number stands twice
abbrev pub IsOnce : List ℕ → Type 0
IsOnce [] = ⊤
IsOnce (n ∷ ns) = (is_listed n ns ≡ false) × IsOnce ns

-- nodes, none twice
pub record AreNodes (nodes : List ℕ) : Type 0 where
  pub each : AllByRecursion IsNode nodes
  pub once : IsOnce nodes

-- A state of the entry of this Uid, which is one of an object. It names who serves the object, one node at least, and who
-- stores it.
pub record IsNewState (u : Uid) (s : ObjectState) : Type 0 where
  pub own : s.uid ≡ u
  pub object : IsObject u.num
  pub of : u ≡ entry u.num
  pub in_form : StateInForm s
  pub class_is : s.class ≡ class.Entry
  pub restores : s.payload ≡ entry_payload (state_entry s)
  pub served : 1 ≤ length (state_entry s).servers
  pub servers : AreNodes (state_entry s).servers
  pub stores : AreNodes (state_entry s).stores

-- and so of an entry that some node stores
pub record IsEntryState (u : Uid) (s : ObjectState) : Type 0 where
  pub state : IsNewState u s
  pub stored : 1 ≤ length (state_entry s).stores

-- states of distinct entries
pub record AreOfEntries (states : List ObjectState) : Type 0 where
  pub distinct : IsDistinct uid_eq (map (λ (s : ObjectState). s.uid) states)
  pub each : AllByRecursion (λ s. IsEntryState s.uid s) states

-- each state of the pair is one of an entry
pub record AreEntries (d : Pair) : Type 0 where
  pub held : AllByRecursion (λ (e : Uid × ObjectState). IsEntryState e.0 e.1) d.held
  pub pend : AllByRecursion (λ (e : Uid × List ObjectState). AreOfEntries e.1) d.pend
