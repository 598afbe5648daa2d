-- One object in a pair of files, seen as the disk machine has a place: what is held, and what is prepared.
use Rattle.std.specs.Prelude.{⊤, ◌≡◌, ◌⊎◌, ℕ, List, [], ◌∷◌, Option, Some, option_map}
use Rattle.std.specs.declared.cmp.Ordering.TheVariants.{Less}
use Rattle.arj_base.specs.State.{head_of}
use Rattle.arj_base.specs.declared.state.Format.{Format}
use Rattle.arj_protocol.specs.Words.{Uid, ObjectState, Value, class_code_of, class_of, payload_of, uid_order}
use Rattle.arj_protocol.specs.Effect.{Pair, held_at}
use Rattle.arj_protocol.specs.Order.{at_uid, uid_number}
use Rattle.arj_protocol.specs.Values.{state_entry}
use Rattle.arj_law_disk.specs.machine.State.{Packed, Hold}

-- each key is above this one
abbrev pub AreAbove : {X : Type 0} → Uid → List (Uid × X) → Type 0
AreAbove k [] = ⊤
AreAbove k (e ∷ es) = (uid_order k e.0 ≡ Less) × AreAbove k es

-- the keys increase
abbrev pub AreSorted : {X : Type 0} → List (Uid × X) → Type 0
AreSorted [] = ⊤
AreSorted (e ∷ es) = AreAbove e.0 es × AreSorted es

-- What a state in this format of this value holds: before its payload its format, by the length of its head, and its class, since an
-- object that is gone has the payload of a register of one byte.
abbrev pub content_of : Format → Value → List ℕ
content_of f v = head_of f ∷ class_code_of (class_of v) ∷ payload_of v

-- a state of an object, with its format and its class, and of an entry, which holds the list of its stores
abbrev pub packed : ObjectState → Packed
packed s = record {
  version = s.version;
  writer = uid_number s.writer;
  content = head_of s.format ∷ class_code_of s.class ∷ s.payload;
}

-- the entry of a state
abbrev pub packed_entry : ObjectState → Packed
packed_entry s = record { version = s.version; writer = uid_number s.writer; content = (state_entry s).stores }

-- the state stands in the list
abbrev pub Among : ObjectState → List ObjectState → Type 0
Among s [] = ⊥
Among s (t ∷ ts) = (t ≡ s) ⊎ Among s ts

-- a state of this object in a list
abbrev pub IsOf : Uid → List ObjectState → ObjectState → Type 0
IsOf u states s = Among s states × (s.uid ≡ u)

-- what an action has prepared, as the machine has it
abbrev pub hold_of : (ObjectState → Packed) → Uid → ObjectState → Hold
hold_of pack a s = record { top = uid_number a; new = pack s }

-- an action that has prepared a state of the object, and what that is
pub record Holder (pack : ObjectState → Packed) (u : Uid) (d : Pair) (h : Hold) : Type 0 where
  pub action : Uid
  pub states : List ObjectState
  pub state : ObjectState
  pub prepared : at_uid action d.pend ≡ Some states
  pub of : IsOf u states state
  pub is : hold_of pack action state ≡ h

-- The machine's place holds what the pair holds of the object, and has prepared what the pair has. Each held state is of the
-- object under which it is held.
pub record SeesPair (pack : ObjectState → Packed) (u : Uid) (d : Pair) (held : Option Packed) (pend : Option Hold) : Type 0 where
  pub sorted : AreSorted d.pend
  pub keyed : (w : Uid) (s : ObjectState) → held_at w d ≡ Some s → s.uid ≡ w
  pub held_is : option_map pack (held_at u d) ≡ held
  pub holder : (h : Hold) → pend ≡ Some h → Holder pack u d h
  pub held_by : (a : Uid) (states : List ObjectState) (s : ObjectState) → at_uid a d.pend ≡ Some states → IsOf u states s →
      pend ≡ Some (hold_of pack a s)

-- the states of the object in a list are one
abbrev pub AreOne : (ObjectState → Packed) → Uid → List ObjectState → Packed → Type 0
AreOne pack u states p = (s : ObjectState) → IsOf u states s → pack s ≡ p

-- the list has no state of the object
abbrev pub HasNone : Uid → List ObjectState → Type 0
HasNone u states = (s : ObjectState) → IsOf u states s → ⊥
