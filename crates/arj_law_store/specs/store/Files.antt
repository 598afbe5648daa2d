-- The protocol's pair of states as the files of a disk say it.
use Rattle.std.specs.Prelude.{◌≡◌, List, map, option_map}
use Rattle.std.specs.List.{AllByRecursion, IsDistinct}
use Rattle.std.specs.List.Sorted.{IsStrictlySortedBy}
use Rattle.std.specs.Map.{keys_of}
use Rattle.arj_base.specs.State.{state_bytes, StateInForm}
use Rattle.arj_protocol.specs.Effect.{Pair, held_at, new_states}
use Rattle.arj_protocol.specs.Order.{at_uid}
use Rattle.arj_protocol.specs.Words.{Uid, ObjectState, uid_eq, uid_order}
use Rattle.arj_store.specs.Pair as files
use Rattle.arj_store.specs.Pair.{packed, uid_of}

-- each state of the pair is in form
pub record AreInForm (d : Pair) : Type 0 where
  pub held : AllByRecursion (λ (e : Uid × ObjectState). StateInForm e.1) d.held
  pub pend : AllByRecursion (λ (e : Uid × List ObjectState). AllByRecursion StateInForm e.1) d.pend

-- the pair that files give is this one, whose states, which are in form, and prepared actions stand by Uid
pub record IsPairOf (p : files.Pair) (d : Pair) : Type 0 where
  pub held : (u : Uid) → p.held u ≡ option_map state_bytes (held_at u d)
  pub pend : (a : Uid) → p.pend a ≡ option_map packed (at_uid a d.pend)
  pub held_rises : IsStrictlySortedBy uid_order (keys_of d.held)
  pub pend_rises : IsStrictlySortedBy uid_order (keys_of d.pend)
  pub in_form : AreInForm d

-- the states that an action has prepared are of distinct objects
abbrev pub IsOneOfEach : Pair → Uid → Type 0
IsOneOfEach d act = IsDistinct uid_eq (map uid_of (new_states act d))
