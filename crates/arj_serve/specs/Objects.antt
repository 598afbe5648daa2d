-- What holds of the states of objects at a store.
use Rattle.std.specs.Prelude.{◌≡◌, List, map}
use Rattle.std.specs.List.{AllByRecursion, IsDistinct}
use Rattle.arj_base.specs.State.{StateInForm}
use Rattle.arj_msg.specs.InForm.{IsObject}
use Rattle.arj_msg.specs.State.{Restores}
use Rattle.arj_protocol.specs.Effect.{Pair}
use Rattle.arj_protocol.specs.Words.{Uid, ObjectState, uid_eq, object}

-- A state of the object of this Uid: in form, and with a payload that restores in its class.
pub record IsObjectState (u : Uid) (s : ObjectState) : Type 0 where
  pub own : s.uid ≡ u
  pub number : IsObject u.num
  pub of : u ≡ object u.num
  pub in_form : StateInForm s
  pub restores : Restores s.format s.class s.payload

-- states of distinct objects
pub record AreOfObjects (states : List ObjectState) : Type 0 where
  pub distinct : IsDistinct uid_eq (map (λ (s : ObjectState). s.uid) states)
  pub each : AllByRecursion (λ s. IsObjectState s.uid s) states

-- each state of the pair is one of an object
pub record AreObjects (d : Pair) : Type 0 where
  pub held : AllByRecursion (λ (e : Uid × ObjectState). IsObjectState e.0 e.1) d.held
  pub pend : AllByRecursion (λ (e : Uid × List ObjectState). AreOfObjects e.1) d.pend
