-- Inputs about actions, in the whole world as the lock machine of one object has it.
use Rattle.std.specs.Prelude.{◌≡◌, ℕ, true, None}
use Rattle.arj_protocol.specs.Words.{Header}
use Rattle.arj_protocol.specs.Coord.{Coord}
use Rattle.arj_protocol.specs.Step.{Input, acts, refusal_up}
use Rattle.arj_law_parts.specs.moves.Keeps.{is_act}
use Rattle.arj_law_runs.specs.addresses.Binds.{KnowsBinds}
use Rattle.arj_law_lock_view.specs.facts.Grants.{KnowsGrants}
use Rattle.arj_law_lock_view.specs.facts.Works.{KnowsEnds, KnowsWaits}
use Rattle.arj_law_lock_view.specs.running.Beside.{Case, HoldsNamingIn, IsSeenIn, Spot, world_at}
use Rattle.arj_law_lock_view.specs.running.Coordinating.{KnowsAsks, StepGoes, coord_at, records_at}

-- What is known of a coordinator where an input comes, by the protocol alone: who waits, which bindings it keeps, and which grants it
-- heard.
pub record KnowsInput (s : Spot) : Type 0 where
  pub waits : KnowsWaits (coord_at s)
  pub binds : KnowsBinds (let M = s.seen in M.sent) s.node (coord_at s)
  pub grants : KnowsGrants (coord_at s)

-- and of the coordinator behind the step: what it asks, and which ends it lists
pub record KnowsAfter (c : Case) (C : Coord) : Type 0 where
  pub asks : KnowsAsks c C
  pub ends : KnowsEnds C

-- An input about an action that isn't refused: the machine goes along, and the object is seen, wherever a stop falls.
abbrev pub InputsGo : Type 0
InputsGo = (hd : Header) (c : Case) (s : Spot) (e : ℕ) (i : Input)
    → IsSeenIn c (world_at s) → HoldsNamingIn c s.node (let t = s.parts in t.naming) → KnowsInput s → is_act i ≡ true →
    refusal_up hd i (coord_at s) ≡ None
    → let D = acts i (records_at s) (coord_at s) in KnowsAfter c D.part → StepGoes c s e D
