-- What a message is to the action that had asked.
use Rattle.std.specs.Prelude.{◌≡◌, ℕ, Bool, true, false, List, Option, Some, None, option_map, ⊤}
use Rattle.arj_commit.specs.Steps.{waits_by}
use Rattle.arj_protocol.specs.Ask.{Reply, actor}
use Rattle.arj_protocol.specs.Asking.{waits_for_call, heard, heard_none}
use Rattle.arj_protocol.specs.Commit.{CommitStep, Stays, Asks, Decides, Aborts, plan_of}
use Rattle.arj_protocol.specs.Coord.{Coord, Doing, Now, Idle, Calling, Committing, doing_of, is_free}
use Rattle.arj_protocol.specs.Effect.{Intent, Served}
use Rattle.arj_protocol.specs.Tree.{root_of}
use Rattle.arj_protocol.specs.Words.{Uid, Asked}

-- a message to the coordinator: void where it is no answer
abbrev pub heard_as : ℕ → Option (Asked × Reply) → List (Uid × Intent) → Coord → Served Coord (Unit {0})
heard_as from None intents c = heard_none c
heard_as from (Some a) intents c = heard from a.0 a.1 intents c

-- the action that had asked
abbrev pub asker_in : Option (Asked × Reply) → Option Uid
asker_in None = None
asker_in (Some a) = Some a.0.act

-- the answer is one for which a call waits
abbrev pub call_waits_by : ℕ → Option (Asked × Reply) → Now → Bool
call_waits_by from None now = false
call_waits_by from (Some a) (Calling s) = waits_for_call from a.0 a.1 s
call_waits_by from (Some a) now = false

-- the answer is one for which this waits
abbrev pub waits_in : ℕ → Option (Asked × Reply) → Now → Bool
waits_in from a Idle = false
waits_in from a (Calling s) = call_waits_by from a (Calling s)
waits_in from a (Committing m) = waits_by from a m

-- the root is free of what it keeps of the object for the call that waits
abbrev pub free_in : Coord → Now → Bool
free_in c (Calling s) = is_free (root_of s.path) (actor s.path) s.x c
free_in c _ = true

-- what waits after a step of a commit is of this action
abbrev pub IsOf : Uid → CommitStep → Type 0
IsOf u (Stays m) = actor (plan_of m).path ≡ u
IsOf u (Asks m) = actor (plan_of m).path ≡ u
IsOf u (Decides p) = actor p.path ≡ u
IsOf u (Aborts why p) = ⊤

-- An action waits for the answer, and this says whether its root is free for that.
pub record IsAwaited (from : ℕ) (a : Option (Asked × Reply)) (c : Coord) (u : Uid) (free : Bool) : Type 0 where
  pub now : Now
  pub asks : asker_in a ≡ Some u
  pub there : Some now ≡ option_map (λ (d : Doing). d.now) (doing_of u c)
  pub waits : waits_in from a now ≡ true
  pub is_free : free ≡ free_in c now
