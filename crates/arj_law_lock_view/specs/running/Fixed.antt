-- What is fixed of a whole run where one object is seen by the lock machine, and how it agrees with what was done so far.
use Rattle.std.specs.Prelude.{◌≡◌, ℕ, List, Some}
use Rattle.arj_class.specs.declared.value.Value.{Value}
use Rattle.arj_law_lock.specs.machine.Actions.{Act}
use Rattle.arj_model.specs.Serial.{Values}
use Rattle.arj_start.specs.Start.{Marks}
use Rattle.arj_protocol.specs.Words.{Ask, Head, asks}
use Rattle.arj_law_parts.specs.parts.Actions.{Action}
use Rattle.arj_law_parts.specs.parts.Copies.{Paths}
use Rattle.arj_law_parts.specs.moves.Seen.{In}
use Rattle.arj_promise.specs.Runs.{Post}
use Rattle.arj_law_lock_view.specs.view.Acts.{Acts}
use Rattle.arj_law_lock_view.specs.view.Copies.{Codes}
use Rattle.arj_law_lock_view.specs.view.Servers.{Wants}
use Rattle.arj_law_lock_view.specs.view.Serving.{IsWanted}
use Rattle.arj_law_lock_view.specs.view.Telling.{AreOneTree, Family, View}

-- The place of each action in the machine, and its path, also of actions that are still to begin; what stands for a value; what each
-- request wants of the object; and the number of the object's first value.
pub record Fixed : Type 0 where
  pub act : Acts
  pub paths : Paths
  pub code : Codes
  pub wants : Wants
  pub first : ℕ

-- with the actions that were begun so far
abbrev pub family_of : Fixed → List Action → Family
family_of f begun = record { begun = begun; paths = f.paths; act = f.act }

-- as a node looks at the object
abbrev pub view_of : Fixed → ℕ → List Action → ℕ → View
view_of f x begun k = record { family = family_of f begun; code = f.code; wants = f.wants; x = x; node = k }

-- It agrees with what was done so far: the actions that were begun are one tree in these places, and each request that was sent wants
-- what is said here.
pub record Agrees (f : Fixed) (x : ℕ) (begun : List Action) (sent : List Post) : Type 0 where
  pub whole : AreOneTree (family_of f begun)
  pub wanted : (p : Post) (h : Head) (a : Ask) → In p sent → asks (let q = p in q.message) ≡ Some (h, a) →
      IsWanted (view_of f x begun p.to) h a

-- the number of the object's first value stands for this one, whoever wrote it
abbrev pub StandsFor : Fixed → Value → Type 0
StandsFor f v = (by : Act) × (f.first ≡ f.code v by)

-- it stands for this one, by whom the object's mark names
abbrev pub BeginsAs : Values → Marks → ℕ → Fixed → Type 0
BeginsAs values marks x f = f.first ≡ f.code (values x) (f.act (let m = marks.states x in m.writer))

-- it agrees with what was done so far, and is so
abbrev pub AgreesBy : (Fixed → Type 0) → Fixed → ℕ → List Action → List Post → Type 0
AgreesBy Apt f x begun sent = Agrees f x begun sent × Apt f

-- it agrees, and begins so
abbrev pub AgreesAs : Values → Marks → Fixed → ℕ → List Action → List Post → Type 0
AgreesAs values marks f x begun sent = AgreesBy (BeginsAs values marks x) f x begun sent
