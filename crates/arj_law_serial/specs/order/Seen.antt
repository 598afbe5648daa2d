-- What the lock machines have to see of a run for its journal to be serial, and what gives that.
use Rattle.std.specs.Prelude.{◌≡◌, ℕ, ◌==◌, true, List, Some}
use Rattle.std.specs.List.{list_any}
use Rattle.arj_journal.specs.declared.body.Line.{Line}
use Rattle.arj_journal.specs.declared.header.Header.{Header}
use Rattle.arj_model.specs.Actions.{Placed}
use Rattle.arj_model.specs.Calls.{Said, said}
use Rattle.arj_model.specs.Last.{first_values}
use Rattle.arj_model.specs.Serial.{Values}
use Rattle.arj_protocol.specs.Words.{Ask, Head, asks}
use Rattle.arj_protocol.specs.World.{World}
use Rattle.arj_law_lock.specs.machine.State.{State}
use Rattle.arj_law_parts.specs.parts.Actions.{Action}
use Rattle.arj_law_runs.specs.calls.Servers.{AreOneCall}
use Rattle.arj_law_runs.specs.journal.Paths.{IsAlikeOf}
use Rattle.arj_law_parts.specs.moves.Keeps.{Holds}
use Rattle.arj_law_parts.specs.moves.Seen.{In}
use Rattle.arj_promise.specs.Runs.{Post, Seen}
use Rattle.arj_law_lock_view.specs.facts.Worlds.{IsFromOne}
use Rattle.arj_law_lock_view.specs.running.Fixed.{AgreesAs, Fixed}
use Rattle.arj_law_lock_view.specs.running.Sees.{SeesLocks}
use Rattle.arj_law_lock_view.specs.running.Tied.{AreTied}
use Rattle.arj_law_serial.specs.order.Tied.{AreApart}

-- a call on the object was answered
abbrev pub IsCalled : ℕ → List Line → Type 0
IsCalled x lines = list_any (λ (s : Placed Said). s.it.x == x) (said lines) ≡ true

-- calls of one request are one, and have numbers from 1 on
pub record RequestsAreOne (M : Seen) : Type 0 where
  pub one : AreOneCall M.sent
  pub numbered : (p : Post) → In p M.sent → (h : Head) (a : Ask) → asks (let q = p in q.message) ≡ Some (h, a) → IsFromOne h a

-- The actions that were begun are those of the journal, and for all that may be fixed, tells values apart, agrees with them, and begins
-- with this value, by whom its mark names, the object is seen in a state of its lock machine, to which the journal is tied.
abbrev pub IsLockedApart : Values → ℕ → Seen → Type 0
IsLockedApart values x M = (begun : List Action) × IsAlikeOf begun M × ((f : Fixed) → AreApart f.code →
    AgreesAs values M.start.marks f x begun M.sent →
    (S : State) × SeesLocks f x begun S M × AreTied f x M.lines S) × RequestsAreOne M

-- so it is of the world, of each object of which a call was answered
abbrev pub AreLocked : Header → World → Type 0
AreLocked hd w = (x : ℕ) → IsCalled x (let v = w in v.lines) → Holds hd (IsLockedApart (first_values hd) x) w
