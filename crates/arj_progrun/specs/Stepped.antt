-- What nodes have stepped of the events that a schedule gives.
use Rattle.std.specs.Prelude.{ℕ, ◌≡◌, ⊤, ◌+◌, List, [], ◌∷◌, ◌++◌, length, map, Bool, true, ◌==◌}
use Rattle.std.specs.List.{flat_map, list_all}
use Rattle.arj_journal.specs.declared.body.Line.{Line}
use Rattle.arj_journal.specs.declared.event.Event.{Event}
use Rattle.arj_progrun.specs.Schedule.{Given}

-- The events that were stepped, their journal, and how many they are.
pub record Stepping : Type 0 where
  pub events : List Event
  pub journal : List Line
  pub steps : ℕ

-- what was stepped, of these
abbrev pub stepping : List Event → List Line → ℕ → Stepping
stepping events journal steps = record { events = events; journal = journal; steps = steps }

-- an event, and the lines that it wrote
abbrev pub written : Event → List Line → Given
written event lines = record { event = event; lines = lines }

-- the lines have the number of their event
abbrev pub are_of : ℕ → List Line → Bool
are_of event lines = list_all (λ line. line.event == event) lines

-- the lines of each event of a trace have its number, of which the first has this one
abbrev pub AreNumbered : ℕ → List Given → Type 0
AreNumbered n [] = ⊤
AreNumbered n (g ∷ gs) = (are_of n g.lines ≡ true) × AreNumbered (n + 1) gs

-- The events of a trace were stepped, and the journal is that of them, in which each line has the number of its event.
pub record HasStepped (trace : List Given) (now : Stepping) : Type 0 where
  pub events : now.events ≡ map (λ g. g.event) trace
  pub journal : now.journal ≡ flat_map (λ g. g.lines) trace
  pub steps : now.steps ≡ length trace
  pub numbered : AreNumbered 1 trace

-- This event more was stepped, and wrote these lines.
pub record Stepped (g : Given) (old new : Stepping) : Type 0 where
  pub events : new.events ≡ old.events ++ g.event ∷ []
  pub journal : new.journal ≡ old.journal ++ g.lines
  pub steps : new.steps ≡ old.steps + 1
