-- The arms that events ask for.
use Rattle.std.specs.Prelude.{ℕ, ◌==◌, if◌then◌else◌, List, [], ◌∷◌, Option, Some, None}
use Rattle.std.specs.List.{filter_map}
use Rattle.arj_disk.specs.declared.slot.Outcome.{Outcome}
use Rattle.arj_disk.specs.declared.slot.Outcome.TheVariants as outcome
use Rattle.arj_journal.specs.declared.event.StopKind.{StopKind}
use Rattle.arj_journal.specs.declared.event.StopKind.TheVariants as stop
use Rattle.arj_protocol.specs.Words.{Event}
use Rattle.arj_protocol.specs.Words.event

-- what a stopped call leaves, as the script asks for it
abbrev pub outcome_of : StopKind → Outcome
outcome_of stop.Undone = outcome.Undone
outcome_of stop.Done = outcome.Done
outcome_of (stop.Torn bytes) = outcome.Torn bytes

-- the arm that an event asks for at a node: which call of its disk stops, and what that leaves
abbrev pub arm_at : ℕ → Event → Option (ℕ × Outcome)
arm_at n (event.Stop m calls kind) = if m == n then Some (calls, outcome_of kind) else None
arm_at n _ = None

-- the arms that events ask for at a node, in their order
abbrev pub arms_at : ℕ → List Event → List (ℕ × Outcome)
arms_at n events = filter_map (arm_at n) events

-- the last of these, or what was there before
abbrev pub last_or : {A : Type 0} → Option A → List A → Option A
last_or before [] = before
last_or before (a ∷ rest) = last_or (Some a) rest
