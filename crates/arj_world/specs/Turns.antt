-- The run of a script, with the stops that its disks make.
use Rattle.std.specs.Prelude.{ℕ, ◌≤◌, List, [], ◌∷◌}
use Rattle.std.specs.List.{AllByRecursion}
use Rattle.arj_protocol.specs.Words.{Event}
use Rattle.arj_protocol.specs.Effect.{Before}
use Rattle.arj_protocol.specs.World.{World, Arm, Asked, run_event}

-- An event with the stops that fall into it: whose disk stops, at which work of its node, counted from the event's first,
-- and how it leaves that work.
pub record Turn : Type 0 where
  pub event : Event
  pub falls : List (ℕ × Arm)

-- each stop falls at a work, the first or a later one
abbrev pub FallAtWorks : List (ℕ × Arm) → Type 0
FallAtWorks falls = AllByRecursion (λ (f : ℕ × Arm). 1 ≤ f.1.works) falls

-- so do the stops of a turn
abbrev pub FallsAtWorks : Turn → Type 0
FallsAtWorks t = FallAtWorks t.falls

-- an event that arms no disk: which stops fall is said by the turn in which they fall
abbrev pub asked : Event → Asked
asked e = record { event = e; arm = record { works = 1; how = Before } }

-- the world with these stops to fall
abbrev pub with_arms : List (ℕ × Arm) → World → World
with_arms arms w = record w { arms = arms }

-- the world after a turn
abbrev pub turned : Turn → World → World
turned t w = with_arms [] (run_event (asked t.event) (with_arms t.falls w))

-- the world after turns, first to last
abbrev pub all_turned : List Turn → World → World
all_turned [] w = w
all_turned (t ∷ ts) w = all_turned ts (turned t w)
