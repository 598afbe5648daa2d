-- What an event makes of a world in hand, with the stops that fall into it.
use Rattle.std.specs.Prelude.{ℕ, ◌≡◌, ◌-◌, Bool, true, false, List, [], length, Option, Some, None, slice_get}
use Rattle.arj_core.specs.declared.node.Core.{Ghosts}
use Rattle.arj_disk.specs.FileMap.{FileMap}
use Rattle.arj_protocol.specs.Words.{Body, Event, Line}
use Rattle.arj_protocol.specs.Words.body
use Rattle.arj_protocol.specs.World.{World, Arm, happens}
use Rattle.arj_world.specs.Stands.{Hand, Stands}
use Rattle.arj_world.specs.Turns.{FallAtWorks, asked, turned, with_arms}

-- An event that isn't refused was done, with the stops that fell.
pub record Happened (go : World → World) (w : World) (P : World → Type 0) : Type 0 where
  pub falls : List (ℕ × Arm)
  pub works : FallAtWorks falls
  pub stands : P (with_arms [] (go (with_arms falls w)))

-- so it is of each world that the hand stands for
abbrev pub HappensTo : {C D : Type 0} → Ghosts C → (D → FileMap) → (World → World) → Hand C D → Hand C D → Type 0
HappensTo core file go old new = (w : World) → Stands core file old w → Happened go w (Stands core file new)

-- an accepted event, of which nothing is armed by itself
abbrev pub done : Event → World → World
done e w = happens e (asked e).arm w

-- A turn was run: this event, with the stops that fell.
pub record Ran (e : Event) (w : World) (P : World → Type 0) : Type 0 where
  pub falls : List (ℕ × Arm)
  pub works : FallAtWorks falls
  pub stands : P (turned (record { event = e; falls = falls }) w)

-- so it is of each world that the hand stands for
abbrev pub RunsTo : {C D : Type 0} → Ghosts C → (D → FileMap) → Event → Hand C D → Hand C D → Type 0
RunsTo core file e old new = (w : World) → Stands core file old w → Ran e w (Stands core file new)

-- The world is over, and is otherwise this one in hand.
pub record IsOver {C D : Type 0} (core : Ghosts C) (file : D → FileMap) (h : Hand C D) (w : World) : Type 0 where
  pub over : w.over ≡ true
  pub stands : Stands core file h (record w { over = false })

-- a turn was run, and a frame didn't fit
abbrev pub RunsOver : {C D : Type 0} → Ghosts C → (D → FileMap) → Event → Hand C D → Hand C D → Type 0
RunsOver core file e old new = (w : World) → Stands core file old w → Ran e w (IsOver core file new)

-- ---- an action that begins

-- a line that an action began
abbrev pub is_began : Body → Bool
is_began (body.Began l k u p) = true
is_began _ = false

-- so it is of a line that is there
abbrev pub says_began : Option Line → Bool
says_began None = false
says_began (Some l) = is_began l.body

-- the last line says that an action began
abbrev pub ends_begun : List Line → Bool
ends_begun lines = says_began (slice_get lines (length lines - 1))
