-- What a settle leaves.
use Rattle.std.specs.Prelude.{◌≡◌, ◌≤◌, ◌⊎◌, true, false, length, None}
use Rattle.arj_protocol.specs.Words.event
use Rattle.arj_protocol.specs.World.{Asked, World, lowest_from, run_event}
use Rattle.arj_start.specs.Limits.{most_frames}

-- no frame is open, each was delivered or lost; or one didn't fit
abbrev pub IsSettled : World → Type 0
IsSettled w = (w.full ≡ true) ⊎ (lowest_from 1 w.frames ≡ None)

-- after a settle or a quiesce no frame is open, unless the run is over
abbrev pub EventsLeaveNothing : Type 0
EventsLeaveNothing = (e : Asked) (w : World) → (e.event ≡ event.Settle) ⊎ (e.event ≡ event.Quiesce) → length w.frames ≤ most_frames →
    w.over ≡ false
    → (run_event e w).over ≡ false → lowest_from 1 (run_event e w).frames ≡ None
