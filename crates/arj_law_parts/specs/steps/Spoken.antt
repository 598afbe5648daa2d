-- Which lines the parts of a node say, and which are said of frames, of disks that stop, and of the run itself.
use Rattle.std.specs.Prelude.{⊤, Bool, true, false}
use Rattle.arj_protocol.specs.Effect.{Effect, Say}
use Rattle.arj_protocol.specs.Words.{Body}
use Rattle.arj_protocol.specs.Words.body

-- a line of a node's parts: of actions, locks, bindings, copies, what is prepared, restarts, and what is shown
abbrev pub is_of_parts : Body → Bool
is_of_parts (body.Sent k from to what) = false
is_of_parts (body.Got k) = false
is_of_parts (body.Void k) = false
is_of_parts (body.Dropped k) = false
is_of_parts (body.Halted n) = false
is_of_parts (body.Armed n) = false
is_of_parts (body.Refused c) = false
is_of_parts (body.Quiet b) = false
is_of_parts (body.Bad n) = false
is_of_parts (body.Limit w) = false
is_of_parts _ = true

-- what an effect says is so
abbrev pub SaidIn : (Body → Type 0) → Effect → Type 0
SaidIn S (Say b) = S b
SaidIn S _ = ⊤
