-- Messages by whom they are for.
use Rattle.std.specs.Prelude.{ℕ}
use Rattle.arj_asking.specs.Hearing.{heard_as}
use Rattle.arj_protocol.specs.Ask.{answers}
use Rattle.arj_protocol.specs.Node.{Handled, Here, coord_heard, handle, handle_other, taken}
use Rattle.arj_protocol.specs.Words.{Message}
use Rattle.arj_serve.specs.Asked.{asked}

-- what the node makes of a message from a node
abbrev pub taken_here : ℕ → Message → ℕ → Here → Handled
taken_here from m n h = taken n h.disk h.parts from m

-- of one that is meant
abbrev pub handled_here : ℕ → Message → ℕ → Here → Handled
handled_here from m n h = handle n h.disk h.parts from m

-- of a request
abbrev pub asked_here : ℕ → Message → ℕ → Here → Handled
asked_here from m n h = asked n h.disk h.parts from m

-- of an answer
abbrev pub answered_here : ℕ → Message → ℕ → Here → Handled
answered_here from m n h = coord_heard h.parts (heard_as from (answers m) h.disk.intents h.parts.coord)

-- of a message that is neither
abbrev pub other_here : ℕ → Message → ℕ → Here → Handled
other_here from m n h = handle_other n h.disk h.parts from m
