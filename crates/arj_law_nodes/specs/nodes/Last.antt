-- The line outside of events that a run's end may put behind the journal of its events.
use Rattle.std.specs.Prelude.{⊤, ◌≡◌, ◌++◌, Bool, true, false, List, [], ◌∷◌}
use Rattle.arj_protocol.specs.Words.{Body, Line}
use Rattle.arj_protocol.specs.Words.body
use Rattle.arj_protocol.specs.Words.which

-- The line says that a line was bad, or that a limit of lines or of labels was met. That of frames is met within an event.
abbrev pub ends_run : Body → Bool
ends_run (body.Bad n) = true
ends_run (body.Limit which.Lines) = true
ends_run (body.Limit which.Labels) = true
ends_run b = false

-- no line, or one that says so
abbrev pub IsLast : List Line → Type 0
IsLast [] = ⊤
IsLast (l ∷ []) = ends_run l.body ≡ true
IsLast (l ∷ m ∷ ls) = ⊥

-- a journal, and behind it no line, or one that says so
abbrev pub EndsBehind : List Line → List Line → Type 0
EndsBehind core journal = (last : List Line) × IsLast last × (journal ≡ core ++ last)
