-- The refusals of a journal.
use Rattle.std.specs.Prelude.{ℕ, List, [], ◌∷◌, Bool, true, false, Option, Some, None}
use Rattle.arj_journal.specs.declared.body.Body.{Body}
use Rattle.arj_journal.specs.declared.body.Body.TheVariants as body
use Rattle.arj_journal.specs.declared.body.Line.{Line}
use Rattle.arj_main.specs.declared.refused.Refusal.{Refusal}

-- the line says that its event was refused
abbrev pub is_refused : Body → Bool
is_refused (body.Refused cause) = true
is_refused _ = false

-- the same of a line
abbrev pub tells_refusal : Line → Bool
tells_refusal line = is_refused line.body

-- this refusal of the event, if there is one, else that of a later one
abbrev pub refused_or : ℕ → Body → Option Refusal → Option Refusal
refused_or event (body.Refused cause) later = Some (record { event = event; cause = cause })
refused_or event _ later = later

-- the first event that was refused, and its cause
abbrev pub first_refused : List Line → Option Refusal
first_refused [] = None
first_refused (line ∷ lines) = refused_or line.event line.body (first_refused lines)
