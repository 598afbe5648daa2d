-- Lines that end commits: each is of a commit that is under way.
use Rattle.std.specs.Prelude.{⊤, ◌≡◌, ℕ, ◌+◌, List, [], ◌∷◌, ◌++◌, Bool, true, false}
use Rattle.arj_journal.specs.declared.body.Body.{Body}
use Rattle.arj_journal.specs.declared.body.Body.TheVariants as body
use Rattle.arj_journal.specs.declared.body.Cause.TheVariants as cause
use Rattle.arj_journal.specs.declared.body.Line.{Line}
use Rattle.arj_journal.specs.declared.event.Event.{Event}
use Rattle.arj_journal.specs.declared.event.Event.TheVariants as event
use Rattle.arj_journal.specs.declared.header.Header.{Header}
use Rattle.arj_law_runs.specs.follow.Frames.{run_events}
use Rattle.arj_model.specs.Follows.{AnswerFits, Runs}
use Rattle.arj_model.specs.Past.{Asked, Past, asked_of, block}
use Rattle.arj_promise.specs.Runs.{IsInForm, Run, journal_by}
use Rattle.arj_start.specs.Start.{Start}

-- the line says that an action committed, or that its commit was refused or given up
abbrev pub ends_commit : Body → Bool
ends_commit (body.Committed l) = true
ends_commit (body.Aborted l cause.Asked) = false
ends_commit (body.Aborted l cause.Doomed) = false
ends_commit (body.Aborted l c) = true
ends_commit b = false

-- each such line fits those before it: the commit was called, and hasn't ended
abbrev pub CommitsFit : Start → List Asked → List Line → ℕ → List Body → Type 0
CommitsFit st accepted lines n [] = ⊤
CommitsFit st accepted lines n (b ∷ bs) =
    (ends_commit b ≡ true → AnswerFits st accepted lines b) × CommitsFit st accepted (lines ++ block n (b ∷ [])) n bs

-- so is each such line; where the first is the event's own, each but that
abbrev pub CommitsFitIn : Bool → Start → List Asked → List Line → ℕ → List Body → Type 0
CommitsFitIn false st accepted lines n bs = CommitsFit st accepted lines n bs
CommitsFitIn true st accepted lines n [] = ⊤
CommitsFitIn true st accepted lines n (b ∷ bs) = CommitsFit st accepted (lines ++ block n (b ∷ [])) n bs

-- the event calls a commit: its first line is its own
abbrev pub calls_commit : Event → Bool
calls_commit (event.Commit l) = true
calls_commit e = false

-- so is each such line of an event, behind a commit's own
abbrev pub CommitsStep : Header → Past → Event → List Body → Type 0
CommitsStep hd past e bodies =
    CommitsFitIn (calls_commit e) past.start (past.accepted ++ asked_of past e ∷ []) past.lines (past.count + 1) bodies

-- and of each event of a run
abbrev pub CommitsEndWaits : Type 0
CommitsEndWaits = (hd : Header) (r : Run hd) → IsInForm hd r → Runs (CommitsStep hd) r.start (run_events hd r) (journal_by hd r)
