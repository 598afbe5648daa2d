-- Lines that answer calls and includes: each ends what waits, and is of the same object for the same.
use Rattle.std.specs.Prelude.{⊤, ◌≡◌, ℕ, ◌+◌, List, [], ◌∷◌, ◌++◌, true, None, is_some}
use Rattle.arj_journal.specs.declared.body.Body.{Body}
use Rattle.arj_journal.specs.declared.body.Body.TheVariants as body
use Rattle.arj_journal.specs.declared.body.Line.{Line}
use Rattle.arj_journal.specs.declared.event.Event.{Event}
use Rattle.arj_journal.specs.declared.header.Header.{Header}
use Rattle.arj_law_runs.specs.follow.Frames.{run_events}
use Rattle.arj_model.specs.Follows.{IsCallOf, IsIncludeOf, Runs}
use Rattle.arj_model.specs.Past.{Asked, Past, asked_of, block}
use Rattle.arj_model.specs.Refusals.{waits_for}
use Rattle.arj_promise.specs.Runs.{IsInForm, Run, journal_by}
use Rattle.arj_text.specs.Label.{name}
use Rattle.arj_text.specs.declared.label.Label.{Label}

-- behind these lines the action with this label waits for nothing more
abbrev pub NoneWaits : List Asked → List Line → Label → Type 0
NoneWaits accepted lines l = waits_for accepted lines (name l) ≡ None

-- A line behind these lines. An answer is to the call or the include that is waited for, an `ok` and an `includes` of the same object for
-- the same; and behind it, on the other lines, nothing is waited for.
abbrev pub EndsWait : List Asked → List Line → List Line → Body → Type 0
EndsWait accepted lines behind (body.Ok l x op answer) = IsCallOf x op (waits_for accepted lines (name l)) × NoneWaits accepted behind l
EndsWait accepted lines behind (body.Includes l x n) = IsIncludeOf x n (waits_for accepted lines (name l)) × NoneWaits accepted behind l
EndsWait accepted lines behind (body.Conflict l holder mode n) =
    (is_some (waits_for accepted lines (name l)) ≡ true) × NoneWaits accepted behind l
EndsWait accepted lines behind (body.Lost l n) = (is_some (waits_for accepted lines (name l)) ≡ true) × NoneWaits accepted behind l
EndsWait accepted lines behind (body.Changed l n difference) =
    (is_some (waits_for accepted lines (name l)) ≡ true) × NoneWaits accepted behind l
EndsWait accepted lines behind b = ⊤

-- each line of an event, behind those before it
abbrev pub EndWaits : List Asked → List Line → ℕ → List Body → Type 0
EndWaits accepted lines n [] = ⊤
EndWaits accepted lines n (b ∷ bs) =
    EndsWait accepted lines (lines ++ block n (b ∷ [])) b × EndWaits accepted (lines ++ block n (b ∷ [])) n bs

-- so it is of the lines of an event, which may ask what they answer
abbrev pub RepliesStep : Header → Past → Event → List Body → Type 0
RepliesStep hd past e bodies = EndWaits (past.accepted ++ asked_of past e ∷ []) past.lines (past.count + 1) bodies

-- and of each event of a run
abbrev pub RepliesEndWaits : Type 0
RepliesEndWaits = (hd : Header) (r : Run hd) → IsInForm hd r → Runs (RepliesStep hd) r.start (run_events hd r) (journal_by hd r)
