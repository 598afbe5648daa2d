-- The lines of an accepted event: its own, those that may stand between them, its end, and its frames and halts.
use Rattle.std.specs.Prelude.{◌≡◌, ◌⊎◌, ⊤, ℕ, ◌+◌, List, [], ◌∷◌, ◌++◌, Bool, true, false, Option, Some, None}
use Rattle.std.specs.List.{list_all}
use Rattle.arj_journal.specs.declared.body.Body.{Body}
use Rattle.arj_journal.specs.declared.body.Body.TheVariants as body
use Rattle.arj_journal.specs.declared.body.Cause.TheVariants as cause
use Rattle.arj_journal.specs.declared.body.Line.{Line}
use Rattle.arj_journal.specs.declared.event.Event.{Event}
use Rattle.arj_journal.specs.declared.event.Event.TheVariants as event
use Rattle.arj_journal.specs.declared.header.Header.{Header}
use Rattle.arj_text.specs.Label.{name}
use Rattle.arj_text.specs.declared.label.Label.{Label}
use Rattle.arj_model.specs.Actions.{Act, acts, act_in}
use Rattle.arj_model.specs.Past.{Asked, Past, asked_of, block, is_refused}
use Rattle.arj_model.specs.Own.{Begins, Ends, commit_line, halts_fit, may_stand}
use Rattle.arj_model.specs.Follows.{AnswerFits, Runs, Step}
use Rattle.arj_start.specs.Start.{Start}
use Rattle.arj_law_runs.specs.follow.Frames.{run_events}
use Rattle.arj_promise.specs.Runs.{IsInForm, Run, journal_by}

-- the line is of a frame, or says that a node halts
abbrev pub is_of_net : Body → Bool
is_of_net (body.Sent k from to carried) = true
is_of_net (body.Got k) = true
is_of_net (body.Void k) = true
is_of_net (body.Halted n) = true
is_of_net b = false

-- each such line fits those before it: a frame that is sent has the next number, one that is delivered is the first open one, and a node
-- halts where it is up
abbrev pub NetFits : Start → List Asked → List Line → ℕ → List Body → Type 0
NetFits st accepted lines n [] = ⊤
NetFits st accepted lines n (b ∷ bs) =
    (is_of_net b ≡ true → AnswerFits st accepted lines b) × NetFits st accepted (lines ++ block n (b ∷ [])) n bs

-- the line may stand in the event, or says that a call was lost
abbrev pub may_stand_or_lose : Event → Body → Bool
may_stand_or_lose e (body.Lost l n) = true
may_stand_or_lose e b = may_stand e b

-- a commit begins with its line by the action's kind, or says that the action is doomed
abbrev pub BeginsCommitSo : Label → Option Act → List Body → Type 0
BeginsCommitSo l None own = ⊥
BeginsCommitSo l (Some a) own = (own ≡ commit_line a.kind l ∷ []) ⊎ (own ≡ body.Aborted l cause.Doomed ∷ [])

-- the lines with which an event begins: of a commit without why its action is doomed
abbrev pub BeginsSo : Header → Past → Event → List Body → Type 0
BeginsSo header past (event.Commit l) own = BeginsCommitSo l (act_in (acts past.lines) (name l)) own
BeginsSo header past e own = Begins header past e own

-- The lines of an accepted event, but for what was asked: it begins with its own, and ends with its own where its kind has one at the end;
-- between them stand such as may, a call that was lost besides; and nothing stands behind a halt where one node works.
pub record HasLines (header : Header) (past : Past) (e : Event) (bodies : List Body) : Type 0 where
  pub own : List Body
  pub others : List Body
  pub last : List Body
  pub parts : bodies ≡ own ++ (others ++ last)
  pub begins : BeginsSo header past e own
  pub ends : Ends e own last
  pub only : list_all (may_stand_or_lose e) others ≡ true
  pub halts : halts_fit past.lines e others ≡ true
  pub net : NetFits past.start (past.accepted ++ asked_of past e ∷ []) (past.lines ++ block (past.count + 1) own) (past.count + 1) others

-- the event shows what is held of an object
abbrev pub is_show : Event → Bool
is_show (event.Show x) = true
is_show _ = false

-- An accepted event has such lines; and a show writes what it may.
pub record LinesStep (hd : Header) (past : Past) (e : Event) (bodies : List Body) : Type 0 where
  pub lines : is_refused bodies ≡ false → HasLines hd past e bodies
  pub shown : is_show e ≡ true → Step hd past e bodies

-- so it is of each event of a run
abbrev pub LinesFollow : Type 0
LinesFollow = (hd : Header) (r : Run hd) → IsInForm hd r → Runs (LinesStep hd) r.start (run_events hd r) (journal_by hd r)
