-- Why an action is doomed, by the events and the journal before: a call of it was lost at a node that it had sent an Invoke.
use Rattle.std.specs.Prelude.{◌≡◌, ℕ, true, false, List, [], ◌∷◌, Some}
use Rattle.arj_journal.specs.declared.body.Body.{Body}
use Rattle.arj_journal.specs.declared.body.Body.TheVariants as body
use Rattle.arj_journal.specs.declared.body.Cause.TheVariants as cause
use Rattle.arj_journal.specs.declared.event.Event.{Event}
use Rattle.arj_journal.specs.declared.event.Event.TheVariants as event
use Rattle.arj_journal.specs.declared.header.Header.{Header}
use Rattle.arj_text.specs.declared.label.Label.{Label}
use Rattle.arj_text.specs.Label.{name}
use Rattle.arj_law_runs.specs.follow.Frames.{run_events}
use Rattle.arj_model.specs.Actions.{Act, act_in, acts}
use Rattle.arj_model.specs.CauseSpans.{is_doomed}
use Rattle.arj_model.specs.Follows.{Runs, label_doomed}
use Rattle.arj_model.specs.Past.{Past}
use Rattle.arj_promise.specs.Runs.{IsInForm, Run, journal_by}
use Rattle.arj_start.specs.Kinds.{is_serial}

-- the action with this label is doomed by the journal, and it isn't a serializing action
pub record IsToldDoomed (past : Past) (l : List ℕ) : Type 0 where
  pub act : Act
  pub named : act_in (acts past.lines) l ≡ Some act
  pub plain : is_serial act.kind ≡ false
  pub lost : is_doomed past.accepted past.lines l ≡ true

-- An event that is refused since an action is doomed is about an action that is doomed by the journal. So is the action of a commit that
-- begins with a line that it was aborted as doomed.
pub record DoomsStep (hd : Header) (past : Past) (e : Event) (bodies : List Body) : Type 0 where
  pub refused : bodies ≡ body.Refused 12 ∷ [] → (l : List ℕ) × (label_doomed e ≡ Some l) × IsToldDoomed past l
  pub aborted : (l : Label) (rest : List Body) → e ≡ event.Commit l → bodies ≡ body.Aborted l cause.Doomed ∷ rest → IsToldDoomed past (name l)

-- so it is of each event of a run
abbrev pub DoomsHaveCauses : Type 0
DoomsHaveCauses = (hd : Header) (r : Run hd) → IsInForm hd r → Runs (DoomsStep hd) r.start (run_events hd r) (journal_by hd r)
