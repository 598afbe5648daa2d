-- For which cause each event is refused, against its lowest one by the journal.
use Rattle.std.specs.Prelude.{◌≡◌, ◌⊎◌, ℕ, List, [], ◌∷◌, true, false, ◌==◌, Some}
use Rattle.arj_journal.specs.declared.body.Body.{Body}
use Rattle.arj_journal.specs.declared.body.Body.TheVariants as body
use Rattle.arj_journal.specs.declared.event.Event.{Event}
use Rattle.arj_journal.specs.declared.header.Header.{Header}
use Rattle.arj_law_cause.specs.follow.causes.Refusals.{doomed}
use Rattle.arj_law_runs.specs.follow.Frames.{run_events}
use Rattle.arj_model.specs.Follows.{Runs, is_behind_doom}
use Rattle.arj_model.specs.Past.{Past}
use Rattle.arj_model.specs.Refusals.{refusal}
use Rattle.arj_promise.specs.Runs.{IsInForm, Run, journal_by}

-- An event is refused with a number that isn't that of a doomed action for that cause, which is its lowest one by the journal. One that has a
-- lowest cause by the journal is refused for it, or since an action is doomed; and that only where no lower cause holds.
pub record RefusalsStep (hd : Header) (past : Past) (e : Event) (bodies : List Body) : Type 0 where
  pub refused : (c : ℕ) → bodies ≡ body.Refused c ∷ [] → (c == doomed) ≡ false → refusal hd past e ≡ Some c
  pub lowest : (c : ℕ) → refusal hd past e ≡ Some c → (bodies ≡ body.Refused c ∷ []) ⊎ (bodies ≡ body.Refused doomed ∷ [])
  pub behind : bodies ≡ body.Refused doomed ∷ [] → is_behind_doom (refusal hd past e) ≡ true

-- so it is of each event of a run
abbrev pub RefusalsFollow : Type 0
RefusalsFollow = (hd : Header) (r : Run hd) → IsInForm hd r → Runs (RefusalsStep hd) r.start (run_events hd r) (journal_by hd r)
