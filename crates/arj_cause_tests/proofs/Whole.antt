-- A run none of whose lines lacks a cause is one whose journal has its causes.
use Rattle.std.specs.Prelude.{◌≡◌, refl, ℕ, ◌+◌, List, [], ◌∷◌, ◌++◌, length, map, Bool, true, false, ◌&&◌, if◌then◌else◌}
use Rattle.arj_journal.specs.declared.body.Body.{Body}
use Rattle.arj_journal.specs.declared.body.Line.{Line}
use Rattle.arj_journal.specs.declared.event.Event.{Event}
use Rattle.arj_journal.specs.declared.header.Header.{Header}
use Rattle.arj_model.specs.Past.{Along, Past, next, nothing_yet}
use Rattle.arj_start.specs.Start.{fresh}
use Rattle.arj_model.specs.CauseSpans.{Here, behind, here_at}
use Rattle.arj_model.specs.Caused.{CausesStep, JHasCauses, are_caused, has_cause}
use Rattle.arj_cause_tests.proofs.Words.{Run, Wrote, end_from, lacking, lacking_from, lacking_in}
use Rattle.arj_cause_tests.proofs.Worked.{naming_stopped, naming_stopped_has_causes}

-- the events of a run, and its lines
abbrev events_of : List Wrote → List Event
events_of wrote = map (λ w. w.0) wrote

abbrev lines_of : Run → List Line
lines_of r = (end_from nothing_yet r.wrote).lines ++ []

lacks_none : (h : Here) (bodies : List Body) → lacking_in h bodies ≡ [] → are_caused h bodies ≡ true
lacks_none h [] none = refl
lacks_none h (b ∷ bodies) none = by (has_cause h b) none (λ e. lacks_none (behind h b) bodies e)
  where
    by : (has : Bool) → (if has then lacking_in (behind h b) bodies else (length h.lines + 1) ∷ lacking_in (behind h b) bodies) ≡ []
        → (lacking_in (behind h b) bodies ≡ [] → are_caused (behind h b) bodies ≡ true) → (has && are_caused (behind h b) bodies) ≡ true
    by true none later = later none
    by false none later = cc

both_none : (xs ys : List ℕ) → xs ++ ys ≡ [] → (xs ≡ []) × (ys ≡ [])
both_none [] ys none = (refl, none)
both_none (x ∷ xs) ys none = cc

along : (header : Header) (past : Past) (wrote : List Wrote) → lacking_from header past wrote ≡ [] →
    Along (CausesStep header) past (events_of wrote) (end_from past wrote)
along header past [] none = refl
along header past (w ∷ rest) none =
    let parts = both_none (lacking_in (here_at header past w.0 w.1) w.1) (lacking_from header (next past w.0 w.1) rest) none in
    (w.1, lacks_none (here_at header past w.0 w.1) w.1 parts.0, along header (next past w.0 w.1) rest parts.1)

has_causes : (r : Run) → lacking r ≡ [] → JHasCauses r.header fresh (events_of r.wrote) (lines_of r)
has_causes r none = (end_from nothing_yet r.wrote, [], along r.header nothing_yet r.wrote none, refl, tt)

-- one of the worked runs
naming_stopped_whole : JHasCauses naming_stopped.header fresh (events_of naming_stopped.wrote) (lines_of naming_stopped)
naming_stopped_whole = has_causes naming_stopped naming_stopped_has_causes
