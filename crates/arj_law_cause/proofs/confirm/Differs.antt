-- Whole runs: each line that says that a server, or naming, refused a commit since something changed has its cause.
use Rattle.arj_law_parts.proofs.Words
use Words.{◌≡◌, ◌++◌, true, List, ◌∷◌, Body, Header, Line, Start, refl, subst, journal_by}
use Words.body
use Words.cause
use Rattle.arj_law_runs.proofs.follow.Frames.{frames_are_caused}
use Rattle.arj_law_runs.specs.follow.Frames.{FramesStep, run_events}
use Rattle.arj_model.specs.CauseSpans.{Here}
use Rattle.arj_model.specs.Caused.{has_cause}
use Rattle.arj_law_cause.proofs.confirm.{Refused.Fits, Ups.UpsRise, Ups.rise_before, Runs.each_line, Runs.rows_so}
use Rattle.arj_law_cause.proofs.rows.{Entered.IsSettled, Entered.settled_before, Settled.runs_rise, Settled.runs_settled}
use Rattle.arj_law_cause.specs.kinds.Kinds.{is_changed_abort}
use Rattle.arj_law_cause.specs.kinds.Rows.{RowHolds}

-- what is known of a line, and of those before it
abbrev IsKnown : Header → Start → List Line → Body → Type 0
IsKnown hd st before b = Fits hd st before b × (IsSettled before × UpsRise st before)

changed_cause : (hd : Header) (st : Start) (h : Here) (b : Body) → h.header ≡ hd → h.start ≡ st → is_changed_abort b ≡ true →
    IsKnown hd st h.lines b → has_cause h b ≡ true
changed_cause hd st h (body.Aborted l (cause.Changed n d)) header starts its so = so.0 so.1.0 so.1.1 h header starts refl
changed_cause hd st h b header starts its so = absurd (cc its)

pub changed_row : RowHolds is_changed_abort
changed_row hd r form = rows_so hd r.start (IsKnown hd r.start) has_cause (λ h. is_changed_abort) (changed_cause hd r.start)
    (journal_by hd r) each (FramesStep hd) (run_events hd r) (frames_are_caused hd r form)
  where
    each : (before : List Line) (line : Line) (behind : List Line) → journal_by hd r ≡ before ++ line ∷ behind →
        IsKnown hd r.start before line.body
    each before line behind is = (
      (each_line hd r form before line behind is).0,
      (
        settled_before before (line ∷ behind) (subst IsSettled is (runs_settled hd r form)),
        rise_before r.start before (line ∷ behind) (subst (UpsRise r.start) is (runs_rise hd r form)),
      ),
    )
