-- Whole runs: each line that says that a store refused a commit's state as too late has its cause.
use Rattle.arj_law_parts.proofs.Words
use Words.{◌≡◌, ◌++◌, true, List, [], ◌∷◌, refl, subst, Body, Header, Line, Start}
use Words.body
use Words.cause
use Rattle.arj_law_runs.proofs.follow.Frames.{frames_are_caused}
use Rattle.arj_law_runs.specs.follow.Frames.{FramesStep, run_events}
use Rattle.arj_model.specs.CauseSpans.{Here}
use Rattle.arj_model.specs.Caused.{has_cause}
use Rattle.arj_promise.specs.Runs.{IsInForm, Run, journal_by}
use Rattle.arj_law_cause.proofs.confirm.{Refused.Fits, Runs.lines_fit, Runs.rows_so}
use Rattle.arj_law_cause.proofs.confirm.Runs as runs
use Rattle.arj_law_cause.proofs.rows.{Entered.IsSettled, Entered.settled_before, Settled.runs_settled}
use Rattle.arj_law_cause.proofs.votes.Lines as lines
use Rattle.arj_law_cause.specs.kinds.Kinds.{is_old_abort}
use Rattle.arj_law_cause.specs.kinds.Rows.{RowHolds}

-- so it is known of a line
abbrev IsOldSo : Header → Start → List Line → Body → Type 0
IsOldSo hd st before b = Fits hd st before b × IsSettled before

each_line : (hd : Header) (r : Run hd) → IsInForm hd r → (before : List Line) (line : Line) (behind : List Line) →
    journal_by hd r ≡ before ++ line ∷ behind → IsOldSo hd r.start before line.body
each_line hd r form before line behind is = (
  lines.fit_at (Fits hd r.start) [] before line behind (subst (runs.AreFit hd r.start []) is (lines_fit hd r.start form.header r refl)),
  settled_before before (line ∷ behind) (subst IsSettled is (runs_settled hd r form)),
)

old_cause : (hd : Header) (st : Start) (h : Here) (b : Body) → h.header ≡ hd → h.start ≡ st → is_old_abort b ≡ true →
    IsOldSo hd st h.lines b → has_cause h b ≡ true
old_cause hd st h (body.Aborted l (cause.Old n x v)) header starts its so = so.0 so.1 h header starts refl
old_cause hd st h b header starts its so = absurd (cc its)

pub old_row : RowHolds is_old_abort
old_row hd r form = rows_so hd r.start (IsOldSo hd r.start) has_cause (λ h. is_old_abort) (old_cause hd r.start) (journal_by hd r)
    (each_line hd r form) (FramesStep hd) (run_events hd r) (frames_are_caused hd r form)
