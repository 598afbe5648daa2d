-- Rows of ends: what a server or naming was told has ended so, and an abort that is done is of an action that is over, and of a decided one
-- only for a cause.
use Rattle.arj_law_parts.proofs.Words
use Words.{◌≡◌, ◌∙◌, ◌&&◌, not, Bool, true, false, List, [], ◌∷◌, ◌++◌, refl, sym, ap, append-nil, append_assoc}
use Words.{and_parts, Body, Line, is_coord_line}
use Words.body
use Words.ending
use Rattle.arj_law_parts.specs.moves.Seen.{is_quiet_line}
use Rattle.arj_law_promise.proofs.settling.Aborting.{runs_show}
use Rattle.arj_law_runs.specs.follow.Frames.{run_events}
use Rattle.arj_model.specs.Actions.{is_over}
use Rattle.arj_model.specs.CauseSpans.{Here, act_by, holds_in}
use Rattle.arj_model.specs.Caused.{has_cause}
use Rattle.arj_model.specs.Outcome.{has_cause_to_abort}
use Rattle.arj_promise.specs.Outcome.{each_behind}
use Rattle.arj_promise.specs.Runs.{journal_by}
use Rattle.arj_law_cause.proofs.kinds.Ended.{IsOver, over_run}
use Rattle.arj_law_cause.proofs.kinds.Lines.{tested_row}
use Rattle.arj_law_cause.proofs.kinds.Over.{Ends}
use Rattle.arj_law_cause.specs.kinds.Kinds.{is_abort_done}
use Rattle.arj_law_cause.specs.kinds.Rows.{RowHolds, tested}

-- whoever a line says aborted is over by the lines before it
abbrev pub is_over_by : Here → Body → Bool
is_over_by h (body.Told n u ending.Abort p) = holds_in (is_over h.lines) (act_by h.lines u)
is_over_by h (body.Done n u r ending.Abort) = holds_in (is_over h.lines) (act_by h.lines u)
is_over_by h _ = true

-- ---- aborts that are done

quiet : (b : Body) → is_quiet_line b ≡ true → is_abort_done b ≡ false
quiet (body.Done n u r e) is = absurd (cc is)
quiet b is = refl

coord : (b : Body) → is_coord_line b ≡ true → not (is_abort_done b) ≡ true
coord (body.Done n u r e) is = absurd (cc is)
coord b is = refl

pass : (h : Here) (b : Body) → IsOver (Ends h.lines) b → tested is_over_by (λ g. is_abort_done) h b ≡ true
pass h (body.Done n u r ending.Abort) its = its
pass h (body.Done n u r ending.Commit) its = refl
pass h b its = refl

-- each line of the journal passes a test that all do
each_at : (test : List Line → Body → Bool) (done before : List Line) (line : Line) (behind : List Line) →
    each_behind test done (before ++ line ∷ behind) ≡ true → test (done ++ before) line.body ≡ true
each_at test done [] line behind is = ap (λ ls. test ls line.body) (append-nil done)
    ∙ (and_parts (test done line.body) (each_behind test (done ++ line ∷ []) behind) is).0
each_at test done (l ∷ ls) line behind is = ap (λ xs. test xs line.body) (sym (append_assoc done (l ∷ []) ls))
    ∙ each_at test (done ++ l ∷ []) ls line behind
    (and_parts (test done l.body) (each_behind test (done ++ l ∷ []) (ls ++ line ∷ behind)) is).1

-- so it is known of a line
abbrev MayAbort : List Line → Body → Type 0
MayAbort before b = has_cause_to_abort before b ≡ true

to_cause : (h : Here) (b : Body) → is_abort_done b ≡ true → MayAbort h.lines b → is_over_by h b ≡ true → has_cause h b ≡ true
to_cause h (body.Done n u r ending.Abort) its may over = λ i. over i && may i
to_cause h (body.Done n u r ending.Commit) its may over = absurd (cc its)
to_cause h (body.Told n u e p) its may over = absurd (cc its)
to_cause h (body.Began a b c d) its may over = absurd (cc its)
to_cause h (body.Ok a b c d) its may over = absurd (cc its)
to_cause h (body.Includes a b c) its may over = absurd (cc its)
to_cause h (body.Conflict a b c d) its may over = absurd (cc its)
to_cause h (body.Lost a b) its may over = absurd (cc its)
to_cause h (body.Changed a b c) its may over = absurd (cc its)
to_cause h (body.Committing a) its may over = absurd (cc its)
to_cause h (body.Committed a) its may over = absurd (cc its)
to_cause h (body.Ended a) its may over = absurd (cc its)
to_cause h (body.Aborted a b) its may over = absurd (cc its)
to_cause h (body.GaveUp a b) its may over = absurd (cc its)
to_cause h (body.Excluded a b c) its may over = absurd (cc its)
to_cause h (body.Granted a b c d) its may over = absurd (cc its)
to_cause h (body.Lowered a b c) its may over = absurd (cc its)
to_cause h (body.Bound a b c) its may over = absurd (cc its)
to_cause h (body.Active a b c) its may over = absurd (cc its)
to_cause h (body.Prepared a b c) its may over = absurd (cc its)
to_cause h (body.Sent a b c d) its may over = absurd (cc its)
to_cause h (body.Got a) its may over = absurd (cc its)
to_cause h (body.Void a) its may over = absurd (cc its)
to_cause h (body.Dropped a) its may over = absurd (cc its)
to_cause h (body.Halted a) its may over = absurd (cc its)
to_cause h (body.Up a b) its may over = absurd (cc its)
to_cause h (body.Armed a) its may over = absurd (cc its)
to_cause h (body.Recovered a b) its may over = absurd (cc its)
to_cause h (body.Refused a) its may over = absurd (cc its)
to_cause h (body.Entry a b c d) its may over = absurd (cc its)
to_cause h (body.Copy a b c d e) its may over = absurd (cc its)
to_cause h (body.Quiet a) its may over = absurd (cc its)
to_cause h (body.Bad a) its may over = absurd (cc its)
to_cause h (body.Limit a) its may over = absurd (cc its)

pub abort_row : RowHolds is_abort_done
abort_row hd r form =
    let lines = journal_by hd r in
    let shows = runs_show hd r in
    tested_row MayAbort is_abort_done is_over_by has_cause to_cause lines
    (λ before line behind is. each_at has_cause_to_abort [] before line behind
    (ap (each_behind has_cause_to_abort []) (sym is) ∙ shows.aborts))
    hd r.start (run_events hd r)
    (over_run is_over_by is_abort_done quiet (λ k. refl) coord (λ u o how. refl) (λ n u. refl) (λ n i. refl) pass hd r form)
