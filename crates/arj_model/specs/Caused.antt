-- Each line of a journal has its cause, in words of the header, the events and the lines before it.
use Rattle.std.specs.Prelude.{◌≡◌, ℕ, List, [], ◌∷◌, length, Bool, true, false, ◌==◌, ◌&&◌}
use Rattle.std.specs.Str.{bytes_eq}
use Rattle.arj_journal.specs.declared.body.Body.{Body}
use Rattle.arj_journal.specs.declared.body.Body.TheVariants as body
use Rattle.arj_journal.specs.declared.body.Line.{Line}
use Rattle.arj_journal.specs.declared.body.Which.TheVariants as which
use Rattle.arj_journal.specs.declared.event.Event.{Event}
use Rattle.arj_journal.specs.declared.event.Event.TheVariants as event
use Rattle.arj_journal.specs.declared.header.Header.{Header}
use Rattle.arj_text.specs.Label.{name}
use Rattle.arj_start.specs.Limits.{most_frames}
use Rattle.arj_model.specs.Past.{Past}
use Rattle.arj_start.specs.Start.{Start}
use Rattle.arj_model.specs.Refusals.{last_frame}
use Rattle.arj_model.specs.Follows.{Runs}
use Rattle.arj_model.specs.CauseSpans.{Here, behind, here_at}
use Rattle.arj_model.specs.CauseAnswers.{changed_caused, conflict_caused, includes_caused, lost_caused, ok_caused}
use Rattle.arj_model.specs.CauseEnds.{committed_caused, ended_caused, excluded_caused, gaveup_caused, is_commit_of}
use Rattle.arj_model.specs.CauseCommits.{aborted_caused}
use Rattle.arj_model.specs.CauseLocks.{active_caused, bound_caused, granted_caused, lowered_caused, told_caused}
use Rattle.arj_model.specs.CauseNodes.{arms, copy_caused, done_caused, dropped_caused, entry_caused, got_caused, may_halt, prepared_caused}
use Rattle.arj_model.specs.CauseNodes.{quiet_caused, recovered_caused, refused_caused, sent_caused, up_caused, void_caused}

-- the event begins an action with this label
abbrev pub begins_action : List ℕ → Event → Bool
begins_action l (event.Begin m n) = bytes_eq (name m) l
begins_action l (event.Serial m n) = bytes_eq (name m) l
begins_action l (event.BeginIn m p) = bytes_eq (name m) l
begins_action l (event.Top m p) = bytes_eq (name m) l
begins_action l _ = false

-- A line has its cause. The number of lines and of labels is bounded outside of events, as a line that can't be read is told there.
abbrev pub has_cause : Here → Body → Bool
has_cause h (body.Began l k u p) = begins_action (name l) h.event
has_cause h (body.Ok l x op answer) = ok_caused h (name l) x op
has_cause h (body.Includes l x n) = includes_caused h (name l) x n
has_cause h (body.Conflict l u mode n) = conflict_caused h (name l) u mode n
has_cause h (body.Lost l n) = lost_caused h (name l) n
has_cause h (body.Changed l n d) = changed_caused h (name l) n d
has_cause h (body.Committing l) = is_commit_of (name l) h.event && (length h.lines == h.first)
has_cause h (body.Committed l) = committed_caused h (name l) (behind h (body.Committed l)).lines
has_cause h (body.Ended l) = ended_caused h (name l)
has_cause h (body.Aborted l c) = aborted_caused h (name l) c
has_cause h (body.GaveUp l n) = gaveup_caused h (name l) n
has_cause h (body.Excluded l x n) = excluded_caused h (name l) x n
has_cause h (body.Granted n u o mode) = granted_caused h n u o mode
has_cause h (body.Lowered n u o) = lowered_caused h n u o
has_cause h (body.Bound x b n) = bound_caused h x b n
has_cause h (body.Active n x b) = active_caused h n x b
has_cause h (body.Told n u e p) = told_caused h n u e p
has_cause h (body.Prepared n u r) = prepared_caused h n u r
has_cause h (body.Done n u r e) = done_caused h n u r e
has_cause h (body.Sent k from to carried) = sent_caused h k from to carried
has_cause h (body.Got k) = got_caused h k
has_cause h (body.Void k) = void_caused h k
has_cause h (body.Dropped k) = dropped_caused h k
has_cause h (body.Halted n) = may_halt n h.event
has_cause h (body.Up n i) = up_caused h n i
has_cause h (body.Armed n) = arms n h.event
has_cause h (body.Recovered n u) = recovered_caused h n u
has_cause h (body.Refused c) = refused_caused h c
has_cause h (body.Entry x v servers stores) = entry_caused h x v servers stores
has_cause h (body.Copy n x v u payload) = copy_caused h n x v u payload
has_cause h (body.Quiet still) = quiet_caused h still
has_cause h (body.Limit which.Frames) = last_frame h.lines == most_frames
has_cause h (body.Limit which.Lines) = false
has_cause h (body.Limit which.Labels) = false
has_cause h (body.Bad n) = false

-- so has each of these lines, behind those before it
abbrev pub are_caused : Here → List Body → Bool
are_caused h [] = true
are_caused h (b ∷ bs) = has_cause h b && are_caused (behind h b) bs

-- each line that an event wrote has its cause
abbrev pub CausesStep : Header → Past → Event → List Body → Type 0
CausesStep header past e bodies = are_caused (here_at header past e bodies) bodies ≡ true

-- Each line of the journal has its cause, in a run that began with this.
abbrev pub JHasCauses : Header → Start → List Event → List Line → Type 0
JHasCauses header st es lines = Runs (CausesStep header) st es lines
