-- The lines that answer calls, against the causes that the journal has for them; and that conflicts come exactly where a lock stands.
use Rattle.std.specs.Prelude.{◌≡◌, ℕ, List, [], ◌∷◌, Bool, true, ◌&&◌}
use Rattle.std.specs.List.{list_any}
use Rattle.arj_base.specs.declared.mode.Mode.TheVariants.{Write}
use Rattle.arj_base.specs.Uid.{entry, object}
use Rattle.arj_class.specs.declared.op.Op.{Op}
use Rattle.arj_class.specs.Table.{op_mode}
use Rattle.arj_journal.specs.declared.body.Body.{Body}
use Rattle.arj_journal.specs.declared.body.Body.TheVariants as body
use Rattle.arj_journal.specs.declared.body.FrameKind.TheVariants as frame
use Rattle.arj_journal.specs.declared.event.Event.{Event}
use Rattle.arj_journal.specs.declared.header.Header.{Header}
use Rattle.arj_model.specs.Actions.{top_in, uids}
use Rattle.arj_model.specs.CauseAnswers.{has_lock}
use Rattle.arj_model.specs.CauseSpans.{Here, answered, asks_so, from_place, here_at, is_call_of, is_include_of, nodes_of, top_uids}
use Rattle.arj_model.specs.Refusals.{holds_of}
use Rattle.arj_model.specs.Past.{Past}
use Rattle.arj_model.specs.Caused.{has_cause}
use Rattle.arj_model.specs.Follows.{Runs}
use Rattle.arj_law_runs.specs.follow.Frames.{are_so, run_events}
use Rattle.arj_promise.specs.Runs.{IsInForm, Run, journal_by}
use Rattle.arj_text.specs.Label.{name}
use Rattle.arj_law_cause.specs.rows.Says.{meets_none}

-- ---- conflicts come exactly where a lock stands

-- `ok`: the call was of this object by this operation, and where a node answered it the action had its lock there, and no lock of the
-- node's table stood against it.
abbrev pub ok_is_free : Here → List ℕ → ℕ → Op → Bool
ok_is_free h l x op =
    asks_so h l (λ a k. is_call_of x op k.event && list_any (λ n. answered h k.at a.uid.node n (frame.Invoked ∷ [])
    (λ lines. has_lock n a.uid (object x) (op_mode op) lines && meets_none n (uids k.path) (object x) (op_mode op) lines))
    (nodes_of h.header))

-- `includes`: the include was of this store for this object, and since it asked its top had the entry's write lock at naming, where no lock
-- stood against that.
abbrev pub include_is_free : Here → List ℕ → ℕ → ℕ → Bool
include_is_free h l x n =
    asks_so h l (λ a k. is_include_of x n k.event && holds_of (λ top. from_place h k.at (λ lines. has_lock 1 top.uid (entry x) Write lines
    && meets_none 1 (top_uids k.path) (entry x) Write lines)) (top_in k.path))

-- A call or an include is answered with a conflict exactly where a lock stands against it: as done where none does, by the table of the
-- node that answers; and with a conflict where one does, which is the first one, or where a store has a state of another top in doubt.
abbrev pub is_exact : Here → Body → Bool
is_exact h (body.Ok l x op answer) = ok_is_free h (name l) x op
is_exact h (body.Includes l x n) = include_is_free h (name l) x n
is_exact h (body.Conflict l u held n) = has_cause h (body.Conflict l u held n)
is_exact h _ = true

-- so it is of each line that an event wrote
abbrev pub ExactStep : Header → Past → Event → List Body → Type 0
ExactStep hd past e bodies = are_so is_exact (here_at hd past e bodies) bodies ≡ true

-- and of each line of a run
abbrev pub ConflictsAreExact : Type 0
ConflictsAreExact = (hd : Header) (r : Run hd) → IsInForm hd r → Runs (ExactStep hd) r.start (run_events hd r) (journal_by hd r)

-- ---- causes

-- A line that answers a call or an include as done has its cause; so has one that says what was lost, one that says what changed at a node,
-- and one that says a conflict, and each of them is a conflict exactly where a lock stands.
abbrev pub answer_fits : Here → Body → Bool
answer_fits h (body.Ok l x op answer) = has_cause h (body.Ok l x op answer) && ok_is_free h (name l) x op
answer_fits h (body.Conflict l u held n) = has_cause h (body.Conflict l u held n)
answer_fits h (body.Lost l n) = has_cause h (body.Lost l n)
answer_fits h (body.Includes l x n) = has_cause h (body.Includes l x n) && include_is_free h (name l) x n
answer_fits h (body.Changed l n d) = has_cause h (body.Changed l n d)
answer_fits h _ = true

-- so it is of each line that an event wrote
abbrev pub AnswersStep : Header → Past → Event → List Body → Type 0
AnswersStep hd past e bodies = are_so answer_fits (here_at hd past e bodies) bodies ≡ true

-- and of each line of a run
abbrev pub AnswersHaveCauses : Type 0
AnswersHaveCauses = (hd : Header) (r : Run hd) → IsInForm hd r → Runs (AnswersStep hd) r.start (run_events hd r) (journal_by hd r)
