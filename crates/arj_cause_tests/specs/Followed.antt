-- Whether a journal follows its events, as a test that computes.
use Rattle.std.specs.Prelude.{ℕ, ◌+◌, List, [], ◌∷◌, ◌++◌, length, Bool, true, false, ◌==◌, ◌&&◌, ◌||◌, not, nat_lt, is_some}
use Rattle.std.specs.Prelude.{if◌then◌else◌, Option, Some, None}
use Rattle.std.specs.List.{list_all}
use Rattle.std.specs.Str.{bytes_eq}
use Rattle.arj_base.specs.Uid.{uid_eq}
use Rattle.arj_journal.specs.declared.body.Body.{Body}
use Rattle.arj_journal.specs.declared.body.Body.TheVariants as body
use Rattle.arj_journal.specs.declared.body.Cause.TheVariants as cause
use Rattle.arj_journal.specs.declared.body.FrameKind.TheVariants as frame
use Rattle.arj_journal.specs.declared.body.Kind.{Kind}
use Rattle.arj_journal.specs.declared.body.Kind.TheVariants as kind
use Rattle.arj_journal.specs.declared.body.Line.{Line}
use Rattle.arj_journal.specs.declared.event.Event.{Event}
use Rattle.arj_journal.specs.declared.event.Event.TheVariants as event
use Rattle.arj_journal.specs.declared.header.Header.{Header}
use Rattle.arj_text.specs.declared.label.Label.{Label}
use Rattle.arj_text.specs.Label.{name}
use Rattle.arj_start.specs.Kinds.{is_serial}
use Rattle.arj_start.specs.Start.{Start}
use Rattle.arj_model.specs.Actions.{Act, acts, act_in}
use Rattle.arj_model.specs.CauseSpans.{holds_in, is_call_of, is_doomed, is_include_of}
use Rattle.arj_model.specs.Follows.{is_behind_doom, is_ending, is_frame_limit, is_limited, label_doomed}
use Rattle.arj_model.specs.Own.{aborted_of, commit_line, halts_fit, may_stand, node_of}
use Rattle.arj_model.specs.Past.{Asked, Past, asked_of, at_start, block, next}
use Rattle.arj_model.specs.Refusals.{frame_no, incarnation, is_committing, is_down, is_first, is_serializing, last_frame, next_uid}
use Rattle.arj_model.specs.Refusals.{open_frames, refusal, waits_for}
use Rattle.arj_cause_tests.specs.Answers.{answers, is_nil}

-- Lines, compared.

-- two labels have one name
abbrev pub same_label : Label → Label → Bool
same_label a b = bytes_eq (name a) (name b)

-- two parents are one
abbrev pub same_parent : Option Label → Option Label → Bool
same_parent None None = true
same_parent (Some a) (Some b) = same_label a b
same_parent _ _ = false

-- a number for each kind of action
abbrev pub kind_code : Kind → ℕ
kind_code kind.Top = 0
kind_code kind.Nested = 1
kind_code kind.Independent = 2
kind_code kind.Serial = 3
kind_code kind.Constituent = 4

-- the lines are one, of those with which an event may begin
abbrev pub same_body : Body → Body → Bool
same_body (body.Began l k u p) (body.Began m j w q) = same_label l m && ((kind_code k == kind_code j) && (uid_eq u w && same_parent p q))
same_body (body.Committing l) (body.Committing m) = same_label l m
same_body (body.Committed l) (body.Committed m) = same_label l m
same_body (body.Ended l) (body.Ended m) = same_label l m
same_body (body.Aborted l cause.Doomed) (body.Aborted m cause.Doomed) = same_label l m
same_body (body.Sent k from to frame.Junk) (body.Sent j m n frame.Junk) = (k == j) && ((from == m) && (to == n))
same_body (body.Got k) (body.Got j) = k == j
same_body (body.Void k) (body.Void j) = k == j
same_body (body.Dropped k) (body.Dropped j) = k == j
same_body (body.Halted n) (body.Halted m) = n == m
same_body (body.Armed n) (body.Armed m) = n == m
same_body (body.Refused c) (body.Refused d) = c == d
same_body _ _ = false

-- the lines are this one alone
abbrev pub is_one : Body → List Body → Bool
is_one b (c ∷ []) = same_body b c
is_one b _ = false

-- Lines with which an event begins.

-- an action of this kind began at its parent's node
abbrev pub begins_below : Past → Label → Label → Kind → List Body → Bool
begins_below past l p k own =
    holds_in (λ n. is_one (body.Began l k (next_uid past.start past.lines n) (Some p)) own) (node_of past.lines (name p))

-- one line for each of these actions, that it was aborted because the script asked for it
abbrev pub are_aborted : List Act → List Body → Bool
are_aborted [] own = is_nil own
are_aborted (a ∷ rest) (body.Aborted l cause.Asked ∷ own) = bytes_eq (name l) a.label && are_aborted rest own
are_aborted _ _ = false

-- a commit begins with its line, or with the abort of a doomed action
abbrev pub begins_commit : Past → Label → Option Act → List Body → Bool
begins_commit past l None own = false
begins_commit past l (Some a) own =
    is_one (commit_line a.kind l) own
    || (is_one (body.Aborted l cause.Doomed) own && (not (is_serial a.kind) && is_doomed past.accepted past.lines (name l)))

-- one line or more, each that this action gave up a node, the nodes increasing
abbrev pub are_giveups : Label → List Body → Bool
are_giveups l (body.GaveUp m n ∷ []) = same_label m l
are_giveups l (body.GaveUp m n ∷ body.GaveUp k i ∷ own) = same_label m l && (nat_lt n i && are_giveups l (body.GaveUp k i ∷ own))
are_giveups l _ = false

-- the node is back with an incarnation above this one
abbrev pub is_up_above : ℕ → ℕ → List Body → Bool
is_up_above n inc (body.Up m i ∷ []) = (m == n) && nat_lt inc i
is_up_above n inc _ = false

-- the lines are those that an accepted event begins with
abbrev pub begins : Past → Event → List Body → Bool
begins past (event.Begin l n) own = is_one (body.Began l kind.Top (next_uid past.start past.lines n) None) own
begins past (event.Serial l n) own = is_one (body.Began l kind.Serial (next_uid past.start past.lines n) None) own
begins past (event.BeginIn l p) own =
    begins_below past l p (if is_serializing past.lines (name p) then kind.Constituent else kind.Nested) own
begins past (event.Top l p) own = begins_below past l p kind.Independent own
begins past (event.Commit l) own = begins_commit past l (act_in (acts past.lines) (name l)) own
begins past (event.Abort l) own = are_aborted (aborted_of past.lines (act_in (acts past.lines) (name l))) own
begins past (event.GiveUp l) own = are_giveups l own
begins past (event.Deliver k) own = is_one (body.Got (frame_no past.lines k)) own || is_one (body.Void (frame_no past.lines k)) own
begins past (event.Lose k) own = is_one (body.Dropped (frame_no past.lines k)) own
begins past (event.Crash n) own = is_one (body.Halted n) own
begins past (event.Restart n) own = is_up_above n (incarnation past.start past.lines n) own || is_one (body.Halted n) own
begins past (event.Stop n calls k) own = is_one (body.Armed n) own
begins past (event.Junk n bytes) own = is_one (body.Sent (last_frame past.lines + 1) 0 n frame.Junk) own || is_nil own
begins past _ own = is_nil own

-- Lines with which it ends.

-- the limit of frames was met
abbrev pub is_limit : List Body → Bool
is_limit (b ∷ []) = is_frame_limit b
is_limit _ = false

-- none, or that
abbrev pub may_meet_limit : List Body → Bool
may_meet_limit last = is_nil last || is_limit last

-- whether all was quiet
abbrev pub is_quiet : List Body → Bool
is_quiet (body.Quiet b ∷ []) = true
is_quiet _ = false

-- the lines are those that the event ends with, which began with these
abbrev pub ends : Event → List Body → List Body → Bool
ends event.Quiesce own last = is_quiet last || is_limit last
ends (event.Junk n bytes) [] last = is_limit last
ends (event.Call l x op) own last = may_meet_limit last
ends (event.Include l x n) own last = may_meet_limit last
ends (event.Commit l) own last = may_meet_limit last
ends (event.Abort l) own last = may_meet_limit last
ends (event.GiveUp l) own last = may_meet_limit last
ends (event.Deliver k) own last = may_meet_limit last
ends (event.Tick n) own last = may_meet_limit last
ends event.Settle own last = may_meet_limit last
ends (event.Restart n) own last = may_meet_limit last
ends e own last = is_nil last

-- Lines between them.

-- behind these lines the line answers what is waited for
abbrev pub answer_fits : Start → List Asked → List Line → Body → Bool
answer_fits st accepted lines (body.Ok l x op answer) = holds_in (is_call_of x op) (waits_for accepted lines (name l)) && answers op answer
answer_fits st accepted lines (body.Includes l x n) = holds_in (is_include_of x n) (waits_for accepted lines (name l))
answer_fits st accepted lines (body.Conflict l holder mode n) = is_some (waits_for accepted lines (name l))
answer_fits st accepted lines (body.Lost l n) = is_some (waits_for accepted lines (name l))
answer_fits st accepted lines (body.Changed l n difference) = is_some (waits_for accepted lines (name l))
answer_fits st accepted lines (body.Committed l) = is_committing lines (name l)
answer_fits st accepted lines (body.Aborted l c) = is_committing lines (name l)
answer_fits st accepted lines (body.Halted n) = not (is_down st lines n)
answer_fits st accepted lines (body.Sent k from to carried) = k == last_frame lines + 1
answer_fits st accepted lines (body.Got k) = is_first k (open_frames lines)
answer_fits st accepted lines (body.Void k) = is_first k (open_frames lines)
answer_fits st accepted lines _ = true

-- so does each of these lines
abbrev pub answers_fit : Start → List Asked → List Line → ℕ → List Body → Bool
answers_fit st accepted lines n [] = true
answers_fit st accepted lines n (b ∷ bs) = answer_fits st accepted lines b && answers_fit st accepted (lines ++ block n (b ∷ [])) n bs

-- Events.

-- some cut of the list into two passes the test
abbrev pub some_cut : {A : Type 0} → (List A → List A → Bool) → List A → Bool
some_cut test [] = test [] []
some_cut test (a ∷ rest) = test [] (a ∷ rest) || some_cut (λ front back. test (a ∷ front) back) rest

-- behind its own lines an accepted event wrote these, and last those
abbrev pub goes_on : Past → Event → List Body → List Body → List Body → Bool
goes_on past e own others last =
    ends e own last
    && (list_all (may_stand e) others
    && (halts_fit past.lines e others
    && answers_fit past.start (past.accepted ++ asked_of past e ∷ []) (past.lines ++ block (past.count + 1) own) (past.count + 1) others))

-- the lines are those of an accepted event
abbrev pub is_accepted : Past → Event → List Body → Bool
is_accepted past e bodies = some_cut (λ own rest. begins past e own && some_cut (goes_on past e own) rest) bodies

-- the event is accepted, or refused by this cause
abbrev pub is_run : Past → Event → List Body → Option ℕ → Bool
is_run past e bodies None = is_accepted past e bodies
is_run past e bodies (Some c) = is_one (body.Refused c) bodies

-- it is refused since its action is doomed
abbrev pub is_refused_doomed : Header → Past → Event → List Body → Bool
is_refused_doomed header past e bodies =
    holds_in (λ label. is_doomed past.accepted past.lines label) (label_doomed e)
    && (is_behind_doom (refusal header past e) && is_one (body.Refused 12) bodies)

-- the event may write these lines
abbrev pub is_step : Header → Past → Event → List Body → Bool
is_step header past e bodies =
    not (is_limited past.lines) && (is_run past e bodies (refusal header past e) || is_refused_doomed header past e bodies)

-- Journals.

-- what the lines say that begin a list and have this number
abbrev pub front : ℕ → List Line → List Body
front n [] = []
front n (line ∷ lines) = if line.event == n then line.body ∷ front n lines else []

-- the lines behind them
abbrev pub back : ℕ → List Line → List Line
back n [] = []
back n (line ∷ lines) = if line.event == n then back n lines else line ∷ lines

-- these lines are those of these events, one after another
abbrev pub go_along : Header → Past → List Event → List Line → Bool
go_along header past [] lines = is_nil lines
go_along header past (e ∷ es) lines =
    is_step header past e (front (past.count + 1) lines)
    && go_along header (next past e (front (past.count + 1) lines)) es (back (past.count + 1) lines)

-- at most one line outside events, with this number
abbrev pub are_ending : ℕ → List Line → Bool
are_ending n [] = true
are_ending n (line ∷ []) = (line.event == n) && is_ending line.body
are_ending n _ = false

-- the journal follows the events
abbrev pub follows : Header → Start → List Event → List Line → Bool
follows header st es lines = some_cut (λ run ending. are_ending (length es) ending && go_along header (at_start st) es run) lines
