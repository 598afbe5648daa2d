-- What it is for a journal to follow the events of a script: a refused event has the one line that says so, and an
-- accepted one its own lines and between them those that may stand there, each answer to what was asked.
use Rattle.std.specs.Prelude.{◌≡◌, ◌⊎◌, ℕ, ◌+◌, List, [], ◌∷◌, ◌++◌, length, Bool, true, false, Option, Some, None, is_some, nat_lt}
use Rattle.std.specs.Prelude.{MatchOption, ⊤}
use Rattle.std.specs.List.{list_all, list_any}
use Rattle.arj_class.specs.declared.op.Op.{Op}
use Rattle.arj_class.specs.declared.value.Value.{Value}
use Rattle.arj_class.specs.Table.{own_class, has_op, answer_of}
use Rattle.arj_journal.specs.declared.body.Body.{Body}
use Rattle.arj_journal.specs.declared.body.Body.TheVariants as body
use Rattle.arj_journal.specs.declared.body.Line.{Line}
use Rattle.arj_journal.specs.declared.body.Which.TheVariants as which
use Rattle.arj_journal.specs.declared.event.Event.{Event}
use Rattle.arj_journal.specs.declared.event.Event.TheVariants as event
use Rattle.arj_journal.specs.declared.header.Header.{Header}
use Rattle.arj_text.specs.Label.{name}
use Rattle.arj_text.specs.Words.{answer_text}
use Rattle.arj_model.specs.Past.{Past, Asked, asked_of, at_start, block, Along}
use Rattle.arj_start.specs.Start.{Start}
use Rattle.arj_model.specs.Refusals.{refusal, waits_for, is_committing, is_down, is_first, last_frame, open_frames}
use Rattle.arj_model.specs.Own.{Begins, Ends, may_stand, halts_fit}
use Rattle.arj_model.specs.CauseSpans.{is_doomed}

-- Answers.

-- the call of object x by this operation is what is waited for
abbrev pub IsCallOf : ℕ → Op → Option Event → Type 0
IsCallOf x op (Some (event.Call m y asked)) = (y ≡ x) × (asked ≡ op)
IsCallOf x op _ = ⊥

-- the include of store n for object x is what is waited for
abbrev pub IsIncludeOf : ℕ → ℕ → Option Event → Type 0
IsIncludeOf x n (Some (event.Include m y asked)) = (y ≡ x) × (asked ≡ n)
IsIncludeOf x n _ = ⊥

-- The text is that of an answer of the operation: one that it gives at some value, there or gone, of a class that has it.
abbrev pub IsAnswerOf : Op → List ℕ → Type 0
IsAnswerOf op answer = (v : Value) × (has_op (own_class v) op ≡ true) × (answer ≡ answer_text (answer_of op v))

-- A line behind these lines. An answer is to the call or include that is waited for, with its own object and operation;
-- a top's end is to its commit; a node halts where it is up; a frame that is sent has the next number, and one that is
-- delivered is the first that is open.
abbrev pub AnswerFits : Start → List Asked → List Line → Body → Type 0
AnswerFits st accepted lines (body.Ok l x op answer) = IsCallOf x op (waits_for accepted lines (name l)) × IsAnswerOf op answer
AnswerFits st accepted lines (body.Includes l x n) = IsIncludeOf x n (waits_for accepted lines (name l))
AnswerFits st accepted lines (body.Conflict l holder mode n) = is_some (waits_for accepted lines (name l)) ≡ true
AnswerFits st accepted lines (body.Lost l n) = is_some (waits_for accepted lines (name l)) ≡ true
AnswerFits st accepted lines (body.Changed l n difference) = is_some (waits_for accepted lines (name l)) ≡ true
AnswerFits st accepted lines (body.Committed l) = is_committing lines (name l) ≡ true
AnswerFits st accepted lines (body.Aborted l c) = is_committing lines (name l) ≡ true
AnswerFits st accepted lines (body.Halted n) = is_down st lines n ≡ false
AnswerFits st accepted lines (body.Sent k from to carried) = k ≡ last_frame lines + 1
AnswerFits st accepted lines (body.Got k) = is_first k (open_frames lines) ≡ true
AnswerFits st accepted lines (body.Void k) = is_first k (open_frames lines) ≡ true
AnswerFits st accepted lines _ = ⊤

-- each line of an event, behind those before it
abbrev pub AnswersFit : Start → List Asked → List Line → ℕ → List Body → Type 0
AnswersFit st accepted lines n [] = ⊤
AnswersFit st accepted lines n (b ∷ bs) = AnswerFits st accepted lines b × AnswersFit st accepted (lines ++ block n (b ∷ [])) n bs

-- The lines of an accepted event: it begins with its own, and ends with its own where its kind has one at the end.
pub record Accepted (header : Header) (past : Past) (e : Event) (bodies : List Body) : Type 0 where
  pub own : List Body
  pub others : List Body
  pub last : List Body
  pub parts : bodies ≡ own ++ (others ++ last)
  pub begins : Begins header past e own
  pub ends : Ends e own last
  pub only : list_all (may_stand e) others ≡ true
  pub halts : halts_fit past.lines e others ≡ true
  pub answers : AnswersFit past.start (past.accepted ++ asked_of past e ∷ []) (past.lines ++ block (past.count + 1) own) (past.count + 1) others

-- the action that a doomed one's refusal is about: itself, or the parent of what would begin in it
abbrev pub label_doomed : Event → Option (List ℕ)
label_doomed (event.BeginIn l p) = Some (name p)
label_doomed (event.Top l p) = Some (name p)
label_doomed (event.Call l x op) = Some (name l)
label_doomed (event.Include l x n) = Some (name l)
label_doomed _ = None

-- the number of a cause stands behind 12
abbrev pub is_behind_doom : Option ℕ → Bool
is_behind_doom None = true
is_behind_doom (Some c) = nat_lt 12 c

-- A doomed action takes no more (12), where no lower number holds.
pub record IsRefusedDoomed (header : Header) (past : Past) (e : Event) (bodies : List Body) : Type 0 where
  pub label : List ℕ
  pub about : label_doomed e ≡ Some label
  pub lost : is_doomed past.accepted past.lines label ≡ true
  pub lowest : is_behind_doom (refusal header past e) ≡ true
  pub line : bodies ≡ body.Refused 12 ∷ []

-- the line tells that the limit of frames was met
abbrev pub is_frame_limit : Body → Bool
is_frame_limit (body.Limit which.Frames) = true
is_frame_limit _ = false

-- such a line stands in the journal
abbrev pub is_limited : List Line → Bool
is_limited lines = list_any (λ line. is_frame_limit line.body) lines

-- What one event may write. The run goes on until the limit of frames is met.
pub record Step (header : Header) (past : Past) (e : Event) (bodies : List Body) : Type 0 where
  pub goes_on : is_limited past.lines ≡ false
  pub lines : MatchOption (refusal header past e) (Accepted header past e bodies) (λ c. bodies ≡ body.Refused c ∷ []) ⊎ IsRefusedDoomed header past e bodies

-- The lines outside events stand behind all of them: the script line that isn't in the grammar, or a limit of lines or
-- labels. The limit of frames is met by an event, and stands in it.
abbrev pub is_ending : Body → Bool
is_ending (body.Bad n) = true
is_ending (body.Limit which.Lines) = true
is_ending (body.Limit which.Labels) = true
is_ending _ = false

-- at most one such line, with this number
abbrev pub AreEnding : ℕ → List Line → Type 0
AreEnding n [] = ⊤
AreEnding n (line ∷ []) = (line.event ≡ n) × (is_ending line.body ≡ true)
AreEnding n _ = ⊥

-- The journal is that of a run over these events, which began with this, and at each of which this holds. Behind the events
-- stands at most one line outside them.
abbrev pub Runs : (Past → Event → List Body → Type 0) → Start → List Event → List Line → Type 0
Runs P st es lines =
    (end : Past) × (ending : List Line) × Along P (at_start st) es end × (lines ≡ end.lines ++ ending) × AreEnding (length es) ending

-- The journal follows the events, of a run that began with this.
abbrev pub Follows : Header → Start → List Event → List Line → Type 0
Follows header st es lines = Runs (Step header) st es lines
