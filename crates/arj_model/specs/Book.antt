-- The lock book: in which order the surviving calls of committed tops stand, and what each of them is answered.
use Rattle.std.specs.Prelude.{Bool, List, false, filter, nat_lt, true, ◌&&◌, ◌<◌, ◌==◌, ◌||◌, ◌≡◌}
use Rattle.std.specs.List.{AllByRecursion}
use Rattle.arj_class.specs.Table.{answer_of, writes}
use Rattle.arj_journal.specs.declared.body.Line.{Line}
use Rattle.arj_model.specs.Calls.{Call, committed_calls, tops}
use Rattle.arj_model.specs.Serial.{Values, run, serial_less, top_place, writes_on}
use Rattle.arj_text.specs.Words.{answer_text}

-- two calls conflict where they are of one object and one of them writes
abbrev pub is_conflict : Call → Call → Bool
is_conflict c d = (c.x == d.x) && (writes c.op || writes d.op)

-- this holds of each two of the calls
abbrev pub OfEachTwo : (Call → Call → Type 0) → List Call → Type 0
OfEachTwo R calls = AllByRecursion (λ c. AllByRecursion (R c) calls) calls

-- of two conflicting calls of different tops, the one that was answered first stands first in the serial order
abbrev pub StandInOrder : List Line → Call → Call → Type 0
StandInOrder lines c d = c.at < d.at → (c.top == d.top) ≡ false → is_conflict c d ≡ true → serial_less (tops lines) c d ≡ true

-- Order: so each two surviving calls of committed tops.
abbrev pub InOrder : List Line → Type 0
InOrder lines = OfEachTwo (StandInOrder lines) (committed_calls lines)

-- the writes on this call's object that were answered before it
abbrev pub writes_before : List Call → Call → List Call
writes_before calls c = filter (λ w. nat_lt w.at c.at && writes_on c.x w) calls

-- the call is answered by these writes, run from the first value of its object
abbrev pub IsAnsweredBy : Values → List Call → Call → Type 0
IsAnsweredBy values calls c = answer_text (answer_of c.op (run values (writes_before calls c) c.x)) ≡ c.answer

-- Values: each surviving call of a committed top is answered by all surviving writes of committed tops that were
-- answered before it.
abbrev pub Answered : Values → List Line → Type 0
Answered values lines = AllByRecursion (IsAnsweredBy values (committed_calls lines)) (committed_calls lines)

-- of two conflicting calls of different tops, the commit of the first one's was called before the second was answered
abbrev pub IsCalledFirst : List Line → Call → Call → Type 0
IsCalledFirst lines c d = c.at < d.at → (c.top == d.top) ≡ false → is_conflict c d ≡ true → top_place (tops lines) c.top < d.at

-- so it is of each two surviving calls
abbrev pub CommitsComeFirst : List Line → Type 0
CommitsComeFirst lines = OfEachTwo (IsCalledFirst lines) (committed_calls lines)
