-- Calls that are run one after another, and the first whose answer differs.
use Rattle.std.specs.Prelude.{◌≡◌, ℕ, ◌+◌, List, [], ◌∷◌, slice_get, ◌==◌, if◌then◌else◌, Option, Some, None, ⊤}
use Rattle.std.specs.BTreeMap.{BTreeMap, get}
use Rattle.std.specs.Ordering.{nat_cmp}
use Rattle.std.specs.Str.{bytes_eq}
use Rattle.arj_class.specs.Table.{answer_of, own_class}
use Rattle.arj_class.specs.declared.op.Op.{Op}
use Rattle.arj_class.specs.declared.value.Value.{Value}
use Rattle.arj_journal.specs.declared.body.Body.TheVariants as body
use Rattle.arj_journal.specs.declared.body.Line.{Line}
use Rattle.arj_journal.specs.declared.header.Header.{Header}
use Rattle.arj_journal.specs.declared.header.ObjectLine.{ObjectLine}
use Rattle.arj_text.specs.declared.label.Label.{Label}
use Rattle.arj_text.specs.Words.{answer_text}
use Rattle.arj_model.specs.Calls.{Call}
use Rattle.arj_model.specs.Last.{object_line}
use Rattle.arj_model.specs.Serial.{Values, after}
use Rattle.arj_reading.specs.Readable.{object_rule}
use Rattle.arj_replay.specs.declared.run.Wrong.{Wrong}

-- A call that has another answer in the journal than it gets, where the calls before it are run.
pub record Differs : Type 0 where
  pub at : ℕ
  pub wanted : List ℕ

-- the answer that is wanted at this value, where the journal has another
abbrev pub wanted_of : Op → Value → List ℕ → Option (List ℕ)
wanted_of op v answer = if bytes_eq (answer_text (answer_of op v)) answer then None else Some (answer_text (answer_of op v))

-- the call differs, or what is found behind it does
abbrev pub differs_or : ℕ → Option (List ℕ) → Option Differs → Option Differs
differs_or at None behind = behind
differs_or at (Some wanted) behind = Some (record { at = at; wanted = wanted })

-- the first of two values
abbrev pub or_value : Option Value → Option Value → Option Value
or_value (Some v) other = Some v
or_value None other = other

-- the value of the first object of this number
abbrev pub first_among : List ObjectLine → ℕ → Option Value
first_among [] x = None
first_among (o ∷ os) x = if o.x == x then Some o.value else first_among os x

-- the first of the calls, run one after another from these values, whose answer differs
abbrev pub first_difference : Values → List Call → Option Differs
first_difference values [] = None
first_difference values (c ∷ cs) = differs_or c.at (wanted_of c.op (values c.x) c.answer) (first_difference (after values c) cs)

-- The difference as it is told: the place of the line counted from 1, the event of the line, and the answer that is wanted.
abbrev pub IsWrong : List Line → Option Differs → Option Wrong → Type 0
IsWrong lines None None = ⊤
IsWrong lines (Some d) (Some w) =
    (w.line ≡ d.at + 1) × ((line : Line) → slice_get lines d.at ≡ Some line → w.event ≡ line.event) × (w.wanted ≡ d.wanted)
IsWrong lines _ _ = ⊥

-- the line at this place has the call, whose object is the header's and has the operation
pub record HasCall (header : Header) (lines : List Line) (c : Call) : Type 0 where
  pub event : ℕ
  pub label : Label
  pub here : slice_get lines c.at ≡ Some (record { event = event; body = body.Ok label c.x c.op c.answer })
  pub has : object_rule (object_line header c.x) c.op ≡ None

-- the map has these values of the header's objects, whose own classes they keep
pub record HasValues (header : Header) (values : Values) (m : BTreeMap ℕ Value) : Type 0 where
  pub value : (x : ℕ) (o : ObjectLine) → object_line header x ≡ Some o → get nat_cmp m x ≡ Some (values x)
  pub class : (x : ℕ) (o : ObjectLine) → object_line header x ≡ Some o → own_class (values x) ≡ own_class o.value
