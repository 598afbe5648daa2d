-- The calls that count of a program, and those that the journal has of its top.
use Rattle.std.specs.Prelude.{◌≡◌, ℕ, List, map, filter, ◌==◌, true, Some}
use Rattle.arj_class.specs.declared.op.Op.{Op}
use Rattle.arj_journal.specs.declared.body.Line.{Line}
use Rattle.arj_model.specs.Actions.{committed, has_end, id_in, acts}
use Rattle.arj_model.specs.Calls.{Call, committed_calls}
use Rattle.arj_progrun.specs.Client.{Client, Said as heard_call}
use Rattle.arj_progrun.specs.declared.phase.Phase.TheVariants as phase

-- A call, by its object, its operation, and the text of its answer.
pub record Told : Type 0 where
  pub x : ℕ
  pub op : Op
  pub answer : List ℕ

-- a call of the journal
abbrev pub told_of : Call → Told
told_of c = record { x = c.x; op = c.op; answer = c.answer }

-- a call that a program heard
abbrev pub told_by : heard_call → Told
told_by s = record { x = s.x; op = s.op; answer = s.answer }

-- the surviving calls of the committed top with this number, in the order of their lines
abbrev pub calls_of_top : List Line → ℕ → List Call
calls_of_top lines id = filter (λ c. c.top == id) (committed_calls lines)

-- The program has committed. Its top is one of the journal, which is committed; and the calls that count of the program are the surviving
-- calls of its top in the journal, in order, with the same answers.
pub record CallsAreTops (lines : List Line) (c : Client) : Type 0 where
  pub id : ℕ
  pub there : id_in (acts lines) (let t = c.top in t.label) ≡ Some id
  pub done : has_end (committed lines) id ≡ true
  pub calls : map told_of (calls_of_top lines id) ≡ map told_by (let t = c.top in t.said)

-- so it is of each program that has committed
abbrev pub CallsAreThose : List Line → Client → Type 0
CallsAreThose lines c = c.phase ≡ phase.Committed → CallsAreTops lines c
