-- What a program that committed did is what it does alone, in the serial order.
use Rattle.std.specs.Prelude.{◌≡◌, ℕ, List, ◌++◌, map, Some}
use Rattle.arj_journal.specs.declared.body.Line.{Line}
use Rattle.arj_journal.specs.declared.header.Header.{Header}
use Rattle.arj_law_programs.specs.Counts.{calls_of_top, told_by, told_of}
use Rattle.arj_model.specs.Actions.{acts, id_in}
use Rattle.arj_model.specs.Calls.{Call}
use Rattle.arj_model.specs.Last.{first_values}
use Rattle.arj_model.specs.Serial.{Values, run, serial_calls}
use Rattle.arj_prog.specs.Meaning.{Gave, eval}
use Rattle.arj_progrun.specs.Alone.{Answered, after_all, made_from}
use Rattle.arj_progrun.specs.Client.{Client, Level}
use Rattle.arj_progrun.specs.declared.phase.Phase.TheVariants as phase

-- run alone from these values, its statements make the calls that count of it, with their answers, and don't fail
abbrev pub DoesAlone : Values → Level → Type 0
DoesAlone values top = Answered values top.said × (eval top.body values ≡ Gave (made_from values top.said) (after_all values top.said))

-- The program has committed. In the serial order of the journal's calls those of its top stand together, and are those that count of it; and
-- this is what it does where it runs alone, from the values that all calls before them leave. So what it prints is what it prints alone,
-- behind the programs that stand before it.
pub record RunsAlone (hd : Header) (lines : List Line) (c : Client) : Type 0 where
  pub id : ℕ
  pub there : id_in (acts lines) (let t = c.top in t.label) ≡ Some id
  pub before : List Call
  pub after : List Call
  pub order : serial_calls lines ≡ before ++ (calls_of_top lines id ++ after)
  pub calls : map told_of (calls_of_top lines id) ≡ map told_by (let t = c.top in t.said)
  pub alone : DoesAlone (run (first_values hd) before) c.top

-- so it is of each program that has committed
abbrev pub RunsAsAlone : Header → List Line → Client → Type 0
RunsAsAlone hd lines c = c.phase ≡ phase.Committed → RunsAlone hd lines c
