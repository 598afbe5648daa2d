-- A journal, as the lock machine of one object has it: its calls and includes of the object, and where its actions' commits stand. A line
-- with n lines before it stands at place n + 1 in the machine.
use Rattle.std.specs.Prelude.{⊤, ◌≡◌, ◌⊎◌, ◌≤◌, ◌+◌, ◌==◌, ℕ, true, false, filter, length, reverse, List, [], ◌∷◌, Contains}
use Rattle.arj_base.specs.Rows.{last_uid}
use Rattle.arj_base.specs.declared.uid.Uid.{Uid}
use Rattle.arj_class.specs.declared.value.Value.{Value}
use Rattle.arj_class.specs.Table.{answer_of, value_after, writes}
use Rattle.arj_journal.specs.declared.body.Line.{Line}
use Rattle.arj_text.specs.Words.{answer_text}
use Rattle.arj_model.specs.Actions as model
use Rattle.arj_model.specs.Actions.{Placed, acts, committed, ended, halts, has_end, is_halted, is_over, recovered, uids}
use Rattle.arj_model.specs.Calls.{Said, said}
use Rattle.arj_model.specs.Last.{Inclusion, included}
use Rattle.arj_model.specs.Serial.{Values}
use Rattle.arj_law_runs.specs.journal.Laws.{IsDone, called}
use Rattle.arj_law_lock.specs.machine.Actions.{Act, top}
use Rattle.arj_law_lock.specs.machine.State as machine
use Rattle.arj_law_lock.specs.machine.State.{State}
use Rattle.arj_law_lock_view.specs.view.Acts.{Acts}
use Rattle.arj_law_lock_view.specs.view.Copies.{Codes}
use Rattle.arj_start.specs.Kinds.{is_serial}

-- ---- calls and includes

-- the answered calls on an object, the newest first
abbrev pub said_on : ℕ → List Line → List (Placed Said)
said_on x lines = reverse (filter (λ s. s.it.x == x) (said lines))

-- its answered includes
abbrev pub included_on : ℕ → List Line → List (Placed Inclusion)
included_on x lines = reverse (filter (λ i. i.it.x == x) (included lines))

-- One call, as its `ok` line has it: who called, whether it wrote, where the line stands; and a value that it met, whichever top wrote
-- that, which gives the answer of the line, and of which it left the one after the operation, by its own top.
pub record IsCallOf (act : Acts) (code : Codes) (s : Placed Said) (c : machine.Call) : Type 0 where
  pub caller : c.act ≡ act (last_uid (uids s.it.path))
  pub write : c.write ≡ writes s.it.op
  pub line : c.line ≡ s.at + 1
  pub value : Value
  pub answer : answer_text (answer_of s.it.op value) ≡ s.it.answer
  pub by : Act
  pub sees : c.sees ≡ code value by
  pub gives : c.gives ≡ code (value_after s.it.op value) (top c.act)

-- so each, one by one
abbrev pub AreCallsOf : Acts → Codes → List (Placed Said) → List machine.Call → Type 0
AreCallsOf act code [] [] = ⊤
AreCallsOf act code (s ∷ said) (c ∷ calls) = IsCallOf act code s c × AreCallsOf act code said calls
AreCallsOf act code said calls = ⊥

-- one include: who included, and where its line stands
pub record IsIncludeOf (act : Acts) (i : Placed Inclusion) (k : machine.Include) : Type 0 where
  pub by : k.act ≡ act (last_uid (uids i.it.path))
  pub line : k.line ≡ i.at + 1

-- so each, one by one
abbrev pub AreIncludesOf : Acts → List (Placed Inclusion) → List machine.Include → Type 0
AreIncludesOf act [] [] = ⊤
AreIncludesOf act (i ∷ included) (k ∷ includes) = IsIncludeOf act i k × AreIncludesOf act included includes
AreIncludesOf act included includes = ⊥

-- ---- actions

-- the action's committed line stands at the place, or a restart found its record there
abbrev pub IsDecidedAt : List Line → model.Act → ℕ → Type 0
IsDecidedAt lines a n = ((e : Placed ℕ) × Contains (committed lines) e × (e.it ≡ a.id) × (n ≡ e.at + 1))
    ⊎ ((e : Placed Uid) × Contains (recovered lines) e × (e.it ≡ a.uid) × (n ≡ e.at + 1))

-- What the machine has of an action. Its commit is called where that line stands, it is committed where its line stands, or by then where
-- a restart found its record. Who is committed in the machine is so in the journal, and by a line that stands, at its place; who is
-- aborted there has an end, or its node halted. An action that has an end in the journal has one in the machine, and one whose node halted
-- has an end or is decided.
pub record EndsSo (lines : List Line) (a : model.Act) (m : machine.Action) : Type 0 where
  pub place : (e : Placed ℕ) → Contains (called lines) e → e.it ≡ a.id → (m.place ≡ e.at + 1) × (1 ≤ m.stage)
  pub commit : (e : Placed ℕ) → Contains (committed lines) e → e.it ≡ a.id → (m.stage ≡ 3) × (m.done ≡ e.at + 1)
  pub found : (e : Placed Uid) → Contains (recovered lines) e → e.it ≡ a.uid → (m.stage ≡ 3) × (m.done ≤ e.at + 1)
  pub only : m.stage ≡ 3 → IsDone lines a × (m.done ≤ length lines)
  pub decided : m.stage ≡ 3 → IsDecidedAt lines a m.done
  pub gone : m.stage ≡ 4 → is_over lines a ≡ true
  pub over : has_end (ended lines) a.id ≡ true → 3 ≤ m.stage
  pub halted : is_halted (halts lines) a ≡ true → 2 ≤ m.stage

-- so it is of each action that isn't serializing
abbrev pub AllEndSo : Acts → List Line → (Act → machine.Action) → Type 0
AllEndSo act lines f = (a : model.Act) → Contains (acts lines) a → is_serial a.kind ≡ false → EndsSo lines a (f (act a.uid))

-- ---- all of it

-- A journal and a state of the machine of object x: no line of the machine stands behind the journal's; the object's first value is the
-- machine's, whoever wrote it; the answered calls and includes are the machine's, one by one; and its actions end as the journal says.
pub record IsTiedToLines (act : Acts) (code : Codes) (values : Values) (x : ℕ) (lines : List Line) (S : State) : Type 0 where
  pub now : S.now ≤ length lines + 1
  pub writer : Act
  pub first : S.initial ≡ code (values x) writer
  pub calls : AreCallsOf act code (said_on x lines) S.calls
  pub includes : AreIncludesOf act (included_on x lines) S.includes
  pub ends : AllEndSo act lines S.action
