-- Lock rows against the machine of an object, by nodes and by the tables of a journal, and calls that are locked for.
use Rattle.std.specs.Prelude.{◌≡◌, ◌≢◌, ℕ, take, List}
use Rattle.std.specs.Prelude.{Contains}
use Rattle.arj_base.specs.Rows.{Row, last_uid}
use Rattle.arj_base.specs.Uid.{entry, object}
use Rattle.arj_journal.specs.declared.body.Kind.TheVariants as kind
use Rattle.arj_journal.specs.declared.body.Line.{Line}
use Rattle.arj_model.specs.Actions.{Act, uids}
use Rattle.arj_model.specs.Calls.{Call}
use Rattle.arj_model.specs.Serial.{Values}
use Rattle.arj_law_lock.specs.machine.Actions.{root}
use Rattle.arj_law_lock.specs.machine.Machine.{Run, start}
use Rattle.arj_law_lock.specs.machine.State.{State}
use Rattle.arj_law_lock_view.specs.view.Acts.{Acts}
use Rattle.arj_law_lock_view.specs.view.Rows.{SeesRows}
use Rattle.arj_law_lock_view.specs.journal.Lines.{IsTiedToLines}
use Rattle.arj_law_serial.specs.order.Tied.{Began, IsTied, path_of}

-- the row is held by an action of the journal that isn't nested
abbrev pub IsHeldByUpper : List Line → Row → Type 0
IsHeldByUpper lines r = (b : Act) × Began lines b × (last_uid r.holder ≡ b.uid) × (b.kind ≢ kind.Nested)

-- Of an object the machine's state has no rows but these, at each server and at naming. Those on the object are held on paths of the
-- journal, and those on its entry by actions of it that aren't nested.
pub record AreRowsSeen (act : Acts) (lines : List Line) (x : ℕ) (rows : ℕ → List Row) (names : List Row) (S : State) : Type 0 where
  pub servers : (n : ℕ) → SeesRows act (object x) (rows n) (let s = S.server n in s.rows)
  pub naming : SeesRows act (entry x) names (let n = S.naming in n.rows)
  pub holders : (n : ℕ) (r : Row) → Contains (rows n) r → r.object ≡ object x →
      (b : Act) × Began lines b × (r.holder ≡ uids (path_of lines b))
  pub askers : (r : Row) → Contains names r → r.object ≡ entry x → IsHeldByUpper lines r

-- After so many lines the machine was in a state on its way to the last one, tied to these lines.
pub record IsSeenAt (values : Values) (lines : List Line) (x : ℕ) (T : State) (t : IsTied values lines x T) (p : ℕ) : Type 0 where
  pub state : State
  pub before : Run (start t.first) state
  pub behind : Run state T
  pub tied : IsTiedToLines t.act t.code values x (take p lines) state

-- the node at which the unit of a call ran: that of the binding which its root kept
abbrev pub ran_at : (values : Values) (lines : List Line) (x : ℕ) (T : State) → IsTied values lines x T → Call → ℕ
ran_at values lines x T t c = (let b = T.binding (T.kept (root (t.act c.writer))) in b.server)
