-- In which order the commits of an object's writers were called, by what is known of their decisions.
use Rattle.std.specs.Prelude.{⊤, ◌≡◌, ◌≢◌, ◌<◌, ℕ, List, [], ◌∷◌, filter, Contains}
use Rattle.arj_journal.specs.declared.body.Line.{Line}
use Rattle.arj_model.specs.Actions.{Act, acts}
use Rattle.arj_model.specs.Calls.{Top, tops}
use Rattle.arj_model.specs.Serial.{Values}
use Rattle.arj_law_disk.specs.machine.Order.{counts_of}
use Rattle.arj_law_disk.specs.machine.State.{Done}
use Rattle.arj_law_runs.specs.journal.Book.{new_book}
use Rattle.arj_law_runs.specs.journal.Right.{AreRight}
use Rattle.arj_law_lock.specs.machine.State.{State}
use Rattle.arj_law_serial.specs.order.Decided.{AreDecisions}
use Rattle.arj_promise.specs.Excluded.{Wrote}
use Rattle.arj_law_serial.specs.order.Tied.{IsTied}
use Rattle.arj_law_disk_view.specs.running.Decided.{AreOnce}
use Rattle.arj_law_serial.specs.joint.Ordered.{AreTurnsOf, IsCalledFirst}

-- a top of the journal that wrote the object, with its action
pub record IsWriter (lines : List Line) (x : ℕ) (t : Top) (a : Act) : Type 0 where
  pub listed : Contains (tops lines) t
  pub wrote : Wrote lines x t
  pub there : Contains (acts lines) a
  pub number : a.id ≡ t.id

-- Where the lock machine of the object reaches a state that is tied to the journal, the commit of a writer that was called before another
-- one was decided was called before that one's.
abbrev pub WritersAreCalledFirst : Type 0
WritersAreCalledFirst = (values : Values) (lines : List Line) (x : ℕ) (S : State) → AreRight new_book lines → IsTied values lines x S
    → (u v : Top) (a b : Act) → IsWriter lines x u a → IsWriter lines x v b → u.id ≢ v.id → IsCalledFirst lines a.uid b.uid → u.at < v.at

-- of these tops, the newest first, each that wrote the object had its commit called behind those that wrote it before
abbrev pub WritersAreNewestFirst : List Line → ℕ → List Top → Type 0
WritersAreNewestFirst lines x [] = ⊤
WritersAreNewestFirst lines x (t ∷ ts) =
    ((u : Top) → Contains ts u → Wrote lines x u → Wrote lines x t → u.at < t.at) × WritersAreNewestFirst lines x ts

-- So it is of the tops which the disk machine's decisions that count are, each of them decided once, where the machine decided in the
-- order of commit calls against decisions.
abbrev pub DecidedWritersStand : Type 0
DecidedWritersStand = (values : Values) (lines : List Line) (x : ℕ) (S : State) → AreRight new_book lines → IsTied values lines x S
    → (ds : List Done) (those : List Top) → AreTurnsOf lines ds → AreDecisions values lines x (filter counts_of ds) those → AreOnce ds →
    WritersAreNewestFirst lines x those
