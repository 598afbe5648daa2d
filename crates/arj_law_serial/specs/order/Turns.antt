-- Decided tops of the lock machine, of which one wrote: they take turns.
use Rattle.std.specs.Prelude.{◌≡◌, ◌≢◌, ◌≤◌, ◌<◌, true}
use Rattle.arj_law_lock.specs.machine.Actions.{Act, In, top}
use Rattle.arj_law_lock.specs.machine.State.{Alive, Call, State}

-- its commit is decided, reported or not
abbrev pub IsDecided : State → Act → Type 0
IsDecided s m = (2 ≤ (s.action m).stage) × ((s.action m).stage ≤ 3)

-- The first call's top had its committed line before the second call, and its commit called before that of the second one's.
pub record AreInTurn (s : State) (c d : Call) : Type 0 where
  pub committed : (s.action (top c.act)).stage ≡ 3
  pub done : (s.action (top c.act)).done < d.line
  pub called : (s.action (top c.act)).place < (s.action (top d.act)).place

-- So it is of each write and each later call, of two decided tops, neither of which was undone.
abbrev pub TakeTurns : State → Type 0
TakeTurns s = (c d : Call) → In c s.calls → In d s.calls → c.line < d.line → c.write ≡ true → Alive s c.act → Alive s d.act →
    IsDecided s (top c.act) → IsDecided s (top d.act) → top c.act ≢ top d.act → AreInTurn s c d
