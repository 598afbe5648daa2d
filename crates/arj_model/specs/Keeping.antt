-- Journals whose answered calls keep the lock book: their order, their values, and the nesting of actions.
use Rattle.std.specs.Prelude.{List}
use Rattle.arj_journal.specs.declared.body.Line.{Line}
use Rattle.arj_model.specs.Book.{Answered, CommitsComeFirst, InOrder}
use Rattle.arj_model.specs.Nested.{AnsweredInTime, FreedInOrder}
use Rattle.arj_model.specs.Serial.{Values}

-- The surviving calls of committed tops keep the lock book. Of each two that conflict: those of different tops stand in the serial order (`order`),
-- and the commit of the first one's top is called before the second is answered (`commits`); within one top the actions of the first are
-- committed before the second is answered (`nested`). Each is answered by the writes before it, from its object's first value (`answers`), and
-- before each action that it was made in is committed (`times`).
pub record KeepsTheBook (values : Values) (lines : List Line) : Type 0 where
  pub order : InOrder lines
  pub commits : CommitsComeFirst lines
  pub answers : Answered values lines
  pub nested : FreedInOrder lines
  pub times : AnsweredInTime lines
