-- Journals that keep the lock book.
use Rattle.std.specs.Prelude.{List}
use Rattle.arj_journal.specs.declared.body.Line.{Line}
use Rattle.arj_model.specs.Book.{Answered, InOrder}
use Rattle.arj_model.specs.Nested.{AnsweredInTime, FreedInOrder}
use Rattle.arj_model.specs.Serial.{Values}

-- The surviving calls of committed tops keep the book. Of each two that conflict: those of different tops stand in the serial order; within
-- one top the actions of the first are committed before the second is answered. Each is answered by the writes before it, and before
-- each action that it was made in is committed.
pub record KeepsOrder (values : Values) (lines : List Line) : Type 0 where
  pub order : InOrder lines
  pub answers : Answered values lines
  pub nested : FreedInOrder lines
  pub times : AnsweredInTime lines
