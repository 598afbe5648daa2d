-- How things stand behind a journal's lines, as it is kept while they are read.
use Rattle.std.specs.Prelude.{Bool, List}
use Rattle.arj_journal.specs.declared.body.Line.{Line}
use Rattle.arj_model.specs.Actions.{acts}
use Rattle.arj_changes.specs.Kept.{AreKept}
use Rattle.arj_last.specs.Kept.{AreWritten}
use Rattle.arj_standing.specs.Begun.{AreBegun}
use Rattle.arj_pending.specs.Pends.{ArePrepared}
use Rattle.arj_pending.specs.declared.standing.Standing.{Standing}

-- This is kept of these lines, of a script with these flags of crashes.
pub record StandsBehind (flags : List Bool) (lines : List Line) (s : Standing) : Type 0 where
  pub begun : AreBegun (acts lines) s.begun.items
  pub changes : AreKept lines s.changes
  pub writes : AreWritten lines s.writes
  pub prepares : ArePrepared flags lines s.prepares
