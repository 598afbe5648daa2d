-- How things stand behind a journal, as it is kept, and what is kept of an image.
use Rattle.std.specs.Prelude.{List}
use Rattle.arj_clean.specs.declared.standing.Standing.{Standing}
use Rattle.arj_changes.specs.Kept.{AreKept as AreChanges}
use Rattle.arj_image.specs.declared.image.NodeFile.{NodeFile}
use Rattle.arj_journal.specs.declared.body.Line.{Line}
use Rattle.arj_journal.specs.declared.header.Header.{Header}
use Rattle.arj_last.specs.Kept.{AreWritten}
use Rattle.arj_model.specs.Actions.{acts}
use Rattle.arj_reading.specs.Readable.{Readable}
use Rattle.arj_saved.specs.Saved.{AreKept, pendings_in, segments_in}
use Rattle.arj_saved.specs.declared.kept.Kept.{Kept}
use Rattle.arj_standing.specs.Begun.{AreBegun}

-- This is kept of these lines.
pub record StandsBehind (lines : List Line) (s : Standing) : Type 0 where
  pub begun : AreBegun (acts lines) s.begun.items
  pub changes : AreChanges lines s.changes
  pub writes : AreWritten lines s.writes

-- A journal that can be read as a run, how things stand behind it, and the states in the files.
pub record IsSaved (header : Header) (lines : List Line) (standing : Standing) (held named : List Kept) (files : List NodeFile)
    : Type 0 where
  pub readable : Readable header lines
  pub stands : StandsBehind lines standing
  pub segments : AreKept (segments_in files) held
  pub pendings : AreKept (pendings_in files) named
