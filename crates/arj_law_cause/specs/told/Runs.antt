-- In every run the journal says why it is so.
use Rattle.arj_journal.specs.declared.header.Header.{Header}
use Rattle.arj_law_runs.specs.follow.Frames.{run_events}
use Rattle.arj_model.specs.Caused.{JHasCauses}
use Rattle.arj_model.specs.Follows.{Follows, Runs}
use Rattle.arj_promise.specs.Runs.{IsInForm, Run, journal_by}
use Rattle.arj_law_cause.specs.told.Local.{LocalBesideSettles}
use Rattle.arj_law_cause.specs.told.Told.{TellsItsCauses}

-- of every run in form, wherever it begins: by the events that were run, and by its journal
abbrev pub JournalsTell : Type 0
JournalsTell = (hd : Header) (r : Run hd) → IsInForm hd r → TellsItsCauses hd r.start (run_events hd r) (journal_by hd r)

-- in particular each of its lines has its cause
abbrev pub LinesHaveCauses : Type 0
LinesHaveCauses = (hd : Header) (r : Run hd) → IsInForm hd r → JHasCauses hd r.start (run_events hd r) (journal_by hd r)

-- and it follows its events
abbrev pub RunsFollow : Type 0
RunsFollow = (hd : Header) (r : Run hd) → IsInForm hd r → Follows hd r.start (run_events hd r) (journal_by hd r)

-- and each line of an event, any but a settle and a quiesce, is of what a node did in it
abbrev pub LinesAreLocal : Type 0
LinesAreLocal = (hd : Header) (r : Run hd) → IsInForm hd r → Runs (LocalBesideSettles hd) r.start (run_events hd r) (journal_by hd r)
