-- What journals of runs in form are to whoever reads and checks journals.
use Rattle.std.specs.Prelude.{◌≡◌, None}
use Rattle.arj_journal.specs.declared.header.Header.{Header}
use Rattle.arj_promise.specs.Runs.{IsInForm, Run, journal_by}
use Rattle.arj_reading.specs.Readable.{Readable}
use Rattle.arj_replay.specs.Orders.{nested_difference, serial_difference}

-- each line of the journal of a run in form keeps the rules by which journals are read
abbrev pub RunsAreReadable : Type 0
RunsAreReadable = (hd : Header) (run : Run hd) → IsInForm hd run → Readable hd (journal_by hd run)

-- and no call of it has another answer than is wanted, in serial order and where nested actions are run whole at their commits
abbrev pub NoAnswersDiffer : Type 0
NoAnswersDiffer = (hd : Header) (run : Run hd) → IsInForm hd run → (serial_difference hd (journal_by hd run) ≡ None)
    × (nested_difference hd (journal_by hd run) ≡ None)
