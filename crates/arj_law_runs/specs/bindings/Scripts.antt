-- What holds of each run of so many events, whatever stops fall in them.
use Rattle.std.specs.Prelude.{◌≤◌, length}
use Rattle.arj_protocol.specs.Words.{Header}
use Rattle.arj_promise.specs.Runs.{Run, journal_by}
use Rattle.arj_law_runs.specs.calls.Bindings.{HasFewBindings}
use Rattle.arj_promise.specs.Runs.{most_events}

-- naming makes few bindings in such a run
abbrev pub MovesMakeFew : Type 0
MovesMakeFew = (hd : Header) (r : Run hd) → length r.moves ≤ most_events → HasFewBindings (journal_by hd r)
