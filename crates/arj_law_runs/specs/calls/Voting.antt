-- What servers vote, and what calls name, in whole runs.
use Rattle.arj_protocol.specs.Words.{Header}
use Rattle.arj_law_parts.specs.moves.Keeps.{Holds}
use Rattle.arj_promise.specs.Runs.{Run, journal_by, world_by}
use Rattle.arj_law_runs.specs.calls.Bindings.{HasFewBindings}
use Rattle.arj_law_runs.specs.calls.Runs.{AllChangesAreCalled, AllVotesAreUsed}

-- votes are used in every run in which naming makes few bindings
abbrev pub RunsVote : Type 0
RunsVote = (hd : Header) (r : Run hd) → HasFewBindings (journal_by hd r) → Holds hd AllVotesAreUsed (world_by hd r)

-- and what commits have as changed was called in their tops
abbrev pub RunsCall : Type 0
RunsCall = (hd : Header) (r : Run hd) → HasFewBindings (journal_by hd r) → Holds hd AllChangesAreCalled (world_by hd r)
