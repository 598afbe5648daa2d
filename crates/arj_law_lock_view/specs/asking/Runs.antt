-- What coordinators wait for, in whole runs.
use Rattle.arj_protocol.specs.Words.{Header}
use Rattle.arj_law_parts.specs.moves.With.{HoldsWith, past_of}
use Rattle.arj_promise.specs.Runs.{Run, world_by}
use Rattle.arj_law_lock_view.specs.asking.Asked.{AskedAreTied}

-- at each moment of each run each action that waits for a call or include does so for what was asked last of it
abbrev pub RunsTieCalls : Type 0
RunsTieCalls = (hd : Header) (r : Run hd) → HoldsWith hd AskedAreTied (past_of hd r) (world_by hd r)
