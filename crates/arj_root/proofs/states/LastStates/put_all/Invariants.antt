use Rattle.std.proofs.Common.{◌≡◌, drop}
use Rattle.arj_protocol.specs.Ending.{states_after}
use Rattle.arj_root.proofs.states.LastStates.put_all.Given as goal

-- the rest goes onto what is there as all of them onto the whole
abbrev pub invariant-loop-state : goal.invariant-loop-state
invariant-loop-state l = states_after (drop l.state-index l.states) l.self ≡ states_after l.states l.fn.self
