-- The steps of a call that waits, as the protocol has them.
use Rattle.arj_protocol.specs.Call.{Steps}
use Rattle.arj_bind.specs.Shown.{goal_of, at_of}
use Rattle.arj_bind.specs.declared.steps.Asking.{Asking}

-- the steps
abbrev pub steps_of : Asking → Steps
steps_of a = record { path = a.path; x = a.x; goal = goal_of a.goal; req = a.req; at = at_of a.at }
