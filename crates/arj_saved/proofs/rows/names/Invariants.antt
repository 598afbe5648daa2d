use Rattle.std.proofs.Common.{◌≡◌, drop}
use Rattle.arj_saved.specs.Rows.{names_uid}
use Rattle.arj_saved.proofs.rows.names.Given as goal

abbrev pub invariant-loop-state : goal.invariant-loop-state
invariant-loop-state l = names_uid (drop l.state-index l.states) l.uid ≡ names_uid l.states l.uid
