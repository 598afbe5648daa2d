-- What is left of the lines says the same of the last frame.
use Rattle.std.proofs.Common.{◌≡◌, drop}
use Rattle.arj_saving.specs.Stops.{last_sent}
use Rattle.arj_saving.proofs.stopping.last_sent.Given as goal

abbrev pub invariant-loop-line : goal.invariant-loop-line
invariant-loop-line l = last_sent (drop l.line-index l.lines) l.last ≡ last_sent l.lines 0
