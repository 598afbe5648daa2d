-- those so far
use Rattle.std.proofs.Common.{◌≡◌, ◌≤◌, take}
use Rattle.arj_prog.specs.Nesting.{blocks_in}
use Rattle.arj_prog.proofs.nest.blocks_among.Given as goal

abbrev pub invariant-loop-frame : goal.invariant-loop-frame
invariant-loop-frame l = record { count : l.count ≡ blocks_in (take l.frame-index l.frames); within : l.count ≤ l.frame-index }
