-- The flags so far.
use Rattle.std.proofs.Common.{◌≡◌, ◌∷◌, false, take}
use Rattle.std.specs.List.{filter_map}
use Rattle.arj_pending.specs.Crashes.{flag_of}
use Rattle.arj_pending.proofs.crashes.crashes_of.Given as goal

abbrev pub invariant-loop-line : goal.invariant-loop-line
invariant-loop-line l = l.flags.items ≡ false ∷ filter_map flag_of (take l.line-index l.script)
