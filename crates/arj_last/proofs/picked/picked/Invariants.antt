-- Those so far.
use Rattle.std.proofs.Common.{◌≡◌, take}
use Rattle.std.specs.List.{filter_map}
use Rattle.arj_last.specs.Survivors.{wrote_at}
use Rattle.arj_last.proofs.picked.picked.Given as goal

abbrev pub invariant-loop-place : goal.invariant-loop-place
invariant-loop-place l = l.wrotes.items ≡ filter_map (wrote_at l.all) (take l.place-index l.places)
