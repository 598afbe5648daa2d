use Rattle.std.proofs.Common.{◌≡◌, drop}
use Rattle.arj_root.specs.Placed.{any_named_at}
use Rattle.arj_root.proofs.grants.any_named.Given as goal

-- what is left answers the same as the whole
abbrev pub invariant-loop-place : goal.invariant-loop-place
invariant-loop-place l =
    any_named_at l.top l.binding l.grants (drop l.place-index l.places) ≡ any_named_at l.top l.binding l.grants l.places
