use Rattle.std.proofs.Common.{◌≡◌, drop}
use Rattle.arj_text.specs.Label.{name}
use Rattle.arj_standing.specs.Begun.{links_named}
use Rattle.arj_standing.proofs.path.path_named.Given as goal

abbrev pub invariant-loop-action : goal.invariant-loop-action
invariant-loop-action l = links_named (name l.label) (drop l.action-index l.begun) ≡ links_named (name l.label) l.begun
