use Rattle.std.proofs.Common.{refl, map, take}
use Rattle.arj_model.specs.Actions.{acts, committed, recovered}
use Rattle.arj_replay.specs.Orders.{paths, survives}
use Rattle.arj_check.proofs.Survive.{survive_own, survive_other}
use Rattle.arj_check.proofs.laws.calls_survive_by_actions.Goals as goal

pub returns-clause-own : goal.returns-clause-own
returns-clause-own c = survive_own

pub returns-clause-below : goal.returns-clause-below
returns-clause-below c =
    λ lines i a p kept its top e apart. survive_other lines i a p kept its (map (survives (committed lines) (recovered lines)) (take i (paths (acts lines)))) top e apart refl
