use Rattle.std.specs.Prelude.{◌≡◌, true}
use Rattle.arj_world.proofs.Turning.{turn_holds, turns_hold}
use Rattle.arj_world.proofs.whole.turns_keep_what_handlers_keep.Goals as goal

pub returns-clause-turn : goal.returns-clause-turn
returns-clause-turn c = λ hd test keeps t w h. turn_holds hd (λ M. test M ≡ true) keeps t w h

pub returns-clause-runs : goal.returns-clause-runs
returns-clause-runs c = λ hd test keeps ts. turns_hold hd (λ M. test M ≡ true) keeps ts
