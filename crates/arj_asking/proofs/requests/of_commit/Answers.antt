use Rattle.std.proofs.Common.{◌∙◌, ap}
use Rattle.arj_asking.proofs.Sending.{machine_asked}
use Rattle.arj_asking.specs.Sent.{asked_each}
use Rattle.arj_coord.specs.Shown.{machine_of}
use Rattle.arj_protocol.specs.Commit.{Plan}
use Rattle.arj_protocol.specs.Coord as coordinator
use Rattle.arj_asking.proofs.requests.of_commit.Goals as goal

pub returns : goal.returns
returns c = λ (d : coordinator.Coord).
    (λ i. asked_each (ap (λ (p : Plan). p.path) (c.behind-commit.view_is ∙ c.plan_in.ensures) i) (c.in_ok-waiting.ensures i) d)
    ∙ machine_asked (machine_of c.args.commit.now) d
