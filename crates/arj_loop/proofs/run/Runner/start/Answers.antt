-- what the formatting did to the disks
use Rattle.std.proofs.Common.{refl}
use Rattle.arj_loop.proofs.run.Runner.start.Goals as goal

pub returns-in-Ok-clause-started : goal.returns-in-Ok-clause-started
returns-in-Ok-clause-started g c =
    let made = c.in-Ok.ensures.made in
    record { made = c.in-Ok.machine; machine_is = refl; ran = made.0; steps = made.1; going = made.2 }
