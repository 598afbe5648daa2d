use Rattle.arj_law_disk.proofs.Terms.{◌≡◌, Bool, true, false, refl}
use Rattle.arj_law_disk.proofs.machine
use machine.FirstRuns.{first_named, serial_named, older_named}
use machine.SmallRuns.{excluding_runs, stopped_before_runs, stopped_after_runs, naming_restarts_runs, excluded_runs, removed_runs}
use machine.SmallRuns.{including_runs, serializing_runs, retaining_runs}
use Rattle.arj_law_disk.proofs.samples.guards_can_be_met.Goals as goal

pub returns-clause-excluding : goal.returns-clause-excluding
returns-clause-excluding c = excluding_runs

pub returns-clause-stopped_before : goal.returns-clause-stopped_before
returns-clause-stopped_before c = (stopped_before_runs, (refl, refl, refl))

pub returns-clause-stopped_after : goal.returns-clause-stopped_after
returns-clause-stopped_after c = (stopped_after_runs, (refl, refl, refl))

pub returns-clause-naming_restarts : goal.returns-clause-naming_restarts
returns-clause-naming_restarts c = (naming_restarts_runs, (refl, refl, refl), refl)

pub returns-clause-excluded : goal.returns-clause-excluded
returns-clause-excluded c = (excluded_runs, (refl, refl, refl))

pub returns-clause-removed : goal.returns-clause-removed
returns-clause-removed c = (removed_runs, refl)

pub returns-clause-repeated : goal.returns-clause-repeated
returns-clause-repeated c = λ may. let n : ◌≡◌ {A = Bool} true false = may.new in cc

pub returns-clause-including : goal.returns-clause-including
returns-clause-including c = (including_runs, (refl, refl, refl), refl)

pub returns-clause-serializing : goal.returns-clause-serializing
returns-clause-serializing c = (serializing_runs, (refl, refl, refl))

pub returns-clause-retaining : goal.returns-clause-retaining
returns-clause-retaining c = (retaining_runs, refl)

pub returns-clause-first : goal.returns-clause-first
returns-clause-first c = (first_named, serial_named, older_named)
