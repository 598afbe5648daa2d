use Rattle.arj_law_parts.proofs.steps.NoHalts.{crash_own, step_both}
use Rattle.arj_law_parts.proofs.events.only_crashes_say_halted.Goals as goal

pub returns : goal.returns
returns c = record { crashes = step_both; own = crash_own }
