use Rattle.arj_law_parts.proofs.Words.{refl}
use Rattle.arj_law_serial.proofs.outcomes.one_outcome_tells_journals_apart.Goals as goal

pub returns-clause-right : goal.returns-clause-right
returns-clause-right c = record { commits = refl; aborts = refl }

pub returns-clause-halted : goal.returns-clause-halted
returns-clause-halted c = record { commits = refl; aborts = refl }

pub returns-clause-found : goal.returns-clause-found
returns-clause-found c = record { commits = refl; aborts = refl }

pub returns-clause-no_cause : goal.returns-clause-no_cause
returns-clause-no_cause c = refl

pub returns-clause-naming : goal.returns-clause-naming
returns-clause-naming c = refl

pub returns-clause-early : goal.returns-clause-early
returns-clause-early c = refl
