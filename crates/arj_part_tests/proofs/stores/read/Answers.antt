use Rattle.arj_part_tests.proofs.stores.read.Goals as goal

pub returns-clause-files : goal.returns-clause-files
returns-clause-files g c = λ i q. c.read_committed.ensures.files q i
