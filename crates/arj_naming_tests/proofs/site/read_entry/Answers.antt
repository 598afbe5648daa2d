use Rattle.arj_naming_tests.proofs.site.read_entry.Goals as goal

pub returns-clause-files : goal.returns-clause-files
returns-clause-files c = λ i q. c.entry.ensures.files q i
