-- reads leave all files as they are
use Rattle.std.proofs.Common.{subst, sym}
use Rattle.arj_part_tests.specs.Known.{KnowsOurs}
use Rattle.arj_part_tests.proofs.stores.has_all.Goals as goal

pub answers-requires-clause-formed : goal.answers-requires-clause-formed
answers-requires-clause-formed g c = subst (λ f. g.S.ObjectStore.formed f c.args.role) (sym c.has_left.ensures.files) c.requires.formed

pub answers-requires-clause-known : goal.answers-requires-clause-known
answers-requires-clause-known g c = subst (λ f. KnowsOurs c.args.role (g.S.ObjectStore.pair f c.args.role))
    (sym c.has_left.ensures.files) c.requires.known
