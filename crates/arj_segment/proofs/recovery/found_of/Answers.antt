use Rattle.std.proofs.Common.{sym, subst}
use Rattle.arj_store.specs.Pair.{Finds}
use Rattle.arj_store.specs.Table.{at}
use Rattle.arj_segment.specs.Says.{pair_of}
use Rattle.arj_segment.proofs.Found.{found_pair}
use Rattle.arj_segment.proofs.recovery.found_of.Goals as goal

pub returns-in_ok-into_values-in-Names : goal.returns-in_ok-into_values-in-Names
returns-in_ok-into_values-in-Names c file unpacks lists =
    subst (λ r. Finds r (pair_of file c.args.role) (record {
      committed = c.in_ok-into_values-in-Names.field-0;
      prepared =
          c.args.pends;
    })) (sym c.in-Names.is)
    (found_pair c.args.role file (at c.args.states) unpacks c.in_ok-into_values-in-Names.field-0 c.in_ok-into_values-in-Names.ensures c.args.pends lists)
