use Rattle.std.proofs.Common.{subst, sym}
use Rattle.std.specs.List.Sorted.{IsStrictlySortedBy}
use Rattle.std.specs.Option.{option_copied}
use Rattle.std.specs.Ordering.{nat_cmp}
use Rattle.arj_manager.specs.Index.{objects_of}
use Rattle.arj_manager.proofs.Walks.{none_sorted}
use Rattle.arj_manager.proofs.index.end_known.Goals as goal

pub returns-in_default-clause-sorted : goal.returns-in_default-clause-sorted
returns-in_default-clause-sorted c =
    subst (λ o. IsStrictlySortedBy nat_cmp (objects_of (option_copied o))) (sym c.in_default.is) none_sorted
