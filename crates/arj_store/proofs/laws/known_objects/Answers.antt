use Rattle.std.proofs.Common.{⊎_elim, map}
use Rattle.std.specs.Prelude.{Contains}
use Rattle.arj_disk.specs.declared.limits.TheConstants.{MOST_KNOWN}
use Rattle.arj_store.specs.Pair.{IsKnown, uid_of}
use Rattle.arj_store.proofs.Known.{same_known, known_prepared, known_moved, known_in_part, known_dropped}
use Rattle.arj_store.proofs.laws.known_objects.Goals as goal

pub returns-clause-same : goal.returns-clause-same
returns-clause-same c = same_known

pub returns-clause-prepare : goal.returns-clause-prepare
returns-clause-prepare c = known_prepared

pub returns-clause-commit : goal.returns-clause-commit
returns-clause-commit c = known_moved

pub returns-clause-part : goal.returns-clause-part
returns-clause-part c = known_in_part

pub returns-clause-abort : goal.returns-clause-abort
returns-clause-abort c = known_dropped

pub returns-clause-few : goal.returns-clause-few
returns-clause-few c p states us few known added ws distinct each =
    c.among_so_many.ensures MOST_KNOWN us few ws distinct (λ u is. ⊎_elim (λ (h : IsKnown p u). known u h) (λ (h : Contains (map uid_of states) u). added u h) (each u is))
