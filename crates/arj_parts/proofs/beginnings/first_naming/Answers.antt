use Rattle.std.proofs.Common.{sym, subst}
use Rattle.arj_disk.specs.declared.slot.Role.TheVariants.{Names}
use Rattle.arj_parts.proofs.FirstHere.{none_distinct, not_one, unnamed_pair_on}
use Rattle.arj_store.specs.Pair.{AreDistinct, HasOnly}
use Rattle.arj_parts.proofs.beginnings.first_naming.Goals as goal

pub format-requires-2-clause-states : goal.format-requires-2-clause-states
format-requires-2-clause-states g c = subst (AreDistinct Names) (sym c.new.ensures) none_distinct

pub returns-clause-pair : goal.returns-clause-pair
returns-clause-pair g c =
    unnamed_pair_on g.O.ObjectStore c.args.header.now c.args.number (g.D.Disk.file c.format-3.new.disk) (not_one c.args.number c.if-number-eq1.false)
    (subst (HasOnly (g.O.ObjectStore.pair (g.D.Disk.file c.format-3.new.disk) Names)) c.new.ensures c.in_ok-_none.ensures.pair)
