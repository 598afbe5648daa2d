use Rattle.arj_base.specs.contracts.uid.UidOrd.TheImpl.Laws.{total-law}
use Rattle.arj_base.proofs.laws.orders_are_by_fields.Goals as goal

pub returns-clause-uid_total : goal.returns-clause-uid_total
returns-clause-uid_total c = total-law
