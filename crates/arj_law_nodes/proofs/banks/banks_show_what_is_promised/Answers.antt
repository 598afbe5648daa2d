use Rattle.arj_law_nodes.proofs.nodes.Banking.{bank_fronts_show, bank_limits_show, banks_show}
use Rattle.arj_law_nodes.proofs.banks.banks_show_what_is_promised.Goals as goal

pub returns-clause-whole : goal.returns-clause-whole
returns-clause-whole g c = banks_show g.C.Core g.D.Disk

pub returns-clause-limits : goal.returns-clause-limits
returns-clause-limits g c = bank_limits_show g.C.Core g.D.Disk

pub returns-clause-fronts : goal.returns-clause-fronts
returns-clause-fronts g c = bank_fronts_show g.C.Core g.D.Disk
