use Rattle.arj_msg.proofs.DecodeLaws.{one_of_spelling, fields_are}
use Rattle.arj_msg.proofs.spelling.one_spelling.Goals as goal

pub returns-clause-once : goal.returns-clause-once
returns-clause-once c = one_of_spelling

pub returns-clause-fields : goal.returns-clause-fields
returns-clause-fields c = fields_are
