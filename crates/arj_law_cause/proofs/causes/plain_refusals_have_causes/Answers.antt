use Rattle.arj_law_cause.proofs.kinds.Refused.{refused_row}
use Rattle.arj_law_cause.proofs.causes.plain_refusals_have_causes.Goals as goal

pub returns : goal.returns
returns c = record { refused = refused_row }
