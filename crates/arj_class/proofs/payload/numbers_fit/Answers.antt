use Rattle.std.proofs.Common.{arith}
use Rattle.arj_class.proofs.Payloads.{each_fits}
use Rattle.arj_class.proofs.payload.numbers_fit.Goals as goal

pub returns : goal.returns
returns c = each_fits c.args.numbers.now (λ i. omega (arith, c.type_inv.numbers i))
