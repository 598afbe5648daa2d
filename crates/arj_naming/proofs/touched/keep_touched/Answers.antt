use Rattle.std.proofs.Common.{not, rules}
use Rattle.std.proofs.lemmas.Fn.{filter_same}
use Rattle.arj_naming.specs.Touched.{looks_apart_in}
use Rattle.arj_protocol.specs.Order.{at_number}
use Rattle.arj_naming.proofs.touched.keep_touched.Goals as goal

pub returns : goal.returns
returns c = filter_same _ (λ x. not (looks_apart_in c.args.action (at_number x c.args.objects.now.entries))) _ (λ x b f' t. search rules) _ _ c.retain.ensures.filtered
