use Rattle.std.proofs.Common.{rules}
use Rattle.std.proofs.lemmas.Fn.{filter_same}
use Rattle.arj_naming.specs.Bound.{is_to, live_at}
use Rattle.arj_naming.proofs.bound.keep_bound.Goals as goal

pub returns : goal.returns
returns c = filter_same _ (λ x. is_to c.args.node (live_at x c.args.objects.now.entries)) _ (λ x b f' t. search rules) _ _ c.retain.ensures.filtered
