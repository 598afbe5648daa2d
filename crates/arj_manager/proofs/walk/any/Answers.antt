use Rattle.std.proofs.Common.{ap, sym}
use Rattle.arj_manager.specs.Index.{any_answers}
use Rattle.arj_manager.proofs.Upkeep.{none_picked}
use Rattle.arj_manager.proofs.walk.any.Goals as goal

pub returns-then-len-eq0-clause-answer : goal.returns-then-len-eq0-clause-answer
returns-then-len-eq0-clause-answer c =
    ap (any_answers c.args.question c.args.action) (sym (none_picked c.args.xs.now.keys c.args.objects.now.entries c.len.result c.len.ensures.len c.if-len-eq0.true))
