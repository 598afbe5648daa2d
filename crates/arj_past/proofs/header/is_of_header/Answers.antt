use Rattle.arj_past.proofs.Named.{named_test}
use Rattle.arj_past.proofs.header.is_of_header.Goals as goal

pub returns : goal.returns
returns c = λ files are. named_test c.args.objects.now c.args.node c.args.role c.do_fit.result files c.args.segments.now are.shown c.do_fit.ensures
