use Rattle.std.proofs.Common.{◌∙◌, ap}
use Rattle.std.specs.List.{list_any}
use Rattle.arj_saved.proofs.Finding.{doubt_test, names_in}
use Rattle.arj_saved.proofs.found.is_named.Goals as goal

pub returns : goal.returns
returns c = λ files kept. doubt_test c.args.node c.args.role c.args.uid files c.do_name.result
    (c.do_name.ensures ∙ ap (list_any (names_in c.args.node c.args.role c.args.uid)) kept.shown)
