use Rattle.std.proofs.Common.{◌∙◌, ap}
use Rattle.std.specs.BTreeMap.{is_at}
use Rattle.std.specs.List.{list_any}
use Rattle.arj_protocol.specs.Words.{label_cmp}
use Rattle.arj_world.proofs.Tests.{given_is}
use Rattle.arj_world.proofs.world.World.was_given.Goals as goal

pub returns : goal.returns
returns g c = λ w keeps.
    given_is g.C.Core c.args.label c.contains.result c.args.self.now w keeps
    (c.contains.ensures ∙ ap (λ k. list_any (is_at (label_cmp c.args.label)) k.given) c.self.view_is)
