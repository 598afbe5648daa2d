use Rattle.std.proofs.Common.{ap, ◌∙◌}
use Rattle.arj_coord.specs.Waiting.{idle_doing}
use Rattle.arj_protocol.specs.Coord.{on_doing}
use Rattle.arj_coord.proofs.coord.Coord.end.Goals as goal

pub returns : goal.returns
returns c = c.take.ensures.idle ∙ ap (on_doing c.args.action idle_doing) c.in_ok-close.ensures
