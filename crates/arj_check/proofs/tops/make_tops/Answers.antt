use Rattle.std.proofs.Common.{[]}
use Rattle.arj_model.specs.Actions.{acts, committed, recovered}
use Rattle.arj_reading.specs.Reading.{placed_of}
use Rattle.arj_replay.specs.Orders.{paths}
use Rattle.arj_check.specs.Keys.{top_at}
use Rattle.arj_check.proofs.tops.make_tops.Goals as goal
use Rattle.std.proofs.Common.{◌∙◌, ap, map}
use Rattle.std.specs.List.{filter_map}
use Rattle.arj_check.proofs.Loops.{tops_start}

pub loop-mark-init : goal.loop-mark-init
loop-mark-init c =
    λ lines has. ([], c.no_tops-tops.ensures, ap (λ ms. filter_map (top_at (committed lines) (recovered lines) (paths (acts lines))) (map placed_of ms)) c.deref-mark-items.ensures.value ∙ tops_start lines c.args.reading.now has)
