use Rattle.std.proofs.Common.{map, ◌++◌}
use Rattle.std.specs.List.{filter_map}
use Rattle.arj_model.specs.Actions.{acts, committed, recovered}
use Rattle.arj_model.specs.Calls.{tops as tops_of}
use Rattle.arj_reading.specs.Reading.{placed_of}
use Rattle.arj_replay.specs.Orders.{paths}
use Rattle.arj_check.specs.Keys.{key_at, key_of}
use Rattle.arj_check.proofs.keys.call_keys.Goals as goal
use Rattle.std.proofs.Common.{◌∙◌, ap}

pub loop-mark-init : goal.loop-mark-init
loop-mark-init c = λ lines below has tests tops are.
    ap (λ ks. map (λ k. k.items) ks ++ filter_map (key_at (key_of (tops_of lines) below) (committed lines) (recovered lines) (paths (acts lines))) (map placed_of c.deref-mark-items.result.now)) c.new-keys.ensures.items
    ∙ ap (λ ms. filter_map (key_at (key_of (tops_of lines) below) (committed lines) (recovered lines) (paths (acts lines))) (map placed_of ms)) c.deref-mark-items.ensures.value
