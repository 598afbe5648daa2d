use Rattle.std.proofs.Common.{◌≡◌, ℕ, List, ◌++◌, map, drop}
use Rattle.std.specs.List.{filter_map}
use Rattle.arj_journal.specs.declared.body.Line.{Line}
use Rattle.arj_model.specs.Actions.{Act, acts, committed, recovered}
use Rattle.arj_model.specs.Calls.{tops}
use Rattle.arj_reading.specs.Reading.{HasRead, placed_of}
use Rattle.arj_replay.specs.Orders.{paths, survives}
use Rattle.arj_check.specs.Keys.{AreBelow, key_at, key_of}
use Rattle.arj_check.specs.Kept.{HasTops}
use Rattle.arj_check.proofs.keys.call_keys.Given as goal

abbrev pub invariant-loop-mark : goal.invariant-loop-mark
invariant-loop-mark l =
    (lines : List Line) (below : List Act → List ℕ) → HasRead lines l.reading →
    l.parts.survives.now ≡ map (survives (committed lines) (recovered lines)) (paths (acts lines)) → HasTops (tops lines) l.parts.tops.now
    → AreBelow (paths (acts lines)) below (map (λ k. k.items) l.parts.below.now)
    → map (λ k. k.items) l.keys.items ++ filter_map (key_at (key_of (tops lines) below) (committed lines) (recovered lines) (paths (acts lines))) (map placed_of (drop l.mark-index l.mark-items)) ≡ filter_map (key_at (key_of (tops lines) below) (committed lines) (recovered lines) (paths (acts lines))) (map placed_of l.reading.said.items)
