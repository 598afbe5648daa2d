use Rattle.std.proofs.Common.{◌≡◌, ◌++◌, drop}
use Rattle.std.specs.List.{flat_map}
use Rattle.arj_protocol.specs.Ending.{tolds_of}
use Rattle.arj_coord.proofs.coord.Coord.tell_ends.Given as goal

-- the tolds so far, and those that are left
abbrev pub invariant-loop-action : goal.invariant-loop-action
invariant-loop-action l =
    l.outs ++ flat_map (tolds_of l.intents l.self) (drop l.action-index l.actions) ≡ l.fn.outs ++ flat_map (tolds_of l.intents l.self) l.actions
