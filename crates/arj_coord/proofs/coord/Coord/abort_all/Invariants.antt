use Rattle.std.proofs.Common.{◌≡◌, ◌++◌, drop}
use Rattle.arj_protocol.specs.Ending.{all_aborted}
use Rattle.arj_coord.proofs.coord.Coord.abort_all.Given as goal

-- the lines so far, and those that are left
abbrev pub invariant-loop-action : goal.invariant-loop-action
invariant-loop-action l = record {
  part : (all_aborted (drop l.action-index l.actions) l.self).part ≡ (all_aborted l.actions l.fn.self).part;
  outs : l.outs ++ (all_aborted (drop l.action-index l.actions) l.self).outs ≡ l.fn.outs ++ (all_aborted l.actions l.fn.self).outs;
}
