use Rattle.std.proofs.Common.{◌≡◌, ◌++◌, drop}
use Rattle.arj_asking.specs.Again.{again_at}
use Rattle.arj_asking.proofs.ticks.ask_each.Given as goal

-- the actions so far, and those that are left
abbrev pub invariant-loop-number : goal.invariant-loop-number
invariant-loop-number l = record {
  same : l.coord.doings ≡ l.fn.coord.doings;
  part : (again_at l.fn.coord.doings (drop l.number-index l.numbers) l.coord).part ≡ (again_at l.fn.coord.doings l.numbers l.fn.coord).part;
  outs : l.outs ++ (again_at l.fn.coord.doings (drop l.number-index l.numbers) l.coord).outs ≡ l.fn.outs ++ (again_at l.fn.coord.doings l.numbers l.fn.coord).outs;
}
