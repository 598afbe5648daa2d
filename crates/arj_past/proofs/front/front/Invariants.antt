use Rattle.std.proofs.Common.{◌≡◌, ◌++◌, None, drop, take}
use Rattle.arj_last.specs.declared.picked.Wrote.{Wrote}
use Rattle.arj_past.specs.Rows.{front_from}
use Rattle.arj_past.proofs.front.front.Given as goal

abbrev pub invariant-loop-at : goal.invariant-loop-at
invariant-loop-at l =
    take l.at l.wrotes ++ front_from (λ (w : Wrote). w.top) l.last l.left (drop l.at l.wrotes) ≡ front_from (λ (w : Wrote). w.top) None l.most l.wrotes
