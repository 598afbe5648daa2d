-- What is told so far, and what is to be told of the lines that are left.
use Rattle.std.proofs.Common.{◌≡◌, ◌++◌, [], take, drop}
use Rattle.arj_pending.specs.Behind.{StandsBehind}
use Rattle.arj_pending.specs.Told.{pendings_from}
use Rattle.arj_pending.proofs.told.put_each.Given as goal

abbrev pub invariant-loop-at : goal.invariant-loop-at
invariant-loop-at l = record {
  told :
      l.out ++ pendings_from l.flags l.header (take l.at l.lines) (drop l.at l.lines)
      ≡ l.fn.out ++ pendings_from l.flags l.header [] l.lines;
  standing : StandsBehind l.flags (take l.at l.lines) l.standing;
}
