-- the programs that are left
use Rattle.std.proofs.Common.{◌≡◌, ◌+◌, ◌++◌, drop, vec_len}
use Rattle.std.specs.List.{AllByRecursion}
use Rattle.arj_progrun.specs.Kept.{IsWithin, clients_of}
use Rattle.arj_progrun.specs.Schedule.{clients_from}
use Rattle.arj_progrun.proofs.schedule.Schedule.new.Given as goal

abbrev pub invariant-loop-program : goal.invariant-loop-program
invariant-loop-program l = record {
  clients : clients_of l.clients.items ++ clients_from (l.number + 1) (drop l.program-index l.programs) ≡ clients_from 1 l.programs;
  number : l.number ≡ l.program-index;
  long : vec_len l.clients ≡ l.program-index;
  within : AllByRecursion (IsWithin 0) l.clients.items;
}
