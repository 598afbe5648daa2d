-- the programs that have heard
use Rattle.std.proofs.Common.{◌≡◌, ℕ, vec_len}
use Rattle.std.specs.List.{AllByRecursion}
use Rattle.arj_progrun.specs.Kept.{IsWithin, clients_of, first_hear}
use Rattle.arj_progrun.proofs.schedule.hear_all.Given as goal

abbrev pub invariant-loop-at : goal.invariant-loop-at
invariant-loop-at l = record {
  heard : clients_of l.clients.items ≡ first_hear l.by 0 l.body l.at (clients_of l.fn.clients.items);
  long : vec_len l.clients ≡ vec_len l.fn.clients;
  within : (turn : ℕ) → AllByRecursion (IsWithin turn) l.fn.clients.items → AllByRecursion (IsWithin turn) l.clients.items;
}
