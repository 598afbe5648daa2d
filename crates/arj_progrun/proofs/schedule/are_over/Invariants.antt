-- the programs that are left
use Rattle.std.proofs.Common.{◌≡◌, drop}
use Rattle.std.specs.List.{list_all}
use Rattle.arj_progrun.specs.Client.{is_over}
use Rattle.arj_progrun.specs.Kept.{clients_of}
use Rattle.arj_progrun.proofs.schedule.are_over.Given as goal

abbrev pub invariant-loop-client : goal.invariant-loop-client
invariant-loop-client l =
    list_all (λ c. is_over c.phase) (clients_of (drop l.client-index l.clients)) ≡ list_all (λ c. is_over c.phase) (clients_of l.clients)
