use Rattle.std.proofs.Common.{◌≡◌, vec_len}
use Rattle.arj_base_tests.proofs.disk.sixteen.Given as goal

abbrev pub invariant-loop : goal.invariant-loop
invariant-loop l = vec_len l.disks ≡ l.counter
