-- the accounts so far
use Rattle.std.proofs.Common.{◌≡◌}
use Rattle.arj_gen.specs.Bank.{accounts}
use Rattle.arj_gen.proofs.bank.accounts_of.Given as goal

abbrev pub invariant-loop-k : goal.invariant-loop-k
invariant-loop-k l = l.objects ≡ accounts l.k
