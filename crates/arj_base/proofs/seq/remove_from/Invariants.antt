-- the bytes before the place were looked at
use Rattle.std.proofs.Common.{◌≡◌, ◌≤◌, ◌-◌, ◌++◌, ◌==◌, filter, not, take, drop}
use Rattle.std.specs.Prelude.{vec_len}
use Rattle.arj_base.proofs.seq.remove_from.Given as goal

abbrev pub invariant-loop-i : goal.invariant-loop-i
invariant-loop-i l = record {
  within : l.i ≤ vec_len l.bytes;
  rest : take l.i l.bytes.items ++ filter (λ b. not (b == l.byte)) (drop l.i l.bytes.items) ≡ filter (λ b. not (b == l.byte)) l.fn.bytes.items;
}

abbrev pub decreases-loop-i : goal.decreases-loop-i
decreases-loop-i l = vec_len l.bytes - l.i
