use Rattle.std.proofs.Common.{◌≡◌, ◌+◌, ◌≤◌, length, vec_len}
use Rattle.std.specs.Vec.{vec_capacity}
use Rattle.std.specs.Vec.Iter.{into_iter_items}
use Rattle.arj_protocol.specs.Commit.{with_states}
use Rattle.arj_commit.proofs.states.put_states.Given as goal

-- the states that are left are put into those so far, and there is room for them
abbrev pub invariant-loop-state : goal.invariant-loop-state
invariant-loop-state l = record {
  puts : with_states (into_iter_items l.state-iterator) l.all.items ≡ with_states l.fn.more.items l.fn.states;
  room : vec_len l.all + length (into_iter_items l.state-iterator) ≤ vec_capacity l.all;
}
