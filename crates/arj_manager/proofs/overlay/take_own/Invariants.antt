use Rattle.std.proofs.Common.{◌≡◌, ◌≤◌, ◌-◌, ◌++◌, take, drop, vec_len, filter, not}
use Rattle.std.specs.Option.{option_map, option_or}
use Rattle.arj_protocol.specs.Copy.{Over, is_of, over_of}
use Rattle.arj_manager.specs.Stack.{stack_of}
use Rattle.arj_manager.proofs.overlay.take_own.Given as goal

-- the overlays so far stay, and the rest gives what is left of the whole; the first value is found, or is that of the rest
abbrev pub invariant-loop-i : goal.invariant-loop-i
invariant-loop-i l = record {
  within : l.i ≤ vec_len l.stack;
  rest : stack_of (take l.i l.stack.items) ++ filter (λ o. not (is_of l.action o)) (stack_of (drop l.i l.stack.items)) ≡ filter (λ o. not (is_of l.action o)) (stack_of l.fn.stack.items);
  value : option_or l.value (option_map (λ (e : Over). e.value) (over_of l.action (stack_of (drop l.i l.stack.items)))) ≡ option_map (λ (e : Over). e.value) (over_of l.action (stack_of l.fn.stack.items));
}

abbrev pub decreases-loop-i : goal.decreases-loop-i
decreases-loop-i l = vec_len l.stack - l.i
