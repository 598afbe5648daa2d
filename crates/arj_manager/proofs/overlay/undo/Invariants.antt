use Rattle.std.proofs.Common.{◌≡◌, ◌≤◌, ◌-◌, ◌++◌, take, drop, vec_len}
use Rattle.arj_protocol.specs.Copy.{undone}
use Rattle.arj_manager.specs.Stack.{stack_of}
use Rattle.arj_manager.proofs.overlay.undo.Given as goal

-- the overlays so far stay, and the rest gives what is left of the whole
abbrev pub invariant-loop-i : goal.invariant-loop-i
invariant-loop-i l = record {
  within : l.i ≤ vec_len l.stack;
  rest : stack_of (take l.i l.stack.items) ++ undone l.action (stack_of (drop l.i l.stack.items)) ≡ undone l.action (stack_of l.fn.stack.items);
}

abbrev pub decreases-loop-i : goal.decreases-loop-i
decreases-loop-i l = vec_len l.stack - l.i
