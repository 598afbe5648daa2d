use Rattle.std.proofs.Common.{◌≡◌, ◌++◌, map}
use Rattle.std.specs.Vec.Iter.{into_iter_items}
use Rattle.arj_commit.specs.Tolds.{sent_to}
use Rattle.arj_coord.proofs.tolds.send_all.Given as goal

-- the messages so far, and those that are left
abbrev pub invariant-loop-node : goal.invariant-loop-node
invariant-loop-node l = l.outs ++ map sent_to (into_iter_items l.node-iterator) ≡ l.fn.outs ++ map sent_to l.fn.messages
