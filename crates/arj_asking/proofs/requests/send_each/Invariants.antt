use Rattle.std.proofs.Common.{◌≡◌, ◌++◌, map}
use Rattle.std.specs.Vec.Iter.{into_iter_items}
use Rattle.arj_asking.specs.Sent.{go_to}
use Rattle.arj_commit.specs.Tolds.{sent_to}
use Rattle.arj_asking.proofs.requests.send_each.Given as goal

-- the requests so far, and those that are left
abbrev pub invariant-loop-node : goal.invariant-loop-node
invariant-loop-node l = record {
  part : go_to l.path (into_iter_items l.node-iterator) l.coord ≡ go_to l.path l.fn.requests l.fn.coord;
  outs : l.outs ++ map sent_to (into_iter_items l.node-iterator) ≡ l.fn.outs ++ map sent_to l.fn.requests;
}
