use Rattle.std.proofs.Common.{◌≡◌, take, nat_le, if◌then◌else◌}
use Rattle.arj_base.specs.Path.{uids_of, tops_of}
use Rattle.arj_msg.proofs.head.path_with.Given as goal

abbrev pub invariant-loop-i : goal.invariant-loop-i
invariant-loop-i l = record {
  front : uids_of l.path ≡ take l.i l.uids;
  top : tops_of l.path ≡ (if nat_le 2 l.i then l.tops else 1);
}
