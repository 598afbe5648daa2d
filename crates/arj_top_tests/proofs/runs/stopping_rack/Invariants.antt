-- the disks so far are empty, and were not armed often
use Rattle.std.proofs.Common.{◌≡◌, ◌<◌, All, None, vec_len}
use Rattle.arj_disk.specs.Armed.{arms_of, files_of}
use Rattle.arj_disk.specs.declared.slot.Slot.{Slot}
use Rattle.arj_top_tests.proofs.runs.stopping_rack.Given as goal

abbrev pub invariant-loop-node : goal.invariant-loop-node
invariant-loop-node l = record {
  count : vec_len l.disks ≡ l.node;
  empty : All (λ disk. (slot : Slot) → files_of disk slot ≡ None) l.disks.items;
  armed : All (λ disk. arms_of disk < 1000) l.disks.items;
}
