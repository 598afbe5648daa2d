-- the disks so far are empty, and were not armed often
use Rattle.std.proofs.Common.{◌≡◌, ◌<◌, All, None, vec_len}
use Rattle.arj_disk.specs.Armed.{arms_of, files_of}
use Rattle.arj_disk.specs.declared.slot.Slot.{Slot}
use Rattle.arj_part_tests.specs.declared.recorder.Recorder.{Recorder}
use Rattle.arj_stop_tests.proofs.calls.recorders.Given as goal

abbrev pub invariant-loop : goal.invariant-loop
invariant-loop l = record {
  count : vec_len l.disks ≡ l.counter;
  empty : All (λ (one : Recorder). (slot : Slot) → files_of one.disk slot ≡ None) l.disks.items;
  armed : All (λ (one : Recorder). arms_of one.disk < 1000) l.disks.items;
}
