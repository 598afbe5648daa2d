-- the disks so far are new
use Rattle.std.proofs.Common.{◌≡◌, All, vec_len}
use Rattle.arj_disk.specs.Armed.{IsNew}
use Rattle.arj_top.proofs.rack.empty_rack.Given as goal

abbrev pub invariant-loop : goal.invariant-loop
invariant-loop l = record {
  count : vec_len l.disks ≡ l.counter;
  new : All IsNew l.disks.items;
}
