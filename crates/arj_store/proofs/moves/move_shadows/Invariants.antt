use Rattle.std.proofs.Common.{◌≡◌, take, true}
use Rattle.std.specs.Prelude.{is_some}
use Rattle.arj_disk.specs.declared.slot.Slot.TheVariants.{Shadow}
use Rattle.arj_store.specs.Shadow.{is_in, has_shadow, Releases, MovesShadows, HaveNoShadow}
use Rattle.arj_store.specs.Table.{at}
use Rattle.arj_disk.specs.Counted.{counts}
use Rattle.arj_store.proofs.Counting.{SameCounts}
use Rattle.arj_store.proofs.moves.move_shadows.Given as goal

-- the objects so far have no shadow any more, and those of the others are as they are kept
abbrev pub invariant-loop-uid : goal.invariant-loop-uid
invariant-loop-uid g l = record {
  moved : MovesShadows l.objects (g.D.Disk.file l.initial.disk) (g.D.Disk.file l.disk);
  gone : HaveNoShadow (take l.uid-index l.objects) (g.D.Disk.file l.disk);
  released : Releases (take l.uid-index l.objects) (at l.initial.holdings) (at l.holdings);
  kept : (u : _) → is_in l.objects u ≡ true → is_some (g.D.Disk.file l.disk (Shadow u)) ≡ has_shadow (at l.holdings u);
  counts : SameCounts (counts g.D.Disk l.initial.disk) (counts g.D.Disk l.disk);
}
