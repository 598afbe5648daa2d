use Rattle.std.proofs.Common.{◌≡◌, ◌∙◌, [], Some, None, sym, ap, subst}
use Rattle.std.specs.List.{IsDistinct}
use Rattle.arj_base.specs.Uid.{uid_eq}
use Rattle.arj_disk.specs.FileMap.{FileMap}
use Rattle.arj_disk.specs.Says.{OnlyOfRole, SameOfRole, slot_role}
use Rattle.arj_disk.specs.declared.slot.Role.TheVariants as role
use Rattle.arj_disk.specs.declared.slot.Slot.TheVariants as slot
use Rattle.arj_store.specs.Pair.{AreDistinct}
use Rattle.arj_part_tests.proofs.beginnings.begin.Goals as goal

none : IsDistinct uid_eq []
unfolding IsDistinct
none = tt

-- no state
no_states : AreDistinct role.Names []
no_states = record { distinct = none; own = tt }

-- what changes entries leaves the files of objects
store_stays : (old new : FileMap) → OnlyOfRole role.Names old new → SameOfRole role.Store old new
store_stays old new others q is =
    others q (λ e. let never : Some role.Store ≡ Some role.Names =
    sym is ∙ e in cc) (λ (e : q ≡ slot.Tmp). let never : None ≡ Some role.Store = sym (ap slot_role e) ∙ is in cc)

pub format-requires-2-clause-states : goal.format-requires-2-clause-states
format-requires-2-clause-states g c = subst (AreDistinct role.Names) (sym c.new.ensures) no_states

pub format_inc-requires-clause-store : goal.format_inc-requires-clause-store
format_inc-requires-clause-store g c =
    (g.met.O.ObjectStore.stays role.Store (g.D.Disk.file c.format.new.disk) (g.D.Disk.file c.format-3.new.disk)
    (store_stays (g.D.Disk.file c.format.new.disk) (g.D.Disk.file c.format-3.new.disk) c.in_ok-_entries.ensures.others) c.in_ok-_objects.ensures.formed).0
