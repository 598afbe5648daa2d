use Rattle.std.proofs.Common.{◌≡◌, true, take}
use Rattle.arj_base.specs.Rows.{is_on}
use Rattle.arj_base.specs.declared.uid.Uid.{Uid}
use Rattle.arj_naming.specs.Touched.{KeepsTouched, is_touched}
use Rattle.arj_naming.proofs.touched.touch_all.Given as goal

-- the object stands under the actions so far, and what stood there stays
abbrev pub invariant-loop-action : goal.invariant-loop-action
invariant-loop-action l = record {
  here : (u : Uid) → is_on (take l.action-index l.actions) u ≡ true → is_touched l.touched.entries u l.x ≡ true;
  kept : KeepsTouched l.fn.touched.entries l.touched.entries;
}
