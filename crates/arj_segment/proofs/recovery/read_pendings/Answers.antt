use Rattle.std.proofs.Common.{◌∙◌, ◌<◌, [], arith, length, get_or, refl, sym, subst}
use Rattle.std.specs.Prelude.{Contains}
use Rattle.std.specs.List.Sorted.{IsStrictlySortedBy}
use Rattle.arj_base.specs.Order.{uid_order}
use Rattle.arj_base.specs.Uid.{nobody}
use Rattle.arj_base.specs.declared.uid.Uid.{Uid}
use Rattle.arj_disk.specs.declared.slot.Slot.TheVariants.{Pending}
use Rattle.arj_store.proofs.Counting.{counts_on}
use Rattle.arj_store.specs.Table.{at}
use Rattle.arj_segment.specs.Formed.{IsFormed}
use Rattle.arj_segment.specs.Says.{pend}
use Rattle.arj_segment.specs.Tables.{ReadsPending}
use Rattle.arj_segment.proofs.Pended.{HasRead, file_there, read_keeps, read_lists, read_next, read_none}
use Rattle.arj_segment.proofs.recovery.read_pendings.Goals as goal

pub acts_in-requires : goal.acts_in-requires
acts_in-requires g c = c.requires.lists.increasing

pub loop-act-init : goal.loop-act-init
loop-act-init g c = record {
  read = subst (λ ps. HasRead [] (pend (g.D.Disk.file c.args.disk.now) c.args.role) ps (at c.args.kept.now.actions) (at c.args.kept.now.holdings)) (sym c.new-pends.ensures)
      (read_none (pend (g.D.Disk.file c.args.disk.now) c.args.role) (at c.args.kept.now.actions) (at c.args.kept.now.holdings) c.requires.actions c.requires.holdings);
  files = refl;
  counts = record { stops = refl; arms = refl; last_arm = refl };
}

pub read_pending-requires : goal.read_pending-requires
read_pending-requires g c = subst (λ file. IsFormed file c.args.role) (sym c.loop-act.invariant.files) c.requires.formed

pub loop-act-preserved : goal.loop-act-preserved
loop-act-preserved g c =
    let within : c.loop-act.act-index < length c.as_slice-act-items.result.now = omega arith in
    let act : Uid = get_or c.as_slice-act-items.result.now c.loop-act.act-index nobody in
    record {
      read = read_next c.as_slice-act-items.result.now c.loop-act.act-index nobody (pend (g.D.Disk.file c.args.disk.now) c.args.role) c.loop-act.pends c.read_pending.new.pends
          (at c.loop-act.kept.actions) (at c.read_pending.new.kept.actions) (at c.loop-act.kept.holdings) (at c.read_pending.new.kept.holdings)
          (subst (IsStrictlySortedBy uid_order) (sym c.as_slice-act-items.ensures) c.in_ok-acts.ensures.rises) within c.loop-act.invariant.read
          (subst (λ file. ReadsPending (pend file c.args.role act) act c.loop-act.pends (at c.loop-act.kept.actions) (at c.loop-act.kept.holdings) c.read_pending.new.pends (at c.read_pending.new.kept.actions) (at c.read_pending.new.kept.holdings))
          c.loop-act.invariant.files c.in_ok-read_pending.ensures.ok);
      files = c.read_pending.ensures.files ∙ c.loop-act.invariant.files;
      counts = counts_on c.in_ok-read_pending.ensures.counts c.loop-act.invariant.counts;
    }

pub returns-clause-keeps : goal.returns-clause-keeps
returns-clause-keeps g c =
    read_keeps c.as_slice-act-items.result.now c.loop-act.act-index c.loop-act-test.false (pend (g.D.Disk.file c.args.disk.now) c.args.role)
    (λ a some. subst (λ us. Contains us a) (sym c.as_slice-act-items.ensures) (c.in_ok-acts.ensures.there a ((c.requires.lists.there (Pending c.args.role a)).0 (file_there (g.D.Disk.file c.args.disk.now) c.args.role a some))))
    c.loop-act.pends (at c.loop-act.kept.actions) (at c.loop-act.kept.holdings) c.loop-act.invariant.read

pub returns-clause-pends : goal.returns-clause-pends
returns-clause-pends g c =
    read_lists c.as_slice-act-items.result.now c.loop-act.act-index c.loop-act-test.false (pend (g.D.Disk.file c.args.disk.now) c.args.role)
    (λ a some. subst (λ us. Contains us a) (sym c.as_slice-act-items.ensures) (c.in_ok-acts.ensures.there a ((c.requires.lists.there (Pending c.args.role a)).0 (file_there (g.D.Disk.file c.args.disk.now) c.args.role a some))))
    c.loop-act.pends (at c.loop-act.kept.actions) (at c.loop-act.kept.holdings) c.loop-act.invariant.read
