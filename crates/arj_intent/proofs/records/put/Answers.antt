use Rattle.std.proofs.Common.{◌≡◌, ◌∙◌, sym, subst, Some}
use Rattle.std.proofs.lemmas.Result.{on_ok_weaker}
use Rattle.arj_disk.specs.Disk.{Puts, PutsOrNot}
use Rattle.arj_disk.specs.Formed.{IsIntentOf}
use Rattle.arj_disk.specs.declared.slot.Slot.TheVariants as slot
use Rattle.arj_intent.proofs.Done.{has_put, cut_put}
use Rattle.arj_intent.proofs.Stays.{put_stays}
use Rattle.arj_intent.proofs.records.put.Goals as goal

pub returns-clause-work : goal.returns-clause-work
returns-clause-work g c = on_ok_weaker c.put.result
    (λ (puts : Puts (g.D.Disk.file c.args.disk.now) (g.D.Disk.file c.put.new.disk) (slot.Intent c.args.i.now.top) c.as_slice.result.now).
    has_put (g.D.Disk.file c.args.disk.now) (g.D.Disk.file c.put.new.disk) c.args.i.now.root c.args.i.now.top c.args.i.now.nodes c.in_ok-bytes.ensures.fits puts.others
    (subst (λ bytes. g.D.Disk.file c.put.new.disk (slot.Intent c.args.i.now.top) ≡ Some bytes) (c.as_slice.ensures ∙ c.in_ok-bytes.ensures.bytes) puts.here)) c.put.ensures.ok

pub returns-clause-stopped : goal.returns-clause-stopped
returns-clause-stopped g c =
    λ _. cut_put (g.D.Disk.file c.args.disk.now) (g.D.Disk.file c.put.new.disk) c.args.i.now.root c.args.i.now.top c.args.i.now.nodes c.in_ok-bytes.ensures.fits
    (subst (PutsOrNot (g.D.Disk.file c.args.disk.now) (g.D.Disk.file c.put.new.disk) (slot.Intent c.args.i.now.top)) (c.as_slice.ensures ∙ c.in_ok-bytes.ensures.bytes) c.put.ensures.files)

pub returns-clause-form : goal.returns-clause-form
returns-clause-form g c = (put_stays (g.D.Disk.file c.args.disk.now) (g.D.Disk.file c.put.new.disk) c.args.i.now.top c.as_slice.result.now
    (subst (IsIntentOf c.args.i.now.top) (sym c.as_slice.ensures) c.in_ok-bytes.ensures.form) c.put.ensures.files).form

pub returns-clause-roles : goal.returns-clause-roles
returns-clause-roles g c = (put_stays (g.D.Disk.file c.args.disk.now) (g.D.Disk.file c.put.new.disk) c.args.i.now.top c.as_slice.result.now
    (subst (IsIntentOf c.args.i.now.top) (sym c.as_slice.ensures) c.in_ok-bytes.ensures.form) c.put.ensures.files).roles
