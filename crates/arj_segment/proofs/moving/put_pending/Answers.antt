use Rattle.std.proofs.Common.{◌≤◌, ◌∙◌, arith, length, refl, sym, subst}
use Rattle.arj_disk.specs.declared.limits.TheConstants.{MOST_KNOWN}
use Rattle.arj_segment_file.specs.Format.{IsSegment}
use Rattle.arj_store.proofs.Ends.{on_err}
use Rattle.arj_store.specs.Table.{at}
use Rattle.arj_segment.specs.Says.{segments}
use Rattle.arj_segment.specs.Tables.{KeepsPlaces}
use Rattle.arj_segment.proofs.Begun.{pending_adds, pending_end, pending_fault, pending_pend, pending_places, segment_is}
use Rattle.arj_segment.proofs.Puts.{put_others}
use Rattle.arj_segment.proofs.moving.put_pending.Goals as goal

pub returns-in_err-put-clause-fault : goal.returns-in_err-put-clause-fault
returns-in_err-put-clause-fault g c =
    let count : length c.args.states.now ≤ MOST_KNOWN = omega arith in
    let is : IsSegment c.args.role c.as_slice.result.now =
    segment_is c.args.role c.args.states.now c.in_ok-file.ensures.fit count c.requires.states c.as_slice.result.now (c.as_slice.ensures ∙ c.in_ok-file.ensures.bytes) in
    on_err _ (pending_fault c.args.role c.args.act c.args.states.now (g.D.Disk.file c.args.disk.now) c.requires.formed c.requires.first c.requires.free c.requires.few c.as_slice.result.now is refl (g.D.Disk.file c.put.new.disk) c.put.ensures.files)

pub returns-in_err-put-clause-formed : goal.returns-in_err-put-clause-formed
returns-in_err-put-clause-formed g c =
    let count : length c.args.states.now ≤ MOST_KNOWN = omega arith in
    let is : IsSegment c.args.role c.as_slice.result.now =
    segment_is c.args.role c.args.states.now c.in_ok-file.ensures.fit count c.requires.states c.as_slice.result.now (c.as_slice.ensures ∙ c.in_ok-file.ensures.bytes) in
    pending_end c.args.role c.args.act c.args.states.now (g.D.Disk.file c.args.disk.now) c.requires.formed c.requires.first c.requires.free c.requires.few c.as_slice.result.now is refl (g.D.Disk.file c.put.new.disk) c.put.ensures.files

pub returns-in_err-put-clause-others : goal.returns-in_err-put-clause-others
returns-in_err-put-clause-others g c =
    put_others c.args.role c.args.act (g.D.Disk.file c.args.disk.now) (g.D.Disk.file c.put.new.disk) c.put.ensures.files.others

pub returns-in_err-add-clause-fault : goal.returns-in_err-add-clause-fault
returns-in_err-add-clause-fault g c =
    let count : length c.args.states.now ≤ MOST_KNOWN = omega arith in
    let is : IsSegment c.args.role c.as_slice.result.now =
    segment_is c.args.role c.args.states.now c.in_ok-file.ensures.fit count c.requires.states c.as_slice.result.now (c.as_slice.ensures ∙ c.in_ok-file.ensures.bytes) in
    on_err _ (pending_fault c.args.role c.args.act c.args.states.now (g.D.Disk.file c.args.disk.now) c.requires.formed c.requires.first c.requires.free c.requires.few c.as_slice.result.now is refl (g.D.Disk.file c.put.new.disk) c.put.ensures.files)

pub returns-in_err-add-clause-formed : goal.returns-in_err-add-clause-formed
returns-in_err-add-clause-formed g c =
    let count : length c.args.states.now ≤ MOST_KNOWN = omega arith in
    let is : IsSegment c.args.role c.as_slice.result.now =
    segment_is c.args.role c.args.states.now c.in_ok-file.ensures.fit count c.requires.states c.as_slice.result.now (c.as_slice.ensures ∙ c.in_ok-file.ensures.bytes) in
    pending_end c.args.role c.args.act c.args.states.now (g.D.Disk.file c.args.disk.now) c.requires.formed c.requires.first c.requires.free c.requires.few c.as_slice.result.now is refl (g.D.Disk.file c.put.new.disk) c.put.ensures.files

pub returns-in_err-add-clause-others : goal.returns-in_err-add-clause-others
returns-in_err-add-clause-others g c =
    put_others c.args.role c.args.act (g.D.Disk.file c.args.disk.now) (g.D.Disk.file c.put.new.disk) c.put.ensures.files.others

pub returns-clause-added : goal.returns-clause-added
returns-clause-added g c =
    let count : length c.args.states.now ≤ MOST_KNOWN = omega arith in
    let is : IsSegment c.args.role c.as_slice.result.now =
    segment_is c.args.role c.args.states.now c.in_ok-file.ensures.fit count c.requires.states c.as_slice.result.now (c.as_slice.ensures ∙ c.in_ok-file.ensures.bytes) in
    pending_adds c.args.role c.args.act c.args.states.now (g.D.Disk.file c.args.disk.now) c.requires.formed c.requires.first c.requires.free c.requires.few c.as_slice.result.now is refl (g.D.Disk.file c.put.new.disk) c.in_ok-put.ensures.ok

pub returns-clause-keeps : goal.returns-clause-keeps
returns-clause-keeps g c =
    let count : length c.args.states.now ≤ MOST_KNOWN = omega arith in
    let is : IsSegment c.args.role c.as_slice.result.now =
    segment_is c.args.role c.args.states.now c.in_ok-file.ensures.fit count c.requires.states c.as_slice.result.now (c.as_slice.ensures ∙ c.in_ok-file.ensures.bytes) in
    record {
      pending = pending_pend c.args.role c.args.act c.args.states.now (g.D.Disk.file c.args.disk.now) c.requires.formed c.requires.first c.requires.free c.requires.few c.as_slice.result.now is refl (g.D.Disk.file c.put.new.disk) c.in_ok-put.ensures.ok c.in_ok-objects.objects c.in_ok-objects.ensures (at c.args.kept.now.actions) (at c.add.new.self.actions) (at c.args.kept.now.holdings) (at c.add.new.self.holdings)
          c.requires.keeps.pending c.in_ok-add.ensures.actions c.in_ok-add.ensures.holdings;
      committed = subst (λ ks. KeepsPlaces (segments (g.D.Disk.file c.put.new.disk) c.args.role) (at c.add.new.self.places) ks) (sym c.add.ensures.numbers)
          (subst (λ f. KeepsPlaces (segments (g.D.Disk.file c.put.new.disk) c.args.role) f c.args.kept.now.numbers) (λ i u. sym (c.add.ensures.places u) i)
          (pending_places c.args.role c.args.act c.args.states.now (g.D.Disk.file c.args.disk.now) c.requires.formed c.requires.first c.requires.free c.requires.few c.as_slice.result.now is refl (g.D.Disk.file c.put.new.disk) c.in_ok-put.ensures.ok (at c.args.kept.now.places) c.args.kept.now.numbers c.requires.keeps.committed));
    }

pub returns-clause-formed : goal.returns-clause-formed
returns-clause-formed g c =
    let count : length c.args.states.now ≤ MOST_KNOWN = omega arith in
    let is : IsSegment c.args.role c.as_slice.result.now =
    segment_is c.args.role c.args.states.now c.in_ok-file.ensures.fit count c.requires.states c.as_slice.result.now (c.as_slice.ensures ∙ c.in_ok-file.ensures.bytes) in
    pending_end c.args.role c.args.act c.args.states.now (g.D.Disk.file c.args.disk.now) c.requires.formed c.requires.first c.requires.free c.requires.few c.as_slice.result.now is refl (g.D.Disk.file c.put.new.disk) c.put.ensures.files

pub returns-clause-others : goal.returns-clause-others
returns-clause-others g c =
    put_others c.args.role c.args.act (g.D.Disk.file c.args.disk.now) (g.D.Disk.file c.put.new.disk) c.put.ensures.files.others
