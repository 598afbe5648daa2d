use Rattle.std.proofs.Common.{◌≡◌, ◌∙◌, ap, map, sym, subst, Some}
use Rattle.std.specs.Prelude.{option_map}
use Rattle.arj_disk.specs.declared.slot.Slot.TheVariants.{Pending}
use Rattle.arj_segment_file.proofs.Read.{objects_packed}
use Rattle.arj_segment_file.specs.Format.{states_in}
use Rattle.arj_store.specs.Effects.{objects}
use Rattle.arj_store.specs.Pair.{packed, uid_of}
use Rattle.arj_store.specs.Table.{at, Sets}
use Rattle.arj_segment.specs.Tables.{ReadsPending, SetsEach}
use Rattle.arj_segment.proofs.recovery.read_pending.Goals as goal

pub returns-clause-ok : goal.returns-clause-ok
returns-clause-ok g c =
    let there : g.D.Disk.file c.args.disk.now (Pending c.args.role c.args.act) ≡ Some c.in-Some.bytes =
    sym c.in_ok-bytes.ensures.bytes ∙ c.in-Some.is in
    let same : packed c.in_ok-states.states ≡ states_in c.in-Some.bytes = c.in_ok-states.ensures.states ∙ ap states_in c.as_slice.ensures in
    let theirs : c.in_ok-objects.objects ≡ objects (states_in c.in-Some.bytes) =
    c.in_ok-objects.ensures ∙ ap (map uid_of) c.as_slice-2.ensures ∙ sym (objects_packed c.in_ok-states.states) ∙ ap objects same in
    subst (λ o. ReadsPending o c.args.act c.args.pends.now (at c.args.kept.now.actions) (at c.args.kept.now.holdings) c.push.new.self (at c.add.new.self.actions) (at c.add.new.self.holdings)) (sym (ap (option_map states_in) there)) (
      c.in_ok-states.states,
      same,
      c.in_ok-states.ensures.in_form,
      c.in_ok-push.ensures.ok,
      subst (λ us. Sets (at c.args.kept.now.actions) (at c.add.new.self.actions) c.args.act (Some us)) theirs c.in_ok-add.ensures.actions,
      subst (λ us. SetsEach us (Some c.args.act) (at c.args.kept.now.holdings) (at c.add.new.self.holdings)) theirs c.in_ok-add.ensures.holdings,
    )
