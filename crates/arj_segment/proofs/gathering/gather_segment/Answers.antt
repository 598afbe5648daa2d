use Rattle.std.proofs.Common.{◌≡◌, ◌<◌, ◌∙◌, arith, ap, map, sym, subst, Some}
use Rattle.std.specs.Prelude.{IfSome}
use Rattle.arj_disk.specs.declared.slot.Slot.TheVariants.{Segment}
use Rattle.arj_segment_file.specs.Format.{IsSegment, states_in}
use Rattle.arj_store.specs.Pair.{uid_of}
use Rattle.arj_store.specs.Table.{at}
use Rattle.arj_segment.specs.Says.{numbers}
use Rattle.arj_segment.specs.Tables.{Gathers, SetsEach}
use Rattle.arj_segment.proofs.States.{gathers_file}
use Rattle.arj_segment.proofs.gathering.gather_segment.Goals as goal

pub returns-clause-ok : goal.returns-clause-ok
returns-clause-ok g c =
    let within : c.args.number < numbers = omega arith in
    let there : g.D.Disk.file c.args.disk.now (Segment c.args.role c.args.number) ≡ Some c.in-Some.bytes =
    sym c.in_ok-bytes.ensures.bytes ∙ c.in-Some.is in
    let is : IsSegment c.args.role c.in-Some.bytes =
    subst (λ o. IfSome o (IsSegment c.args.role)) there (c.requires.segments c.args.number within) in
    subst (λ o. Gathers o c.args.number (at c.args.gathered.now.places) (at c.args.gathered.now.states) (at c.set_each.new.table) (at c.keep_states.new.table)) (sym there)
    (gathers_file c.args.role c.in-Some.bytes is c.in_ok-states.states (c.in_ok-states.ensures.states ∙ ap states_in c.as_slice.ensures) c.args.number (at c.args.gathered.now.places) (at c.set_each.new.table) (at c.args.gathered.now.states) (at c.keep_states.new.table)
    c.in_ok-states.ensures.in_form
    (subst (λ us. SetsEach us (Some c.args.number) (at c.args.gathered.now.places) (at c.set_each.new.table)) (c.as_slice-3.ensures ∙ c.in_ok-objects.ensures ∙ ap (map uid_of) c.as_slice-2.ensures) c.in_ok-set_each.ensures)
    c.in_ok-keep_states.ensures)
