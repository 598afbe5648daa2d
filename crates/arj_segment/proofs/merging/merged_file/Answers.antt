use Rattle.std.proofs.Common.{◌≤◌, ◌∙◌, ap, length, sym, subst}
use Rattle.std.specs.List.{AllByRecursion}
use Rattle.arj_base.specs.State.{state_bytes}
use Rattle.arj_base.specs.declared.limits.TheConstants.{MOST_BYTES}
use Rattle.arj_disk.specs.declared.limits.TheConstants.{MOST_KNOWN}
use Rattle.arj_segment_file.specs.Format.{FitsRow, segment_bytes}
use Rattle.arj_store.specs.Table.{at}
use Rattle.arj_segment.proofs.Merged.{is_merged, merged_count, merged_sizes}
use Rattle.arj_segment.proofs.merging.merged_file.Goals as goal

pub file_of-requires-clause-count : goal.file_of-requires-clause-count
file_of-requires-clause-count g c = subst (λ vs. length vs ≤ MOST_KNOWN) (sym c.as_slice.ensures)
    (merged_count c.args.role (g.D.Disk.file c.args.disk.now) c.requires.formed (at c.in_ok-gathered.gathered.states) c.in_ok-gathered.ensures.states c.in_ok-states.states c.in_ok-states.ensures)

pub file_of-requires-clause-sizes : goal.file_of-requires-clause-sizes
file_of-requires-clause-sizes g c = subst (AllByRecursion (λ s. length (state_bytes s) ≤ MOST_BYTES)) (sym c.as_slice.ensures)
    (merged_sizes c.args.role (g.D.Disk.file c.args.disk.now) c.requires.formed (at c.in_ok-gathered.gathered.states) c.in_ok-gathered.ensures.states c.in_ok-states.states c.in_ok-states.ensures)

pub returns-clause-merged : goal.returns-clause-merged
returns-clause-merged g c =
    is_merged c.args.role (g.D.Disk.file c.args.disk.now) c.requires.formed (at c.in_ok-gathered.gathered.states) c.in_ok-gathered.ensures.states c.in_ok-states.states c.in_ok-states.ensures
    c.args.numbers.now c.in_ok-number.number c.in_ok-number.ensures.below c.in_ok-number.ensures.low c.in_ok-number.ensures.above (subst (AllByRecursion FitsRow) c.as_slice.ensures c.in_ok-file.ensures.fit) c.in_ok-file.file (c.in_ok-file.ensures.bytes ∙ ap segment_bytes c.as_slice.ensures)
