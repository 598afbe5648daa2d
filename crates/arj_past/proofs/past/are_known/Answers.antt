use Rattle.std.proofs.Common.{◌+◌, List, subst}
use Rattle.arj_disk.specs.declared.slot.Role.TheVariants.{Store}
use Rattle.arj_journal.specs.declared.header.ObjectLine.{ObjectLine}
use Rattle.arj_past.proofs.Nodes.{of_more, of_none, one_fails}
use Rattle.arj_past.specs.Past.{IsOfHeader}
use Rattle.arj_saved.specs.Saved.{disks_of}
use Rattle.arj_past.proofs.past.are_known.Goals as goal

pub loop-done-init : goal.loop-done-init
loop-done-init c = λ files saved. of_none (λ n. IsOfHeader c.args.saved.now.header.now.objects (disks_of files n) Store)

pub loop-done-preserved : goal.loop-done-preserved
loop-done-preserved c = λ files saved.
    let objects : List ObjectLine = c.args.saved.now.header.now.objects in
    let known : IsOfHeader objects (disks_of files (c.loop-done.done + 1)) Store =
    subst (λ os. IsOfHeader os (disks_of files (c.loop-done.done + 1)) Store) c.as_slice.ensures (rw c.if-not-known.false at (c.is_of_header-known.ensures files saved.segments)) in
    of_more (λ n. IsOfHeader objects (disks_of files n) Store) c.loop-done.done (c.loop-done.invariant files saved) known

pub returns-then-not-known : goal.returns-then-not-known
returns-then-not-known c = λ files saved.
    let objects : List ObjectLine = c.args.saved.now.header.now.objects in
    let stray : IsOfHeader objects (disks_of files (c.loop-done.done + 1)) Store → ⊥ =
    subst (λ os. IsOfHeader os (disks_of files (c.loop-done.done + 1)) Store → ⊥) c.as_slice.ensures (rw c.if-not-known.true at (c.is_of_header-known.ensures files saved.segments)) in
    one_fails (λ n. IsOfHeader objects (disks_of files n) Store) c.loop-done.done c.args.saved.now.header.now.nodes c.loop-done-test.true stray
