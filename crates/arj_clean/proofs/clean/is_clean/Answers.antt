use Rattle.arj_clean.proofs.Held.{all_clean, has_line, not_clean}
use Rattle.arj_clean.proofs.Taken.{all_of_taken, all_taken}
use Rattle.arj_clean.specs.Clean.{IsObjectClean}
use Rattle.arj_saved.specs.Saved.{disks_of}
use Rattle.arj_clean.proofs.clean.is_clean.Goals as goal

pub loop-object-preserved : goal.loop-object-preserved
loop-object-preserved c = λ files saved.
    let header = c.args.saved.now.header.now in
    let lines = c.args.saved.now.lines.now in
    let line = has_line header c.as_slice-object-items.result.now c.loop-object.object-index c.object-item.result c.as_slice-object-items.ensures c.loop-object-test.true c.object-item.is in
    let clean : IsObjectClean header lines (disks_of files) c.object-item.result.x = rw c.if-not-clean.false at (c.in_ok-clean.ensures files line.0 saved line.1) in
    all_taken (λ o. IsObjectClean header lines (disks_of files) o.x) c.as_slice-object-items.result.now c.loop-object.object-index c.object-item.result c.loop-object-test.true c.object-item.is
    (c.loop-object.invariant files saved) clean

pub returns-then-not-clean : goal.returns-then-not-clean
returns-then-not-clean c = λ files saved.
    let header = c.args.saved.now.header.now in
    let lines = c.args.saved.now.lines.now in
    let line = has_line header c.as_slice-object-items.result.now c.loop-object.object-index c.object-item.result c.as_slice-object-items.ensures c.loop-object-test.true c.object-item.is in
    let isnt : IsObjectClean header lines (disks_of files) c.object-item.result.x → ⊥ = rw c.if-not-clean.true at (c.in_ok-clean.ensures files line.0 saved line.1) in
    not_clean header lines (disks_of files) c.object-item.result line.0 line.1 isnt

pub returns : goal.returns
returns c = λ files saved.
    let header = c.args.saved.now.header.now in
    let lines = c.args.saved.now.lines.now in
    all_clean header lines (disks_of files) c.as_slice-object-items.result.now c.as_slice-object-items.ensures
    (all_of_taken (λ o. IsObjectClean header lines (disks_of files) o.x) c.as_slice-object-items.result.now c.loop-object.object-index c.loop-object-test.false
    (c.loop-object.invariant files saved))
