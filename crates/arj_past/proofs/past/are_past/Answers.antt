use Rattle.std.proofs.Common.{◌∙◌, ◌==◌, ap}
use Rattle.std.specs.Prelude.{find, is_some}
use Rattle.arj_clean.proofs.Held.{has_line, line_among}
use Rattle.arj_clean.proofs.Taken.{all_of_taken, all_taken}
use Rattle.arj_past.specs.Past.{HoldItsPast}
use Rattle.arj_saved.specs.Saved.{disks_of}
use Rattle.arj_past.proofs.past.are_past.Goals as goal

pub loop-object-preserved : goal.loop-object-preserved
loop-object-preserved c = λ files saved.
    let header = c.args.saved.now.header.now in
    let lines = c.args.saved.now.lines.now in
    let line = has_line header c.as_slice-object-items.result.now c.loop-object.object-index c.object-item.result c.as_slice-object-items.ensures c.loop-object-test.true c.object-item.is in
    let past : HoldItsPast header lines (disks_of files) c.object-item.result.x = rw c.if-not-past.false at (c.in_ok-past.ensures files line.0 saved line.1) in
    all_taken (λ o. HoldItsPast header lines (disks_of files) o.x) c.as_slice-object-items.result.now c.loop-object.object-index c.object-item.result c.loop-object-test.true c.object-item.is
    (c.loop-object.invariant files saved) past

pub returns-then-not-past : goal.returns-then-not-past
returns-then-not-past c = λ files saved each.
    let header = c.args.saved.now.header.now in
    let lines = c.args.saved.now.lines.now in
    let line = has_line header c.as_slice-object-items.result.now c.loop-object.object-index c.object-item.result c.as_slice-object-items.ensures c.loop-object-test.true c.object-item.is in
    let isnt : HoldItsPast header lines (disks_of files) c.object-item.result.x → ⊥ = rw c.if-not-past.true at (c.in_ok-past.ensures files line.0 saved line.1) in
    isnt (each c.object-item.result.x (ap is_some line.1))

pub returns : goal.returns
returns c = λ files saved x there.
    let header = c.args.saved.now.header.now in
    let lines = c.args.saved.now.lines.now in
    line_among x c.as_slice-object-items.result.now (HoldItsPast header lines (disks_of files))
    (all_of_taken (λ o. HoldItsPast header lines (disks_of files) o.x) c.as_slice-object-items.result.now c.loop-object.object-index c.loop-object-test.false
    (c.loop-object.invariant files saved)) (ap (λ ps. is_some (find (λ q. q.x == x) ps)) c.as_slice-object-items.ensures ∙ there)
