use Rattle.std.proofs.Common.{rules, ◌≡◌, ◌<◌, ◌+◌, sym, subst, length, slice_index_or, take}
use Rattle.arj_standing.proofs.Filters.{take_next}
use Rattle.arj_clean.specs.Standing.{StandsBehind}
use Rattle.arj_clean.proofs.standing.Standing.behind.Goals as goal

pub loop-line-preserved : goal.loop-line-preserved
loop-line-preserved c =
    let lines = c.args.lines.now in
    let i = c.loop-line.line-index in
    let line = c.line-item.result in
    let lt : i < length lines = c.loop-line-test.true in
    let is : line ≡ slice_index_or lines i line = c.line-item.is in
    let few : length (take i lines) + 1 < 18446744073709551616 = search rules in
    subst (λ ls. StandsBehind ls c.take.new.self) (sym (take_next lines i line lt is)) (c.in_ok-take.ensures (take i lines) c.loop-line.invariant few)
