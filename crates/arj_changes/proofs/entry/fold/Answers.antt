use Rattle.std.proofs.Common.{rules, ◌<◌, arith, length, subst, sym, take}
use Rattle.arj_changes.specs.Folded.{IsFolded, tops_ranked}
use Rattle.arj_changes.proofs.Folded.{count_tops_ranked, next_top, step_more, version_few}
use Rattle.arj_changes.proofs.entry.fold.Goals as goal

pub loop-one-preserved : goal.loop-one-preserved
loop-one-preserved c = λ lines begun has.
    let ranked = c.args.ranked.now in
    let i = c.loop-one.one-index in
    let x = c.args.x in
    let first = c.args.first.now in
    let lt : i < length ranked = search rules in
    let small : length ranked < 18446744073709551615 = search rules in
    let before = c.loop-one.invariant lines begun has in
    let low = version_few lines x first (tops_ranked (take i ranked)) c.loop-one.entry before in
    let count = count_tops_ranked ranked i in
    let stepped = c.in_ok-entry.ensures lines begun has (omega (arith, low, count, lt, small)) in
    subst (λ ts. IsFolded lines x first ts c.in_ok-entry.entry) (sym (next_top ranked i _ lt))
    (step_more lines x first (tops_ranked (take i ranked)) _ c.loop-one.entry c.in_ok-entry.entry before stepped)
