-- what ended the feed
use Rattle.std.proofs.Common.{◌∙◌, ap, arith, length, take}
use Rattle.std.proofs.lemmas.Bool.{ne_eqb}
use Rattle.arj_script.proofs.Cutting.{feeds_line, feeds_long, feeds_all}
use Rattle.arj_script.proofs.cutter.fill.Goals as goal

pub returns-then-byte-eq10-clause-feeds : goal.returns-then-byte-eq10-clause-feeds
returns-then-byte-eq10-clause-feeds c =
    let i = c.loop-at.invariant in
    feeds_line (length c.args.room.now.items) (take c.args.filled c.args.room.now.items) c.args.piece.now c.loop-at.room.items c.loop-at.at c.loop-at.count _ c.ended.result c.ended.ensures i.is i.size i.short c.loop-at-test.true c.if-byte-eq10.true i.none

pub returns-then-count-most-clause-feeds : goal.returns-then-count-most-clause-feeds
returns-then-count-most-clause-feeds c =
    let i = c.loop-at.invariant in
    feeds_long (length c.args.room.now.items) (take c.args.filled c.args.room.now.items) c.args.piece.now c.loop-at.room.items c.loop-at.at c.loop-at.count _ c.ended-then-count-most.result c.ended-then-count-most.ensures i.is i.size (c.if-count-most.true ∙ ap length c.as_slice-most.ensures.value) c.loop-at-test.true (ne_eqb _ 10 c.if-byte-eq10.false) i.none

pub returns-clause-feeds : goal.returns-clause-feeds
returns-clause-feeds c =
    let i = c.loop-at.invariant in
    feeds_all (length c.args.room.now.items) (take c.args.filled c.args.room.now.items) c.args.piece.now c.loop-at.room.items c.loop-at.at c.loop-at.count i.is i.size i.short (omega (arith, c.loop-at-test.false, c.loop-at.auto.at-end)) i.none
