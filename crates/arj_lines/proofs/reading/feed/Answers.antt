-- what was taken, and the line that it ended
use Rattle.std.proofs.Common.{arith, length, subst, take}
use Rattle.std.proofs.lemmas.List.{length-take-le}
use Rattle.arj_script.specs.Cutting.{IsTaken, Takes}
use Rattle.arj_lines.proofs.Goings.{ended_line, ended_long, going_line, going_on, less_line, less_on}
use Rattle.arj_lines.proofs.reading.feed.Goals as goal

pub returns-in-No-clause-went : goal.returns-in-No-clause-went
returns-in-No-clause-went g c used going =
    let bytes = take c.feed-fed.result.used c.args.bytes.now in
    going_on g.T.Taker used bytes c.args.cutter.now c.feed-fed.new.self c.args.taker.now (subst (λ f. Takes c.args.cutter.now.most c.args.cutter.now.line bytes f c.feed-fed.new.self.line) c.in-No.is c.feed-fed.ensures.feeds.takes) c.feed-fed.ensures.kept going

pub returns-in-No-clause-less : goal.returns-in-No-clause-less
returns-in-No-clause-less g c =
    let r = c.requires.going in
    let bytes = take c.feed-fed.result.used c.args.bytes.now in
    let all = subst (λ f. IsTaken f c.feed-fed.result.used (length c.args.bytes.now)) c.in-No.is c.feed-fed.ensures.feeds.taken in
    less_on g.T.Taker r.0 bytes c.args.cutter.now c.feed-fed.new.self c.args.taker.now (subst (λ f. Takes c.args.cutter.now.most c.args.cutter.now.line bytes f c.feed-fed.new.self.line) c.in-No.is c.feed-fed.ensures.feeds.takes)
    (omega (arith, all, c.requires.some, length-take-le c.feed-fed.result.used c.args.bytes.now c.feed-fed.ensures.within)) r.1

pub returns-in-Long-clause-ended : goal.returns-in-Long-clause-ended
returns-in-Long-clause-ended g c used going few =
    let bytes = take c.feed-fed.result.used c.args.bytes.now in
    let some = subst (λ f. IsTaken f c.feed-fed.result.used (length c.args.bytes.now)) c.in-Long.is c.feed-fed.ensures.feeds.taken in
    ended_long g.T.Taker used c.args.bytes.now c.feed-fed.new.self.line c.feed-fed.result.used c.args.cutter.now c.args.taker.now (subst (λ f. Takes c.args.cutter.now.most c.args.cutter.now.line bytes f c.feed-fed.new.self.line) c.in-Long.is c.feed-fed.ensures.feeds.takes) some c.feed-fed.ensures.within few going

pub returns-in-Ok-clause-went : goal.returns-in-Ok-clause-went
returns-in-Ok-clause-went g c used going =
    let bytes = take c.feed-fed.result.used c.args.bytes.now in
    let ready = c.in-Ok.ensures.ready in
    going_line g.T.Taker used bytes c.feed-fed.new.self.line c.args.cutter.now c.take_line.new.cutter c.args.taker.now c.take_line.new.taker (subst (λ f. Takes c.args.cutter.now.most c.args.cutter.now.line bytes f c.feed-fed.new.self.line) c.in-Line.is c.feed-fed.ensures.feeds.takes) going
    (c.in-Ok.ensures.took _ going.stands) ready.0 ready.1

pub returns-in-Ok-clause-less : goal.returns-in-Ok-clause-less
returns-in-Ok-clause-less g c =
    let r = c.requires.going in
    less_line g.T.Taker r.0 c.args.cutter.now c.take_line.new.cutter c.args.taker.now c.take_line.new.taker r.1 c.in-Ok.ensures.less (let ready = c.in-Ok.ensures.ready in ready.0)

pub returns-in-Err-clause-ended : goal.returns-in-Err-clause-ended
returns-in-Err-clause-ended g c used going few =
    let bytes = take c.feed-fed.result.used c.args.bytes.now in
    let some = subst (λ f. IsTaken f c.feed-fed.result.used (length c.args.bytes.now)) c.in-Line.is c.feed-fed.ensures.feeds.taken in
    ended_line g.T.Taker used c.args.bytes.now c.feed-fed.new.self.line c.feed-fed.result.used c.args.cutter.now c.args.taker.now c.take_line.new.taker c.in-Err.ending (subst (λ f. Takes c.args.cutter.now.most c.args.cutter.now.line bytes f c.feed-fed.new.self.line) c.in-Line.is c.feed-fed.ensures.feeds.takes) some c.feed-fed.ensures.within few going
    (c.in-Err.ensures.stopped _ going.stands)
