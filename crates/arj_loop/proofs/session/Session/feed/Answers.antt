-- what was taken, and the line that it ended
use Rattle.std.proofs.Common.{◌∙◌, [], ap, length, take, subst}
use Rattle.arj_script.specs.Cutting.{IsTaken, Takes, in_hand}
use Rattle.arj_script.specs.Input.{AtRunEnd, ended_lines}
use Rattle.arj_loop.specs.Input.{arrived}
use Rattle.arj_loop.specs.Running.{work}
use Rattle.arj_loop.proofs.Sessions.{at_line, ended_long, going_behind, going_on}
use Rattle.arj_loop.proofs.session.Session.feed.Goals as goal

pub returns-in-No-clause-went : goal.returns-in-No-clause-went
returns-in-No-clause-went g c first before used going =
    let bytes = take c.feed-fed.result.used c.args.bytes.now in
    going_on g.M.Machine first before used bytes c.feed-fed.new.self (work c.args.rack.now c.args.self.now c.args.journal.now (g.K.Sink.taken c.args.sink.now)) (subst (λ f. Takes c.args.self.now.cutter.most c.args.self.now.cutter.line bytes f c.feed-fed.new.self.line) c.in-No.is c.feed-fed.ensures.feeds.takes) c.feed-fed.ensures.kept going

pub returns-in-Long-clause-ended : goal.returns-in-Long-clause-ended
returns-in-Long-clause-ended g c first before used earlier going few no_more =
    let bytes = take c.feed-fed.result.used c.args.bytes.now in
    ended_long g.M.Machine first before used c.args.bytes.now earlier c.feed-fed.new.self c.feed-fed.result.used (work c.args.rack.now c.args.self.now c.args.journal.now (g.K.Sink.taken c.args.sink.now)) (subst (λ f. Takes c.args.self.now.cutter.most c.args.self.now.cutter.line bytes f c.feed-fed.new.self.line) c.in-Long.is c.feed-fed.ensures.feeds.takes) going
    (subst (λ f. IsTaken f c.feed-fed.result.used (length c.args.bytes.now)) c.in-Long.is c.feed-fed.ensures.feeds.taken) c.feed-fed.ensures.within few no_more

pub returns-in-Ok-clause-went : goal.returns-in-Ok-clause-went
returns-in-Ok-clause-went g c first before used going =
    let bytes = take c.feed-fed.result.used c.args.bytes.now in
    going_behind g.M.Machine first before used bytes c.feed-fed.new.self.line (work c.args.rack.now c.args.self.now c.args.journal.now (g.K.Sink.taken c.args.sink.now)) _ (subst (λ f. Takes c.args.self.now.cutter.most c.args.self.now.cutter.line bytes f c.feed-fed.new.self.line) c.in-Line.is c.feed-fed.ensures.feeds.takes) going (c.clear.ensures ∙ ap (λ h. in_hand h.most []) c.in-Ok.ensures.kept ∙ ap (λ m. in_hand m []) c.feed-fed.ensures.kept) c.in-Ok.ensures.going
    (c.in-Ok.ensures.went first (ended_lines used) going.stage) (c.in-Ok.ensures.gathers before going.gathers)

pub returns-in-Err-clause-ended : goal.returns-in-Err-clause-ended
returns-in-Err-clause-ended g c first before used earlier going few no_more =
    let bytes = take c.feed-fed.result.used c.args.bytes.now in
    c.in-Err.ensures.ended first before (arrived _ earlier AtRunEnd) (ended_lines used)
    (at_line g.M.Machine first before used c.args.bytes.now earlier c.feed-fed.new.self c.feed-fed.result.used (work c.args.rack.now c.args.self.now c.args.journal.now (g.K.Sink.taken c.args.sink.now)) (subst (λ f. Takes c.args.self.now.cutter.most c.args.self.now.cutter.line bytes f c.feed-fed.new.self.line) c.in-Line.is c.feed-fed.ensures.feeds.takes) going
    (subst (λ f. IsTaken f c.feed-fed.result.used (length c.args.bytes.now)) c.in-Line.is c.feed-fed.ensures.feeds.taken) c.feed-fed.ensures.within few no_more)
