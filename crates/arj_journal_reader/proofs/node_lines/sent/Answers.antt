-- The sender fits the kind of the frame, or there is no such line.
use Rattle.std.proofs.Common.{refl}
use Rattle.arj_journal_reader.proofs.KindReading.{wrong_sender}
use Rattle.arj_journal_reader.proofs.node_lines.sent.Goals as goal

pub returns-then-not-is_sender : goal.returns-then-not-is_sender
returns-then-not-is_sender c =
    wrong_sender c.args.fields.now c.in_ok-frame.frame c.in_ok-frame.from c.in_ok-frame.to c.in_ok-frame.kind c.in_ok-frame.ensures c.if-not-is_sender.ensures

pub returns : goal.returns
returns c =
    ((c.in_ok-frame.frame, (c.in_ok-frame.from, (c.in_ok-frame.to, c.in_ok-frame.kind))), (c.in_ok-frame.ensures.0, c.if-not-is_sender.ensures), c.in_ok-frame.ensures.1, refl)
