use Rattle.std.proofs.Common.{◌∙◌}
use Rattle.arj_intent.specs.Records.{shown}
use Rattle.arj_parts.proofs.Performed.{put_does}
use Rattle.arj_protocol.specs.Order.{put_uid}
use Rattle.arj_parts.proofs.performing.put_record.Goals as goal

pub returns-in_ok-put-in-Ok-clause-done : goal.returns-in_ok-put-in-Ok-clause-done
returns-in_ok-put-in-Ok-clause-done g c =
    put_does c.args.intent.now.top (shown c.args.intent.now) (g.D.Disk.file c.args.disk.now) (g.D.Disk.file c.put.new.disk) c.args.records.now c.put-in-Ok.new.self c.args.outs.now c.in-Ok.ensures.work
    (c.in_ok-put-in-Ok.ensures ∙ (λ i. put_uid c.args.intent.now.top (record {
      root = c.args.intent.now.root;
      nodes =
          c.in_ok-nodes.ensures i;
    }) c.args.records.now))

pub returns-in_ok-put-in-Ok-clause-form : goal.returns-in_ok-put-in-Ok-clause-form
returns-in_ok-put-in-Ok-clause-form g c = c.put.ensures.form c.requires.form

pub returns-in-Err-clause-form : goal.returns-in-Err-clause-form
returns-in-Err-clause-form g c = c.put.ensures.form c.requires.form
