use Rattle.std.proofs.lemmas.Result.{on_ok_weaker}
use Rattle.arj_parts.proofs.Labels.{same_act}
use Rattle.arj_parts.proofs.acts.coordinate.Goals as goal

pub returns-in-Begin : goal.returns-in-Begin
returns-in-Begin c =
    on_ok_weaker c.begin_named.result (λ is. same_act c.args.records.now c.args.coord.now c.begin_named.new.coord c.args.outs.now c.begin_named.new.outs c.args.act _ c.in-Begin.is (is c.args.records.now)) c.begin_named.ensures

pub returns-in-Call : goal.returns-in-Call
returns-in-Call c =
    on_ok_weaker c.call_named.result (λ is. same_act c.args.records.now c.args.coord.now c.call_named.new.coord c.args.outs.now c.call_named.new.outs c.args.act _ c.in-Call.is (is c.args.records.now)) c.call_named.ensures

pub returns-in-Include : goal.returns-in-Include
returns-in-Include c =
    on_ok_weaker c.include_named.result (λ is. same_act c.args.records.now c.args.coord.now c.include_named.new.coord c.args.outs.now c.include_named.new.outs c.args.act _ c.in-Include.is (is c.args.records.now)) c.include_named.ensures

pub returns-in-Commit : goal.returns-in-Commit
returns-in-Commit c =
    on_ok_weaker c.commit_named.result (λ is. same_act c.args.records.now c.args.coord.now c.commit_named.new.coord c.args.outs.now c.commit_named.new.outs c.args.act _ c.in-Commit.is is) c.commit_named.ensures

pub returns-in-Abort : goal.returns-in-Abort
returns-in-Abort c =
    on_ok_weaker c.abort_named.result (λ is. same_act c.args.records.now c.args.coord.now c.abort_named.new.coord c.args.outs.now c.abort_named.new.outs c.args.act _ c.in-Abort.is is) c.abort_named.ensures

pub returns-in-GiveUp : goal.returns-in-GiveUp
returns-in-GiveUp c =
    on_ok_weaker c.give_up_named.result (λ is. same_act c.args.records.now c.args.coord.now c.give_up_named.new.coord c.args.outs.now c.give_up_named.new.outs c.args.act _ c.in-GiveUp.is is) c.give_up_named.ensures
