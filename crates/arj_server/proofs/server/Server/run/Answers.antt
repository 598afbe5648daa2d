use Rattle.std.proofs.Common.{◌≡◌, subst}
use Rattle.std.specs.Prelude.{OnOk, IfOk, Some, ◌++◌}
use Rattle.arj_protocol.specs.Server.{Server}
use Rattle.arj_server.specs.Calls.{ran}
use Rattle.arj_server.specs.Lines.{said}
use Rattle.arj_server.specs.contracts.server.Server.{the_view}
use Rattle.arj_server.proofs.Classes.{invoked_way}
use Rattle.arj_server.proofs.Runs.{run_part, run_lines, run_reply}
use Rattle.arj_server.proofs.server.Server.run.Goals as goal

pub invariant_of-self : goal.invariant_of-self
invariant_of-self c =
    invoked_way c.invoke-done.result c.args.m.now.head.path c.args.m.now.x c.args.m.now.op c.invoke-done.new.self c.self.inside.manager c.operations_keep.ensures.class c.invoke-done.ensures.copies c.invoke-done.ensures.kept c.self.invariant

pub returns-clause-part : goal.returns-clause-part
returns-clause-part c =
    subst (λ (s : Server). OnOk c.answer.result (the_view (record c.self.inside {
      manager =
          c.invoke-done.new.self;
    }) ≡ (ran c.args.node c.args.m.now s).part)) c.self.view_is
    (run_part c.args.node c.args.m.now (the_view c.self.inside) c.invoke-done.new.self c.invoke-done.result c.answer.result c.self.invariant.1 c.invoke-done.ensures.copies c.invoke-done.ensures.named c.invoke-done.ensures.kept c.answer.ensures.reply)

pub returns-clause-lines : goal.returns-clause-lines
returns-clause-lines c =
    subst (λ (s : Server). OnOk c.answer.result (c.answer.new.out ≡ c.args.out.now ++ said (ran c.args.node c.args.m.now s).outs)) c.self.view_is
    (run_lines c.args.node c.args.m.now (the_view c.self.inside) c.invoke-done.result c.answer.result c.args.out.now c.answer.new.out c.self.invariant.1 c.invoke-done.ensures.lines c.invoke-done.ensures.absent c.invoke-done.ensures.named c.answer.ensures.reply c.answer.ensures.lines)

pub returns-clause-reply : goal.returns-clause-reply
returns-clause-reply c =
    subst (λ (s : Server). IfOk c.answer.result (λ a. (ran c.args.node c.args.m.now s).reply ≡ Some a)) c.self.view_is
    (run_reply c.args.node c.args.m.now (the_view c.self.inside) c.invoke-done.result c.answer.result c.invoke-done.ensures.reply c.invoke-done.ensures.absent c.invoke-done.ensures.named c.answer.ensures.reply)
