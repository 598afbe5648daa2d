use Rattle.std.proofs.Common.{◌∙◌, ◌||◌, ap, refl}
use Rattle.std.specs.Prelude.{option_map}
use Rattle.arj_protocol.specs.Ask.{Reply, actor}
use Rattle.arj_protocol.specs.Order.{at_uid}
use Rattle.arj_protocol.specs.Server.{has_ended, is_below}
use Rattle.arj_protocol.specs.Words.message
use Rattle.arj_serve.proofs.Asked.{map_twice, server_asked}
use Rattle.arj_serve.proofs.Served.{void_where}
use Rattle.arj_server.specs.Calls as calls
use Rattle.arj_serve.proofs.services.Services.invoke.Goals as goal

pub returns : goal.returns
returns g c = λ file.
    let m = c.args.m.now in
    let s = c.self.inside.server in
    let n = c.self.inside.number in
    server_asked g.O.ObjectStore (message.Invoke m) m.head Reply.Invoked (λ k t. calls.invoked k m t) (λ k d from e. refl) (record { number = c.self.inside.number; server = c.self.inside.server; naming = c.self.inside.naming; store = c.self.inside.store }) c.args.self.now c.self.view_is
    c.invoke.new.self file c.args.out.now c.invoke.new.out c.invoked.result
    (void_where (has_ended m.head.path s || is_below m.head.req (at_uid (actor m.head.path) s.kept)) s (calls.invoked n m s) (c.messages_are_void_exactly.ensures.invoke n m s))
    (c.parts_act_alone.ensures.invoke n m.head m.x m.binding m.server_inc m.ends m.op s)
    c.in_ok-answer.ensures.part c.in_ok-answer.ensures.lines
    (c.invoked.ensures ∙ (ap (option_map message.Invoked) c.in_ok-answer.ensures.reply ∙ map_twice (calls.invoked_by m.head) message.Invoked (calls.invoked n m s).reply))
