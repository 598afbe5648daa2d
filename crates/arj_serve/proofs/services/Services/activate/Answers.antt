use Rattle.std.proofs.Common.{◌∙◌, ◌||◌, ap, refl}
use Rattle.std.specs.Prelude.{option_map}
use Rattle.arj_protocol.specs.Ask.{Reply}
use Rattle.arj_protocol.specs.Order.{binding_less}
use Rattle.arj_protocol.specs.Server.{active_binding, has_ended}
use Rattle.arj_protocol.specs.Words.message
use Rattle.arj_serve.proofs.Asked.{map_twice, server_asked}
use Rattle.arj_serve.proofs.Served.{void_where}
use Rattle.arj_server.specs.Calls as calls
use Rattle.arj_serve.proofs.services.Services.activate.Goals as goal

pub returns : goal.returns
returns g c = λ file.
    let m = c.args.m.now in
    let s = c.self.inside.server in
    let n = c.self.inside.number in
    server_asked g.O.ObjectStore (message.Activate m) m.head Reply.Activated (λ k t. calls.activated k m t) (λ k d from e. refl) (record { number = c.self.inside.number; server = c.self.inside.server; naming = c.self.inside.naming; store = c.self.inside.store }) c.args.self.now c.self.view_is
    c.activate.new.self file c.args.out.now c.activate.new.out c.activated.result
    (void_where (has_ended m.head.path s || binding_less m.binding (active_binding m.state.uid.num s)) s (calls.activated n m s) (c.messages_are_void_exactly.ensures.activate n m s))
    (c.parts_act_alone.ensures.activate n m.head.path m.binding m.state s)
    c.in_ok-answer.ensures.part c.in_ok-answer.ensures.lines
    (c.activated.ensures ∙ (ap (option_map message.Activated) c.in_ok-answer.ensures.reply ∙ map_twice (calls.activated_by m.head) message.Activated (calls.activated n m s).reply))
