use Rattle.std.proofs.Common.{◌∙◌, ap, refl}
use Rattle.std.specs.Prelude.{option_map}
use Rattle.arj_protocol.specs.Ask.{Reply}
use Rattle.arj_protocol.specs.Server.{has_ended}
use Rattle.arj_protocol.specs.Words.message
use Rattle.arj_serve.proofs.Asked.{map_twice, server_asked}
use Rattle.arj_serve.proofs.Served.{void_where}
use Rattle.arj_server.specs.Calls as calls
use Rattle.arj_serve.proofs.services.Services.vote.Goals as goal

pub returns : goal.returns
returns g c = λ file.
    let m = c.args.m.now in
    let s = c.self.inside.server in
    let n = c.self.inside.number in
    server_asked g.O.ObjectStore (message.Vote m) m.head Reply.Voted (λ k t. calls.voted k m t) (λ k d from e. refl) (record {
      number =
          c.self.inside.number;
      server =
          c.self.inside.server;
      naming = c.self.inside.naming;
      store = c.self.inside.store;
    }) c.args.self.now c.self.view_is
    c.vote.new.self file c.args.out.now c.vote.new.out c.voted.result
    (void_where (has_ended m.head.path s) s (calls.voted n m s) (c.messages_are_void_exactly.ensures.vote n m s))
    (c.parts_act_alone.ensures.vote n m.head.path m.server_inc m.objects m.ends s)
    c.in_ok-answer.ensures.part c.in_ok-answer.ensures.lines
    (c.voted.ensures ∙ (ap (option_map message.Voted) c.in_ok-answer.ensures.reply ∙ map_twice (calls.voted_by m.head) message.Voted (calls.voted n m s).reply))
