use Rattle.std.proofs.Common.{◌∙◌, ◌++◌, [], refl, sym, ap, subst, map, true}
use Rattle.std.proofs.lemmas.Result.{on_ok_weaker}
use Rattle.arj_node.specs.Outgoing.{effects_of}
use Rattle.arj_parts.specs.Calls.{Takes}
use Rattle.arj_parts.specs.Taken.{other_here}
use Rattle.arj_parts.proofs.Servings.{handled_takes, queries_sent}
use Rattle.arj_parts.proofs.StateAsks.{hello_states}
use Rattle.arj_protocol.specs.Node.{query_about}
use Rattle.arj_protocol.specs.Words.message
use Rattle.arj_serve.specs.Asked.{queries}
use Rattle.arj_serve.proofs.Roles.{nothing_left}
use Rattle.arj_parts.proofs.parts.NodeParts.hello.Goals as goal

pub returns : goal.returns
returns g c = on_ok_weaker c.ask_about.result
    (λ told file from.
    subst (λ k. Takes g.O.ObjectStore (other_here from (message.Hello c.args.m.now)) (record {
      old = k;
      new =
          record { services = c.hello.new.self; coord = c.self.inside.coord; records = c.self.inside.records };
      file =
          file;
      left = file;
      before = c.args.outs.now;
      after = c.ask_about.new.outs;
    }) true) c.self.view_is
    (λ n h stands. handled_takes g.O.ObjectStore g.met.O.ObjectStore.stays c.self.inside.services c.hello.new.self c.self.inside.coord c.self.inside.records file file [] [] refl (message.Hello c.args.m.now) from (nothing_left g.O.ObjectStore c.self.inside.services file h.disk stands.services) n h stands
    (λ to. queries c.in_ok-actions.actions) (hello_states n h.disk h.parts from c.args.m.now) (c.in_ok-actions.ensures file []) c.args.outs.now c.ask_about.new.outs
    (told ∙ ap (λ es. effects_of c.args.outs.now ++ es) (ap (map query_about) c.as_slice.ensures ∙ sym (queries_sent c.in_ok-actions.actions)))))
    c.ask_about.ensures
