use Rattle.std.proofs.Common.{◌≡◌, ◌∙◌, ◌∷◌, ◌++◌, [], List, ap, refl, sym}
use Rattle.std.proofs.lemmas.List.{append-nil}
use Rattle.std.proofs.lemmas.Result.{on_ok_weaker}
use Rattle.arj_journal.specs.declared.header.Header.{Header}
use Rattle.arj_protocol.specs.Step.{Node}
use Rattle.arj_protocol.specs.Words.body
use Rattle.arj_protocol.specs.World.{numbered}
use Rattle.arj_world.specs.Stands.{AreSomeNodes}
use Rattle.arj_world.proofs.world.World.say_quiet.Goals as goal

pub returns-clause-said : goal.returns-clause-said
returns-clause-said g c = λ fits. on_ok_weaker c.say.result
    (λ (said : c.say.new.journal ≡ c.args.journal.now ++ numbered c.self.inside.wire.event (body.Quiet c.is_quiet-yes.result ∷ [])).
    λ (header : Header) (nodes : List Node) (are : AreSomeNodes g.C.Core header c.args.self.now.cores nodes).
    said ∙ (λ i. c.args.journal.now ++ numbered (ap (λ k. k.event) c.self.view_is i) (body.Quiet (c.is_quiet-yes.ensures header nodes are i) ∷ [])))
    c.say.ensures

pub returns-then-self-clause-added : goal.returns-then-self-clause-added
returns-then-self-clause-added g c = ([], sym (append-nil c.args.journal.now), λ n. refl)

pub returns-clause-added : goal.returns-clause-added
returns-clause-added g c = on_ok_weaker c.say.result
    (λ (said : c.say.new.journal ≡ c.args.journal.now ++ numbered c.self.inside.wire.event (body.Quiet c.is_quiet-yes.result ∷ [])).
    (numbered c.self.inside.wire.event (body.Quiet c.is_quiet-yes.result ∷ []), said, λ n. refl)) c.say.ensures
