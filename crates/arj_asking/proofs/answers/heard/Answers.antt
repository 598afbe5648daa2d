use Rattle.std.proofs.Common.{◌++◌, ◌∙◌, ap, sym, refl, append-nil}
use Rattle.std.specs.Prelude.{is_some}
use Rattle.arj_asking.specs.Hearing.{heard_as}
use Rattle.arj_protocol.specs.Ask.{answers}
use Rattle.arj_protocol.specs.Coord.{Coord}
use Rattle.arj_protocol.specs.Effect.{Served}
use Rattle.arj_asking.proofs.answers.heard.Goals as goal

pub returns-in-None-clause-part : goal.returns-in-None-clause-part
returns-in-None-clause-part c = ap (λ (s : Served Coord (Unit {0})). s.part) (sym ((λ i. heard_as c.args.from (answers (sym c.deref.ensures i)) c.args.intents.now c.args.coord.now) ∙ c.in-None.ensures.void refl c.args.intents.now))

pub returns-in-None-clause-outs : goal.returns-in-None-clause-outs
returns-in-None-clause-outs c =
    sym (append-nil c.args.outs.now) ∙ ap (λ (s : Served Coord (Unit {0})). c.args.outs.now ++ s.outs) (sym ((λ i. heard_as c.args.from (answers (sym c.deref.ensures i)) c.args.intents.now c.args.coord.now) ∙ c.in-None.ensures.void refl c.args.intents.now))

pub returns-in-None-clause-taken : goal.returns-in-None-clause-taken
returns-in-None-clause-taken c =
    ap (λ (s : Served Coord (Unit {0})). is_some s.reply) (sym ((λ i. heard_as c.args.from (answers (sym c.deref.ensures i)) c.args.intents.now c.args.coord.now) ∙ c.in-None.ensures.void refl c.args.intents.now))
