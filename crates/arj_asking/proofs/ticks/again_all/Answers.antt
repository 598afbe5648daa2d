use Rattle.std.proofs.Common.{◌∙◌, ap, sym, ◌++◌, ℕ, List}
use Rattle.std.proofs.lemmas.Result.{on_ok_weaker}
use Rattle.arj_asking.proofs.Again.{again_is}
use Rattle.arj_asking.specs.Again.{again_at}
use Rattle.arj_protocol.specs.Coord.{Coord}
use Rattle.arj_protocol.specs.Effect.{Did}
use Rattle.arj_asking.proofs.ticks.again_all.Goals as goal

pub returns-clause-part : goal.returns-clause-part
returns-clause-part c =
    let old = c.args.coord.now in
    on_ok_weaker c.ask_each.result
    (λ went. went ∙ ap (λ (d : Did Coord). d.part) (ap (λ (ns : List ℕ). again_at old.doings ns old) (c.as_slice.ensures ∙ c.in_ok-numbers.ensures) ∙ sym (again_is old.doings old)))
    c.ask_each.ensures.part

pub returns-clause-outs : goal.returns-clause-outs
returns-clause-outs c =
    let old = c.args.coord.now in
    on_ok_weaker c.ask_each.result
    (λ went. went ∙ ap (λ (d : Did Coord). c.args.outs.now ++ d.outs) (ap (λ (ns : List ℕ). again_at old.doings ns old) (c.as_slice.ensures ∙ c.in_ok-numbers.ensures) ∙ sym (again_is old.doings old)))
    c.ask_each.ensures.outs
