use Rattle.std.proofs.Common.{Some, sym, ◌∙◌}
use Rattle.std.proofs.lemmas.Bool.{both_ways}
use Rattle.arj_manager.specs.Index.{any_answers}
use Rattle.arj_manager.specs.declared.walk.Question.TheVariants as question
use Rattle.arj_manager.proofs.Upkeep.{removed_uses, walk_any, walk_unused}
use Rattle.arj_manager.proofs.index.forget_one.Goals as goal

pub returns-clause-indexed : goal.returns-clause-indexed
returns-clause-indexed c =
    walk_unused c.args.index.now c.args.action (Some c.in-Some.known.now) (sym c.in-Some.ensures.value) c.remove.new.self c.args.objects.now.entries c.any.ensures.sorted c.any.ensures.ordered
    (sym c.any.ensures.answer ∙ c.if-any.false) (removed_uses c.args.index.now c.remove.new.self c.args.action c.remove.ensures.updates.0) c.requires

pub returns-then-any-clause-gone : goal.returns-then-any-clause-gone
returns-then-any-clause-gone c = λ none.
    absurd (both_ways (any_answers question.Uses c.args.action c.args.objects.now.entries) none
    (sym (walk_any c.args.index.now c.args.action (Some c.in-Some.known.now) (sym c.in-Some.ensures.value) question.Uses c.args.objects.now.entries c.any.ensures.sorted c.any.ensures.ordered c.requires)
    ∙ (sym c.any.ensures.answer ∙ c.if-any.true)))
