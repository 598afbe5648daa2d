use Rattle.std.proofs.Common.{◌≡◌, false, None}
use Rattle.std.specs.BTreeMap.{get}
use Rattle.arj_lock.specs.Held.{set_order}
use Rattle.arj_manager.specs.Index.{IsIndexed, any_answers}
use Rattle.arj_manager.specs.declared.walk.Question.TheVariants as question
use Rattle.arj_manager.proofs.index.forget.Given as goal

-- each object stands under each action that uses it; and the action is forgotten, if none knows it
abbrev pub invariant-loop-member : goal.invariant-loop-member
invariant-loop-member l = record {
  indexed : IsIndexed l.index l.objects.entries;
  gone : any_answers question.Uses l.fn.action l.objects.entries ≡ false → get set_order l.index l.fn.action ≡ None;
}
