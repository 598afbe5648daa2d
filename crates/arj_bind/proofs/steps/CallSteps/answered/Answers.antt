use Rattle.std.proofs.Common.{rules, Option, ◌≡◌, ◌∙◌, sym, subst, true, IfSome}
use Rattle.std.specs.Prelude.{is_some}
use Rattle.arj_bind.specs.Asking.{steps_of}
use Rattle.arj_msg.specs.declared.message.Message.{Message}
use Rattle.arj_bind.specs.declared.at.At.{At}
use Rattle.arj_bind.specs.declared.goal.Goal.{Goal}
use Rattle.arj_protocol.specs.Asking.{keeps_after}
use Rattle.arj_protocol.specs.Call.{Known, Steps, answered, has_changed}
use Rattle.arj_bind.specs.Heard.{came_by, came_of, heard_in, hears, lent, reply_in}
use Rattle.arj_bind.specs.Shown.{goal_of, at_of, next_of, moved_of}
use Rattle.arj_bind.proofs.Hearing.{heard_is}
use Rattle.arj_bind.proofs.steps.CallSteps.answered.Goals as goal

pub returns : goal.returns
returns c =
    let s : Steps = steps_of c.self.inside.asking.value in
    let m : Message = c.args.message.value in
    let lent_goal : c.deref-3.result.now.goal ≡ c.self.inside.asking.value.goal = search rules in
    let at_is : c.replace-at.result ≡ c.self.inside.asking.value.at = search rules in
    let asked_goal : c.deref-4.result.now.goal ≡ c.self.inside.asking.value.goal = search rules in
    let kept_goal : c.deref-5.result.now.goal ≡ c.self.inside.asking.value.goal = search rules in
    let message_is : c.deref.result.now ≡ m = search rules in
    let inner_is : c.into_inner.result ≡ m = search rules in
    let taken : c.takes.result ≡ true = search rules in
    let there : is_some (heard_in c.args.from m s) ≡ true =
    (λ i. is_some (heard_in c.args.from (sym message_is i) (c.self.view_is i))) ∙ (sym c.takes.ensures ∙ taken) in
    let Answers : Message → Option Known → Goal → At → Type 0 = λ m kept goal at. IfSome (reply_in m) (λ r. moved_of c.answered-moved.result ≡ answered c.args.free kept (goal_of goal) (at_of at) r) in
    let asked : Answers c.into_inner.result c.in-Ok-lend.kept c.deref-4.result.now.goal c.replace-at.result = c.answered-moved.ensures in
    let asked_m : Answers m c.in-Ok-lend.kept c.deref-4.result.now.goal c.replace-at.result = subst (λ m. Answers m c.in-Ok-lend.kept c.deref-4.result.now.goal c.replace-at.result) inner_is asked in
    let asked_k : Answers m c.args.keeping.now.kept c.deref-4.result.now.goal c.replace-at.result = subst (λ kept. Answers m kept c.deref-4.result.now.goal c.replace-at.result) c.in-Ok-lend.ensures.lent asked_m in
    let asked_g : Answers m c.args.keeping.now.kept c.self.inside.asking.value.goal c.replace-at.result = subst (λ g. Answers m c.args.keeping.now.kept g c.replace-at.result) asked_goal asked_k in
    let moved_is : Answers m c.args.keeping.now.kept c.self.inside.asking.value.goal c.self.inside.asking.value.at = subst (λ at. Answers m c.args.keeping.now.kept c.self.inside.asking.value.goal at) at_is asked_g in
    let left : c.lend.new.self ≡ lent (goal_of c.deref-5.result.now.goal) c.args.keeping.now =
    c.in-Ok-lend.ensures.left ∙ (λ i. lent (goal_of ((lent_goal ∙ sym kept_goal) i)) c.args.keeping.now) in
    let new_is : c.keeps_after.new.self ≡ keeps_after s.goal (has_changed (next_of c.answered-moved.result.next)) c.answered-moved.result.kept c.args.keeping.now =
    c.keeps_after.ensures c.args.keeping.now left c.binding-was.ensures
    ∙ (λ i. keeps_after (goal_of (kept_goal i)) (c.has_changed.ensures i) c.answered-moved.result.kept c.args.keeping.now) in
    let came_is : came_of c.step.result ≡ came_by s (next_of c.answered-moved.result.next) = search rules in
    let both : (came_of c.step.result ≡ (hears c.args.free c.args.keeping.now s (heard_in c.args.from m s)).came)
    × (c.keeps_after.new.self ≡ (hears c.args.free c.args.keeping.now s (heard_in c.args.from m s)).keeping) =
    heard_is c.args.free c.args.from m c.args.keeping.now c.keeps_after.new.self s (moved_of c.answered-moved.result) (came_of c.step.result) there moved_is new_is came_is in
    record {
      came = subst (λ (s : Steps). came_of c.step.result ≡ (hears c.args.free c.args.keeping.now s (heard_in c.args.from m s)).came) c.self.view_is both.0;
      keeping = subst (λ (s : Steps). c.keeps_after.new.self ≡ (hears c.args.free c.args.keeping.now s (heard_in c.args.from m s)).keeping) c.self.view_is both.1;
      steps = search rules;
      message = search rules;
      kept = search rules;
    }
