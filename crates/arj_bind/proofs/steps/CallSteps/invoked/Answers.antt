use Rattle.std.proofs.Common.{rules, ◌≡◌, ◌∙◌, subst, true, ℕ, Bool, IfSome}
use Rattle.std.specs.Prelude.{[], is_some}
use Rattle.arj_msg.specs.declared.message.Message.{Message}
use Rattle.arj_protocol.specs.Asking.{is_invoke_ask, keeps_after}
use Rattle.arj_protocol.specs.Call.{Ended, Steps, has_changed, next_ask, node_at}
use Rattle.arj_bind.specs.Asking.{steps_of}
use Rattle.arj_bind.specs.Heard as heard
use Rattle.arj_bind.specs.Heard.{heard_in, hears, reply_in}
use Rattle.arj_bind.specs.Invoking.{EndsInvoke}
use Rattle.arj_bind.specs.Shown.{end_of}
use Rattle.arj_bind.specs.declared.goal.CallEnd.{CallEnd}
use Rattle.arj_bind.proofs.Invoking.{invoke_is}
use Rattle.arj_bind.proofs.steps.CallSteps.invoked.Goals as goal

pub returns : goal.returns
returns c =
    let s : Steps = steps_of c.self.inside.asking.value in
    let m : Message = c.args.message.value in
    let e : CallEnd = c.end_by-end.result in
    let inner_is : c.into_inner.result ≡ m = search rules in
    let node_is : c.node.result ≡ node_at s.at = search rules in
    let ends_there : IfSome (reply_in c.into_inner.result) (EndsInvoke (node_at s.at) (end_of e)) =
    subst (λ (n : ℕ). IfSome (reply_in c.into_inner.result) (EndsInvoke n (end_of e))) node_is c.end_by-end.ensures in
    let ends : IfSome (reply_in m) (EndsInvoke (node_at s.at) (end_of e)) =
    subst (λ (m : Message). IfSome (reply_in m) (EndsInvoke (node_at s.at) (end_of e))) inner_is ends_there in
    let new_is : c.loses.new.self ≡ keeps_after s.goal (has_changed (Ended (end_of e))) c.args.keeping.now.kept c.args.keeping.now = search rules in
    let invokes : is_invoke_ask (next_ask [] s) ≡ true = (λ i. is_invoke_ask (next_ask [] (c.self.view_is i))) ∙ c.requires in
    let both : (free : Bool) (from : ℕ) → is_some (heard_in from m c.args.self) ≡ true
    → (heard.Ended (end_of e) ≡ (hears free c.args.keeping.now s (heard_in from m s)).came)
    × (c.loses.new.self ≡ (hears free c.args.keeping.now s (heard_in from m s)).keeping) =
    λ free from there. invoke_is free from m c.args.keeping.now c.loses.new.self s (end_of e) invokes ((λ i. is_some (heard_in from m (c.self.view_is i))) ∙ there) ends new_is in
    record {
      came = λ free from there. subst (λ (s : Steps). heard.Ended (end_of e) ≡ (hears free c.args.keeping.now s (heard_in from m s)).came) c.self.view_is (both free from there).0;
      keeping = λ free from there. subst (λ (s : Steps). c.loses.new.self ≡ (hears free c.args.keeping.now s (heard_in from m s)).keeping) c.self.view_is (both free from there).1;
    }
