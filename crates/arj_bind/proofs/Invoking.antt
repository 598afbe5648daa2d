-- The answer to an Invoke ends the steps, and leaves what is kept.
use Rattle.std.proofs.Common.{◌≡◌, ◌∙◌, ap, ℕ, Bool, true, false, ◌&&◌, ◌==◌, Option, Some, None, IfSome, cond, refl, sym}
use Rattle.std.specs.Prelude.{[], is_some, option_map}
use Rattle.arj_msg.specs.declared.message.Asked.{Asked}
use Rattle.arj_msg.specs.declared.message.InvokedReply.{InvokedReply}
use Rattle.arj_msg.specs.declared.message.InvokedReply.TheVariants as invoked
use Rattle.arj_msg.specs.declared.message.Message.{Message}
use Rattle.arj_protocol.specs.Ask.{Reply, answers, reply_kind, ask_kind}
use Rattle.arj_protocol.specs.Asking.{is_invoke_ask, keeps_after}
use Rattle.arj_protocol.specs.Call.{Known, Goal, At, AtBind, AtLoad, AtActivate, AtNote, AtInvoke, Steps, CallEnd, Ended, Moved}
use Rattle.arj_protocol.specs.Call.{answered, ask_at, finds, has_changed, invoked_answer, next_ask, next_node, node_at}
use Rattle.arj_protocol.specs.Coord.{Keeping}
use Rattle.arj_bind.specs.Heard as heard
use Rattle.arj_bind.specs.Heard.{Came, awaited, came_by, heard_in, hears, reply_in}
use Rattle.arj_bind.specs.Invoking.{EndsInvoke, invoked_end}

-- what a server answers ends the call, with what is kept
invoked_as : (kept : Option Known) (k : Known) (r : InvokedReply) → invoked_answer kept k r ≡ finds kept (invoked_end k.server r)
invoked_as kept k (invoked.Answered a) = refl
invoked_as kept k (invoked.Conflict holder m) = refl
invoked_as kept k (invoked.Changed w) = refl

-- the answer to an Invoke ends the call so
ends_so : (free : Bool) (kept : Option Known) (x : ℕ) (g : Goal) (at : At) (r : Reply) (e : CallEnd) →
    is_invoke_ask (ask_at x g [] at) ≡ true → (reply_kind r == ask_kind (ask_at x g [] at)) ≡ true → EndsInvoke (node_at at) e r →
    answered free kept g at r ≡ finds kept e
ends_so free kept x g (AtInvoke k i) (Reply.Invoked r) e invokes kind ends = invoked_as kept k r ∙ (λ j. finds kept (sym ends j))
ends_so free kept x g (AtInvoke k i) (Reply.Bound r) e invokes kind ends = absurd (cc kind)
ends_so free kept x g (AtInvoke k i) (Reply.Loaded r) e invokes kind ends = absurd (cc kind)
ends_so free kept x g (AtInvoke k i) (Reply.Activated r) e invokes kind ends = absurd (cc kind)
ends_so free kept x g (AtInvoke k i) (Reply.Noted r) e invokes kind ends = absurd (cc kind)
ends_so free kept x g (AtInvoke k i) (Reply.Voted r) e invokes kind ends = absurd (cc kind)
ends_so free kept x g (AtInvoke k i) (Reply.Prepared r) e invokes kind ends = absurd (cc kind)
ends_so free kept x g (AtInvoke k i) (Reply.Confirmed r) e invokes kind ends = absurd (cc kind)
ends_so free kept x g (AtBind avoid) r e invokes kind ends = absurd (cc invokes)
ends_so free kept x g (AtLoad k s rest) r e invokes kind ends = absurd (cc invokes)
ends_so free kept x g (AtActivate k st) r e invokes kind ends = absurd (cc invokes)
ends_so free kept x g (AtNote k i) r e invokes kind ends = absurd (cc invokes)

pub invoke_is : (free : Bool) (from : ℕ) (m : Message) (old new : Keeping) (s : Steps) (e : CallEnd)
    → is_invoke_ask (next_ask [] s) ≡ true
    → is_some (heard_in from m s) ≡ true
    → IfSome (reply_in m) (EndsInvoke (node_at s.at) e)
    → new ≡ keeps_after s.goal (has_changed (Ended e)) old.kept old
    → (heard.Ended e ≡ (hears free old s (heard_in from m s)).came) × (new ≡ (hears free old s (heard_in from m s)).keeping)
invoke_is free from m old new s e invokes there ends new_is = by (answers m) there ends
  where
    so : (r : Reply) → answered free old.kept s.goal s.at r ≡ finds old.kept e
        → (heard.Ended e ≡ (hears free old s (Some r)).came) × (new ≡ (hears free old s (Some r)).keeping)
    so r is =
        (ap (λ (m : Moved). came_by s m.step) (sym is), new_is ∙ ap (λ (m : Moved). keeps_after s.goal (has_changed m.step) m.kept old) (sym is))

    on : (r : Reply) (p q w : Bool) → (q ≡ true → answered free old.kept s.goal s.at r ≡ finds old.kept e)
        → is_some (cond (p && (q && w)) (Some r) None) ≡ true
        → (heard.Ended e ≡ (hears free old s (cond (p && (q && w)) (Some r) None)).came) × (new ≡ (hears free old s (cond (p && (q && w)) (Some r) None)).keeping)
    on r true true true is there = so r (is refl)
    on r true true false is there = absurd (cc there)
    on r true false w is there = absurd (cc there)
    on r false q w is there = absurd (cc there)

    by : (a : Option (Asked × Reply)) → is_some (awaited from s a) ≡ true
        → IfSome (option_map (λ (a : Asked × Reply). a.1) a) (EndsInvoke (node_at s.at) e)
        → (heard.Ended e ≡ (hears free old s (awaited from s a)).came) × (new ≡ (hears free old s (awaited from s a)).keeping)
    by None there ends = absurd (cc there)
    by (Some a) there ends =
        on a.1 (s.req == a.0.req) (reply_kind a.1 == ask_kind (next_ask [] s)) (next_node s == from)
        (λ kind. ends_so free old.kept s.x s.goal s.at a.1 e invokes kind ends) there
