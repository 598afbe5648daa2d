-- The requests of a call come in order, and no answer counts twice.
use Rattle.std.proofs.Common.{◌≡◌, ◌<◌, ℕ, Bool, true, false, ◌&&◌, ◌==◌, Option, Some, None, [], ◌∷◌, cond, refl, sym, ap, ◌∙◌, arith}
use Rattle.std.proofs.lemmas.Bool.{and_parts}
use Rattle.std.proofs.lemmas.Bool.Decides.{nat_tests}
use Rattle.arj_base.specs.declared.binding.Binding.{Binding}
use Rattle.arj_base.specs.declared.state.ObjectState.{ObjectState}
use Rattle.arj_msg.specs.declared.message.Asked.{Asked}
use Rattle.arj_msg.specs.declared.message.Message.{Message}
use Rattle.arj_msg.specs.declared.message.BoundReply.{BoundReply}
use Rattle.arj_msg.specs.declared.message.BoundReply.TheVariants as bound
use Rattle.arj_msg.specs.declared.message.InvokedReply.TheVariants as invoked
use Rattle.arj_msg.specs.declared.message.LoadedReply.TheVariants as loaded
use Rattle.arj_msg.specs.declared.message.RecordedReply.TheVariants as recorded
use Rattle.arj_protocol.specs.Ask.{Reply, answers, reply_kind, ask_kind}
use Rattle.arj_protocol.specs.Asking.{waits_for_call}
use Rattle.arj_protocol.specs.Call.{Known, Goal, Run, Include, At, AtBind, AtLoad, AtActivate, AtNote, AtInvoke, CallStep, On, Ended}
use Rattle.arj_protocol.specs.Call.{Changed, Steps, answered, given_up, moves, finds, with_inc, same_binding, other_binding, bound_by}
use Rattle.arj_protocol.specs.Call.{bound_answer, activated_by, named_again, live_known, made_known, two_incs, two_bindings, next_ask}
use Rattle.arj_protocol.specs.Call.{next_node}
use Rattle.arj_protocol.specs.Coord.{Keeping}
use Rattle.arj_protocol.specs.Order.{binding_eq, binding_less}
use Rattle.arj_bind.specs.Heard.{Onward, awaited, heard_in, hears, came_by, steps_at, req_after}
use Rattle.arj_bind.specs.Laws.{kind_at, follows, IsNext, IsAgain}

-- ---- order

module _ (a b : At) (next : follows a b ≡ true) where
  inc_next : (i : ℕ) (kept : Known) (first : Option ℕ) → IsNext a (with_inc i kept b first).step
  inc_next i kept None = next
  inc_next i kept (Some first) = by (first == i)
    where
      by : (t : Bool) → IsNext a (cond t (moves (Some kept) b) (finds (Some kept) (Changed kept.server (two_incs first i)))).step
      by true = next
      by false = tt

  same_next : (old k : Known) (named : Option ℕ) → IsNext a (same_binding old k b named).step
  same_next old k None = next
  same_next old k (Some i) = inc_next i (named_again old k) old.inc

  other_next : (free : Bool) (old k : Known) → IsNext a (other_binding free old k b).step
  other_next free old k = by (free && binding_less old.binding k.binding)
    where
      by : (t : Bool) → IsNext a (cond t (moves (Some k) b) (finds (Some old) (Changed 1 (two_bindings old.binding k.binding)))).step
      by true = next
      by false = tt

  pub bound_next : (free : Bool) (k : Known) (kept : Option Known) → IsNext a (bound_by free k b kept).step
  bound_next free k None = next
  bound_next free k (Some old) = by (binding_eq old.binding k.binding)
    where
      by : (t : Bool) → IsNext a (cond t (same_binding old k b k.inc) (other_binding free old k b)).step
      by true = same_next old k k.inc
      by false = other_next free old k

activated_next : (k : Known) (st : ObjectState) (i : ℕ) (kept : Option Known) → IsNext (AtActivate k st) (activated_by k i kept).step
activated_next k st i None = refl
activated_next k st i (Some old) = by (binding_eq old.binding k.binding)
  where
    by : (t : Bool) → IsNext (AtActivate k st) (cond t (with_inc i old (AtNote k i) old.inc) (moves (Some old) (AtNote k i))).step
    by true = inc_next (AtActivate k st) (AtNote k i) refl i old old.inc
    by false = refl

reply_next : (free : Bool) (kept : Option Known) (avoid : Binding) (r : BoundReply) → IsNext (AtBind avoid) (bound_answer free kept r).step
reply_next free kept avoid (bound.Live b n i g stores) =
    bound_next (AtBind avoid) (AtInvoke (live_known b n i g stores) i) refl free (live_known b n i g stores) kept
reply_next free kept avoid (bound.Make b n g []) = tt
reply_next free kept avoid (bound.Make b n g (s ∷ ss)) =
    bound_next (AtBind avoid) (AtLoad (made_known b n g (s ∷ ss)) s ss) refl free (made_known b n g (s ∷ ss)) kept
reply_next free kept avoid (bound.Write g []) = tt
reply_next free kept avoid (bound.Write g (s ∷ ss)) = refl
reply_next free kept avoid (bound.Conflict holder m) = tt

pub next_is : (free : Bool) (kept : Option Known) (g : Goal) (at : At) (r : Reply) → reply_kind r ≡ kind_at at →
    IsNext at (answered free kept g at r).step
next_is free kept g (AtBind avoid) (Reply.Bound r) is = reply_next free kept avoid r
next_is free kept g (AtBind avoid) (Reply.Loaded r) is = absurd (cc is)
next_is free kept g (AtBind avoid) (Reply.Activated r) is = absurd (cc is)
next_is free kept g (AtBind avoid) (Reply.Noted r) is = absurd (cc is)
next_is free kept g (AtBind avoid) (Reply.Invoked r) is = absurd (cc is)
next_is free kept g (AtBind avoid) (Reply.Voted r) is = absurd (cc is)
next_is free kept g (AtBind avoid) (Reply.Prepared r) is = absurd (cc is)
next_is free kept g (AtBind avoid) (Reply.Confirmed r) is = absurd (cc is)
next_is free kept g (AtLoad k s rest) (Reply.Bound r) is = absurd (cc is)
next_is free kept (Run o) (AtLoad k s rest) (Reply.Loaded (loaded.State st)) is = refl
next_is free kept (Include n) (AtLoad k s rest) (Reply.Loaded (loaded.State st)) is = tt
next_is free kept g (AtLoad k s rest) (Reply.Loaded (loaded.InDoubt holder)) is = tt
next_is free kept g (AtLoad k s rest) (Reply.Activated r) is = absurd (cc is)
next_is free kept g (AtLoad k s rest) (Reply.Noted r) is = absurd (cc is)
next_is free kept g (AtLoad k s rest) (Reply.Invoked r) is = absurd (cc is)
next_is free kept g (AtLoad k s rest) (Reply.Voted r) is = absurd (cc is)
next_is free kept g (AtLoad k s rest) (Reply.Prepared r) is = absurd (cc is)
next_is free kept g (AtLoad k s rest) (Reply.Confirmed r) is = absurd (cc is)
next_is free kept g (AtActivate k st) (Reply.Bound r) is = absurd (cc is)
next_is free kept g (AtActivate k st) (Reply.Loaded r) is = absurd (cc is)
next_is free kept g (AtActivate k st) (Reply.Activated i) is = activated_next k st i kept
next_is free kept g (AtActivate k st) (Reply.Noted r) is = absurd (cc is)
next_is free kept g (AtActivate k st) (Reply.Invoked r) is = absurd (cc is)
next_is free kept g (AtActivate k st) (Reply.Voted r) is = absurd (cc is)
next_is free kept g (AtActivate k st) (Reply.Prepared r) is = absurd (cc is)
next_is free kept g (AtActivate k st) (Reply.Confirmed r) is = absurd (cc is)
next_is free kept g (AtNote k i) (Reply.Bound r) is = absurd (cc is)
next_is free kept g (AtNote k i) (Reply.Loaded r) is = absurd (cc is)
next_is free kept g (AtNote k i) (Reply.Activated r) is = absurd (cc is)
next_is free kept g (AtNote k i) (Reply.Noted recorded.Yes) is = refl
next_is free kept g (AtNote k i) (Reply.Noted (recorded.Changed w)) is = tt
next_is free kept g (AtNote k i) (Reply.Invoked r) is = absurd (cc is)
next_is free kept g (AtNote k i) (Reply.Voted r) is = absurd (cc is)
next_is free kept g (AtNote k i) (Reply.Prepared r) is = absurd (cc is)
next_is free kept g (AtNote k i) (Reply.Confirmed r) is = absurd (cc is)
next_is free kept g (AtInvoke k i) (Reply.Bound r) is = absurd (cc is)
next_is free kept g (AtInvoke k i) (Reply.Loaded r) is = absurd (cc is)
next_is free kept g (AtInvoke k i) (Reply.Activated r) is = absurd (cc is)
next_is free kept g (AtInvoke k i) (Reply.Noted r) is = absurd (cc is)
next_is free kept g (AtInvoke k i) (Reply.Invoked (invoked.Answered a)) is = tt
next_is free kept g (AtInvoke k i) (Reply.Invoked (invoked.Conflict holder m)) is = tt
next_is free kept g (AtInvoke k i) (Reply.Invoked (invoked.Changed w)) is = tt
next_is free kept g (AtInvoke k i) (Reply.Voted r) is = absurd (cc is)
next_is free kept g (AtInvoke k i) (Reply.Prepared r) is = absurd (cc is)
next_is free kept g (AtInvoke k i) (Reply.Confirmed r) is = absurd (cc is)

pub again_is : (at : At) → IsAgain at (given_up at)
again_is (AtBind avoid) = tt
again_is (AtLoad k s []) = tt
again_is (AtLoad k s (t ∷ ts)) = (refl, refl)
again_is (AtActivate k st) = tt
again_is (AtNote k i) = tt
again_is (AtInvoke k i) = tt

-- ---- once

is_later : (n m : ℕ) (b : Bool) → n < 4294967295 → ((n == m) && b) ≡ true → (req_after n == m) ≡ false
is_later n m b small is = let same = (and_parts (n == m) b is).0 in grind (arith, nat_tests)

once_by : (from : ℕ) (free : Bool) (k : Keeping) (s t : Steps) (e : Option (Asked × Reply)) → s.req < 4294967295 →
    (hears free k s (awaited from s e)).came ≡ Onward t → awaited from t e ≡ None
once_by from free k s t None small is = refl
once_by from free k s t (Some e) small is = by (waits_for_call from e.0 e.1 s) refl is
  where
    on : waits_for_call from e.0 e.1 s ≡ true → (step : CallStep) → came_by s step ≡ Onward t → awaited from t (Some e) ≡ None
    on waits (On a) is =
        let same : steps_at s a ≡ t = cc is in
        let late : (t.req == e.0.req) ≡ false = ap (λ (t : Steps). t.req == e.0.req) (sym same) ∙ is_later s.req e.0.req _ small waits in
        λ i. cond (late i && ((reply_kind e.1 == ask_kind (next_ask [] t)) && (next_node t == from))) (Some e.1) None
    on waits (Ended x) is = absurd (cc is)

    by : (b : Bool) → waits_for_call from e.0 e.1 s ≡ b → (hears free k s (cond b (Some e.1) None)).came ≡ Onward t →
        awaited from t (Some e) ≡ None
    by true waits is = on waits (answered free k.kept s.goal s.at e.1).step is
    by false waits is = absurd (cc is)

pub once_is : (from : ℕ) (m : Message) (free : Bool) (k : Keeping) (s t : Steps) → s.req < 4294967295 →
    (hears free k s (heard_in from m s)).came ≡ Onward t → heard_in from m t ≡ None
once_is from m free k s t small is = once_by from free k s t (answers m) small is
