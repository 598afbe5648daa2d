-- A kept binding never falls, and the incarnation that was named first for it stays.
use Rattle.std.proofs.Common.{◌≡◌, ◌∙◌, ℕ, Bool, true, false, ◌&&◌, ◌==◌, Option, Some, None, inl, inr, cond, refl, sym}
use Rattle.std.proofs.lemmas.Bool.{and_parts}
use Rattle.arj_msg.specs.declared.message.RecordedReply.TheVariants as recorded
use Rattle.arj_msg.specs.declared.message.BoundReply.{BoundReply}
use Rattle.arj_msg.specs.declared.message.BoundReply.TheVariants as bound
use Rattle.arj_msg.specs.declared.message.LoadedReply.TheVariants as loaded
use Rattle.arj_msg.specs.declared.message.InvokedReply.TheVariants as invoked
use Rattle.arj_protocol.specs.Ask.{Reply}
use Rattle.arj_protocol.specs.Call.{Known, Goal, Run, Include, At, AtBind, AtLoad, AtActivate, AtNote, AtInvoke, answered, moves, finds}
use Rattle.arj_protocol.specs.Call.{with_inc, same_binding, other_binding, bound_by, bound_answer, activated_by, recorded_kept, named_again}
use Rattle.arj_protocol.specs.Call.{made_by, or_lost, load_from, live_known, made_known, write_known, Changed, two_incs, two_bindings}
use Rattle.arj_protocol.specs.Order.{binding_eq, binding_less}
use Rattle.arj_bind.specs.Laws.{StaysOrRises, KeepsOn}

same : (old : Known) → StaysOrRises old old
same old = inr (refl, λ i is. is)

pub same_on : (kept : Option Known) → KeepsOn kept kept
same_on None = tt
same_on (Some old) = same old

-- an incarnation is named for what is kept, of which all but the incarnation may have changed
inc_on : (old now : Known) (i : ℕ) (at : At) → now.binding ≡ old.binding → now.inc ≡ old.inc →
    KeepsOn (Some old) (with_inc i now at old.inc).kept
inc_on old now i at binding inc = by old.inc inc refl
  where
    by : (first : Option ℕ) → now.inc ≡ first → old.inc ≡ first → KeepsOn (Some old) (with_inc i now at first).kept
    by None is was = inr (binding, λ j given. let never : None ≡ Some j = sym was ∙ given in absurd (cc never))
    by (Some first) is was = pick (first == i)
      where
        pick : (b : Bool) →
            KeepsOn (Some old) (cond b (moves (Some now) at) (finds (Some now) (Changed now.server (two_incs first i)))).kept
        pick true = inr (binding, λ j old_is. inc ∙ old_is)
        pick false = inr (binding, λ j old_is. inc ∙ old_is)

same_binding_on : (old k : Known) (at : At) (named : Option ℕ) → KeepsOn (Some old) (same_binding old k at named).kept
same_binding_on old k at None = inr (refl, λ i is. is)
same_binding_on old k at (Some i) = inc_on old (named_again old k) i at refl refl

other_on : (free : Bool) (old k : Known) (at : At) → KeepsOn (Some old) (other_binding free old k at).kept
other_on free old k at = by (free && binding_less old.binding k.binding) refl
  where
    by : (b : Bool) → (free && binding_less old.binding k.binding) ≡ b
        → KeepsOn (Some old) (cond b (moves (Some k) at) (finds (Some old) (Changed 1 (two_bindings old.binding k.binding)))).kept
    by true is = inl (and_parts free (binding_less old.binding k.binding) is).1
    by false is = same old

bound_on : (free : Bool) (k : Known) (at : At) (kept : Option Known) → KeepsOn kept (bound_by free k at kept).kept
bound_on free k at None = tt
bound_on free k at (Some old) = by (binding_eq old.binding k.binding)
  where
    by : (b : Bool) → KeepsOn (Some old) (cond b (same_binding old k at k.inc) (other_binding free old k at)).kept
    by true = same_binding_on old k at k.inc
    by false = other_on free old k at

made_on : (free : Bool) (k : Known) (kept : Option Known) (at : Option At) → KeepsOn kept (made_by free k kept at).kept
made_on free k kept None = same_on kept
made_on free k kept (Some at) = bound_on free k at kept

lost_on : (kept : Option Known) (at : Option At) → KeepsOn kept (or_lost kept at).kept
lost_on kept None = same_on kept
lost_on kept (Some at) = same_on kept

reply_on : (free : Bool) (kept : Option Known) (r : BoundReply) → KeepsOn kept (bound_answer free kept r).kept
reply_on free kept (bound.Live b n i g stores) = bound_on free (live_known b n i g stores) (AtInvoke (live_known b n i g stores) i) kept
reply_on free kept (bound.Make b n g stores) = made_on free (made_known b n g stores) kept (load_from (made_known b n g stores) stores)
reply_on free kept (bound.Write g stores) = lost_on kept (load_from (write_known g stores) stores)
reply_on free kept (bound.Conflict holder m) = same_on kept

activated_on : (k : Known) (i : ℕ) (kept : Option Known) → KeepsOn kept (activated_by k i kept).kept
activated_on k i None = tt
activated_on k i (Some old) = by (binding_eq old.binding k.binding)
  where
    by : (b : Bool) → KeepsOn (Some old) (cond b (with_inc i old (AtNote k i) old.inc) (moves (Some old) (AtNote k i))).kept
    by true = inc_on old old i (AtNote k i) refl refl
    by false = same old

recorded_on : (k : Known) (kept : Option Known) → KeepsOn kept (recorded_kept k kept)
recorded_on k None = tt
recorded_on k (Some old) = by (binding_eq old.binding k.binding)
  where
    by : (b : Bool) → KeepsOn (Some old) (cond b (Some (record old { recorded = true })) (Some old))
    by true = inr (refl, λ i is. is)
    by false = same old

pub keeps_on : (free : Bool) (kept : Option Known) (g : Goal) (at : At) (r : Reply) → KeepsOn kept (answered free kept g at r).kept
keeps_on free kept g (AtBind avoid) (Reply.Bound r) = reply_on free kept r
keeps_on free kept g (AtBind avoid) (Reply.Loaded r) = same_on kept
keeps_on free kept g (AtBind avoid) (Reply.Activated r) = same_on kept
keeps_on free kept g (AtBind avoid) (Reply.Noted r) = same_on kept
keeps_on free kept g (AtBind avoid) (Reply.Invoked r) = same_on kept
keeps_on free kept g (AtBind avoid) (Reply.Voted r) = same_on kept
keeps_on free kept g (AtBind avoid) (Reply.Prepared r) = same_on kept
keeps_on free kept g (AtBind avoid) (Reply.Confirmed r) = same_on kept
keeps_on free kept g (AtLoad k s rest) (Reply.Bound r) = same_on kept
keeps_on free kept (Run o) (AtLoad k s rest) (Reply.Loaded (loaded.State st)) = same_on kept
keeps_on free kept (Include n) (AtLoad k s rest) (Reply.Loaded (loaded.State st)) = same_on kept
keeps_on free kept g (AtLoad k s rest) (Reply.Loaded (loaded.InDoubt holder)) = same_on kept
keeps_on free kept g (AtLoad k s rest) (Reply.Activated r) = same_on kept
keeps_on free kept g (AtLoad k s rest) (Reply.Noted r) = same_on kept
keeps_on free kept g (AtLoad k s rest) (Reply.Invoked r) = same_on kept
keeps_on free kept g (AtLoad k s rest) (Reply.Voted r) = same_on kept
keeps_on free kept g (AtLoad k s rest) (Reply.Prepared r) = same_on kept
keeps_on free kept g (AtLoad k s rest) (Reply.Confirmed r) = same_on kept
keeps_on free kept g (AtActivate k st) (Reply.Bound r) = same_on kept
keeps_on free kept g (AtActivate k st) (Reply.Loaded r) = same_on kept
keeps_on free kept g (AtActivate k st) (Reply.Activated i) = activated_on k i kept
keeps_on free kept g (AtActivate k st) (Reply.Noted r) = same_on kept
keeps_on free kept g (AtActivate k st) (Reply.Invoked r) = same_on kept
keeps_on free kept g (AtActivate k st) (Reply.Voted r) = same_on kept
keeps_on free kept g (AtActivate k st) (Reply.Prepared r) = same_on kept
keeps_on free kept g (AtActivate k st) (Reply.Confirmed r) = same_on kept
keeps_on free kept g (AtNote k i) (Reply.Bound r) = same_on kept
keeps_on free kept g (AtNote k i) (Reply.Loaded r) = same_on kept
keeps_on free kept g (AtNote k i) (Reply.Activated r) = same_on kept
keeps_on free kept g (AtNote k i) (Reply.Noted recorded.Yes) = recorded_on k kept
keeps_on free kept g (AtNote k i) (Reply.Noted (recorded.Changed w)) = same_on kept
keeps_on free kept g (AtNote k i) (Reply.Invoked r) = same_on kept
keeps_on free kept g (AtNote k i) (Reply.Voted r) = same_on kept
keeps_on free kept g (AtNote k i) (Reply.Prepared r) = same_on kept
keeps_on free kept g (AtNote k i) (Reply.Confirmed r) = same_on kept
keeps_on free kept g (AtInvoke k i) (Reply.Bound r) = same_on kept
keeps_on free kept g (AtInvoke k i) (Reply.Loaded r) = same_on kept
keeps_on free kept g (AtInvoke k i) (Reply.Activated r) = same_on kept
keeps_on free kept g (AtInvoke k i) (Reply.Noted r) = same_on kept
keeps_on free kept g (AtInvoke k i) (Reply.Invoked (invoked.Answered a)) = same_on kept
keeps_on free kept g (AtInvoke k i) (Reply.Invoked (invoked.Conflict holder m)) = same_on kept
keeps_on free kept g (AtInvoke k i) (Reply.Invoked (invoked.Changed w)) = same_on kept
keeps_on free kept g (AtInvoke k i) (Reply.Voted r) = same_on kept
keeps_on free kept g (AtInvoke k i) (Reply.Prepared r) = same_on kept
keeps_on free kept g (AtInvoke k i) (Reply.Confirmed r) = same_on kept
