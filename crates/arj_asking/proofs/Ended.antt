-- How a call or an include ends: an include with a state of its object.
use Rattle.std.proofs.Common.{◌≡◌, ℕ, List, [], ◌∷◌, Bool, true, false, Option, Some, None, sym, subst}
use Rattle.std.specs.Prelude.{◌==◌, ◌&&◌, if◌then◌else◌, IfSome, ⊤}
use Rattle.arj_asking.specs.Calls.{EndFits, IsCaller, MeantFor, StepFits}
use Rattle.arj_asking.specs.declared.calls.Caller.{Caller}
use Rattle.arj_bind.specs.Heard.{Came, came_by, hears}
use Rattle.arj_bind.specs.Shown.{goal_of}
use Rattle.arj_coord.specs.Fits.{IncludesNode}
use Rattle.arj_protocol.specs.Ask.{Reply, Bound, Loaded, Activated, Noted, Invoked, Voted, Prepared, Confirmed}
use Rattle.arj_protocol.specs.Asking.{store_of}
use Rattle.arj_protocol.specs.Call as call
use Rattle.arj_protocol.specs.Call.{Known, Goal, Run, Include, At, AtBind, AtLoad, AtActivate, AtNote, AtInvoke, Steps, CallStep, CallEnd}
use Rattle.arj_protocol.specs.Call.{On, Ended, Moved, answered, given_up, with_inc, same_binding, other_binding, bound_by, load_from}
use Rattle.arj_protocol.specs.Call.{or_lost, made_by, bound_answer, loaded_state, loaded_answer, activated_by, recorded_answer}
use Rattle.arj_protocol.specs.Call.{invoked_answer, load_given_up, named_again, live_known, made_known, write_known}
use Rattle.arj_protocol.specs.Coord.{Keeping}
use Rattle.arj_protocol.specs.Order.{binding_eq, binding_less}
use Rattle.arj_protocol.specs.Words.{BoundReply, LoadedReply, RecordedReply, InvokedReply}
use Rattle.arj_protocol.specs.Words.bound
use Rattle.arj_protocol.specs.Words.loaded
use Rattle.arj_protocol.specs.Words.recorded
use Rattle.arj_protocol.specs.Words.invoked

-- where it has ended
abbrev Fits : ℕ → Goal → CallStep → Type 0
Fits x g (On a) = ⊤
Fits x g (Ended e) = EndFits x (store_of g) e

either_fits : (P : Moved → Type 0) (b : Bool) (m n : Moved) → P m → P n → P (if b then m else n)
either_fits P true m n so other = so
either_fits P false m n so other = other

inc_fits : (x : ℕ) (g : Goal) (i : ℕ) (kept : Known) (at : At) (first : Option ℕ) → Fits x g ((with_inc i kept at first).step)
inc_fits x g i kept at None = tt
inc_fits x g i kept at (Some first) =
    either_fits (λ (t : Moved). Fits x g t.step) (first == i) (call.moves (Some kept) at) (call.finds (Some kept) (call.Changed kept.server (call.two_incs first i))) tt tt

same_fits : (x : ℕ) (g : Goal) (old k : Known) (at : At) (i : Option ℕ) → Fits x g ((same_binding old k at i).step)
same_fits x g old k at None = tt
same_fits x g old k at (Some i) = inc_fits x g i (named_again old k) at old.inc

other_fits : (x : ℕ) (g : Goal) (free : Bool) (old k : Known) (at : At) → Fits x g ((other_binding free old k at).step)
other_fits x g free old k at =
    either_fits (λ (t : Moved). Fits x g t.step) (free && binding_less old.binding k.binding) (call.moves (Some k) at) (call.finds (Some old) (call.Changed 1 (call.two_bindings old.binding k.binding))) tt tt

bound_fits : (x : ℕ) (g : Goal) (free : Bool) (k : Known) (at : At) (kept : Option Known) → Fits x g ((bound_by free k at kept).step)
bound_fits x g free k at None = tt
bound_fits x g free k at (Some old) =
    either_fits (λ (t : Moved). Fits x g t.step) (binding_eq old.binding k.binding) (same_binding old k at k.inc) (other_binding free old k at) (same_fits x g old k at k.inc) (other_fits x g free old k at)

made_fits : (x : ℕ) (g : Goal) (free : Bool) (k : Known) (kept : Option Known) (at : Option At) → Fits x g ((made_by free k kept at).step)
made_fits x g free k kept None = tt
made_fits x g free k kept (Some at) = bound_fits x g free k at kept

lost_fits : (x : ℕ) (g : Goal) (kept : Option Known) (at : Option At) → Fits x g ((or_lost kept at).step)
lost_fits x g kept None = tt
lost_fits x g kept (Some at) = tt

bind_fits : (x : ℕ) (g : Goal) (free : Bool) (kept : Option Known) (r : BoundReply) → Fits x g ((bound_answer free kept r).step)
bind_fits x g free kept (bound.Live b server i grant stores) =
    bound_fits x g free (live_known b server i grant stores) (AtInvoke (live_known b server i grant stores) i) kept
bind_fits x g free kept (bound.Make b server grant stores) =
    made_fits x g free (made_known b server grant stores) kept (load_from (made_known b server grant stores) stores)
bind_fits x g free kept (bound.Write grant stores) = lost_fits x g kept (load_from (write_known grant stores) stores)
bind_fits x g free kept (bound.Conflict holder m) = tt

load_fits : (x : ℕ) (g : Goal) (kept : Option Known) (k : Known) (s : ℕ) (r : LoadedReply) → IncludesNode g → MeantFor x (Loaded r) →
    Fits x g ((loaded_answer kept k s g r).step)
load_fits x (Run o) kept k s (loaded.State st) node meant = tt
load_fits x (Include n) kept k s (loaded.State st) node meant = (node, meant)
load_fits x g kept k s (loaded.InDoubt holder) node meant = tt

activate_fits : (x : ℕ) (g : Goal) (k : Known) (i : ℕ) (kept : Option Known) → Fits x g ((activated_by k i kept).step)
activate_fits x g k i None = tt
activate_fits x g k i (Some old) =
    either_fits (λ (t : Moved). Fits x g t.step) (binding_eq old.binding k.binding) (with_inc i old (AtNote k i) old.inc) (call.moves (Some old) (AtNote k i)) (inc_fits x g i old (AtNote k i) old.inc) tt

record_fits : (x : ℕ) (g : Goal) (kept : Option Known) (k : Known) (i : ℕ) (r : RecordedReply) →
    Fits x g ((recorded_answer kept k i r).step)
record_fits x g kept k i recorded.Yes = tt
record_fits x g kept k i (recorded.Changed w) = tt

invoke_fits : (x : ℕ) (g : Goal) (kept : Option Known) (k : Known) (r : InvokedReply) → Fits x g ((invoked_answer kept k r).step)
invoke_fits x g kept k (invoked.Answered a) = tt
invoke_fits x g kept k (invoked.Conflict holder m) = tt
invoke_fits x g kept k (invoked.Changed w) = tt

answer_fits : (x : ℕ) (free : Bool) (kept : Option Known) (g : Goal) (at : At) (r : Reply) → IncludesNode g → MeantFor x r →
    Fits x g ((answered free kept g at r).step)
answer_fits x free kept g (AtBind a) (Bound r) node meant = bind_fits x g free kept r
answer_fits x free kept g (AtBind a) (Loaded r) node meant = tt
answer_fits x free kept g (AtBind a) (Activated r) node meant = tt
answer_fits x free kept g (AtBind a) (Noted r) node meant = tt
answer_fits x free kept g (AtBind a) (Invoked r) node meant = tt
answer_fits x free kept g (AtBind a) (Voted r) node meant = tt
answer_fits x free kept g (AtBind a) (Prepared r) node meant = tt
answer_fits x free kept g (AtBind a) (Confirmed r) node meant = tt
answer_fits x free kept g (AtLoad k s ss) (Bound r) node meant = tt
answer_fits x free kept g (AtLoad k s ss) (Loaded r) node meant = load_fits x g kept k s r node meant
answer_fits x free kept g (AtLoad k s ss) (Activated r) node meant = tt
answer_fits x free kept g (AtLoad k s ss) (Noted r) node meant = tt
answer_fits x free kept g (AtLoad k s ss) (Invoked r) node meant = tt
answer_fits x free kept g (AtLoad k s ss) (Voted r) node meant = tt
answer_fits x free kept g (AtLoad k s ss) (Prepared r) node meant = tt
answer_fits x free kept g (AtLoad k s ss) (Confirmed r) node meant = tt
answer_fits x free kept g (AtActivate k st) (Bound r) node meant = tt
answer_fits x free kept g (AtActivate k st) (Loaded r) node meant = tt
answer_fits x free kept g (AtActivate k st) (Activated r) node meant = activate_fits x g k r kept
answer_fits x free kept g (AtActivate k st) (Noted r) node meant = tt
answer_fits x free kept g (AtActivate k st) (Invoked r) node meant = tt
answer_fits x free kept g (AtActivate k st) (Voted r) node meant = tt
answer_fits x free kept g (AtActivate k st) (Prepared r) node meant = tt
answer_fits x free kept g (AtActivate k st) (Confirmed r) node meant = tt
answer_fits x free kept g (AtNote k i) (Bound r) node meant = tt
answer_fits x free kept g (AtNote k i) (Loaded r) node meant = tt
answer_fits x free kept g (AtNote k i) (Activated r) node meant = tt
answer_fits x free kept g (AtNote k i) (Noted r) node meant = record_fits x g kept k i r
answer_fits x free kept g (AtNote k i) (Invoked r) node meant = tt
answer_fits x free kept g (AtNote k i) (Voted r) node meant = tt
answer_fits x free kept g (AtNote k i) (Prepared r) node meant = tt
answer_fits x free kept g (AtNote k i) (Confirmed r) node meant = tt
answer_fits x free kept g (AtInvoke k i) (Bound r) node meant = tt
answer_fits x free kept g (AtInvoke k i) (Loaded r) node meant = tt
answer_fits x free kept g (AtInvoke k i) (Activated r) node meant = tt
answer_fits x free kept g (AtInvoke k i) (Noted r) node meant = tt
answer_fits x free kept g (AtInvoke k i) (Invoked r) node meant = invoke_fits x g kept k r
answer_fits x free kept g (AtInvoke k i) (Voted r) node meant = tt
answer_fits x free kept g (AtInvoke k i) (Prepared r) node meant = tt
answer_fits x free kept g (AtInvoke k i) (Confirmed r) node meant = tt

next_fits : (w : Caller) (s : Steps) (next : CallStep) → IncludesNode s.goal → w.x ≡ s.x → goal_of w.goal ≡ s.goal → Fits s.x s.goal next →
    StepFits w (came_by s next)
next_fits w s (On at) node object goal fits = node
next_fits w s (Ended e) node object goal fits =
    subst (λ x. EndFits x (store_of (goal_of w.goal)) e) (sym object) (subst (λ g. EndFits s.x (store_of g) e) (sym goal) fits)

-- after an answer
pub heard_fits : (w : Caller) (s : Steps) (free : Bool) (k : Keeping) (o : Option Reply) (came : Came) → IncludesNode s.goal →
    IsCaller w s → IfSome o (MeantFor s.x)
    → came ≡ (hears free k s o).came → StepFits w came
heard_fits w s free k None came node caller meant is = subst (StepFits w) (sym is) tt
heard_fits w s free k (Some r) came node caller meant is =
    subst (StepFits w) (sym is) (next_fits w s ((answered free k.kept s.goal s.at r).step) node caller.object caller.goal (answer_fits s.x free k.kept s.goal s.at r node meant))

again_fits : (x : ℕ) (g : Goal) (k : Known) (s : ℕ) (ss : List ℕ) → Fits x g (load_given_up k s ss)
again_fits x g k s [] = tt
again_fits x g k s (t ∷ ts) = tt

lost_at_fits : (x : ℕ) (g : Goal) (at : At) → Fits x g (given_up at)
lost_at_fits x g (AtBind a) = tt
lost_at_fits x g (AtLoad k s ss) = again_fits x g k s ss
lost_at_fits x g (AtActivate k st) = tt
lost_at_fits x g (AtNote k i) = tt
lost_at_fits x g (AtInvoke k i) = tt

-- after a giveup
pub given_up_fits : (w : Caller) (s : Steps) (came : Came) → IncludesNode s.goal → IsCaller w s → came ≡ came_by s (given_up s.at) →
    StepFits w came
given_up_fits w s came node caller is =
    subst (StepFits w) (sym is) (next_fits w s (given_up s.at) node caller.object caller.goal (lost_at_fits s.x s.goal s.at))
