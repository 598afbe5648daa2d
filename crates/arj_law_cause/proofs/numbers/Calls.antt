-- The steps of a call: what is known of a binding, and what an answer leads to.
use Rattle.arj_law_parts.proofs.Words
use Words.{⊤, ◌==◌, ◌&&◌, ℕ, Bool, true, false, cond, List, [], ◌∷◌, Option, Some, None, IfSome, arith, unwrap_or, Binding, BoundReply, End}
use Words.{Goal, Include, InvokedReply, LoadedReply, RecordedReply, Reply, Run, Uid, At, AtActivate, AtBind, AtInvoke, AtLoad, AtNote, CallEnd}
use Words.{CallStep, Changed, Ended, Known, Moved, On, activated_by, answered, ask_at, binding_eq, binding_less, bound_answer, bound_by}
use Words.{finds, given_up, invoked_answer, live_known, load_from, loaded_answer, made_by, made_known, moves, named_again, or_lost, recorded_answer}
use Words.{recorded_kept, same_binding, start_at, two_bindings, two_incs, unbound, with_inc, write_known}
use Words.bound
use Words.invoked
use Words.loaded
use Words.recorded
use Rattle.arj_msg.specs.Fields.{BindingFits}
use Rattle.arj_msg.specs.InForm.{IsShort, WhatFits}
use Rattle.arj_law_cause.proofs.numbers.Fits.{AskNums, BoundNums, ReplyNums, bindings_differ, incs_differ}

-- ---- what is known

-- a binding, an incarnation of its server if one is known, and naming's at the grant
abbrev pub KnownNums : Known → Type 0
KnownNums k = BindingFits k.binding × IfSome k.inc IsShort × IsShort k.grant

abbrev pub KeptNums : Option Known → Type 0
KeptNums o = IfSome o KnownNums

-- in the step that waits
abbrev pub AtNums : At → Type 0
AtNums (AtBind avoid) = BindingFits avoid
AtNums (AtLoad k s rest) = KnownNums k
AtNums (AtActivate k st) = KnownNums k
AtNums (AtNote k i) = KnownNums k × IsShort i
AtNums (AtInvoke k i) = KnownNums k × IsShort i

-- a call ends with what fits
abbrev pub EndNums : CallEnd → Type 0
EndNums (Changed n w) = WhatFits w
EndNums e = ⊤

abbrev pub StepNums : CallStep → Type 0
StepNums (On at) = AtNums at
StepNums (Ended e) = EndNums e

abbrev pub MovedNums : Moved → Type 0
MovedNums m = StepNums m.step × KeptNums m.kept

pub none_fits : BindingFits unbound
none_fits = (omega arith, omega arith)

pub some_inc : (o : Option ℕ) → IfSome o IsShort → IsShort (unwrap_or o 0)
some_inc None its = omega arith
some_inc (Some i) its = its

-- ---- steps

inc_nums : (i : ℕ) (kept : Known) (at : At) (o : Option ℕ) → IsShort i → KnownNums kept → AtNums at → IfSome o IsShort →
    MovedNums (with_inc i kept at o)
inc_nums i kept at None its ks s fits = (s, (ks.0, its, ks.2))
inc_nums i kept at (Some first) its ks s fits = by (first == i)
  where
    by : (b : Bool) → MovedNums (cond b (moves (Some kept) at) (finds (Some kept) (Changed kept.server (two_incs first i))))
    by true = (s, ks)
    by false = (incs_differ first i fits its, ks)

by_nums : (free : Bool) (k : Known) (at : At) (kept : Option Known) → KnownNums k → KeptNums kept → AtNums at →
    MovedNums (bound_by free k at kept)
by_nums free k at None ks had s = (s, ks)
by_nums free k at (Some old) ks had s = by (binding_eq old.binding k.binding)
  where
    same : (o : Option ℕ) → IfSome o IsShort → MovedNums (same_binding old k at o)
    same None fits = (s, had)
    same (Some i) fits = inc_nums i (named_again old k) at old.inc fits had s had.1

    other : (b : Bool) → MovedNums (cond b (moves (Some k) at) (finds (Some old) (Changed 1 (two_bindings old.binding k.binding))))
    other true = (s, ks)
    other false = (bindings_differ old.binding k.binding had.0 ks.0, had)

    by : (b : Bool) → MovedNums (cond b (same_binding old k at k.inc) (cond (free && binding_less old.binding k.binding) (moves (Some k) at)
        (finds (Some old) (Changed 1 (two_bindings old.binding k.binding)))))
    by true = same k.inc ks.1
    by false = other (free && binding_less old.binding k.binding)

loads_nums : (k : Known) (stores : List ℕ) → KnownNums k → IfSome (load_from k stores) AtNums
loads_nums k [] ks = tt
loads_nums k (s ∷ ss) ks = ks

activated_nums : (k : Known) (i : ℕ) (kept : Option Known) → IsShort i → KeptNums kept → KnownNums k → MovedNums (activated_by k i kept)
activated_nums k i None its ks known = ((known, its), tt)
activated_nums k i (Some old) its ks known = by (binding_eq old.binding k.binding)
  where
    by : (b : Bool) → MovedNums (cond b (with_inc i old (AtNote k i) old.inc) (moves (Some old) (AtNote k i)))
    by true = inc_nums i old (AtNote k i) old.inc its ks (known, its) ks.1
    by false = ((known, its), ks)

noted_nums : (k : Known) (i : ℕ) (kept : Option Known) → KeptNums kept → KnownNums k × IsShort i → (r : RecordedReply) →
    ReplyNums (Reply.Noted r) → MovedNums (recorded_answer kept k i r)
noted_nums k i kept ks its recorded.Yes rs = (its, by kept ks)
  where
    by : (o : Option Known) → KeptNums o → KeptNums (recorded_kept k o)
    by None s = tt
    by (Some old) s = same (binding_eq old.binding k.binding)
      where
        same : (b : Bool) → KeptNums (cond b (Some (record old { recorded = true })) (Some old))
        same true = s
        same false = s
noted_nums k i kept ks its (recorded.Changed w) rs = (rs, ks)

invoked_nums : (k : Known) (kept : Option Known) → KeptNums kept → (r : InvokedReply) → ReplyNums (Reply.Invoked r) → MovedNums (invoked_answer kept k r)
invoked_nums k kept ks (invoked.Answered a) rs = (tt, ks)
invoked_nums k kept ks (invoked.Conflict holder m) rs = (tt, ks)
invoked_nums k kept ks (invoked.Changed w) rs = (rs, ks)

bound_nums : (free : Bool) (kept : Option Known) → KeptNums kept → (r : BoundReply) → BoundNums r → MovedNums (bound_answer free kept r)
bound_nums free kept ks (bound.Live b server i n stores) rs = by_nums free (live_known b server i n stores)
    (AtInvoke (live_known b server i n stores) i) kept (rs.0, rs.1, rs.2) ks ((rs.0, rs.1, rs.2), rs.1)
bound_nums free kept ks (bound.Make b server n stores) rs = by (load_from (made_known b server n stores) stores)
    (loads_nums (made_known b server n stores) stores (rs.0, tt, rs.1))
  where
    by : (o : Option At) → IfSome o AtNums → MovedNums (made_by free (made_known b server n stores) kept o)
    by None its = (tt, ks)
    by (Some at) its = by_nums free (made_known b server n stores) at kept (rs.0, tt, rs.1) ks its
bound_nums free kept ks (bound.Write n stores) rs =
    by (load_from (write_known n stores) stores) (loads_nums (write_known n stores) stores (none_fits, tt, rs))
  where
    by : (o : Option At) → IfSome o AtNums → MovedNums (or_lost kept o)
    by None its = (tt, ks)
    by (Some at) its = (its, ks)
bound_nums free kept ks (bound.Conflict holder m) rs = (tt, ks)

loaded_nums : (kept : Option Known) → KeptNums kept → (k : Known) (s : ℕ) (g : Goal) → KnownNums k → (r : LoadedReply) →
    MovedNums (loaded_answer kept k s g r)
loaded_nums kept ks k s (Run o) its (loaded.State st) = (its, ks)
loaded_nums kept ks k s (Include n) its (loaded.State st) = (tt, ks)
loaded_nums kept ks k s (Run o) its (loaded.InDoubt holder) = (tt, ks)
loaded_nums kept ks k s (Include n) its (loaded.InDoubt holder) = (tt, ks)

pub answered_nums : (free : Bool) (kept : Option Known) (g : Goal) (at : At) (r : Reply) → KeptNums kept → AtNums at → ReplyNums r →
    MovedNums (answered free kept g at r)
answered_nums free kept g (AtBind avoid) (Reply.Bound r) ks so rs = bound_nums free kept ks r rs
answered_nums free kept g (AtLoad k s rest) (Reply.Loaded r) ks so rs = loaded_nums kept ks k s g so r
answered_nums free kept g (AtActivate k st) (Reply.Activated j) ks so rs = activated_nums k j kept rs ks so
answered_nums free kept g (AtNote k i) (Reply.Noted r) ks so rs = noted_nums k i kept ks so r rs
answered_nums free kept g (AtInvoke k i) (Reply.Invoked r) ks so rs = invoked_nums k kept ks r rs
answered_nums free kept g at r ks so rs = (so, ks)

pub given_up_nums : (at : At) → AtNums at → StepNums (given_up at)
given_up_nums (AtBind avoid) s = tt
given_up_nums (AtLoad k n []) s = tt
given_up_nums (AtLoad k n (m ∷ ms)) s = s
given_up_nums (AtActivate k st) s = tt
given_up_nums (AtNote k i) s = tt
given_up_nums (AtInvoke k i) s = tt

pub start_nums : (o : Option Known) (avoid : Binding) → KeptNums o → BindingFits avoid → AtNums (start_at o avoid)
start_nums None avoid ks its = its
start_nums (Some k) avoid ks its = (ks, some_inc k.inc ks.1)

-- what a step asks
pub asks_nums : (x : ℕ) (g : Goal) (ends : List (Uid × End)) (at : At) → AtNums at → AskNums (ask_at x g ends at)
asks_nums x g ends (AtBind avoid) its = its
asks_nums x g ends (AtLoad k n rest) its = tt
asks_nums x g ends (AtActivate k st) its = its.0
asks_nums x g ends (AtNote k i) its = let k2 = its.0 in (k2.0, its.1, k2.2)
asks_nums x g ends (AtInvoke k i) its = let k2 = its.0 in (k2.0, its.1)
