-- The copies of servers that coordinators know.
use Rattle.arj_law_parts.proofs.Words
use Words.{◌≡◌, ◌==◌, arith, ℕ, List, [], ◌∷◌, Bool, true, false, cond, ◌&&◌, Option, Some, None, refl, sym, ◌∙◌, ap, subst, eqb-true}
use Words.{unwrap_or, Uid, Binding, End, Ask, Head, BoundReply, LoadedReply, RecordedReply, InvokedReply, asks, request, Reply, Known, Goal}
use Words.{Run, Include, At, AtBind, AtLoad, AtActivate, AtNote, AtInvoke, Changed, answered, activated_by, bound_by, finds, given_up}
use Words.{invoked_answer, live_known, load_from, loaded_answer, made_by, made_known, moves, named_again, node_at, or_lost, other_binding}
use Words.{recorded_answer, recorded_kept, same_binding, start_at, with_inc, write_known, ask_at, bound_answer, two_incs, two_bindings}
use Words.{binding_eq, binding_less, binding_number}
use Words.ask
use Words.bound
use Words.loaded
use Words.recorded
use Words.invoked
use Rattle.arj_law_parts.proofs.Terms
use Terms.{Homes, Reach, IsAtSo, IsKeptSo, IsKnownSo, IsMovedSo, IsPastZero, IsReached, IsStepSo, NamesAsk, NamesBound, NamesReply, home_of}
use Rattle.arj_law_parts.specs.parts.Lives.{IsLoadedOf, IsOfObject, NamesAsked}

-- ---- one step of a call

module _ (home : Homes) (reach : Reach) (nobody : home 0 ≡ 0) (early : IsPastZero reach) (x : ℕ) where
  same_home : (b c : Binding) → binding_eq b c ≡ true → home_of home b ≡ home_of home c
  same_home b c is = ap home (eqb-true (binding_number b) (binding_number c) is)

  some_inc : (i j : ℕ) → Some i ≡ Some j → i ≡ j
  some_inc i j is = let k : ◌≡◌ {A = Option ℕ} (Some i) (Some j) = is in cc

  no_inc : {P : Type 0} (i : ℕ) → None ≡ Some i → P
  no_inc i is = let no_way : ◌≡◌ {A = Option ℕ} None (Some i) = is in cc

  -- what was reached under one binding was under another of the same number, which has the same server
  same_reached : (n m : ℕ) (b c : Binding) (i : ℕ) → n ≡ m → binding_eq b c ≡ true → IsReached reach n x b i → IsReached reach m x c i
  same_reached n m b c i at is its = subst (λ z. reach m x z i ≡ true) (eqb-true (binding_number b) (binding_number c) is)
      (subst (λ z. reach z x (binding_number b) i ≡ true) at its)

  turned : (b c : Binding) → binding_eq b c ≡ true → binding_eq c b ≡ true
  turned b c is = number (binding_number b) (binding_number c) is
    where
      number : (n m : ℕ) → (n == m) ≡ true → (m == n) ≡ true
      number n m same = grind (arith, same)

  -- one more incarnation of the kept binding
  with_so : (i : ℕ) (kept : Known) (at : At) (o : Option ℕ) → IsKnownSo home reach x kept → IsReached reach kept.server x kept.binding i →
      IsAtSo home reach x at → IsMovedSo home reach x (with_inc i kept at o)
  with_so i kept at None ks le s = (s, (ks.0, λ j is. subst (IsReached reach kept.server x kept.binding) (some_inc i j is) le))
  with_so i kept at (Some first) ks le s = by (first == i)
    where
      by : (b : Bool) → IsMovedSo home reach x (cond b (moves (Some kept) at) (finds (Some kept) (Changed kept.server (two_incs first i))))
      by true = (s, ks)
      by false = (tt, ks)

  by_so : (free : Bool) (k : Known) (at : At) (kept : Option Known) → IsKnownSo home reach x k → IsKeptSo home reach x kept →
      IsAtSo home reach x at → IsMovedSo home reach x (bound_by free k at kept)
  by_so free k at None ks kept_so s = (s, ks)
  by_so free k at (Some old) ks kept_so s = by (binding_eq old.binding k.binding) refl
    where
      server : binding_eq old.binding k.binding ≡ true → old.server ≡ k.server
      server same = kept_so.0 ∙ same_home old.binding k.binding same ∙ sym ks.0

      same_so : binding_eq old.binding k.binding ≡ true → (o : Option ℕ) → k.inc ≡ o → IsMovedSo home reach x (same_binding old k at o)
      same_so same None is = (s, (kept_so.0, kept_so.1))
      same_so same (Some i) is = with_so i (named_again old k) at old.inc (kept_so.0, kept_so.1)
          (same_reached k.server old.server k.binding old.binding i (sym (server same)) (turned old.binding k.binding same) (ks.1 i is)) s

      other_so : IsMovedSo home reach x (other_binding free old k at)
      other_so = one (free && binding_less old.binding k.binding)
        where
          one : (b : Bool) →
              IsMovedSo home reach x (cond b (moves (Some k) at) (finds (Some old) (Changed 1 (two_bindings old.binding k.binding))))
          one true = (s, ks)
          one false = (tt, kept_so)

      by : (b : Bool) → binding_eq old.binding k.binding ≡ b →
          IsMovedSo home reach x (cond b (same_binding old k at k.inc) (other_binding free old k at))
      by true same = same_so same k.inc refl
      by false same = other_so

  loads_so : (k : Known) (stores : List ℕ) → IsKnownSo home reach x k → (at : At) → load_from k stores ≡ Some at → IsAtSo home reach x at
  loads_so k [] ks at is = let no_way : ◌≡◌ {A = Option At} None (Some at) = is in cc
  loads_so k (s ∷ ss) ks at is = let e : ◌≡◌ {A = Option At} (Some (AtLoad k s ss)) (Some at) = is in let same : AtLoad k s ss ≡ at = cc in
      subst (IsAtSo home reach x) same ks

  written_so : (g : ℕ) (stores : List ℕ) → IsKnownSo home reach x (write_known g stores)
  written_so g stores = (sym nobody, λ i is. no_inc i is)

  bound_so : (free : Bool) (kept : Option Known) → IsKeptSo home reach x kept → (r : BoundReply) → NamesBound home reach x r →
      IsMovedSo home reach x (bound_answer free kept r)
  bound_so free kept ks (bound.Live b server i g stores) rs =
      by_so free (live_known b server i g stores) (AtInvoke (live_known b server i g stores) i) kept its ks (its, rs.1)
    where
      its : IsKnownSo home reach x (live_known b server i g stores)
      its = (rs.0, λ j is. subst (IsReached reach server x b) (some_inc i j is) rs.1)
  bound_so free kept ks (bound.Make b server g stores) rs = by (load_from (made_known b server g stores) stores) refl
    where
      its : IsKnownSo home reach x (made_known b server g stores)
      its = (rs, λ i is. no_inc i is)

      by : (o : Option At) → load_from (made_known b server g stores) stores ≡ o →
          IsMovedSo home reach x (made_by free (made_known b server g stores) kept o)
      by None is = (tt, ks)
      by (Some at) is = by_so free (made_known b server g stores) at kept its ks (loads_so (made_known b server g stores) stores its at is)
  bound_so free kept ks (bound.Write g stores) rs = by (load_from (write_known g stores) stores) refl
    where
      by : (o : Option At) → load_from (write_known g stores) stores ≡ o → IsMovedSo home reach x (or_lost kept o)
      by None is = (tt, ks)
      by (Some at) is = (loads_so (write_known g stores) stores (written_so g stores) at is, ks)
  bound_so free kept ks (bound.Conflict holder m) rs = (tt, ks)

  loaded_so : (kept : Option Known) → IsKeptSo home reach x kept → (k : Known) (s : ℕ) → IsKnownSo home reach x k →
      (g : Goal) (r : LoadedReply) → IsLoadedOf x r → IsMovedSo home reach x (loaded_answer kept k s g r)
  loaded_so kept ks k s its (Run o) (loaded.State st) of_x = ((its, of_x), ks)
  loaded_so kept ks k s its (Include n) (loaded.State st) of_x = (tt, ks)
  loaded_so kept ks k s its (Run o) (loaded.InDoubt holder) of_x = (tt, ks)
  loaded_so kept ks k s its (Include n) (loaded.InDoubt holder) of_x = (tt, ks)

  activated_so : (k : Known) (i : ℕ) (kept : Option Known) → IsKeptSo home reach x kept → IsKnownSo home reach x k →
      IsReached reach k.server x k.binding i → IsMovedSo home reach x (activated_by k i kept)
  activated_so k i None ks its le = ((its, le), tt)
  activated_so k i (Some old) ks its le = by (binding_eq old.binding k.binding) refl
    where
      by : (b : Bool) → binding_eq old.binding k.binding ≡ b →
          IsMovedSo home reach x (cond b (with_inc i old (AtNote k i) old.inc) (moves (Some old) (AtNote k i)))
      by true same = with_so i old (AtNote k i) old.inc ks (same_reached k.server old.server k.binding old.binding i
          (sym (ks.0 ∙ same_home old.binding k.binding same ∙ sym its.0)) (turned old.binding k.binding same) le) (its, le)
      by false same = ((its, le), ks)

  noted_so : (k : Known) (i : ℕ) (kept : Option Known) → IsKeptSo home reach x kept → IsKnownSo home reach x k
      × IsReached reach k.server x k.binding i → (r : RecordedReply) → IsMovedSo home reach x (recorded_answer kept k i r)
  noted_so k i kept ks its recorded.Yes = (its, by kept ks)
    where
      by : (o : Option Known) → IsKeptSo home reach x o → IsKeptSo home reach x (recorded_kept k o)
      by None s = tt
      by (Some old) s = one (binding_eq old.binding k.binding)
        where
          one : (b : Bool) → IsKeptSo home reach x (cond b (Some (record old { recorded = true })) (Some old))
          one true = (s.0, s.1)
          one false = s
  noted_so k i kept ks its (recorded.Changed w) = (tt, ks)

  invoked_so : (k : Known) (kept : Option Known) → IsKeptSo home reach x kept → (r : InvokedReply) →
      IsMovedSo home reach x (invoked_answer kept k r)
  invoked_so k kept ks (invoked.Answered a) = (tt, ks)
  invoked_so k kept ks (invoked.Conflict holder m) = (tt, ks)
  invoked_so k kept ks (invoked.Changed w) = (tt, ks)

  -- an answer of the node that was asked, to what was asked
  pub answered_so : (free : Bool) (kept : Option Known) (g : Goal) (at : At) (r : Reply) → IsKeptSo home reach x kept → IsAtSo home reach x
      at → NamesReply home reach (node_at at) (ask_at x g [] at) r → IsOfObject x r → IsMovedSo home reach x (answered free kept g at r)
  answered_so free kept g (AtBind avoid) (Reply.Bound r) ks st_so rs of_x = bound_so free kept ks r rs
  answered_so free kept g (AtBind avoid) (Reply.Loaded r) ks st_so rs of_x = (st_so, ks)
  answered_so free kept g (AtBind avoid) (Reply.Activated j) ks st_so rs of_x = (st_so, ks)
  answered_so free kept g (AtBind avoid) (Reply.Noted r) ks st_so rs of_x = (st_so, ks)
  answered_so free kept g (AtBind avoid) (Reply.Invoked r) ks st_so rs of_x = (st_so, ks)
  answered_so free kept g (AtBind avoid) (Reply.Voted r) ks st_so rs of_x = (st_so, ks)
  answered_so free kept g (AtBind avoid) (Reply.Prepared r) ks st_so rs of_x = (st_so, ks)
  answered_so free kept g (AtBind avoid) (Reply.Confirmed r) ks st_so rs of_x = (st_so, ks)
  answered_so free kept g (AtLoad k s rest) (Reply.Bound r) ks st_so rs of_x = (st_so, ks)
  answered_so free kept g (AtLoad k s rest) (Reply.Loaded r) ks st_so rs of_x = loaded_so kept ks k s st_so g r of_x
  answered_so free kept g (AtLoad k s rest) (Reply.Activated j) ks st_so rs of_x = (st_so, ks)
  answered_so free kept g (AtLoad k s rest) (Reply.Noted r) ks st_so rs of_x = (st_so, ks)
  answered_so free kept g (AtLoad k s rest) (Reply.Invoked r) ks st_so rs of_x = (st_so, ks)
  answered_so free kept g (AtLoad k s rest) (Reply.Voted r) ks st_so rs of_x = (st_so, ks)
  answered_so free kept g (AtLoad k s rest) (Reply.Prepared r) ks st_so rs of_x = (st_so, ks)
  answered_so free kept g (AtLoad k s rest) (Reply.Confirmed r) ks st_so rs of_x = (st_so, ks)
  answered_so free kept g (AtActivate k st) (Reply.Bound r) ks st_so rs of_x = (st_so, ks)
  answered_so free kept g (AtActivate k st) (Reply.Loaded r) ks st_so rs of_x = (st_so, ks)
  answered_so free kept g (AtActivate k st) (Reply.Activated j) ks st_so rs of_x =
      activated_so k j kept ks st_so.0 (subst (λ z. reach k.server z (binding_number k.binding) j ≡ true) st_so.1 rs.0)
  answered_so free kept g (AtActivate k st) (Reply.Noted r) ks st_so rs of_x = (st_so, ks)
  answered_so free kept g (AtActivate k st) (Reply.Invoked r) ks st_so rs of_x = (st_so, ks)
  answered_so free kept g (AtActivate k st) (Reply.Voted r) ks st_so rs of_x = (st_so, ks)
  answered_so free kept g (AtActivate k st) (Reply.Prepared r) ks st_so rs of_x = (st_so, ks)
  answered_so free kept g (AtActivate k st) (Reply.Confirmed r) ks st_so rs of_x = (st_so, ks)
  answered_so free kept g (AtNote k i) (Reply.Bound r) ks st_so rs of_x = (st_so, ks)
  answered_so free kept g (AtNote k i) (Reply.Loaded r) ks st_so rs of_x = (st_so, ks)
  answered_so free kept g (AtNote k i) (Reply.Activated j) ks st_so rs of_x = (st_so, ks)
  answered_so free kept g (AtNote k i) (Reply.Noted r) ks st_so rs of_x = noted_so k i kept ks st_so r
  answered_so free kept g (AtNote k i) (Reply.Invoked r) ks st_so rs of_x = (st_so, ks)
  answered_so free kept g (AtNote k i) (Reply.Voted r) ks st_so rs of_x = (st_so, ks)
  answered_so free kept g (AtNote k i) (Reply.Prepared r) ks st_so rs of_x = (st_so, ks)
  answered_so free kept g (AtNote k i) (Reply.Confirmed r) ks st_so rs of_x = (st_so, ks)
  answered_so free kept g (AtInvoke k i) (Reply.Bound r) ks st_so rs of_x = (st_so, ks)
  answered_so free kept g (AtInvoke k i) (Reply.Loaded r) ks st_so rs of_x = (st_so, ks)
  answered_so free kept g (AtInvoke k i) (Reply.Activated j) ks st_so rs of_x = (st_so, ks)
  answered_so free kept g (AtInvoke k i) (Reply.Noted r) ks st_so rs of_x = (st_so, ks)
  answered_so free kept g (AtInvoke k i) (Reply.Invoked r) ks st_so rs of_x = invoked_so k kept ks r
  answered_so free kept g (AtInvoke k i) (Reply.Voted r) ks st_so rs of_x = (st_so, ks)
  answered_so free kept g (AtInvoke k i) (Reply.Prepared r) ks st_so rs of_x = (st_so, ks)
  answered_so free kept g (AtInvoke k i) (Reply.Confirmed r) ks st_so rs of_x = (st_so, ks)

  pub given_up_so : (at : At) → IsAtSo home reach x at → IsStepSo home reach x (given_up at)
  given_up_so (AtBind avoid) s = tt
  given_up_so (AtLoad k n []) s = tt
  given_up_so (AtLoad k n (m ∷ ms)) s = s
  given_up_so (AtActivate k st) s = tt
  given_up_so (AtNote k i) s = tt
  given_up_so (AtInvoke k i) s = tt

  pub start_so : (o : Option Known) (avoid : Binding) → IsKeptSo home reach x o → IsAtSo home reach x (start_at o avoid)
  start_so None avoid s = tt
  start_so (Some k) avoid s = (s, by k.inc refl)
    where
      by : (o : Option ℕ) → k.inc ≡ o → IsReached reach k.server x k.binding (unwrap_or o 0)
      by None is = early k.server x (binding_number k.binding)
      by (Some i) is = s.1 i is

  -- what a step asks of its node
  pub asks_so : (g : Goal) (ends : List (Uid × End)) (at : At) → IsAtSo home reach x at →
      NamesAsk home reach (node_at at) (ask_at x g ends at)
  asks_so g ends (AtBind avoid) s = tt
  asks_so g ends (AtLoad k n rest) s = tt
  asks_so g ends (AtActivate k st) s = s.0.0
  asks_so g ends (AtNote k i) s = subst (λ n. IsReached reach n x k.binding i) s.0.0 s.1
  asks_so g ends (AtInvoke k i) s = (s.0.0, s.1)

-- a request as a message
pub request_so : (home : Homes) (reach : Reach) (to : ℕ) (h : Head) (a : Ask) → NamesAsk home reach to a →
    NamesAsked home reach to (asks (request h a))
request_so home reach to h (ask.Bind x i avoid) s = s
request_so home reach to h (ask.Load x) s = s
request_so home reach to h (ask.Activate b st) s = s
request_so home reach to h (ask.Record x b i g) s = s
request_so home reach to h (ask.Invoke x b i ends o) s = s
request_so home reach to h (ask.Vote i ties ends) s = s
request_so home reach to h (ask.Prepare states) s = s
request_so home reach to h (ask.Confirm g e i) s = s
