-- The steps of a call: whom they ask.
use Rattle.arj_law_parts.proofs.Words
use Words.{◌==◌, ℕ, List, [], ◌∷◌, Bool, true, false, cond, ◌&&◌, Option, Some, None, IfSome, Uid, Ask, Binding, BoundReply, End, Head}
use Words.{InvokedReply, LoadedReply, RecordedReply, request, Reply, At, AtActivate, AtBind, AtInvoke, AtLoad, AtNote, Changed, Goal}
use Words.{Include, Known, Run, activated_by, answered, ask_at, bound_answer, bound_by, finds, given_up, invoked_answer, live_known}
use Words.{load_from, loaded_answer, made_by, made_known, moves, named_again, node_at, or_lost, other_binding, recorded_answer}
use Words.{recorded_kept, same_binding, start_at, two_bindings, two_incs, with_inc, write_known, binding_eq, binding_less}
use Words.ask
use Words.bound
use Words.invoked
use Words.loaded
use Words.recorded
use Rattle.arj_law_runs.proofs.Terms
use Terms.{AreOf, AskOf, BoundOf, KeptOf, KnownOf, MessageOf, MovedOf, PathOf, ReplyOf, StepOf, Answers, AnswersAt}
use Rattle.arj_law_runs.specs.addresses.Addresses.{AtOf, GoalOf, KnownFor}

module _ (G : ℕ → Type 0) (one : G 1) where
  module _ (g : Goal) where
    with_of : (i : ℕ) (kept : Known) (at : At) (o : Option ℕ) → KnownOf G kept → AtOf G g at → MovedOf G g (with_inc i kept at o)
    with_of i kept at None ks s = (s, ks)
    with_of i kept at (Some first) ks s = by (first == i)
      where
        by : (b : Bool) → MovedOf G g (cond b (moves (Some kept) at) (finds (Some kept) (Changed kept.server (two_incs first i))))
        by true = (s, ks)
        by false = (ks.0, ks)

    by_of : (free : Bool) (k : Known) (at : At) (kept : Option Known) → KnownOf G k → KeptOf G kept → AtOf G g at →
        MovedOf G g (bound_by free k at kept)
    by_of free k at None ks had s = (s, ks)
    by_of free k at (Some old) ks had s = by (binding_eq old.binding k.binding)
      where
        again : KnownOf G (named_again old k)
        again = (had.0, ks.1)

        same : (o : Option ℕ) → MovedOf G g (same_binding old k at o)
        same None = (s, again)
        same (Some i) = with_of i (named_again old k) at old.inc again s

        other : (b : Bool) → MovedOf G g (cond b (moves (Some k) at) (finds (Some old) (Changed 1 (two_bindings old.binding k.binding))))
        other true = (s, ks)
        other false = (one, had)

        by : (b : Bool) → MovedOf G g (cond b (same_binding old k at k.inc) (other_binding free old k at))
        by true = same k.inc
        by false = other (free && binding_less old.binding k.binding)

    loads_of : (k : Known) (stores : List ℕ) → KnownFor G g k → AreOf G stores → IfSome (load_from k stores) (AtOf G g)
    loads_of k [] ks all = tt
    loads_of k (s ∷ ss) ks all = (ks, all.0, all.1)

    activated_of : (k : Known) (i : ℕ) (kept : Option Known) → KeptOf G kept → KnownOf G k → MovedOf G g (activated_by k i kept)
    activated_of k i None ks its = (its, tt)
    activated_of k i (Some old) ks its = by (binding_eq old.binding k.binding)
      where
        by : (b : Bool) → MovedOf G g (cond b (with_inc i old (AtNote k i) old.inc) (moves (Some old) (AtNote k i)))
        by true = with_of i old (AtNote k i) old.inc ks its
        by false = (its, ks)

    noted_of : (k : Known) (i : ℕ) (kept : Option Known) → KeptOf G kept → KnownOf G k → (r : RecordedReply) →
        MovedOf G g (recorded_answer kept k i r)
    noted_of k i kept ks its recorded.Yes = (its, by kept ks)
      where
        by : (o : Option Known) → KeptOf G o → KeptOf G (recorded_kept k o)
        by None s = tt
        by (Some old) s = same (binding_eq old.binding k.binding)
          where
            same : (b : Bool) → KeptOf G (cond b (Some (record old { recorded = true })) (Some old))
            same true = s
            same false = s
    noted_of k i kept ks its (recorded.Changed w) = (one, ks)

    invoked_of : (k : Known) (kept : Option Known) → GoalOf G g → KnownOf G k → KeptOf G kept → (r : InvokedReply) →
        MovedOf G g (invoked_answer kept k r)
    invoked_of k kept goal its ks (invoked.Answered a) = (goal, ks)
    invoked_of k kept goal its ks (invoked.Conflict holder m) = (its.0, ks)
    invoked_of k kept goal its ks (invoked.Changed w) = (its.0, ks)

  known_for : (g : Goal) (k : Known) → KnownOf G k → KnownFor G g k
  known_for (Run o) k ks = ks
  known_for (Include n) k ks = ks.1

  -- what a Write tells is of an include
  write_for : (g : Goal) (i : ℕ) (stores : List ℕ) → Answers g (bound.Write i stores) → AreOf G stores → KnownFor G g (write_known i stores)
  write_for (Run o) i stores fits all = absurd fits
  write_for (Include n) i stores fits all = all

  bound_of : (free : Bool) (kept : Option Known) (g : Goal) → KeptOf G kept → (r : BoundReply) → Answers g r → BoundOf G r →
      MovedOf G g (bound_answer free kept r)
  bound_of free kept g ks (bound.Live b server i n stores) fits rs =
      by_of g free (live_known b server i n stores) (AtInvoke (live_known b server i n stores) i) kept rs ks rs
  bound_of free kept g ks (bound.Make b server n stores) fits rs = by (load_from (made_known b server n stores) stores)
      (loads_of g (made_known b server n stores) stores (known_for g (made_known b server n stores) rs) rs.1)
    where
      by : (o : Option At) → IfSome o (AtOf G g) → MovedOf G g (made_by free (made_known b server n stores) kept o)
      by None its = (one, ks)
      by (Some at) its = by_of g free (made_known b server n stores) at kept rs ks its
  bound_of free kept g ks (bound.Write n stores) fits rs =
      by (load_from (write_known n stores) stores) (loads_of g (write_known n stores) stores (write_for g n stores fits rs) rs)
    where
      by : (o : Option At) → IfSome o (AtOf G g) → MovedOf G g (or_lost kept o)
      by None its = (one, ks)
      by (Some at) its = (its, ks)
  bound_of free kept g ks (bound.Conflict holder m) fits rs = (one, ks)

  loaded_of : (kept : Option Known) → KeptOf G kept → (k : Known) (s : ℕ) (g : Goal) → GoalOf G g → KnownFor G g k → G s →
      (r : LoadedReply) → MovedOf G g (loaded_answer kept k s g r)
  loaded_of kept ks k s (Run o) goal its store (loaded.State st) = (its, ks)
  loaded_of kept ks k s (Include n) goal its store (loaded.State st) = (goal, ks)
  loaded_of kept ks k s (Run o) goal its store (loaded.InDoubt holder) = (store, ks)
  loaded_of kept ks k s (Include n) goal its store (loaded.InDoubt holder) = (store, ks)

  pub answered_of : (free : Bool) (kept : Option Known) (g : Goal) (at : At) (r : Reply) → GoalOf G g → AnswersAt g at r → KeptOf G kept →
      AtOf G g at → ReplyOf G r → MovedOf G g (answered free kept g at r)
  answered_of free kept g (AtBind avoid) (Reply.Bound r) goal fits ks so rs = bound_of free kept g ks r fits rs
  answered_of free kept g (AtLoad k s rest) (Reply.Loaded r) goal fits ks so rs = loaded_of kept ks k s g goal so.0 so.1 r
  answered_of free kept g (AtActivate k st) (Reply.Activated j) goal fits ks so rs = activated_of g k j kept ks so
  answered_of free kept g (AtNote k i) (Reply.Noted r) goal fits ks so rs = noted_of g k i kept ks so r
  answered_of free kept g (AtInvoke k i) (Reply.Invoked r) goal fits ks so rs = invoked_of g k kept goal so ks r
  answered_of free kept g (AtBind avoid) (Reply.Loaded r) goal fits ks so rs = (so, ks)
  answered_of free kept g (AtBind avoid) (Reply.Activated j) goal fits ks so rs = (so, ks)
  answered_of free kept g (AtBind avoid) (Reply.Noted r) goal fits ks so rs = (so, ks)
  answered_of free kept g (AtBind avoid) (Reply.Invoked r) goal fits ks so rs = (so, ks)
  answered_of free kept g (AtBind avoid) (Reply.Voted r) goal fits ks so rs = (so, ks)
  answered_of free kept g (AtBind avoid) (Reply.Prepared r) goal fits ks so rs = (so, ks)
  answered_of free kept g (AtBind avoid) (Reply.Confirmed r) goal fits ks so rs = (so, ks)
  answered_of free kept g (AtLoad k s rest) (Reply.Bound r) goal fits ks so rs = (so, ks)
  answered_of free kept g (AtLoad k s rest) (Reply.Activated j) goal fits ks so rs = (so, ks)
  answered_of free kept g (AtLoad k s rest) (Reply.Noted r) goal fits ks so rs = (so, ks)
  answered_of free kept g (AtLoad k s rest) (Reply.Invoked r) goal fits ks so rs = (so, ks)
  answered_of free kept g (AtLoad k s rest) (Reply.Voted r) goal fits ks so rs = (so, ks)
  answered_of free kept g (AtLoad k s rest) (Reply.Prepared r) goal fits ks so rs = (so, ks)
  answered_of free kept g (AtLoad k s rest) (Reply.Confirmed r) goal fits ks so rs = (so, ks)
  answered_of free kept g (AtActivate k st) (Reply.Bound r) goal fits ks so rs = (so, ks)
  answered_of free kept g (AtActivate k st) (Reply.Loaded r) goal fits ks so rs = (so, ks)
  answered_of free kept g (AtActivate k st) (Reply.Noted r) goal fits ks so rs = (so, ks)
  answered_of free kept g (AtActivate k st) (Reply.Invoked r) goal fits ks so rs = (so, ks)
  answered_of free kept g (AtActivate k st) (Reply.Voted r) goal fits ks so rs = (so, ks)
  answered_of free kept g (AtActivate k st) (Reply.Prepared r) goal fits ks so rs = (so, ks)
  answered_of free kept g (AtActivate k st) (Reply.Confirmed r) goal fits ks so rs = (so, ks)
  answered_of free kept g (AtNote k i) (Reply.Bound r) goal fits ks so rs = (so, ks)
  answered_of free kept g (AtNote k i) (Reply.Loaded r) goal fits ks so rs = (so, ks)
  answered_of free kept g (AtNote k i) (Reply.Activated j) goal fits ks so rs = (so, ks)
  answered_of free kept g (AtNote k i) (Reply.Invoked r) goal fits ks so rs = (so, ks)
  answered_of free kept g (AtNote k i) (Reply.Voted r) goal fits ks so rs = (so, ks)
  answered_of free kept g (AtNote k i) (Reply.Prepared r) goal fits ks so rs = (so, ks)
  answered_of free kept g (AtNote k i) (Reply.Confirmed r) goal fits ks so rs = (so, ks)
  answered_of free kept g (AtInvoke k i) (Reply.Bound r) goal fits ks so rs = (so, ks)
  answered_of free kept g (AtInvoke k i) (Reply.Loaded r) goal fits ks so rs = (so, ks)
  answered_of free kept g (AtInvoke k i) (Reply.Activated j) goal fits ks so rs = (so, ks)
  answered_of free kept g (AtInvoke k i) (Reply.Noted r) goal fits ks so rs = (so, ks)
  answered_of free kept g (AtInvoke k i) (Reply.Voted r) goal fits ks so rs = (so, ks)
  answered_of free kept g (AtInvoke k i) (Reply.Prepared r) goal fits ks so rs = (so, ks)
  answered_of free kept g (AtInvoke k i) (Reply.Confirmed r) goal fits ks so rs = (so, ks)

  pub given_up_of : (g : Goal) (at : At) → AtOf G g at → StepOf G g (given_up at)
  given_up_of g (AtBind avoid) s = one
  given_up_of g (AtLoad k n []) s = s.1
  given_up_of g (AtLoad k n (m ∷ ms)) s = (s.0, s.2.0, s.2.1)
  given_up_of g (AtActivate k st) s = s.0
  given_up_of g (AtNote k i) s = one
  given_up_of g (AtInvoke k i) s = s.0

  pub start_of : (g : Goal) (o : Option Known) (avoid : Binding) → KeptOf G o → AtOf G g (start_at o avoid)
  start_of g None avoid s = tt
  start_of g (Some k) avoid s = s

  -- whom a step asks, and what
  pub node_of : (g : Goal) (at : At) → AtOf G g at → G (node_at at)
  node_of g (AtBind avoid) s = one
  node_of g (AtLoad k n rest) s = s.1
  node_of g (AtActivate k st) s = s.0
  node_of g (AtNote k i) s = one
  node_of g (AtInvoke k i) s = s.0

  pub asks_of : (x : ℕ) (g : Goal) (ends : List (Uid × End)) (at : At) → AskOf G (ask_at x g ends at)
  asks_of x g ends (AtBind avoid) = tt
  asks_of x g ends (AtLoad k n rest) = tt
  asks_of x g ends (AtActivate k st) = tt
  asks_of x g ends (AtNote k i) = tt
  asks_of x g ends (AtInvoke k i) = tt

  -- a request as a message
  pub request_of : (h : Head) (a : Ask) → PathOf G h.path → AskOf G a → MessageOf G (request h a)
  request_of h (ask.Bind x i avoid) path s = ((path, s), tt)
  request_of h (ask.Load x) path s = ((path, s), tt)
  request_of h (ask.Activate b st) path s = ((path, s), tt)
  request_of h (ask.Record x b i g) path s = ((path, s), tt)
  request_of h (ask.Invoke x b i ends o) path s = ((path, s), tt)
  request_of h (ask.Vote i ties ends) path s = ((path, s), tt)
  request_of h (ask.Prepare states) path s = ((path, s), tt)
  request_of h (ask.Confirm g e i) path s = ((path, s), tt)
