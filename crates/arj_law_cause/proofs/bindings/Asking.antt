-- What calls under way, roots and messages say of bindings: a call is on a binding that naming made for the object, and one that records on
-- one under which a copy became active; an incarnation of a server that is named is one in which a copy did.
use Rattle.arj_law_parts.proofs.Words
use Words.{◌≡◌, ◌⊎◌, ◌==◌, ◌&&◌, ◌||◌, ◌++◌, ℕ, List, [], ◌∷◌, Bool, true, false, cond, Option, Some, None, refl, sym, ◌∙◌, ap, subst, ⊤}
use Words.{eqb-true, inl, inr, unwrap_or, and_parts, list_any, uids_of}
use Words.{AllByRecursion, Uid, Binding, End, Ask, Asked, Head, BoundReply, LoadedReply, RecordedReply, InvokedReply, Reply, asks}
use Words.{request}
use Words.{Known, Goal, Run, Include, At, AtBind, AtLoad, AtActivate, AtNote, AtInvoke, CallStep, On, Ended, Changed, Moved, Steps}
use Words.{answered, CallEnd, Answered, Included, Conflict, Lost}
use Words.{activated_by, bound_by, finds, given_up, invoked_answer, live_known, load_from, loaded_answer, made_by, made_known, moves}
use Words.{named_again}
use Words.{node_at, or_lost, other_binding, recorded_answer, recorded_kept, same_binding, start_at, with_inc, write_known, ask_at}
use Words.{bound_answer}
use Words.{two_incs, two_bindings, binding_eq, binding_less, next_ask, next_node, is_include, waits_for_call, ask_kind, reply_kind, heard}
use Words.{acked}
use Words.{again_all, acts, kept_at, is_free, root_of, actor, Coord, new_coord, Doing, Now, Idle, Calling, Committing, doing_of, Effect}
use Words.{Say, Send, Do}
use Words.{Intent, Input, ends_of, Machine, ask_of, Voting, Preparing, Confirming}
use Words.{Keeping, Root, Said, Went, Grant, granted_by, given_away, has_changed, is_ended, is_invoke_ask, keeping_after, keeping_of}
use Words.{keeps_after, kept_after, kept_of, known_at_start, no_keeping, notes_grant, Plan, renewed, retains, root_after, root_at}
use Words.{root_heard}
use Words.{root_lost, root_moved, same_said, same_went, spoils, top_of, was_named, with_keeping, with_said, with_went}
use Words.ask
use Words.bound
use Words.calls
use Words.invoked
use Words.loaded
use Words.recorded
use Rattle.arj_law_parts.proofs.coordinator
use coordinator.Trace.{Came, Hears, turned, kept_at_start, CallTurn, Answers, GivesUp, Calls, StartsCall, StartsInclude, GoesOn}
use coordinator.Trace.{CallsAgain, OfCall}
use coordinator.Trace.{OfCommit}
use coordinator.Trace.{Move, Out, AsksIt, Trace, trace_says}
use coordinator.Walks.{acts_trace, heard_trace, acked_trace, again_trace}
use coordinator.Works.{KeepsRoots, KeepsWorks, Works, its_root, roots_move, works_move, works_new}
use Rattle.arj_law_parts.proofs.parts.LivesNamed.{keyed_at, keyed_each, keyed_put}
use Rattle.arj_law_parts.specs.parts.Lives.{IsLoadedOf, IsOfObject}
use Rattle.arj_law_cause.proofs.bindings.Named.{OfInc, OfServer}

-- naming granted its lock in the incarnation that made the binding
abbrev pub IsGrant : Binding → ℕ → Type 0
IsGrant b g = g ≡ b.inc

module _ (N A : OfServer) (I : OfInc) where
  -- ---- what is known

  -- of a binding of the object, and of an incarnation of its server
  abbrev pub IsKnownSo : ℕ → Known → Type 0
  IsKnownSo x k = N x k.binding k.server × ((i : ℕ) → k.inc ≡ Some i → I x k.binding k.server i)

  -- of what a root keeps, if anything
  abbrev pub IsKeptSo : ℕ → Option Known → Type 0
  IsKeptSo x None = ⊤
  IsKeptSo x (Some k) = IsKnownSo x k

  -- of all that it keeps
  abbrev pub IsRootSo : Root → Type 0
  IsRootSo r = AllByRecursion (λ (e : ℕ × Keeping). IsKeptSo e.0 (let k = e.1 in k.kept)) r.keeping

  -- of an incarnation that an Invoke names, unless that is 0
  abbrev pub IsSaidSo : ℕ → Binding → ℕ → ℕ → Type 0
  IsSaidSo x b s i = (i ≡ 0) ⊎ I x b s i

  -- the step in which a call on the object waits; an include doesn't activate
  abbrev pub IsAtSo : ℕ → Goal → At → Type 0
  IsAtSo x (Run o) (AtLoad k s rest) = IsKnownSo x k × IsGrant k.binding k.grant
  IsAtSo x (Run o) (AtActivate k st) = IsKnownSo x k × ((let u = st.uid in u.num) ≡ x) × IsGrant k.binding k.grant
  IsAtSo x (Run o) (AtNote k i) = IsKnownSo x k × A x k.binding k.server × I x k.binding k.server i × IsGrant k.binding k.grant
  IsAtSo x (Run o) (AtInvoke k i) = IsKnownSo x k × IsSaidSo x k.binding k.server i
  IsAtSo x (Run o) at = ⊤
  IsAtSo x (Include n) (AtActivate k st) = ⊥
  IsAtSo x (Include n) (AtNote k i) = ⊥
  IsAtSo x (Include n) (AtInvoke k i) = ⊥
  IsAtSo x (Include n) at = ⊤

  -- so it is of the step that it goes on to
  abbrev pub IsStepSo : ℕ → Goal → CallStep → Type 0
  IsStepSo x g (On at) = IsAtSo x g at
  IsStepSo x g (Ended e) = ⊤

  -- and of what the root keeps then
  abbrev pub IsMovedSo : ℕ → Goal → Moved → Type 0
  IsMovedSo x g m = IsStepSo x g m.step × IsKeptSo x m.kept

  -- a request to a node
  abbrev pub AskSo : ℕ → Ask → Type 0
  AskSo to (ask.Activate b st) = N (let u = st.uid in u.num) b to
  AskSo to (ask.Record x b i g) = (s : ℕ) × N x b s × A x b s × I x b s i × IsGrant b g
  AskSo to (ask.Invoke x b i ends o) = N x b to × IsSaidSo x b to i
  AskSo to a = ⊤

  abbrev pub AskedSo : ℕ → Option (Head × Ask) → Type 0
  AskedSo to None = ⊤
  AskedSo to (Some a) = AskSo to a.1

  -- an answer of a node
  abbrev pub BoundSo : ℕ → Bool → BoundReply → Type 0
  BoundSo x include (bound.Live b server i g stores) = (include ≡ false) × N x b server × I x b server i
  BoundSo x include (bound.Make b server g stores) = (include ≡ false) × N x b server × IsGrant b g
  BoundSo x include (bound.Write g stores) = include ≡ true
  BoundSo x include (bound.Conflict holder m) = ⊤

  abbrev pub ReplySo : ℕ → Ask → Reply → Type 0
  ReplySo from (ask.Bind x include avoid) (Reply.Bound r) = BoundSo x include r
  ReplySo from (ask.Activate b st) (Reply.Activated i) = A (let u = st.uid in u.num) b from × I (let u = st.uid in u.num) b from i
  ReplySo from a r = ⊤

  -- what an action is at
  abbrev pub IsNowSo : Now → Type 0
  IsNowSo Idle = ⊤
  IsNowSo (Calling s) = IsAtSo s.x s.goal s.at
  IsNowSo (Committing m) = ⊤

  -- a coordinator's calls, and its roots
  pub record AreAtSo (c : Coord) : Type 0 where
    pub works : Works (λ u d. IsNowSo d.now) c
    pub roots : AllByRecursion (λ (e : ℕ × Root). IsRootSo e.1) c.roots

  -- where a call waits for this answer of the node, it answers what the call asked, about its object
  abbrev pub FitsCall : ℕ → Asked → Reply → Coord → Type 0
  FitsCall from a r c = (d : Doing) (s : Steps) → doing_of a.act c ≡ Some d → d.now ≡ Calling s →
      waits_for_call from a r s ≡ true → ReplySo from (next_ask [] s) r × IsOfObject s.x r

  -- what is sent asks so
  abbrev pub EffectSo : Effect → Type 0
  EffectSo (Send to m) = AskedSo to (asks m)
  EffectSo (Say b) = ⊤
  EffectSo (Do w) = ⊤

  abbrev pub AllSo : List Effect → Type 0
  AllSo outs = AllByRecursion EffectSo outs

some_inc : (i j : ℕ) → Some i ≡ Some j → i ≡ j
some_inc i j is = let k : ◌≡◌ {A = Option ℕ} (Some i) (Some j) = is in cc

no_inc : {P : Type 0} (i : ℕ) → None ≡ Some i → P
no_inc i is = let no_way : ◌≡◌ {A = Option ℕ} None (Some i) = is in absurd (cc no_way)

-- where what is known under one binding is so under another of its number
module _ (N A : OfServer) (I : OfInc)
    (alike : (x : ℕ) (b c : Binding) (s t i : ℕ) → binding_eq b c ≡ true → N x b s → N x c t → I x c t i → I x b s i) where
  abbrev Kept : ℕ → Option Known → Type 0
  Kept = IsKeptSo N A I

  abbrev Is_moved : ℕ → Goal → Moved → Type 0
  Is_moved = IsMovedSo N A I

  -- ---- one step of a call

  -- one more incarnation of the kept binding
  with_so : (x : ℕ) (g : Goal) (i : ℕ) (kept : Known) (at : At) (o : Option ℕ) → IsKnownSo N A I x kept →
      I x kept.binding kept.server i → IsAtSo N A I x g at → IsMovedSo N A I x g (with_inc i kept at o)
  with_so x g i kept at None ks le on = (on, (ks.0, λ j is. subst (I x kept.binding kept.server) (some_inc i j is) le))
  with_so x g i kept at (Some first) ks le on = by (first == i)
    where
      by : (b : Bool) → Is_moved x g (cond b (moves (Some kept) at) (finds (Some kept) (Changed kept.server (two_incs first i))))
      by true = (on, ks)
      by false = (tt, ks)

  by_so : (x : ℕ) (g : Goal) (free : Bool) (k : Known) (at : At) (kept : Option Known) → IsKnownSo N A I x k → IsKeptSo N A I x kept →
      IsAtSo N A I x g at → IsMovedSo N A I x g (bound_by free k at kept)
  by_so x g free k at None ks ko on = (on, ks)
  by_so x g free k at (Some old) ks ko on = by (binding_eq old.binding k.binding) refl
    where
      same_so : binding_eq old.binding k.binding ≡ true → (o : Option ℕ) → k.inc ≡ o → Is_moved x g (same_binding old k at o)
      same_so same None is = (on, (ko.0, ko.1))
      same_so same (Some i) is = with_so x g i (named_again old k) at old.inc (ko.0, ko.1)
          (alike x old.binding k.binding old.server k.server i same ko.0 ks.0 (ks.1 i is)) on

      other : (b : Bool) →
          Is_moved x g (cond b (moves (Some k) at) (finds (Some old) (Changed 1 (two_bindings old.binding k.binding))))
      other true = (on, ks)
      other false = (tt, ko)

      by : (b : Bool) → binding_eq old.binding k.binding ≡ b →
          Is_moved x g (cond b (same_binding old k at k.inc) (other_binding free old k at))
      by true same = same_so same k.inc refl
      by false same = other (free && binding_less old.binding k.binding)

  bound_so : (x : ℕ) (free : Bool) (kept : Option Known) (g : Goal) (r : BoundReply) → IsKeptSo N A I x kept →
      BoundSo N A I x (is_include g) r → IsMovedSo N A I x g (bound_answer free kept r)
  bound_so x free kept (Run o) (bound.Live b server i n stores) ko its =
      by_so x (Run o) free (live_known b server i n stores) (AtInvoke (live_known b server i n stores) i) kept known ko
      (known, inr its.2)
    where
      known : IsKnownSo N A I x (live_known b server i n stores)
      known = (its.1, λ j is. subst (I x b server) (some_inc i j is) its.2)
  bound_so x free kept (Include s) (bound.Live b server i n stores) ko its = let q = its.0 in absurd (cc q)
  bound_so x free kept (Run o) (bound.Make b server n stores) ko its = by stores
    where
      by : (ss : List ℕ) → Is_moved x (Run o) (made_by free (made_known b server n stores) kept
          (load_from (made_known b server n stores) ss))
      by [] = (tt, ko)
      by (s ∷ ss) =
          let known : IsKnownSo N A I x (made_known b server n stores) = (its.1, λ i is. no_inc i is) in
          by_so x (Run o) free (made_known b server n stores) (AtLoad (made_known b server n stores) s ss) kept known ko
          (known, its.2)
  bound_so x free kept (Include s) (bound.Make b server n stores) ko its = let q = its.0 in absurd (cc q)
  bound_so x free kept (Run o) (bound.Write n stores) ko its = absurd (cc its)
  bound_so x free kept (Include i) (bound.Write n stores) ko its = by stores
    where
      by : (ss : List ℕ) → Is_moved x (Include i) (or_lost kept (load_from (write_known n stores) ss))
      by [] = (tt, ko)
      by (s ∷ ss) = (tt, ko)
  bound_so x free kept g (bound.Conflict holder m) ko its = (tt, ko)

  loaded_so : (x : ℕ) (kept : Option Known) (k : Known) (s : ℕ) (rest : List ℕ) (g : Goal) (r : LoadedReply) → IsKeptSo N A I x kept →
      IsAtSo N A I x g (AtLoad k s rest) → IsLoadedOf x r → IsMovedSo N A I x g (loaded_answer kept k s g r)
  loaded_so x kept k s rest (Run o) (loaded.State st) ko its of_x = ((its.0, of_x, its.1), ko)
  loaded_so x kept k s rest (Include n) (loaded.State st) ko its of_x = (tt, ko)
  loaded_so x kept k s rest (Run o) (loaded.InDoubt holder) ko its of_x = (tt, ko)
  loaded_so x kept k s rest (Include n) (loaded.InDoubt holder) ko its of_x = (tt, ko)

  activated_so : (x : ℕ) (kept : Option Known) (k : Known) (st : Words.ObjectState) (i : ℕ) (g : Goal) → IsKeptSo N A I x kept →
      IsAtSo N A I x g (AtActivate k st) → A (let u = st.uid in u.num) k.binding k.server × I (let u = st.uid in u.num) k.binding k.server
      i →
      IsMovedSo N A I x g (activated_by k i kept)
  activated_so x kept k st i (Include n) ko its active = absurd its
  activated_so x kept k st i (Run o) ko its active = by kept ko
    where
      its_inc : I x k.binding k.server i
      its_inc = subst (λ y. I y k.binding k.server i) its.1 active.1

      on : IsAtSo N A I x (Run o) (AtNote k i)
      on = (
        its.0,
        subst (λ y. A y k.binding k.server) its.1 active.0,
        subst (λ y. I y k.binding k.server i) its.1 active.1,
        its.2,
      )

      by : (q : Option Known) → IsKeptSo N A I x q → IsMovedSo N A I x (Run o) (activated_by k i q)
      by None kq = (on, tt)
      by (Some old) kq = one (binding_eq old.binding k.binding) refl
        where
          one : (b : Bool) → binding_eq old.binding k.binding ≡ b →
              Is_moved x (Run o) (cond b (with_inc i old (AtNote k i) old.inc) (moves (Some old) (AtNote k i)))
          one true same = with_so x (Run o) i old (AtNote k i) old.inc kq
              (alike x old.binding k.binding old.server k.server i same kq.0 (let z = its.0 in z.0) its_inc) on
          one false same = (on, kq)

  noted_so : (x : ℕ) (kept : Option Known) (k : Known) (i : ℕ) (g : Goal) (r : RecordedReply) → IsKeptSo N A I x kept →
      IsAtSo N A I x g (AtNote k i) → IsMovedSo N A I x g (recorded_answer kept k i r)
  noted_so x kept k i (Include n) recorded.Yes ko its = absurd its
  noted_so x kept k i (Run o) recorded.Yes ko its = ((its.0, inr its.2), by kept ko)
    where
      by : (q : Option Known) → IsKeptSo N A I x q → IsKeptSo N A I x (recorded_kept k q)
      by None kq = tt
      by (Some old) kq = one (binding_eq old.binding k.binding)
        where
          one : (b : Bool) → Kept x (cond b (Some (record old { recorded = true })) (Some old))
          one true = (kq.0, kq.1)
          one false = kq
  noted_so x kept k i g (recorded.Changed w) ko its = (tt, ko)

  invoked_so : (x : ℕ) (kept : Option Known) (k : Known) (g : Goal) (r : InvokedReply) → IsKeptSo N A I x kept →
      IsMovedSo N A I x g (invoked_answer kept k r)
  invoked_so x kept k g (invoked.Answered a) ko = (tt, ko)
  invoked_so x kept k g (invoked.Conflict holder m) ko = (tt, ko)
  invoked_so x kept k g (invoked.Changed w) ko = (tt, ko)

  -- an answer of the node that was asked, to what was asked
  answered_so : (x : ℕ) (free : Bool) (kept : Option Known) (g : Goal) (at : At) (r : Reply) → IsKeptSo N A I x kept →
      IsAtSo N A I x g at → ReplySo N A I (node_at at) (ask_at x g [] at) r → IsOfObject x r →
      IsMovedSo N A I x g (answered free kept g at r)
  answered_so x free kept g (AtBind avoid) (Reply.Bound r) ko its so of_x = bound_so x free kept g r ko so
  answered_so x free kept g (AtLoad k s rest) (Reply.Loaded r) ko its so of_x = loaded_so x kept k s rest g r ko its of_x
  answered_so x free kept g (AtActivate k st) (Reply.Activated i) ko its so of_x = activated_so x kept k st i g ko its so
  answered_so x free kept g (AtNote k i) (Reply.Noted r) ko its so of_x = noted_so x kept k i g r ko its
  answered_so x free kept g (AtInvoke k i) (Reply.Invoked r) ko its so of_x = invoked_so x kept k g r ko
  answered_so x free kept g (AtBind avoid) (Reply.Loaded r) ko its so of_x = (its, ko)
  answered_so x free kept g (AtBind avoid) (Reply.Activated i) ko its so of_x = (its, ko)
  answered_so x free kept g (AtBind avoid) (Reply.Noted r) ko its so of_x = (its, ko)
  answered_so x free kept g (AtBind avoid) (Reply.Invoked r) ko its so of_x = (its, ko)
  answered_so x free kept g (AtBind avoid) (Reply.Voted r) ko its so of_x = (its, ko)
  answered_so x free kept g (AtBind avoid) (Reply.Prepared r) ko its so of_x = (its, ko)
  answered_so x free kept g (AtBind avoid) (Reply.Confirmed r) ko its so of_x = (its, ko)
  answered_so x free kept g (AtLoad k s rest) (Reply.Bound r) ko its so of_x = (its, ko)
  answered_so x free kept g (AtLoad k s rest) (Reply.Activated i) ko its so of_x = (its, ko)
  answered_so x free kept g (AtLoad k s rest) (Reply.Noted r) ko its so of_x = (its, ko)
  answered_so x free kept g (AtLoad k s rest) (Reply.Invoked r) ko its so of_x = (its, ko)
  answered_so x free kept g (AtLoad k s rest) (Reply.Voted r) ko its so of_x = (its, ko)
  answered_so x free kept g (AtLoad k s rest) (Reply.Prepared r) ko its so of_x = (its, ko)
  answered_so x free kept g (AtLoad k s rest) (Reply.Confirmed r) ko its so of_x = (its, ko)
  answered_so x free kept g (AtActivate k st) (Reply.Bound r) ko its so of_x = (its, ko)
  answered_so x free kept g (AtActivate k st) (Reply.Loaded r) ko its so of_x = (its, ko)
  answered_so x free kept g (AtActivate k st) (Reply.Noted r) ko its so of_x = (its, ko)
  answered_so x free kept g (AtActivate k st) (Reply.Invoked r) ko its so of_x = (its, ko)
  answered_so x free kept g (AtActivate k st) (Reply.Voted r) ko its so of_x = (its, ko)
  answered_so x free kept g (AtActivate k st) (Reply.Prepared r) ko its so of_x = (its, ko)
  answered_so x free kept g (AtActivate k st) (Reply.Confirmed r) ko its so of_x = (its, ko)
  answered_so x free kept g (AtNote k i) (Reply.Bound r) ko its so of_x = (its, ko)
  answered_so x free kept g (AtNote k i) (Reply.Loaded r) ko its so of_x = (its, ko)
  answered_so x free kept g (AtNote k i) (Reply.Activated j) ko its so of_x = (its, ko)
  answered_so x free kept g (AtNote k i) (Reply.Invoked r) ko its so of_x = (its, ko)
  answered_so x free kept g (AtNote k i) (Reply.Voted r) ko its so of_x = (its, ko)
  answered_so x free kept g (AtNote k i) (Reply.Prepared r) ko its so of_x = (its, ko)
  answered_so x free kept g (AtNote k i) (Reply.Confirmed r) ko its so of_x = (its, ko)
  answered_so x free kept g (AtInvoke k i) (Reply.Bound r) ko its so of_x = (its, ko)
  answered_so x free kept g (AtInvoke k i) (Reply.Loaded r) ko its so of_x = (its, ko)
  answered_so x free kept g (AtInvoke k i) (Reply.Activated j) ko its so of_x = (its, ko)
  answered_so x free kept g (AtInvoke k i) (Reply.Noted r) ko its so of_x = (its, ko)
  answered_so x free kept g (AtInvoke k i) (Reply.Voted r) ko its so of_x = (its, ko)
  answered_so x free kept g (AtInvoke k i) (Reply.Prepared r) ko its so of_x = (its, ko)
  answered_so x free kept g (AtInvoke k i) (Reply.Confirmed r) ko its so of_x = (its, ko)

  given_up_so : (x : ℕ) (g : Goal) (at : At) → IsAtSo N A I x g at → IsStepSo N A I x g (given_up at)
  given_up_so x g (AtBind avoid) its = tt
  given_up_so x g (AtLoad k n []) its = tt
  given_up_so x (Run o) (AtLoad k n (m ∷ ms)) its = its
  given_up_so x (Include i) (AtLoad k n (m ∷ ms)) its = tt
  given_up_so x g (AtActivate k st) its = tt
  given_up_so x g (AtNote k i) its = tt
  given_up_so x g (AtInvoke k i) its = tt

  start_so : (x : ℕ) (o : Words.Op) (q : Option Known) (avoid : Binding) → IsKeptSo N A I x q → IsAtSo N A I x (Run o) (start_at q avoid)
  start_so x o None avoid ko = tt
  start_so x o (Some k) avoid ko = (ko, by k.inc refl)
    where
      by : (j : Option ℕ) → k.inc ≡ j → IsSaidSo N A I x k.binding k.server (unwrap_or j 0)
      by None is = inl refl
      by (Some i) is = inr (ko.1 i is)

  -- what a step asks of its node
  asks_so : (x : ℕ) (g : Goal) (ends : List (Uid × End)) (at : At) → IsAtSo N A I x g at → AskSo N A I (node_at at) (ask_at x g ends at)
  asks_so x g ends (AtBind avoid) its = tt
  asks_so x g ends (AtLoad k n rest) its = tt
  asks_so x (Run o) ends (AtActivate k st) its = subst (λ y. N y k.binding k.server) (sym its.1) (let z = its.0 in z.0)
  asks_so x (Include n) ends (AtActivate k st) its = absurd its
  asks_so x (Run o) ends (AtNote k i) its = (k.server, (let z = its.0 in z.0), its.1, its.2, its.3)
  asks_so x (Include n) ends (AtNote k i) its = absurd its
  asks_so x (Run o) ends (AtInvoke k i) its = ((let z = its.0 in z.0), its.1)
  asks_so x (Include n) ends (AtInvoke k i) its = absurd its

  request_so : (to : ℕ) (h : Head) (a : Ask) → AskSo N A I to a → AskedSo N A I to (asks (request h a))
  request_so to h (ask.Bind x i avoid) s = s
  request_so to h (ask.Load x) s = s
  request_so to h (ask.Activate b st) s = s
  request_so to h (ask.Record x b i g) s = s
  request_so to h (ask.Invoke x b i ends o) s = s
  request_so to h (ask.Vote i ties ends) s = s
  request_so to h (ask.Prepare states) s = s
  request_so to h (ask.Confirm g x i) s = s

  machine_so : (m : Machine) (n : ℕ) → AskSo N A I n (ask_of m n)
  machine_so (Voting p left) n = tt
  machine_so (Preparing p left) n = tt
  machine_so (Confirming p) n = tt

  -- ---- roots

  abbrev Root_so : Root → Type 0
  Root_so r = IsRootSo N A I r

  kept_so : (x : ℕ) (r : Root) → IsRootSo N A I r → IsKeptSo N A I x (kept_of x r)
  kept_so x r so = keyed_at (λ y (q : Keeping). IsKeptSo N A I y q.kept) no_keeping x tt r.keeping so

  went_so : (w : Went) (r : Root) → IsRootSo N A I r → IsRootSo N A I (with_went w r)
  went_so w r so = by (list_any (same_went w) r.went)
    where
      by : (b : Bool) → Root_so (cond b r (record r { went = r.went ++ w ∷ [] }))
      by true = so
      by false = so

  said_so : (s : Said) (r : Root) → IsRootSo N A I r → IsRootSo N A I (with_said s r)
  said_so s r so = by (list_any (same_said s) r.said)
    where
      by : (b : Bool) → Root_so (cond b r (record r { said = r.said ++ s ∷ [] }))
      by true = so
      by false = so

  heard_so : (s : Steps) (e : CallEnd) (r : Root) → IsRootSo N A I r → IsRootSo N A I (root_heard s e r)
  heard_so s (Answered a) r so = said_so (record { path = uids_of s.path; x = s.x }) r so
  heard_so s (Included st) r so = so
  heard_so s (Conflict h m n) r so = so
  heard_so s (Changed n w) r so = so
  heard_so s (Lost n b) r so = so

  keep_so : (x : ℕ) (k : Keeping) (r : Root) → IsKeptSo N A I x k.kept → IsRootSo N A I r → IsRootSo N A I (with_keeping x k r)
  keep_so x k r its so = keyed_put (λ y (q : Keeping). IsKeptSo N A I y q.kept) x k r.keeping its so

  after_so : (x : ℕ) (g : Goal) (spoilt : Bool) (kept : Option Known) (k : Keeping) → IsKeptSo N A I x kept → IsKeptSo N A I x k.kept →
      IsKeptSo N A I x (let q = keeps_after g spoilt kept k in q.kept)
  after_so x (Run o) spoilt kept k a b = a
  after_so x (Include s) spoilt kept k a b = b

  known_so : (top : Uid) (x : ℕ) (r : Root) (c : Coord) (o : Option Known) → IsKeptSo N A I x o →
      IsKeptSo N A I x (known_at_start top x r c o)
  known_so top x r c None so = tt
  known_so top x r c (Some k) so = by (k.recorded && (was_named top x k.binding r || retains x r c))
    where
      by : (b : Bool) → Kept x (cond b (Some k) None)
      by true = so
      by false = tt

  renewed_so : (x : ℕ) (free : Bool) (k : Keeping) (o : Option Known) → IsKeptSo N A I x k.kept →
      IsKeptSo N A I x (let q = renewed free k o in q.kept)
  renewed_so x free k None so = so
  renewed_so x free k (Some old) so = by (free && k.spoiled)
    where
      by : (b : Bool) → Kept x (let q = cond b (given_away k old) k in q.kept)
      by true = tt
      by false = so

  granted_so : (o : Option Grant) (r : Root) → IsRootSo N A I r → IsRootSo N A I (notes_grant o r)
  granted_so None r so = so
  granted_so (Some g) r so = so

  moved_so : (s : Steps) (r : Reply) (m : Moved) → IsMovedSo N A I s.x s.goal m → (q : Root) → IsRootSo N A I q →
      IsRootSo N A I (root_moved s r m q)
  moved_so s r m its q so =
      let k = keeping_of s.x q in
      keep_so s.x (keeps_after s.goal (has_changed m.step) m.kept k) (notes_grant (granted_by (top_of s.path) s.x r) q)
      (after_so s.x s.goal (has_changed m.step) m.kept k its.1 (kept_so s.x q so)) (granted_so (granted_by (top_of s.path) s.x r) q so)

  lost_so : (s : Steps) (t : CallStep) (q : Root) → IsRootSo N A I q → IsRootSo N A I (root_lost s t q)
  lost_so s t q so = let k = keeping_of s.x q in let kept = kept_so s.x q so in keep_so s.x
      (keeps_after s.goal (is_ended t && spoils s.at) k.kept k) q (after_so s.x s.goal (is_ended t && spoils s.at) k.kept k kept kept) so

  lists_so : (p : Plan) (r : Root) → IsRootSo N A I r → IsRootSo N A I (root_after p r)
  lists_so p r so = keyed_each (λ y (q : Keeping). IsKeptSo N A I y q.kept) (keeping_after p) (λ x q s. by x q.kept s) r.keeping so
    where
      by : (x : ℕ) (o : Option Known) → IsKeptSo N A I x o → IsKeptSo N A I x (kept_after p x o)
      by x None s = tt
      by x (Some k) s = (s.0, s.1)

  -- ---- a coordinator

  abbrev At_so : Coord → Type 0
  At_so c = AreAtSo N A I c

  abbrev Fits : Came → Coord → Type 0
  Fits (Hears from a r intents) c = FitsCall N A I from a r c
  Fits _ c = ⊤

  answer_so : (from : ℕ) (a : Asked) (r : Reply) (d : Doing) (s : Steps) (c : Coord) → AreAtSo N A I c → FitsCall N A I from a r c →
      doing_of a.act c ≡ Some d → d.now ≡ Calling s → waits_for_call from a r s ≡ true → IsMovedSo N A I s.x s.goal (turned s r c)
  answer_so from a r d s c k rs found is waits =
      let f = rs d s found is waits in
      let kind = and_parts (reply_kind r == ask_kind (next_ask [] s)) (next_node s == from)
      (and_parts (s.req == a.req) ((reply_kind r == ask_kind (next_ask [] s)) && (next_node s == from)) waits).1 in
      answered_so s.x (is_free (root_of s.path) (actor s.path) s.x c) (kept_at s c) s.goal s.at r
      (kept_so s.x (root_at (root_of s.path) c) (its_root Root_so tt (root_of s.path) c k.roots))
      (subst (IsNowSo N A I) is (k.works a.act d found))
      (subst (λ n. ReplySo N A I n (next_ask [] s) r) (sym (eqb-true (next_node s) from kind.1)) f.0) f.1

  turn_so : {c : Coord} {came : Came} {s : Steps} {t : CallStep} {e : Coord} → AreAtSo N A I c → Fits came c → CallTurn c came s t e →
      IsStepSo N A I s.x s.goal t
  turn_so {c} k fits (Answers from a r intents d s found is waits) = (answer_so from a r d s c k fits found is waits).0
  turn_so k fits (GivesUp l b intents d s named found is) =
      given_up_so s.x s.goal s.at (subst (IsNowSo N A I) is (k.works (actor b.path) d found))

  calls_so : {c : Coord} {came : Came} {e : Coord} {u : Uid} {s : Steps} → AreAtSo N A I c → Fits came c → Calls c came e u s →
      IsAtSo N A I s.x s.goal s.at
  calls_so {c} k fits (StartsCall l x o b intents named) =
      let r = root_at (root_of b.path) c in
      let kept = kept_at_start b.path x c in
      start_so x o (known_at_start (top_of b.path) x r c kept.kept) kept.avoid
      (known_so (top_of b.path) x r c kept.kept
      (renewed_so x (is_free (root_of b.path) (actor b.path) x c) (keeping_of x r) (kept_of x r)
      (kept_so x r (its_root Root_so tt (root_of b.path) c k.roots))))
  calls_so k fits (StartsInclude l x store b intents named) = tt
  calls_so k fits (GoesOn s t e at turn is) = subst (IsStepSo N A I s.x s.goal) is (turn_so k fits turn)
  calls_so k fits (CallsAgain u d s found is) = subst (IsNowSo N A I) is (k.works u d found)

  move_so : {c : Coord} {came : Came} → AreAtSo N A I c → Fits came c → (e f : Coord) → Move c came e f → AreAtSo N A I e → AreAtSo N A I f
  move_so {c} {came} k fits e f m h =
      record { works = works_move (λ u d. IsNowSo N A I d.now) works e f m h.works; roots = roots_move Root_so tt roots e f m h.roots }
    where
      works : KeepsWorks (λ u d. IsNowSo N A I d.now) c came
      works = record {
        fresh = λ u l. tt;
        rests = λ u d so. tt;
        takes = λ u d ns so. so;
        calls = λ s d e is so. calls_so k fits is;
        commits = λ u m d on so. tt;
      }

      roots : KeepsRoots Root_so c came
      roots = record {
        renews = λ x free r so. keep_so x (renewed free (keeping_of x r) (kept_of x r)) r
            (renewed_so x free (keeping_of x r) (kept_of x r) (kept_so x r so)) so;
        answers = λ from a r intents d s found is waits came so. moved_so s r (turned s r c)
            (answer_so from a r d s c k (subst (λ z. Fits z c) came fits) found is waits) (root_at (root_of s.path) c) so;
        loses = λ s r so. lost_so s (given_up s.at) r so;
        hears = λ s t f g turn is r so. heard_so s g r so;
        decides = λ u p ends r so. lists_so p r so;
        sent = λ p req n a e q r so. went_so (record { path = uids_of p; node = n; invoke = is_invoke_ask a }) r so;
      }

  out_so : {c : Coord} {came : Came} → AreAtSo N A I c → Fits came c → (e : Coord) (x : Effect) → Out c came e x → AreAtSo N A I e →
      EffectSo N A I x
  out_so k fits _ _ (AsksIt _ _ _ _ _ (OfCall u s f e is tree at)) h =
      request_so (next_node s) (record { path = s.path; req = s.req }) (next_ask (ends_of (root_of s.path) e.tree) s)
      (asks_so s.x s.goal (ends_of (root_of s.path) e.tree) s.at (calls_so k fits is))
  out_so k fits _ _ (AsksIt _ _ _ _ _ (OfCommit u m n e is i tree at)) h =
      request_so n (record { path = (Words.plan_of m).path; req = (Words.plan_of m).req }) (ask_of m n) (machine_so m n)
  out_so k fits _ _ _ h = tt

  -- what a coordinator did
  does_so : {c : Coord} {came : Came} {e : Coord} {outs : List Effect} → AreAtSo N A I c → Fits came c → Trace c came c outs e →
      AreAtSo N A I e × AllSo N A I outs
  does_so k fits t = trace_says At_so (move_so k fits) (EffectSo N A I) (out_so k fits) t k

  pub at_heard : (from : ℕ) (a : Asked) (r : Reply) (intents : List (Uid × Intent)) (c : Coord) → AreAtSo N A I c →
      FitsCall N A I from a r c → let d = heard from a r intents c in AreAtSo N A I d.part × AllSo N A I d.outs
  at_heard from a r intents c k rs = does_so k rs (heard_trace c from a r intents)

  pub at_again : (c : Coord) → AreAtSo N A I c → let d = again_all c.doings c in AreAtSo N A I d.part × AllSo N A I d.outs
  at_again c k = does_so k tt (again_trace c)

  pub at_acts : (i : Input) (intents : List (Uid × Intent)) (c : Coord) → AreAtSo N A I c →
      let d = acts i intents c in AreAtSo N A I d.part × AllSo N A I d.outs
  at_acts i intents c k = does_so k tt (acts_trace c i intents)

  pub at_acked : (from : ℕ) (u : Uid) (intents : List (Uid × Intent)) (c : Coord) → AreAtSo N A I c →
      let d = acked from u intents c in AreAtSo N A I d.part × AllSo N A I d.outs
  at_acked from u intents c k = does_so k tt (acked_trace c from u intents)

pub at_new : (N A : OfServer) (I : OfInc) (node inc : ℕ) (records : List (Uid × Intent)) →
    AreAtSo N A I (record (new_coord node inc) { telling = records })
at_new N A I node inc records = record { works = works_new (λ u d. IsNowSo N A I d.now) node inc records; roots = tt }

-- what a root keeps of the object of a call
pub kept_of_call : (N A : OfServer) (I : OfInc) (s : Steps) (c : Coord) → AreAtSo N A I c → IsKeptSo N A I s.x (kept_at s c)
kept_of_call N A I s c k = keyed_at (λ y (q : Keeping). IsKeptSo N A I y q.kept) no_keeping s.x tt
    (let r = root_at (root_of s.path) c in r.keeping) (its_root (IsRootSo N A I) tt (root_of s.path) c k.roots)

-- where more is known
module _ (N M A B : OfServer) (I J : OfInc) (more : (x : ℕ) (b : Binding) (s : ℕ) → N x b s → M x b s)
    (most : (x : ℕ) (b : Binding) (s : ℕ) → A x b s → B x b s) (last : (x : ℕ) (b : Binding) (s i : ℕ) → I x b s i → J x b s i)
  where
    known_map : (x : ℕ) (k : Known) → IsKnownSo N A I x k → IsKnownSo M B J x k
    known_map x k its = (more x k.binding k.server its.0, λ i is. last x k.binding k.server i (its.1 i is))

    kept_map : (x : ℕ) (o : Option Known) → IsKeptSo N A I x o → IsKeptSo M B J x o
    kept_map x None its = tt
    kept_map x (Some k) its = known_map x k its

    said_map : (x : ℕ) (b : Binding) (s i : ℕ) → IsSaidSo N A I x b s i → IsSaidSo M B J x b s i
    said_map x b s i (inl none) = inl none
    said_map x b s i (inr its) = inr (last x b s i its)

    at_map : (x : ℕ) (g : Goal) (at : At) → IsAtSo N A I x g at → IsAtSo M B J x g at
    at_map x (Run o) (AtBind avoid) its = tt
    at_map x (Run o) (AtLoad k s rest) its = (known_map x k its.0, its.1)
    at_map x (Run o) (AtActivate k st) its = (known_map x k its.0, its.1, its.2)
    at_map x (Run o) (AtNote k i) its =
        (known_map x k its.0, most x k.binding k.server its.1, last x k.binding k.server i its.2, its.3)
    at_map x (Run o) (AtInvoke k i) its = (known_map x k its.0, said_map x k.binding k.server i its.1)
    at_map x (Include n) (AtBind avoid) its = tt
    at_map x (Include n) (AtLoad k s rest) its = tt
    at_map x (Include n) (AtActivate k st) its = its
    at_map x (Include n) (AtNote k i) its = its
    at_map x (Include n) (AtInvoke k i) its = its

    now_map : (n : Now) → IsNowSo N A I n → IsNowSo M B J n
    now_map Idle its = tt
    now_map (Calling s) its = at_map s.x s.goal s.at its
    now_map (Committing m) its = tt

    root_map : (ks : List (ℕ × Keeping)) → AllByRecursion (λ (e : ℕ × Keeping). IsKeptSo N A I e.0 (let k = e.1 in k.kept)) ks →
        AllByRecursion (λ (e : ℕ × Keeping). IsKeptSo M B J e.0 (let k = e.1 in k.kept)) ks
    root_map [] all = tt
    root_map (e ∷ es) all = (kept_map e.0 (let k = e.1 in k.kept) all.0, root_map es all.1)

    roots_map : (rs : List (ℕ × Root)) → AllByRecursion (λ (e : ℕ × Root). IsRootSo N A I e.1) rs →
        AllByRecursion (λ (e : ℕ × Root). IsRootSo M B J e.1) rs
    roots_map [] all = tt
    roots_map (e ∷ es) all = (root_map (let r = e.1 in r.keeping) all.0, roots_map es all.1)

    pub all_at_map : (c : Coord) → AreAtSo N A I c → AreAtSo M B J c
    all_at_map c all = record { works = λ u d found. now_map d.now (all.works u d found); roots = roots_map c.roots all.roots }

    pub ask_map : (to : ℕ) (o : Option (Head × Ask)) → AskedSo N A I to o → AskedSo M B J to o
    ask_map to None its = tt
    ask_map to (Some (h, ask.Bind x i avoid)) its = tt
    ask_map to (Some (h, ask.Load x)) its = tt
    ask_map to (Some (h, ask.Activate b st)) its = more (let u = st.uid in u.num) b to its
    ask_map to (Some (h, ask.Record x b i g)) its = (its.0, more x b its.0 its.1, most x b its.0 its.2, last x b its.0 i its.3, its.4)
    ask_map to (Some (h, ask.Invoke x b i ends o)) its = (more x b to its.0, said_map x b to i its.1)
    ask_map to (Some (h, ask.Vote i ties ends)) its = tt
    ask_map to (Some (h, ask.Prepare states)) its = tt
    ask_map to (Some (h, ask.Confirm g x i)) its = tt

    bound_map : (x : ℕ) (include : Bool) (r : BoundReply) → BoundSo N A I x include r → BoundSo M B J x include r
    bound_map x include (bound.Live b server i g stores) its = (its.0, more x b server its.1, last x b server i its.2)
    bound_map x include (bound.Make b server g stores) its = (its.0, more x b server its.1, its.2)
    bound_map x include (bound.Write g stores) its = its
    bound_map x include (bound.Conflict holder m) its = its

    pub reply_map : (from : ℕ) (a : Ask) (r : Reply) → ReplySo N A I from a r → ReplySo M B J from a r
    reply_map from (ask.Bind x i avoid) (Reply.Bound r) its = bound_map x i r its
    reply_map from (ask.Activate b st) (Reply.Activated i) its =
        (most (let u = st.uid in u.num) b from its.0, last (let u = st.uid in u.num) b from i its.1)
    reply_map from (ask.Bind x i avoid) (Reply.Loaded r) its = tt
    reply_map from (ask.Bind x i avoid) (Reply.Activated r) its = tt
    reply_map from (ask.Bind x i avoid) (Reply.Noted r) its = tt
    reply_map from (ask.Bind x i avoid) (Reply.Invoked r) its = tt
    reply_map from (ask.Bind x i avoid) (Reply.Voted r) its = tt
    reply_map from (ask.Bind x i avoid) (Reply.Prepared r) its = tt
    reply_map from (ask.Bind x i avoid) (Reply.Confirmed r) its = tt
    reply_map from (ask.Activate b st) (Reply.Bound r) its = tt
    reply_map from (ask.Activate b st) (Reply.Loaded r) its = tt
    reply_map from (ask.Activate b st) (Reply.Noted r) its = tt
    reply_map from (ask.Activate b st) (Reply.Invoked r) its = tt
    reply_map from (ask.Activate b st) (Reply.Voted r) its = tt
    reply_map from (ask.Activate b st) (Reply.Prepared r) its = tt
    reply_map from (ask.Activate b st) (Reply.Confirmed r) its = tt
    reply_map from (ask.Load x) r its = tt
    reply_map from (ask.Record x b i g) r its = tt
    reply_map from (ask.Invoke x b i ends o) r its = tt
    reply_map from (ask.Vote i ties ends) r its = tt
    reply_map from (ask.Prepare states) r its = tt
    reply_map from (ask.Confirm g x i) r its = tt
