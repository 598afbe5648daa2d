-- What a root keeps of an object stays through each answer, and the next step stands on it.
use Rattle.arj_law_parts.proofs.Words
use Words.{◌≡◌, ◌==◌, ◌&&◌, refl, ℕ, List, [], ◌∷◌, Bool, true, false, cond, Option, Some, None, ⊤, BoundReply, Op, Reply, keeps_after, At}
use Words.{AtActivate, AtBind, AtInvoke, AtLoad, AtNote, CallEnd, CallStep, Changed, Ended, Goal, Include, Known, Moved, On, Run}
use Words.{activated_by, answered, bound_answer, bound_by, finds, given_up, live_known, load_from, made_by, made_known, moves, named_again}
use Words.{or_lost, other_binding, recorded_kept, same_binding, two_bindings, two_incs, with_inc, write_known, Keeping, is_call, binding_eq}
use Words.{binding_less}
use Words.bound
use Words.invoked
use Words.loaded
use Words.recorded
use Words.calls
use Rattle.arj_law_runs.proofs.Terms.{Answers, AnswersAt, IsThere, StandsOn}

-- ---- what stands on a keeping

pub stands_more : (g : Goal) (old new : Option Known) (at : At) → (IsThere old → IsThere new) → StandsOn g old at → StandsOn g new at
stands_more g old new (AtBind avoid) up s = tt
stands_more (Run o) old new (AtLoad k n rest) up s = up s
stands_more (Run o) old new (AtActivate k st) up s = up s
stands_more (Run o) old new (AtNote k i) up s = up s
stands_more (Run o) old new (AtInvoke k i) up s = up s
stands_more (Include x) old new (AtLoad k n rest) up s = tt
stands_more (Include x) old new (AtActivate k st) up s = s
stands_more (Include x) old new (AtNote k i) up s = s
stands_more (Include x) old new (AtInvoke k i) up s = s

-- an include stands on nothing that is kept
pub include_stands : (g : Goal) (old new : Option Known) (at : At) → (is_call g ≡ true → ⊥) → StandsOn g old at → StandsOn g new at
include_stands (Run o) old new at none s = absurd (none refl)
include_stands (Include x) old new (AtBind avoid) none s = tt
include_stands (Include x) old new (AtLoad k n rest) none s = tt
include_stands (Include x) old new (AtActivate k st) none s = s
include_stands (Include x) old new (AtNote k i) none s = s
include_stands (Include x) old new (AtInvoke k i) none s = s

-- Of an include nothing is kept, so its keeping stays; a call's is the one after the step.
pub after_there : (g : Goal) (b : Bool) (kept : Option Known) (k : Keeping) → (IsThere k.kept → IsThere kept) → IsThere k.kept →
    IsThere (let q = keeps_after g b kept k in q.kept)
after_there (Run o) b kept k up there = up there
after_there (Include s) b kept k up there = there

-- an answered call stands on what is kept
abbrev pub EndsOn : Goal → Option Known → CallEnd → Type 0
EndsOn g kept (calls.Answered a) = IsThere kept
EndsOn g kept e = ⊤

-- the next step, or the end, of a call or of an include that keeps this
abbrev pub NextOn : Goal → Option Known → CallStep → Type 0
NextOn g kept (On at) = StandsOn g kept at
NextOn g kept (Ended e) = EndsOn g kept e

-- what is kept of the object once the step is taken
abbrev pub kept_now : Goal → Option Known → Option Known → Option Known
kept_now (Run o) old new = new
kept_now (Include s) old new = old

pub record IsMoved (g : Goal) (kept : Option Known) (m : Moved) : Type 0 where
  pub keeps : IsThere kept → IsThere m.kept
  pub next : NextOn g (kept_now g kept m.kept) m.step

-- ---- a call

module _ (o : Op) (kept : Option Known) where
  abbrev Well : Moved → Type 0
  Well m = IsMoved (Run o) kept m

  ends : (e : CallEnd) → EndsOn (Run o) kept e → Well (finds kept e)
  ends e on = record { keeps = λ there. there; next = on }

  goes : (old : Known) (at : At) → StandsOn (Run o) (Some old) at → Well (moves (Some old) at)
  goes old at s = record { keeps = λ there. tt; next = s }

  named : (i : ℕ) (old : Known) (at : At) (f : Option ℕ) → ((k : Known) → StandsOn (Run o) (Some k) at) → Well (with_inc i old at f)
  named i old at None s = record { keeps = λ there. tt; next = s (record old { inc = Some i }) }
  named i old at (Some first) s = by (first == i)
    where
      by : (b : Bool) → Well (cond b (moves (Some old) at) (finds (Some old) (Changed old.server (two_incs first i))))
      by true = goes old at (s old)
      by false = record { keeps = λ there. tt; next = tt }

  bound_well : (free : Bool) (k : Known) (at : At) (q : Option Known) → ((x : Known) → StandsOn (Run o) (Some x) at) →
      Well (bound_by free k at q)
  bound_well free k at None s = record { keeps = λ there. tt; next = s k }
  bound_well free k at (Some old) s = by (binding_eq old.binding k.binding)
    where
      same : (f : Option ℕ) → Well (same_binding old k at f)
      same None = goes (named_again old k) at (s (named_again old k))
      same (Some i) = named i (named_again old k) at old.inc s

      other : (b : Bool) → Well (cond b (moves (Some k) at) (finds (Some old) (Changed 1 (two_bindings old.binding k.binding))))
      other true = goes k at (s k)
      other false = record { keeps = λ there. tt; next = tt }

      by : (b : Bool) → Well (cond b (same_binding old k at k.inc) (other_binding free old k at))
      by true = same k.inc
      by false = other (free && binding_less old.binding k.binding)

  naming_well : (free : Bool) (r : BoundReply) → Answers (Run o) r → Well (bound_answer free kept r)
  naming_well free (bound.Live b server i n stores) fits =
      bound_well free (live_known b server i n stores) (AtInvoke (live_known b server i n stores) i) kept (λ k. tt)
  naming_well free (bound.Make b server n stores) fits = by stores
    where
      by : (ss : List ℕ) → Well (made_by free (made_known b server n stores) kept (load_from (made_known b server n stores) ss))
      by [] = ends (calls.Lost 1 false) tt
      by (s ∷ ss) = bound_well free (made_known b server n stores) (AtLoad (made_known b server n stores) s ss) kept (λ k. tt)
  naming_well free (bound.Write n stores) fits = absurd fits
  naming_well free (bound.Conflict holder m) fits = ends (calls.Conflict holder m 1) tt

  activated_well : (k : Known) (i : ℕ) (q : Option Known) → IsThere q → Well (activated_by k i q)
  activated_well k i None there = absurd there
  activated_well k i (Some old) there = by (binding_eq old.binding k.binding)
    where
      by : (b : Bool) → Well (cond b (with_inc i old (AtNote k i) old.inc) (moves (Some old) (AtNote k i)))
      by true = named i old (AtNote k i) old.inc (λ x. tt)
      by false = goes old (AtNote k i) tt

  noted_well : (k : Known) (i : ℕ) (q : Option Known) → IsThere q → Well (moves (recorded_kept k q) (AtInvoke k i))
  noted_well k i None there = absurd there
  noted_well k i (Some old) there = by (binding_eq old.binding k.binding)
    where
      by : (b : Bool) → Well (moves (cond b (Some (record old { recorded = true })) (Some old)) (AtInvoke k i))
      by true = goes (record old { recorded = true }) (AtInvoke k i) tt
      by false = goes old (AtInvoke k i) tt

  pub call_moved : (free : Bool) (at : At) (r : Reply) → AnswersAt (Run o) at r → StandsOn (Run o) kept at →
      Well (answered free kept (Run o) at r)
  call_moved free (AtBind avoid) (Reply.Bound r) fits s = naming_well free r fits
  call_moved free (AtLoad k n rest) (Reply.Loaded (loaded.State st)) fits s = record { keeps = λ there. there; next = s }
  call_moved free (AtLoad k n rest) (Reply.Loaded (loaded.InDoubt h)) fits s = ends _ tt
  call_moved free (AtActivate k st) (Reply.Activated i) fits s = activated_well k i kept s
  call_moved free (AtNote k i) (Reply.Noted recorded.Yes) fits s = noted_well k i kept s
  call_moved free (AtNote k i) (Reply.Noted (recorded.Changed w)) fits s = ends _ tt
  call_moved free (AtInvoke k i) (Reply.Invoked (invoked.Answered a)) fits s = ends (calls.Answered a) s
  call_moved free (AtInvoke k i) (Reply.Invoked (invoked.Conflict h m)) fits s = ends _ tt
  call_moved free (AtInvoke k i) (Reply.Invoked (invoked.Changed w)) fits s = ends _ tt
  call_moved free (AtBind avoid) (Reply.Loaded r) fits s = record { keeps = λ there. there; next = s }
  call_moved free (AtBind avoid) (Reply.Activated r) fits s = record { keeps = λ there. there; next = s }
  call_moved free (AtBind avoid) (Reply.Noted r) fits s = record { keeps = λ there. there; next = s }
  call_moved free (AtBind avoid) (Reply.Invoked r) fits s = record { keeps = λ there. there; next = s }
  call_moved free (AtBind avoid) (Reply.Voted r) fits s = record { keeps = λ there. there; next = s }
  call_moved free (AtBind avoid) (Reply.Prepared r) fits s = record { keeps = λ there. there; next = s }
  call_moved free (AtBind avoid) (Reply.Confirmed r) fits s = record { keeps = λ there. there; next = s }
  call_moved free (AtLoad k n rest) (Reply.Bound r) fits s = record { keeps = λ there. there; next = s }
  call_moved free (AtLoad k n rest) (Reply.Activated r) fits s = record { keeps = λ there. there; next = s }
  call_moved free (AtLoad k n rest) (Reply.Noted r) fits s = record { keeps = λ there. there; next = s }
  call_moved free (AtLoad k n rest) (Reply.Invoked r) fits s = record { keeps = λ there. there; next = s }
  call_moved free (AtLoad k n rest) (Reply.Voted r) fits s = record { keeps = λ there. there; next = s }
  call_moved free (AtLoad k n rest) (Reply.Prepared r) fits s = record { keeps = λ there. there; next = s }
  call_moved free (AtLoad k n rest) (Reply.Confirmed r) fits s = record { keeps = λ there. there; next = s }
  call_moved free (AtActivate k st) (Reply.Bound r) fits s = record { keeps = λ there. there; next = s }
  call_moved free (AtActivate k st) (Reply.Loaded r) fits s = record { keeps = λ there. there; next = s }
  call_moved free (AtActivate k st) (Reply.Noted r) fits s = record { keeps = λ there. there; next = s }
  call_moved free (AtActivate k st) (Reply.Invoked r) fits s = record { keeps = λ there. there; next = s }
  call_moved free (AtActivate k st) (Reply.Voted r) fits s = record { keeps = λ there. there; next = s }
  call_moved free (AtActivate k st) (Reply.Prepared r) fits s = record { keeps = λ there. there; next = s }
  call_moved free (AtActivate k st) (Reply.Confirmed r) fits s = record { keeps = λ there. there; next = s }
  call_moved free (AtNote k i) (Reply.Bound r) fits s = record { keeps = λ there. there; next = s }
  call_moved free (AtNote k i) (Reply.Loaded r) fits s = record { keeps = λ there. there; next = s }
  call_moved free (AtNote k i) (Reply.Activated r) fits s = record { keeps = λ there. there; next = s }
  call_moved free (AtNote k i) (Reply.Invoked r) fits s = record { keeps = λ there. there; next = s }
  call_moved free (AtNote k i) (Reply.Voted r) fits s = record { keeps = λ there. there; next = s }
  call_moved free (AtNote k i) (Reply.Prepared r) fits s = record { keeps = λ there. there; next = s }
  call_moved free (AtNote k i) (Reply.Confirmed r) fits s = record { keeps = λ there. there; next = s }
  call_moved free (AtInvoke k i) (Reply.Bound r) fits s = record { keeps = λ there. there; next = s }
  call_moved free (AtInvoke k i) (Reply.Loaded r) fits s = record { keeps = λ there. there; next = s }
  call_moved free (AtInvoke k i) (Reply.Activated r) fits s = record { keeps = λ there. there; next = s }
  call_moved free (AtInvoke k i) (Reply.Noted r) fits s = record { keeps = λ there. there; next = s }
  call_moved free (AtInvoke k i) (Reply.Voted r) fits s = record { keeps = λ there. there; next = s }
  call_moved free (AtInvoke k i) (Reply.Prepared r) fits s = record { keeps = λ there. there; next = s }
  call_moved free (AtInvoke k i) (Reply.Confirmed r) fits s = record { keeps = λ there. there; next = s }

-- ---- an include

module _ (n : ℕ) (kept : Option Known) where
  abbrev Fine : Moved → Type 0
  Fine m = IsMoved (Include n) kept m

  -- an include that waits for a Bind or a Load
  pub include_moved : (free : Bool) (at : At) (r : Reply) → AnswersAt (Include n) at r → StandsOn (Include n) kept at →
      Fine (answered free kept (Include n) at r)
  include_moved free (AtBind avoid) (Reply.Bound (bound.Live b server i g stores)) fits s = absurd fits
  include_moved free (AtBind avoid) (Reply.Bound (bound.Make b server g stores)) fits s = absurd fits
  include_moved free (AtBind avoid) (Reply.Bound (bound.Write g stores)) fits s = by stores
    where
      by : (ss : List ℕ) → Fine (or_lost kept (load_from (write_known g stores) ss))
      by [] = record { keeps = λ there. there; next = tt }
      by (x ∷ xs) = record { keeps = λ there. there; next = tt }
  include_moved free (AtBind avoid) (Reply.Bound (bound.Conflict h m)) fits s = record { keeps = λ there. there; next = tt }
  include_moved free (AtLoad k x rest) (Reply.Loaded (loaded.State st)) fits s = record { keeps = λ there. there; next = tt }
  include_moved free (AtLoad k x rest) (Reply.Loaded (loaded.InDoubt h)) fits s = record { keeps = λ there. there; next = tt }
  include_moved free (AtBind avoid) (Reply.Loaded r) fits s = record { keeps = λ there. there; next = tt }
  include_moved free (AtBind avoid) (Reply.Activated r) fits s = record { keeps = λ there. there; next = tt }
  include_moved free (AtBind avoid) (Reply.Noted r) fits s = record { keeps = λ there. there; next = tt }
  include_moved free (AtBind avoid) (Reply.Invoked r) fits s = record { keeps = λ there. there; next = tt }
  include_moved free (AtBind avoid) (Reply.Voted r) fits s = record { keeps = λ there. there; next = tt }
  include_moved free (AtBind avoid) (Reply.Prepared r) fits s = record { keeps = λ there. there; next = tt }
  include_moved free (AtBind avoid) (Reply.Confirmed r) fits s = record { keeps = λ there. there; next = tt }
  include_moved free (AtLoad k x rest) (Reply.Bound r) fits s = record { keeps = λ there. there; next = tt }
  include_moved free (AtLoad k x rest) (Reply.Activated r) fits s = record { keeps = λ there. there; next = tt }
  include_moved free (AtLoad k x rest) (Reply.Noted r) fits s = record { keeps = λ there. there; next = tt }
  include_moved free (AtLoad k x rest) (Reply.Invoked r) fits s = record { keeps = λ there. there; next = tt }
  include_moved free (AtLoad k x rest) (Reply.Voted r) fits s = record { keeps = λ there. there; next = tt }
  include_moved free (AtLoad k x rest) (Reply.Prepared r) fits s = record { keeps = λ there. there; next = tt }
  include_moved free (AtLoad k x rest) (Reply.Confirmed r) fits s = record { keeps = λ there. there; next = tt }
  include_moved free (AtActivate k st) r fits s = absurd s
  include_moved free (AtNote k i) r fits s = absurd s
  include_moved free (AtInvoke k i) r fits s = absurd s

pub moved_on : (free : Bool) (kept : Option Known) (g : Goal) (at : At) (r : Reply) → AnswersAt g at r → StandsOn g kept at →
    IsMoved g kept (answered free kept g at r)
moved_on free kept (Run o) at r fits s = call_moved o kept free at r fits s
moved_on free kept (Include n) at r fits s = include_moved n kept free at r fits s

-- ---- a giveup

pub gives_up_on : (g : Goal) (kept : Option Known) (at : At) → StandsOn g kept at → NextOn g kept (given_up at)
gives_up_on g kept (AtBind avoid) s = tt
gives_up_on g kept (AtLoad k n []) s = tt
gives_up_on (Run o) kept (AtLoad k n (m ∷ ms)) s = s
gives_up_on (Include x) kept (AtLoad k n (m ∷ ms)) s = tt
gives_up_on g kept (AtActivate k st) s = tt
gives_up_on g kept (AtNote k i) s = tt
gives_up_on g kept (AtInvoke k i) s = tt
