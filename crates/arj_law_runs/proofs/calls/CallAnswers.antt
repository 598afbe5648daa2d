-- What a root keeps of an object as a call on it is answered.
use Rattle.arj_law_parts.proofs.Words
use Words.{◌≡◌, ◌⊎◌, ◌==◌, ◌&&◌, ℕ, List, [], ◌∷◌, Bool, true, false, cond, Option, Some, None, refl, sym, ◌∙◌, ap, subst, inl, inr, ⊤}
use Words.{and_parts, eqb-true, Binding, ObjectState, BoundReply, Reply, At, AtBind, AtLoad, AtActivate, AtNote, AtInvoke, CallStep}
use Words.{Changed, Ended, Goal, Include, Known, Lost, Moved, On, Run, activated_by, answered, bound_answer, bound_by, finds, live_known}
use Words.{load_from, loaded_state, made_by, made_known, moves, named_again, or_lost, other_binding, recorded_kept, same_binding}
use Words.{two_bindings, two_incs, with_inc, write_known, binding_eq, binding_less, binding_number}
use Words.bound
use Words.loaded
use Words.recorded
use Words.invoked
use Words.calls
use Rattle.arj_law_runs.proofs.Terms.{IsTie, IsTiedAt, NamesIn}
use Rattle.arj_law_runs.proofs.calls.CoordSteps.{IsStill, still_at}
use Rattle.arj_law_runs.specs.calls.Homes.{Names}

-- what is kept stays, or is another binding where the root is free of it and the call was still at its Bind
abbrev pub IsBind : At → Type 0
IsBind (AtBind avoid) = ⊤
IsBind _ = ⊥

-- the next step stands on what is kept
abbrev pub TiesNext : Option Known → CallStep → Type 0
TiesNext kept (On at) = IsTiedAt kept at
TiesNext kept (Ended e) = ⊤

pub record IsWellMoved (free : Bool) (kept : Option Known) (at : At) (m : Moved) : Type 0 where
  pub keeps : (old : Known) → kept ≡ Some old → IsStill m.kept old ⊎ ((free ≡ true) × IsBind at)
  pub next : IsTiedAt kept at → TiesNext m.kept m.step

itself : (kept : Option Known) (old : Known) → kept ≡ Some old → IsStill kept old
itself kept old is = (old, is, refl, refl)

some_is : {A : Type 0} {a b : A} → Some a ≡ Some b → a ≡ b
some_is {A} {a} {b} is = let k : ◌≡◌ {A = Option A} (Some a) (Some b) = is in cc

module _ (free : Bool) (kept : Option Known) (g : Goal) where
  -- nothing is changed of what is kept
  same_end : (at : At) (e : calls.CallEnd) → IsWellMoved free kept at (finds kept e)
  same_end at e = record { keeps = λ old is. inl (itself kept old is); next = λ tied. tt }

  same_on : (at next : At) → (IsTiedAt kept at → IsTiedAt kept next) → IsWellMoved free kept at (moves kept next)
  same_on at next f = record { keeps = λ old is. inl (itself kept old is); next = f }

  -- ---- naming's answer

  module _ (avoid : Binding) where
    abbrev Well : Moved → Type 0
    Well m = IsWellMoved free kept (AtBind avoid) m

    with_it : (k : Known) (next : At) → (kept ≡ None) → (IsTie (Some k) k → IsTiedAt (Some k) next) → Well (moves (Some k) next)
    with_it k next none tied = record { keeps = λ old is. absurd (cc (sym none ∙ is)); next = λ t. tied (inr (k, refl, refl, refl)) }

    again : (old k : Known) (next : At) → kept ≡ Some old → binding_number old.binding ≡ binding_number k.binding → old.server ≡ k.server →
        ((q : Known) → IsTie (Some q) k → IsTiedAt (Some q) next) → (i : Option ℕ) → Well (same_binding old k next i)
    again old k next is same server tied None = record {
      keeps = λ o at. let e = some_is (sym is ∙ at) in
          inl (named_again old k, refl, ap (λ (z : Known). binding_number z.binding) e, ap (λ (z : Known). z.server) e);
      next = λ t. tied (named_again old k) (inr (named_again old k, refl, same, server));
    }
    again old k next is same server tied (Some i) = by old.inc
      where
        by : (f : Option ℕ) → Well (with_inc i (named_again old k) next f)
        by None = record {
          keeps = λ o at. let e = some_is (sym is ∙ at) in inl (
            record (named_again old k) { inc = Some i },
            refl,
            ap (λ (z : Known). binding_number z.binding) e,
            ap (λ (z : Known). z.server) e,
          );
          next = λ t.
              tied (record (named_again old k) { inc = Some i }) (inr (record (named_again old k) { inc = Some i }, refl, same, server));
        }
        by (Some first) = one (first == i)
          where
            one : (b : Bool) → Well (cond b (moves (Some (named_again old k)) next)
                (finds (Some (named_again old k)) (Changed (named_again old k).server (two_incs first i))))
            one true = record {
              keeps = λ o at. let e = some_is (sym is ∙ at) in
                  inl (named_again old k, refl, ap (λ (z : Known). binding_number z.binding) e, ap (λ (z : Known). z.server) e);
              next = λ t. tied (named_again old k) (inr (named_again old k, refl, same, server));
            }
            one false = record {
              keeps = λ o at. let e = some_is (sym is ∙ at) in
                  inl (named_again old k, refl, ap (λ (z : Known). binding_number z.binding) e, ap (λ (z : Known). z.server) e);
              next = λ t. tt;
            }

    another : (old k : Known) (next : At) → kept ≡ Some old → (IsTie (Some k) k → IsTiedAt (Some k) next) →
        Well (other_binding free old k next)
    another old k next is tied = by (free && binding_less old.binding k.binding) refl
      where
        by : (b : Bool) → (free && binding_less old.binding k.binding) ≡ b →
            Well (cond b (moves (Some k) next) (finds (Some old) (Changed 1 (two_bindings old.binding k.binding))))
        by true on = record {
          keeps = λ o at. inr ((and_parts free (binding_less old.binding k.binding) on).0, tt);
          next = λ t. tied (inr (k, refl, refl, refl));
        }
        by false off = record {
          keeps = λ o at. let e = some_is (sym is ∙ at) in
              inl (old, refl, ap (λ (z : Known). binding_number z.binding) e, ap (λ (z : Known). z.server) e);
          next = λ t. tt;
        }

    bound_well : (k : Known) (next : At) → ((q : Known) → IsTie (Some q) k → IsTiedAt (Some q) next) → ((old : Known) → kept ≡ Some old →
        binding_number old.binding ≡ binding_number k.binding → old.server ≡ k.server) → Well (bound_by free k next kept)
    bound_well k next tied sure = by kept refl
      where
        by : (o : Option Known) → kept ≡ o → Well (bound_by free k next o)
        by None is = with_it k next is (tied k)
        by (Some old) is = one (binding_eq old.binding k.binding) refl
          where
            one : (b : Bool) → binding_eq old.binding k.binding ≡ b →
                Well (cond b (same_binding old k next k.inc) (other_binding free old k next))
            one true same = let eq = eqb-true (binding_number old.binding) (binding_number k.binding) same in
                again old k next is eq (sure old is eq) tied k.inc
            one false other = another old k next is (tied k)

    naming_well : (r : BoundReply) → ((old : Known) (b : Binding) (n : ℕ) → kept ≡ Some old → Names r b n →
        binding_number old.binding ≡ binding_number b → old.server ≡ n) → Well (bound_answer free kept r)
    naming_well (bound.Live b server i gr stores) sure = bound_well (live_known b server i gr stores)
        (AtInvoke (live_known b server i gr stores) i) (λ q t. t) (λ old is same. sure old b server is (refl, refl) same)
    naming_well (bound.Make b server gr stores) sure = by stores
      where
        by : (ss : List ℕ) → Well (made_by free (made_known b server gr stores) kept (load_from (made_known b server gr stores) ss))
        by [] = same_end (AtBind avoid) (Lost 1 false)
        by (s ∷ ss) = bound_well (made_known b server gr stores) (AtLoad (made_known b server gr stores) s ss) (λ q t. t)
            (λ old is same. sure old b server is (refl, refl) same)
    naming_well (bound.Write gr stores) sure = by stores
      where
        by : (ss : List ℕ) → Well (or_lost kept (load_from (write_known gr stores) ss))
        by [] = same_end (AtBind avoid) (Lost 1 false)
        by (s ∷ ss) = same_on (AtBind avoid) (AtLoad (write_known gr stores) s ss) (λ t. inl refl)
    naming_well (bound.Conflict holder m) sure = same_end (AtBind avoid) (calls.Conflict holder m 1)

  -- ---- the others' answers

  activated_well : (k : Known) (st : ObjectState) (i : ℕ) → IsWellMoved free kept (AtActivate k st) (activated_by k i kept)
  activated_well k st i = by kept refl
    where
      by : (o : Option Known) → kept ≡ o → IsWellMoved free kept (AtActivate k st) (activated_by k i o)
      by None is = record { keeps = λ old at. absurd (cc (sym is ∙ at)); next = λ t. subst (λ o. IsTie o k) is t }
      by (Some old) is = one (binding_eq old.binding k.binding)
        where
          kept_so : IsWellMoved free kept (AtActivate k st) (moves (Some old) (AtNote k i))
          kept_so = record {
            keeps = λ o at. inl (
              old,
              refl,
              ap (λ (z : Known). binding_number z.binding) (some_is (sym is ∙ at)),
              ap (λ (z : Known). z.server) (some_is (sym is ∙ at)),
            );
            next = λ t. subst (λ o. IsTie o k) is t;
          }

          named : (f : Option ℕ) → IsWellMoved free kept (AtActivate k st) (with_inc i old (AtNote k i) f)
          named None = record {
            keeps = λ o at. inl (
              record old { inc = Some i },
              refl,
              ap (λ (z : Known). binding_number z.binding) (some_is (sym is ∙ at)),
              ap (λ (z : Known). z.server) (some_is (sym is ∙ at)),
            );
            next = λ t. still_at (Some old) (Some (record old { inc = Some i })) (AtNote k i) (λ q at. let e = some_is at in
                (record old { inc = Some i }, refl, ap (λ (z : Known). binding_number z.binding) e, ap (λ (z : Known). z.server) e))
                (subst (λ o. IsTie o k) is t);
          }
          named (Some first) = two (first == i)
            where
              two : (b : Bool) → IsWellMoved free kept (AtActivate k st)
                  (cond b (moves (Some old) (AtNote k i)) (finds (Some old) (Changed old.server (two_incs first i))))
              two true = kept_so
              two false = record {
                keeps = λ o at. inl (
                  old,
                  refl,
                  ap (λ (z : Known). binding_number z.binding) (some_is (sym is ∙ at)),
                  ap (λ (z : Known). z.server) (some_is (sym is ∙ at)),
                );
                next = λ t. tt;
              }

          one : (b : Bool) →
              IsWellMoved free kept (AtActivate k st) (cond b (with_inc i old (AtNote k i) old.inc) (moves (Some old) (AtNote k i)))
          one true = named old.inc
          one false = kept_so

  noted_well : (k : Known) (i : ℕ) → IsWellMoved free kept (AtNote k i) (moves (recorded_kept k kept) (AtInvoke k i))
  noted_well k i = record { keeps = λ old is. inl (noted old is); next = λ t. still_at kept (recorded_kept k kept) (AtNote k i) noted t }
    where
      noted : (old : Known) → kept ≡ Some old → IsStill (recorded_kept k kept) old
      noted old is = subst (λ o. IsStill (recorded_kept k o) old) (sym is) (one (binding_eq old.binding k.binding))
        where
          one : (b : Bool) → IsStill (cond b (Some (record old { recorded = true })) (Some old)) old
          one true = (record old { recorded = true }, refl, refl, refl)
          one false = (old, refl, refl, refl)

  -- ---- any answer

  stays : (at : At) → IsWellMoved free kept at (moves kept at)
  stays at = same_on at at (λ t. t)

  pub answer_well : (at : At) (r : Reply) → ((old : Known) (b : Binding) (n : ℕ) → kept ≡ Some old → NamesIn r b n →
      binding_number old.binding ≡ binding_number b → old.server ≡ n) → IsWellMoved free kept at (answered free kept g at r)
  answer_well (AtBind avoid) (Reply.Bound r) sure = naming_well avoid r sure
  answer_well (AtBind avoid) (Reply.Loaded r) sure = stays (AtBind avoid)
  answer_well (AtBind avoid) (Reply.Activated r) sure = stays (AtBind avoid)
  answer_well (AtBind avoid) (Reply.Noted r) sure = stays (AtBind avoid)
  answer_well (AtBind avoid) (Reply.Invoked r) sure = stays (AtBind avoid)
  answer_well (AtBind avoid) (Reply.Voted r) sure = stays (AtBind avoid)
  answer_well (AtBind avoid) (Reply.Prepared r) sure = stays (AtBind avoid)
  answer_well (AtBind avoid) (Reply.Confirmed r) sure = stays (AtBind avoid)
  answer_well (AtLoad k s rest) (Reply.Loaded (loaded.State st)) sure = by g
    where
      by : (q : Goal) → IsWellMoved free kept (AtLoad k s rest) (loaded_state kept k st q)
      by (Run o) = same_on (AtLoad k s rest) (AtActivate k st) (λ t. t)
      by (Include n) = same_end (AtLoad k s rest) (calls.Included st)
  answer_well (AtLoad k s rest) (Reply.Loaded (loaded.InDoubt h)) sure = same_end (AtLoad k s rest) _
  answer_well (AtLoad k s rest) (Reply.Bound r) sure = stays (AtLoad k s rest)
  answer_well (AtLoad k s rest) (Reply.Activated r) sure = stays (AtLoad k s rest)
  answer_well (AtLoad k s rest) (Reply.Noted r) sure = stays (AtLoad k s rest)
  answer_well (AtLoad k s rest) (Reply.Invoked r) sure = stays (AtLoad k s rest)
  answer_well (AtLoad k s rest) (Reply.Voted r) sure = stays (AtLoad k s rest)
  answer_well (AtLoad k s rest) (Reply.Prepared r) sure = stays (AtLoad k s rest)
  answer_well (AtLoad k s rest) (Reply.Confirmed r) sure = stays (AtLoad k s rest)
  answer_well (AtActivate k st) (Reply.Activated i) sure = activated_well k st i
  answer_well (AtActivate k st) (Reply.Bound r) sure = stays (AtActivate k st)
  answer_well (AtActivate k st) (Reply.Loaded r) sure = stays (AtActivate k st)
  answer_well (AtActivate k st) (Reply.Noted r) sure = stays (AtActivate k st)
  answer_well (AtActivate k st) (Reply.Invoked r) sure = stays (AtActivate k st)
  answer_well (AtActivate k st) (Reply.Voted r) sure = stays (AtActivate k st)
  answer_well (AtActivate k st) (Reply.Prepared r) sure = stays (AtActivate k st)
  answer_well (AtActivate k st) (Reply.Confirmed r) sure = stays (AtActivate k st)
  answer_well (AtNote k i) (Reply.Noted recorded.Yes) sure = noted_well k i
  answer_well (AtNote k i) (Reply.Noted (recorded.Changed w)) sure = same_end (AtNote k i) _
  answer_well (AtNote k i) (Reply.Bound r) sure = stays (AtNote k i)
  answer_well (AtNote k i) (Reply.Loaded r) sure = stays (AtNote k i)
  answer_well (AtNote k i) (Reply.Activated r) sure = stays (AtNote k i)
  answer_well (AtNote k i) (Reply.Invoked r) sure = stays (AtNote k i)
  answer_well (AtNote k i) (Reply.Voted r) sure = stays (AtNote k i)
  answer_well (AtNote k i) (Reply.Prepared r) sure = stays (AtNote k i)
  answer_well (AtNote k i) (Reply.Confirmed r) sure = stays (AtNote k i)
  answer_well (AtInvoke k i) (Reply.Invoked (invoked.Answered a)) sure = same_end (AtInvoke k i) _
  answer_well (AtInvoke k i) (Reply.Invoked (invoked.Conflict h m)) sure = same_end (AtInvoke k i) _
  answer_well (AtInvoke k i) (Reply.Invoked (invoked.Changed w)) sure = same_end (AtInvoke k i) _
  answer_well (AtInvoke k i) (Reply.Bound r) sure = stays (AtInvoke k i)
  answer_well (AtInvoke k i) (Reply.Loaded r) sure = stays (AtInvoke k i)
  answer_well (AtInvoke k i) (Reply.Activated r) sure = stays (AtInvoke k i)
  answer_well (AtInvoke k i) (Reply.Noted r) sure = stays (AtInvoke k i)
  answer_well (AtInvoke k i) (Reply.Voted r) sure = stays (AtInvoke k i)
  answer_well (AtInvoke k i) (Reply.Prepared r) sure = stays (AtInvoke k i)
  answer_well (AtInvoke k i) (Reply.Confirmed r) sure = stays (AtInvoke k i)
