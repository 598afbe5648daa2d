-- How what a root keeps of an object, and what it was granted, go on through each answer to a call.
use Rattle.arj_law_parts.proofs.Words
use Words.{◌≡◌, ◌⊎◌, ◌∙◌, ◌≤◌, ◌==◌, ◌&&◌, ℕ, Bool, true, false, cond, min, List, [], ◌∷◌, Option, Some, None, refl, sym, ap, subst, inl}
use Words.{inr, ⊎_elim, arith, and_parts, eqb-true, uid_is, Answer, Binding, BoundReply, Op, Uid, What, uid_eq, Reply, granted_by}
use Words.{notes_grant, At, AtActivate, AtBind, AtInvoke, AtLoad, AtNote, CallEnd, Changed, Ended, Goal, Known, Moved, On, Run}
use Words.{activated_by, answered, bound_answer, bound_by, finds, live_known, load_from, made_by, made_known, moves, named_again}
use Words.{other_binding, recorded_kept, same_binding, two_bindings, two_incs, with_inc, Grant, Root, granted_with, is_call, is_grant_of}
use Words.{named_last, binding_eq, binding_less, binding_number}
use Words.list
use Words.bound
use Words.invoked
use Words.loaded
use Words.recorded
use Words.calls
use Rattle.arj_law_lock_view.proofs.Terms.{AnswersAt, IsAbove, IsLow, is_bind}

some_is : {A : Type 0} {a b : A} → Some a ≡ Some b → a ≡ b
some_is {A} {a} {b} is = let k : ◌≡◌ {A = Option A} (Some a) (Some b) = is in cc

-- a binding of this number was kept
abbrev pub WasKept : Option Known → Known → Type 0
WasKept o k = (old : Known) × (o ≡ Some old) × (binding_number old.binding ≡ binding_number k.binding)

-- the answer grants by a binding of this number
pub record Names (r : Reply) (k : Known) : Type 0 where
  pub incarnation : ℕ
  pub binding : Binding
  pub grants : (top : Uid) (x : ℕ) → granted_by top x r ≡ Some (record { top = top; x = x; least = incarnation; named = Some binding })
  pub same : binding_number binding ≡ binding_number k.binding

-- Of the step after an answer, where a call is kept a binding: it was kept, or naming answered where none was kept or the root is free; a
-- step past the Bind stands on one past it or on what naming has granted; and only a call past its Bind is answered.
pub record IsMoved (g : Goal) (free : Bool) (kept : Option Known) (at : At) (r : Reply) (m : Moved) : Type 0 where
  pub keeps : is_call g ≡ true → (k : Known) → m.kept ≡ Some k → WasKept kept k ⊎ ((is_bind at ≡ true) × ((kept ≡ None) ⊎ (free ≡ true)))
  pub next : (n : At) → m.step ≡ On n → is_call g ≡ true → is_bind n ≡ false → (k : Known) → m.kept ≡ Some k →
      ((is_bind at ≡ false) × WasKept kept k) ⊎ Names r k
  pub ends : (a : Answer) → m.step ≡ Ended (calls.Answered a) →
      (is_call g ≡ true) × (is_bind at ≡ false) × ((k : Known) → m.kept ≡ Some k → WasKept kept k)

on_not : {n : At} {e : CallEnd} → Ended e ≡ On n → ⊥
on_not is = cc is

not_on : {n : At} {e : CallEnd} → On n ≡ Ended e → ⊥
not_on is = cc is

end_is : {e f : CallEnd} → Ended e ≡ Ended f → e ≡ f
end_is is = cc

at_is : {n m : At} → On n ≡ On m → n ≡ m
at_is is = cc

module _ (o : Op) (kept : Option Known) where
  still : (k : Known) → kept ≡ Some k → WasKept kept k
  still k is = (k, is, refl)

  -- ---- past the Bind

  module _ (free : Bool) (at : At) (r : Reply) (past : is_bind at ≡ false) where
    -- the same binding is kept
    same_kept : (m : Moved) → ((k : Known) → m.kept ≡ Some k → WasKept kept k) → IsMoved (Run o) free kept at r m
    same_kept m keeps = record {
      keeps = λ call k is. inl (keeps k is);
      next = λ n is call later k its. inl (past, keeps k its);
      ends = λ a is. (refl, past, keeps);
    }

    goes : (old : Known) (n : At) → kept ≡ Some old → IsMoved (Run o) free kept at r (moves (Some old) n)
    goes old n is = same_kept (moves (Some old) n) (λ k e. (old, is, ap (λ (z : Known). binding_number z.binding) (some_is e)))

    -- of the kept binding another incarnation may be named
    inc_well : (i : ℕ) (old : Known) (n : At) (f : Option ℕ) → kept ≡ Some old → IsMoved (Run o) free kept at r (with_inc i old n f)
    inc_well i old n None is = same_kept (moves (Some (record old { inc = Some i })) n)
        (λ k e. (old, is, ap (λ (z : Known). binding_number z.binding) (some_is e)))
    inc_well i old n (Some first) is = by (first == i)
      where
        by : (b : Bool) →
            IsMoved (Run o) free kept at r (cond b (moves (Some old) n) (finds (Some old) (Changed old.server (two_incs first i))))
        by true = goes old n is
        by false = same_kept (finds (Some old) (Changed old.server (two_incs first i)))
            (λ k e. (old, is, ap (λ (z : Known). binding_number z.binding) (some_is e)))

    activated_well : (k : Known) (i : ℕ) (q : Option Known) → kept ≡ q → IsMoved (Run o) free kept at r (activated_by k i q)
    activated_well k i None is =
        same_kept (moves None (AtNote k i)) (λ z e. let no_way : ◌≡◌ {A = Option Known} None (Some z) = e in absurd (cc no_way))
    activated_well k i (Some old) is = by (binding_eq old.binding k.binding)
      where
        by : (b : Bool) → IsMoved (Run o) free kept at r (cond b (with_inc i old (AtNote k i) old.inc) (moves (Some old) (AtNote k i)))
        by true = inc_well i old (AtNote k i) old.inc is
        by false = goes old (AtNote k i) is

    noted_well : (k : Known) (i : ℕ) (q : Option Known) → kept ≡ q →
        IsMoved (Run o) free kept at r (moves (recorded_kept k q) (AtInvoke k i))
    noted_well k i None is =
        same_kept (moves None (AtInvoke k i)) (λ z e. let no_way : ◌≡◌ {A = Option Known} None (Some z) = e in absurd (cc no_way))
    noted_well k i (Some old) is = by (binding_eq old.binding k.binding)
      where
        by : (b : Bool) → IsMoved (Run o) free kept at r (moves (cond b (Some (record old { recorded = true })) (Some old)) (AtInvoke k i))
        by true = same_kept (moves (Some (record old { recorded = true })) (AtInvoke k i))
            (λ z e. (old, is, ap (λ (y : Known). binding_number y.binding) (some_is e)))
        by false = goes old (AtInvoke k i) is

  -- ---- a Bind is answered

  module _ (free : Bool) (avoid : Binding) (r : Reply) where
    ended_well : (e : CallEnd) → ((a : Answer) → e ≡ calls.Answered a → ⊥) → IsMoved (Run o) free kept (AtBind avoid) r (finds kept e)
    ended_well e unanswered = record {
      keeps = λ call k is. inl (still k is);
      next = λ n is call past k its. absurd (on_not is);
      ends = λ a is. absurd (unanswered a (end_is is));
    }

    -- what was kept is kept, with this step
    named_well : (k : Known) (n : At) (old : Known) (z : Known) → kept ≡ Some old → Names r k →
        (binding_number z.binding ≡ binding_number old.binding) → (binding_number old.binding ≡ binding_number k.binding) →
        IsMoved (Run o) free kept (AtBind avoid) r (moves (Some z) n)
    named_well k n old z is names first second = record {
      keeps = λ call y its. inl (old, is, sym first ∙ ap (λ (w : Known). binding_number w.binding) (some_is its));
      next = λ m on call past y its. inr (record {
        incarnation = names.incarnation;
        binding = names.binding;
        grants = names.grants;
        same = names.same ∙ sym second ∙ sym first ∙ ap (λ (w : Known). binding_number w.binding) (some_is its);
      });
      ends = λ a on. absurd (not_on on);
    }

    kept_changed : (old z : Known) (n : ℕ) (w : What) → kept ≡ Some old → binding_number z.binding ≡ binding_number old.binding →
        IsMoved (Run o) free kept (AtBind avoid) r (finds (Some z) (Changed n w))
    kept_changed old z n w is same = record {
      keeps = λ call y its. inl (old, is, sym same ∙ ap (λ (q : Known). binding_number q.binding) (some_is its));
      next = λ m on call past k its. absurd (on_not on);
      ends = λ a on. let no_way : Changed n w ≡ calls.Answered a = end_is on in absurd (cc no_way);
    }

    bound_well : (k : Known) (n : At) (q : Option Known) → kept ≡ q → Names r k →
        IsMoved (Run o) free kept (AtBind avoid) r (bound_by free k n q)
    bound_well k n None is names = record {
      keeps = λ call y its. inr (refl, inl is);
      next = λ m on call past y its. inr (record {
        incarnation = names.incarnation;
        binding = names.binding;
        grants = names.grants;
        same = names.same ∙ ap (λ (w : Known). binding_number w.binding) (some_is its);
      });
      ends = λ a on. absurd (not_on on);
    }
    bound_well k n (Some old) is names = by (binding_eq old.binding k.binding) refl
      where
        inc : binding_number old.binding ≡ binding_number k.binding → (i : ℕ) (f : Option ℕ) →
            IsMoved (Run o) free kept (AtBind avoid) r (with_inc i (named_again old k) n f)
        inc equal i None = named_well k n old (record (named_again old k) { inc = Some i }) is names refl equal
        inc equal i (Some first) = one (first == i)
          where
            one : (b : Bool) → IsMoved (Run o) free kept (AtBind avoid) r
                (cond b (moves (Some (named_again old k)) n) (finds (Some (named_again old k)) (Changed old.server (two_incs first i))))
            one true = named_well k n old (named_again old k) is names refl equal
            one false = kept_changed old (named_again old k) old.server (two_incs first i) is refl

        same : binding_number old.binding ≡ binding_number k.binding → (f : Option ℕ) →
            IsMoved (Run o) free kept (AtBind avoid) r (same_binding old k n f)
        same equal None = named_well k n old (named_again old k) is names refl equal
        same equal (Some i) = inc equal i old.inc

        other : (b : Bool) → (free && binding_less old.binding k.binding) ≡ b → IsMoved (Run o) free kept (AtBind avoid) r
            (cond b (moves (Some k) n) (finds (Some old) (Changed 1 (two_bindings old.binding k.binding))))
        other true on = record {
          keeps = λ call y its. inr (refl, inr (and_parts free (binding_less old.binding k.binding) on).0);
          next = λ m at call past y its. inr (record {
            incarnation = names.incarnation;
            binding = names.binding;
            grants = names.grants;
            same = names.same ∙ ap (λ (w : Known). binding_number w.binding) (some_is its);
          });
          ends = λ a at. absurd (not_on at);
        }
        other false on = kept_changed old old 1 (two_bindings old.binding k.binding) is refl

        by : (b : Bool) → binding_eq old.binding k.binding ≡ b →
            IsMoved (Run o) free kept (AtBind avoid) r (cond b (same_binding old k n k.inc) (other_binding free old k n))
        by true equal = same (eqb-true (binding_number old.binding) (binding_number k.binding) equal) k.inc
        by false apart = other (free && binding_less old.binding k.binding) refl

  naming_well : (free : Bool) (avoid : Binding) (r : BoundReply) → AnswersAt (Run o) (AtBind avoid) (Reply.Bound r) →
      IsMoved (Run o) free kept (AtBind avoid) (Reply.Bound r) (bound_answer free kept r)
  naming_well free avoid (bound.Live b server i g stores) fits =
      bound_well free avoid (Reply.Bound (bound.Live b server i g stores)) (live_known b server i g stores)
      (AtInvoke (live_known b server i g stores) i) kept refl (record { incarnation = g; binding = b; grants = λ top x. refl; same = refl })
  naming_well free avoid (bound.Make b server g stores) fits = by stores
    where
      by : (ss : List ℕ) → IsMoved (Run o) free kept (AtBind avoid) (Reply.Bound (bound.Make b server g stores))
          (made_by free (made_known b server g stores) kept (load_from (made_known b server g stores) ss))
      by [] = ended_well free avoid (Reply.Bound (bound.Make b server g stores)) (calls.Lost 1 false) (λ a is. cc is)
      by (s ∷ ss) = bound_well free avoid (Reply.Bound (bound.Make b server g stores)) (made_known b server g stores) (AtLoad
          (made_known b server g stores) s ss) kept refl (record { incarnation = g; binding = b; grants = λ top x. refl; same = refl })
  naming_well free avoid (bound.Write g stores) fits = absurd fits
  naming_well free avoid (bound.Conflict h m) fits =
      ended_well free avoid (Reply.Bound (bound.Conflict h m)) (calls.Conflict h m 1) (λ a is. cc is)

  module _ (free : Bool) where
    -- an answer to another step changes nothing
    stays_bind : (avoid : Binding) (r : Reply) → IsMoved (Run o) free kept (AtBind avoid) r (moves kept (AtBind avoid))
    stays_bind avoid r = record {
      keeps = λ call k is. inl (still k is);
      next = λ n is call past k its. let no_way : true ≡ false = ap is_bind (at_is is) ∙ past in absurd (cc no_way);
      ends = λ a is. absurd (not_on is);
    }

    stays_past : (at : At) (r : Reply) → is_bind at ≡ false → IsMoved (Run o) free kept at r (moves kept at)
    stays_past at r past = same_kept free at r past (moves kept at) still

  pub answer_well : (free : Bool) (at : At) (r : Reply) → AnswersAt (Run o) at r →
      IsMoved (Run o) free kept at r (answered free kept (Run o) at r)
  answer_well free (AtBind avoid) (Reply.Bound r) fits = naming_well free avoid r fits
  answer_well free (AtLoad k n rest) (Reply.Loaded (loaded.State st)) fits =
      same_kept free (AtLoad k n rest) (Reply.Loaded (loaded.State st)) refl (moves kept (AtActivate k st)) still
  answer_well free (AtLoad k n rest) (Reply.Loaded (loaded.InDoubt h)) fits =
      same_kept free (AtLoad k n rest) (Reply.Loaded (loaded.InDoubt h)) refl _ still
  answer_well free (AtActivate k st) (Reply.Activated i) fits = activated_well free (AtActivate k st) (Reply.Activated i) refl k i kept refl
  answer_well free (AtNote k i) (Reply.Noted recorded.Yes) fits = noted_well free (AtNote k i) (Reply.Noted recorded.Yes) refl k i kept refl
  answer_well free (AtNote k i) (Reply.Noted (recorded.Changed w)) fits =
      same_kept free (AtNote k i) (Reply.Noted (recorded.Changed w)) refl _ still
  answer_well free (AtInvoke k i) (Reply.Invoked (invoked.Answered a)) fits =
      same_kept free (AtInvoke k i) (Reply.Invoked (invoked.Answered a)) refl _ still
  answer_well free (AtInvoke k i) (Reply.Invoked (invoked.Conflict h m)) fits =
      same_kept free (AtInvoke k i) (Reply.Invoked (invoked.Conflict h m)) refl _ still
  answer_well free (AtInvoke k i) (Reply.Invoked (invoked.Changed w)) fits =
      same_kept free (AtInvoke k i) (Reply.Invoked (invoked.Changed w)) refl _ still
  answer_well free (AtBind avoid) (Reply.Loaded r) fits = stays_bind free avoid (Reply.Loaded r)
  answer_well free (AtBind avoid) (Reply.Activated r) fits = stays_bind free avoid (Reply.Activated r)
  answer_well free (AtBind avoid) (Reply.Noted r) fits = stays_bind free avoid (Reply.Noted r)
  answer_well free (AtBind avoid) (Reply.Invoked r) fits = stays_bind free avoid (Reply.Invoked r)
  answer_well free (AtBind avoid) (Reply.Voted r) fits = stays_bind free avoid (Reply.Voted r)
  answer_well free (AtBind avoid) (Reply.Prepared r) fits = stays_bind free avoid (Reply.Prepared r)
  answer_well free (AtBind avoid) (Reply.Confirmed r) fits = stays_bind free avoid (Reply.Confirmed r)
  answer_well free (AtLoad k n rest) (Reply.Bound r) fits = stays_past free (AtLoad k n rest) (Reply.Bound r) refl
  answer_well free (AtLoad k n rest) (Reply.Activated r) fits = stays_past free (AtLoad k n rest) (Reply.Activated r) refl
  answer_well free (AtLoad k n rest) (Reply.Noted r) fits = stays_past free (AtLoad k n rest) (Reply.Noted r) refl
  answer_well free (AtLoad k n rest) (Reply.Invoked r) fits = stays_past free (AtLoad k n rest) (Reply.Invoked r) refl
  answer_well free (AtLoad k n rest) (Reply.Voted r) fits = stays_past free (AtLoad k n rest) (Reply.Voted r) refl
  answer_well free (AtLoad k n rest) (Reply.Prepared r) fits = stays_past free (AtLoad k n rest) (Reply.Prepared r) refl
  answer_well free (AtLoad k n rest) (Reply.Confirmed r) fits = stays_past free (AtLoad k n rest) (Reply.Confirmed r) refl
  answer_well free (AtActivate k st) (Reply.Bound r) fits = stays_past free (AtActivate k st) (Reply.Bound r) refl
  answer_well free (AtActivate k st) (Reply.Loaded r) fits = stays_past free (AtActivate k st) (Reply.Loaded r) refl
  answer_well free (AtActivate k st) (Reply.Noted r) fits = stays_past free (AtActivate k st) (Reply.Noted r) refl
  answer_well free (AtActivate k st) (Reply.Invoked r) fits = stays_past free (AtActivate k st) (Reply.Invoked r) refl
  answer_well free (AtActivate k st) (Reply.Voted r) fits = stays_past free (AtActivate k st) (Reply.Voted r) refl
  answer_well free (AtActivate k st) (Reply.Prepared r) fits = stays_past free (AtActivate k st) (Reply.Prepared r) refl
  answer_well free (AtActivate k st) (Reply.Confirmed r) fits = stays_past free (AtActivate k st) (Reply.Confirmed r) refl
  answer_well free (AtNote k i) (Reply.Bound r) fits = stays_past free (AtNote k i) (Reply.Bound r) refl
  answer_well free (AtNote k i) (Reply.Loaded r) fits = stays_past free (AtNote k i) (Reply.Loaded r) refl
  answer_well free (AtNote k i) (Reply.Activated r) fits = stays_past free (AtNote k i) (Reply.Activated r) refl
  answer_well free (AtNote k i) (Reply.Invoked r) fits = stays_past free (AtNote k i) (Reply.Invoked r) refl
  answer_well free (AtNote k i) (Reply.Voted r) fits = stays_past free (AtNote k i) (Reply.Voted r) refl
  answer_well free (AtNote k i) (Reply.Prepared r) fits = stays_past free (AtNote k i) (Reply.Prepared r) refl
  answer_well free (AtNote k i) (Reply.Confirmed r) fits = stays_past free (AtNote k i) (Reply.Confirmed r) refl
  answer_well free (AtInvoke k i) (Reply.Bound r) fits = stays_past free (AtInvoke k i) (Reply.Bound r) refl
  answer_well free (AtInvoke k i) (Reply.Loaded r) fits = stays_past free (AtInvoke k i) (Reply.Loaded r) refl
  answer_well free (AtInvoke k i) (Reply.Activated r) fits = stays_past free (AtInvoke k i) (Reply.Activated r) refl
  answer_well free (AtInvoke k i) (Reply.Noted r) fits = stays_past free (AtInvoke k i) (Reply.Noted r) refl
  answer_well free (AtInvoke k i) (Reply.Voted r) fits = stays_past free (AtInvoke k i) (Reply.Voted r) refl
  answer_well free (AtInvoke k i) (Reply.Prepared r) fits = stays_past free (AtInvoke k i) (Reply.Prepared r) refl
  answer_well free (AtInvoke k i) (Reply.Confirmed r) fits = stays_past free (AtInvoke k i) (Reply.Confirmed r) refl

-- ---- grants

-- a grant of the list is there with no later incarnation
pub more_granted : (n g : Grant) (gs : List Grant) → list.In g gs →
    (h : Grant) × list.In h (granted_with n gs) × (h.x ≡ g.x) × (h.top ≡ g.top) × (h.least ≤ g.least)
more_granted n g [] i = absurd i
more_granted n g (k ∷ ks) i = by (is_grant_of n.top n.x k) i (more_granted n g ks)
  where
    merged : Grant
    merged = record k { least = min k.least n.least; named = named_last n.named k.named }

    less : (a b c : ℕ) → a ≡ c → min a b ≤ c
    less a b c is = grind (arith, is)

    by : (b : Bool) → (k ≡ g) ⊎ list.In g ks →
        (list.In g ks → (h : Grant) × list.In h (granted_with n ks) × (h.x ≡ g.x) × (h.top ≡ g.top) × (h.least ≤ g.least))
        → (h : Grant) × list.In h (cond b (record k { least = min k.least n.least; named = named_last n.named k.named } ∷ ks)
        (k ∷ granted_with n ks)) × (h.x ≡ g.x) × (h.top ≡ g.top) × (h.least ≤ g.least)
    by true (inl same) ih = (
      merged,
      inl refl,
      ap (λ (z : Grant). z.x) same,
      ap (λ (z : Grant). z.top) same,
      less k.least n.least g.least (ap (λ (z : Grant). z.least) same),
    )
    by true (inr j) ih = (g, inr j, refl, refl, omega arith)
    by false (inl same) ih = (
      k,
      inl refl,
      ap (λ (z : Grant). z.x) same,
      ap (λ (z : Grant). z.top) same,
      subst (λ (z : Grant). z.least ≤ g.least) (sym same) (omega arith),
    )
    by false (inr j) ih = let f = ih j in (f.0, inr f.1, f.2, f.3, f.4)

-- and so is the new one
pub new_granted : (n : Grant) (gs : List Grant) →
    (h : Grant) × list.In h (granted_with n gs) × (h.x ≡ n.x) × (h.top ≡ n.top) × (h.least ≤ n.least)
new_granted n [] = (n, inl refl, refl, refl, omega arith)
new_granted n (k ∷ ks) = by (is_grant_of n.top n.x k) refl (new_granted n ks)
  where
    less : (a b : ℕ) → min a b ≤ b
    less a b = grind arith

    by : (b : Bool) → is_grant_of n.top n.x k ≡ b →
        ((h : Grant) × list.In h (granted_with n ks) × (h.x ≡ n.x) × (h.top ≡ n.top) × (h.least ≤ n.least))
        → (h : Grant) × list.In h (cond b (record k { least = min k.least n.least; named = named_last n.named k.named } ∷ ks)
        (k ∷ granted_with n ks)) × (h.x ≡ n.x) × (h.top ≡ n.top) × (h.least ≤ n.least)
    by true is ih = let p = and_parts (uid_eq k.top n.top) (k.x == n.x) is in (
      record k { least = min k.least n.least; named = named_last n.named k.named },
      inl refl,
      eqb-true k.x n.x p.1,
      uid_is k.top n.top p.0,
      less k.least n.least,
    )
    by false is ih = (ih.0, inr ih.1, ih.2, ih.3, ih.4)

-- A grant that names a binding isn't above it.
abbrev pub AreLow : List Grant → Type 0
AreLow gs = (g : Grant) (b : Binding) → list.In g gs → g.named ≡ Some b → IsLow g.least b

pub still_low : (n : Grant) (gs : List Grant) → ((b : Binding) → n.named ≡ Some b → IsLow n.least b) → AreLow gs →
    AreLow (granted_with n gs)
still_low n [] new all g b i is =
    ⊎_elim (λ same. subst (λ (z : Grant). IsLow z.least b) same (new b (ap (λ (z : Grant). z.named) same ∙ is))) (λ none. absurd none) i
still_low n (k ∷ ks) new all g b i is = by (is_grant_of n.top n.x k) (still_low n ks new (λ h c j e. all h c (inr j) e)) g b i is
  where
    low : (a i : ℕ) (b : Binding) → a ≤ i → IsLow i b → IsLow a b
    low a i b less is = omega (arith, less, is)

    left : (a b : ℕ) → min a b ≤ a
    left a b = grind arith

    right : (a b : ℕ) → min a b ≤ b
    right a b = grind arith

    merged : (b : Binding) (o : Option Binding) → n.named ≡ o → named_last o k.named ≡ Some b → IsLow (min k.least n.least) b
    merged b None none is = low (min k.least n.least) k.least b (left k.least n.least) (all k b (inl refl) is)
    merged b (Some z) named is = low (min k.least n.least) n.least b (right k.least n.least) (new b (named ∙ is))

    by : (w : Bool) → AreLow (granted_with n ks) →
        AreLow (cond w (record k { least = min k.least n.least; named = named_last n.named k.named } ∷ ks) (k ∷ granted_with n ks))
    by true ih h c (inl same) e = subst (λ (z : Grant). IsLow z.least c) same (merged c n.named refl (ap (λ (z : Grant). z.named) same ∙ e))
    by true ih h c (inr j) e = all h c (inr j) e
    by false ih h c (inl same) e = all h c (inl same) e
    by false ih h c (inr j) e = ih h c j e

-- ---- the grants of a root

pub noted_low : (n : Option Grant) (r : Root) → ((g : Grant) → n ≡ Some g → (b : Binding) → g.named ≡ Some b → IsLow g.least b) →
    AreLow r.grants → AreLow (let q = notes_grant n r in q.grants)
noted_low None r new all = all
noted_low (Some n) r new all = still_low n r.grants (new n refl) all

pub noted_more : (n : Option Grant) (r : Root) (g : Grant) → list.In g r.grants →
    (h : Grant) × list.In h (let q = notes_grant n r in q.grants) × (h.x ≡ g.x) × (h.top ≡ g.top) × (h.least ≤ g.least)
noted_more None r g i = (g, i, refl, refl, omega arith)
noted_more (Some n) r g i = more_granted n g r.grants i

pub noted_new : (n : Option Grant) (g : Grant) (r : Root) → n ≡ Some g →
    (h : Grant) × list.In h (let q = notes_grant n r in q.grants) × (h.x ≡ g.x) × (h.top ≡ g.top) × (h.least ≤ g.least)
noted_new None g r is = let no_way : ◌≡◌ {A = Option Grant} None (Some g) = is in absurd (cc no_way)
noted_new (Some n) g r is = subst (λ (z : Grant). (h : Grant) × list.In h (granted_with n r.grants) × (h.x ≡ z.x) × (h.top ≡ z.top)
    × (h.least ≤ z.least)) (some_is is) (new_granted n r.grants)

-- what an answer grants
pub granted_low : (top : Uid) (x : ℕ) (r : Reply) → ((b : BoundReply) → r ≡ Reply.Bound b → IsAbove b) → (g : Grant) →
    granted_by top x r ≡ Some g → (b : Binding) → g.named ≡ Some b → IsLow g.least b
granted_low top x (Reply.Bound (bound.Live a server i n stores)) given g is b named = let e = some_is is in subst (λ (z : Grant).
    IsLow z.least b) e (subst (IsLow n) (some_is (ap (λ (z : Grant). z.named) e ∙ named)) (given (bound.Live a server i n stores) refl))
granted_low top x (Reply.Bound (bound.Make a server n stores)) given g is b named = let e = some_is is in subst (λ (z : Grant).
    IsLow z.least b) e (subst (IsLow n) (some_is (ap (λ (z : Grant). z.named) e ∙ named)) (given (bound.Make a server n stores) refl))
granted_low top x (Reply.Bound (bound.Write n stores)) given g is b named =
    let no_way : ◌≡◌ {A = Option Binding} None (Some b) = ap (λ (z : Grant). z.named) (some_is is) ∙ named in absurd (cc no_way)
granted_low top x (Reply.Bound (bound.Conflict h m)) given g is b named = absurd (cc is)
granted_low top x (Reply.Loaded r) given g is b named = absurd (cc is)
granted_low top x (Reply.Activated r) given g is b named = absurd (cc is)
granted_low top x (Reply.Noted r) given g is b named = absurd (cc is)
granted_low top x (Reply.Invoked r) given g is b named = absurd (cc is)
granted_low top x (Reply.Voted r) given g is b named = absurd (cc is)
granted_low top x (Reply.Prepared r) given g is b named = absurd (cc is)
granted_low top x (Reply.Confirmed r) given g is b named = absurd (cc is)
