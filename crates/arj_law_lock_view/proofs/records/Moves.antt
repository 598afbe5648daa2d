-- How what a root keeps of an object goes on through each answer to a call, and on what the next step stands.
use Rattle.arj_law_parts.proofs.Words
use Words.{◌≡◌, ◌⊎◌, ◌≤◌, ◌<◌, ◌==◌, ◌&&◌, ◌||◌, ℕ, Bool, true, false, cond, List, [], ◌∷◌, Option, Some, None, refl, sym, ◌∙◌, ap, subst}
use Words.{inl, inr, ⊎_elim, arith, nat_lt, eqb-true, ⊤, and_parts, Binding, BoundReply, Op, Uid, Reply, At, AtActivate, AtBind, AtInvoke}
use Words.{AtLoad, AtNote, CallEnd, CallStep, Changed, Ended, Known, Moved, On, Run, activated_by, answered, ask_at, bound_answer, bound_by}
use Words.{finds, given_up, live_known, load_from, made_by, made_known, moves, named_again, other_binding, recorded_kept, same_binding}
use Words.{two_bindings, two_incs, with_inc, binding_eq, binding_less, binding_number, has}
use Words.bound
use Words.invoked
use Words.loaded
use Words.recorded
use Words.calls
use Rattle.arj_law_lock_view.proofs.Terms
use Terms.{AnswersAt, some_is, is_bind, SaysReply, CallStands, HasNumber, IsKept, IsRecorded, top_number, Tests}
use Rattle.arj_law_lock_view.proofs.records.Namings.{none_not}
use Rattle.arj_law_lock_view.specs.records.Claims.{SaysBind}

-- the binding that is kept is kept, and where it is known to be recorded it is so still
abbrev pub StaysKept : Option Known → Option Known → Type 0
StaysKept old new = (z : Known) → old ≡ Some z →
    (y : Known) × (new ≡ Some y) × (binding_number y.binding ≡ binding_number z.binding) × (z.recorded ≡ true → y.recorded ≡ true)

pub recorded_stays : (old new : Option Known) → StaysKept old new → IsRecorded old → IsRecorded new
recorded_stays None new stays rec = absurd rec
recorded_stays (Some z) new stays rec = let f = stays z refl in subst IsRecorded (sym f.1) (f.3 rec)

number_stays : (old new : Option Known) (k : Known) → StaysKept old new → HasNumber old k → HasNumber new k
number_stays old new k stays h = let f = stays h.0 h.1 in (f.0, f.1, f.2 ∙ h.2)

-- a call stands on it still
pub call_stays : (T : Tests) (x : ℕ) (old new : Option Known) (a b : Binding) (at : At) → StaysKept old new →
    binding_number b ≡ binding_number a → CallStands T x old a at → CallStands T x new b at
call_stays T x old new a b (AtBind c) stays same s = s ∙ sym same
call_stays T x old new a b (AtLoad z n rest) stays same s = (number_stays old new z stays s.0, s.1, s.2)
call_stays T x old new a b (AtActivate z st) stays same s = (number_stays old new z stays s.0, s.1)
call_stays T x old new a b (AtNote z i) stays same s = (number_stays old new z stays s.0, s.1)
call_stays T x old new a b (AtInvoke z i) stays same s = recorded_stays old new stays s

-- a call that was answered stands on what is recorded, and no call ends as an include
abbrev pub EndsOn : Option Known → CallEnd → Type 0
EndsOn kept (calls.Answered a) = IsRecorded kept
EndsOn kept (calls.Included st) = ⊥
EndsOn kept e = ⊤

pub keeps_all : (o : Option Known) → StaysKept o o
keeps_all o z is = (z, is, refl, λ r. r)

-- ---- a call is answered

module _ (T : Tests) (x : ℕ) (top : Uid) (o : Op) (kept : Option Known) (avoid : Binding) (ordered : (z : Known) → kept ≡ Some z →
    IsKept T x avoid z) where
  pub record IsMoved (free : Bool) (at : At) (m : Moved) : Type 0 where
    pub kept_so : (z : Known) → m.kept ≡ Some z → IsKept T x avoid z
    pub height : top_number kept avoid ≤ top_number m.kept avoid
    pub stays : StaysKept kept m.kept ⊎ ((is_bind at ≡ true) × (free ≡ true))
    pub next : (n : At) → m.step ≡ On n → CallStands T x m.kept avoid n
    pub ends : (e : CallEnd) → m.step ≡ Ended e → EndsOn m.kept e

  on_not : {n : At} {e : CallEnd} → Ended e ≡ On n → ⊥
  on_not is = cc is

  not_on : {n : At} {e : CallEnd} → On n ≡ Ended e → ⊥
  not_on is = cc is

  end_is : {e f : CallEnd} → Ended e ≡ Ended f → e ≡ f
  end_is is = cc is

  at_is : {n m : At} → On n ≡ On m → n ≡ m
  at_is is = cc is

  at_most : (a b : ℕ) → a ≡ b → a ≤ b
  at_most a b same = omega (arith, same)

  module _ (free : Bool) (at : At) where
    -- a step that leaves what is kept
    same_moved : (s : CallStep) → ((n : At) → s ≡ On n → CallStands T x kept avoid n) → ((e : CallEnd) → s ≡ Ended e → EndsOn kept e) →
        IsMoved free at (record { step = s; kept = kept })
    same_moved s next ends = record { kept_so = ordered; height = omega arith; stays = inl (keeps_all kept); next = next; ends = ends }

    stays_at : CallStands T x kept avoid at → IsMoved free at (moves kept at)
    stays_at s = same_moved (On at) (λ n is. subst (CallStands T x kept avoid) (at_is is) s) (λ a is. absurd (not_on is))

    ended : (e : CallEnd) → EndsOn kept e → IsMoved free at (finds kept e)
    ended e on = same_moved (Ended e) (λ n is. absurd (on_not is)) (λ a is. subst (EndsOn kept) (end_is is) on)

    -- the kept binding with more known of it, and this step
    module _ (old z : Known) (is : kept ≡ Some old) (same : binding_number z.binding ≡ binding_number old.binding)
        (rec : old.recorded ≡ true → z.recorded ≡ true) (past : z.recorded ≡ true → T.past x (binding_number old.binding) ≡ true) where
      stays_z : StaysKept kept (Some z)
      stays_z y at_y = let e : old ≡ y = some_is (sym is ∙ at_y) in
          (z, refl, same ∙ ap (λ (w : Known). binding_number w.binding) e, λ r. rec (ap (λ (w : Known). w.recorded) e ∙ r))

      z_so : (y : Known) → ◌≡◌ {A = Option Known} (Some z) (Some y) → IsKept T x avoid y
      z_so y e =
          let k = ordered old is in
          let eq : z ≡ y = some_is e in
          let number : binding_number old.binding ≡ binding_number y.binding = sym same
          ∙ ap (λ (w : Known). binding_number w.binding) eq in record {
            made = subst (λ n. T.made n ≡ true) number k.made;
            above = subst (λ n. binding_number avoid < n) number k.above;
            past = λ r. subst (λ n. T.past x n ≡ true) number (past (ap (λ (w : Known). w.recorded) eq ∙ r));
          }

      more_moved : (s : CallStep) → ((n : At) → s ≡ On n → CallStands T x (Some z) avoid n) →
          ((e : CallEnd) → s ≡ Ended e → EndsOn (Some z) e) → IsMoved free at (record { step = s; kept = Some z })
      more_moved s next ends = record {
        kept_so = z_so;
        height = at_most _ _ (ap (λ q. top_number q avoid) is ∙ sym same);
        stays = inl stays_z;
        next = next;
        ends = ends;
      }

  -- ---- naming answers

  module _ (free : Bool) (b : Binding) (at_avoid : binding_number b ≡ binding_number avoid) where
    abbrev Bound : Moved → Type 0
    Bound m = IsMoved free (AtBind b) m

    -- a binding that naming names, with the step that goes on by it
    record IsGood (k : Known) (n : At) : Type 0 where
      made : T.made (binding_number k.binding) ≡ true
      above : binding_less b k.binding ≡ true
      past : k.recorded ≡ true → T.past x (binding_number k.binding) ≡ true
      stands : (z : Known) → binding_number z.binding ≡ binding_number k.binding → (k.recorded ≡ true → z.recorded ≡ true) →
          CallStands T x (Some z) avoid n

    less_is : (a c e : ℕ) → nat_lt a c ≡ true → a ≡ e → e < c
    less_is a c e less same = grind (arith, less, same)

    or_true : (a c : Bool) → c ≡ true → (a || c) ≡ true
    or_true true c is = refl
    or_true false c is = is

    or_left : (a c : Bool) → a ≡ true → (a || c) ≡ true
    or_left true c is = refl
    or_left false c is = absurd (cc is)

    or_is : (a c : Bool) → (a || c) ≡ true → (a ≡ true) ⊎ (c ≡ true)
    or_is true c is = inl refl
    or_is false c is = inr is

    bound_moved : (k : Known) (n : At) (q : Option Known) → kept ≡ q → IsGood k n → Bound (bound_by free k n q)
    bound_moved k n None is good = record {
      kept_so = λ z e. let eq : k ≡ z = some_is e in record {
        made = subst (λ (w : Known). T.made (binding_number w.binding) ≡ true) eq good.made;
        above = subst (λ (w : Known). binding_number avoid < binding_number w.binding) eq above;
        past = subst (λ (w : Known). w.recorded ≡ true → T.past x (binding_number w.binding) ≡ true) eq good.past;
      };
      height = upto (top_number kept avoid) (binding_number avoid) (binding_number k.binding) (ap (λ q. top_number q avoid) is) above;
      stays = inl (λ z e. none_not (sym is ∙ e));
      next = λ m e. subst (CallStands T x (Some k) avoid) (at_is e) (good.stands k refl (λ r. r));
      ends = λ a e. absurd (not_on e);
    }
      where
        above : binding_number avoid < binding_number k.binding
        above = less_is (binding_number b) (binding_number k.binding) (binding_number avoid) good.above at_avoid

        upto : (a c e : ℕ) → a ≡ c → c < e → a ≤ e
        upto a c e same less = omega (arith, same, less)
    bound_moved k n (Some old) is good = by (binding_eq old.binding k.binding) refl
      where
        module_rec : (z : Known) → z.recorded ≡ (old.recorded || k.recorded) → binding_number old.binding ≡ binding_number k.binding →
            z.recorded ≡ true → T.past x (binding_number old.binding) ≡ true
        module_rec z rec equal on = ⊎_elim (λ o. let w = ordered old is in
            w.past o) (λ o. subst (λ m. T.past x m ≡ true) (sym equal) (good.past o)) (or_is old.recorded k.recorded (sym rec ∙ on))

        goes : (z : Known) (step : CallStep) → z.binding ≡ old.binding → z.recorded ≡ (old.recorded || k.recorded) →
            binding_number old.binding ≡ binding_number k.binding → ((m : At) → step ≡ On m → m ≡ n) →
            ((e : CallEnd) → step ≡ Ended e → EndsOn (Some z) e) → Bound (record { step = step; kept = Some z })
        goes z step same rec equal on not = more_moved free (AtBind b) old z is (ap binding_number same)
            (λ o. rec ∙ or_left old.recorded k.recorded o) (module_rec z rec equal) step
            (λ m e. subst (CallStands T x (Some z) avoid) (sym (on m e))
            (good.stands z (ap binding_number same ∙ equal) (λ o. rec ∙ or_true old.recorded k.recorded o))) not

        inc : binding_number old.binding ≡ binding_number k.binding → (i : ℕ) (f : Option ℕ) → Bound (with_inc i (named_again old k) n f)
        inc equal i None =
            goes (record (named_again old k) { inc = Some i }) (On n) refl refl equal (λ m e. sym (at_is e)) (λ a e. absurd (not_on e))
        inc equal i (Some first) = one (first == i)
          where
            one : (w : Bool) → Bound
                (cond w (moves (Some (named_again old k)) n) (finds (Some (named_again old k)) (Changed old.server (two_incs first i))))
            one true = goes (named_again old k) (On n) refl refl equal (λ m e. sym (at_is e)) (λ a e. absurd (not_on e))
            one false = goes (named_again old k) (Ended (Changed old.server (two_incs first i))) refl refl equal (λ m e. absurd (on_not e))
                (λ a e. subst (EndsOn (Some (named_again old k))) (end_is e) tt)

        same : binding_number old.binding ≡ binding_number k.binding → (f : Option ℕ) → Bound (same_binding old k n f)
        same equal None = goes (named_again old k) (On n) refl refl equal (λ m e. sym (at_is e)) (λ a e. absurd (not_on e))
        same equal (Some i) = inc equal i old.inc

        other : (w : Bool) → (free && binding_less old.binding k.binding) ≡ w →
            Bound (cond w (moves (Some k) n) (finds (Some old) (Changed 1 (two_bindings old.binding k.binding))))
        other true on =
            let p = and_parts free (binding_less old.binding k.binding) on in record {
              kept_so = λ z e. let eq : k ≡ z = some_is e in record {
                made = subst (λ (w : Known). T.made (binding_number w.binding) ≡ true) eq good.made;
                above = subst (λ (w : Known). binding_number avoid < binding_number w.binding) eq
                    (less_is (binding_number b) (binding_number k.binding) (binding_number avoid) good.above at_avoid);
                past = subst (λ (w : Known). w.recorded ≡ true → T.past x (binding_number w.binding) ≡ true) eq good.past;
              };
              height = upto (top_number kept avoid) (binding_number old.binding) (binding_number k.binding)
                  (ap (λ q. top_number q avoid) is) p.1;
              stays = inr (refl, p.0);
              next = λ m e. subst (CallStands T x (Some k) avoid) (at_is e) (good.stands k refl (λ r. r));
              ends = λ a e. absurd (not_on e);
            }
          where
            upto : (a c e : ℕ) → a ≡ c → nat_lt c e ≡ true → a ≤ e
            upto a c e same less = grind (arith, same, less)
        other false on = more_moved free (AtBind b) old old is refl (λ r. r) (λ r. let w = ordered old is in w.past r) (Ended
            (Changed 1 (two_bindings old.binding k.binding))) (λ m e. absurd (on_not e)) (λ a e. subst (EndsOn (Some old)) (end_is e) tt)

        by : (w : Bool) → binding_eq old.binding k.binding ≡ w → Bound (cond w (same_binding old k n k.inc) (other_binding free old k n))
        by true equal = same (eqb-true (binding_number old.binding) (binding_number k.binding) equal) k.inc
        by false apart = other (free && binding_less old.binding k.binding) refl

    naming_moved : (r : BoundReply) → AnswersAt (Run o) (AtBind b) (Reply.Bound r) → SaysBind T x b top (Reply.Bound r) →
        Bound (bound_answer free kept r)
    naming_moved (bound.Live c server i g stores) fits says = bound_moved (live_known c server i g stores) (AtInvoke (live_known c server i
        g stores) i) kept refl (record { made = says.1; above = says.2; past = λ r. says.0; stands = λ z same rec. rec refl })
    naming_moved (bound.Make c server g stores) fits says = by stores says.3
      where
        by : (ss : List ℕ) → ((j : ℕ) → has ss j ≡ true → T.listed x (binding_number c) j ≡ true) →
            Bound (made_by free (made_known c server g stores) kept (load_from (made_known c server g stores) ss))
        by [] all = ended free (AtBind b) (calls.Lost 1 false) tt
        by (s ∷ ss) all = bound_moved (made_known c server g stores) (AtLoad (made_known c server g stores) s ss) kept refl
            (record { made = says.0; above = says.1; past = λ r. absurd (cc r); stands = λ z same rec. ((z, refl, same), says.2, all) })
    naming_moved (bound.Write g stores) fits says = absurd fits
    naming_moved (bound.Conflict h m) fits says = ended free (AtBind b) (calls.Conflict h m 1) tt

  -- ---- servers, and a Record

  module _ (free : Bool) where
    -- an incarnation is named for the kept binding
    inc_moved : (at : At) (k : Known) (i j : ℕ) (old : Known) → kept ≡ Some old → HasNumber kept k → T.low k.grant ≡ true → (f : Option ℕ) →
        IsMoved free at (with_inc i old (AtNote k j) f)
    inc_moved at k i j old is has low None = more_moved free at old (record old { inc = Some i }) is refl (λ r. r) (λ r. let w = ordered old
        is in w.past r) (On (AtNote k j)) (λ n e. subst (CallStands T x (Some (record old { inc = Some i })) avoid) (at_is e)
        ((record old { inc = Some i }, refl, sym (ap (λ (w : Known). binding_number w.binding) (some_is (sym has.1 ∙ is))) ∙ has.2), low))
        (λ a e. absurd (not_on e))
    inc_moved at k i j old is has low (Some first) = by (first == i)
      where
        by : (w : Bool) →
            IsMoved free at (cond w (moves (Some old) (AtNote k j)) (finds (Some old) (Changed old.server (two_incs first i))))
        by true = more_moved free at old old is refl (λ r. r) (λ r. let w = ordered old is in
            w.past r) (On (AtNote k j)) (λ n e. subst (CallStands T x (Some old) avoid) (at_is e)
            ((old, refl, sym (ap (λ (w : Known). binding_number w.binding) (some_is (sym has.1 ∙ is))) ∙ has.2), low))
            (λ a e. absurd (not_on e))
        by false = more_moved free at old old is refl (λ r. r) (λ r. let w = ordered old is in w.past r)
            (Ended (Changed old.server (two_incs first i))) (λ n e. absurd (on_not e)) (λ a e. subst (EndsOn (Some old)) (end_is e) tt)

    activated_moved : (at : At) (k : Known) (i : ℕ) (q : Option Known) → kept ≡ q → HasNumber kept k → T.low k.grant ≡ true →
        IsMoved free at (activated_by k i q)
    activated_moved at k i None is has low = none_not (sym is ∙ has.1)
    activated_moved at k i (Some old) is has low = by (binding_eq old.binding k.binding)
      where
        by : (w : Bool) → IsMoved free at (cond w (with_inc i old (AtNote k i) old.inc) (moves (Some old) (AtNote k i)))
        by true = inc_moved at k i i old is has low old.inc
        by false = more_moved free at old old is refl (λ r. r) (λ r. let w = ordered old is in
            w.past r) (On (AtNote k i)) (λ n e. subst (CallStands T x (Some old) avoid) (at_is e)
            ((old, refl, sym (ap (λ (w : Known). binding_number w.binding) (some_is (sym has.1 ∙ is))) ∙ has.2), low))
            (λ a e. absurd (not_on e))

    noted_moved : (at : At) (k : Known) (i : ℕ) (q : Option Known) → kept ≡ q → HasNumber kept k →
        T.past x (binding_number k.binding) ≡ true → IsMoved free at (moves (recorded_kept k q) (AtInvoke k i))
    noted_moved at k i None is has past = none_not (sym is ∙ has.1)
    noted_moved at k i (Some old) is has past = by (binding_eq old.binding k.binding) refl
      where
        number : binding_number old.binding ≡ binding_number k.binding
        number = sym (ap (λ (w : Known). binding_number w.binding) (some_is (sym has.1 ∙ is))) ∙ has.2

        by : (w : Bool) → binding_eq old.binding k.binding ≡ w →
            IsMoved free at (moves (cond w (Some (record old { recorded = true })) (Some old)) (AtInvoke k i))
        by true equal = more_moved free at old (record old { recorded = true }) is refl (λ r. refl)
            (λ r. subst (λ n. T.past x n ≡ true) (sym number) past) (On (AtInvoke k i))
            (λ n e. subst (CallStands T x (Some (record old { recorded = true })) avoid) (at_is e) refl) (λ a e. absurd (not_on e))
        by false apart = let no_way : true ≡ false = sym (same_test (binding_number old.binding) (binding_number k.binding) number)
            ∙ apart in absurd (cc no_way)
          where
            same_test : (a c : ℕ) → a ≡ c → (a == c) ≡ true
            same_test a c same = grind (arith, same)

  pub call_moved : (free : Bool) (at : At) (r : Reply) → AnswersAt (Run o) at r → SaysReply T top (ask_at x (Run o) [] at) r →
      CallStands T x kept avoid at → IsMoved free at (answered free kept (Run o) at r)
  call_moved free (AtBind b) (Reply.Bound r) fits says s = naming_moved free b s r fits says
  call_moved free (AtLoad k n rest) (Reply.Loaded (loaded.State st)) fits says s = same_moved free (AtLoad k n rest) (On (AtActivate k st))
      (λ m is. subst (CallStands T x kept avoid) (at_is is) (s.0, s.1)) (λ a is. absurd (not_on is))
  call_moved free (AtLoad k n rest) (Reply.Loaded (loaded.InDoubt h)) fits says s = ended free (AtLoad k n rest) _ tt
  call_moved free (AtActivate k st) (Reply.Activated i) fits says s = activated_moved free (AtActivate k st) k i kept refl s.0 s.1
  call_moved free (AtNote k i) (Reply.Noted recorded.Yes) fits says s = noted_moved free (AtNote k i) k i kept refl s.0 says
  call_moved free (AtNote k i) (Reply.Noted (recorded.Changed w)) fits says s = ended free (AtNote k i) _ tt
  call_moved free (AtInvoke k i) (Reply.Invoked (invoked.Answered a)) fits says s =
      same_moved free (AtInvoke k i) (Ended (calls.Answered a)) (λ n is. absurd (on_not is)) (λ b is. subst (EndsOn kept) (end_is is) s)
  call_moved free (AtInvoke k i) (Reply.Invoked (invoked.Conflict h m)) fits says s = ended free (AtInvoke k i) _ tt
  call_moved free (AtInvoke k i) (Reply.Invoked (invoked.Changed w)) fits says s = ended free (AtInvoke k i) _ tt
  call_moved free (AtBind b) (Reply.Loaded r) fits says s = stays_at free (AtBind b) s
  call_moved free (AtBind b) (Reply.Activated r) fits says s = stays_at free (AtBind b) s
  call_moved free (AtBind b) (Reply.Noted r) fits says s = stays_at free (AtBind b) s
  call_moved free (AtBind b) (Reply.Invoked r) fits says s = stays_at free (AtBind b) s
  call_moved free (AtBind b) (Reply.Voted r) fits says s = stays_at free (AtBind b) s
  call_moved free (AtBind b) (Reply.Prepared r) fits says s = stays_at free (AtBind b) s
  call_moved free (AtBind b) (Reply.Confirmed r) fits says s = stays_at free (AtBind b) s
  call_moved free (AtLoad k n rest) (Reply.Bound r) fits says s = stays_at free (AtLoad k n rest) s
  call_moved free (AtLoad k n rest) (Reply.Activated r) fits says s = stays_at free (AtLoad k n rest) s
  call_moved free (AtLoad k n rest) (Reply.Noted r) fits says s = stays_at free (AtLoad k n rest) s
  call_moved free (AtLoad k n rest) (Reply.Invoked r) fits says s = stays_at free (AtLoad k n rest) s
  call_moved free (AtLoad k n rest) (Reply.Voted r) fits says s = stays_at free (AtLoad k n rest) s
  call_moved free (AtLoad k n rest) (Reply.Prepared r) fits says s = stays_at free (AtLoad k n rest) s
  call_moved free (AtLoad k n rest) (Reply.Confirmed r) fits says s = stays_at free (AtLoad k n rest) s
  call_moved free (AtActivate k st) (Reply.Bound r) fits says s = stays_at free (AtActivate k st) s
  call_moved free (AtActivate k st) (Reply.Loaded r) fits says s = stays_at free (AtActivate k st) s
  call_moved free (AtActivate k st) (Reply.Noted r) fits says s = stays_at free (AtActivate k st) s
  call_moved free (AtActivate k st) (Reply.Invoked r) fits says s = stays_at free (AtActivate k st) s
  call_moved free (AtActivate k st) (Reply.Voted r) fits says s = stays_at free (AtActivate k st) s
  call_moved free (AtActivate k st) (Reply.Prepared r) fits says s = stays_at free (AtActivate k st) s
  call_moved free (AtActivate k st) (Reply.Confirmed r) fits says s = stays_at free (AtActivate k st) s
  call_moved free (AtNote k i) (Reply.Bound r) fits says s = stays_at free (AtNote k i) s
  call_moved free (AtNote k i) (Reply.Loaded r) fits says s = stays_at free (AtNote k i) s
  call_moved free (AtNote k i) (Reply.Activated r) fits says s = stays_at free (AtNote k i) s
  call_moved free (AtNote k i) (Reply.Invoked r) fits says s = stays_at free (AtNote k i) s
  call_moved free (AtNote k i) (Reply.Voted r) fits says s = stays_at free (AtNote k i) s
  call_moved free (AtNote k i) (Reply.Prepared r) fits says s = stays_at free (AtNote k i) s
  call_moved free (AtNote k i) (Reply.Confirmed r) fits says s = stays_at free (AtNote k i) s
  call_moved free (AtInvoke k i) (Reply.Bound r) fits says s = stays_at free (AtInvoke k i) s
  call_moved free (AtInvoke k i) (Reply.Loaded r) fits says s = stays_at free (AtInvoke k i) s
  call_moved free (AtInvoke k i) (Reply.Activated r) fits says s = stays_at free (AtInvoke k i) s
  call_moved free (AtInvoke k i) (Reply.Noted r) fits says s = stays_at free (AtInvoke k i) s
  call_moved free (AtInvoke k i) (Reply.Voted r) fits says s = stays_at free (AtInvoke k i) s
  call_moved free (AtInvoke k i) (Reply.Prepared r) fits says s = stays_at free (AtInvoke k i) s
  call_moved free (AtInvoke k i) (Reply.Confirmed r) fits says s = stays_at free (AtInvoke k i) s

-- a giveup leaves what is kept: it goes on with the next store, or ends
pub lost_moved : (T : Tests) (x : ℕ) (kept : Option Known) (avoid : Binding) (at n : At) → given_up at ≡ On n →
    CallStands T x kept avoid at → CallStands T x kept avoid n
lost_moved T x kept avoid (AtBind b) n is s = absurd (cc is)
lost_moved T x kept avoid (AtLoad k m []) n is s = absurd (cc is)
lost_moved T x kept avoid (AtLoad k m (r ∷ rs)) n is s =
    subst (CallStands T x kept avoid) (at_is is) (s.0, s.1, λ j on. s.2 j (later (m == j) on))
  where
    at_is : {a b : At} → On a ≡ On b → a ≡ b
    at_is e = cc e

    later : (a : Bool) {b : Bool} → b ≡ true → (a || b) ≡ true
    later true on = refl
    later false on = on
lost_moved T x kept avoid (AtActivate k st) n is s = absurd (cc is)
lost_moved T x kept avoid (AtNote k i) n is s = absurd (cc is)
lost_moved T x kept avoid (AtInvoke k i) n is s = absurd (cc is)
