-- The row of plain refusals: an event that is refused with such a number writes its refusal alone, and that is its lowest cause.
use Rattle.arj_law_parts.proofs.Words
use Words.{◌≡◌, ◌∙◌, ◌+◌, ◌-◌, ◌==◌, ◌&&◌, ◌||◌, not, ℕ, Bool, true, false, cond, List, [], ◌∷◌, refl, sym, ap, subst, arith}
use Words.{append-nil}
use Words.{Option, Some, None, nat_tests, eqb-true, length, AllByRecursion, list_all, and_parts, Arm, Body, Event, Header, Line}
use Words.{Move, World, counted, first_reason}
use Words.{happens, reasons, world_from}
use Words.body
use Words.event
use Rattle.arj_law_parts.specs.steps.Writes.{node_refusal}
use Rattle.arj_law_runs.proofs.follow.Along.{Ended, Outcome, Went, event_of, runs_along}
use Rattle.arj_law_runs.proofs.follow.Frames as frames
use Rattle.arj_law_runs.proofs.follow.Plain.{happens_so, is_refusal, limited_so}
use Rattle.arj_law_runs.proofs.follow.Reasons.{joined, refused_by_any}
use Rattle.arj_law_runs.proofs.follow.Refusing as refusing
use Rattle.arj_law_runs.proofs.follow.Refusing.{Came, IsRefused, IsRun, Stands}
use Rattle.arj_law_runs.specs.follow.Frames.{FramesStep, are_so}
use Rattle.arj_law_runs.specs.follow.Refusals.{is_plain_cause}
use Rattle.arj_model.specs.CauseNodes.{is_cause, refused_caused}
use Rattle.arj_model.specs.CauseSpans.{Here, behind, here_at, holds_in, is_doomed}
use Rattle.arj_model.specs.Follows.{is_behind_doom, label_doomed}
use Rattle.arj_model.specs.Past.{Past, block}
use Rattle.arj_model.specs.Refusals.{causes, first_cause, refusal}
use Rattle.arj_promise.specs.Runs.{HeaderFits, IsStoppedInForm}
use Rattle.arj_law_cause.specs.kinds.Kinds.{is_plain_refusal}
use Rattle.arj_law_cause.specs.kinds.Rows.{RowHoldsWhere, RowStep, row}
use Rattle.std.proofs.Math.Nat.{add-sub_cancel}
use Rattle.std.proofs.lemmas.List.{append_cancel_left}

-- ---- 12 is no plain cause

-- none of these numbers is it
pub not_among : (c : ℕ) (rs : List (ℕ × Bool)) → list_all (λ (r : ℕ × Bool). not (r.0 == c)) rs ≡ true → first_cause rs ≡ Some c → ⊥
not_among c [] none is = let no_way : ◌≡◌ {A = Option ℕ} None (Some c) = is in cc no_way
not_among c (r ∷ rs) none is = by r.1 is (not_among c rs p.1)
  where
    p : (not (r.0 == c) ≡ true) × (list_all (λ (s : ℕ × Bool). not (s.0 == c)) rs ≡ true)
    p = and_parts (not (r.0 == c)) (list_all (λ (s : ℕ × Bool). not (s.0 == c)) rs) none

    same : (n : ℕ) → (n == n) ≡ true
    same n = grind (arith, nat_tests)

    by : (b : Bool) → cond b (Some r.0) (first_cause rs) ≡ Some c → (first_cause rs ≡ Some c → ⊥) → ⊥
    by true here rest =
        let one : r.0 ≡ c = cc here in
        let no_way : false ≡ true = (λ i. not (sym (ap (λ k. k == c) one ∙ same c) i)) ∙ p.0 in cc no_way
    by false later rest = rest later

never_doomed : (hd : Header) (p : Past) (e : Event) → is_plain_cause e 12 ≡ true → refusal hd p e ≡ Some 12 → ⊥
never_doomed hd p (event.Begin l n) plain is = not_among 12 (causes hd p (event.Begin l n)) refl is
never_doomed hd p (event.Serial l n) plain is = not_among 12 (causes hd p (event.Serial l n)) refl is
never_doomed hd p (event.BeginIn l m) plain is = cc plain
never_doomed hd p (event.Top l m) plain is = cc plain
never_doomed hd p (event.Call l x o) plain is = cc plain
never_doomed hd p (event.Include l x n) plain is = cc plain
never_doomed hd p (event.Commit l) plain is = cc plain
never_doomed hd p (event.Abort l) plain is = cc plain
never_doomed hd p (event.GiveUp l) plain is = cc plain
never_doomed hd p (event.Deliver k) plain is = not_among 12 (causes hd p (event.Deliver k)) refl is
never_doomed hd p (event.Lose k) plain is = not_among 12 (causes hd p (event.Lose k)) refl is
never_doomed hd p (event.Tick n) plain is = not_among 12 (causes hd p (event.Tick n)) refl is
never_doomed hd p event.Settle plain is = not_among 12 (causes hd p event.Settle) refl is
never_doomed hd p event.Quiesce plain is = not_among 12 (causes hd p event.Quiesce) refl is
never_doomed hd p (event.Crash n) plain is = not_among 12 (causes hd p (event.Crash n)) refl is
never_doomed hd p (event.Restart n) plain is = not_among 12 (causes hd p (event.Restart n)) refl is
never_doomed hd p (event.Stop n calls k) plain is = not_among 12 (causes hd p (event.Stop n calls k)) refl is
never_doomed hd p (event.Junk n bytes) plain is = not_among 12 (causes hd p (event.Junk n bytes)) refl is
never_doomed hd p (event.Show x) plain is = not_among 12 (causes hd p (event.Show x)) refl is

-- ---- an event

other_fits : (h : Here) (b : Body) → is_refusal b ≡ false → row is_plain_refusal h b ≡ true
other_fits h (body.Refused c) other = absurd (cc other)
other_fits h b other = refl

others_fit : (n : ℕ) (h : Here) (bs : List Body) → AllByRecursion (λ (l : Line). is_refusal l.body ≡ false) (block n bs) →
    are_so (row is_plain_refusal) h bs ≡ true
others_fit n h [] all = refl
others_fit n h (b ∷ bs) all = λ i. other_fits h b all.0 i && others_fit n (behind h b) bs all.1 i

module _ (hd : Header) (p : Past) (e : Event) where
  -- where the refusal comes
  abbrev at_refusal : Here
  at_refusal = record {
    header = hd;
    start = p.start;
    accepted = p.accepted;
    event = e;
    number = p.count + 1;
    first =
        length p.lines;
    lines = p.lines;
  }

  refusal_fits : (c : ℕ) → (is_plain_cause e c ≡ true → refusal hd p e ≡ Some c) → row is_plain_refusal at_refusal (body.Refused c) ≡ true
  refusal_fits c lowest = by (is_plain_cause e c) refl
    where
      back : (p.count + 1) - 1 ≡ p.count
      back = add-sub_cancel p.count 1

      is_same : (n : ℕ) → (n == n) ≡ true
      is_same n = grind (arith, nat_tests)

      is_it : refusal hd p e ≡ Some c → is_cause c (refusal hd (record p { count = (p.count + 1) - 1 }) e) ≡ true
      is_it is = ap (λ n. is_cause c (refusal hd (record p { count = n }) e)) back ∙ ap (is_cause c) is ∙ is_same c

      at : (b : Bool) → (c == 12) ≡ b → is_plain_cause e c ≡ true → refused_caused at_refusal c ≡ true
      at true doomed plain =
          let twelve : c ≡ 12 = eqb-true c 12 doomed in
          absurd (never_doomed hd p e (subst (λ k. is_plain_cause e k ≡ true) twelve plain)
          (subst (λ k. refusal hd p e ≡ Some k) twelve (lowest plain)))
      at false other plain = (λ i. cond (other i) (holds_in (is_doomed p.accepted p.lines) (label_doomed e) && is_behind_doom (refusal hd
          (record p { count = (p.count + 1) - 1 }) e)) (is_cause c (refusal hd (record p { count = (p.count + 1) - 1 }) e)))
          ∙ is_it (lowest plain)

      by : (b : Bool) → is_plain_cause e c ≡ b → (not b || refused_caused at_refusal c) ≡ true
      by false other = refl
      by true plain = at (c == 12) refl plain

  fits : (a : Arm) (w : World) (bodies : List Body) → Came e a w bodies → ((c : ℕ) → is_plain_cause e c ≡ true →
      refused_by_any e w ≡ Some c →
      refusal hd p e ≡ Some c) → RowStep is_plain_refusal hd p e bodies
  fits a w bodies (IsRefused c refused is) same =
      subst (λ bs. RowStep is_plain_refusal hd p e bs) (sym is) (λ i. refusal_fits c (λ plain. same c plain refused) i && true)
  fits a w bodies (IsRun none isnt lines) same =
      let s = limited_so w.lines w.start (happens e a w) (happens_so w.lines w.start e a w (no_refusal (first_reason (reasons e w)) none)
      (record { start = refl; more = []; lines = sym (append-nil w.lines); none = tt })) in
      others_fit w.event (here_at hd p e bodies) bodies
      (subst (AllByRecursion (λ (l : Line). is_refusal l.body ≡ false)) (sym (append_cancel_left w.lines (block w.event bodies) s.more
      (lines ∙ s.lines))) s.none)
    where
      no_refusal : (o : Option ℕ) → joined o (node_refusal e w) ≡ None → node_refusal e w ≡ None
      no_refusal None is = is
      no_refusal (Some c) is = let no_way : ◌≡◌ {A = Option ℕ} (Some c) None = is in absurd (cc no_way)

-- ---- runs

module _ (hd : Header) (form : HeaderFits hd) (m : Move) (p : Past) (w : World) (stops : IsStoppedInForm m) (s : Stands hd form p w)
    (on : w.over ≡ false) where
  goes : Outcome (RowStep is_plain_refusal hd) (Stands hd form) m p w
  goes = by (frames.goes hd form m p w stops s.base on)
    where
      by : Outcome (FramesStep hd) (frames.Stands hd form) m p w → Outcome (RowStep is_plain_refusal hd) (Stands hd form) m p w
      by (Ended over event lines) = Ended over event lines
      by (Went bodies step after) =
          let g = refusing.goes_with hd form m p w stops s on bodies after in
          Went bodies (fits hd p (event_of m) (let a = m.asked in a.arm) (counted (record w { arms = m.falls })) bodies g.0
          (λ c plain. (refusing.same hd form m p w stops s on c plain).1)) g.1

pub refused_row : RowHoldsWhere is_plain_refusal
refused_row hd r form =
    runs_along (RowStep is_plain_refusal hd) (Stands hd form.header) IsStoppedInForm (λ p w s. s.base.lines) (λ p w s. s.base.count)
    (λ m p w stops s on. goes hd form.header m p w stops s on) r.start r.moves (world_from hd r.start) form.stops
    (refusing.first_stands hd form.header r.start r.formed)
