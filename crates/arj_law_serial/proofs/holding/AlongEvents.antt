-- Through each event that restarts no node an object is seen at each place of the journal.
use Rattle.arj_law_parts.proofs.Words
use Words.{IsFormed, Start, world_from}
use Words.{◌≡◌, ◌⊎◌, ◌≤◌, ◌∙◌, ◌==◌, ◌++◌, ◌+◌, ℕ, List, [], ◌∷◌, Bool, true, false, Option, Some, None, is_some, length, take, refl, sym}
use Words.{ap, subst, inl, inr, ⊎_elim, arith, length-append, ⊤, if◌then◌else◌, entry, object, Body, Event, Header, Line, first_reason}
use Words.{at_place, World, counted, giving, happens, lacks_labels, limited, no_labels, numbered, reasons, run_event, run_unless}
use Words.{Seen, see}
use Words.body
use Words.event
use Rattle.arj_law_serial.proofs.Terms
use Terms.{IsAtStarts}
use Terms.{HeaderFits, first_values, object_line, table, Asked, Action, arms_hold, event_asked, first_asked, IsAlikeOf, State}
use Terms.{AreUppersOf, AgreesBy, Fixed, SeesLocks, AreTied, locks_in, memory_of, HoldsNames, rows_on, up_of, IsApt}
use Terms.which
use Rattle.arj_law_parts.specs.moves.Keeps.{Holds}
use Rattle.arj_law_serial.proofs.holding
use holding.{Acted.HasActs, Acted.none_taken, Acted.wider_by, Among.any_shown, Lines.Since, Lines.since_all, Marks.Guard, Marks.take_all}
use holding.{Names.names_in, OnLines.Before, Places.IsPlaced, Places.placed_later, Points.at_the_end, Points.named_at_the_end}
use holding.AlongKept.{Along, Beside, Turns, along_kept, coming_first, turned}
use holding.Events.{IsShown, event_shown, first_is_shown, first_showing, later_off}
use holding.Writes.{RestartsOther, Writes, none_starts, runs_write}
use Rattle.arj_law_serial.proofs.joint.Carrying.{calm}

-- ---- what an event leaves of places

-- the event restarts no node
abbrev pub RestartsNone : Event → Type 0
RestartsNone e = (n : ℕ) → e ≡ event.Restart n → ⊥

restarts_other : (n : ℕ) (e : Event) (w : World) → RestartsNone e → RestartsOther n e w
restarts_other n (event.Restart m) w none = absurd (none m refl)
restarts_other n (event.Begin l k) w none = tt
restarts_other n (event.BeginIn l p) w none = tt
restarts_other n (event.Top l p) w none = tt
restarts_other n (event.Serial l k) w none = tt
restarts_other n (event.Call l y o) w none = tt
restarts_other n (event.Include l y k) w none = tt
restarts_other n (event.Commit l) w none = tt
restarts_other n (event.Abort l) w none = tt
restarts_other n (event.GiveUp l) w none = tt
restarts_other n (event.Deliver k) w none = tt
restarts_other n (event.Lose k) w none = tt
restarts_other n (event.Tick k) w none = tt
restarts_other n event.Settle w none = tt
restarts_other n event.Quiesce w none = tt
restarts_other n (event.Crash k) w none = tt
restarts_other n (event.Stop k c how) w none = tt
restarts_other n (event.Junk k bytes) w none = tt
restarts_other n (event.Show y) w none = tt

-- One line at most, or lines of its own number by which no node starts.
abbrev Leaves : World → World → Type 0
Leaves w v = (length v.lines ≤ length w.lines + 1) ⊎ Guard (w.event + 1) (length w.lines) v.lines

module _ (w : World) (early : (j : ℕ) → up_of j w.lines ≤ w.event) where
  guarded : (v : World) → ((n : ℕ) → Writes n (counted w) v) → Guard (w.event + 1) (length w.lines) v.lines
  guarded v each = (
    (let z = each 0 in subst (Since (w.event + 1) (length w.lines)) (sym z.lines) (since_all (w.event + 1) z.said w.lines)),
    (λ n. let z = each n in (λ i. w.event + 1 == up_of n (z.lines i))
        ∙ (λ i. w.event + 1 == none_starts n (w.event + 1) z.said z.none w.lines i) ∙ later_off (up_of n w.lines) w.event (early n)),
  )

  one_line : (b : Body) (e : ℕ) → length (w.lines ++ numbered e (b ∷ [])) ≤ length w.lines + 1
  one_line b e = let q = length-append w.lines (numbered e (b ∷ [])) in omega (arith, q)

  leaves : (e : Asked) → RestartsNone e.event → Leaves w (run_event e w)
  leaves e none = by w.over
    where
      unless : (r : Option ℕ) → Leaves w (run_unless e.event e.arm w r)
      unless (Some c) = inl (one_line (body.Refused c) (w.event + 1))
      unless None = labels (lacks_labels (giving e.event w) w)
        where
          labels : (b : Bool) → Leaves w (if b then no_labels w else limited (happens e.event e.arm (counted w)))
          labels true = inl (one_line (body.Limit which.Labels) w.event)
          labels false = inr (guarded (limited (happens e.event e.arm (counted w)))
              (λ n. runs_write n e.event e.arm (counted w) (restarts_other n e.event (counted w) none)))

      by : (b : Bool) → Leaves w (if b then w else run_unless e.event e.arm w (first_reason (reasons e.event w)))
      by true = inl (omega arith)
      by false = unless (first_reason (reasons e.event w))

-- ---- between events

le_or : (p m n : ℕ) → p ≤ n → n ≤ m + 1 → (p ≤ m) ⊎ (p ≡ n)
le_or p m n one two = grind (arith, one, two)

module _ (hd : Header) (x : ℕ) (form : HeaderFits hd) (there : is_some (object_line hd x) ≡ true) where
  -- tables show locks, and the object was seen at each place
  pub record IsAlong (w : World) : Type 0 where
    pub shown : IsShown hd w
    pub holds : Holds hd (Along hd x form there (length w.lines) (w.event + 1)) w

  -- what handlers keep, through an event
  pub handlers_along : (e : Asked) (w : World) → IsAlong w → Holds hd (Along hd x form there (length w.lines) (w.event + 1)) (run_event e w)
  handlers_along e w h = event_asked hd (Along hd x form there (length w.lines) (w.event + 1))
      (along_kept hd x form there (length w.lines) (w.event + 1) ⊤ tt) e w h.holds

  -- So it is at its end, where each place is one at which it was seen.
  pub along_again : (w v : World) → IsShown hd v → (h : Holds hd (Along hd x form there (length w.lines) (w.event + 1)) v) →
      Turns hd x (length w.lines) (w.event + 1) (length v.lines) (v.event + 1) (see h.sent v) (see h.sent v) → IsAlong v
  along_again w v shown h turns = record {
    shown = shown;
    holds = record {
      sent = h.sent;
      stands = h.stands;
      holds = (
        (h.holds.0.0, (h.holds.0.1.0, h.holds.0.1.1, record { long = omega arith; shown = λ since n off. shown.shown n })),
        (λ few.
            turned hd x (length w.lines) (w.event + 1) (length v.lines) (v.event + 1) (see h.sent v) (see h.sent v) turns (h.holds.1 few)),
      );
    };
  }

  -- at the last place its tables are those of the nodes' locks
  pub last_placed : (sent : List _) (v : World) → IsShown hd v → (f : Fixed) (begun : List Action) (S : State) →
      IsAlikeOf begun (see sent v) → AreUppersOf HoldsNames begun (see sent v) →
      AgreesBy (IsApt (first_values hd) x v.start.marks) f x begun sent →
      SeesLocks f x begun S (see sent v) → AreTied f x v.lines S → (p : ℕ) → p ≡ length v.lines → IsPlaced f x begun S v.lines p
  last_placed sent v shown f begun S alike names agrees sees tied p same =
      at_the_end f x begun S (see sent v) sees tied p same alike.0 agrees.0
      (λ n row any. any_shown row (object x) (table n (take p v.lines)) (locks_in x (memory_of (at_place n v.nodes)))
      (ap (λ (ls : List Line). rows_on (object x) (table n ls)) (ap (λ (j : ℕ). take j v.lines) same ∙ take_all v.lines)
      ∙ (let s = shown.shown n in s.server x)) any)
      (named_at_the_end f x begun S (see sent v) sees tied p same alike.0 agrees.0 names
      (λ row any. any_shown row (entry x) (table 1 (take p v.lines)) (names_in x (see sent v)) (ap (λ (ls : List Line). rows_on (entry x)
      (table 1 ls)) (ap (λ (j : ℕ). take j v.lines) same ∙ take_all v.lines) ∙ (let s = shown.shown 1 in s.naming x refl)) any))

  -- a place at which it was seen stays one
  pub was_placed : (first event : ℕ) (M : Seen) (f : Fixed) (begun : List Action) (S : State) → IsAlikeOf begun M →
      Before (IsApt (first_values hd) x) x (Beside hd x) first event M f S → (p : ℕ) → p ≤ length M.lines →
      (p ≤ first) ⊎ Guard event first M.lines → HasActs (take p M.lines) → IsPlaced f x begun S M.lines p
  was_placed first event M f begun S alike (inl none) p within cond has = absurd (has (none_taken p M.lines none))
  was_placed first event M f begun S alike (inr was) p within cond has =
      let e : M.lines ≡ M.lines ++ [] = no_more M.lines in
      subst (λ (ls : List Line). IsPlaced f x begun S ls p) (sym e) (placed_later f x was.begun begun was.state S M.lines [] p
      (wider_by was.begun begun M M [] e was.alike alike) was.goes within (was.places p within cond has))
    where
      no_more : (ls : List Line) → ls ≡ ls ++ []
      no_more [] = refl
      no_more (l ∷ ls) = λ i. l ∷ no_more ls i

  -- each event that restarts no node, whichever stops are still to fall
  pub event_along : (e : Asked) (w : World) → RestartsNone e.event → IsAlong w → IsAlong (run_event e w)
  event_along e w none h = along_again w v shown held (λ f begun S alike names agrees sees tied before p within cond has.
      by (leaves w (let z = h.shown in z.early) e none) f begun S alike names agrees sees tied before p within has)
    where
      v : World
      v = run_event e w

      shown : IsShown hd (run_event e w)
      shown = event_shown hd w h.shown e

      held : Holds hd (Along hd x form there (length w.lines) (w.event + 1)) (run_event e w)
      held = handlers_along e w h

      M : Seen
      M = see held.sent (run_event e w)

      by : Leaves w (run_event e w) → (f : Fixed) (begun : List Action) (S : State) → IsAlikeOf begun M → AreUppersOf HoldsNames begun M →
          AgreesBy (IsApt (first_values hd) x v.start.marks) f x begun held.sent → SeesLocks f x begun S M → AreTied f x M.lines S
          → Before (IsApt (first_values hd) x) x (Beside hd x) (length w.lines) (w.event + 1) M f S → (p : ℕ) → p ≤ length M.lines →
          HasActs (take p M.lines) → IsPlaced f x begun S M.lines p
      by (inr guard) f begun S alike names agrees sees tied before p within has =
          was_placed (length w.lines) (w.event + 1) M f begun S alike before p within (inr guard) has
      by (inl few) f begun S alike names agrees sees tied before p within has = ⊎_elim {C = IsPlaced f x begun S M.lines p}
          (λ (early : p ≤ length w.lines). was_placed (length w.lines) (w.event + 1) M f begun S alike before p within (inl early) has)
          (λ (last : p ≡ length M.lines). last_placed held.sent (run_event e w) shown f begun S alike names agrees sees tied p last)
          (le_or p (length w.lines) (length M.lines) within few)

  -- at first
  pub first_along : (st : Start) → IsFormed hd st → IsAlong (world_from hd st)
  first_along st formed = record {
    shown = first_is_shown hd st formed;
    holds = first_asked hd st (Along hd x form there 0 1) formed
        (along_kept hd x form there 0 1 (IsAtStarts hd (Along hd x form there 0 1)) at_first);
  }
    where
      at_first : IsAtStarts hd (Along hd x form there 0 1)
      at_first of of_formed = (
        ((let c = calm hd in c.first of of_formed), first_showing hd 1 of of_formed),
        (λ few. coming_first hd x form there 0 1 of of_formed),
      )

  -- which stops are still to fall is nothing to it
  pub along_arms : (arms : List _) (w : World) → IsAlong w → IsAlong (record w { arms = arms })
  along_arms arms w h = record {
    shown = (let s = h.shown in record { known = arms_hold hd _ arms w s.known; shown = s.shown; early = s.early });
    holds = arms_hold hd (Along hd x form there (length w.lines) (w.event + 1)) arms w h.holds;
  }
