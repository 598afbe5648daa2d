-- After moves each object was seen at each place of the journal, so that calls and includes are held at each line.
use Rattle.arj_law_parts.proofs.Words
use Words.{world_from}
use Words.{◌≡◌, ◌⊎◌, ◌≤◌, ◌<◌, ◌+◌, ℕ, List, [], ◌∷◌, true, length, take, is_some, refl, inl, inr, ⊎_elim, arith, in_to, Event, Header}
use Words.{World, run_event, Move, all_moved, journal_by, moved, world_by, Seen, see}
use Words.event
use Rattle.arj_law_serial.proofs.Terms
use Terms.{HeaderFits, first_values, included, object_line, Asked, IsReached, moves_reached, State, HasObject, AgreesAs, Fixed, SeesLocks}
use Terms.{AreTied, RequestsAreOne, AreApart, OpsFit}
use Rattle.arj_law_disk_view.proofs.running.Begun.{kinds_agree}
use Rattle.arj_law_disk_view.specs.running.Kinds.{kinds_of}
use Rattle.arj_law_parts.specs.moves.Keeps.{Holds}
use Rattle.arj_law_serial.proofs.holding
use holding.{Acted.HasActs, Acted.none_taken, Events.event_shown, Places.IsPlaced}
use holding.AlongEvents.{IsAlong, RestartsNone, along_again, along_arms, event_along, first_along, handlers_along, was_placed}
use holding.AlongKept.{Along, Pairs, Past}
use holding.AtEach.{OfEach, agreed, fixed, held_each, last, of_each}
use holding.RestartNames.{acted_before, named_lately}
use holding.RestartPlaces.{event_lately, placed_lately}
use Rattle.arj_law_serial.proofs.joint
use joint.{Carrying.IsThere, Carrying.know, Clean.object_some, FitRuns.moves_fit, Joining.HasLocks, NextGiven.one_requests}
use joint.JoinedParts.{Base, Whole}
use Rattle.arj_law_serial.proofs.order.Codes.{codes_are_apart}
use Rattle.arj_law_serial.proofs.whole.WholeRuns.{runs_call_objects, runs_include_objects}
use Rattle.arj_law_serial.specs.holding.Along.{RunsHoldEach}
use Rattle.arj_promise.specs.Runs.{Run}

-- the event restarts this node, or none
restarts_or : (e : Event) → ((n : ℕ) × (e ≡ event.Restart n)) ⊎ RestartsNone e
restarts_or (event.Restart n) = inl (n, refl)
restarts_or e = inr (λ n same. cc same)

before_or : (m n : ℕ) → (m ≤ n) ⊎ (n < m)
before_or m n = grind arith

module _ (hd : Header) (x : ℕ) (form : HeaderFits hd) (there : is_some (object_line hd x) ≡ true) where
  -- an event that restarts a node
  restart_event : (e : Asked) (w : World) (n : ℕ) → e.event ≡ event.Restart n → IsAlong hd x form there w →
      IsAlong hd x form there (run_event e w)
  restart_event e w n is h =
      let v = run_event e w in
      let held = handlers_along hd x form there e w h in
      let shown = let s = h.shown in s.shown in
      along_again hd x form there w v (event_shown hd w h.shown e) held
      (λ f begun S alike names agrees sees tied before p within cond has. ⊎_elim {C = IsPlaced f x begun S v.lines p}
      (λ (early : p ≤ length w.lines).
      was_placed hd x form there (length w.lines) (w.event + 1) (see held.sent v) f begun S alike before p within (inl early) has)
      (λ (late : length w.lines < p).
      let l = event_lately hd w h.shown n e is in
      let le : length w.lines ≤ p = omega (arith, late) in
      let at = was_placed hd x form there (length w.lines) (w.event + 1) (see held.sent v) f begun S alike before (length w.lines)
      (omega (arith, late, within)) (inl (omega arith)) (acted_before n (w.event + 1) w v shown l p le has) in
      placed_lately n (w.event + 1) w v shown l held.sent f x begun S sees alike.0 agrees.0 tied p le within
      (named_lately n (w.event + 1) w v shown l f x begun S at.named p le))
      (before_or p (length w.lines)))

  -- any event, and any move
  each_event : (e : Asked) (w : World) → IsAlong hd x form there w → IsAlong hd x form there (run_event e w)
  each_event e w h = ⊎_elim {C = IsAlong hd x form there (run_event e w)} (λ (r : (n : ℕ) × (e.event ≡ event.Restart n)).
      restart_event e w r.0 r.1 h) (λ (none : RestartsNone e.event). event_along hd x form there e w none h) (restarts_or e.event)

  each_move : (m : Move) (w : World) → IsAlong hd x form there w → IsAlong hd x form there (moved m w)
  each_move m w h = along_arms hd x form there [] (run_event m.asked (record w { arms = m.falls }))
      (each_event m.asked (record w { arms = m.falls }) (along_arms hd x form there m.falls w h))

  all_moves : (ms : List Move) (w : World) → IsAlong hd x form there w → IsAlong hd x form there (all_moved ms w)
  all_moves [] w h = h
  all_moves (m ∷ ms) w h = all_moves ms (moved m w) (each_move m w h)

  moves_along : (r : Run hd) → IsAlong hd x form there (world_by hd r)
  moves_along r = all_moves r.moves (world_from hd r.start) (first_along hd x form there r.start r.formed)

  -- ---- one object

  module _ (w : World) (reached : IsReached hd w) (fit : OpsFit x w.lines) (along : IsAlong hd x form there w) where
    abbrev first : ℕ
    first = length w.lines

    abbrev h : Holds hd (Along hd x form there (length w.lines) (w.event + 1)) w
    h = along.holds

    abbrev M : Seen
    M = see h.sent w

    abbrev k : IsThere x (Base hd x) (Pairs hd x first (w.event + 1) M) M
    k = h.holds.1 (reached.few, reached.labels) fit

    abbrev j : HasLocks (first_values hd) x (Whole x) (Past hd x first (w.event + 1) M)
        (let c = k.1.5 (kinds_of k.0) (kinds_agree k.0 (let g = k.1.0 in g.begun) k.1.1) in c.0.world) M
    j = let c = k.1.5 (kinds_of k.0) (kinds_agree k.0 (let g = k.1.0 in g.begun) k.1.1) in c.2.0.1

    abbrev seen : (f : Fixed) → AreApart f.code → AgreesAs (first_values hd) M.start.marks f x j.0 M.sent →
        (S : State) × SeesLocks f x j.0 S M × AreTied f x M.lines S
    seen f apart a = let g = j.3 f (a.0, (a.1, apart)) in (g.0, g.1, g.2)

    knows : RequestsAreOne M
    knows = one_requests x j.0 M (know M h.holds.0.0 reached.few) j.2.0

    placed : (p : ℕ) → p ≤ length w.lines → HasActs (take p w.lines) →
        IsPlaced (fixed (first_values hd) x M j.0 j.1 seen knows) x j.0 (last (first_values hd) x M j.0 j.1 seen knows) w.lines p
    placed p within has =
        let f = fixed (first_values hd) x M j.0 j.1 seen knows in
        let a = agreed (first_values hd) x M j.0 j.1 seen knows in
        let g = j.3 f (a.0, (a.1, codes_are_apart)) in
        was_placed hd x form there first (w.event + 1) M f j.0 g.0 j.1 (g.7 (λ none. has (none_taken p w.lines none))) p within (inl within)
        has

    pub its_object : OfEach w.lines x
    its_object = of_each (first_values hd) x M j.0 j.1 seen knows placed

pub runs_hold_each : RunsHoldEach
runs_hold_each hd r f = held_each (journal_by hd r) (first_values hd) (λ x called. of_object x (runs_call_objects hd r x called))
    (λ i there. let has = runs_include_objects hd r i (in_to i (included (journal_by hd r)) there) in of_object i.it.x has.0)
  where
    of_object : (x : ℕ) → HasObject hd x → OfEach (journal_by hd r) x
    of_object x has = let there = object_some hd x has in its_object hd x f.header there (world_by hd r) (moves_reached hd r f.few)
        (moves_fit hd x r f.events) (moves_along hd x f.header there r)
