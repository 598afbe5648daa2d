-- A program asks in its turn.
use Rattle.std.proofs.Common.{◌≡◌, ◌∙◌, ◌+◌, ℕ, List, [], ◌∷◌, refl, ap, sym, subst, slice_get, slice_set, Option, Some, map, arith}
use Rattle.std.specs.List.{AllByRecursion}
use Rattle.std.specs.Option.{option_map}
use Rattle.arj_journal.specs.declared.event.Event.{Event}
use Rattle.arj_progrun.proofs.Counts.{IsUpTo, turned_up}
use Rattle.arj_progrun.proofs.Hearing.{get_mapped, get_within, map_set, set_within}
use Rattle.arj_progrun.specs.Client.{asking, turned}
use Rattle.arj_progrun.specs.Events.{ask_of}
use Rattle.arj_progrun.specs.Kept.{Asks, IsWithin, clients_of, given_ask, given_by, standing_of, turning}
use Rattle.arj_progrun.specs.Levels.{client_of}
use Rattle.arj_progrun.specs.Schedule.{asks_by_it, turn_by, turn_with}
use Rattle.arj_text.specs.Label.{name}
use Rattle.arj_progrun.specs.declared.client.Client.{Client as kept_client}
use Rattle.arj_progrun.specs.declared.schedule.Given.{Given}
use Rattle.arj_progrun.specs.declared.schedule.Schedule.{Schedule}

pub turned_one : (at : ℕ) (event : Option Event) (g : Given) (old new : Schedule) → given_ask g ≡ option_map ask_of event →
    given_by g ≡ asks_by_it at (option_map ask_of event)
    → Asks at event old.clients.items new.clients.items → new.called ≡ old.called → new.state ≡ old.state
    → turning g new ≡ turn_by at (slice_get (clients_of old.clients.items) at) (standing_of old)
turned_one at event g old new ask by (was, is, got, set, asked) called state =
    let clients : clients_of new.clients.items ≡ slice_set (clients_of old.clients.items) at (client_of is) = ap clients_of set
    ∙ map_set old.clients.items at is in
    (λ i. record {
      ask = ask i;
      by = by i;
      now = record { clients = clients i; called = map name (let v = called i in v.items); state = state i };
    })
    ∙ ap (λ a. turn_with at a (standing_of old)) asked
    ∙ ap (λ o. turn_by at o (standing_of old)) (sym (get_mapped old.clients.items at was got))

pub counts_one : (turn at : ℕ) (event : Option Event) (old new : List kept_client) → Asks at event old new →
    AllByRecursion (IsWithin turn) old → AllByRecursion (IsWithin (turn + 1)) new
counts_one turn at event old new (was, is, got, set, asked) all =
    subst (AllByRecursion (IsWithin (turn + 1))) (sym set)
    (set_within (turn + 1) old at is (all_up turn old all)
    (subst (λ a. let b = a in IsUpTo (turn + 1) b.client) (sym asked)
    (turned_up turn (client_of was) (get_within turn old at was all got))))
  where
    all_up : (n : ℕ) (ks : List kept_client) → AllByRecursion (IsWithin n) ks → AllByRecursion (IsWithin (n + 1)) ks
    all_up n [] h = tt
    all_up n (k ∷ ks) h = ((let one = h.0 in omega (arith, one.0), let one = h.0 in omega (arith, one.1)), all_up n ks h.1)

-- a program that asked
pub asked_so : (at : ℕ) (event : Option Event) (ks : List kept_client) (was is : kept_client) → slice_get ks at ≡ Some was →
    asking (option_map ask_of event) (client_of is) ≡ turned (client_of was) → Asks at event ks (slice_set ks at is)
asked_so at event ks was is got asked = (was, is, got, refl, asked)
