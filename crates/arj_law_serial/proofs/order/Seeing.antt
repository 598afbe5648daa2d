-- A run of which the lock machine of each object sees so much is serial.
use Rattle.arj_law_parts.proofs.Words.{ℕ, List, refl, subst, Line, Header, World, Seen, IsSerialBy}
use Rattle.arj_law_serial.proofs.Terms
use Terms.{first_values, Values, Action, paths_of, new_book, AreAlike, IsAlikeOf, AreRight, its_acts, State, AgreesAs, Fixed, view_of}
use Terms.{SeesLocks, AreTied as AreTiedNow, acts_of, AreOneTree, Codes, code_of, RequestsAreOne, AreApart, IsTied}
use Rattle.arj_law_lock.specs.machine.Actions.{Act}
use Rattle.arj_law.proofs.{Nested.nested_law, Order.order_law}
use Rattle.arj_law_lock_view.proofs.{facts.Wants.requests_want, view.FamilySteps.families_are_trees}
use Rattle.arj_law_lock_view.specs.{facts.Given.SentWants, view.Servers.Wants}
use Rattle.arj_law_serial.proofs.order
use order.{Begun.begun_have_places, Codes.codes_are_apart, Ties.Ties, Ties.ties_of, Values.are_answered}
use order.Order.{all_freed, all_in_order, all_in_time}
use Rattle.arj_law_serial.specs.order.Seen.{AreLocked}
use Rattle.arj_model.specs.Serial.{Serial}

-- in places of its own, and in any codes
module _ (values : Values) (x : ℕ) (M : Seen) (begun : List Action) (alike : IsAlikeOf begun M) (seen : (f : Fixed) → AreApart f.code →
    AgreesAs values M.start.marks f x begun M.sent → (S : State) × SeesLocks f x begun S M × AreTiedNow f x M.lines S)
    (knows : RequestsAreOne M) where
  pub right : AreRight new_book M.lines
  right = let w = alike.2 in w.right

  pub tree : AreOneTree (record { begun = begun; paths = paths_of begun; act = acts_of begun })
  tree = families_are_trees begun (let g = alike.0 in g.begun)

  pub wants : (w : Wants) × SentWants x M.sent w
  wants = requests_want x M.sent knows.one (λ p there h a is. knows.numbered p there h a is)

  -- who wrote its first state
  abbrev pub writer : Act
  writer = acts_of begun (let m = M.start.marks.states x in m.writer)

  abbrev pub fixed_at : Codes → Fixed
  fixed_at code =
      record { act = acts_of begun; paths = paths_of begun; code = code; wants = wants.0; first = code (values x) writer }

  pub agrees_at : (code : Codes) → AgreesAs values M.start.marks (fixed_at code) x begun M.sent
  agrees_at code =
      (record { whole = tree; wanted = λ p h a there is. wants.1 (view_of (fixed_at code) x begun p.to) p h a refl refl there is }, refl)

  -- the journal, tied to a state in which the object is seen so
  abbrev pub tied_at : (S : State) → SeesLocks (fixed_at code_of) x begun S M → AreTiedNow (fixed_at code_of) x M.lines S →
      IsTied values M.lines x S
  tied_at S s tied = record {
    act = acts_of begun;
    code = code_of;
    apart = codes_are_apart;
    places = begun_have_places begun (paths_of begun) (acts_of begun) M.lines right
        (subst (AreAlike begun) (its_acts M.lines right) alike.1) tree;
    first = code_of (values x) writer;
    run = s.run;
    tied = tied values (writer, refl);
  }

  pub locked_tied : (S : State) × IsTied values M.lines x S
  locked_tied = let s = seen (fixed_at code_of) codes_are_apart (agrees_at code_of) in (s.0, tied_at s.0 s.1 s.2)

-- a world of which all that were called are locked so
pub locked_serial : (hd : Header) (w : World) → AreRight new_book w.lines → AreLocked hd w → IsSerialBy hd w.lines
locked_serial hd w right locked = (
  serial,
  nested_law values lines serial (all_freed values lines right tied) (all_in_time values lines right tied),
)
  where
    values : Values
    values = first_values hd

    lines : List Line
    lines = w.lines

    tied : Ties values lines
    tied = ties_of values lines (λ x called. (let h = locked x called in (let z = h.holds in locked_tied values x _ z.0 z.1 z.2 z.3)))

    serial : Serial values lines
    serial = order_law values lines (all_in_order values lines right tied) (are_answered values lines right tied)
