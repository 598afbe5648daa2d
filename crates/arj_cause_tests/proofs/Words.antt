-- Words for runs: their events with the lines that each wrote, changes of lines, and which lines lack a cause.
use Rattle.std.specs.Prelude.{ℕ, zero, suc, ◌+◌, ◌-◌, Bool, List, [], ◌∷◌, ◌++◌, length, map, nat_le, replicate, refl, if◌then◌else◌}
use Rattle.std.proofs.Common.{arith}
use Rattle.arj_base.specs.declared.binding.Binding.{Binding}
use Rattle.arj_base.specs.declared.state.Format.TheVariants as format
use Rattle.arj_base.specs.declared.uid.Uid.{Uid}
use Rattle.arj_class.specs.declared.value.Value.{Value}
use Rattle.arj_text.specs.declared.label.Label.{Label}
use Rattle.arj_journal.specs.declared.body.Body.{Body}
use Rattle.arj_journal.specs.declared.body.Line.{Line}
use Rattle.arj_journal.specs.declared.event.Event.{Event}
use Rattle.arj_journal.specs.declared.header.Header.{Header}
use Rattle.arj_journal.specs.declared.header.ObjectLine.{ObjectLine}
use Rattle.arj_start.specs.Start.{fresh}
use Rattle.arj_model.specs.Past.{Past, block, next, nothing_yet}
use Rattle.arj_model.specs.CauseSpans.{Here, behind, here_at}
use Rattle.arj_model.specs.Caused.{has_cause}
use Rattle.arj_cause_tests.specs.Followed.{follows}

-- a label of one letter
abbrev pub l : ℕ → Label
l letter = record { len = 1; text = letter ∷ replicate 15 0; whole = refl; short = omega arith; zeros = refl }

-- a Uid of a node, an incarnation and a number
abbrev pub u : ℕ → ℕ → ℕ → Uid
u n i k = record { node = n; inc = i; num = k }

-- a binding of an incarnation and a count
abbrev pub b : ℕ → ℕ → Binding
b i k = record { inc = i; count = k }

-- an object of a header: its first value, servers and stores
abbrev pub object_line : ℕ → Value → List ℕ → List ℕ → ObjectLine
object_line x v servers stores = record { x = x; value = v; servers = servers; stores = stores }

-- a header of so many nodes, of states in format two
abbrev pub nodes : ℕ → List ObjectLine → Header
nodes n objects = record { nodes = n; objects = objects; format = format.Two }

-- an event with the lines that it wrote
abbrev pub Wrote : Type 0
Wrote = Event × List Body

-- a run
pub record Run : Type 0 where
  pub header : Header
  pub wrote : List Wrote

-- a run by its parts
abbrev pub run : Header → List Wrote → Run
run header wrote = record { header = header; wrote = wrote }

-- the places of those lines of an event that lack a cause, from 1
abbrev pub lacking_in : Here → List Body → List ℕ
lacking_in h [] = []
lacking_in h (body ∷ rest) =
    if has_cause h body then lacking_in (behind h body) rest else (length h.lines + 1) ∷ lacking_in (behind h body) rest

-- the same over events
abbrev pub lacking_from : Header → Past → List Wrote → List ℕ
lacking_from header past [] = []
lacking_from header past (w ∷ rest) = lacking_in (here_at header past w.0 w.1) w.1 ++ lacking_from header (next past w.0 w.1) rest

-- the places of the lines of a run that lack a cause
abbrev pub lacking : Run → List ℕ
lacking r = lacking_from r.header nothing_yet r.wrote

-- the run after these events, from this one on
abbrev pub end_from : Past → List Wrote → Past
end_from past [] = past
end_from past (w ∷ rest) = end_from (next past w.0 w.1) rest

-- the lines with the one at this place, from 1, made into others
abbrev pub change_in : ℕ → (Body → List Body) → List Body → List Body
change_in zero f bodies = bodies
change_in n f [] = []
change_in (suc zero) f (body ∷ rest) = f body ++ rest
change_in (suc (suc n)) f (body ∷ rest) = body ∷ change_in (suc n) f rest

-- the same over events
abbrev pub change_from : ℕ → (Body → List Body) → List Wrote → List Wrote
change_from n f [] = []
change_from n f (w ∷ rest) = if nat_le n (length w.1) then (w.0, change_in n f w.1) ∷ rest else w ∷ change_from (n - length w.1) f rest

-- the run with the line at this place made into others
abbrev pub change : ℕ → (Body → List Body) → Run → Run
change n f r = run r.header (change_from n f r.wrote)

-- the run without it
abbrev pub without : ℕ → Run → Run
without n r = change n (λ old. []) r

-- with another in its stead
abbrev pub instead : ℕ → Body → Run → Run
instead n new r = change n (λ old. new ∷ []) r

-- with others behind it
abbrev pub after : ℕ → List Body → Run → Run
after n new r = change n (λ old. old ∷ new) r

-- with others before it
abbrev pub before : ℕ → List Body → Run → Run
before n new r = change n (λ old. new ++ old ∷ []) r

-- the run with another event, of this number, in the stead of the one that wrote its lines
abbrev pub event_from : ℕ → Event → List Wrote → List Wrote
event_from n e [] = []
event_from zero e (w ∷ rest) = w ∷ rest
event_from (suc zero) e (w ∷ rest) = (e, w.1) ∷ rest
event_from (suc (suc n)) e (w ∷ rest) = w ∷ event_from (suc n) e rest

-- the same of a run
abbrev pub of_other_event : ℕ → Event → Run → Run
of_other_event n e r = run r.header (event_from n e r.wrote)

-- the events of a run
abbrev pub events : Run → List Event
events r = map (λ w. w.0) r.wrote

-- the lines of these events, the first of which has this number
abbrev pub lines_from : ℕ → List Wrote → List Line
lines_from n [] = []
lines_from n (w ∷ rest) = block n w.1 ++ lines_from (n + 1) rest

-- its journal
abbrev pub journal : Run → List Line
journal r = lines_from 1 r.wrote

-- the journal follows the events
abbrev pub is_followed : Run → Bool
is_followed r = follows r.header fresh (events r) (journal r)
