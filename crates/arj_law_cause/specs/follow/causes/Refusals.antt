-- Which refusals go by the tree of actions and by the header's objects, against the causes that the journal has for each event.
use Rattle.std.specs.Prelude.{◌≡◌, ◌≤◌, ℕ, List, [], ◌∷◌, Bool, true, false, ◌==◌, ◌&&◌, not, nat_lt}
use Rattle.std.specs.List.{list_any}
use Rattle.arj_journal.specs.declared.body.Body.{Body}
use Rattle.arj_journal.specs.declared.body.Body.TheVariants as body
use Rattle.arj_journal.specs.declared.event.Event.{Event}
use Rattle.arj_journal.specs.declared.event.Event.TheVariants as event
use Rattle.arj_journal.specs.declared.header.Header.{Header}
use Rattle.arj_model.specs.Past.{Past}
use Rattle.arj_model.specs.Refusals.{causes}
use Rattle.arj_model.specs.Follows.{Runs}
use Rattle.arj_law_runs.specs.follow.Frames.{run_events}
use Rattle.arj_law_runs.specs.follow.Refusals.{names_action}
use Rattle.arj_promise.specs.Runs.{IsInForm, Run, journal_by}

-- the last of the causes that ask what actions wait for: not waiting
abbrev pub not_waiting : ℕ
not_waiting = 8

-- the cause that an action is doomed
abbrev pub doomed : ℕ
doomed = 12

-- the cause that there are too many actions, or objects
abbrev pub too_many : ℕ
too_many = 16

-- the event asks for an object
abbrev pub asks_object : Event → Bool
asks_object (event.Call l x op) = true
asks_object (event.Include l x n) = true
asks_object _ = false

-- The cause goes by the tree of actions, or by the header's objects: open children, wrong parent, no calls, unknown object, wrong
-- operation, too deep, and too many actions. Left out are that an action is doomed, and too many objects.
abbrev pub is_tree_cause : Event → ℕ → Bool
is_tree_cause e c = names_action e && (nat_lt not_waiting c && (not (c == doomed) && not (asks_object e && (c == too_many))))

-- a cause of this number holds
abbrev pub is_met : ℕ → List (ℕ × Bool) → Bool
is_met c cs = list_any (λ (q : ℕ × Bool). (q.0 == c) && q.1) cs

-- an event is refused, with this number or a lower one
abbrev pub IsRefusedBy : ℕ → List Body → Type 0
IsRefusedBy c bodies = (d : ℕ) × (d ≤ c) × (bodies ≡ body.Refused d ∷ [])

-- An event that is refused with such a number has that cause by the journal; and where the journal has such a cause the event is refused,
-- with its number or with a lower one.
abbrev pub TreeRefusalsStep : Header → Past → Event → List Body → Type 0
TreeRefusalsStep hd past e bodies = (c : ℕ) → is_tree_cause e c ≡ true →
    (bodies ≡ body.Refused c ∷ [] → is_met c (causes hd past e) ≡ true) × (is_met c (causes hd past e) ≡ true → IsRefusedBy c bodies)

-- so it is of each event of a run
abbrev pub TreeRefusalsFollow : Type 0
TreeRefusalsFollow = (hd : Header) (r : Run hd) → IsInForm hd r → Runs (TreeRefusalsStep hd) r.start (run_events hd r) (journal_by hd r)
