-- The schedule of the programs: which events they give, turn by turn, by what the nodes answered.
use Rattle.std.specs.Prelude.{ℕ, zero, suc, ◌+◌, ◌%◌, ◌≡◌, ◌⊎◌, List, [], ◌∷◌, ◌++◌, length, map, filter, slice_get, slice_set, Bool, true}
use Rattle.std.specs.Prelude.{false, ◌==◌, ◌&&◌, ◌||◌, if◌then◌else◌, Option, Some, None}
use Rattle.std.specs.List.{flat_map, list_all}
use Rattle.std.specs.Str.{bytes_eq}
use Rattle.arj_gen.specs.Bank.{drawn, next_state}
use Rattle.arj_journal.specs.declared.body.Body.{Body}
use Rattle.arj_journal.specs.declared.body.Body.TheVariants as body
use Rattle.arj_journal.specs.declared.body.Line.{Line}
use Rattle.arj_journal.specs.declared.event.Event.{Event}
use Rattle.arj_journal.specs.declared.event.Event.TheVariants as event
use Rattle.arj_prog.specs.declared.plan.Plan.{Plan}
use Rattle.arj_prog.specs.declared.plan.Program.{Program}
use Rattle.arj_progrun.specs.Client.{Ask, Asking, Client, GivesUp, LosesLast, Said, Settles, Ticks, first_client, hears, is_over, is_phase}
use Rattle.arj_progrun.specs.Client.{turned}
use Rattle.arj_progrun.specs.Events.{ask_of}
use Rattle.arj_progrun.specs.declared.phase.Phase.{Phase}
use Rattle.arj_progrun.specs.declared.phase.Phase.TheVariants as phase
use Rattle.arj_progrun.specs.declared.report.ReportLine.{ReportLine}
use Rattle.arj_progrun.specs.declared.report.ReportLine.TheVariants as told
use Rattle.arj_text.specs.Label.{name}

-- The programs, the labels of the tops whose commits were called, in that order, and the state of the draws.
pub record Standing : Type 0 where
  pub clients : List Client
  pub called : List (List ℕ)
  pub state : ℕ

-- An event that was given, with the lines that it wrote.
pub record Given : Type 0 where
  pub event : Event
  pub lines : List Line

-- What a turn asks, which program asks by it, and what stands behind it.
pub record Turning : Type 0 where
  pub ask : Option Ask
  pub by : Option ℕ
  pub now : Standing

-- ---- what is heard

-- the program at this place asked
abbrev pub is_by : Option ℕ → ℕ → Bool
is_by None at = false
is_by (Some n) at = n == at

-- programs, of which the first has this place, hear a line of an event by which this one asked
abbrev pub all_hear : Option ℕ → ℕ → Body → List Client → List Client
all_hear by at b [] = []
all_hear by at b (c ∷ cs) = hears b (is_by by at) c ∷ all_hear by (at + 1) b cs

-- the label of the top whose commit is called in a line
abbrev pub called_by : Body → List (List ℕ)
called_by (body.Committing l) = name l ∷ []
called_by _ = []

-- a line is heard
abbrev pub line_heard : Option ℕ → Body → Standing → Standing
line_heard by b s = record s { clients = all_hear by 0 b s.clients; called = s.called ++ called_by b }

-- lines are heard, one after another
abbrev pub lines_heard : Option ℕ → List Line → Standing → Standing
lines_heard by [] s = s
lines_heard by (line ∷ lines) s = lines_heard by lines (line_heard by line.body s)

-- ---- turns

-- the schedule's own event
abbrev pub own : Ask → Standing → Turning
own ask s = record { ask = Some ask; by = None; now = s }

-- the program that asks by what it gives: none by a giveup
abbrev pub asks_by_it : ℕ → Option Ask → Option ℕ
asks_by_it at (Some (GivesUp l)) = None
asks_by_it at (Some ask) = Some at
asks_by_it at None = None

-- the turn of the program at this place, which this is
abbrev pub turn_with : ℕ → Asking → Standing → Turning
turn_with at a s = record { ask = a.ask; by = asks_by_it at a.ask; now = record s { clients = slice_set s.clients at a.client } }

-- the turn of the program at this place, if there is one
abbrev pub turn_by : ℕ → Option Client → Standing → Turning
turn_by at None s = record { ask = None; by = None; now = s }
turn_by at (Some c) s = turn_with at (turned c) s

-- the turn of this number, with this draw
abbrev pub turn_drawn : ℕ → ℕ → ℕ → Standing → Turning
turn_drawn nodes turn draw s =
    if (turn % 16 == 3) || (turn % 16 == 11) then own Settles s
    else if turn % 16 == 7 then own (Ticks (1 + draw % nodes)) s
    else if turn % 16 == 15 then own (if draw % 4 == 0 then LosesLast else Settles) s
    else turn_by (draw % length s.clients) (slice_get s.clients (draw % length s.clients)) s

-- the turn of this number: it makes one draw
abbrev pub turn_at : ℕ → ℕ → Standing → Turning
turn_at nodes turn s = turn_drawn nodes turn (drawn s.state) (record s { state = next_state s.state })

-- programs, of which the first has this number, before they have given any event
abbrev pub clients_from : ℕ → List Program → List Client
clients_from number [] = []
clients_from number (p ∷ ps) = first_client number p ∷ clients_from (number + 1) ps

-- before the first turn
abbrev pub first_standing : Plan → Standing
first_standing plan = record { clients = clients_from 1 plan.programs; called = []; state = plan.seed }

-- every program is finished
abbrev pub are_over : Standing → Bool
are_over s = list_all (λ c. is_over c.phase) s.clients

-- Behind a turn: its event was given, if it has one, and its lines were heard.
abbrev pub GivesAsk : Option Ask → Turning → List Given → List Given → Standing → Type 0
GivesAsk None t front trace now = (trace ≡ front) × (now ≡ t.now)
GivesAsk (Some ask) t front trace now =
    (g : Given) × (ask_of g.event ≡ ask) × (trace ≡ front ++ g ∷ []) × (now ≡ lines_heard t.by g.lines t.now)

-- the same, by what the turn asks
abbrev pub Gives : Turning → List Given → List Given → Standing → Type 0
Gives t front trace now = GivesAsk t.ask t front trace now

-- So many turns were taken, and these events were given in them; no turn is taken once every program is finished.
abbrev pub Turns : Plan → ℕ → List Given → Standing → Type 0
Turns plan zero trace now = (trace ≡ []) × (now ≡ first_standing plan)
Turns plan (suc t) trace now =
    (before : Standing) × (front : List Given) × Turns plan t front before × (are_over before ≡ false)
    × Gives (turn_at (let h = plan.header in h.nodes) t before) front trace now

-- The turns come to an end: every program is finished, or all of the plan's were taken.
abbrev pub Ends : Plan → ℕ → Standing → Type 0
Ends plan t now = (are_over now ≡ true) ⊎ (t ≡ plan.turns)

-- These events were given by the whole schedule, of which the last is a quiesce; so the programs stand then.
pub record Schedule (plan : Plan) (trace : List Given) (end : Standing) : Type 0 where
  pub turns : ℕ
  pub front : List Given
  pub before : Standing
  pub took : Turns plan turns front before
  pub few : Ends plan turns before
  pub lines : List Line
  pub whole : trace ≡ front ++ record { event = event.Quiesce; lines = lines } ∷ []
  pub heard : end ≡ lines_heard None lines before

-- ---- what is told

-- the answers of calls that are printed
abbrev pub prints : List Said → List (List ℕ)
prints said = map (λ s. s.answer) (filter (λ s. s.printed) said)

-- the lines of a program whose top of this label committed
abbrev pub commit_lines : List ℕ → Client → List ReportLine
commit_lines label c =
    if is_phase phase.Committed c.phase && bytes_eq (let t = c.top in t.label) label
    then told.Commit c.name ∷ map told.Print (prints (let t = c.top in t.said)) else []

-- the line of a program that hasn't committed
abbrev pub other_line : Phase → Client → List ReportLine
other_line phase.Committed c = []
other_line phase.Failing c = told.Failed c.name ∷ []
other_line phase.Failed c = told.Failed c.name ∷ []
other_line phase.GaveUp c = told.GaveUp c.name ∷ []
other_line _ c = told.Unfinished c.name ∷ []

-- What is told: the committed programs with their prints, in the order in which their commits were called, and then the others in the
-- order of the text.
abbrev pub report_of : Standing → List ReportLine
report_of s = flat_map (λ label. flat_map (commit_lines label) s.clients) s.called ++ flat_map (λ c. other_line c.phase c) s.clients
