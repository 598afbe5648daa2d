-- What holds while a script is run, line by line, and where the run ends.
use Rattle.std.specs.Prelude.{◌≡◌, ◌≢◌, ◌⊎◌, ◌≤◌, ◌<◌, ℕ, ◌+◌, ◌-◌, List, [], ◌∷◌, ◌++◌, length, take, Bool, true, false, MatchOption}
use Rattle.std.specs.Prelude.{Option, Some, None}
use Rattle.arj_io.specs.Told.{Takes}
use Rattle.arj_journal.specs.declared.body.Body.{Body}
use Rattle.arj_journal.specs.declared.body.Body.TheVariants as body
use Rattle.arj_journal.specs.declared.body.Which.TheVariants as which
use Rattle.arj_journal.specs.declared.body.Line.{Line}
use Rattle.arj_journal.specs.declared.event.Event.{Event}
use Rattle.arj_journal.specs.declared.header.Header.{Header}
use Rattle.arj_journal.specs.LineText.{text}
use Rattle.arj_script.specs.Grammar.{Asks, Form, HasForm, IsBadLine, Objects, Place, Run, Running, Start, begun}
use Rattle.arj_script.specs.Input.{Stopped, AtEnd, AtFault, events_of, ended_lines, rest_line}
use Rattle.arj_loop.specs.declared.ending.BadLine.{BadLine}
use Rattle.arj_loop.specs.declared.ending.BadLine.TheVariants as why
use Rattle.arj_loop.specs.declared.ending.End.{End}
use Rattle.arj_loop.specs.declared.ending.End.TheVariants as ending
use Rattle.arj_loop.specs.declared.limits.TheConstants.{MOST_EVENTS}
use Rattle.arj_loop.specs.declared.machine.Machine.{Ghosts}
use Rattle.arj_loop.specs.declared.run.Runner.{Runner}
use Rattle.arj_loop.specs.declared.session.Session.{Session}
use Rattle.arj_loop.specs.Forms.{HaveForms, IsBadBy}
use Rattle.arj_loop.specs.Input.{Arrived, Script, WentOn, ReadsFewPast, header_from, script_of}
use Rattle.arj_loop.specs.Limits.{EndsAtFrames}
use Rattle.arj_script.specs.declared.limits.TheConstants.{LINE_BYTES, SCRIPT_LINES}

-- the header that `run` ends at a place
abbrev pub header_at : Place → Header
header_at (Objects h) = h
header_at _ = begun 0

-- what a line of this form asks of the disks at its place, under this header: `run` that they are formatted, an event that it
-- is run, any other form nothing
abbrev pub AskedOf : {D M : Type 0} → Ghosts M D → Header → Place → Form → List D → List D → Type 0
AskedOf m header place Run before after = m.moved (header_at place) [] before after
AskedOf m header place (Asks e) before after = m.moved header (e ∷ []) before after
AskedOf m header place _ before after = after ≡ before

-- the disks are as before, or as the line's form asked
abbrev pub ChangedBy : {D M : Type 0} → Ghosts M D → Header → Place → List ℕ → List D → List D → Type 0
ChangedBy m header place line before after =
    (after ≡ before) ⊎ ((form : Form) × HasForm place line form × AskedOf m header place form before after)

-- the same of the first of these lines, if there is one
abbrev pub ChangedSince : {D M : Type 0} → Ghosts M D → Header → Place → List (List ℕ) → List D → List D → Type 0
ChangedSince m header place [] before after = after ≡ before
ChangedSince m header place (line ∷ lines) before after = ChangedBy m header place line before after

-- The disks, the machine and the journal at one moment of a run.
pub record Held (D M : Type 0) : Type 0 where
  pub rack : List D
  pub machine : Option M
  pub journal : List Line

-- one moment of a run, of these
abbrev pub held_by : {D M : Type 0} → List D → Option M → List Line → Held D M
held_by rack machine journal = record { rack = rack; machine = machine; journal = journal }

-- a machine, if there is one, has run these events
abbrev pub HasRun : {D M : Type 0} → Ghosts M D → List D → Header → List Event → Held D M → Type 0
HasRun m first header events held = MatchOption held.machine ⊥ (λ machine. m.ran first header events held.rack held.journal machine)

-- Before `run` no disk has changed and no event was run; behind it the machine has run the events.
abbrev pub MachineRuns : {D M : Type 0} → Ghosts M D → List D → List D → List Form → Place → Header → List Line → Option M → Type 0
MachineRuns m first rack forms place header journal None =
    (place ≡ Running → ⊥) × (rack ≡ first) × (header_from Start forms ≡ None) × (events_of forms ≡ []) × (journal ≡ []) × m.ready first
MachineRuns m first rack forms place header journal (Some machine) =
    (place ≡ Running) × (header_from Start forms ≡ Some header) × m.ran first header (events_of forms) rack journal machine × (m.steps machine ≡ length (events_of forms))

-- What a run has at hand: the machine, once `run` was read; how many lines were run; and the journal.
pub record Hand (M : Type 0) : Type 0 where
  pub machine : Option M
  pub count : ℕ
  pub journal : List Line

-- what a run has at hand, of these
abbrev pub hand : {M : Type 0} → Option M → ℕ → List Line → Hand M
hand machine count journal = record { machine = machine; count = count; journal = journal }

-- These lines were run, from the first rack on. What is left is this rack, and what is at hand.
pub record Stage {D M : Type 0} (m : Ghosts M D) (first rack : List D) (lines : List (List ℕ)) (place : Place) (at : Hand M) : Type 0 where
  pub forms : List Form
  pub header : Header
  pub read : HaveForms Start lines forms place
  pub counted : at.count ≡ length forms
  pub within : at.count ≤ SCRIPT_LINES
  pub machine_is : MachineRuns m first rack forms place header at.journal at.machine

-- The same, of a runner.
abbrev pub StageOf : {D M : Type 0} → Ghosts M D → List D → List D → List (List ℕ) → Runner M → List Line → Type 0
StageOf m first rack lines runner journal = Stage m first rack lines runner.reader (hand runner.machine runner.lines journal)

-- The disks were formatted, and the machine has run no event.
pub record Started {D M : Type 0} (m : Ghosts M D) (before after : List D) (header : Header) (machine : Option M) : Type 0 where
  pub made : M
  pub machine_is : machine ≡ Some made
  pub ran : m.ran before header [] after [] made
  pub steps : m.steps made ≡ 0
  pub going : m.over made ≡ false

-- The machine ran an event.
pub record Stepped {D M : Type 0} (m : Ghosts M D) (from to : Held D M) (e : Event) : Type 0 where
  pub before : M
  pub after : M
  pub machine_was : from.machine ≡ Some before
  pub machine_is : to.machine ≡ Some after
  pub ran : (first : List D) (header : Header) (events : List Event) → m.ran first header events from.rack from.journal before →
      m.ran first header (events ++ e ∷ []) to.rack to.journal after
  pub steps : m.steps after ≡ m.steps before + 1
  pub lines : List Line
  pub grown : to.journal ≡ from.journal ++ lines

-- The machine refused an event that would give one label too many.
pub record Refused {D M : Type 0} (m : Ghosts M D) (from to : Held D M) (e : Event) : Type 0 where
  pub before : M
  pub after : M
  pub machine_was : from.machine ≡ Some before
  pub machine_is : to.machine ≡ Some after
  pub full : (first : List D) (header : Header) (events : List Event) → m.ran first header events from.rack from.journal before
      → m.ran first header events to.rack to.journal after × m.is_full header e to.rack after
  pub steps : m.steps after ≡ m.steps before
  pub going : m.over after ≡ false

-- the machine is there, and can run an event more
abbrev pub IsStanding : {D M : Type 0} → Ghosts M D → List D → List Line → Option M → Type 0
IsStanding m rack journal None = ⊥
IsStanding {D} m rack journal (Some machine) =
    (m.steps machine < MOST_EVENTS) × (m.over machine ≡ false) × ((first : List D) × (header : Header) × (events : List Event) × m.ran first header events rack journal machine)

-- The line asks for an event that would give one label too many.
abbrev pub AsksTooMany : {D M : Type 0} → Ghosts M D → Header → List D → Option M → Place → List ℕ → Type 0
AsksTooMany m header rack None place line = ⊥
AsksTooMany m header rack (Some machine) place line = (e : Event) × HasForm place line (Asks e) × m.is_full header e rack machine

-- a frame didn't fit, in the last event that was run
abbrev pub overflown : {D M : Type 0} → Ghosts M D → Option M → Bool
overflown m None = false
overflown m (Some machine) = m.over machine

-- a frame didn't fit, and the journal's last line says so
abbrev pub IsOverflown : {D M : Type 0} → Ghosts M D → Option M → List Line → Type 0
IsOverflown m machine journal = (overflown m machine ≡ true) × EndsAtFrames journal

-- the text of the journal was taken, but for the bytes that wait
abbrev pub Gathers : List Line → List ℕ → Option (List ℕ) → Option (List ℕ) → Type 0
Gathers journal waiting before after = (taken : List ℕ) × (text journal ≡ taken ++ waiting) × Takes before taken after

-- a front of the journal's text was taken
abbrev pub Fronts : List Line → Option (List ℕ) → Option (List ℕ) → Type 0
Fronts journal before after = (count : ℕ) × Takes before (take count (text journal)) after

-- a line is left, or `run` wasn't read
abbrev pub IsUnfinished : Place → List (List ℕ) → Type 0
IsUnfinished place rest = rest ≡ [] → place ≡ Running → ⊥

-- why the run ends where these lines are left
abbrev pub Why : {D M : Type 0} → Ghosts M D → End → Stopped → List (List ℕ) → Place → List D → Hand M → Header → Type 0
Why m ending.Whole stopped rest place rack at header = (stopped ≡ AtEnd) × (rest ≡ []) × (place ≡ Running)
Why m ending.Fault stopped rest place rack at header = (stopped ≡ AtFault) × (rest ≡ [])
Why m (ending.Bad w) stopped rest place rack at header =
    ((line : List ℕ) × (tail : List (List ℕ)) × (rest ≡ line ∷ tail) × (at.count < SCRIPT_LINES ⊎ (LINE_BYTES < length line)) × IsBadLine place line × IsBadBy w place line)
    ⊎ ((rest ≡ []) × (stopped ≡ AtEnd) × (place ≡ Running → ⊥) × (w ≡ why.Missing))
Why m ending.Lines stopped rest place rack at header =
    (line : List ℕ) × (tail : List (List ℕ)) × (rest ≡ line ∷ tail) × (at.count ≡ SCRIPT_LINES) × (length line ≤ LINE_BYTES)
Why m ending.Labels stopped rest place rack at header =
    (line : List ℕ) × (tail : List (List ℕ)) × (rest ≡ line ∷ tail) × (at.count < SCRIPT_LINES) × AsksTooMany m header rack at.machine place line
Why m ending.Frames stopped rest place rack at header = IsOverflown m at.machine at.journal
Why m ending.Format stopped rest place rack at header =
    (line : List ℕ) × (tail : List (List ℕ)) × (rest ≡ line ∷ tail) × HasForm place line Run × (at.count < SCRIPT_LINES) × (at.machine ≡ None)
Why m ending.Write stopped rest place rack at header = ⊥
Why m ending.Memory stopped rest place rack at header = ⊥

-- so many lines were run before the one at which the run ended
abbrev pub lines_before : End → ℕ → ℕ
lines_before ending.Frames count = count - 1
lines_before _ count = count

-- The run of these lines has come to its end.
pub record Reached {D M : Type 0} (m : Ghosts M D) (first rack : List D) (given : Script) (at : Hand M) (end : End) : Type 0 where
  pub place : Place
  pub done : List (List ℕ)
  pub rest : List (List ℕ)
  pub whole : given.lines ≡ done ++ rest
  pub stage : Stage m first rack done place at
  pub why : Why m end given.stopped rest place rack at stage.header
  -- no frame was too many, but where that ended the run
  pub going : end ≢ ending.Frames → overflown m at.machine ≡ false

-- The run of these lines has come so far that this journal is that of their events. The disks may have changed since, by what the
-- next line asks.
pub record Halfway {D M : Type 0} (m : Ghosts M D) (first rack : List D) (given : Script) (at : Hand M) : Type 0 where
  pub place : Place
  pub done : List (List ℕ)
  pub rest : List (List ℕ)
  pub whole : given.lines ≡ done ++ rest
  pub mid : List D
  pub stage : Stage m first mid done place at
  pub since : ChangedSince m stage.header place rest mid rack

-- how the run ends where the input was read to its end and every line was run
abbrev pub end_of : {M : Type 0} → Option M → End
end_of (Some machine) = ending.Whole
end_of None = ending.Bad why.Missing

-- the line outside events that an end writes
abbrev pub last_body : End → ℕ → Option Body
last_body (ending.Bad w) count = Some (body.Bad (count + 1))
last_body ending.Lines count = Some (body.Limit which.Lines)
last_body ending.Labels count = Some (body.Limit which.Labels)
last_body _ count = None

-- the line that an end writes, if it writes one
abbrev pub last_lines : Option Body → ℕ → List Line
last_lines None event = []
last_lines (Some b) event = record { event = event; body = b } ∷ []

-- the status of an end
abbrev pub status_of : End → ℕ
status_of ending.Whole = 0
status_of (ending.Bad w) = 2
status_of ending.Fault = 3
status_of ending.Write = 4
status_of ending.Memory = 5
status_of ending.Lines = 6
status_of ending.Labels = 6
status_of ending.Frames = 6
status_of ending.Format = 7

-- why a line is bad, at an end at which one is
abbrev pub why_of : End → Option BadLine
why_of (ending.Bad w) = Some w
why_of _ = None

-- the events that were run, by the machine's own count
abbrev pub events_run : {D M : Type 0} → Ghosts M D → Option M → ℕ
events_run m None = 0
events_run m (Some machine) = m.steps machine

-- What a run has in its hands: the disks, the session, the journal, and what the sink has taken.
pub record Work (D M : Type 0) : Type 0 where
  pub rack : List D
  pub session : Session M
  pub journal : List Line
  pub taken : Option (List ℕ)

-- what a run has in its hands, of these
abbrev pub work : {D M : Type 0} → List D → Session M → List Line → Option (List ℕ) → Work D M
work rack session journal taken = record { rack = rack; session = session; journal = journal; taken = taken }

-- What is at hand of it.
abbrev pub hand_of : {D M : Type 0} → Work D M → Hand M
hand_of now = hand now.session.runner.machine now.session.runner.lines now.journal

-- The lines that ended in these bytes were run, from the first rack on, and their text gathers. What stands behind them is
-- the line in hand.
pub record IsGoing {D M : Type 0} (m : Ghosts M D) (first : List D) (before : Option (List ℕ)) (used : List ℕ) (now : Work D M) : Type 0 where
  pub stage : StageOf m first now.rack (ended_lines used) now.session.runner now.journal
  pub room : now.session.cutter.most ≡ LINE_BYTES
  pub in_hand : now.session.cutter.line ≡ rest_line used
  pub short : length now.session.cutter.line ≤ LINE_BYTES
  pub gathers : Gathers now.journal now.session.gather.waiting.items before now.taken
  pub going : overflown m now.session.runner.machine ≡ false

-- Some run is going on.
abbrev pub Goes : {D M : Type 0} → Ghosts M D → Work D M → Type 0
Goes {D} m now = (first : List D) × (before : Option (List ℕ)) × (used : List ℕ) × IsGoing m first before used now

-- So many lines of what came were run before the one in hand, and their text gathers.
pub record IsAtLine {D M : Type 0} (m : Ghosts M D) (first : List D) (before : Option (List ℕ)) (given : Arrived) (done : List (List ℕ)) (now : Work D M) : Type 0 where
  pub stage : StageOf m first now.rack done now.session.runner now.journal
  pub gathers : Gathers now.journal now.session.gather.waiting.items before now.taken
  pub going : overflown m now.session.runner.machine ≡ false
  pub tail : List (List ℕ)
  pub cut : (let s = script_of given in s.lines) ≡ done ++ now.session.cutter.line ∷ tail
  pub went_on : WentOn given (length done)
  pub past : ReadsFewPast given (length done)

-- A run of what came has ended so.
pub record HasEnded {D M : Type 0} (m : Ghosts M D) (first : List D) (before : Option (List ℕ)) (given : Arrived) (now : Work D M) (end : End) : Type 0 where
  pub reached : end ≢ ending.Write → end ≢ ending.Memory → end ≢ ending.Format
      → Reached m first now.rack (script_of given) (hand_of now) end × WentOn given (lines_before end now.session.runner.lines) × ReadsFewPast given (lines_before end now.session.runner.lines)
  -- a disk was stopped while it was formatted: before that no disk had changed, and no machine was made
  pub none : end ≡ ending.Format → now.session.runner.machine ≡ None
  pub format : end ≡ ending.Format →
      (count : ℕ) × (r : Reached m first first (script_of given) (hand None count now.journal) ending.Format) × WentOn given count × ReadsFewPast given count
      × m.stopped first now.rack × m.moved (header_at r.place) [] first now.rack
  pub gathers : end ≢ ending.Write → end ≢ ending.Memory → Gathers now.journal now.session.gather.waiting.items before now.taken
  -- memory was wanting: the lines before the one in hand were run, and the text of theirs gathers
  pub memory : end ≡ ending.Memory →
      (at : Hand M) × (h : Halfway m first now.rack (script_of given) at) × Gathers at.journal now.session.gather.waiting.items before now.taken × WentOn given at.count
      × IsUnfinished h.place h.rest
  -- a write failed
  pub write : end ≡ ending.Write →
      (at : Hand M) × Halfway m first now.rack (script_of given) at × Fronts at.journal before now.taken × WentOn given at.count
