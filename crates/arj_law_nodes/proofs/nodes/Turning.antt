-- Turns of nodes are moves.
use Rattle.arj_law_parts.proofs.Words
use Words.{append-nil, ◌≡◌, ◌≤◌, ◌<◌, ◌++◌, ℕ, zero, suc, Bool, true, false, inl, inr, List, [], ◌∷◌, length, map, Option, Some, None, refl}
use Words.{sym, ◌∙◌, ap, subst, arith, slice_get, AllByRecursion, length-map, Event, Line, Header, World, is_quiet, Move, all_moved}
use Words.{journal_by, moved, world_by, see, most_events, AreMovesInForm, AreStopsInForm, DisksAre, IsReadingOf, EndsAtRest, IsSerialBy}
use Words.{ShowsOneOutcome, HoldsEach, HoldAllStates}
use Words.event
use Words.body
use Rattle.arj_law_nodes.proofs.Terms
use Terms.{⊎_elim, EventInForm, HeaderInForm, Task, task, Place, Start, events_of, hand, Turn, all_turned, turned, KeepsTheBook, CleanFrom, Disks}
use Terms.{first_values, SaysReadings, EndsBehind, IsLast, ends_run, EndsIdle, ShowsThePromise, Reads, readings_of}
use Terms.core
use Terms.disk
use Rattle.arj_law_nodes.proofs.nodes.Ending.{one_behind, promises_stay, two_behind}
use Rattle.arj_law_nodes.proofs.nodes.Reading.{events_in_form, few_events, header_in_form}
use Rattle.arj_law_nodes.specs.nodes.Promised.{event_of, marks_of, run_of_task}
use Rattle.arj_law_nodes.specs.nodes.Readings.{files_at}
use Rattle.arj_law_nodes.specs.nodes.Turns.{Came, ClosesMove, ClosesShow, HasMoved, IsTaskInForm, NodesMove, RunsShow, ScriptsMove, SoFarShows, StopsShow}
use Rattle.arj_law_nodes.specs.nodes.Turns.{as_move}
use Rattle.arj_law_parts.proofs.moves.Moving.{more_moves}
use Rattle.arj_law_promise.proofs.{settling.Idle.quiesce_said, statement.Keeping.firsts_held, statement.Keeping.quiet_end}
use Rattle.arj_law_promise.proofs.{statement.Keeping.runs_keep}
use Rattle.arj_law_runs.proofs.resting.GiveUps.{over_before}
use Rattle.arj_loop.specs.{Input.Arrived, Input.script_of, Replayed.EndsSo, declared.ending.End.End, declared.machine.Machine.Ghosts}
use Rattle.arj_loop.specs.Running.{MachineRuns, Stage, Why, events_run, last_body, last_lines}
use Rattle.arj_nodes.specs.{AllNodes.world_after, AsMachine.all_nodes, declared.all_nodes.AllNodes.AllNodes}
use Rattle.arj_start.specs.Start as start
use Rattle.arj_start.specs.Start.{none_written}
use Rattle.arj_promise.specs.{Excluded.DisksAreInTimeFrom, Promise.KeepsThePromise, Runs.IsInForm, Runs.from_format}
use Rattle.arj_promise.specs.Runs.{header_fits}
use Rattle.arj_promise.specs.Starts.{IsFormed, fresh_is_formed}
use Rattle.arj_protocol.specs.World.{world_from}
use Rattle.arj_script.specs.declared.limits.TheConstants.{SCRIPT_LINES}
use Rattle.arj_world.proofs.Stepping.{is_there}
use Rattle.arj_world.specs.{Stands.Hand, Stands.Stands, Turns.FallsAtWorks}
use Rattle.arj_loop.specs.Running as loop
use Rattle.arj_loop.specs.declared.ending.End.TheVariants as ending

pub turns_move : (ts : List Turn) (w : World) → all_turned ts w ≡ all_moved (map as_move ts) w
turns_move [] w = refl
turns_move (t ∷ ts) w = turns_move ts (turned t w)

same_events : (ts : List Turn) → map event_of (map as_move ts) ≡ map (λ s. s.event) ts
same_events [] = refl
same_events (t ∷ ts) = ap (λ es. t.event ∷ es) (same_events ts)

in_form : (ts : List Turn) → AllByRecursion EventInForm (map (λ (s : Turn). s.event) ts) → AreMovesInForm (map as_move ts)
in_form [] all = tt
in_form (t ∷ ts) all = (all.0, in_form ts all.1)

-- an item of a list stands within it
within : {A : Type 0} (i : ℕ) (xs : List A) (a : A) → slice_get xs i ≡ Some a → i < length xs
within i [] a is = absurd (cc is)
within zero (x ∷ xs) a is = more (length xs)
  where
    more : (k : ℕ) → 0 < suc k
    more k = omega arith
within (suc i) (x ∷ xs) a is = more i (length xs) (within i xs a is)
  where
    more : (j k : ℕ) → j < k → suc j < suc k
    more j k less = omega (arith, less)

module _ {C D : Type 0} (c : core.Ghosts C) (d : disk.Ghosts D) (read : Reads) (says : SaysReadings c read) where
  disks_are : (now : Hand C D) (w : World) → Stands c d.file now (record w { over = false }) →
      DisksAre (see [] w) (readings_of d read now.disks)
  disks_are now w s zero n is = absurd (cc is)
  disks_are now w s (suc i) n is = by (is_there i now.kept.cores (cores i (length w.nodes) now.kept.header.nodes (length now.kept.cores)
      (within i w.nodes n is) s.nodes.nodes_count s.nodes.cores_count)) (is_there i now.disks
      (disks i (length w.nodes) now.kept.header.nodes (length now.disks) (within i w.nodes n is) s.nodes.nodes_count s.nodes.disks_count))
    where
      cores : (i n h k : ℕ) → i < n → n ≡ h → k ≡ h → i < k
      cores i n h k less a b = omega (arith, less, a, b)

      disks : (i n h k : ℕ) → i < n → n ≡ h → h ≤ k → i < k
      disks i n h k less a b = omega (arith, less, a, b)

      by : (one : C) × (slice_get now.kept.cores i ≡ Some one) → (one : D) × (slice_get now.disks i ≡ Some one) →
          IsReadingOf (readings_of d read now.disks (suc i)) n.disk
      by (one, here) (on, there) =
          subst (λ o. IsReadingOf (read (files_at d o)) n.disk) (sym there)
          (says now.kept.header one (d.file on) n (s.nodes.each i one on n here there is))

-- each stop of a turn falls at a work
stopped : (ts : List Turn) → AllByRecursion FallsAtWorks ts → AreStopsInForm (map as_move ts)
stopped [] all = tt
stopped (t ∷ ts) all = ((omega arith, all.0), stopped ts all.1)

pub nodes_move : {C D : Type 0} (c : core.Ghosts C) (d : disk.Ghosts D) → NodesMove c d
nodes_move {C} {D} c d t over now form r =
    let w = world_after t.header t.start r.turns in
    let same : w ≡ world_by t.header (run_of_task t form.formed (map as_move r.turns)) =
    turns_move r.turns (world_from t.header t.start) in record {
      formed = form.formed;
      moves = map as_move r.turns;
      are = same_events r.turns ∙ r.are;
      form = record {
        header = form.header;
        held = form.held;
        events = in_form r.turns (subst (AllByRecursion EventInForm) (sym r.are) form.events);
        stops = stopped r.turns r.works;
        few = few (length (map as_move r.turns)) (length r.turns) (length (map (λ (s : Turn). s.event) r.turns)) (length t.events)
            (length-map r.turns as_move) (length-map r.turns (λ (s : Turn). s.event)) (ap length r.are) form.few;
      };
      journal = sym r.stands.lines ∙ ap (λ (v : World). v.lines) same;
      event = sym r.counted ∙ sym r.stands.event ∙ ap (λ (v : World). v.event) same;
      is_over = ap (λ (v : World). v.over) (sym same) ∙ r.is_over;
      readings = λ read says. subst (λ v. DisksAre (see [] v) (readings_of d read now.disks)) same (disks_are c d read says now w r.stands);
    }
  where
    few : (a b m e : ℕ) → a ≡ b → m ≡ b → m ≡ e → e ≤ most_events → a ≤ most_events
    few a b m e x y z le = omega (arith, x, y, z, le)

-- a run in form that begins as a format leaves things is one from a format
pub at_format : (hd : Header) (formed : IsFormed hd start.fresh) (ms : List Move) →
    IsInForm hd (record { start = start.fresh; formed = formed; moves = ms }) → IsInForm hd (from_format hd ms)
at_format hd formed ms f = record { header = f.header; held = f.held; events = f.events; few = f.few; stops = f.stops }

-- what is run from a format, under a header in form, is in form
pub task_form : {D : Type 0} (first : List D) (hd : Header) (events : List Event) → HeaderInForm hd → AllByRecursion EventInForm events →
    length events ≤ most_events → IsTaskInForm (task first hd events)
task_form first hd events form all few = record {
  header = header_fits hd form;
  held = firsts_held hd none_written form;
  formed = fresh_is_formed hd;
  events = all;
  few = few;
}

pub scripts_move : {C D : Type 0} (c : core.Ghosts C) (d : disk.Ghosts D) → ScriptsMove c d
scripts_move {C} {D} c d first rack lines place at s nodes is =
    let runs = subst (MachineRuns (all_nodes c d) first rack s.forms place s.header at.journal) is s.machine_is in
    nodes_move c d (task first s.header (events_of s.forms)) nodes.over (hand nodes.world rack at.journal) (task_form first s.header (events_of s.forms)
    (header_in_form lines s.forms place s.header s.read runs.1) (events_in_form lines s.forms Start place s.read)
    (few (length (events_of s.forms)) (length s.forms) at.count (few_events s.forms) s.counted s.within)) runs.2
  where
    few : (e f n : ℕ) → e ≤ f → n ≡ f → n ≤ SCRIPT_LINES → e ≤ most_events
    few e f n le is most = omega (arith, le, is, most)

-- ---- what that shows

-- the last of moves whose events end so
split_last : (ms : List Move) (es : List Event) (e : Event) → map event_of ms ≡ es ++ e ∷ [] →
    (front : List Move) × (m : Move) × (ms ≡ front ++ m ∷ []) × (event_of m ≡ e)
split_last [] [] e is = absurd (cc is)
split_last [] (x ∷ es) e is = absurd (cc is)
split_last (m ∷ []) [] e is = ([], m, refl, cc is)
split_last (m ∷ n ∷ ms) [] e is = absurd (cc is)
split_last (m ∷ ms) (x ∷ es) e is = let r = split_last ms es e (cc is) in (m ∷ r.0, r.1, ap (λ ns. m ∷ ns) r.2, r.3)

-- where a quiesce ends a run in which no frame was too many, a line within it stands last
ends_said : (hd : Header) (st : start.Start) (ms front : List Move) (m : Move) → ms ≡ front ++ m ∷ [] → event_of m ≡ event.Quiesce →
    (all_moved ms (world_from hd st)).over ≡ false →
    (before : List Line) × (l : Line) × ((all_moved ms (world_from hd st)).lines ≡ before ++ l ∷ []) × (ends_run l.body ≡ false)
ends_said hd st ms front m are is going =
    let w : World = all_moved front (world_from hd st) in
    let end : all_moved ms (world_from hd st) ≡ moved m w = ap (λ l. all_moved l (world_from hd st)) are
    ∙ more_moves front (m ∷ []) (world_from hd st) in
    let last : (moved m w).over ≡ false = ap (λ (v : World). v.over) (sym end) ∙ going in
    let s = quiesce_said m.asked (record w { arms = m.falls }) is (over_before m w last) last in (
      s.0,
      record { event = (let v = moved m w in v.event); body = body.Quiet (is_quiet (moved m w)) },
      ap (λ (v : World). v.lines) end ∙ s.1,
      refl,
    )

module _ {C D : Type 0} (c : core.Ghosts C) (d : disk.Ghosts D) (read : Reads) (says : SaysReadings c read) where
  -- what is at hand shows the promise
  moved_shows : (t : Task D) (over : Bool) (now : Hand C D) → HasMoved c d t over now → ShowsThePromise d read t over now.journal now.disks
  moved_shows t over now h = record {
    run = record {
      formed = h.formed;
      moves = h.moves;
      are = h.are;
      form = h.form;
      last = [];
      outside = tt;
      lines = h.journal ∙ sym (append-nil (journal_by t.header (run_of_task t h.formed h.moves)));
      disks = are;
    };
    serial = subst (IsSerialBy t.header) (sym h.journal) k.serial;
    book = subst (KeepsTheBook (first_values t.header)) (sym h.journal) k.book;
    held = subst HoldsEach (sym h.journal) k.held;
    outcome = subst ShowsOneOutcome (sym h.journal) k.outcome;
    clean = subst (λ ls. CleanFrom t.header (marks_of t) ls disks) (sym h.journal) (k.clean disks are);
    in_time =
        subst (λ (p : ℕ × List Line). DisksAreInTimeFrom t.header (marks_of t) p.0 p.1 disks) (λ i. (sym h.event i, sym h.journal i)) (k.in_time disks are);
    rest = at_rest;
  }
    where
      k : KeepsThePromise t.header (run_of_task t h.formed h.moves)
      k = runs_keep t.header (run_of_task t h.formed h.moves) h.form

      disks : Disks
      disks = readings_of d read now.disks

      are : DisksAre (see [] (world_by t.header (run_of_task t h.formed h.moves))) disks
      are = h.readings read says

      at_rest : over ≡ false → EndsIdle t.events now.journal → HoldAllStates t.header (marks_of t) now.journal disks
      at_rest going ends = by ends.last ends.outside ends.line
        where
          l : (front : List Move) × (m : Move) × (h.moves ≡ front ++ m ∷ []) × (event_of m ≡ event.Quiesce)
          l = split_last h.moves ends.before event.Quiesce (h.are ∙ ends.are)

          quiet : Line
          quiet = record { event = ends.number; body = body.Quiet true }

          by : (last : List Line) → IsLast last → now.journal ≡ ends.front ++ quiet ∷ last →
              HoldAllStates t.header (marks_of t) now.journal disks
          by [] out line =
              let run = run_of_task t h.formed h.moves in
              let rest : EndsAtRest t.header run = quiet_end t.header run (run_of_task t h.formed l.0) h.form (record {
                last = l.1;
                are = ap (run_of_task t h.formed) l.2;
                quiesces = l.3;
                unlimited = h.is_over ∙ going;
                front = ends.front;
                number = ends.number;
                line = sym h.journal ∙ line;
              }) in
              subst (λ ls. HoldAllStates t.header (marks_of t) ls disks) (sym h.journal) (rest.last disks are)
          by (k ∷ []) out line =
              let s = ends_said t.header t.start h.moves l.0 l.1 l.2 l.3 (h.is_over ∙ going) in
              let same : k ≡ s.1 =
              (one_behind (ends.front ++ quiet ∷ []) s.0 k s.1 (sym (line ∙ two_behind ends.front quiet k) ∙ h.journal ∙ s.2)).1 in
              let never : true ≡ false = sym out ∙ ap (λ (z : Line). ends_run z.body) same ∙ s.3 in
              absurd (cc never)
          by (k ∷ m ∷ ks) out line = absurd out

  pub runs_show : RunsShow c d read
  runs_show t over now form r = moved_shows t over now (nodes_move c d t over now form r)

  script_shows : (first rack : List D) (lines : List (List ℕ)) (place : Place) (at : loop.Hand (AllNodes C))
      (s : Stage (all_nodes c d) first rack lines place at) (nodes : AllNodes C)
      → at.machine ≡ Some nodes → ShowsThePromise d read (task first s.header (events_of s.forms)) nodes.over at.journal rack
  script_shows first rack lines place at s nodes is =
      moved_shows (task first s.header (events_of s.forms)) nodes.over (hand nodes.world rack at.journal)
      (scripts_move c d first rack lines place at s nodes is)

-- ---- what a run leaves

-- the line of an end
last_is : {D M : Type 0} (m : Ghosts M D) (end : End) (count event : ℕ) → IsLast (last_lines (last_body end count) event)
last_is m ending.Whole count event = tt
last_is m (ending.Bad w) count event = refl
last_is m ending.Fault count event = tt
last_is m ending.Write count event = tt
last_is m ending.Memory count event = tt
last_is m ending.Lines count event = refl
last_is m ending.Labels count event = refl
last_is m ending.Frames count event = tt
last_is m ending.Format count event = tt

module _ {C D : Type 0} (c : core.Ghosts C) (d : disk.Ghosts D) (given : Arrived) (first after : List D) (end : End) (journal : List Line)
    (e : EndsSo (all_nodes c d) given first after end journal) where
  abbrev at : loop.Hand (AllNodes C)
  at = e.at

  abbrev stage : Stage (all_nodes c d) first e.mid (let r = e.reached in r.done) (let r = e.reached in r.place) at
  stage = let r = e.reached in r.stage

  abbrev last : List Line
  last = last_lines (last_body end at.count) (events_run (all_nodes c d) at.machine)

  bare : (o : Option (AllNodes C)) → o ≡ None →
      MachineRuns (all_nodes c d) first e.mid stage.forms (let r = e.reached in r.place) stage.header at.journal o → at.journal ≡ []
  bare None is runs = runs.4
  bare (Some nodes) is runs = absurd (cc is)

  none_move : at.machine ≡ None → IsLast journal
  none_move is = subst IsLast (sym (e.journal_is ∙ ap (λ ls. ls ++ last) (bare at.machine is stage.machine_is)))
      (last_is (all_nodes c d) end at.count (events_run (all_nodes c d) at.machine))

  same : (nodes : AllNodes C) → at.machine ≡ Some nodes → after ≡ e.mid
  same nodes is = ⊎_elim
      (λ format.
      let r = e.reached in
      let why = subst (λ x. Why (all_nodes c d) x (let s = script_of given in s.stopped) r.rest r.place e.mid at stage.header) format.0
      r.why in
      let never : Some nodes ≡ None = sym is ∙ why.5 in
      absurd (cc never))
      (λ other. other.1) e.racks

  behind : EndsBehind at.journal journal
  behind = (last, last_is (all_nodes c d) end at.count (events_run (all_nodes c d) at.machine), e.journal_is)

  ends_move : (nodes : AllNodes C) → at.machine ≡ Some nodes → HasMoved c d (task first stage.header (events_of stage.forms)) nodes.over
      (hand nodes.world after at.journal) × EndsBehind at.journal journal
  ends_move nodes is = (
    subst (λ rack. HasMoved c d (task first stage.header (events_of stage.forms)) nodes.over (hand nodes.world rack at.journal))
        (sym (same nodes is)) (scripts_move c d first e.mid (let r = e.reached in r.done) (let r = e.reached in r.place) at stage nodes is),
    behind,
  )

  ends_show : (read : Reads) → SaysReadings c read → (nodes : AllNodes C) → at.machine ≡ Some nodes →
      ShowsThePromise d read (task first stage.header (events_of stage.forms)) nodes.over journal after
  ends_show read says nodes is =
      promises_stay d read (task first stage.header (events_of stage.forms)) nodes.over at.journal journal after behind
      (subst (ShowsThePromise d read (task first stage.header (events_of stage.forms)) nodes.over at.journal) (sym (same nodes is))
      (script_shows c d read says first e.mid (let r = e.reached in r.done) (let r = e.reached in r.place) at stage nodes is))

pub closes_move : {C D : Type 0} (c : core.Ghosts C) (d : disk.Ghosts D) → ClosesMove c d
closes_move c d before after answer closes = (
  none_move c d closes.given before.rack after.rack closes.end answer.journal closes.ends,
  ends_move c d closes.given before.rack after.rack closes.end answer.journal closes.ends,
)

pub closes_show : {C D : Type 0} (c : core.Ghosts C) (d : disk.Ghosts D) (read : Reads) → SaysReadings c read → ClosesShow c d read
closes_show c d read says before after answer closes =
    ends_show c d closes.given before.rack after.rack closes.end answer.journal closes.ends read says

pub stops_show : {C D : Type 0} (c : core.Ghosts C) (d : disk.Ghosts D) (read : Reads) → SaysReadings c read → StopsShow c d read
stops_show {C} {D} c d read says before after status stop = by stop.run
  where
    by : (run : Came c d stop.given before.rack after.rack status stop.journal) →
        SoFarShows c d read stop.given before.rack after.rack status stop.journal run
    by (inl (now, half, is, went)) = λ nodes there.
        subst (λ ls. ShowsThePromise d read (task before.rack half.stage.header (events_of half.stage.forms)) nodes.over ls half.mid)
        (sym is)
        (script_shows c d read says before.rack half.mid half.done half.place now half.stage nodes there)
    by (inr (four, (end, ends))) = ends_show c d stop.given before.rack after.rack end stop.journal ends read says
