-- What a run of a script shows.
use Rattle.std.proofs.Common.{◌≡◌, inl, inr, ℕ, true, filter, List, [], ◌∷◌, ◌++◌, Option, Some, None, refl, sym, ◌∙◌, ap, subst, arith}
use Rattle.std.proofs.Math.Logic.{⊎_elim}
use Rattle.std.proofs.lemmas.List.{append-nil}
use Rattle.arj_command.proofs.Causes.{Laws, causes_of, forms_of}
use Rattle.arj_command.specs.Facts.{Facts, behind}
use Rattle.arj_command.specs.Outcome.{CameShows, Headline, Said, Shown, around, world_of}
use Rattle.arj_core.specs.declared.node.Core as core
use Rattle.arj_disk.specs.declared.disk.Disk as disk
use Rattle.arj_law_parts.specs.steps.Halts.{armed_node, halted_node}
use Rattle.arj_journal.specs.declared.body.Line.{Line}
use Rattle.arj_protocol.specs.Words.{Body}
use Rattle.arj_protocol.specs.Words.body
use Rattle.arj_protocol.specs.Words.which
use Rattle.arj_world.specs.Tells.{halts}
use Rattle.arj_loop.specs.Input.{Arrived, script_of}
use Rattle.arj_loop.specs.Replayed.{Answer, CameTo, Closes, EndsSo, Outside, StopsShort, answer}
use Rattle.arj_loop.specs.Running.{Hand, MachineRuns, Stage, Why, last_body, last_lines, status_of}
use Rattle.arj_loop.specs.declared.ending.End.{End}
use Rattle.arj_loop.specs.declared.ending.End.TheVariants as ending
use Rattle.arj_base.specs.Count.{Rose}
use Rattle.arj_journal.specs.declared.header.Header.{Header}
use Rattle.arj_loop.specs.declared.machine.Machine.{Ghosts}
use Rattle.arj_nodes.specs.AllNodes.{RanAll, Task, task}
use Rattle.arj_nodes.specs.AsMachine.{all_nodes}
use Rattle.arj_nodes.specs.declared.all_nodes.AllNodes.{AllNodes}
use Rattle.arj_nodes.specs.Told.{ArmsAreTold, HaltsHaveCause, tells_arm}
use Rattle.arj_nodes.proofs.Telling.{arms_behind, arms_told, halts_behind, halts_told}
use Rattle.arj_law_nodes.specs.nodes.Last.{EndsBehind, IsLast, ends_run}
use Rattle.arj_law_nodes.specs.nodes.Promised.{ShowsThePromise}
use Rattle.arj_law_nodes.specs.nodes.Readings.{Reads}
use Rattle.arj_law_nodes.specs.nodes.Turns.{CloseShows, SoFarShows, StopShows}
use Rattle.arj_script.specs.Grammar.{Place}
use Rattle.arj_script.specs.Input.{AtFault, Stopped, events_of}
use Rattle.arj_world.specs.Stands.{hand}

-- an end puts no line but one outside of events
is_last : (end : End) (count event : ℕ) → IsLast (last_lines (last_body end count) event)
is_last ending.Whole count event = tt
is_last (ending.Bad w) count event = refl
is_last ending.Fault count event = tt
is_last ending.Write count event = tt
is_last ending.Memory count event = tt
is_last ending.Lines count event = refl
is_last ending.Labels count event = refl
is_last ending.Frames count event = tt
is_last ending.Format count event = tt

-- such a line tells of no disk
no_halt : (b : Body) → ends_run b ≡ true → halted_node b ≡ None
no_halt (body.Bad n) ends = refl
no_halt (body.Limit which.Lines) ends = refl
no_halt (body.Limit which.Labels) ends = refl
no_halt _ ends = absurd (cc ends)

no_halts : (last : List Line) → IsLast last → (n : ℕ) → halts n last ≡ 0
no_halts [] is n = refl
no_halts (l ∷ []) is n = let none = no_halt l.body is in rw none refl
no_halts (l ∷ m ∷ ls) is n = absurd is

no_arm : (b : Body) → ends_run b ≡ true → armed_node b ≡ None
no_arm (body.Bad n) ends = refl
no_arm (body.Limit which.Lines) ends = refl
no_arm (body.Limit which.Labels) ends = refl
no_arm _ ends = absurd (cc ends)

no_arms : (last : List Line) → IsLast last → filter tells_arm last ≡ []
no_arms [] is = refl
no_arms (l ∷ []) is = let none = no_arm l.body is in rw none refl
no_arms (l ∷ m ∷ ls) is = absurd is

-- a read failed
at_fault : {D M : Type 0} (m : Ghosts M D) (end : End) (stopped : Stopped) (rest : List (List ℕ)) (place : Place) (rack : List D) (at : Hand M) (header : Header) → status_of end ≡ 3 → Why m end stopped rest place rack at header → stopped ≡ AtFault
at_fault m ending.Whole stopped rest place rack at header three why = absurd (omega (arith, three))
at_fault m (ending.Bad w) stopped rest place rack at header three why = absurd (omega (arith, three))
at_fault m ending.Fault stopped rest place rack at header three why = why.0
at_fault m ending.Write stopped rest place rack at header three why = absurd (omega (arith, three))
at_fault m ending.Memory stopped rest place rack at header three why = absurd (omega (arith, three))
at_fault m ending.Lines stopped rest place rack at header three why = absurd (omega (arith, three))
at_fault m ending.Labels stopped rest place rack at header three why = absurd (omega (arith, three))
at_fault m ending.Frames stopped rest place rack at header three why = absurd (omega (arith, three))
at_fault m ending.Format stopped rest place rack at header three why = absurd (omega (arith, three))

pub read_failed : {D M : Type 0} (m : Ghosts M D) (before after : Outside D) (answer : Answer M) → Closes m before after answer →
    answer.status ≡ 3 → Rose before.faults after.faults
read_failed m before after answer closes three =
    let e = closes.ends in
    let r = e.reached in
    closes.reads.at_fault (at_fault m closes.end closes.given.stopped r.rest r.place e.mid e.at (let s =
    r.stage in s.header) (sym closes.status_is ∙ three) r.why)

module _ {C D : Type 0} (c : core.Ghosts C) (d : disk.Ghosts D) where
  -- nothing stands behind the lines of events
  pub behind_none : (lines : List Line) → EndsBehind lines lines
  behind_none lines = ([], tt, sym (append-nil lines))

  -- what a run's end puts behind them
  behind_end : (given : Arrived) (first after : List D) (end : End) (journal : List Line) →
      (e : EndsSo (all_nodes c d) given first after end journal) → EndsBehind (let at = e.at in at.journal) journal
  behind_end given first after end journal e = (_, is_last end (let at = e.at in at.count) _, e.journal_is)

  -- where nodes were formatted, they ran the events
  ran_at : (first mid : List D) (done : List (List ℕ)) (place : Place) (at : Hand (AllNodes C)) (s : Stage (all_nodes c d) first mid done place at) (all : AllNodes C) → at.machine ≡ Some all
      → RanAll c d (task first s.header (events_of s.forms)) all.over (hand all.world mid at.journal)
  ran_at first mid done place at s all is =
      let runs = subst (λ machine. MachineRuns (all_nodes c d) first mid s.forms place s.header at.journal machine) is s.machine_is in runs.2

  -- else there is no line of an event
  bare_at : (first mid : List D) (done : List (List ℕ)) (place : Place) (at : Hand (AllNodes C)) (s : Stage (all_nodes c d) first mid done place at) → at.machine ≡ None → at.journal ≡ []
  bare_at first mid done place at s is =
      let runs = subst (λ machine. MachineRuns (all_nodes c d) first mid s.forms place s.header at.journal machine) is s.machine_is in runs.4

  only_last : (lines journal : List Line) → lines ≡ [] → EndsBehind lines journal → IsLast journal
  only_last lines journal none b = subst IsLast (sym (b.2 ∙ ap (λ ls. ls ++ b.0) none)) b.1

  -- the disks at the end are those of the last event
  end_rack : (given : Arrived) (first after : List D) (end : End) (journal : List Line) (e : EndsSo (all_nodes c d) given first after end journal) (all : AllNodes C) → (let at = e.at in at.machine) ≡ Some all → after ≡ e.mid
  end_rack given first after end journal e all is =
      ⊎_elim (λ stopped. absurd (no_format end stopped.0 (let r = e.reached in r.why))) (λ other. other.1) e.racks
    where
      no_format : (end : End) → end ≡ ending.Format →
          (let r = e.reached in let s = r.stage in let g =
          script_of given in Why (all_nodes c d) end g.stopped r.rest r.place e.mid e.at s.header) → ⊥
      no_format end stopped why =
          let w = subst (λ x. (let r = e.reached in let s = r.stage in let g =
          script_of given in Why (all_nodes c d) x g.stopped r.rest r.place e.mid e.at s.header)) stopped why in
          let never : None ≡ Some all = sym w.5 ∙ is in
          cc never

  module _ (read : Reads) (laws : Laws c d) where
    pub facts_of : (t : Task D) (all : AllNodes C) (rack : List D) (lines journal : List Line) → EndsBehind lines journal →
        RanAll c d t all.over (hand all.world rack lines) → ShowsThePromise d read t all.over journal rack
        → Facts c d read t (behind all rack journal)
    facts_of t all rack lines journal last ran promise = record {
      lines = lines;
      last = last;
      ran = ran;
      promise = promise;
      causes = causes_of c d laws t read all.over (hand all.world rack lines) journal rack ran promise.run;
      form = forms_of c d laws t read all.over (hand all.world rack lines) journal rack ran promise.run;
      halts = subst (λ ls. HaltsHaveCause d t ls rack) (sym last.2) (halts_behind d t lines last.0 rack (no_halts last.0 last.1) (halts_told c d t all.over (hand all.world rack lines) ran));
      armed = subst (λ ls. ArmsAreTold (let h = t.header in h.nodes) t.events ls) (sym last.2)
          (arms_behind (let h =
          t.header in h.nodes) t.events lines last.0 (no_arms last.0 last.1) (arms_told c d t all.over (hand all.world rack lines) ran));
    }

    -- ---- a run that came to its end

    pub ended : (given : Arrived) (first after : List D) (end : End) (journal : List Line) (e : EndsSo (all_nodes c d) given first after end journal) (all : AllNodes C) → (let at = e.at in at.machine) ≡ Some all
        → (let r = e.reached in let s = r.stage in ShowsThePromise d read (task first s.header (events_of s.forms)) all.over journal after)
        → (let r = e.reached in let s = r.stage in Facts c d read (task first s.header (events_of s.forms)) (behind all after journal))
    ended given first after end journal e all is promise =
        let r = e.reached in
        let s = r.stage in
        facts_of (task first s.header (events_of s.forms)) all after (let at =
        e.at in at.journal) journal (behind_end given first after end journal e)
        (subst (λ rack. RanAll c d (task first s.header (events_of s.forms)) all.over (hand all.world rack (let at =
        e.at in at.journal))) (sym (end_rack given first after end journal e all is)) (ran_at first e.mid r.done r.place e.at s all is))
        promise

    pub headline : (before after : Outside D) (says : Said C) (nodes : Option (AllNodes C)) (run : Closes (all_nodes c d) before after (answer says.status says.why says.journal nodes))
        → CloseShows c d read before after (answer says.status says.why says.journal nodes) run → says.world ≡ world_of nodes →
        Headline c d read (around before after) says
    headline before after says nodes run shows world = record {
      nodes = nodes;
      run = run;
      world_is = world;
      facts = λ all is. let at =
          sym run.machine_is ∙ is in ended run.given before.rack after.rack run.end says.journal run.ends all at (shows all at);
    }

    -- ---- a run that stopped short

    pub came : (given : Arrived) (first after : List D) (status : ℕ) (journal : List Line) (run : CameTo (all_nodes c d) given first after status journal) → SoFarShows c d read given first after status journal run
        → CameShows c d read given first after status journal run
    came given first after status journal (inl (at, half, is, went)) shows = (
      λ none. is ∙ bare_at first half.mid half.done half.place at half.stage none,
      λ all some.
          let s = half.stage in
          facts_of (task first s.header (events_of s.forms)) all half.mid at.journal journal (subst (λ ls. EndsBehind at.journal ls) (sym is) (behind_none at.journal)) (ran_at first half.mid half.done half.place at s all some) (shows all some),
    )
    came given first after status journal (inr (four, (end, e))) shows = (
      λ none.
          let r = e.reached in
          only_last (let at =
          e.at in at.journal) journal (bare_at first e.mid r.done r.place e.at r.stage none) (behind_end given first after end journal e),
      λ all some. ended given first after end journal e all some (shows all some),
    )

    pub shown : (before after : Outside D) (status : ℕ) (run : StopsShort (all_nodes c d) before after status) →
        StopShows c d read before after status run → Shown c d read (around before after) status
    shown before after status run shows =
        record { run = run; facts = came run.given before.rack after.rack status run.journal run.run shows }
