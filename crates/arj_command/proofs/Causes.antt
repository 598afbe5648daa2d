-- The journal of what was run is that of a run in form with these events: so it says why it is so, and its lines are in form.
use Rattle.std.proofs.Common.{◌≡◌, ◌≤◌, ℕ, Bool, List, [], ◌∷◌, length, map, take, sym, ◌∙◌, ap, subst, arith}
use Rattle.std.proofs.Math.Seq.{take-length}
use Rattle.std.proofs.lemmas.List.{length-map}
use Rattle.std.specs.List.{AllByRecursion}
use Rattle.arj_core.specs.declared.node.Core as core
use Rattle.arj_disk.specs.declared.disk.Disk as disk
use Rattle.arj_journal.specs.ScriptForm.{EventInForm}
use Rattle.arj_journal.specs.declared.body.Line.{Line}
use Rattle.arj_law_cause.specs.form.Form.{AreInForm, RunsAreInForm}
use Rattle.arj_law_cause.specs.told.Runs.{JournalsTell}
use Rattle.arj_law_cause.specs.told.Told.{TellsItsCauses}
use Rattle.arj_law_nodes.specs.nodes.Promised.{IsOfRun, event_of, run_of_task}
use Rattle.arj_law_nodes.specs.nodes.Readings.{Reads}
use Rattle.arj_law_nodes.specs.nodes.Turns.{HasMoved, IsTaskInForm, NodesMove}
use Rattle.arj_law_runs.specs.follow.Frames.{run_events}
use Rattle.arj_nodes.specs.AllNodes.{RanAll, Task}
use Rattle.arj_promise.specs.Runs.{AreMovesInForm, Move, journal_by, most_events}
use Rattle.arj_world.specs.Stands.{Hand}

events_form : (ms : List Move) → AreMovesInForm ms → AllByRecursion EventInForm (map event_of ms)
events_form [] all = tt
events_form (m ∷ ms) all = (all.0, events_form ms all.1)

module _ {D : Type 0} (d : disk.Ghosts D) (read : Reads) (t : Task D) where
  -- what is shown of a run has its header, its events and their number in form
  task_form : (journal : List Line) (rack : List D) → IsOfRun d read t journal rack → IsTaskInForm t
  task_form journal rack r = record {
    header = r.form.header;
    held = r.form.held;
    formed = r.formed;
    events = subst (AllByRecursion EventInForm) r.are (events_form r.moves r.form.events);
    few = few (length t.events) (length (map event_of r.moves)) (length r.moves) (sym (ap length r.are)) (length-map r.moves event_of) r.form.few;
  }
    where
      few : (a b c : ℕ) → a ≡ b → b ≡ c → c ≤ most_events → a ≤ most_events
      few a b c x y le = omega (arith, x, y, le)

-- The laws by which it is so: what nodes run is a run in form; the journal of each says why it is so, and has lines in form.
pub record Laws {C D : Type 0} (c : core.Ghosts C) (d : disk.Ghosts D) : Type 0 where
  pub moves : NodesMove c d
  pub tells : JournalsTell
  pub forms : RunsAreInForm

-- the laws, of these
pub laws_by : {C D : Type 0} {c : core.Ghosts C} {d : disk.Ghosts D} → NodesMove c d → JournalsTell → RunsAreInForm → Laws c d
laws_by moves tells forms = record { moves = moves; tells = tells; forms = forms }

module _ {C D : Type 0} (c : core.Ghosts C) (d : disk.Ghosts D) (laws : Laws c d) (t : Task D) where
  -- all of its events were run
  all_run : (over : Bool) (now : Hand C D) (h : HasMoved c d t over now) → run_events t.header (run_of_task t h.formed h.moves) ≡ t.events
  all_run over now h =
      (λ i. take (sym h.event i) (h.are i)) ∙ take-length t.events

  module _ (read : Reads) (over : Bool) (now : Hand C D) (journal : List Line) (rack : List D) (ran : RanAll c d t over now)
      (r : IsOfRun d read t journal rack) where
    moved : HasMoved c d t over now
    moved = laws.moves t over now (task_form d read t journal rack r) ran

    pub causes_of : TellsItsCauses t.header t.start t.events now.journal
    causes_of =
        let h = moved in
        subst (λ ls. TellsItsCauses t.header t.start t.events ls) (sym h.journal)
        (subst (λ es. TellsItsCauses t.header t.start es (journal_by t.header (run_of_task t h.formed h.moves))) (all_run over now h)
        (laws.tells t.header (run_of_task t h.formed h.moves) h.form))

    pub forms_of : AreInForm now.journal
    forms_of =
        let h = moved in subst AreInForm (sym h.journal) (laws.forms t.header (run_of_task t h.formed h.moves) h.form)
