-- What a run of client programs shows.
use Rattle.std.proofs.Common.{◌≡◌, ℕ, ◌≤◌, List, [], ◌∷◌, length, refl, sym, ◌∙◌, ap, subst, arith, Option}
use Rattle.std.specs.List.{AllByRecursion}
use Rattle.std.specs.Prelude.{String, get_or, take}
use Rattle.std.proofs.Math.Seq.{take-length}
use Rattle.std.specs.declared.alloc.Global.{Global}
use Rattle.arj_command.proofs.Causes.{Laws}
use Rattle.arj_command.proofs.Shows.{behind_none, facts_of}
use Rattle.arj_command.specs.Command.{IsAudit, IsCheck, IsProgram, IsReplay, NamesBank}
use Rattle.arj_command.specs.Facts.{Facts, behind}
use Rattle.arj_command.specs.Outcome.{Said, around, world_of}
use Rattle.arj_command.specs.Programs.{ProgramsHeadline}
use Rattle.arj_core.specs.declared.node.Core as core
use Rattle.arj_disk.specs.declared.disk.Disk as disk
use Rattle.arj_journal.specs.declared.body.Line.{Line}
use Rattle.arj_journal.specs.declared.body.Which.{Which}
use Rattle.arj_journal.specs.declared.body.Which.TheVariants as which
use Rattle.arj_journal.specs.declared.header.Header.{Header}
use Rattle.arj_law_nodes.proofs.nodes.Ending.{promises_stay}
use Rattle.arj_law_nodes.specs.nodes.Last.{EndsBehind}
use Rattle.arj_law_nodes.specs.nodes.Readings.{Reads}
use Rattle.arj_law_nodes.specs.nodes.Turns.{RunsShow}
use Rattle.arj_law_programs.specs.Alone.{RunsAsAlone}
use Rattle.arj_law_programs.specs.Counts.{CallsAreThose}
use Rattle.arj_law_programs.specs.Laws.{CallsSurvive, IsRunOf, ProgramsRunAlone}
use Rattle.arj_loop.specs.Replayed.{Outside, answer}
use Rattle.arj_model.specs.Last.{first_values}
use Rattle.arj_model.specs.Serial.{Serial}
use Rattle.arj_nodes.specs.AllNodes.{task}
use Rattle.arj_nodes.specs.AsMachine.{all_nodes}
use Rattle.arj_nodes.specs.declared.all_nodes.AllNodes.{AllNodes}
use Rattle.arj_prog.specs.declared.plan.Plan.{Plan}
use Rattle.arj_programs.specs.Outcome.{RunsPrograms}
use Rattle.arj_programs.specs.Runs.{EndsBy, Left, Ran, RanPlan, left, no_labels}
use Rattle.arj_progrun.specs.Alone.{MeansItsCalls}
use Rattle.arj_progrun.specs.Schedule.{Given, Schedule, Standing}
use Rattle.arj_progrun.specs.declared.report.ReportLine.{ReportLine}
use Rattle.arj_promise.specs.Runs.{Move, from_format, journal_by}
use Rattle.arj_law_nodes.proofs.nodes.Turning.{at_format, task_form}
use Rattle.arj_world.specs.Stands.{hand}

-- ---- words

-- `program` is one word, and another than the other two
pub not_program_bank : (words : List (String Global)) (text : List ℕ) → NamesBank words text → IsProgram words → ⊥
not_program_bank [] text names is = names
not_program_bank (word ∷ []) text names is = names
not_program_bank (word ∷ number ∷ []) text names is = is
not_program_bank (word ∷ number ∷ more ∷ words) text names is = names

pub not_program_replay : (words : List (String Global)) → IsReplay words → IsProgram words → ⊥
not_program_replay [] replay program = replay
not_program_replay (word ∷ []) replay program = omega (arith, ap (λ bs. get_or bs 0 0) (sym replay ∙ program))
not_program_replay (word ∷ more ∷ words) replay program = replay

pub not_program_check : (words : List (String Global)) → IsCheck words → IsProgram words → ⊥
not_program_check [] check program = check
not_program_check (word ∷ []) check program = omega (arith, ap (λ bs. get_or bs 0 0) (sym check ∙ program))
not_program_check (word ∷ more ∷ words) check program = check

-- `audit` is one word, and another than the other three
pub not_audit_bank : (words : List (String Global)) (text : List ℕ) → NamesBank words text → IsAudit words → ⊥
not_audit_bank [] text names is = names
not_audit_bank (word ∷ []) text names is = names
not_audit_bank (word ∷ number ∷ []) text names is = is
not_audit_bank (word ∷ number ∷ more ∷ words) text names is = names

pub not_audit_replay : (words : List (String Global)) → IsReplay words → IsAudit words → ⊥
not_audit_replay [] replay audit = replay
not_audit_replay (word ∷ []) replay audit = omega (arith, ap (λ bs. get_or bs 0 0) (sym replay ∙ audit))
not_audit_replay (word ∷ more ∷ words) replay audit = replay

pub not_audit_check : (words : List (String Global)) → IsCheck words → IsAudit words → ⊥
not_audit_check [] check audit = check
not_audit_check (word ∷ []) check audit = omega (arith, ap (λ bs. get_or bs 0 0) (sym check ∙ audit))
not_audit_check (word ∷ more ∷ words) check audit = check

pub not_audit_program : (words : List (String Global)) → IsProgram words → IsAudit words → ⊥
not_audit_program [] program audit = program
not_audit_program (word ∷ []) program audit = omega (arith, ap (λ bs. get_or bs 0 0) (sym program ∙ audit))
not_audit_program (word ∷ more ∷ words) program audit = program

-- ---- what is shown

-- whatever the nodes answer, the calls of committed programs are those that their statements make alone
abbrev pub ProgramsMeanTheirCalls : Type 0
ProgramsMeanTheirCalls = (plan : Plan) (trace : List Given) (end : Standing) → Schedule plan trace end →
    AllByRecursion MeansItsCalls end.clients

module _ {C D : Type 0} (c : core.Ghosts C) (d : disk.Ghosts D) (read : Reads) (laws : Laws c d) where
  -- what was run shows what is promised
  ran_facts : RunsShow c d read → (first : List D) (header : Header) (nodes : AllNodes C) (rack : List D)
      (r : Ran (all_nodes c d) first header nodes rack) (journal : List Line) → EndsBehind r.lines journal →
      Facts c d read (task first header r.events) (behind nodes rack journal)
  ran_facts show first header nodes rack r journal last =
      let few : length r.events ≤ 1000000 = omega (arith, r.few) in
      let t = task first header r.events in
      facts_of c d read laws t nodes rack r.lines journal last r.ran
      (promises_stay d read t nodes.over r.lines journal rack last
      (show t nodes.over (hand nodes.world rack r.lines) (task_form first header r.events r.header_form r.form few) r.ran))

  -- What was run of a plan, as a run of the protocol: its journal, and its trace.
  record IsPlanRun (plan : Plan) (trace : List Given) (journal : List Line) : Type 0 where
    pub moves : List Move
    pub run : IsRunOf plan.header moves trace
    pub journal_is : journal ≡ journal_by plan.header (from_format plan.header moves)

  plan_run : (plan : Plan) (first : List D) (now : Left D (AllNodes C)) (told : List ReportLine) (r : RanPlan (all_nodes c d) plan first now told) →
      IsPlanRun plan (let s = r.drives in s.trace) now.journal
  plan_run plan first now told r =
      let q = r.run in
      let s = r.drives in
      let h = s.stepped in
      let few : length q.events ≤ 1000000 = let most = q.few in omega (arith, most) in
      let moved = laws.moves (task first plan.header q.events) (let n = r.machine in n.over) (hand (let n = r.machine in n.world) now.rack q.lines)
      (task_form first plan.header q.events q.header_form q.form few) q.ran in
      record {
        moves = moved.moves;
        run = record {
          form = at_format plan.header moved.formed moved.moves moved.form;
          events = sym h.events ∙ sym (take-length q.events) ∙ (λ i. take (moved.event i) (sym moved.are i));
          journal = sym h.journal ∙ moved.journal;
          numbered = h.numbered;
        };
        journal_is = r.journal ∙ moved.journal;
      }

  -- the calls that count of programs that committed are the surviving calls of their tops
  calls_survive : CallsSurvive → (plan : Plan) (first : List D) (now : Left D (AllNodes C)) (told : List ReportLine)
      (r : RanPlan (all_nodes c d) plan first now told) →
      AllByRecursion (CallsAreThose now.journal) (let s = r.drives in let e = s.end in e.clients)
  calls_survive survive plan first now told r =
      let s = r.drives in
      let p = plan_run plan first now told r in
      subst (λ ls. AllByRecursion (CallsAreThose ls) (let e = s.end in e.clients)) (sym p.journal_is)
      (survive plan.header p.moves plan s.trace s.end (r.some, r.few) s.schedule p.run)

  -- and they did what they do alone
  run_alone : ProgramsRunAlone → (plan : Plan) (first : List D) (now : Left D (AllNodes C)) (told : List ReportLine)
      (r : RanPlan (all_nodes c d) plan first now told) → Serial (first_values plan.header) now.journal →
      AllByRecursion (RunsAsAlone plan.header now.journal) (let s = r.drives in let e = s.end in e.clients)
  run_alone alone plan first now told r serial =
      let s = r.drives in
      let p = plan_run plan first now told r in
      subst (λ ls. AllByRecursion (RunsAsAlone plan.header ls) (let e = s.end in e.clients)) (sym p.journal_is)
      (alone plan.header p.moves plan s.trace s.end (r.some, r.few) s.schedule p.run
      (subst (Serial (first_values plan.header)) p.journal_is serial))

  -- what stands behind the lines of events at a limit
  ends_behind : (w : Which) (header : Header) (nodes : AllNodes C) (rack : List D) (lines journal : List Line) →
      EndsBy (all_nodes c d) w header nodes rack lines journal → EndsBehind lines journal
  ends_behind which.Frames header nodes rack lines journal (over, last, is) =
      subst (λ ls. EndsBehind lines ls) (sym is) (behind_none c d lines)
  ends_behind which.Labels header nodes rack lines journal (going, full, is) = (no_labels _ ∷ [], refl, is)
  ends_behind which.Lines header nodes rack lines journal never = absurd never

  pub programs_headline : RunsShow c d read → ProgramsMeanTheirCalls → CallsSurvive → ProgramsRunAlone →
      (before after : Outside D) (says : Said C) (nodes : Option (AllNodes C)) →
      RunsPrograms (all_nodes c d) before after (answer says.status says.why says.journal nodes) → says.world ≡ world_of nodes →
      ProgramsHeadline c d read (around before after) says
  programs_headline show mean survive alone before after says nodes run world = record {
    nodes = nodes;
    run = run;
    world_is = world;
    whole = λ plan told r.
        let facts = ran_facts show before.rack plan.header r.machine after.rack r.run says.journal
        (subst (λ ls. EndsBehind (let q = r.run in q.lines) ls) (sym r.journal) (behind_none c d (let q = r.run in q.lines))) in
        record {
          facts = facts;
          alone = let s = r.drives in mean plan s.trace s.end s.schedule;
          survive = calls_survive survive plan before.rack (left after.rack says.journal nodes) told r;
          each = run_alone alone plan before.rack (left after.rack says.journal nodes) told r (let p = facts.promise in let s = p.serial in s.0);
        };
    limited = λ header r. ran_facts show before.rack header r.machine after.rack r.run says.journal
        (ends_behind r.which header r.machine after.rack (let q = r.run in q.lines) says.journal r.ends);
    short = λ header r. ran_facts show before.rack header r.machine r.mid r.run (let q = r.run in q.lines)
        (behind_none c d (let q = r.run in q.lines));
  }
