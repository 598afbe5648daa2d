-- In every run that a schedule of programs gives, the calls that count are those that survive.
use Rattle.std.proofs.Common.{◌≡◌, ◌∙◌, ◌<◌, ◌≤◌, ◌+◌, List, [], ◌∷◌, length, refl, sym, subst, arith}
use Rattle.std.specs.Prelude.{◌^◌}
use Rattle.std.specs.List.{AllByRecursion}
use Rattle.arj_journal.specs.declared.body.Line.{Line}
use Rattle.arj_journal.specs.declared.header.Header.{Header}
use Rattle.arj_law_cause.specs.told.Runs.{JournalsTell}
use Rattle.arj_law_programs.proofs.Along.{EndsQuiet, TraceHas, ends_quiet, run_has}
use Rattle.arj_law_programs.proofs.Counting.{Done, all_calls, all_those}
use Rattle.arj_law_programs.proofs.Fitting.{trace_fits, trace_lines}
use Rattle.arj_law_programs.proofs.Later.{Stand}
use Rattle.arj_law_programs.proofs.Order.{all_run_alone}
use Rattle.arj_law_programs.proofs.Turns.{schedule_reaches}
use Rattle.arj_law_programs.specs.Laws.{CallsSurvive, HasPrograms, IsRunOf, ProgramsRunAlone}
use Rattle.arj_law_runs.specs.follow.Frames.{run_events}
use Rattle.arj_model.specs.Follows.{Runs, Step}
use Rattle.arj_model.specs.Past.{at_start}
use Rattle.arj_model.specs.Refusals.{asks_by}
use Rattle.arj_prog.specs.declared.plan.Plan.{Plan}
use Rattle.arj_prog.specs.declared.plan.Program.{Program}
use Rattle.arj_progrun.specs.Alone.{MeansItsCalls}
use Rattle.arj_progrun.specs.Client.{Client}
use Rattle.arj_progrun.specs.Schedule.{Given, Schedule, Standing}
use Rattle.arj_progrun.specs.declared.phase.Phase.TheVariants as phase
use Rattle.arj_promise.specs.Runs.{Move, from_format, journal_by}
use Rattle.arj_start.specs.Start.{fresh}

-- whatever the nodes answer, committed programs mean their calls
abbrev pub ProgramsMean : Type 0
ProgramsMean = (plan : Plan) (trace : List Given) (end : Standing) → Schedule plan trace end → AllByRecursion MeansItsCalls end.clients

some_program : (ps : List Program) → 0 < length ps → (p : Program) × (rest : List Program) × (ps ≡ p ∷ rest)
some_program [] low = absurd (omega (arith, low))
some_program (p ∷ ps) low = (p, ps, refl)

-- What a run of a schedule has reached at its end: what stands of its journal, and of each program that has committed.
pub record Ended (lines : List Line) (end : Standing) : Type 0 where
  pub stand : Stand lines
  pub done : AllByRecursion (λ (c : Client). c.phase ≡ phase.Committed → Done lines c) end.clients

run_ends : JournalsTell → (hd : Header) (moves : List Move) (plan : Plan) (trace : List Given) (end : Standing) → HasPrograms plan →
    Schedule plan trace end → IsRunOf hd moves trace → Ended (journal_by hd (from_format hd moves)) end
run_ends tells hd moves plan trace end has s run =
    let told = tells hd (from_format hd moves) run.form in
    let follows : Runs (Step hd) fresh (run_events hd (from_format hd moves)) (journal_by hd (from_format hd moves)) =
    told.follows in
    let quiet : EndsQuiet trace = subst EndsQuiet (sym s.whole) (ends_quiet s.front s.lines) in
    let traced : TraceHas (Step hd) (at_start fresh) trace =
    run_has (Step hd) trace (journal_by hd (from_format hd moves))
    (subst (λ es. Runs (Step hd) fresh es (journal_by hd (from_format hd moves)))
    (sym run.events) follows) run.journal run.numbered quiet in
    let fit = trace_fits hd (at_start fresh) trace traced run.numbered in
    let few : 1 + length plan.programs ≤ 2 ^ 64 = let most = has.1 in omega (arith, most) in
    let reached = schedule_reaches plan few (some_program plan.programs has.0) trace end s fit.0 fit.1 in
    let p = fit.0 in
    let same : p.lines ≡ journal_by hd (from_format hd moves) = trace_lines (at_start fresh) trace fit.0 fit.1 ∙ run.journal in
    subst (λ ls. Ended ls end) same
    (record { stand = reached.stand; done = all_calls p.lines (asks_by p.accepted) 1 end.clients reached.stand reached.all })

pub calls_survive : JournalsTell → CallsSurvive
calls_survive tells hd moves plan trace end has s run =
    let e = run_ends tells hd moves plan trace end has s run in all_those (journal_by hd (from_format hd moves)) end.clients e.done

pub programs_run_alone : JournalsTell → ProgramsMean → ProgramsRunAlone
programs_run_alone tells means hd moves plan trace end has s run serial =
    let e = run_ends tells hd moves plan trace end has s run in
    all_run_alone hd (journal_by hd (from_format hd moves)) end.clients (let st = e.stand in st.called) serial
    (means plan trace end s) e.done
