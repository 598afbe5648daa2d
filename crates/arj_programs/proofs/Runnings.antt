-- Plans that are run on a machine.
use Rattle.std.proofs.Common.{◌≡◌, ◌∙◌, ◌<◌, ◌≤◌, ◌+◌, ◌⊎◌, inl, inr, ℕ, zero, suc, List, [], ◌∷◌, ◌++◌, length, refl, sym, ap, subst}
use Rattle.std.proofs.Common.{arith, true, false, Some}
use Rattle.std.specs.List.{AllByRecursion}
use Rattle.std.specs.Prelude.{Err, IsErrOf}
use Rattle.std.proofs.lemmas.List.{length-append}
use Rattle.arj_journal.specs.ScriptForm.{EventInForm, HeaderInForm}
use Rattle.arj_journal.specs.declared.body.Line.{Line}
use Rattle.arj_journal.specs.declared.body.Which.{Which}
use Rattle.arj_journal.specs.declared.body.Which.TheVariants as which
use Rattle.arj_journal.specs.declared.event.Event.{Event}
use Rattle.arj_journal.specs.declared.step.StepFault.TheVariants as step_fault
use Rattle.arj_journal.specs.declared.header.Header.{Header}
use Rattle.arj_loop.specs.declared.machine.Machine.{Ghosts}
use Rattle.arj_prog.specs.declared.limits.TheConstants.{PROGRAMS}
use Rattle.arj_prog.specs.declared.plan.Plan.{Plan}
use Rattle.arj_loop.specs.Limits.{EndsAtFrames}
use Rattle.arj_programs.specs.Runs.{HasEnded, IsRunning, MetLimit, Ran, RanPlan, WasLeft, left, no_labels}
use Rattle.arj_programs.specs.declared.driven.Driven.{Driven}
use Rattle.arj_progrun.specs.Driving.{Drives}
use Rattle.arj_progrun.specs.InForm.{PlanInForm}
use Rattle.arj_progrun.specs.Schedule.{Given, Standing, Turns}
use Rattle.arj_progrun.specs.Stepped.{Stepping, stepping}
use Rattle.arj_progrun.specs.declared.report.ReportLine.{ReportLine}

-- the plan whose header has no objects
abbrev pub bare : Plan → Plan
bare plan = record plan { header = record (plan.header) { objects = [] } }

pub bare_in_form : (plan : Plan) → PlanInForm plan → PlanInForm (bare plan)
bare_in_form plan form =
    let header = form.header in record { header = record { nodes = header.nodes; objects = (tt, refl); held = tt }; programs = form.programs }

-- the schedule goes by the count of nodes alone
turns_of_bare : (plan : Plan) (turns : ℕ) (trace : List Given) (now : Standing) → Turns (bare plan) turns trace now →
    Turns plan turns trace now
turns_of_bare plan zero trace now took = took
turns_of_bare plan (suc t) trace now (before, front, took, going, gives) =
    (before, front, turns_of_bare plan t front before took, going, gives)

pub drives_plan : (plan : Plan) (now : Stepping) (told : List ReportLine) → Drives (bare plan) now told → Drives plan now told
drives_plan plan now told d =
    let s = d.schedule in
    record {
      trace = d.trace;
      end = d.end;
      schedule = record {
        turns = s.turns;
        front = s.front;
        before = s.before;
        took = turns_of_bare plan s.turns s.front s.before s.took;
        few = s.few;
        lines = s.lines;
        whole = s.whole;
        heard = s.heard;
      };
      stepped = d.stepped;
      is_told = d.is_told;
    }

all_more : (xs : List Event) (y : Event) → AllByRecursion EventInForm xs → EventInForm y → AllByRecursion EventInForm (xs ++ y ∷ [])
all_more [] y all one = (one, tt)
all_more (x ∷ xs) y all one = (all.0, all_more xs y all.1 one)

-- an answer tells of one limit
pub same_limit : {A : Type 0} (a b : Which) → IsErrOf {T = A} (Err (step_fault.Limit a)) (step_fault.Limit b) → a ≡ b
same_limit a b is = cc

module _ {D M : Type 0} (m : Ghosts M D) where
  -- what was run so far
  abbrev ran_so_far : (first : List D) (header : Header) (d : Driven M) (rack : List D) → IsRunning m first header d rack →
      Ran m first header d.machine rack
  ran_so_far first header d rack r = record {
    events = d.events;
    lines = d.journal;
    ran = r.ran;
    header_form = r.header_form;
    form = r.form;
    few = r.few;
  }

  -- ---- one event

  -- an event was run
  pub stepped : (first : List D) (header : Header) (old new : Driven M) (before after : List D) (e : Event) → EventInForm e →
      m.steps old.machine < 200000 → m.steps new.machine ≡ m.steps old.machine + 1 → m.over new.machine ≡ false →
      new.events ≡ old.events ++ e ∷ [] →
      (m.ran first header old.events before old.journal old.machine →
      m.ran first header (old.events ++ e ∷ []) after new.journal new.machine) →
      IsRunning m first header old before → IsRunning m first header new after
  stepped first header old new before after e form room steps going events runs r = record {
    ran = subst (λ es. m.ran first header es after new.journal new.machine) (sym events) (runs r.ran);
    going = going;
    header_form = r.header_form;
    form = subst (λ es. AllByRecursion EventInForm es) (sym events) (all_more old.events e r.form form);
    counted = omega (arith, steps, r.counted, ap length events, length-append old.events (e ∷ []));
    few = omega (arith, room, r.counted, ap length events, length-append old.events (e ∷ []));
  }

  -- a frame didn't fit in it
  pub at_frames : (first : List D) (header : Header) (old new : Driven M) (before after : List D) (e : Event) → EventInForm e →
      m.steps old.machine < 200000 → m.over new.machine ≡ true → EndsAtFrames new.journal →
      (m.ran first header old.events before old.journal old.machine →
      m.ran first header (old.events ++ e ∷ []) after new.journal new.machine) →
      IsRunning m first header old before → HasEnded m which.Frames first header new after
  at_frames first header old new before after e form room over last runs r =
      let run : Ran m first header new.machine after = record {
        events = old.events ++ e ∷ [];
        lines = new.journal;
        ran = runs r.ran;
        header_form = r.header_form;
        form = all_more old.events e r.form form;
        few = omega (arith, room, r.counted, length-append old.events (e ∷ []));
      } in
      (run, (over, last, refl))

  -- it would have given one label too many
  pub at_labels : (first : List D) (header : Header) (old new : Driven M) (machine : M) (before after : List D) (lines : List Line)
      (e : Event) → new.machine ≡ machine → m.over machine ≡ false →
      (m.ran first header old.events before old.journal old.machine →
      m.ran first header old.events after lines machine × m.is_full header e after machine) →
      new.journal ≡ lines ++ no_labels (m.steps machine) ∷ [] →
      IsRunning m first header old before → HasEnded m which.Labels first header new after
  at_labels first header old new machine before after lines e is going runs last r =
      let both = runs r.ran in
      let run : Ran m first header new.machine after = record {
        events = old.events;
        lines = lines;
        ran = subst (λ n. m.ran first header old.events after lines n) (sym is) both.0;
        header_form = r.header_form;
        form = r.form;
        few = r.few;
      } in (
        run,
        (
          ap m.over is ∙ going,
          (e, subst (λ n. m.is_full header e after n) (sym is) both.1),
          last ∙ ap (λ n. lines ++ no_labels (m.steps n) ∷ []) (sym is),
        ),
      )

  -- memory was wanting in it
  pub left_in : (first : List D) (header : Header) (old : Driven M) (before after : List D) (e : Event) →
      (m.ran first header old.events before old.journal old.machine → m.moved header (e ∷ []) before after) →
      IsRunning m first header old before → WasLeft m first header after
  left_in first header old before after e moved r =
      record { machine = old.machine; mid = before; run = ran_so_far first header old before r; since = inr (e, moved r.ran) }

  -- or before it
  pub left_before : (first : List D) (header : Header) (old : Driven M) (rack : List D) → IsRunning m first header old rack →
      WasLeft m first header rack
  left_before first header old rack r =
      record { machine = old.machine; mid = rack; run = ran_so_far first header old rack r; since = inl refl }

  -- ---- a plan

  pub runs_first : (first : List D) (header : Header) (d : Driven M) (rack : List D) → d.events ≡ [] → d.journal ≡ [] →
      HeaderInForm header →
      m.steps d.machine ≡ 0 → m.ran first header [] rack [] d.machine → m.over d.machine ≡ false → IsRunning m first header d rack
  runs_first first header d rack events journal form steps ran going = record {
    ran = subst (λ es. m.ran first header es rack d.journal d.machine) (sym events)
        (subst (λ js. m.ran first header [] rack js d.machine) (sym journal) ran);
    going = going;
    header_form = form;
    form = subst (λ es. AllByRecursion EventInForm es) (sym events) tt;
    counted = steps ∙ sym (ap length events);
    few = omega (arith, ap length events);
  }

  pub ran_plan : (plan : Plan) (first : List D) (d : Driven M) (rack : List D) (told : List ReportLine) → 0 < length plan.programs →
      length plan.programs ≤ PROGRAMS →
      IsRunning m first plan.header d rack → Drives (bare plan) (stepping d.events d.journal (m.steps d.machine)) told →
      RanPlan m plan first (left rack d.journal (Some d.machine)) told
  ran_plan plan first d rack told some few running drives = record {
    some = some;
    few = few;
    machine = d.machine;
    machine_is = refl;
    run = ran_so_far first plan.header d rack running;
    journal = refl;
    going = running.going;
    drives = drives_plan plan (stepping d.events d.journal (m.steps d.machine)) told drives;
  }

  pub met_limit : (w : Which) (header : Header) (first : List D) (d : Driven M) (rack : List D) → HasEnded m w first header d rack →
      MetLimit m header first (left rack d.journal (Some d.machine))
  met_limit w header first d rack ended =
      record { machine = d.machine; machine_is = refl; run = ended.0; which = w; ends = ended.1 }

  pub left_so : (first : List D) (header : Header) (d : Driven M) (rack : List D) →
      IsRunning m first header d rack ⊎ WasLeft m first header rack → WasLeft m first header rack
  left_so first header d rack (inl running) = left_before first header d rack running
  left_so first header d rack (inr was) = was
