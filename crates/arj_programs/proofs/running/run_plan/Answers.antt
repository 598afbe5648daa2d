-- a plan on a machine that was just made
use Rattle.std.proofs.Common.{◌≡◌, ◌∙◌, Err, ap, inr, subst, sym, []}
use Rattle.arj_journal.specs.declared.step.StepFault.TheVariants as step_fault
use Rattle.arj_programs.proofs.Runnings.{left_so, met_limit, ran_plan, runs_first}
use Rattle.arj_programs.specs.Runs.{IsRunning}
use Rattle.arj_progrun.specs.Driving.{Drives}
use Rattle.arj_progrun.specs.Stepped.{stepping}
use Rattle.arj_programs.proofs.running.run_plan.Goals as goal

pub returns-in-Ok-told-clause-told : goal.returns-in-Ok-told-clause-told
returns-in-Ok-told-clause-told g c =
    let form = (let fit = c.requires.fit in fit.form) in
    let made = c.in-Ok.ensures.made in
    let nothing = c.new-driven.ensures.nothing in
    let header = c.take_header-header.ensures.header in
    let d = c.drive_on-told.new.nodes in
    let first : IsRunning g.M.Machine c.args.rack.now c.args.plan.header c.new-driven.result c.format.new.rack =
    runs_first g.M.Machine c.args.rack.now c.args.plan.header c.new-driven.result c.format.new.rack nothing.1 nothing.0 form.header
    (ap g.M.Machine.steps c.new-driven.ensures.machine ∙ made.1)
    (subst (λ n. g.M.Machine.ran c.args.rack.now c.args.plan.header [] c.format.new.rack [] n) (sym c.new-driven.ensures.machine)
    (subst (λ h. g.M.Machine.ran c.args.rack.now h [] c.format.new.rack [] c.in-Ok.made) header made.0))
    (ap g.M.Machine.over c.new-driven.ensures.machine ∙ made.2) in
    ran_plan g.M.Machine c.args.plan c.args.rack.now d c.drive_on-told.new.on c.in-Ok-told.report
    (let fit = c.requires.fit in fit.some) (let fit = c.requires.fit in fit.few) (c.in-Ok-told.ensures.stands c.args.rack.now c.args.plan.header first)
    (subst (λ p. Drives p (stepping d.events d.journal
    (g.M.Machine.steps d.machine)) c.in-Ok-told.report) c.take_header-header.ensures.left c.in-Ok-told.ensures.drives)

pub returns-in-Err-Limit-clause-limit : goal.returns-in-Err-Limit-clause-limit
returns-in-Err-Limit-clause-limit g c _ =
    let form = (let fit = c.requires.fit in fit.form) in
    let made = c.in-Ok.ensures.made in
    let nothing = c.new-driven.ensures.nothing in
    let header = c.take_header-header.ensures.header in
    let first : IsRunning g.M.Machine c.args.rack.now c.args.plan.header c.new-driven.result c.format.new.rack =
    runs_first g.M.Machine c.args.rack.now c.args.plan.header c.new-driven.result c.format.new.rack nothing.1 nothing.0 form.header
    (ap g.M.Machine.steps c.new-driven.ensures.machine ∙ made.1)
    (subst (λ n. g.M.Machine.ran c.args.rack.now c.args.plan.header [] c.format.new.rack [] n) (sym c.new-driven.ensures.machine)
    (subst (λ h. g.M.Machine.ran c.args.rack.now h [] c.format.new.rack [] c.in-Ok.made) header made.0))
    (ap g.M.Machine.over c.new-driven.ensures.machine ∙ made.2) in
    let met : c.in-Err-Limit.field-0 ≡ step_fault.Limit c.in-Err-Limit.field-0-0 = rw c.in-Err-Limit.is at c.in-Err-Limit.field-0-is in
    let is : c.drive_on-told.result ≡ Err c.in-Err-Limit.field-0 = c.in-Err-Limit.is in
    let ended = c.drive_on-told.ensures.limit c.in-Err-Limit.field-0-0 (is ∙ ap Err met) in
    met_limit g.M.Machine c.in-Err-Limit.field-0-0 c.args.plan.header c.args.rack.now c.drive_on-told.new.nodes c.drive_on-told.new.on
    (ended.1 c.args.rack.now c.args.plan.header first)

pub returns-in-Ok-clause-memory : goal.returns-in-Ok-clause-memory
returns-in-Ok-clause-memory g c _ =
    let form = (let fit = c.requires.fit in fit.form) in
    let made = c.in-Ok.ensures.made in
    let nothing = c.new-driven.ensures.nothing in
    let header = c.take_header-header.ensures.header in
    let first : IsRunning g.M.Machine c.args.rack.now c.args.plan.header c.new-driven.result c.format.new.rack =
    runs_first g.M.Machine c.args.rack.now c.args.plan.header c.new-driven.result c.format.new.rack nothing.1 nothing.0 form.header
    (ap g.M.Machine.steps c.new-driven.ensures.machine ∙ made.1)
    (subst (λ n. g.M.Machine.ran c.args.rack.now c.args.plan.header [] c.format.new.rack [] n) (sym c.new-driven.ensures.machine)
    (subst (λ h. g.M.Machine.ran c.args.rack.now h [] c.format.new.rack [] c.in-Ok.made) header made.0))
    (ap g.M.Machine.over c.new-driven.ensures.machine ∙ made.2) in
    let wants : c.in-Err-Memory-told.field-0 ≡ step_fault.Memory = rw c.in-Err-Memory-told.is at c.in-Err-Memory-told.field-0-is in
    let is : c.drive_on-told.result ≡ Err c.in-Err-Memory-told.field-0 = c.in-Err-Memory-told.is in
    inr (inr (left_so g.M.Machine c.args.rack.now c.args.plan.header c.drive_on-told.new.nodes c.drive_on-told.new.on
    (c.drive_on-told.ensures.memory (is ∙ ap Err wants) c.args.rack.now c.args.plan.header first)))
