-- plans that were read
use Rattle.arj_programs.proofs.Fits.{plan_is_fit}
use Rattle.arj_programs.proofs.reading.plans_are_fit.Goals as goal

pub returns : goal.returns
returns c lines plan header p =
    plan_is_fit c.lines_are_kept.ensures.grows c.lines_are_kept.ensures.run c.plans_are_in_form.ensures lines plan header p
