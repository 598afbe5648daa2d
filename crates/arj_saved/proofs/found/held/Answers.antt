use Rattle.std.proofs.Common.{◌∙◌, ap}
use Rattle.arj_saved.specs.Saved.{held_among}
use Rattle.arj_saved.proofs.found.held.Goals as goal

pub returns-clause-shown : goal.returns-clause-shown
returns-clause-shown c = λ files kept. c.last_state.ensures.shown ∙ ap (λ rows. held_among rows c.args.node c.args.role c.args.uid) kept.shown

pub returns-clause-in_form : goal.returns-clause-in_form
returns-clause-in_form c = λ files kept. c.last_state.ensures.in_form kept.in_form
