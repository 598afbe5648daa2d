use Rattle.std.proofs.Common.{◌∙◌, ◌≤◌, length, subst}
use Rattle.arj_class.specs.Forms.{NumbersFit}
use Rattle.arj_class.proofs.Payloads.{numbers_fit_append}
use Rattle.arj_class.proofs.queue.Queue.in_form.Goals as goal

-- the two parts of the ring are the queue
pub returns : goal.returns
returns c = (
  subst (λ ns. length ns ≤ 32) c.self.view_is c.self.invariant,
  subst NumbersFit (c.as_slices.ensures.items ∙ c.self.view_is) (numbers_fit_append _ _ c.numbers_fit.ensures c.numbers_fit-2.ensures),
)
