-- the sum and its text
use Rattle.std.proofs.Common.{ap, ◌∙◌}
use Rattle.arj_bank.specs.Summary.{summary_of, summary_text}
use Rattle.arj_bank.proofs.summed.sum_up.Goals as goal

pub returns-in_ok-text-in-Ok-clause-text : goal.returns-in_ok-text-in-Ok-clause-text
returns-in_ok-text-in-Ok-clause-text g c =
    (c.in-Ok.sum, c.in-Ok.ensures.sum, c.in_ok-text-in-Ok.ensures ∙ ap summary_text (c.new.ensures ∙ (λ i. summary_of c.args.events (c.as_slice.ensures i) c.in-Ok.sum)))
