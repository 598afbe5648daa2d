use Rattle.std.proofs.Common.{◌≡◌, ◌∙◌, ap, sym, subst}
use Rattle.arj_bind.specs.Heard.{Heard, heard_in, hears}
use Rattle.arj_protocol.specs.Coord as coord
use Rattle.arj_protocol.specs.Order.{put_number}
use Rattle.arj_root.specs.Kept.{KeptFits, keeping_in}
use Rattle.arj_root.proofs.Kept.{hears_fits}
use Rattle.arj_root.proofs.keepings.Keepings.answered.Goals as goal

pub put-requires : goal.put-requires
put-requires c =
    let was : KeptFits c.take-keeping.result.kept =
    subst (λ (k : coord.Keeping). KeptFits k.kept) (sym c.take-keeping.ensures.keeping) c.take-keeping.ensures.fits in
    subst (λ (k : coord.Keeping). KeptFits k.kept) (sym c.in_ok-step.ensures.keeping)
    (hears_fits c.args.free c.take-keeping.result c.args.steps c.args.from c.args.message.value was c.requires)

pub returns-clause-came : goal.returns-clause-came
returns-clause-came c =
    let heard : coord.Keeping → Heard = λ k. hears c.args.free k c.args.steps (heard_in c.args.from c.args.message.value c.args.steps) in
    c.in_ok-step.ensures.came ∙ ap (λ k. (heard k).came) (c.take-keeping.ensures.keeping ∙ ap (λ x. keeping_in x c.args.self.now) c.object-x.ensures)

pub returns-clause-keeping : goal.returns-clause-keeping
returns-clause-keeping c =
    let heard : coord.Keeping → Heard = λ k. hears c.args.free k c.args.steps (heard_in c.args.from c.args.message.value c.args.steps) in
    let is : c.answered.new.keeping ≡ (heard (keeping_in c.args.steps.x c.args.self.now)).keeping =
    c.in_ok-step.ensures.keeping ∙ ap (λ k. (heard k).keeping) (c.take-keeping.ensures.keeping ∙ ap (λ x. keeping_in x c.args.self.now) c.object-x.ensures) in
    c.in_ok-put.ensures ∙ c.take-keeping.ensures.put c.answered.new.keeping ∙ (λ i. put_number (c.object-x.ensures i) (is i) c.args.self.now)
