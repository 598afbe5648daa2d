-- a line was taken
use Rattle.std.proofs.Common.{◌≡◌, ◌∙◌, ap, false, sym}
use Rattle.arj_auditing.proofs.Stages.{has_room, taken_more}
use Rattle.arj_auditing.specs.Taking.{is_full_at}
use Rattle.arj_auditing.specs.declared.intake.Intake.{Intake}
use Rattle.arj_image.specs.Grammar.{is_whole}
use Rattle.arj_auditing.proofs.intake.Intake.take_line.Goals as goal

pub returns-in-Ok-clause-took : goal.returns-in-Ok-clause-took
returns-in-Ok-clause-took c done at =
    let taken = c.in-Ok.ensures.taken in
    let free : is_full_at c.args.self.now ≡ false = sym c.is_full.ensures ∙ c.if-is_full.false in
    let kept = c.count.ensures in
    taken_more done c.args.line.now c.args.self.now c.count.new.self c.in-Ok.whole taken.0 at taken.1 (has_room done c.args.self.now at free)
    (ap (λ (t : Intake). t.reader) kept ∙ taken.2) (ap (λ (t : Intake). t.lines) kept) (ap (λ (t : Intake). t.files) kept) (ap (λ (t : Intake). t.whole) kept)
    (c.in-Ok.ensures.ended ∙ sym (ap (λ (t : Intake). let p = t.reader in is_whole p.stage) kept))
