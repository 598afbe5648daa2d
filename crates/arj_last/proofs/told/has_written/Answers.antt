use Rattle.std.proofs.Common.{◌==◌, ◌∙◌, ap}
use Rattle.std.specs.Prelude.{filter}
use Rattle.std.specs.List.{list_any}
use Rattle.arj_model.specs.Calls.{made}
use Rattle.arj_model.specs.Serial.{writes_on}
use Rattle.arj_last.proofs.Tells.{any_wrote}
use Rattle.arj_last.specs.Groups.{items_of}
use Rattle.arj_last.proofs.told.has_written.Goals as goal

pub returns : goal.returns
returns c = λ lines h.
    let top = c.args.top in
    let x = c.args.x in
    c.has_write.ensures
    ∙ ap (list_any (λ w. w.top == top)) (c.items_at.ensures ∙ ap (items_of c.args.standing.now.writes.on) c.from.ensures ∙ h.writes.on x)
    ∙ any_wrote top (filter (writes_on x) (made lines))
