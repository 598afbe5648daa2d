use Rattle.std.proofs.Common.{◌∙◌, ap}
use Rattle.std.specs.Prelude.{is_some, ◌==◌}
use Rattle.std.specs.List.{list_any}
use Rattle.arj_protocol.specs.Step.{class_at}
use Rattle.arj_world.proofs.Tests.{any_line}
use Rattle.arj_world.proofs.world.World.has_object.Goals as goal

pub returns : goal.returns
returns g c =
    c.has_line.ensures ∙ ap (list_any (λ o. o.x == c.args.x)) c.as_slice.ensures ∙ any_line c.args.x c.self.inside.header.objects ∙ ap (λ k. is_some (class_at c.args.x k.header)) c.self.view_is
