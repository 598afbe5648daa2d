use Rattle.std.proofs.Common.{◌≡◌, ◌∙◌, None, map, false, sym, ap}
use Rattle.std.specs.Prelude.{if◌then◌else◌}
use Rattle.arj_protocol.specs.World.{lowest_from}
use Rattle.arj_world.specs.Wire.{frame_of}
use Rattle.arj_world.proofs.Frames.{lowest_found}
use Rattle.arj_world.proofs.world.World.lowest.Goals as goal

pub returns : goal.returns
returns g c =
    let net : c.self.inside.wire.net ≡ c.args.self.now.net = ap (λ k. k.net) c.self.view_is in
    let fits : c.args.self.now.full ≡ false = sym (ap (λ k. k.full) c.self.view_is) ∙ c.if-self.false in
    lowest_found c.lowest.result c.self.inside.wire.net c.lowest.ensures.least ∙ (λ i. if sym fits i then None else lowest_from 1 (map frame_of (net i)))
