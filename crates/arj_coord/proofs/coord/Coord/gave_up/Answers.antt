use Rattle.std.proofs.Common.{◌≡◌, ◌∙◌, ap, sym}
use Rattle.std.proofs.lemmas.Result.{on_ok_weaker}
use Rattle.arj_coord.proofs.InPlace.{changed_there, shown}
use Rattle.arj_protocol.specs.Asking.{root_lost}
use Rattle.arj_protocol.specs.Call.{given_up}
use Rattle.arj_protocol.specs.Tree.{root_of}
use Rattle.arj_protocol.specs.Words.{Path}
use Rattle.arj_coord.proofs.coord.Coord.gave_up.Goals as goal

pub returns-in-Some-clause-part : goal.returns-in-Some-clause-part
returns-in-Some-clause-part c =
    let s = c.args.steps in
    let same : c.root-root.result ≡ root_of s.path = c.root-root.ensures ∙ ap (λ (p : Path). root_of p) c.path.ensures in
    on_ok_weaker c.gave_up.result
    (λ is. changed_there (root_of s.path) c.root-root.result (root_lost s (given_up s.at)) c.args.self.now (shown c.self.inside) c.in-Some.has.now c.gave_up.new.self
    (c.get_mut.follows.lender c.gave_up.new.self).entries same c.self.view_is (sym c.in-Some.ensures.value) c.get_mut.ensures.ordered (c.get_mut.follows.holds c.gave_up.new.self).0 is)
    c.gave_up.ensures.root
