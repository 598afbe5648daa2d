use Rattle.std.proofs.Common.{◌∙◌, ap, sym}
use Rattle.std.proofs.lemmas.Result.{on_ok_weaker}
use Rattle.arj_coord.proofs.InPlace.{changed_there, shown}
use Rattle.arj_protocol.specs.Commit.{Plan}
use Rattle.arj_protocol.specs.Ending.{root_after}
use Rattle.arj_protocol.specs.Tree.{root_of}
use Rattle.arj_coord.proofs.coord.Coord.note_decided.Goals as goal

pub returns-in-Some : goal.returns-in-Some
returns-in-Some c =
    on_ok_weaker c.decided.result (λ is. changed_there (root_of c.args.plan.now.path) c.root-root.result (root_after c.args.plan.now) c.args.self.now (shown c.self.inside) c.in-Some.has.now c.decided.new.self (c.get_mut.follows.lender c.decided.new.self).entries
    (c.root-root.ensures ∙ ap (λ (p : Plan). root_of p.path) c.plan.view_is) c.self.view_is (sym c.in-Some.ensures.value) c.get_mut.ensures.ordered (c.get_mut.follows.holds c.decided.new.self).0 is) c.decided.ensures
