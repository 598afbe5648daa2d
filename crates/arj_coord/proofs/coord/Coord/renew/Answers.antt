use Rattle.std.proofs.Common.{refl, sym}
use Rattle.std.proofs.lemmas.Result.{on_ok_weaker}
use Rattle.arj_coord.proofs.InPlace.{changed_there, shown}
use Rattle.arj_protocol.specs.Asking.{renewed}
use Rattle.arj_protocol.specs.Coord.{Root, keeping_of, with_keeping}
use Rattle.arj_coord.proofs.coord.Coord.renew.Goals as goal

pub returns-in-Some : goal.returns-in-Some
returns-in-Some c =
    on_ok_weaker c.renew.result (λ is. changed_there c.args.root c.args.root (λ (r : Root). with_keeping c.args.x (renewed c.args.free (keeping_of c.args.x r) ((keeping_of c.args.x r).kept)) r) c.args.self.now (shown c.self.inside) c.in-Some.has.now c.renew.new.self (c.get_mut.follows.lender c.renew.new.self).entries
    refl c.self.view_is (sym c.in-Some.ensures.value) c.get_mut.ensures.ordered (c.get_mut.follows.holds c.renew.new.self).0 is) c.renew.ensures
