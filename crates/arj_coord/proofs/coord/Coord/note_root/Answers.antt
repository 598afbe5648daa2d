use Rattle.std.proofs.Common.{refl, sym}
use Rattle.arj_coord.proofs.InPlace.{changed_there, shown}
use Rattle.arj_protocol.specs.Coord.{Root}
use Rattle.arj_protocol.specs.Tree.{root_of}
use Rattle.arj_coord.proofs.coord.Coord.note_root.Goals as goal

pub returns-in-Some : goal.returns-in-Some
returns-in-Some c =
    let has : Root = c.in-Some._has.now in
    changed_there (root_of c.args.path.now) c.root-root.result (λ (r : Root). r) c.args.self.now (shown c.self.inside) has has (c.get_mut.follows.lender has).entries
    c.root-root.ensures c.self.view_is (sym c.in-Some.ensures.value) c.get_mut.ensures.ordered (c.get_mut.follows.holds has).0 refl
