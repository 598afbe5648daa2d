use Rattle.std.proofs.Common.{sym}
use Rattle.std.proofs.lemmas.Result.{on_ok_weaker}
use Rattle.arj_coord.proofs.InPlace.{changed_there, shown}
use Rattle.arj_protocol.specs.Coord.{with_went}
use Rattle.arj_protocol.specs.Tree.{root_of}
use Rattle.arj_protocol.specs.Words.{uids_of}
use Rattle.arj_coord.proofs.coord.Coord.note_sent.Goals as goal

pub returns-in-Some : goal.returns-in-Some
returns-in-Some c =
    on_ok_weaker c.note_sent.result (λ is. changed_there (root_of c.args.path.now) c.root-root.result (with_went (record {
      path =
          uids_of c.args.path.now;
      node =
          c.args.node;
      invoke =
          c.args.invoke;
    })) c.args.self.now (shown c.self.inside) c.in-Some.has.now c.note_sent.new.self (c.get_mut.follows.lender c.note_sent.new.self).entries
    c.root-root.ensures c.self.view_is (sym c.in-Some.ensures.value) c.get_mut.ensures.ordered (c.get_mut.follows.holds c.note_sent.new.self).0 is) c.note_sent.ensures
