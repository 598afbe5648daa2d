use Rattle.std.proofs.Common.{refl, []}
use Rattle.arj_coord.proofs.Fits.{fits_more}
use Rattle.arj_protocol.specs.Coord.{Idle}
use Rattle.arj_tree.specs.Stands.{parent_in}
use Rattle.arj_coord.proofs.coord.Coord.begin.Goals as goal

pub invariant_of-self-in_err-insert : goal.invariant_of-self-in_err-insert
invariant_of-self-in_err-insert c =
    let s = c.self.inside in
    fits_more c.args.kind (parent_in c.args.parent s.tree) s.tree c.begin.new.self s.doings c.push.new.self (record {
      label =
          c.args.label;
      req = 0;
      now = Idle;
      took = [];
    }) refl c.in_ok-uid.ensures.begun c.in_ok-push.ensures.pushed c.self.invariant

pub invariant_of-self-2 : goal.invariant_of-self-2
invariant_of-self-2 c =
    let s = c.self.inside in
    fits_more c.args.kind (parent_in c.args.parent s.tree) s.tree c.begin.new.self s.doings c.push.new.self (record {
      label =
          c.args.label;
      req = 0;
      now = Idle;
      took = [];
    }) refl c.in_ok-uid.ensures.begun c.in_ok-push.ensures.pushed c.self.invariant
