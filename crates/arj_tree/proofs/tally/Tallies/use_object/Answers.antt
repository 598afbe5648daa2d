use Rattle.std.proofs.Common.{sym}
use Rattle.std.proofs.lemmas.Result.{on_ok_weaker, on_err_weaker}
use Rattle.arj_tree.proofs.Maps.{changed_found, written_back}
use Rattle.arj_tree.specs.Tally.{with_object}
use Rattle.arj_tree.proofs.tally.Tallies.use_object.Goals as goal

pub returns-in-Some-clause-used : goal.returns-in-Some-clause-used
returns-in-Some-clause-used c =
    on_ok_weaker c.use_object.result (λ is. changed_found (with_object c.args.x) c.args.root c.self.inside.roots.entries c.args.self.now (c.get_mut.follows.lender c.use_object.new.self).entries c.in-Some.tally.now c.use_object.new.self c.self.view_is
    (sym c.in-Some.ensures.value) c.get_mut.ensures.ordered (c.get_mut.follows.holds c.use_object.new.self).0 is) c.use_object.ensures.used

pub returns-in-Some-clause-kept : goal.returns-in-Some-clause-kept
returns-in-Some-clause-kept c =
    on_err_weaker c.use_object.result (λ is. written_back c.args.root c.self.inside.roots.entries c.args.self.now (c.get_mut.follows.lender c.use_object.new.self).entries c.in-Some.tally.now c.use_object.new.self c.self.view_is
    (sym c.in-Some.ensures.value) (c.get_mut.follows.holds c.use_object.new.self).0 is) c.use_object.ensures.kept
