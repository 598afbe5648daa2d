use Rattle.std.proofs.Common.{sym}
use Rattle.std.proofs.lemmas.Result.{on_ok_weaker, on_err_weaker}
use Rattle.arj_tree.proofs.Maps.{changed_found, written_back}
use Rattle.arj_tree.specs.Tally.{with_end}
use Rattle.arj_tree.proofs.tally.Tallies.list_end.Goals as goal

pub returns-in-Some-clause-ended : goal.returns-in-Some-clause-ended
returns-in-Some-clause-ended c =
    on_ok_weaker c.list_end.result (λ is. changed_found (with_end c.args.action c.args.outcome) c.args.root c.self.inside.roots.entries c.args.self.now (c.get_mut.follows.lender c.list_end.new.self).entries c.in-Some.tally.now c.list_end.new.self c.self.view_is
    (sym c.in-Some.ensures.value) c.get_mut.ensures.ordered (c.get_mut.follows.holds c.list_end.new.self).0 is) c.list_end.ensures.ended

pub returns-in-Some-clause-kept : goal.returns-in-Some-clause-kept
returns-in-Some-clause-kept c =
    on_err_weaker c.list_end.result (λ is. written_back c.args.root c.self.inside.roots.entries c.args.self.now (c.get_mut.follows.lender c.list_end.new.self).entries c.in-Some.tally.now c.list_end.new.self c.self.view_is
    (sym c.in-Some.ensures.value) (c.get_mut.follows.holds c.list_end.new.self).0 is) c.list_end.ensures.kept
