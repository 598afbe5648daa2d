use Rattle.std.proofs.Common.{sym}
use Rattle.arj_naming.proofs.Servers.{kept_under}
use Rattle.arj_naming.proofs.bound.hello_under.Goals as goal

pub returns-clause-bound : goal.returns-clause-bound
returns-clause-bound c =
    let kept = c.keep_bound.new.xs in
    kept_under c.args.node c.change_each.new.objects.entries c.in-Some.xs.now kept c.args.bound.now.entries (c.get_mut.follows.lender kept).entries (sym c.in-Some.ensures.value) (c.get_mut.follows.holds kept).0 c.keep_bound.ensures
