use Rattle.std.proofs.Common.{subst, sym}
use Rattle.arj_lock.specs.Index.{IsAbove}
use Rattle.arj_lock.proofs.Entries.{above_all}
use Rattle.arj_lock.proofs.grants.next.Goals as goal

pub returns-in_ok-next-in-Some : goal.returns-in_ok-next-in-Some
returns-in_ok-next-in-Some c =
    let es = c.args.locks.now.entries in
    subst (IsAbove es) (sym c.in_ok-next-in-Some.ensures.1) (above_all c.in-Some.last.now es c.in-Some.ensures.all_up_to)
