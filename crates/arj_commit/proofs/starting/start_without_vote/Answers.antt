use Rattle.std.proofs.Common.{sym, subst, arith}
use Rattle.arj_commit.specs.Steps.{MayEnter}
use Rattle.arj_commit.proofs.Follows.{may_votes}
use Rattle.arj_commit.proofs.starting.start_without_vote.Goals as goal

pub enter-requires-clause-may : goal.enter-requires-clause-may
enter-requires-clause-may c =
    subst (MayEnter c.args.plan) (sym c.in-Ok.ensures) (may_votes c.args.plan c.requires.fits (omega (arith, c.requires.room)))
