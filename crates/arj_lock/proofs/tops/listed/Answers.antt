use Rattle.std.proofs.Common.{◌≡◌, ◌++◌, ◌∙◌, ap, sym, subst}
use Rattle.std.proofs.lemmas.List.{append-nil}
use Rattle.arj_lock.specs.Held.{AreListed}
use Rattle.arj_lock.proofs.Holders.{uids_listed}
use Rattle.arj_lock.proofs.tops.listed.Goals as goal

pub returns : goal.returns
returns c = λ uids from.
    let all : c.args.set.now.keys ≡ c.loop-uid.list =
    sym c.loop-uid.invariant ∙ ap (λ rest. c.loop-uid.list ++ rest) c.in-None.ensures.steps.0 ∙ append-nil c.loop-uid.list in
    subst (AreListed uids) all (uids_listed uids c.args.set.now from)
