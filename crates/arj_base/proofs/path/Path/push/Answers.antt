use Rattle.std.proofs.Common.{◌≤◌, ◌+◌, sym, ◌∙◌, ap, subst, drop, slice_set, arith}
use Rattle.std.proofs.lemmas.List.{length-take-le}
use Rattle.arj_base.proofs.Paths.{padded_more, tops_in_limits}
use Rattle.arj_base.proofs.path.Path.push.Goals as goal

pub invariant_of-result-clause-padded : goal.invariant_of-result-clause-padded
invariant_of-result-clause-padded c =
    let path = c.args.self.now in
    ap (λ n. drop (path.len + 1) (slice_set path.uids n c.args.uid)) c.from.ensures ∙ padded_more path.uids path.len c.args.uid path.padded

pub invariant_of-result-clause-one_top : goal.invariant_of-result-clause-one_top
invariant_of-result-clause-one_top c =
    let path = c.args.self.now in
    subst (λ n. 1 ≤ n) (sym c.tops_below.ensures)
    (tops_in_limits c.args.top path.tops path.len path.one_top path.two_tops path.within (λ is. sym (length-take-le path.len path.uids (omega arith)) ∙ c.requires is)).0

pub invariant_of-result-clause-two_tops : goal.invariant_of-result-clause-two_tops
invariant_of-result-clause-two_tops c =
    let path = c.args.self.now in
    subst (λ n. n ≤ 2) (sym c.tops_below.ensures)
    (tops_in_limits c.args.top path.tops path.len path.one_top path.two_tops path.within (λ is. sym (length-take-le path.len path.uids (omega arith)) ∙ c.requires is)).1

pub invariant_of-result-clause-within : goal.invariant_of-result-clause-within
invariant_of-result-clause-within c =
    let path = c.args.self.now in
    subst (λ n. n ≤ path.len + 1) (sym c.tops_below.ensures)
    (tops_in_limits c.args.top path.tops path.len path.one_top path.two_tops path.within (λ is. sym (length-take-le path.len path.uids (omega arith)) ∙ c.requires is)).2
