use Rattle.std.proofs.Common.{◌≡◌, ◌≤◌, ◌+◌, ◌-◌, ◌∙◌, ap, sym, drop, slice_set, replicate, arith}
use Rattle.arj_base.specs.Uid.{nobody}
use Rattle.arj_base.proofs.Paths.{padded_less, parent_parts}
use Rattle.arj_base.proofs.path.Path.parent_path.Goals as goal

pub invariant_of-result-clause-padded : goal.invariant_of-result-clause-padded
invariant_of-result-clause-padded c =
    let path = c.args.self.now in
    let behind : path.len - 1 + 1 ≡ path.len = omega (arith, path.some) in
    ap (λ n. drop (path.len - 1) (slice_set path.uids n nobody)) c.from.ensures
    ∙ padded_less path.uids (path.len - 1) (omega (arith, path.some, path.most)) path.whole (ap (λ n. drop n path.uids) behind ∙ path.padded ∙ ap (λ n. replicate (16 - n) nobody) (sym behind))

pub returns : goal.returns
returns c =
    let path = c.args.self.now in
    let two : 2 ≤ path.len = omega (arith, path.some, c.if-self-eq1.false) in
    parent_parts path.uids (path.len - 1) path.len path.tops c.from.result c.min.result path.whole (omega (arith, two)) (omega (arith, path.most)) (omega (arith, two)) c.from.ensures c.min.ensures
