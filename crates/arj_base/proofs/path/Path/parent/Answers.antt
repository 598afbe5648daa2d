use Rattle.std.proofs.Common.{◌≡◌, suc, ◌∙◌, ap, take, arith}
use Rattle.arj_base.specs.Path.{before_last}
use Rattle.arj_base.proofs.Paths.{before_taken}
use Rattle.arj_base.proofs.path.Path.parent.Goals as goal

-- the Uid at the place before the last
pub returns-else-self-eq1 : goal.returns-else-self-eq1
returns-else-self-eq1 c =
    let us = c.args.self.now.uids in
    let place : suc (suc c.from.result) ≡ c.args.self.now.len = omega (arith, c.from.ensures, c.args.self.now.some, c.if-self-eq1.false) in
    before_taken us c.from.result (omega arith) ∙ ap (λ n. before_last (take n us)) place
