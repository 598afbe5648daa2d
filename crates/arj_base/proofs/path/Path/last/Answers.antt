use Rattle.std.proofs.Common.{◌≡◌, suc, ◌∙◌, ap, take, arith}
use Rattle.arj_base.specs.Rows.{last_uid}
use Rattle.arj_base.proofs.Paths.{last_taken}
use Rattle.arj_base.proofs.path.Path.last.Goals as goal

-- the Uid at the last place
pub returns : goal.returns
returns c =
    let us = c.args.self.now.uids in
    let place : suc c.from.result ≡ c.args.self.now.len = omega (arith, c.from.ensures, c.args.self.now.some) in
    last_taken us c.from.result (omega arith) ∙ ap (λ n. last_uid (take n us)) place
