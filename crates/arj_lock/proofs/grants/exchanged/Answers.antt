use Rattle.std.proofs.Common.{ℕ, Option, subst}
use Rattle.arj_lock.specs.Index.{IsIndex, without_lock}
use Rattle.arj_lock.specs.declared.lock.Lock.{Lock}
use Rattle.arj_lock.proofs.Entries.{gone_here, put_again}
use Rattle.arj_lock.proofs.Indexing.{left_index}
use Rattle.arj_lock.proofs.grants.exchanged.Goals as goal

pub returns : goal.returns
returns c = λ at there are.
    let n = c.args.grant in
    let left = left_index n c.args.old.now c.args.index.now c.leave.new.index c.leave.ensures at there c.args.whole are in
    subst (λ (f : ℕ → Option Lock). IsIndex f c.joined.result c.joined.new.index) (λ i m. put_again n c.args.lock.now at m i)
    (c.joined.ensures (without_lock n at) (gone_here n at) (subst (λ b. IsIndex (without_lock n at) b c.leave.new.index) c.if-not-whole.false left))
