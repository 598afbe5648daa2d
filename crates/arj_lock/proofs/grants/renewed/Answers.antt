use Rattle.std.proofs.Common.{ℕ, Option, subst, sym}
use Rattle.arj_lock.specs.Index.{IsIndex}
use Rattle.arj_lock.specs.declared.lock.Lock.{Lock}
use Rattle.arj_lock.proofs.grants.renewed.Goals as goal

pub returns-then-whole : goal.returns-then-whole
returns-then-whole c = λ at none are same.
    subst (λ (f : ℕ →
    Option Lock). IsIndex f c.joined.result c.joined.new.index) (λ i n. sym (same n) i) (c.joined.ensures at none (subst (λ b. IsIndex at b c.args.index.now) c.if-whole.true are))
