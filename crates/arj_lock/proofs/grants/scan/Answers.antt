use Rattle.std.proofs.Common.{◌∙◌, ◌&&◌, ℕ, Some, ap, cond, find, sym}
use Rattle.arj_lock.specs.Groups.{is_next}
use Rattle.arj_lock.specs.declared.lock.Lock.{Lock}
use Rattle.arj_lock.proofs.grants.scan.Goals as goal

pub returns-then-is_in : goal.returns-then-is_in
returns-then-is_in c =
    let e : ℕ × Lock = (c.in-Some.grant.now, c.in-Some.lock.now) in
    let test = is_next c.args.group c.args.after in
    record {
      first =
          sym ((λ i. cond ((sym c.if-is_after.true ∙ c.is_after.ensures) i && (sym c.if-is_in.true ∙ c.is_in.ensures) i) (Some e) (find test c.next.new.self))
          ∙ ap (find test) (sym c.in-Some.ensures.steps) ∙ c.loop-grant.invariant);
    }
