-- the summary is written
use Rattle.std.proofs.Common.{rules, Err, ◌≡◌, ap, subst}
use Rattle.std.specs.Prelude.{take}
use Rattle.arj_io.specs.Told.{Takes}
use Rattle.arj_bank.proofs.summed.generated.Goals as goal

pub returns-in-Ok-write_all-clause-summed : goal.returns-in-Ok-write_all-clause-summed
returns-in-Ok-write_all-clause-summed g c _ = let same : c.as_slice.result.now ≡ c.in-Ok.text = search rules in
    (c.in-Ok.text, c.in-Ok.ensures.text, subst (λ bytes. Takes (g.K.Sink.taken c.args.sink.now) bytes (g.K.Sink.taken c.write_all.new.sink)) same c.in-Ok-write_all.ensures.took)

pub returns-in-Ok-clause-front : goal.returns-in-Ok-clause-front
returns-in-Ok-clause-front g c _ = let same : c.as_slice.result.now ≡ c.in-Ok.text = search rules in
    let front = c.in-Err.ensures.front in
    (c.in-Ok.text, front.0, c.in-Ok.ensures.text, subst (λ bytes. Takes (g.K.Sink.taken c.args.sink.now) (take front.0 bytes) (g.K.Sink.taken c.write_all.new.sink)) same front.2)

pub returns-in-Err-Limit-clause-limit : goal.returns-in-Err-Limit-clause-limit
returns-in-Err-Limit-clause-limit g c _ = c.in-Err-Limit.ensures.limit (ap Err c.in-Err-Limit.field-0-is)
