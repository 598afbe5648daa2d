use Rattle.std.proofs.Common.{arith}
use Rattle.arj_record.specs.Record.{kept_by}
use Rattle.arj_record.proofs.Passes.{one_more, none_left}
use Rattle.arj_record.proofs.list.keep_all.Goals as goal

pub loop-record-preserved : goal.loop-record-preserved
loop-record-preserved g c =
    λ new told.
    c.loop-record.invariant new
    (one_more g.S.Scene.step (kept_by c.args.action) c.loop-record.passed c.keep_one-passed.result c.in-Some.record c.loop-record.items.items c.pop.new.self.items c.loop-record.scene c.keep_one-passed.new.scene new c.in-Some.ensures.items
    c.keep_one-passed.ensures.passed c.keep_one-passed.ensures.calls told)

pub returns : goal.returns
returns g c =
    c.loop-record.invariant c.loop-record.scene (none_left g.S.Scene.step (kept_by c.args.action) c.loop-record.passed c.loop-record.items.items c.loop-record.scene (omega (arith, c.in_default.ensures.cases)))
