use Rattle.std.proofs.Common.{arith}
use Rattle.arj_record.specs.Record.{undone_by}
use Rattle.arj_record.proofs.Passes.{one_more, none_left}
use Rattle.arj_record.proofs.list.undo_all.Goals as goal

pub loop-record-preserved : goal.loop-record-preserved
loop-record-preserved g c =
    λ new told.
    c.loop-record.invariant new
    (one_more g.S.Scene.step (undone_by c.args.action) c.loop-record.released c.undo_one-released.result c.in-Some.record c.loop-record.items.items c.pop.new.self.items c.loop-record.scene c.undo_one-released.new.scene new c.in-Some.ensures.items
    c.undo_one-released.ensures.released c.undo_one-released.ensures.calls told)

pub returns : goal.returns
returns g c =
    c.loop-record.invariant c.loop-record.scene (none_left g.S.Scene.step (undone_by c.args.action) c.loop-record.released c.loop-record.items.items c.loop-record.scene (omega (arith, c.in_default.ensures.cases)))
