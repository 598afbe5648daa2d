use Rattle.std.proofs.Common.{sym, ◌∙◌}
use Rattle.arj_naming.proofs.Firsts.{found_first, pass_first}
use Rattle.arj_protocol.specs.Confirm.{is_there}
use Rattle.arj_naming.proofs.entries.Entries.listed_store.Goals as goal

pub returns-in-Some : goal.returns-in-Some
returns-in-Some c =
    found_first (is_there c.args.self.now) c.args.included.now c.loop-mark.mark-index (0, 0) c.loop-mark-test.true c.in-Some.listed c.in-Some.ensures c.loop-mark.invariant

pub loop-mark-preserved : goal.loop-mark-preserved
loop-mark-preserved c =
    pass_first (is_there c.args.self.now) c.args.included.now c.loop-mark.mark-index (0, 0) c.loop-mark-test.true (sym c.listed_at.ensures ∙ c.in_default.is) c.loop-mark.invariant
