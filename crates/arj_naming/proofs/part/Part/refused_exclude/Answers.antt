use Rattle.std.proofs.Common.{sym, ◌∙◌}
use Rattle.arj_naming.proofs.Firsts.{found_first, pass_first}
use Rattle.arj_protocol.specs.Confirm.{refused_exclude}
use Rattle.arj_naming.proofs.part.Part.refused_exclude.Goals as goal

pub returns-in-Some : goal.returns-in-Some
returns-in-Some c =
    found_first (refused_exclude c.args.path.now c.args.self.now) c.args.xs.now c.loop-x.x-index 0 c.loop-x-test.true c.in-Some.refused c.in-Some.ensures c.loop-x.invariant

pub loop-x-preserved : goal.loop-x-preserved
loop-x-preserved c =
    pass_first (refused_exclude c.args.path.now c.args.self.now) c.args.xs.now c.loop-x.x-index 0 c.loop-x-test.true (sym c.refused_at.ensures ∙ c.in_default.is) c.loop-x.invariant
