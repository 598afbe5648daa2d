-- What a line leaves of what was read.
use Rattle.std.specs.Prelude.{Option, Some}
use Rattle.arj_prog.specs.declared.plan.Plan.{Plan}
use Rattle.arj_prog.specs.declared.reader.ProgItem.{ProgItem}
use Rattle.arj_prog.specs.declared.reader.ProgItem.TheVariants as item

-- the plan behind a line
abbrev pub plan_behind : ProgItem → Option Plan → Option Plan
plan_behind (item.Run plan) before = Some plan
plan_behind _ before = before
