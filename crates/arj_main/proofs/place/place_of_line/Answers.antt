use Rattle.std.proofs.Common.{◌-◌, ◌+◌, subst}
use Rattle.arj_main.specs.Pieces.{pieces}
use Rattle.arj_main.specs.Places.{Leads}
use Rattle.arj_main.proofs.Told.{behind_last, leads_on}
use Rattle.arj_main.proofs.place.place_of_line.Goals as goal

pub returns-in_default : goal.returns-in_default
returns-in_default c =
    behind_last c.loop.reader c.saturating_sub-before.result c.loop.counter (c.args.number - 1) c.loop.rest.now c.args.script.now c.place_behind.result c.loop-test.true c.in_default.ensures c.saturating_sub-before.ensures c.loop.invariant c.place_behind.ensures

pub loop-preserved : goal.loop-preserved
loop-preserved c = λ to leads.
    let taken = c.takes.ensures c.if-takes.true in
    let on = subst (λ p. Leads p (c.saturating_sub-before.result - (c.loop.counter + 1)) (pieces 10 c.in-Some.behind.now) to) taken.2 leads in
    c.loop.invariant to (leads_on c.loop.reader to c.saturating_sub-before.result c.loop.counter c.loop.rest.now c.in-Some.line.now c.in-Some.behind.now taken.0 c.loop-test.true c.in-Some.ensures.0 c.in-Some.ensures.1 taken.1 on)
