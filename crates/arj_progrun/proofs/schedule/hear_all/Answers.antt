-- program after program
use Rattle.std.proofs.Common.{◌≡◌, ◌∙◌, ap, subst, arith, length}
use Rattle.arj_progrun.proofs.Hearing.{all_of_them, one_more, stays_within}
use Rattle.arj_progrun.specs.Kept.{Hears, clients_of, first_hear}
use Rattle.arj_progrun.proofs.schedule.hear_all.Goals as goal

pub loop-at-preserved : goal.loop-at-preserved
loop-at-preserved c =
    let old = c.loop-at.clients.items in
    let new = c.hear_at.new.clients.items in
    record {
      heard = one_more c.args.by c.loop-at.at c.args.body.now c.args.clients.now.items old new c.loop-at.invariant.heard
          (subst (λ own. Hears c.loop-at.at c.args.body.now own old new) c.is_by.ensures c.in_ok-hear_at.ensures.heard);
      long = c.hear_at.ensures.long ∙ c.loop-at.invariant.long;
      within = λ turn all. stays_within turn c.loop-at.at c.args.body.now c.is_by.result old new c.in_ok-hear_at.ensures.heard
          (c.loop-at.invariant.within turn all);
    }

pub returns-clause-heard : goal.returns-clause-heard
returns-clause-heard c =
    let items = c.args.clients.now.items in
    let e : c.loop-at.at ≡ length items = omega (arith, c.loop-at-test.false, c.loop-at.auto.at-end, c.len-at-end.ensures) in
    c.loop-at.invariant.heard ∙ ap (λ n. first_hear c.args.by 0 c.args.body.now n (clients_of items)) e
    ∙ all_of_them c.args.by c.args.body.now items
