use Rattle.std.proofs.Common.{◌≡◌, ◌∙◌, ◌+◌, ◌-◌, ◌<◌, ap, sym, drop, get_or, length, arith}
use Rattle.arj_base.specs.Uid.{nobody}
use Rattle.arj_protocol.specs.Order.{uid_set, with_uid}
use Rattle.arj_serve.proofs.Holding.{set_more}
use Rattle.arj_serve.proofs.held.in_order.Goals as goal

pub loop-i-preserved : goal.loop-i-preserved
loop-i-preserved c =
    let uids = c.args.uids.now in
    let i = c.loop-i.i - 1 in
    let next : i + 1 ≡ c.loop-i.i = omega arith in
    let within : i < length uids = omega arith in
    record {
      within = omega arith;
      set = c.in_ok-insert.ensures.keys ∙ ((λ j. with_uid (get_or uids i nobody) ((c.loop-i.invariant.set ∙ ap (λ k. uid_set (drop k uids)) (sym next)) j)) ∙ set_more uids i within);
    }
