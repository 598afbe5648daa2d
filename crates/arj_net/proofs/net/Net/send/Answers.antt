use Rattle.std.proofs.Common.{arith, subst, sym}
use Rattle.arj_net.specs.Front.{KeepsFront}
use Rattle.arj_net.proofs.Sends.{front_after_send}
use Rattle.arj_net.proofs.net.Net.send.Goals as goal

pub invariant_of-self-2 : goal.invariant_of-self-2
invariant_of-self-2 c =
    subst (λ net. KeepsFront net c.self.inside.closed) (sym c.in_ok-push.ensures.items)
    (front_after_send c.self.inside.sent.items (record {
      from = c.args.from;
      to = c.args.to;
      bytes =
          c.args.bytes;
    }) c.self.inside.closed (omega arith) c.self.invariant)
