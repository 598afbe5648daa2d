use Rattle.std.specs.Prelude.{◌↔◌, IfOk, IsTrue}
use Rattle.std.proofs.Common.{subst, sym}
use Rattle.arj_msg.specs.Sendable.{IsSendable}
use Rattle.arj_node.proofs.sendable.can_be_sent.Goals as goal

pub returns-in-Loaded : goal.returns-in-Loaded
returns-in-Loaded c = subst (λ m. IfOk c.loaded_sends.result (λ can. IsTrue can ↔ IsSendable m)) (sym c.in-Loaded.is) c.loaded_sends.ensures

pub returns-in-Activate : goal.returns-in-Activate
returns-in-Activate c = subst (λ m. IfOk c.restores.result (λ can. IsTrue can ↔ IsSendable m)) (sym c.in-Activate.is) c.restores.ensures
