use Rattle.std.specs.Prelude.{◌↔◌, IfOk, IsTrue}
use Rattle.std.proofs.Common.{subst, sym}
use Rattle.arj_msg.specs.Sendable.{LoadedSends}
use Rattle.arj_node.proofs.sendable.loaded_sends.Goals as goal

pub returns-in-State : goal.returns-in-State
returns-in-State c = subst (λ r. IfOk c.restores.result (λ can. IsTrue can ↔ LoadedSends r)) (sym c.in-State.is) c.restores.ensures
