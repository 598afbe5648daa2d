-- a nested action is open
use Rattle.std.proofs.Common.{arith, ap, length}
use Rattle.arj_progrun.proofs.Stacks.{nested_some}
use Rattle.arj_progrun.proofs.client.Client.is_nested.Goals as goal

pub returns-in-len1-up : goal.returns-in-len1-up
returns-in-len1-up c = nested_some c.args.self.now.blocks.items (omega (
  arith,
  c.in-len1-up.len_at_least,
  ap length c.as_slice.ensures.value,
))
