use Rattle.std.proofs.Common.{ap, arith, length}
use Rattle.arj_msg.proofs.StateLaws.{state_payload, state_short}
use Rattle.arj_msg.proofs.state.ObjectStateField.put.Goals as goal

pub pack-requires : goal.pack-requires
pack-requires c = omega (arith, state_payload c.args.self.now c.requires)

pub put_long_bytes-requires : goal.put_long_bytes-requires
put_long_bytes-requires c =
    omega (arith, state_short c.args.self.now c.requires, ap length c.as_slice.ensures, ap length c.in_ok-packed.ensures.bytes)
