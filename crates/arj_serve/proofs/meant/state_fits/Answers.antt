use Rattle.std.proofs.Common.{arith}
use Rattle.arj_msg.proofs.StateLaws.{state_payload}
use Rattle.arj_serve.proofs.meant.state_fits.Goals as goal

pub returns : goal.returns
returns c =
    let short = state_payload c.args.state.now c.requires in
    (c.uid_fits.ensures, omega arith, c.uid_fits-2.ensures, omega (arith, short))
