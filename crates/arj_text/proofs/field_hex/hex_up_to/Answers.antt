use Rattle.std.proofs.Common.{arith, ap, length}
use Rattle.std.proofs.lemmas.Result.{IfOk-weaker}
use Rattle.arj_text.proofs.Hex.{few_bytes, half_hex}
use Rattle.arj_text.proofs.field_hex.hex_up_to.Goals as goal

pub returns-then-bytes-most : goal.returns-then-bytes-most
returns-then-bytes-most c = λ a fits e. omega (arith, half_hex a, ap length e, fits.0)

pub returns : goal.returns
returns c = IfOk-weaker c.hex.result _ _ (λ found read. few_bytes c.args.most c.args.bytes.now found c.if-bytes-most.false read) c.hex.ensures
