use Rattle.std.proofs.Common.{length, ap, arith}
use Rattle.std.specs.List.{flat_map}
use Rattle.std.proofs.lemmas.List.{length-append}
use Rattle.arj_class.specs.Keys.{pair_bytes}
use Rattle.arj_class.proofs.Payloads.{length_pairs}
use Rattle.arj_class.proofs.table.TableObjectClass.save_state.Goals as goal

pub returns-clause-short : goal.returns-clause-short
returns-clause-short c =
    let pairs = c.as_slice.result.now in
    omega (arith, ap length c.in_ok-put_pairs.ensures.bytes, ap length c.new-payload.ensures, length-append c.new-payload.result (flat_map pair_bytes pairs), length_pairs pairs, ap length c.as_slice.ensures.value)
