use Rattle.std.proofs.Common.{◌++◌, ◌∙◌, ap}
use Rattle.std.proofs.lemmas.List.{append_assoc}
use Rattle.byteorder.specs.Endian.{big_bytes}
use Rattle.arj_class.proofs.payload.put_pair.Goals as goal

-- the two numbers, one behind the other
pub returns-clause-bytes : goal.returns-clause-bytes
returns-clause-bytes c =
    c.in_ok-put_number-2.ensures ∙ ap (λ bytes. bytes ++ big_bytes 8 c.args.pair.1) c.in_ok-put_number.ensures
    ∙ append_assoc c.args.payload.now (big_bytes 8 c.args.pair.0) (big_bytes 8 c.args.pair.1)
