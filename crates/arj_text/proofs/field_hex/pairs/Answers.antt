use Rattle.std.proofs.Common.{arith}
use Rattle.std.proofs.lemmas.Bool.Decides.{nat_tests}
use Rattle.arj_text.proofs.Hex.{no_pair, one_digit}
use Rattle.arj_text.proofs.field_hex.pairs.Goals as goal

pub returns-in_default-pair : goal.returns-in_default-pair
returns-in_default-pair c = λ a fits e.
    no_pair a c.loop-rest.found c.args.bytes.now c.loop-rest.rest.now c.loop-rest.invariant.front c.in-len2-up.len_at_least c.in_default-pair.ensures fits e

pub returns-else-is_empty : goal.returns-else-is_empty
returns-else-is_empty c = λ a fits e.
    one_digit a c.loop-rest.found c.args.bytes.now c.loop-rest.rest.now c.loop-rest.invariant.front c.in_default.len_below (λ none. grind (arith, nat_tests)) fits e
