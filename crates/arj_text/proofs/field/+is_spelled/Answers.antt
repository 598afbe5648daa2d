use Rattle.std.proofs.Common.{arith, sym, subst}
use Rattle.std.specs.Fmt.{decimal}
use Rattle.std.proofs.Common.{◌≡◌, ◌≢◌, MatchBool}
use Rattle.arj_text.proofs.Digits.{ends_alike, ends_alone, ends_otherwise, ends_somehow}
use Rattle.arj_text.proofs.field.+is_spelled.Goals as goal

pub returns-in_default : goal.returns-in_default
returns-in_default t c = ends_somehow c.args.n (omega arith) c.args.bytes.now c.in_default.len_below

pub returns-then-last-n : goal.returns-then-last-n
returns-then-last-n t c = ends_otherwise c.args.n (omega arith) c.args.bytes.now c.in-len1-up.len_at_least c.if-last-n.true

pub returns-then-n-gt9 : goal.returns-then-n-gt9
returns-then-n-gt9 t c =
    ends_alike c.args.n (omega arith) c.args.bytes.now c.in-len1-up.len_at_least c.if-n-gt9.true c.if-last-n.false c.is_spelled.result c.is_spelled.ensures

pub returns-else-n-gt9 : goal.returns-else-n-gt9
returns-else-n-gt9 t c =
    subst (λ b. MatchBool b (c.args.bytes.now ≡ decimal c.args.n) (c.args.bytes.now ≢ decimal c.args.n)) (sym c.is_empty.ensures)
    (ends_alone c.args.n (omega arith) c.args.bytes.now c.in-len1-up.len_at_least c.if-n-gt9.false c.if-last-n.false)
