-- A number is read back from its decimal text, so bytes that are refused are the text of no number within the limits.
use Rattle.std.proofs.Common.{◌≡◌, Ok, sym, subst, ◌∙◌, ap, arith}
use Rattle.std.specs.Fmt.{decimal}
use Rattle.std.specs.Str.{IsUtf8}
use Rattle.std.proofs.lemmas.Str.{IsUtf8-from_ascii}
use Rattle.std.proofs.lemmas.Fmt.{IsAscii-decimal, parse-decimal}
use Rattle.std.proofs.lemmas.Bool.{MatchBool-at_false}
use Rattle.arj_text.proofs.field.number.Goals as goal

pub returns-in_default : goal.returns-in_default
returns-in_default c n within e =
    c.in_default.ensures.cases.0 (subst IsUtf8 (sym e) (IsUtf8-from_ascii (decimal n) (IsAscii-decimal n (omega arith))))

pub returns-in_default-parse : goal.returns-in_default-parse
returns-in_default-parse c n within e =
    c.in_default-parse.not-Ok n (parse-decimal 64 n c.in-Ok.text.now c.parse.result (omega arith) (omega arith) (c.in-Ok.ensures.cases.0 ∙ e) c.parse.ensures.value.0)

pub returns-then-n-low : goal.returns-then-n-low
returns-then-n-low c n within e =
    let read : c.parse.result ≡ Ok n =
    parse-decimal 64 n c.in-Ok.text.now c.parse.result (omega arith) (omega arith) (c.in-Ok.ensures.cases.0 ∙ e) c.parse.ensures.value.0 in
    let same : c.in-Ok-parse.n ≡ n = cc in
    absurd (omega arith)

pub returns-then-high-n : goal.returns-then-high-n
returns-then-high-n c n within e =
    let read : c.parse.result ≡ Ok n =
    parse-decimal 64 n c.in-Ok.text.now c.parse.result (omega arith) (omega arith) (c.in-Ok.ensures.cases.0 ∙ e) c.parse.ensures.value.0 in
    let same : c.in-Ok-parse.n ≡ n = cc in
    absurd (omega arith)

pub returns-else-is_spelled : goal.returns-else-is_spelled
returns-else-is_spelled c n within e =
    let read : c.parse.result ≡ Ok n =
    parse-decimal 64 n c.in-Ok.text.now c.parse.result (omega arith) (omega arith) (c.in-Ok.ensures.cases.0 ∙ e) c.parse.ensures.value.0 in
    let same : c.in-Ok-parse.n ≡ n = cc in
    MatchBool-at_false _ _ c.if-is_spelled.false c.is_spelled.ensures (e ∙ ap decimal (sym same))
