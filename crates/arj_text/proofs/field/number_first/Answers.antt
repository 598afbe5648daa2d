use Rattle.std.proofs.Common.{arith}
use Rattle.std.specs.Fmt.{decimal}
use Rattle.arj_text.specs.Fields.{IsWithin}
use Rattle.arj_text.proofs.Texts.{none_first, some_first, digits_only}
use Rattle.arj_text.proofs.field.number_first.Goals as goal

pub returns-in-Some-2 : goal.returns-in-Some-2
returns-in-Some-2 c =
    some_first c.args.separator (IsWithin c.args.low c.args.high) decimal (λ n fits. digits_only c.args.separator n c.requires (omega arith)) c.args.bytes.now c.in-Some.digits.now c.in-Some.rest.now c.in-Some-2.n c.in-Some.ensures.0 c.in-Some.ensures.1 (rw c.in-Some-2.is at c.in_ok-n.ensures)

pub returns-in-None : goal.returns-in-None
returns-in-None c =
    none_first c.args.separator (IsWithin c.args.low c.args.high) decimal (λ n fits. digits_only c.args.separator n c.requires (omega arith)) c.args.bytes.now c.in-Some.digits.now c.in-Some.rest.now c.in-Some.ensures.0 c.in-Some.ensures.1 (rw c.in-None.is at c.in_ok-n.ensures)
