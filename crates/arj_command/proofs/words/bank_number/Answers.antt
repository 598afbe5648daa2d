-- a text that is printed as a number, and one that isn't
use Rattle.std.proofs.Common.{subst, sym, ◌∙◌}
use Rattle.arj_command.specs.Command.{IsPlain}
use Rattle.arj_command.proofs.Numbers.{not_read, plain_decimal, read_plain}
use Rattle.arj_command.proofs.words.bank_number.Goals as goal

pub returns-then-not-is_plain : goal.returns-then-not-is_plain
returns-then-not-is_plain c n small is =
    c.if-not-is_plain.ensures (subst IsPlain (sym (c.as_bytes.ensures.value ∙ is)) (plain_decimal n small))

pub returns-in-Ok : goal.returns-in-Ok
returns-in-Ok c =
    read_plain c.args.word.now c.parse.result c.in-Ok.n (subst IsPlain c.as_bytes.ensures.value c.if-not-is_plain.ensures) c.parse.ensures.value.0 c.in-Ok.is

pub returns-in-Err : goal.returns-in-Err
returns-in-Err c n small is = not_read c.args.word.now c.parse.result c.in-Err.field-0 n small is c.parse.ensures.value.0 c.in-Err.is
