-- The object doesn't have the operation.
use Rattle.std.proofs.Common.{◌≡◌, false, rules}
use Rattle.arj_prog.specs.Lines.{class_at, has_call}
use Rattle.arj_prog.proofs.Asked.{no_call}
use Rattle.arj_prog.proofs.call.call.Goals as goal

pub returns-then-not-has_call : goal.returns-then-not-has_call
returns-then-not-has_call c =
    let lacks : has_call (class_at c.in-Some.x c.args.objects.now) c.in-Some.op ≡ false = search rules in
    no_call c.args.objects.now c.args.bytes.now (c.in-Some.x, c.in-Some.op) (rw c.in-Some.is at c.in_ok-x.ensures) lacks
