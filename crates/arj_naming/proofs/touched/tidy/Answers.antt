use Rattle.std.proofs.Common.{◌≡◌, arith, subst, sym, []}
use Rattle.arj_naming.proofs.Indexed.{kept_left, no_keys, tidied, untouched}
use Rattle.arj_naming.specs.Touched.{AreTouched, is_touched}
use Rattle.arj_naming.proofs.touched.tidy.Goals as goal

pub returns-then-len-ne0 : goal.returns-then-len-ne0
returns-then-len-ne0 c = λ u are.
    let kept = c.keep_touched.new.xs in
    tidied c.args.action c.args.objects.now.entries c.in-Some.xs.now kept c.args.touched.now.entries (c.get_mut.follows.lender kept).entries (sym c.in-Some.ensures.value) (c.get_mut.follows.holds kept).0 (kept_left c.args.action c.args.objects.now.entries c.in-Some.xs.now.keys kept.keys c.keep_touched.ensures) u are

pub returns : goal.returns
returns c = λ u are.
    let kept = c.keep_touched.new.xs in
    let m = c.args.objects.now.entries in
    let old = c.args.touched.now.entries in
    let new = (c.get_mut.follows.lender kept).entries in
    let none : kept.keys ≡ [] = no_keys kept.keys (omega (arith, c.len.ensures.len, c.if-len-ne0.false)) in
    subst (λ es. AreTouched u m (is_touched es u)) (sym c.remove.ensures.entries)
    (untouched c.args.action m c.in-Some.xs.now kept old new (sym c.in-Some.ensures.value) (c.get_mut.follows.holds kept).0 none u
    (tidied c.args.action m c.in-Some.xs.now kept old new (sym c.in-Some.ensures.value) (c.get_mut.follows.holds kept).0 (kept_left c.args.action c.args.objects.now.entries c.in-Some.xs.now.keys kept.keys c.keep_touched.ensures) u are))
