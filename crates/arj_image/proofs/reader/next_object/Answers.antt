use Rattle.std.proofs.Common.{◌≡◌, false, sym, subst, arith}
use Rattle.std.specs.Prelude.{nat_lt}
use Rattle.arj_image.proofs.Taking.{object_not_held, object_out_of_turn}
use Rattle.arj_image.proofs.reader.next_object.Goals as goal
use Rattle.arj_image.specs.Texts.{is_last}
use Rattle.arj_journal.specs.declared.header.ObjectLine.{ObjectLine}

pub returns-then-not-is_above-clause-bad : goal.returns-then-not-is_above-clause-bad
returns-then-not-is_above-clause-bad c bad o fits =
    object_out_of_turn c.args.nodes c.args.format c.args.bytes.now c.args.objects.now c.in-Some.new o (omega (arith, c.ranges.nodes.fits))
    (rw c.in-Some.is at c.in_ok-new.ensures)
    (subst (λ os. is_last (λ (p : ObjectLine). nat_lt p.x c.in-Some.new.x) os ≡ false) c.as_slice.ensures
    (sym c.if-not-is_above.ensures)) fits

pub returns-then-not-holds-clause-bad : goal.returns-then-not-holds-clause-bad
returns-then-not-holds-clause-bad c bad o fits =
    object_not_held c.args.nodes c.args.format c.args.bytes.now c.args.objects.now c.in-Some.new o (omega (arith, c.ranges.nodes.fits))
    (rw c.in-Some.is at c.in_ok-new.ensures) c.if-not-holds.ensures fits
