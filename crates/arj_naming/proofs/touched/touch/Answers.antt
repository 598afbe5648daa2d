use Rattle.std.proofs.Common.{◌≡◌, ◌∙◌, ap, rules, sym}
use Rattle.arj_naming.proofs.Indexed.{first_under, inserted_under, more_under}
use Rattle.arj_naming.specs.Touched.{is_in}
use Rattle.arj_protocol.specs.Order.{put_uid}
use Rattle.arj_naming.proofs.touched.touch.Goals as goal

pub returns-in_err-insert-clause-kept : goal.returns-in_err-insert-clause-kept
returns-in_err-insert-clause-kept c =
    more_under c.args.action c.in-Some.xs.now c.insert.new.self c.args.touched.now.entries (c.get_mut.follows.lender c.insert.new.self).entries (sym c.in-Some.ensures.value) (c.get_mut.follows.holds c.insert.new.self).0
    (λ x on. ap (λ ks. is_in ks x) c.in_err-insert.ensures.err ∙ on)

pub returns-in-Some-clause-kept : goal.returns-in-Some-clause-kept
returns-in-Some-clause-kept c =
    inserted_under c.args.action c.in-Some.xs.now c.insert.new.self c.args.x c.args.touched.now.entries (c.get_mut.follows.lender c.insert.new.self).entries (sym c.in-Some.ensures.value) (c.get_mut.follows.holds c.insert.new.self).0 c.in_ok-insert.ensures.keys

pub returns-clause-kept : goal.returns-clause-kept
returns-clause-kept c =
    let same : c.get_mut.follows.lender-at-none.entries ≡ c.args.touched.now.entries = search rules in
    first_under c.args.action c.insert-2.new.self c.args.touched.now.entries c.insert-3.new.self.entries (sym c.in_default.ensures.value) (c.in_ok-insert-3.ensures.entries ∙ ap (put_uid c.args.action c.insert-2.new.self) same)
