use Rattle.std.proofs.Common.{rules, ◌≡◌, ◌∙◌, sym, ap}
use Rattle.arj_protocol.specs.Order.{put_number}
use Rattle.arj_root.specs.Kept.{Keepings}
use Rattle.arj_root.proofs.Kept.{put_over}
use Rattle.arj_root.proofs.keepings.Keepings.take.Goals as goal

pub returns-in-Some-clause-put : goal.returns-in-Some-clause-put
returns-in-Some-clause-put c =
    λ k. put_over c.args.x k c.replace.new.dest c.in-Some.keeping.now c.self.inside.keeping.entries c.args.self.now (c.get_mut.follows.lender c.replace.new.dest).entries
    (sym c.in-Some.ensures.value) c.get_mut.ensures.ordered (c.get_mut.follows.holds c.replace.new.dest).0 c.self.view_is

pub returns-clause-put : goal.returns-clause-put
returns-clause-put c =
    λ k. let same : c.get_mut.follows.lender-at-none.entries ≡ c.self.inside.keeping.entries = search rules in
    ap (λ (m : Keepings). put_number c.args.x k m) same ∙ ap (λ (m : Keepings). put_number c.args.x k m) c.self.view_is
