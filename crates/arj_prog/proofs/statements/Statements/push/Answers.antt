use Rattle.std.proofs.Common.{◌∙◌, ap}
use Rattle.arj_prog.specs.Listed.{add, listing_of}
use Rattle.arj_prog.proofs.Listings.{listing_behind}
use Rattle.arj_prog.proofs.statements.Statements.push.Goals as goal

pub returns-clause-ok : goal.returns-clause-ok
returns-clause-ok c =
    ap listing_of c.in_ok-push.ensures.items ∙ listing_behind c.self.inside.items.items c.args.statement ∙ ap (λ l. add l c.args.statement) c.self.view_is
