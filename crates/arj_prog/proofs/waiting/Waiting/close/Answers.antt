-- There is room for the one that was waited for.
use Rattle.std.proofs.Common.{◌∙◌, ap, [], ◌∷◌, ◌++◌}
use Rattle.std.specs.Prelude.{if◌then◌else◌}
use Rattle.arj_prog.specs.Listed.{add, listing_of}
use Rattle.arj_prog.proofs.Listings.{listing_behind}
use Rattle.arj_prog.proofs.waiting.Waiting.close.Goals as goal

pub returns : goal.returns
returns c =
    let old = c.self.inside.items.items in
    c.from_vec.ensures ∙ ap listing_of (c.push-put.ensures.items ∙ ap (λ t. if t then old ++ c.args.statement ∷ [] else old) (c.push-put.ensures.succeeds c.self.invariant))
    ∙ listing_behind old c.args.statement ∙ ap (λ l. add l c.args.statement) c.self.view_is
