use Rattle.std.proofs.Common.{ℕ, List, ap, ◌∙◌, filter, map, unwrap_or, Option}
use Rattle.arj_protocol.specs.Commit.{least_of}
use Rattle.arj_protocol.specs.Coord as coord
use Rattle.arj_root.specs.Merged.{of_work}
use Rattle.arj_root.specs.Noted.{of_tree}
use Rattle.arj_root.proofs.Merged.{least_is}
use Rattle.arj_root.proofs.questions.least_grant.Goals as goal

pub returns-in-Some : goal.returns-in-Some
returns-in-Some c =
    let those : List coord.Grant → List ℕ =
    λ gs. map (λ (g : coord.Grant). g.least) (filter (coord.counts_grant c.args.top c.args.x (of_work c.args.calls.now c.args.joins.now) (of_tree c.args.tree.now)) gs) in
    ap (λ (o : Option ℕ). unwrap_or o 0) c.in-Some.ensures ∙ least_is (those c.as_slice.result.now) ∙ ap (λ gs. least_of (those gs)) c.as_slice.ensures

pub returns-in-None : goal.returns-in-None
returns-in-None c =
    let those : List coord.Grant → List ℕ =
    λ gs. map (λ (g : coord.Grant). g.least) (filter (coord.counts_grant c.args.top c.args.x (of_work c.args.calls.now c.args.joins.now) (of_tree c.args.tree.now)) gs) in
    ap (λ (o : Option ℕ). unwrap_or o 0) c.in-None.ensures ∙ least_is (those c.as_slice.result.now) ∙ ap (λ gs. least_of (those gs)) c.as_slice.ensures
