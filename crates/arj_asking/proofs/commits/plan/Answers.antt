use Rattle.std.proofs.Common.{◌≡◌, ◌∙◌, ap, Option}
use Rattle.std.proofs.lemmas.Result.{IfOk-weaker}
use Rattle.std.specs.Prelude.{unwrap_or}
use Rattle.arj_asking.proofs.Trees.{plan_same}
use Rattle.arj_protocol.specs.Ask.{actor}
use Rattle.arj_protocol.specs.Asking.{last_req}
use Rattle.arj_protocol.specs.Coord.{Root, doing_of, no_root, plan_for, root_at}
use Rattle.arj_protocol.specs.Tree.{root_of}
use Rattle.arj_protocol.specs.Words.{Uid}
use Rattle.arj_root.specs.Noted.{of_tree}
use Rattle.arj_asking.proofs.commits.plan.Goals as goal

pub returns-in-Some-clause-plan : goal.returns-in-Some-clause-plan
returns-in-Some-clause-plan c =
    let p = c.args.path.now in
    let old = c.args.coord.now in
    let root_is : c.in-Some.root.now ≡ root_at (root_of p) old =
    ap (λ (o : Option Root). unwrap_or o no_root) c.in-Some.ensures ∙ ap (λ (u : Uid). root_at u old) c.root.ensures in
    let req_is : c.last_request-req.result ≡ last_req (doing_of (actor p) old) =
    c.last_request-req.ensures ∙ ap (λ (u : Uid). last_req (doing_of u old)) c.last.ensures in
    IfOk-weaker c.plan.result _ _
    (λ plan is. is ∙ (λ i. plan_for p (req_is i) (root_is i) (of_tree (c.tree.ensures i))) ∙ plan_same p (last_req (doing_of (actor p) old)) (root_at (root_of p) old) old)
    c.plan.ensures.plan
