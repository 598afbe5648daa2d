use Rattle.std.proofs.Common.{ap, ◌∙◌, ◌≡◌, ◌++◌, Some}
use Rattle.arj_asking.proofs.Calling.{include_so, include_waits, used_is, with_path}
use Rattle.arj_protocol.specs.Asking as asking
use Rattle.arj_protocol.specs.Tree.{Tree, branch_of}
use Rattle.arj_tree.specs.Stands.{path_of_branch}
use Rattle.arj_asking.proofs.calls.include.Goals as goal

pub wait_now-requires : goal.wait_now-requires
wait_now-requires c =
    include_waits c.args.action c.in-Some.path c.args.x c.args.store c.next_request-req.result c.in_ok-steps.steps c.in_ok-steps.ensures c.in-Some.ensures.named c.requires.node

pub returns-clause-part : goal.returns-clause-part
returns-clause-part c =
    let old = c.args.coord.now in
    let u = c.args.action in
    let p = c.in-Some.path in
    let there : Some p ≡ path_of_branch (branch_of u old.tree) =
    c.in-Some.ensures.path ∙ ap (λ (t : Tree). path_of_branch (branch_of u t)) c.tree.ensures in
    with_path (λ q. c.wait_now.new.coord ≡ (asking.include q c.args.x c.args.store old).part) u old.tree p there
    (include_so (λ d. c.wait_now.new.coord ≡ d.part) p c.args.x c.args.store u c.next_request-req.result old c.use_object.new.self c.in_ok-steps.steps c.in-Some.ensures.named c.next_request-req.ensures
    (c.in_ok-use_object.ensures.used ∙ ap (λ (t : Tree). record old {
      tree =
          t;
    }) (used_is u c.args.x old.tree p there)) c.in_ok-steps.ensures c.in_ok-wait_now.ensures.part)

pub returns-clause-outs : goal.returns-clause-outs
returns-clause-outs c =
    let old = c.args.coord.now in
    let u = c.args.action in
    let p = c.in-Some.path in
    let there : Some p ≡ path_of_branch (branch_of u old.tree) =
    c.in-Some.ensures.path ∙ ap (λ (t : Tree). path_of_branch (branch_of u t)) c.tree.ensures in
    with_path (λ q. c.wait_now.new.outs ≡ c.args.outs.now ++ (asking.include q c.args.x c.args.store old).outs) u old.tree p there
    (include_so (λ d. c.wait_now.new.outs ≡ c.args.outs.now ++ d.outs) p c.args.x c.args.store u c.next_request-req.result old c.use_object.new.self c.in_ok-steps.steps c.in-Some.ensures.named c.next_request-req.ensures
    (c.in_ok-use_object.ensures.used ∙ ap (λ (t : Tree). record old {
      tree =
          t;
    }) (used_is u c.args.x old.tree p there)) c.in_ok-steps.ensures c.in_ok-wait_now.ensures.outs)
