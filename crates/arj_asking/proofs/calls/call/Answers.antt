use Rattle.std.proofs.Common.{ap, ◌∙◌, ◌≡◌, ◌++◌, Some}
use Rattle.arj_asking.proofs.Calling.{call_so, call_waits, used_is, with_path}
use Rattle.arj_asking.specs.Calls.{renewed_at}
use Rattle.arj_protocol.specs.Asking as asking
use Rattle.arj_protocol.specs.Coord.{is_free, root_at}
use Rattle.arj_protocol.specs.Tree.{Tree, branch_of, root_of}
use Rattle.arj_tree.specs.Stands.{path_of_branch}
use Rattle.arj_asking.proofs.calls.call.Goals as goal

pub wait_now-requires : goal.wait_now-requires
wait_now-requires c =
    let used = c.use_object.new.self in
    let p = c.in-Some.path in
    call_waits c.args.action p c.args.x c.args.op c.next_request-req.result (root_at (root_of p) used) used (renewed_at c.is_free-free.result p c.args.x used) c.in_ok-steps.steps
    c.in_ok-steps.ensures.steps c.in-Some.ensures.named

pub returns-clause-part : goal.returns-clause-part
returns-clause-part c =
    let old = c.args.coord.now in
    let u = c.args.action in
    let p = c.in-Some.path in
    let there : Some p ≡ path_of_branch (branch_of u old.tree) =
    c.in-Some.ensures.path ∙ ap (λ (t : Tree). path_of_branch (branch_of u t)) c.tree.ensures in
    with_path (λ q. c.wait_now.new.coord ≡ (asking.call q c.args.x c.args.op old).part) u old.tree p there
    (call_so (λ d. c.wait_now.new.coord ≡ d.part) p c.args.x c.args.op u c.is_free-free.result c.next_request-req.result old c.use_object.new.self c.start_call.new.coord c.in_ok-steps.steps
    c.in-Some.ensures.named (c.is_free-free.ensures ∙ ap (λ r. is_free r u c.args.x old) c.root.ensures) c.next_request-req.ensures
    (c.in_ok-use_object.ensures.used ∙ ap (λ (t : Tree). record old { tree = t }) (used_is u c.args.x old.tree p there))
    c.in_ok-steps.ensures.part c.in_ok-steps.ensures.steps c.in_ok-wait_now.ensures.part)

pub returns-clause-outs : goal.returns-clause-outs
returns-clause-outs c =
    let old = c.args.coord.now in
    let u = c.args.action in
    let p = c.in-Some.path in
    let there : Some p ≡ path_of_branch (branch_of u old.tree) =
    c.in-Some.ensures.path ∙ ap (λ (t : Tree). path_of_branch (branch_of u t)) c.tree.ensures in
    with_path (λ q. c.wait_now.new.outs ≡ c.args.outs.now ++ (asking.call q c.args.x c.args.op old).outs) u old.tree p there
    (call_so (λ d. c.wait_now.new.outs ≡ c.args.outs.now ++ d.outs) p c.args.x c.args.op u c.is_free-free.result c.next_request-req.result old c.use_object.new.self c.start_call.new.coord c.in_ok-steps.steps
    c.in-Some.ensures.named (c.is_free-free.ensures ∙ ap (λ r. is_free r u c.args.x old) c.root.ensures) c.next_request-req.ensures
    (c.in_ok-use_object.ensures.used ∙ ap (λ (t : Tree). record old { tree = t }) (used_is u c.args.x old.tree p there))
    c.in_ok-steps.ensures.part c.in_ok-steps.ensures.steps c.in_ok-wait_now.ensures.outs)
