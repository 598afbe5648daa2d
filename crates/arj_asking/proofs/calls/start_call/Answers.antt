use Rattle.std.proofs.Common.{◌∙◌, ap, ◌≡◌}
use Rattle.std.proofs.lemmas.Result.{IfOk-weaker}
use Rattle.arj_asking.proofs.Trees.{avoid_so, known_so, root_there}
use Rattle.arj_asking.specs.Calls.{renewed_at}
use Rattle.arj_protocol.specs.Ask.{top_of}
use Rattle.arj_protocol.specs.Asking.{call_steps, known_at_start, renewed}
use Rattle.arj_protocol.specs.Call.{Run, start}
use Rattle.arj_protocol.specs.Coord.{Coord, Root, keeping_of, kept_of, on_root, with_keeping, root_at}
use Rattle.arj_protocol.specs.Tree.{root_of}
use Rattle.arj_protocol.specs.Words.{Uid, last_uid}
use Rattle.arj_root.specs.Noted.{of_tree}
use Rattle.arj_asking.proofs.calls.start_call.Goals as goal

pub returns-clause-part : goal.returns-clause-part
returns-clause-part c =
    let old = c.args.coord.now in
    IfOk-weaker c.start.result (λ s. s ≡ start c.args.path.now c.args.x (Run c.args.op) c.in_ok-known.known c.avoid-avoid.result c.args.req)
    (λ _. c.renew.new.self ≡ on_root (root_of c.args.path.now) (with_keeping c.args.x (renewed_at c.args.free c.args.path.now c.args.x old)) old)
    (λ _ _. c.in_ok-renew.ensures ∙ ap (λ (u : Uid). on_root u (λ r. with_keeping c.args.x (renewed c.args.free (keeping_of c.args.x r) ((keeping_of c.args.x r).kept)) r) old) c.root-root.ensures)
    c.start.ensures

pub returns-clause-steps : goal.returns-clause-steps
returns-clause-steps c =
    let p = c.args.path.now in
    let old = c.args.coord.now in
    let x = c.args.x in
    let mid = c.renew.new.self in
    let u = c.root-root.result in
    let k = renewed_at c.args.free p x old in
    let renew : Root → Root = λ r. with_keeping x (renewed c.args.free (keeping_of x r) ((keeping_of x r).kept)) r in
    let mid_is : mid ≡ on_root (root_of p) renew old = c.in_ok-renew.ensures ∙ ap (λ (v : Uid). on_root v renew old) c.root-root.ensures in
    let has_is : root_at u mid ≡ with_keeping x k (root_at (root_of p) old) =
    (λ i. root_at (c.root-root.ensures i) (mid_is i)) ∙ root_there (root_of p) renew old in
    let tree_is : mid.tree ≡ old.tree = ap (λ (d : Coord). d.tree) mid_is in
    let top_is : c.last.result ≡ top_of p = c.last.ensures ∙ ap last_uid c.top_path.ensures.uids in
    let known_is : c.in_ok-known.known ≡ known_at_start (top_of p) x (root_at (root_of p) old) old k.kept =
    c.in_ok-known.ensures ∙ ap (λ (t : Uid). known_at_start t x (root_at u mid) (of_tree mid.tree) (kept_of x (root_at u mid))) top_is
    ∙ known_so (top_of p) x k (root_at (root_of p) old) (root_at u mid) old mid.tree has_is tree_is in
    let avoid_is : c.avoid-avoid.result ≡ k.avoid = c.avoid-avoid.ensures ∙ avoid_so x k (root_at (root_of p) old) (root_at u mid) has_is in
    IfOk-weaker c.start.result (λ s. s ≡ start p x (Run c.args.op) c.in_ok-known.known c.avoid-avoid.result c.args.req)
    (λ s. s ≡ call_steps p x c.args.op c.args.req (root_at (root_of p) old) old k)
    (λ s is. is ∙ (λ i. start p x (Run c.args.op) (known_is i) (avoid_is i) c.args.req)) c.start.ensures
