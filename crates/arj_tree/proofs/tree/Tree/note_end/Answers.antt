use Rattle.std.proofs.Common.{◌≡◌, Some, sym, ap, ◌∙◌}
use Rattle.arj_protocol.specs.Tree.{Tree, Branch}
use Rattle.arj_tree.specs.Stands.{with_branch}
use Rattle.arj_tree.proofs.Named.{read_at, read_shown}
use Rattle.arj_tree.proofs.Steps.{stands_ended}
use Rattle.arj_tree.proofs.tree.Tree.note_end.Goals as goal

pub invariant_of-self : goal.invariant_of-self
invariant_of-self c =
    let t = c.self.inside in
    (stands_ended t.node t.inc c.args.place t.actions.items t.opened.entries c.shift_remove.new.self.entries t.tallies c.index_mut.result.now c.end.new.self c.args.outcome c.self.invariant.0 (read_at _ c.args.self.now c.args.place c.index_mut.result.now c.self.view_is c.requires c.index_mut.ensures.value) c.end.ensures c.shift_remove.ensures.entries, c.self.invariant.1)

pub returns : goal.returns
returns c b at =
    let same : Some c.index_mut.result.now ≡ Some b =
    sym (read_shown _ c.args.self.now c.args.place c.index_mut.result.now c.self.view_is c.requires c.index_mut.ensures.value) ∙ at in
    let here : c.index_mut.result.now ≡ b = cc same in
    ap (λ (t : Tree). with_branch c.args.place c.end.new.self t) c.self.view_is
    ∙ ap (λ x. with_branch c.args.place x c.args.self.now) (c.end.ensures ∙ ap (λ (x : Branch). record x {
      ended =
          Some c.args.outcome;
    }) here)
