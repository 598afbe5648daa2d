use Rattle.std.proofs.Common.{◌≡◌, ◌+◌, ◌++◌, ◌∷◌, [], length, nat_eq, rules, sym, ap, ◌∙◌}
use Rattle.indexmap.specs.IndexMap.{insert_entry}
use Rattle.arj_protocol.specs.Tree.{Tree, next_uid}
use Rattle.arj_tree.proofs.Steps.{same_stands, stands_begun}
use Rattle.arj_tree.proofs.tree.Tree.begin.Goals as goal

pub invariant_of-self-2 : goal.invariant_of-self-2
invariant_of-self-2 c =
    let t = c.self.inside in
    let named : c.next-uid.result ≡ record { node = t.node; inc = t.inc; num = length t.actions.items + 1 } =
    c.next-uid.ensures ∙ ap (λ (t : Tree). next_uid t) (sym c.self.view_is) in
    let put : c.insert.new.self.entries ≡ insert_entry nat_eq t.opened.entries c.next-uid.result.num c.path_below-path.result = search rules in (
      same_stands t.node t.inc _ _ _ _ _ _
          (c.push_reserved.ensures.items ∙ (λ i. c.reserve.ensures.items i ++ c.new.ensures i ∷ []))
          put
          c.in_ok-count.ensures.counted
          (stands_begun t.node t.inc t.actions.items t.opened.entries t.tallies c.next-uid.result c.path_below-path.result c.args.kind c.root.result.num c.self.invariant.0 named c.path_below-path.ensures.last c.path_below-path.ensures.single),
      c.self.invariant.1,
    )
