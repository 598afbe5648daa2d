use Rattle.std.proofs.Common.{ap, ◌∙◌}
use Rattle.arj_protocol.specs.Tree.{Tree}
use Rattle.arj_tree.specs.Stands.{with_branch}
use Rattle.arj_tree.proofs.Named.{read_at, read_shown}
use Rattle.arj_tree.proofs.Steps.{stands_doomed, doomed_is}
use Rattle.arj_tree.proofs.tree.Tree.doom.Goals as goal

pub invariant_of-self : goal.invariant_of-self
invariant_of-self c =
    let t = c.self.inside in
    (stands_doomed t.node t.inc c.in-Some.place t.actions.items t.opened.entries t.tallies c.index_mut.result.now c.doom.new.self c.self.invariant.0 (read_at _ c.args.self.now c.in-Some.place c.index_mut.result.now c.self.view_is c.in-Some.ensures.within c.index_mut.ensures.value) c.doom.ensures, c.self.invariant.1)

pub returns-in-Some : goal.returns-in-Some
returns-in-Some c =
    ap (λ (t : Tree). with_branch c.in-Some.place c.doom.new.self t) c.self.view_is
    ∙ doomed_is c.args.action c.args.self.now c.in-Some.place c.index_mut.result.now c.doom.new.self c.in-Some.ensures
    (read_shown _ c.args.self.now c.in-Some.place c.index_mut.result.now c.self.view_is c.in-Some.ensures.within c.index_mut.ensures.value) c.doom.ensures
