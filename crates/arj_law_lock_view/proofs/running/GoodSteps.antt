-- What a good node gives: its coordinator is steady, and its server is of the actions that were begun.
use Rattle.arj_law_parts.proofs.Words.{◌≡◌, ◌∙◌, ℕ, List, subst, Message, Uid, Effect, Parts, Took, handle}
use Rattle.arj_law_lock_view.proofs.Terms
use Terms.{AreBegun, action_of, IsUp, own_of_disk, tops_of_disk, IsPlaced, IsSteady, AreOneTree, IsOfFamily, Case, IsSeenIn, Spot, world_at}
use Terms.{family_of}
use Rattle.arj_law_lock_view.specs.running.Beside.{KnowsServer}
use Rattle.arj_law_parts.proofs.parts.SaidIncs.{truly_handled}
use Rattle.arj_law_parts.specs.parts.{Incs.IsTrulyHandled, Nodes.IsGoodNode}
use Rattle.arj_law_runs.proofs.kept.Handled.{it}
use Rattle.arj_law_runs.specs.kept.Worlds.{IsGood}

module _ (c : Case) (s : Spot) (seen : IsSeenIn c (world_at s)) where
  abbrev tree_of : AreOneTree (family_of c.fixed c.begun)
  tree_of = let a = seen.agrees in a.whole

  pub its : IsUp c.begun (let M = s.seen in M.sent) (let M = s.seen in M.labels) s.node (let d = s.disk in d.inc) s.parts
  its = it 0 s.node s.disk s.parts s.seen (c.begun, seen.good)

  pub good_node : IsGoodNode c.begun (let f = c.fixed in f.paths) s.parts
  good_node = its.good (let f = c.fixed in f.paths) tree_of.tree tree_of.agree

  pub steady : IsSteady (let f = c.fixed in f.act) (let f = c.fixed in f.paths) (let t = s.parts in t.coord)
  steady = record {
    actions = c.begun;
    good = good_node.coord;
    alike = tree_of.alike;
    whole = tree_of.tree;
    works = (let f = its.faithful in f.works);
    placed = λ u b found. subst (λ (w : Uid). IsPlaced (let f = c.fixed in f.act w) b.kind) (let g = good_node.coord in let r = g.tree in
        let l = r.lists in l.places u b found) (tree_of.placed (action_of b) (let g = good_node.coord in g.known u b found));
  }

  pub steady_begun : AreBegun (let z = steady in z.actions)
  unfolding steady
  steady_begun = tree_of.begun

  pub of_family : KnowsServer c s → IsOfFamily (family_of c.fixed c.begun) (let t = s.parts in t.server)
  of_family knows = record { good = good_node.server; knows = good_node.knows; listed = knows.listed }

  -- a server stays in the incarnation of the disk
  pub server_level : (from : ℕ) (m : Message) (v : Parts) (outs : List Effect) → handle s.node s.disk s.parts from m ≡ Took v outs →
      (let w = v.server in w.inc) ≡ (let d = s.disk in d.inc)
  server_level from m v outs is =
      let g : IsGood (world_at s) = (c.begun, seen.good) in
      let f = c.fixed in
      let t : IsTrulyHandled s.node s.parts (Took v outs) = subst (IsTrulyHandled s.node s.parts) is
      (truly_handled s.node s.parts c.begun f.paths tree_of.tree good_node.coord s.disk (own_of_disk 0 s.node s.disk s.parts s.seen g)
      from m (tops_of_disk 0 s.node s.disk s.parts s.seen g)) in
      t.1 ∙ its.server
