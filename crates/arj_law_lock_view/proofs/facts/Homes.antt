-- Each request is by an action of the node that sent it, in every run.
use Rattle.arj_law_parts.proofs.Words
use Words.{Bool, None, Some, ap, cond, eqb-true, false, refl, sym, true, ℕ, ⊎_elim, ◌==◌, ◌∙◌, ◌≡◌, Ask, Head, Header, Message, asks, Coord}
use Words.{Doing, Post, Send, acked, actor, acts, again_all, heard, and_parts, at_place, is_own}
use Rattle.arj_law_lock_view.proofs.Terms
use Terms.{GoesOn, IsTree, Keeps, SendsSo, begun_tree, paths_of, well_acked, well_acts, well_again, well_heard}
use Rattle.arj_law_lock_view.proofs.facts.CoordRuns.{IsKeptBy, PlaceAt, Sender, coords_keep}
use Rattle.arj_law_lock_view.specs.facts.Homes.{AreHome, RequestsAreHome}
use Rattle.arj_law_parts.proofs.parts.Settled.{node_on}

-- who asks is of the coordinator's node
own_node : (e : Coord) (to : ℕ) (m : Message) → SendsSo e (Send to m) → (h : Head) (a : Ask) → asks m ≡ Some (h, a) →
    (actor h.path).node ≡ e.tree.node
own_node e to m so h a is = let s = so h a is in eqb-true (actor h.path).node e.tree.node
    (and_parts ((actor h.path).node == e.tree.node) ((actor h.path).inc == e.tree.inc) (by (is_own (actor h.path) e.tree) refl s.found)).0
  where
    by : {d : Doing} (b : Bool) → is_own (actor h.path) e.tree ≡ b → cond b (at_place (actor h.path).num e.doings) None ≡ Some d →
        is_own (actor h.path) e.tree ≡ true
    by true own found = own
    by false own found = absurd (cc found)

-- the coordinator is of this node
abbrev IsOf : Sender → Coord → Type 0
IsOf s c = c.tree.node ≡ s.node

module _ (s : Sender) (c : Coord) (place : PlaceAt s c) (its : IsOf s c) where
  goes_on : (e : Coord) → GoesOn c e → IsOf s e
  goes_on e on = sym (node_on c e on) ∙ its

  tree : IsTree (paths_of place.actions)
  tree = begun_tree place.actions place.begun

home_kept : IsKeptBy AreHome IsOf
home_kept = record {
  none = λ p h a there. absurd there;
  new = λ s inc telling fresh. refl;
  apart = λ s c p other its. its;
  sends = λ s c to m stands so all its. (
    (λ p h a there is. ⊎_elim (λ same. own_node c to m so h a (ap (λ (q : Post). asks q.message) same ∙ is) ∙ its
        ∙ ap (λ (q : Post). q.from) same) (λ old. all p h a old is) there),
    its,
  );
  hears = λ s c place from a r intents posted fits meant its. goes_on s c place its (heard from a r intents c).part
      (well_heard place.actions (paths_of place.actions) (tree s c place its) from a r intents c place.good).0;
  acks = λ s c place from u intents its. goes_on s c place its (acked from u intents c).part
      (well_acked place.actions (paths_of place.actions) (tree s c place its) from u intents c).0;
  does = λ s c place intents hd i free other its. goes_on s c place its (acts i intents c).part (well_acts place.actions
      (paths_of place.actions) (tree s c place its) intents c place.good (let f = place.faithful in f.works) hd i free other).0;
  begins = λ s c place l how parent its. its;
  asks = λ s c place its. goes_on s c place its (again_all c.doings c).part
      (well_again place.actions (paths_of place.actions) (tree s c place its) c place.good).0;
}

pub home_keep : (hd : Header) → Keeps hd RequestsAreHome
home_keep hd = coords_keep AreHome IsOf home_kept hd
