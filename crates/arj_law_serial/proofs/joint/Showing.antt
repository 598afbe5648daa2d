-- Readings of disks show what they hold and what is in doubt there.
use Rattle.arj_law_parts.proofs.Words
use Words.{◌≡◌, ◌≤◌, ◌&&◌, ℕ, true, List, Option, Some, None, refl, arith, is_some, nat_le, Pair, Node, at_place, Header, World, Post}
use Words.{pair_in}
use Rattle.arj_law_serial.proofs.Terms.{Role, Reading, IsPairOf}
use Rattle.arj_law_parts.specs.moves.Keeps.{Stands}
use Rattle.arj_law_serial.proofs.joint.Listing.{all_there}
use Rattle.arj_law_serial.specs.{joint.Shown.ReadingsShowPairs, order.Readings.ShowsPair}
use Rattle.arj_law_store.proofs.store.Refused.{all_there as pairs_there, no_holder}

shows_pair : (read : Reading) (r : Role) (d : Pair) → IsPairOf (pair_in read r) d → ShowsPair read r d
shows_pair read r d are = record {
  held = are.held;
  free = λ u free. no_holder (pair_in read r) u d.pend (pairs_there (pair_in read r) d are) free;
}

-- a node of the header is there
pub node_there : (hd : Header) (sent : List Post) (w : World) → Stands hd sent w → (s : ℕ) → (nat_le 1 s && nat_le s hd.nodes) ≡ true →
    (n : Node) × (at_place s w.nodes ≡ Some n)
node_there hd sent w stands s place = by (at_place s w.nodes) refl (stands.places s place)
  where
    by : (o : Option Node) → at_place s w.nodes ≡ o → is_some o ≡ true → (n : Node) × (at_place s w.nodes ≡ Some n)
    by None is there = absurd (cc there)
    by (Some n) is there = (n, is)

pub first_place : (n : ℕ) → 1 ≤ n → (nat_le 1 1 && nat_le 1 n) ≡ true
first_place n le = grind (arith, le)

pub readings_show_pairs : ReadingsShowPairs
readings_show_pairs hd sent w disks form stands includes are = record {
  stores = λ s n is. shows_pair (disks s) _ (let d = n.disk in d.store) (let a = are s n is in a.store);
  names = λ n is. shows_pair (disks 1) _ (let d = n.disk in d.names) (let a = are 1 n is in a.names);
  naming = node_there hd sent w stands 1 (first_place hd.nodes some);
  there =
      λ x s among. (let l = all_there hd w.lines form includes x s among in let n = node_there hd sent w stands s l.0 in (n.0, n.1, l.1));
}
  where
    some : 1 ≤ hd.nodes
    some = let w = form.nodes in w.0
