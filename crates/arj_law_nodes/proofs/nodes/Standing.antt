-- A core says what its parts say.
use Rattle.arj_law_parts.proofs.Words.{Option, Some, None, sym, subst, IsReadingOf, Node, Header}
use Rattle.arj_law_nodes.proofs.Terms.{FileMap, Reads}
use Rattle.arj_law_nodes.specs.nodes.Cores.{PartsSayReadings}
use Rattle.arj_node.specs.{Lives.IsLive, Lives.IsNode, declared.node.NodeCore.NodeCore}
use Rattle.arj_node.specs.declared.parts.Parts as parts

pub nodes_say : {P : Type 0} (p : parts.Ghosts P) (read : Reads) → PartsSayReadings p read →
    (header : Header) (one : NodeCore P) (file : FileMap) (n : Node) → IsNode p header one file n → IsReadingOf (read file) n.disk
nodes_say {P} p read says header one file n stands = by one.parts stands.live
  where
    by : (o : Option P) → IsLive p header one.number o file n → IsReadingOf (read file) n.disk
    by None (d, is, rests) = subst (λ (m : Node). IsReadingOf (read file) m.disk) (sym is) (says.down header one.number file d rests)
    by (Some t) (h, is, on) = subst (λ (m : Node). IsReadingOf (read file) m.disk) (sym is) (says.up header one.number t file h on)
