-- Cores over segment stores save their files.
use Rattle.arj_law_parts.proofs.Words.{◌≡◌, ℕ, Option, Some, None, refl, Node, Header, Disk, Here}
use Rattle.arj_disk.specs.FileMap.{FileMap}
use Rattle.arj_disk.specs.declared.slot.Role.{Role}
use Rattle.arj_disk.specs.declared.slot.Role.TheVariants as role
use Rattle.arj_law_images.specs.Saving.{AreSaved}
use Rattle.arj_law_nodes.specs.nodes.Readings.{reading_of}
use Rattle.arj_node.specs.{Lives.IsLive, Lives.IsNode, declared.node.NodeCore.NodeCore}
use Rattle.arj_node.specs.declared.parts.Parts as parts
use Rattle.arj_recover.specs.OnDisk.{IsFormed}
use Rattle.arj_segment.specs.Formed as segment
use Rattle.arj_segment.specs.Says.{pair_of}
use Rattle.arj_store.specs.declared.store.ObjectStore.{Ghosts}

-- a store whose files are a segment store's
pub record IsSegments {O : Type 0} (o : Ghosts O) : Type 0 where
  pub formed : (file : FileMap) (r : Role) → o.formed file r → segment.IsFormed file r
  pub pair : (file : FileMap) (r : Role) → o.pair file r ≡ pair_of file r

pub formed_saved : {O : Type 0} (o : Ghosts O) → IsSegments o → (file : FileMap) → IsFormed o file → AreSaved file (reading_of o file)
formed_saved o its file f = record {
  formed = both;
  incarnation = f.incarnation;
  held = λ r u. (λ i. let p = its.pair file r i in p.held u);
  pend = λ r a. (λ i. let p = its.pair file r i in p.pend a);
  records = λ top. refl;
  inc = refl;
}
  where
    both : (r : Role) → segment.IsFormed file r
    both role.Store = its.formed file role.Store f.store
    both role.Names = its.formed file role.Names f.names

-- a core has the files of its parts
pub nodes_save : {P O : Type 0} (p : parts.Ghosts P) (o : Ghosts O) → IsSegments o →
    ((header : Header) (k : ℕ) (file : FileMap) (d : Disk) → p.rests header k file d → IsFormed o file) →
    ((header : Header) (k : ℕ) (one : P) (file : FileMap) (h : Here) → p.stands header k one file h → IsFormed o file) →
    (header : Header) (one : NodeCore P) (file : FileMap) (n : Node) → IsNode p header one file n → AreSaved file (reading_of o file)
nodes_save {P} p o its down up header one file n stands = by one.parts stands.live
  where
    by : (l : Option P) → IsLive p header one.number l file n → AreSaved file (reading_of o file)
    by None (d, is, rests) = formed_saved o its file (down header one.number file d rests)
    by (Some t) (h, is, on) = formed_saved o its file (up header one.number t file h on)
