-- Nodes that are down, one after another.
use Rattle.std.proofs.Common.{◌≡◌, ℕ, ◌+◌, ◌≤◌, ◌<◌, false, List, [], ◌∷◌, ◌++◌, length, map, refl, ap, sym, ◌∙◌, subst, None, Some, arith}
use Rattle.std.specs.Prelude.{if◌then◌else◌, slice_get}
use Rattle.std.proofs.lemmas.List.{length-append, length-map}
use Rattle.std.proofs.lemmas.Bool.{cases_lt}
use Rattle.std.proofs.Math.Logic.{⊎_elim}
use Rattle.arj_core.specs.Steps.{down_with}
use Rattle.arj_core.specs.declared.node.Core.{Ghosts}
use Rattle.arj_disk.specs.FileMap.{FileMap}
use Rattle.arj_journal.specs.declared.header.Header.{Header}
use Rattle.arj_protocol.specs.Effect.{Disk}
use Rattle.arj_protocol.specs.Step.{Node, disk_by, node_by, numbers_to, parts_in}
use Rattle.arj_protocol.specs.Words.{Label}
use Rattle.arj_start.specs.Start.{Start}
use Rattle.arj_world.specs.First.{AreAtRest}
use Rattle.arj_world.specs.Stands.{AreNodes}
use Rattle.arj_world.proofs.First.{before, length_numbers, newest, numbered_at, within}

-- each core is the node of its place, down over whatever disk rests there
abbrev pub AreDown : {C : Type 0} → Ghosts C → Header → List C → Type 0
AreDown core header cores =
    (i : _) (c : _) (file : FileMap) (d : Disk) → slice_get cores i ≡ Some c → core.rests header (i + 1) file d →
    core.stands header c file (down_with (i + 1) d)

module _ {C : Type 0} (core : Ghosts C) (header : Header) where
  pub down_none : AreDown core header []
  down_none i c file d at rests = absurd (cc at)

  pub down_next : (cores : List C) (c : C) (node : ℕ) → AreDown core header cores → node ≡ length cores + 1
      → ((file : FileMap) (d : Disk) → core.rests header node file d → core.stands header c file (down_with node d))
      → AreDown core header (cores ++ c ∷ [])
  down_next cores c node so is one i x file d at rests = ⊎_elim early late (cases_lt i (length cores))
    where
      early : i < length cores → core.stands header x file (down_with (i + 1) d)
      early less = so i x file d (before i cores c x at less) rests

      late : length cores ≤ i → core.stands header x file (down_with (i + 1) d)
      late most =
          let n = newest i cores c x at most in
          let number : node ≡ i + 1 = omega (arith, is, n.0) in
          subst (λ m. core.rests header m file d → core.stands header x file (down_with m d)) number
          (λ r. subst (λ y. core.stands header y file (down_with node d)) n.1 (one file d r)) rests

module _ {C D : Type 0} (core : Ghosts C) (file : D → FileMap) (header : Header) (st : Start) where
  down_at : (n : ℕ) → st.up n ≡ false → node_by header st n ≡ down_with n (disk_by header st n)
  down_at n down = λ i. record {
    number = n;
    disk = disk_by header st n;
    live = if down i then Some (parts_in n (st.incs n + 1) (disk_by header st n)) else None;
  }

  -- they are the nodes of the start whose disks these are
  pub adopts : (given : List Label) (cores : List C) (disks : List D) → AreDown core header cores → length cores ≡ header.nodes →
      AreAtRest core file header st given disks →
      AreNodes core file header cores disks (map (node_by header st) (numbers_to header.nodes))
  adopts given cores disks downs all rest = record {
    cores_count = all;
    nodes_count = length-map (numbers_to header.nodes) (node_by header st) ∙ length_numbers header.nodes;
    disks_count = rest.there;
    numbers = λ i n at. ap (λ (m : Node). m.number) (numbered_at (node_by header st) header.nodes i n at);
    each = λ i c d n at_core at_disk at_node.
        let less : i < header.nodes = omega (arith, within i c cores at_core, all) in
        subst (λ m. core.stands header c (file d) m)
        (sym (numbered_at (node_by header st) header.nodes i n at_node ∙ down_at (i + 1) (rest.down (i + 1) (omega arith) (omega (arith, less)))))
        (downs i c (file d) (disk_by header st (i + 1)) at_core (rest.each i d less at_disk));
  }
