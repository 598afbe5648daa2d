-- Readings that show what is seen on the disks of nodes.
use Rattle.std.specs.Prelude.{◌≡◌, ℕ, true, List, None, Some, is_some, option_map}
use Rattle.arj_base.specs.State.{state_bytes}
use Rattle.arj_base.specs.declared.uid.Uid.{Uid}
use Rattle.arj_disk.specs.declared.slot.Role.{Role}
use Rattle.arj_disk.specs.declared.slot.Role.TheVariants as role
use Rattle.arj_journal.specs.declared.body.Line.{Line}
use Rattle.arj_journal.specs.declared.header.Header.{Header}
use Rattle.arj_model.specs.Disks as says
use Rattle.arj_model.specs.Disks.{Disks, Reading}
use Rattle.arj_model.specs.Last.{is_among, listed, object_line}
use Rattle.arj_protocol.specs.Effect.{Pair, held_at, holder_of}
use Rattle.arj_protocol.specs.Step.{Node}
use Rattle.arj_promise.specs.Runs.{Seen}

-- A reading shows a pair of a role: it holds its states, packed, and what it has in doubt is what it has prepared.
pub record ShowsPair (read : Reading) (r : Role) (d : Pair) : Type 0 where
  pub held : (u : Uid) → says.held read r u ≡ option_map state_bytes (held_at u d)
  pub free : (u : Uid) → (says.InDoubt read r u → ⊥) → holder_of u d ≡ None

-- Each node's reading shows its pairs. Node 1 is there, and so is each listed store of an object, which the header has.
pub record AreShown (header : Header) (lines : List Line) (M : Seen) (disks : Disks) : Type 0 where
  pub stores : (s : ℕ) (n : Node) → M.nodes s ≡ Some n → ShowsPair (disks s) role.Store (let d = n.disk in d.store)
  pub names : (n : Node) → M.nodes 1 ≡ Some n → ShowsPair (disks 1) role.Names (let d = n.disk in d.names)
  pub naming : (n : Node) × (M.nodes 1 ≡ Some n)
  pub there : (x s : ℕ) → is_among (listed header lines x) s ≡ true →
      (n : Node) × (M.nodes s ≡ Some n) × (is_some (object_line header x) ≡ true)
