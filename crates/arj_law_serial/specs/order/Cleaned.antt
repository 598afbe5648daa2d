-- Disks that are seen, of one object: they hold its last state and its entry, by the journal.
use Rattle.std.specs.Prelude.{◌≡◌, ℕ, true, List, None, Some}
use Rattle.arj_base.specs.declared.state.Class.TheVariants as class
use Rattle.arj_base.specs.declared.state.ObjectState.{ObjectState}
use Rattle.arj_base.specs.Uid.{entry, object}
use Rattle.arj_journal.specs.declared.body.Line.{Line}
use Rattle.arj_journal.specs.declared.header.Header.{Header}
use Rattle.arj_model.specs.Last.{entry_from, entry_payload, first_values, is_among, last_from, listed, object_line, servers_of_line}
use Rattle.arj_start.specs.Start.{Mark, Marks, format_at}
use Rattle.arj_law.specs.Growth.{first_stores}
use Rattle.arj_protocol.specs.Effect.{held_at, holder_of}
use Rattle.arj_protocol.specs.Order.{uid_number}
use Rattle.arj_protocol.specs.Step.{Node}
use Rattle.arj_protocol.specs.Values.{state_entry}
use Rattle.arj_law_disk.specs.machine.State.{Packed, State}
use Rattle.arj_law_disk_view.specs.view.Pairs.{content_of}
use Rattle.arj_promise.specs.Runs.{Seen}

-- what is held with this mark
abbrev pub marked : Mark → List ℕ → Packed
marked m content = record { version = m.version; writer = uid_number m.writer; content = content }

-- the machine began with the object's first value, and with its first stores, of these marks
pub record BeginsSo (header : Header) (marks : Marks) (x : ℕ) (S : State) : Type 0 where
  pub state : S.first
      ≡ marked (marks.states x) (content_of (format_at header.format (let m = marks.states x in m.version)) (first_values header x))
  pub entry : S.first_entry ≡ marked (marks.entries x) (first_stores header x)

-- What stands of the object's entry on disks is an entry, with the header's servers, in the header's format until it was written.
abbrev pub HaveForm : Header → ℕ → Seen → Type 0
HaveForm header x M = (n : Node) (st : ObjectState) → M.nodes 1 ≡ Some n → held_at (entry x) (let d = n.disk in d.names) ≡ Some st →
    (st.class ≡ class.Entry) × (st.payload ≡ entry_payload (servers_of_line (object_line header x)) (let e = state_entry st in e.stores))
    × (st.format ≡ format_at header.format st.version)

-- Clean, of one object: where no prepared action names its entry, the entry is the journal's, counted from where the run began; and each
-- listed store where none names the object's state holds its last state.
pub record IsCleanIn (header : Header) (lines : List Line) (x : ℕ) (M : Seen) : Type 0 where
  pub names : (n : Node) → M.nodes 1 ≡ Some n → holder_of (entry x) (let d = n.disk in d.names) ≡ None →
      held_at (entry x) (let d = n.disk in d.names) ≡ Some (entry_from header M.start.marks lines x)
  pub stores : (n m : Node) (s : ℕ) → M.nodes 1 ≡ Some n → M.nodes s ≡ Some m → is_among (listed header lines x) s ≡ true →
      holder_of (entry x) (let d = n.disk in d.names) ≡ None → holder_of (object x) (let d = m.disk in d.store) ≡ None
      → held_at (object x) (let d = m.disk in d.store) ≡ Some (last_from header M.start.marks lines x)
