-- What the files of an image say.
use Rattle.std.specs.Prelude.{◌≡◌, ℕ, ◌&&◌, ◌==◌, if◌then◌else◌, List, [], ◌∷◌, ◌++◌, map, take, drop, get_or, Option, Some, None}
use Rattle.std.specs.List.{AllByRecursion, filter_map}
use Rattle.std.specs.Option.{option_or, unwrap_or}
use Rattle.arj_base.specs.State.{StateInForm}
use Rattle.arj_base.specs.Uid.{uid_eq}
use Rattle.arj_base.specs.declared.uid.Uid.{Uid}
use Rattle.arj_disk.specs.Says.{Record, new_of, role_eq, uid_in}
use Rattle.arj_disk.specs.declared.slot.Role.{Role}
use Rattle.arj_disk.specs.declared.slot.Slot.{Slot}
use Rattle.arj_disk.specs.declared.slot.Slot.TheVariants as slot
use Rattle.arj_image.specs.declared.image.NodeFile.{NodeFile}
use Rattle.arj_model.specs.Disks.{Disks}
use Rattle.arj_saved.specs.Files.{inc_at}
use Rattle.arj_saved.specs.Rows.{is_segment}
use Rattle.arj_saved.specs.declared.kept.Kept.{Kept}
use Rattle.arj_segment_file.specs.Format.{states_in}
use Rattle.arj_store.specs.Pair.{packed}

-- The packed states of a Segment or Pending file, under their Uids, with the node that it is on, and its role.
pub record Rows : Type 0 where
  pub node : ℕ
  pub role : Role
  pub states : List (Uid × List ℕ)

-- those of a Segment file, where it is in its grammar
abbrev pub segment_at : ℕ → Slot → List ℕ → Option Rows
segment_at n (slot.Segment r k) bytes = if is_segment bytes then Some (record { node = n; role = r; states = states_in bytes }) else None
segment_at n _ bytes = None

-- what a Pending file has, nothing where it isn't in its grammar
abbrev pub prepared_in : List ℕ → List (Uid × List ℕ)
prepared_in bytes = if is_segment bytes then states_in bytes else []

-- those of a Pending file
abbrev pub pending_at : ℕ → Slot → List ℕ → Option Rows
pending_at n (slot.Pending r a) bytes = Some (record { node = n; role = r; states = prepared_in bytes })
pending_at n _ bytes = None

-- the Segment files of an image, in their order
abbrev pub segments_in : List NodeFile → List Rows
segments_in files = filter_map (λ f. segment_at f.node f.slot f.bytes) files

-- its Pending files
abbrev pub pendings_in : List NodeFile → List Rows
pendings_in files = filter_map (λ f. pending_at f.node f.slot f.bytes) files

-- the state of a Uid in a file of this node and role
abbrev pub state_in_rows : ℕ → Role → Uid → Rows → Option (List ℕ)
state_in_rows n role u r = if (r.node == n) && role_eq r.role role then new_of r.states u else None

-- the committed state of a Uid: that in the last file that has one
abbrev pub held_among : List Rows → ℕ → Role → Uid → Option (List ℕ)
held_among [] n role u = None
held_among (r ∷ rs) n role u = option_or (held_among rs n role u) (state_in_rows n role u r)

-- what a file has prepared for an action of this node and role
abbrev pub pend_at : ℕ → Role → Uid → ℕ → Slot → List ℕ → Option (List (Uid × List ℕ))
pend_at n role a m (slot.Pending r b) bytes = if (m == n) && (role_eq r role && uid_eq b a) then Some (prepared_in bytes) else None
pend_at n role a m _ bytes = None

-- these states, and those behind them, if there are some
abbrev pub join_states : Option (List (Uid × List ℕ)) → Option (List (Uid × List ℕ)) → Option (List (Uid × List ℕ))
join_states None rest = rest
join_states (Some es) rest = Some (es ++ unwrap_or rest [])

-- what an action has prepared
abbrev pub pend_among : List NodeFile → ℕ → Role → Uid → Option (List (Uid × List ℕ))
pend_among [] n role a = None
pend_among (f ∷ fs) n role a = join_states (pend_at n role a f.node f.slot f.bytes) (pend_among fs n role a)

-- what the bytes of a record say
abbrev pub record_of : List ℕ → Record
record_of bytes = record { root = uid_in (take 16 (drop 4 bytes)); nodes = take (get_or bytes 36 0) (drop 37 bytes) }

-- the record of a top in a file of this node
abbrev pub record_at : ℕ → Uid → ℕ → Slot → List ℕ → Option Record
record_at n top m (slot.Intent u) bytes = if (m == n) && uid_eq u top then Some (record_of bytes) else None
record_at n top m _ bytes = None

-- its record
abbrev pub record_among : List NodeFile → ℕ → Uid → Option Record
record_among [] n top = None
record_among (f ∷ fs) n top = option_or (record_at n top f.node f.slot f.bytes) (record_among fs n top)

-- What the disk of each node says: of each role the committed states, and what is prepared; the records; and the incarnation.
abbrev pub disks_of : List NodeFile → Disks
disks_of files n = record {
  held = λ role u. held_among (segments_in files) n role u;
  pend = λ role a. pend_among files n role a;
  records = λ top. record_among files n top;
  inc = unwrap_or (inc_at files n) 0;
}

-- the states of a file, as they are kept
abbrev pub rows_of : Kept → Rows
rows_of k = record { node = k.node; role = k.role; states = packed k.states }

-- These are kept of some files, each state in form.
pub record AreKept (rows : List Rows) (kept : List Kept) : Type 0 where
  pub shown : map rows_of kept ≡ rows
  pub in_form : AllByRecursion (λ k. AllByRecursion StateInForm k.states) kept
