-- Of which class an object's states are, on disks, in memory and in messages, where all states are of objects; and which form entries have.
use Rattle.std.specs.Prelude.{⊤, ◌≡◌, ℕ, List, Option, Some, None}
use Rattle.std.specs.List.{AllByRecursion}
use Rattle.arj_base.specs.Uid.{entry, object}
use Rattle.arj_base.specs.declared.state.Format.{Format}
use Rattle.arj_class.specs.Table.{own_class}
use Rattle.arj_model.specs.Last.{entry_payload, first_values, object_line, servers_of_line}
use Rattle.arj_protocol.specs.Words.{Class, Header, ObjectState, Uid, Value}
use Rattle.arj_protocol.specs.Words.class
use Rattle.arj_protocol.specs.Words.role
use Rattle.arj_protocol.specs.Copy.{Copy, Over}
use Rattle.arj_protocol.specs.Effect.{Disk, Do, Effect, Pair, Prepare, Say, Send, Work}
use Rattle.arj_protocol.specs.Node.{Parts}
use Rattle.arj_protocol.specs.Order.{at_uid}
use Rattle.arj_protocol.specs.Step.{Node}
use Rattle.arj_protocol.specs.Values.{state_entry, state_value}
use Rattle.arj_law_disk_view.specs.running.States.{CoordIsSo, Fits, MessageIsSo, Own}
use Rattle.arj_law_parts.specs.moves.Keeps.{Keeps}
use Rattle.arj_start.specs.Start.{format_at}
use Rattle.arj_law_parts.specs.moves.Seen.{In}
use Rattle.arj_promise.specs.Runs.{HeaderFits, Post, Seen}

-- ---- states

-- a state of the object is of this class, also where it says that the object is gone
abbrev pub OfClass : ℕ → Class → Uid → ObjectState → Type 0
OfClass x k u st = u ≡ object x → own_class (state_value st) ≡ k

-- a state of the object's entry is an entry with these servers, in this format until it was written
abbrev pub OfEntry : ℕ → List ℕ → Format → Uid → ObjectState → Type 0
OfEntry x servers first u st =
    u ≡ entry x → (st.class ≡ class.Entry) × (st.payload ≡ entry_payload servers (let e = state_entry st in e.stores))
    × (st.format ≡ format_at first st.version)

-- Each state that is held is its own object's, and so, and each that is prepared is so under its own Uid.
pub record PairIsSo (P : Uid → ObjectState → Type 0) (d : Pair) : Type 0 where
  pub held : (u : Uid) (st : ObjectState) → at_uid u d.held ≡ Some st → P u st × (st.uid ≡ u)
  pub pend : AllByRecursion (λ (e : Uid × List ObjectState). AllByRecursion (Own P) e.1) d.pend

-- ---- copies

-- a copy's own value and those of its overlays are so
pub record HasValues (V : Value → Type 0) (c : Copy) : Type 0 where
  pub base : V (let b = c.base in b.value)
  pub over : AllByRecursion (λ (o : Over). V o.value) c.stack

-- they are of an object of this class
abbrev pub IsCopyOf : Class → Copy → Type 0
IsCopyOf k c = HasValues (λ v. own_class v ≡ k) c

-- the copy of the object is so
abbrev pub CopyIsSo : ℕ → Class → ℕ → Copy → Type 0
CopyIsSo x k y c = y ≡ x → IsCopyOf k c

-- ---- nodes

-- Of object x: its class, the servers of its entry, and the format of what nobody has written.
pub record Kind : Type 0 where
  pub x : ℕ
  pub class : Class
  pub servers : List ℕ
  pub format : Format

-- the states of stores are of objects; and those of naming
abbrev pub stored : Kind → Uid → ObjectState → Type 0
stored k u st = (u ≡ object u.num) × OfClass k.x k.class u st

-- the states of naming are entries of the object
abbrev pub listed : Kind → Uid → ObjectState → Type 0
listed k = OfEntry k.x k.servers k.format

-- those of stores, wherever they are
abbrev pub so_of : Kind → Fits
so_of k = record { loaded = stored k; voted = stored k; kept = stored k }

-- The states on a disk have their forms.
pub record DiskIsSo (k : Kind) (d : Disk) : Type 0 where
  pub store : PairIsSo (stored k) d.store
  pub names : PairIsSo (listed k) d.names

-- So have the states in memory.
pub record PartsAreSo (k : Kind) (t : Parts) : Type 0 where
  pub server : AllByRecursion (λ (e : ℕ × Copy). CopyIsSo k.x k.class e.0 e.1) (let s = t.server in s.objects)
  pub coord : CoordIsSo (so_of k) t.coord

-- what a node does: what it prepares, and what it sends
abbrev pub WorkIsSo : Kind → Work → Type 0
WorkIsSo k (Prepare role.Store u states) = AllByRecursion (Own (stored k)) states
WorkIsSo k (Prepare role.Names u states) = AllByRecursion (Own (listed k)) states
WorkIsSo k _ = ⊤

-- so have the states of an effect
abbrev pub EffectIsSo : Kind → Effect → Type 0
EffectIsSo k (Send to m) = MessageIsSo (so_of k) m
EffectIsSo k (Say b) = ⊤
EffectIsSo k (Do w) = WorkIsSo k w

-- and those of all effects
abbrev pub AllAreSo : Kind → List Effect → Type 0
AllAreSo k outs = AllByRecursion (EffectIsSo k) outs

-- so have those of a node's memory, where it is up
abbrev pub UpIsSo : Kind → Option Parts → Type 0
UpIsSo k None = ⊤
UpIsSo k (Some t) = PartsAreSo k t

-- so have those of a node
abbrev pub NodeIsSo : Kind → Node → Type 0
NodeIsSo k n = DiskIsSo k n.disk × UpIsSo k n.live

-- of every node, and of every message that was ever sent
abbrev pub AreSo : Kind → Seen → Type 0
AreSo k M =
    ((j : ℕ) (n : Node) → M.nodes j ≡ Some n → NodeIsSo k n) × ((p : Post) → In p M.sent → MessageIsSo (so_of k) (let q = p in q.message))

-- ---- runs

-- by the header
abbrev pub kind_of : Header → ℕ → Kind
kind_of hd x = record { x = x; class = own_class (first_values hd x); servers = servers_of_line (object_line hd x); format = hd.format }

-- each handler keeps it
abbrev pub FormsAreKept : Type 0
FormsAreKept = (hd : Header) (x : ℕ) → HeaderFits hd → Keeps hd (AreSo (kind_of hd x))
