-- What coordinators have of naming's answers, and what messages claim of them, as a relation between the machine's state and what
-- is seen: what it has to give so that naming's half is kept beside the disk half, and what has to be kept of it.
use Rattle.std.specs.Prelude.{◌≡◌, ◌+◌, ◌==◌, ℕ, Bool, true, false, List, [], Option, None, Some}
use Rattle.std.specs.List.{list_any}
use Rattle.arj_protocol.specs.Words.{Uid, Body, Header, Kind, Label, Message}
use Rattle.arj_protocol.specs.Asking.{again_all, begin_action}
use Rattle.arj_protocol.specs.Coord.{Coord}
use Rattle.arj_protocol.specs.Effect.{Did, Disk, Effect, Intent}
use Rattle.arj_protocol.specs.Follow.{tick_outs}
use Rattle.arj_protocol.specs.Naming.{Naming}
use Rattle.arj_protocol.specs.Node.{Parts, Took, handle, is_meant, with_coord}
use Rattle.arj_protocol.specs.Order.{uid_number}
use Rattle.arj_protocol.specs.Step.{Input, acts, begin_refusal, parent_of, parts_in, refusal_up, restart_outs}
use Rattle.arj_protocol.specs.Tree.{next_uid, path_below}
use Rattle.arj_law_disk.specs.machine.Effects.{World}
use Rattle.arj_law_disk.specs.machine.Names.{Office}
use Rattle.arj_law_parts.specs.moves.Keeps.{IsAtStarts, MayGive, is_act, label_at}
use Rattle.arj_law_parts.specs.moves.Seen.{AreQuiet, In, at, down, given, said, up}
use Rattle.arj_promise.specs.Runs.{Seen}
use Rattle.arj_law_parts.specs.moves.Walks.{Walks, Up, halted}
use Rattle.arj_law_disk_view.specs.view.Coordinating.{KnowsNode}
use Rattle.arj_law_disk_view.specs.view.Knows.{IsOfKind, KnowsKinds}
use Rattle.arj_law_disk_view.specs.view.Sees.{Kinds}
use Rattle.arj_law_disk_view.specs.names.Both.{OnlyAnswers, OnlyFound, SeesBoth}
use Rattle.arj_law_disk_view.specs.names.Handlers.{Change, Changes, IsForGrants, MayGoOn, MayRecord, Quietly, change_by}
use Rattle.arj_law_disk_view.specs.running.Kinds.{AreOfTops}
use Rattle.arj_law_disk_view.specs.running.Sound.{IsOwnVote}
use Rattle.arj_start.specs.Kinds.{is_serial}

-- ---- a step

-- What a node does in an event: from this disk and memory on, these effects, and the memory that is left.
pub record Going : Type 0 where
  pub event : ℕ
  pub node : ℕ
  pub disk : Disk
  pub before : Parts
  pub outs : List Effect
  pub after : Parts

-- a coordinator's part of a step
abbrev pub going_of : ℕ → ℕ → Disk → Parts → Did Coord → Going
going_of e k d t did = record { event = e; node = k; disk = d; before = t; outs = did.outs; after = with_coord t did.part }

-- a node's tick
abbrev pub ticking : ℕ → ℕ → Disk → Parts → Going
ticking e k d t = record {
  event = e;
  node = k;
  disk = d;
  before = t;
  outs = tick_outs (record { number = k; disk = d; live = Some t }) t;
  after = with_coord t (again_all t.coord.doings t.coord).part;
}

-- ---- what is kept

-- it holds of each state that comes of this one by such changes
abbrev pub HoldsFrom : (Kinds → Office → Seen → Type 0) → ℕ → Kinds → Change → Office → Seen → Type 0
HoldsFrom P x tops o A N = (B : Office) → Changes o A B → SeesBoth x tops B N → P tops B N

-- this holds at each work of a step, however a stop falls on it, and at its end
abbrev pub HoldsAlong : (Seen → Type 0) → Going → Seen → Type 0
HoldsAlong H g M = Walks H g.event g.node g.outs (Up H g.node g.after) g.disk M

-- First answers are taken and given in the machine, of which nothing else changes; and from there it holds along the step.
pub record HasHeard (P : Kinds → Office → Seen → Type 0) (x : ℕ) (tops : Kinds) (o : Change) (A : Office) (s : Going × Seen) : Type 0 where
  pub office : Office
  pub only : OnlyAnswers A office
  pub both : SeesBoth x tops office (let g = s.0 in up g.node g.disk g.before s.1)
  pub along : HoldsAlong (HoldsFrom P x tops o office) s.0 s.1

-- and of each that comes of it by a restart which decides none but these
abbrev pub HoldsAgain : (Kinds → Office → Seen → Type 0) → ℕ → Kinds → (ℕ → Bool) → Office → Seen → Type 0
HoldsAgain P x tops g A N = (B : Office) → OnlyFound g A B → SeesBoth x tops B N → P tops B N

-- these tops have a record
abbrev pub are_recorded : List (Uid × Intent) → ℕ → Bool
are_recorded intents z = list_any (λ (e : Uid × Intent). uid_number e.0 == z) intents

-- The relation is kept by lines, by a node that stops, and by each handler; with a message to naming it gives what a Record and a new
-- Confirm count on; and of each commit that is past its votes it gives that it may begin.
pub record KeepsPart (hd : Header) (x : ℕ) (R : World → Seen → Type 0) (P : Kinds → Office → Seen → Type 0) : Type 0 where
  pub quiet : (tops : Kinds) (e : ℕ) (bs : List Body) (M : Seen) (A : Office) → tops.walk ≡ None → AreQuiet bs → R A.world M →
      SeesBoth x tops A M → P tops A M → HoldsFrom P x tops Quietly A (said e bs M)
  pub stop : (tops : Kinds) (e k : ℕ) (d : Disk) (live : Option Parts) (M : Seen) (A : Office) → tops.walk ≡ None → R A.world
      (at k d live M) → SeesBoth x tops A (at k d live M) → P tops A (at k d live M) → HoldsFrom P x tops Quietly A (halted e k d M)
  pub message : (tops : Kinds) (e k : ℕ) (d : Disk) (t v : Parts) (from : ℕ) (m : Message) (outs : List Effect) (M : Seen) (A : Office) →
      tops.walk ≡ None → KnowsNode tops k d t M → R A.world (up k d t M)
      → In (record { from = from; to = k; message = m }) M.sent → is_meant t m ≡ true → handle k d t from m ≡ Took v outs →
      AreOfTops tops m → IsOwnVote m → SeesBoth x tops A (up k d t M) → P tops A (up k d t M)
      → (h : HasHeard P x tops (change_by x d t m) A (record { event = e; node = k; disk = d; before = t; outs = outs; after = v }, M))
      × MayGoOn x h.office v.coord × ((n : Naming) → t.naming ≡ Some n → MayRecord x d n m h.office × IsForGrants x d n m h.office)
  pub act : (tops : Kinds) (e k : ℕ) (d : Disk) (t : Parts) (i : Input) (M : Seen) (A : Office) → tops.walk ≡ None → KnowsNode tops k d t M
      → R A.world (up k d t M) → is_act i ≡ true → refusal_up hd i t.coord ≡ None → SeesBoth x tops A (up k d t M) → P tops A (up k d t M)
      → (h : HasHeard P x tops Quietly A (going_of e k d t (acts i d.intents t.coord), M))
      × MayGoOn x h.office (let did = acts i d.intents t.coord in did.part)
  pub begin : (tops : Kinds) (e k : ℕ) (d : Disk) (t : Parts) (l : Label) (how : Kind) (parent : Option Label) (M : Seen) (A : Office) →
      tops.walk ≡ None → KnowsNode tops k d t M → R A.world (up k d t M)
      → label_at l M.labels ≡ None → MayGive M.labels k how parent → begin_refusal how t.coord parent ≡ None →
      IsOfKind tops (next_uid t.coord.tree) how (path_below how (parent_of parent t.coord) (next_uid t.coord.tree)) →
      SeesBoth x tops A (up k d t M) → P tops A (up k d t M)
      → HoldsAlong (HoldsFrom P x tops Quietly A) (going_of e k d t (begin_action l how parent (parent_of parent t.coord) t.coord))
      (given l (record { node = k; serial = is_serial how }) M)
  pub tick : (tops : Kinds) (e k : ℕ) (d : Disk) (t : Parts) (M : Seen) (A : Office) → tops.walk ≡ None → KnowsNode tops k d t M → R A.world
      (up k d t M) → SeesBoth x tops A (up k d t M) → P tops A (up k d t M) → HoldsAlong (HoldsFrom P x tops Quietly A) (ticking e k d t) M
  pub restart : (tops : Kinds) (e k : ℕ) (d : Disk) (M : Seen) (A : Office) → tops.walk ≡ None → R A.world (down k d M) →
      SeesBoth x tops A (down k d M) → P tops A (down k d M)
      → Walks (HoldsAgain P x tops (are_recorded d.intents) A) e k (restart_outs hd k (d.inc + 1) d)
      (Up (HoldsAgain P x tops (are_recorded d.intents) A) k (parts_in k (d.inc + 1) d)) d M
  pub first : (tops : Kinds) → tops.walk ≡ None → KnowsKinds tops → IsAtStarts hd (λ M. (A : Office) × SeesBoth x tops A M × P tops A M
      × (A.world.disk.tops ≡ []) × ((t : ℕ) → A.world.disk.bare t ≡ false))
