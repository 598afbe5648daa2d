-- What coordinators have of naming's answers and what messages claim counts on: of new Confirms, what servers' locks give. Where both
-- machines of the object stand in one run that is given.
use Rattle.std.specs.Prelude.{◌≡◌, ℕ, Bool, Some, None}
use Rattle.arj_protocol.specs.Words.{Asked, Head, Message, asks}
use Rattle.arj_protocol.specs.Words.ask
use Rattle.arj_protocol.specs.Ask.{top_of}
use Rattle.arj_protocol.specs.Coord.{Coord, doing_of}
use Rattle.arj_protocol.specs.Confirm.{Grants, Marks}
use Rattle.arj_protocol.specs.Effect.{Disk}
use Rattle.arj_protocol.specs.Naming.{Naming}
use Rattle.arj_protocol.specs.Node.{Parts}
use Rattle.arj_protocol.specs.Order.{uid_number}
use Rattle.arj_protocol.specs.Step.{is_committing}
use Rattle.arj_law_disk.specs.machine.Effects.{World}
use Rattle.arj_law_disk.specs.machine.Guards.{IsNext}
use Rattle.arj_law_disk.specs.machine.Names.{Office}
use Rattle.arj_law_parts.specs.moves.Seen.{In, up}
use Rattle.arj_promise.specs.Runs.{Seen}
use Rattle.arj_law_disk_view.specs.view.Confirming.{IsNewConfirm}
use Rattle.arj_law_disk_view.specs.view.Coordinating.{KnowsNode}
use Rattle.arj_law_disk_view.specs.view.Sees.{Kinds}
use Rattle.arj_law_disk_view.specs.names.Both.{SeesBoth}
use Rattle.arj_law_disk_view.specs.running.Decided.{SeesDecided}
use Rattle.arj_law_disk_view.specs.running.Heard.{SeesHeard}

-- a node of which is known what the disk half counts on, where the relation holds of the machine's state
pub record IsHeardAt (x : ℕ) (R : World → Seen → Type 0) (tops : Kinds) (A : Office) (s : ℕ × Disk × Parts) (M : Seen) : Type 0 where
  pub unwalked : tops.walk ≡ None
  pub knows : KnowsNode tops s.0 s.1 s.2 M
  pub run : R A.world (up s.0 s.1 s.2 M)
  pub both : SeesBoth x tops A (up s.0 s.1 s.2 M)
  pub heard : SeesHeard x tops A (up s.0 s.1 s.2 M)
  pub decided : SeesDecided x tops A (up s.0 s.1 s.2 M)

-- what is carried beside the machine's state
abbrev pub SeesCarried : ℕ → Kinds → Office → Seen → Type 0
SeesCarried x tops A M = SeesHeard x tops A M × SeesDecided x tops A M

-- What naming counts on: of a new Confirm the locks of servers give that what its top wrote is the next version.
pub record GivesNaming (x : ℕ) (R : World → Seen → Type 0) : Type 0 where
  pub next : (tops : Kinds) (k : ℕ) (d : Disk) (t : Parts) (n : Naming) (from : ℕ) (m : Message) (h : Head) (grants : Grants)
      (excluded included : Marks) (M : Seen) (A : Office) → IsHeardAt x R tops A (k, d, t) M →
      In (record { from = from; to = k; message = m }) M.sent → t.naming ≡ Some n → asks m ≡ Some (h, ask.Confirm grants excluded included)
      → IsNewConfirm h.path grants excluded included d.names n → IsNext A.world.disk (uid_number (top_of h.path))

-- the answer is to one whose commit is under way
abbrev pub answers_commit : Asked → Coord → Bool
answers_commit a c = is_committing (doing_of a.act c)
