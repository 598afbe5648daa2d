-- Tops of the journal by their numbers in the disk machine, and journals that are tied to the lock machines.
use Rattle.arj_law_parts.proofs.Words
use Words.{⊤, ◌≡◌, ◌==◌, ℕ, Bool, true, List, [], ◌∷◌, is_some, Contains, list_any, uid_number, Header, Line, Seen}
use Rattle.arj_law_serial.proofs.Terms
use Terms.{acts, Top, tops, first_values, object_line, uid_of_id, Done, IsTied, IsOrderedSo}
use Terms.state as lock
use Rattle.arj_law_disk.specs.machine.State.{State}
use Rattle.arj_law_serial.specs.order.Tied.{AreTied}

-- the top is one of these
abbrev pub is_one_of : List Top → Top → Bool
is_one_of ts t = list_any (λ (u : Top). u.id == t.id) ts

-- its number in the disk machine
abbrev pub number_of : List Line → Top → ℕ
number_of lines t = uid_number (uid_of_id (acts lines) t.id)

-- a decided top of the machine is this one of the journal
pub record IsNamed (lines : List Line) (d : Done) (t : Top) : Type 0 where
  pub listed : Contains (tops lines) t
  pub number : d.top ≡ number_of lines t

-- so each, one by one
abbrev pub AreNamed : List Line → List Done → List Top → Type 0
AreNamed lines [] [] = ⊤
AreNamed lines (d ∷ ds) (t ∷ ts) = IsNamed lines d t × AreNamed lines ds ts
AreNamed lines ds ts = ⊥

-- the state of the disk machine
abbrev pub disk_of : {hd : Header} {x : ℕ} {M : Seen} → IsOrderedSo hd x M → State
disk_of o = (let b = o.begun in let j = b.journalled in let W = j.machine in W.disk)

-- The journal is tied to the lock machines: of objects of which a call was answered, and of those of the header.
pub record AreLockTied (hd : Header) (lines : List Line) : Type 0 where
  pub called : AreTied (first_values hd) lines
  pub listed : (x : ℕ) → is_some (object_line hd x) ≡ true → (S : lock.State) × IsTied (first_values hd) lines x S
