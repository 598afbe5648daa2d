-- One object at the naming service, as the lock machine has it.
use Rattle.std.specs.Prelude.{◌≡◌, ◌≤◌, ◌<◌, ◌⊎◌, ℕ, ◌+◌, ◌*◌, true, false, Some, None}
use Rattle.arj_protocol.specs.Words.{Uid, Binding, entry, is_on}
use Rattle.arj_protocol.specs.Named.{Named, Made, Live}
use Rattle.arj_protocol.specs.Order.{at_uid, binding_number}
use Rattle.arj_law_lock.specs.machine.Actions.{In, is_top}
use Rattle.arj_law_lock.specs.machine.State as machine
use Rattle.arj_law_lock.specs.machine.State.{State}
use Rattle.arj_law_parts.specs.parts.Rows.{Told}
use Rattle.arj_law_lock_view.specs.view.Acts.{Acts}
use Rattle.arj_law_lock_view.specs.view.Rows.{SeesRows}

-- a binding of the protocol as one of the machine
abbrev pub binding_at : State → Binding → machine.Binding
binding_at S b = S.binding (binding_number b)

-- the root of the binding's maker heard this incarnation of its server
abbrev pub IsNamedSo : State → Binding → ℕ → Type 0
IsNamedSo S b i = ((let c = binding_at S b in c.named) ≡ true) × ((let c = binding_at S b in c.incarnation) ≡ i)

-- the live binding's server, of which its maker's root heard this incarnation
pub record SeesLive (l : Live) (S : State) : Type 0 where
  pub server : (let b = binding_at S l.binding in b.server) ≡ l.server
  pub named : (let b = binding_at S l.binding in b.named) ≡ true
  pub incarnation : (let b = binding_at S l.binding in b.incarnation) ≡ l.inc

-- the last binding that was made for a top, and told to it
pub record SeesMade (act : Acts) (t : Uid) (m : Made) (S : State) : Type 0 where
  pub last : S.naming.made (act t) ≡ binding_number m.binding
  pub server : (let b = binding_at S m.binding in b.server) ≡ m.server
  pub maker : (let b = binding_at S m.binding in b.maker) ≡ act t
  pub sent : In (machine.Made (act t) (binding_number m.binding)) S.net
  pub noted : m.recorded ≡ true → In (machine.Recorded (binding_number m.binding)) S.net

-- Naming as far as one object needs it: who was told of its end, the incarnation, and the count of bindings.
pub record Place : Type 0 where
  pub told : Told
  pub inc : ℕ
  pub count : ℕ

-- naming has the last binding that the machine's made for the top
abbrev pub HasLast : Acts → Named → machine.Naming → Uid → Type 0
HasLast act o n t = (m : Made) × (at_uid t o.made ≡ Some m) × (binding_number m.binding ≡ n.made (act t))

-- An object at naming: its locks, which binding is recorded, live and made for whom, and who asked by an include, unless it was
-- told of its end. Bindings that are still to be made are new to the machine, and what that made last for a top whose end it wasn't told is
-- there.
pub record SeesNamed (act : Acts) (x : ℕ) (n : Place) (o : Named) (S : State) : Type 0 where
  pub rows : SeesRows act (entry x) o.rows S.naming.rows
  pub bound : S.naming.bound ≤ binding_number (record { inc = n.inc; count = n.count + 1 })
  pub first : S.naming.first ≡ n.inc * 4294967296
  pub recorded : (b : Binding) → o.recorded ≡ Some b → S.naming.recorded ≡ binding_number b
  pub unrecorded : o.recorded ≡ None → S.naming.recorded < S.naming.first
  pub known : (b : Binding) → o.recorded ≡ Some b → In (machine.Recorded (binding_number b)) S.net
  pub live : (l : Live) → o.live ≡ Some l → SeesLive l S
  pub made : (t : Uid) (m : Made) → at_uid t o.made ≡ Some m → SeesMade act t m S
  pub asked : (t : Uid) → S.naming.asked (act t) ≡ true → (n.told t ≡ true) ⊎ (is_on o.asked t ≡ true)
  pub making : (t : Uid) → is_top (act t) ≡ true → S.naming.first ≤ S.naming.made (act t) → S.naming.told (act t) ≡ false →
      HasLast act o S.naming t
