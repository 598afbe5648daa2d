-- The machine goes along: a run of it from the state that is seen to one that is seen again.
use Rattle.std.specs.Prelude.{⊤, ◌≡◌, ◌<◌, ◌*◌, ℕ, Option, Some}
use Rattle.arj_protocol.specs.Words.{Uid, BoundReply, RecordedReply, Binding}
use Rattle.arj_protocol.specs.Words.bound
use Rattle.arj_protocol.specs.Words.recorded
use Rattle.arj_protocol.specs.Order.{binding_number}
use Rattle.arj_law_lock.specs.machine.Actions.{In}
use Rattle.arj_law_lock.specs.machine.Machine.{Run}
use Rattle.arj_law_lock.specs.machine.State as machine
use Rattle.arj_law_lock.specs.machine.State.{State}
use Rattle.arj_law_lock_view.specs.view.Acts.{Acts}
use Rattle.arj_law_lock_view.specs.view.Named.{IsNamedSo, binding_at}

-- The machine goes to a state in which this holds.
pub record Goes (S : State) (P : State → Type 0) : Type 0 where
  pub state : State
  pub run : Run S state
  pub holds : P state

-- Only naming's part changed, bindings were made that were new, messages were sent, and who is confirmed once.
pub record OnlyNaming (S T : State) : Type 0 where
  pub rest : T ≡ record S { naming = T.naming; binding = T.binding; confirmed = T.confirmed; net = T.net }
  pub bindings : (b : ℕ) → b < S.naming.bound → T.binding b ≡ S.binding b
  pub sent : (m : machine.Message) → In m S.net → In m T.net

-- nobody was confirmed anew
abbrev pub NobodyConfirmed : State → State → Type 0
NobodyConfirmed S T = T.confirmed ≡ S.confirmed

-- naming confirmed whom it had confirmed, in this incarnation and ever
abbrev pub SameConfirmed : State → State → Type 0
SameConfirmed S T = (T.naming.confirmed ≡ S.naming.confirmed) × NobodyConfirmed S T

-- and was told of nobody else
abbrev pub NobodyTold : State → State → Type 0
NobodyTold S T = (T.naming.told ≡ S.naming.told) × SameConfirmed S T

-- a granted binding's server in the machine
abbrev pub IsServedBy : State → Binding → ℕ → Type 0
IsServedBy T b server = (let c = binding_at T b in c.server) ≡ server

-- What an answer to a Bind shows to the top: a live binding, or one that is made for it, above the one to avoid; or the write
-- lock for an include, with the first binding of naming's incarnation.
abbrev pub ShowsBound : Acts → Uid → Binding → State → Option BoundReply → Type 0
ShowsBound act t avoid T (Some (bound.Live b server i g stores)) =
    In (machine.Live (act t) (binding_number b)) T.net × IsServedBy T b server × IsNamedSo T b i × (binding_number avoid < binding_number b)
ShowsBound act t avoid T (Some (bound.Make b server g stores)) = In (machine.Made (act t) (binding_number b)) T.net × IsServedBy T b server
    × ((let c = binding_at T b in c.maker) ≡ act t) × (binding_number avoid < binding_number b)
ShowsBound act t avoid T (Some (bound.Write g stores)) = In (machine.Granted (act t) (g * 4294967296)) T.net
ShowsBound act t avoid T _ = ⊤

-- what an answer to a Record shows: the binding is recorded
abbrev pub ShowsNoted : Binding → State → Option RecordedReply → Type 0
ShowsNoted b T (Some recorded.Yes) = In (machine.Recorded (binding_number b)) T.net
ShowsNoted b T _ = ⊤
