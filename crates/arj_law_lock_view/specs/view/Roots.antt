-- What a root of a coordinator keeps of the object, and what its calls stand on, as the lock machine has it.
use Rattle.std.specs.Prelude.{Bool, ◌≡◌, ◌⊎◌, ◌≤◌, ℕ, true, false, Option, Some, None, Contains}
use Rattle.arj_protocol.specs.Words.{Uid, Op, Binding, uids_of, last_uid, writes}
use Rattle.arj_protocol.specs.Ask.{actor, top_of}
use Rattle.arj_protocol.specs.Call.{At, AtActivate, AtBind, AtInvoke, AtLoad, AtNote, Known, Run, Steps}
use Rattle.arj_protocol.specs.Coord.{Calling, Coord, Doing, Grant, Keeping, Root, Said, doing_of, is_call, kept_of, keeping_of, root_at}
use Rattle.arj_protocol.specs.Order.{binding_number}
use Rattle.arj_protocol.specs.Tree.{Branch, Tree, branch_of, is_spent, root_of}
use Rattle.arj_law_lock.specs.machine.Actions.{Act, In, root}
use Rattle.arj_law_lock.specs.machine.State as machine
use Rattle.arj_law_lock.specs.machine.State.{Call, Request, State}
use Rattle.arj_law_lock.specs.machine.Steps.{KnowsRecorded}
use Rattle.arj_law_lock_view.specs.view.Acts.{Acts}
use Rattle.arj_law_lock_view.specs.view.Actions.{SeesActions}
use Rattle.arj_law_lock_view.specs.view.Copies.{Codes, state_code}
use Rattle.arj_law_lock_view.specs.view.Going.{IsServedBy}
use Rattle.arj_law_lock_view.specs.view.Named.{IsNamedSo, binding_at}

-- ---- what a root keeps

-- The binding that a root keeps: the machine keeps it for the unit; its server, and the incarnation that was heard of it; if none
-- was it was made for one of the unit's tops; and where it is known to be recorded, an answer said so.
pub record SeesKept (unit : ℕ) (k : Known) (S : State) : Type 0 where
  pub kept : S.kept unit ≡ binding_number k.binding
  pub server : IsServedBy S k.binding k.server
  pub named : (i : ℕ) → k.inc ≡ Some i → IsNamedSo S k.binding i
  pub unnamed : k.inc ≡ None →
      ((let b = binding_at S k.binding in b.named) ≡ false) × (root (let b = binding_at S k.binding in b.maker) ≡ unit)
  pub recorded : k.recorded ≡ true → KnowsRecorded S (binding_number k.binding) × ((i : ℕ) × (k.inc ≡ Some i))

-- or it keeps none, and the machine's isn't above the one to avoid
abbrev pub SeesKeeping : ℕ → Option Known → Binding → State → Type 0
SeesKeeping unit None avoid S = S.kept unit ≤ binding_number avoid
SeesKeeping unit (Some k) avoid S = SeesKept unit k S

-- a call that was answered to one of the root's actions
pub record IsSaid (act : Acts) (u : Uid) (s : Said) (t : Tree) (S : State) : Type 0 where
  pub branch : Branch
  pub there : branch_of (last_uid s.path) t ≡ Some branch
  pub path : uids_of branch.path ≡ s.path
  pub of : root_of branch.path ≡ u
  pub call : Call
  pub called : In call S.calls
  pub by : call.act ≡ act (last_uid s.path)

-- an answer of naming told the top of the binding
abbrev pub HasHeard : Act → ℕ → State → Type 0
HasHeard m b S = In (machine.Live m b) S.net ⊎ In (machine.Made m b) S.net

-- A root: what it keeps; without a binding each of its answered calls is spent; its answered calls are the machine's of the unit;
-- and its tops heard of the bindings that their grants name.
pub record SeesRoot (act : Acts) (x : ℕ) (u : Uid) (r : Root) (t : Tree) (S : State) : Type 0 where
  pub keeping : SeesKeeping (root (act u)) (kept_of x r) (let k = keeping_of x r in k.avoid) S
  pub spent : kept_of x r ≡ None → (s : Said) → Contains r.said s → s.x ≡ x → is_spent s.path t ≡ true
  pub said : (s : Said) → Contains r.said s → s.x ≡ x → IsSaid act u s t S
  pub calls : (d : Call) → In d S.calls → root d.act ≡ root (act u) →
      (s : Said) × Contains r.said s × (s.x ≡ x) × (d.act ≡ act (last_uid s.path))
  pub heard : (g : Grant) (b : Binding) → Contains r.grants g → g.x ≡ x → g.named ≡ Some b → HasHeard (act g.top) (binding_number b) S

-- ---- what a call stands on

-- the root keeps the binding of the call's step
pub record IsTied (kept : Option Known) (k : Known) : Type 0 where
  pub old : Known
  pub is : kept ≡ Some old
  pub same : binding_number old.binding ≡ binding_number k.binding

-- the binding was made for the top, at this server
abbrev pub IsMadeFor : Act → Known → State → Type 0
IsMadeFor m k S = In (machine.Made m (binding_number k.binding)) S.net × IsServedBy S k.binding k.server

-- the Invoke of a call
abbrev pub invoke_of : Acts → Steps → Op → Known → Request
invoke_of act s o k = record { act = act (actor s.path); number = s.req; binding = binding_number k.binding; write = writes o }

-- The step of a call: a Bind avoids what the root avoids; later ones are on the binding that the root keeps, up to the Record one
-- that was made for the top; a state was given to the machine's server, an incarnation was heard, an Invoke was sent.
abbrev pub SeesStep : Acts → Codes → Steps → Op → Keeping → State → At → Type 0
SeesStep act code s o kp S (AtBind avoid) = kp.kept ≡ None → avoid ≡ kp.avoid
SeesStep act code s o kp S (AtLoad k n rest) = IsTied kp.kept k × IsMadeFor (act (top_of s.path)) k S
SeesStep act code s o kp S (AtActivate k st) =
    IsTied kp.kept k × IsMadeFor (act (top_of s.path)) k S × In (machine.Activate (binding_number k.binding) (state_code act code st)) S.net
SeesStep act code s o kp S (AtNote k i) = IsTied kp.kept k × IsMadeFor (act (top_of s.path)) k S × IsNamedSo S k.binding i
SeesStep act code s o kp S (AtInvoke k i) =
    IsTied kp.kept k × IsServedBy S k.binding k.server × IsNamedSo S k.binding i × In (machine.Invoke (invoke_of act s o k)) S.net

-- a Bind or a Load waits
abbrev pub is_early : At → Bool
is_early (AtBind avoid) = true
is_early (AtLoad k n rest) = true
is_early _ = false

-- ---- a coordinator

-- its actions, its roots, and the calls on the object that wait; of it only a call goes past its Load
pub record SeesCoord (act : Acts) (code : Codes) (x : ℕ) (c : Coord) (S : State) : Type 0 where
  pub actions : SeesActions act x c S.action
  pub roots : (u : Uid) (b : Branch) → branch_of u c.tree ≡ Some b → root_of b.path ≡ u → SeesRoot act x u (root_at u c) c.tree S
  pub calls : (u : Uid) (d : Doing) (s : Steps) (o : Op) → doing_of u c ≡ Some d → d.now ≡ Calling s → s.x ≡ x → s.goal ≡ Run o →
      SeesStep act code s o (keeping_of x (root_at (root_of s.path) c)) S s.at
  pub plain : (u : Uid) (d : Doing) (s : Steps) → doing_of u c ≡ Some d → d.now ≡ Calling s → s.x ≡ x → is_early s.at ≡ false →
      is_call s.goal ≡ true
