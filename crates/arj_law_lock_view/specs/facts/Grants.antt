-- What a root was granted, against the binding that it keeps.
use Rattle.std.specs.List.{AllByRecursion}
use Rattle.std.specs.Prelude.{⊤, IfSome, ◌≡◌, ◌≢◌, ◌⊎◌, ◌≤◌, ◌*◌, ℕ, Bool, true, false, List, Some}
use Rattle.arj_protocol.specs.Words.{BoundReply, Binding, Header, Uid, last_uid}
use Rattle.arj_protocol.specs.Words.bound
use Rattle.arj_protocol.specs.Words.kind
use Rattle.arj_protocol.specs.Ask.{actor, top_of}
use Rattle.arj_protocol.specs.Call.{At, AtBind, Known, Steps}
use Rattle.arj_protocol.specs.Coord.{Calling, Coord, Doing, Grant, Root, Said, doing_of, is_call, is_retained, kept_of, root_at}
use Rattle.arj_protocol.specs.Named.{Live, Made, Named}
use Rattle.arj_protocol.specs.Naming.{Naming}
use Rattle.arj_protocol.specs.Order.{binding_number}
use Rattle.arj_protocol.specs.Tree.{Branch, branch_of, has_open_child, root_of}
use Rattle.arj_lock.proofs.Members as list
use Rattle.arj_law_parts.specs.parts.Actions.{AreBegun}
use Rattle.arj_law_parts.specs.parts.Copies.{Paths}
use Rattle.arj_law_runs.specs.calls.Coords.{IsSpent}
use Rattle.arj_law_runs.specs.addresses.Binds.{BindsAreKnown, KnowsBinds}
use Rattle.arj_law_runs.specs.kept.Worlds.{IsGood}
use Rattle.arj_law_parts.specs.moves.Keeps.{Keeps}
use Rattle.arj_promise.specs.Runs.{Post, Seen}
use Rattle.arj_law_lock.specs.machine.State.{State}
use Rattle.arj_law_lock_view.specs.view.Acting.{IsFreeToEnd}
use Rattle.arj_law_lock_view.specs.view.Acts.{Acts}
use Rattle.arj_law_lock_view.specs.view.Calling.{IsReached}
use Rattle.arj_law_lock_view.specs.view.Copies.{Codes}
use Rattle.arj_law_lock_view.specs.view.Inputs.{AreTopped, HasLowGrant, SeesWhole, plan_now}
use Rattle.arj_law_lock_view.specs.facts.Worlds as worlds

-- an incarnation of naming isn't above a binding: it has made none before
abbrev pub IsLow : ℕ → Binding → Type 0
IsLow g b = g * 4294967296 ≤ binding_number b

-- an answer of naming grants by an incarnation that isn't above the binding that it names
abbrev pub IsAbove : BoundReply → Type 0
IsAbove (bound.Live b server i g stores) = IsLow g b
IsAbove (bound.Make b server g stores) = IsLow g b
IsAbove r = ⊤

-- so it is of a binding that was made
abbrev pub IsMadeAbove : ℕ → Uid × Made → Type 0
IsMadeAbove inc e = IsLow inc (let m = e.1 in m.binding)

-- so are all bindings of an object at naming
pub record AreAbove (inc : ℕ) (o : Named) : Type 0 where
  pub live : IfSome o.live (λ (l : Live). IsLow inc l.binding)
  pub made : AllByRecursion (IsMadeAbove inc) o.made

-- naming
abbrev pub KnowsMade : Naming → Type 0
KnowsMade n = AllByRecursion (λ (e : ℕ × Named). AreAbove n.inc e.1) n.objects

-- The action's top was granted the object by an incarnation of naming that isn't above this number.
pub record IsGranted (c : Coord) (r : Root) (x n : ℕ) (w : Uid) : Type 0 where
  pub branch : Branch
  pub found : branch_of w c.tree ≡ Some branch
  pub grant : Grant
  pub there : list.In grant r.grants
  pub object : grant.x ≡ x
  pub top : grant.top ≡ top_of branch.path
  pub low : grant.least * 4294967296 ≤ n

-- or so was the top of a call on the object that the serializing action retains
pub record IsRetained (c : Coord) (r : Root) (x n : ℕ) : Type 0 where
  pub said : Said
  pub there : list.In said r.said
  pub object : said.x ≡ x
  pub retained : is_retained said.path c ≡ true
  pub granted : IsGranted c r x n (last_uid said.path)

-- the top was granted the entry's lock so, or its serializing action retains a call on the object
abbrev pub HasGrant : Coord → Root → ℕ → ℕ → Uid → Type 0
HasGrant c r x n w = IsGranted c r x n w ⊎ IsRetained c r x n

-- the step is the Bind
abbrev pub is_bind : At → Bool
is_bind (AtBind avoid) = true
is_bind _ = false

-- Of a coordinator, with the tree of another one: a grant that names a binding isn't above it; where the root keeps a binding of an object,
-- the top of each call on it that was answered and isn't spent has a grant that isn't above it, or the root retains one; and so has the top
-- of each call past its Bind.
pub record KnowsGrantsBy (c e : Coord) : Type 0 where
  pub named : (root : Uid) (g : Grant) (b : Binding) → list.In g (let r = root_at root e in r.grants) → g.named ≡ Some b → IsLow g.least b
  pub said : (root : Uid) (s : Said) (k : Known) → list.In s (let r = root_at root e in r.said) → kept_of s.x (root_at root e) ≡ Some k →
      IsSpent c.tree s.path ⊎ HasGrant c (root_at root e) s.x (binding_number k.binding) (last_uid s.path)
  pub steps : (u : Uid) (d : Doing) (s : Steps) (k : Known) → doing_of u e ≡ Some d → d.now ≡ Calling s → is_call s.goal ≡ true →
      is_bind s.at ≡ false → kept_of s.x (root_at (root_of s.path) e) ≡ Some k →
      HasGrant c (root_at (root_of s.path) e) s.x (binding_number k.binding) (actor s.path)

-- so it is of all calls of a coordinator
abbrev pub KnowsGrants : Coord → Type 0
KnowsGrants c = KnowsGrantsBy c c

-- so much is said by answers to Binds
abbrev pub says_grants : worlds.Said
says_grants = record { request = λ h a. ⊤; answer = IsAbove }

-- So it is at each node, beside good nodes and known Binds.
abbrev pub GrantsAreKnown : Seen → Type 0
GrantsAreKnown M = (IsGood M × BindsAreKnown M) × worlds.Everywhere says_grants KnowsGrants KnowsMade M

-- each handler keeps it
abbrev pub HandlersKeepGrants : Type 0
HandlersKeepGrants = (hd : Header) → Keeps hd GrantsAreKnown

-- As a top's commit is called, the grant that its plan says of an object isn't above the binding that its unit keeps, where a call of the
-- unit counts.
abbrev pub PlansGrantLow : Type 0
PlansGrantLow = (act : Acts) (code : Codes) (paths : Paths) (x : ℕ) (sent : List Post) (node : ℕ) (c : Coord) (u : Uid) (b : Branch)
    (d : Doing) (S : State)
    → IsReached S → (free : IsFreeToEnd act paths c u b d) → AreBegun (let k = free.steady in k.actions) → AreTopped act c →
    b.kind ≢ kind.Serial → b.kind ≢ kind.Nested → has_open_child u c.tree ≡ false
    → KnowsBinds sent node c → KnowsGrants c → SeesWhole act code x c S → HasLowGrant x (act u) (plan_now b c) S
