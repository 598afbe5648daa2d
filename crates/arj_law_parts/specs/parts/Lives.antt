-- Which copies of servers naming and coordinators know. What is known of bindings and of servers is a parameter: the server of
-- each binding, by its number, and a test of what each server reached in an incarnation.
use Rattle.std.specs.Prelude.{◌≡◌, ℕ, Bool, true, List, [], Option, Some, None, ⊤}
use Rattle.std.specs.List.{AllByRecursion}
use Rattle.arj_protocol.specs.Words.{Uid, Asked, Binding, Head, Ask, BoundReply, LoadedReply, ObjectState, asks}
use Rattle.arj_protocol.specs.Words.ask
use Rattle.arj_protocol.specs.Words.bound
use Rattle.arj_protocol.specs.Words.loaded
use Rattle.arj_protocol.specs.Ask.{Reply}
use Rattle.arj_protocol.specs.Asking.{waits_for_call}
use Rattle.arj_protocol.specs.Call.{Known, At, AtBind, AtLoad, AtActivate, AtNote, AtInvoke, CallStep, On, Ended, Moved, Steps, next_ask}
use Rattle.arj_protocol.specs.Commit.{Used, plan_of}
use Rattle.arj_protocol.specs.Coord.{Coord, Doing, Keeping, Root, Now, Idle, Calling, Committing, doing_of}
use Rattle.arj_protocol.specs.Effect.{Effect, Say, Send, Do}
use Rattle.arj_protocol.specs.Named.{Named, Made, Live}
use Rattle.arj_protocol.specs.Naming.{Naming}
use Rattle.arj_protocol.specs.Order.{binding_number}

-- the server of each binding's number; no binding has number 0, and no server
abbrev pub Homes : Type 0
Homes = ℕ → ℕ

-- Whether a server reached the binding of this number, of an object, in this incarnation: it had a copy under it, or under a later one.
abbrev pub Reach : Type 0
Reach = ℕ → ℕ → ℕ → ℕ → Bool

-- the server of a binding
abbrev pub home_of : Homes → Binding → ℕ
home_of home b = home (binding_number b)

-- the server reached the binding of the object, in this incarnation
abbrev pub IsReached : Reach → ℕ → ℕ → Binding → ℕ → Type 0
IsReached reach server x b i = reach server x (binding_number b) i ≡ true

-- the server reached some binding in this incarnation
abbrev pub HasReachedSome : Reach → ℕ → ℕ → Type 0
HasReachedSome reach server i = (x : ℕ) × (n : ℕ) × (reach server x n i ≡ true)

-- no server is in incarnation 0 any more: all that is named there counts as reached
abbrev pub IsPastZero : Reach → Type 0
IsPastZero reach = (server x n : ℕ) → reach server x n 0 ≡ true

-- ---- naming

-- a live binding of the object is to its server, which reached it in the incarnation that is named
abbrev pub IsLiveSo : Homes → Reach → ℕ → Option Live → Type 0
IsLiveSo home reach x None = ⊤
IsLiveSo home reach x (Some l) = (l.server ≡ home_of home l.binding) × IsReached reach l.server x l.binding l.inc

-- a binding that was made is to its server
abbrev pub IsMadeSo : Homes → Uid × Made → Type 0
IsMadeSo home e = (let m = e.1 in m.server) ≡ home_of home (let m = e.1 in m.binding)

-- what naming has of an object
pub record IsNamedSo (home : Homes) (reach : Reach) (x : ℕ) (o : Named) : Type 0 where
  pub live : IsLiveSo home reach x o.live
  pub made : AllByRecursion (IsMadeSo home) o.made

-- so it is of all objects of naming
abbrev pub IsNamingSo : Homes → Reach → Naming → Type 0
IsNamingSo home reach n = AllByRecursion (λ (e : ℕ × Named). IsNamedSo home reach e.0 e.1) n.objects

-- ---- messages

-- A request to a server goes to the binding's server. An Invoke names a binding of the object and an incarnation in which the
-- server reached it, and so does a Record; a Vote names an incarnation in which the server reached some binding.
abbrev pub NamesAsk : Homes → Reach → ℕ → Ask → Type 0
NamesAsk home reach to (ask.Activate b st) = to ≡ home_of home b
NamesAsk home reach to (ask.Record x b i g) = IsReached reach (home_of home b) x b i
NamesAsk home reach to (ask.Invoke x b i ends op) = (to ≡ home_of home b) × IsReached reach to x b i
NamesAsk home reach to (ask.Vote i ties ends) = HasReachedSome reach to i
NamesAsk home reach to _ = ⊤

-- so it is of a request, where the message is one
abbrev pub NamesAsked : Homes → Reach → ℕ → Option (Head × Ask) → Type 0
NamesAsked home reach to None = ⊤
NamesAsked home reach to (Some a) = NamesAsk home reach to a.1

-- so it is of a message that is sent
abbrev pub NamesEffect : Homes → Reach → Effect → Type 0
NamesEffect home reach (Send to m) = NamesAsked home reach to (asks m)
NamesEffect home reach (Say b) = ⊤
NamesEffect home reach (Do w) = ⊤

-- so it is of all effects
abbrev pub AllName : Homes → Reach → List Effect → Type 0
AllName home reach outs = AllByRecursion (NamesEffect home reach) outs

-- an answer to a Bind of the object
abbrev pub NamesBound : Homes → Reach → ℕ → BoundReply → Type 0
NamesBound home reach x (bound.Live b server i g stores) = (server ≡ home_of home b) × IsReached reach server x b i
NamesBound home reach x (bound.Make b server g stores) = server ≡ home_of home b
NamesBound home reach x (bound.Write g stores) = ⊤
NamesBound home reach x (bound.Conflict holder m) = ⊤

-- an answer to a Bind of the object, where it is one
abbrev pub NamesBind : Homes → Reach → ℕ → Reply → Type 0
NamesBind home reach x (Reply.Bound r) = NamesBound home reach x r
NamesBind home reach x _ = ⊤

-- an answer of this node to an Activate
abbrev pub NamesActivate : Reach → ℕ → Binding → ObjectState → Reply → Type 0
NamesActivate reach from b st (Reply.Activated i) = IsReached reach from (let u = st.uid in u.num) b i
NamesActivate reach from b st _ = ⊤

-- it is no answer to a Bind
abbrev pub IsUnbound : Reply → Type 0
IsUnbound (Reply.Bound r) = ⊥
IsUnbound _ = ⊤

-- an answer of this node to the request
abbrev pub NamesReply : Homes → Reach → ℕ → Ask → Reply → Type 0
NamesReply home reach from (ask.Bind x include avoid) r = NamesBind home reach x r
NamesReply home reach from (ask.Activate b st) r = NamesActivate reach from b st r × IsUnbound r
NamesReply home reach from _ r = IsUnbound r

-- a state that was loaded is of the object
abbrev pub IsLoadedOf : ℕ → LoadedReply → Type 0
IsLoadedOf x (loaded.State st) = (let u = st.uid in u.num) ≡ x
IsLoadedOf x (loaded.InDoubt holder) = ⊤

-- so is the state that an answer brings, where it brings one
abbrev pub IsOfObject : ℕ → Reply → Type 0
IsOfObject x (Reply.Loaded r) = IsLoadedOf x r
IsOfObject x _ = ⊤

-- ---- coordinators

-- what is known of a binding of the object: its server, and an incarnation in which the server reached it
abbrev pub IsKnownSo : Homes → Reach → ℕ → Known → Type 0
IsKnownSo home reach x k = (k.server ≡ home_of home k.binding) × ((i : ℕ) → k.inc ≡ Some i → IsReached reach k.server x k.binding i)

-- so it is of what a root keeps, if anything
abbrev pub IsKeptSo : Homes → Reach → ℕ → Option Known → Type 0
IsKeptSo home reach x None = ⊤
IsKeptSo home reach x (Some k) = IsKnownSo home reach x k

-- a step of a call on the object; what it activates is the object's
abbrev pub IsAtSo : Homes → Reach → ℕ → At → Type 0
IsAtSo home reach x (AtBind avoid) = ⊤
IsAtSo home reach x (AtLoad k s rest) = IsKnownSo home reach x k
IsAtSo home reach x (AtActivate k st) = IsKnownSo home reach x k × ((let u = st.uid in u.num) ≡ x)
IsAtSo home reach x (AtNote k i) = IsKnownSo home reach x k × IsReached reach k.server x k.binding i
IsAtSo home reach x (AtInvoke k i) = IsKnownSo home reach x k × IsReached reach k.server x k.binding i

-- so it is of the step that a call goes on to
abbrev pub IsStepSo : Homes → Reach → ℕ → CallStep → Type 0
IsStepSo home reach x (On at) = IsAtSo home reach x at
IsStepSo home reach x (Ended e) = ⊤

-- a step of a call: what it goes on to, and what the root keeps
abbrev pub IsMovedSo : Homes → Reach → ℕ → Moved → Type 0
IsMovedSo home reach x m = IsStepSo home reach x m.step × IsKeptSo home reach x m.kept

-- what a plan uses was reached by its server in the incarnation that the plan names
abbrev pub IsUsedSo : Homes → Reach → Used → Type 0
IsUsedSo home reach u = IsReached reach u.server u.x u.binding u.inc

-- so it is of all that a root keeps
abbrev pub IsRootSo : Homes → Reach → Root → Type 0
IsRootSo home reach r = AllByRecursion (λ (e : ℕ × Keeping). IsKeptSo home reach e.0 (let k = e.1 in k.kept)) r.keeping

-- what an action waits for: the step of a call, or what the plan of a commit uses
abbrev pub IsNowSo : Homes → Reach → Now → Type 0
IsNowSo home reach Idle = ⊤
IsNowSo home reach (Calling s) = IsAtSo home reach s.x s.at
IsNowSo home reach (Committing m) = AllByRecursion (IsUsedSo home reach) (let p = plan_of m in p.used)

-- What a coordinator knows of servers: in what waits, and in what its roots keep.
pub record KnowsServers (home : Homes) (reach : Reach) (c : Coord) : Type 0 where
  pub works : (u : Uid) (d : Doing) → doing_of u c ≡ Some d → IsNowSo home reach d.now
  pub roots : AllByRecursion (λ (e : ℕ × Root). IsRootSo home reach e.1) c.roots

-- where a call waits for this answer of the node, it answers what the call asked, about its object
abbrev pub FitsCall : Homes → Reach → ℕ → Asked → Reply → Coord → Type 0
FitsCall home reach from a r c = (d : Doing) (s : Steps) → doing_of a.act c ≡ Some d → d.now ≡ Calling s →
    waits_for_call from a r s ≡ true → NamesReply home reach from (next_ask [] s) r × IsOfObject s.x r
