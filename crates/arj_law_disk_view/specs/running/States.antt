-- What holds of states wherever a coordinator has them, sends them or hears of them.
use Rattle.std.specs.Prelude.{⊤, ◌≡◌, ℕ, List, Option, Some, None, IfSome}
use Rattle.std.specs.List.{AllByRecursion}
use Rattle.arj_protocol.specs.Words.{Ask, Asked, Head, Message, ObjectState, Uid, asks}
use Rattle.arj_protocol.specs.Words.ask
use Rattle.arj_protocol.specs.Words.loaded
use Rattle.arj_protocol.specs.Words.voted
use Rattle.arj_protocol.specs.Ask.{Reply, answers}
use Rattle.arj_protocol.specs.Call.{At, AtActivate, CallEnd, CallStep, Ended, Included, On}
use Rattle.arj_protocol.specs.Commit.{Plan, Used, plan_of}
use Rattle.arj_protocol.specs.Coord.{Calling, Committing, Coord, Doing, Idle, Joined, Now, Root, doing_of}
use Rattle.arj_protocol.specs.Effect.{Do, Effect, Prepare, Say, Send, Work}

-- What holds of a state, under a Uid: of one that a store answers and a call takes to a server; of one that a server votes and a commit
-- has as changed; and of any that a root keeps, a plan includes or a store is to prepare.
pub record Fits : Type 1 where
  pub loaded : Uid → ObjectState → Type 0
  pub voted : Uid → ObjectState → Type 0
  pub kept : Uid → ObjectState → Type 0

-- what was loaded or voted may be kept
pub record MayKeep (F : Fits) : Type 0 where
  pub loaded : (u : Uid) (st : ObjectState) → F.loaded u st → F.kept u st
  pub voted : (u : Uid) (st : ObjectState) → F.voted u st → F.kept u st

-- under its own Uid
abbrev pub Own : (Uid → ObjectState → Type 0) → ObjectState → Type 0
Own P st = P st.uid st

-- and of this object
abbrev pub OwnOf : (Uid → ObjectState → Type 0) → ℕ → ObjectState → Type 0
OwnOf P x st = Own P st × ((let u = st.uid in u.num) ≡ x)

-- ---- messages

-- the states of a request fit: of an Activate as loaded ones, of a Prepare as those of stores
abbrev pub AskIsSo : Fits → Ask → Type 0
AskIsSo F (ask.Activate b st) = Own F.loaded st
AskIsSo F (ask.Prepare states) = AllByRecursion (Own F.kept) states
AskIsSo F _ = ⊤

-- so it is of a request, where the message is one
abbrev pub AskedIsSo : Fits → Option (Head × Ask) → Type 0
AskedIsSo F None = ⊤
AskedIsSo F (Some a) = AskIsSo F a.1

-- the states of an answer fit: of a Load as loaded ones, of a vote as voted ones
abbrev pub ReplyIsSo : Fits → Reply → Type 0
ReplyIsSo F (Reply.Loaded (loaded.State st)) = Own F.loaded st
ReplyIsSo F (Reply.Voted (voted.Yes states)) = AllByRecursion (Own F.voted) states
ReplyIsSo F _ = ⊤

-- so it is of an answer, where the message is one
abbrev pub AnsweredIsSo : Fits → Option (Asked × Reply) → Type 0
AnsweredIsSo F None = ⊤
AnsweredIsSo F (Some a) = ReplyIsSo F a.1

-- the states of a message fit
abbrev pub MessageIsSo : Fits → Message → Type 0
MessageIsSo F m = AskedIsSo F (asks m) × AnsweredIsSo F (answers m)

-- ---- coordinators

-- the state that a step about this object takes to a server
abbrev pub AtIsSo : Fits → ℕ → At → Type 0
AtIsSo F x (AtActivate k st) = OwnOf F.loaded x st
AtIsSo F x _ = ⊤

-- and the one that an include loaded
abbrev pub EndIsSo : Fits → ℕ → CallEnd → Type 0
EndIsSo F x (Included st) = OwnOf F.loaded x st
EndIsSo F x _ = ⊤

-- so it is of the step that a call goes on to
abbrev pub StepIsSo : Fits → ℕ → CallStep → Type 0
StepIsSo F x (On at) = AtIsSo F x at
StepIsSo F x (Ended e) = EndIsSo F x e

-- what a plan loaded, and what was voted
pub record PlanIsSo (F : Fits) (p : Plan) : Type 0 where
  pub used : AllByRecursion (λ (u : Used). IfSome u.loaded (OwnOf F.kept u.x)) p.used
  pub changed : AllByRecursion (Own F.voted) p.changed

-- so it is of what an action is at
abbrev pub NowIsSo : Fits → Now → Type 0
NowIsSo F Idle = ⊤
NowIsSo F (Calling s) = AtIsSo F s.x s.at
NowIsSo F (Committing m) = PlanIsSo F (plan_of m)

-- what a root's includes loaded, and what its constituents prepared
pub record RootIsSo (F : Fits) (r : Root) : Type 0 where
  pub joined : AllByRecursion (λ (j : Joined). OwnOf F.kept j.x j.loaded) r.joined
  pub states : AllByRecursion (λ (e : ℕ × ObjectState). OwnOf F.kept e.0 e.1) r.states

-- The states that a coordinator has fit.
pub record CoordIsSo (F : Fits) (c : Coord) : Type 0 where
  pub works : (u : Uid) (d : Doing) → doing_of u c ≡ Some d → NowIsSo F d.now
  pub roots : AllByRecursion (λ (e : ℕ × Root). RootIsSo F e.1) c.roots

-- ---- effects

-- it prepares nothing
abbrev pub PreparesNone : Work → Type 0
PreparesNone (Prepare r u states) = ⊥
PreparesNone _ = ⊤

-- what a coordinator sends is so, and it prepares nothing
abbrev pub Says : Fits → Effect → Type 0
Says F (Send to m) = MessageIsSo F m
Says F (Say b) = ⊤
Says F (Do w) = PreparesNone w

-- so it is of all effects
abbrev pub AllSay : Fits → List Effect → Type 0
AllSay F outs = AllByRecursion (Says F) outs
