-- With which end an action ended, as its coordinator lists it and tells it.
use Rattle.std.specs.Prelude.{◌≡◌, true, List, [], Option, Some, None, is_some, Contains, ⊤}
use Rattle.std.specs.List.{AllByRecursion}
use Rattle.arj_protocol.specs.Words.{Uid, End, Head, Ask, Message, asks}
use Rattle.arj_protocol.specs.Words.ask
use Rattle.arj_protocol.specs.Words.ending
use Rattle.arj_protocol.specs.Words.message
use Rattle.arj_protocol.specs.Commit.{Machine, plan_of}
use Rattle.arj_protocol.specs.Coord.{Coord, Doing, Committing, doing_of}
use Rattle.arj_protocol.specs.Effect.{Effect, Say, Send, Do, Work, PutIntent, Intent}
use Rattle.arj_protocol.specs.Follow.{ends_in}
use Rattle.arj_protocol.specs.Node.{Parts, Handled, Void, Took}
use Rattle.arj_protocol.specs.Tree.{Tree, Branch, branch_of, ends_of, is_own}
use Rattle.arj_law_parts.specs.parts.Messages.{IsDecided}

-- each end of the list is as it was decided
abbrev pub AreDecided : List (Uid × End) → Tree → Type 0
AreDecided ends t = (u : Uid) (e : End) → Contains ends (u, e) → IsDecided u e t

-- records of actions of this incarnation are of committed ones
abbrev pub AreOfCommits : List (Uid × Intent) → Tree → Type 0
AreOfCommits records t = (u : Uid) (i : Intent) → Contains records (u, i) → is_own u t ≡ true → IsDecided u ending.Commit t

-- What a coordinator has of ends is as they were decided: the lists of its roots, those that its commits bring, and the
-- records that it tells.
pub record IsSure (c : Coord) : Type 0 where
  pub lists : (root : Uid) → AreDecided (ends_of root c.tree) c.tree
  pub plans : (u : Uid) (d : Doing) (m : Machine) → doing_of u c ≡ Some d → d.now ≡ Committing m →
      AreDecided (let p = plan_of m in p.ends) c.tree
  pub records : AreOfCommits c.telling c.tree

-- the ends that a request brings, where the message is one
abbrev pub brought_by : Option (Head × Ask) → List (Uid × End)
brought_by None = []
brought_by (Some a) = ends_in a.1

-- the ends that a message brings as a request
abbrev pub brought : Message → List (Uid × End)
brought m = brought_by (asks m)

-- the ends that a message tells
abbrev pub told_by : Message → List (Uid × End)
told_by (message.Told m) = m.ends
told_by _ = []

-- A commit is told of a committed action, where it is of this incarnation. An abort is told of no action that is open: of one
-- that was aborted; of a serializing one that has ended; or of a committed top, at a node that took no part in its commit
-- or has acknowledged it.
abbrev pub IsToldSo : Uid → End → Tree → Type 0
IsToldSo u ending.Commit t = is_own u t ≡ true → IsDecided u ending.Commit t
IsToldSo u ending.Abort t = (b : Branch) → branch_of u t ≡ Some b → is_some b.ended ≡ true

-- what a message says of ends: a request brings ends of this incarnation's actions alone
pub record SaysEnds (t : Tree) (m : Message) : Type 0 where
  pub brings : (u : Uid) (e : End) → Contains (brought m) (u, e) → IsDecided u e t
  pub tells : (u : Uid) (e : End) → Contains (told_by m) (u, e) → IsToldSo u e t

-- What of it stays so for ever, also as actions begin: each end that a request brings, and each commit that is told.
pub record IsSaidSo (t : Tree) (m : Message) : Type 0 where
  pub brings : (u : Uid) (e : End) → Contains (brought m) (u, e) → is_own u t ≡ true → IsDecided u e t
  pub commits : (u : Uid) → Contains (told_by m) (u, ending.Commit) → is_own u t ≡ true → IsDecided u ending.Commit t

-- a record is written of a committed action
abbrev pub IsOfCommit : Tree → Work → Type 0
IsOfCommit t (PutIntent u i) = IsDecided u ending.Commit t
IsOfCommit t _ = ⊤

-- what an effect says of ends is so in the tree, and its record is of a committed action
abbrev pub SaysEndsIn : Tree → Effect → Type 0
SaysEndsIn t (Say b) = ⊤
SaysEndsIn t (Send to m) = SaysEnds t m
SaysEndsIn t (Do w) = IsOfCommit t w

-- so it is of all effects
abbrev pub AllSayEnds : Tree → List Effect → Type 0
AllSayEnds t outs = AllByRecursion (SaysEndsIn t) outs

-- what was decided in the first tree is so in the second
abbrev pub Decides : Tree → Tree → Type 0
Decides t v = (u : Uid) (e : End) → IsDecided u e t → IsDecided u e v

-- What a node makes of a message: its coordinator stays sure, what was decided stands, and what it says of ends is so.
abbrev pub IsSurelyHandled : Parts → Handled → Type 0
IsSurelyHandled t (Void outs) = ⊤
IsSurelyHandled t (Took v outs) = IsSure v.coord × Decides t.coord.tree v.coord.tree × AllSayEnds v.coord.tree outs
