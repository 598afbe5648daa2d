-- What is known of coordinators, of naming and of its answers, at all nodes and in every message.
use Rattle.std.specs.Prelude.{⊤, ◌≡◌, ◌≤◌, ℕ, Some}
use Rattle.arj_protocol.specs.Words.{Ask, Asked, BoundReply, Head, Header, asks}
use Rattle.arj_protocol.specs.Words.ask
use Rattle.arj_protocol.specs.Ask.{Reply, answers}
use Rattle.arj_protocol.specs.Coord.{Coord}
use Rattle.arj_protocol.specs.Naming.{Naming}
use Rattle.arj_protocol.specs.Node.{Parts}
use Rattle.arj_protocol.specs.Step.{Node}
use Rattle.arj_law_runs.specs.addresses.Binds.{BindsAreKnown}
use Rattle.arj_law_runs.specs.kept.Worlds.{IsGood}
use Rattle.arj_law_parts.specs.moves.Keeps.{Keeps}
use Rattle.arj_law_parts.specs.moves.Seen.{In}
use Rattle.arj_promise.specs.Runs.{Post, Seen}
use Rattle.arj_law_lock_view.specs.facts.Works.{HasNoRoots, KnowsEnds, KnowsWaits}

-- What holds of messages: of each request that was sent, and of each answer to a Bind.
pub record Said : Type 1 where
  pub request : Head → Ask → Type 0
  pub answer : BoundReply → Type 0

-- This holds of each coordinator and of naming at each node that is up, and so much of messages that were ever sent.
pub record Everywhere (says : Said) (Q : Coord → Type 0) (N : Naming → Type 0) (M : Seen) : Type 0 where
  pub nodes : (j : ℕ) (n : Node) (t : Parts) → M.nodes j ≡ Some n → n.live ≡ Some t → Q t.coord × ((o : Naming) → t.naming ≡ Some o → N o)
  pub requests : (p : Post) → In p M.sent → (h : Head) (a : Ask) → asks p.message ≡ Some (h, a) → says.request h a
  pub answered : (p : Post) → In p M.sent → (a : Asked) (r : BoundReply) → answers p.message ≡ Some (a, Reply.Bound r) → says.answer r

-- a coordinator: who waits, that new roots are empty, and whose ends it lists
pub record KnowsWorks (c : Coord) : Type 0 where
  pub waits : KnowsWaits c
  pub roots : HasNoRoots c
  pub ends : KnowsEnds c

-- an Invoke has a number from 1 on
abbrev pub IsFromOne : Head → Ask → Type 0
IsFromOne h (ask.Invoke x b i ends op) = 1 ≤ h.req
IsFromOne h a = ⊤

-- so much is said by messages
abbrev pub says_works : Said
says_works = record { request = IsFromOne; answer = λ r. ⊤ }

-- So it is at each node, beside good nodes and known Binds.
abbrev pub WorksAreKnown : Seen → Type 0
WorksAreKnown M = (IsGood M × BindsAreKnown M) × Everywhere says_works KnowsWorks (λ n. ⊤) M

-- each handler keeps it
abbrev pub HandlersKeepWorks : Type 0
HandlersKeepWorks = (hd : Header) → Keeps hd WorksAreKnown
