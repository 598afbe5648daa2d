-- Whole runs: the object is seen in every world of a run, where relations of the protocol alone give what the handlers count on.
use Rattle.std.specs.Prelude.{◌≡◌, ℕ, true, List, Some, None}
use Rattle.arj_protocol.specs.Words.{Asked, Header, Message, Uid}
use Rattle.arj_protocol.specs.Words.message
use Rattle.arj_protocol.specs.Ask.{Reply, answers}
use Rattle.arj_protocol.specs.Coord.{no_root, root_at}
use Rattle.arj_protocol.specs.Effect.{Disk, Effect}
use Rattle.arj_protocol.specs.Node.{Parts, Took, handle, is_meant}
use Rattle.arj_protocol.specs.Step.{Input, Node, acts, disk_by, refusal_up}
use Rattle.arj_protocol.specs.Tree.{next_uid}
use Rattle.arj_law_lock.specs.machine.State.{State}
use Rattle.arj_law_parts.specs.parts.Actions.{Action}
use Rattle.arj_law_parts.specs.steps.Named.{HasNames}
use Rattle.arj_law_parts.specs.moves.Keeps.{is_act}
use Rattle.arj_law_parts.specs.moves.Seen.{In, down}
use Rattle.arj_start.specs.Start.{Start}
use Rattle.arj_promise.specs.Runs.{Seen}
use Rattle.arj_promise.specs.Starts.{IsFormed}
use Rattle.arj_law_lock_view.specs.facts.Works.{KnowsEnds}
use Rattle.arj_law_lock_view.specs.running.Answers.{KnowsAnswer}
use Rattle.arj_law_lock_view.specs.running.Asking.{HasWholeRoots, IsAskedAbout, TellsRecords}
use Rattle.arj_law_lock_view.specs.running.Beside.{Case, HoldsNamingIn, IsSeenIn, KnowsEntry, KnowsSpot, Spot, world_at}
use Rattle.arj_law_lock_view.specs.running.Coordinating.{KnowsAsks, coord_at}
use Rattle.arj_law_lock_view.specs.running.Fixed.{Fixed}
use Rattle.arj_law_lock_view.specs.running.Inputs.{KnowsAfter, KnowsInput}
use Rattle.arj_law_lock_view.specs.running.World.{is_for_parts}

-- the case of a state
abbrev pub case_of : Fixed → ℕ → List Action → State → Case
case_of f x begun S = record { fixed = f; x = x; begun = begun; state = S }

-- each coordinator that is up knows its labels
abbrev pub AreCoordsNamed : Seen → Type 0
AreCoordsNamed M = (k : ℕ) (n : Node) (t : Parts) → M.nodes k ≡ Some n → n.live ≡ Some t → HasNames t.coord

-- a message came
pub record HasCome (s : Spot) (from : ℕ) (m : Message) (v : Parts) (outs : List Effect) : Type 0 where
  pub sent : In (record { from = from; to = s.node; message = m }) (let M = s.seen in M.sent)
  pub meant : is_meant (let q = s in q.parts) m ≡ true
  pub takes : handle s.node s.disk s.parts from m ≡ Took v outs

-- What a relation gives, where it holds of the machine's state and the object is seen in it: what naming, servers, records, questions,
-- answers, inputs about actions and new roots are known for.
pub record GivesLocks (hd : Header) (f : Fixed) (x : ℕ) (R : List Action → State → Seen → Type 0) : Type 0 where
  pub holds : (begun : List Action) (S : State) (s : Spot) → R begun S (world_at s) → IsSeenIn (case_of f x begun S) (world_at s) →
      HoldsNamingIn (case_of f x begun S) s.node (let t = s.parts in t.naming)
  pub parts : (begun : List Action) (S : State) (s : Spot) (from : ℕ) (m : Message) (v : Parts) (outs : List Effect) →
      R begun S (world_at s) → IsSeenIn (case_of f x begun S) (world_at s) → HasCome s from m v outs → is_for_parts m ≡ true
      → KnowsSpot (case_of f x begun S) s × HoldsNamingIn (case_of f x begun S) s.node v.naming
  pub asked : (begun : List Action) (S : State) (s : Spot) (from : ℕ) (u : Uid) (v : Parts) (outs : List Effect) → R begun S (world_at s) →
      IsSeenIn (case_of f x begun S) (world_at s) → HasCome s from (message.Query (record { act = u })) v outs →
      IsAskedAbout (case_of f x begun S) s u
  pub acked : (begun : List Action) (S : State) (s : Spot) (from : ℕ) (u : Uid) (v : Parts) (outs : List Effect) → R begun S (world_at s) →
      IsSeenIn (case_of f x begun S) (world_at s) → HasCome s from (message.Acked (record { act = u })) v outs → HasWholeRoots s u
  pub heard : (begun : List Action) (S : State) (s : Spot) (from : ℕ) (m : Message) (a : Asked × Reply) (v : Parts) (outs : List Effect) →
      R begun S (world_at s) → IsSeenIn (case_of f x begun S) (world_at s) → HasCome s from m v outs → answers m ≡ Some a
      → KnowsAnswer (case_of f x begun S) s from a.0 a.1
  pub act : (begun : List Action) (S : State) (s : Spot) (i : Input) → R begun S (world_at s) →
      IsSeenIn (case_of f x begun S) (world_at s) → is_act i ≡ true → refusal_up hd i (coord_at s) ≡ None
      → KnowsInput s × KnowsAfter (case_of f x begun S) (let D = acts i (let d = s.disk in d.intents) (coord_at s) in D.part)
  pub begin : (begun : List Action) (S : State) (s : Spot) → R begun S (world_at s) → IsSeenIn (case_of f x begun S) (world_at s) →
      root_at (next_uid (let q = coord_at s in q.tree)) (coord_at s) ≡ no_root
  pub tick : (begun : List Action) (S : State) (s : Spot) → R begun S (world_at s) → IsSeenIn (case_of f x begun S) (world_at s) →
      KnowsAsks (case_of f x begun S) (coord_at s) × KnowsEnds (coord_at s) × TellsRecords s
  pub restart : (begun : List Action) (S : State) (k : ℕ) (d : Disk) (M : Seen) → R begun S (down k d M) →
      IsSeenIn (case_of f x begun S) (down k d M) → KnowsEntry x k d
  pub first : (st : Start) → IsFormed hd st → KnowsEntry x 1 (disk_by hd st 1)
