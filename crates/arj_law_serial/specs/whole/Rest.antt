-- What a relation has to give beside what is known of the protocol, so that the object is seen by its lock machine: the disk machine beside
-- it gives that in each state that is carried.
use Rattle.std.specs.Prelude.{◌≡◌, ℕ, true, List, Some}
use Rattle.arj_protocol.specs.Words.{Asked, Message, Uid}
use Rattle.arj_protocol.specs.Ask.{Reply, answers}
use Rattle.arj_protocol.specs.Step.{Node}
use Rattle.arj_law_lock.specs.machine.Actions as machine
use Rattle.arj_law_lock.specs.machine.Actions.{top}
use Rattle.arj_law_lock.specs.machine.State.{Call, State}
use Rattle.arj_law_lock.specs.machine.Steps.{Survives}
use Rattle.arj_law_parts.specs.parts.Actions.{Action}
use Rattle.arj_law_parts.specs.moves.Seen.{In}
use Rattle.arj_promise.specs.Runs.{Seen}
use Rattle.arj_law_lock_view.specs.running.Answers.{GivesLast}
use Rattle.arj_law_lock_view.specs.running.Beside.{IsSeenIn, Spot, world_at}
use Rattle.arj_law_lock_view.specs.running.Fixed.{Fixed}
use Rattle.arj_law_lock_view.specs.running.Kept.{case_of}
use Rattle.arj_law_serial.specs.whole.Acks.{IsVoter, WasRecorded, records_in}

-- By the disk machine: what stores give to a call is the last committed state, where the binding is current.
pub record GivesLoads (f : Fixed) (x : ℕ) (R : List Action → State → Seen → Type 0) : Type 0 where
  pub last : (begun : List Action) (S : State) (s : Spot) (from : ℕ) (m : Message) (a : Asked × Reply) → R begun S (world_at s) →
      IsSeenIn (case_of f x begun S) (world_at s) → In (record { from = from; to = s.node; message = m }) (let M = s.seen in M.sent) →
      answers m ≡ Some a → GivesLast (case_of f x begun S) s from a.0 a.1

-- And by it too: the commit of a top with a surviving write, for which somebody was asked to vote, has a record at its node, or was told to
-- be acknowledged.
pub record GivesRest (f : Fixed) (x : ℕ) (R : List Action → State → Seen → Type 0) : Type 0 where
  pub recorded : (begun : List Action) (S : State) (M : Seen) (t : Uid) (k : Call) (n : Node) (j i : ℕ) → R begun S M →
      IsSeenIn (case_of f x begun S) M → M.nodes t.node ≡ Some n → IsVoter M.sent t j i → (let a = S.action (f.act t) in a.stage) ≡ 3 →
      machine.In k S.calls → k.write ≡ true → Survives S k.act → top k.act ≡ f.act t → WasRecorded (records_in M.nodes) M.sent t
  pub loads : GivesLoads f x R
