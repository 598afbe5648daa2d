-- Calls that wait for what a store has of their object, and what stores gave to them, beside the lock machine's state.
use Rattle.std.specs.Prelude.{◌≡◌, ℕ, List, Some}
use Rattle.arj_protocol.specs.Words.{Asked, ObjectState, Op}
use Rattle.arj_protocol.specs.Words.loaded
use Rattle.arj_protocol.specs.Ask.{Reply, answers}
use Rattle.arj_protocol.specs.Call.{AtLoad, Known, Run, Steps}
use Rattle.arj_protocol.specs.Coord.{Calling, Doing, doing_of}
use Rattle.arj_protocol.specs.Node.{Parts}
use Rattle.arj_protocol.specs.Order.{binding_number}
use Rattle.arj_protocol.specs.Step.{Node}
use Rattle.arj_law_lock.specs.machine.Machine.{Guard}
use Rattle.arj_law_lock.specs.machine.State.{State}
use Rattle.arj_law_lock.specs.machine.Steps.{Load}
use Rattle.arj_law_parts.specs.moves.Seen.{In}
use Rattle.arj_promise.specs.Runs.{Post, Seen}
use Rattle.arj_law_lock_view.specs.view.Copies.{state_code}
use Rattle.arj_law_lock_view.specs.running.Fixed.{Fixed}

-- A call on the object waits at node j, by this request, for what store s has, under a binding that is known so.
pub record AwaitsLoad (x : ℕ) (M : Seen) (a : Asked) (j s : ℕ) (k : Known) : Type 0 where
  pub node : Node
  pub parts : Parts
  pub doing : Doing
  pub steps : Steps
  pub rest : List ℕ
  pub op : Op
  pub here : M.nodes j ≡ Some node
  pub number : node.number ≡ j
  pub live : node.live ≡ Some parts
  pub found : (let p = parts in doing_of a.act p.coord) ≡ Some doing
  pub now : doing.now ≡ Calling steps
  pub about : steps.x ≡ x
  pub goal : steps.goal ≡ Run op
  pub waits : steps.at ≡ AtLoad k s rest
  pub request : steps.req ≡ a.req

-- By the lock machine a store may give what it gave to a call on the object that still waits for it: the last committed state, where the
-- binding is current.
abbrev pub AreLoadsLast : Fixed → ℕ → State → Seen → Type 0
AreLoadsLast f x S M = (p : Post) (a : Asked) (st : ObjectState) (k : Known) → In p M.sent →
    answers p.message ≡ Some (a, Reply.Loaded (loaded.State st)) → AwaitsLoad x M a p.to p.from k
    → Guard (Load (binding_number k.binding) (state_code f.act f.code st)) S
