-- Answers that a coordinator takes, in the whole world as the lock machine of one object has it.
use Rattle.std.specs.Prelude.{◌≡◌, ℕ, true, List, Some}
use Rattle.arj_protocol.specs.Words.{Asked, ObjectState, Op}
use Rattle.arj_protocol.specs.Words.loaded
use Rattle.arj_protocol.specs.Ask.{Reply, response}
use Rattle.arj_protocol.specs.Asking.{heard, waits_for_call}
use Rattle.arj_protocol.specs.Call.{AtLoad, Known, Run, Steps}
use Rattle.arj_protocol.specs.Coord.{Calling, Doing, doing_of}
use Rattle.arj_protocol.specs.Node.{reply_is_meant}
use Rattle.arj_protocol.specs.Order.{binding_number}
use Rattle.arj_law_lock.specs.machine.Steps.{IsCurrent, LoadsTheLast}
use Rattle.arj_law_runs.specs.addresses.Binds.{BindsAreKnown}
use Rattle.arj_law_lock_view.specs.facts.Requests.{KnowsRequests}
use Rattle.arj_law_lock_view.specs.facts.Works.{KnowsEnds, KnowsWaits}
use Rattle.arj_law_lock_view.specs.view.Copies.{state_code}
use Rattle.arj_law_lock_view.specs.view.Named.{binding_at}
use Rattle.arj_law_parts.specs.moves.Seen.{In}
use Rattle.arj_law_lock_view.specs.running.Beside.{Case, HoldsNamingIn, IsSeenIn, Spot, world_at}
use Rattle.arj_law_lock_view.specs.running.Coordinating.{KnowsAsks, StepGoes, coord_at, records_at}

-- What a store gives to a call on the object, by the disk machine: for a binding that naming made last, and that is still to be recorded,
-- the state is that of the last committed write, and no decided top is in doubt.
abbrev pub IsLastFor : Case → Known → ObjectState → Type 0
IsLastFor c k st = let S = c.state in IsCurrent S.naming (let b = binding_at S k.binding in b.maker) (binding_number k.binding) →
    LoadsTheLast S (state_code (let f = c.fixed in f.act) (let f = c.fixed in f.code) st)

-- so it is of the answer to a Load for which a call on the object waits, and of no earlier one
abbrev pub GivesLast : Case → Spot → ℕ → Asked → Reply → Type 0
GivesLast c s from a r = (d : Doing) (w : Steps) (k : Known) (n : ℕ) (rest : List ℕ) (o : Op) (st : ObjectState) →
    doing_of a.act (coord_at s) ≡ Some d → d.now ≡ Calling w → w.x ≡ c.x → w.goal ≡ Run o → w.at ≡ AtLoad k n rest →
    r ≡ Reply.Loaded (loaded.State st) → waits_for_call from a r w ≡ true → IsLastFor c k st

-- What is known where an answer comes: of the coordinator who waits, what was asked for what waits, what is asked and which ends are
-- listed, and of all nodes that a Bind is answered as it asks, by the protocol alone; and by the disk machine what a store gives.
pub record KnowsAnswer (c : Case) (s : Spot) (from : ℕ) (a : Asked) (r : Reply) : Type 0 where
  pub waits : KnowsWaits (coord_at s)
  pub requests : KnowsRequests (let M = s.seen in M.sent) s.node (coord_at s)
  pub asks : KnowsAsks c (coord_at s)
  pub ends : KnowsEnds (coord_at s)
  pub binds : BindsAreKnown (world_at s)
  pub last : GivesLast c s from a r

-- An answer that was sent comes, which can be meant. Nothing waits for it, or a call or an include goes on or ends, of the object or of
-- another one, or a commit goes on, is decided or is aborted. The machine goes along, and the object is seen, wherever a stop falls.
abbrev pub AnswersGo : Type 0
AnswersGo = (c : Case) (s : Spot) (e from : ℕ) (a : Asked) (r : Reply)
    → IsSeenIn c (world_at s) → HoldsNamingIn c s.node (let t = s.parts in t.naming) → KnowsAnswer c s from a r →
    In (record { from = from; to = s.node; message = response a r }) (let M = s.seen in M.sent) → reply_is_meant (coord_at s) a r ≡ true
    → let D = heard from a r (records_at s) (coord_at s) in StepGoes c s e (record { part = D.part; outs = D.outs })
