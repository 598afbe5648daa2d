-- In which order the commits of two decided tops were called, where one of them includes a store of the object.
use Rattle.std.specs.Prelude.{⊤, ◌≡◌, ◌⊎◌, ◌<◌, ℕ, true, List, [], ◌∷◌, None, Contains, filter, is_some}
use Rattle.arj_model.specs.Calls.{Top}
use Rattle.arj_model.specs.Serial.{Values}
use Rattle.arj_protocol.specs.Words.{Header, Line, Uid}
use Rattle.arj_protocol.specs.Order.{uid_number}
use Rattle.arj_law_disk.specs.machine.Order.{counts_of}
use Rattle.arj_law_disk.specs.machine.State.{Done, Plan}
use Rattle.arj_law_disk.specs.machine.Words.{In, has}
use Rattle.arj_promise.specs.Runs.{Seen}
use Rattle.arj_law_runs.specs.journal.Book.{new_book}
use Rattle.arj_law_runs.specs.journal.Right.{AreRight}
use Rattle.arj_law_lock.specs.machine.State as lock
use Rattle.arj_law_serial.specs.order.Decided.{AreDecisions, Joined}
use Rattle.arj_promise.specs.Excluded.{Wrote}
use Rattle.arj_law_serial.specs.order.Tied.{IsTied}
use Rattle.arj_law_serial.specs.joint.Lights.{LightsAreSplit}
use Rattle.arj_law_serial.specs.joint.Ordered.{IsCalledBefore, IsOrderedSo}

-- a plan includes no store, and it changes nothing, or the other one changes something
abbrev pub IncludesNone : Plan → Plan → Type 0
IncludesNone p q = ((s : ℕ) → has s p.joins ≡ true → ⊥) × ((p.writes ≡ None) ⊎ (is_some q.writes ≡ true))

-- Of two decided tops that count, the one that was decided first had its commit called first, where the other one includes a store, or
-- changes the object and the first one didn't.
abbrev pub IncludersAreCalledFirst : List Line → Done → Done → Type 0
IncludersAreCalledFirst lines e d = (t u : Uid) → d.counts ≡ true → e.counts ≡ true → uid_number t ≡ e.top → uid_number u ≡ d.top →
    IsCalledBefore lines t u ⊎ IncludesNone d.plan e.plan

-- so it is of each two of these, the newest first
abbrev pub IncludersTakeTurns : List Line → List Done → Type 0
IncludersTakeTurns lines [] = ⊤
IncludersTakeTurns lines (d ∷ ds) = ((e : Done) → In e ds → IncludersAreCalledFirst lines e d) × IncludersTakeTurns lines ds

-- ---- runs

-- The machine decided as `IsOrderedSo` has it, and so it is of each two of its decided tops; and those that don't count changed nothing in
-- their places.
pub record TakesTurnsSo (hd : Header) (x : ℕ) (M : Seen) : Type 0 where
  pub ordered : IsOrderedSo hd x M
  pub includers : IncludersTakeTurns M.lines (let j = (let b = (let o = ordered in o.begun) in b.journalled) in let W = j.machine in
      let S = W.disk in S.tops)
  pub lights : LightsAreSplit M.lines (let j = (let b = (let o = ordered in o.begun) in b.journalled) in let W = j.machine in W.disk)

-- ---- in the words of the model

-- of these tops, the newest first, each two of which one didn't write the object had their commits called in turn
abbrev pub JoinersAreNewestFirst : List Line → ℕ → List Top → Type 0
JoinersAreNewestFirst lines x [] = ⊤
JoinersAreNewestFirst lines x (t ∷ ts) =
    ((u : Top) → Contains ts u → (Wrote lines x u → Wrote lines x t → ⊥) → u.at < t.at) × JoinersAreNewestFirst lines x ts

-- So it is of the tops which the disk machine's decisions that count are, where each of them that didn't write the object included a store
-- of it, and the lock machine of the object reaches a state that is tied to the journal.
abbrev pub DecidedJoinersStand : Type 0
DecidedJoinersStand = (values : Values) (lines : List Line) (x : ℕ) (S : lock.State) → AreRight new_book lines → IsTied values lines x S
    → (ds : List Done) (those : List Top) → IncludersTakeTurns lines ds → AreDecisions values lines x (filter counts_of ds) those
    → ((t : Top) → Contains those t → (Wrote lines x t → ⊥) → Joined lines x t) → JoinersAreNewestFirst lines x those
