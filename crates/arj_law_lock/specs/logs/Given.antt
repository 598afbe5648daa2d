-- What a server gave for a top, by the lock machine: it is what the decided top wrote, whatever naming forgot in between.
use Rattle.std.proofs.Common.{◌≡◌, ◌≤◌, ℕ, true}
use Rattle.arj_law_lock.specs.machine.Actions.{Act, In, same, top}
use Rattle.arj_law_lock.specs.machine.Laws.{given_by}
use Rattle.arj_law_lock.specs.machine.Machine.{Guard, Run, next, start}
use Rattle.arj_law_lock.specs.machine.State.{Alive, Call, Entry, State}
use Rattle.arj_law_lock.specs.machine.Steps.{VoteTop}

-- A server votes for a top whose commit isn't decided by a later state, with a call of it that isn't undone there, and is decided in one
-- behind that. Where a write of it isn't undone then, the vote of the top gives the value that this server gave, and the top held a write
-- in its copy; and where it held one there is such a write.
abbrev pub VotesGivenAreRight : Type 0
VotesGivenAreRight = (first : ℕ) (s r t : State) (n : ℕ) (m : Act) (b i : ℕ) → Run (start first) s → Guard (VoteTop n m b i) s →
    Run (next (VoteTop n m b i) s) r → (r.action m).stage ≡ 1 → Run r t → 2 ≤ (t.action m).stage → (t.action m).stage ≤ 3
    → (c : Call) → In c r.calls → top c.act ≡ m → Alive r c.act
    → ((d : Call) → In d t.calls → d.write ≡ true → top d.act ≡ m → Alive t d.act →
    ((t.vote m).value ≡ (given_by s n m).value) × ((e : Entry) × In e (s.server n).log × (same e.holder m ≡ true)))
    × ((e : Entry) → In e (s.server n).log → same e.holder m ≡ true →
    (d : Call) × In d t.calls × (d.write ≡ true) × (top d.act ≡ m) × Alive t d.act)
