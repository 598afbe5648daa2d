-- What lies under a top's writes in a copy, by the lock machine.
use Rattle.std.proofs.Common.{◌≡◌, ◌≤◌, ◌<◌, ◌⊎◌, ℕ, true}
use Rattle.arj_law_lock.specs.machine.Actions.{Act, In, is_top, top}
use Rattle.arj_law_lock.specs.machine.Machine.{Guard, Run, start}
use Rattle.arj_law_lock.specs.machine.State.{Alive, Call, Entry, State, Vote}
use Rattle.arj_law_lock.specs.machine.Steps.{ConfirmTop, IsCurrent, IsLast}

-- A server's copy has a write that a top holds, which isn't aborted. Then the copy's own value is what the server had in any state before
-- in which the top's commit had been called: no other top's commit has changed it, and no state was activated there since.
abbrev pub BasesStay : Type 0
BasesStay = (first : ℕ) (s t : State) (n : ℕ) (m : Act) (e : Entry) → Run (start first) s → is_top m ≡ true → 1 ≤ (s.action m).stage →
    Run s t → (t.action m).stage ≤ 3 → In e (t.server n).log → e.holder ≡ m → (t.server n).base ≡ (s.server n).base

-- The binding is the recorded one, of naming's present incarnation, or may still come to be that.
abbrev pub MayCount : State → ℕ → Type 0
MayCount s b = ((s.naming.recorded ≡ b) × (s.naming.first ≤ b)) ⊎ IsCurrent s.naming (s.binding b).maker b

-- A binding that may count might before, since it was made.
abbrev pub CountingIsOld : Type 0
CountingIsOld = (first : ℕ) (s t : State) (b : ℕ) → Run (start first) s → b < s.naming.bound → Run s t → MayCount t b → MayCount s b

-- A server's copy had a write that a top held, whose commit had been called, and a Vote for the top was sent under that copy's binding. As
-- naming may take the top's Confirm what lay under the write is the last committed value, and the binding may count.
abbrev pub ConfirmsAreOverTheLast : Type 0
ConfirmsAreOverTheLast = (first : ℕ) (s t : State) (k : ℕ) (m : Act) (i q : ℕ) (c : Call) (e : Entry) → Run (start first) s →
    1 ≤ (s.action m).stage → In e (s.server k).log → e.holder ≡ m → Run s t → (t.action m).stage ≡ 1 →
    In (Vote m (s.server k).active i) t.net → Guard (ConfirmTop m q) t
    → In c t.calls → top c.act ≡ m → Alive t c.act → IsLast t (s.server k).base t.calls × MayCount t (s.server k).active

-- A write that a top holds in a copy whose binding may count lies over what lay under one in a copy of that kind before, and under one
-- binding; a call of the top that wasn't undone as its commit was under way is asked for, no more.
abbrev pub WritesLieOverVotes : Type 0
WritesLieOverVotes = (first : ℕ) (s r t : State) (k n : ℕ) (m : Act) (i : ℕ) (c : Call) (d e : Entry) → Run (start first) s →
    1 ≤ (s.action m).stage → In d (s.server k).log → d.holder ≡ m → Run s r → (r.action m).stage ≡ 1 →
    In (Vote m (s.server k).active i) r.net → In c r.calls → top c.act ≡ m → Alive r c.act
    → Run r t → (t.action m).stage ≤ 3 → In e (t.server n).log → e.holder ≡ m → MayCount t (t.server n).active →
    ((t.server n).base ≡ (s.server k).base) × ((s.server k).active ≡ (t.server n).active)

-- A write that a top holds, whose commit was called, in a copy whose binding may count has an answered call of the top that wasn't undone.
abbrev pub WritesHaveCalls : Type 0
WritesHaveCalls = (first : ℕ) (t : State) (k : ℕ) (m : Act) (e : Entry) → Run (start first) t → is_top m ≡ true → 1 ≤ (t.action m).stage →
    (t.action m).stage ≤ 3 → In e (t.server k).log → e.holder ≡ m → MayCount t (t.server k).active
    → (c : Call) × In c t.calls × (c.write ≡ true) × (top c.act ≡ m) × Alive t c.act
