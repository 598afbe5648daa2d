-- What the plan of a top's commit covers of the machine's calls and includes, at its coordinator.
use Rattle.std.specs.Prelude.{◌≡◌, ◌≢◌, ◌≤◌, ◌*◌, ℕ, false, true, Contains}
use Rattle.arj_protocol.specs.Words.{Uid}
use Rattle.arj_protocol.specs.Words.kind
use Rattle.arj_protocol.specs.Commit.{Plan, Used}
use Rattle.arj_protocol.specs.Coord.{Coord, Doing}
use Rattle.arj_protocol.specs.Tree.{Branch, has_open_child}
use Rattle.arj_law_lock.specs.machine.Actions.{Act, In}
use Rattle.arj_law_lock.specs.machine.State.{Alive, Call, Include, State}
use Rattle.arj_law_parts.specs.parts.Actions.{AreBegun}
use Rattle.arj_law_parts.specs.parts.Copies.{Paths}
use Rattle.arj_law_lock_view.specs.view.Acting.{IsFreeToEnd}
use Rattle.arj_law_lock_view.specs.view.Acts.{Acts}
use Rattle.arj_law_lock_view.specs.view.Copies.{Codes}
use Rattle.arj_law_lock_view.specs.view.Inputs.{AreTopped, IsOfUnit, SeesWhole, plan_now}

-- the plan has the object as called
abbrev pub HasCalled : ℕ → Plan → Type 0
HasCalled x p = (q : Used) × Contains p.used q × (q.x ≡ x) × (q.called ≡ true)

-- the plan has the object
abbrev pub HasUsed : ℕ → Plan → Type 0
HasUsed x p = (q : Used) × Contains p.used q × (q.x ≡ x)

-- The plan has what was called and included in the top's whole unit, as far as it wasn't undone: by the top, or by committed tops.
abbrev pub HasOfUnit : ℕ → Act → Plan → State → Type 0
HasOfUnit x m p S = ((k : Call) → In k S.calls → Alive S k.act → IsOfUnit m k.act S → HasCalled x p)
    × ((k : Include) → In k S.includes → Alive S k.act → IsOfUnit m k.act S → HasUsed x p)

-- Where the coordinator's actions were begun its plan has that too: a serializing action retains what its constituents did.
abbrev pub PlansCoverUnits : Type 0
PlansCoverUnits = (act : Acts) (code : Codes) (paths : Paths) (x : ℕ) (c : Coord) (u : Uid) (b : Branch) (d : Doing) (S : State)
    (free : IsFreeToEnd act paths c u b d)
    → AreBegun (let s = free.steady in s.actions) → b.kind ≢ kind.Serial → b.kind ≢ kind.Nested → has_open_child u c.tree ≡ false →
    SeesWhole act code x c S → HasOfUnit x (act u) (plan_now b c) S

-- The grant that such a plan says of the object isn't above that of an include of its unit that wasn't undone.
abbrev pub PlansSayLow : Type 0
PlansSayLow = (act : Acts) (code : Codes) (paths : Paths) (x : ℕ) (c : Coord) (u : Uid) (b : Branch) (d : Doing) (S : State)
    (free : IsFreeToEnd act paths c u b d)
    → AreBegun (let s = free.steady in s.actions) → AreTopped act c → b.kind ≢ kind.Serial → b.kind ≢ kind.Nested →
    has_open_child u c.tree ≡ false → SeesWhole act code x c S
    → (q : Used) (k : Include) → Contains (let p = plan_now b c in p.used) q → q.x ≡ x → In k S.includes → Alive S k.act →
    IsOfUnit (act u) k.act S → q.grant * 4294967296 ≤ k.grant
