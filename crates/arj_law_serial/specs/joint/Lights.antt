-- Tops that change nothing of an object: which decisions of others came before naming confirmed them, and which behind, by the order of
-- commit calls.
use Rattle.std.specs.Prelude.{◌≡◌, ◌⊎◌, ◌++◌, ℕ, true, false, List, Contains}
use Rattle.arj_model.specs.Actions.{Act, acts}
use Rattle.arj_protocol.specs.Words.{Line, Uid}
use Rattle.arj_protocol.specs.Order.{uid_number}
use Rattle.arj_law_disk.specs.machine.State.{Done, Packed, State, entry_in}
use Rattle.arj_law_disk.specs.machine.Words.{In, has}
use Rattle.arj_law_serial.specs.joint.Ordered.{IsCalledBefore}

-- a decided top includes no store
abbrev pub AddsNone : Done → Type 0
AddsNone d = (s : ℕ) → has s (let p = d.plan in p.joins) ≡ true → ⊥

-- Each of these decided tops that counts had its commit called behind that of this one, or includes no store.
abbrev pub AreBehind : List Line → Uid → List Done → Type 0
AreBehind lines w ds = (d : Done) (v : Uid) → In d ds → d.counts ≡ true → uid_number v ≡ d.top → IsCalledBefore lines w v ⊎ AddsNone d

-- and of these each had it called before
abbrev pub AreBefore : List Line → Uid → List Done → Type 0
AreBefore lines w ds = (d : Done) (v : Uid) → In d ds → d.counts ≡ true → uid_number v ≡ d.top → IsCalledBefore lines v w

-- Of the decided tops the earlier ones leave an entry in which none of these stores is listed; of those that count they had their commits
-- called before this top's, and the later ones behind it, or they include no store.
pub record IsSplit (first : Packed) (lines : List Line) (w : Uid) (stores : List ℕ) (tops : List Done) : Type 0 where
  pub later : List Done
  pub earlier : List Done
  pub are : tops ≡ later ++ earlier
  pub unlisted : (s : ℕ) → has s stores ≡ true → has s (let e = entry_in first earlier in e.content) ≡ true → ⊥
  pub before : AreBefore lines w earlier
  pub behind : AreBehind lines w later

-- So it is of each decided top of these actions that doesn't count and includes a store, with the stores that it includes.
abbrev pub LightsAreSplit : List Line → State → Type 0
LightsAreSplit lines S = (d : Done) (a : Act) → In d S.tops → d.counts ≡ false → Contains (acts lines) a → uid_number a.uid ≡ d.top →
    (s : ℕ) → has s (let p = d.plan in p.joins) ≡ true → IsSplit S.first_entry lines a.uid (let p = d.plan in p.joins) S.tops
