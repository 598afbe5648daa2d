-- Lock rows of one object at one place, as the machine has them.
use Rattle.std.specs.Prelude.{◌≤◌, ℕ, ◌&&◌, List, [], ◌∷◌, cond, max}
use Rattle.arj_protocol.specs.Words.{Uid, Mode, Row, uid_eq, last_uid}
use Rattle.arj_protocol.specs.Words.mode
use Rattle.arj_law_lock.specs.machine.Actions.{Act, same}
use Rattle.arj_law_lock.specs.machine.Rows as machine
use Rattle.arj_law_lock_view.specs.view.Acts.{Acts}

-- a lock's strength in the machine: exclude counts as read
abbrev pub strength : Mode → ℕ
strength mode.Read = 1
strength mode.Exclude = 1
strength mode.Write = 2

-- the strength of the rows that an action of the machine holds on the object
abbrev pub held_in : Acts → Uid → Act → List Row → ℕ
held_in act object a [] = 0
held_in act object a (r ∷ rs) =
    max (cond (uid_eq r.object object && same (act (last_uid r.holder)) a) (strength r.mode) 0) (held_in act object a rs)

-- The machine's rows are at most these: the protocol may keep rows of which the machine doesn't know.
abbrev pub SeesRows : Acts → Uid → List Row → machine.Rows → Type 0
SeesRows act object rows seen = (a : Act) → seen a ≤ held_in act object a rows
