-- Which decided tops were said before the commits of those that only include a store of the object were called.
use Rattle.std.specs.Prelude.{⊤, ◌≡◌, ◌++◌, true, false, List, [], ◌∷◌, None, is_some}
use Rattle.arj_base.specs.Rows.{is_on}
use Rattle.arj_protocol.specs.Words.{Line, Uid}
use Rattle.arj_protocol.specs.Order.{uid_number}
use Rattle.arj_law_disk.specs.machine.State.{Done}
use Rattle.arj_law_disk.specs.machine.Words.{In}
use Rattle.arj_law_runs.specs.journal.Book.{book, is_decided}

-- The first top was said before the commit of the second one was called: at some place of the journal the one was, and the other wasn't.
abbrev pub IsSaidFirst : List Line → Uid → Uid → Type 0
IsSaidFirst lines t u = (before : List Line) × (behind : List Line) × (lines ≡ before ++ behind) × (is_decided (book before) t ≡ true)
    × (is_on (let B = book before in B.called) u ≡ false)

-- Of two decided tops that count, the one that was decided first and wrote the object was said before the commit of the other one was
-- called, where that one didn't write it: so it includes a store with the state that the first one left, or a later one.
abbrev pub IncluderKnows : List Line → Done → Done → Type 0
IncluderKnows lines e d = (t u : Uid) → d.counts ≡ true → e.counts ≡ true → is_some (let p = e.plan in p.writes) ≡ true →
    (let p = d.plan in p.writes) ≡ None → uid_number t ≡ e.top → uid_number u ≡ d.top → IsSaidFirst lines t u

-- so it is of each two of these, the newest first
abbrev pub IncludersKnow : List Line → List Done → Type 0
IncludersKnow lines [] = ⊤
IncludersKnow lines (d ∷ ds) = ((e : Done) → In e ds → IncluderKnows lines e d) × IncludersKnow lines ds
