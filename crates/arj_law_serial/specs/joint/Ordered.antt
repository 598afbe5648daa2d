-- In which order an object's machine decides tops, against the journal.
use Rattle.std.specs.Prelude.{⊤, ◌≡◌, ◌≢◌, ◌⊎◌, ◌++◌, ◌&&◌, ℕ, Bool, true, false, not, filter, List, [], ◌∷◌, None, Contains}
use Rattle.arj_base.specs.Rows.{is_on}
use Rattle.arj_model.specs.Actions.{Act, acts, path, uids}
use Rattle.arj_model.specs.Last.{increasing, is_among, joins_of, leaves_of}
use Rattle.arj_protocol.specs.Words.{Header, Line, Uid, first_uid}
use Rattle.arj_protocol.specs.Order.{uid_number}
use Rattle.arj_law_disk.specs.machine.Effects.{World}
use Rattle.arj_law_disk.specs.machine.State.{Done, State, decided, target}
use Rattle.arj_law_disk.specs.machine.Words.{In, has}
use Rattle.arj_promise.specs.Runs.{Seen}
use Rattle.arj_law_disk_view.specs.running.Decided.{AreCalled, AreOnce}
use Rattle.arj_law_disk_view.specs.deciding_lines.Said.{IsPlain}
use Rattle.arj_law_runs.specs.journal.Book.{book, is_decided, is_top}
use Rattle.arj_law_runs.specs.journal.Idle.{HasNothing}
use Rattle.arj_law_runs.specs.journal.Laws.{IsDone}
use Rattle.arj_law_serial.specs.joint.SaidFirst.{IncludersKnow}
use Rattle.arj_law_serial.specs.joint.Begun.{IsBegunSo}

-- ---- against the journal

-- The commit of the first top was called before the second one was decided: at some place of the journal the one had been, and the
-- other hadn't.
abbrev pub IsCalledFirst : List Line → Uid → Uid → Type 0
IsCalledFirst lines t u = (before : List Line) × (behind : List Line) × (lines ≡ before ++ behind)
    × (is_on (let B = book before in B.called) t ≡ true) × (is_decided (book before) u ≡ false)

-- The commit of the first action was called before that of the second one: at some place of the journal the one had been, and the other
-- hadn't.
abbrev pub IsCalledBefore : List Line → Uid → Uid → Type 0
IsCalledBefore lines t u = (before : List Line) × (behind : List Line) × (lines ≡ before ++ behind)
    × (is_on (let B = book before in B.called) t ≡ true) × (is_on (let B = book before in B.called) u ≡ false)

-- So it is of the tops with these numbers, of which the second may be idle by the journal, or no top.
abbrev pub IsTurn : (List Line → Uid → Type 0) → List Line → ℕ → ℕ → Type 0
IsTurn Idle lines e d = (t u : Uid) → uid_number t ≡ e → uid_number u ≡ d → e ≢ d → IsCalledFirst lines t u ⊎ Idle lines u ⊎ IsPlain lines u

-- of each two of decided tops, the newest first
abbrev pub AreTurns : (List Line → Uid → Type 0) → List Line → List Done → Type 0
AreTurns Idle lines [] = ⊤
AreTurns Idle lines (d ∷ ds) = ((e : Done) → In e ds → IsTurn Idle lines e.top d.top) × AreTurns Idle lines ds

-- The machine's decided tops, each decided once, had their commits called, each before any that was decided after it was decided itself.
pub record IsOrdered (Idle : List Line → Uid → Type 0) (W : World) (M : Seen) : Type 0 where
  pub once : AreOnce (let S = W.disk in S.tops)
  pub called : AreCalled M.lines (let S = W.disk in S.tops)
  pub turns : AreTurns Idle M.lines (let S = W.disk in S.tops)

-- ---- runs

-- the same, in the words of `arj_model`: of each two decided tops
abbrev pub AreTurnsOf : List Line → List Done → Type 0
AreTurnsOf lines [] = ⊤
AreTurnsOf lines (d ∷ ds) =
    ((e : Done) (a b : Act) → In e ds → Contains (acts lines) a → Contains (acts lines) b → uid_number a.uid ≡ e.top → uid_number b.uid
    ≡ d.top → is_top b.kind ≡ true → e.top ≢ d.top → IsCalledFirst lines a.uid b.uid ⊎ HasNothing lines b) × AreTurnsOf lines ds

-- of these actions those among them excluded, by the journal, just the stores that their commits asked and that didn't prepare
abbrev pub AreLeftOf : List Line → ℕ → List Done → Type 0
AreLeftOf lines x ds = (d : Done) (a : Act) → In d ds → Contains (acts lines) a → uid_number a.uid ≡ d.top → (s : ℕ) →
    (target d.plan s && not (d.got s)) ≡ is_among (leaves_of lines a.id x) s

-- the machine's root of each of these tops is the one at the head of its path, by the journal
abbrev pub AreRootedSo : List Line → (ℕ → ℕ) → List Done → Type 0
AreRootedSo lines root ds = (d : Done) (a : Act) → In d ds → Contains (acts lines) a → uid_number a.uid ≡ d.top →
    root d.top ≡ uid_number (first_uid (uids (path (acts lines) a.label)))

-- the stores that these actions among them add to the list are, by the journal, those of their surviving includes that their commits didn't
-- exclude
abbrev pub AreJoinedOf : List Line → ℕ → List Done → Type 0
AreJoinedOf lines x ds = (d : Done) (a : Act) → In d ds → Contains (acts lines) a → uid_number a.uid ≡ d.top →
    filter d.got (let p = d.plan in p.joins) ≡ increasing (filter (λ s. not (is_among (leaves_of lines a.id x) s)) (joins_of lines a.id x))

-- Of these actions each that counts and gave nothing to the stores includes, by the journal, a store.
abbrev pub AreCountedOf : List Line → ℕ → List Done → Type 0
AreCountedOf lines x ds = (d : Done) (a : Act) → In d ds → Contains (acts lines) a → uid_number a.uid ≡ d.top → d.counts ≡ true →
    (let p = d.plan in p.writes) ≡ None → (s : ℕ) × Contains (joins_of lines a.id x) s

-- who of them doesn't count has taken no store's Yes
abbrev pub AreStill : List Done → Type 0
AreStill ds = (d : Done) → In d ds → d.counts ≡ false → (s : ℕ) → d.got s ≡ false

-- and was confirmed as one that changes nothing
abbrev pub AreDim : State → Type 0
AreDim S = (d : Done) → In d S.tops → d.counts ≡ false → S.light d.top ≡ true

-- the stores that these actions among them include are, by the journal, those of their surviving includes
abbrev pub AreIncludedOf : List Line → ℕ → List Done → Type 0
AreIncludedOf lines x ds = (d : Done) (a : Act) → In d ds → Contains (acts lines) a → uid_number a.uid ≡ d.top → (s : ℕ) →
    has s (let p = d.plan in p.joins) ≡ is_among (joins_of lines a.id x) s

-- an action of these, whose commit ended without a record, excluded no store by the journal, and none of its includes survives
abbrev pub AreUntouched : List Line → ℕ → (ℕ → Bool) → Type 0
AreUntouched lines x bare = (a : Act) → Contains (acts lines) a → bare (uid_number a.uid) ≡ true → (s : ℕ) →
    (is_among (leaves_of lines a.id x) s ≡ false) × (is_among (joins_of lines a.id x) s ≡ false)

-- Of these actions each committed top is decided by the machine, or its commit ended without a record; or nothing of it survives in the
-- journal, and it excluded no store.
abbrev pub AreSpared : List Line → ℕ → State → Type 0
AreSpared lines x S = (a : Act) → Contains (acts lines) a → is_top a.kind ≡ true → IsDone lines a
    → (decided S (uid_number a.uid) ≡ true) ⊎ (S.bare (uid_number a.uid) ≡ true)
    ⊎ (HasNothing lines a × ((s : ℕ) → is_among (leaves_of lines a.id x) s ≡ false))

-- The machine began as the header says and decided as the journal says, in this order, excluded and included what the journal says, and has
-- its roots; who didn't count, ended without a record, or committed at once changed as little as that; and who only includes a store had
-- its commit called when those that wrote the object before it had been said.
pub record IsOrderedSo (hd : Header) (x : ℕ) (M : Seen) : Type 0 where
  pub begun : IsBegunSo hd x M
  pub once : AreOnce (let j = (let b = begun in b.journalled) in let W = j.machine in let S = W.disk in S.tops)
  pub called : AreCalled M.lines (let j = (let b = begun in b.journalled) in let W = j.machine in let S = W.disk in S.tops)
  pub turns : AreTurnsOf M.lines (let j = (let b = begun in b.journalled) in let W = j.machine in let S = W.disk in S.tops)
  pub leaves : AreLeftOf M.lines x (let j = (let b = begun in b.journalled) in let W = j.machine in let S = W.disk in S.tops)
  pub roots : let j = (let b = begun in b.journalled) in let W = j.machine in let S = W.disk in AreRootedSo M.lines S.root S.tops
  pub joins : AreJoinedOf M.lines x (let j = (let b = begun in b.journalled) in let W = j.machine in let S = W.disk in S.tops)
  pub counted : AreCountedOf M.lines x (let j = (let b = begun in b.journalled) in let W = j.machine in let S = W.disk in S.tops)
  pub included : AreIncludedOf M.lines x (let j = (let b = begun in b.journalled) in let W = j.machine in let S = W.disk in S.tops)
  pub still : AreStill (let j = (let b = begun in b.journalled) in let W = j.machine in let S = W.disk in S.tops)
  pub dim : AreDim (let j = (let b = begun in b.journalled) in let W = j.machine in W.disk)
  pub untouched : AreUntouched M.lines x (let j = (let b = begun in b.journalled) in let W = j.machine in let S = W.disk in S.bare)
  pub spared : AreSpared M.lines x (let j = (let b = begun in b.journalled) in let W = j.machine in W.disk)
  pub know : IncludersKnow M.lines (let j = (let b = begun in b.journalled) in let W = j.machine in let S = W.disk in S.tops)
