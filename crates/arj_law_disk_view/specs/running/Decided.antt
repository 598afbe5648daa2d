-- What an object's machine decides, by the journal: each top once, whose commit was called.
use Rattle.std.specs.Prelude.{⊤, ◌≡◌, ◌++◌, ◌+◌, ◌<◌, ℕ, true, false, List, [], ◌∷◌}
use Rattle.arj_base.specs.Rows.{is_on}
use Rattle.arj_protocol.specs.Words.{Line, Uid}
use Rattle.arj_start.specs.Start.{Start}
use Rattle.arj_protocol.specs.Order.{uid_number}
use Rattle.arj_law_disk.specs.machine.Effects.{World}
use Rattle.arj_law_disk.specs.machine.Names.{Office}
use Rattle.arj_law_disk.specs.machine.State.{Done, Packed, decided, decided_in}
use Rattle.arj_law_disk.specs.machine.Words.{In}
use Rattle.arj_promise.specs.Runs.{Seen}
use Rattle.arj_promise.specs.Starts.{IsPast}
use Rattle.arj_law_runs.specs.journal.Book.{book}
use Rattle.arj_law_disk_view.specs.view.Sees.{Kinds}
use Rattle.arj_start.specs.Limits.{most_labels}

-- the commit of each was called
abbrev pub AreCalled : List Line → List Done → Type 0
AreCalled lines ds = (d : Done) → In d ds → (u : Uid) → uid_number u ≡ d.top → is_on (let B = book lines in B.called) u ≡ true

-- no top is decided twice
abbrev pub AreOnce : List Done → Type 0
AreOnce [] = ⊤
AreOnce (d ∷ ds) = (decided_in ds d.top ≡ false) × AreOnce ds

-- What a step of the machine decided: tops that weren't, each once, and whose commits had been called by these lines.
pub record NewTops (W V : World) (lines : List Line) : Type 0 where
  pub new : List Done
  pub are : (let S = V.disk in S.tops) ≡ new ++ (let S = W.disk in S.tops)
  pub undone : (d : Done) → In d new → decided W.disk d.top ≡ false
  pub once : AreOnce (let S = W.disk in S.tops) → AreOnce (let S = V.disk in S.tops)
  pub called : AreCalled lines new

-- versions have 64 bits
abbrev pub most_version : ℕ
most_version = 18446744073709551615

-- the number is that of a Uid by which no action of the run begins
abbrev pub IsPastNumber : Start → ℕ → Type 0
IsPastNumber st n = (u : Uid) × (n ≡ uid_number u) × IsPast st u

-- Beside the machine's state: the object's mark names who wrote its first state; from its version on there is room for those of a run; who
-- wrote it, or an older one, had ended before the run; and each top that is decided is so once, and had its commit called.
pub record SeesDecided (x : ℕ) (tops : Kinds) (A : Office) (M : Seen) : Type 0 where
  pub writer : A.world.disk.first.writer ≡ uid_number (let m = M.start.marks.states x in m.writer)
  pub short : A.world.disk.first.version + most_labels < most_version
  pub past : (g : Packed) → In g (A.world.disk.first ∷ A.world.disk.past) → IsPastNumber M.start g.writer
  pub once : AreOnce (let S = A.world.disk in S.tops)
  pub called : AreCalled M.lines (let S = A.world.disk in S.tops)
