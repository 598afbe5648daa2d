-- What runs of the generated bank show of the promise.
use Rattle.std.specs.Prelude.{ℕ, false, List}
use Rattle.arj_bank.specs.Bank.{AreOfBank, EndsAtLimit, Left, RanBank, RanFront}
use Rattle.arj_core.specs.declared.node.Core as core
use Rattle.arj_disk.specs.declared.disk.Disk as disk
use Rattle.arj_gen.specs.Bank.{bank_header}
use Rattle.arj_journal.specs.declared.event.Event.{Event}
use Rattle.arj_nodes.specs.AllNodes.{task}
use Rattle.arj_nodes.specs.AsMachine.{all_nodes}
use Rattle.arj_nodes.specs.declared.all_nodes.AllNodes.{AllNodes}
use Rattle.arj_law_nodes.specs.nodes.Promised.{ShowsThePromise}
use Rattle.arj_law_nodes.specs.nodes.Readings.{Reads}

-- the journal of the whole bank, and the disks behind its events
abbrev pub BankShows : {C D : Type 0} (c : core.Ghosts C) (d : disk.Ghosts D) → Reads →
    (n : ℕ) (first : List D) (now : Left D (AllNodes C)) → RanBank (all_nodes c d) n first now → Type 0
BankShows c d read n first now ran =
    ShowsThePromise d read (task first bank_header (let r = ran in r.events)) false (let l = now in l.journal) (let l = now in l.rack)

-- those of a bank that came to a limit
abbrev pub BankLimitShows : {C D : Type 0} (c : core.Ghosts C) (d : disk.Ghosts D) → Reads →
    (n : ℕ) (first : List D) (now : Left D (AllNodes C)) → EndsAtLimit (all_nodes c d) n first now → Type 0
BankLimitShows c d read n first now ends =
    (let e = ends in let a = e.ended in let m = a.machine in
    ShowsThePromise d read (task first bank_header a.done) m.over (let l = now in l.journal) (let l = now in l.rack))

-- and those of a front of its events, with the disks as they were behind them
abbrev pub BankFrontShows : {C D : Type 0} (c : core.Ghosts C) (d : disk.Ghosts D) → Reads →
    (first : List D) (events : List Event) (rack : List D) → RanFront (all_nodes c d) (task first bank_header events) rack → Type 0
BankFrontShows c d read first events rack ran =
    (let f = ran in let m = f.machine in ShowsThePromise d read (task first bank_header f.done) m.over f.journal f.mid)

-- so it is of every run of the whole bank,
abbrev pub BanksShow : {C D : Type 0} → core.Ghosts C → disk.Ghosts D → Reads → Type 0
BanksShow {C} {D} c d read = (n : ℕ) (first : List D) (now : Left D (AllNodes C)) (ran : RanBank (all_nodes c d) n first now) →
    BankShows c d read n first now ran

-- of every one that came to a limit,
abbrev pub BankLimitsShow : {C D : Type 0} → core.Ghosts C → disk.Ghosts D → Reads → Type 0
BankLimitsShow {C} {D} c d read = (n : ℕ) (first : List D) (now : Left D (AllNodes C)) (ends : EndsAtLimit (all_nodes c d) n first now) →
    BankLimitShows c d read n first now ends

-- and of every front
abbrev pub BankFrontsShow : {C D : Type 0} → core.Ghosts C → disk.Ghosts D → Reads → Type 0
BankFrontsShow {C} {D} c d read = (n : ℕ) (first : List D) (events : List Event) (rack : List D) → AreOfBank n events →
    (ran : RanFront (all_nodes c d) (task first bank_header events) rack) → BankFrontShows c d read first events rack ran
