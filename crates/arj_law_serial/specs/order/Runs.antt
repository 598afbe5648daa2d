-- What has to be seen of a run for its journal to be serial, and for its disks to be clean.
use Rattle.std.specs.Prelude.{ℕ}
use Rattle.arj_journal.specs.declared.header.Header.{Header}
use Rattle.arj_law_disk.specs.machine.Effects.{World}
use Rattle.arj_law_disk_view.specs.view.Sees.{Kinds, SeesDisks}
use Rattle.arj_promise.specs.Runs.{Seen}
use Rattle.arj_law_serial.specs.order.Decided.{AreDecided}
use Rattle.arj_law_serial.specs.order.Cleaned.{BeginsSo, HaveForm}

-- For an object: the disk machine is seen, and its decided tops are those of the journal.
pub record IsSeenDecided (header : Header) (x : ℕ) (M : Seen) : Type 0 where
  pub kinds : Kinds
  pub world : World
  pub sees : SeesDisks x kinds world M
  pub decided : AreDecided header M.lines x (let w = world in let d = w.disk in d.tops)
  pub begins : BeginsSo header M.start.marks x (let w = world in w.disk)
  pub form : HaveForm header x M
