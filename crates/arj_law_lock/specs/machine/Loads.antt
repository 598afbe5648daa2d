-- What stores give in every run of the lock machine.
use Rattle.std.proofs.Common.{ℕ}
use Rattle.arj_law_lock.specs.machine.Machine.{Guard, Run}
use Rattle.arj_law_lock.specs.machine.State.{State}
use Rattle.arj_law_lock.specs.machine.Steps.{Load}

-- What a store may give for a binding it may give for ever: it stays the value of the last committed write, with nothing in doubt, as long
-- as the binding is current.
abbrev pub LoadsStand : State → Type 0
LoadsStand s = (b v : ℕ) (t : State) → Guard (Load b v) s → Run s t → Guard (Load b v) t
