-- A disk's fault as a store's.
use Rattle.arj_disk.specs.declared.disk.DiskFault.{DiskFault}
use Rattle.arj_disk.specs.declared.disk.DiskFault.TheVariants as disk
use Rattle.arj_store.specs.declared.answer.StoreFault.{StoreFault}
use Rattle.arj_store.specs.declared.answer.StoreFault.TheVariants.{Stopped, Memory}

-- the fault of the store that comes of one of the disk: it was stopped, or memory ran out
abbrev pub fault_of : DiskFault → StoreFault
fault_of disk.Stopped = Stopped
fault_of disk.Memory = Memory
