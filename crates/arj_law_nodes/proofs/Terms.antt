-- What the proofs of this crate name of its own definitions and of the crates below, passed on from one place.
-- Declares nothing.
pub use Rattle.arj_disk.specs.FileMap.{FileMap}
pub use Rattle.arj_journal.specs.ScriptForm.{EventInForm, HeaderInForm}
pub use Rattle.arj_law_nodes.specs.delivery.Deliveries.{AreForNodes, Delivers, IsTaken}
pub use Rattle.arj_law_nodes.specs.nodes.Cores.{SaysReadings}
pub use Rattle.arj_law_nodes.specs.nodes.Last.{EndsBehind, IsLast, ends_run}
pub use Rattle.arj_law_nodes.specs.nodes.Promised.{EndsIdle, ShowsThePromise}
pub use Rattle.arj_law_nodes.specs.nodes.Readings.{Reads, readings_of}
pub use Rattle.arj_law_parts.specs.steps.Writes.{IsWhole}
pub use Rattle.arj_law_serial.specs.joint.Booked.{KeepsTheBook}
pub use Rattle.arj_model.specs.Clean.{Clean, CleanFrom}
pub use Rattle.arj_model.specs.Disks.{Disks}
pub use Rattle.arj_model.specs.Last.{first_values}
pub use Rattle.arj_nodes.specs.AllNodes.{Task, task}
pub use Rattle.arj_script.specs.Grammar.{Place, Start}
pub use Rattle.arj_script.specs.Input.{events_of}
pub use Rattle.arj_world.specs.Stands.{hand}
pub use Rattle.arj_world.specs.Turns.{Turn, all_turned, turned}
pub use Rattle.std.proofs.Math.Logic.{⊎_elim}
pub use Rattle.arj_core.specs.declared.node.Core as core
pub use Rattle.arj_disk.specs.declared.disk.Disk as disk
pub use Rattle.arj_protocol.specs.Words.which
