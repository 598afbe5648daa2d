-- What the contract of commands names of the crates below, passed on to who gives cores and disks.
pub use Rattle.arj_auditing.specs.Audits.{Audits}
pub use Rattle.arj_law_nodes.specs.nodes.Readings.{reading_of}
