-- What an event of a script leaves and writes, by the protocol alone.
--
-- It stands on the definitions of `arj_protocol`.
pub mod Frames
pub mod Settled
pub mod Still
pub mod Shapes
pub mod StepLines
pub mod NoHalts
pub mod Written
pub mod Spoken
pub mod Whole
pub mod CoordNames
pub mod EndLines
