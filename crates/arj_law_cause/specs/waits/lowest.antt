-- Every refusal by its lowest cause, but that of a doomed action.
pub mod Refusals
