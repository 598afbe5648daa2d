-- Causes of refusals, in the journal's own words.
pub mod Refusals
