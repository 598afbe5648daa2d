-- The lines of an accepted event, in the journal's own words.
pub mod Lines
