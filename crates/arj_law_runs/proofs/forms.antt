-- Lines in form, field by field.
pub mod Labels
pub mod Numbers
pub mod World
