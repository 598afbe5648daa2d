-- The lock tables that a journal shows, object by object.
--
-- `arj_model` folds the table of a node over the lines of a journal; the laws of `arj_protocol` say what a line does to the locks on
-- one object. Here both are shown to be the same (`tables_go_by_objects`), so that what those laws say of a node's locks is said of the
-- journal's table: one that has a node's locks has them after the node's next step (`tables_go_on_with_locks`), by paths that are those
-- of holders in it (`holders_have_their_paths`).
pub mod Rows
pub mod Effects
pub mod Holders
