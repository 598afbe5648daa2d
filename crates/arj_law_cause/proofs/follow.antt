-- What each event writes, in the journal's own words: the causes of refusals that go by the tree of actions (`causes`), and the lines of
-- accepted events, own lines and which stand between them (`lines`).
pub mod causes
pub mod lines
