-- Why actions are given up.
--
-- Lines of a giveup have their causes where by the journal before them the action may wait for each node that is named (`Lines`). What it
-- waits for of another node it has asked by a frame (`Wanting` of `doomed`), whose line stands in the span of its call or include (`Spans`
-- there) or of its commit (`Behind` there), so it may (`Asked`). A giveup names the nodes for which its action waits, first of all, and no
-- other event names any (`Others`). Where it gives up a commit, each is a store that was sent a Prepare, or the commit is ended next
-- (`Stores`). So it is event by event in whole runs (`Running`).
pub mod Lines
pub mod Asked
pub mod Others
pub mod Stores
pub mod Running
