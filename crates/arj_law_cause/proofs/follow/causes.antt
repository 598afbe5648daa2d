-- The causes that go by the tree of actions, against the journal.
--
-- A coordinator's actions are those of the journal that stand in its incarnation, one by one, and of each root as many. So what a
-- node finds of an action's kind, depth, children and root, the journal has too.
pub mod Above
pub mod Standing
pub mod Turning
pub mod Counting
pub mod Roots
pub mod Trees
pub mod Reasons
pub mod Refusing
