-- Why a top commits: each store that is listed behind it, of what it wrote, has prepared it since its commit was called, or stopped at it.
--
-- An action is said to commit once among what its coordinator does, and then that only sends (`Shapes`); so of each such line there is
-- what is seen before and once it was said, no store has done anything between, and what stores have prepared is pending by the journal
-- (`Moments`, in each step as in `rows/Stepped`). By the journal it is a committed top then, and each other one's commit had been called
-- (`Saying`); so by the object's disk machine it is the latest (`Newest`), and each listed store has prepared for it, since none holds so
-- late a version yet (`Holding`), as it is one writer more (`Counting`); what is pending was prepared, or the store stopped at it (`Row`).
pub mod Shapes
pub mod Moments
pub mod Saying
pub mod Newest
pub mod Counting
pub mod Holding
pub mod Row
