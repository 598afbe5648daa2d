-- What a top has written, by the journal, where its commit has a changed state of an object.
--
-- In the lock machine each write in a copy's log was called, or waits (`Applied`), and what was called and is committed up to its top is a
-- surviving write by the journal (`Surviving`). So it is of what a server voted, whatever naming has forgotten since (`Voted`), and at each
-- moment of a run (`Written`). Whoever is asked to prepare something gets a state (`Filled`), of an object that its top has changed, and
-- may be a store of it (`Asks`), by these lines and by more (`Growing`). So each line that says that something is prepared has its cause
-- (`Lines`, `Prepared`). What a commit marks for exclusion it would have sent the store (`Marks`), so the top has changed it for this store
-- (`Excluded`). The store was sent a Prepare and given up, or answered it by a doubt, which the commit keeps (`Doubts`), made behind its
-- call (`Doubted`), where no more stops count as crashes than do (`Crashes`): so each line that excludes has its cause (`Reasons`,
-- `Exclusions`). A changed state is of a version above zero (`Above`).
pub mod Above
pub mod Applied
pub mod Asks
pub mod Crashes
pub mod Doubted
pub mod Doubts
pub mod Excluded
pub mod Exclusions
pub mod Filled
pub mod Growing
pub mod Lines
pub mod Marks
pub mod Prepared
pub mod Reasons
pub mod Surviving
pub mod Voted
pub mod Written
