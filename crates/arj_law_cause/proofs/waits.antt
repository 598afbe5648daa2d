-- What each event writes of calls and includes: what actions wait for, by the journal and at their nodes, and which events that refuses
-- (`waiting`), that answers end what waits (`replies`) and ends of commits do (`commits`), that only giveups lose something (`lost`), how many
-- objects roots use (`objects`), that each refusal is for the lowest cause (`lowest`), and why actions are doomed (`doomed`) and given up
-- (`given`).
pub mod waiting
pub mod replies
pub mod commits
pub mod lost
pub mod objects
pub mod lowest
pub mod doomed
pub mod given
