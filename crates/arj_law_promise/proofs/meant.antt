-- Nothing that is sent fails to be meant, and what is void is so by the table of causes.
--
-- `Void` goes through the handlers, whatever comes. `Posts` shows of each request that was sent what its coordinator knows as it sends it,
-- `Requests` what that is, and `Meant` what follows of messages that come, in every run.
pub mod Void
pub mod Posts
pub mod Requests
pub mod Meant
