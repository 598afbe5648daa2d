pub mod Words
pub mod Worked
pub mod Rare
pub mod Rarer
mod Answers
mod Doomed
mod Followed
mod Forgotten
mod Formats
mod Halts
mod Longer
mod OtherEvents
mod Told
mod Whole
mod WrongAnswers
mod WrongDetails
mod WrongEnds
pub mod WrongEvents
mod WrongNodes
mod WrongRuns
pub mod WrongQuiesces
mod WrongSettles
mod WrongShows
mod runs
