-- Runs of 150 events.
mod Calls
mod Crash
mod Full
mod Hostile
mod Local
mod LocalMore
