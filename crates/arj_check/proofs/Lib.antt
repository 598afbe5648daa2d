mod Begun
mod Calls
mod Loops
mod Marks
mod Own
mod Paths
mod Roots
mod Survive
