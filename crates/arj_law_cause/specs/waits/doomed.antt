pub mod Dooms
